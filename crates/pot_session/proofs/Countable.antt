-- Images that may be written.
use Rattle.std.proofs.Common.{◌≡◌, ◌<◌, ◌^◌, List, length, get_or, map, sym, ap, subst, ◌∙◌, arith}
use Rattle.std.specs.Prelude.{All}
use Rattle.std.proofs.lemmas.List.{get_or-map, length-map}
use Rattle.pot_machine.specs.declared.entry.Entry.{Entry}
use Rattle.pot_image.specs.declared.image.Image.{Image}
use Rattle.pot_image.specs.Images.{Contents, contents}
use Rattle.pot_image.specs.Spelling.{IsCountable}

pub countable : (i : Image) (v : Contents) → contents i ≡ v → length v.records < 2 ^ 32 → All (λ (l : List Entry). length l < 2 ^ 32) v.group_logs → length v.index_log < 2 ^ 32 → IsCountable i
countable i v e records logs index = record {
  records = (let n = ap (λ (x : Contents). length x.records) e in omega (arith, n, records));
  logs = λ k d l.
      (let s : map (λ (x : _). x.items) i.group_logs.items ≡ v.group_logs = ap (λ (x : Contents). x.group_logs) e in
      let m = ap length s in let n = length-map i.group_logs.items (λ (x : _). x.items) in
      let a = logs k d.items (omega (arith, l, m, n)) in
      let at : get_or v.group_logs k d.items ≡ (get_or i.group_logs.items k d).items = ap (λ x. get_or x k d.items) (sym s) ∙ get_or-map (λ (x : _). x.items) i.group_logs.items k d d.items l in
      subst (λ (x : List Entry). length x < 2 ^ 32) at a);
  index_log = (let n = ap (λ (x : Contents). length x.index_log) e in omega (arith, n, index));
}
