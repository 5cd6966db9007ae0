use Rattle.std.proofs.Common.{◌≡◌, ◌+◌, ◌++◌, [], ◌∷◌, ◌∙◌, List, map, ap, sym, arith}
use Rattle.std.proofs.lemmas.List.{map-append}
use Rattle.std.proofs.lemmas.List.FromFn.{map-range_with_len_more}
use Rattle.pot_recover.specs.Groups.{part_of, now_of}
use Rattle.pot_recover.specs.declared.held.Held.{Held}
use Rattle.pot_recover.proofs.group.parts_in.Goals as goal

pub loop-x-preserved : goal.loop-x-preserved
loop-x-preserved c =
    let x = c.loop-x.x in
    let f = part_of c.args.need c.args.count c.args.held.now in
    let next : 1 + x ≡ x + 1 = omega arith in
    ap (map now_of) c.in_ok-push_part.ensures
    ∙ (map-append now_of c.loop-x.parts.items (c.part_at.result ∷ [])
    ∙ (ap (λ (p : List Held). map now_of c.loop-x.parts.items ++ p ∷ []) c.part_at.ensures
    ∙ (ap (λ (l : List (List Held)). l ++ f (x + 1) ∷ []) c.loop-x.invariant ∙ sym (map-range_with_len_more f 1 x (x + 1) next))))
