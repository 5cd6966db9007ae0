use Rattle.std.proofs.Common.{◌≡◌, ◌-◌, not, length, take, drop, refl, ap, sym, ◌∙◌, arith}
use Rattle.std.proofs.lemmas.List.{drop_at, take_at}
use Rattle.std.proofs.lemmas.Bool.Decides.{Decides-eqb}
use Rattle.std.proofs.lemmas.Slice.Eq.{slice_eq-Decides}
use Rattle.pot_bytes.specs.Digests.{digest_bytes}
use Rattle.pot_desk_shares.proofs.SetLemmas.{length-with_digest}
use Rattle.pot_desk_shares.proofs.joining.text_in.Goals as goal

pub returns-then-ne : goal.returns-then-ne
returns-then-ne c text is =
    let n = length c.as_slice.result.now - 32 in
    let long : length text ≡ n = omega (arith, ap length c.as_slice.ensures.value, ap length is, length-with_digest text) in
    let whole = c.deref.ensures.value ∙ is in
    let front : c.split_at.result.0.now ≡ text = c.split_at.ensures.front ∙ ap (take n) whole ∙ take_at text (digest_bytes text) n long in
    let back : c.split_at.result.1.now ≡ digest_bytes text = c.split_at.ensures.back ∙ ap (drop n) whole ∙ drop_at text (digest_bytes text) n long in
    let digest : c.as_slice-2.result.now ≡ digest_bytes text = c.as_slice-2.ensures ∙ c.digest_of.ensures ∙ ap digest_bytes front in
    let same = (slice_eq-Decides Decides-eqb c.as_slice-2.result.now c.split_at.result.1.now _ refl).1 (digest ∙ sym back) in
    let no = c.if-ne.ensures ∙ ap not same in
    cc
