use Rattle.std.proofs.Common.{◌≡◌, ◌+◌, ◌++◌, [], ℕ, Bool, List, sym, subst, ap, ap₂, ◌∙◌, arith}
use Rattle.std.specs.Prelude.{if◌then◌else◌}
use Rattle.std.specs.List.{slice_index_or}
use Rattle.std.proofs.lemmas.List.{append_assoc}
use Rattle.sha2.specs.Hashers.{Holds256}
use Rattle.pot_veil.specs.Drills.{is_seen_at, text_of}
use Rattle.pot_veil.proofs.Comparing.{at_most_one, count_more, other_default, picked, text_more}
use Rattle.pot_veil.proofs.drilling.compare.Goals as goal

pub loop-place-preserved : goal.loop-place-preserved
loop-place-preserved c =
    let test : ℕ → Bool = is_seen_at c.args.geometry.now c.args.number c.args.seen.now in
    let at : ℕ → List ℕ = λ p. slice_index_or c.args.before.now p [] in
    let place = c.loop-place.place in
    let text = text_of (picked test at place) in
    let here = c.is_seen-seen_here.ensures in
    let item : c.index-before-place.result ≡ at place =
    c.index-before-place.is ∙ other_default c.args.before.now place c.index-before-place.result [] c.loop-place-test.true in (
      ap₂ (λ (a b : ℕ). a + b) c.loop-place.invariant.0 (c.take_block-same.ensures.count ∙ ap (λ (b : Bool). if b then 1 else 0) here)
          ∙ sym (count_more test at place),
      omega (arith, c.loop-place.invariant.1, c.take_block-same.ensures.count, at_most_one c.is_seen-seen_here.result),
      λ m h. subst (Holds256 c.take_block-same.new.taken)
          (append_assoc m text (if c.is_seen-seen_here.result then c.index-before-place.result else [])
          ∙ ap (λ (z : List ℕ). m ++ z)
          (ap₂ (λ (b : Bool) (y : List ℕ). text ++ (if b then y else [])) here item ∙ sym (text_more test at place)))
          (c.take_block-same.ensures.text (m ++ text) (c.loop-place.invariant.2 m h)),
    )
