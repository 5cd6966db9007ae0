use Rattle.std.proofs.Common.{◌↔◌, ◌⊎◌, inl, inr, ◌-◌, ◌∙◌, ℕ, List, map, arith, ap, subst, sym, eq-eqb, get_or}
use Rattle.std.proofs.lemmas.Result.{on_ok_weaker}
use Rattle.pot_chains.specs.Listed.{IsIn}
use Rattle.pot_chains.specs.Picks.{how_many}
use Rattle.pot_recover.specs.Choices.{items_of, AreAllWhole, IsPicked}
use Rattle.pot_recover.proofs.ChoiceLemmas.{lists_once}
use Rattle.pot_recover.proofs.ObjectLemmas.{picks_few, lists_whole, picks_given}
use Rattle.pot_recover.proofs.choices.add_objects.Goals as goal

pub add_picks-requires-clause-few : goal.add_picks-requires-clause-few
add_picks-requires-clause-few c =
    let same = ap (map items_of) c.deref.ensures.value ∙ c.in_ok-parts.ensures in
    let one = eq-eqb (get_or c.args.first.now 16 0) 1 c.if-first-eq1.true in
    omega (arith, ap (λ (l : List (List (List ℕ))). how_many l) same, picks_few c.args.contents.now c.args.first.now one, c.requires.few)

pub add_picks-requires-clause-whole : goal.add_picks-requires-clause-whole
add_picks-requires-clause-whole c =
    subst AreAllWhole (sym (ap (map items_of) c.deref.ensures.value ∙ c.in_ok-parts.ensures)) (lists_whole c.args.contents.now c.args.first.now c.requires.contents)

pub returns-in_ok-parts : goal.returns-in_ok-parts
returns-in_ok-parts c =
    let same = ap (map items_of) c.deref.ensures.value ∙ c.in_ok-parts.ensures in
    let contents = c.args.contents.now in
    let first = c.args.first.now in
    let one = eq-eqb (get_or c.args.first.now 16 0) 1 c.if-first-eq1.true in
    on_ok_weaker c.add_picks.result
    (λ step o.
    let given = picks_given contents first o (lists_once contents c.requires.contents c.requires.once first 2 (get_or first 17 0 - 1)) one in
    let is = subst (λ (l : List (List (List ℕ))). IsIn c.add_picks.new.objects.items o ↔ (IsIn c.args.objects.now.items o ⊎ IsPicked first l (how_many l) o)) same (step o) in (
      λ h. elim (is.0 h) [ inl old ↦ inl old | inr new ↦ inr (given.0 new) ],
      λ w. elim w [ inl old ↦ is.1 (inl old) | inr new ↦ is.1 (inr (given.1 new)) ],
    ))
    c.add_picks.ensures
