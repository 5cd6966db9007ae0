use Rattle.std.proofs.Common.{◌≡◌, ◌≤◌, ◌↔◌, ℕ, List, min, length, refl, sym, subst, arith}
use Rattle.std.specs.List.{flat_map}
use Rattle.pot_chains.specs.Listed.{IsIn, IsOnce}
use Rattle.pot_recover.specs.Choices.{AreContents, IsGiven, choices_of}
use Rattle.pot_recover.specs.Contents.{HeadsRise}
use Rattle.pot_recover.proofs.DistinctLemmas.{heads_rise, in_byte_order, once_in_order}
use Rattle.pot_recover.proofs.ObjectLemmas.{given_recovered}
use Rattle.pot_recover.proofs.TopLemmas.{choices_of_sorted, choices_within, recovered_same, sorted_contents}
use Rattle.pot_recover.proofs.top.from_contents.Goals as goal

pub count_choices-requires-clause-order : goal.count_choices-requires-clause-order
count_choices-requires-clause-order c = subst HeadsRise (sym c.deref.ensures.value) (heads_rise c.sort_distinct.new.lists.items c.sort_distinct.ensures.order)

pub count_choices-requires-clause-contents : goal.count_choices-requires-clause-contents
count_choices-requires-clause-contents c =
    subst AreContents (sym c.deref.ensures.value) (sorted_contents c.args.contents.items c.sort_distinct.new.lists.items c.sort_distinct.ensures.same c.requires.contents)

-- how many choices the sorted contents have
counted : (now items : List (List ℕ)) (count : ℕ) → now ≡ items → count ≡ min (length (flat_map (choices_of now) now)) 4000001
    → count ≡ min (length (flat_map (choices_of items) items)) 4000001
counted now items count e is = subst (λ (l : List (List ℕ)). count ≡ min (length (flat_map (choices_of l) l)) 4000001) e is

pub returns-then-choices-gt-WIDEST-clause-wide : goal.returns-then-choices-gt-WIDEST-clause-wide
returns-then-choices-gt-WIDEST-clause-wide c =
    let sorted = c.sort_distinct.new.lists.items in (
      refl,
      choices_of_sorted c.args.contents.items sorted c.in-Ok.choices (sorted_contents c.args.contents.items sorted c.sort_distinct.ensures.same c.requires.contents)
          (once_in_order sorted c.sort_distinct.ensures.order) c.sort_distinct.ensures.same (counted c.deref.result.now sorted c.in-Ok.choices c.deref.ensures.value c.in-Ok.ensures),
      c.if-choices-gt-WIDEST.true,
    )

pub objects_of-requires-clause-order : goal.objects_of-requires-clause-order
objects_of-requires-clause-order c = subst HeadsRise (sym c.deref-2.ensures.value) (heads_rise c.sort_distinct.new.lists.items c.sort_distinct.ensures.order)

pub objects_of-requires-clause-once : goal.objects_of-requires-clause-once
objects_of-requires-clause-once c = subst IsOnce (sym c.deref-2.ensures.value) (once_in_order c.sort_distinct.new.lists.items c.sort_distinct.ensures.order)

pub objects_of-requires-clause-contents : goal.objects_of-requires-clause-contents
objects_of-requires-clause-contents c =
    subst AreContents (sym c.deref-2.ensures.value) (sorted_contents c.args.contents.items c.sort_distinct.new.lists.items c.sort_distinct.ensures.same c.requires.contents)

pub objects_of-requires-clause-few : goal.objects_of-requires-clause-few
objects_of-requires-clause-few c =
    subst (λ (l : List (List ℕ)). length (flat_map (choices_of l) l) ≤ 4000000) (sym c.deref-2.ensures.value)
    (choices_within c.sort_distinct.new.lists.items c.in-Ok.choices (omega (arith, c.if-choices-gt-WIDEST.false))
    (counted c.deref.result.now c.sort_distinct.new.lists.items c.in-Ok.choices c.deref.ensures.value c.in-Ok.ensures))

pub returns-clause-objects : goal.returns-clause-objects
returns-clause-objects c = λ o.
    let sorted = c.sort_distinct.new.lists.items in
    let all = sorted_contents c.args.contents.items sorted c.sort_distinct.ensures.same c.requires.contents in
    let found = subst (λ (l : List (List ℕ)). IsIn c.in-Ok-objects_of.objects.items o ↔ IsGiven l l o) c.deref-2.ensures.value (c.in-Ok-objects_of.ensures o) in
    let given = given_recovered sorted o all (once_in_order sorted c.sort_distinct.ensures.order) in
    let same = recovered_same (IsIn sorted) (IsIn c.args.contents.items) c.sort_distinct.ensures.same o in
    let last = c.sort_distinct-2.ensures.same o in (
      λ h. same.0 (given.0 (found.0 (last.0 h))),
      λ w. last.1 (found.1 (given.1 (same.1 w))),
    )

pub returns-clause-order : goal.returns-clause-order
returns-clause-order c = in_byte_order c.sort_distinct-2.new.lists.items c.sort_distinct-2.ensures.order

pub returns-clause-within : goal.returns-clause-within
returns-clause-within c =
    let sorted = c.sort_distinct.new.lists.items in (
      c.in-Ok.choices,
      choices_of_sorted c.args.contents.items sorted c.in-Ok.choices (sorted_contents c.args.contents.items sorted c.sort_distinct.ensures.same c.requires.contents)
          (once_in_order sorted c.sort_distinct.ensures.order) c.sort_distinct.ensures.same (counted c.deref.result.now sorted c.in-Ok.choices c.deref.ensures.value c.in-Ok.ensures),
      omega (arith, c.if-choices-gt-WIDEST.false),
    )
