use Rattle.std.proofs.Common.{◌↔◌, [], ℕ, List, arith, subst}
use Rattle.std.proofs.lemmas.List.{take_all}
use Rattle.pot_chains.specs.Listed.{IsIn}
use Rattle.pot_chains.proofs.ListedLemmas.{in_get_or}
use Rattle.pot_recover.specs.Choices.{IsGiven}
use Rattle.pot_recover.proofs.ObjectLemmas.{choices_few, given_more}
use Rattle.pot_recover.proofs.choices.objects_of.Goals as goal

pub add_objects-requires-clause-content : goal.add_objects-requires-clause-content
add_objects-requires-clause-content c = c.requires.contents _ (in_get_or c.loop-first.first-index c.args.contents.now _ c.loop-first-test.true)

pub add_objects-requires-clause-few : goal.add_objects-requires-clause-few
add_objects-requires-clause-few c =
    let h = choices_few c.args.contents.now c.args.contents.now c.loop-first.first-index [] c.loop-first-test.true in omega (arith, h, c.requires.few)

pub loop-first-preserved : goal.loop-first-preserved
loop-first-preserved c =
    given_more c.args.contents.now c.args.contents.now c.loop-first.first-index [] c.loop-first.objects.items c.add_objects.new.objects.items c.loop-first-test.true
    c.loop-first.invariant c.in_ok-add_objects.ensures

pub returns : goal.returns
returns c = λ o.
    let contents = c.args.contents.now in
    let all = take_all c.loop-first.first-index contents (omega (arith, c.loop-first-test.false)) in
    subst (λ (l : List (List ℕ)). IsIn c.loop-first.objects.items o ↔ IsGiven contents l o) all (c.loop-first.invariant o)
