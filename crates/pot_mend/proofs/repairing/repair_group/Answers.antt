use Rattle.std.proofs.Common.{arith, refl, ◌∙◌}
use Rattle.std.proofs.lemmas.Result.{err_from_is_err_and}
use Rattle.pot_group.specs.declared.finding.Kind.TheVariants as kind
use Rattle.pot_shared.proofs.AddLemmas.{next_slot}
use Rattle.pot_mend.proofs.SectionLemmas.{call_in}
use Rattle.pot_mend.proofs.RowLemmas.{drawing_begin, found_drawing, found_fits, found_step, group_blinds, group_draws, group_row, group_work, repairing_begin, stop_blinds, stop_draws, stop_row, stop_work}
use Rattle.pot_mend.proofs.repairing.repair_group.Goals as goal

pub places-init : goal.places-init
places-init g c = (
  c.requires.ready,
  refl,
  repairing_begin c.args.job c.args.group c.args.pads.now c.args.passes.now.groups c.requires.ready.idle,
  drawing_begin c.requires.ready.idle,
  refl,
)

pub repair_place-requires-clause-place : goal.repair_place-requires-clause-place
repair_place-requires-clause-place g c = next_slot _ c.args.job _ _ _ _ _ kind.Unsound _ _ _ c.requires.group c.places.invariant.0 (call_in c.places.invariant.4 c.in-Some.ensures.call) c.in-Some.place refl

pub returns-in_err-more-clause-worked : goal.returns-in_err-more-clause-worked
returns-in_err-more-clause-worked g c =
    stop_work _ _ _ _ _ _ _ _ _ _ _ _ _ c.requires.group c.places.invariant.0 c.places.invariant.2 _ (call_in c.places.invariant.4 c.in-Some.ensures.call) _ _ _ c.in_err-more.ensures.repairs

pub returns-in_err-more-clause-says : goal.returns-in_err-more-clause-says
returns-in_err-more-clause-says g c =
    rw ((err_from_is_err_and c.from_residual.result c.from_residual.ensures.1).1, (err_from_is_err_and c.from_residual.result c.from_residual.ensures.1).2)
    (λ alone s set. stop_row _ _ _ _ _ _ _ _ _ _ _ _ _ c.requires.group c.places.invariant.0 c.places.invariant.2 _ (call_in c.places.invariant.4 c.in-Some.ensures.call) _ _
    s c.args.passes.now.index c.repair_place.new.passes.index ((c.repair_place.ensures.index ∙ c.next.ensures.index) ∙ c.places.invariant.1) (let a = c.requires.group in let b = c.requires.ready.of.0 in rw b a) alone set _ c.in_err-more.ensures.repairs)

pub returns-in_err-more-clause-stream : goal.returns-in_err-more-clause-stream
returns-in_err-more-clause-stream g c =
    stop_draws _ _ _ _ _ _ _ _ _ _ _ _ _ c.requires.group c.places.invariant.0 c.places.invariant.2 _ (call_in c.places.invariant.4 c.in-Some.ensures.call) _ _ _ c.in_err-more.ensures.repairs

pub returns-in_err-more-clause-blinds : goal.returns-in_err-more-clause-blinds
returns-in_err-more-clause-blinds g c =
    stop_blinds _ _ _ _ _ _ _ _ _ _ _ _ _ c.requires.group c.places.invariant.0 c.places.invariant.2 _ (call_in c.places.invariant.4 c.in-Some.ensures.call) _ _ c.places.invariant.3 c.in_err-more.ensures.blinds

pub overflow_add-repaired : goal.overflow_add-repaired
overflow_add-repaired g c =
    let fits = found_fits _ _ _ _ _ _ _ _ _ _ _ _ _ c.requires.group c.places.invariant.0 c.places.invariant.2 _ (call_in c.places.invariant.4 c.in-Some.ensures.call) _ _ _ c.in_ok-more.ensures.repairs in
    omega (arith, fits)

pub overflow_add-repaired-in-Some : goal.overflow_add-repaired-in-Some
overflow_add-repaired-in-Some g c =
    let fits = found_fits _ _ _ _ _ _ _ _ _ _ _ _ _ c.requires.group c.places.invariant.0 c.places.invariant.2 _ (call_in c.places.invariant.4 c.in-Some.ensures.call) _ _ _ c.in_ok-more.ensures.repairs in
    omega (arith, fits)

pub places-preserved : goal.places-preserved
places-preserved g c = (
  c.repair_place.ensures.ready,
  (c.repair_place.ensures.index ∙ c.next.ensures.index) ∙ c.places.invariant.1,
  found_step _ _ _ _ _ _ _ _ _ _ _ _ _ c.requires.group c.places.invariant.0 c.places.invariant.2 _ (call_in c.places.invariant.4 c.in-Some.ensures.call) _ _ _ c.in_ok-more.ensures.repairs,
  found_drawing _ _ _ _ _ _ _ _ _ _ _ _ _ c.requires.group c.places.invariant.0 c.places.invariant.2 _ (call_in c.places.invariant.4 c.in-Some.ensures.call) _ _ c.places.invariant.3 c.in_ok-more.ensures.blinds,
  c.places.invariant.4,
)

pub returns-clause-worked : goal.returns-clause-worked
returns-clause-worked g c = group_work _ _ _ _ _ _ _ _ _ _ _ _ _ c.requires.group c.places.invariant.0 c.places.invariant.2 (call_in c.places.invariant.4 c.in_default.ensures.call)

pub returns-clause-says : goal.returns-clause-says
returns-clause-says g c =
    λ alone s set. group_row _ _ _ _ _ _ _ _ _ _ _ _ _ c.requires.group c.places.invariant.0 c.places.invariant.2 (call_in c.places.invariant.4 c.in_default.ensures.call)
    s c.args.passes.now.index c.next.new.passes.index (c.next.ensures.index ∙ c.places.invariant.1) (let a = c.requires.group in let b = c.requires.ready.of.0 in rw b a) alone set

pub returns-clause-stream : goal.returns-clause-stream
returns-clause-stream g c = group_draws _ _ _ _ _ _ _ _ _ _ _ _ _ c.requires.group c.places.invariant.0 c.places.invariant.2 (call_in c.places.invariant.4 c.in_default.ensures.call)

pub returns-clause-blinds : goal.returns-clause-blinds
returns-clause-blinds g c = group_blinds _ _ _ _ _ _ _ _ _ _ _ _ _ c.requires.group c.places.invariant.0 c.places.invariant.2 (call_in c.places.invariant.4 c.in_default.ensures.call) c.places.invariant.3
