use Rattle.std.proofs.Common.{refl, subst, ◌∙◌}
use Rattle.pot_veil.specs.Drills.{IsDrillFault}
use Rattle.pot_session.proofs.DrillLemmas.{explained, exposed}
use Rattle.pot_session.proofs.drill.drilling.drill_pair.Goals as goal

pub returns-in-Ok : goal.returns-in-Ok
returns-in-Ok c =
    explained c.args.task.now c.args.seed.now c.args.file.now c.args.other.now _ c.deref.result.now c.deref_mut.result.now c.drill.new.random c.deref.ensures.0 c.in-Ok.report
    (c.deref_mut.ensures.value ∙ c.in_ok-random.ensures.bytes) c.in-Ok.ensures.report c.in_ok-report_text-in-Ok.ensures refl

pub returns-in-Err-Exposed : goal.returns-in-Err-Exposed
returns-in-Err-Exposed c =
    exposed c.args.task.now c.args.seed.now c.args.file.now c.args.other.now _ c.deref.result.now c.deref_mut.result.now c.drill.new.random c.deref.ensures.0
    c.in-Err-Exposed.fragment c.in-Err-Exposed.have c.in-Err-Exposed.need
    (subst (IsDrillFault c.args.task.now.geometry c.args.task.now.hidden c.deref.result.now c.deref_mut.result.now c.drill.new.random) c.in-Err-Exposed.field-0-is c.in-Err-Exposed.ensures.fault)
    c.in_ok-exposed_text-in-Err-Exposed.ensures refl
