use Rattle.std.proofs.Common.{Some, map, ap, subst, ◌∙◌}
use Rattle.std.specs.Prelude.{IfSome}
use Rattle.std.specs.String.{string_bytes}
use Rattle.pot_words.specs.Answers.{IsOnly}
use Rattle.pot_words.specs.Limits.{IsWithinLimits}
use Rattle.pot_words.specs.Tasks.{SpellTask}
use Rattle.pot_session.proofs.AuditLemmas.{is_audit}
use Rattle.pot_session.proofs.DrillLemmas.{is_drill}
use Rattle.pot_session.proofs.RecoveringLemmas.{is_recovery}
use Rattle.pot_session.proofs.asking.read_task.Goals as goal

pub returns-in-Some-Drill : goal.returns-in-Some-Drill
returns-in-Some-Drill c =
    let e = c.in-Some-Drill.is ∙ ap Some c.in-Some-Drill.field-0-is in (
      (subst (IsOnly (SpellTask (map string_bytes c.args.words.now))) e c.in_ok-rack.ensures.only).0,
      is_drill c.in-Some-Drill.drill (subst (λ o. IfSome o IsWithinLimits) e c.in_ok-rack.ensures.limits),
    )

pub returns-in-Some-Run : goal.returns-in-Some-Run
returns-in-Some-Run c =
    let e = c.in-Some-Run.is ∙ ap Some c.in-Some-Run.field-0-is in (
      (subst (IsOnly (SpellTask (map string_bytes c.args.words.now))) e c.in_ok-rack.ensures.only).0,
      (subst (λ o. IfSome o IsWithinLimits) e c.in_ok-rack.ensures.limits).0,
    )

pub returns-in-Some-Recover : goal.returns-in-Some-Recover
returns-in-Some-Recover c =
    let e = c.in-Some-Recover.is ∙ ap Some c.in-Some-Recover.field-0-is in (
      (subst (IsOnly (SpellTask (map string_bytes c.args.words.now))) e c.in_ok-rack.ensures.only).0,
      is_recovery c.in-Some-Recover.recover (subst (λ o. IfSome o IsWithinLimits) e c.in_ok-rack.ensures.limits),
    )

pub returns-in-Some-Audit : goal.returns-in-Some-Audit
returns-in-Some-Audit c =
    let e = c.in-Some-Audit.is ∙ ap Some c.in-Some-Audit.field-0-is in (
      (subst (IsOnly (SpellTask (map string_bytes c.args.words.now))) e c.in_ok-rack.ensures.only).0,
      is_audit c.in-Some-Audit.audit (subst (λ o. IfSome o IsWithinLimits) e c.in_ok-rack.ensures.limits),
    )

pub returns-in-Some-Generate : goal.returns-in-Some-Generate
returns-in-Some-Generate c =
    let e = c.in-Some-Generate.is ∙ ap Some c.in-Some-Generate.field-0-is in
    let limits = subst (λ o. IfSome o IsWithinLimits) e c.in_ok-rack.ensures.limits in (
      (subst (IsOnly (SpellTask (map string_bytes c.args.words.now))) e c.in_ok-rack.ensures.only).0,
      limits.0,
      limits.1,
    )

pub returns-in-None : goal.returns-in-None
returns-in-None c = λ t spells. subst (λ o. IsOnly (SpellTask (map string_bytes c.args.words.now)) o) c.in-None.is c.in_ok-rack.ensures.only t spells
