use Rattle.std.proofs.Common.{rules, ◌≡◌, option_map}
use Rattle.pot_words.specs.Tasks.{SpellAudit, SpellDrill, SpellInit, SpellRecover, SpellRun}
use Rattle.pot_words.specs.declared.task.Task.TheVariants as task
use Rattle.pot_words.proofs.CommandLemmas.{wrapped}
use Rattle.pot_words.proofs.reading.read_rest.Goals as goal

pub returns-in_ok-read_init-in-Init : goal.returns-in_ok-read_init-in-Init
returns-in_ok-read_init-in-Init c =
    let is : c.map.result ≡ option_map task.Init c.in_ok-read_init-in-Init.field-0 = search rules in
    rw (c.in-Init.is, is) (wrapped (SpellInit _) task.Init c.in_ok-read_init-in-Init.field-0 c.in_ok-read_init-in-Init.ensures)

pub returns-in_ok-read_run-in-Run : goal.returns-in_ok-read_run-in-Run
returns-in_ok-read_run-in-Run c =
    let is : c.map-in-Run.result ≡ option_map task.Run c.in_ok-read_run-in-Run.field-0 = search rules in
    rw (c.in-Run.is, is) (wrapped (SpellRun _) task.Run c.in_ok-read_run-in-Run.field-0 c.in_ok-read_run-in-Run.ensures)

pub returns-in_ok-read_recover-in-Recover : goal.returns-in_ok-read_recover-in-Recover
returns-in_ok-read_recover-in-Recover c =
    let is : c.map-in-Recover.result ≡ option_map task.Recover c.in_ok-read_recover-in-Recover.field-0 = search rules in
    rw (c.in-Recover.is, is) (wrapped (SpellRecover _) task.Recover c.in_ok-read_recover-in-Recover.field-0 c.in_ok-read_recover-in-Recover.ensures)

pub returns-in_ok-read_drill-in-Drill : goal.returns-in_ok-read_drill-in-Drill
returns-in_ok-read_drill-in-Drill c =
    let is : c.map-in-Drill.result ≡ option_map task.Drill c.in_ok-read_drill-in-Drill.field-0 = search rules in
    rw (c.in-Drill.is, is) (wrapped (SpellDrill _) task.Drill c.in_ok-read_drill-in-Drill.field-0 c.in_ok-read_drill-in-Drill.ensures)

pub returns-in_ok-read_audit-in-Audit : goal.returns-in_ok-read_audit-in-Audit
returns-in_ok-read_audit-in-Audit c =
    let is : c.map-in-Audit.result ≡ option_map task.Audit c.in_ok-read_audit-in-Audit.field-0 = search rules in
    rw (c.in-Audit.is, is) (wrapped (SpellAudit _) task.Audit c.in_ok-read_audit-in-Audit.field-0 c.in_ok-read_audit-in-Audit.ensures)
