use Rattle.std.proofs.Common.{IsTrue, ◌<◌, refl, ◌∙◌, arith}
use Rattle.std.specs.Prelude.{Ok, Err}
use Rattle.pot_group.specs.declared.copying.MoveStep.TheVariants as moved
use Rattle.pot_group.specs.declared.copying.MoveFault.TheVariants as failed
use Rattle.pot_mend.proofs.MoveLemmas.{copied_fits, falls_copied, falls_passed, moving_copied, moving_none, moving_passed, says_ended, says_faulted, says_full, says_idle, worked_on}
use Rattle.pot_mend.proofs.moving.migrate.Goals as goal

pub steps-init : goal.steps-init
steps-init g c = (c.requires.ready, refl, moving_none c.args.job c.args.group c.args.column c.args.vault.now.rack c.args.vault.now.groups c.args.passes.now.groups c.requires.ready)

pub steps-preserved-in-Ok-Copied : goal.steps-preserved-in-Ok-Copied
steps-preserved-in-Ok-Copied g c = (
  c.in-Ok-Copied.ensures.ready,
  c.in-Ok-Copied.ensures.index ∙ c.steps.invariant.1,
  moving_copied (IsTrue g.A.Archive.account.tells) c.args.job c.args.group c.args.column c.steps.copied c.args.vault.now.rack c.args.vault.now.groups c.args.passes.now.groups c.steps.passes.groups
      c.move_step.new.passes.groups c.steps.invariant.0 c.requires.group c.steps.invariant.2 (rw c.in-Ok-Copied.field-0-is at c.in-Ok-Copied.ensures.call),
)

pub overflow_add-copied : goal.overflow_add-copied
overflow_add-copied g c =
    let fits : c.steps.copied < 262144 = copied_fits (IsTrue g.A.Archive.account.tells) c.args.job c.args.group c.args.column c.steps.copied c.args.vault.now.rack c.args.vault.now.groups c.args.passes.now.groups c.steps.passes.groups
    c.move_step.new.passes.groups c.steps.invariant.0 c.requires.group c.steps.invariant.2 (rw c.in-Ok-Copied.field-0-is at c.in-Ok-Copied.ensures.call) in
    omega (arith, fits)

pub steps-smaller-in-Ok-Copied : goal.steps-smaller-in-Ok-Copied
steps-smaller-in-Ok-Copied g c = falls_copied (IsTrue g.A.Archive.account.tells) c.args.job c.args.group c.args.column c.steps.copied c.args.vault.now.rack c.args.vault.now.groups c.args.passes.now.groups c.steps.passes.groups
    c.move_step.new.passes.groups c.steps.invariant.0 c.requires.group c.steps.invariant.2 (rw c.in-Ok-Copied.field-0-is at c.in-Ok-Copied.ensures.call)

pub steps-smaller : goal.steps-smaller
steps-smaller g c = falls_passed (IsTrue g.A.Archive.account.tells) c.args.job c.args.group c.args.column c.steps.copied c.args.vault.now.rack c.args.vault.now.groups c.args.passes.now.groups c.steps.passes.groups
    c.move_step.new.passes.groups c.steps.invariant.0 c.requires.group c.steps.invariant.2 (rw c.in-Ok-Passed.field-0-is at c.in-Ok-Passed.ensures.call)

pub steps-preserved : goal.steps-preserved
steps-preserved g c = (
  c.in-Ok-Passed.ensures.ready,
  c.in-Ok-Passed.ensures.index ∙ c.steps.invariant.1,
  moving_passed (IsTrue g.A.Archive.account.tells) c.args.job c.args.group c.args.column c.steps.copied c.args.vault.now.rack c.args.vault.now.groups c.args.passes.now.groups c.steps.passes.groups
      c.move_step.new.passes.groups c.steps.invariant.0 c.requires.group c.steps.invariant.2 (rw c.in-Ok-Passed.field-0-is at c.in-Ok-Passed.ensures.call),
)

pub returns-in-Ok-Ended-clause-worked : goal.returns-in-Ok-Ended-clause-worked
returns-in-Ok-Ended-clause-worked g c = worked_on (IsTrue g.A.Archive.account.tells) c.args.job c.args.group c.args.column c.steps.copied c.args.vault.now.rack c.args.vault.now.groups c.args.passes.now.groups c.steps.passes.groups
    c.move_step.new.passes.groups c.steps.invariant.0 c.requires.group c.steps.invariant.2 (Ok moved.Ended) (rw c.in-Ok-Ended.field-0-is at c.in-Ok-Ended.ensures.call)

pub returns-in-Ok-Ended-clause-says : goal.returns-in-Ok-Ended-clause-says
returns-in-Ok-Ended-clause-says g c = says_ended (IsTrue g.A.Archive.account.tells) c.args.job c.args.group c.args.column c.steps.copied c.args.vault.now.rack c.args.vault.now.groups c.args.passes.now.groups c.steps.passes.groups
    c.move_step.new.passes.groups c.steps.invariant.0 c.requires.group c.steps.invariant.2
    c.args.passes.now.index c.move_step.new.passes.index (c.in-Ok-Ended.ensures.index ∙ c.steps.invariant.1) c.requires.ready.of.0 (rw c.in-Ok-Ended.field-0-is at c.in-Ok-Ended.ensures.call)

pub returns-in-Err-Idle-clause-worked : goal.returns-in-Err-Idle-clause-worked
returns-in-Err-Idle-clause-worked g c = worked_on (IsTrue g.A.Archive.account.tells) c.args.job c.args.group c.args.column c.steps.copied c.args.vault.now.rack c.args.vault.now.groups c.args.passes.now.groups c.steps.passes.groups
    c.move_step.new.passes.groups c.steps.invariant.0 c.requires.group c.steps.invariant.2 (Err failed.Idle) (rw c.in-Err-Idle.field-0-is at c.in-Err-Idle.ensures.call)

pub returns-in-Err-Idle-clause-says : goal.returns-in-Err-Idle-clause-says
returns-in-Err-Idle-clause-says g c = says_idle (IsTrue g.A.Archive.account.tells) c.args.job c.args.group c.args.column c.steps.copied c.args.vault.now.rack c.args.vault.now.groups c.args.passes.now.groups c.steps.passes.groups
    c.move_step.new.passes.groups c.steps.invariant.0 c.requires.group c.steps.invariant.2
    c.args.passes.now.index c.move_step.new.passes.index (c.in-Err-Idle.ensures.index ∙ c.steps.invariant.1) c.requires.ready.of.0 (rw c.in-Err-Idle.field-0-is at c.in-Err-Idle.ensures.call)

pub returns-in-Err-Faulted-clause-worked : goal.returns-in-Err-Faulted-clause-worked
returns-in-Err-Faulted-clause-worked g c = worked_on (IsTrue g.A.Archive.account.tells) c.args.job c.args.group c.args.column c.steps.copied c.args.vault.now.rack c.args.vault.now.groups c.args.passes.now.groups c.steps.passes.groups
    c.move_step.new.passes.groups c.steps.invariant.0 c.requires.group c.steps.invariant.2 (Err (failed.Faulted c.in-Err-Faulted.column)) (rw c.in-Err-Faulted.field-0-is at c.in-Err-Faulted.ensures.call)

pub returns-in-Err-Faulted-clause-says : goal.returns-in-Err-Faulted-clause-says
returns-in-Err-Faulted-clause-says g c = says_faulted (IsTrue g.A.Archive.account.tells) c.args.job c.args.group c.args.column c.steps.copied c.args.vault.now.rack c.args.vault.now.groups c.args.passes.now.groups c.steps.passes.groups
    c.move_step.new.passes.groups c.steps.invariant.0 c.requires.group c.steps.invariant.2
    c.args.passes.now.index c.move_step.new.passes.index (c.in-Err-Faulted.ensures.index ∙ c.steps.invariant.1) c.requires.ready.of.0 c.in-Err-Faulted.column (rw c.in-Err-Faulted.field-0-is at c.in-Err-Faulted.ensures.call)

pub returns-in-Err-LogFull-clause-worked : goal.returns-in-Err-LogFull-clause-worked
returns-in-Err-LogFull-clause-worked g c = worked_on (IsTrue g.A.Archive.account.tells) c.args.job c.args.group c.args.column c.steps.copied c.args.vault.now.rack c.args.vault.now.groups c.args.passes.now.groups c.steps.passes.groups
    c.move_step.new.passes.groups c.steps.invariant.0 c.requires.group c.steps.invariant.2 (Err failed.LogFull) (rw c.in-Err-LogFull.field-0-is at c.in-Err-LogFull.ensures.call)

pub returns-in-Err-LogFull-clause-says : goal.returns-in-Err-LogFull-clause-says
returns-in-Err-LogFull-clause-says g c = says_full (IsTrue g.A.Archive.account.tells) c.args.job c.args.group c.args.column c.steps.copied c.args.vault.now.rack c.args.vault.now.groups c.args.passes.now.groups c.steps.passes.groups
    c.move_step.new.passes.groups c.steps.invariant.0 c.requires.group c.steps.invariant.2
    c.args.passes.now.index c.move_step.new.passes.index (c.in-Err-LogFull.ensures.index ∙ c.steps.invariant.1) c.requires.ready.of.0 (rw c.in-Err-LogFull.field-0-is at c.in-Err-LogFull.ensures.call)
