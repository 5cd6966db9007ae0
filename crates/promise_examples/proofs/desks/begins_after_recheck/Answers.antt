use Rattle.promise_examples.proofs.Rerun.{begins_after_recheck}
use Rattle.promise_examples.proofs.desks.begins_after_recheck.Goals as goal

pub returns : goal.returns
returns c = begins_after_recheck c.run_laws.ensures.rechecks_begin
