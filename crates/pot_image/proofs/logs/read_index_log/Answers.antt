use Rattle.std.proofs.Common.{sym, ◌∙◌}
use Rattle.pot_image.proofs.Once.{ok_then}
use Rattle.pot_image.proofs.Steps.{fails_then, fails_on, fails_as, exits, several_begins, several_on, several_fails, several_done}
use Rattle.pot_image.specs.Logs.{index_log}
use Rattle.pot_image.proofs.logs.read_index_log.Goals as goal

pub returns-in_err-count : goal.returns-in_err-count
unfolding index_log
returns-in_err-count c = exits _ _ _ _ c.from_residual.ensures.1 (fails_then _ _ _ _ c.in_err-count.ensures)

pub loop-init : goal.loop-init
loop-init c = several_begins _ _ _ _ _ c.in_ok-entries.ensures.items

pub returns-in-Err : goal.returns-in-Err
unfolding index_log
returns-in-Err c = fails_on _ _ _ _ _ _ c.in_ok-count.ensures (fails_as _ _ _ c.loop.invariant (several_fails _ _ _ _ _ _ c.loop-test.true c.in-Err.ensures))

pub loop-preserved : goal.loop-preserved
loop-preserved c = sym (several_on _ _ _ _ _ _ _ _ c.loop-test.true c.in-Ok.ensures c.in_ok-push-in-Ok.ensures.items) ∙ c.loop.invariant

pub returns : goal.returns
unfolding index_log
returns c = ok_then _ _ _ _ _ _ c.in_ok-count.ensures (sym c.loop.invariant ∙ several_done _ _ _ _ _ c.loop-test.false)
