use Rattle.std.proofs.Common.{ap, sym, ◌∙◌}
use Rattle.pot_image.proofs.Steps.{fails_as, exits, several_begins, several_on, several_fails, several_done}
use Rattle.std.proofs.Common.{map}
use Rattle.std.proofs.lemmas.List.{map-append}
use Rattle.pot_image.specs.Logs.{group_logs}
use Rattle.pot_image.proofs.logs.read_group_logs.Goals as goal

pub loop-init : goal.loop-init
unfolding group_logs
loop-init c = several_begins _ _ _ _ _ (ap (map (λ v. v.items)) c.in_ok-logs.ensures.items)

pub returns-in_err-log : goal.returns-in_err-log
returns-in_err-log c = exits _ _ _ _ c.from_residual-in_err-log.ensures.1 (fails_as _ _ _ c.loop.invariant (several_fails _ _ _ _ _ _ c.loop-test.true c.in_err-log.ensures))

pub loop-preserved : goal.loop-preserved
loop-preserved c = sym (several_on _ _ _ _ _ _ _ _ c.loop-test.true c.in_ok-log.ensures (ap (map (λ v. v.items)) c.in_ok-push.ensures.items ∙ map-append _ _ _)) ∙ c.loop.invariant

pub returns : goal.returns
returns c = sym c.loop.invariant ∙ several_done _ _ _ _ _ c.loop-test.false
