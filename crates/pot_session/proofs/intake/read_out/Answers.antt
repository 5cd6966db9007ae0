use Rattle.std.proofs.Common.{rules}
use Rattle.pot_outside.specs.Accounts.{transition}
use Rattle.pot_session.proofs.StreamLemmas.{read_on}
use Rattle.pot_session.proofs.intake.read_out.Goals as goal

pub returns-in_err-extend_from_slice-clause-least_left : goal.returns-in_err-extend_from_slice-clause-least_left
returns-in_err-extend_from_slice-clause-least_left g c = λ t.
    read_on (transition g.S.Source.account c.args.source.now c.read.new.self) _ c.loop-buffer.bytes.items c.read.new.into c.in_ok-count.count _ (c.loop-buffer.invariant.told t) (c.in_ok-count.ensures.told t).0
    (search rules)
