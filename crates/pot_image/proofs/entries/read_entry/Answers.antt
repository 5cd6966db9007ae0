use Rattle.pot_image.specs.Reading.{reading}
use Rattle.std.proofs.Common.{ap, sym, ◌∙◌, arith, ◌≤◌}
use Rattle.pot_image.proofs.Once.{ok_then}
use Rattle.pot_image.proofs.Steps.{fails_then, fails_on, fails_as, exits, holds_of}
use Rattle.pot_image.specs.Logs.{entry}
use Rattle.pot_image.specs.Numbers.{natural, between}
use Rattle.std.proofs.lemmas.Bool.{leb-true, and_parts}
use Rattle.pot_image.proofs.entries.read_entry.Goals as goal

pub read_entry_of-requires-clause-least : goal.read_entry_of-requires-clause-least
read_entry_of-requires-clause-least c = leb-true _ _ (and_parts _ _ (holds_of _ _ _ _ _ c.in_ok-kind.ensures)).0

pub read_entry_of-requires-clause-most : goal.read_entry_of-requires-clause-most
read_entry_of-requires-clause-most c = (let most : c.in_ok-kind.kind ≤ c.kinds-kinds.result = leb-true _ _ (and_parts _ _ (holds_of _ _ _ _ _ c.in_ok-kind.ensures)).1 in omega (arith, most, c.kinds-kinds.ensures.most))

pub returns-in_err-kind : goal.returns-in_err-kind
unfolding entry
returns-in_err-kind c = exits _ _ _ _ c.from_residual.ensures.1 (fails_then _ _ _ _ (fails_as _ _ _ (ap (λ n. reading (natural 1 (between 1 n)) c.args.bytes.now) c.kinds-kinds.ensures.value) c.in_err-kind.ensures))

pub returns-in_err-job : goal.returns-in_err-job
unfolding entry
returns-in_err-job c = exits _ _ _ _ c.from_residual-in_err-job.ensures.1 (fails_on _ _ _ _ _ _ (sym (ap (λ n. reading (natural 1 (between 1 n)) c.args.bytes.now) c.kinds-kinds.ensures.value) ∙ c.in_ok-kind.ensures) (fails_then _ _ _ _ c.in_err-job.ensures))

pub returns-in_err-entry : goal.returns-in_err-entry
unfolding entry
returns-in_err-entry c = exits _ _ _ _ c.from_residual-in_err-entry.ensures.1 (fails_on _ _ _ _ _ _ (sym (ap (λ n. reading (natural 1 (between 1 n)) c.args.bytes.now) c.kinds-kinds.ensures.value) ∙ c.in_ok-kind.ensures) (fails_on _ _ _ _ _ _ c.in_ok-job.ensures c.in_err-entry.ensures))

pub returns : goal.returns
unfolding entry
returns c = ok_then _ _ _ _ _ _ (sym (ap (λ n. reading (natural 1 (between 1 n)) c.args.bytes.now) c.kinds-kinds.ensures.value) ∙ c.in_ok-kind.ensures) (ok_then _ _ _ _ _ _ c.in_ok-job.ensures c.in_ok-entry.ensures)
