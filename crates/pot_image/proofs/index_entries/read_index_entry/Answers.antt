use Rattle.pot_image.specs.Reading.{reading}
use Rattle.std.proofs.Common.{ap, sym, ◌∙◌, arith, ◌≤◌}
use Rattle.pot_image.proofs.Steps.{fails_then, fails_on, fails_as, exits, between_of, gives_on}
use Rattle.pot_image.specs.Logs.{index_entry}
use Rattle.pot_image.specs.Numbers.{natural, between}
use Rattle.pot_image.proofs.index_entries.read_index_entry.Goals as goal

pub read_index_entry_of-requires : goal.read_index_entry_of-requires
read_index_entry_of-requires c = (let most : c.in_ok-kind.kind ≤ c.index_kinds-kinds.result = (between_of _ _ _ _ _ _ c.in_ok-kind.ensures).1 in omega (arith, most, c.index_kinds-kinds.ensures.most))

pub returns-in_err-kind : goal.returns-in_err-kind
unfolding index_entry
returns-in_err-kind c = exits _ _ _ _ c.from_residual.ensures.1 (fails_then _ _ _ _ (fails_as _ _ _ (ap (λ n. reading (natural 1 (between 1 n)) c.args.bytes.now) c.index_kinds-kinds.ensures.value) c.in_err-kind.ensures))

pub returns-in_err-job : goal.returns-in_err-job
unfolding index_entry
returns-in_err-job c = exits _ _ _ _ c.from_residual-in_err-job.ensures.1 (fails_on _ _ _ _ _ _ (sym (ap (λ n. reading (natural 1 (between 1 n)) c.args.bytes.now) c.index_kinds-kinds.ensures.value) ∙ c.in_ok-kind.ensures) (fails_then _ _ _ _ c.in_err-job.ensures))

pub returns : goal.returns
unfolding index_entry
returns c = gives_on _ _ _ _ _ _ _ (sym (ap (λ n. reading (natural 1 (between 1 n)) c.args.bytes.now) c.index_kinds-kinds.ensures.value) ∙ c.in_ok-kind.ensures) (gives_on _ _ _ _ _ _ _ c.in_ok-job.ensures c.read_index_entry_of.ensures)
