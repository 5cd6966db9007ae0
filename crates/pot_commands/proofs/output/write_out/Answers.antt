use Rattle.pot_commands.proofs.StreamLemmas.{cut_off, is_cut_off}
use Rattle.pot_commands.proofs.output.write_out.Goals as goal

pub returns-in_err-count-clause-told : goal.returns-in_err-count-clause-told
returns-in_err-count-clause-told g c = is_cut_off _ _ _ c.from_residual.ensures.0 (λ tells.
    (let failed = c.in_err-count.ensures.told tells in
    cut_off _ _ _ _ failed.0 _ (c.loop-rest.invariant.told tells) failed.1 failed.2))
