use Rattle.run_examples.proofs.Rechecked.{back_after_recheck}
use Rattle.run_examples.proofs.back_after_recheck.Goals as goal

pub returns : goal.returns
returns c = back_after_recheck c.run_laws.ensures.go_on c.run_laws.ensures.rechecks_go_on c.file_laws.ensures.gives_back_later
