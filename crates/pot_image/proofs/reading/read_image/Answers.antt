use Rattle.pot_image.proofs.ImageKept.{numbered_kept}
use Rattle.pot_image.proofs.reading.read_image.Goals as goal

pub returns-clause-kept : goal.returns-clause-kept
returns-clause-kept c = numbered_kept _ _ c.read_numbered.ensures
