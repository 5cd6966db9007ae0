use Rattle.pot_veil.proofs.Files.{file_laws}
use Rattle.pot_veil.proofs.laws.file_laws.Goals as goal

pub returns : goal.returns
returns c = file_laws
