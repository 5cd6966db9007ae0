use Rattle.pot_shard.proofs.FileLemmas.{file_laws}
use Rattle.pot_shard.proofs.laws.file_laws.Goals as goal

pub returns : goal.returns
returns c = file_laws
