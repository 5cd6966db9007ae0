use Rattle.pot_veil.proofs.Pieces.{piece_laws}
use Rattle.pot_veil.proofs.laws.piece_laws.Goals as goal

pub returns : goal.returns
returns c = piece_laws
