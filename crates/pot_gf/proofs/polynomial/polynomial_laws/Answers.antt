use Rattle.pot_gf.proofs.Vanishing.{polynomial_laws}
use Rattle.pot_gf.proofs.polynomial.polynomial_laws.Goals as goal

pub returns : goal.returns
returns c = polynomial_laws
