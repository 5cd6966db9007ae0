use Rattle.pot_bytes.proofs.ProductLemmas.{product_laws}
use Rattle.pot_bytes.proofs.product.product_laws.Goals as goal

pub returns : goal.returns
returns c = product_laws
