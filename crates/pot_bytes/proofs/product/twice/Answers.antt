use Rattle.std.proofs.Common.{ap, ◌∙◌, bit_xor, ◌*◌, ◌%◌}
use Rattle.pot_bytes.proofs.ProductLemmas.{byte_product-two}
use Rattle.pot_bytes.proofs.product.twice.Goals as goal

pub returns : goal.returns
returns c = ap (bit_xor (c.args.a * 2 % 256)) c.where_set.ensures ∙ byte_product-two c.args.a c.ranges.a.fits
