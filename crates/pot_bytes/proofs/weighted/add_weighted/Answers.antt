use Rattle.std.proofs.Common.{◌≡◌, get_or, arith, add-one, sym, ◌∙◌}
use Rattle.std.proofs.lemmas.List.{length-map}
use Rattle.pot_bytes.specs.Product.{byte_product}
use Rattle.pot_bytes.specs.Weighted.{scaled}
use Rattle.pot_bytes.proofs.ProductLemmas.{byte_product-comm}
use Rattle.pot_bytes.proofs.SumLemmas.{xor-step, xor-end}
use Rattle.pot_bytes.proofs.WeightedLemmas.{get_or-scaled}
use Rattle.pot_bytes.proofs.weighted.add_weighted.Goals as goal

pub loop-i-preserved : goal.loop-i-preserved
loop-i-preserved c =
    let gained : c.gf_times.result ≡ get_or (scaled c.args.weight c.args.from.now) c.loop-i.i 0 =
    c.gf_times.ensures ∙ byte_product-comm (get_or c.args.from.now c.loop-i.i 0) c.args.weight ∙ sym (get_or-scaled c.args.weight c.args.from.now c.loop-i.i) in
    rw (add-one, gained) (xor-step c.loop-i.into (scaled c.args.weight c.args.from.now) c.loop-i.i (omega arith) (omega (arith, length-map c.args.from.now (byte_product c.args.weight))) ∙ c.loop-i.invariant)

pub returns : goal.returns
returns c = sym (xor-end c.loop-i.into (scaled c.args.weight c.args.from.now) c.loop-i.i (omega arith)) ∙ c.loop-i.invariant
