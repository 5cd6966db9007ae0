use Rattle.std.proofs.Common.{◌≡◌, suc, ◌-◌, ◌+◌, sym, ap, ap₂, ◌∙◌, arith}
use Rattle.pot_bytes.specs.Product.{byte_product}
use Rattle.pot_gf.specs.Field.{inverse}
use Rattle.pot_gf.proofs.FieldLemmas.{chain, chain-suc, chain-zero, chain-inverse, byte_product-inverse}
use Rattle.pot_gf.proofs.field.inv.Goals as goal

pub loop-step-preserved : goal.loop-step-preserved
loop-step-preserved c =
    let left : 7 - c.loop-step.step ≡ suc (7 - (c.loop-step.step + 1)) = omega arith in
    ap₂ (chain (7 - (c.loop-step.step + 1))) c.mul-square.ensures (c.mul-product.ensures ∙ ap (byte_product c.loop-step.product) c.mul-square.ensures)
    ∙ sym (chain-suc (7 - (c.loop-step.step + 1)) c.loop-step.square c.loop-step.product)
    ∙ ap (λ n. chain n c.loop-step.square c.loop-step.product) (sym left)
    ∙ c.loop-step.invariant

pub returns : goal.returns
returns c =
    let done : 7 - c.loop-step.step ≡ 0 = omega arith in
    let value : c.loop-step.product ≡ inverse c.args.a =
    sym (chain-zero c.loop-step.square c.loop-step.product) ∙ ap (λ n. chain n c.loop-step.square c.loop-step.product) (sym done)
    ∙ c.loop-step.invariant ∙ chain-inverse c.args.a c.ranges.a.fits in
    record { value = value; inverse = ap (byte_product c.args.a) value ∙ byte_product-inverse c.args.a c.requires c.ranges.a.fits }
