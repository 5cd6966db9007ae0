use Rattle.std.proofs.Common.{◌≡◌, ◌<◌, ℕ, add-one, ◌+◌, ◌*◌, ◌/◌, ◌%◌, ◌^◌, sym, ap, ap₂, ◌∙◌, arith, bit_xor, bit_and}
use Rattle.std.proofs.Math.Nat.{div-div-eq-div-mul, pow-suc}
use Rattle.std.specs.Int.Bits.{xor_assoc, xor_zero_l, xor_zero_r}
use Rattle.std.proofs.lemmas.Nat.{and_mask, shr_le}
use Rattle.pot_bytes.specs.Product.{byte_product}
use Rattle.pot_bytes.proofs.ProductLemmas.{byte_product-step, byte_product-zero_right}
use Rattle.pot_bytes.proofs.product.gf_times.Goals as goal

pub loop-bit-init : goal.loop-bit-init
loop-bit-init c = (xor_zero_l (byte_product c.args.a (c.args.b / 1)) ∙ ap (byte_product c.args.a) (omega arith), c.ranges.a.fits)

-- one bit of `b` is taken
taken : (product shifted b bit gained next whole : ℕ) → shifted < 256 → b < 256
    → bit_xor product (byte_product shifted (b / 2 ^ bit)) ≡ whole → gained ≡ bit_and (b / 2 ^ bit) 1 * shifted → next ≡ byte_product shifted 2
    → bit_xor (bit_xor product gained) (byte_product next (b / 2 ^ (bit + 1))) ≡ whole
taken product shifted b bit gained next whole hs hb before g n =
    ap₂ (λ x y. bit_xor (bit_xor product x) y) (g ∙ ap (λ z. z * shifted) (and_mask (b / 2 ^ bit) 1))
    (ap₂ byte_product n (ap (λ z. b / 2 ^ z) (add-one bit) ∙ ap (λ z. b / z) (pow-suc 2 bit) ∙ sym (div-div-eq-div-mul b (2 ^ bit) 2)))
    ∙ xor_assoc product (b / 2 ^ bit % 2 * shifted) (byte_product (byte_product shifted 2) (b / 2 ^ bit / 2))
    ∙ ap (bit_xor product) (sym (byte_product-step shifted (b / 2 ^ bit) hs (omega (arith, shr_le b bit))))
    ∙ before

pub loop-bit-preserved : goal.loop-bit-preserved
loop-bit-preserved c = (
  taken c.loop-bit.product c.loop-bit.shifted c.args.b c.loop-bit.bit c.where_set-product.result c.twice-shifted.result (byte_product c.args.a c.args.b)
      c.loop-bit.invariant.1 c.ranges.b.fits c.loop-bit.invariant.0 c.where_set-product.ensures c.twice-shifted.ensures,
  c.twice-shifted.type_inv,
)

pub returns : goal.returns
returns c =
    let e : c.loop-bit.bit ≡ 8 = omega arith in
    let z : c.args.b / 2 ^ 8 ≡ 0 = omega (arith, c.ranges.b.fits) in
    sym (xor_zero_r c.loop-bit.product)
    ∙ ap (bit_xor c.loop-bit.product) (sym (byte_product-zero_right c.loop-bit.shifted) ∙ ap (byte_product c.loop-bit.shifted) (sym z ∙ ap (λ k. c.args.b / 2 ^ k) (sym e)))
    ∙ c.loop-bit.invariant.0
