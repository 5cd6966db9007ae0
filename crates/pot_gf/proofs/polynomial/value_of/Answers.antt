use Rattle.std.proofs.Common.{◌≡◌, ◌<◌, ◌≤◌, ℕ, suc, ◌-◌, List, length, get_or, drop, sym, ap, ap₂, ◌∙◌, arith, bit_xor}
use Rattle.std.proofs.Math.Seq.{drop-length, drop-cons}
use Rattle.pot_bytes.specs.Product.{byte_product}
use Rattle.pot_bytes.proofs.ProductLemmas.{byte_product-one_right}
use Rattle.pot_gf.specs.Polynomials.{value}
use Rattle.pot_gf.proofs.Values.{value-nil, value-cons}
use Rattle.pot_gf.proofs.polynomial.value_of.Goals as goal

pub loop-t-init : goal.loop-t-init
loop-t-init c = sym (ap (λ p. value p c.args.x) (drop-length c.args.coefficients.now) ∙ value-nil c.args.x)

-- one more coefficient
horner : (p : List ℕ) (x sum term t : ℕ) → 0 < t → t ≤ length p → get_or p (t - 1) 0 < 256 → sum ≡ value (drop t p) x → term ≡ byte_product x sum
    → bit_xor (get_or p (t - 1) 0) term ≡ value (drop (t - 1) p) x
horner p x sum term t pos le lt before e =
    ap₂ bit_xor (sym (byte_product-one_right (get_or p (t - 1) 0) lt))
    (e ∙ ap (byte_product x) (before ∙ ap (λ k. value (drop k p) x) (let k : t ≡ suc (t - 1) = omega arith in k)))
    ∙ sym (value-cons (get_or p (t - 1) 0) (drop (suc (t - 1)) p) x)
    ∙ ap (λ q. value q x) (sym (drop-cons p (t - 1) 0 (omega arith)))

pub loop-t-preserved : goal.loop-t-preserved
loop-t-preserved c =
    horner c.args.coefficients.now c.args.x c.loop-t.sum c.mul.result c.loop-t.t c.loop-t-test.true c.loop-t.auto.t
    (c.type_inv.coefficients (c.loop-t.t - 1)).fits c.loop-t.invariant c.mul.ensures

pub returns : goal.returns
returns c = c.loop-t.invariant ∙ ap (λ k. value (drop k c.args.coefficients.now) c.args.x) (let e : c.loop-t.t ≡ 0 = omega arith in e)
