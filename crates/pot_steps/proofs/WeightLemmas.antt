-- The weights that the code computes.
use Rattle.std.proofs.Common.{◌≡◌, ◌≢◌, ℕ, ◌+◌, ◌<◌, ◌≤◌, Option, Some, None, bit_xor, refl, sym, ap, ◌∙◌, arith, add-one, nat_le, if◌then◌else◌}
use Rattle.std.proofs.lemmas.Bool.Decides.{nat_tests}
use Rattle.pot_bytes.specs.Product.{byte_product}
use Rattle.pot_gf.specs.Field.{power}
use Rattle.pot_machine.specs.declared.relay.Relay.{Relay}
use Rattle.pot_machine.specs.Table.{skipped}
use Rattle.pot_steps.specs.Equations.{p_weight, q_weight}
use Rattle.pot_steps.specs.Flight.{p_times, q_times, weight, weight_in, left_out, IsRelay}

pub power_zero : power 3 0 ≡ 1
unfolding power
power_zero = refl

pub power_more : (k : ℕ) → power 3 (k + 1) ≡ byte_product 3 (power 3 k)
unfolding power
power_more k = rw add-one refl

pub weight_is : (data_columns t u c : ℕ) → weight data_columns t u c ≡ bit_xor (byte_product (p_times data_columns t u) (if nat_le c data_columns then 1 else 0)) (byte_product (q_times data_columns t u) (q_weight data_columns c))
unfolding weight p_weight
weight_is data_columns t u c = refl

pub p_last : (w t u : ℕ) → w < t → w ≤ u → p_times w t u ≡ 0
unfolding p_times
p_last w t u a b = grind (arith, nat_tests)

pub q_at_p : (w c : ℕ) → c ≡ w → q_weight w c ≡ 0
unfolding q_weight
q_at_p w c h = grind (arith, nat_tests)

pub weight_in_is : (w : ℕ) (r : Relay) (c out : ℕ) → out ≡ skipped w r.skip r.target → weight w r.target out c ≡ weight_in w r c
unfolding left_out
weight_in_is w r c out e = ap (λ u. weight w r.target u c) e

-- what is left out is not the target
pub out_apart : (w : ℕ) (r : Relay) (out : ℕ) → out ≡ skipped w r.skip r.target → IsRelay w 2 r → out ≢ r.target
out_apart w r out e is q = apart r.skip refl (sym e ∙ q)
  where
    other : (w t : ℕ) → (if nat_le t w then w + 1 else w) ≢ t
    other w t = grind (arith, nat_tests)

    apart : (o : Option ℕ) → r.skip ≡ o → skipped w o r.target ≡ r.target → ⊥
    apart None h q = other w r.target q
    apart (Some u) h q = (is.skip u h).1 q
