-- The weights of the two equations.
use Rattle.std.proofs.Common.{◌≡◌, ℕ, ◌<◌, ◌≤◌, arith}
use Rattle.std.proofs.lemmas.Bool.Decides.{nat_tests}
use Rattle.pot_gf.specs.Field.{power}
use Rattle.pot_steps.specs.Equations.{p_weight, q_weight}

pub p_weight-low : (data_columns c : ℕ) → c ≤ data_columns → p_weight data_columns c ≡ 1
unfolding p_weight
p_weight-low data_columns c h = grind (arith, nat_tests)

pub p_weight-high : (data_columns c : ℕ) → data_columns < c → p_weight data_columns c ≡ 0
unfolding p_weight
p_weight-high data_columns c h = grind (arith, nat_tests)

pub q_weight-low : (data_columns c : ℕ) → c < data_columns → q_weight data_columns c ≡ power 3 c
unfolding q_weight
q_weight-low data_columns c h = grind (arith, nat_tests)

pub q_weight-p : (data_columns : ℕ) → q_weight data_columns data_columns ≡ 0
unfolding q_weight
q_weight-p data_columns = grind (arith, nat_tests)

pub q_weight-q : (data_columns c : ℕ) → data_columns < c → q_weight data_columns c ≡ 1
unfolding q_weight
q_weight-q data_columns c h = grind (arith, nat_tests)
