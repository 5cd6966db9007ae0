use Rattle.std.proofs.Common.{◌≡◌, ◌≢◌, ◌<◌, ◌≤◌, ℕ, bit_xor, sym, ap, ap₂, ◌∙◌, arith, subst}
use Rattle.pot_gf.specs.Field.{inverse}
use Rattle.pot_steps.proofs.Relays.{q-data_data, q-data_p, q-low_q, q-p_data, q-q, power-positive, sum-positive}
use Rattle.pot_steps.proofs.weighing.q_times.Goals as goal

pub inv-requires : goal.inv-requires
inv-requires c = subst (λ n. 0 < n) (sym (ap₂ bit_xor c.power_of_three.ensures c.power_of_three-then-out-data_columns.ensures))
    (sum-positive c.args.target c.args.out (omega (arith, c.requires.small, c.if-target-data_columns.true)) (omega (arith, c.requires.small, c.if-out-data_columns.true)) (λ e. c.requires.apart (sym e)))

pub inv-requires-then-out-data_columns-2 : goal.inv-requires-then-out-data_columns-2
inv-requires-then-out-data_columns-2 c = subst (λ n. 0 < n) (sym c.power_of_three-then-out-data_columns-2.ensures) (power-positive c.args.target (omega (arith, c.requires.small, c.if-target-data_columns.true)))

pub inv-requires-then-out-data_columns-3 : goal.inv-requires-then-out-data_columns-3
inv-requires-then-out-data_columns-3 c = subst (λ n. 0 < n) (sym c.power_of_three-then-out-data_columns-3.ensures) (power-positive c.args.out (omega (arith, c.requires.small, c.if-out-data_columns-3.true)))

pub returns-then-out-data_columns : goal.returns-then-out-data_columns
returns-then-out-data_columns c = c.inv.ensures.value ∙ ap inverse (ap₂ bit_xor c.power_of_three.ensures c.power_of_three-then-out-data_columns.ensures)
    ∙ sym (q-data_data c.args.data_columns c.args.target c.args.out (omega (arith, c.if-target-data_columns.true)) (omega (arith, c.if-out-data_columns.true)))

pub returns-then-out-data_columns-2 : goal.returns-then-out-data_columns-2
returns-then-out-data_columns-2 c = c.inv-then-out-data_columns-2.ensures.value ∙ ap inverse c.power_of_three-then-out-data_columns-2.ensures
    ∙ sym (q-data_p c.args.data_columns c.args.target c.args.out (omega (arith, c.if-target-data_columns.true)) (omega (arith, c.if-out-data_columns-2.true)))

pub returns-else-out-data_columns-2 : goal.returns-else-out-data_columns-2
returns-else-out-data_columns-2 c = sym (q-low_q c.args.data_columns c.args.target c.args.out (omega (arith, c.if-target-data_columns.true)) (omega (arith, c.if-out-data_columns.false, c.if-out-data_columns-2.false)))

pub returns-then-out-data_columns-3 : goal.returns-then-out-data_columns-3
returns-then-out-data_columns-3 c = c.inv-then-out-data_columns-3.ensures.value ∙ ap inverse c.power_of_three-then-out-data_columns-3.ensures
    ∙ sym (q-p_data c.args.data_columns c.args.target c.args.out (omega (arith, c.if-target-data_columns-2.true)) (omega (arith, c.if-out-data_columns-3.true)))

pub returns-else-out-data_columns-3 : goal.returns-else-out-data_columns-3
returns-else-out-data_columns-3 c =
    let at : c.args.target ≡ c.args.data_columns = omega (arith, c.if-target-data_columns-2.true) in
    sym (q-low_q c.args.data_columns c.args.target c.args.out (omega arith) (past c.args.data_columns c.args.target c.args.out at (omega (arith, c.if-out-data_columns-3.false)) c.requires.apart))
  where
    past : (w t u : ℕ) → t ≡ w → w ≤ u → u ≢ t → w < u
    past w t u e l ne = grind arith

pub returns-else-target-data_columns-2 : goal.returns-else-target-data_columns-2
returns-else-target-data_columns-2 c = sym (q-q c.args.data_columns c.args.target c.args.out (omega (arith, c.if-target-data_columns.false, c.if-target-data_columns-2.false)))
