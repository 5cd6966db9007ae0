use Rattle.std.proofs.Common.{sym, ◌∙◌, arith}
use Rattle.pot_group.proofs.Counted.{counts_more, counts_few}
use Rattle.pot_group.proofs.counting.count_stripe.Goals as goal
use Rattle.pot_group.proofs.counting.count_stripe.Goals.{in-Void, in-Live, in-Lost, in-Broken}

pub overflow_add-counts : goal.overflow_add-counts
overflow_add-counts c = omega (arith, counts_few _ _ _ c.data_columns.ensures.rules c.loop-column.invariant)

pub overflow_add-counts-in-Lost : goal.overflow_add-counts-in-Lost
overflow_add-counts-in-Lost c = omega (arith, counts_few _ _ _ c.data_columns.ensures.rules c.loop-column.invariant)

pub overflow_add-counts-in-Broken : goal.overflow_add-counts-in-Broken
overflow_add-counts-in-Broken c = omega (arith, counts_few _ _ _ c.data_columns.ensures.rules c.loop-column.invariant)

pub loop-column-preserved : goal.loop-column-preserved
loop-column-preserved c = elim c.match-slot.branch [
  | in-Void w ↦ counts_more c.args.table.now c.args.stripe c.loop-column.column _ _ _ c.data_columns.ensures.rules c.requires.stripe (omega (arith, c.loop-column-test.true)) (sym w.in-Void.is ∙ c.slot.ensures) c.loop-column.invariant w.counts-is
  | in-Live w ↦ counts_more c.args.table.now c.args.stripe c.loop-column.column _ _ _ c.data_columns.ensures.rules c.requires.stripe (omega (arith, c.loop-column-test.true)) (sym w.in-Live.is ∙ c.slot.ensures) c.loop-column.invariant w.counts-is
  | in-Lost w ↦ counts_more c.args.table.now c.args.stripe c.loop-column.column _ _ _ c.data_columns.ensures.rules c.requires.stripe (omega (arith, c.loop-column-test.true)) (sym w.in-Lost.is ∙ c.slot.ensures) c.loop-column.invariant w.counts-is
  | in-Broken w ↦ counts_more c.args.table.now c.args.stripe c.loop-column.column _ _ _ c.data_columns.ensures.rules c.requires.stripe (omega (arith, c.loop-column-test.true)) (sym w.in-Broken.is ∙ c.slot.ensures) c.loop-column.invariant w.counts-is
]
