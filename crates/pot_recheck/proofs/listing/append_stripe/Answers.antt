use Rattle.std.proofs.Common.{refl, arith}
use Rattle.pot_recheck.specs.Listing.{unsound_at, in_stripe}
use Rattle.pot_recheck.proofs.Rows.{rows_more, rows_end}
use Rattle.pot_recheck.proofs.listing.append_stripe.Goals as goal

pub loop-column-preserved : goal.loop-column-preserved
loop-column-preserved c =
    rows_more (unsound_at c.args.group c.args.table.now c.args.stripe) c.loop-column.column _ _ _ _ c.loop-column.invariant c.in_ok-append_slot.ensures refl

pub returns : goal.returns
unfolding in_stripe
returns c =
    rows_end (unsound_at c.args.group c.args.table.now c.args.stripe) c.loop-column.column _ _ _ c.loop-column.invariant (omega (arith, c.loop-column-test.false, c.loop-column.auto.column-end, c.data_columns.ensures.value, c.parity.ensures.value))
