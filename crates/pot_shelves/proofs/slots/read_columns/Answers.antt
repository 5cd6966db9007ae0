use Rattle.std.proofs.Common.{IsTrue, add-one, arith}
use Rattle.pot_shelves.specs.Shelves.{plain}
use Rattle.pot_shelves.proofs.SlotReads.{reads_none, reads_more, reads_served}
use Rattle.pot_shelves.proofs.slots.read_columns.Goals as goal

pub loop-column-init : goal.loop-column-init
loop-column-init g c = reads_none (IsTrue g.A.Archive.account.tells) c.args.stripe c.args.table.now c.args.readings.now (plain g.A.Archive.account.meaning c.args.archives.now) c.told-readings

pub read_slot-requires-clause-archives : goal.read_slot-requires-clause-archives
read_slot-requires-clause-archives g c = reads_served _ _ _ _ _ _ _ (omega (arith, c.loop-column-test.true, c.data_columns.ensures.value, c.parity.ensures.value, c.data_columns.ensures.rules.size.data_columns, c.data_columns.ensures.rules.size.parity))
    c.loop-column.invariant c.requires.archives c.loop-column.column (omega arith)

pub loop-column-preserved : goal.loop-column-preserved
loop-column-preserved g c = rw add-one (reads_more _ _ _ _ _ _ _ _ _ c.loop-column.invariant c.read_slot.ensures)
