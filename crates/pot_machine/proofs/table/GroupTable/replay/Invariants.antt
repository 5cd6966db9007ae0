use Rattle.std.proofs.Common.{take}
use Rattle.pot_machine.specs.Machine.{Replays}
use Rattle.pot_machine.proofs.table.GroupTable.replay.Given as goal

abbrev pub invariant-loop-entry : goal.invariant-loop-entry
invariant-loop-entry l = Replays l.fn.self (take l.entry-index l.entries) l.self
