use Rattle.std.proofs.Common.{◌≡◌, ◌≤◌, IsTrue}
use Rattle.pot_shared.specs.Works.{known}
use Rattle.pot_shared.specs.Callers.{CanCall}
use Rattle.pot_commands.specs.Taking.{AreUsed}
use Rattle.pot_commands.specs.Sharing.{common_of}
use Rattle.pot_commands.proofs.DrawnLemmas.{AreBlindBelow}
use Rattle.pot_commands.proofs.WorkingLemmas.{IsWorking}
use Rattle.pot_commands.proofs.working.work.Given as goal

abbrev pub invariant-loop-step : goal.invariant-loop-step
invariant-loop-step g l = record {
  working : IsWorking g.K.Sink.account.tells (IsTrue g.R.A.Archive.account.tells) l.crew.shared.vault.now.rack l.crew.shared.seed.now l.crew.shared.session (g.K.Sink.account.meaning l.initial.sink).held (g.K.Sink.account.meaning l.sink).held l.steps l.step-index l.job
      l.refused (g.R.Room.meaning l.initial.room) (g.R.Room.meaning l.room) (known l.initial.passes.groups l.initial.passes.index) (known l.passes.groups l.passes.index);
  blind : AreBlindBelow (common_of l.crew.shared) l.job (known l.initial.passes.groups l.initial.passes.index) (known l.passes.groups l.passes.index);
  can : CanCall l.crew.shared.vault.now l.passes;
  used : AreUsed (g.R.Room.meaning l.room) l.passes.groups;
  room_later : (g.R.Room.meaning l.initial.room).faults ≤ (g.R.Room.meaning l.room).faults;
  room_own : (g.R.Room.meaning l.room).failures ≡ (g.R.Room.meaning l.initial.room).failures;
  later : (g.K.Sink.account.meaning l.initial.sink).faults ≤ (g.K.Sink.account.meaning l.sink).faults;
}
