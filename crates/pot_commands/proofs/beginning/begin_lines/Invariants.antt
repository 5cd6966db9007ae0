use Rattle.std.specs.Prelude.{◌≡◌, ◌≤◌, IsTrue, length}
use Rattle.std.specs.Vec.{vec_capacity}
use Rattle.pot_shared.specs.Works.{known}
use Rattle.pot_shared.specs.Callers.{CanCall}
use Rattle.pot_commands.specs.Taking.{AreUsed}
use Rattle.pot_commands.proofs.BeginLemmas.{IsBeginning}
use Rattle.pot_commands.proofs.beginning.begin_lines.Given as goal

abbrev pub invariant-loop-index : goal.invariant-loop-index
invariant-loop-index g l = record {
  can : CanCall l.shared.vault.now l.passes;
  used : AreUsed (g.R.Room.meaning l.room) l.passes.groups;
  beginning : IsBeginning l.shared.vault.now.rack (IsTrue g.R.A.Archive.account.tells) l.job l.lines l.index l.tasks.items (g.R.Room.meaning l.initial.room)
      (g.R.Room.meaning l.room) (known l.initial.passes.groups l.initial.passes.index) (known l.passes.groups l.passes.index);
  own : (g.R.Room.meaning l.room).failures ≡ (g.R.Room.meaning l.initial.room).failures;
  later : (g.R.Room.meaning l.initial.room).faults ≤ (g.R.Room.meaning l.room).faults;
  space : length l.lines ≤ vec_capacity l.tasks;
}
