use Rattle.std.proofs.Common.{◌≡◌, ◌≤◌, ◌*◌, ℕ, IsTrue, length}
use Rattle.pot_outside.specs.Rooms.{IsHome}
use Rattle.pot_session.specs.Recovering.{AreHeldIn}
use Rattle.pot_session.proofs.recovery.recovering.read_archives.Given as goal

abbrev pub invariant-loop-number : goal.invariant-loop-number
invariant-loop-number g l = record {
  held : IsTrue g.R.A.Archive.account.tells → AreHeldIn l.number l.task.stripes (g.R.Room.meaning l.initial.room).means (g.R.Room.meaning l.room).means l.blocks.items;
  few : length l.blocks.items ≤ l.number * 4096;
  home : IsHome (g.R.Room.meaning l.room);
  others : (n : ℕ) → l.number ≤ n → (g.R.Room.meaning l.room).means n ≡ (g.R.Room.meaning l.initial.room).means n;
  later : (g.R.Room.meaning l.initial.room).faults ≤ (g.R.Room.meaning l.room).faults;
  own : (g.R.Room.meaning l.initial.room).failures ≤ (g.R.Room.meaning l.room).failures;
}
