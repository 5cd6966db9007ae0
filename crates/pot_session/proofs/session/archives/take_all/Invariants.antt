use Rattle.std.proofs.Common.{◌≡◌, ◌≤◌, IsTrue, take}
use Rattle.std.specs.Prelude.{vec_capacity}
use Rattle.pot_shelves.specs.Shelves.{numbers_of}
use Rattle.pot_shared.specs.Hands.{AreMeant}
use Rattle.pot_commands.specs.Holding.{AreOut, Untouched}
use Rattle.pot_session.proofs.session.archives.take_all.Given as goal

abbrev pub invariant-loop-number : goal.invariant-loop-number
invariant-loop-number g l = record {
  taken : numbers_of l.hand.items ≡ take l.number-index l.numbers;
  out : AreOut (g.R.Room.meaning l.room) (take l.number-index l.numbers);
  meant : IsTrue g.R.A.Archive.account.tells → AreMeant g.R.A.Archive.account.meaning (g.R.Room.meaning l.initial.room).means l.hand.items;
  untouched : Untouched (take l.number-index l.numbers) (g.R.Room.meaning l.initial.room) (g.R.Room.meaning l.room);
  space : vec_capacity l.hand ≡ vec_capacity l.initial.hand;
  later : (g.R.Room.meaning l.initial.room).faults ≤ (g.R.Room.meaning l.room).faults;
  own : (g.R.Room.meaning l.room).failures ≡ (g.R.Room.meaning l.initial.room).failures;
}
