use Rattle.std.proofs.Common.{◌≡◌, ◌≤◌, ℕ}
use Rattle.std.specs.Prelude.{IsErr, vec_len, vec_capacity}
use Rattle.pot_outside.specs.Counts.{Caused}
use Rattle.pot_shelves.specs.Shelves.{numbers_of}
use Rattle.pot_shared.specs.Hands.{times}
use Rattle.pot_commands.specs.Holding.{AreOut, Untouched}
use Rattle.pot_session.proofs.GivingLemmas.{GivenSofar}
use Rattle.pot_session.proofs.session.archives.give_all.Given as goal

abbrev pub invariant-loop-hand : goal.invariant-loop-hand
invariant-loop-hand g l = record {
  out : AreOut (g.R.Room.meaning l.room) (numbers_of l.hand.items);
  fewer : (n : ℕ) → times n (numbers_of l.hand.items) ≤ times n (numbers_of l.initial.hand.items);
  untouched : Untouched (numbers_of l.initial.hand.items) (g.R.Room.meaning l.initial.room) (g.R.Room.meaning l.room);
  given : GivenSofar g.R.A.Archive.account l.initial.hand.items l.hand.items (g.R.Room.meaning l.initial.room) (g.R.Room.meaning l.room) l.answer;
  space : vec_capacity l.hand ≡ vec_capacity l.initial.hand;
  cause : Caused (g.R.Room.meaning l.initial.room).faults (g.R.Room.meaning l.room).faults (IsErr l.answer);
}

abbrev pub decreases-loop-hand : goal.decreases-loop-hand
decreases-loop-hand g l = vec_len l.hand
