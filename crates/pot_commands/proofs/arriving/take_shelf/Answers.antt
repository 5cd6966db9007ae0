use Rattle.std.proofs.Common.{sym, ◌∙◌}
use Rattle.pot_commands.proofs.ArrivingLemmas.{same_at}
use Rattle.pot_commands.proofs.arriving.take_shelf.Goals as goal

pub returns-in-Err-Failed-clause-stays : goal.returns-in-Err-Failed-clause-stays
returns-in-Err-Failed-clause-stays g c n = (
  same_at (g.R.Room.meaning c.args.room.now).means (g.R.Room.meaning c.take.new.self).means c.args.number c.in-Err-Failed.ensures.unchanged (λ m ne. (c.take.ensures.others m ne).0) n,
  same_at (g.R.Room.meaning c.args.room.now).out (g.R.Room.meaning c.take.new.self).out c.args.number (c.in-Err-Failed.ensures.refused ∙ sym c.requires.home) (λ m ne. (c.take.ensures.others m ne).1) n,
)

pub returns-in-Err-NoMemory-clause-stays : goal.returns-in-Err-NoMemory-clause-stays
returns-in-Err-NoMemory-clause-stays g c n = (
  same_at (g.R.Room.meaning c.args.room.now).means (g.R.Room.meaning c.take.new.self).means c.args.number c.in-Err-NoMemory.ensures.unchanged (λ m ne. (c.take.ensures.others m ne).0) n,
  same_at (g.R.Room.meaning c.args.room.now).out (g.R.Room.meaning c.take.new.self).out c.args.number (c.in-Err-NoMemory.ensures.refused ∙ sym c.requires.home) (λ m ne. (c.take.ensures.others m ne).1) n,
)
