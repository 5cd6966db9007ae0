use Rattle.std.proofs.Common.{inl, inr, arith}
use Rattle.std.proofs.lemmas.Grind.{common_steps}
use Rattle.pot_outside.specs.Archives.{IsMeant}
use Rattle.pot_doubles.specs.Archives.{meaning_in}
use Rattle.pot_doubles.specs.Rooms.{means_in}
use Rattle.pot_doubles.proofs.room.MemRoomRoom.take.Goals as goal

-- the archive that came out of its shelf, or the empty one that came back where there is no shelf
taken : (c : goal.After-under) → IsMeant (means_in c.args.self.now c.args.number) (meaning_in c.in-Ok-exchange.archive)
taken c = elim c.in-Ok-exchange.is [
  | inl e ↦ record {
    blocks = (λ k. grind (arith, common_steps));
    past = grind (arith, common_steps);
    sums = grind (arith, common_steps);
    faulted = grind (arith, common_steps);
    lost = grind (arith, common_steps);
  }
  | inr e ↦ record {
    blocks = (λ k. grind (arith, common_steps));
    past = grind (arith, common_steps);
    sums = grind (arith, common_steps);
    faulted = grind (arith, common_steps);
    lost = grind (arith, common_steps);
  }
]

pub returns-clause-told : goal.returns-clause-told
returns-clause-told c = rw c.under.ensures.means (taken c)
