use Rattle.std.proofs.Common.{refl}
use Rattle.pot_lanes.proofs.Four.{at_is}
use Rattle.pot_lanes.proofs.rounds.add_states.Goals as goal

pub returns : goal.returns
returns c = λ l lt.
    rw (
      at_is _ _ c.add.ensures l lt,
      at_is _ _ c.add-2.ensures l lt,
      at_is _ _ c.add-3.ensures l lt,
      at_is _ _ c.add-4.ensures l lt,
      at_is _ _ c.add-5.ensures l lt,
      at_is _ _ c.add-6.ensures l lt,
      at_is _ _ c.add-7.ensures l lt,
      at_is _ _ c.add-8.ensures l lt,
    )
    refl
