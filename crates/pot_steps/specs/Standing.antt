-- The relays of a table as relays of its stripes.
use Rattle.std.specs.Prelude.{◌≡◌, ℕ, ◌≤◌, Some, None}
use Rattle.pot_machine.specs.declared.relay.Relay.{Relay}
use Rattle.pot_machine.specs.Table.{Table, next_column}
use Rattle.pot_machine.specs.Machine.{TakesRelay}
use Rattle.pot_machine.specs.Rules.{IsStanding}
use Rattle.pot_steps.specs.Law.{lost_count}
use Rattle.pot_steps.specs.Flight.{IsRelay, IsNext, HasNoNext}
use Rattle.pot_steps.specs.Holdings.{Holdings, stripe_of}

-- the machine's next column is the next column of the stripe
abbrev pub NextIsNext : Type 0
NextIsNext =
    (t : Table) (h : Holdings) (r : Relay) (c : ℕ) → next_column t r ≡ Some c
    → IsNext t.data_columns t.parity (stripe_of t h r.stripe) r c

-- and where the machine has none, the relay went over all its columns
abbrev pub NoneIsNoNext : Type 0
NoneIsNoNext =
    (t : Table) (h : Holdings) (r : Relay) → next_column t r ≡ None
    → HasNoNext t.data_columns t.parity (stripe_of t h r.stripe) r

-- a relay that stands in a table is one of its stripe
abbrev pub StandingIsRelay : Type 0
StandingIsRelay = (t : Table) (r : Relay) → IsStanding t r → IsRelay t.data_columns t.parity r

-- where a relay may begin, no more slots are Lost than there are parity columns
abbrev pub BeginHasFew : Type 0
BeginHasFew =
    (t : Table) (h : Holdings) (s c : ℕ) → TakesRelay t s c
    → lost_count t.data_columns t.parity (stripe_of t h s) ≤ t.parity
