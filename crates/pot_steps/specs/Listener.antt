-- What one archive hears of a relay, and what it can't tell from that.
use Rattle.std.specs.Prelude.{◌≡◌, ◌↔◌, ◌<◌, ◌+◌, ℕ, List, true}
use Rattle.pot_bytes.specs.Sums.{xor}
use Rattle.pot_machine.specs.declared.relay.Relay.{Relay}
use Rattle.pot_bytes.specs.Lists.{IsBlock}
use Rattle.pot_steps.specs.Stripe.{Stripe}
use Rattle.pot_steps.specs.declared.flight.Flight.{Flight}
use Rattle.pot_steps.specs.Flight.{FoldsBlocks, IsPartial, folded}
use Rattle.pot_steps.specs.Flights.{IsFlying}

-- a relay that began with this blind and went over these blocks hands this sum to its next column
abbrev pub Hands : ℕ → ℕ → Stripe → Relay → (ℕ → List ℕ) → List ℕ → List ℕ → Type 0
Hands data_columns parity s r blocks blind sum =
    (partial : List ℕ) × IsBlock partial × IsPartial data_columns parity s r blocks partial
    × (sum ≡ xor blind partial)

-- the columns that the relay has gone over have blocks
abbrev pub AreFolded : ℕ → ℕ → Stripe → Relay → (ℕ → List ℕ) → Type 0
AreFolded data_columns parity s r blocks =
    (c : ℕ) → c < data_columns + parity → folded data_columns s.slots r c ≡ true
    → IsBlock (blocks c)

-- a bijection of blinds under which two contents hand on the same sums
pub record Exchanges (data_columns parity : ℕ) (s : Stripe) (r : Relay)
    (blocks others : ℕ → List ℕ) : Type 0 where
  -- the partials of the two
  pub partial : List ℕ
  pub other : List ℕ
  -- the blind with both XORed into it, which is its own inverse
  pub to : List ℕ → List ℕ
  pub is : (blind : List ℕ) → to blind ≡ xor (xor blind partial) other
  pub partials : IsPartial data_columns parity s r blocks partial
      × IsPartial data_columns parity s r others other
  pub block : (blind : List ℕ) → IsBlock blind → IsBlock (to blind)
  pub inverse : (blind : List ℕ) → IsBlock blind → to (to blind) ≡ blind
  pub same : (blind sum : List ℕ) → IsBlock blind
      → Hands data_columns parity s r blocks blind sum
      ↔ Hands data_columns parity s r others (to blind) sum

-- What one archive hears fits every content of the columns that the relay went over before: for any
-- two there is such a bijection.
abbrev pub ListenerFits : Type 0
ListenerFits =
    (data_columns parity : ℕ) (s : Stripe) (r : Relay) (blocks others : ℕ → List ℕ)
    → AreFolded data_columns parity s r blocks → AreFolded data_columns parity s r others
    → Exchanges data_columns parity s r blocks others

-- what a flight hands to its next column: its sum, by its blind, over the blocks of the columns
-- that it went over
abbrev pub FlightHands : Type 0
FlightHands =
    (data_columns parity : ℕ) (s : Stripe) (f : Flight) → IsFlying data_columns parity s f
    → (blocks : ℕ → List ℕ) × FoldsBlocks data_columns parity s f.relay blocks
    × Hands data_columns parity s f.relay blocks f.blind f.sum
