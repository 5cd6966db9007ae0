-- The flights of a group, one for each relay of its table: what an entry does to them and to what
-- the archives hold, and what is kept of them.
use Rattle.std.specs.Prelude.{◌≡◌, ◌≢◌, ◌⊎◌, ℕ, ◌+◌, ◌<◌, ◌==◌, not, List, [], ◌∷◌, ◌++◌, Option}
use Rattle.std.specs.Prelude.{Some, None, IfSome, IsSomeAnd, true, false, find, map, filter}
use Rattle.std.specs.Prelude.{if◌then◌else◌}
use Rattle.pot_bytes.specs.declared.digest.Digest.{Digest}
use Rattle.pot_bytes.specs.Sums.{xor}
use Rattle.pot_bytes.specs.Weighted.{scaled}
use Rattle.pot_machine.specs.declared.relay.Relay.{Relay}
use Rattle.pot_machine.specs.declared.slot.SlotState.TheVariants.{Broken}
use Rattle.pot_machine.specs.declared.entry.Entry.{Entry}
use Rattle.pot_machine.specs.declared.entry.Entry.TheVariants.{Broke, Begin, Hop, Mended, GaveUp}
use Rattle.pot_machine.specs.declared.entry.Entry.TheVariants.{Oddly, Stuck, MoveBegin, Moved}
use Rattle.pot_machine.specs.declared.entry.Entry.TheVariants.{MoveEnd, Swapped}
use Rattle.pot_machine.specs.Slot.{digest_in, is_lost}
use Rattle.pot_machine.specs.Table.{Table, width, slot_at, relay_at, first_beside}
use Rattle.pot_machine.specs.Machine.{Legal, after, hopped}
use Rattle.pot_machine.specs.Rules.{IsTable}
use Rattle.pot_bytes.specs.Lists.{IsBlock}
use Rattle.pot_bytes.specs.Digests.{digest_of}
use Rattle.pot_steps.specs.Stripe.{Stripe, IsSound, NoneBroken}
use Rattle.pot_steps.specs.declared.flight.Flight.{Flight}
use Rattle.pot_steps.specs.Flight.{FlightLaw, partial_of, weight_in}
use Rattle.pot_steps.specs.Holdings.{Holdings, StripesConsistent, stripe_of}
use Rattle.pot_steps.specs.Entries.{LosesAtLive, Enters, held_at}

-- the flight over a stripe
abbrev pub flight_in : List Flight → ℕ → Option Flight
flight_in flights s = find (λ f. f.relay.stripe == s) flights

-- the relay that Begin adds, and the flight that begins with it
abbrev pub begun_relay : Table → ℕ → ℕ → Relay
begun_relay t s c =
    record { stripe = s; target = c; skip = first_beside t s c is_lost; last = None }

abbrev pub begun : Table → ℕ → ℕ → List ℕ → Flight
begun t s c blind = record { relay = begun_relay t s c; blind = blind; sum = blind }

-- the flight over this stripe goes over a column, which leaves this sum
abbrev pub flown : ℕ → ℕ → List ℕ → Flight → Flight
flown s c sum f =
    record {
      relay = hopped s c f.relay;
      blind = f.blind;
      sum = if f.relay.stripe == s then sum
          else f.sum;
    }

abbrev pub without_flight : List Flight → ℕ → List Flight
without_flight flights s = filter (λ f. not (f.relay.stripe == s)) flights

-- The flights after an entry. `given` is the blind at a Begin, and at a Hop the sum that the fold
-- left.
abbrev pub flights_after : Table → Entry → List ℕ → List Flight → List Flight
flights_after t (Begin job s c) given flights = flights ++ begun t s c given ∷ []
flights_after t (Hop job s c) given flights = map (flown s c given) flights
flights_after t (Mended job s c) given flights = without_flight flights s
flights_after t (GaveUp job s c other) given flights = without_flight flights s
flights_after t (Oddly job s c found) given flights = without_flight flights s
flights_after t _ given flights = flights

-- a fold over a sound slot: the sum grows by its weight times its block
pub record FoldsIn (t : Table) (h : Holdings) (f : Flight) (c : ℕ) (sum : List ℕ) : Type 0 where
  pub block : List ℕ
  pub sound : IsSound (stripe_of t h f.relay.stripe) c block
  pub is_block : IsBlock block
  pub grows : sum ≡ xor f.sum (scaled (weight_in t.data_columns f.relay c) block)

-- the partial, which has the digest of the target's slot, is written there
pub record WritesBack (t : Table) (h h' : Holdings) (f : Flight) (s c : ℕ) : Type 0 where
  pub digest : digest_in (slot_at t s c) ≡ Some (digest_of (partial_of f))
  pub written : held_at t h' s c ≡ Some (partial_of f)
  pub others : (n k : ℕ) → n < t.stripes → k < width t → (n ≢ s) ⊎ (k ≢ c)
      → held_at t h' n k ≡ held_at t h n k

-- the block of a sound slot is written to the archive that serves it in the table `u`, where the
-- move has gone on
pub record Copies (t u : Table) (h h' : Holdings) (s c : ℕ) : Type 0 where
  pub block : List ℕ
  pub sound : IsSound (stripe_of t h s) c block
  pub written : held_at u h' s c ≡ Some block
  pub others : (n k : ℕ) → n < t.stripes → k < width t → (n ≢ s) ⊎ (k ≢ c)
      → held_at t h' n k ≡ held_at t h n k

-- What an entry says of the archives' contents before and after it, and of the block that is handed
-- in with it.
abbrev pub Acts : Table → List Flight → List ℕ → Entry → Holdings → Holdings → Type 0
Acts t flights given (Broke job s c) h h' = (relay_at t s ≡ None) × LosesAtLive t h h'
Acts t flights given (Begin job s c) h h' = IsBlock given × LosesAtLive t h h'
Acts t flights given (Hop job s c) h h' =
    IsSomeAnd (flight_in flights s) (λ f. FoldsIn t h f c given) × LosesAtLive t h h'
Acts t flights given (Mended job s c) h h' =
    IsSomeAnd (flight_in flights s) (λ f. WritesBack t h h' f s c)
Acts t flights given (GaveUp job s c other) h h' = LosesAtLive t h h'
Acts t flights given (Oddly job s c found) h h' = LosesAtLive t h h'
Acts t flights given (Stuck job s c other) h h' = LosesAtLive t h h'
Acts t flights given (MoveBegin job c to) h h' = LosesAtLive t h h'
Acts t flights given (Moved job s c true) h h' = Copies t (after t (Moved job s c true)) h h' s c
Acts t flights given (Moved job s c false) h h' = LosesAtLive t h h'
Acts t flights given (MoveEnd job c) h h' = LosesAtLive t h h'
Acts t flights given (Swapped job c to) h h' = LosesAtLive t h h'
Acts t flights given e h h' = Enters t e h h'

-- WHAT IS KEPT

-- there is a flight for each relay, in the same order
abbrev pub AreFlights : Table → List Flight → Type 0
AreFlights t flights = map (λ f. f.relay) flights ≡ t.relays

-- A flight over a stripe. No slot beside its target is Broken, and with two parity columns none at
-- all.
pub record IsFlying (data_columns parity : ℕ) (s : Stripe) (f : Flight) : Type 0 where
  pub blind : IsBlock f.blind
  pub sum : IsBlock f.sum
  pub beside : (c : ℕ) (d : Digest) → c < data_columns + parity → c ≢ f.relay.target
      → s.slots c ≢ Broken d
  pub unbroken : parity ≡ 2 → NoneBroken data_columns parity s
  pub law : FlightLaw data_columns parity s f.relay (partial_of f)

abbrev pub FliesOver : ℕ → ℕ → Stripe → Option Flight → Type 0
FliesOver data_columns parity s flight = IfSome flight (IsFlying data_columns parity s)

-- the law of every flight
abbrev pub FlightsHold : Table → Holdings → List Flight → Type 0
FlightsHold t h flights =
    (s : ℕ) → s < t.stripes
    → FliesOver t.data_columns t.parity (stripe_of t h s) (flight_in flights s)

-- a table that keeps its rules, with the law of every stripe and of every flight
pub record Stands (t : Table) (h : Holdings) (flights : List Flight) : Type 0 where
  pub table : IsTable t
  pub relays : AreFlights t flights
  pub holds : StripesConsistent t h
  pub flying : FlightsHold t h flights

-- each entry keeps all of it, wherever relays stand
abbrev pub ActKeeps : Type 0
ActKeeps =
    (t : Table) (e : Entry) (flights : List Flight) (given : List ℕ) (h h' : Holdings) → Legal t e
    → Acts t flights given e h h'
    → Stands t h flights → Stands (after t e) h' (flights_after t e given flights)

-- and so does any loss
abbrev pub LossKeepsAll : Type 0
LossKeepsAll =
    (t : Table) (flights : List Flight) (h h' : Holdings) → LosesAtLive t h h' → Stands t h flights
    → Stands t h' flights
