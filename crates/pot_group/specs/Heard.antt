-- What the archives of a group may have heard: the sums of the relays that stood, as the log has
-- them.
use Rattle.std.specs.Prelude.{◌≡◌, ◌⊎◌, ℕ, suc, IsSomeAnd, List, [], ◌∷◌, ◌++◌, Some, Contains}
use Rattle.pot_machine.specs.declared.entry.Entry.{Entry}
use Rattle.pot_machine.specs.declared.entry.Entry.TheVariants as entry
use Rattle.pot_machine.specs.Table.{Table, slot_at, serving_at, next_column}
use Rattle.pot_machine.specs.Machine.{after}
use Rattle.pot_steps.specs.declared.flight.Flight.{Flight}
use Rattle.pot_steps.specs.Flight.{unfolded, weight_in}
use Rattle.pot_steps.specs.Flights.{flight_in, flights_after}
use Rattle.pot_shelves.specs.Shelves.{Shelves}
use Rattle.pot_group.specs.Frames.{HasDigestOf}

-- a sum with its slot
abbrev pub Sum : Type 0
Sum = ℕ × List ℕ

-- The block that is given with an entry: at a Begin the blind, and at a Hop the sum that the fold
-- left, to which a block of the digest of its slot was added.
abbrev pub GivesBlock : Table → List Flight → Entry → List ℕ → Type 0
GivesBlock t flights (entry.Hop job s c) given =
    IsSomeAnd (flight_in flights s)
    (λ f. HasDigestOf (slot_at t s c) (unfolded (weight_in t.data_columns f.relay c) f.sum given))
GivesBlock t flights _ given = Unit {0}

-- how many relays a log begins
abbrev pub begins : List Entry → ℕ
begins [] = 0
begins (entry.Begin job s c ∷ log) = suc (begins log)
begins (_ ∷ log) = begins log

-- their blinds, of the blocks given at its entries
abbrev pub blinds_in : List Entry → List (List ℕ) → List (List ℕ)
blinds_in [] givens = []
blinds_in (e ∷ log) [] = []
blinds_in (entry.Begin job s c ∷ log) (given ∷ givens) = given ∷ blinds_in log givens
blinds_in (_ ∷ log) (given ∷ givens) = blinds_in log givens

-- the blinds once an entry is logged, with the block given with it
abbrev pub blinds_after : Entry → List ℕ → List (List ℕ) → List (List ℕ)
blinds_after (entry.Begin job s c) given blinds = blinds ++ given ∷ []
blinds_after _ given blinds = blinds

-- the flights from the first of these entries on to the last, with the block given at each
abbrev pub FlyBy : Table → List Flight → List Entry → List (List ℕ) → List Flight → Type 0
FlyBy t flights [] givens now = (givens ≡ []) × (now ≡ flights)
FlyBy t flights (e ∷ log) [] now = ⊥
FlyBy t flights (e ∷ log) (given ∷ givens) now =
    GivesBlock t flights e given
    × FlyBy (after t e) (flights_after t e given flights) log givens now

-- a flight stands over the slot, which comes next to the column that this archive serves, and this
-- is its sum
abbrev pub IsSumOf : Table → List Flight → ℕ → Sum → Type 0
IsSumOf t flights number x =
    (c : ℕ) × (number ≡ serving_at t x.0 c)
    × IsSomeAnd (flight_in flights x.0)
    (λ f. (next_column t f.relay ≡ Some c) × (x.1 ≡ f.sum))

-- before one of the entries, or after all, there was one
abbrev pub FoldedBy : Table → List Flight → List Entry → List (List ℕ) → ℕ → Sum → Type 0
FoldedBy t flights [] givens number x = IsSumOf t flights number x
FoldedBy t flights (e ∷ log) [] number x = ⊥
FoldedBy t flights (e ∷ log) (given ∷ givens) number x =
    IsSumOf t flights number x
    ⊎ FoldedBy (after t e) (flights_after t e given flights) log givens number x

-- Each sum that an archive ever heard it had heard when it was taken, or it is the sum of a flight
-- that came to the archive. A flight begins with its blind, which is the one that the group had for
-- its Begin, and each hop adds to its sum a block of the digest of the slot that it goes over,
-- times its weight.
pub record HasHeard (first : Table) (log : List Entry) (blinds : List (List ℕ))
    (flights : List Flight) (s : Shelves) : Type 0 where
  pub givens : List (List ℕ)
  pub are : blinds ≡ blinds_in log givens
  pub fly : FlyBy first [] log givens flights
  pub sums : (number : ℕ) (x : Sum) → Contains (s.heard number) x
      → Contains (s.taken number).heard x ⊎ FoldedBy first [] log givens number x
