-- What keeps the law of the Live slots, where each archive counts its losses.
use Rattle.std.specs.Prelude.{◌≡◌, ◌≢◌, ◌⊎◌, ℕ, ◌<◌, List, Some, IsTrue}
use Rattle.pot_machine.specs.declared.slot.SlotState.TheVariants.{Void}
use Rattle.pot_machine.specs.declared.entry.Entry.{Entry}
use Rattle.pot_machine.specs.Slot.{is_live}
use Rattle.pot_machine.specs.Table.{Table, width, slot_at, serving_at}
use Rattle.pot_machine.specs.Machine.{Legal, after}
use Rattle.pot_machine.specs.Rules.{IsTable}
use Rattle.pot_machine.specs.Laws.{PutsInto}
use Rattle.pot_steps.specs.Holdings.{Holdings, LiveLaw}
use Rattle.pot_steps.specs.declared.flight.Flight.{Flight}
use Rattle.pot_steps.specs.Entries.{Enters, held_at}
use Rattle.pot_steps.specs.Flights.{Acts}
use Rattle.pot_steps.specs.GroupStep.{GroupState, StartStep}

-- a block of a place that is not Void goes only from an archive whose count of losses rose
pub record CountsLosses (t : Table) (h h' : Holdings) (rose : ℕ → Type 0) : Type 0 where
  pub keeps : (s c : ℕ) (b : List ℕ) → s < t.stripes → c < width t → slot_at t s c ≢ Void
      → held_at t h s c ≡ Some b
      → (held_at t h' s c ≡ Some b) ⊎ rose (serving_at t s c)

-- no block of a Live place goes
abbrev pub KeepsHeld : Table → Holdings → Holdings → Type 0
KeepsHeld t h h' =
    (s c : ℕ) (b : List ℕ) → s < t.stripes → c < width t → IsTrue (is_live (slot_at t s c))
    → held_at t h s c ≡ Some b → held_at t h' s c ≡ Some b

-- The laws take first what `rose` means, since a clause can range over no predicate.

-- a loss keeps the law of the Live slots. A count that rose by then has risen afterwards too
abbrev pub LossesKeepLive : (ℕ → Type 0) → (ℕ → Type 0) → Type 0
LossesKeepLive rose rose' =
    (t : Table) (h h' : Holdings) → ((number : ℕ) → rose number → rose' number)
    → CountsLosses t h h' rose' → LiveLaw t h rose → LiveLaw t h' rose'

-- and so does an entry of a put, a look, an opening or a count, which loses nothing
abbrev pub EntryKeepsLive : (ℕ → Type 0) → Type 0
EntryKeepsLive rose =
    (t : Table) (e : Entry) (h h' : Holdings) → IsTable t → Legal t e → Enters t e h h'
    → (((s : ℕ) → PutsInto e s → ⊥) → KeepsHeld t h h') → LiveLaw t h rose
    → LiveLaw (after t e) h' rose

-- and so does every other entry
abbrev pub ActKeepsLive : (ℕ → Type 0) → Type 0
ActKeepsLive rose =
    (t : Table) (e : Entry) (flights : List Flight) (given : List ℕ) (h h' : Holdings) → IsTable t
    → Legal t e → Acts t flights given e h h'
    → (((s : ℕ) → PutsInto e s → ⊥) → KeepsHeld t h h') → LiveLaw t h rose
    → LiveLaw (after t e) h' rose

-- the opening makes it hold
abbrev pub StartMakesLive : (ℕ → Type 0) → Type 0
StartMakesLive rose =
    (old new : GroupState) → StartStep old new → IsTable old.table
    → CountsLosses old.table old.held new.held rose → LiveLaw new.table new.held rose
