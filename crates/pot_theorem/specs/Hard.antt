-- What worlds say of the runs of the program.
use Rattle.std.specs.Prelude.{◌≡◌, ◌≢◌, ◌<◌, ℕ, List, ◌∷◌, Contains, None, Some}
use Rattle.std.specs.Prelude.{IsTrue, slice_get}
use Rattle.pot_bytes.specs.declared.digest.Digest.{Digest}
use Rattle.pot_bytes.specs.Digests.{digest_of}
use Rattle.pot_outside.specs.Archives.{Meaning}
use Rattle.pot_machine.specs.declared.entry.Entry.{Entry}
use Rattle.pot_machine.specs.declared.slot.SlotState.TheVariants.{Void, Broken}
use Rattle.pot_machine.specs.Column.{names}
use Rattle.pot_machine.specs.Logs.{Fills}
use Rattle.pot_machine.specs.Table.{Table, column_at, next_column, serving_at, slot_at, width}
use Rattle.pot_steps.specs.declared.flight.Flight.{Flight}
use Rattle.pot_steps.specs.Flight.{partial_of}
use Rattle.pot_steps.specs.Flights.{flight_in}
use Rattle.pot_steps.specs.Holdings.{stripe_of}
use Rattle.pot_steps.specs.Stripe.{Filling}
use Rattle.pot_session.specs.Stripes.{held_in}
use Rattle.pot_world.specs.Coalition.{Served}
use Rattle.pot_world.specs.Group.{WorldGroup}
use Rattle.pot_world.specs.Reached.{Site}
use Rattle.pot_theorem.specs.Another.{AnotherFile}
use Rattle.pot_theorem.specs.Sessions.{ClosedSession, AreInARow, last_session}
use Rattle.pot_theorem.specs.Veil.{IsCoalitionVeiled}
use Rattle.pot_theorem.specs.Worlds.{IsGroupOf, IsInWorld, had_with}

-- STRIPES

-- Each stripe of a table is a codeword of blocks written, whatever was lost since: no slot is
-- Broken, the blocks have the digests of their slots and weighted sums of zero, and the archive
-- that serves a slot that is not Void means its block or none.
pub record AreCodewords (means : ℕ → Meaning) (t : Table) (blocks : ℕ → ℕ → List ℕ) : Type 0 where
  pub unbroken : (s k : ℕ) (d : Digest) → s < t.stripes → k < width t → slot_at t s k ≢ Broken d
  pub filled : (s : ℕ) → s < t.stripes
      → Filling t.data_columns t.parity (stripe_of t (held_in means) s) (blocks s)
  pub holds : (s k : ℕ) (b : List ℕ) → s < t.stripes → k < width t → slot_at t s k ≢ Void
      → (means (serving_at t s k)).held s ≡ Some b → b ≡ blocks s k

-- no relay comes to a block that is not the one written
abbrev pub NoneIsOdd : WorldGroup → Type 0
NoneIsOdd h =
    (s : ℕ) (f : Flight) → flight_in h.state.flights s ≡ Some f
    → next_column h.state.table f.relay ≡ None
    → partial_of f ≡ h.written f.relay.stripe f.relay.target

-- so it is of each group that a session left
abbrev pub StripesStand : ClosedSession → Site → Type 0
StripesStand c z =
    (g : ℕ) (read written : Table) (log : List Entry) (h : WorldGroup)
    → IsGroupOf c g read written log → slice_get z.groups g ≡ Some h
    → AreCodewords c.room.after.means written h.written × NoneIsOdd h

-- PLACES

-- A block that a log says was put at a place of a group is, by its digest, the one of that place in
-- the codeword.
abbrev pub PlacesStand : ClosedSession → Site → Type 0
PlacesStand c z =
    (g : ℕ) (read written : Table) (log : List Entry) (h : WorldGroup) (e : Entry) (s k : ℕ)
    (d : Digest) → IsGroupOf c g read written log → slice_get z.groups g ≡ Some h → Contains log e
    → Fills s k d e → digest_of (h.written s k) ≡ d

-- WHAT SERVES

-- the home and the target of a column have served it
abbrev pub HomesServe : ClosedSession → Site → Type 0
HomesServe c z =
    (g : ℕ) (read written : Table) (log : List Entry) (h : WorldGroup) (k n : ℕ)
    → IsGroupOf c g read written log → slice_get z.groups g ≡ Some h → k < width written
    → IsTrue (names (column_at written k) n) → Served h k n × Contains (had_with read log) n

-- THE WHOLE

-- What runs of the program leave, from the first one on, as a world has it.
pub record HoldsInWorld (c : ClosedSession) (more : List ClosedSession) : Type 0 where
  pub world : IsInWorld c more
  pub stripes : StripesStand (last_session c more) world.site
  pub places : (d : ClosedSession) → Contains (c ∷ more) d → PlacesStand d world.site
  pub veil : IsCoalitionVeiled c more world
  pub another_file : AnotherFile c more world
  pub serve : HomesServe (last_session c more) world.site

abbrev pub TheHardProperty : Type 0
TheHardProperty =
    (c : ClosedSession) (more : List ClosedSession) → AreInARow c more → HoldsInWorld c more
