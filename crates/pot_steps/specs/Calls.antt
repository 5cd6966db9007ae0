-- What the pure calls of a relay answer.
use Rattle.std.specs.Prelude.{◌≡◌, ◌≢◌, ℕ, List, Some, IsSomeAnd}
use Rattle.pot_machine.specs.declared.relay.Relay.{Relay}
use Rattle.pot_machine.specs.declared.entry.Entry.TheVariants as entry
use Rattle.pot_machine.specs.Slot.{digest_in}
use Rattle.pot_machine.specs.Table.{Table, slot_at, relay_at, next_column}
use Rattle.pot_machine.specs.Machine.{after}
use Rattle.pot_steps.specs.declared.flight.Flight.{Flight}
use Rattle.pot_bytes.specs.Digests.{digest_of}
use Rattle.pot_steps.specs.Flight.{partial_of, unfolded, weight_in}
use Rattle.pot_steps.specs.Flights.{flown}
use Rattle.pot_steps.specs.declared.rebuilding.Hopped.{Hopped}
use Rattle.pot_steps.specs.declared.rebuilding.Hopped.TheVariants as hopped
use Rattle.pot_steps.specs.declared.rebuilding.Finished.{Finished}
use Rattle.pot_steps.specs.declared.rebuilding.Finished.TheVariants as finished

-- a relay of the table
pub record RelayStandsIn (t : Table) (r : Relay) : Type 0 where
  pub here : relay_at t r.stripe ≡ Some r

-- Folded: what was added is a block of the digest of the next column's slot. Ended: it is not.
abbrev pub HopMeans : ℕ → List ℕ → Hopped → Table → Table → Flight → Flight → Type 0
HopMeans job folded (hopped.Folded e) old new f g =
    IsSomeAnd (next_column old f.relay) (λ c.
    (e ≡ entry.Hop job f.relay.stripe c) × (new ≡ after old e)
    × (g ≡ flown f.relay.stripe c folded f)
    × (digest_in (slot_at old f.relay.stripe c)
    ≡ Some (digest_of (unfolded (weight_in old.data_columns f.relay c) f.sum folded))))
HopMeans job folded (hopped.Ended e) old new f g =
    IsSomeAnd (next_column old f.relay) (λ c.
    (e ≡ entry.GaveUp job f.relay.stripe f.relay.target c) × (new ≡ after old e) × (g ≡ f)
    × (digest_in (slot_at old f.relay.stripe c)
    ≢ Some (digest_of (unfolded (weight_in old.data_columns f.relay c) f.sum folded))))

-- Ready: the partial has the digest of the target's slot. Odd: it has not.
abbrev pub FinishMeans : ℕ → Finished → Table → Table → Flight → Type 0
FinishMeans job (finished.Ready block) old new f =
    (block ≡ partial_of f) × (new ≡ old)
    × (digest_in (slot_at old f.relay.stripe f.relay.target) ≡ Some (digest_of (partial_of f)))
FinishMeans job (finished.Odd wanted found e) old new f =
    (e ≡ entry.Oddly job f.relay.stripe f.relay.target found) × (new ≡ after old e)
    × (found ≡ digest_of (partial_of f)) × (wanted ≢ found)
    × (digest_in (slot_at old f.relay.stripe f.relay.target) ≡ Some wanted)
