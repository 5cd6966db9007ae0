-- What an entry of a put, a look, an opening or a count says of the archives' contents.
use Rattle.std.specs.Prelude.{◌≡◌, ◌≢◌, ◌⊎◌, ℕ, ◌+◌, ◌<◌, List, Option, Some, Bool, true, IsTrue}
use Rattle.pot_bytes.specs.Sums.{xor}
use Rattle.pot_bytes.specs.Weighted.{scaled}
use Rattle.pot_gf.specs.Field.{power}
use Rattle.pot_machine.specs.Slot.{is_live}
use Rattle.pot_machine.specs.declared.relay.Relay.{Relay}
use Rattle.pot_machine.specs.declared.entry.Entry.{Entry}
use Rattle.pot_machine.specs.declared.entry.Entry.TheVariants.{Put, Skip, Seen, Gone, Broke, Fault}
use Rattle.pot_machine.specs.declared.entry.Entry.TheVariants.{Counted, Put2}
use Rattle.pot_machine.specs.Table.{Table, width, slot_at, serving_at, relay_at}
use Rattle.pot_machine.specs.Machine.{Legal, after}
use Rattle.pot_machine.specs.Rules.{IsTable}
use Rattle.pot_bytes.specs.Lists.{IsBlock}
use Rattle.pot_bytes.specs.Digests.{digest_of}
use Rattle.pot_steps.specs.Stripe.{IsOld}
use Rattle.pot_steps.specs.Flight.{FlightLaw}
use Rattle.pot_steps.specs.Holdings.{Holdings, StripesConsistent, stripe_of}

-- the block held at a place
abbrev pub held_at : Table → Holdings → ℕ → ℕ → Option (List ℕ)
held_at t h s c = h (serving_at t s c) s

-- What is held at a Live place was held there before. At any other place anything may have come, as
-- where a write failed.
abbrev pub LosesAtLive : Table → Holdings → Holdings → Type 0
LosesAtLive t h h' =
    (s c : ℕ) (b : List ℕ) → s < t.stripes → c < width t → IsTrue (is_live (slot_at t s c))
    → held_at t h' s c ≡ Some b → held_at t h s c ≡ Some b

-- A put writes the block at the data place, and the new blocks of P and Q where these are kept. A
-- parity place whose write failed may hold anything.
pub record WritesStripe (t : Table) (h h' : Holdings) (s c : ℕ) (block p q : List ℕ)
    (kept kept2 : Bool) : Type 0 where
  pub is_block : IsBlock block
  pub old_p : IsOld (stripe_of t h s) t.data_columns p
  pub old_q : t.parity ≡ 2 → IsOld (stripe_of t h s) (t.data_columns + 1) q
  pub data_block : held_at t h' s c ≡ Some block
  pub new_p : kept ≡ true → held_at t h' s t.data_columns ≡ Some (xor p block)
  pub new_q : t.parity ≡ 2 → kept2 ≡ true
      → held_at t h' s (t.data_columns + 1) ≡ Some (xor q (scaled (power 3 c) block))
  pub others : (n k : ℕ) → n < t.stripes → k < width t → (n ≢ s) ⊎ ((k < t.data_columns) × (k ≢ c))
      → held_at t h' n k ≡ held_at t h n k

-- The contents before and after an entry. The digests of a Put are those of the blocks that it
-- writes.
abbrev pub Enters : Table → Entry → Holdings → Holdings → Type 0
Enters t (Put job s c digest parity_digest kept) h h' =
    (block : List ℕ) × (p : List ℕ) × (digest ≡ digest_of block)
    × (parity_digest ≡ digest_of (xor p block)) × WritesStripe t h h' s c block p p kept kept
Enters t (Put2 job s c digest parity_digest second_digest kept kept2) h h' =
    (block : List ℕ) × (p : List ℕ) × (q : List ℕ) × (digest ≡ digest_of block)
    × (parity_digest ≡ digest_of (xor p block))
    × (second_digest ≡ digest_of (xor q (scaled (power 3 c) block)))
    × WritesStripe t h h' s c block p q kept kept2
Enters t (Skip job s) h h' = LosesAtLive t h h'
Enters t (Seen job s c) h h' = LosesAtLive t h h'
Enters t (Gone job s c) h h' = LosesAtLive t h h'
Enters t (Broke job s c) h h' = LosesAtLive t h h'
Enters t (Fault job s c) h h' = LosesAtLive t h h'
Enters t (Counted job) h h' = LosesAtLive t h h'
Enters t _ h h' = ⊥

-- an entry of a put, a look, an opening or a count keeps the law of every stripe
abbrev pub EntryKeeps : Type 0
EntryKeeps =
    (t : Table) (e : Entry) (h h' : Holdings) → IsTable t → Legal t e → Enters t e h h'
    → StripesConsistent t h → StripesConsistent (after t e) h'

-- and so does any loss
abbrev pub LossesKeep : Type 0
LossesKeep = (t : Table) (h h' : Holdings) → LosesAtLive t h h' → StripesConsistent t h → StripesConsistent t h'

-- it keeps the flight of a relay that stands, but for a Broke in its stripe, which the opening
-- alone logs, before any relay
abbrev pub EntryKeepsFlight : Type 0
EntryKeepsFlight =
    (t : Table) (e : Entry) (h h' : Holdings) (n : ℕ) (r : Relay) (partial : List ℕ) → IsTable t
    → Legal t e → Enters t e h h' → n < t.stripes
    → relay_at t n ≡ Some r → ((c : ℕ) → e ≢ Broke 0 n c)
    → FlightLaw t.data_columns t.parity (stripe_of t h n) r partial
    → (relay_at (after t e) n ≡ Some r)
    × FlightLaw t.data_columns t.parity (stripe_of (after t e) h' n) r partial
