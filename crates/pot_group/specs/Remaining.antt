-- What becomes of a block that an archive has in a data slot which it serves, whatever its column
-- does later: moves on to another archive, or gets one in its place.
use Rattle.std.specs.Prelude.{◌≡◌, ◌⊎◌, ◌<◌, ℕ, IsTrue, List, [], ◌∷◌, Some, IfSome, Contains}
use Rattle.pot_outside.specs.Counts.{Rose}
use Rattle.pot_bytes.specs.declared.digest.Digest.{Digest}
use Rattle.pot_machine.specs.declared.entry.Entry.{Entry}
use Rattle.pot_machine.specs.declared.entry.Entry.TheVariants as entry
use Rattle.pot_machine.specs.Slot.{digest_in, is_unsound}
use Rattle.pot_machine.specs.Column.{names}
use Rattle.pot_machine.specs.Table.{Table, width, slot_at, column_at, serving_at}
use Rattle.pot_machine.specs.Machine.{Replays, after}
use Rattle.pot_machine.specs.Rules.{IsTable}
use Rattle.pot_bytes.specs.Digests.{digest_of}
use Rattle.pot_shelves.specs.Shelves.{Shelves}
use Rattle.pot_group.specs.Arrivals.{arrivals}
use Rattle.pot_group.specs.Frames.{FailedBy, IsFramed, Tries, WrittenBy}

-- An archive serves this data slot, which has this digest, or it served it: no other column names
-- it, and a move to it has passed the stripe.
pub record HasServed (t : Table) (s c : ℕ) (d : Digest) (number : ℕ) : Type 0 where
  pub digest : digest_in (slot_at t s c) ≡ Some d
  pub only : (k : ℕ) → k < width t → IsTrue (names (column_at t k) number) → k ≡ c
  pub passed : IfSome (column_at t c).moving (λ m. number ≡ m.to → s < m.upto)

-- the entry tells that a write into this slot failed while it was Lost or Broken, as the last of a
-- relay may
abbrev pub IsMendFault : Table → Entry → ℕ → ℕ → Type 0
IsMendFault t (entry.Fault job n k) s c = (n ≡ s) × (k ≡ c) × IsTrue (is_unsound (slot_at t s c))
IsMendFault t _ s c = ⊥

-- an entry of the log tells so
abbrev pub MendFailed : Table → List Entry → ℕ → ℕ → Type 0
MendFailed t [] s c = ⊥
MendFailed t (e ∷ log) s c = IsMendFault t e s c ⊎ MendFailed (after t e) log s c

-- who serves a data slot with a digest has served it
abbrev pub ServingHasServed : Type 0
ServingHasServed =
    (t : Table) (s c : ℕ) (d : Digest) → IsTable t → c < width t
    → digest_in (slot_at t s c) ≡ Some d
    → HasServed t s c d (serving_at t s c)

-- Who has served a data slot has served it once a log has gone on that did not bring it anew. What
-- the log wrote into its slot has the digest, and a write that failed there was one of a relay.
pub record KeepsServed (t u : Table) (log : List Entry) (s c : ℕ) (d : Digest)
    (number : ℕ) : Type 0 where
  pub now : HasServed u s c d number
  pub wrote : (tried : Tries) (at : ℕ) (block : List ℕ) → WrittenBy tried at t log number s block
      → digest_of block ≡ d
  pub failed : FailedBy t log number s → MendFailed t log s c

abbrev pub ServedIsKept : Type 0
ServedIsKept =
    (t u : Table) (log : List Entry) (s c : ℕ) (d : Digest) (number : ℕ) → IsTable t
    → Replays t log u → c < t.data_columns → HasServed t s c d number
    → (Contains (arrivals log) number → ⊥)
    → KeepsServed t u log s c d number

-- So an archive that had the block of a data slot when it was taken has one of that digest there
-- still, unless a relay's write into the slot failed, or its count of losses rose.
abbrev pub BlocksRemain : Type 0
BlocksRemain =
    (t u : Table) (log : List Entry) (tried : Tries) (shelves : Shelves) (s c : ℕ) (d : Digest)
    (number : ℕ) (block : List ℕ) → IsTable t → Replays t log u → IsFramed t log tried shelves
    → c < t.data_columns → HasServed t s c d number → (Contains (arrivals log) number → ⊥)
    → (shelves.taken number).held s ≡ Some block → digest_of block ≡ d
    → ((b : List ℕ) × (shelves.held number s ≡ Some b) × (digest_of b ≡ d))
    ⊎ (MendFailed t log s c ⊎ Rose (shelves.losses_taken number) (shelves.losses number))
