-- The frame of a group: which blocks its archives may hold, and may ever have held, and in which
-- slots they hold one still, by what they had at their taking and by its log.
use Rattle.std.specs.Prelude.{◌≡◌, ◌⊎◌, ◌==◌, ◌<◌, ◌≤◌, ◌+◌, ℕ, suc, false, IsTrue, IsSomeAnd, List}
use Rattle.std.specs.Prelude.{[], ◌∷◌, Option, Some, None, Contains, length, if◌then◌else◌}
use Rattle.pot_outside.specs.Counts.{Rose}
use Rattle.pot_machine.specs.declared.slot.SlotState.{SlotState}
use Rattle.pot_machine.specs.declared.slot.SlotState.TheVariants.{Void}
use Rattle.pot_machine.specs.declared.entry.Entry.{Entry}
use Rattle.pot_machine.specs.declared.entry.Entry.TheVariants as entry
use Rattle.pot_machine.specs.Slot.{digest_in, is_live}
use Rattle.pot_machine.specs.Table.{Table, slot_at, column_at, serving_at}
use Rattle.pot_machine.specs.Machine.{after}
use Rattle.pot_bytes.specs.Digests.{digest_of}
use Rattle.pot_shelves.specs.Shelves.{Shelves}

-- a block of the digest of a slot
abbrev pub HasDigestOf : SlotState → List ℕ → Type 0
HasDigestOf x block = digest_in x ≡ Some (digest_of block)

-- The archive into whose slot the write of a Fault went, if it tells of a write. Where the slot is
-- not Live it is the one that serves it, and where it is, the target of a move that has come to its
-- stripe.
abbrev pub FaultInto : Table → ℕ → ℕ → ℕ → Type 0
FaultInto t s c number =
    ((is_live (slot_at t s c) ≡ false) × (number ≡ serving_at t s c))
    ⊎ (IsTrue (is_live (slot_at t s c))
    × IsSomeAnd (column_at t c).moving (λ m. (m.upto ≡ s) × (number ≡ m.to)))

-- The blocks of puts of which the log says only, by a Fault, that their write failed. No entry
-- names their digests. Each stands with the number of entries before that Fault.
abbrev pub Tries : Type 0
Tries = List (ℕ × List ℕ)

-- the block of the put whose Fault has so many entries before it, if one of these has
abbrev pub tried_at : Tries → ℕ → Option (List ℕ)
tried_at [] at = None
tried_at ((n, block) ∷ tried) at = if n == at then Some block else tried_at tried at

-- What an entry may have written into a slot of an archive, with so many entries before it. Put:
-- the block and the parity blocks, of the digests that it names, also where they were not kept.
-- Mended, Moved: a block of the slot's digest. Fault: that too, and where the slot was Void, the
-- block of the put whose write failed there.
abbrev pub MayWrite : Tries → ℕ → Table → Entry → ℕ → ℕ → List ℕ → Type 0
MayWrite tried at t (entry.Put job s c digest parity_digest kept) number slot block =
    (slot ≡ s)
    × (((number ≡ serving_at t s c) × (digest_of block ≡ digest))
    ⊎ ((number ≡ serving_at t s t.data_columns) × (digest_of block ≡ parity_digest)))
MayWrite tried at t (entry.Put2 job s c digest parity_digest second_digest k k2) number slot block =
    (slot ≡ s)
    × (((number ≡ serving_at t s c) × (digest_of block ≡ digest))
    ⊎ (((number ≡ serving_at t s t.data_columns) × (digest_of block ≡ parity_digest))
    ⊎ ((number ≡ serving_at t s (t.data_columns + 1)) × (digest_of block ≡ second_digest))))
MayWrite tried at t (entry.Mended job s c) number slot block =
    (slot ≡ s) × (number ≡ serving_at t s c) × HasDigestOf (slot_at t s c) block
MayWrite tried at t (entry.Moved job s c copied) number slot block =
    (slot ≡ s) × IsTrue copied × IsSomeAnd (column_at t c).moving (λ m. number ≡ m.to)
    × HasDigestOf (slot_at t s c) block
MayWrite tried at t (entry.Fault job s c) number slot block =
    (slot ≡ s) × FaultInto t s c number
    × (((slot_at t s c ≡ Void) × (tried_at tried at ≡ Some block))
    ⊎ HasDigestOf (slot_at t s c) block)
MayWrite tried at t _ number slot block = ⊥

-- an entry of the log may have, with so many entries before the first
abbrev pub WrittenBy : Tries → ℕ → Table → List Entry → ℕ → ℕ → List ℕ → Type 0
WrittenBy tried at t [] number slot block = ⊥
WrittenBy tried at t (e ∷ log) number slot block =
    MayWrite tried at t e number slot block
    ⊎ WrittenBy tried (suc at) (after t e) log number slot block

-- Into which slot of which archive an entry tells that a write failed, or may have failed. Such a
-- write may leave nothing there. Put: a parity block that was not kept. Fault: the block.
abbrev pub MayFail : Table → Entry → ℕ → ℕ → Type 0
MayFail t (entry.Put job s c digest parity_digest kept) number slot =
    (slot ≡ s) × (kept ≡ false) × (number ≡ serving_at t s t.data_columns)
MayFail t (entry.Put2 job s c digest parity_digest second_digest kept kept2) number slot =
    (slot ≡ s)
    × (((kept ≡ false) × (number ≡ serving_at t s t.data_columns))
    ⊎ ((kept2 ≡ false) × (number ≡ serving_at t s (t.data_columns + 1))))
MayFail t (entry.Fault job s c) number slot = (slot ≡ s) × FaultInto t s c number
MayFail t _ number slot = ⊥

-- an entry of the log may tell so
abbrev pub FailedBy : Table → List Entry → ℕ → ℕ → Type 0
FailedBy t [] number slot = ⊥
FailedBy t (e ∷ log) number slot = MayFail t e number slot ⊎ FailedBy (after t e) log number slot

-- blocks of puts at some of the first entries, no more than these are
pub record ArePlaced (tried : Tries) (entries : ℕ) : Type 0 where
  pub few : length tried ≤ entries
  pub below : (x : ℕ × List ℕ) → Contains tried x → x.0 < entries

-- Each block that an archive holds, in whatever slot, it held there when it was taken, or an entry
-- put it there; and each that it ever held it had held by then, or an entry put it into one of its
-- slots. Each slot in which it held a block when it was taken has one still, unless a write into
-- that slot failed, as an entry tells, or its count of losses rose.
pub record IsFramed (first : Table) (log : List Entry) (tried : Tries) (s : Shelves) : Type 0 where
  pub held : (number slot : ℕ) (block : List ℕ) → s.held number slot ≡ Some block
      → ((s.taken number).held slot ≡ Some block) ⊎ WrittenBy tried 0 first log number slot block
  pub history : (number : ℕ) (block : List ℕ) → Contains (s.history number) block
      → Contains (s.taken number).history block
      ⊎ ((slot : ℕ) × WrittenBy tried 0 first log number slot block)
  pub kept : (number slot : ℕ) (block : List ℕ) → (s.taken number).held slot ≡ Some block
      → ((b : List ℕ) × (s.held number slot ≡ Some b))
      ⊎ (FailedBy first log number slot ⊎ Rose (s.losses_taken number) (s.losses number))
