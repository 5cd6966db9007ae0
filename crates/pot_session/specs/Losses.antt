-- When a session answers `lost`, where no archive lost a block.
use Rattle.std.specs.Prelude.{◌≡◌, ◌⊎◌, ◌<◌, ◌++◌, ℕ, Bool, true, false, Contains, List, [], ◌∷◌}
use Rattle.std.specs.Prelude.{Some, IsSome, flat_map, slice_get}
use Rattle.pot_bytes.specs.declared.digest.Digest.{Digest}
use Rattle.pot_bytes.specs.declared.rack.Place.{Place}
use Rattle.pot_outside.specs.Archives.{Meaning}
use Rattle.pot_outside.specs.Counts.{Rose}
use Rattle.pot_shard.specs.Places.{place_at}
use Rattle.pot_machine.specs.declared.entry.Entry.{Entry}
use Rattle.pot_machine.specs.declared.entry.Entry.TheVariants.{Stuck, Oddly, Swapped}
use Rattle.pot_machine.specs.Slot.{is_live, is_lost, is_broken}
use Rattle.pot_machine.specs.Table.{Table, width, slot_at, archives_in, first, count}
use Rattle.pot_machine.specs.Logs.{job_of, own, replayed}
use Rattle.pot_group.specs.Arrivals.{arrivals}
use Rattle.pot_index.specs.declared.record.Record.{Record}
use Rattle.pot_index.specs.Fits.{FitsRack}
use Rattle.pot_replies.specs.Sections.{Section, mine}
use Rattle.pot_replies.specs.Settings.{Setting}
use Rattle.pot_replies.specs.Fetches.{IsLost, IsUnseen, seen_of}
use Rattle.pot_shared.specs.Hands.{times}

-- WHAT NO ARCHIVE DID

-- the archives of a session: those of the tables that it began with, and those that came by its
-- logs
abbrev pub all_had : List Table → List (List Entry) → List ℕ
all_had read logs = flat_map archives_in read ++ flat_map arrivals logs

-- none of them lost a block, by what its number meant and means
abbrev pub LostNone : (ℕ → Meaning) → (ℕ → Meaning) → List Table → List (List Entry) → Type 0
LostNone meant means read logs =
    (n : ℕ) → Contains (all_had read logs) n → Rose (meant n).losses (means n).losses → ⊥

-- none of them is missing
abbrev pub AreBack : List ℕ → List Table → List (List Entry) → Type 0
AreBack missing read logs = (n : ℕ) → Contains (all_had read logs) n → times n missing ≡ 0

-- THE SECTION OF A COMMAND

-- each log begins with what stood before the section and what that added
abbrev pub BeginWith : Section → List (List Entry) → Type 0
BeginWith w logs =
    (g : ℕ) (log : List Entry) → slice_get logs g ≡ Some log
    → (rest : List Entry) × (log ≡ (w.before g ++ w.added g) ++ rest)

-- the entry puts an archive in the place of another
abbrev pub is_swap : Entry → Bool
is_swap (Swapped job c to) = true
is_swap _ = false

-- each entry that the section added is of a job, and none swaps an archive: its command is no
-- `replace`
abbrev pub SwapsNone : Section → Type 0
SwapsNone w = (g : ℕ) (e : Entry) → Contains (w.added g) e → (0 < job_of e) × (is_swap e ≡ false)

-- WHAT CAN'T BE HAD

-- What is lost in the stripe can't be rebuilt: some slot is Broken, or more slots are Lost than
-- there are parity columns.
abbrev pub IsPastMending : Table → ℕ → Type 0
IsPastMending t s =
    IsSome (first t s is_broken) ⊎ (t.parity < count (width t) (λ k. is_lost (slot_at t s k)))

-- no relay could begin at the place, or its relay came to a block of another digest; and the stripe
-- is past mending
abbrev pub IsInVain : Table → ℕ → Place → Entry → Type 0
IsInVain t job p e =
    (((o : ℕ) × (e ≡ Stuck job p.stripe p.column o))
    ⊎ ((f : Digest) × (e ≡ Oddly job p.stripe p.column f)))
    × IsPastMending t p.stripe

-- the job's last entry in the group of a place says so, and in the table before it the slot is not
-- Live
abbrev pub IsPlaceLeft : Setting → ℕ → Section → Place → Type 0
IsPlaceLeft s job w p =
    (x : List Entry) × (e : Entry) × (y : List Entry) × (w.added p.group ≡ x ++ e ∷ y)
    × (own job y ≡ [])
    × IsInVain (replayed (s.first p.group) (w.before p.group ++ x)) job p e
    × (is_live (slot_at (replayed (s.first p.group) (w.before p.group ++ x)) p.stripe p.column)
    ≡ false)

-- Of a fragment fewer points were seen than are needed, and each other one was left so.
pub record FewCanBeHad (s : Setting) (job : ℕ) (kept : Record) (piece fragment : ℕ)
    (w : Section) : Type 0 where
  pub few : seen_of (mine job w).own kept piece fragment < kept.geometry.need
  pub others : (x : ℕ) → IsUnseen kept piece fragment (mine job w) x
      → IsPlaceLeft s job w (place_at kept.geometry kept.places piece fragment x)

-- A `lost` by a section of these logs comes only so. The record is one that the rack has room for,
-- as each is that a session reads or publishes.
abbrev pub LostWhereFew : Setting → List (List Entry) → Type 0
LostWhereFew s logs =
    (job : ℕ) (name : List ℕ) (piece fragment have need : ℕ) (w : Section) → 0 < job
    → BeginWith w logs → SwapsNone w
    → (lost : IsLost s job name piece fragment have need w) → FitsRack s.rack lost.kept
    → FewCanBeHad s job lost.kept piece fragment w
