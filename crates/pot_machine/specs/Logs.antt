-- The entries of a log by their jobs, and the table that a log comes to.
use Rattle.std.specs.Prelude.{◌≡◌, ◌⊎◌, ℕ, ◌==◌, Bool, true, List, [], ◌∷◌, ◌++◌, filter}
use Rattle.pot_bytes.specs.declared.digest.Digest.{Digest}
use Rattle.pot_machine.specs.declared.slot.SlotState.{SlotState}
use Rattle.pot_machine.specs.declared.slot.SlotState.TheVariants.{Live, Lost, Broken}
use Rattle.pot_machine.specs.declared.entry.Entry.{Entry}
use Rattle.pot_machine.specs.declared.entry.Entry.TheVariants.{Put, Skip, Seen, Gone, Broke, Fault}
use Rattle.pot_machine.specs.declared.entry.Entry.TheVariants.{Begin, Hop, Mended, GaveUp, Oddly}
use Rattle.pot_machine.specs.declared.entry.Entry.TheVariants.{Stuck, MoveBegin, Moved, MoveEnd}
use Rattle.pot_machine.specs.declared.entry.Entry.TheVariants.{Swapped, Counted, Put2}
use Rattle.pot_machine.specs.Table.{Table}
use Rattle.pot_machine.specs.Machine.{Legal, after}

-- WHOSE ENTRY IT IS

abbrev pub job_of : Entry → ℕ
job_of (Put job s c d p k) = job
job_of (Skip job s) = job
job_of (Seen job s c) = job
job_of (Gone job s c) = job
job_of (Broke job s c) = job
job_of (Fault job s c) = job
job_of (Begin job s c) = job
job_of (Hop job s c) = job
job_of (Mended job s c) = job
job_of (GaveUp job s c o) = job
job_of (Oddly job s c f) = job
job_of (Stuck job s c o) = job
job_of (MoveBegin job c to) = job
job_of (Moved job s c k) = job
job_of (MoveEnd job c) = job
job_of (Swapped job c to) = job
job_of (Counted job) = job
job_of (Put2 job s c d p q k k2) = job

abbrev pub is_of : ℕ → Entry → Bool
is_of job e = job_of e == job

-- the job's own entries, in order
abbrev pub own : ℕ → List Entry → List Entry
own job log = filter (is_of job) log

-- WHERE A LOG LEADS

-- the table that the entries come to, legal or not
abbrev pub replayed : Table → List Entry → Table
replayed t [] = t
replayed t (e ∷ log) = replayed (after t e) log

-- each entry is legal in the table that those before it come to
abbrev pub AreLegal : Table → List Entry → Type 0
AreLegal t log = (x y : List Entry) (e : Entry) → log ≡ x ++ e ∷ y → Legal (replayed t x) e

-- WHAT A PUT FILLS

-- the entry puts a block of this digest in this data slot
abbrev pub Fills : ℕ → ℕ → Digest → Entry → Type 0
Fills s c d (Put job stripe column digest parity_digest kept) =
    (s ≡ stripe) × (c ≡ column) × (d ≡ digest)
Fills s c d (Put2 job stripe column digest parity_digest second_digest kept kept2) =
    (s ≡ stripe) × (c ≡ column) × (d ≡ digest)
Fills s c d _ = ⊥

-- the slot is Live, Lost or Broken with this digest
abbrev pub IsFilledWith : Digest → SlotState → Type 0
IsFilledWith d x = (x ≡ Live d) ⊎ ((x ≡ Lost d) ⊎ (x ≡ Broken d))

-- a put of a block of this digest that kept its parity blocks
abbrev pub IsKeptPut : ℕ → ℕ → ℕ → Digest → Entry → Type 0
IsKeptPut job s c d e =
    ((p : Digest) × (e ≡ Put job s c d p true))
    ⊎ ((p : Digest) × (q : Digest) × (e ≡ Put2 job s c d p q true true))
