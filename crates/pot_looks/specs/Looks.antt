-- What the file of an archive has of the blocks that a table calls live.
use Rattle.std.specs.Prelude.{◌≡◌, ◌≤◌, ◌⊎◌, ◌+◌, ◌*◌, ℕ, zero, suc, List, length, take, drop}
use Rattle.std.specs.Prelude.{slice_index}
use Rattle.pot_bytes.specs.Digests.{digest_bytes}
use Rattle.pot_bytes.specs.declared.digest.Digest.{Digest}
use Rattle.pot_machine.specs.Table.{Table, serving_at, slot_at}
use Rattle.pot_machine.specs.declared.slot.SlotState.TheVariants.{Live}
use Rattle.pot_looks.specs.declared.looking.Looked.{Looked}
use Rattle.pot_looks.specs.declared.looking.Seen.{Seen}
use Rattle.pot_looks.specs.declared.looking.Seen.TheVariants.{Unasked, Sound, Damaged, Missing}

-- the archive serves the slot of a column, and the table calls the block of this digest there live
pub record IsAsked (t : Table) (column archive s : ℕ) (d : Digest) : Type 0 where
  pub serves : serving_at t s column ≡ archive
  pub live : slot_at t s column ≡ Live d

-- a column of a table, and an archive that serves it with the bytes of its file
pub record ArchiveSight : Type 0 where
  pub table : Table
  pub column : ℕ
  pub archive : ℕ
  pub bytes : List ℕ

-- A slot has 1,025 bytes. The file has all of them, the first is 1, and the others are the block.
pub record IsHeldInFile (bytes : List ℕ) (s : ℕ) (block : List ℕ) : Type 0 where
  pub within : s * 1025 + 1025 ≤ length bytes
  pub first : slice_index bytes (s * 1025) ≡ 1
  pub rest : block ≡ take 1024 (drop (s * 1025 + 1) bytes)

-- the block that should be there, with its digest
pub record IsBlockSound (bytes : List ℕ) (s : ℕ) (d : Digest) (block : List ℕ) : Type 0 where
  pub held : IsHeldInFile bytes s block
  pub digest : digest_bytes block ≡ d.bytes

-- another one
pub record IsOther (bytes : List ℕ) (s : ℕ) (d : Digest) (block : List ℕ) : Type 0 where
  pub held : IsHeldInFile bytes s block
  pub digest : ¬ (digest_bytes block ≡ d.bytes)

-- a block is called live there
abbrev pub IsWanted : ArchiveSight → ℕ → Type 0
IsWanted v s = (d : Digest) × IsAsked v.table v.column v.archive s d

-- and another one is there
abbrev pub IsDamaged : ArchiveSight → ℕ → Type 0
IsDamaged v s = (d : Digest) × (block : List ℕ) × IsAsked v.table v.column v.archive s d × IsOther v.bytes s d block

-- and none is there
abbrev pub IsBlockMissing : ArchiveSight → ℕ → Type 0
IsBlockMissing v s = IsWanted v s × ((block : List ℕ) → ¬ IsHeldInFile v.bytes s block)

-- what is seen of a block of this digest at a slot
abbrev pub IsCompared : List ℕ → ℕ → Digest → Seen → Type 0
IsCompared bytes s d Unasked = ⊥
IsCompared bytes s d Sound = (block : List ℕ) × IsBlockSound bytes s d block
IsCompared bytes s d Damaged = (block : List ℕ) × IsOther bytes s d block
IsCompared bytes s d Missing = (block : List ℕ) → ¬ IsHeldInFile bytes s block

-- what is seen at a slot
abbrev pub IsSeen : ArchiveSight → ℕ → Seen → Type 0
IsSeen v s Unasked = ¬ IsWanted v s
IsSeen v s Sound = (d : Digest) × IsAsked v.table v.column v.archive s d × IsCompared v.bytes s d Sound
IsSeen v s Damaged = (d : Digest) × IsAsked v.table v.column v.archive s d × IsCompared v.bytes s d Damaged
IsSeen v s Missing = (d : Digest) × IsAsked v.table v.column v.archive s d × IsCompared v.bytes s d Missing

-- so many of the numbers below n have P
abbrev pub Counts : (ℕ → Type 0) → ℕ → ℕ → Type 0
Counts P zero k = k ≡ 0
Counts P (suc n) zero = (¬ P n) × Counts P n zero
Counts P (suc n) (suc k) = (P n × Counts P n k) ⊎ ((¬ P n) × Counts P n (suc k))

-- of the slots below n: how many blocks are called live, instead of how many another is there, and
-- of how many none
pub record IsLooked (v : ArchiveSight) (n : ℕ) (r : Looked) : Type 0 where
  pub compared : Counts (IsWanted v) n r.compared
  pub damaged : Counts (IsDamaged v) n r.damaged
  pub missing : Counts (IsBlockMissing v) n r.missing

-- one slot more
abbrev pub with_seen : Looked → Seen → Looked
with_seen r Unasked = r
with_seen r Sound = record {
  compared = r.compared + 1;
  damaged = r.damaged;
  missing = r.missing;
}
with_seen r Damaged = record {
  compared = r.compared + 1;
  damaged = r.damaged + 1;
  missing = r.missing;
}
with_seen r Missing = record {
  compared = r.compared + 1;
  damaged = r.damaged;
  missing = r.missing + 1;
}
