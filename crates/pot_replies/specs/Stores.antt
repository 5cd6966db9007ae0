-- The replies to `store`, each as the job's own entries give it.
use Rattle.std.specs.Prelude.{◌≡◌, ◌≢◌, ◌<◌, ◌≤◌, ◌⊎◌, ◌==◌, ℕ, ◌+◌, Bool, true, false, List, []}
use Rattle.std.specs.Prelude.{◌∷◌, ◌++◌, Option, Some, None, length, map, filter, slice_get}
use Rattle.pot_bytes.specs.Lists.{AreBytes}
use Rattle.pot_bytes.specs.declared.digest.Digest.{Digest}
use Rattle.pot_bytes.specs.declared.rack.Geometry.{Geometry}
use Rattle.pot_bytes.specs.declared.rack.Place.{Place}
use Rattle.pot_bytes.specs.Rack.{log_bound}
use Rattle.pot_machine.specs.declared.entry.Entry.{Entry}
use Rattle.pot_machine.specs.declared.entry.Entry.TheVariants.{Put, Put2, Fault}
use Rattle.pot_machine.specs.Logs.{replayed, IsKeptPut}
use Rattle.pot_bytes.specs.Digests.{digest_of}
use Rattle.pot_steps.specs.GroupStep.{Passed, skips, gone_entries}
use Rattle.pot_object.specs.Pieces.{longest, pieces_of}
use Rattle.pot_index.specs.declared.record.Record.{Record}
use Rattle.pot_index.specs.declared.entry.IndexEntry.TheVariants.{Reserve, Taken, Publish, Abandon}
use Rattle.pot_index.specs.Entries.{plain, bringing}
use Rattle.pot_index.specs.Fits.{group_of}
use Rattle.pot_index.specs.Records.{mark_of}
use Rattle.pot_replies.specs.Sections.{Section, JobEntries, mine, LogPoint, IsSilent, NoneInGroups}
use Rattle.pot_replies.specs.Settings.{Setting}

-- a block that was put, by its digest, and where it stands
pub record Placed : Type 0 where
  pub group : ℕ
  pub stripe : ℕ
  pub column : ℕ
  pub digest : Digest

abbrev pub place_of : Placed → Place
place_of x = record { group = x.group; column = x.column; stripe = x.stripe }

abbrev pub in_group : ℕ → List Placed → List Placed
in_group g placed = filter (λ x. x.group == g) placed

-- each block stands in the group of its number
abbrev pub AreSpread : Setting → Geometry → List Placed → Type 0
AreSpread s geometry placed =
    (b : ℕ) (x : Placed) → slice_get placed b ≡ Some x → x.group ≡ group_of s.rack geometry b

-- These entries put these blocks, one after another, and nothing else: for each the stripes passed,
-- and the put.
abbrev pub Puts : ℕ → List Placed → List Entry → Type 0
Puts job [] entries = entries ≡ []
Puts job (x ∷ xs) entries =
    (passed : List Passed) × (e : Entry) × (rest : List Entry)
    × IsKeptPut job x.stripe x.column x.digest e
    × (entries ≡ (skips job passed ++ e ∷ []) ++ rest) × Puts job xs rest

-- a put of a block of this digest that did not keep its parity blocks; the column is that of the
-- first one not kept
abbrev pub IsUnkept : ℕ → ℕ → Digest → ℕ → Entry → Type 0
IsUnkept data_columns job d column e =
    ((s : ℕ) × (c : ℕ) × (p : Digest) × (e ≡ Put job s c d p false) × (column ≡ data_columns))
    ⊎ (((s : ℕ) × (c : ℕ) × (p : Digest) × (q : Digest) × (k : Bool)
    × (e ≡ Put2 job s c d p q false k) × (column ≡ data_columns))
    ⊎ ((s : ℕ) × (c : ℕ) × (p : Digest) × (q : Digest) × (e ≡ Put2 job s c d p q true false)
    × (column ≡ data_columns + 1)))

-- the record of a file whose blocks were placed so
pub record IsRecord (s : Setting) (name file : List ℕ) (placed : List Placed)
    (kept : Record) : Type 0 where
  pub named : kept.name ≡ name
  pub long : kept.length ≡ length file
  pub digest : kept.digest ≡ digest_of file
  pub geometry : kept.geometry ≡ s.rack.geometry
  pub places : kept.places ≡ map place_of placed
  pub once : kept.older ≡ []

-- `long`: the file is too long, and nothing was logged
pub record IsLong (size : ℕ) (m : JobEntries) : Type 0 where
  pub long : longest < size
  pub silent : IsSilent m

-- `exists`: the name was taken, and nothing else was logged
pub record IsStoreRefused (job : ℕ) (name : List ℕ) (size : ℕ) (m : JobEntries) : Type 0 where
  pub short : size ≤ longest
  pub index : m.index ≡ plain (Taken job name) ∷ []
  pub groups : NoneInGroups m

-- `stored`: the items of the file are bytes; the name was reserved; the blocks of the file were
-- put, each in its own group, in order; and a record of their places, with the file's length and
-- digest, was published.
pub record IsStored (s : Setting) (job : ℕ) (name file : List ℕ) (pieces shards : ℕ)
    (m : JobEntries) : Type 0 where
  pub bytes : AreBytes file
  pub short : length file ≤ longest
  pub placed : List Placed
  pub kept : Record
  pub index : m.index
      ≡ plain (Reserve job name) ∷ bringing (Publish job name (mark_of kept)) kept ∷ []
  pub of_digests : map (λ x. x.digest) placed ≡ s.digests s.rack.geometry job file
  pub spread : AreSpread s s.rack.geometry placed
  pub puts : (g : ℕ) → Puts job (in_group g placed) (m.own g)
  pub is_record : IsRecord s name file placed kept
  pub pieces_is : pieces ≡ pieces_of (length file)
  pub shards_is : shards ≡ length placed

-- A store ended at its block for group g: the blocks before were put, the name was abandoned, and
-- the job's entries in g end by these.
pub record StopsStore (s : Setting) (job : ℕ) (name file : List ℕ) (g : ℕ) (last : List Entry)
    (m : JobEntries) : Type 0 where
  pub short : length file ≤ longest
  pub placed : List Placed
  pub next : Digest
  pub rest : List Digest
  pub index : m.index ≡ plain (Reserve job name) ∷ plain (Abandon job name) ∷ []
  pub of_digests : map (λ x. x.digest) placed ++ next ∷ rest ≡ s.digests s.rack.geometry job file
  pub spread : AreSpread s s.rack.geometry placed
  pub group : g ≡ group_of s.rack s.rack.geometry (length placed)
  pub puts : (h : ℕ) → h ≢ g → Puts job (in_group h placed) (m.own h)
  pub sofar : List Entry
  pub here : m.own g ≡ sofar ++ last
  pub puts_here : Puts job (in_group g placed) sofar

-- `fault`: the last entry is Fault at that column, or the put of the next block that did not keep a
-- parity block
pub record IsStoreFault (s : Setting) (job : ℕ) (name file : List ℕ) (g column : ℕ)
    (m : JobEntries) : Type 0 where
  pub passed : List Passed
  pub last : Entry
  pub stops : StopsStore s job name file g (skips job passed ++ last ∷ []) m
  pub fault : ((stripe : ℕ) × (last ≡ Fault job stripe column))
      ⊎ IsUnkept s.rack.columns job stops.next column last

-- `full`: the stripes were passed, and at the moment the cursor is behind the last one; the log has
-- room then, or the last entry is the Skip of a stripe passed
pub record IsStoreFull (s : Setting) (job : ℕ) (name file : List ℕ) (g : ℕ) (w : Section) : Type 0 where
  pub passed : List Passed
  pub stops : StopsStore s job name file g (skips job passed) (mine job w)
  pub log : List Entry
  pub moment : LogPoint job (w.before g) (w.added g) log
  pub behind : (replayed (s.first g) log).cursor.stripe ≡ (s.first g).stripes
  pub room : (length log < log_bound) ⊎ (passed ≢ [])

-- `logfull g`: at the moment the log is at its bound, and it was so when the put was called, or
-- some stripe was still to be tried
pub record IsStoreLogFull (s : Setting) (job : ℕ) (name file : List ℕ) (g : ℕ)
    (w : Section) : Type 0 where
  pub passed : List Passed
  pub stripe : ℕ
  pub gone : Option ℕ
  pub stops : StopsStore s job name file g (skips job passed ++ gone_entries job stripe gone)
      (mine job w)
  pub log : List Entry
  pub moment : LogPoint job (w.before g) (w.added g) log
  pub full : length log ≡ log_bound
  pub next : ((passed ≡ []) × (gone ≡ None))
      ⊎ ((replayed (s.first g) log).cursor.stripe < (s.first g).stripes)
