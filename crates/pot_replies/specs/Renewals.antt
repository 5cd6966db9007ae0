-- The replies to `renew`, each as the job's own entries give it. A renewal fetches the file and
-- then puts the blocks of a new split. Where it does not come to its puts, its reply is that of a
-- fetch; or it is `often` at once.
use Rattle.std.specs.Prelude.{◌≡◌, ◌≢◌, ◌<◌, ◌⊎◌, ℕ, ◌+◌, ◌^◌, List, [], ◌∷◌, ◌++◌, Option, None}
use Rattle.std.specs.Prelude.{length, map}
use Rattle.pot_bytes.specs.declared.digest.Digest.{Digest}
use Rattle.pot_bytes.specs.declared.rack.Geometry.{Geometry}
use Rattle.pot_bytes.specs.Rack.{log_bound}
use Rattle.pot_machine.specs.declared.entry.Entry.{Entry}
use Rattle.pot_machine.specs.declared.entry.Entry.TheVariants.{Fault}
use Rattle.pot_machine.specs.Table.{Table, relay_at}
use Rattle.pot_machine.specs.Logs.{replayed}
use Rattle.pot_bytes.specs.Digests.{digest_of}
use Rattle.pot_steps.specs.GroupStep.{Passed, skips, gone_entries}
use Rattle.pot_object.specs.Pieces.{pieces_of}
use Rattle.pot_index.specs.declared.record.Record.{Record}
use Rattle.pot_index.specs.declared.entry.IndexEntry.TheVariants.{Renew, Often}
use Rattle.pot_index.specs.declared.entry.Logged.{Logged}
use Rattle.pot_index.specs.Entries.{plain, bringing}
use Rattle.pot_index.specs.Fits.{group_of}
use Rattle.pot_index.specs.Index.{names_read}
use Rattle.pot_index.specs.Records.{mark_of}
use Rattle.pot_replies.specs.Sections.{Section, mine, LogPoint, IndexMoment, NoneInGroups}
use Rattle.pot_replies.specs.Sections.{names_after}
use Rattle.pot_replies.specs.Settings.{Setting}
use Rattle.pot_replies.specs.Stores.{Placed, place_of, in_group, AreSpread, Puts, IsUnkept}
use Rattle.pot_replies.specs.Fetches.{FoundThen, Found, AreReads, MendsOnce, SeesAll}

-- the job whose random bytes a renewal draws
abbrev pub renewing : ℕ → ℕ
renewing job = 2 ^ 31 + job

-- The file of a record with fewer than 16 splits was fetched, and these entries came behind in each
-- group.
pub record Fetched (behind : List Logged) (s : Setting) (job : ℕ) (name : List ℕ)
    (geometry : Geometry) (kept : Record) (file : List ℕ) (puts : ℕ → List Entry)
    (w : Section) : Type 0 where
  pub found : FoundThen behind s job name kept w
  pub few : length kept.older < 15
  pub reads : ℕ → List Entry
  pub own_is : (g : ℕ) → (mine job w).own g ≡ reads g ++ puts g
  pub are_reads : AreReads kept job reads
  pub mends : (g : ℕ) → MendsOnce job (w.added g)
  pub sees : SeesAll reads kept
  pub long : length file ≡ kept.length
  pub digest : digest_of file ≡ kept.digest

-- and these entries are the puts of all blocks of its new split
pub record AllPut (behind : List Logged) (s : Setting) (job : ℕ) (name : List ℕ)
    (geometry : Geometry) (placed : List Placed) (w : Section) : Type 0 where
  pub kept : Record
  pub file : List ℕ
  pub puts : ℕ → List Entry
  pub fetched : Fetched behind s job name geometry kept file puts w
  pub of_digests : map (λ x. x.digest) placed ≡ s.digests geometry (renewing job) file
  pub spread : AreSpread s geometry placed
  pub puts_are : (g : ℕ) → Puts job (in_group g placed) (puts g)

-- `renewed`: the new split is the record's current one
pub record IsRenewed (s : Setting) (job : ℕ) (name : List ℕ) (geometry : Geometry)
    (pieces shards : ℕ) (w : Section) : Type 0 where
  pub placed : List Placed
  pub now : Record
  pub all : AllPut (bringing (Renew job name (mark_of now)) now ∷ []) s job name geometry placed w
  pub named : now.name ≡ name
  pub geometry_is : now.geometry ≡ geometry
  pub places : now.places ≡ map place_of placed
  pub pieces_is : pieces ≡ pieces_of now.length
  pub shards_is : shards ≡ length placed

-- `often`: the record found had 16 splits; or it had fewer, and had 16 once the blocks were put
pub record IsOften (s : Setting) (job : ℕ) (name : List ℕ) (w : Section) : Type 0 where
  pub kept : Record
  pub found : Found s job name kept w
  pub many : length kept.older ≡ 15
  pub groups : NoneInGroups (mine job w)

pub record IsOftenLate (s : Setting) (job : ℕ) (name : List ℕ) (geometry : Geometry)
    (w : Section) : Type 0 where
  pub placed : List Placed
  pub all : AllPut (plain (Often job name) ∷ []) s job name geometry placed w

-- `logfull index`, where the blocks were put
pub record IsRenewIndexFull (s : Setting) (job : ℕ) (name : List ℕ) (geometry : Geometry)
    (w : Section) : Type 0 where
  pub placed : List Placed
  pub all : AllPut [] s job name geometry placed w
  pub log : List Logged
  pub moment : IndexMoment job w.index_before w.index_added log
  pub full : log_bound < (length log + length (names_after (names_read s.read) log).reserved) + 1

-- A renewal ended at its block for group g: the blocks before were put, and its puts in g end by
-- these entries.
pub record RenewStops (s : Setting) (job : ℕ) (name : List ℕ) (geometry : Geometry) (g : ℕ)
    (last : List Entry) (w : Section) : Type 0 where
  pub kept : Record
  pub file : List ℕ
  pub puts : ℕ → List Entry
  pub fetched : Fetched [] s job name geometry kept file puts w
  pub placed : List Placed
  pub next : Digest
  pub rest : List Digest
  pub of_digests : map (λ x. x.digest) placed ++ next ∷ rest
      ≡ s.digests geometry (renewing job) file
  pub spread : AreSpread s geometry placed
  pub group : g ≡ group_of s.rack geometry (length placed)
  pub puts_are : (h : ℕ) → h ≢ g → Puts job (in_group h placed) (puts h)
  pub sofar : List Entry
  pub here : puts g ≡ sofar ++ last
  pub puts_here : Puts job (in_group g placed) sofar

-- The Fault of a put: in the cursor's stripe, at the cursor's column or a parity column, and the
-- stripe has no relay.
pub record IsPutFault (first : Table) (job : ℕ) (before added : List Entry)
    (stripe column : ℕ) : Type 0 where
  pub x : List Entry
  pub y : List Entry
  pub at : added ≡ x ++ Fault job stripe column ∷ y
  pub in_stripe : stripe ≡ (replayed first (before ++ x)).cursor.stripe
  pub in_column : (column ≡ (replayed first (before ++ x)).cursor.column)
      ⊎ ((q : ℕ) × (column ≡ first.data_columns + q))
  pub no_relay : relay_at (replayed first (before ++ x)) stripe ≡ None

-- `fault`
pub record IsRenewFault (s : Setting) (job : ℕ) (name : List ℕ) (geometry : Geometry) (g column : ℕ)
    (w : Section) : Type 0 where
  pub passed : List Passed
  pub last : Entry
  pub stops : RenewStops s job name geometry g (skips job passed ++ last ∷ []) w
  pub fault : ((stripe : ℕ) × (last ≡ Fault job stripe column)
      × IsPutFault (s.first g) job (w.before g) (w.added g) stripe column)
      ⊎ IsUnkept s.rack.columns job stops.next column last

-- `full g`
pub record IsRenewFull (s : Setting) (job : ℕ) (name : List ℕ) (geometry : Geometry) (g : ℕ)
    (w : Section) : Type 0 where
  pub passed : List Passed
  pub stops : RenewStops s job name geometry g (skips job passed) w
  pub log : List Entry
  pub moment : LogPoint job (w.before g) (w.added g) log
  pub behind : (replayed (s.first g) log).cursor.stripe ≡ (s.first g).stripes
  pub room : (length log < log_bound) ⊎ (passed ≢ [])

-- `logfull g`
pub record IsRenewLogFull (s : Setting) (job : ℕ) (name : List ℕ) (geometry : Geometry) (g : ℕ)
    (w : Section) : Type 0 where
  pub passed : List Passed
  pub stripe : ℕ
  pub gone : Option ℕ
  pub stops : RenewStops s job name geometry g (skips job passed ++ gone_entries job stripe gone) w
  pub log : List Entry
  pub moment : LogPoint job (w.before g) (w.added g) log
  pub full : length log ≡ log_bound
  pub next : ((passed ≡ []) × (gone ≡ None))
      ⊎ ((replayed (s.first g) log).cursor.stripe < (s.first g).stripes)
