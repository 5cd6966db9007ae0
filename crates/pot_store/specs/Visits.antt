-- The visits of a fetch to places: what its job logs at each, and what comes of it.
use Rattle.std.specs.Prelude.{◌≡◌, ◌⊎◌, ◌≤◌, ◌+◌, ◌*◌, ◌==◌, ◌&&◌, ℕ, zero, suc, Bool, true, false}
use Rattle.std.specs.Prelude.{if◌then◌else◌, List, [], ◌∷◌, ◌++◌, Option, Some, None, length}
use Rattle.std.specs.Prelude.{filter, find, is_some, slice_index_or, Contains}
use Rattle.pot_bytes.specs.declared.digest.Digest.{Digest}
use Rattle.pot_bytes.specs.declared.rack.Place.{Place}
use Rattle.pot_bytes.specs.Rack.{log_bound, no_place}
use Rattle.pot_machine.specs.declared.entry.Entry.{Entry}
use Rattle.pot_machine.specs.declared.entry.Entry.TheVariants as entry
use Rattle.pot_machine.specs.Slot.{is_unsound}
use Rattle.pot_machine.specs.Machine.{Replays}
use Rattle.pot_machine.specs.Rules.{IsTable}
use Rattle.pot_machine.specs.Table.{Table, count, slot_at}
use Rattle.pot_bytes.specs.Digests.{digest_of}
use Rattle.pot_rows.specs.Rows.{view_at}
use Rattle.pot_shared.specs.declared.member.GroupOrigin.{GroupOrigin}
use Rattle.pot_shared.specs.Members.{entries_of}
use Rattle.pot_shared.specs.Ready.{GroupPasses}
use Rattle.pot_replies.specs.Fetches.{LastIs, LooksTwice, SeenAs}
use Rattle.pot_replies.specs.Joined.{Read}
use Rattle.pot_replies.specs.Jobs.{is_look_at, is_seen_at, is_stuck_at}
use Rattle.pot_store.specs.declared.visiting.Point.{Point}
use Rattle.pot_store.specs.declared.visiting.Point.TheVariants as point
use Rattle.pot_shared.specs.Adds.{Adds, IsFirstTableSeen}
use Rattle.pot_shared.specs.Works.{gained}

-- WHAT COMES OF A PLACE

pub data Came : Type 0 where
  -- it was not looked at
  Unknown : Came
  Seen : (block : List ℕ) → Came
  -- the look gave nothing, and the place was not mended yet
  Gone : Came
  -- it can't be had: it was mended in vain, or lost again
  Lost : Came
  -- the archive of this column failed
  Failed : (column : ℕ) → Came
  -- a call was refused, since the log of the group was full
  Barred : Came

-- a point with what it came to, and the block that was read of it
abbrev pub came_of : Point → List ℕ → Came
came_of point.Unknown block = Unknown
came_of point.Seen block = Seen block
came_of point.Gone block = Gone
came_of point.Lost block = Lost
came_of (point.Failed column) block = Failed column

-- and where a call was refused
abbrev pub came_to : Option Point → List ℕ → Came
came_to None block = Barred
came_to (Some p) block = came_of p block

abbrev pub was_seen : Came → Bool
was_seen (Seen block) = true
was_seen _ = false

abbrev pub block_in : Came → Option (List ℕ)
block_in (Seen block) = Some block
block_in _ = None

-- A VISIT

pub record Visit : Type 0 where
  pub entries : List Entry
  pub came : Came

abbrev pub unvisited : Visit
unvisited = record { entries = []; came = Unknown }

-- looks and relays of the place, and steps and ends of any relay
abbrev pub MayVisit : ℕ → Place → Entry → Type 0
MayVisit job p (entry.Seen j s c) = (j ≡ job) × (s ≡ p.stripe) × (c ≡ p.column)
MayVisit job p (entry.Gone j s c) = (j ≡ job) × (s ≡ p.stripe) × (c ≡ p.column)
MayVisit job p (entry.Begin j s c) = (j ≡ job) × (s ≡ p.stripe) × (c ≡ p.column)
MayVisit job p (entry.Stuck j s c o) = (j ≡ job) × (s ≡ p.stripe) × (c ≡ p.column)
MayVisit job p (entry.Hop j s c) = j ≡ job
MayVisit job p (entry.Mended j s c) = j ≡ job
MayVisit job p (entry.GaveUp j s c o) = j ≡ job
MayVisit job p (entry.Oddly j s c f) = j ≡ job
MayVisit job p (entry.Fault j s c) = j ≡ job
MayVisit job p _ = ⊥

abbrev pub is_begin_at : ℕ → ℕ → Entry → Bool
is_begin_at s c (entry.Begin j stripe column) = (stripe == s) && (column == c)
is_begin_at s c _ = false

abbrev pub is_oddly_at : ℕ → ℕ → Entry → Bool
is_oddly_at s c (entry.Oddly j stripe column f) = (stripe == s) && (column == c)
is_oddly_at s c _ = false

-- How far entries come on the way from a Begin of a place over an Oddly of it to a Begin of it
-- again, from so far on: 3 is the end.
abbrev pub begun_next : ℕ → ℕ → ℕ → Entry → ℕ
begun_next s c zero e = if is_begin_at s c e then 1 else 0
begun_next s c (suc zero) e = if is_oddly_at s c e then 2 else 1
begun_next s c (suc (suc zero)) e = if is_begin_at s c e then 3 else 2
begun_next s c n e = n

abbrev pub begun_from : ℕ → ℕ → ℕ → List Entry → ℕ
begun_from s c n [] = n
begun_from s c n (e ∷ es) = begun_from s c (begun_next s c n e) es

-- the last of the entries is a Fault of this column
abbrev pub FailsLast : ℕ → ℕ → List Entry → (List Entry → ℕ → Type 0) → Type 0
FailsLast job column entries where_is =
    (sofar : List Entry) × (t : ℕ) × (entries ≡ sofar ++ entry.Fault job t column ∷ [])
    × where_is sofar t

-- the last of the entries is Stuck or Oddly of the place, or a Gone of it
abbrev pub EndsInVain : ℕ → Place → List Entry → Type 0
EndsInVain job p entries =
    LastIs entries (λ e. (o : ℕ) × (e ≡ entry.Stuck job p.stripe p.column o))
    ⊎ (LastIs entries (λ e. (f : Digest) × (e ≡ entry.Oddly job p.stripe p.column f))
    ⊎ LastIs entries (λ e. e ≡ entry.Gone job p.stripe p.column))

-- how the entries of a visit end
abbrev pub EndsVisit : ℕ → Place → List Entry → Came → Type 0
EndsVisit job p entries Unknown = entries ≡ []
EndsVisit job p entries (Seen block) = Unit {0}
EndsVisit job p entries Gone = entries ≡ entry.Gone job p.stripe p.column ∷ []
EndsVisit job p entries Lost = EndsInVain job p entries
EndsVisit job p entries (Failed column) =
    FailsLast job column entries
    (λ sofar t.
    ((t ≡ p.stripe) × (column ≡ p.column))
    ⊎ Contains sofar (entry.Gone job p.stripe p.column))
EndsVisit job p entries Barred = Unit {0}

-- What the job logs at a place: it looks at most twice, the second time after a Gone, logs one
-- Stuck at most, and begins no relay anew after one that ended by its Oddly.
pub record IsVisit (job : ℕ) (p : Place) (v : Visit) : Type 0 where
  pub kinds : (e : Entry) → Contains v.entries e → MayVisit job p e
  pub looks : LooksTwice job p.stripe p.column v.entries
  pub one_stuck : length (filter (is_stuck_at p.stripe p.column) v.entries) ≤ 1
  pub begun : begun_from p.stripe p.column 0 v.entries ≤ 2
  pub seen : is_some (find (is_seen_at p.stripe p.column) v.entries) ≡ was_seen v.came
  pub ends : EndsVisit job p v.entries v.came

-- how the entries behind the first look end
abbrev pub EndsSecond : ℕ → Place → List Entry → Came → Type 0
EndsSecond job p entries Unknown = ⊥
EndsSecond job p entries (Seen block) = Unit {0}
EndsSecond job p entries Gone = ⊥
EndsSecond job p entries Lost = EndsInVain job p entries
EndsSecond job p entries (Failed column) = FailsLast job column entries (λ sofar t. Unit {0})
EndsSecond job p entries Barred = Unit {0}

-- What the job logs at a place that it mends after a Gone of it: one look more at most.
pub record IsSecond (job : ℕ) (p : Place) (entries : List Entry) (came : Came) : Type 0 where
  pub kinds : (e : Entry) → Contains entries e → MayVisit job p e
  pub looks : (filter (is_look_at p.stripe p.column) entries ≡ [])
      ⊎ ((e : Entry) × (filter (is_look_at p.stripe p.column) entries ≡ e ∷ []))
  pub one_stuck : length (filter (is_stuck_at p.stripe p.column) entries) ≤ 1
  pub begun : begun_from p.stripe p.column 0 entries ≤ 2
  pub seen : is_some (find (is_seen_at p.stripe p.column) entries) ≡ was_seen came
  pub ends : EndsSecond job p entries came

-- AS THE PASSES SEE IT

-- a block was read at a place: when it was seen, the slot had its digest
abbrev pub IsReadAt : ℕ → Place → List ℕ → GroupPasses → GroupPasses → Type 0
IsReadAt job p block old new =
    (o : GroupOrigin) × ((view_at old p.group).origin ≡ Some o)
    × SeenAs o.first job (entries_of (view_at old p.group).seen) (gained old new p.group) p.stripe
    p.column (digest_of block)

-- a block that came of a place was read there
abbrev pub ReadsBlock : ℕ → Place → Came → GroupPasses → GroupPasses → Type 0
ReadsBlock job p came old new =
    (block : List ℕ) → came ≡ Seen block → IsReadAt job p block old new

-- the log of a group that the pass has seen is at its bound
abbrev pub IsFullLog : ℕ → GroupPasses → Type 0
IsFullLog g new = length (view_at new g).seen ≡ log_bound

-- where a call was refused, that is why
abbrev pub IsWhyBarred : ℕ → Came → GroupPasses → Type 0
IsWhyBarred g came new = came ≡ Barred → IsFullLog g new

-- Behind these entries the slot was neither Lost nor Broken, and later the job logged a Gone of it.
abbrev pub SoundThenGone : ℕ → Place → (List Entry → Type 0) → GroupPasses → GroupPasses → Type 0
SoundThenGone job p Behind old new =
    (first : Table) → IsFirstTableSeen p.group old first
    → IsTable first × ((x : List Entry) × (behind : List Entry) × (z : List Entry) × Behind x
    × (gained old new p.group ≡ (x ++ behind) ++ entry.Gone job p.stripe p.column ∷ z)
    × ((t : Table) × Replays first (entries_of (view_at old p.group).seen ++ x) t
    × (is_unsound (slot_at t p.stripe p.column) ≡ false)))

abbrev pub EndsGone : ℕ → Place → List Entry → Type 0
EndsGone job p entries = LastIs entries (λ e. e ≡ entry.Gone job p.stripe p.column)

-- a place at which the last entry is a Gone was sound before it and after an earlier Gone
abbrev pub IsGoneAgain : ℕ → Place → Visit → GroupPasses → GroupPasses → Type 0
IsGoneAgain job p v old new =
    v.came ≡ Lost → EndsGone job p v.entries
    → SoundThenGone job p
    (λ x.
    (a : List Entry) × (between : List Entry)
    × (x ≡ a ++ entry.Gone job p.stripe p.column ∷ between))
    old new

-- A visit of the job to a place.
pub record Visits (job : ℕ) (p : Place) (v : Visit) (old new : GroupPasses) : Type 0 where
  pub adds : Adds job p.group v.entries old new
  pub is : IsVisit job p v
  pub block : ReadsBlock job p v.came old new
  pub again : IsGoneAgain job p v old new
  pub barred : IsWhyBarred p.group v.came new

-- The job mended a place after a Gone of it, and looked at it once more where its slot was whole
-- then.
pub record MendsOn (job : ℕ) (p : Place) (came : Came) (old new : GroupPasses) : Type 0 where
  pub entries : List Entry
  pub adds : Adds job p.group entries old new
  pub is : IsSecond job p entries came
  pub block : ReadsBlock job p came old new
  pub again : came ≡ Lost → EndsGone job p entries → SoundThenGone job p (λ x. Unit {0}) old new
  pub barred : IsWhyBarred p.group came new

-- what one look logs
abbrev pub look_logs : ℕ → Place → Came → List Entry
look_logs job p (Seen block) = entry.Seen job p.stripe p.column ∷ []
look_logs job p Gone = entry.Gone job p.stripe p.column ∷ []
look_logs job p (Failed column) = entry.Fault job p.stripe p.column ∷ []
look_logs job p _ = []

-- One look at a place: it is seen, gone, failed, or barred. What it logs stands last in what the
-- pass gained.
pub record LooksOnce (job : ℕ) (p : Place) (came : Came) (old new : GroupPasses) : Type 0 where
  pub known : (came ≡ Unknown) ⊎ (came ≡ Lost) → ⊥
  pub last : (others : List Entry) × (gained old new p.group ≡ others ++ look_logs job p came)
  pub visits : Visits job p (record { entries = look_logs job p came; came = came }) old new

-- behind a mend a look that gives nothing is the last
abbrev pub lost_if_gone : Came → Came
lost_if_gone Gone = Lost
lost_if_gone came = came

-- one look at a place behind a mend of it
pub record LooksAgain (job : ℕ) (p : Place) (came : Came) (old new : GroupPasses) : Type 0 where
  pub first : Came
  pub looks : LooksOnce job p first old new
  pub is : came ≡ lost_if_gone first

-- THE BLOCKS OF A RECORD

-- the visit to the block of a number: none was made past the last
abbrev pub visit_at : List Visit → ℕ → Visit
visit_at visits b = slice_index_or visits b unvisited

abbrev pub came_at : List Visit → ℕ → Came
came_at visits b = (visit_at visits b).came

-- the place of the block of a number
abbrev pub place_in : List Place → ℕ → Place
place_in places b = slice_index_or places b no_place

-- what a visit to a place logs in a group
abbrev pub logged_at : Place → ℕ → Visit → List Entry
logged_at p g v = if p.group == g then v.entries else []

-- what the visits to the blocks from a number on log in a group
abbrev pub logged_from : List Place → ℕ → ℕ → List Visit → List Entry
logged_from places g b [] = []
logged_from places g b (v ∷ visits) =
    logged_at (place_in places b) g v ++ logged_from places g (suc b) visits

-- how many of the first n were seen
abbrev pub seen_in : ℕ → List Visit → ℕ
seen_in n visits = count n (λ x. was_seen (came_at visits x))

-- the blocks that were read of the fragment of a number, all fragments of the file being counted
-- from 0
abbrev pub read_in : ℕ → List Visit → ℕ → Read
read_in n visits f x = block_in (came_at visits (f * n + x))
