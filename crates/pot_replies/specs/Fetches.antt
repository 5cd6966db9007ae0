-- The replies to `fetch`, each as the job's own entries give it.
use Rattle.std.specs.Prelude.{◌≡◌, ◌≢◌, ◌<◌, ◌≤◌, ◌⊎◌, ◌+◌, ℕ, Bool, true, false, List, [], ◌∷◌}
use Rattle.std.specs.Prelude.{◌++◌, Option, Some, None, IfSome, length, IsTrue, find, filter}
use Rattle.std.specs.Prelude.{is_some, Contains}
use Rattle.pot_bytes.specs.declared.digest.Digest.{Digest}
use Rattle.pot_bytes.specs.declared.rack.Place.{Place}
use Rattle.pot_bytes.specs.Rack.{log_bound}
use Rattle.pot_machine.specs.declared.entry.Entry.{Entry}
use Rattle.pot_machine.specs.declared.entry.Entry.TheVariants.{Seen, Gone, Fault, Begin, Hop}
use Rattle.pot_machine.specs.declared.entry.Entry.TheVariants.{Mended, GaveUp, Oddly, Stuck}
use Rattle.pot_machine.specs.declared.slot.SlotState.TheVariants.{Live}
use Rattle.pot_machine.specs.Slot.{is_live}
use Rattle.pot_machine.specs.Table.{Table, slot_at, count}
use Rattle.pot_machine.specs.Logs.{own, replayed}
use Rattle.pot_bytes.specs.Digests.{digest_of}
use Rattle.pot_object.specs.Pieces.{pieces_of}
use Rattle.pot_shard.specs.Places.{place_at}
use Rattle.pot_index.specs.declared.entry.IndexEntry.TheVariants.{Find}
use Rattle.pot_index.specs.declared.entry.Logged.{Logged}
use Rattle.pot_index.specs.declared.record.Record.{Record}
use Rattle.pot_index.specs.Entries.{plain}
use Rattle.pot_index.specs.Index.{names_read, IsRecordOf}
use Rattle.pot_replies.specs.Jobs.{is_seen_at, is_look_at, is_stuck_at, ends_relay}
use Rattle.pot_replies.specs.Sections.{Section, JobEntries, mine, LogPoint, NoneInGroups, names_after}
use Rattle.pot_replies.specs.Settings.{Setting}
use Rattle.pot_replies.specs.Joined.{AreJoined}

-- `absent`: the name was looked for and not published, and nothing else was logged
pub record IsFetchAbsent (job : ℕ) (name : List ℕ) (m : JobEntries) : Type 0 where
  pub index : m.index ≡ plain (Find job name false) ∷ []
  pub groups : NoneInGroups m

-- The name was found, with the record that the index then had of it, and these entries came behind.
pub record FoundThen (behind : List Logged) (s : Setting) (job : ℕ) (name : List ℕ) (kept : Record)
    (w : Section) : Type 0 where
  pub index : (mine job w).index ≡ plain (Find job name true) ∷ behind
  pub sofar : List Logged
  pub later : List Logged
  pub at : w.index_added ≡ sofar ++ plain (Find job name true) ∷ later
  pub published : IsRecordOf (names_after (names_read s.read) (w.index_before ++ sofar)) name kept

-- and nothing came behind
abbrev pub Found : Setting → ℕ → List ℕ → Record → Section → Type 0
Found s job name kept w = FoundThen [] s job name kept w

-- WHAT WAS SEEN

-- the block of a place was seen
abbrev pub has_seen : (ℕ → List Entry) → Place → Bool
has_seen entries p = is_some (find (is_seen_at p.stripe p.column) (entries p.group))

-- how many points of a fragment were seen
abbrev pub seen_of : (ℕ → List Entry) → Record → ℕ → ℕ → ℕ
seen_of entries kept i j =
    count kept.geometry.shards (λ x. has_seen entries (place_at kept.geometry kept.places i j x))

-- of each fragment just as many points were seen as give it back
abbrev pub SeesAll : (ℕ → List Entry) → Record → Type 0
SeesAll entries kept =
    (i j : ℕ) → i < pieces_of kept.length → j < kept.geometry.fragments
    → seen_of entries kept i j ≡ kept.geometry.need

-- WHAT A FETCH MAY LOG

-- an entry of a place that the record has in this group
abbrev pub IsOfPlace : Record → ℕ → ℕ → ℕ → Type 0
IsOfPlace kept g s c = Contains kept.places (record { group = g; column = c; stripe = s })

-- looks and relays of the record's places, and steps and ends of any relay
abbrev pub MayFetch : Record → ℕ → Entry → Type 0
MayFetch kept g (Seen job s c) = IsOfPlace kept g s c
MayFetch kept g (Gone job s c) = IsOfPlace kept g s c
MayFetch kept g (Begin job s c) = IsOfPlace kept g s c
MayFetch kept g (Stuck job s c o) = IsOfPlace kept g s c
MayFetch kept g (Hop job s c) = Unit {0}
MayFetch kept g (Mended job s c) = Unit {0}
MayFetch kept g (GaveUp job s c o) = Unit {0}
MayFetch kept g (Oddly job s c f) = Unit {0}
MayFetch kept g (Fault job s c) = Unit {0}
MayFetch kept g _ = ⊥

-- a place is looked at once at most, and once more after a Gone of it
abbrev pub LooksTwice : ℕ → ℕ → ℕ → List Entry → Type 0
LooksTwice job s c entries =
    (filter (is_look_at s c) entries ≡ [])
    ⊎ (((e : Entry) × (filter (is_look_at s c) entries ≡ e ∷ []))
    ⊎ ((e : Entry) × (filter (is_look_at s c) entries ≡ Gone job s c ∷ e ∷ [])))

-- Of a job that mends: it logs one Stuck of a place at most, and begins no relay of a place anew
-- after one that it began there itself ended by its Oddly.
pub record MendsOnce (job : ℕ) (added : List Entry) : Type 0 where
  pub one_stuck : (s c : ℕ) → length (filter (is_stuck_at s c) (own job added)) ≤ 1
  pub none_again : (s c : ℕ) (f : Digest) (x between y z : List Entry)
      → added ≡ (x ++ Begin job s c ∷ (between ++ Oddly job s c f ∷ y)) ++ Begin job s c ∷ z
      → filter (ends_relay s) between ≡ [] → ⊥

-- no idle entries: these are what a fetch of the record may log
pub record AreReads (kept : Record) (job : ℕ) (reads : ℕ → List Entry) : Type 0 where
  pub kinds : (g : ℕ) (e : Entry) → Contains (reads g) e → MayFetch kept g e
  pub looks : (g s c : ℕ) → LooksTwice job s c (reads g)

pub record FetchEntries (kept : Record) (job : ℕ) (w : Section) : Type 0 where
  pub reads : AreReads kept job (mine job w).own
  pub mends : (g : ℕ) → MendsOnce job (w.added g)

-- `file`: the record was found, enough points of each fragment were seen, and the bytes have its
-- length and digest
pub record IsFile (s : Setting) (job : ℕ) (name bytes : List ℕ) (w : Section) : Type 0 where
  pub kept : Record
  pub found : Found s job name kept w
  pub entries : FetchEntries kept job w
  pub sees : SeesAll (mine job w).own kept
  pub long : length bytes ≡ kept.length
  pub digest : digest_of bytes ≡ kept.digest

-- at a Seen of the job the slot had this digest
abbrev pub SeenAs : Table → ℕ → List Entry → List Entry → ℕ → ℕ → Digest → Type 0
SeenAs first job before added s c d =
    (x : List Entry) × (y : List Entry) × (added ≡ x ++ Seen job s c ∷ y)
    × (slot_at (replayed first (before ++ x)) s c ≡ Live d)

-- where archives tell, the block is one of those that they have held
abbrev pub WasHeld : Option (List (List ℕ)) → List ℕ → Type 0
WasHeld held b = IfSome held (λ blocks. Contains blocks b)

-- a block was read at a place: one that was held, of the digest that the slot had when it was seen
abbrev pub ReadAt : Option (List (List ℕ)) → Setting → ℕ → Section → Place → List ℕ → Type 0
ReadAt held s job w p b =
    WasHeld held b
    × SeenAs (s.first p.group) job (w.before p.group) (w.added p.group) p.stripe p.column
    (digest_of b)

-- `odd`: the same, and the blocks read give bytes of another digest. `held` has the blocks that
-- archives have held, where they tell.
pub record IsOdd (held : Option (List (List ℕ))) (s : Setting) (job : ℕ) (name : List ℕ)
    (wanted got : Digest) (w : Section) : Type 0 where
  pub kept : Record
  pub found : Found s job name kept w
  pub entries : FetchEntries kept job w
  pub sees : SeesAll (mine job w).own kept
  pub block : ℕ → ℕ → ℕ → Option (List ℕ)
  pub seen : (i j x : ℕ) → i < pieces_of kept.length → j < kept.geometry.fragments
      → x < kept.geometry.shards
      → IsTrue (has_seen (mine job w).own (place_at kept.geometry kept.places i j x))
      → (b : List ℕ) × (block i j x ≡ Some b)
      × ReadAt held s job w (place_at kept.geometry kept.places i j x) b
  pub unseen : (i j x : ℕ)
      → has_seen (mine job w).own (place_at kept.geometry kept.places i j x) ≡ false
      → block i j x ≡ None
  pub wanted_is : wanted ≡ kept.digest
  pub bytes : List ℕ
  pub joined : AreJoined kept block bytes
  pub got_is : got ≡ digest_of bytes
  pub differs : got ≢ wanted

-- WHY A POINT WAS NOT SEEN

-- (piece, fragment), from 0, is the first with too few points seen, and has so many
pub record FirstShort (kept : Record) (piece fragment have : ℕ) (m : JobEntries) : Type 0 where
  pub in_pieces : piece < pieces_of kept.length
  pub in_fragments : fragment < kept.geometry.fragments
  pub before : (i j : ℕ) → j < kept.geometry.fragments
      → (i < piece) ⊎ ((i ≡ piece) × (j < fragment)) → seen_of m.own kept i j ≡ kept.geometry.need
  pub has : seen_of m.own kept piece fragment ≡ have
  pub fewer : have < kept.geometry.need

-- the last of the entries
abbrev pub LastIs : List Entry → (Entry → Type 0) → Type 0
LastIs entries is = (sofar : List Entry) × (e : Entry) × (entries ≡ sofar ++ e ∷ []) × is e

-- a second Gone, which is the job's last entry, the slot having been Live at some point between the
-- two
pub record GoneAgain (first : Table) (job : ℕ) (before added : List Entry) (s c : ℕ) : Type 0 where
  pub a : List Entry
  pub between : List Entry
  pub behind : List Entry
  pub z : List Entry
  pub parts : added ≡ ((a ++ Gone job s c ∷ between) ++ behind) ++ Gone job s c ∷ z
  pub live : IsTrue
      (is_live (slot_at (replayed first (before ++ (a ++ Gone job s c ∷ between))) s c))
  pub last : own job z ≡ []

-- The job's last entry there is Stuck or Oddly of the place, or such a second Gone; or, where it
-- does not mend, a Gone of it.
abbrev pub HopelessIf : Bool → Setting → ℕ → Section → Place → Type 0
HopelessIf true s job w p =
    LastIs (own job (w.added p.group)) (λ e. (o : ℕ) × (e ≡ Stuck job p.stripe p.column o))
    ⊎ (LastIs (own job (w.added p.group)) (λ e. (f : Digest) × (e ≡ Oddly job p.stripe p.column f))
    ⊎ GoneAgain (s.first p.group) job (w.before p.group) (w.added p.group) p.stripe p.column)
HopelessIf false s job w p =
    LastIs (own job (w.added p.group)) (λ e. e ≡ Gone job p.stripe p.column)

abbrev pub IsHopeless : Setting → ℕ → Section → Place → Type 0
IsHopeless s job w p = HopelessIf s.mends s job w p

-- the job's last entry there is a Fault of this column: at the place, or after a Gone of it
abbrev pub FailsAt : ℕ → JobEntries → Place → ℕ → Type 0
FailsAt job m p column =
    (sofar : List Entry) × (t : ℕ) × (m.own p.group ≡ sofar ++ Fault job t column ∷ [])
    × (((t ≡ p.stripe) × (column ≡ p.column)) ⊎ Contains sofar (Gone job p.stripe p.column))

-- a point of the fragment that was not seen
abbrev pub IsUnseen : Record → ℕ → ℕ → JobEntries → ℕ → Type 0
IsUnseen kept piece fragment m x =
    (x < kept.geometry.shards)
    × (has_seen m.own (place_at kept.geometry kept.places piece fragment x) ≡ false)

-- `lost`: of the first fragment with too few points seen no other point can be had
pub record IsLost (s : Setting) (job : ℕ) (name : List ℕ) (piece fragment have need : ℕ)
    (w : Section) : Type 0 where
  pub kept : Record
  pub found : Found s job name kept w
  pub entries : FetchEntries kept job w
  pub short : FirstShort kept piece fragment have (mine job w)
  pub need_is : need ≡ kept.geometry.need
  pub hopeless : (x : ℕ) → IsUnseen kept piece fragment (mine job w) x
      → IsHopeless s job w (place_at kept.geometry kept.places piece fragment x)

-- `fault`: the same, but for points at which an archive failed. The reply names the group of the
-- least of these, and the column of its last entry.
pub record IsFetchFault (s : Setting) (job : ℕ) (name : List ℕ) (group column : ℕ)
    (w : Section) : Type 0 where
  pub kept : Record
  pub found : Found s job name kept w
  pub entries : FetchEntries kept job w
  pub piece : ℕ
  pub fragment : ℕ
  pub have : ℕ
  pub short : FirstShort kept piece fragment have (mine job w)
  pub point : ℕ
  pub unseen : IsUnseen kept piece fragment (mine job w) point
  pub group_is : group ≡ (place_at kept.geometry kept.places piece fragment point).group
  pub fails : FailsAt job (mine job w) (place_at kept.geometry kept.places piece fragment point)
      column
  pub least : (x : ℕ) → x < point → IsUnseen kept piece fragment (mine job w) x
      → IsHopeless s job w (place_at kept.geometry kept.places piece fragment x)
  pub others : (x : ℕ) → IsUnseen kept piece fragment (mine job w) x
      → IsHopeless s job w (place_at kept.geometry kept.places piece fragment x)
      ⊎ ((k : ℕ) × FailsAt job (mine job w) (place_at kept.geometry kept.places piece fragment x) k)

-- `logfull g`: the call refused was one on a point of the first such fragment, whose group's log
-- was at its bound
pub record IsFetchLogFull (s : Setting) (job : ℕ) (name : List ℕ) (group : ℕ)
    (w : Section) : Type 0 where
  pub kept : Record
  pub found : Found s job name kept w
  pub entries : FetchEntries kept job w
  pub piece : ℕ
  pub fragment : ℕ
  pub have : ℕ
  pub short : FirstShort kept piece fragment have (mine job w)
  pub point : ℕ
  pub unseen : IsUnseen kept piece fragment (mine job w) point
  pub group_is : group ≡ (place_at kept.geometry kept.places piece fragment point).group
  pub log : List Entry
  pub moment : LogPoint job (w.before group) (w.added group) log
  pub full : length log ≡ log_bound
