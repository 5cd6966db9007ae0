-- What a fetch does with the passes of the groups: its visits to the blocks of a record, and what
-- becomes of them.
use Rattle.std.specs.Prelude.{◌≡◌, ◌≢◌, ◌<◌, ◌⊎◌, ℕ, suc, ◌+◌, ◌*◌, Bool, true, false, List, []}
use Rattle.std.specs.Prelude.{◌∷◌, ◌++◌, Result, Ok, Err, Vec, length, drop, slice_index_or}
use Rattle.std.specs.Global.{Global}
use Rattle.std.specs.List.{flat_map, range_with_len}
use Rattle.pot_bytes.specs.declared.rack.Place.{Place}
use Rattle.pot_machine.specs.Table.{count}
use Rattle.pot_machine.specs.Logs.{own}
use Rattle.pot_bytes.specs.Digests.{digest_of}
use Rattle.pot_object.specs.Pieces.{content_size, pieces_of}
use Rattle.pot_split.specs.Threshold.{IsJoin}
use Rattle.pot_shard.specs.FileLaws.{xor_of}
use Rattle.pot_shard.specs.Fetches.{cut_to}
use Rattle.pot_index.specs.declared.record.Record.{Record}
use Rattle.pot_rows.specs.Works.{RowWroteOnlyFor, RowOnlyWriterOf}
use Rattle.pot_shared.specs.Ready.{GroupPasses}
use Rattle.pot_replies.specs.Joined.{points_read, shares_read}
use Rattle.pot_store.specs.declared.fetching.FetchFault.{FetchFault}
use Rattle.pot_store.specs.declared.fetching.FetchFault.TheVariants as fault
use Rattle.pot_store.specs.declared.points.Points.{Points}
use Rattle.pot_store.specs.Points.{came_in, IsPointSet}
use Rattle.pot_store.specs.Visits.{Came, Unknown, Gone, Failed, Barred, was_seen, Visit, IsVisit}
use Rattle.pot_store.specs.Visits.{ReadsBlock, IsGoneAgain, IsFullLog, visit_at, came_at, place_in}
use Rattle.pot_store.specs.Visits.{logged_from, seen_in, read_in}
use Rattle.pot_shared.specs.Works.{of_job, gained}

-- VISITS

-- A visit of the job to a place, as it stands in the end. What follows a Gone is known where nobody
-- else logs an entry of the job.
pub record IsMade (job : ℕ) (p : Place) (v : Visit) (old new : GroupPasses) : Type 0 where
  pub is : IsVisit job p v
  pub block : ReadsBlock job p v.came old new
  pub again : RowOnlyWriterOf (of_job job) old new → IsGoneAgain job p v old new

-- Visits of the job to the blocks from a number on.
pub record AreMade (job : ℕ) (places : List Place) (from : ℕ) (visits : List Visit)
    (old new : GroupPasses) : Type 0 where
  pub worked : RowWroteOnlyFor (of_job job) old new
  pub own : RowOnlyWriterOf (of_job job) old new → (g : ℕ)
      → own job (gained old new g) ≡ logged_from places g from visits
  pub each : (x : ℕ) → x < length visits
      → IsMade job (place_in places (from + x)) (visit_at visits x) old new

-- THE POINTS OF A FRAGMENT

-- the block of this number is the first of a fragment
abbrev pub IsFragmentFrom : Record → ℕ → Type 0
IsFragmentFrom kept from =
    (f : ℕ) × (f < pieces_of kept.length * kept.geometry.fragments)
    × (from ≡ f * kept.geometry.shards)

-- what came of a point was noted; or a call was refused
abbrev pub IsNoted : Bool → ℕ → Came → Points → Points → Type 0
IsNoted true x came old new = IsPointSet x came old new
IsNoted false x came old new = came ≡ Barred

-- one step at a point
pub record PointRead (Step : Came → GroupPasses → GroupPasses → Type 0) (x : ℕ) (old new : Points)
    (result : Bool) (v w : GroupPasses) : Type 0 where
  pub came : Came
  pub step : Step came v w
  pub noted : IsNoted result x came old new

-- enough of n points were seen, or each was looked at and the first x were mended where they had to
-- be
abbrev pub AreTried : ℕ → ℕ → ℕ → List Visit → Type 0
AreTried n need x visits =
    (seen_in n visits ≡ need)
    ⊎ ((seen_in n visits < need)
    × ((y : ℕ) → y < n → (came_at visits y ≢ Unknown) × (y < x → came_at visits y ≢ Gone)))

-- these visits were made, and this is known of the points
pub record PointsTried (job : ℕ) (places : List Place) (from n need x : ℕ) (points : Points)
    (v w : GroupPasses) : Type 0 where
  pub visits : List Visit
  pub reads : AreMade job places from visits v w
  pub long : length visits ≡ n
  pub same : (y : ℕ) → came_in points y ≡ came_at visits y
  pub tried : AreTried n need x visits

-- a call at one of these points was refused, with too few of them seen: the log of its group was
-- full
pub record IsBarred (places : List Place) (from n need : ℕ) (visits : List Visit) (group : ℕ)
    (w : GroupPasses) : Type 0 where
  pub point : ℕ
  pub within : point < n
  pub none : came_at visits point ≡ Barred
  pub group_is : group ≡ (place_in places (from + point)).group
  pub fewer : seen_in n visits < need
  pub full : IsFullLog group w

pub record PointsBarred (job : ℕ) (places : List Place) (from n need group : ℕ)
    (v w : GroupPasses) : Type 0 where
  pub visits : List Visit
  pub reads : AreMade job places from visits v w
  pub long : length visits ≡ n
  pub barred : IsBarred places from n need visits group w

abbrev pub PointsRead : ℕ → List Place → ℕ → ℕ → ℕ → ℕ → Points → Result (Unit {0}) FetchFault
    → GroupPasses → GroupPasses → Type 0
PointsRead job places from n need x points (Ok u) v w =
    PointsTried job places from n need x points v w
PointsRead job places from n need x points (Err (fault.LogFull group)) v w =
    PointsBarred job places from n need group v w
PointsRead job places from n need x points (Err _) v w = ⊥

-- FRAGMENTS

-- no more of the points can be seen, but for those at which an archive failed
pub record AreTooFewSeen (n need : ℕ) (visits : List Visit) : Type 0 where
  pub fewer : seen_in n visits < need
  pub looked : (x : ℕ) → x < n → came_at visits x ≢ Unknown
  pub mended : (x : ℕ) → x < n → came_at visits x ≢ Gone
  pub room : (x : ℕ) → x < n → came_at visits x ≢ Barred

-- the least of the first n points at which an archive failed, and its column
abbrev pub IsFirstFailed : ℕ → (ℕ → Came) → ℕ → ℕ → Type 0
IsFirstFailed n came x column =
    (x < n) × (came x ≡ Failed column) × ((y : ℕ) → y < x → (k : ℕ) → came y ≢ Failed k)

abbrev pub NoneFailed : ℕ → (ℕ → Came) → Type 0
NoneFailed n came = (x : ℕ) → x < n → (k : ℕ) → came x ≢ Failed k

-- the answer where too few points were seen: the first of the faults, and else that they are lost
abbrev pub IsFileMissing : Record → ℕ → ℕ → ℕ → (ℕ → Came) → FetchFault → Type 0
IsFileMissing kept from piece fragment came (fault.Faulted group column) =
    (x : ℕ) × IsFirstFailed kept.geometry.shards came x column
    × (group ≡ (place_in kept.places (from + x)).group)
IsFileMissing kept from piece fragment came (fault.Lost i number have need) =
    NoneFailed kept.geometry.shards came
    × (i ≡ piece) × (number ≡ suc fragment)
    × (have ≡ count kept.geometry.shards (λ x. was_seen (came x))) × (need ≡ kept.geometry.need)
IsFileMissing kept from piece fragment came _ = ⊥

-- why fragment j of piece i was not had
abbrev pub IsRefused : Record → ℕ → ℕ → List Visit → FetchFault → GroupPasses → Type 0
IsRefused kept i j visits (fault.LogFull group) w =
    IsBarred kept.places ((i * kept.geometry.fragments + j) * kept.geometry.shards)
    kept.geometry.shards kept.geometry.need visits group w
IsRefused kept i j visits e w =
    AreTooFewSeen kept.geometry.shards kept.geometry.need visits
    × IsFileMissing kept ((i * kept.geometry.fragments + j) * kept.geometry.shards) i j (came_at visits)
    e

-- a fragment was had: as many points as are needed, and the content that their shares are joined to
pub record IsHad (n need : ℕ) (visits : List Visit) (f : ℕ) (content : List ℕ) : Type 0 where
  pub enough : count n (λ x. was_seen (came_at visits (f * n + x))) ≡ need
  pub long : length content ≡ content_size
  pub joined : IsJoin (points_read n (read_in n visits f)) (shares_read n (read_in n visits f))
      content

abbrev pub content_at : List (List ℕ) → ℕ → List ℕ
content_at contents f = slice_index_or contents f []

-- so many fragments were had, one after another
pub record AreHad (kept : Record) (many : ℕ) (visits : List Visit)
    (contents : List (List ℕ)) : Type 0 where
  pub visited : length visits ≡ many * kept.geometry.shards
  pub count : length contents ≡ many
  pub each : (f : ℕ) → f < many
      → IsHad kept.geometry.shards kept.geometry.need visits f (content_at contents f)

-- Behind `base` fragments some more were had, and one was not.
pub record IsFetchStopped (kept : Record) (base : ℕ) (visits : List Visit) (e : FetchFault)
    (w : GroupPasses) : Type 0 where
  pub many : ℕ
  pub done : List Visit
  pub last : List Visit
  pub contents : List (List ℕ)
  pub are : visits ≡ done ++ last
  pub had : AreHad kept many done contents
  pub piece : ℕ
  pub fragment : ℕ
  pub at : base + many ≡ piece * kept.geometry.fragments + fragment
  pub in_pieces : piece < pieces_of kept.length
  pub in_fragments : fragment < kept.geometry.fragments
  pub long : length last ≡ kept.geometry.shards
  pub refused : IsRefused kept piece fragment last e w

-- what stands in the contents of k fragments behind their heads, one after another
abbrev pub fragments_in : List (List ℕ) → ℕ → List ℕ
fragments_in contents k = flat_map (λ j. drop 64 (content_at contents j)) (range_with_len 0 k)

-- fragment j of piece i, with what was read of the piece before
abbrev pub EndsFragment : Record → ℕ → ℕ → List Visit → List ℕ → List ℕ
    → Result (Unit {0}) FetchFault → GroupPasses → Type 0
EndsFragment kept i j visits old new (Ok u) w =
    (content : List ℕ) × AreHad kept 1 visits (content ∷ []) × (new ≡ old ++ drop 64 content)
EndsFragment kept i j visits old new (Err e) w = IsRefused kept i j visits e w

pub record FragmentRead (job : ℕ) (kept : Record) (i j : ℕ) (old new : List ℕ)
    (result : Result (Unit {0}) FetchFault) (v w : GroupPasses) : Type 0 where
  pub visits : List Visit
  pub reads : AreMade job kept.places ((i * kept.geometry.fragments + j) * kept.geometry.shards)
      visits v w
  pub long : length visits ≡ kept.geometry.shards
  pub ends : EndsFragment kept i j visits old new result w

-- PIECES

abbrev pub EndsPiece : Record → ℕ → List Visit → Result (List ℕ) FetchFault → GroupPasses → Type 0
EndsPiece kept i visits (Ok object) w =
    (contents : List (List ℕ)) × AreHad kept kept.geometry.fragments visits contents
    × (object ≡ xor_of (content_at contents) kept.geometry.fragments)
EndsPiece kept i visits (Err e) w = IsFetchStopped kept (i * kept.geometry.fragments) visits e w

pub record PieceRead (job : ℕ) (kept : Record) (i : ℕ) (result : Result (List ℕ) FetchFault)
    (v w : GroupPasses) : Type 0 where
  pub visits : List Visit
  pub reads : AreMade job kept.places (i * kept.geometry.fragments * kept.geometry.shards) visits v
      w
  pub ends : EndsPiece kept i visits result w

-- the object of piece i, from the contents of all fragments before and in it
abbrev pub object_at : ℕ → List (List ℕ) → ℕ → List ℕ
object_at k contents i = xor_of (λ j. content_at contents (i * k + j)) k

-- the file in the contents of all its fragments
pub record IsFileIn (kept : Record) (visits : List Visit) (contents : List (List ℕ))
    (bytes : List ℕ) : Type 0 where
  pub had : AreHad kept (pieces_of kept.length * kept.geometry.fragments) visits contents
  pub long : length bytes ≡ kept.length
  pub are : bytes ≡ cut_to kept.length (object_at kept.geometry.fragments contents)

abbrev pub EndsFile : Record → List Visit → List ℕ → Result (Unit {0}) FetchFault → GroupPasses
    → Type 0
EndsFile kept visits bytes (Ok u) w =
    (contents : List (List ℕ)) × IsFileIn kept visits contents bytes
EndsFile kept visits bytes (Err e) w = IsFetchStopped kept 0 visits e w

pub record FileRead (job : ℕ) (kept : Record) (bytes : List ℕ)
    (result : Result (Unit {0}) FetchFault) (v w : GroupPasses) : Type 0 where
  pub visits : List Visit
  pub reads : AreMade job kept.places 0 visits v w
  pub ends : EndsFile kept visits bytes result w

-- the file of a record: the bytes have its digest, or another one, or there was no memory before
-- the first look
abbrev pub EndsFetch : Record → List Visit → Result (Vec ℕ Global) FetchFault → GroupPasses → Type 0
EndsFetch kept visits (Ok bytes) w =
    (contents : List (List ℕ)) × IsFileIn kept visits contents bytes.items
    × (digest_of bytes.items ≡ kept.digest)
EndsFetch kept visits (Err (fault.Odd wanted found)) w =
    (contents : List (List ℕ)) × (bytes : List ℕ) × IsFileIn kept visits contents bytes
    × (wanted ≡ kept.digest) × (found ≡ digest_of bytes) × (found ≢ wanted)
EndsFetch kept visits (Err fault.NoMemory) w = visits ≡ []
EndsFetch kept visits (Err e) w = IsFetchStopped kept 0 visits e w

pub record RecordRead (job : ℕ) (kept : Record) (result : Result (Vec ℕ Global) FetchFault)
    (v w : GroupPasses) : Type 0 where
  pub visits : List Visit
  pub reads : AreMade job kept.places 0 visits v w
  pub ends : EndsFetch kept visits result w
