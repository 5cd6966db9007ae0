-- A drill: two files of one length, and what is told of them.
use Rattle.std.specs.Prelude.{◌≡◌, ◌≤◌, ◌-◌, ◌++◌, ℕ, true, false, List, [], ◌∷◌, Result, Ok, Err}
use Rattle.std.specs.Prelude.{OnOk, codes, decimal, length, unwrap_or, IsTrue}
use Rattle.pot_bytes.specs.Rack.{IsGeometry}
use Rattle.pot_bytes.specs.declared.rack.Geometry.{Geometry}
use Rattle.pot_outside.specs.Accounts.{Transition}
use Rattle.pot_object.specs.Pieces.{longest, pieces_of}
use Rattle.pot_pads.specs.Pads.{pads_of, next_bytes}
use Rattle.pot_script.specs.Replies.{spaced, in_hex}
use Rattle.pot_shard.specs.FileBlocks.{random_len}
use Rattle.pot_veil.specs.Drills.{IsReport, IsDrillFault}
use Rattle.pot_veil.specs.Seen.{AreSeen}
use Rattle.pot_veil.specs.declared.drilling.DrillFault.TheVariants as fault
use Rattle.pot_veil.specs.declared.drilling.DrillReport.{DrillReport}
use Rattle.pot_words.specs.declared.drill.Drill.{Drill}
use Rattle.pot_session.specs.declared.ending.status.Status.{Status}
use Rattle.pot_session.specs.declared.ending.stop.Stop.{Stop}
use Rattle.pot_session.specs.declared.ending.stop.Stop.TheVariants as stop
use Rattle.pot_session.specs.declared.telling.Telling.{Telling}
use Rattle.pot_session.specs.Streams.{ReadsAtMost}
use Rattle.pot_session.specs.Telling.{WordAnswers}

-- the split of a drill is within the limits, and its hidden fragment and its seen points are of it
pub record IsDrill (d : Drill) : Type 0 where
  pub geometry : IsGeometry d.geometry
  pub first : 1 ≤ d.hidden
  pub last : d.hidden ≤ d.geometry.fragments
  pub seen : AreSeen d.geometry.shards d.seen.items

-- THE SOURCE

-- The bytes are two files of one length: the length in decimal digits, and then each file, with LF
-- (10) after the length and after each.
pub record ArePair (bytes file other : List ℕ) : Type 0 where
  pub fits : length file ≤ longest
  pub same_length : length other ≡ length file
  pub spelled : bytes ≡ decimal (length file) ++ 10 ∷ (file ++ 10 ∷ (other ++ 10 ∷ []))

-- Reading ends with this byte at the latest: the longest two files are one byte shorter, the
-- length's six digits, twice 884736 bytes, and three LF.
abbrev pub read_most : ℕ
read_most = 1769482

-- the bytes are no two files
abbrev pub IsNoPair : List ℕ → Type 0
IsNoPair bytes = (file other : List ℕ) → ArePair bytes file other → ⊥

-- WHAT IS TOLD

-- the random bytes of a store of a file of this length, by session 0 and job 0 of the seed
abbrev pub random_of : Geometry → List ℕ → ℕ → List ℕ
random_of g seed count = next_bytes (pads_of seed 0 0) (random_len (pieces_of count) g)

-- the length of the files, their pieces, the seen blocks, and the digest of these
abbrev pub report_text : ℕ → DrillReport → List ℕ
report_text count r =
    codes "explained" ++ spaced count ++ spaced r.pieces ++ spaced r.blocks ++ codes "\n"
    ++ codes "digest" ++ in_hex r.digest ++ codes "\n"

-- the hidden fragment, of which so many points are seen, where so many are needed
abbrev pub exposed_text : ℕ → ℕ → ℕ → List ℕ
exposed_text number have need =
    codes "exposed" ++ spaced number ++ spaced have ++ spaced need ++ codes "\n"

-- All pieces of the first file were explained by the second, and the report is told; or so many
-- points are seen that this is refused.
pub data DrillsTo (d : Drill) (seed file other : List ℕ) (t : Telling) : Type 0 where
  Explained : (r : DrillReport) (explained : List ℕ)
      → IsReport d.geometry file other (d.hidden - 1) d.seen.items
      (random_of d.geometry seed (length file)) explained r
      → t.text.items ≡ report_text (length file) r → t.refused ≡ false
      → DrillsTo d seed file other t
  Exposed : (number have need : ℕ) (random : List ℕ)
      → IsDrillFault d.geometry d.hidden d.seen.items random random (fault.Exposed number have need)
      → t.text.items ≡ exposed_text number have need → t.refused ≡ true
      → DrillsTo d seed file other t

-- THE WHOLE

-- The source has two files, of which this is told; or it has no two files; or it failed, or memory
-- ran out.
abbrev pub Drilled : Drill → List ℕ → Transition (List ℕ) → Result Telling Stop → Type 0
Drilled d seed source (Ok t) =
    (file : List ℕ) × (other : List ℕ) × (IsTrue source.tells → ArePair source.before file other)
    × DrillsTo d seed file other t
Drilled d seed source (Err (stop.BadLine number)) =
    (number ≡ 0) × (IsTrue source.tells → IsNoPair source.before)
Drilled d seed source (Err stop.SourceFault) = Unit {0}
Drilled d seed source (Err stop.NoMemory) = Unit {0}
Drilled d seed source (Err _) = ⊥

-- What `drill` comes to, and what it leaves of the source: nothing behind two files. Where the
-- words give no seed it is the drawn one.
pub record Drills (d : Drill) (drawn : List ℕ) (source sink : Transition (List ℕ))
    (answer : Status) : Type 0 where
  pub made : Result Telling Stop
  pub is : Drilled d (unwrap_or d.seed drawn) source made
  pub read : IsTrue source.tells → ReadsAtMost read_most source
  pub whole : IsTrue source.tells → OnOk made (source.after ≡ [])
  pub answers : WordAnswers sink made answer
