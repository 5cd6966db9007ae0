-- What a fetch answers of a file that was stored.
use Rattle.std.specs.Prelude.{◌≡◌, ◌<◌, ◌++◌, ℕ, suc, IsTrue, Contains, List, [], ◌∷◌, Some}
use Rattle.std.specs.Prelude.{length, slice_get}
use Rattle.std.specs.List.{AllByRecursion}
use Rattle.pot_bytes.specs.Digests.{digest_of}
use Rattle.pot_bytes.specs.Rack.{log_bound}
use Rattle.pot_bytes.specs.declared.rack.Place.{Place}
use Rattle.pot_outside.specs.Accounts.{Transition}
use Rattle.pot_outside.specs.Counts.{Rose}
use Rattle.pot_outside.specs.Rooms.{RoomState}
use Rattle.pot_machine.specs.declared.entry.Entry.{Entry}
use Rattle.pot_machine.specs.Table.{Table, archives_in}
use Rattle.pot_group.specs.Arrivals.{arrivals}
use Rattle.pot_group.specs.Causes.{archives_of}
use Rattle.pot_index.specs.declared.record.Record.{Record}
use Rattle.pot_script.specs.declared.command.Command.TheVariants as commands
use Rattle.pot_script.specs.declared.grouping.Step.{Step}
use Rattle.pot_script.specs.declared.reply.Reply.{Reply}
use Rattle.pot_script.specs.declared.reply.Reply.TheVariants as replies
use Rattle.pot_script.specs.Steps.{IsWholeStep}
use Rattle.pot_image.specs.Images.{Contents}
use Rattle.pot_image.specs.Rules.{FitsTogether}
use Rattle.pot_replies.specs.Digests.{NoTwoAlike}
use Rattle.pot_replies.specs.Fetches.{IsLost}
use Rattle.pot_replies.specs.Listings.{IsIndexFull}
use Rattle.pot_replies.specs.Sections.{Section, FollowsSection}
use Rattle.pot_replies.specs.Sessions.{Replied}
use Rattle.pot_commands.specs.Rows.{Row}
use Rattle.pot_commands.specs.Steps.{steps_of}
use Rattle.pot_shared.specs.Hands.{times}
use Rattle.pot_session.specs.Losses.{BeginWith, FewCanBeHad}
use Rattle.pot_session.specs.Serving.{Leaves, setting_of}
use Rattle.pot_promises.specs.Answers.{IsAnswered, job_at}
use Rattle.pot_promises.specs.Chains.{IsSession, BeginsFrom, Later}
use Rattle.pot_promises.specs.Faults.{HasFailed}
use Rattle.pot_promises.specs.Odds.{WasOdd}
use Rattle.pot_promises.specs.Veils.{stream_blocks}

-- WHAT WAS STORED

-- A file was stored under this name before step q of a session: in an earlier step of it, or in an
-- earlier session, whose close the desk has, whatever sessions and rechecks came in between.
pub data WasStored (name file : List ℕ) (first : Contents) (ss : List Step) (rs : List Reply)
    (q : ℕ) : Type 0 where
  Here : (p i : ℕ) (of : List ℕ) (pieces shards : ℕ) → p < q
      → IsAnswered first.rack ss rs p i (commands.Store name file) (replies.Stored of pieces shards)
      → WasStored name file first ss rs q
  Before : (seed : List ℕ) (begun last left : Contents) (steps : List Step) (said : List Reply)
      → IsSession seed begun last steps said
      → (p i : ℕ) (of : List ℕ) (pieces shards : ℕ)
      → IsAnswered begun.rack steps said p i (commands.Store name file)
      (replies.Stored of pieces shards)
      → Later last left → BeginsFrom left first → WasStored name file first ss rs q

-- the blocks that the store put, by the seed of its session and the stream of its job
abbrev pub blocks_put : (seed name file : List ℕ) (first : Contents) (ss : List Step)
    (rs : List Reply) (q : ℕ) → WasStored name file first ss rs q → List (List ℕ)
blocks_put seed name file first ss rs q (Here p i of pieces shards before stored) =
    stream_blocks seed first (job_at ss p i) file
blocks_put seed name file first ss rs q
    (Before its begun last left steps said session p i of pieces shards stored later begins) =
    stream_blocks its begun (job_at steps p i) file

-- WHAT IS ASKED OF ARCHIVES

-- some block of the record stands in this group
abbrev pub HasPlaceIn : Record → ℕ → Type 0
HasPlaceIn kept g = (p : Place) × Contains kept.places p × (p.group ≡ g)

-- The room tells what its archives hold. It took back each archive that the groups of the record
-- had in the session, and none of these lost a block. Nothing is asked of other groups.
pub record KeptItsBlocks (first last : Contents) (room : Transition RoomState) (missing : List ℕ)
    (kept : Record) : Type 0 where
  pub tells : IsTrue room.tells
  pub none_lost : (g : ℕ) (read : Table) (log : List Entry) → HasPlaceIn kept g
      → slice_get first.tables g ≡ Some read → slice_get last.group_logs g ≡ Some log
      → (n : ℕ) → Contains (archives_in read ++ arrivals log) n
      → (times n missing ≡ 0)
      × (Rose (room.before.means n).losses (room.after.means n).losses → ⊥)

-- WHAT IS ANSWERED

-- `lost` is said of this fragment, whose number counts from 1 in the reply. Where the archives of
-- the record's own groups kept their blocks, fewer of its points can be had than are needed.
pub record IsLostBy (seed : List ℕ) (first last : Contents) (room : Transition RoomState)
    (missing : List ℕ) (job : ℕ) (name : List ℕ) (piece fragment have need : ℕ)
    (w : Section) : Type 0 where
  pub number : ℕ
  pub numbered : fragment ≡ suc number
  pub lost : IsLost (setting_of seed first) job name piece number have need w
  pub few : KeptItsBlocks first last room missing lost.kept
      → FewCanBeHad (setting_of seed first) job lost.kept piece number w

-- The log of this group of the session is full.
abbrev pub IsGroupLogFull : Contents → ℕ → Type 0
IsGroupLogFull last g =
    (log : List Entry) × (slice_get last.group_logs g ≡ Some log) × (length log ≡ log_bound)

-- What each reply says. Bytes are those of the file, unless the two texts differ and have one
-- digest. `odd` is said of the file's own digest, by blocks that were read; where nothing renewed
-- the name, two different ones among these and the blocks that were put have one digest. A `fault`
-- has its cause in an archive of that column, and `logfull` in a log that is full. No other reply
-- is given, and so none is `absent`.
abbrev pub SaysOf : List ℕ → Contents → Contents → Transition RoomState → List ℕ → List Step
    → List Section → (q j : ℕ) → (name file : List ℕ) → (put : List (List ℕ)) → Section → Reply
    → Type 0
SaysOf seed first last room missing ss ones q j name file put w (replies.File given bytes) =
    NoTwoAlike (file ∷ bytes ∷ []) → bytes ≡ file
SaysOf seed first last room missing ss ones q j name file put w
    (replies.Lost given piece fragment have need) =
    IsLostBy seed first last room missing (job_at ss q j) name piece fragment have need w
SaysOf seed first last room missing ss ones q j name file put w (replies.Odd given wanted got) =
    (wanted ≡ digest_of file)
    × ((read : List (List ℕ)) × (was : WasOdd read seed first ss ones q j name wanted got)
    × (was.odd.kept.older ≡ [] → NoTwoAlike (put ++ read) → ⊥))
SaysOf seed first last room missing ss ones q j name file put w (replies.Fault group column) =
    IsTrue room.tells → (read : Table) (log : List Entry)
    → slice_get first.tables group ≡ Some read → slice_get last.group_logs group ≡ Some log
    → HasFailed room.before.means room.after.means missing (archives_of read log column)
SaysOf seed first last room missing ss ones q j name file put w (replies.LogFull group) =
    IsGroupLogFull last group
SaysOf seed first last room missing ss ones q j name file put w replies.IndexLogFull =
    IsIndexFull (setting_of seed first) 1 (job_at ss q j) w
SaysOf seed first last room missing ss ones q j name file put w _ = ⊥

-- A fetch of a file that was stored, in this session or in an earlier one and renewed or not, is
-- answered so, by a section of the session's logs.
abbrev pub FetchAnswers : Type 0
FetchAnswers =
    (seed : List ℕ) (first last : Contents) (room : Transition RoomState) (missing : List ℕ)
    (story : Section)
    → FitsTogether first → Leaves room missing first last story
    → (ss : List Step) (rs : List Reply) (done later : Section) → FollowsSection done later story
    → (replied : Replied (Row (setting_of seed first)) 1 (steps_of ss) rs done)
    → AllByRecursion (IsWholeStep first.rack) ss
    → (q j : ℕ) (name file : List ℕ) → (was : WasStored name file first ss rs q)
    → (r : Reply) → IsAnswered first.rack ss rs q j (commands.Fetch name) r
    → (w : Section) × BeginWith w last.group_logs
    × SaysOf seed first last room missing ss replied.ones q j name file
    (blocks_put seed name file first ss rs q was) w r
