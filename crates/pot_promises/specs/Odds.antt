-- That a fetch of a file which a session stored is not answered `odd`.
use Rattle.std.specs.Prelude.{◌≡◌, ◌≤◌, ◌<◌, ◌++◌, ℕ, List, [], Some, slice_get}
use Rattle.pot_bytes.specs.declared.digest.Digest.{Digest}
use Rattle.pot_bytes.specs.declared.rack.Geometry.{Geometry}
use Rattle.pot_bytes.specs.declared.rack.Rack.{Rack}
use Rattle.pot_script.specs.declared.command.Command.TheVariants as commands
use Rattle.pot_script.specs.declared.grouping.Step.{Step}
use Rattle.pot_script.specs.declared.reply.Reply.{Reply}
use Rattle.pot_script.specs.declared.reply.Reply.TheVariants as replies
use Rattle.pot_image.specs.Images.{Contents}
use Rattle.pot_replies.specs.Digests.{NoTwoAlike}
use Rattle.pot_replies.specs.Fetches.{IsOdd}
use Rattle.pot_replies.specs.Sections.{Section, MovesThenRest, work_of}
use Rattle.pot_session.specs.Serving.{setting_of}
use Rattle.pot_promises.specs.Answers.{IsAnswered, job_at}
use Rattle.pot_promises.specs.Chains.{BeginsFrom, IsSession, Later}
use Rattle.pot_promises.specs.Veils.{stream_blocks}

-- The fetch of a name at this place was odd: the digest of the bytes was not the wanted one. Each
-- block that it read is one of these. `ones` has what each step added to the logs.
pub record WasOdd (read : List (List ℕ)) (seed : List ℕ) (first : Contents) (ss : List Step)
    (ones : List Section) (q j : ℕ) (name : List ℕ) (wanted got : Digest) : Type 0 where
  pub one : Section
  pub halves : MovesThenRest one
  pub its : slice_get ones q ≡ Some one
  pub odd : IsOdd (Some read) (setting_of seed first) (job_at ss q j) name wanted got
      (work_of one halves)

-- A fetch that is answered `odd` was so by blocks that it read.
abbrev pub OddReads : Type 0
OddReads =
    (seed : List ℕ) (first last : Contents) (ss : List Step) (rs : List Reply)
    (session : IsSession seed first last ss rs) (q j : ℕ)
    → (name given : List ℕ) (wanted got : Digest)
    → IsAnswered first.rack ss rs q j (commands.Fetch name) (replies.Odd given wanted got)
    → (read : List (List ℕ)) × WasOdd read seed first ss session.replied.ones q j name wanted got

-- no command of the steps up to this one renewed the name
abbrev pub NoneRenewed : Rack → List Step → List Reply → ℕ → List ℕ → Type 0
NoneRenewed rack ss rs q name =
    (k i : ℕ) (geometry : Geometry) (given : List ℕ) (pieces shards : ℕ) → k ≤ q
    → IsAnswered rack ss rs k i (commands.Renew name geometry) (replies.Renewed given pieces shards)
    → ⊥

-- No fetch of a stored file is odd: a command of step p was `store` of the file under the name and
-- was answered `stored`, q is a later step, and no command up to it renewed the name. If a fetch of
-- the name in step q was odd by these blocks, then among them and the blocks that the stream of the
-- seed, the session and the job of the store gives of the file there are two different ones of one
-- digest.
abbrev pub NeverOdd : Type 0
NeverOdd =
    (seed : List ℕ) (first last : Contents) (ss : List Step) (rs : List Reply)
    → (session : IsSession seed first last ss rs) (p i q j : ℕ) → p < q
    → (name file of : List ℕ) (pieces shards : ℕ)
    → IsAnswered first.rack ss rs p i (commands.Store name file) (replies.Stored of pieces shards)
    → NoneRenewed first.rack ss rs q name → (read : List (List ℕ)) (wanted got : Digest)
    → WasOdd read seed first ss session.replied.ones q j name wanted got
    → NoTwoAlike (stream_blocks seed first (job_at ss p i) file ++ read) → ⊥

-- The same over sessions: the file was stored in one, whose close the desk has, and its name was
-- fetched in a later one, whatever other sessions and rechecks came in between. The record that the
-- fetch found has one split, so that nothing renewed the name.
abbrev pub NeverOddLater : Type 0
NeverOddLater =
    (seed : List ℕ) (first last : Contents) (ss : List Step) (rs : List Reply)
    → IsSession seed first last ss rs → (p i : ℕ)
    → (name file of : List ℕ) (pieces shards : ℕ)
    → IsAnswered first.rack ss rs p i (commands.Store name file) (replies.Stored of pieces shards)
    → (left : Contents) → Later last left
    → (seed2 : List ℕ) (first2 last2 : Contents) (ss2 : List Step) (rs2 : List Reply)
    → BeginsFrom left first2 → (session2 : IsSession seed2 first2 last2 ss2 rs2)
    → (q j : ℕ) (read : List (List ℕ)) (wanted got : Digest)
    → (was : WasOdd read seed2 first2 ss2 session2.replied.ones q j name wanted got)
    → was.odd.kept.older ≡ []
    → NoTwoAlike (stream_blocks seed first (job_at ss p i) file ++ read) → ⊥
