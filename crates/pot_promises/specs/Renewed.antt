-- That a fetch of a file is not answered `odd` where it found the split of a store or of a renewal,
-- in whatever order their lines stand.
use Rattle.std.specs.Prelude.{◌≡◌, ◌++◌, ℕ, List, [], ◌∷◌, Some, length, slice_get}
use Rattle.pot_bytes.specs.declared.digest.Digest.{Digest}
use Rattle.pot_bytes.specs.declared.rack.Geometry.{Geometry}
use Rattle.pot_pads.specs.Pads.{pads_of}
use Rattle.pot_script.specs.declared.command.Command.TheVariants as commands
use Rattle.pot_script.specs.declared.grouping.Step.{Step}
use Rattle.pot_script.specs.declared.reply.Reply.{Reply}
use Rattle.pot_script.specs.declared.reply.Reply.TheVariants as replies
use Rattle.pot_image.specs.Images.{Contents}
use Rattle.pot_replies.specs.Digests.{NoTwoAlike}
use Rattle.pot_replies.specs.Renewals.{IsRenewed, renewing}
use Rattle.pot_replies.specs.Sections.{Section, MovesThenRest, work_of}
use Rattle.pot_store.specs.Drawing.{blocks_from}
use Rattle.pot_session.specs.Serving.{setting_of}
use Rattle.pot_promises.specs.Answers.{IsAnswered, job_at}
use Rattle.pot_promises.specs.Chains.{IsSession, BeginsFrom, Later}
use Rattle.pot_promises.specs.Fetched.{WasStored}
use Rattle.pot_promises.specs.Odds.{WasOdd}
use Rattle.pot_promises.specs.Veils.{stream_blocks}

-- No fetch of a stored file is odd that found its first split. `NeverOdd` asks that the fetch
-- stands in a later step. Here both may be lines of one batch.
abbrev pub NeverOddTogether : Type 0
NeverOddTogether =
    (seed : List ℕ) (first last : Contents) (ss : List Step) (rs : List Reply)
    → (session : IsSession seed first last ss rs) (p i q j : ℕ)
    → (name file of : List ℕ) (pieces shards : ℕ)
    → IsAnswered first.rack ss rs p i (commands.Store name file) (replies.Stored of pieces shards)
    → (read : List (List ℕ)) (wanted got : Digest)
    → (was : WasOdd read seed first ss session.replied.ones q j name wanted got)
    → was.odd.kept.older ≡ []
    → NoTwoAlike (stream_blocks seed first (job_at ss p i) file ++ read) → ⊥

-- the blocks of a new split of a file, by the stream that the job draws new splits from
abbrev pub split_blocks : List ℕ → Contents → ℕ → Geometry → List ℕ → List (List ℕ)
split_blocks seed first job geometry file =
    blocks_from geometry file (pads_of seed first.session (renewing job))

-- The name was renewed at this place: by its entries the job fetched a file, put the blocks of a
-- new split of it, and logged the record that has the split. `ones` has what each step added to the
-- logs.
pub record WasRenewed (seed : List ℕ) (first : Contents) (ss : List Step) (ones : List Section)
    (p i : ℕ) (name : List ℕ) (geometry : Geometry) (pieces shards : ℕ) : Type 0 where
  pub one : Section
  pub halves : MovesThenRest one
  pub its : slice_get ones p ≡ Some one
  pub renewed : IsRenewed (setting_of seed first) (job_at ss p i) name geometry pieces shards
      (work_of one halves)

-- A command that was answered `renewed` renewed its name.
abbrev pub RenewedShows : Type 0
RenewedShows =
    (seed : List ℕ) (first last : Contents) (ss : List Step) (rs : List Reply)
    (session : IsSession seed first last ss rs) (p i : ℕ)
    → (name of : List ℕ) (geometry : Geometry) (pieces shards : ℕ)
    → IsAnswered first.rack ss rs p i (commands.Renew name geometry)
    (replies.Renewed of pieces shards)
    → WasRenewed seed first ss session.replied.ones p i name geometry pieces shards

-- No fetch of a renewed file is odd that found the split of the renewal: its record has as many
-- splits as the renewal's. The file was stored, in this session or before. The text that the
-- renewal fetched is the file, unless the two differ and have one digest. If the fetch was odd by
-- these blocks, then two different ones among them and those of the new split have one digest. The
-- fetch and the renewal may be lines of one batch.
abbrev pub NeverOddRenewed : Type 0
NeverOddRenewed =
    (seed : List ℕ) (first last : Contents) (ss : List Step) (rs : List Reply)
    → (session : IsSession seed first last ss rs) (p i q j n : ℕ)
    → (name file : List ℕ) (geometry : Geometry) (pieces shards : ℕ)
    → WasStored name file first ss rs n
    → (it : WasRenewed seed first ss session.replied.ones p i name geometry pieces shards)
    → NoTwoAlike (file ∷ it.renewed.all.file ∷ [])
    → (read : List (List ℕ)) (wanted got : Digest)
    → (was : WasOdd read seed first ss session.replied.ones q j name wanted got)
    → length was.odd.kept.older ≡ length it.renewed.now.older
    → NoTwoAlike (split_blocks seed first (job_at ss p i) geometry file ++ read) → ⊥

-- The same over sessions: the name was renewed in one, whose close the desk has, and fetched in a
-- later one, whatever other sessions and rechecks came in between.
abbrev pub NeverOddRenewedLater : Type 0
NeverOddRenewedLater =
    (seed : List ℕ) (first last : Contents) (ss : List Step) (rs : List Reply)
    → (session : IsSession seed first last ss rs) (p i n : ℕ)
    → (name file : List ℕ) (geometry : Geometry) (pieces shards : ℕ)
    → WasStored name file first ss rs n
    → (it : WasRenewed seed first ss session.replied.ones p i name geometry pieces shards)
    → NoTwoAlike (file ∷ it.renewed.all.file ∷ []) → (left : Contents) → Later last left
    → (seed2 : List ℕ) (first2 last2 : Contents) (ss2 : List Step) (rs2 : List Reply)
    → BeginsFrom left first2 → (session2 : IsSession seed2 first2 last2 ss2 rs2)
    → (q j : ℕ) (read : List (List ℕ)) (wanted got : Digest)
    → (was : WasOdd read seed2 first2 ss2 session2.replied.ones q j name wanted got)
    → length was.odd.kept.older ≡ length it.renewed.now.older
    → NoTwoAlike (split_blocks seed first (job_at ss p i) geometry file ++ read) → ⊥
