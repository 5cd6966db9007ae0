-- The veil over what a session stored.
use Rattle.std.specs.Prelude.{◌≡◌, ℕ, true, List, Some, length, slice_get}
use Rattle.pot_bytes.specs.Lists.{AreBytes}
use Rattle.pot_bytes.specs.declared.digest.Digest.{Digest}
use Rattle.pot_object.specs.Pieces.{pieces_of}
use Rattle.pot_pads.specs.Pads.{pads_of}
use Rattle.pot_bytes.specs.Digests.{digest_of}
use Rattle.pot_shard.specs.FileBlocks.{file_blocks}
use Rattle.pot_shard.specs.FileLaws.{IsStore}
use Rattle.pot_veil.specs.Veiled.{Split, Spot, IsVeiledSplit, explained_split, is_seen}
use Rattle.pot_index.specs.Records.{current_of}
use Rattle.pot_audit.specs.Hiding.{places_of}
use Rattle.pot_script.specs.declared.command.Command.TheVariants as commands
use Rattle.pot_script.specs.declared.grouping.Step.{Step}
use Rattle.pot_script.specs.declared.reply.Reply.{Reply}
use Rattle.pot_script.specs.declared.reply.Reply.TheVariants as replies
use Rattle.pot_image.specs.Images.{Contents}
use Rattle.pot_replies.specs.Sections.{Section, mine}
use Rattle.pot_replies.specs.Stores.{IsStored, Placed, place_of}
use Rattle.pot_store.specs.Drawing.{random_from}
use Rattle.pot_session.specs.Serving.{setting_of}
use Rattle.pot_promises.specs.Answers.{IsAnswered, job_at}
use Rattle.pot_promises.specs.Chains.{IsSession}

-- the random bytes of the file that a job stores: the first of the stream of the seed, the session
-- and the job
abbrev pub random_of : List ℕ → Contents → ℕ → List ℕ → List ℕ
random_of seed first job file =
    random_from first.rack.geometry file (pads_of seed first.session job)

-- the blocks that this stream gives of the file
abbrev pub stream_blocks : List ℕ → Contents → ℕ → List ℕ → List (List ℕ)
stream_blocks seed first job file =
    file_blocks first.rack.geometry file (random_of seed first job file)

-- Block b of a file, by its random bytes, and of another file, by others, is one, and it has this
-- digest.
pub record IsSameBlock (s : Split) (file random other explained : List ℕ) (b : ℕ) (digest : Digest)
    : Type 0 where
  pub block : List ℕ
  pub its : slice_get (file_blocks s.geometry file random) b ≡ Some block
  pub others : slice_get (file_blocks s.geometry other explained) b ≡ Some block
  pub digest_is : digest ≡ digest_of block

-- Another file fits what a coalition sees of a file whose blocks were put at these places. A store
-- of the other file takes these random bytes, at each place of the coalition they give the very
-- block that was put there, and with the files exchanged they give the first random bytes back.
pub record FitsToo (coalition : List Spot) (s : Split) (hidden : ℕ → ℕ) (placed : List Placed)
    (file random other explained : List ℕ) : Type 0 where
  pub store : IsStore s.geometry other explained
  pub blocks : (b : ℕ) (x : Placed) → slice_get placed b ≡ Some x
      → is_seen coalition (place_of x) ≡ true → IsSameBlock s file random other explained b x.digest
  pub back : explained_split coalition s hidden other file explained ≡ random

-- Every other file of that length fits, wherever the coalition is veiled, under random bytes that
-- the files, the places and the first random bytes name.
abbrev pub EachOtherFits : Split → List Placed → List ℕ → List ℕ → Type 0
EachOtherFits s placed file random =
    (coalition : List Spot) (hidden : ℕ → ℕ) (other : List ℕ)
    → IsVeiledSplit coalition s (pieces_of (length file)) hidden → AreBytes other
    → length other ≡ length file
    → FitsToo coalition s hidden placed file random other
    (explained_split coalition s hidden file other random)

-- what the entries of a job that stored a file say in these logs
abbrev pub HasStored : List ℕ → Contents → ℕ → List ℕ → List ℕ → ℕ → ℕ → Section → Type 0
HasStored seed first job name file pieces shards w =
    IsStored (setting_of seed first) job name file pieces shards (mine job w)

-- The veil over what was stored: a command of step p was `store` of a file and was answered
-- `stored`. The entries of its job say that the blocks were put which the stream of the seed, the
-- session and the job gives of the file, in order, and that a record of their places was published.
-- And of each coalition of data columns that sees, of some fragment of each piece, fewer of these
-- places than are needed, every other file of that length fits what it sees.
abbrev pub StaysVeiled : Type 0
StaysVeiled =
    (seed : List ℕ) (first last : Contents) (ss : List Step) (rs : List Reply)
    → (session : IsSession seed first last ss rs) (p i : ℕ)
    → (name file of : List ℕ) (pieces shards : ℕ)
    → IsAnswered first.rack ss rs p i (commands.Store name file) (replies.Stored of pieces shards)
    → (its : HasStored seed first (job_at ss p i) name file pieces shards session.done)
    × EachOtherFits (places_of (current_of its.kept)) its.placed file
    (random_of seed first (job_at ss p i) file)
