-- Another file in place of one that a session stored: what the same moves put of it, and that a
-- coalition of columns which sees too little of the first one sees the same of both.
use Rattle.std.specs.Prelude.{◌≡◌, ◌==◌, ◌&&◌, ◌++◌, ℕ, zero, suc, Bool, Option, Some, None}
use Rattle.std.specs.Prelude.{List, [], ◌∷◌, Contains, length, map, slice_index_or}
use Rattle.pot_bytes.specs.Lists.{AreBytes}
use Rattle.pot_bytes.specs.Rack.{no_place}
use Rattle.pot_bytes.specs.Sums.{zero_block}
use Rattle.pot_bytes.specs.declared.rack.Place.{Place}
use Rattle.pot_machine.specs.Table.{least}
use Rattle.pot_shard.specs.FileBlocks.{file_blocks}
use Rattle.pot_shard.specs.FileLaws.{IsStore}
use Rattle.pot_index.specs.declared.record.Split.{Split}
use Rattle.pot_index.specs.Records.{current_of}
use Rattle.pot_world.specs.Acts.{PutNext}
use Rattle.pot_world.specs.Audit.{group_in}
use Rattle.pot_world.specs.Group.{put}
use Rattle.pot_world.specs.Later.{Sessions, reopened_site}
use Rattle.pot_world.specs.Reached.{Makes, Move, Site, first_site, moved}
use Rattle.pot_audit.specs.declared.spot.Spot.{Spot}
use Rattle.pot_audit.specs.declared.veil.Veil.{Veil}
use Rattle.pot_audit.specs.Exposure.{has_column}
use Rattle.pot_audit.specs.Hiding.{AreHidden, other_random}
use Rattle.pot_audit.specs.Veils.{AreVeils}
use Rattle.pot_script.specs.declared.command.Command.TheVariants as commands
use Rattle.pot_script.specs.declared.grouping.Step.{Step}
use Rattle.pot_script.specs.declared.reply.Reply.{Reply}
use Rattle.pot_script.specs.declared.reply.Reply.TheVariants as replies
use Rattle.pot_replies.specs.Digests.{NoTwoAlike}
use Rattle.pot_promises.specs.Answers.{IsAnswered, job_at}
use Rattle.pot_promises.specs.Veils.{HasStored, random_of, stream_blocks}
use Rattle.pot_theorem.specs.Sessions.{ClosedSession, HasReplies}
use Rattle.pot_theorem.specs.Veil.{SameMoves, SeesThroughout}
use Rattle.pot_theorem.specs.Worlds.{IsInWorld}

-- WHAT IS PUT

-- the number of a place among these
abbrev pub is_place : Place → ℕ → ℕ → ℕ → Bool
is_place p g s c = (p.group == g) && ((p.stripe == s) && (p.column == c))

abbrev pub number_of : List Place → ℕ → ℕ → ℕ → Option ℕ
number_of places g s c =
    least (length places) (λ b. is_place (slice_index_or places b no_place) g s c)

-- the block of a number, or this one
abbrev pub block_or : List (List ℕ) → Option ℕ → List ℕ → List ℕ
block_or blocks None block = block
block_or blocks (Some b) block = slice_index_or blocks b block

-- What is put in a group in place of a block: where the block comes to one of these places, the one
-- of these blocks that has its number; and else the block itself.
abbrev pub put_for : List Place → List (List ℕ) → ℕ → List ℕ → Option (ℕ × ℕ) → List ℕ
put_for places blocks g block None = block
put_for places blocks g block (Some at) = block_or blocks (number_of places g at.0 at.1) block

abbrev pub other_put : List Place → List (List ℕ) → Move → Site → List ℕ
other_put places blocks (Makes g (PutNext job block)) x =
    put_for places blocks g block (put job block (group_in x g)).place
other_put places blocks m x = zero_block

-- by move
unfoldable pub other_puts : List Place → List (List ℕ) → List Move → Site → ℕ → List ℕ
other_puts places blocks [] x n = zero_block
other_puts places blocks (m ∷ moves) x zero = other_put places blocks m x
other_puts places blocks (m ∷ moves) x (suc n) = other_puts places blocks moves (moved m x) n

-- and by session: the bytes of the sessions in which these blocks are put at these places, and each
-- other block as it was
unfoldable pub bytes_of : List Place → List (List ℕ) → (x : Site) (sessions : List (List Move))
    (z : Site) → Sessions x sessions z → ℕ → ℕ → List ℕ
bytes_of places blocks x [] z run n m = zero_block
bytes_of places blocks x (moves ∷ more) z run zero m =
    other_puts places blocks moves (reopened_site x) m
bytes_of places blocks x (moves ∷ more) z run (suc n) m =
    bytes_of places blocks run.0 more z run.2 n m

-- the blocks that were written last to these places
abbrev pub blocks_at : List Place → Site → List (List ℕ)
blocks_at places x = map (λ p. (group_in x p.group).written p.stripe p.column) places

-- WHAT IS SEEN

-- Another file fits what a coalition sees. A store of it takes these random bytes, and with the
-- files exchanged they give the first random bytes back. Sessions of the same moves that put its
-- blocks at the places of the record, and each other block as it was, lead to groups in which its
-- blocks stand there. After each session all that the coalition sees is what the room means.
pub record FitsAnother (c : ClosedSession) (more : List ClosedSession) (w : IsInWorld c more)
    (exchanges : Bool) (spots : List Spot) (s : Split) (file random other explained : List ℕ)
    : Type 0 where
  pub store : IsStore s.geometry other explained
  pub back : other_random c.first.rack spots s other file explained ≡ random
  pub site : Site
  pub run : SameMoves exchanges (has_column spots)
      (bytes_of s.places (file_blocks s.geometry other explained) (first_site c.first.rack)
      w.sessions w.site w.run) c more w site
  pub stand : blocks_at s.places site ≡ file_blocks s.geometry other explained
  pub sees : SeesThroughout exchanges (has_column spots)
      (bytes_of s.places (file_blocks s.geometry other explained) (first_site c.first.rack)
      w.sessions w.site w.run) c more w site run

-- Take a command of a session that was `store` of a file and was answered `stored`. The entries of
-- its job say which record was published. Take a coalition of data and parity columns, which by the
-- rule of `audit` sees fewer points than are needed of some fragment of each piece. Then each other
-- file of that length fits what it sees, with random bytes that the two files, the coalition and
-- the stream of the seed, the session and the job name. No two different ones of the blocks of the
-- file and of those that stand at the places of its record may have one digest.
abbrev pub AnotherFile : (c : ClosedSession) (more : List ClosedSession) → IsInWorld c more → Type 0
AnotherFile c more w =
    (d : ClosedSession) → Contains (c ∷ more) d
    → (seed : List ℕ) (ss : List Step) (rs : List Reply)
    → (replied : HasReplies seed d.first d.story ss rs) (p i : ℕ)
    → (name file of : List ℕ) (pieces shards : ℕ)
    → IsAnswered d.first.rack ss rs p i (commands.Store name file) (replies.Stored of pieces shards)
    → (its : HasStored seed d.first (job_at ss p i) name file pieces shards replied.done)
    × ((exchanges : Bool) (spots : List Spot) (veils : List Veil) (other : List ℕ)
    → AreVeils c.first.rack spots its.kept veils → AreHidden veils
    → AreBytes other → length other ≡ length file
    → NoTwoAlike (stream_blocks seed d.first (job_at ss p i) file
    ++ blocks_at its.kept.places w.site)
    → FitsAnother c more w exchanges spots (current_of its.kept) file
    (random_of seed d.first (job_at ss p i) file) other
    (other_random c.first.rack spots (current_of its.kept) file other
    (random_of seed d.first (job_at ss p i) file)))
