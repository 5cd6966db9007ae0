-- What is promised of files that were stored.
use Rattle.std.specs.Prelude.{◌≡◌, ◌<◌, ℕ, List, [], ◌∷◌}
use Rattle.pot_script.specs.declared.grouping.Step.{Step}
use Rattle.pot_script.specs.declared.command.Command.TheVariants as commands
use Rattle.pot_script.specs.declared.reply.Reply.{Reply}
use Rattle.pot_script.specs.declared.reply.Reply.TheVariants as replies
use Rattle.pot_image.specs.Images.{Contents}
use Rattle.pot_replies.specs.Digests.{NoTwoAlike}
use Rattle.pot_promises.specs.Answers.{IsAnswered}
use Rattle.pot_promises.specs.Chains.{IsSession, BeginsFrom, Later}

-- The very file: a command of step p of the script was `store` of a file under a name, and was
-- answered `stored`; one of a later step q was `fetch` of that name, and was answered with bytes.
-- They are that file, if the two do not differ and have one digest. A step is a command alone or a
-- batch, and each command has its place in its step.
abbrev pub GivesBack : Type 0
GivesBack =
    (seed : List ℕ) (first last : Contents) (ss : List Step) (rs : List Reply)
    → IsSession seed first last ss rs
    → (p i q j : ℕ) → p < q
    → (name file of : List ℕ) (pieces shards : ℕ)
    → IsAnswered first.rack ss rs p i (commands.Store name file) (replies.Stored of pieces shards)
    → (given bytes : List ℕ)
    → IsAnswered first.rack ss rs q j (commands.Fetch name) (replies.File given bytes)
    → NoTwoAlike (file ∷ bytes ∷ []) → bytes ≡ file

-- The same over sessions: the file was stored in one, whose close the desk has, and its name was
-- fetched in a later one, whatever other sessions and rechecks came in between, and however each of
-- all these ended.
abbrev pub GivesBackLater : Type 0
GivesBackLater =
    (seed : List ℕ) (first last : Contents) (ss : List Step) (rs : List Reply)
    → IsSession seed first last ss rs
    → (p i : ℕ) (name file of : List ℕ) (pieces shards : ℕ)
    → IsAnswered first.rack ss rs p i (commands.Store name file) (replies.Stored of pieces shards)
    → (left : Contents) → Later last left
    → (seed2 : List ℕ) (first2 last2 : Contents) (ss2 : List Step) (rs2 : List Reply)
    → BeginsFrom left first2 → IsSession seed2 first2 last2 ss2 rs2
    → (q j : ℕ) (given bytes : List ℕ)
    → IsAnswered first2.rack ss2 rs2 q j (commands.Fetch name) (replies.File given bytes)
    → NoTwoAlike (file ∷ bytes ∷ []) → bytes ≡ file
