-- An example of laws of runs: what a file is after a recheck of the desk.
use Rattle.std.specs.Prelude.{◌≡◌, ℕ, List, [], ◌∷◌, Option}
use Rattle.pot_outside.specs.Accounts.{Transition}
use Rattle.pot_script.specs.declared.command.Command.TheVariants as commands
use Rattle.pot_script.specs.declared.grouping.Step.{Step}
use Rattle.pot_script.specs.declared.reply.Reply.{Reply}
use Rattle.pot_script.specs.declared.reply.Reply.TheVariants as replies
use Rattle.pot_image.specs.declared.image.Image.{Image}
use Rattle.pot_image.specs.Images.{Contents, contents}
use Rattle.pot_recheck.specs.declared.rechecking.Rechecked.{Rechecked}
use Rattle.pot_recheck.specs.Rechecking.{Rechecks}
use Rattle.pot_replies.specs.Digests.{NoTwoAlike}
use Rattle.pot_session.specs.Desks.{HoldsImage, begun}
use Rattle.pot_promises.specs.Answers.{IsAnswered}
use Rattle.pot_promises.specs.Chains.{IsSession}
use Rattle.pot_promises.specs.Runs.{HasImage}

-- A session stored a file and left its image on the desk. The desk was rechecked, whatever came of
-- that. A session began with the image that was read of the desk then, and fetched the name. The
-- bytes are the file, if these two texts do not differ and have one digest.
abbrev pub BackAfterRecheck : Type 0
BackAfterRecheck =
    (seed : List ℕ) (first last : Contents) (ss : List Step) (rs : List Reply)
    → IsSession seed first last ss rs
    → (p i : ℕ) (name file of : List ℕ) (pieces shards : ℕ)
    → IsAnswered first.rack ss rs p i (commands.Store name file) (replies.Stored of pieces shards)
    → (desk : Transition (Option (List ℕ))) (answer : Rechecked)
    → HasImage desk.before last → Rechecks desk answer
    → (read : Image) → HoldsImage desk.after read
    → (seed2 : List ℕ) (last2 : Contents) (ss2 : List Step) (rs2 : List Reply)
    → IsSession seed2 (begun (contents read)) last2 ss2 rs2
    → (q j : ℕ) (given bytes : List ℕ)
    → IsAnswered read.rack ss2 rs2 q j (commands.Fetch name) (replies.File given bytes)
    → NoTwoAlike (file ∷ bytes ∷ []) → bytes ≡ file
