-- A file is given back after a recheck of the desk.
use Rattle.std.proofs.Common.{◌≡◌, ◌⊎◌, inl, inr, ℕ, List, Option}
use Rattle.std.specs.Prelude.{None}
use Rattle.pot_image.specs.declared.image.Image.{Image}
use Rattle.pot_image.specs.Images.{contents}
use Rattle.pot_recheck.specs.declared.rechecking.Rechecked.TheVariants as rechecked
use Rattle.pot_session.specs.Desks.{HoldsImage, begun}
use Rattle.pot_promises.specs.Chains.{Same}
use Rattle.pot_promises.specs.Promises.{GivesBackLater}
use Rattle.pot_promises.specs.Runs.{HasLater, RechecksGoOn, RunsGoOn}
use Rattle.run_examples.specs.Rechecked.{BackAfterRecheck}

none_read : {X : Type 0} (held : Option (List ℕ)) (read : Image) → held ≡ None → HoldsImage held read → X
none_read held read none (bytes, is, answers) = absurd (cc (none, is))

pub back_after_recheck : RunsGoOn → RechecksGoOn → GivesBackLater → BackAfterRecheck
back_after_recheck next goes back seed first last ss rs session p i name file of pieces shards stored desk answer has is read holds seed2 last2 ss2 rs2 session2 q j given bytes fetched alike =
    by (goes desk answer is last (last, has, Same))
  where
    by : HasLater last desk.after ⊎ ((answer ≡ rechecked.DeskFault) × (desk.after ≡ None)) → bytes ≡ file
    by (inl (now, has_now, later)) =
        back seed first last ss rs session p i name file of pieces shards stored now later seed2 (begun (contents read)) last2 ss2 rs2 (next now desk.after read has_now holds) session2 q j given bytes fetched alike
    by (inr (failed, none)) = none_read desk.after read none holds
