-- The blinds that a group has after a call: those that it had, and that of a relay that the call
-- began.
use Rattle.std.proofs.Common.{◌≡◌, ℕ, List, [], Result, Ok, Err, ap, sym, ◌∙◌, append-nil}
use Rattle.pot_bytes.specs.declared.rack.Place.{Place}
use Rattle.pot_outside.specs.Archives.{Meaning}
use Rattle.pot_outside.specs.declared.archive.Shelf.{Shelf}
use Rattle.pot_group.specs.declared.answers.Looked.{Looked}
use Rattle.pot_group.specs.declared.answers.PutFault.{PutFault}
use Rattle.pot_group.specs.declared.copying.MoveFault.{MoveFault}
use Rattle.pot_group.specs.declared.copying.MoveStep.{MoveStep}
use Rattle.pot_group.specs.declared.counting.Counts.{Counts}
use Rattle.pot_group.specs.declared.moving.ShelfRefused.{ShelfRefused}
use Rattle.pot_group.specs.declared.relaying.Mend.{Mend}
use Rattle.pot_group.specs.declared.sweeping.Swept.{Swept}
use Rattle.pot_group.specs.declared.telling.LogFull.{LogFull}
use Rattle.pot_group.specs.Calls.{CountCall, LookCall, Made, MendCall, MoveBeginCall, MoveStepCall, PutCall, SwapCall}
use Rattle.pot_group.specs.Group.{GroupView}
use Rattle.pot_group.specs.Relaying.{mend_as}
use Rattle.pot_group.specs.Sweeping.{SweepCall}
use Rattle.pot_execution.specs.Execution as call
use Rattle.pot_execution.specs.Execution.{blind_of}
use Rattle.pot_execution.proofs.Begun.{look_keeps, mend_adds, move_adds}
use Rattle.pot_shared.proofs.MemberLemmas.{MoreBlinds}

pub none_more : (old new : GroupView) → new.blinds ≡ old.blinds → MoreBlinds old new
none_more old new same = ([], same ∙ sym (append-nil old.blinds))

pub same_more : (old new : GroupView) → new ≡ old → MoreBlinds old new
same_more old new same = none_more old new (ap (λ (g : GroupView). g.blinds) same)

module _ {told : Type 0} {job : ℕ} {old new : GroupView} where
  pub put_more : {block : List ℕ} {result : Result Place PutFault} → Made (PutCall told job block result) old new → MoreBlinds old new
  put_more made = none_more old new made.2.logs.blinds

  pub look_more : {place : Place} {into : List ℕ} {result : Looked} → Made (LookCall told job place into result) old new → MoreBlinds old new
  look_more made = none_more old new made.2.logs.blinds

  pub sweep_more : {s c : ℕ} {result : Swept} → Made (SweepCall told job s c result) old new → MoreBlinds old new
  sweep_more {s} {c} {result} made = none_more old new (look_keeps told job s c made.2.looks old new made.0 made.2.goes).0

  pub mend_more : {place : Place} {blind : List ℕ} {result : Mend} → Made (MendCall told job place blind result) old new → MoreBlinds old new
  mend_more {place} {blind} {result} made =
      (blind_of (call.Mend job place.stripe place.column blind (mend_as result)), (mend_adds job place.stripe place.column blind old new made.0 result made.2.tells).blinds)

  pub step_more : {c : ℕ} {result : Result MoveStep MoveFault} → Made (MoveStepCall told job c result) old new → MoreBlinds old new
  step_more {c} {result} made = ([], (move_adds job c result old new made.0 made.2.tells).blinds)

module _ (told : Type 0) (job : ℕ) (old new : GroupView) where
  pub count_more : (result : Result Counts LogFull) → Made (CountCall told job result) old new → MoreBlinds old new
  count_more (Ok counts) made = none_more old new made.2.4.blinds
  count_more (Err e) made = same_more old new made.2.1

  module _ {A : Type 0} (meaning : A → Meaning) (c : ℕ) (shelf : Shelf A) where
    pub begin_more : (result : Result (Unit {0}) (ShelfRefused A)) → Made (MoveBeginCall told meaning job c shelf result) old new → MoreBlinds old new
    begin_more (Ok u) made = none_more old new made.2.comes.acts.blinds
    begin_more (Err r) made = same_more old new made.2.0.same

    pub swap_more : (result : Result ℕ (ShelfRefused A)) → Made (SwapCall told meaning job c shelf result) old new → MoreBlinds old new
    swap_more (Ok n) made = none_more old new made.2.0.comes.acts.blinds
    swap_more (Err r) made = same_more old new made.2.0.same
