-- What a desk holds, and what the replacing of its image does.
use Rattle.std.specs.Prelude.{◌≡◌, ◌⊎◌, ◌++◌, ℕ, List, [], ◌∷◌, Option, Some, Result, Ok, Err}
use Rattle.std.specs.Prelude.{Contains}
use Rattle.pot_outside.specs.Accounts.{Account, Content, Transition, held_in, transition}
use Rattle.pot_outside.specs.Accounts.{transition_by}
use Rattle.pot_outside.specs.Failing.{MayLeave}
use Rattle.pot_outside.specs.declared.faults.Failed.{Failed}

-- What a desk holds: its image, or none; and the images that it ever had, in the order in which
-- they came.
pub record Images : Type 0 where
  pub now : Option (List ℕ)
  pub past : List (List ℕ)

-- its image is one that it ever had
abbrev pub HadItsImage : Images → Type 0
HadItsImage held = (image : List ℕ) → held.now ≡ Some image → Contains held.past image

-- what a call met of a desk's image
abbrev pub now_in : Transition Images → Transition (Option (List ℕ))
now_in m = transition_by m.tells m.before.now m.after.now

abbrev pub image_met : Transition (Content Images) → Transition (Option (List ℕ))
image_met m = now_in (held_in m)

abbrev pub image_transition : {A : Type 0} → Account A (Content Images) → A → A → Transition (Option (List ℕ))
image_transition account old new = now_in (transition account old new)

-- THE CALLS

-- the image is there; where a replacing fails, what it may leave
abbrev pub Replaces : Option (List ℕ) → Option (List ℕ) → List ℕ → Result (Unit {0}) Failed → Type 0
Replaces before after image (Ok u) = after ≡ Some image
Replaces before after image (Err e) = MayLeave before image after

-- The image came to those that a desk ever had, and no other did. It need not where the desk had it
-- before, or failed.
abbrev pub MayCome : List (List ℕ) → List ℕ → List (List ℕ) → Type 0
MayCome before image after = (after ≡ before) ⊎ (after ≡ before ++ image ∷ [])
