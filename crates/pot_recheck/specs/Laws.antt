-- What is proved of slots that are found again.
use Rattle.std.specs.Prelude.{◌≡◌, ◌↔◌, ◌<◌, ℕ, List, [], IsTrue}
use Rattle.std.specs.List.{Contains}
use Rattle.pot_machine.specs.Slot.{digest_in, is_void, is_live}
use Rattle.pot_machine.specs.Table.{Table, width, slot_at}
use Rattle.pot_image.specs.Images.{Contents}
use Rattle.pot_image.specs.Rules.{FitsTogether, IsImage}
use Rattle.pot_recheck.specs.declared.listing.Unsound.{Unsound}
use Rattle.pot_recheck.specs.Listing.{IsUnsound, in_image}
use Rattle.pot_recheck.specs.Finding.{IsFound, IsFoundTable}
use Rattle.pot_recheck.specs.Rechecking.{all_live}

-- what holds of each slot of a table that was found again
abbrev pub OfSlots : (Table → Table → ℕ → ℕ → Type 0) → Type 0
OfSlots P =
    (found : List Unsound) (g : ℕ) (t u : Table) (s c : ℕ) → IsFoundTable found g t u
    → s < t.stripes → c < width t → P t u s c

-- no digest changes
abbrev pub DigestsStayFound : Type 0
DigestsStayFound = OfSlots (λ t u s c. digest_in (slot_at u s c) ≡ digest_in (slot_at t s c))

-- a slot is Void exactly where it was
abbrev pub VoidsStay : Type 0
VoidsStay = OfSlots (λ t u s c. is_void (slot_at u s c) ≡ is_void (slot_at t s c))

-- a slot that is Live stays Live
abbrev pub LivesStay : Type 0
LivesStay = OfSlots (λ t u s c. IsTrue (is_live (slot_at t s c)) → IsTrue (is_live (slot_at u s c)))

-- The list has all slots of the image that are Lost or Broken, and no others.
abbrev pub ListsUnsound : Type 0
ListsUnsound = (v : Contents) (u : Unsound) → Contains (in_image v) u ↔ IsUnsound v u

-- An image that keeps the rules of images keeps them.
abbrev pub RulesStayFound : Type 0
RulesStayFound = (found : List Unsound) (v w : Contents) → IsFound found v w → IsImage v → IsImage w

-- What an image comes to is one image.
abbrev pub FoundOnce : Type 0
FoundOnce =
    (found : List Unsound) (v w x : Contents) → FitsTogether v → IsFound found v w
    → IsFound found v x → w ≡ x

-- A second time changes nothing.
abbrev pub TwiceIsOnce : Type 0
TwiceIsOnce =
    (found : List Unsound) (v w x : Contents) → FitsTogether v → IsFound found v w
    → IsFound found w x → x ≡ w

-- Where all that are Lost or Broken are found again, all slots are Live that are not Void.
abbrev pub AllFound : Type 0
AllFound =
    (v w : Contents) → FitsTogether v → IsFound (in_image v) v w → w ≡ all_live v

-- Then none is Lost or Broken any more.
abbrev pub NoneLeft : Type 0
NoneLeft = (v : Contents) → in_image (all_live v) ≡ []
