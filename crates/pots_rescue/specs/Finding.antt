-- Slots of an image are found again, and the image is written anew.
use Rattle.std.specs.Prelude.{◌≡◌, ℕ, Option, Some, None, Ok, Err, List}
use Rattle.std.specs.declared.vec.Vec.{Vec}
use Rattle.std.specs.Global.{Global}
use Rattle.pot_image.specs.declared.image.Image.{Image}
use Rattle.pot_image.specs.declared.fault.ImageFault.{ImageFault}
use Rattle.pot_image.specs.Images.{AnswersImage, contents}
use Rattle.pot_image.specs.Spelling.{image_bytes}
use Rattle.pot_image.specs.Rules.{IsImage}
use Rattle.pot_recheck.specs.declared.listing.Unsound.{Unsound}
use Rattle.pot_recheck.specs.Finding.{IsFound}

-- The bytes are those of the image that this one comes to where the slots that are named are found
-- again. There is one such image (`FoundOnce` of `pot_recheck`).
abbrev pub IsImageWritten : List Unsound → Image → List ℕ → Type 0
IsImageWritten found old bytes =
    (new : Image) × IsFound found (contents old) (contents new)
    × (bytes ≡ image_bytes (contents new))

-- and that image keeps the rules of images
abbrev pub KeepsRules : List Unsound → Image → Type 0
KeepsRules found old =
    (new : Image) × IsFound found (contents old) (contents new) × IsImage (contents new)

-- the bytes are an image and these its bytes then, or they are no image
abbrev pub FindsIn : List ℕ → List Unsound → Option (Vec ℕ Global) → Type 0
FindsIn bytes found None = (fault : ImageFault) × AnswersImage bytes (Err fault)
FindsIn bytes found (Some new) =
    (old : Image) × AnswersImage bytes (Ok old) × IsImageWritten found old new.items
    × KeepsRules found old
