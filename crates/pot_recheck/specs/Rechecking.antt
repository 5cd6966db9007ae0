-- A desk is rechecked: all slots of its image that are Lost or Broken are Live.
use Rattle.std.specs.Prelude.{◌≡◌, ◌⊎◌, ◌<◌, ℕ, Option, Some, None, Err, Ok, List, [], length, map}
use Rattle.pot_outside.specs.Accounts.{Transition}
use Rattle.pot_outside.specs.Failing.{MayLeave}
use Rattle.pot_machine.specs.Slot.{live_of}
use Rattle.pot_machine.specs.Table.{Table}
use Rattle.pot_image.specs.declared.image.Image.{Image}
use Rattle.pot_image.specs.declared.fault.ImageFault.{ImageFault}
use Rattle.pot_image.specs.declared.fault.ImageFault.TheVariants as faults
use Rattle.pot_image.specs.Images.{Contents, AnswersImage, contents}
use Rattle.pot_image.specs.Spelling.{image_bytes}
use Rattle.pot_image.specs.Rules.{IsImage}
use Rattle.pot_recheck.specs.declared.listing.Unsound.{Unsound}
use Rattle.pot_recheck.specs.declared.rechecking.Rechecked.{Rechecked}
use Rattle.pot_recheck.specs.declared.rechecking.Rechecked.TheVariants as answer
use Rattle.pot_recheck.specs.Listing.{in_image}

-- each slot that is not Void is Live, with the digest that it has
abbrev pub live_table : Table → Table
live_table t = record t { slots = map live_of t.slots; relays = [] }

-- so it is in each table, and all else is as before
abbrev pub all_live : Contents → Contents
all_live v = record v { tables = map live_table v.tables }

-- the image was read from some bytes
abbrev pub ImageWasRead : Image → Type 0
ImageWasRead i = (bytes : List ℕ) × AnswersImage bytes (Ok i)

-- the desk holds bytes that are this image
abbrev pub HoldsImage : Option (List ℕ) → Image → Type 0
HoldsImage held i = (bytes : List ℕ) × (held ≡ Some bytes) × AnswersImage bytes (Ok i)

-- the bytes of the image in which all slots are Live that are not Void
abbrev pub live_bytes : Image → List ℕ
live_bytes i = image_bytes (all_live (contents i))

-- These are all slots of the image that were Lost or Broken. With none of them the desk holds what
-- it held, and else the image in which they are Live. That keeps the rules of images.
pub record FindsAll (desk : Transition (Option (List ℕ))) (i : Image)
    (found : List Unsound) : Type 0 where
  pub held : HoldsImage desk.before i
  pub all : found ≡ in_image (contents i)
  pub none : found ≡ [] → desk.after ≡ desk.before
  pub some : 0 < length found → desk.after ≡ Some (live_bytes i)
  pub rules : 0 < length found → IsImage (all_live (contents i))

-- the desk holds bytes that are no image, for this reason, and holds them still
abbrev pub RefusesImage : Transition (Option (List ℕ)) → ImageFault → Type 0
RefusesImage desk fault =
    (bytes : List ℕ) × (desk.before ≡ Some bytes) × AnswersImage bytes (Err fault)
    × (desk.after ≡ desk.before)

-- the desk failed over an image in which some slot was Lost or Broken, when it was replaced
abbrev pub FailsAtReplacing : Transition (Option (List ℕ)) → Type 0
FailsAtReplacing desk =
    (i : Image) × HoldsImage desk.before i × (0 < length (in_image (contents i)))
    × MayLeave desk.before (live_bytes i) desk.after

-- what a recheck of a desk comes to
abbrev pub Rechecks : Transition (Option (List ℕ)) → Rechecked → Type 0
Rechecks desk (answer.Found found) = (i : Image) × FindsAll desk i found.items
Rechecks desk answer.NoImage = (desk.before ≡ None) × (desk.after ≡ desk.before)
Rechecks desk answer.Cut = RefusesImage desk faults.Cut
Rechecks desk (answer.Trailer kept computed) = RefusesImage desk (faults.Trailer kept computed)
Rechecks desk (answer.Form place) = RefusesImage desk (faults.Form place)
Rechecks desk answer.DeskFault = (desk.after ≡ desk.before) ⊎ FailsAtReplacing desk
Rechecks desk answer.NoMemory = desk.after ≡ desk.before
