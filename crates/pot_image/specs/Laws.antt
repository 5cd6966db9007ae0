-- What is proved of grammars of fields, of an image that is read after it was written, and of the
-- bytes of one that is read.
use Rattle.std.specs.Prelude.{◌≡◌, ◌⊎◌, ℕ, List, Result, Ok, MatchResult}
use Rattle.pot_bytes.specs.Lists.{AreBytes}
use Rattle.pot_image.specs.declared.format.Format.{Format}
use Rattle.pot_image.specs.declared.format.Format.TheVariants.{Second}
use Rattle.pot_image.specs.declared.image.Image.{Image}
use Rattle.pot_image.specs.declared.fault.ImageFault.{ImageFault}
use Rattle.pot_image.specs.declared.fault.ImageFault.TheVariants as faults
use Rattle.pot_image.specs.Fields.{Grammar, IsOf, LeavesAt}
use Rattle.pot_image.specs.Images.{Contents, contents, image, format_number, AnswersImage}
use Rattle.pot_image.specs.Spelling.{IsCountable, field_bytes, image_bytes}
use Rattle.pot_image.specs.Rules.{IsImage}

-- bytes have at most one value
abbrev pub ReadOnce : {A : Type 0} → Grammar A → Type 0
ReadOnce {A} g = (bytes : List ℕ) (a b : A) → IsOf g bytes a → IsOf g bytes b → a ≡ b

-- they leave the grammar at no more than one place
abbrev pub LeftOnce : {A : Type 0} → Grammar A → Type 0
LeftOnce g = (bytes : List ℕ) (p q : ℕ) → LeavesAt g bytes p → LeavesAt g bytes q → p ≡ q

-- bytes of the grammar do not leave it
abbrev pub NeverBoth : {A : Type 0} → Grammar A → Type 0
NeverBoth {A} g = (bytes : List ℕ) (a : A) (p : ℕ) → IsOf g bytes a → LeavesAt g bytes p → ⊥

-- all bytes are of the grammar or leave it somewhere
abbrev pub Decided : {A : Type 0} → Grammar A → Type 0
Decided {A} g = (bytes : List ℕ) → ((a : A) × IsOf g bytes a) ⊎ ((p : ℕ) × LeavesAt g bytes p)

-- AN IMAGE THAT WAS WRITTEN

-- its fields are those of the grammar, with their value
abbrev pub FieldsReadBack : Type 0
FieldsReadBack = (v : Contents) → IsImage v → IsOf (image Second) (field_bytes v) v

-- whatever reading may answer to its bytes is the image, unless memory was not found
abbrev pub ReadBack : Type 0
ReadBack =
    (v : Contents) (r : Result Image ImageFault) → IsImage v → AnswersImage (image_bytes v) r
    → MatchResult r (λ i. contents i ≡ v) (λ e. e ≡ faults.NoMemory)

-- no two images have the same bytes
abbrev pub WrittenApart : Type 0
WrittenApart = (v w : Contents) → IsImage v → IsImage w → image_bytes v ≡ image_bytes w → v ≡ w

-- it may be written
abbrev pub MayBeWritten : Type 0
MayBeWritten = (i : Image) → IsImage (contents i) → IsCountable i

-- there is one
abbrev pub SomeImage : Type 0
SomeImage = (v : Contents) × IsImage v

-- A VALUE HAS ONE SPELLING

-- in each format: bytes that are read as the same value are the same bytes
abbrev pub OneSpelling : Type 0
OneSpelling =
    (format : Format) (x y : List ℕ) (v : Contents) → AreBytes x → AreBytes y
    → IsOf (image format) x v → IsOf (image format) y v → x ≡ y

-- in the second format they are those that are written
abbrev pub SpelledAsWritten : Type 0
SpelledAsWritten =
    (bytes : List ℕ) (v : Contents) → AreBytes bytes → IsOf (image Second) bytes v
    → bytes ≡ field_bytes v

-- the same of all bytes of an image: those that reading answers with one value, in one format, are
-- the same bytes
abbrev pub OneImage : Type 0
OneImage =
    (x y : List ℕ) (i j : Image) → AreBytes x → AreBytes y → AnswersImage x (Ok i)
    → AnswersImage y (Ok j) → format_number x ≡ format_number y → contents i ≡ contents j → x ≡ y

-- and in the second format they are those that are written
abbrev pub ImageAsWritten : Type 0
ImageAsWritten =
    (x : List ℕ) (i : Image) → AreBytes x → AnswersImage x (Ok i) → format_number x ≡ 2
    → x ≡ image_bytes (contents i)
