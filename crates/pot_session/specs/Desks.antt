-- What a session reads from its desk and writes there.
use Rattle.std.specs.Prelude.{◌≡◌, ◌⊎◌, ◌<◌, ◌≤◌, ◌+◌, ◌-◌, ◌^◌, ◌++◌, ℕ, List, []}
use Rattle.std.specs.Prelude.{Option, Some, None, Result, Ok, Err, length, replicate, IsTrue}
use Rattle.pot_bytes.specs.Rack.{log_bound}
use Rattle.pot_outside.specs.Accounts.{Transition}
use Rattle.pot_outside.specs.Failing.{MayLeave}
use Rattle.pot_image.specs.declared.image.Image.{Image}
use Rattle.pot_image.specs.declared.fault.ImageFault.TheVariants as faults
use Rattle.pot_image.specs.Images.{Contents, AnswersImage, contents}
use Rattle.pot_session.specs.declared.ending.stop.Stop.{Stop}
use Rattle.pot_session.specs.declared.ending.stop.Stop.TheVariants as stop

-- WHAT IS READ

-- One more session may begin: the number of the image's session is not the last one, and an image
-- may have its records and all that a session can add to them.
abbrev pub CanGoOn : Contents → Type 0
CanGoOn v = (v.session < 2 ^ 32 - 1) × (length v.records + log_bound ≤ 4000000000)

abbrev pub ImageGoesOn : Image → Type 0
ImageGoesOn i = CanGoOn (contents i)

-- the image is that of the last session that there can be
abbrev pub IsLastSession : Image → Type 0
IsLastSession i = (i.session ≡ 2 ^ 32 - 1) ⊎ (4000000000 < length i.records.items + log_bound)

-- why the bytes are no image from which a session may begin
abbrev pub RefusesBytes : List ℕ → Stop → Type 0
RefusesBytes bytes stop.Cut = AnswersImage bytes (Err faults.Cut)
RefusesBytes bytes (stop.Trailer kept computed) =
    AnswersImage bytes (Err (faults.Trailer kept computed))
RefusesBytes bytes (stop.Form place) = AnswersImage bytes (Err (faults.Form place))
RefusesBytes bytes stop.Spent = (i : Image) × AnswersImage bytes (Ok i) × IsLastSession i
RefusesBytes bytes stop.NoMemory = Unit {0}
RefusesBytes bytes _ = ⊥

-- the bytes are an image from which a session may begin, or it is said why not
abbrev pub OpensImage : List ℕ → Result Image Stop → Type 0
OpensImage bytes (Ok i) = AnswersImage bytes (Ok i) × ImageGoesOn i
OpensImage bytes (Err s) = RefusesBytes bytes s

-- The desk holds this image.
abbrev pub HoldsImage : Option (List ℕ) → Image → Type 0
HoldsImage held i = (bytes : List ℕ) × (held ≡ Some bytes) × AnswersImage bytes (Ok i)

-- why the desk holds no image from which a session may begin
abbrev pub RefusesDesk : Option (List ℕ) → Stop → Type 0
RefusesDesk held stop.NoImage = held ≡ None
RefusesDesk held stop.DeskFault = Unit {0}
RefusesDesk held stop.NoMemory = Unit {0}
RefusesDesk held s = (bytes : List ℕ) × (held ≡ Some bytes) × RefusesBytes bytes s

-- why no image may come from a desk, whether it tells its image or not
abbrev pub IsDeskStop : Stop → Type 0
IsDeskStop stop.NoImage = Unit {0}
IsDeskStop stop.Cut = Unit {0}
IsDeskStop (stop.Trailer kept computed) = Unit {0}
IsDeskStop (stop.Form place) = Unit {0}
IsDeskStop stop.Spent = Unit {0}
IsDeskStop stop.DeskFault = Unit {0}
IsDeskStop stop.NoMemory = Unit {0}
IsDeskStop _ = ⊥

-- The desk's image was read, or it is said why not.
abbrev pub OpensDesk : Transition (Option (List ℕ)) → Result Image Stop → Type 0
OpensDesk desk (Ok i) = ImageGoesOn i × (IsTrue desk.tells → HoldsImage desk.before i)
OpensDesk desk (Err s) = IsTrue desk.tells → RefusesDesk desk.before s

-- why no image was read, whatever its session
abbrev pub IsImageStop : Stop → Type 0
IsImageStop stop.Spent = ⊥
IsImageStop s = IsDeskStop s

-- the bytes are an image, or it is said why not
abbrev pub IsImageIn : List ℕ → Result Image Stop → Type 0
IsImageIn bytes (Ok i) = AnswersImage bytes (Ok i)
IsImageIn bytes (Err s) = RefusesBytes bytes s

-- The desk's image was read, whatever its session, or it is said why not.
abbrev pub ReadsDesk : Transition (Option (List ℕ)) → Result Image Stop → Type 0
ReadsDesk desk (Ok i) = IsTrue desk.tells → HoldsImage desk.before i
ReadsDesk desk (Err s) = IsTrue desk.tells → RefusesDesk desk.before s

-- WHAT IS WRITTEN

-- the image with which the session after this one begins
abbrev pub begun : Contents → Contents
begun v = record {
  session = v.session + 1;
  rack = v.rack;
  tables = v.tables;
  records = v.records;
  group_logs = replicate v.rack.groups [];
  index_log = [];
}

-- why a desk did not take an image, whether it tells its image or not
abbrev pub IsKeepStop : Stop → Type 0
IsKeepStop stop.DeskFault = Unit {0}
IsKeepStop stop.NoMemory = Unit {0}
IsKeepStop _ = ⊥

-- what is said of an image if its bytes were made: the desk took them, or failed over them
abbrev pub IfWritten : Result (Unit {0}) Stop → Type 0 → Type 0
IfWritten (Ok u) P = P
IfWritten (Err stop.NoMemory) P = Unit {0}
IfWritten (Err _) P = P

-- The desk holds these bytes now. Where it failed it holds them, what it held before or nothing,
-- and for want of memory what it held before.
abbrev pub DeskKeeps : Transition (Option (List ℕ)) → List ℕ → Result (Unit {0}) Stop → Type 0
DeskKeeps desk bytes (Ok u) = desk.after ≡ Some bytes
DeskKeeps desk bytes (Err stop.DeskFault) = MayLeave desk.before bytes desk.after
DeskKeeps desk bytes (Err stop.NoMemory) = desk.after ≡ desk.before
DeskKeeps desk bytes (Err _) = ⊥

-- Of the images that a desk ever had: this one came to them, once or more often, or it did not; and
-- no other did.
abbrev pub CameToDesk : List (List ℕ) → List ℕ → List (List ℕ) → Type 0
CameToDesk before image after = (n : ℕ) × (after ≡ before ++ replicate n image)

-- so the first one came, and then the last one
abbrev pub CameBoth : List (List ℕ) → (first last : List ℕ) → List (List ℕ) → Type 0
CameBoth before first last after =
    (between : List (List ℕ)) × CameToDesk before first between × CameToDesk between last after
