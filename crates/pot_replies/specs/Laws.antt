-- A reply stands however much other jobs log after it, within its section.
use Rattle.std.specs.Prelude.{◌≡◌, ℕ, List, [], ◌++◌, Option}
use Rattle.pot_bytes.specs.declared.digest.Digest.{Digest}
use Rattle.pot_bytes.specs.declared.rack.Geometry.{Geometry}
use Rattle.pot_machine.specs.declared.entry.Entry.{Entry}
use Rattle.pot_machine.specs.Logs.{own}
use Rattle.pot_index.specs.declared.entry.Logged.{Logged}
use Rattle.pot_index.specs.declared.listed.Listed as listed
use Rattle.pot_index.specs.Entries as index
use Rattle.pot_replies.specs.Sections.{Section, LogPoint, IndexMoment, Widens, mine}
use Rattle.pot_replies.specs.Settings.{Setting}
use Rattle.pot_replies.specs.Stores.{IsStoreFull, IsStoreLogFull}
use Rattle.pot_replies.specs.Listings.{IsIndexFull, IsStoreIndexFull, AreNamesListed, StatusLine}
use Rattle.pot_replies.specs.Listings.{IsStatus}
use Rattle.pot_replies.specs.Fetches.{IsFile, IsOdd, IsLost, IsFetchFault, IsFetchLogFull}
use Rattle.pot_replies.specs.Scrubs.{IsScrubbed, IsScrubFault, IsRepaired, IsRepairFault}
use Rattle.pot_replies.specs.Scrubs.{IsScrubLogFull, IsRepairLogFull}
use Rattle.pot_replies.specs.Renewals.{IsRenewed, IsOften, IsOftenLate, IsRenewIndexFull}
use Rattle.pot_replies.specs.Renewals.{IsRenewFault, IsRenewFull, IsRenewLogFull}
use Rattle.pot_replies.specs.Moves.{IsMigrated, IsMigrateFault, IsBeginLogFull, IsStepLogFull}

-- What a section has of a job stays the same. So every row stands that speaks of this alone:
-- `long`, `exists`, `stored` and `fault` of a store, `absent`, all of a replace, and the refusals
-- of a migrate.
abbrev pub MineStays : Type 0
MineStays = (job : ℕ) (w w' : Section) → Widens job w w' → mine job w' ≡ mine job w

-- a moment stays
abbrev pub MomentStands : Type 0
MomentStands =
    (job : ℕ) (before added more log : List Entry) → own job more ≡ [] → LogPoint job before added log
    → LogPoint job before (added ++ more) log

abbrev pub IndexMomentStands : Type 0
IndexMomentStands =
    (job : ℕ) (before added more log : List Logged) → index.own job more ≡ []
    → IndexMoment job before added log → IndexMoment job before (added ++ more) log

abbrev pub FullStands : Type 0
FullStands =
    (s : Setting) (job : ℕ) (name file : List ℕ) (g : ℕ) (w w' : Section) → Widens job w w'
    → IsStoreFull s job name file g w → IsStoreFull s job name file g w'

abbrev pub StoreLogFullStands : Type 0
StoreLogFullStands =
    (s : Setting) (job : ℕ) (name file : List ℕ) (g : ℕ) (w w' : Section) → Widens job w w'
    → IsStoreLogFull s job name file g w → IsStoreLogFull s job name file g w'

abbrev pub IndexFullStands : Type 0
IndexFullStands =
    (s : Setting) (n job : ℕ) (w w' : Section) → Widens job w w' → IsIndexFull s n job w
    → IsIndexFull s n job w'

abbrev pub StoreIndexFullStands : Type 0
StoreIndexFullStands =
    (s : Setting) (size job : ℕ) (w w' : Section) → Widens job w w' → IsStoreIndexFull s size job w
    → IsStoreIndexFull s size job w'

abbrev pub ListedStands : Type 0
ListedStands =
    (s : Setting) (job : ℕ) (names : List listed.Listed) (w w' : Section) → Widens job w w'
    → AreNamesListed s job names w → AreNamesListed s job names w'

abbrev pub StatusStands : Type 0
StatusStands =
    (s : Setting) (job : ℕ) (lines : List StatusLine) (w w' : Section) → Widens job w w'
    → IsStatus s job lines w → IsStatus s job lines w'

abbrev pub FileStands : Type 0
FileStands =
    (s : Setting) (job : ℕ) (name bytes : List ℕ) (w w' : Section) → Widens job w w'
    → IsFile s job name bytes w → IsFile s job name bytes w'

abbrev pub OddStands : Type 0
OddStands =
    (held : Option (List (List ℕ))) (s : Setting) (job : ℕ) (name : List ℕ) (wanted got : Digest)
    (w w' : Section)
    → Widens job w w' → IsOdd held s job name wanted got w → IsOdd held s job name wanted got w'

abbrev pub LostStands : Type 0
LostStands =
    (s : Setting) (job : ℕ) (name : List ℕ) (piece fragment have need : ℕ) (w w' : Section)
    → Widens job w w' → IsLost s job name piece fragment have need w
    → IsLost s job name piece fragment have need w'

abbrev pub FetchFaultStands : Type 0
FetchFaultStands =
    (s : Setting) (job : ℕ) (name : List ℕ) (group column : ℕ) (w w' : Section)
    → Widens job w w' → IsFetchFault s job name group column w
    → IsFetchFault s job name group column w'

abbrev pub FetchLogFullStands : Type 0
FetchLogFullStands =
    (s : Setting) (job : ℕ) (name : List ℕ) (group : ℕ) (w w' : Section)
    → Widens job w w' → IsFetchLogFull s job name group w → IsFetchLogFull s job name group w'

abbrev pub ScrubbedStands : Type 0
ScrubbedStands =
    (s : Setting) (job g seen gone : ℕ) (w w' : Section) → Widens job w w'
    → IsScrubbed s job g seen gone w → IsScrubbed s job g seen gone w'

abbrev pub ScrubFaultStands : Type 0
ScrubFaultStands =
    (s : Setting) (job g column : ℕ) (w w' : Section)
    → Widens job w w' → IsScrubFault s job g column w → IsScrubFault s job g column w'

abbrev pub ScrubLogFullStands : Type 0
ScrubLogFullStands =
    (s : Setting) (job g : ℕ) (w w' : Section) → Widens job w w' → IsScrubLogFull s job g w
    → IsScrubLogFull s job g w'

abbrev pub RepairedStands : Type 0
RepairedStands =
    (s : Setting) (job g mended left : ℕ) (w w' : Section) → Widens job w w'
    → IsRepaired s job g mended left w → IsRepaired s job g mended left w'

abbrev pub RepairFaultStands : Type 0
RepairFaultStands =
    (job g column : ℕ) (w w' : Section) → Widens job w w' → IsRepairFault job g column w
    → IsRepairFault job g column w'

abbrev pub RepairLogFullStands : Type 0
RepairLogFullStands =
    (s : Setting) (job g : ℕ) (w w' : Section) → Widens job w w' → IsRepairLogFull s job g w
    → IsRepairLogFull s job g w'

-- the rows of a migrate, over the work of the command
abbrev pub MigratedStands : Type 0
MigratedStands =
    (s : Setting) (before begun : ℕ → List Entry) (job from to slots : ℕ) (w w' : Section)
    → Widens job w w' → IsMigrated s before begun job from to slots w
    → IsMigrated s before begun job from to slots w'

abbrev pub MigrateFaultStands : Type 0
MigrateFaultStands =
    (s : Setting) (before begun : ℕ → List Entry) (job from to g column : ℕ) (w w' : Section)
    → Widens job w w' → IsMigrateFault s before begun job from to g column w
    → IsMigrateFault s before begun job from to g column w'

abbrev pub BeginLogFullStands : Type 0
BeginLogFullStands =
    (s : Setting) (before begun : ℕ → List Entry) (job from to g : ℕ) (w w' : Section)
    → Widens job w w' → IsBeginLogFull s before begun job from to g w
    → IsBeginLogFull s before begun job from to g w'

abbrev pub StepLogFullStands : Type 0
StepLogFullStands =
    (s : Setting) (before begun : ℕ → List Entry) (job from to g : ℕ) (w w' : Section)
    → Widens job w w' → IsStepLogFull s before begun job from to g w
    → IsStepLogFull s before begun job from to g w'

-- the rows of a renewal
abbrev pub RenewedStands : Type 0
RenewedStands =
    (s : Setting) (job : ℕ) (name : List ℕ) (geometry : Geometry) (pieces shards : ℕ)
    (w w' : Section)
    → Widens job w w' → IsRenewed s job name geometry pieces shards w
    → IsRenewed s job name geometry pieces shards w'

abbrev pub OftenStands : Type 0
OftenStands =
    (s : Setting) (job : ℕ) (name : List ℕ) (w w' : Section) → Widens job w w'
    → IsOften s job name w → IsOften s job name w'

abbrev pub OftenLateStands : Type 0
OftenLateStands =
    (s : Setting) (job : ℕ) (name : List ℕ) (geometry : Geometry) (w w' : Section)
    → Widens job w w' → IsOftenLate s job name geometry w → IsOftenLate s job name geometry w'

abbrev pub RenewIndexFullStands : Type 0
RenewIndexFullStands =
    (s : Setting) (job : ℕ) (name : List ℕ) (geometry : Geometry) (w w' : Section)
    → Widens job w w' → IsRenewIndexFull s job name geometry w
    → IsRenewIndexFull s job name geometry w'

abbrev pub RenewFaultStands : Type 0
RenewFaultStands =
    (s : Setting) (job : ℕ) (name : List ℕ) (geometry : Geometry) (g column : ℕ) (w w' : Section)
    → Widens job w w' → IsRenewFault s job name geometry g column w
    → IsRenewFault s job name geometry g column w'

abbrev pub RenewFullStands : Type 0
RenewFullStands =
    (s : Setting) (job : ℕ) (name : List ℕ) (geometry : Geometry) (g : ℕ) (w w' : Section)
    → Widens job w w' → IsRenewFull s job name geometry g w → IsRenewFull s job name geometry g w'

abbrev pub RenewLogFullStands : Type 0
RenewLogFullStands =
    (s : Setting) (job : ℕ) (name : List ℕ) (geometry : Geometry) (g : ℕ) (w w' : Section)
    → Widens job w w' → IsRenewLogFull s job name geometry g w
    → IsRenewLogFull s job name geometry g w'

-- a fetch of one record does not end both as `lost` and as `fault`
abbrev pub LostNotFault : Type 0
LostNotFault =
    (s : Setting) (job : ℕ) (name : List ℕ) (piece fragment have need group column : ℕ)
    (w : Section)
    → (lost : IsLost s job name piece fragment have need w)
    → (fault : IsFetchFault s job name group column w) → lost.kept ≡ fault.kept → ⊥
