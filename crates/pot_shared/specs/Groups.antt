-- The groups of a vault, from their start to their end.
use Rattle.std.specs.Prelude.{◌≡◌, ◌⊎◌, ◌<◌, ◌≤◌, ◌+◌, ◌-◌, ◌^◌, ◌++◌, ℕ, Bool, true, List, []}
use Rattle.std.specs.Prelude.{◌∷◌, Option, Some}
use Rattle.std.specs.Prelude.{None, Contains, length, map, slice_get, flat_map}
use Rattle.pot_outside.specs.Archives.{Meaning}
use Rattle.pot_outside.specs.Counts.{Rose}
use Rattle.pot_outside.specs.declared.archive.Marks.{Marks}
use Rattle.pot_bytes.specs.declared.rack.Rack.{Rack}
use Rattle.pot_machine.specs.declared.entry.Entry.{Entry}
use Rattle.pot_machine.specs.Table.{Table, archives_in, serving_at, width}
use Rattle.pot_steps.specs.Stripe.{Sound}
use Rattle.pot_steps.specs.Holdings.{stripe_of}
use Rattle.pot_steps.specs.GroupStep.{BreaksStripe, FindsGone, Spared, as_read, opening}
use Rattle.pot_index.specs.declared.record.Record.{Record}
use Rattle.pot_group.specs.Arrivals.{arrivals, HasArrived}
use Rattle.pot_group.specs.Group.{GroupView, IsSettled}
use Rattle.pot_execution.specs.Execution.{HasExecution}
use Rattle.pot_shelves.specs.Opening.{failures}
use Rattle.pot_shelves.specs.Shelves.{Shelves}
use Rattle.pot_turn.specs.Views.{first_view, cut_view}
use Rattle.pot_worked.specs.WroteOnlyFor.{added}
use Rattle.pot_rows.specs.Rows.{view_at}
use Rattle.pot_replies.specs.Sessions.{ByNobody}
use Rattle.pot_shared.specs.declared.member.Logged.{Logged}
use Rattle.pot_shared.specs.declared.member.GroupOrigin.{GroupOrigin}
use Rattle.pot_shared.specs.declared.catalog.CatalogOrigin.{CatalogOrigin}
use Rattle.pot_shared.specs.Members.{entries_of, mark_at, opened_at, taking_at}
use Rattle.pot_shared.specs.Ready.{GroupPass, GroupPasses, IsTableOf}
use Rattle.pot_shared.specs.Catalogs.{IndexPasses, records_in}
use Rattle.pot_shared.specs.Works.{Known, gained}
use Rattle.pot_shared.specs.Going.{AllOnlyWriters, AllStay, AllExtend}
use Rattle.pot_shared.specs.Hands.{times}
use Rattle.pot_shared.specs.Coming.{AreMarkedBy, came_in, marks_of, taking_of}

-- the archives that a group has: those of the table that it began with, and those that its log
-- brought
abbrev pub had_by : GroupView → List ℕ
had_by g = archives_in g.first ++ arrivals g.log

-- THE START

-- a table of the rack with which a group can begin: no relay stands in it
pub record IsFirstTable (rack : Rack) (t : Table) : Type 0 where
  pub of_rack : IsTableOf rack t
  pub relays : t.relays ≡ []

-- a group of this number that was started over this table, and whose opening brought no archive and
-- is of no job
pub record IsStarted (number : ℕ) (t : Table) (g : GroupView) : Type 0 where
  pub is_number : g.number ≡ number
  pub first : g.first ≡ t
  pub none : arrivals g.log ≡ []
  pub nobody : ByNobody g.log

-- the group at each place was started with the number of that place over the table of that place;
-- `see` is what a value is seen as
pub record AreStarted {M : Type 0} (see : M → GroupView) (tables : List Table)
    (members : List M) : Type 0 where
  pub count : length members ≡ length tables
  pub each : (n : ℕ) (m : M) (t : Table) → slice_get members n ≡ Some m
      → slice_get tables n ≡ Some t → IsStarted n t (see m)

-- the group at each place has that number and a table of the rack, and its opening brought no
-- archive and is of no job
pub record AreOfRack {M : Type 0} (see : M → GroupView) (rack : Rack)
    (members : List M) : Type 0 where
  pub count : length members ≡ rack.groups
  pub number : (n : ℕ) (m : M) → slice_get members n ≡ Some m → (see m).number ≡ n
  pub table : (n : ℕ) (m : M) → slice_get members n ≡ Some m → IsTableOf rack (see m).first
  pub none : (n : ℕ) (m : M) → slice_get members n ≡ Some m → arrivals (see m).log ≡ []
  pub nobody : (n : ℕ) (m : M) → slice_get members n ≡ Some m → ByNobody (see m).log

-- the archives of a table were taken as the numbers meant
abbrev pub AreMarked : (ℕ → Meaning) → Table → Shelves → Type 0
AreMarked meant t s =
    (n : ℕ) → Contains (archives_in t) n → taking_at s n ≡ taking_of (meant n)

-- the marks of all archives that a group has had are the counts of what their numbers meant
abbrev pub HasMarks : (ℕ → Meaning) → GroupView → Type 0
HasMarks meant g = (n : ℕ) → Contains (had_by g) n → mark_at g.shelves n ≡ marks_of (meant n)

-- and these archives were taken as their numbers meant
abbrev pub HasTaken : (ℕ → Meaning) → GroupView → Type 0
HasTaken meant g =
    (n : ℕ) → Contains (had_by g) n → taking_at g.shelves n ≡ taking_of (meant n)

-- a count of faults or of losses is greater than it was, or stands at its last value
abbrev pub MarksRose : Marks → Marks → Type 0
MarksRose before now = Rose before.faults now.faults ⊎ Rose before.losses now.losses

-- a count of faults is greater by so many at least, or stands at its last value; or a count of
-- losses is greater than it was, or stands at its last value
abbrev pub MarksRoseOften : ℕ → Marks → Marks → Type 0
MarksRoseOften k before now =
    ((before.faults + k ≤ now.faults) ⊎ (2 ^ 64 - 1 ≤ now.faults)) ⊎ Rose before.losses now.losses

-- an archive of a table whose counts rose above what its number meant, by these marks
abbrev pub RoseBy : (ℕ → Meaning) → Table → (ℕ → Marks) → ℕ → Type 0
RoseBy meant t marks n = Contains (archives_in t) n × MarksRose (marks_of (meant n)) (marks n)

-- and so often
abbrev pub RoseOftenBy : (ℕ → Meaning) → Table → (ℕ → Marks) → ℕ → ℕ → Type 0
RoseOftenBy meant t marks n k =
    Contains (archives_in t) n × MarksRoseOften k (marks_of (meant n)) (marks n)

-- how many of these slots an archive serves
abbrev pub many_served : Table → (ℕ → ℕ → Bool) → ℕ → ℕ
many_served t slots n = failures t slots t.stripes n

-- these slots were called Gone, although the archive of each was meant to hold its block
abbrev pub AreMissed : (ℕ → Meaning) → Table → (ℕ → ℕ → Bool) → (ℕ → ℕ → Bool) → Type 0
AreMissed meant t gone slots =
    (s c : ℕ) → s < t.stripes → c < width t → slots s c ≡ true
    → (gone s c ≡ true) × Sound (stripe_of t (λ n. (meant n).held) s) c

-- What the opening of a table logged: each block that it found is one that was meant. A Live
-- slot of which it found no block of its digest is Gone, and no other is; where there was meant its
-- block, only if a count of the archive that serves it rose, of which `Rises` tells by number. Of
-- one archive no more slots are Gone so than its count of faults rose, unless its count of losses
-- did, of which `Often` tells by number and how many. And by the blocks that it found it says of
-- each stripe whether it fits.
pub record IsOpened (meant : ℕ → Meaning) (Rises : ℕ → Type 0) (Often : ℕ → ℕ → Type 0) (t : Table)
    (log : List Entry) : Type 0 where
  pub read : ℕ → ℕ → Option (List ℕ)
  pub gone : ℕ → ℕ → Bool
  pub broke : ℕ → ℕ → Bool
  pub found : (s c : ℕ) (b : List ℕ) → s < t.stripes → c < width t → read s c ≡ Some b
      → (meant (serving_at t s c)).held s ≡ Some b
  pub finds : (s : ℕ) → s < t.stripes → FindsGone (width t) (as_read t read s) (gone s)
  pub missed : (s c : ℕ) → s < t.stripes → c < width t → gone s c ≡ true
      → Sound (stripe_of t (λ n. (meant n).held) s) c → Rises (serving_at t s c)
  pub few : (slots : ℕ → ℕ → Bool) → AreMissed meant t gone slots → (n : ℕ)
      → Contains (archives_in t) n → Often n (many_served t slots n)
  pub breaks : (s : ℕ) → s < t.stripes
      → BreaksStripe t.data_columns t.parity (as_read t read s) (broke s)
      ⊎ Spared t.data_columns t.parity (as_read t read s) (broke s)
  pub is : log ≡ opening (width t) t.stripes gone broke

-- a group was started over archives as their numbers meant them
pub record IsTakenFrom (meant : ℕ → Meaning) (g : GroupView) : Type 0 where
  pub marked : AreMarked meant g.first g.shelves
  pub opened : IsOpened meant (RoseBy meant g.first (opened_at g.shelves))
      (RoseOftenBy meant g.first (opened_at g.shelves)) g.first g.log

-- and so was each
abbrev pub AreTakenFrom : {M : Type 0} → (ℕ → Meaning) → (M → GroupView) → List M → Type 0
AreTakenFrom {M} meant see members =
    (n : ℕ) (m : M) → slice_get members n ≡ Some m → IsTakenFrom meant (see m)

-- WHAT PASSES KNOW OF THE START

-- the table that the group of a pass began with
abbrev pub table_read : Option GroupOrigin → List Table
table_read None = []
table_read (Some o) = o.first ∷ []

-- the tables that the groups of a row began with, in order
abbrev pub tables_read : GroupPasses → List Table
tables_read row = flat_map (λ (v : GroupPass). table_read v.origin) row.views

abbrev pub records_read : IndexPasses → List Record
records_read row = records_in (view_at row 0).origin

-- what the opening of a group logged, by the marks of its archives then
pub record IsOpenedAt (meant : ℕ → Meaning) (o : GroupOrigin) (log : List Entry) : Type 0 where
  pub marks : ℕ → Marks
  pub are : o.opened ≡ map marks (archives_in o.first)
  pub opened : IsOpened meant (RoseBy meant o.first marks) (RoseOftenBy meant o.first marks) o.first
      log

-- The archives of each group were taken as the numbers meant, and what its pass has seen is what
-- the opening logged over them.
abbrev pub AreTakenAt : (ℕ → Meaning) → GroupPasses → Type 0
AreTakenAt meant row =
    (g : ℕ) (o : GroupOrigin) → (view_at row g).origin ≡ Some o
    → (o.taken ≡ map (λ n. taking_of (meant n)) (archives_in o.first))
    × IsOpenedAt meant o (entries_of (view_at row g).seen)

-- the first pass of a group of this number, whose opening brought no archive and is of no job
pub record IsFirstPass (number : ℕ) (v : GroupPass) : Type 0 where
  pub log : List Logged
  pub origin : GroupOrigin
  pub is : v ≡ cut_view 2 (first_view log origin)
  pub is_number : origin.number ≡ number
  pub none : arrivals (entries_of log) ≡ []
  pub nobody : ByNobody (entries_of log)

-- the first passes of a vault
pub record AreFirstPasses (groups : GroupPasses) (index : IndexPasses) : Type 0 where
  pub count : length groups.views ≡ length groups.names
  pub each : (n : ℕ) → n < length groups.names → IsFirstPass n (view_at groups n)
  pub index_origin : CatalogOrigin
  pub index_first : view_at index 0 ≡ first_view [] index_origin

-- THE COMMANDS

-- the passes of a vault from its start to the end of commands
pub record AreServed (old new : Known) : Type 0 where
  pub opened : AreFirstPasses old.groups old.index
  pub went : AllExtend old new
  pub stays : AllStay old new

-- So they were, and the archives were taken as they were meant: those of the tables at the start,
-- and those that came since, if nobody else logged anything.
pub record IsServedFrom (told : Type 0) (meant : ℕ → Meaning) (old new : Known) : Type 0 where
  pub served : AreServed old new
  pub taken : told → AreTakenAt meant old.groups
  pub marked : told → AllOnlyWriters old new → (g : ℕ) → g < length old.groups.names
      → AreMarkedBy meant (added (view_at old.groups g) (view_at new.groups g))

-- If nobody else logged anything, these are the archives of the tables that were read and those
-- that came since, in some order.
abbrev pub HaveCome : Known → Known → List ℕ → Type 0
HaveCome old new numbers =
    AllOnlyWriters old new → (n : ℕ)
    → times n numbers
    ≡ times n (flat_map archives_in (tables_read new.groups))
    + times n (came_in (length old.groups.names) (gained old.groups new.groups))

-- an archive's number is at most 511
abbrev pub AreLow : List ℕ → Type 0
AreLow numbers = (n : ℕ) → 511 < n → times n numbers ≡ 0

-- THE END

-- a group that ended: it keeps what a group keeps, its archives are those of its first table and
-- those that its log brought, and an execution of its calls leads to it
pub record IsEnded (told : Type 0) (g : GroupView) : Type 0 where
  pub settled : IsSettled told g
  pub execution : told → HasExecution g
  pub arrived : HasArrived g.first g.log g.shelves.numbers

abbrev pub AreEnded : {M : Type 0} → Type 0 → (M → GroupView) → List M → Type 0
AreEnded {M} told see members =
    (n : ℕ) (m : M) → slice_get members n ≡ Some m → IsEnded told (see m)
