-- What the calls tell that ask one group after another which archives it uses.
use Rattle.std.specs.Prelude.{◌≡◌, ℕ, ◌<◌, ◌≤◌, List, [], ◌∷◌, ◌++◌, Option, None, Some, length}
use Rattle.std.specs.Prelude.{replicate, slice_get}
use Rattle.std.specs.List.{list_any}
use Rattle.std.specs.Option.{option_or}
use Rattle.pot_machine.specs.declared.entry.Entry.{Entry}
use Rattle.pot_group.specs.declared.uses.HomeAt.{HomeAt}
use Rattle.pot_group.specs.declared.uses.Trace.{Trace}
use Rattle.pot_group.specs.declared.uses.Use.{Use}
use Rattle.pot_group.specs.Group.{GroupView}
use Rattle.pot_group.specs.Uses.{IsTrace, IsUse}
use Rattle.pot_rows.specs.Rows.{view_at}
use Rattle.pot_shared.specs.Ready.{GroupPasses}
use Rattle.pot_shared.specs.Calls.{CallTurn}

-- ONE GROUP

abbrev pub UseCall : ℕ → Option Use → GroupView → GroupView → List Entry → Type 0
UseCall number answer old new entries = (entries ≡ []) × (new ≡ old) × IsUse old number answer

abbrev pub TraceCall : ℕ → ℕ → Trace → GroupView → GroupView → List Entry → Type 0
TraceCall from to answer old new entries = (entries ≡ []) × (new ≡ old) × IsTrace old from to answer

-- ONE AFTER ANOTHER

-- The first groups, in order, each had one turn and gave these answers, and the passes of the
-- others are as they were.
pub record AsksEach {X : Type 0} (told : Type 0)
    (R : X → GroupView → GroupView → List Entry → Type 0) (answers : List X)
    (old new : GroupPasses) : Type 0 where
  pub each : (g : ℕ) (x : X) → slice_get answers g ≡ Some x
      → CallTurn told (R x) (view_at old g) (view_at new g)
  pub rest : (g : ℕ) → length answers ≤ g → view_at new g ≡ view_at old g

-- the groups were asked up to the first that uses the archive of this number, and where none does,
-- all of them
abbrev pub FindsUse : Type 0 → ℕ → ℕ → Option Use → GroupPasses → GroupPasses → Type 0
FindsUse told groups number (Some u) old new =
    (before : ℕ) × (before < groups)
    × AsksEach told (UseCall number) (replicate before None ++ Some u ∷ []) old new
FindsUse told groups number None old new =
    AsksEach told (UseCall number) (replicate groups None) old new

-- the first home that was told
abbrev pub first_home : List Trace → Option HomeAt
first_home [] = None
first_home (t ∷ more) = option_or t.home (first_home more)

-- Every group was asked: the first home that one told, and whether one uses the other archive.
pub record TracesAll (told : Type 0) (groups from to : ℕ) (t : Trace)
    (old new : GroupPasses) : Type 0 where
  pub answers : List Trace
  pub count : length answers ≡ groups
  pub asked : AsksEach told (TraceCall from to) answers old new
  pub home : t.home ≡ first_home answers
  pub taken : t.taken ≡ list_any (λ t. t.taken) answers
