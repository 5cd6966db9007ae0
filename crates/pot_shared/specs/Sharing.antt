-- How the passes of a vault are shared out, and how a vault ends.
use Rattle.std.specs.Prelude.{◌≡◌, ◌<◌, ◌+◌, ◌^◌, ℕ, List, Some, length, slice_get}
use Rattle.pot_bytes.specs.declared.rack.Rack.{Rack}
use Rattle.pot_index.specs.declared.record.Record.{Record}
use Rattle.pot_index.specs.Index.{IndexView, IsIndex}
use Rattle.pot_group.specs.Group.{GroupView}
use Rattle.pot_turn.specs.declared.name.TurnName.{TurnName}
use Rattle.pot_turn.specs.Views.{first_view, cut_view}
use Rattle.pot_rows.specs.Ends.{Closed, RowClosed}
use Rattle.pot_rows.specs.Parts.{RowJoined}
use Rattle.pot_rows.specs.Rows.{PassRow, AreOf, view_at}
use Rattle.pot_shared.specs.declared.member.Logged.{Logged}
use Rattle.pot_shared.specs.declared.member.GroupOrigin.{GroupOrigin}
use Rattle.pot_shared.specs.Members.{kept_log, origin_of as group_origin}
use Rattle.pot_shared.specs.Ready.{GroupPasses, IsTableOf}
use Rattle.pot_shared.specs.Seen.{SeesFile}
use Rattle.pot_shared.specs.Catalogs.{AreFirstSplits, IndexPass, IsPassKept, Publishes}

-- each pass is as it was
abbrev pub SamePasses : {E O : Type 0} → PassRow E O → PassRow E O → Type 0
SamePasses old new = (at : ℕ) → view_at new at ≡ view_at old at

-- each pass has all parts of its turn but the two of the kept one
abbrev pub HasAllButKept : GroupPasses → Type 0
HasAllButKept row = (g : ℕ) → g < length row.names → (view_at row g).parts + 2 ≡ 2 ^ 62

-- these passes are those that an index kept
abbrev pub AreKept : GroupPasses → Type 0
AreKept row = (g : ℕ) → g < length row.names → IsPassKept (view_at row g)

-- A vault ended. The passes took in those that the index kept, one for each group, and each group
-- and the index are as a turn's close says.
pub record EndsVault {A : Type 0} (log_of : A → List Logged) (origin_of_group : A → GroupOrigin)
    (rack : Rack) (names : List TurnName) (groups : GroupPasses)
    (index : IndexPass) (members : List A) (ended : IndexView) : Type 0 where
  pub kept : GroupPasses
  pub kept_names : kept.names ≡ names
  pub are_kept : AreKept kept
  pub whole : GroupPasses
  pub whole_of : AreOf names whole
  pub joined : RowJoined groups kept whole
  pub closed : RowClosed log_of origin_of_group whole members
  pub seen : (r : Record) → Publishes ended.log r → SeesFile kept r
  pub once : AreFirstSplits ended.log
  pub is_index : IsIndex ended
  pub index_rack : ended.rack ≡ rack
  pub index_closed : Closed ended.log (record { rack = rack; read = ended.read; names = names })
      index

-- a group of the rack, of this number
abbrev pub IsRackGroup : Rack → ℕ → GroupView → Type 0
IsRackGroup rack number g = (g.number ≡ number) × IsTableOf rack g.first

-- The first passes of these groups, each of which has seen its group's log and has all parts but
-- the two that the index keeps.
abbrev pub AreFirstGroupPasses : {M : Type 0} → (M → GroupView) → List M → GroupPasses → Type 0
AreFirstGroupPasses {M} see members row =
    (n : ℕ) (m : M) → slice_get members n ≡ Some m
    → view_at row n ≡ cut_view 2 (first_view (kept_log (see m)) (group_origin (see m)))
