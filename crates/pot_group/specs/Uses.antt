-- Which archives a group uses, and as what.
use Rattle.std.specs.Prelude.{◌≡◌, ◌≢◌, ◌<◌, ◌==◌, ℕ, Bool, false, IsSomeAnd, Option, Some, None}
use Rattle.std.specs.Prelude.{is_some, Contains, if◌then◌else◌}
use Rattle.pot_machine.specs.declared.column.Column.{Column}
use Rattle.pot_machine.specs.declared.column.Moving.{Moving}
use Rattle.pot_machine.specs.declared.entry.Entry.{Entry}
use Rattle.pot_machine.specs.declared.entry.Entry.TheVariants.{MoveBegin, Swapped}
use Rattle.pot_machine.specs.Table.{Table, width, column_at, holder_of}
use Rattle.pot_group.specs.declared.uses.Role.{Role}
use Rattle.pot_group.specs.declared.uses.Role.TheVariants as role
use Rattle.pot_group.specs.declared.uses.Use.{Use}
use Rattle.pot_group.specs.declared.uses.HomeAt.{HomeAt}
use Rattle.pot_group.specs.declared.uses.Trace.{Trace}
use Rattle.pot_group.specs.Causes.{archives_of}
use Rattle.pot_group.specs.Group.{GroupView}

-- what the archive of a number is to a column. Retired: it is an archive that the column has had,
-- and no home or target now
abbrev pub IsRole : GroupView → ℕ → ℕ → Role → Type 0
IsRole g number c role.Home = (c < width g.table) × ((column_at g.table c).home ≡ number)
IsRole g number c role.Target =
    (c < width g.table) × IsSomeAnd (column_at g.table c).moving (λ m. m.to ≡ number)
IsRole g number c role.Retired =
    (holder_of g.table number ≡ None) × (c < width g.first)
    × Contains (archives_of g.first g.log c) number

-- the group uses the archive of this number so, and where it has no use, no column has ever had it
abbrev pub IsUse : GroupView → ℕ → Option Use → Type 0
IsUse g number (Some u) = (u.group ≡ g.number) × IsRole g number u.column u.role
IsUse g number None =
    (holder_of g.table number ≡ None)
    × ((c : ℕ) → c < width g.first → Contains (archives_of g.first g.log c) number → ⊥)

abbrev pub target_in : Option Moving → Option ℕ
target_in None = None
target_in (Some m) = Some m.to

-- the column whose home is the archive of this number
abbrev pub IsHomeAt : GroupView → ℕ → Option HomeAt → Type 0
IsHomeAt g number (Some h) =
    (h.group ≡ g.number) × (h.column < width g.table) × ((column_at g.table h.column).home ≡ number)
    × (h.moving ≡ target_in (column_at g.table h.column).moving)
IsHomeAt g number None = (c : ℕ) → c < width g.table → (column_at g.table c).home ≢ number

-- the column, where the archive of this number is its home
abbrev pub home_of : ℕ → Table → ℕ → ℕ → Option HomeAt
home_of group t c number =
    if (column_at t c).home == number then Some
    (record { group = group; column = c; moving = target_in (column_at t c).moving }) else None

-- the home of the one, and whether the other has a use
pub record IsTrace (g : GroupView) (from to : ℕ) (t : Trace) : Type 0 where
  pub home : IsHomeAt g from t.home
  pub used : Option Use
  pub is_use : IsUse g to used
  pub taken : t.taken ≡ is_some used

-- whether a home or target is the home
abbrev pub role_in : Column → ℕ → Role
role_in c number = if c.home == number then role.Home else role.Target

-- whether an entry brings the archive of this number, and the column that it brings it to
abbrev pub brings : ℕ → Entry → Bool
brings number (MoveBegin job c to) = to == number
brings number (Swapped job c to) = to == number
brings number _ = false

abbrev pub brought_to : Option Entry → Option ℕ
brought_to None = None
brought_to (Some (MoveBegin job c to)) = Some c
brought_to (Some (Swapped job c to)) = Some c
brought_to (Some e) = None
