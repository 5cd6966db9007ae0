-- What the calls that check and that move a column say of the logs.
use Rattle.std.specs.Prelude.{◌≡◌, ◌⊎◌, ℕ, Bool, true, false, List, [], ◌∷◌, ◌++◌, IsSome, Result}
use Rattle.std.specs.Prelude.{Ok, Err, length, filter, Contains}
use Rattle.pot_bytes.specs.Rack.{log_bound}
use Rattle.pot_machine.specs.declared.entry.Entry.{Entry}
use Rattle.pot_machine.specs.declared.entry.Entry.TheVariants.{Fault, MoveEnd, Swapped}
use Rattle.pot_machine.specs.Logs.{own}
use Rattle.pot_rows.specs.Rows.{view_at}
use Rattle.pot_rows.specs.Works.{RowOnlyWriterOf, RowWroteOnlyFor}
use Rattle.pot_replies.specs.Jobs.{is_copied, is_move_of, EachIs}
use Rattle.pot_replies.specs.Sections.{Section, mine, LogPoint, IsOnlyIn}
use Rattle.pot_replies.specs.Settings.{Setting}
use Rattle.pot_replies.specs.Moves.{HasHome, IsUsed, NoHome, GoesElsewhere, IsTakenTo, MayBegin}
use Rattle.pot_replies.specs.Moves.{MayGoOn, moving_at}
use Rattle.pot_shared.specs.Members.{entries_of}
use Rattle.pot_shared.specs.Ready.{GroupPasses}
use Rattle.pot_shared.specs.Works.{of_job, gained}
use Rattle.pot_mend.specs.declared.checking.MoveAt.{MoveAt}
use Rattle.pot_mend.specs.declared.checking.UseFault.{UseFault}
use Rattle.pot_mend.specs.declared.checking.UseFault.TheVariants as used
use Rattle.pot_mend.specs.declared.fault.MendFault.{MendFault}
use Rattle.pot_mend.specs.declared.fault.MendFault.TheVariants as fault

-- the log of each group that its pass has seen
abbrev pub seen_in : GroupPasses → ℕ → List Entry
seen_in row g = entries_of (view_at row g).seen

-- CHECKS

-- Nothing was logged. That is work of any job, and where the job was alone, what was seen meanwhile
-- has no entry of it.
pub record IsOnlyAsked (old new : GroupPasses) : Type 0 where
  pub worked : (job : ℕ) → RowWroteOnlyFor (of_job job) old new
  pub silent : (job : ℕ) → RowOnlyWriterOf (of_job job) old new → (g : ℕ) → own job (gained old new g) ≡ []

-- the column moves to the archive already, or can begin to
abbrev pub MayMove : Bool → Setting → (ℕ → List Entry) → ℕ → ℕ → ℕ → ℕ → Type 0
MayMove true s logs from to g c = MayGoOn s logs from to g c
MayMove false s logs from to g c = MayBegin s logs from to g c

-- what `check_migrate` answers, over the logs that it met
abbrev pub MigrateChecked : Setting → (ℕ → List Entry) → ℕ → ℕ → Result MoveAt UseFault → Type 0
MigrateChecked s logs from to (Ok at) = MayMove at.resumes s logs from to at.group at.column
MigrateChecked s logs from to (Err (used.NoSuchArchive n)) = (n ≡ from) × NoHome s logs from
MigrateChecked s logs from to (Err (used.InUse n)) =
    ((n ≡ from) × GoesElsewhere s logs from to) ⊎ ((n ≡ to) × IsTakenTo s logs from to)

-- what `check_replace` answers
abbrev pub ReplaceChecked : Setting → (ℕ → List Entry) → ℕ → ℕ → Result MoveAt UseFault → Type 0
ReplaceChecked s logs from to (Ok at) =
    (at.resumes ≡ false) × HasHome s logs from at.group at.column × (IsUsed s logs to → ⊥)
ReplaceChecked s logs from to (Err (used.NoSuchArchive n)) = (n ≡ from) × NoHome s logs from
ReplaceChecked s logs from to (Err (used.InUse n)) =
    (n ≡ to) × ((g : ℕ) × (c : ℕ) × HasHome s logs from g c) × IsUsed s logs to

-- A MOVE, as the job's own entries give it

-- the move of a column ended: a MoveEnd of the column stands there, or a swap took its home and its
-- target away
abbrev pub EndsMove : ℕ → List Entry → Type 0
EndsMove c added =
    ((by : ℕ) × Contains added (MoveEnd by c))
    ⊎ ((by : ℕ) × (to : ℕ) × Contains added (Swapped by c to))

-- So many blocks were copied. Where the column moved when the section began, its move ended in it.
pub record IsMoved (s : Setting) (job g c slots : ℕ) (w : Section) : Type 0 where
  pub only : IsOnlyIn g (mine job w)
  pub moves : EachIs (is_move_of c) (own job (w.added g))
  pub slots_is : slots ≡ length (filter is_copied (own job (w.added g)))
  pub ends : IsSome (moving_at s w.before g c) → EndsMove c (w.added g)

-- steps of the move, and then a Fault at its column
pub record IsMoveFault (job g c : ℕ) (w : Section) : Type 0 where
  pub only : IsOnlyIn g (mine job w)
  pub sofar : List Entry
  pub stripe : ℕ
  pub own_is : own job (w.added g) ≡ sofar ++ Fault job stripe c ∷ []
  pub moves : EachIs (is_move_of c) sofar

-- a step was refused, since the log had no room
pub record IsMoveLogFull (job g c : ℕ) (w : Section) : Type 0 where
  pub only : IsOnlyIn g (mine job w)
  pub moves : EachIs (is_move_of c) (own job (w.added g))
  pub unended : Contains (own job (w.added g)) (MoveEnd job c) → ⊥
  pub log : List Entry
  pub moment : LogPoint job (w.before g) (w.added g) log
  pub full : length log ≡ log_bound

-- what each answer of `migrate` says
abbrev pub MoveRow : Setting → ℕ → ℕ → ℕ → Result ℕ MendFault → Section → Type 0
MoveRow s job g c (Ok slots) w = IsMoved s job g c slots w
MoveRow s job g c (Err (fault.Faulted group column)) w =
    (group ≡ g) × (column ≡ c) × IsMoveFault job g c w
MoveRow s job g c (Err (fault.LogFull group)) w = (group ≡ g) × IsMoveLogFull job g c w
