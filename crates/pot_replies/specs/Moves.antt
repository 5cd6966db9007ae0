-- The replies to `replace` and `migrate`, each as the job's own entries give it. Those to `migrate`
-- are judged on the moves that the batch began and on its work.
use Rattle.std.specs.Prelude.{◌≡◌, ◌≢◌, ◌<◌, ◌⊎◌, ℕ, List, [], ◌∷◌, ◌++◌, Option, Some, None}
use Rattle.std.specs.Prelude.{IsSome, length, filter, Contains}
use Rattle.pot_bytes.specs.Rack.{log_bound}
use Rattle.pot_machine.specs.declared.entry.Entry.{Entry}
use Rattle.pot_machine.specs.declared.entry.Entry.TheVariants.{Fault, MoveBegin, MoveEnd, Swapped}
use Rattle.pot_machine.specs.declared.column.Moving.{Moving}
use Rattle.pot_machine.specs.Slot.{is_live}
use Rattle.pot_machine.specs.Table.{width, column_at, slot_at, holder_of, count}
use Rattle.pot_machine.specs.Logs.{own, replayed}
use Rattle.pot_replies.specs.Jobs.{is_copied, is_move_of, EachIs}
use Rattle.pot_replies.specs.Sections.{Section, JobEntries, mine, LogPoint, IsSilent, IsOnlyIn, checked}
use Rattle.pot_replies.specs.Settings.{Setting}

-- WHO HAS AN ARCHIVE, over these logs

-- the column has this home
pub record HasHome (s : Setting) (logs : ℕ → List Entry) (from g c : ℕ) : Type 0 where
  pub group : g < s.rack.groups
  pub column : c < width (s.first g)
  pub home : (column_at (replayed (s.first g) (logs g)) c).home ≡ from

abbrev pub moving_at : Setting → (ℕ → List Entry) → ℕ → ℕ → Option Moving
moving_at s logs g c = (column_at (replayed (s.first g) (logs g)) c).moving

-- some table of the replay of some log had the number as a home or as a target, so the archive has
-- a use, be it that it is retired
abbrev pub IsUsed : Setting → (ℕ → List Entry) → ℕ → Type 0
IsUsed s logs number =
    (g : ℕ) × (g < s.rack.groups)
    × ((x : List Entry) × (y : List Entry) × (logs g ≡ x ++ y)
    × IsSome (holder_of (replayed (s.first g) x) number))

abbrev pub NoHome : Setting → (ℕ → List Entry) → ℕ → Type 0
NoHome s logs from = (g c : ℕ) → HasHome s logs from g c → ⊥

abbrev pub GoesElsewhere : Setting → (ℕ → List Entry) → ℕ → ℕ → Type 0
GoesElsewhere s logs from to =
    (g : ℕ) × (c : ℕ) × HasHome s logs from g c
    × ((m : Moving) × (moving_at s logs g c ≡ Some m) × (m.to ≢ to))

abbrev pub IsTakenTo : Setting → (ℕ → List Entry) → ℕ → ℕ → Type 0
IsTakenTo s logs from to =
    (g : ℕ) × (c : ℕ) × HasHome s logs from g c × (moving_at s logs g c ≡ None) × IsUsed s logs to

abbrev pub MayBegin : Setting → (ℕ → List Entry) → ℕ → ℕ → ℕ → ℕ → Type 0
MayBegin s logs from to g c =
    HasHome s logs from g c × (moving_at s logs g c ≡ None) × (IsUsed s logs to → ⊥)

abbrev pub MayGoOn : Setting → (ℕ → List Entry) → ℕ → ℕ → ℕ → ℕ → Type 0
MayGoOn s logs from to g c =
    HasHome s logs from g c × ((m : Moving) × (moving_at s logs g c ≡ Some m) × (m.to ≡ to))

-- REPLACE, a command alone

-- `noarchive`
abbrev pub IsNoHome : Setting → ℕ → JobEntries → Type 0
IsNoHome s from m = NoHome s m.before from × IsSilent m

-- `inuse`, of the new archive
abbrev pub IsInUse : Setting → ℕ → ℕ → JobEntries → Type 0
IsInUse s from to m =
    ((g : ℕ) × (c : ℕ) × HasHome s m.before from g c) × IsUsed s m.before to × IsSilent m

-- `replaced`: the home of a column became another, and so many Live slots went with it
pub record IsReplaced (s : Setting) (job from to slots : ℕ) (m : JobEntries) : Type 0 where
  pub group : ℕ
  pub column : ℕ
  pub home : HasHome s m.before from group column
  pub free : IsUsed s m.before to → ⊥
  pub own_is : m.own group ≡ Swapped job column to ∷ []
  pub only : IsOnlyIn group m
  pub slots_is : slots
      ≡ count (s.first group).stripes
      (λ n. is_live (slot_at (replayed (s.first group) (m.before group)) n column))

-- `logfull g`
pub record IsReplaceLogFull (s : Setting) (from to g : ℕ) (m : JobEntries) : Type 0 where
  pub column : ℕ
  pub home : HasHome s m.before from g column
  pub free : IsUsed s m.before to → ⊥
  pub silent : IsSilent m
  pub full : length (m.before g) ≡ log_bound

-- MIGRATE, a line of a batch or alone. `before` and `begun` are the logs before the command and the
-- moves that it began; w is its work.

module _ (s : Setting) (before begun : ℕ → List Entry) (job from to : ℕ) where
  -- the logs when the line was checked
  abbrev pub at_check : ℕ → List Entry
  at_check = checked before begun job

  -- the line began no move
  abbrev pub BeganNoMove : Type 0
  BeganNoMove = (g : ℕ) → own job (begun g) ≡ []

  -- `noarchive`
  abbrev pub IsMigrateNoHome : JobEntries → Type 0
  IsMigrateNoHome m = NoHome s at_check from × BeganNoMove × IsSilent m

  -- `inuse`, of either archive
  abbrev pub IsMigrateInUse : ℕ → JobEntries → Type 0
  IsMigrateInUse number m =
      (((number ≡ from) × GoesElsewhere s at_check from to)
      ⊎ ((number ≡ to) × IsTakenTo s at_check from to))
      × BeganNoMove × IsSilent m

  -- the line began the move of the column, or goes on with one that stood
  abbrev pub BeginsMove : ℕ → ℕ → Type 0
  BeginsMove g c =
      (MayBegin s at_check from to g c × (own job (begun g) ≡ MoveBegin job c to ∷ []))
      ⊎ (MayGoOn s at_check from to g c × (own job (begun g) ≡ []))

  -- and began no other
  abbrev pub BeganElsewhere : ℕ → Type 0
  BeganElsewhere g = (h : ℕ) → h ≢ g → own job (begun h) ≡ []

  -- `migrated`: so many blocks were copied, and the move of the column ended in this command
  pub record IsMigrated (slots : ℕ) (w : Section) : Type 0 where
    pub group : ℕ
    pub column : ℕ
    pub begins : BeginsMove group column
    pub elsewhere : BeganElsewhere group
    pub only : IsOnlyIn group (mine job w)
    pub moves : EachIs (is_move_of column) (own job (w.added group))
    pub slots_is : slots ≡ length (filter is_copied (own job (w.added group)))
    pub ends : (by : ℕ) × Contains (w.added group) (MoveEnd by column)

  -- `fault g c`: steps of the move, and then a Fault at its column
  pub record IsMigrateFault (g column : ℕ) (w : Section) : Type 0 where
    pub begins : BeginsMove g column
    pub elsewhere : BeganElsewhere g
    pub only : IsOnlyIn g (mine job w)
    pub sofar : List Entry
    pub stripe : ℕ
    pub own_is : own job (w.added g) ≡ sofar ++ Fault job stripe column ∷ []
    pub moves : EachIs (is_move_of column) sofar

  -- `logfull g`, where the move was not begun
  pub record IsBeginLogFull (g : ℕ) (w : Section) : Type 0 where
    pub column : ℕ
    pub may : MayBegin s at_check from to g column
    pub none : BeganNoMove
    pub silent : IsSilent (mine job w)
    pub full : length (at_check g) ≡ log_bound

  -- `logfull g`, where a step of it was refused
  pub record IsStepLogFull (g : ℕ) (w : Section) : Type 0 where
    pub column : ℕ
    pub begins : BeginsMove g column
    pub elsewhere : BeganElsewhere g
    pub only : IsOnlyIn g (mine job w)
    pub moves : EachIs (is_move_of column) (own job (w.added g))
    pub unended : Contains (own job (w.added g)) (MoveEnd job column) → ⊥
    pub log : List Entry
    pub moment : LogPoint job (w.before g) (w.added g) log
    pub full : length log ≡ log_bound
