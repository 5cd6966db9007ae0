-- What a locked call of a group does, as its caller's passes see it.
use Rattle.std.specs.Prelude.{◌≡◌, ℕ, IsTrue, List, [], ◌++◌, Option, Some}
use Rattle.pot_bytes.specs.declared.rack.Place.{Place}
use Rattle.pot_outside.specs.Accounts.{Account}
use Rattle.pot_outside.specs.Archives.{Meaning}
use Rattle.pot_machine.specs.declared.entry.Entry.{Entry}
use Rattle.pot_machine.specs.Rules.{IsTable}
use Rattle.pot_group.specs.declared.finding.Kind.{Kind}
use Rattle.pot_group.specs.Finding.{IsPlace, is_of}
use Rattle.pot_group.specs.Group.{GroupView, IsSettled}
use Rattle.pot_group.specs.Standing.{IsCursorStanding}
use Rattle.pot_group.specs.declared.standing.Standing.{Standing}
use Rattle.pot_worked.specs.WroteOnlyFor.{IsTurn}
use Rattle.pot_rows.specs.Rows.{view_at, with_view}
use Rattle.pot_shared.specs.declared.member.Logged.{Logged}
use Rattle.pot_shared.specs.Members.{kept_log, origin_of, all_logged}
use Rattle.pot_shared.specs.Ready.{GroupPass, GroupPasses}

-- One turn of a pass: the group was so when it came, others having logged some entries since; the
-- call added these entries and the blinds of the relays that they began, and is what `R` says.
-- `told` is whether archives tell what they hold.
pub record CallTurn (told : Type 0) (R : GroupView → GroupView → List Entry → Type 0)
    (v w : GroupPass) : Type 0 where
  pub old : GroupView
  pub new : GroupView
  pub others : List Logged
  pub entries : List Entry
  pub transition : kept_log old ≡ v.seen ++ others
  pub origin : Some (origin_of old) ≡ v.origin
  pub settled_old : IsSettled told old
  pub read : IsTable old.first
  pub settled : IsSettled told new
  pub first : new.first ≡ old.first
  pub log : new.log ≡ old.log ++ entries
  pub more : List (List ℕ)
  pub blinds : new.blinds ≡ old.blinds ++ more
  pub turn : IsTurn others (all_logged new.shelves more entries) v w
  pub call : R old new entries

-- what passes see of the entries that it added
abbrev pub marked : {told : Type 0} {R : GroupView → GroupView → List Entry → Type 0}
    → {v w : GroupPass} → CallTurn told R v w → List Logged
marked turn = all_logged turn.new.shelves turn.more turn.entries

-- the pass of one group had a turn, and the passes of the others are as they were
pub record CallAt (told : Type 0) (R : GroupView → GroupView → List Entry → Type 0) (group : ℕ)
    (old new : GroupPasses) : Type 0 where
  pub pass : GroupPass
  pub is : new ≡ with_view old group pass
  pub turn : CallTurn told R (view_at old group) pass

-- the same of a group whose archives have this account, which says whether they tell
abbrev pub MakesAt : {A : Type 0} → Account A Meaning
    → (Type 0 → GroupView → GroupView → List Entry → Type 0) → ℕ → GroupPasses → GroupPasses
    → Type 0
MakesAt account row group old new =
    CallAt (IsTrue account.tells) (row (IsTrue account.tells)) group old new

-- A SEARCH

abbrev pub NextCall : ℕ → ℕ → Kind → Option Place → GroupView → GroupView → List Entry → Type 0
NextCall stripe column kind result old new entries =
    (entries ≡ []) × (new ≡ old) × IsPlace old.number old.table (is_of kind) stripe column result

-- WHERE A GROUP STANDS

abbrev pub StandingCall : Standing → GroupView → GroupView → List Entry → Type 0
StandingCall result old new entries = (entries ≡ []) × (new ≡ old) × IsCursorStanding old.table result
