-- The stripes of a session that closed, over what its room means.
use Rattle.std.specs.Prelude.{◌≡◌, ◌++◌, ℕ, List, Contains, Some, slice_get}
use Rattle.pot_outside.specs.Archives.{Meaning}
use Rattle.pot_outside.specs.Counts.{Rose}
use Rattle.pot_machine.specs.declared.entry.Entry.{Entry}
use Rattle.pot_machine.specs.Table.{Table, archives_in}
use Rattle.pot_steps.specs.Holdings.{Holdings, StripesConsistent, LiveLaw}
use Rattle.pot_group.specs.Arrivals.{arrivals}
use Rattle.pot_image.specs.Images.{Contents}
use Rattle.pot_image.specs.Rules.{FitsTogether}
use Rattle.pot_shared.specs.Hands.{times}
use Rattle.pot_session.specs.Serving.{IsInRoom}
use Rattle.pot_shared.specs.Leaving.{LeaveGroups}

-- what a room holds
abbrev pub held_in : (ℕ → Meaning) → Holdings
held_in means n slot = (means n).held slot

-- A table fits the room: each stripe keeps its law over the blocks that the room holds, and each
-- Live slot has its block, or the count of losses of the archive that serves it rose since the
-- session began.
pub record FitsRoom (meant means : ℕ → Meaning) (u : Table) : Type 0 where
  pub holds : StripesConsistent u (held_in means)
  pub live : LiveLaw u (held_in means) (λ n. Rose (meant n).losses (means n).losses)

-- each archive that a group had came back: those of the table that it began with, and those that
-- its log brought
abbrev pub CameBack : List ℕ → Table → List Entry → Type 0
CameBack missing read log =
    (n : ℕ) → Contains (archives_in read ++ arrivals log) n → times n missing ≡ 0

-- Where the room tells, the table that a close wrote of a group fits the room, if each archive of
-- that group came back, whatever became of others.
abbrev pub StripesFit : Type 0 → Type 0
StripesFit told =
    (first last : Contents) (meant means : ℕ → Meaning) (missing : List ℕ) → told
    → FitsTogether first
    → LeaveGroups told meant (IsInRoom told means missing) first.tables last.group_logs last.tables
    → (g : ℕ) (read written : Table) (log : List Entry) → slice_get first.tables g ≡ Some read
    → slice_get last.tables g ≡ Some written → slice_get last.group_logs g ≡ Some log
    → CameBack missing read log → FitsRoom meant means written
