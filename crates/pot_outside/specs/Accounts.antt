-- What an object outside means, where it tells it, and what a call met of one.
use Rattle.std.specs.Prelude.{◌≡◌, ℕ, Bool, IsTrue}
use Rattle.pot_outside.specs.Counts.{Caused}

-- whether objects of a type tell what they hold, and what each means
pub record Account (A M : Type 0) : Type 0 where
  pub tells : Bool
  pub meaning : A → M

-- what a source, a sink, a desk or a disk means: what it holds, and how often it failed
pub record Content (H : Type 0) : Type 0 where
  pub held : H
  pub faults : ℕ

-- what a call met of what an object holds: whether the object tells it, what it was before the
-- call, and what it is after it
pub record Transition (H : Type 0) : Type 0 where
  pub tells : Bool
  pub before : H
  pub after : H

abbrev pub transition_by : {H : Type 0} → Bool → H → H → Transition H
transition_by tells before after = record { tells = tells; before = before; after = after }

-- of all that an object means, and of what it holds
abbrev pub whole_transition : {A M : Type 0} → Account A M → A → A → Transition M
whole_transition account old new = transition_by account.tells (account.meaning old) (account.meaning new)

abbrev pub held_in : {H : Type 0} → Transition (Content H) → Transition H
held_in m = transition_by m.tells m.before.held m.after.held

abbrev pub transition : {A H : Type 0} → Account A (Content H) → A → A → Transition H
transition account old new = held_in (whole_transition account old new)

-- the first part of a call, until the object held this, and the part since
abbrev pub until : {H : Type 0} → Transition H → H → Transition H
until m held = transition_by m.tells m.before held

abbrev pub since : {H : Type 0} → Transition H → H → Transition H
since m held = transition_by m.tells held m.after

-- what the object holds stays
abbrev pub Stays : {H : Type 0} → Transition H → Type 0
Stays m = IsTrue m.tells → m.after ≡ m.before

-- the count of faults never falls, and an answer that says so comes only where it rose in the call
abbrev pub Faults : {A H : Type 0} → Account A (Content H) → A → A → Type 0 → Type 0
Faults account old new fault =
    Caused (account.meaning old).faults (account.meaning new).faults fault
