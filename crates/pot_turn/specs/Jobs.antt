-- The entries of a job, however they are told from others.
use Rattle.std.specs.Prelude.{◌≡◌, ℕ, ◌+◌, ◌<◌, ◌≤◌, List, ◌++◌, length, filter, slice_get, Some}
use Rattle.std.specs.Prelude.{Bool, false}
use Rattle.pot_turn.specs.declared.view.View.{View}
use Rattle.pot_turn.specs.declared.view.Stretch.{Stretch}
use Rattle.pot_turn.specs.Stretches.{times, StretchesAscend, entries_in}
use Rattle.pot_turn.specs.Views.{stretches_of}

-- no entry that stands in these stretches of the log is of the job
abbrev pub NoneIn : {E : Type 0} → (E → Bool) → List E → List Stretch → Type 0
NoneIn {E} is_of log ss =
    (i : ℕ) (e : E) → slice_get log i ≡ Some e → 0 < times i ss → is_of e ≡ false

-- The job's entries that the pass and those joined into it logged are just these, in their order:
-- they are those of its own stretches, and no other stretch has one
pub record Carries {E O : Type 0} (is_of : E → Bool) (v : View E O) (entries : List E) : Type
    0 where
  pub own : List Stretch
  pub others : List Stretch
  pub ascends : StretchesAscend (length v.opened) own (length v.seen)
  pub parted : (i : ℕ) → times i (stretches_of v) ≡ times i own + times i others
  pub foreign : NoneIn is_of v.seen others
  pub picked : filter is_of (entries_in v.seen own) ≡ entries

-- A job's entries in the log, after those that it began with, are just those that the passes that
-- carried it logged, in their order
abbrev pub EntriesAreCarried : {E O : Type 0} → View E O → List E → Type 0
EntriesAreCarried {E} v log =
    (is_of : E → Bool) (entries : List E) → Carries is_of v entries
    → filter is_of log ≡ filter is_of v.opened ++ entries

-- As Carries, and the stretches that have the job's entries lie between two positions that the pass
-- has seen: what one of several passes carries, that log for a job one after another
pub record CarriesBetween {E O : Type 0} (is_of : E → Bool) (from upto : ℕ) (v : View E O)
    (entries : List E) : Type 0 where
  pub own : List Stretch
  pub others : List Stretch
  pub within : upto ≤ length v.seen
  pub ascends : StretchesAscend from own upto
  pub parted : (i : ℕ) → times i (stretches_of v) ≡ times i own + times i others
  pub foreign : NoneIn is_of v.seen others
  pub picked : filter is_of (entries_in v.seen own) ≡ entries
