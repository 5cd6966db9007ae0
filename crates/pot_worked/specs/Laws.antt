-- Laws of work in turns.
use Rattle.std.specs.Prelude.{◌≡◌, ℕ, ◌<◌, ◌≤◌, Bool, true, false, List, [], ◌++◌, length, filter}
use Rattle.std.specs.Prelude.{slice_get, Some}
use Rattle.pot_turn.specs.declared.view.View.{View}
use Rattle.pot_turn.specs.Logs.{StartsWith}
use Rattle.pot_turn.specs.Stretches.{times, IsOnceEach}
use Rattle.pot_turn.specs.Views.{stretches_of}
use Rattle.pot_worked.specs.WroteOnlyFor.{added, mine, WroteOnlyFor, OnlyWriterOf, KnowsMore, IsTurn}

-- all entries are the job's
abbrev pub AllOf : {E : Type 0} → (E → Bool) → List E → Type 0
AllOf {E} is_of entries = (i : ℕ) (e : E) → slice_get entries i ≡ Some e → is_of e ≡ true

-- a locked call whose entries are all the job's is work for it
abbrev pub WorkGoesOn : (E O : Type 0) → Type 0
WorkGoesOn E O =
    (is_of : E → Bool) (v w : View E O) (others entries : List E)
    → IsTurn others entries v w → AllOf is_of entries → WroteOnlyFor is_of v w

-- and so is work after work
abbrev pub WorkInParts : (E O : Type 0) → Type 0
WorkInParts E O =
    (is_of : E → Bool) (u v w : View E O) → WroteOnlyFor is_of u v → WroteOnlyFor is_of v w → WroteOnlyFor is_of u w

-- who was alone all the time was alone in each part of it
abbrev pub OnlyWriterOfInParts : (E O : Type 0) → Type 0
OnlyWriterOfInParts E O =
    (is_of : E → Bool) (u v w : View E O)
    → WroteOnlyFor is_of u v → WroteOnlyFor is_of v w → OnlyWriterOf is_of u w → OnlyWriterOf is_of u v × OnlyWriterOf is_of v w

-- of one locked call of a job that was alone, the job's entries are those that it logged
abbrev pub OwnInTurn : (E O : Type 0) → Type 0
OwnInTurn E O =
    (is_of : E → Bool) (v w : View E O) (others entries : List E)
    → IsTurn others entries v w → AllOf is_of entries → OnlyWriterOf is_of v w
    → filter is_of (added v w) ≡ entries

-- and over two parts of the work they are those of one and then of the other
abbrev pub OwnInParts : (E O : Type 0) → Type 0
OwnInParts E O =
    (is_of : E → Bool) (u v w : View E O)
    → WroteOnlyFor is_of u v → WroteOnlyFor is_of v w
    → filter is_of (added u w) ≡ filter is_of (added u v) ++ filter is_of (added v w)

-- A pass that only saw more worked for any job, and logged nothing.
abbrev pub MoreIsWork : (E O : Type 0) → Type 0
MoreIsWork E O =
    (is_of : E → Bool) (v w : View E O) → KnowsMore v w → v.holds ≡ false → WroteOnlyFor is_of v w

-- what it saw has no entry of a job that was alone
abbrev pub MoreHasNone : (E O : Type 0) → Type 0
MoreHasNone E O =
    (is_of : E → Bool) (v w : View E O) → KnowsMore v w → OnlyWriterOf is_of v w
    → filter is_of (added v w) ≡ []

-- At a close every position stands in just one stretch. Where each stretch with an entry of the job
-- is one of this work, the job was alone.
abbrev pub OnlyWriterOfAtClose : (E O : Type 0) → Type 0
OnlyWriterOfAtClose E O =
    (is_of : E → Bool) (u v x : View E O)
    → WroteOnlyFor is_of u v → StartsWith x.seen v.seen → IsOnceEach x.opened x.seen (stretches_of x)
    → length x.opened ≤ length u.seen
    → ((i : ℕ) (e : E) → slice_get x.seen i ≡ Some e → is_of e ≡ true → 0 < times i (stretches_of x)
    → 0 < times i (mine u v))
    → OnlyWriterOf is_of u v
