-- A pass that alone logged what a log gained, itself or by the passes that were joined into it:
-- what a loop over commands carries, whether a command is one job or a batch.
use Rattle.std.specs.Prelude.{◌≡◌, ℕ, ◌<◌, ◌≤◌, Bool, List, [], ◌++◌, length, slice_get, Some}
use Rattle.pot_turn.specs.declared.view.View.{View}
use Rattle.pot_turn.specs.Stretches.{times, LieIn, IsOnceEach}
use Rattle.pot_turn.specs.Views.{stretches_of}
use Rattle.pot_worked.specs.WroteOnlyFor.{added, mine, theirs, WroteOnlyFor, OnlyWriterOf}
use Rattle.pot_worked.specs.Laws.{AllOf}
use Rattle.pot_worked.specs.Batches.{Carried, Joins, OnlyWriterBatch, AreCarried}

module _ {E O : Type 0} where
  -- the log seen went on, and so did the stretches, which lie in what it gained
  pub record Extends (v w : View E O) : Type 0 where
    pub seen : w.seen ≡ v.seen ++ added v w
    pub turns : w.turns ≡ v.turns ++ mine v w
    pub joined : w.joined ≡ v.joined ++ theirs v w
    pub lies : LieIn (length v.seen) (mine v w ++ theirs v w) (length w.seen)

  -- each position that was gained stands in a stretch since
  abbrev pub OnlyWriter : View E O → View E O → Type 0
  OnlyWriter v w =
      (i : ℕ) (e : E) → length v.seen ≤ i → slice_get w.seen i ≡ Some e
      → 0 < times i (mine v w ++ theirs v w)

-- work is such a going on, and so is one after another; who was sole all the time was sole in each
-- part
abbrev pub WorkExtends : (E O : Type 0) → Type 0
WorkExtends E O = (is_of : E → Bool) (v w : View E O) → WroteOnlyFor is_of v w → Extends v w

abbrev pub ExtendsInParts : (E O : Type 0) → Type 0
ExtendsInParts E O = (u v w : View E O) → Extends u v → Extends v w → Extends u w

abbrev pub OnlyWriterInParts : (E O : Type 0) → Type 0
OnlyWriterInParts E O = (u v w : View E O) → Extends u v → Extends v w → OnlyWriter u w → OnlyWriter u v × OnlyWriter v w

-- what was gained is what each part gained
abbrev pub GainInParts : (E O : Type 0) → Type 0
GainInParts E O = (u v w : View E O) → Extends u v → Extends v w → added u w ≡ added u v ++ added v w

-- a job whose pass was sole was alone
abbrev pub OnlyWriterOfAny : (E O : Type 0) → Type 0
OnlyWriterOfAny E O = (is_of : E → Bool) (v w : View E O) → WroteOnlyFor is_of v w → OnlyWriter v w → OnlyWriterOf is_of v w

-- and all that was gained is of the job
abbrev pub OnlyWriterOwns : (E O : Type 0) → Type 0
OnlyWriterOwns E O =
    (is_of : E → Bool) (v w : View E O) → WroteOnlyFor is_of v w → OnlyWriter v w → AllOf is_of (added v w)

-- a batch is such a going on, and where it was sole, its jobs' passes logged all of it
abbrev pub BatchExtends : (E O : Type 0) → Type 0
BatchExtends E O =
    (of : ℕ → E → Bool) (v x : View E O) (cs : List (Carried E O)) → Joins v cs x
    → AreCarried of v.seen cs → Extends v x × (OnlyWriter v x → OnlyWriterBatch v x)

-- The last pass of a turn began without stretches, at the opening log or later, and every position
-- since the opening stands in just one of its stretches, as a close tells.
pub record IsTurnWhole {E O : Type 0} (first last : View E O) : Type 0 where
  pub opened : length last.opened ≤ length first.seen
  pub fresh : stretches_of first ≡ []
  pub once : IsOnceEach last.opened last.seen (stretches_of last)

-- at the close such a pass was sole
abbrev pub OnlyWriterAtClose : (E O : Type 0) → Type 0
OnlyWriterAtClose E O = (u x : View E O) → Extends u x → IsTurnWhole u x → OnlyWriter u x
