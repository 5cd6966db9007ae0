-- What a pass of a turn did between two moments: it knew v, and knows w.
use Rattle.std.specs.Prelude.{◌≡◌, ℕ, ◌<◌, ◌≤◌, Bool, true, false, List, ◌++◌, length, drop}
use Rattle.std.specs.Prelude.{slice_get, Some}
use Rattle.pot_turn.specs.declared.view.View.{View}
use Rattle.pot_turn.specs.declared.view.Stretch.{Stretch}
use Rattle.pot_turn.specs.Logs.{StartsWith}
use Rattle.pot_turn.specs.Stretches.{times, StretchesAscend}
use Rattle.pot_turn.specs.Views.{took_view, left_view}

module _ {E O : Type 0} where
  -- what the log seen has gained
  abbrev pub added : View E O → View E O → List E
  added v w = drop (length v.seen) w.seen

  -- its own stretches since, one for each locked call
  abbrev pub mine : View E O → View E O → List Stretch
  mine v w = drop (length v.turns) w.turns

  -- the stretches of the passes that were joined into it since
  abbrev pub theirs : View E O → View E O → List Stretch
  theirs v w = drop (length v.joined) w.joined

  -- The pass worked for a job, and for no other: what `is_of` tells as the job's is all that it
  -- logged.
  pub record WroteOnlyFor (is_of : E → Bool) (v w : View E O) : Type 0 where
    pub idle : w.holds ≡ false
    pub opened : w.opened ≡ v.opened
    pub origin : w.origin ≡ v.origin
    pub parts : w.parts ≡ v.parts
    pub joined : w.joined ≡ v.joined
    pub seen : w.seen ≡ v.seen ++ added v w
    pub turns : w.turns ≡ v.turns ++ mine v w
    pub ascends : StretchesAscend (length v.seen) (mine v w) (length w.seen)
    pub own : (i : ℕ) (e : E) → slice_get w.seen i ≡ Some e → 0 < times i (mine v w)
        → is_of e ≡ true

  -- nobody else logged an entry of the job: each that was logged since stands in a stretch of this
  -- pass
  abbrev pub OnlyWriterOf : (E → Bool) → View E O → View E O → Type 0
  OnlyWriterOf is_of v w =
      (i : ℕ) (e : E) → length v.seen ≤ i → slice_get w.seen i ≡ Some e → is_of e ≡ true
      → 0 < times i (mine v w)

  -- The pass has seen more of the log, and nothing else of it changed.
  pub record KnowsMore (v w : View E O) : Type 0 where
    pub holds : w.holds ≡ v.holds
    pub opened : w.opened ≡ v.opened
    pub turns : w.turns ≡ v.turns
    pub joined : w.joined ≡ v.joined
    pub made : w.made ≡ v.made
    pub parts : w.parts ≡ v.parts
    pub origin : w.origin ≡ v.origin
    pub seen : StartsWith w.seen v.seen

  -- One locked call: others had logged some entries, and it logged these.
  abbrev pub IsTurn : List E → List E → View E O → View E O → Type 0
  IsTurn others entries v w =
      w ≡ left_view ((v.seen ++ others) ++ entries) (took_view (v.seen ++ others) v)
