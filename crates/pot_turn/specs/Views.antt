-- What a pass knows of its turn, and what each call makes of it.
use Rattle.std.specs.Prelude.{◌≡◌, ℕ, ◌+◌, ◌-◌, ◌^◌, ◌<◌, List, [], ◌∷◌, ◌++◌, length, false, true}
use Rattle.std.specs.Prelude.{Some, None, IsSome, is_some}
use Rattle.std.specs.Coded.{Coded-set, coded_bool}
use native.Mathlib.Bridge.{le_prop}
use Rattle.std.proofs.Math.Nat.{ℕ_set}
use Rattle.pot_turn.specs.declared.view.View.{View}
use Rattle.pot_turn.specs.declared.view.Stretch.{Stretch}
use Rattle.pot_turn.specs.Logs.{StartsWith, StartsWith-prop, longer}
use Rattle.pot_turn.specs.Stretches.{stretch, size_of, entries_in, StretchesAscend, LieIn, Ascends-prop}
use Rattle.pot_turn.specs.Stretches.{LieIn-prop}

module _ {E O : Type 0} where
  -- every stretch that the pass logged, and then those of the passes that were joined into it
  abbrev pub stretches_of : View E O → List Stretch
  stretches_of v = v.turns ++ v.joined

  -- the entries that the pass logged itself, in their order
  abbrev pub logged_by : View E O → List E
  logged_by v = entries_in v.seen v.turns

  -- the first pass of a turn, over a value with this log and this origin
  abbrev pub first_view : List E → O → View E O
  first_view log origin =
      record {
        holds = false;
        opened = log;
        seen = log;
        turns = [];
        joined = [];
        made = 0;
        parts = 2
            ^ 62;
        origin = Some origin;
      }

  -- the pass has the value, which has this log
  abbrev pub took_view : List E → View E O → View E O
  took_view log v =
      record {
        holds = true;
        opened = v.opened;
        seen = log;
        turns = v.turns;
        joined = v.joined;
        made = v.made;
        parts = v.parts;
        origin = v.origin;
      }

  -- its turn is over, and left this log: what was logged is one more stretch
  abbrev pub left_view : List E → View E O → View E O
  left_view log v =
      record {
        holds = false;
        opened = v.opened;
        seen = log;
        turns = v.turns
            ++ stretch (length v.seen) (length log)
            ∷ [];
        joined = v.joined;
        made = v.made
            + (length log - length v.seen);
        parts = v.parts;
        origin = v.origin;
      }

  -- some parts went to a new pass
  abbrev pub cut_view : ℕ → View E O → View E O
  cut_view n v =
      record {
        holds = v.holds;
        opened = v.opened;
        seen = v.seen;
        turns = v.turns;
        joined = v.joined;
        made = v.made;
        parts = v.parts - n;
        origin = v.origin;
      }

  -- the new pass, which has these parts
  abbrev pub new_view : ℕ → View E O → View E O
  new_view n v =
      record {
        holds = false;
        opened = v.opened;
        seen = v.seen;
        turns = [];
        joined = [];
        made = 0;
        parts = n;
        origin = v.origin;
      }

  -- the pass took in another
  abbrev pub both_views : View E O → View E O → View E O
  both_views v w =
      record {
        holds = v.holds;
        opened = v.opened;
        seen = longer v.seen w.seen;
        turns = v.turns;
        joined = v.joined
            ++ (w.turns ++ w.joined);
        made = v.made + w.made;
        parts = v.parts
            + w.parts;
        origin = v.origin;
      }

  -- the other is spent: it has no parts and has made nothing
  abbrev pub spent_view : View E O
  spent_view =
      record {
        holds = false;
        opened = [];
        seen = [];
        turns = [];
        joined = [];
        made = 0;
        parts = 0;
        origin = None;
      }

  -- What is true of every pass. It has a part and an origin. The log seen begins with the log at
  -- the opening. Its own stretches ascend between the two, those joined into it lie there too, and
  -- the number made is the number of positions of all of them
  pub record IsPass (v : View E O) : Type 0 where
    pub some : 0 < v.parts
    pub origin : IsSome v.origin
    pub since : StartsWith v.seen v.opened
    pub ascends : StretchesAscend (length v.opened) v.turns (length v.seen)
    pub lies : LieIn (length v.opened) v.joined (length v.seen)
    pub made : v.made ≡ size_of v.turns + size_of v.joined

  pub IsPass-prop : IsSet (List E) → (v : View E O) → IsProp (IsPass v)
  IsPass-prop set v a b = λ i. record {
    some = le_prop a.some b.some i;
    origin = Coded-set coded_bool (is_some v.origin) true a.origin b.origin i;
    since = StartsWith-prop set v.seen v.opened a.since b.since i;
    ascends = Ascends-prop (length v.opened) v.turns (length v.seen) a.ascends b.ascends i;
    lies = LieIn-prop (length v.opened) v.joined (length v.seen) a.lies b.lies i;
    made = ℕ_set v.made (size_of v.turns + size_of v.joined) a.made b.made i;
  }
