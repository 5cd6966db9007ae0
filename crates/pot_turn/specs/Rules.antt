-- The rule of a turn, over a lock word, a count word, a word of sleepers and one slot, and what its
-- steps tell.
use Rattle.std.specs.Prelude.{◌≡◌, ℕ, zero, suc, ◌+◌, ◌^◌, ◌<◌, ◌≤◌, List, [], ◌∷◌, length, Bool}
use Rattle.std.specs.Prelude.{true, false, if◌then◌else◌}
use Rattle.std.specs.Prelude.{Option}
use Rattle.std.specs.Prelude.{Some, None}
use mathlib.Core.Option.{some, none}
use lib.ListN.{get_elem?}
use Rattle.atomic_table.specs.Table.{State, Me}
use Rattle.pot_turn.specs.declared.view.View.{View}
use Rattle.pot_turn.specs.declared.view.Sight.{Sight}
use Rattle.pot_turn.specs.declared.view.Told.{Told}
use Rattle.pot_turn.specs.Logs.{StartsWith, shorter}
use Rattle.pot_turn.specs.Stretches.{between, times, LieIn}
use Rattle.pot_turn.specs.Views.{stretches_of, first_view, took_view, left_view, cut_view, new_view}
use Rattle.pot_turn.specs.Views.{both_views, spent_view}

-- What the rule keeps for a pass is its view, and what its last join left to be told
module _ {E O : Type 0} where
  abbrev pub told : List E → List E → Option O → Told E O
  told seen opened origin = record { seen = seen; opened = opened; origin = origin }

  abbrev pub sight : View E O → Told E O → Sight E O
  sight v t = record { view = v; told = t }

  -- a pass to which nothing was joined
  abbrev pub alone : View E O → Sight E O
  alone v = sight v (told [] v.opened v.origin)

  abbrev pub first_sight : List E → O → Sight E O
  first_sight log origin = alone (first_view log origin)

  abbrev pub took_sight : List E → Sight E O → Sight E O
  took_sight log s = sight (took_view log s.view) s.told

  -- the turn is not over, and what was logged in it is counted
  abbrev pub raised_sight : List E → Sight E O → Sight E O
  raised_sight log s =
      let left : View E O = left_view log s.view in
      sight (record {
        holds = s.view.holds;
        opened = left.opened;
        seen = left.seen;
        turns = left.turns;
        joined = left.joined;
        made = left.made;
        parts = left.parts;
        origin = left.origin;
      }) s.told

  -- the value is back, and the turn is over
  abbrev pub freed_sight : Sight E O → Sight E O
  freed_sight s =
      let v : View E O = s.view in
      sight (record {
        holds = false;
        opened = v.opened;
        seen = v.seen;
        turns = v.turns;
        joined = v.joined;
        made = v.made;
        parts = v.parts;
        origin = v.origin;
      }) s.told

  abbrev pub cut_sight : ℕ → Sight E O → Sight E O
  cut_sight n s = sight (cut_view n s.view) s.told

  abbrev pub new_sight : ℕ → Sight E O → Sight E O
  new_sight n s = alone (new_view n s.view)

  -- which of the two logs is the longer is not known, and a look tells it
  abbrev pub both_sights : Sight E O → Sight E O → Sight E O
  both_sights s t =
      sight (both_views s.view t.view)
      (told (shorter s.view.seen t.view.seen) t.view.opened t.view.origin)

  abbrev pub spent_sight : Sight E O
  spent_sight = alone spent_view

  -- the amounts that are added up over all passes
  abbrev pub holding : Sight E O → ℕ
  holding s = if s.view.holds then 1 else 0

  abbrev pub made_by : Sight E O → ℕ
  made_by s = s.view.made

  abbrev pub parts_of : Sight E O → ℕ
  parts_of s = s.view.parts

  abbrev pub times_in : ℕ → Sight E O → ℕ
  times_in i s = times i (stretches_of s.view)

  -- how many turns have ended
  abbrev pub turns_of : Sight E O → ℕ
  turns_of s = length (stretches_of s.view)

  -- the log seen begins with what was told, and the opening log and the origin are the same
  abbrev pub AgreesWithTold : View E O → Told E O → Type 0
  AgreesWithTold v t = StartsWith v.seen t.seen × (t.opened ≡ v.opened) × (t.origin ≡ v.origin)

-- the sum over all members
abbrev pub total : {V : Type 0} → (V → ℕ) → List V → ℕ
total f [] = 0
total f (v ∷ vs) = f v + total f vs

module _ {T E O : Type 0} (log : T → List E) (origin : T → O) (opened : T) where
  -- A pass has seen a beginning of the whole log, and the holder all of it. A spent pass knows
  -- nothing, and any other has seen the opening log and carries the origin
  pub record FitsLog (whole : List E) (s : Sight E O) : Type 0 where
    pub begins : StartsWith whole s.view.seen
    pub agrees : AgreesWithTold s.view s.told
    pub holder : s.view.holds ≡ true → s.view.seen ≡ whole
    pub spent : s.view.parts ≡ 0 → s ≡ spent_sight
    pub since : StartsWith s.view.seen s.view.opened
    pub lies : LieIn (length s.view.opened) (stretches_of s.view) (length s.view.seen)
    pub named : 0 < s.view.parts
        → (s.view.opened ≡ log opened) × (s.view.origin ≡ Some (origin opened))

  -- The words are the number of holders, the length of one whole log, and any number. The numbers
  -- made add up to what was logged, the parts to all parts, and the stretches of all passes have
  -- each position logged just once. Where no pass holds the value it is at home, and its log is the
  -- whole one; and where no turn has ended it is the very value that the turn was made with
  pub record Ruled (s : State (Option T) (Sight E O)) : Type 0 where
    pub whole : List E
    pub sleepers : ℕ
    pub words : s.words ≡ total holding s.views ∷ length whole ∷ sleepers ∷ []
    pub one : total holding s.views ≤ 1
    pub begins : StartsWith whole (log opened)
    pub made : total made_by s.views + length (log opened) ≡ length whole
    pub parts : total parts_of s.views ≡ 2 ^ 62
    pub once : (i : ℕ) → total (times_in i) s.views ≡ between i (length (log opened)) (length whole)
    pub each : (k : ℕ) (v : Sight E O) → get_elem? s.views k ≡ some v → FitsLog whole v
    pub home : total holding s.views ≡ 0
        → (v : T) × (s.homes ≡ some (Some v) ∷ []) × (log v ≡ whole) × (origin v ≡ origin opened)
        × (total turns_of s.views ≡ 0 → v ≡ opened)
    pub away : total holding s.views ≡ 1 → s.homes ≡ none ∷ []

module _ {T E O : Type 0} (log : T → List E) (origin : T → O) where
  -- the lock was free, and the caller has the value, whose log begins with all that it had seen; or
  -- nothing changed
  abbrev pub TookTurn : Me (Option T) (Sight E O) → ℕ → Me (Option T) (Sight E O) → Type 0
  TookTurn m zero m' =
      (v : T) × (m'.1 ≡ (0, Some v) ∷ m.1) × StartsWith (log v) m.0.view.seen
      × (m'.0 ≡ took_sight (log v) m.0) × (Some (origin v) ≡ m.0.view.origin)
  TookTurn m (suc n) m' = m' ≡ m

module _ {T E O : Type 0} (log : T → List E) where
  -- the log of the value in the slot is the whole one from now on
  abbrev pub Raised : Me (Option T) (Sight E O) → Me (Option T) (Sight E O) → Type 0
  Raised m m' = (v : T) → m.1 ≡ (0, Some v) ∷ [] → m' ≡ (raised_sight (log v) m.0, m.1)

-- the value is at home again
abbrev pub Freed : {T E O : Type 0} → Me (Option T) (Sight E O) → Me (Option T) (Sight E O) → Type 0
Freed m m' = m' ≡ (freed_sight m.0, [])

-- nothing changed; what a join left agrees with what the pass knows, its stretches lie in the log
-- seen, and no position stands in two of them
abbrev pub LookedAt : {T E O : Type 0} → Me T (Sight E O) → Me T (Sight E O) → Type 0
LookedAt m m' =
    (m' ≡ m) × AgreesWithTold m.0.view m.0.told
    × LieIn (length m.0.view.opened) (stretches_of m.0.view) (length m.0.view.seen)
    × ((i : ℕ) → times_in i m.0 ≤ 1)

-- the slots that a pass has: the turn's own, empty, while it has the value
abbrev pub slots_of : {T : Type 0} → Bool → List (ℕ × Option T)
slots_of true = (0, None) ∷ []
slots_of false = []
