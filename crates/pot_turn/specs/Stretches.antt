-- Stretches of positions of a log.
use Rattle.std.specs.Prelude.{◌≡◌, ℕ, ◌+◌, ◌-◌, ◌≤◌, List, [], ◌∷◌, ◌++◌, length, take, drop}
use Rattle.std.specs.Prelude.{if◌then◌else◌, nat_le, nat_lt, ◌&&◌}
use native.Mathlib.Bridge.{le_prop}
use mathlib.Core.HLevel.{×₃_prop}
use Rattle.pot_turn.specs.declared.view.Stretch.{Stretch}

-- the positions from one on, up to another, which is not among them
abbrev pub stretch : ℕ → ℕ → Stretch
stretch from upto = record { from = from; upto = upto }

-- 1 where the position is at `from` or later and before `upto`, else 0
abbrev pub between : ℕ → ℕ → ℕ → ℕ
between i from upto = if nat_le from i && nat_lt i upto then 1 else 0

-- in how many of the stretches the position stands
abbrev pub times : ℕ → List Stretch → ℕ
times i [] = 0
times i (s ∷ ss) = between i s.from s.upto + times i ss

-- how many positions the stretches have
abbrev pub size_of : List Stretch → ℕ
size_of [] = 0
size_of (s ∷ ss) = (s.upto - s.from) + size_of ss

-- the stretches follow one another between two positions
abbrev pub StretchesAscend : ℕ → List Stretch → ℕ → Type 0
StretchesAscend at [] upto = at ≤ upto
StretchesAscend at (s ∷ ss) upto = (at ≤ s.from) × (s.from ≤ s.upto) × StretchesAscend s.upto ss upto

-- each stretch lies between two positions
abbrev pub LieIn : ℕ → List Stretch → ℕ → Type 0
LieIn at [] upto = at ≤ upto
LieIn at (s ∷ ss) upto = (at ≤ s.from) × (s.upto ≤ upto) × LieIn at ss upto

pub Ascends-prop : (at : ℕ) (ss : List Stretch) (upto : ℕ) → IsProp (StretchesAscend at ss upto)
Ascends-prop at [] upto = le_prop
Ascends-prop at (s ∷ ss) upto = ×₃_prop le_prop le_prop (Ascends-prop s.upto ss upto)

pub LieIn-prop : (at : ℕ) (ss : List Stretch) (upto : ℕ) → IsProp (LieIn at ss upto)
LieIn-prop at [] upto = le_prop
LieIn-prop at (s ∷ ss) upto = ×₃_prop le_prop le_prop (LieIn-prop at ss upto)

-- the entries of the log that stand in the stretches, stretch after stretch
abbrev pub entries_in : {E : Type 0} → List E → List Stretch → List E
entries_in log [] = []
entries_in log (s ∷ ss) = take (s.upto - s.from) (drop s.from log) ++ entries_in log ss

-- each position since the opening log stands in just one of the stretches, and no other position in
-- any
abbrev pub IsOnceEach : {E : Type 0} → List E → List E → List Stretch → Type 0
IsOnceEach opened log ss = (i : ℕ) → times i ss ≡ between i (length opened) (length log)
