-- A sweep: looks at the next Live slots, one after another.
use Rattle.std.specs.Prelude.{◌≡◌, ◌≤◌, ◌+◌, ℕ, Bool, true, false, List, [], ◌∷◌, ◌++◌}
use Rattle.std.specs.Prelude.{Some, None, Contains, filter, length}
use Rattle.pot_bytes.specs.declared.rack.Place.{Place}
use Rattle.pot_machine.specs.declared.entry.Entry.{Entry}
use Rattle.pot_machine.specs.Slot.{is_live}
use Rattle.pot_group.specs.declared.answers.Looked.{Looked}
use Rattle.pot_group.specs.declared.answers.Looked.TheVariants as looked
use Rattle.pot_group.specs.declared.sweeping.Reached.{Reached}
use Rattle.pot_group.specs.declared.sweeping.Reached.TheVariants as reached
use Rattle.pot_group.specs.declared.sweeping.Swept.{Swept}
use Rattle.pot_group.specs.Calls.{LookCall}
use Rattle.pot_group.specs.Finding.{IsPlace}
use Rattle.pot_group.specs.Group.{GroupView}

-- a slot and what the look at it answered
abbrev pub Look : Type 0
Look = Place × Looked

abbrev pub was_seen : Look → Bool
was_seen (p, looked.Seen) = true
was_seen _ = false

abbrev pub was_gone : Look → Bool
was_gone (p, looked.Gone) = true
was_gone _ = false

-- the look saw the block, or that it is gone
abbrev pub IsLookAnswered : Look → Type 0
IsLookAnswered (p, looked.Seen) = Unit {0}
IsLookAnswered (p, looked.Gone) = Unit {0}
IsLookAnswered _ = ⊥

-- Look after look, each at the first Live slot at or after a place, and then behind that slot. Each
-- is what a look by itself is.
abbrev pub LooksOn : Type 0 → ℕ → ℕ → ℕ → List Look → GroupView → GroupView → List Entry → Type 0
LooksOn told job s c [] old new entries = (entries ≡ []) × (new ≡ old)
LooksOn told job s c ((p, answer) ∷ rest) old new entries =
    (into : List ℕ) × (mid : GroupView) × (first : List Entry) × (more : List Entry)
    × IsPlace old.number old.table is_live s c (Some p)
    × LookCall told job p into answer old mid first
    × LooksOn told job p.stripe (p.column + 1) rest mid new more
    × (entries ≡ first ++ more)

-- looks that were answered, and then one with this answer
abbrev pub EndsWith : List Look → Looked → Type 0
EndsWith looks answer =
    (before : List Look) × (p : Place) × (looks ≡ before ++ (p, answer) ∷ [])
    × ((x : Look) → Contains before x → IsLookAnswered x)

-- how far the looks came
abbrev pub IsSweepReached : GroupView → ℕ → ℕ → Reached → List Look → Type 0
IsSweepReached old s c reached.End looks =
    (looks ≡ []) × IsPlace old.number old.table is_live s c None
IsSweepReached old s c (reached.Slot stripe column) looks =
    (before : List Look) × (p : Place) × (answer : Looked) × (looks ≡ before ++ (p, answer) ∷ [])
    × ((x : Look) → Contains looks x → IsLookAnswered x)
    × (p.stripe ≡ stripe) × (p.column ≡ column)
IsSweepReached old s c (reached.Faulted column) looks = EndsWith looks (looked.Faulted column)
IsSweepReached old s c reached.LogFull looks = EndsWith looks looked.LogFull

-- What a sweep saw, of four looks at most.
pub record SweepCall (told : Type 0) (job s c : ℕ) (swept : Swept)
    (old new : GroupView) (entries : List Entry) : Type 0 where
  pub looks : List Look
  pub goes : LooksOn told job s c looks old new entries
  pub few : length looks ≤ 4
  pub seen_is : swept.seen ≡ length (filter was_seen looks)
  pub gone_is : swept.gone ≡ length (filter was_gone looks)
  pub reaches : IsSweepReached old s c swept.reached looks
