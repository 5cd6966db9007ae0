-- Which blinds the other run has, whatever the blinds of the one run are.
use Rattle.std.specs.Prelude.{◌≡◌, ℕ, zero, suc, true, List, [], ◌∷◌}
use Rattle.pot_bytes.specs.Lists.{IsBlock}
use Rattle.pot_bytes.specs.Rack.{IsRack}
use Rattle.pot_bytes.specs.Sums.{xor, zero_block}
use Rattle.pot_bytes.specs.declared.rack.Rack.{Rack}
use Rattle.pot_world.specs.declared.step.Step.{Step}
use Rattle.pot_world.specs.declared.step.Step.TheVariants as step
use Rattle.pot_world.specs.Audit.{Sight, seen_blind, seen_step, seen_steps}
use Rattle.pot_world.specs.SameShape.{Other}
use Rattle.pot_world.specs.World.{World, first_world, group_at, made, Runs}

-- a step with another blind
abbrev pub with_blind : List ℕ → Step → Step
with_blind blind (step.Mend a place other) = step.Mend a place blind
with_blind blind x = x

-- steps with other blinds, by the position of the step
unfoldable pub with_blinds : (ℕ → List ℕ) → List Step → List Step
with_blinds blinds [] = []
with_blinds blinds (x ∷ steps) = with_blind (blinds 0) x ∷ with_blinds (λ n. blinds (suc n)) steps

-- what is added to the blind of a step in the other run: the blind that it has there for a blind of
-- zeros
abbrev pub mask : (ℕ → Sight) → Step → World → World → List ℕ
mask sights (step.Mend a place blind) w v =
    seen_blind true (sights place.group) (group_at w place.group) (group_at v place.group)
    place.stripe place.column zero_block
mask sights x w v = zero_block

-- that of each step, by its position, along both runs
unfoldable pub masks : (ℕ → Sight) → (ℕ → Other) → List Step → World → World → ℕ → List ℕ
masks sights other [] w v n = zero_block
masks sights other (x ∷ steps) w v zero = mask sights x w v
masks sights other (x ∷ steps) w v (suc n) =
    masks sights (λ n. other (suc n)) steps (made x w)
    (made (seen_step true sights (other 0) x w v) v) n

-- the blinds, each with its mask added
abbrev pub masked : (ℕ → List ℕ) → (ℕ → List ℕ) → ℕ → List ℕ
masked masks blinds n = xor (blinds n) (masks n)

-- Take a run, and the other run of its steps, whose blinds are exchanged. Each mask is a block, and
-- no blind changes it: with any other blinds the other run has these with the same masks added.
-- Since a block added twice is none, the map of blinds is one for one.
pub record Masks (sights : ℕ → Sight) (other : ℕ → Other) (steps : List Step) (w v : World) : Type
    0 where
  pub blocks : (n : ℕ) → IsBlock (masks sights other steps w v n)
  pub same : (blinds : ℕ → List ℕ) → ((n : ℕ) → IsBlock (blinds n))
      → seen_steps true sights other (with_blinds blinds steps) w v
      ≡ with_blinds (masked (masks sights other steps w v) blinds)
      (seen_steps true sights other steps w v)
  pub twice : (blinds : ℕ → List ℕ) (n : ℕ) → IsBlock (blinds n)
      → masked (masks sights other steps w v) (masked (masks sights other steps w v) blinds) n
      ≡ blinds n

abbrev pub BlindsReturn : Type 0
BlindsReturn =
    (rack : Rack) (sights : ℕ → Sight) (other : ℕ → Other) (steps : List Step) (w v : World)
    → IsRack rack
    → Runs steps (first_world rack) w
    → Runs (seen_steps true sights other steps (first_world rack) (first_world rack))
    (first_world rack) v
    → Masks sights other steps (first_world rack) (first_world rack)
