-- Steps one after another.
use Rattle.std.proofs.Common.{◌≡◌, ℕ, ◌+◌, ◌<◌, ◌≤◌, ◌++◌, ◌∷◌, [], List, Some, Err, length, take, get_or, refl, sym, ap, ◌∙◌, subst}
use Rattle.std.specs.Prelude.{slice_get}
use Rattle.std.proofs.lemmas.List.{take_all, take_more}
use Rattle.std.proofs.lemmas.Option.{slice_get-get_or}
use Rattle.pot_world.specs.declared.acts.ActFault.{ActFault}
use Rattle.pot_world.specs.declared.acts.ActFault.TheVariants as act_fault
use Rattle.pot_world.specs.declared.step.Step.{Step}
use Rattle.pot_world.specs.World.{Allowed, Runs, World, made}
use Rattle.pot_actors.specs.Runs.{RunsTo}
use Rattle.pot_actors.specs.declared.parts.Parts.{Parts}
use Rattle.pot_actors.specs.Worlds.{IsWorldReached, world_of}
use Rattle.pot_actors.specs.declared.world.WorldFault.TheVariants as fault

runs_more : (steps : List Step) (x : Step) (w v : World) → Runs steps w v → Allowed x v → Runs (steps ++ x ∷ []) w (made x v)
unfolding Runs
runs_more [] x w v r h = (subst (Allowed x) r h, ap (made x) r)
runs_more (y ∷ steps) x w v r h = (r.0, runs_more steps x (made y w) v r.1 h)

runs_then : (steps more : List Step) (u w v : World) → Runs steps u w → Runs more w v → Runs (steps ++ more) u v
unfolding Runs
runs_then [] more u w v a b = subst (λ z. Runs more z v) a b
runs_then (x ∷ steps) more u w v a b = (a.0, runs_then steps more (made x u) w v a.1 b)

pub runs_none : (steps : List Step) (w : World) → Runs (take 0 steps) w w
unfolding Runs
runs_none steps w = refl

-- what a world that was reached runs to is reached
pub reached_on : (steps : List Step) (w v : World) → IsWorldReached w → Runs steps w v → IsWorldReached v
reached_on steps w v h r = (h.0, h.1 ++ steps, h.2, runs_then h.1 steps _ w v h.3 r)

pub reached_by : (steps : List Step) (p q r : Parts) → p ≡ q → IsWorldReached (world_of p) → Runs steps (world_of q) (world_of r) → IsWorldReached (world_of r)
reached_by steps p q r e h runs = reached_on steps (world_of p) (world_of r) h (subst (λ (x : Parts). Runs steps (world_of x) (world_of r)) (sym e) runs)

-- one step more was made
pub runs_on : (steps : List Step) (at : ℕ) (x : Step) (u w v : World) → at < length steps → get_or steps at x ≡ x → Runs (take at steps) u w
    → Allowed x w × (v ≡ made x w) → Runs (take (at + 1) steps) u v
runs_on steps at x u w v lt is r h =
    subst (λ z. Runs (take (at + 1) steps) u z) (sym h.1)
    (subst (λ z. Runs z u (made x w)) (sym (take_more steps at x lt ∙ ap (λ y. take at steps ++ y ∷ []) is)) (runs_more (take at steps) x u w r h.0))

pub runs_all : (steps : List Step) (at : ℕ) (u w : World) → length steps ≤ at → Runs (take at steps) u w → Runs steps u w
runs_all steps at u w le r = subst (λ z. Runs z u w) (take_all at steps le) r

-- a step was not made
pub runs_stopped : (steps : List Step) (at : ℕ) (x : Step) (u w v : World) → at < length steps → get_or steps at x ≡ x → Runs (take at steps) u w
    → (Allowed x w → ⊥) × (v ≡ w) → RunsTo steps u v (Err (fault.NotLegal at))
runs_stopped steps at x u w v lt is r h = (
  subst (λ z. Runs (take at steps) u z) (sym h.1) r,
  (x, slice_get-get_or steps at x lt ∙ ap Some is, subst (λ z. Allowed x z → ⊥) (sym h.1) h.0),
)

pub runs_starved : (steps : List Step) (at : ℕ) (u w v : World) → at < length steps → Runs (take at steps) u w → v ≡ w → RunsTo steps u v (Err (fault.NoMemory at))
runs_starved steps at u w v lt r e = (subst (λ z. Runs (take at steps) u z) (sym e) r, lt)
