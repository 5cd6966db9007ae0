-- How the parts of a world change, and what the world is then.
use Rattle.std.proofs.Common.{◌≡◌, ℕ, ◌<◌, ◌++◌, ◌∷◌, [], List, Option, Some, None, Result, false, refl, sym, ap, ◌∙◌, subst, if◌then◌else◌}
use Rattle.std.specs.Prelude.{◌==◌, Vec, is_some}
use Rattle.std.specs.Global.{Global}
use Rattle.pot_index.specs.Index.{IndexView}
use Rattle.pot_world.specs.declared.acts.ActFault.{ActFault}
use Rattle.pot_world.specs.declared.step.Step.{Step}
use Rattle.pot_world.specs.Reached.{Site}
use Rattle.pot_world.specs.World.{Actor, Allowed, Kept, Original, World, made}
use Rattle.pot_world.specs.World as world
use Rattle.pot_world.proofs.WorldRules.{IsWorld}
use Rattle.pot_world.proofs.WorldRuns.{run_is}
use Rattle.pot_actors.specs.declared.parts.Parts.{Parts}
use Rattle.pot_actors.specs.declared.split.OpenSplit.{OpenSplit}
use Rattle.pot_actors.specs.Seats.{SeatData, actor_at}
use Rattle.pot_actors.specs.Steps.{Becomes, ActorSteps}
use Rattle.pot_actors.specs.Worlds.{IsWorldReached, world_of}

-- an equal world of parts
abbrev pub world_by : Site → IndexView → (ℕ → Actor) → List Kept → (List ℕ → Original) → World
world_by site index actors kept originals = record { site = site; index = index; actors = actors; kept = kept; originals = originals }

pub world_seats : (p : Parts) (ss : Vec SeatData Global) → actor_at ss.items ≡ actor_at p.seats.items → world_of (record p { seats = ss }) ≡ world_of p
world_seats p ss e = ap (λ (f : ℕ → Actor). record (world_of p) { actors = f }) e

-- a step from where a seat was taken is one from before
pub seated : (x : Step) (p q : Parts) (ss : Vec SeatData Global) (r : Result (Unit {0}) ActFault) → actor_at ss.items ≡ actor_at p.seats.items
    → ActorSteps x (record p { seats = ss }) q r → ActorSteps x p q r
seated x p q ss r e h = subst (λ w. Becomes (Allowed x w) (made x w) w (world_of q) r) (world_seats p ss e) h

pub reached_seated : (p : Parts) (ss : Vec SeatData Global) → actor_at ss.items ≡ actor_at p.seats.items → IsWorldReached (world_of p) → IsWorldReached (world_of (record p { seats = ss }))
reached_seated p ss e h = subst IsWorldReached (sym (world_seats p ss e)) h

pub rules : (w : World) → IsWorldReached w → IsWorld w
rules w h = run_is h.0 h.1 w h.2 h.3

-- WHAT AN ACTOR HAS

pub split_none : (o : Option OpenSplit) → is_some o ≡ false → o ≡ None
split_none None e = refl
split_none (Some u) e = absurd (cc)
