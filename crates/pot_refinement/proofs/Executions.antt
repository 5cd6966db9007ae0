-- The calls of all groups are moves of the world.
use Rattle.std.proofs.Common.{◌≡◌, ℕ, suc, List, [], ◌∷◌, ◌++◌, Bool, refl, ap, ◌∙◌, subst, map}
use Rattle.pot_steps.specs.GroupStep.{GroupState}
use Rattle.pot_execution.specs.Execution.{Call}
use Rattle.pot_execution.specs.Execution as call
use Rattle.pot_world.specs.Group.{WorldGroup}
use Rattle.pot_world.specs.Acts.{Act, MoveBegin, act, used_by, with_use}
use Rattle.pot_world.specs.Reached.{Move, Makes, Site, at_group, IsAllowedAt, moved, Reaches}
use Rattle.pot_world.proofs.Inside.{bounds_on, raises}
use Rattle.pot_world.proofs.Reaching.{grown}
use Rattle.pot_refinement.specs.Refinement.{Simulates, used_after, used_by_all, ActsInTurn, ExecutionsReach, Ran, SimulateOld, SimulateNew, EachRan, used_by_each}
use Rattle.pot_refinement.proofs.Simulating.{follows_all}

-- acts of groups, by number, as moves
unfoldable pub makes : List (ℕ × Act) → List Move
makes ms = map (λ x. Makes x.0 x.1) ms

pub first : List Act → List (ℕ × Act)
first acts = map (λ a. (0, a)) acts

pub next : List (ℕ × Act) → List (ℕ × Act)
next ms = map (λ x. (suc x.0, x.1)) ms

abbrev pub site : (ℕ → Bool) → List WorldGroup → Site
site used gs = record { used = used; groups = gs }

-- moves behind moves
pub reach_join : (ms ns : List (ℕ × Act)) (x y z : Site) → Reaches x (makes ms) y → Reaches y (makes ns) z → Reaches x (makes (ms ++ ns)) z
unfolding Reaches makes
reach_join [] ns x y z same on = subst (λ s. Reaches s (makes ns) z) same on
reach_join (m ∷ ms) ns x y z go on = (go.0, reach_join ms ns (moved (Makes m.0 m.1) x) y z go.1 on)

-- the acts of the first group
pub reach_first : (used after : ℕ → Bool) (g h : WorldGroup) (gs : List WorldGroup) (acts : List Act) → ActsInTurn used g acts after h → Reaches (site used (g ∷ gs)) (makes (first acts)) (site after (h ∷ gs))
unfolding Reaches makes first IsAllowedAt at_group
reach_first used after g h gs [] go = ap (λ u. site u (h ∷ gs)) go.0 ∙ ap (λ x. site used (x ∷ gs)) go.1
reach_first used after g h gs (a ∷ acts) go = (go.0, reach_first (used_by a used) after (act a g) h gs acts go.1)

-- those of the groups behind it
pub reach_next : (used after : ℕ → Bool) (g : WorldGroup) (gs hs : List WorldGroup) (ms : List (ℕ × Act)) → Reaches (site used gs) (makes ms) (site after hs)
    → Reaches (site used (g ∷ gs)) (makes (next ms)) (site after (g ∷ hs))
unfolding Reaches makes next IsAllowedAt at_group
reach_next used after g gs hs [] same = ap (λ (s : Site). site s.used (g ∷ s.groups)) same
reach_next used after g gs hs (m ∷ ms) go = (go.0, reach_next (used_by m.1 used) after g (at_group m.0 (act m.1) gs) hs ms go.1)

-- more archives have a use
follows_more : (used : ℕ → Bool) (to : ℕ) (g : WorldGroup) (s : GroupState) → Simulates used g s → Simulates (with_use used to) g s
follows_more used to g s f = record {
  good = grown used (MoveBegin 0 0 to) g f.good;
  numbers = raises (MoveBegin 0 0 to) f.numbers;
  bound = bounds_on (MoveBegin 0 0 to) used f.numbers f.bound;
  inside = f.inside;
  same = f.same;
}

follows_after : (used : ℕ → Bool) (c : Call) (g : WorldGroup) (s : GroupState) → Simulates used g s → Simulates (used_after used c) g s
follows_after used call.Open g s f = f
follows_after used (call.Put job block answer) g s f = f
follows_after used (call.Look job st c answer) g s f = f
follows_after used (call.Count job) g s f = f
follows_after used (call.Mend job st c blind answer) g s f = f
follows_after used (call.MoveBegin job c to held heard) g s f = follows_more used to g s f
follows_after used (call.MoveOne job c answer) g s f = f
follows_after used (call.Swap job c to held heard) g s f = follows_more used to g s f

pub follows_calls : (calls : List Call) (used : ℕ → Bool) (g : WorldGroup) (s : GroupState) → Simulates used g s → Simulates (used_by_all calls used) g s
follows_calls [] used g s f = f
follows_calls (c ∷ calls) used g s f = follows_calls calls (used_after used c) g s (follows_after used c g s f)

pub follows_each : (rs : List Ran) (used : ℕ → Bool) (g : WorldGroup) (s : GroupState) → Simulates used g s → Simulates (used_by_each rs used) g s
follows_each [] used g s f = f
follows_each (r ∷ rs) used g s f = follows_each rs (used_by_all r.calls used) g s (follows_calls r.calls used g s f)

old_calls : (calls : List Call) (used : ℕ → Bool) (gs : List WorldGroup) (rs : List Ran) → SimulateOld used gs rs → SimulateOld (used_by_all calls used) gs rs
old_calls calls used [] [] f = tt
old_calls calls used [] (r ∷ rs) f = f
old_calls calls used (g ∷ gs) [] f = f
old_calls calls used (g ∷ gs) (r ∷ rs) f = (follows_calls calls used g r.old f.0, old_calls calls used gs rs f.1)

-- group after group
reach_all : (used : ℕ → Bool) (gs : List WorldGroup) (rs : List Ran) → SimulateOld used gs rs → EachRan used rs
    → (ms : List (ℕ × Act)) × (hs : List WorldGroup) × Reaches (site used gs) (makes ms) (site (used_by_each rs used) hs) × SimulateNew (used_by_each rs used) hs rs
unfolding Reaches makes
reach_all used [] [] f each = ([], [], refl, tt)
reach_all used [] (r ∷ rs) f each = absurd f
reach_all used (g ∷ gs) [] f each = absurd f
reach_all used (g ∷ gs) (r ∷ rs) f each =
    let one = follows_all used g r.calls r.old r.new f.0 r.leads each.0 in
    let then = used_by_all r.calls used in
    let more = reach_all then gs rs (old_calls r.calls used gs rs f.1) each.1 in (
      first one.acts ++ next more.0,
      one.group ∷ more.1,
      reach_join (first one.acts) (next more.0) (site used (g ∷ gs)) (site then (one.group ∷ gs)) (site (used_by_each rs then) (one.group ∷ more.1))
          (reach_first used then g one.group gs one.acts one.go) (reach_next then (used_by_each rs then) one.group gs more.1 more.0 more.2),
      (follows_each rs then one.group r.new one.follows, more.3),
    )

pub executions_reach : ExecutionsReach
executions_reach x ran f each =
    let all = reach_all x.used x.groups ran f each in
    (makes all.0, site (used_by_each ran x.used) all.1, all.2, refl, all.3)
