-- From the groups that a session left, over archives that have only lost blocks since, to those
-- that the next one leaves.
use Rattle.std.proofs.Common.{◌≡◌, ℕ, List, [], ◌∷◌, ◌++◌, Option, Some, None, Bool, true, false, refl, ap, ◌∙◌, map, if◌then◌else◌}
use Rattle.std.specs.Prelude.{◌==◌}
use Rattle.std.specs.List.{list_any}
use Rattle.pot_machine.specs.Table.{Table, archives_in}
use Rattle.pot_steps.specs.GroupStep.{GroupState}
use Rattle.pot_group.specs.Group.{state_of}
use Rattle.pot_execution.specs.Execution.{Call}
use Rattle.pot_world.specs.Group.{WorldGroup}
use Rattle.pot_world.specs.Acts.{Act}
use Rattle.pot_world.specs.Later.{of_table, reopened}
use Rattle.pot_world.specs.Reached.{Reaches}
use Rattle.pot_world.proofs.Later.{good_anew}
use Rattle.pot_refinement.specs.Refinement.{ActsTo, EachRan, PastGroup, Ran, SimulateNew, Simulates, all_ran, ran_of, used_by_all, used_by_each}
use Rattle.pot_refinement.proofs.Acting.{acts_join, by_losses}
use Rattle.pot_refinement.proofs.Executions.{first, follows_calls, follows_each, makes, next, reach_first, reach_join, reach_next, site}
use Rattle.pot_refinement.proofs.Simulating.{follows_all}

-- ONE GROUP

-- what is kept of a group between two sessions
abbrev pub kept_state : GroupState → GroupState
kept_state s = record {
  table = record s.table { relays = [] };
  log = [];
  held = λ n slot. of_table s.table None (λ m. s.held m slot) n;
  heard = λ n. of_table s.table [] s.heard n;
  flights = [];
}

-- what stays of what an archive holds was there before
stayed : (b : Bool) (o : Option (List ℕ)) (x : List ℕ) → (if b then o else None) ≡ Some x → o ≡ Some x
stayed true o x e = e
stayed false o x e = absurd (cc)

reopened_kept : (used : ℕ → Bool) (g : WorldGroup) (s : GroupState) → Simulates used g s → Simulates used (reopened g) (kept_state s)
reopened_kept used g s f = record {
  good = good_anew used g f.good;
  numbers = f.numbers;
  bound = f.bound;
  inside = λ n k b e. f.inside n k b (stayed (list_any (λ m. m == n) (archives_in g.state.table)) (g.state.held n k) b e);
  same = record {
    table = ap {A = Table} (λ t. record t { relays = [] }) f.same.table;
    flights = refl;
    held = λ n k.
        ap {A = Table} (λ t. of_table t None (λ m. g.state.held m k) n) f.same.table
        ∙ ap (λ (o : Option (List ℕ)). if list_any (λ m. m == n) (archives_in s.table) then o else None) (f.same.held n k);
    heard = λ n.
        ap {A = Table} (λ t. of_table t [] g.state.heard n) f.same.table
        ∙ ap (λ (o : List (ℕ × List ℕ)). if list_any (λ m. m == n) (archives_in s.table) then o else []) (f.same.heard n);
  };
}

-- a group of the next session begins so
pub record Begun (end start : GroupState) : Type 0 where
  pub table : start.table ≡ record end.table { relays = [] }
  pub flights : start.flights ≡ []
  pub held : (n k : ℕ) (b : List ℕ) → start.held n k ≡ Some b → (kept_state end).held n k ≡ Some b
  pub heard : (n : ℕ) → start.heard n ≡ (kept_state end).heard n

begins_again : (used : ℕ → Bool) (g : WorldGroup) (end start : GroupState) → Simulates used g end → Begun end start → ActsTo used (reopened g) used start
begins_again used g end start f b = by_losses used (reopened g) (kept_state end) start (reopened_kept used g end f) b.table b.flights b.heard b.held

-- ALL GROUPS

abbrev pub AllBegun : List PastGroup → List PastGroup → Type 0
AllBegun [] [] = Unit {0}
AllBegun [] (q ∷ qs) = ⊥
AllBegun (p ∷ ps) [] = ⊥
AllBegun (p ∷ ps) (q ∷ qs) = Begun (state_of p.view) q.execution.start × AllBegun ps qs

new_calls : (calls : List Call) (used : ℕ → Bool) (gs : List WorldGroup) (rs : List Ran) → SimulateNew used gs rs → SimulateNew (used_by_all calls used) gs rs
new_calls calls used [] [] f = tt
new_calls calls used [] (r ∷ rs) f = f
new_calls calls used (g ∷ gs) [] f = f
new_calls calls used (g ∷ gs) (r ∷ rs) f = (follows_calls calls used g r.new f.0, new_calls calls used gs rs f.1)

-- group after group
pub go_all : (used : ℕ → Bool) (gs : List WorldGroup) (ps qs : List PastGroup) → SimulateNew used gs (all_ran ps) → AllBegun ps qs → EachRan used (all_ran qs)
    → (ms : List (ℕ × Act)) × (hs : List WorldGroup) × Reaches (site used (map reopened gs)) (makes ms) (site (used_by_each (all_ran qs) used) hs) × SimulateNew (used_by_each (all_ran qs) used) hs (all_ran qs)
unfolding Reaches makes
go_all used [] [] [] f begun each = ([], [], refl, tt)
go_all used [] [] (q ∷ qs) f begun each = absurd begun
go_all used [] (p ∷ ps) qs f begun each = absurd f
go_all used (g ∷ gs) [] qs f begun each = absurd f
go_all used (g ∷ gs) (p ∷ ps) [] f begun each = absurd begun
go_all used (g ∷ gs) (p ∷ ps) (q ∷ qs) f begun each =
    let r = ran_of q in
    let lost = begins_again used g (state_of p.view) q.execution.start f.0 begun.0 in
    let one = follows_all used lost.group r.calls r.old r.new lost.follows r.leads each.0 in
    let used_then = used_by_all r.calls used in
    let acts = lost.acts ++ one.acts in
    let go = acts_join used used used_then (reopened g) lost.group one.group lost.acts one.acts lost.go one.go in
    let more = go_all used_then gs ps qs (new_calls r.calls used gs (all_ran ps) f.1) begun.1 each.1 in (
      first acts ++ next more.0,
      one.group ∷ more.1,
      reach_join (first acts) (next more.0) (site used (reopened g ∷ map reopened gs)) (site used_then (one.group ∷ map reopened gs)) (site (used_by_each (all_ran qs) used_then) (one.group ∷ more.1))
          (reach_first used used_then (reopened g) one.group (map reopened gs) acts go) (reach_next used_then (used_by_each (all_ran qs) used_then) one.group (map reopened gs) more.1 more.0 more.2),
      (follows_each (all_ran qs) used_then one.group r.new one.follows, more.3),
    )
