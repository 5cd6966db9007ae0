-- The groups that a session leaves, and those of the next one.
use Rattle.std.proofs.Common.{◌≡◌, ◌<◌, ◌≤◌, inl, inr, ℕ, zero, suc, List, [], ◌∷◌, Option, Some, None, Bool, refl, sym, ap, ◌∙◌, subst, arith, map}
use Rattle.std.specs.Prelude.{Contains, ◌^◌}
use Rattle.std.proofs.lemmas.Bool.{cases_lt}
use Rattle.pot_bytes.specs.declared.rack.Rack.{Rack}
use Rattle.pot_machine.specs.Table.{Table, archives_in}
use Rattle.pot_group.specs.Arrivals.{arrivals}
use Rattle.pot_execution.proofs.Came.{among}
use Rattle.pot_group.specs.Group.{state_of}
use Rattle.pot_world.specs.Group.{WorldGroup}
use Rattle.pot_world.specs.Reached.{Move, Reaches, Site, first_group, first_used}
use Rattle.pot_world.specs.Ties.{SameState}
use Rattle.pot_refinement.specs.Refinement.{PastGroup, ran_of, all_ran, IsNewGroup, AreNewGroups, AllWentWell, AreEmpty, EachRan, Simulates, SimulateOld, SimulateNew, FirstSession, BeginAnew, BeginsAnew, StartsAnew, NextSession, Chain, last_of, SessionsReach, used_by_each, used_since, with_uses}
use Rattle.pot_world.specs.Later.{Sessions, reopened, reopened_site}
use Rattle.pot_world.proofs.Later.{first_reopened}
use Rattle.pot_refinement.proofs.Clean.{holds_none, well_by_log}
use Rattle.pot_refinement.proofs.Executions.{executions_reach}
use Rattle.pot_refinement.proofs.Sessions.{session_reaches, reopened_simulates}

new_empty : (rack : Rack) (n : ℕ) (p : PastGroup) → IsNewGroup rack n p.view → SameState (first_group rack n).state (ran_of p).old
new_empty rack n p new =
    let u = p.execution.unopened in
    record {
      table = sym (u.table ∙ new.first);
      flights = sym u.flights;
      held = λ m slot. elim (among (archives_in p.view.first) m) [
        | inl h ↦ sym (u.held m slot h ∙ holds_none (p.view.shelves.taken m) (p.execution.coherent m) (new.empty m h) slot)
        | inr h ↦ sym (u.none m slot h)
      ];
      heard = λ m. elim (among (archives_in p.view.first) m) [ inl h ↦ sym (u.heard m h ∙ (new.empty m h).heard) | inr h ↦ sym (u.silent m h) ];
    }

all_empty : (rack : Rack) (n more : ℕ) (ps : List PastGroup) → AreNewGroups rack n more ps → AreEmpty rack n more (all_ran ps)
all_empty rack n zero [] new = tt
all_empty rack n zero (p ∷ ps) new = new
all_empty rack n (suc more) [] new = new
all_empty rack n (suc more) (p ∷ ps) new = (new_empty rack n p new.0, all_empty rack (suc n) more ps new.1)

-- the archives that have a use after groups that went well
pub all_used : (used : ℕ → Bool) (ps : List PastGroup) → AllWentWell used ps → used_by_each (all_ran ps) used ≡ used_since ps used
all_used used [] well = refl
all_used used (p ∷ ps) well =
    let one = (well_by_log used p well.0).1 in
    ap (used_by_each (all_ran ps)) one ∙ all_used (with_uses used (arrivals p.view.log)) ps well.1

pub all_well : (used : ℕ → Bool) (ps : List PastGroup) → AllWentWell used ps → EachRan used (all_ran ps)
all_well used [] well = tt
all_well used (p ∷ ps) well =
    let one = well_by_log used p well.0 in
    (one.0, subst (λ u. EachRan u (all_ran ps)) (sym one.1) (all_well (with_uses used (arrivals p.view.log)) ps well.1))

pub first_session : FirstSession
first_session rack ps fits new well =
    let r = session_reaches rack (all_ran ps) fits (all_empty rack 0 rack.groups ps new) (all_well (first_used rack) ps well) in
    (r.0, r.1, r.2, r.3 ∙ all_used (first_used rack) ps well, r.4)

-- THE NEXT ONE

-- what archives held at their taking is what they hold at the start, in all slots
starts_anew : (used : ℕ → Bool) (g : WorldGroup) (p q : PastGroup) → Simulates used g (state_of p.view) → BeginsAnew p.view q.view → StartsAnew (state_of p.view) q.execution.start
starts_anew used g p q f anew =
    let u = q.execution.unopened in
    record {
      table = u.table ∙ anew.first;
      flights = u.flights;
      held = λ n slot h. u.held n slot (first n h) ∙ same n slot (first n h);
      heard = λ n h. u.heard n (first n h) ∙ anew.heard n (first n h);
      none = λ n slot absent. u.none n slot (λ h. absent (start n h));
      silent = λ n absent. u.silent n (λ h. absent (start n h));
    }
  where
    first : (n : ℕ) → Contains (archives_in q.execution.start.table) n → Contains (archives_in q.view.first) n
    first n h = subst (λ (t : Table). Contains (archives_in t) n) q.execution.unopened.table h

    start : (n : ℕ) → Contains (archives_in q.view.first) n → Contains (archives_in q.execution.start.table) n
    start n h = subst (λ (t : Table). Contains (archives_in t) n) (sym q.execution.unopened.table) h

    -- nothing is held beyond the stripes of a table
    low : (n slot : ℕ) (b : List ℕ) → p.view.shelves.held n slot ≡ Some b → slot < 2 ^ 32
    low n slot b e = (let inside = f.inside n slot b (f.same.held n slot ∙ e) in let few = f.good.0.table.size.stripes.1 in omega (arith, inside, few))

    none_from : (held : ℕ → Option (List ℕ)) → ((slot : ℕ) (b : List ℕ) → held slot ≡ Some b → slot < 2 ^ 32) → (slot : ℕ) → 2 ^ 32 ≤ slot → held slot ≡ None
    none_from held below slot le = by (held slot) refl
      where
        by : (o : Option (List ℕ)) → held slot ≡ o → o ≡ None
        by None e = refl
        by (Some b) e = (let lt = below slot b e in absurd (omega (arith, lt, le)))

    same : (n slot : ℕ) → Contains (archives_in q.view.first) n → (q.view.shelves.taken n).held slot ≡ p.view.shelves.held n slot
    same n slot h = elim (cases_lt slot (2 ^ 32)) [
      | inl lt ↦ anew.held n slot h lt
      | inr le ↦ none_from (q.view.shelves.taken n).held (q.execution.coherent n).low slot le ∙ sym (none_from (p.view.shelves.held n) (low n) slot le)
    ]

begin_anew : (used : ℕ → Bool) (gs : List WorldGroup) (ps qs : List PastGroup) → SimulateNew used gs (all_ran ps) → BeginAnew ps qs → SimulateOld used (map reopened gs) (all_ran qs)
begin_anew used [] [] [] follow anew = tt
begin_anew used [] [] (q ∷ qs) follow anew = anew
begin_anew used [] (p ∷ ps) qs follow anew = absurd follow
begin_anew used (g ∷ gs) [] qs follow anew = absurd follow
begin_anew used (g ∷ gs) (p ∷ ps) [] follow anew = absurd anew
begin_anew used (g ∷ gs) (p ∷ ps) (q ∷ qs) follow anew = (reopened_simulates used g (state_of p.view) q.execution.start follow.0 (starts_anew used g p q follow.0 anew.0), begin_anew used gs ps qs follow.1 anew.1)

pub next_session : NextSession
next_session x ps qs follow anew well =
    let r = executions_reach (reopened_site x) (all_ran qs) (begin_anew x.used x.groups ps qs follow anew) (all_well x.used qs well) in
    (r.0, r.1, r.2, r.3 ∙ all_used x.used qs well, r.4)

-- SESSION AFTER SESSION

all_sessions : (more : List (List PastGroup)) (x : Site) (ps : List PastGroup) → SimulateNew x.used x.groups (all_ran ps) → Chain x.used ps more
    → (sessions : List (List Move)) × (z : Site) × Sessions x sessions z × SimulateNew z.used z.groups (all_ran (last_of ps more))
all_sessions [] x ps follow chain = ([], x, refl, follow)
all_sessions (qs ∷ more) x ps follow chain =
    let r = executions_reach (reopened_site x) (all_ran qs) (begin_anew x.used x.groups ps qs follow chain.0) (all_well x.used qs chain.1) in
    let rest = all_sessions more r.1 qs r.4 (subst (λ u. Chain u qs more) (sym (r.3 ∙ all_used x.used qs chain.1)) chain.2) in
    (r.0 ∷ rest.0, rest.1, (r.1, r.2, rest.2), rest.3)

pub sessions_reach : SessionsReach
sessions_reach rack ps more fits new well chain =
    let r = session_reaches rack (all_ran ps) fits (all_empty rack 0 rack.groups ps new) (all_well (first_used rack) ps well) in
    let rest = all_sessions more r.1 ps r.4 (subst (λ u. Chain u ps more) (sym (r.3 ∙ all_used (first_used rack) ps well)) chain) in
    (r.0 ∷ rest.0, rest.1, (r.1, subst (λ (s : Site). Reaches s r.0 r.1) (sym (first_reopened rack)) r.2, rest.2), rest.3)
