-- All sessions of a chain are sessions of a world.
use Rattle.std.proofs.Common.{◌≡◌, ◌⊎◌, inl, inr, ℕ, zero, suc, ◌<◌, ◌≤◌, ◌+◌, List, [], ◌∷◌, ◌++◌, Some, Bool, false, IsTrue, nat_lt, refl, sym, ap, ◌∙◌, subst, arith, length, map}
use Rattle.std.specs.Prelude.{All, Contains, flat_map, slice_get}
use Rattle.std.specs.List.{range_with_len}
use Rattle.std.proofs.lemmas.Bool.Decides.{nat_tests}
use Rattle.std.proofs.lemmas.List.Elements.{Contains-append_left, Contains-append_right, Contains-append_cases}
use Rattle.std.proofs.lemmas.Option.{same_Some}
use Rattle.pot_bytes.specs.declared.rack.Rack.{Rack}
use Rattle.pot_bytes.specs.Rack.{log_bound}
use Rattle.pot_machine.specs.declared.entry.Entry.{Entry}
use Rattle.pot_machine.specs.Machine.{Replays}
use Rattle.pot_machine.specs.Making.{empty_table}
use Rattle.pot_machine.specs.Table.{Table, archives_in}
use Rattle.pot_group.specs.Arrivals.{arrivals}
use Rattle.pot_group.specs.Group.{state_of}
use Rattle.pot_image.specs.Rules.{FitsTable}
use Rattle.pot_shared.specs.Groups.{had_by}
use Rattle.pot_shared.specs.Hands.{times}
use Rattle.pot_shared.specs.Leaving.{still}
use Rattle.pot_shared.proofs.Lists.{all_at_place, flat_contains}
use Rattle.pot_session.specs.Serving.{came_by}
use Rattle.pot_world.specs.Group.{WorldGroup}
use Rattle.pot_world.specs.Later.{Sessions, reopened_site}
use Rattle.pot_world.specs.Reached.{EachGroup, IsGood, Move, Reaches, Site, first_site, first_used}
use Rattle.pot_world.proofs.Later.{first_reopened}
use Rattle.pot_refinement.specs.Refinement.{AllWentWell, AreNewGroups, IsArchiveEmpty, SimulateNew, Simulates, all_ran, is_clean, used_by_each, used_since}
use Rattle.pot_refinement.proofs.Ended.{all_used, all_well, first_session}
use Rattle.pot_refinement.proofs.Executions.{makes, site}
use Rattle.pot_theorem.specs.Worlds.{AllAsLeft, AreAsLeft, IsGroupOf, IsInWorld, RunsReach, IsAsLeft, had_with}
use Rattle.pot_theorem.specs.Sessions.{ClosedSession, AllSucceed, Succeeds, AreInARow, IsFirstSession, IsUndisturbed, new_archives, last_session, many_archives, first_archives}
use Rattle.pot_theorem.proofs.Between.{go_all}
use Rattle.pot_theorem.proofs.Chaining.{HasColumns, all_begun, all_of}
use Rattle.pot_theorem.proofs.Groups.{Asks, One, all_went, back_apart, came_of, empty_then, had_here, logs, named_of, ones_of, pasts_of, reads, shown, since, writtens}

-- WHICH ARCHIVES HAVE A USE

-- archives beyond those of the rack have no use but where they came
abbrev pub IsUnused : (ℕ → Bool) → Rack → List ℕ → Type 0
IsUnused used rack earlier = (n : ℕ) → many_archives rack ≤ n → (Contains earlier n → ⊥) → used n ≡ false

first_unused : (rack : Rack) → IsUnused (first_used rack) rack []
first_unused rack n le none = not_below n (many_archives rack) le
  where
    not_below : (a b : ℕ) → b ≤ a → nat_lt a b ≡ false
    not_below a b le = grind (arith, nat_tests)

-- WHAT IS ASKED OF THE GROUPS OF A SESSION

abbrev Clean : List Entry → Type 0
Clean log = All (λ e. IsTrue (is_clean e)) log

abbrev HasRoom : List Entry → Type 0
HasRoom log = length log < log_bound

module _ (earlier : List ℕ) (c : ClosedSession) (u : IsUndisturbed earlier c) where
  named_here : (n : ℕ) → Contains (named_of c (all_of c)) n → Contains (first_archives c) n
  named_here n h = subst (λ ts. Contains (flat_map archives_in ts) n) (ones_of c).are_read h

  came_here : (n : ℕ) → Contains (came_of c (all_of c)) n → Contains (new_archives c) n
  came_here n h = subst (λ ls. Contains (came_by ls) n) (ones_of c).are_logs h

  pub all_back : (n : ℕ) → Contains (named_of c (all_of c)) n ⊎ Contains (came_of c (all_of c)) n → times n c.missing ≡ 0
  all_back n (inl h) = u.back n (Contains-append_left (first_archives c) (new_archives c) n (named_here n h))
  all_back n (inr h) = u.back n (Contains-append_right (first_archives c) (new_archives c) n (came_here n h))

  pub asks : (used : ℕ → Bool) → IsUnused used c.first.rack earlier → Asks c used (named_of c (all_of c)) (came_of c (all_of c))
  asks used unused = record {
    back_named = λ n h. all_back n (inl h);
    steady = λ n h. u.steady n (named_here n h);
    empty = λ n h. u.empty n (came_here n h);
    unused = λ n h. (let x = u.unused n (came_here n h) in unused n x.0 x.1);
    apart = subst (λ ls. (n : ℕ) → times n (came_by ls) ≤ 1) (sym (ones_of c).are_logs) (back_apart (first_archives c) (new_archives c) c.apart.had);
  }

  pub went : (used : ℕ → Bool) → IsUnused used c.first.rack earlier → AllWentWell used (pasts_of c (all_of c))
  went used unused =
      all_went c (all_of c) used (subst (λ ls. All Clean ls) (sym (ones_of c).are_logs) u.clean) (subst (λ ls. All HasRoom ls) (sym (ones_of c).are_logs) u.has_room) (asks used unused)

  -- and then archives that came nowhere still have no use
  pub still_unused : (used : ℕ → Bool) → IsUnused used c.first.rack earlier → IsUnused (used_since (pasts_of c (all_of c)) used) c.first.rack (earlier ++ new_archives c)
  still_unused used unused n le none =
      since c (all_of c) used n (unused n le (λ h. none (Contains-append_left earlier (new_archives c) n h))) (λ h. none (Contains-append_right earlier (new_archives c) n (came_here n h)))

-- each table of a session has its columns
pub columns_of : (c : ClosedSession) (g : ℕ) (t : Table) → slice_get (reads c (all_of c)) g ≡ Some t → HasColumns t
columns_of c g t e =
    let rules : FitsTable c.first.rack t = all_at_place (FitsTable c.first.rack) c.first.tables g t c.fits.tables.fits (subst (λ ts. slice_get ts g ≡ Some t) (ones_of c).are_read e) in
    rules.rules.size.columns

-- THE FIRST SESSION

all_new : (c : ClosedSession) (rack : Rack) (n more : ℕ) (os : List (One c)) → reads c os ≡ map (empty_table rack) (range_with_len n more) → ((m : ℕ) → Contains (named_of c os) m → IsArchiveEmpty (c.room.before.means m))
    → AreNewGroups rack n more (pasts_of c os)
all_new c rack n zero [] are empty = tt
all_new c rack n zero (o ∷ os) are empty = absurd (cc are)
all_new c rack n (suc more) [] are empty = absurd (cc are)
all_new c rack n (suc more) (o ∷ os) are empty = (
  record {
    first = o.left.first ∙ (let h : o.read ≡ empty_table rack n = cc are in h);
    empty = λ m h.
        empty_then c o m (Contains-append_left (archives_in o.left.view.first) (arrivals o.left.view.log) m h)
        (empty m (Contains-append_left (archives_in o.read) (named_of c os) m (subst (λ (t : Table). Contains (archives_in t) m) o.left.first h)));
  },
  all_new c rack (suc n) more os
      (let h : reads c os ≡ map (empty_table rack) (range_with_len (n + 1) more) = cc are in
      let next : n + 1 ≡ suc n = omega arith in
      subst (λ k. reads c os ≡ map (empty_table rack) (range_with_len k more)) next h)
      (λ m h. empty m (Contains-append_right (archives_in o.read) (named_of c os) m h)),
)

new_first : (c : ClosedSession) → IsFirstSession c → AreNewGroups c.first.rack 0 c.first.rack.groups (pasts_of c (all_of c))
new_first c first =
    all_new c c.first.rack 0 c.first.rack.groups (all_of c) ((ones_of c).are_read ∙ first.tables)
    (λ m h. first.empty m (subst (λ ts. Contains (flat_map archives_in ts) m) (ones_of c).are_read h))

-- WHAT A SESSION COMES TO

-- groups of a world that simulate those that a session left
pub record IsReached (rack : Rack) (earlier : List ℕ) (c : ClosedSession) (x : Site) : Type 0 where
  pub simulates : SimulateNew x.used x.groups (all_ran (pasts_of c (all_of c)))
  pub unused : IsUnused x.used rack earlier
  pub same_rack : c.first.rack ≡ rack
  pub back : (n : ℕ) → Contains (named_of c (all_of c)) n ⊎ Contains (came_of c (all_of c)) n → times n c.missing ≡ 0

-- moves to such groups
pub record GoesTo (rack : Rack) (earlier : List ℕ) (c : ClosedSession) (from : Site) : Type 0 where
  pub moves : List Move
  pub to : Site
  pub go : Reaches from moves to
  pub reached : IsReached rack earlier c to

pub first_reach : (c : ClosedSession) → IsFirstSession c → IsUndisturbed [] c → GoesTo c.first.rack (new_archives c) c (first_site c.first.rack)
first_reach c first u =
    let rack = c.first.rack in
    let r = first_session rack (pasts_of c (all_of c)) c.fits.rack (new_first c first) (went [] c u (first_used rack) (first_unused rack)) in
    record {
      moves = r.0;
      to = r.1;
      go = r.2;
      reached = record {
        simulates = r.4;
        unused = subst (λ v. IsUnused v rack (new_archives c)) (sym r.3) (still_unused [] c u (first_used rack) (first_unused rack));
        same_rack = refl;
        back = all_back [] c u;
      };
    }

pub next_reach : (rack : Rack) (earlier : List ℕ) (c d : ClosedSession) (x : Site) → IsReached rack earlier c x → Succeeds c d → IsUndisturbed earlier d
    → GoesTo rack (earlier ++ new_archives d) d (reopened_site x)
next_reach rack earlier c d x reached goes u =
    let rack_is : d.first.rack ≡ rack = goes.begins.rack ∙ c.leaves.rack ∙ reached.same_rack in
    let unused : IsUnused x.used d.first.rack earlier = subst (λ r. IsUnused x.used r earlier) (sym rack_is) reached.unused in
    let well = went earlier d u x.used unused in
    let same : reads d (all_of d) ≡ writtens c (all_of c) = (ones_of d).are_read ∙ goes.begins.tables ∙ sym (ones_of c).are_written in
    let begun = all_begun c d (all_of c) (all_of d) same (columns_of c) reached.back (λ n h. goes.kept n (named_here earlier d u n h)) in
    let r = go_all x.used x.groups (pasts_of c (all_of c)) (pasts_of d (all_of d)) reached.simulates begun (all_well x.used (pasts_of d (all_of d)) well) in
    let used_is = all_used x.used (pasts_of d (all_of d)) well in
    record {
      moves = makes r.0;
      to = site (used_by_each (all_ran (pasts_of d (all_of d))) x.used) r.1;
      go = r.2;
      reached = record {
        simulates = r.3;
        unused = subst (λ v. IsUnused v rack (earlier ++ new_archives d)) (sym used_is) (subst (λ k. IsUnused (used_since (pasts_of d (all_of d)) x.used) k (earlier ++ new_archives d)) rack_is (still_unused earlier d u x.used unused));
        same_rack = rack_is;
        back = all_back earlier d u;
      };
    }

-- WHAT THEY COME TO

-- the group that one of the world simulates
matched : (c : ClosedSession) (os : List (One c)) (used : ℕ → Bool) (gs : List WorldGroup) (g : ℕ) (h : WorldGroup) → SimulateNew used gs (all_ran (pasts_of c os)) → slice_get gs g ≡ Some h
    → (o : One c) × Simulates used h (state_of o.left.view) × (slice_get (reads c os) g ≡ Some o.read) × (slice_get (logs c os) g ≡ Some o.log) × (slice_get (writtens c os) g ≡ Some o.written)
matched c [] used [] g h f e = absurd (cc)
matched c (o ∷ os) used [] g h f e = absurd f
matched c [] used (x ∷ gs) g h f e = absurd f
matched c (o ∷ os) used (x ∷ gs) zero h f e = (o, subst (λ y. Simulates used y (state_of o.left.view)) (same_Some x h e) f.0, refl, refl, refl)
matched c (o ∷ os) used (x ∷ gs) (suc g) h f e = matched c os used gs g h f.1 e

as_many : (c : ClosedSession) (os : List (One c)) (used : ℕ → Bool) (gs : List WorldGroup) → SimulateNew used gs (all_ran (pasts_of c os)) → length gs ≡ length (reads c os)
as_many c [] used [] f = refl
as_many c (o ∷ os) used [] f = absurd f
as_many c [] used (x ∷ gs) f = absurd f
as_many c (o ∷ os) used (x ∷ gs) f = ap suc (as_many c os used gs f.1)

each_good : (c : ClosedSession) (os : List (One c)) (used : ℕ → Bool) (gs : List WorldGroup) → SimulateNew used gs (all_ran (pasts_of c os)) → EachGroup (IsGood used) gs
unfolding EachGroup
each_good c [] used [] f = tt
each_good c (o ∷ os) used [] f = absurd f
each_good c [] used (x ∷ gs) f = absurd f
each_good c (o ∷ os) used (x ∷ gs) f = (f.0.good, each_good c os used gs f.1)

-- so it is what the session left
module _ (rack : Rack) (earlier : List ℕ) (c : ClosedSession) (x : Site) (r : IsReached rack earlier c x) (g : ℕ) (read written : Table) (log : List Entry) (h : WorldGroup)
    (of : IsGroupOf c g read written log) (there : slice_get x.groups g ≡ Some h) where
  pub found : (o : One c) × Simulates x.used h (state_of o.left.view) × (o.read ≡ read) × (o.log ≡ log) × (o.written ≡ written)
  found =
      let m = matched c (all_of c) x.used x.groups g h r.simulates there in (
        m.0,
        m.1,
        same_Some m.0.read read (sym m.2 ∙ ap (λ ts. slice_get ts g) (ones_of c).are_read ∙ of.was),
        same_Some m.0.log log (sym m.3 ∙ ap (λ ls. slice_get ls g) (ones_of c).are_logs ∙ of.logged),
        same_Some m.0.written written (sym m.4 ∙ ap (λ ts. slice_get ts g) (ones_of c).are_written ∙ of.is),
      )

  is_back : (n : ℕ) → Contains (had_with read log) n → times n c.missing ≡ 0
  is_back n has =
      r.back n (elim (Contains-append_cases (archives_in read) (arrivals log) n has) [
        | inl a ↦ inl (flat_contains archives_in (reads c (all_of c)) g read n (ap (λ ts. slice_get ts g) (ones_of c).are_read ∙ of.was) a)
        | inr a ↦ inr (flat_contains arrivals (logs c (all_of c)) g log n (ap (λ ls. slice_get ls g) (ones_of c).are_logs ∙ of.logged) a)
      ])

  here : (n : ℕ) → Contains (had_with read log) n → Contains (had_by found.0.left.view) n
  here n has =
      had_here c found.0 n (subst (λ l. Contains (archives_in found.0.read ++ arrivals l) n) (sym found.3) (subst (λ (t : Table). Contains (archives_in t ++ arrivals log) n) (sym found.2) has))

  pub as_left : IsAsLeft c read written log h
  as_left =
      let o = found.0 in
      let same = found.1.same in
      record {
        leads = subst (λ (t : Table). Replays read log t) (sym same.table)
            (subst (λ l. Replays read l o.left.view.table) (o.left.is_log ∙ found.3) (subst (λ (t : Table). Replays t o.left.view.log o.left.view.table) (o.left.first ∙ found.2) o.left.settled.replay));
        is = sym found.4 ∙ o.left.is ∙ ap still (sym same.table);
        held = λ n slot has. same.held n slot ∙ (shown c o n (here n has) (is_back n has)).blocks slot;
        heard = λ n has. same.heard n ∙ (shown c o n (here n has) (is_back n has)).sums;
      }

pub all_left : (rack : Rack) (earlier : List ℕ) (c : ClosedSession) (x : Site) → IsReached rack earlier c x → AreAsLeft c x
all_left rack earlier c x r = record {
  count = as_many c (all_of c) x.used x.groups r.simulates ∙ ap length (ones_of c).are_read ∙ c.fits.tables.count;
  each = λ g read written log h of there. as_left rack earlier c x r g read written log h of there;
}

-- SESSION AFTER SESSION

-- sessions of a world that come to the groups of the last session
pub record ReachesLast (rack : Rack) (c : ClosedSession) (more : List ClosedSession) (x : Site) : Type 0 where
  pub sessions : List (List Move)
  pub many : length sessions ≡ length more
  pub to : Site
  pub run : Sessions x sessions to
  pub along : AllAsLeft more x sessions to run
  pub earlier : List ℕ
  pub reached : IsReached rack earlier (last_session c more) to

on : (rack : Rack) (earlier : List ℕ) (c : ClosedSession) (more : List ClosedSession) (x : Site) → IsReached rack (earlier ++ new_archives c) c x → AllSucceed earlier c more → ReachesLast rack c more x
on rack earlier c [] x reached go = record { sessions = []; many = refl; to = x; run = refl; along = tt; earlier = earlier ++ new_archives c; reached = reached }
on rack earlier c (d ∷ more) x reached go =
    let one = next_reach rack (earlier ++ new_archives c) c d x reached go.0 go.1 in
    let rest = on rack (earlier ++ new_archives c) d more one.to one.reached go.2 in
    record {
      sessions = one.moves ∷ rest.sessions;
      many = ap suc rest.many;
      to = rest.to;
      run = (one.to, one.go, rest.run);
      along = (all_left rack ((earlier ++ new_archives c) ++ new_archives d) d one.to one.reached, rest.along);
      earlier = rest.earlier;
      reached = rest.reached;
    }

-- THE WHOLE

pub record Reached (c : ClosedSession) (more : List ClosedSession) : Type 0 where
  pub world : IsInWorld c more
  pub earlier : List ℕ
  pub reached : IsReached c.first.rack earlier (last_session c more) world.site
  pub last : AreAsLeft (last_session c more) world.site

pub reaches : (c : ClosedSession) (more : List ClosedSession) → AreInARow c more → Reached c more
reaches c more chain =
    let rack = c.first.rack in
    let one = first_reach c chain.is_first chain.undisturbed in
    let rest = on rack [] c more one.to one.reached chain.go_on in
    record {
      world = record {
        sessions = one.moves ∷ rest.sessions;
        many = ap suc rest.many;
        site = rest.to;
        run = (one.to, subst (λ (s : Site). Reaches s one.moves one.to) (sym (first_reopened rack)) one.go, rest.run);
        good = each_good (last_session c more) (all_of (last_session c more)) rest.to.used rest.to.groups rest.reached.simulates;
        as_left = (all_left rack (new_archives c) c one.to one.reached, rest.along);
      };
      earlier = rest.earlier;
      reached = rest.reached;
      last = all_left rack rest.earlier (last_session c more) rest.to rest.reached;
    }

pub runs_reach : RunsReach
runs_reach c more chain = (reaches c more chain).world
