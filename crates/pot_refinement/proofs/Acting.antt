-- What a group of the world that goes along with a running group does at one call.
use Rattle.std.proofs.Common.{◌≡◌, ℕ, ◌<◌, List, [], ◌∷◌, ◌++◌, Bool, refl, sym, ap, ◌∙◌, subst, arith, map}
use Rattle.pot_machine.specs.declared.entry.Entry.{Entry}
use Rattle.pot_machine.specs.declared.entry.Entry.TheVariants as entry
use Rattle.pot_machine.specs.Table.{Table, width}
use Rattle.pot_machine.specs.Machine.{after}
use Rattle.pot_steps.specs.declared.flight.Flight.{Flight}
use Rattle.pot_steps.specs.Stripe.{Sound}
use Rattle.pot_steps.specs.Holdings.{Holdings, stripe_of}
use Rattle.pot_steps.specs.GroupStep.{GroupState, LosesBlocks, LookStep, Gone}
use Rattle.pot_execution.specs.Execution as call
use Rattle.pot_world.specs.Group.{WorldGroup}
use Rattle.pot_world.specs.Acts.{Act, Lose, Look, act, used_by, IsAllowed}
use Rattle.pot_world.specs.Reached.{IsGood}
use Rattle.pot_world.specs.Ties.{IsTied, Matches, lose_all, losses_to, losses_told, stepped}
use Rattle.pot_world.proofs.Clearing.{lose_all-is, clears_to}
use Rattle.pot_world.proofs.Inside.{Bounds, InsideOf, Inside, act_inside, bounds_on, raises}
use Rattle.pot_world.proofs.OneEntry.{within_of}
use Rattle.pot_world.proofs.Reaching.{both_act}
use Rattle.pot_world.proofs.Remaining.{act_sizes}
use Rattle.pot_world.proofs.Tying.{look_tied}
use Rattle.pot_refinement.specs.Refinement.{Simulates, ActsInTurn, ActsTo}

-- WHAT ACTS KEEP

-- a group keeps its rules, its archives in use have a bound, and hold what they hold inside
record Stays (used : ℕ → Bool) (numbers : ℕ) (g : WorldGroup) : Type 0 where
  pub good : IsGood used g
  pub bound : Bounds used numbers
  pub inside : InsideOf g

stays_on : (used : ℕ → Bool) (numbers : ℕ) (g : WorldGroup) (a : Act) → IsAllowed used a g → Stays used numbers g → Stays (used_by a used) (raises a numbers) (act a g)
stays_on used numbers g a is h = record {
  good = both_act used a g is h.good;
  bound = bounds_on a used numbers h.bound;
  inside = subst (λ m. Inside m (act a g).state.held) (sym (act_sizes a g).0) (act_inside a g h.good.0 h.inside);
}

stays_lost : (used : ℕ → Bool) (numbers : ℕ) (xs : List (ℕ × ℕ)) (g : WorldGroup) → Stays used numbers g → Stays used numbers (lose_all xs g)
stays_lost used numbers [] g h = h
stays_lost used numbers (x ∷ xs) g h =
    let one = stays_on used numbers g (Lose x.0 x.1) tt h in
    stays_lost used numbers xs (act (Lose x.0 x.1) g) (record { good = one.good; bound = h.bound; inside = one.inside })

-- acts that lose
losing : List (ℕ × ℕ) → List Act
losing xs = map (λ x. Lose x.0 x.1) xs

acts_lose : (used : ℕ → Bool) (xs : List (ℕ × ℕ)) (g : WorldGroup) (acts : List Act) (after : ℕ → Bool) (h : WorldGroup) → ActsInTurn used (lose_all xs g) acts after h → ActsInTurn used g (losing xs ++ acts) after h
unfolding losing
acts_lose used [] g acts after h go = go
acts_lose used (x ∷ xs) g acts after h go = (tt, acts_lose used xs (act (Lose x.0 x.1) g) acts after h go)

-- acts behind acts
pub acts_join : (used mid after : ℕ → Bool) (g h k : WorldGroup) (first more : List Act) → ActsInTurn used g first mid h → ActsInTurn mid h more after k → ActsInTurn used g (first ++ more) after k
acts_join used mid after g h k [] more go on = subst (λ x. ActsInTurn used x more after k) go.1 (subst (λ u. ActsInTurn u h more after k) go.0 on)
acts_join used mid after g h k (a ∷ first) more go on = (go.0, acts_join (used_by a used) mid after (act a g) h k first more go.1 on)

-- ONE CALL

pub matches : (used : ℕ → Bool) (g : WorldGroup) (s : GroupState) (f : Simulates used g s) → Matches used f.numbers g s
matches used g s f = record { world = record { kept = f.good.0; stocked = f.good.1; bound = f.bound; inside = f.inside }; same = f.same }

-- a call that is tied to an act
pub by_tie : (used : ℕ → Bool) (entries : List Entry) (a : Act) (g : WorldGroup) (old new : GroupState) (f : Simulates used g old) → IsTied used f.numbers entries a g old new → ActsTo used g (used_by a used) new
by_tie used entries a g old new f tied =
    let told = losses_told old.table entries in
    let after = stepped entries a old g in
    let lost = losses_to f.numbers old.table.stripes after.state.held new.held in
    let here = stays_lost used f.numbers told g (record { good = f.good; bound = f.bound; inside = f.inside }) in
    let there = stays_lost (used_by a used) (raises a f.numbers) lost after (stays_on used f.numbers (lose_all told g) a tied.allowed here) in
    record {
      acts = losing told ++ a ∷ (losing lost ++ []);
      group = lose_all lost after;
      go = acts_lose used told g (a ∷ (losing lost ++ [])) (used_by a used) (lose_all lost after)
          (tied.allowed, acts_lose (used_by a used) lost after [] (used_by a used) (lose_all lost after) (refl, refl));
      follows = record { good = there.good; numbers = raises a f.numbers; bound = there.bound; inside = there.inside; same = tied.same };
    }

-- a call in which blocks are lost, and nothing else changes but the log
pub by_losses : (used : ℕ → Bool) (g : WorldGroup) (old new : GroupState) → Simulates used g old → new.table ≡ old.table → new.flights ≡ old.flights → ((n : ℕ) → new.heard n ≡ old.heard n)
    → LosesBlocks old.held new.held → ActsTo used g used new
by_losses used g old new f table flights heard loses =
    let m = matches used g old f in
    let lost = losses_to f.numbers old.table.stripes g.state.held new.held in
    let all = lose_all-is lost g in
    let there = stays_lost used f.numbers lost g (record { good = f.good; bound = f.bound; inside = f.inside }) in
    record {
      acts = losing lost ++ [];
      group = lose_all lost g;
      go = acts_lose used lost g [] used (lose_all lost g) (refl, refl);
      follows = record {
        good = there.good;
        numbers = f.numbers;
        bound = there.bound;
        inside = there.inside;
        same = record {
          table = ap (λ y. y.state.table) all ∙ f.same.table ∙ sym table;
          flights = ap (λ y. y.state.flights) all ∙ f.same.flights ∙ sym flights;
          held = λ n k. ap (λ y. y.state.held n k) all
              ∙ clears_to f.numbers old.table.stripes g.state.held new.held (λ a b c e. (within_of used f.numbers g old m).holds a b c (sym (f.same.held a b) ∙ e)) (λ a b c e. f.same.held a b ∙ loses a b c e) n k;
          heard = λ n. ap (λ y. y.state.heard n) all ∙ f.same.heard n ∙ sym (heard n);
        };
      };
    }

-- a look at a slot of which the block is gone
pub looks_gone : (used : ℕ → Bool) (g : WorldGroup) (s c : ℕ) (t : Table) (held : Holdings) (heard : ℕ → List (ℕ × List ℕ)) (flights : List Flight)
    → Simulates used g (record { table = t; log = []; held = held; heard = heard; flights = flights }) → s < t.stripes → c < width t → (Sound (stripe_of t held s) c → ⊥)
    → ActsTo used g used (record { table = after t (entry.Gone 0 s c); log = []; held = held; heard = heard; flights = flights })
looks_gone used g s c t held heard flights f ls lc missing =
    let old : GroupState = record { table = t; log = []; held = held; heard = heard; flights = flights } in
    let new : GroupState = record { table = after t (entry.Gone 0 s c); log = entry.Gone 0 s c ∷ []; held = held; heard = heard; flights = flights } in
    let step : LookStep 0 s c Gone old new = record {
      logs = record { log = refl; room = omega arith; flights = refl; heard = λ n. refl };
      replay = ((ls, lc), refl);
      loses = λ n k b e. e;
      means = missing;
    } in
    let one : ActsTo used g used new = by_tie used _ (Look 0 s c) g old new f (look_tied used f.numbers 0 s c Gone g old new (matches used g old f) ls lc tt step) in
    record {
      acts = one.acts;
      group = one.group;
      go = one.go;
      follows = record {
        good = one.follows.good;
        numbers = one.follows.numbers;
        bound = one.follows.bound;
        inside = one.follows.inside;
        same = record { table = one.follows.same.table; flights = one.follows.same.flights; held = one.follows.same.held; heard = one.follows.same.heard };
      };
    }
