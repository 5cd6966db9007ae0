-- The first session of a rack, and what a next one begins with.
use Rattle.std.proofs.Common.{◌≡◌, ℕ, zero, suc, ◌+◌, ◌*◌, List, [], ◌∷◌, None, inl, inr, Bool, refl, sym, ap, ◌∙◌, subst}
use Rattle.std.specs.Prelude.{Contains}
use Rattle.pot_bytes.specs.declared.rack.Rack.{Rack}
use Rattle.pot_bytes.specs.Rack.{IsRack}
use Rattle.pot_machine.specs.Table.{Table, archives_in}
use Rattle.pot_execution.proofs.Came.{among}
use Rattle.pot_world.specs.Reached.{first_groups, first_site, first_used, EachGroup, IsGood, Reaches}
use Rattle.pot_world.proofs.Inside.{Bounds, InsideOf, first_bounded}
use Rattle.pot_world.proofs.Reaching.{reached_keeps}
use Rattle.pot_world.proofs.Later.{good_anew, held_anew, of_listed, of_unlisted}
use Rattle.pot_refinement.specs.Refinement.{Ran, SimulateOld, AreEmpty, SessionReaches, ReopenedSimulates}
use Rattle.pot_refinement.proofs.Executions.{executions_reach}

-- THE FIRST SESSION

follow_first : (rack : Rack) (used : ℕ → Bool) (numbers n more : ℕ) (rs : List Ran) → Bounds used numbers → EachGroup (IsGood used) (first_groups rack n more) → EachGroup InsideOf (first_groups rack n more)
    → AreEmpty rack n more rs → SimulateOld used (first_groups rack n more) rs
unfolding first_groups EachGroup
follow_first rack used numbers n zero [] bound good inside e = tt
follow_first rack used numbers n zero (r ∷ rs) bound good inside e = absurd e
follow_first rack used numbers n (suc more) [] bound good inside e = absurd e
follow_first rack used numbers n (suc more) (r ∷ rs) bound good inside e =
    (record { good = good.0; numbers = numbers; bound = bound; inside = inside.0; same = e.0 }, follow_first rack used numbers (suc n) more rs bound good.1 inside.1 e.1)

all_good : (rack : Rack) → IsRack rack → EachGroup (IsGood (first_used rack)) (first_groups rack 0 rack.groups)
unfolding Reaches
all_good rack fits = reached_keeps rack [] (first_site rack) fits refl

pub session_reaches : SessionReaches
session_reaches rack ran fits empty each =
    let b = first_bounded rack in
    executions_reach (first_site rack) ran (follow_first rack (first_used rack) b.0 0 rack.groups ran b.1 (all_good rack fits) b.2 empty) each

-- THE NEXT ONE

pub reopened_simulates : ReopenedSimulates
reopened_simulates used g end start f anew = record {
  good = good_anew used g f.good;
  numbers = f.numbers;
  bound = f.bound;
  inside = λ n k b h. f.inside n k b (held_anew g n k b h);
  same = record {
    table = ap {A = Table} (λ t. record t { relays = [] }) f.same.table ∙ sym anew.table;
    flights = sym anew.flights;
    held = λ n k. elim (among (archives_in start.table) n) [
      | inl h ↦ of_listed g.state.table None (λ m. g.state.held m k) n (here n h) ∙ f.same.held n k ∙ sym (anew.held n k h)
      | inr absent ↦ of_unlisted g.state.table None (λ m. g.state.held m k) n (λ h. absent (there n h)) ∙ sym (anew.none n k absent)
    ];
    heard = λ n. elim (among (archives_in start.table) n) [
      | inl h ↦ of_listed g.state.table [] g.state.heard n (here n h) ∙ f.same.heard n ∙ sym (anew.heard n h)
      | inr absent ↦ of_unlisted g.state.table [] g.state.heard n (λ h. absent (there n h)) ∙ sym (anew.silent n absent)
    ];
  };
}
  where
    archives : archives_in start.table ≡ archives_in g.state.table
    archives = ap {A = Table} archives_in anew.table ∙ sym (ap {A = Table} archives_in f.same.table)

    here : (n : ℕ) → Contains (archives_in start.table) n → Contains (archives_in g.state.table) n
    here n h = subst (λ ns. Contains ns n) archives h

    there : (n : ℕ) → Contains (archives_in g.state.table) n → Contains (archives_in start.table) n
    there n h = subst (λ ns. Contains ns n) (sym archives) h
