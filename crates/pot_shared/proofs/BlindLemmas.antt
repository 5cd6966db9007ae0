-- Where the blinds of a job's relays come from, part after part.
use Rattle.std.proofs.Common.{◌≡◌, ◌≢◌, ◌≤◌, ◌+◌, ⊎_elim, inl, inr, ℕ, Bool, true, false, List, [], ◌∷◌, ◌++◌, refl, ap, ap₂, sym, ◌∙◌, subst, arith}
use Rattle.std.specs.Prelude.{filter}
use Rattle.std.proofs.lemmas.Bool.{cases_eq}
use Rattle.std.proofs.lemmas.Bool.Decides.{eqb_tells}
use lib.Seq.{drop-length}
use Rattle.pot_bytes.specs.declared.rack.Place.{Place}
use Rattle.pot_bytes.specs.declared.rack.Rack.{Rack}
use Rattle.pot_machine.specs.declared.entry.Entry.{Entry}
use Rattle.pot_machine.specs.Logs.{own}
use Rattle.pot_pads.specs.Pads.{Pads}
use Rattle.pot_turn.specs.declared.name.TurnName.{TurnName}
use Rattle.pot_worked.specs.WroteOnlyFor.{added}
use Rattle.pot_rows.specs.Rows.{view_at}
use Rattle.pot_rows.specs.Works.{AllIdle}
use Rattle.pot_rows.proofs.RowLemmas.{at_other}
use Rattle.pot_rows.proofs.WorkLemmas.{row_work_in_parts, row_alone_in_parts}
use Rattle.pot_shared.specs.declared.mending.Mending.{Mending}
use Rattle.pot_shared.specs.MendCalls.{MendsPlace, begins, total}
use Rattle.pot_shared.specs.Ready.{AreReady, GroupPass, GroupPasses}
use Rattle.pot_shared.specs.Seen.{RowKnowsMore}
use Rattle.pot_shared.specs.Adds.{Adds}
use Rattle.pot_shared.specs.Blinds.{BeganNone, Blinds, behind, blinds_for, is_begin}
use Rattle.pot_shared.specs.Works.{OnlySaw, blinds_by, blinds_in, gained, of_job}
use Rattle.pot_shared.proofs.DrawLemmas.{behind_append, behind_draws, by_more, by_none, draws_of, dropped_append, dropped_draws, for_append, for_group, for_other}
use Rattle.pot_shared.proofs.WorkLemmas.{known_none, known_work, own_more, saw_none}

-- NO RELAY BEGAN

none_at : (b : Bool) (x : Entry) (xs zs : List Entry) → is_begin x ≡ b → filter is_begin (x ∷ xs) ≡ [] → (filter is_begin xs ≡ [] → filter is_begin zs ≡ []) → filter is_begin (x ∷ zs) ≡ []
none_at true x xs zs is p more =
    let first : filter is_begin (x ∷ xs) ≡ x ∷ filter is_begin xs = rw is refl in
    let none : x ∷ filter is_begin xs ≡ [] = sym first ∙ p in
    absurd (cc none)
none_at false x xs zs is p more =
    let first : filter is_begin (x ∷ xs) ≡ filter is_begin xs = rw is refl in
    let then : filter is_begin (x ∷ zs) ≡ filter is_begin zs = rw is refl in
    then ∙ more (sym first ∙ p)

pub none_of_two : (xs ys : List Entry) → filter is_begin xs ≡ [] → filter is_begin ys ≡ [] → filter is_begin (xs ++ ys) ≡ []
none_of_two [] ys p q = q
none_of_two (x ∷ xs) ys p q = none_at (is_begin x) x xs (xs ++ ys) refl p (λ rest. none_of_two xs ys rest q)

-- the passes only saw more
pub none_saw : (job : ℕ) (old new : GroupPasses) → OnlySaw old new → BeganNone job old new
none_saw job old new saw = record { worked = saw.worked job; none = λ alone g. ap (λ es. filter is_begin es) (saw.none job alone g) }

-- nothing was done
pub none_yet : (job : ℕ) (row : GroupPasses) → AllIdle row → BeganNone job row row
none_yet job row idle = none_saw job row row (saw_none row idle)

-- one behind the other
pub none_more : (job : ℕ) (u v w : GroupPasses) → BeganNone job u v → BeganNone job v w → BeganNone job u w
none_more job u v w one two = record {
  worked = row_work_in_parts (of_job job) u v w one.worked two.worked;
  none = λ alone g. (
      let parts = row_alone_in_parts (of_job job) u v w one.worked two.worked alone in
      ap (λ es. filter is_begin es) (own_more job u v w one.worked two.worked g)
      ∙ none_of_two (own job (gained u v g)) (own job (gained v w g)) (one.none parts.0 g) (two.none parts.1 g));
}

-- entries of one group, of which none is a Begin
pub none_adds : (job group : ℕ) (entries : List Entry) (old new : GroupPasses) → filter is_begin entries ≡ [] → Adds job group entries old new → BeganNone job old new
none_adds job group entries old new none adds = record {
  worked = adds.worked;
  none = λ alone g. ⊎_elim
      (λ (e : g ≡ group). subst (λ n. filter is_begin (own job (gained old new n)) ≡ []) (sym e) (ap (λ es. filter is_begin es) (adds.own_is alone) ∙ none))
      (λ (ne : g ≢ group). ap (λ es. filter is_begin es) (adds.none_else alone g ne))
      (cases_eq g group);
}

-- the passes know more, and nothing was logged
pub none_known : (job : ℕ) (rack : Rack) (names : List TurnName) (old new : GroupPasses) → AreReady rack names old → RowKnowsMore old new → BeganNone job old new
none_known job rack names old new ready knows = record {
  worked = known_work job rack names old new ready knows;
  none = λ alone g. ap (λ es. filter is_begin es) (known_none job rack names old new ready knows alone g);
}

-- BLINDS

module _ {job : ℕ} where
  pub blinds_quiet : {most : ℕ} {pads : Pads} {old new : GroupPasses} → BeganNone job old new → Blinds job most pads pads old new
  blinds_quiet {most} {pads} {old} {new} quiet = record { worked = quiet.worked; draws = []; few = omega arith; stream = refl; blinds = λ alone g. by_none job old new g (quiet.none alone g) }

  -- nothing was done
  pub blinds_none : {most : ℕ} {pads : Pads} {row : GroupPasses} → AllIdle row → Blinds job most pads pads row row
  blinds_none {most} {pads} {row} idle = blinds_quiet (none_yet job row idle)

  -- one was dropped at the place
  pub blinds_mends : {told : Type 0} {p : Place} {pads after : Pads} {result : Mending} {old new : GroupPasses} → MendsPlace told job p pads after result old new → Blinds job 1 pads after old new
  blinds_mends {told} {p} {pads} {after} {result} {old} {new} mends = record {
    worked = mends.worked;
    draws = draws_of p.group n;
    few = (let one = dropped_draws p.group n in omega (arith, one));
    stream = mends.stream ∙ sym (behind_draws p.group pads n);
    blinds = (λ alone g. elim (eqb_tells p.group g) [
      | inl here ↦ subst (λ k. blinds_by job old new k ≡ blinds_for k pads (draws_of p.group n)) here.1 (mends.blinds alone ∙ sym (for_group p.group pads n))
      | inr other ↦ (ap (λ (v : GroupPass). blinds_in (filter (of_job job) (added (view_at old g) v))) (ap (λ (r : GroupPasses). view_at r g) mends.is ∙ at_other old p.group g mends.pass other.1)
          ∙ ap (λ ls. blinds_in (filter (of_job job) ls)) (drop-length (view_at old g).seen)) ∙ sym (for_other p.group g pads n other.0)
    ]);
  }
    where
      n : ℕ
      n = total begins mends.before

  -- one behind the other
  pub blinds_then : {n m most : ℕ} {a b c : Pads} {u v w : GroupPasses} → Blinds job n a b u v → Blinds job m b c v w → n + m ≤ most → Blinds job most a c u w
  blinds_then {n} {m} {most} {a} {b} {c} {u} {v} {w} one two both = record {
    worked = row_work_in_parts (of_job job) u v w one.worked two.worked;
    draws = one.draws ++ two.draws;
    few = (let all = dropped_append one.draws two.draws in let x = one.few in let y = two.few in omega (arith, all, x, y, both));
    stream = two.stream ∙ (ap (λ p. behind p two.draws) one.stream ∙ sym (behind_append a one.draws two.draws));
    blinds = λ alone g. (
        let parts = row_alone_in_parts (of_job job) u v w one.worked two.worked alone in
        by_more job u v w one.worked two.worked g
        ∙ (ap₂ (λ (xs ys : List (List ℕ)). xs ++ ys) (one.blinds parts.0 g) (two.blinds parts.1 g ∙ ap (λ p. blinds_for g p two.draws) one.stream)
        ∙ sym (for_append g a one.draws two.draws)));
  }

  -- behind or before what began no relay
  pub quiet_then : {most : ℕ} {a b : Pads} {u v w : GroupPasses} → BeganNone job u v → Blinds job most a b v w → Blinds job most a b u w
  quiet_then {most} {a} {b} {u} {v} {w} quiet more = blinds_then {n = 0} {m = most} (blinds_quiet quiet) more (omega arith)

  pub then_quiet : {most : ℕ} {a b : Pads} {u v w : GroupPasses} → Blinds job most a b u v → BeganNone job v w → Blinds job most a b u w
  then_quiet {most} {a} {b} {u} {v} {w} more quiet = blinds_then {n = most} {m = 0} more (blinds_quiet quiet) (omega arith)

  -- there may be more
  pub blinds_fewer : {few most : ℕ} {a b : Pads} {u v : GroupPasses} → Blinds job few a b u v → few ≤ most → Blinds job most a b u v
  blinds_fewer {few} {most} {a} {b} {u} {v} blinds le = record {
    worked = blinds.worked;
    draws = blinds.draws;
    few = (let x = blinds.few in omega (arith, x, le));
    stream = blinds.stream;
    blinds = blinds.blinds;
  }
