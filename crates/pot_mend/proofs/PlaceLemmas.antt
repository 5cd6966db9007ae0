-- The repair of one place, step by step.
use Rattle.std.proofs.Common.{◌≡◌, ◌<◌, ◌≤◌, inl, inr, ⊎_elim, ℕ, zero, suc, ◌+◌, true, List, [], ◌∷◌, ◌++◌, length, refl, ap, sym, ◌∙◌, subst, arith, append-nil}
use Rattle.std.specs.Prelude.{All, filter, Ok, Err}
use Rattle.std.proofs.lemmas.List.Elements.{Contains-append_right}
use Rattle.pot_bytes.specs.declared.digest.Digest.{Digest}
use Rattle.pot_bytes.specs.declared.rack.Place.{Place}
use Rattle.pot_bytes.specs.declared.rack.Rack.{Rack}
use Rattle.pot_bytes.specs.Rack.{log_bound}
use Rattle.pot_machine.specs.declared.entry.Entry.{Entry}
use Rattle.pot_machine.specs.declared.entry.Entry.TheVariants as entry
use Rattle.pot_machine.specs.Slot.{is_unsound}
use Rattle.pot_group.specs.declared.relaying.Mend.{Mend}
use Rattle.pot_group.specs.declared.relaying.Mend.TheVariants as mend
use Rattle.pot_group.specs.Calls.{MendCall}
use Rattle.pot_pads.specs.Pads.{Pads, moved}
use Rattle.pot_turn.specs.declared.name.TurnName.{TurnName}
use Rattle.pot_rows.specs.Rows.{view_at, with_view}
use Rattle.pot_rows.specs.Works.{AllIdle, RowWroteOnlyFor}
use Rattle.pot_rows.proofs.RowLemmas.{at_set}
use Rattle.pot_rows.proofs.WorkLemmas.{row_work_in_parts}
use Rattle.pot_shared.specs.declared.mending.Mending.{Mending}
use Rattle.pot_shared.specs.Ready.{AreReady, GroupPass, GroupPasses}
use Rattle.pot_shared.specs.Calls.{CallAt, CallTurn}
use Rattle.pot_shared.specs.MendCalls.{GoesOn, MendTurns, MendsPlace, begins, blind_at, drawn, mends, passes, total}
use Rattle.pot_shared.proofs.CallLemmas.{ready_again, set_twice}
use Rattle.pot_replies.specs.Jobs.{is_relay, is_mended, is_left, is_stuck_at, Precedes}
use Rattle.pot_shared.specs.Adds.{Adds, FailsTest, FailsOnce}
use Rattle.pot_shared.specs.Blinds.{is_begin}
use Rattle.pot_shared.specs.Works.{of_job}
use Rattle.pot_shared.proofs.AddLemmas.{adds_then, once_back, once_front}
use Rattle.pot_shared.proofs.WorkLemmas.{row_stays}
use Rattle.pot_mend.specs.declared.fault.MendFault.{MendFault}
use Rattle.pot_mend.specs.declared.fault.MendFault.TheVariants as fault
use Rattle.pot_mend.specs.declared.repairing.Repaired.{Repaired}
use Rattle.pot_mend.specs.Repairs.{NotOdd, AreRepairs, WasLeft, IsPlaceDone, EndsPlace, RepairSofar, RepairFails, RepairFills, RepairsPlace}
use Rattle.pot_mend.proofs.OrderLemmas.{AtOrAfter, before_next, not_before}
use Rattle.pot_mend.proofs.EntryLemmas.{count_one, one_in}
use Rattle.pot_mend.proofs.RepairLemmas.{MayCome, left_more, none_stuck_at, not_odd_more, not_odd_none, repairs_more, repairs_wider}
use Rattle.pot_mend.proofs.TurnLemmas.{StepEntries, StepsAt, steps_at}

-- WITHIN A PLACE

abbrev here : Place → ℕ × ℕ
here p = (p.stripe, p.column)

abbrev behind : Place → ℕ × ℕ
behind p = (p.stripe, p.column + 1)

at_behind : (p : Place) → AtOrAfter (here p) (behind p)
at_behind p = inr (refl, omega arith)

-- What was done so far for this place, and before it. One blind more was drawn than relays began.
pub record PlaceSofar (job : ℕ) (p : Place) (mended left draws : ℕ) (old now : GroupPasses) : Type 0 where
  pub entries : List Entry
  pub adds : Adds job p.group entries old now
  pub are : AreRepairs job entries (here p) (behind p) mended left draws
  pub spare : length (filter is_begin entries) < draws
  pub not_odd : NotOdd job entries p.stripe p.column
  pub done : (n k : ℕ) → Precedes (n, k) (here p) → IsPlaceDone entries job n k p.group old now

-- nothing was done for it yet
pub place_begin : (job : ℕ) (p : Place) (mended left draws : ℕ) (u v : GroupPasses) → RepairSofar job p.group p.stripe p.column mended left draws u v
    → PlaceSofar job p mended left (draws + 1) u v
place_begin job p mended left draws u v sofar = record {
  entries = sofar.entries;
  adds = sofar.adds;
  are = repairs_wider job sofar.entries (here p) (here p) (here p) (behind p) mended left draws sofar.are (inr (refl, omega arith)) (at_behind p) (draws + 1) (omega arith);
  spare = (let b = sofar.are.blinds in omega (arith, b));
  not_odd = not_odd_none job sofar.entries p.stripe p.column (λ has. not_before (here p) (sofar.are.begun_before job p.stripe p.column has));
  done = sofar.done;
}

module _ (job : ℕ) (p : Place) (mended left draws : ℕ) (u v w : GroupPasses) (sofar : PlaceSofar job p mended left draws u v) where
  -- what was done is done, with more entries
  still_done : (more : List Entry) → Adds job p.group more v w → (n k : ℕ) → Precedes (n, k) (here p) → IsPlaceDone (sofar.entries ++ more) job n k p.group u w
  still_done more adds n k before = ⊎_elim
      (λ (was : WasLeft sofar.entries job n k). inl (left_more sofar.entries more job n k was))
      (λ (failed : FailsOnce is_unsound n k p.group u v). inr (once_front job p.group u v w sofar.adds.worked adds.worked (FailsTest is_unsound n k) failed))
      (sofar.done n k before)

  -- ONE STEP THAT GOES ON
  module _ (e : Entry) (adds : Adds job p.group (e ∷ []) v w) (relay : is_relay e ≡ true) (not_stuck : (j n k o : ℕ) → e ≡ entry.Stuck j n k o → ⊥)
      (odd_else : (f : Digest) → e ≡ entry.Oddly job p.stripe p.column f → ⊥) (begun_here : (j n k : ℕ) → e ≡ entry.Begin j n k → (n ≡ p.stripe) × (k ≡ p.column)) where
    may : MayCome job sofar.entries (here p) (behind p) e
    may = record {
      relay = relay;
      stuck = λ j n k o is. absurd (not_stuck j n k o is);
      begun = λ j n k is. (let at = begun_here j n k is in (
        inr (at.0, (let c = at.1 in omega (arith, c))),
        subst (λ m. NotOdd job sofar.entries m k) (sym at.0) (subst (λ m. NotOdd job sofar.entries p.stripe m) (sym at.1) sofar.not_odd),
      ));
    }

    pub place_more : (mended' left' draws' : ℕ) → mended' ≡ mended + length (filter is_mended (e ∷ [])) → left' ≡ left + length (filter is_left (e ∷ []))
        → mended' + left' ≤ (mended + left) + 1 → length (filter is_begin sofar.entries) + length (filter is_begin (e ∷ [])) < draws'
        → PlaceSofar job p mended' left' draws' u w
    place_more mended' left' draws' mended_is left_is both blinds = record {
      entries = sofar.entries ++ e ∷ [];
      adds = adds_then job p.group sofar.entries (e ∷ []) u v w sofar.adds adds;
      are = repairs_more job sofar.entries (here p) (behind p) (here p) (behind p) mended left draws sofar.are (inr (refl, omega arith)) (inr (refl, omega arith)) e may
          mended' left' draws' mended_is left_is both (omega (arith, blinds));
      spare = (let c = count_one is_begin sofar.entries e in omega (arith, blinds, c));
      not_odd = not_odd_more job sofar.entries e p.stripe p.column sofar.not_odd odd_else;
      done = still_done (e ∷ []) adds;
    }

  -- THE LAST STEP
  ends_done : (more : List Entry) → Adds job p.group more v w → IsPlaceDone (sofar.entries ++ more) job p.stripe p.column p.group u w
      → (n k : ℕ) → Precedes (n, k) (behind p) → IsPlaceDone (sofar.entries ++ more) job n k p.group u w
  ends_done more adds last n k before = ⊎_elim
      (λ (low : Precedes (n, k) (here p)). still_done more adds n k low)
      (λ (at : (n ≡ p.stripe) × (k ≡ p.column)).
      subst (λ m. IsPlaceDone (sofar.entries ++ more) job m k p.group u w) (sym at.0) (subst (λ m. IsPlaceDone (sofar.entries ++ more) job p.stripe m p.group u w) (sym at.1) last))
      (before_next n k p.stripe p.column before)

  -- it was left
  module _ (e : Entry) (adds : Adds job p.group (e ∷ []) v w) (may : MayCome job sofar.entries (behind p) (behind p) e) (none : length (filter is_mended (e ∷ [])) ≡ 0)
      (one : length (filter is_left (e ∷ [])) ≡ 1) (not_begun : length (filter is_begin (e ∷ [])) ≡ 0) (was : WasLeft (e ∷ []) job p.stripe p.column) where
    last_in : (x : WasLeft (e ∷ []) job p.stripe p.column) → WasLeft (sofar.entries ++ e ∷ []) job p.stripe p.column
    last_in (inl (o, has)) = inl (o, Contains-append_right sofar.entries (e ∷ []) _ has)
    last_in (inr (f, has)) = inr (f, Contains-append_right sofar.entries (e ∷ []) _ has)

    place_left : RepairSofar job p.group p.stripe (p.column + 1) mended (left + 1) draws u w
    place_left = record {
      entries = sofar.entries ++ e ∷ [];
      adds = adds_then job p.group sofar.entries (e ∷ []) u v w sofar.adds adds;
      are = repairs_more job sofar.entries (here p) (behind p) (behind p) (behind p) mended left draws sofar.are (at_behind p) (inr (refl, omega arith)) e may
          mended (left + 1) draws (omega (arith, none)) (omega (arith, one)) (omega arith) (let s = sofar.spare in omega (arith, s, not_begun));
      done = ends_done (e ∷ []) adds (inl (last_in was));
    }

  pub place_stuck : (o : ℕ) → Adds job p.group (entry.Stuck job p.stripe p.column o ∷ []) v w → RepairSofar job p.group p.stripe (p.column + 1) mended (left + 1) draws u w
  place_stuck o adds = place_left (entry.Stuck job p.stripe p.column o) adds
      (record {
        relay = refl;
        stuck = λ j n k o q. (let a : p.stripe ≡ n = cc q in let b : p.column ≡ k = cc q in (
          inr (sym a, omega (arith, b)),
          subst (λ m. length (filter (is_stuck_at m k) sofar.entries) ≡ 0) a
              (subst (λ m. length (filter (is_stuck_at p.stripe m) sofar.entries) ≡ 0) b (none_stuck_at job sofar.entries (behind p) mended left draws p.stripe p.column sofar.are)),
        ));
        begun = λ j n k q. absurd (cc q);
      })
      refl refl refl (inl (o, one_in _))

  pub place_odd : (f : Digest) → Adds job p.group (entry.Oddly job p.stripe p.column f ∷ []) v w → RepairSofar job p.group p.stripe (p.column + 1) mended (left + 1) draws u w
  place_odd f adds = place_left (entry.Oddly job p.stripe p.column f) adds (record { relay = refl; stuck = λ j n k o q. absurd (cc q); begun = λ j n k q. absurd (cc q) })
      refl refl refl (inr (f, one_in _))

  -- it was sound
  pub place_whole : Adds job p.group [] v w → FailsOnce is_unsound p.stripe p.column p.group v w → RepairSofar job p.group p.stripe (p.column + 1) mended left draws u w
  place_whole adds failed =
      let none = append-nil sofar.entries in
      record {
        entries = sofar.entries;
        adds = subst (λ es. Adds job p.group es u w) none (adds_then job p.group sofar.entries [] u v w sofar.adds adds);
        are = repairs_wider job sofar.entries (here p) (behind p) (behind p) (behind p) mended left draws sofar.are (at_behind p) (inr (refl, omega arith)) draws (omega arith);
        done = λ n k before. subst (λ es. IsPlaceDone es job n k p.group u w) none
            (ends_done [] adds (inr (once_back job p.group u v w sofar.adds.worked adds.worked (FailsTest is_unsound p.stripe p.column) failed)) n k before);
      }

  pub place_fails : (column stripe : ℕ) → Adds job p.group (entry.Fault job stripe column ∷ []) v w → RepairFails job p.group column draws u w
  place_fails column stripe adds = record {
    entries = sofar.entries;
    stripe = stripe;
    stuck = here p;
    begun = behind p;
    mended = mended;
    left = left;
    adds = adds_then job p.group sofar.entries (entry.Fault job stripe column ∷ []) u v w sofar.adds adds;
    are = sofar.are;
  }

  pub place_fills : Adds job p.group [] v w → length (view_at w p.group).seen ≡ log_bound → RepairFills job p.group draws u w
  place_fills adds full = record {
    entries = sofar.entries;
    stuck = here p;
    begun = behind p;
    mended = mended;
    left = left;
    adds = subst (λ es. Adds job p.group es u w) (append-nil sofar.entries) (adds_then job p.group sofar.entries [] u v w sofar.adds adds);
    are = sofar.are;
    full = full;
  }

-- STEP AFTER STEP

-- So many were mended and left at some steps, and so many blinds drawn, whatever was done before.
pub record Placing (job : ℕ) (p : Place) (mended left more : ℕ) (v now : GroupPasses) : Type 0 where
  pub worked : RowWroteOnlyFor (of_job job) v now
  pub few : length (view_at v p.group).seen + (mended + left) ≤ length (view_at now p.group).seen
  pub sofar : (old : GroupPasses) (m l draws : ℕ) → RepairSofar job p.group p.stripe p.column m l draws old v → PlaceSofar job p (m + mended) (l + left) (draws + more) old now

placing_begin : (job : ℕ) (p : Place) (v : GroupPasses) → AllIdle v → Placing job p 0 0 1 v v
placing_begin job p v idle = record {
  worked = row_stays (of_job job) v idle;
  few = omega arith;
  sofar = λ old m l draws sofar. (let a : m + 0 ≡ m = omega arith in let b : l + 0 ≡ l = omega arith in rw (a, b) (place_begin job p m l draws old v sofar));
}

placing_as : (job : ℕ) (p : Place) (mended left more mended' left' more' : ℕ) (v now : GroupPasses) → mended' ≡ mended → left' ≡ left → more' ≡ more → Placing job p mended left more v now
    → Placing job p mended' left' more' v now
placing_as job p mended left more mended' left' more' v now a b c placing = rw (a, b, c) placing

module _ (job : ℕ) (p : Place) (mended left more : ℕ) (v now next : GroupPasses) (placing : Placing job p mended left more v now) where
  placing_on : (e : Entry) → Adds job p.group (e ∷ []) now next → is_relay e ≡ true → ((j n k o : ℕ) → e ≡ entry.Stuck j n k o → ⊥)
      → ((f : Digest) → e ≡ entry.Oddly job p.stripe p.column f → ⊥) → ((j n k : ℕ) → e ≡ entry.Begin j n k → (n ≡ p.stripe) × (k ≡ p.column))
      → length (filter is_mended (e ∷ [])) + length (filter is_left (e ∷ [])) ≤ 1
      → Placing job p (mended + length (filter is_mended (e ∷ []))) (left + length (filter is_left (e ∷ []))) (more + length (filter is_begin (e ∷ []))) v next
  placing_on e adds relay not_stuck odd_else begun_here both = record {
    worked = row_work_in_parts (of_job job) v now next placing.worked adds.worked;
    few = (let a = adds.grew in let b = placing.few in omega (arith, a, b, both));
    sofar = λ old m l draws sofar. (let s = placing.sofar old m l draws sofar in
        place_more job p (m + mended) (l + left) (draws + more) old now next s e adds relay not_stuck odd_else begun_here
        (m + (mended + length (filter is_mended (e ∷ [])))) (l + (left + length (filter is_left (e ∷ [])))) (draws + (more + length (filter is_begin (e ∷ []))))
        (omega arith) (omega arith) (omega (arith, both)) (let q = s.spare in omega (arith, q)));
  }

  placing_step : (a : Mend) → GoesOn a → StepsAt job p a now next → Placing job p (mended + mends a) (left + passes a) (more + begins a) v next
  placing_step mend.Began go steps =
      placing_on (entry.Begin job p.stripe p.column) (subst (λ es. Adds job p.group es now next) steps.says steps.adds) refl (λ j n k o e. cc e) (λ f e. cc e) (λ j n k e. (sym (cc e), sym (cc e))) (omega arith)
  placing_step mend.Extends go steps = ⊎_elim
      (λ (is : (n : ℕ) × (k : ℕ) × (steps.entries ≡ entry.Hop job n k ∷ [])).
      placing_on (entry.Hop job is.0 is.1) (subst (λ es. Adds job p.group es now next) is.2 steps.adds) refl (λ j n k o e. cc e) (λ f e. cc e) (λ j n k e. absurd (cc e)) (omega arith))
      (λ (is : (n : ℕ) × (k : ℕ) × (o : ℕ) × (steps.entries ≡ entry.GaveUp job n k o ∷ [])).
      placing_on (entry.GaveUp job is.0 is.1 is.2) (subst (λ es. Adds job p.group es now next) is.3 steps.adds) refl (λ j n k o e. cc e) (λ f e. cc e) (λ j n k e. absurd (cc e)) (omega arith))
      steps.says
  placing_step mend.Mended go steps =
      let is = steps.says in
      placing_on (entry.Mended job is.0 is.1) (subst (λ es. Adds job p.group es now next) is.2 steps.adds) refl (λ j n k o e. cc e) (λ f e. cc e) (λ j n k e. absurd (cc e)) (omega arith)
  placing_step mend.Passed go steps =
      let is = steps.says in
      placing_on (entry.Oddly job is.0 is.1 is.2) (subst (λ es. Adds job p.group es now next) is.3 steps.adds) refl (λ j n k o e. cc e) (λ f e. is.4 (cc e) (cc e)) (λ j n k e. absurd (cc e)) (omega arith)
  placing_step _ go steps = absurd go

module _ (told : Type 0) (rack : Rack) (names : List TurnName) (job : ℕ) (p : Place) (pads : Pads) (within : p.group < length names) where
  -- turns after each of which the mend went on, and then the one that ended it
  pub record Placed (result : Mend) (mended left more : ℕ) (v new : GroupPasses) : Type 0 where
    pub mid : GroupPasses
    pub placing : Placing job p mended left more v mid
    pub last : StepsAt job p result mid new

  long : (row : GroupPasses) → AreReady rack names row → p.group < length row.views
  long row ready = (let l = ready.of.1 in omega (arith, within, l))

  placed_turns : (n : ℕ) (before : List Mend) (result : Mend) (v row : GroupPasses) (w : GroupPass) (mended left more mended' left' more' : ℕ) → All GoesOn before → AreReady rack names row
      → MendTurns told job p pads n (before ++ result ∷ []) (view_at row p.group) w → Placing job p mended left more v row
      → mended' ≡ mended + total mends before → left' ≡ left + total passes before → more' ≡ more + total begins before → Placed result mended' left' more' v (with_view row p.group w)
  placed_turns n [] result v row w mended left more mended' left' more' go ready (u, turn, is) placing a b c = record {
    mid = row;
    placing = placing_as job p mended left more mended' left' more' v row (omega (arith, a)) (omega (arith, b)) (omega (arith, c)) placing;
    last = steps_at told job p (blind_at pads n) result row (with_view row p.group w) (long row ready) ready.idle
        (record { pass = w; is = refl; turn = subst (λ (x : GroupPass). CallTurn told (MendCall told job p (blind_at pads n) result) (view_at row p.group) x) (sym is) turn });
  }
  placed_turns n (answer ∷ rest) result v row w mended left more mended' left' more' go ready (u, turn, turns) placing a b c =
      let next : GroupPasses = with_view row p.group u in
      let call : CallAt told (MendCall told job p (blind_at pads n) answer) p.group row next = record { pass = u; is = refl; turn = turn } in
      let on : GoesOn answer = go zero answer (omega arith) in
      let step = steps_at told job p (blind_at pads n) answer row next (long row ready) ready.idle call in
      let there : view_at next p.group ≡ u = at_set row p.group u (long row ready) in
      let same : with_view next p.group w ≡ with_view row p.group w = ap (λ vs. record row { views = vs }) (set_twice row.views p.group u w) in
      subst (λ (x : GroupPasses). Placed result mended' left' more' v x) same
      (placed_turns (n + begins answer) rest result v next w (mended + mends answer) (left + passes answer) (more + begins answer) mended' left' more'
      (λ i d lt. go (suc i) d (omega (arith, lt))) (ready_again ready within call)
      (subst (λ (x : GroupPass). MendTurns told job p pads (n + begins answer) (rest ++ result ∷ []) x w) (sym there) turns)
      (placing_step job p mended left more v row next placing answer on step)
      (omega (arith, a)) (omega (arith, b)) (omega (arith, c)))

-- THE ENDS

pub drawn_more : (pads : Pads) (a b : ℕ) → drawn (drawn pads a) b ≡ drawn pads (a + b)
drawn_more pads a zero = (let e : a ≡ a + 0 = omega arith in ap (drawn pads) e)
drawn_more pads a (suc b) = (let e : suc (a + b) ≡ a + suc b = omega arith in ap (λ p. moved p 1024) (drawn_more pads a b) ∙ ap (drawn pads) e)

module _ (told : Type 0) (rack : Rack) (names : List TurnName) (job : ℕ) (p : Place) (pads after : Pads) (within : p.group < length names) (v new : GroupPasses) (ready : AreReady rack names v)
    (result : Mending) (mends : MendsPlace told job p pads after result v new) where
  abbrev drew : ℕ
  drew = suc (total begins mends.before)

  placed : Placed told rack names job p pads within result.end result.mended result.passed drew v new
  placed =
      let a = mends.mended in
      let b = mends.passed in
      subst (λ (x : GroupPasses). Placed told rack names job p pads within result.end result.mended result.passed drew v x) (sym mends.is)
      (placed_turns told rack names job p pads within 0 mends.before result.end v v mends.pass 0 0 1 result.mended result.passed drew mends.go_on ready mends.turns (placing_begin job p v ready.idle)
      (omega (arith, a)) (omega (arith, b)) (omega arith))

  abbrev between : GroupPasses
  between = placed.mid

  abbrev Sofar : ℕ → ℕ → ℕ → GroupPasses → Type 0
  Sofar mended left draws old = PlaceSofar job p mended left draws old between

  -- the counts fit their words
  pub passed_fits : result.passed < log_bound + 1
  passed_fits = (let a = placed.placing.few in let b = placed.last.adds.grew in let c = placed.last.bound in omega (arith, a, b, c))

  module _ (r : Repaired) (mended_is : r.mended ≡ result.mended) where
    -- so many more were left at the last step, each with an entry
    repairs_ok : (n : ℕ) → n ≤ length placed.last.entries → r.left ≡ result.passed + n
        → ((old : GroupPasses) (m l draws : ℕ) → Sofar m l draws old → RepairSofar job p.group p.stripe (p.column + 1) m (l + n) draws old new) → RepairsPlace job p (Ok r) pads after v new
    repairs_ok n logs left_is ends = record {
      more = drew;
      stream = mends.stream;
      worked = row_work_in_parts (of_job job) v between new placed.placing.worked placed.last.adds.worked;
      few = (let a = placed.placing.few in let b = placed.last.adds.grew in omega (arith, a, b, logs, mended_is, left_is));
      bound = placed.last.bound;
      ends = λ old m l draws sofar.
          let both : l + r.left ≡ (l + result.passed) + n = omega (arith, left_is) in
          rw (mended_is, both) (ends old (m + result.mended) (l + result.passed) (draws + drew) (placed.placing.sofar old m l draws sofar));
    }

    pub repairs_whole : result.end ≡ mend.Whole → r.left ≡ result.passed → RepairsPlace job p (Ok r) pads after v new
    repairs_whole is left_is =
        let last = subst (λ a. StepsAt job p a between new) is placed.last in
        repairs_ok 0 (omega arith) (omega (arith, left_is))
        (λ old m l draws s.
        let same : l + 0 ≡ l = omega arith in
        rw same (place_whole job p m l draws old between new s (subst (λ es. Adds job p.group es between new) last.says last.adds) last.why))

    pub repairs_stuck : (first second : ℕ) → result.end ≡ mend.TwoGone first second → r.left ≡ result.passed + 1 → RepairsPlace job p (Ok r) pads after v new
    repairs_stuck first second is left_is =
        let last = subst (λ a. StepEntries job p.stripe p.column a placed.last.entries) is placed.last.says in
        let long = ap length last in
        repairs_ok 1 (omega (arith, long)) left_is
        (λ old m l draws s. place_stuck job p m l draws old between new s second (subst (λ es. Adds job p.group es between new) last placed.last.adds))

    pub repairs_odd : (wanted found : Digest) → result.end ≡ mend.Odd wanted found → r.left ≡ result.passed + 1 → RepairsPlace job p (Ok r) pads after v new
    repairs_odd wanted found is left_is =
        let last = subst (λ a. StepEntries job p.stripe p.column a placed.last.entries) is placed.last.says in
        let long = ap length last.1 in
        repairs_ok 1 (omega (arith, long)) left_is
        (λ old m l draws s. place_odd job p m l draws old between new s last.0 (subst (λ es. Adds job p.group es between new) last.1 placed.last.adds))

  repairs_err : (e : MendFault) → EndsPlace job p (Err e) drew v new → RepairsPlace job p (Err e) pads after v new
  repairs_err e ends = record {
    more = drew;
    stream = mends.stream;
    worked = row_work_in_parts (of_job job) v between new placed.placing.worked placed.last.adds.worked;
    few = (let a = placed.placing.few in let b = placed.last.adds.grew in omega (arith, a, b));
    bound = placed.last.bound;
    ends = ends;
  }

  pub repairs_fails : (column : ℕ) → result.end ≡ mend.Faulted column → RepairsPlace job p (Err (fault.Faulted p.group column)) pads after v new
  repairs_fails column is =
      let last = subst (λ a. StepEntries job p.stripe p.column a placed.last.entries) is placed.last.says in
      repairs_err (fault.Faulted p.group column) (
        refl,
        λ old m l draws sofar. place_fails job p (m + result.mended) (l + result.passed) (draws + drew) old between new (placed.placing.sofar old m l draws sofar) column last.0
            (subst (λ es. Adds job p.group es between new) last.1 placed.last.adds),
      )

  pub repairs_fills : result.end ≡ mend.LogFull → RepairsPlace job p (Err (fault.LogFull p.group)) pads after v new
  repairs_fills is =
      let last = subst (λ a. StepsAt job p a between new) is placed.last in
      repairs_err (fault.LogFull p.group) (
        refl,
        λ old m l draws sofar. place_fills job p (m + result.mended) (l + result.passed) (draws + drew) old between new (placed.placing.sofar old m l draws sofar)
            (subst (λ es. Adds job p.group es between new) last.says last.adds) last.why,
      )
