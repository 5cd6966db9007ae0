-- The mending of a place, step by step.
use Rattle.std.proofs.Common.{◌≡◌, ◌<◌, ◌≤◌, ◌+◌, ◌-◌, ℕ, zero, suc, List, [], ◌∷◌, ◌++◌, length, length-append, refl, ap, ap₂, sym, ◌∙◌, subst, arith}
use Rattle.std.specs.Prelude.{All, filter}
use Rattle.std.proofs.lemmas.List.{set-get_or}
use lib.Seq.{drop-length}
use Rattle.std.proofs.lemmas.List.Elements.{All-append, All-nil}
use Rattle.pot_bytes.specs.declared.rack.Place.{Place}
use Rattle.pot_machine.specs.declared.entry.Entry.{Entry}
use Rattle.pot_group.specs.declared.relaying.Mend.{Mend}
use Rattle.pot_group.specs.declared.relaying.Mend.TheVariants as mend
use Rattle.pot_group.specs.Group.{GroupView}
use Rattle.pot_pads.specs.Pads.{Pads, moved, next_bytes}
use Rattle.pot_turn.specs.declared.name.TurnName.{TurnName}
use Rattle.pot_rows.specs.Rows.{AreOf, view_at, with_view}
use Rattle.pot_rows.specs.Works.{AllIdle, RowWroteOnlyFor, RowOnlyWriterOf}
use Rattle.pot_rows.proofs.RowLemmas.{at_set}
use Rattle.pot_rows.proofs.WorkLemmas.{row_work_in_parts, row_alone_in_parts}
use Rattle.pot_shared.specs.Ready.{GroupPass, GroupPasses}
use Rattle.pot_shared.specs.Calls.{CallAt, CallTurn, marked}
use Rattle.pot_group.specs.Calls.{MendCall}
use Rattle.pot_shared.specs.MendCalls.{GoesOn, MendTurns, MendsPlace, begins, blind_at, drawn, mends, passes, stretches, total}
use Rattle.pot_shared.specs.Works.{blinds_by, blinds_in, of_job}
use Rattle.pot_shared.proofs.CallLemmas.{set_twice}
use Rattle.pot_shared.proofs.DrawLemmas.{by_more}
use Rattle.pot_shared.proofs.MendBlinds.{given_more, mend_blinds_are, mend_work, none_begun, relay_any}
use Rattle.pot_shared.proofs.WorkLemmas.{row_stays}
use Rattle.pot_shared.proofs.MemberLemmas.{all_long}

zero_front : (n : ℕ) → n ≡ 0 + n
zero_front n = omega arith

just_one : (answer : Mend) → GoesOn answer → All GoesOn (answer ∷ [])
just_one answer on zero d lt = on
just_one answer on (suc k) d lt = absurd (omega (arith, lt))

module _ (told : Type 0) (job : ℕ) (place : Place) (pads : Pads) where
  abbrev Call : List ℕ → Mend → GroupView → GroupView → List Entry → Type 0
  Call blind answer = MendCall told job place blind answer

  turns_more : (n : ℕ) (before : List Mend) (answer : Mend) (v u w : GroupPass) → MendTurns told job place pads n before v u
      → CallTurn told (Call (blind_at pads (n + total begins before)) answer) u w → MendTurns told job place pads n (before ++ answer ∷ []) v w
  turns_more n [] answer v u w same call =
      let zero_more : n + 0 ≡ n = omega arith in
      (w, subst (λ x. CallTurn told (Call (blind_at pads n) answer) x w) same (subst (λ k. CallTurn told (Call (blind_at pads k) answer) u w) zero_more call), refl)
  turns_more n (b ∷ before) answer v u w (x, first, more) call =
      let later : n + total begins (b ∷ before) ≡ (n + begins b) + total begins before = omega arith in
      (x, first, turns_more (n + begins b) before answer x u w more (subst (λ k. CallTurn told (Call (blind_at pads k) answer) u w) later call))

  -- what was done so far, with the blind at hand, where the stream stands, and what was counted
  pub record IsMending (old now : GroupPasses) (blind : List ℕ) (after : Pads) (mended passed : ℕ) : Type 0 where
    pub before : List Mend
    pub go_on : All GoesOn before
    pub pass : GroupPass
    pub is : now ≡ with_view old place.group pass
    pub turns : MendTurns told job place pads 0 before (view_at old place.group) pass
    pub blind_is : blind ≡ blind_at pads (total begins before)
    pub stream : after ≡ drawn pads (suc (total begins before))
    pub mended_is : mended ≡ total mends before
    pub passed_is : passed ≡ total passes before
    pub few : mended + passed ≤ length (view_at now place.group).seen
    pub worked : RowWroteOnlyFor (of_job job) old now
    pub blinds : RowOnlyWriterOf (of_job job) old now → blinds_by job old now place.group ≡ stretches pads (total begins before)

  pub mending_none : (old : GroupPasses) (blind : List ℕ) (after : Pads) → blind ≡ next_bytes pads 1024 → after ≡ moved pads 1024 → AllIdle old → IsMending old old blind after 0 0
  mending_none old blind after blind_is stream idle = record {
    before = [];
    go_on = All-nil GoesOn;
    pass = view_at old place.group;
    is = ap (λ vs. record old { views = vs }) (sym (set-get_or old.views place.group _));
    turns = refl;
    blind_is = blind_is;
    stream = stream;
    mended_is = refl;
    passed_is = refl;
    few = omega arith;
    worked = row_stays (of_job job) old idle;
    blinds = λ alone. ap (λ ls. blinds_in (filter (of_job job) ls)) (drop-length (view_at old place.group).seen);
  }

  module _ (names : List TurnName) (old now next : GroupPasses) (blind : List ℕ) (after : Pads) (mended passed : ℕ) (of : AreOf names old) (of_now : AreOf names now) (idle : AllIdle now)
      (within : place.group < length names) (sofar : IsMending old now blind after mended passed) (answer : Mend) (call : CallAt told (Call blind answer) place.group now next) where
    long : place.group < length old.views
    long = let l = of.1 in omega (arith, within, l)

    knows : view_at now place.group ≡ sofar.pass
    knows = ap (λ (r : GroupPasses). view_at r place.group) sofar.is ∙ at_set old place.group sofar.pass long

    next_is : next ≡ with_view old place.group call.pass
    next_is = call.is
        ∙ (ap (λ (r : GroupPasses). with_view r place.group call.pass) sofar.is
        ∙ ap (λ vs. record old { views = vs }) (set_twice old.views place.group sofar.pass call.pass))

    all_turns : MendTurns told job place pads 0 (sofar.before ++ answer ∷ []) (view_at old place.group) call.pass
    all_turns = turns_more 0 sofar.before answer (view_at old place.group) sofar.pass call.pass sofar.turns
        (subst (λ k. CallTurn told (Call (blind_at pads k) answer) sofar.pass call.pass) (zero_front (total begins sofar.before))
        (subst (λ b. CallTurn told (Call b answer) sofar.pass call.pass) sofar.blind_is (subst (λ v. CallTurn told (Call blind answer) v call.pass) knows call.turn)))

    long_now : place.group < length now.views
    long_now = let l = of_now.1 in omega (arith, within, l)

    its_work : RowWroteOnlyFor (of_job job) now next
    its_work = mend_work told job place blind answer now next long_now call idle

    all_work : RowWroteOnlyFor (of_job job) old next
    all_work = row_work_in_parts (of_job job) old now next sofar.worked its_work

    all_blinds : RowOnlyWriterOf (of_job job) old next → blinds_by job old next place.group ≡ stretches pads (total begins sofar.before + begins answer)
    all_blinds alone =
        let parts = row_alone_in_parts (of_job job) old now next sofar.worked its_work alone in
        by_more job old now next sofar.worked its_work place.group
        ∙ (ap₂ (λ (xs ys : List (List ℕ)). xs ++ ys) (sofar.blinds parts.0) (mend_blinds_are told job place blind answer now next long_now call parts.1)
        ∙ given_more answer pads (total begins sofar.before) blind sofar.blind_is)

    pub mending_ends : (GoesOn answer → ⊥)
        → MendsPlace told job place pads after (record { end = answer; mended = mended; passed = passed }) old next
    mending_ends ends = record {
      before = sofar.before;
      go_on = sofar.go_on;
      ends = ends;
      mended = sofar.mended_is;
      passed = sofar.passed_is;
      pass = call.pass;
      is = next_is;
      turns = all_turns;
      stream = sofar.stream;
      worked = all_work;
      blinds = λ alone. all_blinds alone ∙ ap (stretches pads) (none_begun answer (total begins sofar.before) ends);
    }

    total_more : (f : Mend → ℕ) (before : List Mend) → total f (before ++ answer ∷ []) ≡ total f before + f answer
    total_more f [] = omega arith
    total_more f (b ∷ before) = (let h = total_more f before in omega (arith, h))

    one_more : (f : Mend → ℕ) (n n1 : ℕ) → n ≡ total f sofar.before → n1 ≡ n + f answer → n1 ≡ total f (sofar.before ++ answer ∷ [])
    one_more f n n1 is is1 = (let h = total_more f sofar.before in omega (arith, is, is1, h))

    pub mending_more : (blind1 : List ℕ) (after1 : Pads) (mended1 passed1 : ℕ) → GoesOn answer
        → blind1 ≡ blind_at pads (total begins sofar.before + begins answer) → after1 ≡ drawn pads (suc (total begins sofar.before + begins answer))
        → mended1 ≡ mended + mends answer → passed1 ≡ passed + passes answer → mended1 + passed1 ≤ length (view_at next place.group).seen
        → IsMending old next blind1 after1 mended1 passed1
    mending_more blind1 after1 mended1 passed1 goes_on blind_is stream mended_is passed_is few = record {
      before = sofar.before ++ answer ∷ [];
      go_on = All-append GoesOn sofar.before (answer ∷ []) sofar.go_on (just_one answer goes_on);
      pass = call.pass;
      is = next_is;
      turns = all_turns;
      blind_is = blind_is ∙ ap (blind_at pads) (sym (total_more begins sofar.before));
      stream = stream ∙ ap (λ n. drawn pads (suc n)) (sym (total_more begins sofar.before));
      mended_is = one_more mends mended mended1 sofar.mended_is mended_is;
      passed_is = one_more passes passed passed1 sofar.passed_is passed_is;
      few = few;
      worked = all_work;
      blinds = λ alone. all_blinds alone ∙ ap (stretches pads) (sym (total_more begins sofar.before));
    }

-- an answer of another kind is the last
pub is_last : (answer : Mend) → (answer ≡ mend.Began → ⊥) → (answer ≡ mend.Extends → ⊥) → (answer ≡ mend.Mended → ⊥) → (answer ≡ mend.Passed → ⊥) → GoesOn answer → ⊥
is_last mend.Began not_began not_went not_mended not_passed on = not_began refl
is_last mend.Extends not_began not_went not_mended not_passed on = not_went refl
is_last mend.Mended not_began not_went not_mended not_passed on = not_mended refl
is_last mend.Passed not_began not_went not_mended not_passed on = not_passed refl
is_last _ not_began not_went not_mended not_passed on = on

-- IT ENDS

-- a step that goes on logs an entry
one_entry : (told : Type 0) (job : ℕ) (place : Place) (blind : List ℕ) (answer : Mend) (old new : GroupView) (entries : List Entry) → GoesOn answer
    → MendCall told job place blind answer old new entries → length entries ≡ 1
one_entry told job place blind mend.Began old new entries on call = ap length call.tells.0
one_entry told job place blind mend.Extends old new entries on call =
    let d = call.tells.1 in relay_any job (λ es. length es ≡ 1) (λ e own not. refl) d.0.stripe d.0.result old entries d.1
one_entry told job place blind mend.Mended old new entries on call =
    let d = call.tells.1 in relay_any job (λ es. length es ≡ 1) (λ e own not. refl) d.0.stripe d.0.result old entries d.1
one_entry told job place blind mend.Passed old new entries on call =
    let d = call.tells.1 in relay_any job (λ es. length es ≡ 1) (λ e own not. refl) d.0.stripe d.0.result old entries d.1
one_entry told job place blind _ old new entries on call = absurd on

-- so the log that the pass has seen grows, which has a bound
pub grows : (told : Type 0) (job : ℕ) (place : Place) (blind : List ℕ) (answer : Mend) (names : List TurnName) (now next : GroupPasses) → AreOf names now → place.group < length names
    → GoesOn answer → CallAt told (MendCall told job place blind answer) place.group now next
    → (length (view_at now place.group).seen < length (view_at next place.group).seen) × (length (view_at next place.group).seen ≤ 262144)
grows told job place blind answer names now next of within on call =
    let t = call.turn in
    let v = view_at now place.group in
    let long = of.1 in
    let here : place.group < length now.views = omega (arith, within, long) in
    let knows : view_at next place.group ≡ call.pass = ap (λ (r : GroupPasses). view_at r place.group) call.is ∙ at_set now place.group call.pass here in
    let seen : length (view_at next place.group).seen ≡ length ((v.seen ++ t.others) ++ marked t) =
    ap (λ (w : GroupPass). length w.seen) knows ∙ ap (λ (w : GroupPass). length w.seen) t.turn in
    let parts = length-append (v.seen ++ t.others) (marked t) in
    let front = length-append v.seen t.others in
    let own = all_long t.new.shelves t.more t.entries in
    let one = one_entry told job place blind answer t.old t.new t.entries on t.call in
    let transition = sym (ap length t.transition) ∙ all_long t.old.shelves t.old.blinds t.old.log in
    let log = ap length t.log ∙ length-append t.old.log t.entries in
    let bound = t.settled.bound in
    (omega (arith, seen, parts, front, own, one, transition, log, bound), omega (arith, seen, parts, front, own, one, transition, log, bound))

pub falls : (told : Type 0) (job : ℕ) (place : Place) (blind : List ℕ) (answer : Mend) (names : List TurnName) (now next : GroupPasses) → AreOf names now → place.group < length names
    → GoesOn answer → CallAt told (MendCall told job place blind answer) place.group now next
    → 262145 - length (view_at next place.group).seen < 262145 - length (view_at now place.group).seen
falls told job place blind answer names now next of within on call =
    let g = grows told job place blind answer names now next of within on call in
    let more = g.0 in
    let bound = g.1 in
    omega (arith, more, bound)

-- A STEP AFTER WHICH THE MEND GOES ON

module _ (told : Type 0) (job : ℕ) (place : Place) (pads : Pads) (names : List TurnName) (old now next : GroupPasses) (blind : List ℕ) (after : Pads) (mended passed : ℕ)
    (of : AreOf names old) (of_now : AreOf names now) (idle : AllIdle now) (within : place.group < length names) (sofar : IsMending told job place pads old now blind after mended passed) where
  abbrev Step : Mend → Type 0
  Step answer = CallAt told (MendCall told job place blind answer) place.group now next

  abbrev Sofar : List ℕ → Pads → ℕ → ℕ → Type 0
  Sofar blind1 after1 mended1 passed1 = IsMending told job place pads old next blind1 after1 mended1 passed1

  seen_more : (answer : Mend) → GoesOn answer → Step answer → length (view_at now place.group).seen < length (view_at next place.group).seen
  seen_more answer on call = (grows told job place blind answer names now next of_now within on call).0

  -- it began no relay: the same blind is at hand
  goes_on : (answer : Mend) (mended1 passed1 : ℕ) → GoesOn answer → begins answer ≡ 0 → mended1 ≡ mended + mends answer → passed1 ≡ passed + passes answer
      → mended1 + passed1 ≤ suc (mended + passed) → Step answer → Sofar blind after mended1 passed1
  goes_on answer mended1 passed1 on none mended_is passed_is one call =
      let same : total begins sofar.before ≡ total begins sofar.before + begins answer = omega (arith, none) in
      let more = seen_more answer on call in
      let few = sofar.few in
      mending_more told job place pads names old now next blind after mended passed of of_now idle within sofar answer call blind after mended1 passed1 on
      (sofar.blind_is ∙ ap (blind_at pads) same) (sofar.stream ∙ ap (λ n. drawn pads (suc n)) same) mended_is passed_is (omega (arith, more, few, one))

  pub mending_went : Step mend.Extends → Sofar blind after mended passed
  mending_went call = goes_on mend.Extends mended passed (tt) refl (omega arith) (omega arith) (omega arith) call

  pub mending_mended : (mended1 : ℕ) → mended1 ≡ mended + 1 → Step mend.Mended → Sofar blind after mended1 passed
  mending_mended mended1 is call = goes_on mend.Mended mended1 passed (tt) refl is (omega arith) (omega (arith, is)) call

  pub mending_passed : (passed1 : ℕ) → passed1 ≡ passed + 1 → Step mend.Passed → Sofar blind after mended passed1
  mending_passed passed1 is call = goes_on mend.Passed mended passed1 (tt) refl (omega arith) is (omega (arith, is)) call

  -- after a relay that began, the next blind is
  pub mending_began : (blind1 : List ℕ) (after1 : Pads) → Step mend.Began → blind1 ≡ next_bytes after 1024 → after1 ≡ moved after 1024 → Sofar blind1 after1 mended passed
  mending_began blind1 after1 call blind_is stream =
      let one : suc (total begins sofar.before) ≡ total begins sofar.before + 1 = omega arith in
      let more = seen_more mend.Began (tt) call in
      let few = sofar.few in
      mending_more told job place pads names old now next blind after mended passed of of_now idle within sofar mend.Began call blind1 after1 mended passed (tt)
      (blind_is ∙ (ap (λ p. next_bytes p 1024) sofar.stream ∙ ap (blind_at pads) one))
      (stream ∙ (ap (λ p. moved p 1024) sofar.stream ∙ ap (λ n. drawn pads (suc n)) one)) (omega arith) (omega arith) (omega (arith, more, few))
