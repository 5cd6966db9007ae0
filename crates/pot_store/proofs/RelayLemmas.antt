-- What the turns of a mend log.
use Rattle.std.proofs.Common.{◌≡◌, ◌≤◌, ◌⊎◌, inl, inr, ℕ, zero, suc, Bool, true, false, List, [], ◌∷◌, ◌++◌, length, refl, ap, sym, ◌∙◌, subst, arith, eq-eqb}
use Rattle.std.specs.Prelude.{Some, IsSomeAnd, IsTrue, Result, Ok, Err, Contains, ◌==◌, ◌&&◌, ◌↔◌, if◌then◌else◌, filter, find, is_some}
use Rattle.std.proofs.lemmas.Bool.{eqb-true}
use Rattle.pot_bytes.specs.declared.digest.Digest.{Digest}
use Rattle.pot_bytes.specs.declared.rack.Place.{Place}
use Rattle.pot_machine.specs.declared.entry.Entry.{Entry}
use Rattle.pot_machine.specs.declared.entry.Entry.TheVariants as entry
use Rattle.pot_machine.specs.Table.{next_column}
use Rattle.pot_machine.specs.Logs.{is_of}
use Rattle.pot_steps.specs.declared.flight.Flight.{Flight}
use Rattle.pot_steps.specs.Flights.{flight_in}
use Rattle.pot_steps.proofs.FlightLists.{relay_of, relay_of_flight}
use Rattle.pot_group.specs.declared.relaying.Advanced.{Advanced}
use Rattle.pot_group.specs.declared.relaying.Advanced.TheVariants as advanced
use Rattle.pot_group.specs.declared.relaying.AdvanceFault.{AdvanceFault}
use Rattle.pot_group.specs.declared.relaying.AdvanceFault.TheVariants as failed
use Rattle.pot_group.specs.declared.relaying.Mend.{Mend}
use Rattle.pot_group.specs.declared.relaying.Mend.TheVariants as mend
use Rattle.pot_group.specs.Group.{GroupView, IsSettled}
use Rattle.pot_group.specs.Relaying.{Owns, answered}
use Rattle.pot_replies.specs.Jobs.{is_look_at, is_seen_at, is_stuck_at}
use Rattle.pot_shared.specs.Ready.{GroupPass}
use Rattle.pot_shared.specs.Calls.{CallTurn}
use Rattle.pot_group.specs.Calls.{MendCall, RelayEntries}
use Rattle.pot_shared.specs.MendCalls.{GoesOn}
use Rattle.pot_shared.proofs.FlightLemmas.{at_end, on_way}
use Rattle.pot_store.specs.Visits.{Came, EndsSecond, IsSecond, MayVisit, begun_from, begun_next, is_begin_at, is_oddly_at, was_seen}

-- ENTRIES AFTER WHICH A MEND GOES ON

-- An entry of the job on the way: no look, no Stuck and no Oddly of the place.
pub record IsStep (job : ℕ) (p : Place) (e : Entry) : Type 0 where
  pub own : is_of job e ≡ true
  pub may : MayVisit job p e
  pub no_look : is_look_at p.stripe p.column e ≡ false
  pub no_seen : is_seen_at p.stripe p.column e ≡ false
  pub no_stuck : is_stuck_at p.stripe p.column e ≡ false
  pub no_oddly : is_oddly_at p.stripe p.column e ≡ false

abbrev pub AreSteps : ℕ → Place → List Entry → Type 0
AreSteps job p [] = Unit {0}
AreSteps job p (e ∷ es) = IsStep job p e × AreSteps job p es

if_most : (b : Bool) (x y m : ℕ) → x ≤ m → y ≤ m → (if b then x else y) ≤ m
if_most true x y m a b = a
if_most false x y m a b = b

-- an entry leads one further at most
next_any : (s c n : ℕ) (e : Entry) → n ≤ 1 → begun_next s c n e ≤ 2
next_any s c zero e le = if_most (is_begin_at s c e) 1 0 2 (omega arith) (omega arith)
next_any s c (suc zero) e le = if_most (is_oddly_at s c e) 2 1 2 (omega arith) (omega arith)
next_any s c (suc (suc n)) e le = absurd (omega (arith, le))

-- and not over an Oddly, where it is none
next_step : (s c n : ℕ) (e : Entry) → is_oddly_at s c e ≡ false → n ≤ 1 → begun_next s c n e ≤ 1
next_step s c zero e odd le = if_most (is_begin_at s c e) 1 0 1 (omega arith) (omega arith)
next_step s c (suc zero) e odd le = (let one : (if false then 2 else 1) ≤ 1 = omega arith in subst (λ b. (if b then 2 else 1) ≤ 1) (sym odd) one)
next_step s c (suc (suc n)) e odd le = absurd (omega (arith, le))

module _ (job : ℕ) (p : Place) where
  -- a test that no step passes, goes over them
  steps_filter : (test : Entry → Bool) → ((e : Entry) → IsStep job p e → test e ≡ false) → (xs ys : List Entry) → AreSteps job p xs → filter test (xs ++ ys) ≡ filter test ys
  steps_filter test fails [] ys a = refl
  steps_filter test fails (x ∷ xs) ys a = rw (fails x a.0) (steps_filter test fails xs ys a.1)

  steps_find : (test : Entry → Bool) → ((e : Entry) → IsStep job p e → test e ≡ false) → (xs ys : List Entry) → AreSteps job p xs → find test (xs ++ ys) ≡ find test ys
  steps_find test fails [] ys a = refl
  steps_find test fails (x ∷ xs) ys a = rw (fails x a.0) (steps_find test fails xs ys a.1)

  steps_begun : (n : ℕ) (xs ys : List Entry) → AreSteps job p xs → n ≤ 1 → length ys ≤ 1 → begun_from p.stripe p.column n (xs ++ ys) ≤ 2
  steps_begun n [] [] a le short = omega (arith, le)
  steps_begun n [] (y ∷ []) a le short = next_any p.stripe p.column n y le
  steps_begun n [] (y ∷ (z ∷ ys)) a le short = absurd (omega (arith, short))
  steps_begun n (x ∷ xs) ys a le short = steps_begun (begun_next p.stripe p.column n x) xs ys a.1 (next_step p.stripe p.column n x a.0.no_oddly le) short

  steps_kinds : (xs ys : List Entry) → AreSteps job p xs → ((e : Entry) → Contains ys e → MayVisit job p e) → (e : Entry) → Contains (xs ++ ys) e → MayVisit job p e
  steps_kinds [] ys a may e has = may e has
  steps_kinds (x ∷ xs) ys a may e (zero, lt, is) = subst (MayVisit job p) is a.0.may
  steps_kinds (x ∷ xs) ys a may e (suc i, lt, is) = steps_kinds xs ys a.1 may e (i, omega (arith, lt), is)

  -- of one entry at most
  short_filter : (test : Entry → Bool) (ys : List Entry) → length ys ≤ 1 → (filter test ys ≡ []) ⊎ ((e : Entry) × (filter test ys ≡ e ∷ []))
  short_filter test [] short = inl refl
  short_filter test (y ∷ []) short = at (test y) refl
    where
      at : (b : Bool) → test y ≡ b → (filter test (y ∷ []) ≡ []) ⊎ ((e : Entry) × (filter test (y ∷ []) ≡ e ∷ []))
      at true is = inr (y, rw is refl)
      at false is = inl (rw is refl)
  short_filter test (y ∷ (z ∷ ys)) short = absurd (omega (arith, short))

  short_count : (xs : List Entry) → (xs ≡ []) ⊎ ((e : Entry) × (xs ≡ e ∷ [])) → length xs ≤ 1
  short_count xs (inl is) = (let e = ap length is in omega (arith, e))
  short_count xs (inr (x, is)) = (let e = ap length is in omega (arith, e))

  -- steps, and behind them one entry at most
  pub second_of : (xs ys : List Entry) (came : Came) → AreSteps job p xs → length ys ≤ 1 → ((e : Entry) → Contains ys e → MayVisit job p e)
      → is_some (find (is_seen_at p.stripe p.column) ys) ≡ was_seen came → EndsSecond job p (xs ++ ys) came → IsSecond job p (xs ++ ys) came
  second_of xs ys came a short may seen ends = record {
    kinds = steps_kinds xs ys a may;
    looks = subst (λ es. (es ≡ []) ⊎ ((e : Entry) × (es ≡ e ∷ []))) (sym (steps_filter (is_look_at p.stripe p.column) (λ e step. step.no_look) xs ys a)) (short_filter (is_look_at p.stripe p.column) ys short);
    one_stuck = subst (λ es. length es ≤ 1) (sym (steps_filter (is_stuck_at p.stripe p.column) (λ e step. step.no_stuck) xs ys a))
        (short_count (filter (is_stuck_at p.stripe p.column) ys) (short_filter (is_stuck_at p.stripe p.column) ys short));
    begun = steps_begun 0 xs ys a (omega arith) short;
    seen = ap is_some (steps_find (is_seen_at p.stripe p.column) (λ e step. step.no_seen) xs ys a) ∙ seen;
    ends = ends;
  }

-- ONE TURN

-- the tests for a place pass no other
elsewhere : (a b s c : ℕ) → (a ≡ s → b ≡ c → ⊥) → ((a == s) && (b == c)) ≡ false
elsewhere a b s c other = at (a == s) refl (b == c) refl
  where
    at : (x : Bool) → (a == s) ≡ x → (y : Bool) → (b == c) ≡ y → ((a == s) && (b == c)) ≡ false
    at true e true f = absurd (other (eqb-true a s e) (eqb-true b c f))
    at true e false f = rw (e, f) refl
    at false e y f = rw e refl

module _ (told : Type 0) (job : ℕ) (p : Place) (old : GroupView) (settled : IsSettled told old) (n : ℕ) (entries : List Entry) where
  -- the relay that owns the place is of its stripe and its column, and the other way round
  own_target : (f : Flight) → flight_in old.flights n ≡ Some f → Owns old.table n p.stripe p.column → (n ≡ p.stripe) × (f.relay.target ≡ p.column)
  own_target f is owns = subst (λ x. IsSomeAnd x (λ r. (n ≡ p.stripe) × (r.target ≡ p.column))) (relay_of_flight old.table old.flights n settled.relays ∙ ap relay_of is) owns

  target_own : (f : Flight) → flight_in old.flights n ≡ Some f → n ≡ p.stripe → f.relay.target ≡ p.column → Owns old.table n p.stripe p.column
  target_own f is e t = subst (λ x. IsSomeAnd x (λ r. (n ≡ p.stripe) × (r.target ≡ p.column))) (sym (relay_of_flight old.table old.flights n settled.relays ∙ ap relay_of is)) (e, t)

  abbrev OneStep : Type 0
  OneStep = (e : Entry) × (entries ≡ e ∷ []) × IsStep job p e

  -- a step of a relay after which the mend goes on
  pub went_step : (a : Mend) → GoesOn a → (own : Bool) → IsTrue own ↔ Owns old.table n p.stripe p.column → (r : Result Advanced AdvanceFault) → a ≡ answered own r → RelayEntries job n r old entries → OneStep
  went_step a go own owns (Ok advanced.Hopped) is m =
      let (f, c, q) = on_way (flight_in old.flights n) (λ f. next_column old.table f.relay) (λ f c. entries ≡ entry.Hop job n c ∷ []) m in
      (entry.Hop job n c, q, record { own = eq-eqb job job refl; may = refl; no_look = refl; no_seen = refl; no_stuck = refl; no_oddly = refl })
  went_step a go own owns (Ok advanced.Ended) is m =
      let (f, c, q) = on_way (flight_in old.flights n) (λ f. next_column old.table f.relay) (λ f c. entries ≡ entry.GaveUp job n f.relay.target c ∷ []) m in
      (entry.GaveUp job n f.relay.target c, q, record { own = eq-eqb job job refl; may = refl; no_look = refl; no_seen = refl; no_stuck = refl; no_oddly = refl })
  went_step a go own owns (Ok advanced.Mended) is m =
      let (f, at, q) = at_end (flight_in old.flights n) _ m in
      (entry.Mended job n f.relay.target, q.1, record { own = eq-eqb job job refl; may = refl; no_look = refl; no_seen = refl; no_stuck = refl; no_oddly = refl })
  went_step a go true owns (Err (failed.Odd wanted found)) is m = absurd (subst (λ x. GoesOn x) is go)
  went_step a go false owns (Err (failed.Odd wanted found)) is m =
      let (f, at, q) = at_end (flight_in old.flights n) _ m in (
        entry.Oddly job n f.relay.target found,
        q.1,
        record {
          own = eq-eqb job job refl;
          may = refl;
          no_look = refl;
          no_seen = refl;
          no_stuck = refl;
          no_oddly = elsewhere n f.relay.target p.stripe p.column (λ e t. untrue (owns.1 (target_own f at e t)));
        },
      )
    where
      untrue : IsTrue false → ⊥
      untrue e = cc
  went_step a go own owns (Err (failed.Faulted column)) is m = absurd (subst (λ x. GoesOn x) is go)
  went_step a go own owns (Err failed.LogFull) is m = absurd m
  went_step a go own owns (Err failed.Idle) is m = absurd m

  -- the place's own relay came to a block of another digest
  pub odd_entry : (wanted found : Digest) (own : Bool) → IsTrue own ↔ Owns old.table n p.stripe p.column → (r : Result Advanced AdvanceFault) → mend.Odd wanted found ≡ answered own r
      → RelayEntries job n r old entries → (f : Digest) × (entries ≡ entry.Oddly job p.stripe p.column f ∷ [])
  odd_entry wanted found true owns (Err (failed.Odd w d)) is m =
      let (f, at, q) = at_end (flight_in old.flights n) _ m in
      let here = own_target f at (owns.0 refl) in
      (d, q.1 ∙ (ap (λ x. entry.Oddly job x f.relay.target d ∷ []) here.0 ∙ ap (λ x. entry.Oddly job p.stripe x d ∷ []) here.1))
  odd_entry wanted found false owns (Err (failed.Odd w d)) is m = absurd (cc is)
  odd_entry wanted found own owns (Ok advanced.Hopped) is m = absurd (cc is)
  odd_entry wanted found own owns (Ok advanced.Ended) is m = absurd (cc is)
  odd_entry wanted found own owns (Ok advanced.Mended) is m = absurd (cc is)
  odd_entry wanted found own owns (Err (failed.Faulted column)) is m = absurd (cc is)
  odd_entry wanted found own owns (Err failed.LogFull) is m = absurd m
  odd_entry wanted found own owns (Err failed.Idle) is m = absurd m

  -- an archive failed
  pub fault_entry : (column : ℕ) (own : Bool) (r : Result Advanced AdvanceFault) → mend.Faulted column ≡ answered own r → RelayEntries job n r old entries → entries ≡ entry.Fault job n column ∷ []
  fault_entry column own (Err (failed.Faulted k)) is m = m ∙ ap (λ x. entry.Fault job n x ∷ []) (same k (sym is))
    where
      same : (k : ℕ) → mend.Faulted k ≡ mend.Faulted column → k ≡ column
      same k e = cc e
  fault_entry column own (Ok advanced.Hopped) is m = absurd (cc is)
  fault_entry column own (Ok advanced.Ended) is m = absurd (cc is)
  fault_entry column own (Ok advanced.Mended) is m = absurd (cc is)
  fault_entry column true (Err (failed.Odd w d)) is m = absurd (cc is)
  fault_entry column false (Err (failed.Odd w d)) is m = absurd (cc is)
  fault_entry column own (Err failed.LogFull) is m = absurd m
  fault_entry column own (Err failed.Idle) is m = absurd m

-- what a turn logs after which the mend goes on
pub turn_step : (told : Type 0) (job : ℕ) (p : Place) (blind : List ℕ) (a : Mend) (v w : GroupPass) → GoesOn a → (t : CallTurn told (MendCall told job p blind a) v w)
    → (e : Entry) × (t.entries ≡ e ∷ []) × IsStep job p e
turn_step told job p blind mend.Began v w go t = (
  entry.Begin job p.stripe p.column,
  t.call.tells.0,
  record { own = eq-eqb job job refl; may = (refl, refl, refl); no_look = refl; no_seen = refl; no_stuck = refl; no_oddly = refl },
)
turn_step told job p blind mend.Extends v w go t =
    let (d, m) = t.call.tells.1 in
    went_step told job p t.old t.settled_old d.stripe t.entries mend.Extends tt d.own d.owns d.result d.is m
turn_step told job p blind mend.Mended v w go t =
    let (d, m) = t.call.tells.1 in
    went_step told job p t.old t.settled_old d.stripe t.entries mend.Mended tt d.own d.owns d.result d.is m
turn_step told job p blind mend.Passed v w go t =
    let (d, m) = t.call.tells.1 in
    went_step told job p t.old t.settled_old d.stripe t.entries mend.Passed tt d.own d.owns d.result d.is m
turn_step told job p blind mend.Whole v w go t = absurd go
turn_step told job p blind (mend.TwoGone first second) v w go t = absurd go
turn_step told job p blind (mend.Odd wanted found) v w go t = absurd go
turn_step told job p blind (mend.Faulted column) v w go t = absurd go
turn_step told job p blind mend.LogFull v w go t = absurd go
