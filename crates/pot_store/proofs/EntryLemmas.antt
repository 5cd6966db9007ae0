-- Which entries the visits to a record's blocks log: those that a fetch of the record may, each
-- place being visited once.
use Rattle.std.proofs.Common.{◌≡◌, ◌≢◌, ◌<◌, ◌≤◌, ◌⊎◌, inl, inr, ⊎_elim, ℕ, zero, suc, ◌+◌, Bool, true, false, List, [], ◌∷◌, ◌++◌, length, refl, ap, sym, ◌∙◌, subst, arith, append-nil, length-append, eq-eqb}
use Rattle.std.specs.Prelude.{filter, if◌then◌else◌, ◌==◌, ◌&&◌, Contains, slice_index_or}
use Rattle.std.proofs.lemmas.List.Elements.{filter-append, Contains-append_cases, Contains-append_right}
use Rattle.std.proofs.lemmas.Bool.{cases_eq}
use Rattle.pot_bytes.specs.declared.digest.Digest.{Digest}
use Rattle.pot_bytes.specs.declared.rack.Place.{Place}
use Rattle.pot_bytes.proofs.Elements.{none_contained}
use Rattle.pot_bytes.specs.Rack.{no_place}
use Rattle.pot_machine.specs.declared.entry.Entry.{Entry}
use Rattle.pot_machine.specs.declared.entry.Entry.TheVariants as entry
use Rattle.pot_machine.specs.Logs.{is_of, own}
use Rattle.pot_machine.proofs.Logs.{own_append, own_cons}
use Rattle.pot_index.specs.declared.record.Record.{Record}
use Rattle.pot_replies.specs.Jobs.{is_look_at, is_stuck_at}
use Rattle.pot_replies.specs.Fetches.{IsOfPlace, MayFetch, LooksTwice, MendsOnce, AreReads}
use Rattle.pot_store.specs.Visits.{Visit, MayVisit, IsVisit, is_begin_at, is_oddly_at, begun_next, begun_from, place_in, logged_at, logged_from}
use Rattle.pot_store.proofs.LookLemmas.{in_group, in_other, same_place, both, hit, is_elsewhere, Apart, AreVisits, first_visit, rest_visits}

abbrev pub spot : ℕ → ℕ → ℕ → Place
spot g s c = record { group = g; column = c; stripe = s }

-- OF THE RECORD'S PLACES ALONE

pub same_default : {X : Type 0} (xs : List X) (i : ℕ) (d e : X) → i < length xs → slice_index_or xs i d ≡ slice_index_or xs i e
same_default [] i d e lt = absurd (omega (arith, lt))
same_default (x ∷ xs) zero d e lt = refl
same_default (x ∷ xs) (suc i) d e lt = same_default xs i d e (omega (arith, lt))

pub has_place : (places : List Place) (b : ℕ) → b < length places → Contains places (place_in places b)
has_place places b lt = (b, lt, same_default places b (place_in places b) no_place lt)

of_place : (kept : Record) (p : Place) (g s c : ℕ) → p.group ≡ g → s ≡ p.stripe → c ≡ p.column → Contains kept.places p → IsOfPlace kept g s c
of_place kept p g s c group stripe column has = subst (λ q. Contains kept.places q) (same_place p (spot g s c) group (sym stripe) (sym column)) has

may_one : (kept : Record) (p : Place) (job g : ℕ) (e : Entry) → p.group ≡ g → Contains kept.places p → MayVisit job p e → MayFetch kept g e
may_one kept p job g (entry.Seen j s c) same has (a, b, d) = of_place kept p g s c same b d has
may_one kept p job g (entry.Gone j s c) same has (a, b, d) = of_place kept p g s c same b d has
may_one kept p job g (entry.Begin j s c) same has (a, b, d) = of_place kept p g s c same b d has
may_one kept p job g (entry.Stuck j s c o) same has (a, b, d) = of_place kept p g s c same b d has
may_one kept p job g (entry.Hop j s c) same has may = tt
may_one kept p job g (entry.Mended j s c) same has may = tt
may_one kept p job g (entry.GaveUp j s c o) same has may = tt
may_one kept p job g (entry.Oddly j s c f) same has may = tt
may_one kept p job g (entry.Fault j s c) same has may = tt
may_one kept p job g (entry.Put j s c x d k) same has may = absurd may
may_one kept p job g (entry.Skip j s) same has may = absurd may
may_one kept p job g (entry.Broke j s c) same has may = absurd may
may_one kept p job g (entry.MoveBegin j c t) same has may = absurd may
may_one kept p job g (entry.Moved j s c k) same has may = absurd may
may_one kept p job g (entry.MoveEnd j c) same has may = absurd may
may_one kept p job g (entry.Swapped j c t) same has may = absurd may
may_one kept p job g (entry.Counted j) same has may = absurd may
may_one kept p job g (entry.Put2 j s c x d q k l) same has may = absurd may

may_at : (kept : Record) (p : Place) (job g : ℕ) (v : Visit) (e : Entry) → IsVisit job p v → Contains kept.places p → Contains (logged_at p g v) e → MayFetch kept g e
may_at kept p job g v e is has there = ⊎_elim
    (λ (same : p.group ≡ g). may_one kept p job g e same has (is.kinds e (subst (λ es. Contains es e) (in_group p g v same) there)))
    (λ (ne : p.group ≢ g). absurd (none_contained e (subst (λ es. Contains es e) (in_other p g v ne) there)))
    (cases_eq p.group g)

pub may_from : (kept : Record) (job g b : ℕ) (vs : List Visit) (e : Entry) → AreVisits job kept.places b vs → b + length vs ≤ length kept.places
    → Contains (logged_from kept.places g b vs) e → MayFetch kept g e
may_from kept job g b [] e are fits is = absurd (none_contained e is)
may_from kept job g b (v ∷ vs) e are fits is = ⊎_elim
    (λ (here : Contains (logged_at (place_in kept.places b) g v) e).
    may_at kept (place_in kept.places b) job g v e (first_visit job kept.places b v vs are) (has_place kept.places b (omega (arith, fits))) here)
    (λ (there : Contains (logged_from kept.places g (suc b) vs) e).
    may_from kept job g (suc b) vs e (rest_visits job kept.places b v vs are) (omega (arith, fits)) there)
    (Contains-append_cases (logged_at (place_in kept.places b) g v) (logged_from kept.places g (suc b) vs) e is)

-- WHAT PASSES A TEST OF ONE PLACE

pub none_passes : (test : Entry → Bool) (es : List Entry) → ((e : Entry) → Contains es e → test e ≡ false) → filter test es ≡ []
none_passes test [] none = refl
none_passes test (e ∷ es) none = rw (none e (zero, omega arith, refl)) (none_passes test es (λ x has. none x (Contains-append_right (e ∷ []) es x has)))

-- it stands in the visit to that place
module _ (job : ℕ) (places : List Place) (g s c : ℕ) (test : Entry → Bool)
    (passes : (p : Place) (e : Entry) → ((p.stripe == s) && (p.column == c)) ≡ false → MayVisit job p e → test e ≡ false) where
  at_place : (p : Place) (v : Visit) → IsVisit job p v → (filter test (logged_at p g v) ≡ []) ⊎ ((p ≡ spot g s c) × (logged_at p g v ≡ v.entries))
  at_place p v is = ⊎_elim
      (λ (same : p.group ≡ g). ⊎_elim
      (λ (on : (p.stripe ≡ s) × (p.column ≡ c)). inr (same_place p (spot g s c) same on.0 on.1, in_group p g v same))
      (λ (off : ((p.stripe == s) && (p.column == c)) ≡ false). inl (ap (filter test) (in_group p g v same) ∙ none_passes test v.entries (λ e has. passes p e off (is.kinds e has))))
      (both p.stripe p.column s c))
      (λ (ne : p.group ≢ g). inl (ap (filter test) (in_other p g v ne)))
      (cases_eq p.group g)

  pub none_of : (b : ℕ) (vs : List Visit) → AreVisits job places b vs → ((x : ℕ) → x < length vs → place_in places (b + x) ≢ spot g s c) → filter test (logged_from places g b vs) ≡ []
  none_of b [] are other = refl
  none_of b (v ∷ vs) are other =
      let here : place_in places b ≢ spot g s c = (let e : b + 0 ≡ b = omega arith in subst (λ n. place_in places n ≢ spot g s c) e (other 0 (omega arith))) in
      let there : (x : ℕ) → x < length vs → place_in places (suc b + x) ≢ spot g s c =
      λ x lt. (let e : b + suc x ≡ suc b + x = omega arith in subst (λ n. place_in places n ≢ spot g s c) e (other (suc x) (omega (arith, lt)))) in
      let first : filter test (logged_at (place_in places b) g v) ≡ [] =
      ⊎_elim (λ (none : filter test (logged_at (place_in places b) g v) ≡ []). none)
      (λ (on : (place_in places b ≡ spot g s c) × (logged_at (place_in places b) g v ≡ v.entries)). absurd (here on.0))
      (at_place (place_in places b) v (first_visit job places b v vs are)) in
      filter-append test (logged_at (place_in places b) g v) (logged_from places g (suc b) vs)
      ∙ (ap (λ l. l ++ filter test (logged_from places g (suc b) vs)) first ∙ none_of (suc b) vs (rest_visits job places b v vs are) there)

  -- behind the visit to the place there is none
  none_behind : (n b : ℕ) (vs : List Visit) → Apart places n → suc b + length vs ≤ n → AreVisits job places (suc b) vs → place_in places b ≡ spot g s c
      → filter test (logged_from places g (suc b) vs) ≡ []
  none_behind n b vs apart fits are on =
      none_of (suc b) vs are (λ x lt same. (let twice : suc b + x ≡ b = apart (suc b + x) b (omega (arith, fits, lt)) (omega (arith, fits)) (same ∙ sym on) in omega (arith, twice)))

  abbrev pub OneOf : ℕ → List Visit → Type 0
  OneOf b vs =
      (filter test (logged_from places g b vs) ≡ [])
      ⊎ ((v : Visit) × IsVisit job (spot g s c) v × (filter test (logged_from places g b vs) ≡ filter test v.entries))

  pub one_of : (n b : ℕ) (vs : List Visit) → Apart places n → b + length vs ≤ n → AreVisits job places b vs → OneOf b vs
  one_of n b [] apart fits are = inl refl
  one_of n b (v ∷ vs) apart fits are =
      let split = filter-append test (logged_at (place_in places b) g v) (logged_from places g (suc b) vs) in
      let is : IsVisit job (place_in places b) v = first_visit job places b v vs are in
      let next : AreVisits job places (suc b) vs = rest_visits job places b v vs are in
      ⊎_elim
      (λ (none : filter test (logged_at (place_in places b) g v) ≡ []).
      let same : filter test (logged_from places g b (v ∷ vs)) ≡ filter test (logged_from places g (suc b) vs) =
      split ∙ ap (λ l. l ++ filter test (logged_from places g (suc b) vs)) none in
      ⊎_elim (λ (e : filter test (logged_from places g (suc b) vs) ≡ []). inl (same ∙ e))
      (λ (one : (w : Visit) × IsVisit job (spot g s c) w × (filter test (logged_from places g (suc b) vs) ≡ filter test w.entries)). inr (one.0, one.1, same ∙ one.2))
      (one_of n (suc b) vs apart (omega (arith, fits)) next))
      (λ (on : (place_in places b ≡ spot g s c) × (logged_at (place_in places b) g v ≡ v.entries)).
      inr (
        v,
        subst (λ p. IsVisit job p v) on.0 is,
        split
            ∙ (ap (λ l. filter test (logged_at (place_in places b) g v) ++ l) (none_behind n b vs apart (omega (arith, fits)) next on.0)
            ∙ (append-nil (filter test (logged_at (place_in places b) g v)) ∙ ap (filter test) on.1)),
      ))
      (at_place (place_in places b) v is)

-- LOOKS

-- how often a place is looked at depends on the looks there alone
looks_same : (job s c : ℕ) (es fs : List Entry) → filter (is_look_at s c) es ≡ filter (is_look_at s c) fs → LooksTwice job s c fs → LooksTwice job s c es
looks_same job s c es fs same (inl none) = inl (same ∙ none)
looks_same job s c es fs same (inr (inl (e, one))) = inr (inl (e, same ∙ one))
looks_same job s c es fs same (inr (inr (e, two))) = inr (inr (e, same ∙ two))

module _ (job : ℕ) (places : List Place) (n : ℕ) (vs : List Visit) (apart : Apart places n) (fits : length vs ≤ n) (are : AreVisits job places 0 vs) where
  pub looks_twice : (g s c : ℕ) → LooksTwice job s c (logged_from places g 0 vs)
  looks_twice g s c = ⊎_elim
      (λ (none : filter (is_look_at s c) (logged_from places g 0 vs) ≡ []). inl none)
      (λ (one : (v : Visit) × IsVisit job (spot g s c) v × (filter (is_look_at s c) (logged_from places g 0 vs) ≡ filter (is_look_at s c) v.entries)).
      looks_same job s c (logged_from places g 0 vs) one.0.entries one.2 one.1.looks)
      (one_of job places g s c (is_look_at s c) (λ p e off may. (is_elsewhere job p s c off e may).look) n 0 vs apart (omega (arith, fits)) are)

  pub one_stuck : (g s c : ℕ) → length (filter (is_stuck_at s c) (logged_from places g 0 vs)) ≤ 1
  one_stuck g s c = ⊎_elim
      (λ (none : filter (is_stuck_at s c) (logged_from places g 0 vs) ≡ []). (let z = ap length none in omega (arith, z)))
      (λ (one : (v : Visit) × IsVisit job (spot g s c) v × (filter (is_stuck_at s c) (logged_from places g 0 vs) ≡ filter (is_stuck_at s c) v.entries)).
      (let e = ap length one.2 in let l = one.1.one_stuck in omega (arith, e, l)))
      (one_of job places g s c (is_stuck_at s c) (λ p e off may. (is_elsewhere job p s c off e may).stuck) n 0 vs apart (omega (arith, fits)) are)

-- RELAYS BEGUN ANEW

pub begun_append : (s c n : ℕ) (x y : List Entry) → begun_from s c n (x ++ y) ≡ begun_from s c (begun_from s c n x) y
begun_append s c n [] y = refl
begun_append s c n (e ∷ x) y = begun_append s c (begun_next s c n e) x y

-- where no entry passes a test, the first does not, and no later one
first_fails : (test : Entry → Bool) (e : Entry) (es : List Entry) → filter test (e ∷ es) ≡ [] → (test e ≡ false) × (filter test es ≡ [])
first_fails test e es none = at (test e) refl
  where
    at : (b : Bool) → test e ≡ b → (test e ≡ false) × (filter test es ≡ [])
    at true is = absurd (let h : e ∷ filter test es ≡ [] = subst (λ b. (if b then e ∷ filter test es else filter test es) ≡ []) is none in cc h)
    at false is = (is, subst (λ b. (if b then e ∷ filter test es else filter test es) ≡ []) is none)

-- where none begins at the place
begun_none : (s c : ℕ) (es : List Entry) → filter (is_begin_at s c) es ≡ [] → begun_from s c 0 es ≡ 0
begun_none s c [] none = refl
begun_none s c (e ∷ es) none = (let h = first_fails (is_begin_at s c) e es none in rw h.0 (begun_none s c es h.1))

low_next : (s c n : ℕ) (e : Entry) → is_begin_at s c e ≡ false → n ≤ 2 → begun_next s c n e ≤ 2
low_next s c zero e is le = rw is (omega arith)
low_next s c (suc zero) e is le = at (is_oddly_at s c e)
  where
    at : (b : Bool) → (if b then 2 else 1) ≤ 2
    at true = omega arith
    at false = omega arith
low_next s c (suc (suc zero)) e is le = rw is (omega arith)
low_next s c (suc (suc (suc n))) e is le = absurd (omega (arith, le))

pub begun_low : (s c n : ℕ) (es : List Entry) → n ≤ 2 → filter (is_begin_at s c) es ≡ [] → begun_from s c n es ≤ 2
begun_low s c n [] low none = low
begun_low s c n (e ∷ es) low none = (let h = first_fails (is_begin_at s c) e es none in begun_low s c (begun_next s c n e) es (low_next s c n e h.0 low) h.1)

-- no visits but those to the place begin one there, and none of these comes to an end
module _ (job : ℕ) (places : List Place) (g s c n : ℕ) (apart : Apart places n) where
  passes : (p : Place) (e : Entry) → ((p.stripe == s) && (p.column == c)) ≡ false → MayVisit job p e → is_begin_at s c e ≡ false
  passes p e off may = (is_elsewhere job p s c off e may).begin

  pub begun_all : (b : ℕ) (vs : List Visit) → b + length vs ≤ n → AreVisits job places b vs → begun_from s c 0 (logged_from places g b vs) ≤ 2
  begun_all b [] fits are = omega arith
  begun_all b (v ∷ vs) fits are =
      let here : List Entry = logged_at (place_in places b) g v in
      let behind : List Entry = logged_from places g (suc b) vs in
      let is : IsVisit job (place_in places b) v = first_visit job places b v vs are in
      let next : AreVisits job places (suc b) vs = rest_visits job places b v vs are in
      let split : begun_from s c 0 (here ++ behind) ≡ begun_from s c (begun_from s c 0 here) behind = begun_append s c 0 here behind in
      ⊎_elim
      (λ (none : filter (is_begin_at s c) here ≡ []).
      let e : begun_from s c 0 (here ++ behind) ≡ begun_from s c 0 behind = split ∙ ap (λ m. begun_from s c m behind) (begun_none s c here none) in
      let low = begun_all (suc b) vs (omega (arith, fits)) next in omega (arith, e, low))
      (λ (on : (place_in places b ≡ spot g s c) × (here ≡ v.entries)).
      let at : IsVisit job (spot g s c) v = subst (λ p. IsVisit job p v) on.0 is in
      let low : begun_from s c 0 here ≤ 2 = (let l = at.begun in let e = ap (begun_from s c 0) on.1 in omega (arith, l, e)) in
      let none = none_behind job places g s c (is_begin_at s c) passes n b vs apart (omega (arith, fits)) next on.0 in
      let end = begun_low s c (begun_from s c 0 here) behind low none in omega (arith, split, end))
      (at_place job places g s c (is_begin_at s c) passes (place_in places b) v is)

-- it never goes back
next_rises : (s c n : ℕ) (e : Entry) → n ≤ begun_next s c n e
next_rises s c zero e = omega arith
next_rises s c (suc zero) e = at (is_oddly_at s c e)
  where
    at : (b : Bool) → 1 ≤ (if b then 2 else 1)
    at true = omega arith
    at false = omega arith
next_rises s c (suc (suc zero)) e = at (is_begin_at s c e)
  where
    at : (b : Bool) → 2 ≤ (if b then 3 else 2)
    at true = omega arith
    at false = omega arith
next_rises s c (suc (suc (suc n))) e = omega arith

begun_rises : (s c n : ℕ) (es : List Entry) → n ≤ begun_from s c n es
begun_rises s c n [] = omega arith
begun_rises s c n (e ∷ es) = (let a = next_rises s c n e in let b = begun_rises s c (begun_next s c n e) es in omega (arith, a, b))

at_begin : (j s c n : ℕ) → 1 ≤ begun_next s c n (entry.Begin j s c)
at_begin j s c zero = rw (hit s c s c refl refl) (omega arith)
at_begin j s c (suc zero) = omega arith
at_begin j s c (suc (suc zero)) = rw (hit s c s c refl refl) (omega arith)
at_begin j s c (suc (suc (suc n))) = omega arith

at_oddly : (j s c n : ℕ) (f : Digest) → 1 ≤ n → 2 ≤ begun_next s c n (entry.Oddly j s c f)
at_oddly j s c zero f le = absurd (omega (arith, le))
at_oddly j s c (suc zero) f le = rw (hit s c s c refl refl) (omega arith)
at_oddly j s c (suc (suc zero)) f le = omega arith
at_oddly j s c (suc (suc (suc n))) f le = omega arith

at_last : (j s c n : ℕ) → 2 ≤ n → 3 ≤ begun_next s c n (entry.Begin j s c)
at_last j s c zero le = absurd (omega (arith, le))
at_last j s c (suc zero) le = absurd (omega (arith, le))
at_last j s c (suc (suc zero)) le = rw (hit s c s c refl refl) (omega arith)
at_last j s c (suc (suc (suc n))) le = omega arith

-- a relay that began anew behind the Oddly of one before brings it to the end
begun_anew : (j s c : ℕ) (f : Digest) (x t y z : List Entry) → 3 ≤ begun_from s c 0 ((x ++ entry.Begin j s c ∷ (t ++ entry.Oddly j s c f ∷ y)) ++ entry.Begin j s c ∷ z)
begun_anew j s c f x t y z =
    let front : List Entry = x ++ entry.Begin j s c ∷ (t ++ entry.Oddly j s c f ∷ y) in
    let a : ℕ = begun_next s c (begun_from s c 0 x) (entry.Begin j s c) in
    let one : 1 ≤ begun_from s c a t = (let b = at_begin j s c (begun_from s c 0 x) in let r = begun_rises s c a t in omega (arith, b, r)) in
    let d : ℕ = begun_next s c (begun_from s c a t) (entry.Oddly j s c f) in
    let two : 2 ≤ begun_from s c d y = (let b = at_oddly j s c (begun_from s c a t) f one in let r = begun_rises s c d y in omega (arith, b, r)) in
    let at : begun_from s c 0 front ≡ begun_from s c d y =
    begun_append s c 0 x (entry.Begin j s c ∷ (t ++ entry.Oddly j s c f ∷ y)) ∙ begun_append s c a t (entry.Oddly j s c f ∷ y) in
    let h : ℕ = begun_next s c (begun_from s c 0 front) (entry.Begin j s c) in
    let three : 3 ≤ begun_from s c h z = (let b = at_last j s c (begun_from s c 0 front) (omega (arith, at, two)) in let r = begun_rises s c h z in omega (arith, b, r)) in
    let all = begun_append s c 0 front (entry.Begin j s c ∷ z) in
    omega (arith, all, three)

-- THE RULES OF A JOB THAT MENDS

module _ (job : ℕ) (places : List Place) (n : ℕ) (vs : List Visit) (apart : Apart places n) (fits : length vs ≤ n) (are : AreVisits job places 0 vs) where
  none_again : (g : ℕ) (added more : List Entry) → own job added ≡ logged_from places g 0 vs ++ more → ((s c : ℕ) → filter (is_begin_at s c) more ≡ []) → (s c : ℕ) (f : Digest) (x t y z : List Entry)
      → added ≡ (x ++ entry.Begin job s c ∷ (t ++ entry.Oddly job s c f ∷ y)) ++ entry.Begin job s c ∷ z → ⊥
  none_again g added more is quiet s c f x t y z at =
      let b : Entry = entry.Begin job s c in
      let o : Entry = entry.Oddly job s c f in
      let mine : is_of job b ≡ true = eq-eqb job job refl in
      let odd : is_of job o ≡ true = eq-eqb job job refl in
      let inner : own job (t ++ o ∷ y) ≡ own job t ++ o ∷ own job y = own_append job t (o ∷ y) ∙ ap (λ l. own job t ++ l) (own_cons job o y odd) in
      let front : own job (x ++ b ∷ (t ++ o ∷ y)) ≡ own job x ++ b ∷ (own job t ++ o ∷ own job y) =
      own_append job x (b ∷ (t ++ o ∷ y)) ∙ ap (λ l. own job x ++ l) (own_cons job b (t ++ o ∷ y) mine ∙ ap (λ l. b ∷ l) inner) in
      let all : own job added ≡ (own job x ++ b ∷ (own job t ++ o ∷ own job y)) ++ b ∷ own job z =
      ap (own job) at ∙ (own_append job (x ++ b ∷ (t ++ o ∷ y)) (b ∷ z)
      ∙ (ap (λ l. l ++ own job (b ∷ z)) front ∙ ap (λ l. (own job x ++ b ∷ (own job t ++ o ∷ own job y)) ++ l) (own_cons job b z mine))) in
      let high = begun_anew job s c f (own job x) (own job t) (own job y) (own job z) in
      let low = begun_low s c (begun_from s c 0 (logged_from places g 0 vs)) more (begun_all job places g s c n apart 0 vs (omega (arith, fits)) are) (quiet s c) in
      let same : begun_from s c (begun_from s c 0 (logged_from places g 0 vs)) more ≡ begun_from s c 0 ((own job x ++ b ∷ (own job t ++ o ∷ own job y)) ++ b ∷ own job z) =
      sym (begun_append s c 0 (logged_from places g 0 vs) more) ∙ ap (begun_from s c 0) (sym is ∙ all) in
      omega (arith, high, low, same)

  -- and of one that behind these visits begins no relay and logs no Stuck
  pub mends_then : (g : ℕ) (added more : List Entry) → own job added ≡ logged_from places g 0 vs ++ more → ((s c : ℕ) → filter (is_begin_at s c) more ≡ [])
      → ((s c : ℕ) → filter (is_stuck_at s c) more ≡ []) → MendsOnce job added
  mends_then g added more is quiet none_stuck = record {
    one_stuck = λ s c.
        (let e = ap (λ es. length (filter (is_stuck_at s c) es)) is in let l = one_stuck job places n vs apart fits are g s c in
        let a = ap length (filter-append (is_stuck_at s c) (logged_from places g 0 vs) more) in
        let b = length-append (filter (is_stuck_at s c) (logged_from places g 0 vs)) (filter (is_stuck_at s c) more) in
        let d = ap length (none_stuck s c) in
        omega (arith, e, l, a, b, d));
    none_again = λ s c f x t y z at none. none_again g added more is quiet s c f x t y z at;
  }

  pub mends_from : (g : ℕ) (added : List Entry) → own job added ≡ logged_from places g 0 vs → MendsOnce job added
  mends_from g added is = mends_then g added [] (is ∙ sym (append-nil (logged_from places g 0 vs))) (λ s c. refl) (λ s c. refl)

-- what a fetch of the record may log
pub reads_from : (kept : Record) (job : ℕ) (vs : List Visit) (logs : ℕ → List Entry) → ((g : ℕ) → logs g ≡ logged_from kept.places g 0 vs)
    → Apart kept.places (length kept.places) → length vs ≤ length kept.places → AreVisits job kept.places 0 vs → AreReads kept job logs
reads_from kept job vs logs log apart fits are = record {
  kinds = λ g e has. may_from kept job g 0 vs e are (omega (arith, fits)) (subst (λ es. Contains es e) (log g) has);
  looks = λ g s c. subst (LooksTwice job s c) (sym (log g)) (looks_twice job kept.places (length kept.places) vs apart fits are g s c);
}
