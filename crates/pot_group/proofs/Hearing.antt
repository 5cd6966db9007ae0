-- What a group's archives may have heard, over losses and folds, over an archive that comes and
-- over the entries of its calls.
use Rattle.std.proofs.Common.{◌≡◌, ◌≢◌, ◌⊎◌, inl, inr, ℕ, suc, ◌+◌, ◌≤◌, ◌++◌, length, length-append, arith, List, [], ◌∷◌, Some, IsSomeAnd, refl, sym, ap, ap₂, ◌∙◌, subst, map, All}
use Rattle.std.specs.Prelude.{Contains, Result, Ok, Err}
use Rattle.std.proofs.lemmas.Bool.{cases_eq}
use Rattle.std.proofs.lemmas.List.Elements.{Contains-push_cases, All-head, All-tail}
use Rattle.pot_outside.specs.Archives.{Meaning, HearsFold}
use Rattle.pot_outside.specs.declared.archive.Held.{Held as IsHeld}
use Rattle.pot_outside.specs.declared.faults.Failed.{Failed}
use Rattle.pot_machine.specs.declared.entry.Entry.{Entry}
use Rattle.pot_machine.specs.declared.entry.Entry.TheVariants.{Gone, Broke, Begin}
use Rattle.pot_machine.specs.Table.{Table, serving_at, next_column}
use Rattle.pot_machine.specs.Machine.{Replays, after}
use Rattle.pot_steps.specs.declared.flight.Flight.{Flight}
use Rattle.pot_steps.specs.Flights.{flight_in, flights_after}
use Rattle.pot_shelves.specs.Shelves.{Shelves, Keeps, Brings}
use Rattle.pot_group.specs.Heard.{Sum, GivesBlock, FlyBy, IsSumOf, FoldedBy, HasHeard, begins, blinds_in, blinds_after}
use Rattle.pot_group.proofs.CauseLemmas.{OfOpening}

-- HOW MANY BLINDS

-- one more at a Begin
pub begins_more : (log : List Entry) (e : Entry) (given : List ℕ) (bs : List (List ℕ)) → length bs ≡ begins log → length (blinds_after e given bs) ≡ begins (log ++ e ∷ [])
begins_more [] (Begin job s c) given bs h = length-append bs (given ∷ []) ∙ ap (λ n. n + 1) h
begins_more [] _ given bs h = h
begins_more (Begin job s c ∷ log) e given [] h = absurd (omega (arith, h))
begins_more (Begin job s c ∷ log) e given (b ∷ bs) h = one e (begins_more log e given bs (omega (arith, h)))
  where
    one : (e : Entry) → length (blinds_after e given bs) ≡ begins (log ++ e ∷ []) → length (blinds_after e given (b ∷ bs)) ≡ suc (begins (log ++ e ∷ []))
    one (Begin job s c) q = ap suc q
    one _ q = ap suc q
begins_more (_ ∷ log) e given bs h = begins_more log e given bs h

-- no more than there are entries
pub begins_few : (log : List Entry) → begins log ≤ length log
begins_few [] = omega arith
begins_few (Begin job s c ∷ log) = let h : begins log ≤ length log = begins_few log in omega arith
begins_few (_ ∷ log) = let h : begins log ≤ length log = begins_few log in omega arith

-- ONE ENTRY MORE

folded_more : (t : Table) (fs : List Flight) (log : List Entry) (gs : List (List ℕ)) (e : Entry) (given : List ℕ) (n : ℕ) (x : Sum) → FoldedBy t fs log gs n x → FoldedBy t fs (log ++ e ∷ []) (gs ++ given ∷ []) n x
folded_more t fs [] [] e given n x h = inl h
folded_more t fs [] (g ∷ gs) e given n x h = inl h
folded_more t fs (y ∷ log) [] e given n x h = absurd h
folded_more t fs (y ∷ log) (g ∷ gs) e given n x (inl h) = inl h
folded_more t fs (y ∷ log) (g ∷ gs) e given n x (inr h) = inr (folded_more (after t y) (flights_after t y g fs) log gs e given n x h)

folded_now : (t u : Table) (fs us : List Flight) (log : List Entry) (gs : List (List ℕ)) (n : ℕ) (x : Sum) → Replays t log u → FlyBy t fs log gs us → IsSumOf u us n x → FoldedBy t fs log gs n x
folded_now t u fs us [] gs n x r f h = subst (λ v. IsSumOf v fs n x) r (subst (λ ws. IsSumOf u ws n x) f.1 h)
folded_now t u fs us (y ∷ log) [] n x r f h = absurd f
folded_now t u fs us (y ∷ log) (g ∷ gs) n x r f h = inr (folded_now (after t y) u (flights_after t y g fs) us log gs n x r.1 f.1 h)

fly_more : (t u : Table) (fs us : List Flight) (log : List Entry) (gs : List (List ℕ)) (e : Entry) (given : List ℕ) → Replays t log u → FlyBy t fs log gs us → GivesBlock u us e given
    → FlyBy t fs (log ++ e ∷ []) (gs ++ given ∷ []) (flights_after u e given us)
fly_more t u fs us [] [] e given r f g = (subst (λ v. GivesBlock v fs e given) r (subst (λ ws. GivesBlock u ws e given) f.1 g), (refl, ap₂ (λ v ws. flights_after v e given ws) r f.1))
fly_more t u fs us [] (y ∷ gs) e given r f g = absurd (no f.0)
  where
    no : y ∷ gs ≡ [] → ⊥
    no q = cc
fly_more t u fs us (y ∷ log) [] e given r f g = absurd f
fly_more t u fs us (y ∷ log) (x ∷ gs) e given r f g = (f.0, fly_more (after t y) u (flights_after t y x fs) us log gs e given r.1 f.1 g)

-- the blinds of one entry more
blinds_more : (t u : Table) (fs us : List Flight) (log : List Entry) (gs : List (List ℕ)) (e : Entry) (given : List ℕ) → FlyBy t fs log gs us → blinds_in (log ++ e ∷ []) (gs ++ given ∷ []) ≡ blinds_after e given (blinds_in log gs)
blinds_more t u fs us [] [] (Begin job s c) given f = refl
blinds_more t u fs us [] [] _ given f = refl
blinds_more t u fs us [] (y ∷ gs) e given f = absurd (no f.0)
  where
    no : y ∷ gs ≡ [] → ⊥
    no q = cc
blinds_more t u fs us (y ∷ log) [] e given f = absurd f
blinds_more t u fs us (y ∷ log) (x ∷ gs) e given f =
    front y (log ++ e ∷ []) (gs ++ given ∷ []) e given (blinds_more (after t y) u (flights_after t y x fs) us log gs e given f.1)
  where
    front : (y : Entry) (more : List Entry) (others : List (List ℕ)) (e : Entry) (given : List ℕ) → blinds_in more others ≡ blinds_after e given (blinds_in log gs)
        → blinds_in (y ∷ more) (x ∷ others) ≡ blinds_after e given (blinds_in (y ∷ log) (x ∷ gs))
    front (Begin job s c) more others e given h = ap (λ l. x ∷ l) h ∙ one e given (blinds_in log gs)
      where
        one : (e : Entry) (given : List ℕ) (bs : List (List ℕ)) → x ∷ blinds_after e given bs ≡ blinds_after e given (x ∷ bs)
        one (Begin job s c) given bs = refl
        one _ given bs = refl
    front _ more others e given h = h

-- the archives lose blocks and hear, if they hear, the sum of a flight
pub heard_on : (first t : Table) (log : List Entry) (bs : List (List ℕ)) (fs : List Flight) (a b : Shelves) → Replays first log t → Keeps a b → ((n : ℕ) (x : Sum) → Contains (b.heard n) x → Contains (a.heard n) x ⊎ IsSumOf t fs n x) → HasHeard first log bs fs a
    → HasHeard first log bs fs b
heard_on first t log bs fs a b replay keeps new h = record {
  givens = h.givens;
  are = h.are;
  fly = h.fly;
  sums = λ n x c. subst (λ (k : Meaning). Contains k.heard x ⊎ FoldedBy first [] log h.givens n x) (sym (keeps.taken n)) (elim (new n x c) [
    | inl before ↦ h.sums n x before
    | inr now ↦ inr (folded_now first t [] fs log h.givens n x replay h.fly now)
  ]);
}

-- one entry, over archives that heard nothing
pub heard_entry : (first t : Table) (log : List Entry) (e : Entry) (given : List ℕ) (bs : List (List ℕ)) (fs : List Flight) (a b : Shelves) → Replays first log t → Keeps a b → ((n : ℕ) → b.heard n ≡ a.heard n) → GivesBlock t fs e given → HasHeard first log bs fs a
    → HasHeard first (log ++ e ∷ []) (blinds_after e given bs) (flights_after t e given fs) b
heard_entry first t log e given bs fs a b replay keeps same gives h = record {
  givens = h.givens ++ given ∷ [];
  are = ap (blinds_after e given) h.are ∙ sym (blinds_more first t [] fs log h.givens e given h.fly);
  fly = fly_more first t [] fs log h.givens e given replay h.fly gives;
  sums = λ n x c. subst (λ (k : Meaning). Contains k.heard x ⊎ FoldedBy first [] (log ++ e ∷ []) (h.givens ++ given ∷ []) n x) (sym (keeps.taken n)) (elim (h.sums n x (subst (λ l. Contains l x) (same n) c)) [
    | inl before ↦ inl before
    | inr now ↦ inr (folded_more first [] log h.givens e given n x now)
  ]);
}

-- an archive that comes has heard what it was taken with
pub heard_brings : (told : Type 0) (first : Table) (log : List Entry) (bs : List (List ℕ)) (fs : List Flight) (number : ℕ) (meant : Meaning) (a b : Shelves) → Brings told number meant a b → HasHeard first log bs fs a → HasHeard first log bs fs b
heard_brings told first log bs fs number meant a b brings h = record {
  givens = h.givens;
  are = h.are;
  fly = h.fly;
  sums = λ n x c. elim (cases_eq n number) [
    | inl e ↦ inl (subst (λ k. Contains (b.taken k).heard x) (sym e) (subst (λ l. Contains l x) (ap (λ k. b.heard k) e ∙ brings.sums ∙ sym (ap (λ (k : Meaning). k.heard) brings.taken)) c))
    | inr ne ↦ subst (λ (k : Meaning). Contains k.heard x ⊎ FoldedBy first [] log h.givens n x) (sym (brings.same_taken n ne)) (h.sums n x (subst (λ l. Contains l x) (brings.same_heard n ne) c))
  ];
}

-- AN OPENING

fly_opening : (t : Table) (log : List Entry) → All OfOpening log → FlyBy t [] log (map (λ e. []) log) []
fly_opening t [] all = (refl, refl)
fly_opening t (e ∷ log) all = one e (All-head OfOpening e log all) (λ u. fly_opening u log (All-tail OfOpening e log all))
  where
    one : (e : Entry) → OfOpening e → ((u : Table) → FlyBy u [] log (map (λ e. []) log) []) → FlyBy t [] (e ∷ log) (map (λ e. []) (e ∷ log)) []
    one (Gone job s c) o f = (tt, f (after t (Gone job s c)))
    one (Broke job s c) o f = (tt, f (after t (Broke job s c)))
    one _ o f = absurd o

blinds_opening : (log : List Entry) → All OfOpening log → blinds_in log (map (λ e. []) log) ≡ []
blinds_opening [] all = refl
blinds_opening (e ∷ log) all = one e (All-head OfOpening e log all) (blinds_opening log (All-tail OfOpening e log all))
  where
    one : (e : Entry) → OfOpening e → blinds_in log (map (λ e. []) log) ≡ [] → blinds_in (e ∷ log) (map (λ e. []) (e ∷ log)) ≡ []
    one (Gone job s c) o h = h
    one (Broke job s c) o h = h
    one _ o h = absurd o

pub begins_opening : (log : List Entry) → All OfOpening log → begins log ≡ 0
begins_opening [] all = refl
begins_opening (e ∷ log) all = one e (All-head OfOpening e log all) (begins_opening log (All-tail OfOpening e log all))
  where
    one : (e : Entry) → OfOpening e → begins log ≡ 0 → begins (e ∷ log) ≡ 0
    one (Gone job s c) o h = h
    one (Broke job s c) o h = h
    one _ o h = absurd o

-- a group that was opened over archives that heard nothing since they were taken
pub heard_opened : (t : Table) (log : List Entry) (s : Shelves) → All OfOpening log → ((n : ℕ) → s.heard n ≡ (s.taken n).heard) → HasHeard t log [] [] s
heard_opened t log s all same = record {
  givens = map (λ e. []) log;
  are = sym (blinds_opening log all);
  fly = fly_opening t log all;
  sums = λ n x c. inl (subst (λ l. Contains l x) (same n) c);
}

-- A FOLD

-- the archive that a flight comes to hears its sum
pub heard_fold : (t : Table) (fs : List Flight) (f : Flight) (s c : ℕ) (r : Result IsHeld Failed) (a b : Shelves) → flight_in fs s ≡ Some f → next_column t f.relay ≡ Some c
    → HearsFold (a.heard (serving_at t s c)) (b.heard (serving_at t s c)) s f.sum r → ((n : ℕ) → n ≢ serving_at t s c → b.heard n ≡ a.heard n)
    → (n : ℕ) (x : Sum) → Contains (b.heard n) x → Contains (a.heard n) x ⊎ IsSumOf t fs n x
heard_fold t fs f s c r a b here next hears silent n x h = elim (cases_eq n (serving_at t s c)) [
  | inl e ↦ subst (λ k. Contains (a.heard k) x ⊎ IsSumOf t fs k x) (sym e) (there r hears (subst (λ k. Contains (b.heard k) x) e h))
  | inr ne ↦ inl (subst (λ l. Contains l x) (silent n ne) h)
]
  where
    is_sum : IsSumOf t fs (serving_at t s c) (s, f.sum)
    is_sum = (c, refl, subst (λ o. IsSomeAnd o (λ g. (next_column t g.relay ≡ Some c) × (f.sum ≡ g.sum))) (sym here) (next, refl))

    pushed : b.heard (serving_at t s c) ≡ a.heard (serving_at t s c) ++ (s, f.sum) ∷ [] → Contains (b.heard (serving_at t s c)) x → Contains (a.heard (serving_at t s c)) x ⊎ IsSumOf t fs (serving_at t s c) x
    pushed e h = elim (Contains-push_cases (a.heard (serving_at t s c)) (s, f.sum) x (subst (λ l. Contains l x) e h)) [ inl y ↦ inl y | inr y ↦ inr (subst (λ (y : Sum). IsSumOf t fs (serving_at t s c) y) y is_sum) ]

    there : (r : Result IsHeld Failed) → HearsFold (a.heard (serving_at t s c)) (b.heard (serving_at t s c)) s f.sum r → Contains (b.heard (serving_at t s c)) x → Contains (a.heard (serving_at t s c)) x ⊎ IsSumOf t fs (serving_at t s c) x
    there (Ok k) e h = pushed e h
    there (Err k) (inl e) h = inl (subst (λ l. Contains l x) e h)
    there (Err k) (inr e) h = pushed e h
