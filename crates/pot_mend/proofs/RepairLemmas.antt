-- What a repair logged, entry by entry.
use Rattle.std.proofs.Common.{◌≡◌, ◌≢◌, ◌≤◌, ◌⊎◌, inl, inr, ⊎_elim, ℕ, zero, suc, ◌+◌, true, List, [], ◌∷◌, ◌++◌, length, refl, ap, sym, ◌∙◌, subst, arith, append_assoc, length-append, eq-eqb, ne_eqb}
use Rattle.std.specs.Prelude.{Contains, filter}
use Rattle.std.proofs.lemmas.List.Elements.{Contains-append_left, Contains-append_right, Contains-append_cases}
use Rattle.std.proofs.lemmas.Bool.{cases_eq}
use Rattle.pot_bytes.specs.declared.digest.Digest.{Digest}
use Rattle.pot_bytes.proofs.Elements.{one_contained}
use Rattle.pot_machine.specs.declared.entry.Entry.{Entry}
use Rattle.pot_machine.specs.declared.entry.Entry.TheVariants as entry
use Rattle.pot_replies.specs.Jobs.{is_relay, is_mended, is_left, is_stuck_at, Precedes}
use Rattle.pot_shared.specs.Blinds.{is_begin}
use Rattle.pot_mend.specs.Repairs.{NotOdd, NoneAgain, AreRepairs, WasLeft}
use Rattle.pot_mend.proofs.OrderLemmas.{AtOrAfter, not_before, precedes_more}
use Rattle.pot_mend.proofs.EntryLemmas.{count_one, each_more}

-- LISTS

-- a part of a list with one more element is a part of the list, or ends with that element
pub at_last : {E : Type 0} (xs us vs : List E) (e v : E) → xs ++ e ∷ [] ≡ us ++ v ∷ vs
    → ((e ≡ v) × (xs ≡ us)) ⊎ ((rest : List E) × (xs ≡ us ++ v ∷ rest))
at_last [] [] vs e v same = inl (cc same, refl)
at_last [] (u ∷ us) vs e v same = absurd (no_room us vs v (cc same))
  where
    no_room : {E : Type 0} (us vs : List E) (v : E) → [] ≡ us ++ v ∷ vs → ⊥
    no_room [] vs v e = cc e
    no_room (u ∷ us) vs v e = cc e
at_last (x ∷ xs) [] vs e v same = inr (xs, cc same)
at_last (x ∷ xs) (u ∷ us) vs e v same = ⊎_elim
    (λ (last : (e ≡ v) × (xs ≡ us)). inl (last.0, cc (same, last.1)))
    (λ (more : (rest : _) × (xs ≡ us ++ v ∷ rest)). inr (more.0, (let q = more.1 in cc (same, q))))
    (at_last xs us vs e v (cc same))

pub in_middle : {E : Type 0} (xs ys : List E) (e : E) → Contains (xs ++ e ∷ ys) e
in_middle xs ys e = Contains-append_right xs (e ∷ ys) e (zero, omega arith, refl)

-- STUCK ENTRIES

-- an entry is a Stuck, or is one of no place
stuck_or_not : (e : Entry) → ((j : ℕ) × (a : ℕ) × (b : ℕ) × (o : ℕ) × (e ≡ entry.Stuck j a b o)) ⊎ ((n k : ℕ) → length (filter (is_stuck_at n k) (e ∷ [])) ≡ 0)
stuck_or_not (entry.Stuck j a b o) = inl (j, a, b, o, refl)
stuck_or_not _ = inr (λ n k. refl)

-- a place of which none is told has none
none_stuck : (xs : List Entry) (n k : ℕ) → ((j o : ℕ) → Contains xs (entry.Stuck j n k o) → ⊥) → length (filter (is_stuck_at n k) xs) ≡ 0
none_stuck [] n k none = refl
none_stuck (x ∷ xs) n k none = at x none (none_stuck xs n k (λ j o has. none j o (later x xs (entry.Stuck j n k o) has)))
  where
    later : (x : Entry) (xs : List Entry) (e : Entry) → Contains xs e → Contains (x ∷ xs) e
    later x xs e (i, lt, is) = (suc i, omega (arith, lt), is)

    stuck : (j a b o : ℕ) → ((i q : ℕ) → Contains (entry.Stuck j a b o ∷ xs) (entry.Stuck i n k q) → ⊥) → length (filter (is_stuck_at n k) xs) ≡ 0 → length (filter (is_stuck_at n k) (entry.Stuck j a b o ∷ xs)) ≡ 0
    stuck j a b o none rest = ⊎_elim
        (λ (e : a ≡ n). ⊎_elim
        (λ (f : b ≡ k). absurd (none j o (zero, omega arith, ap (λ m. entry.Stuck j m b o) e ∙ ap (λ m. entry.Stuck j n m o) f)))
        (λ (ne : b ≢ k). rw (eq-eqb a n e, ne_eqb b k ne) rest)
        (cases_eq b k))
        (λ (ne : a ≢ n). rw (ne_eqb a n ne) rest)
        (cases_eq a n)

    at : (x : Entry) → ((i q : ℕ) → Contains (x ∷ xs) (entry.Stuck i n k q) → ⊥) → length (filter (is_stuck_at n k) xs) ≡ 0 → length (filter (is_stuck_at n k) (x ∷ xs)) ≡ 0
    at (entry.Stuck j a b o) none rest = stuck j a b o none rest
    at _ none rest = rest

-- one entry has one at most, and of its own place
one_most : (j a b o n k : ℕ) → ((n ≡ a) × (k ≡ b) × (length (filter (is_stuck_at n k) (entry.Stuck j a b o ∷ [])) ≡ 1)) ⊎ (length (filter (is_stuck_at n k) (entry.Stuck j a b o ∷ [])) ≡ 0)
one_most j a b o n k = ⊎_elim
    (λ (e : a ≡ n). ⊎_elim
    (λ (f : b ≡ k). inl (sym e, sym f, rw (eq-eqb a n e, eq-eqb b k f) refl))
    (λ (ne : b ≢ k). inr (rw (eq-eqb a n e, ne_eqb b k ne) refl))
    (cases_eq b k))
    (λ (ne : a ≢ n). inr (rw (ne_eqb a n ne) refl))
    (cases_eq a n)

-- NO RELAY IS BEGUN ANEW

module _ (job : ℕ) (xs : List Entry) (e : Entry) where
  pub not_odd_more : (n k : ℕ) → NotOdd job xs n k → ((f : Digest) → e ≡ entry.Oddly job n k f → ⊥) → NotOdd job (xs ++ e ∷ []) n k
  not_odd_more n k old other f x between y is = ⊎_elim
      (λ (last : (e ≡ entry.Oddly job n k f) × (xs ≡ x ++ entry.Begin job n k ∷ between)). other f last.0)
      (λ (more : (rest : List Entry) × (xs ≡ (x ++ entry.Begin job n k ∷ between) ++ entry.Oddly job n k f ∷ rest)).
      old f x between more.0 (more.1 ∙ append_assoc x (entry.Begin job n k ∷ between) (entry.Oddly job n k f ∷ more.0)))
      (at_last xs (x ++ entry.Begin job n k ∷ between) y e (entry.Oddly job n k f)
      (is ∙ sym (append_assoc x (entry.Begin job n k ∷ between) (entry.Oddly job n k f ∷ y))))

  pub none_again_more : NoneAgain job xs → ((n k : ℕ) → e ≡ entry.Begin job n k → NotOdd job xs n k) → NoneAgain job (xs ++ e ∷ [])
  none_again_more old begun n k f x between y z is = ⊎_elim
      (λ (last : (e ≡ entry.Begin job n k) × (xs ≡ x ++ entry.Begin job n k ∷ (between ++ entry.Oddly job n k f ∷ y))). begun n k last.0 f x between y last.1)
      (λ (more : (rest : List Entry) × (xs ≡ (x ++ entry.Begin job n k ∷ (between ++ entry.Oddly job n k f ∷ y)) ++ entry.Begin job n k ∷ rest)).
      old n k f x between y more.0 more.1)
      (at_last xs (x ++ entry.Begin job n k ∷ (between ++ entry.Oddly job n k f ∷ y)) z e (entry.Begin job n k) is)

-- a place of which no relay began has none that ended so
pub not_odd_none : (job : ℕ) (xs : List Entry) (n k : ℕ) → (Contains xs (entry.Begin job n k) → ⊥) → NotOdd job xs n k
not_odd_none job xs n k none f x between y is =
    none (subst (λ l. Contains l (entry.Begin job n k)) (sym is) (in_middle x (between ++ entry.Oddly job n k f ∷ y) (entry.Begin job n k)))

-- ONE ENTRY MORE

-- What may come behind the entries before a place: no Stuck but of a place before `stuck'` that has
-- none yet, and no Begin but of one before `begun'` with no Oddly of a relay that began.
pub record MayCome (job : ℕ) (xs : List Entry) (stuck' begun' : ℕ × ℕ) (e : Entry) : Type 0 where
  pub relay : is_relay e ≡ true
  pub stuck : (j n k o : ℕ) → e ≡ entry.Stuck j n k o → Precedes (n, k) stuck' × (length (filter (is_stuck_at n k) xs) ≡ 0)
  pub begun : (j n k : ℕ) → e ≡ entry.Begin j n k → Precedes (n, k) begun' × NotOdd job xs n k

module _ (job : ℕ) (xs : List Entry) (stuck begun stuck' begun' : ℕ × ℕ) (mended left draws : ℕ) (are : AreRepairs job xs stuck begun mended left draws)
    (further : AtOrAfter stuck stuck') (on : AtOrAfter begun begun') where
  pub repairs_wider : (draws' : ℕ) → draws ≤ draws' → AreRepairs job xs stuck' begun' mended left draws'
  repairs_wider draws' le = record {
    kinds = are.kinds;
    one_stuck = are.one_stuck;
    stuck_before = λ j n k o has. precedes_more (n, k) stuck stuck' (are.stuck_before j n k o has) further;
    begun_before = λ j n k has. precedes_more (n, k) begun begun' (are.begun_before j n k has) on;
    none_again = are.none_again;
    mended_is = are.mended_is;
    left_is = are.left_is;
    counts = are.counts;
    blinds = (let b = are.blinds in omega (arith, b, le));
  }

  module _ (e : Entry) (may : MayCome job xs stuck' begun' e) where
    one_stuck_more : (n k : ℕ) → length (filter (is_stuck_at n k) (xs ++ e ∷ [])) ≤ 1
    one_stuck_more n k = ⊎_elim
        (λ (is : (j : ℕ) × (a : ℕ) × (b : ℕ) × (o : ℕ) × (e ≡ entry.Stuck j a b o)). at is.0 is.1 is.2 is.3 is.4)
        (λ (no : (n k : ℕ) → length (filter (is_stuck_at n k) (e ∷ [])) ≡ 0).
        let old = are.one_stuck n k in let c = count_one (is_stuck_at n k) xs e in let none = no n k in omega (arith, old, c, none))
        (stuck_or_not e)
      where
        at : (j a b o : ℕ) → e ≡ entry.Stuck j a b o → length (filter (is_stuck_at n k) (xs ++ e ∷ [])) ≤ 1
        at j a b o is =
            let c = count_one (is_stuck_at n k) xs e in
            let same : length (filter (is_stuck_at n k) (e ∷ [])) ≡ length (filter (is_stuck_at n k) (entry.Stuck j a b o ∷ [])) = ap (λ x. length (filter (is_stuck_at n k) (x ∷ []))) is in
            ⊎_elim
            (λ (here : (n ≡ a) × (k ≡ b) × (length (filter (is_stuck_at n k) (entry.Stuck j a b o ∷ [])) ≡ 1)).
            let none : length (filter (is_stuck_at n k) xs) ≡ 0 =
            subst (λ m. length (filter (is_stuck_at m k) xs) ≡ 0) (sym here.0) (subst (λ m. length (filter (is_stuck_at a m) xs) ≡ 0) (sym here.1) (may.stuck j a b o is).1) in
            let one = here.2 in
            omega (arith, none, one, c, same))
            (λ (off : length (filter (is_stuck_at n k) (entry.Stuck j a b o ∷ [])) ≡ 0).
            let old = are.one_stuck n k in omega (arith, off, old, c, same))
            (one_most j a b o n k)

    pub repairs_more : (mended' left' draws' : ℕ) → mended' ≡ mended + length (filter is_mended (e ∷ [])) → left' ≡ left + length (filter is_left (e ∷ []))
        → mended' + left' ≤ (mended + left) + 1 → length (filter is_begin xs) + length (filter is_begin (e ∷ [])) ≤ draws'
        → AreRepairs job (xs ++ e ∷ []) stuck' begun' mended' left' draws'
    repairs_more mended' left' draws' mended_is left_is both blinds = record {
      kinds = each_more is_relay xs (e ∷ []) are.kinds (λ x has. ap is_relay (sym (one_contained e x has)) ∙ may.relay);
      one_stuck = one_stuck_more;
      stuck_before = λ j n k o has. ⊎_elim
          (λ (front : Contains xs (entry.Stuck j n k o)). precedes_more (n, k) stuck stuck' (are.stuck_before j n k o front) further)
          (λ (back : Contains (e ∷ []) (entry.Stuck j n k o)). (may.stuck j n k o (one_contained e (entry.Stuck j n k o) back)).0)
          (Contains-append_cases xs (e ∷ []) (entry.Stuck j n k o) has);
      begun_before = λ j n k has. ⊎_elim
          (λ (front : Contains xs (entry.Begin j n k)). precedes_more (n, k) begun begun' (are.begun_before j n k front) on)
          (λ (back : Contains (e ∷ []) (entry.Begin j n k)). (may.begun j n k (one_contained e (entry.Begin j n k) back)).0)
          (Contains-append_cases xs (e ∷ []) (entry.Begin j n k) has);
      none_again = none_again_more job xs e are.none_again (λ n k is. (may.begun job n k is).1);
      mended_is = (let a = are.mended_is in let b = count_one is_mended xs e in omega (arith, mended_is, a, b));
      left_is = (let a = are.left_is in let b = count_one is_left xs e in omega (arith, left_is, a, b));
      counts = (let a = are.counts in let b = length-append xs (e ∷ []) in omega (arith, both, a, b));
      blinds = (let b = count_one is_begin xs e in omega (arith, blinds, b));
    }

-- at a place of which no Stuck is told yet
pub none_stuck_at : (job : ℕ) (xs : List Entry) (begun : ℕ × ℕ) (mended left draws n k : ℕ) → AreRepairs job xs (n, k) begun mended left draws → length (filter (is_stuck_at n k) xs) ≡ 0
none_stuck_at job xs begun mended left draws n k are = none_stuck xs n k (λ j o has. not_before (n, k) (are.stuck_before j n k o has))

pub left_more : (xs ys : List Entry) (job n k : ℕ) → WasLeft xs job n k → WasLeft (xs ++ ys) job n k
left_more xs ys job n k (inl (o, has)) = inl (o, Contains-append_left xs ys (entry.Stuck job n k o) has)
left_more xs ys job n k (inr (f, has)) = inr (f, Contains-append_left xs ys (entry.Oddly job n k f) has)
