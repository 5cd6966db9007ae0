-- Functions with one value more, and what is made of their first values.
use Rattle.std.proofs.Common.{◌≡◌, ◌≢◌, inl, inr, ℕ, zero, suc, ◌+◌, ◌<◌, ◌≤◌, [], ◌∷◌, ◌++◌, length, Bool, true, false, nat_eq, refl, sym, ap, ap₂, ◌∙◌, arith, length-append, ◌||◌, if◌then◌else◌}
use Rattle.std.proofs.lemmas.Bool.Decides.{nat_tests, eqb_tells}
use Rattle.pot_bytes.proofs.Basis.{last_or}
use Rattle.pot_machine.specs.declared.entry.Entry.{Entry}
use Rattle.pot_machine.specs.declared.entry.Entry.TheVariants.{Gone, Broke}
use Rattle.pot_machine.specs.Table.{Table, count}
use Rattle.pot_steps.specs.GroupStep.{entries_where, opening}
use Rattle.pot_shelves.specs.Opening.{failures, failures_at}

-- the function with another value at `n`
unfoldable pub with_at : {A : Type 0} → ℕ → (ℕ → A) → A → ℕ → A
with_at n f x k = if nat_eq k n then x else f k

pub at_here : {A : Type 0} (n : ℕ) (f : ℕ → A) (x : A) → with_at n f x n ≡ x
unfolding with_at
at_here n f x = elim (eqb_tells n n) [ inl e ↦ rw e.0 refl | inr e ↦ absurd (e.1 refl) ]

pub at_below : {A : Type 0} (n : ℕ) (f : ℕ → A) (x : A) (k : ℕ) → k < n → with_at n f x k ≡ f k
unfolding with_at
at_below n f x k lt = elim (eqb_tells k n) [ inl e ↦ (let same : k ≡ n = e.1 in absurd (omega arith)) | inr e ↦ rw e.0 refl ]

-- THE ENTRIES OF ONE STRIPE

pub entries_same : (n : ℕ) (f g : ℕ → Bool) (make : ℕ → Entry) → ((k : ℕ) → k < n → g k ≡ f k) → entries_where n g make ≡ entries_where n f make
unfolding entries_where
entries_same zero f g make h = refl
entries_same (suc n) f g make h = ap₂ (λ xs b. xs ++ (if b then make n ∷ [] else [])) (entries_same n f g make (λ k l. h k (omega arith))) (h n (omega arith))

pub entries_more : (n : ℕ) (f g : ℕ → Bool) (make : ℕ → Entry) (b : Bool) → ((k : ℕ) → k < n → g k ≡ f k) → g n ≡ b
    → entries_where (suc n) g make ≡ entries_where n f make ++ (if b then make n ∷ [] else [])
unfolding entries_where
entries_more n f g make b h e = ap₂ (λ xs b. xs ++ (if b then make n ∷ [] else [])) (entries_same n f g make h) e

pub entries_begin : (f : ℕ → Bool) (make : ℕ → Entry) → entries_where 0 f make ≡ []
unfolding entries_where
entries_begin f make = refl

pub entries_length : (n : ℕ) (f : ℕ → Bool) (make : ℕ → Entry) → length (entries_where n f make) ≤ n
unfolding entries_where
entries_length zero f make = omega arith
entries_length (suc n) f make =
    let ih : length (entries_where n f make) ≤ n = entries_length n f make in
    let one : length (if f n then make n ∷ [] else []) ≤ 1 = at_most (f n) in
    simp length-append (omega arith)
  where
    at_most : (b : Bool) → length (if b then make n ∷ [] else []) ≤ 1
    at_most true = omega arith
    at_most false = omega arith

pub entries_none : (n : ℕ) (f : ℕ → Bool) (make : ℕ → Entry) → ((k : ℕ) → k < n → f k ≡ false) → entries_where n f make ≡ []
unfolding entries_where
entries_none zero f make h = refl
entries_none (suc n) f make h = ap₂ (λ xs b. xs ++ (if b then make n ∷ [] else [])) (entries_none n f make (λ k l. h k (omega arith))) (h n (omega arith))

pub entries_one : (n u : ℕ) (make : ℕ → Entry) → u < n → entries_where n (λ c. nat_eq c u) make ≡ make u ∷ []
unfolding entries_where
entries_one zero u make lt = absurd (omega arith)
entries_one (suc n) u make lt = elim (last_or u n lt) [
  | inl e ↦ ap₂ (λ xs b. xs ++ (if b then make n ∷ [] else [])) (entries_none n (λ c. nat_eq c u) make (λ k l. unequal k u (omega arith))) (equal n u (sym e)) ∙ ap (λ k. make k ∷ []) (sym e)
  | inr l ↦ ap₂ (λ xs b. xs ++ (if b then make n ∷ [] else [])) (entries_one n u make l) (unequal n u (omega arith))
]
  where
    unequal : (k u : ℕ) → k ≢ u → nat_eq k u ≡ false
    unequal k u ne = grind (arith, nat_tests)

    equal : (k u : ℕ) → k ≡ u → nat_eq k u ≡ true
    equal k u e = grind (arith, nat_tests)

pub entries_two : (n u k : ℕ) (make : ℕ → Entry) → u < k → k < n → entries_where n (λ c. nat_eq c u || nat_eq c k) make ≡ make u ∷ make k ∷ []
unfolding entries_where
entries_two zero u k make l lt = absurd (omega arith)
entries_two (suc n) u k make l lt = elim (last_or k n lt) [
  | inl e ↦ ap₂ (λ xs b. xs ++ (if b then make n ∷ [] else []))
      (entries_same n (λ c. nat_eq c u) (λ c. nat_eq c u || nat_eq c k) make (λ c lc. below c u k (omega arith)) ∙ entries_one n u make (omega arith)) (last n u k (sym e))
      ∙ ap (λ z. make u ∷ make z ∷ []) (sym e)
  | inr m ↦ ap₂ (λ xs b. xs ++ (if b then make n ∷ [] else [])) (entries_two n u k make l m) (neither n u k (omega arith) (omega arith))
]
  where
    below : (c u k : ℕ) → c ≢ k → (nat_eq c u || nat_eq c k) ≡ nat_eq c u
    below c u k ne = grind (arith, nat_tests)

    last : (c u k : ℕ) → c ≡ k → (nat_eq c u || nat_eq c k) ≡ true
    last c u k e = grind (arith, nat_tests)

    neither : (c u k : ℕ) → c ≢ u → c ≢ k → (nat_eq c u || nat_eq c k) ≡ false
    neither c u k nu nk = grind (arith, nat_tests)

-- THE ENTRIES OF ALL STRIPES

opening_same : (wide n : ℕ) (gone gone' broke broke' : ℕ → ℕ → Bool) → ((k : ℕ) → k < n → gone' k ≡ gone k) → ((k : ℕ) → k < n → broke' k ≡ broke k)
    → opening wide n gone' broke' ≡ opening wide n gone broke
unfolding opening
opening_same wide zero gone gone' broke broke' g b = refl
opening_same wide (suc n) gone gone' broke broke' g b =
    ap₂ (λ xs ys. xs ++ ys) (opening_same wide n gone gone' broke broke' (λ k l. g k (omega arith)) (λ k l. b k (omega arith)))
    (ap₂ (λ f h. entries_where wide f (Gone 0 n) ++ entries_where wide h (Broke 0 n)) (g n (omega arith)) (b n (omega arith)))

pub opening_begin : (wide : ℕ) (gone broke : ℕ → ℕ → Bool) → opening wide 0 gone broke ≡ []
unfolding opening
opening_begin wide gone broke = refl

pub opening_more : (wide n : ℕ) (gone gone' broke broke' : ℕ → ℕ → Bool) (f h : ℕ → Bool) → ((k : ℕ) → k < n → gone' k ≡ gone k) → ((k : ℕ) → k < n → broke' k ≡ broke k)
    → gone' n ≡ f → broke' n ≡ h → opening wide (suc n) gone' broke' ≡ opening wide n gone broke ++ (entries_where wide f (Gone 0 n) ++ entries_where wide h (Broke 0 n))
unfolding opening
opening_more wide n gone gone' broke broke' f h g b p q =
    ap₂ (λ xs ys. xs ++ ys) (opening_same wide n gone gone' broke broke' g b)
    (ap₂ (λ f h. entries_where wide f (Gone 0 n) ++ entries_where wide h (Broke 0 n)) p q)

-- HOW MANY READS FAILED

count_same : (n : ℕ) (f g : ℕ → Bool) → ((k : ℕ) → k < n → g k ≡ f k) → count n g ≡ count n f
unfolding count
count_same zero f g h = refl
count_same (suc n) f g h = ap₂ (λ m b. m + (if b then 1 else 0)) (count_same n f g (λ k l. h k (omega arith))) (h n (omega arith))

pub count_more : (n : ℕ) (f g : ℕ → Bool) (b : Bool) → ((k : ℕ) → k < n → g k ≡ f k) → g n ≡ b → count (suc n) g ≡ count n f + (if b then 1 else 0)
unfolding count
count_more n f g b h e = ap₂ (λ m b. m + (if b then 1 else 0)) (count_same n f g h) e

failures_same : (t : Table) (failed failed' : ℕ → ℕ → Bool) (n number : ℕ) → ((k : ℕ) → k < n → failed' k ≡ failed k) → failures t failed' n number ≡ failures t failed n number
failures_same t failed failed' zero number h = refl
failures_same t failed failed' (suc n) number h =
    ap₂ (λ a b. a + b) (failures_same t failed failed' n number (λ k l. h k (omega arith))) (ap (λ f. failures_at t f n number) (h n (omega arith)))

pub failures_more : (t : Table) (failed failed' : ℕ → ℕ → Bool) (n number : ℕ) (f : ℕ → Bool) → ((k : ℕ) → k < n → failed' k ≡ failed k) → failed' n ≡ f
    → failures t failed' (suc n) number ≡ failures t failed n number + failures_at t f n number
failures_more t failed failed' n number f h e = ap₂ (λ a b. a + b) (failures_same t failed failed' n number h) (ap (λ f. failures_at t f n number) e)
