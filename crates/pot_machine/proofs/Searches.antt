-- The least number that passes a test, and how many do.
use Rattle.std.proofs.Common.{◌≡◌, ◌≢◌, ◌⊎◌, ℕ, zero, suc, ◌+◌, ◌<◌, ◌≤◌, refl, sym, ap, ap₂, ◌∙◌, arith, add-one, Option, Some, None, inl, inr, if◌then◌else◌, Bool, true, false, not, ◌&&◌, nat_eq}
use Rattle.std.proofs.lemmas.Bool.Decides.{nat_tests}
use Rattle.pot_bytes.proofs.Basis.{last_or}
use Rattle.pot_machine.specs.Table.{least, count, or_else}

or_none : (o : Option ℕ) (b : Bool) (n : ℕ) → or_else o (if b then Some n else None) ≡ None → (o ≡ None) × (b ≡ false)
or_none None true n h = absurd (cc)
or_none None false n h = (refl, refl)
or_none (Some k) b n h = absurd (cc)

or_some : (o : Option ℕ) (b : Bool) (n k : ℕ) → or_else o (if b then Some n else None) ≡ Some k → (o ≡ Some k) ⊎ ((o ≡ None) × (b ≡ true) × (n ≡ k))
or_some None true n k h = inr (refl, refl, cc)
or_some None false n k h = absurd (cc)
or_some (Some j) b n k h = inl h

-- the test fails at one more number
pub least_more : (n : ℕ) (test : ℕ → Bool) → least n test ≡ None → test n ≡ false → least (n + 1) test ≡ None
unfolding least
least_more n test h f = rw (add-one, h, f) refl

-- a number that passes, above those that fail, is the least
pub least_at : (n m : ℕ) (test : ℕ → Bool) → least n test ≡ None → test n ≡ true → n < m → least m test ≡ Some n
unfolding least
least_at n zero test h f lt = absurd (omega arith)
least_at n (suc m) test h f lt = elim (last_or n m lt) [
  | inl e ↦ rw (← e, h, f) refl
  | inr l ↦ rw (least_at n m test h f l) refl
]

pub least_zero : (test : ℕ → Bool) → least 0 test ≡ None
unfolding least
least_zero test = refl

-- no number below passes
pub least_none : (n : ℕ) (test : ℕ → Bool) → least n test ≡ None → (j : ℕ) → j < n → test j ≡ false
unfolding least
least_none zero test h j lt = absurd (omega arith)
least_none (suc n) test h j lt =
    let both : (least n test ≡ None) × (test n ≡ false) = or_none (least n test) (test n) n h in
    elim (last_or j n lt) [ inl e ↦ ap test e ∙ both.1 | inr l ↦ least_none n test both.0 j l ]

-- the number passes, and none below does
pub least_some : (n : ℕ) (test : ℕ → Bool) (k : ℕ) → least n test ≡ Some k → (k < n) × (test k ≡ true) × ((j : ℕ) → j < k → test j ≡ false)
unfolding least
least_some zero test k h = absurd (cc)
least_some (suc n) test k h = elim (or_some (least n test) (test n) n k h) [
  | inl e ↦ (let ih : (k < n) × (test k ≡ true) × ((j : ℕ) → j < k → test j ≡ false) = least_some n test k e in (omega arith, ih.1, ih.2))
  | inr e ↦ (let same : n ≡ k = e.2 in (omega arith, ap test (sym same) ∙ e.1, λ j lt. least_none n test e.0 j (omega arith)))
]

-- where no number passes, there is no least
pub none_least : (n : ℕ) (test : ℕ → Bool) → ((j : ℕ) → j < n → test j ≡ false) → least n test ≡ None
unfolding least
none_least zero test h = refl
none_least (suc n) test h = rw (none_least n test (λ j lt. h j (omega arith)), h n (omega arith)) refl

pub count_zero : (test : ℕ → Bool) → count 0 test ≡ 0
unfolding count
count_zero test = refl

pub count_none : (n : ℕ) (test : ℕ → Bool) → ((c : ℕ) → c < n → test c ≡ false) → count n test ≡ 0
unfolding count
count_none zero test h = refl
count_none (suc n) test h = ap₂ (λ a b. a + (if b then 1 else 0)) (count_none n test (λ c l. h c (omega arith))) (h n (omega arith))

pub count_hit : (n : ℕ) (test : ℕ → Bool) → test n ≡ true → count (n + 1) test ≡ count n test + 1
unfolding count
count_hit n test f = rw (add-one n, f) (omega arith)

pub count_miss : (n : ℕ) (test : ℕ → Bool) → test n ≡ false → count (n + 1) test ≡ count n test
unfolding count
count_miss n test f = rw (add-one, f) (omega arith)

pub count_most : (n : ℕ) (test : ℕ → Bool) → count n test ≤ n
unfolding count
count_most zero test = omega arith
count_most (suc n) test = (let ih : count n test ≤ n = count_most n test in let h : (if test n then 1 else 0) ≤ 1 = one (test n) in omega arith)
  where
    one : (b : Bool) → (if b then 1 else 0) ≤ 1
    one true = omega arith
    one false = omega arith

-- another column whose slot passes
pub other_passes : (k c : ℕ) (b : Bool) → k ≢ c → b ≡ true → not (nat_eq k c) && b ≡ true
other_passes k c b ne h = grind (arith, nat_tests)

-- where no number is counted, there is no least
pub none_counted : (n : ℕ) (test : ℕ → Bool) → count n test ≡ 0 → least n test ≡ None
unfolding least count
none_counted zero test h = refl
none_counted (suc n) test h = rw (none_counted n test (omega arith)) (step (test n) (omega arith))
  where
    step : (b : Bool) → ◌≡◌ {A = ℕ} (if b then 1 else 0) 0 → or_else None (if b then Some n else None) ≡ None
    step true h = absurd (omega arith)
    step false h = refl
