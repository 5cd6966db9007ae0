-- How often a number stands among others.
use Rattle.std.proofs.Common.{◌≡◌, ◌≢◌, ◌≤◌, ◌+◌, ◌++◌, ⊎_elim, ℕ, zero, suc, Bool, true, false, List, [], ◌∷◌, refl, ap, arith, eqb}
use Rattle.std.specs.Prelude.{Contains, if◌then◌else◌}
use Rattle.std.proofs.lemmas.Bool.Decides.{eqb_tells}
use Rattle.pot_shared.specs.Hands.{times}

abbrev pub one_if : Bool → ℕ
one_if b = if b then 1 else 0

pub times-append : (n : ℕ) (xs ys : List ℕ) → times n (xs ++ ys) ≡ times n xs + times n ys
times-append n [] ys = omega arith
times-append n (x ∷ xs) ys = (let e = times-append n xs ys in omega (arith, e))

pub times_here : (n : ℕ) → times n (n ∷ []) ≡ 1
times_here n = ⊎_elim
    (λ (h : (eqb n n ≡ true) × (n ≡ n)). (let e = ap one_if h.0 in omega (arith, e)))
    (λ (h : (eqb n n ≡ false) × (n ≢ n)). absurd (h.1 refl))
    (eqb_tells n n)

pub times_there : (k n : ℕ) → k ≢ n → times n (k ∷ []) ≡ 0
times_there k n ne = ⊎_elim
    (λ (h : (eqb k n ≡ true) × (k ≡ n)). absurd (ne h.1))
    (λ (h : (eqb k n ≡ false) × (k ≢ n)). (let e = ap one_if h.0 in omega (arith, e)))
    (eqb_tells k n)

pub contains_times : (xs : List ℕ) (n : ℕ) → Contains xs n → 1 ≤ times n xs
contains_times [] n (k, lt, at) = absurd (omega (arith, lt))
contains_times (x ∷ xs) n (zero, lt, at) = (let e = times_here n in let f = ap (λ m. times n (m ∷ [])) at in omega (arith, e, f))
contains_times (x ∷ xs) n (suc k, lt, at) = (let r = contains_times xs n (k, omega (arith, lt), at) in omega (arith, r))

pub times_contains : (xs : List ℕ) (n : ℕ) → 1 ≤ times n xs → Contains xs n
times_contains [] n some = absurd (omega (arith, some))
times_contains (x ∷ xs) n some = ⊎_elim
    (λ (h : (eqb x n ≡ true) × (x ≡ n)). (0, omega arith, h.1))
    (λ (h : (eqb x n ≡ false) × (x ≢ n)). (let c = times_contains xs n (let z = times_there x n h.1 in omega (arith, z, some)) in (suc c.0, (let l = c.1 in omega (arith, l)), c.2)))
    (eqb_tells x n)
