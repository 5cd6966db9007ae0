-- What is known of the parts where a whole was read.
use Rattle.std.proofs.Common.{◌≡◌, ℕ, zero, suc, ◌+◌, ◌<◌, List, [], ◌∷◌, ◌++◌, Bool, true, false, cond, if◌then◌else◌, Result, Ok, Err, ap, sym, ◌∙◌, refl, subst, arith}
use Rattle.pot_image.specs.Fields.{Grammar, done}
use Rattle.pot_image.specs.Reading.{◌>>=◌, over, several, reading}
use Rattle.pot_image.proofs.Once.{and_then, reading_then, done_reads, not_both, one_value}

pub record Parts {A B : Type 0} (g : Grammar A) (next : A → Grammar B) (bytes : List ℕ) (b : B) (rest : List ℕ) : Type 0 where
  pub value : A
  pub behind : List ℕ
  pub first : reading g bytes ≡ Ok (value, behind)
  pub second : reading (next value) behind ≡ Ok (b, rest)

pub parts : {A B : Type 0} (g : Grammar A) (next : A → Grammar B) (bytes : List ℕ) (b : B) (rest : List ℕ) → reading (g >>= next) bytes ≡ Ok (b, rest) → Parts g next bytes b rest
parts {A} {B} g next bytes b rest e = by_first (reading g bytes) refl (sym (reading_then g next bytes) ∙ e)
  where
    by_first : (r : Result (A × List ℕ) ℕ) → reading g bytes ≡ r → and_then (reading g bytes) (λ x. reading (next x.0) x.1) ≡ Ok (b, rest) → Parts g next bytes b rest
    by_first (Ok p) q h = record { value = p.0; behind = p.1; first = q; second = sym (ap (λ o. and_then o (λ x. reading (next x.0) x.1)) q) ∙ h }
    by_first (Err n) q h = absurd (not_both (b, rest) n _ h (ap (λ o. and_then o (λ x. reading (next x.0) x.1)) q))

pub done_is : {A : Type 0} (a b : A) (bytes rest : List ℕ) → reading (done a) bytes ≡ Ok (b, rest) → (a ≡ b) × (bytes ≡ rest)
done_is a b bytes rest e = one_value a b bytes rest _ (done_reads a bytes) e

-- a choice that was read
pub read_chosen : {A : Type 0} (t : Bool) (g h : Grammar A) (bytes : List ℕ) (r : Result (A × List ℕ) ℕ) → t ≡ true → reading (if t then g else h) bytes ≡ r → reading g bytes ≡ r
read_chosen t g h bytes r e q = sym (ap (λ v. reading (cond v g h) bytes) e) ∙ q

pub read_other : {A : Type 0} (t : Bool) (g h : Grammar A) (bytes : List ℕ) (r : Result (A × List ℕ) ℕ) → t ≡ false → reading (if t then g else h) bytes ≡ r → reading h bytes ≡ r
read_other t g h bytes r e q = sym (ap (λ v. reading (cond v g h) bytes) e) ∙ q

-- what each value keeps, the whole list keeps
pub several_keep : {A : Type 0} (P : ℕ → List A → Type 0) (each : ℕ → List A → Grammar A) (m : ℕ)
    → ((i : ℕ) (before : List A) (x : A) (bytes rest : List ℕ) → i < m → P i before → reading (each i before) bytes ≡ Ok (x, rest) → P (i + 1) (before ++ x ∷ []))
    → (n i : ℕ) (before all : List A) (bytes rest : List ℕ) → i + n ≡ m → P i before → reading (several i n each before) bytes ≡ Ok (all, rest) → P m all
unfolding several
several_keep P each m step zero i before all bytes rest e p h = (let same = done_is before all bytes rest h in let at : i ≡ m = omega (arith, e) in subst (λ k. P k all) at (subst (P i) same.0 p))
several_keep P each m step (suc n) i before all bytes rest e p h =
    (let r = parts (each i before) (λ x. several (i + 1) n each (before ++ x ∷ [])) bytes all rest h in
    several_keep P each m step n (i + 1) (before ++ r.value ∷ []) all r.behind rest (omega (arith, e)) (step i before r.value bytes r.behind (omega (arith, e)) p r.first) r.second)

pub over_keep : {A : Type 0} (P : ℕ → A → Type 0) (each : ℕ → A → Grammar A) (m : ℕ)
    → ((i : ℕ) (a b : A) (bytes rest : List ℕ) → i < m → P i a → reading (each i a) bytes ≡ Ok (b, rest) → P (i + 1) b)
    → (n i : ℕ) (a all : A) (bytes rest : List ℕ) → i + n ≡ m → P i a → reading (over i n each a) bytes ≡ Ok (all, rest) → P m all
unfolding over
over_keep P each m step zero i a all bytes rest e p h = (let same = done_is a all bytes rest h in let at : i ≡ m = omega (arith, e) in subst (λ k. P k all) at (subst (P i) same.0 p))
over_keep P each m step (suc n) i a all bytes rest e p h =
    (let r = parts (each i a) (over (i + 1) n each) bytes all rest h in
    over_keep P each m step n (i + 1) r.value all r.behind rest (omega (arith, e)) (step i a r.value bytes r.behind (omega (arith, e)) p r.first) r.second)
