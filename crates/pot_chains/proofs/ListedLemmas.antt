-- Lists of exactly what has a property.
use Rattle.std.proofs.Common.{◌≡◌, ◌≢◌, ◌↔◌, ◌⊎◌, inl, inr, ℕ, zero, suc, ◌+◌, ◌<◌, ◌≤◌, List, [], ◌∷◌, ◌++◌, map, length, refl, sym, ap, ◌∙◌, subst, arith, take, get_or}
use Rattle.std.specs.Prelude.{AllPairs}
use Rattle.std.specs.List.{flat_map, range_with_len, Contains}
use Rattle.std.proofs.lemmas.Bool.{cases_lt}
use Rattle.std.proofs.lemmas.List.Elements.{Contains-get_or}
use Rattle.pot_chains.specs.Listed.{IsIn, IsOnce, IsListed, IsNumber}

pub in_left : {X : Type 0} (xs ys : List X) (x : X) → IsIn xs x → IsIn (xs ++ ys) x
in_left [] ys x h = absurd h
in_left (z ∷ xs) ys x (inl e) = inl e
in_left (z ∷ xs) ys x (inr h) = inr (in_left xs ys x h)

pub in_right : {X : Type 0} (xs ys : List X) (x : X) → IsIn ys x → IsIn (xs ++ ys) x
in_right [] ys x h = h
in_right (z ∷ xs) ys x h = inr (in_right xs ys x h)

pub in_append : {X : Type 0} (xs ys : List X) (x : X) → IsIn (xs ++ ys) x → IsIn xs x ⊎ IsIn ys x
in_append [] ys x h = inr h
in_append (z ∷ xs) ys x (inl e) = inl (inl e)
in_append (z ∷ xs) ys x (inr h) = elim (in_append xs ys x h) [ inl a ↦ inl (inr a) | inr b ↦ inr b ]

-- two lists that share nothing
pub once_append : {X : Type 0} (xs ys : List X) → IsOnce xs → IsOnce ys → ((x : X) → IsIn xs x → ¬ IsIn ys x) → IsOnce (xs ++ ys)
once_append [] ys a b apart = b
once_append (x ∷ xs) ys a b apart = (
  λ there. elim (in_append xs ys x there) [ inl h ↦ a.0 h | inr h ↦ apart x (inl refl) h ],
  once_append xs ys a.1 b (λ z h. apart z (inr h)),
)

pub in_map : {X Y : Type 0} (f : X → Y) (xs : List X) (x : X) → IsIn xs x → IsIn (map f xs) (f x)
in_map f [] x h = absurd h
in_map f (z ∷ xs) x (inl e) = inl (ap f e)
in_map f (z ∷ xs) x (inr h) = inr (in_map f xs x h)

pub from_map : {X Y : Type 0} (f : X → Y) (xs : List X) (y : Y) → IsIn (map f xs) y → (x : X) × IsIn xs x × (f x ≡ y)
from_map f [] y h = absurd h
from_map f (z ∷ xs) y (inl e) = (z, inl refl, e)
from_map f (z ∷ xs) y (inr h) = let r = from_map f xs y h in (r.0, inr r.1, r.2)

pub once_map : {X Y : Type 0} (f : X → Y) (xs : List X) → ((a b : X) → f a ≡ f b → a ≡ b) → IsOnce xs → IsOnce (map f xs)
once_map f [] one h = tt
once_map f (x ∷ xs) one h = (
  λ there. let r = from_map f xs (f x) there in h.0 (subst (IsIn xs) (one r.0 x r.2) r.1),
  once_map f xs one h.1,
)

-- the same where f tells apart what stands in the list
pub once_map_on : {X Y : Type 0} (f : X → Y) (xs : List X) → ((a b : X) → IsIn xs a → IsIn xs b → f a ≡ f b → a ≡ b) → IsOnce xs → IsOnce (map f xs)
once_map_on f [] one h = tt
once_map_on f (x ∷ xs) one h = (
  λ there. let r = from_map f xs (f x) there in h.0 (subst (IsIn xs) (one r.0 x (inr r.1) (inl refl) r.2) r.1),
  once_map_on f xs (λ a b h k. one a b (inr h) (inr k)) h.1,
)

pub in_flat_map : {X Y : Type 0} (f : X → List Y) (xs : List X) (x : X) (y : Y) → IsIn xs x → IsIn (f x) y → IsIn (flat_map f xs) y
in_flat_map f [] x y h k = absurd h
in_flat_map f (z ∷ xs) x y (inl e) k = in_left (f z) (flat_map f xs) y (subst (λ a. IsIn (f a) y) (sym e) k)
in_flat_map f (z ∷ xs) x y (inr h) k = in_right (f z) (flat_map f xs) y (in_flat_map f xs x y h k)

pub from_flat_map : {X Y : Type 0} (f : X → List Y) (xs : List X) (y : Y) → IsIn (flat_map f xs) y → (x : X) × IsIn xs x × IsIn (f x) y
from_flat_map f [] y h = absurd h
from_flat_map f (z ∷ xs) y h =
    elim (in_append (f z) (flat_map f xs) y h) [
      | inl a ↦ (z, inl refl, a)
      | inr b ↦ let r = from_flat_map f xs y b in (r.0, inr r.1, r.2)
    ]

pub once_flat_map : {X Y : Type 0} (f : X → List Y) (xs : List X) → IsOnce xs → ((x : X) → IsIn xs x → IsOnce (f x))
    → ((a b : X) (y : Y) → IsIn xs a → IsIn xs b → IsIn (f a) y → IsIn (f b) y → a ≡ b) → IsOnce (flat_map f xs)
once_flat_map f [] once each apart = tt
once_flat_map f (x ∷ xs) once each apart =
    once_append (f x) (flat_map f xs) (each x (inl refl))
    (once_flat_map f xs once.1 (λ z h. each z (inr h)) (λ a b y h k. apart a b y (inr h) (inr k)))
    (λ y here there.
    let r = from_flat_map f xs y there in
    once.0 (subst (IsIn xs) (sym (apart x r.0 y (inl refl) (inr r.1) here r.2)) r.1))

-- the list without one that stands in it
without : {X : Type 0} (xs : List X) (x : X) → IsIn xs x → IsOnce xs
    → (ys : List X) × (length xs ≡ suc (length ys)) × IsOnce ys × ((z : X) → IsIn ys z → IsIn xs z × (z ≢ x)) × ((z : X) → IsIn xs z → (z ≢ x) → IsIn ys z)
without [] x h once = absurd h
without (y ∷ ys) x (inl e) once = (
  ys,
  refl,
  once.1,
  λ z h. (inr h, λ same. once.0 (subst (IsIn ys) (same ∙ sym e) h)),
  λ z h other. elim h [ inl same ↦ absurd (other (sym same ∙ e)) | inr k ↦ k ],
)
without (y ∷ ys) x (inr h) once =
    let r = without ys x h once.1 in (
      y ∷ r.0,
      ap suc r.1,
      (λ there. once.0 (r.3 y there).0, r.2),
      λ z k. elim k [
        | inl e ↦ (inl e, λ same. once.0 (subst (IsIn ys) (sym same ∙ sym e) h))
        | inr j ↦ (inr (r.3 z j).0, (r.3 z j).1)
      ],
      λ z k other. elim k [ inl e ↦ inl e | inr j ↦ inr (r.4 z j other) ],
    )

-- what is in one list of distinct things and all in the other: no longer
at_most : {X : Type 0} (xs ys : List X) → IsOnce xs → IsOnce ys → ((x : X) → IsIn xs x → IsIn ys x) → length xs ≤ length ys
at_most [] ys a b sub = omega arith
at_most (x ∷ xs) ys a b sub =
    let r = without ys x (sub x (inl refl)) b in
    let rest : length xs ≤ length r.0 = at_most xs r.0 a.1 r.2
    (λ z h. r.4 z (sub z (inr h)) (λ same. a.0 (subst (IsIn xs) same h))) in
    omega (arith, rest, r.1)

-- so the number of what has P is one
pub listed_length : {X : Type 0} (P : X → Type 0) (xs ys : List X) → IsListed P xs → IsListed P ys → length xs ≡ length ys
listed_length P xs ys a b =
    let one = at_most xs ys a.once b.once (λ z h. (b.each z).1 ((a.each z).0 h)) in
    let two = at_most ys xs b.once a.once (λ z h. (a.each z).1 ((b.each z).0 h)) in
    omega arith

pub number_is_one : {X : Type 0} (P : X → Type 0) (m n : ℕ) → IsNumber P m → IsNumber P n → m ≡ n
number_is_one P m n a b = sym a.2 ∙ (listed_length P a.0 b.0 a.1 b.1 ∙ b.2)

-- a number is at least what a list of some of them has
pub number_at_least : {X : Type 0} (P : X → Type 0) (n : ℕ) (xs : List X) → IsNumber P n → IsOnce xs → ((x : X) → IsIn xs x → P x) → length xs ≤ n
number_at_least P n xs a once all = let h = at_most xs a.0 once a.1.once (λ z k. (a.1.each z).1 (all z k)) in omega (arith, h, a.2)

-- what is found from what is listed
pub listed_flat_map : {X Y : Type 0} (P : X → Type 0) (Q : X → Y → Type 0) (f : X → List Y) (xs : List X)
    → IsListed P xs → ((x : X) → P x → IsListed (Q x) (f x)) → ((a b : X) (y : Y) → Q a y → Q b y → a ≡ b)
    → IsListed (λ y. (x : X) × P x × Q x y) (flat_map f xs)
listed_flat_map P Q f xs is each apart = record {
  each = λ y. (
    λ h. let r = from_flat_map f xs y h in let p = (is.each r.0).0 r.1 in (r.0, p, ((each r.0 p).each y).0 r.2),
    λ w. in_flat_map f xs w.0 y ((is.each w.0).1 w.1) (((each w.0 w.1).each y).1 w.2),
  );
  once = once_flat_map f xs is.once (λ x h. (each x ((is.each x).0 h)).once)
      (λ a b y h k there here.
      apart a b y (((each a ((is.each a).0 h)).each y).0 there) (((each b ((is.each b).0 k)).each y).0 here));
}

pub listed_map : {X Y : Type 0} (P : X → Type 0) (f : X → Y) (xs : List X)
    → IsListed P xs → ((a b : X) → f a ≡ f b → a ≡ b) → IsListed (λ y. (x : X) × P x × (f x ≡ y)) (map f xs)
listed_map P f xs is one = record {
  each = λ y. (
    λ h. let r = from_map f xs y h in (r.0, (is.each r.0).0 r.1, r.2),
    λ w. subst (IsIn (map f xs)) w.2 (in_map f xs w.0 ((is.each w.0).1 w.1)),
  );
  once = once_map f xs one is.once;
}

-- a property that holds of the same
pub listed_same : {X : Type 0} (P Q : X → Type 0) (xs : List X) → ((x : X) → P x ↔ Q x) → IsListed P xs → IsListed Q xs
listed_same P Q xs same is = record { each = λ x. (λ h. (same x).0 ((is.each x).0 h), λ q. (is.each x).1 ((same x).1 q)); once = is.once }

-- two properties that nothing has both of
pub listed_append : {X : Type 0} (P Q : X → Type 0) (xs ys : List X) → IsListed P xs → IsListed Q ys → ((x : X) → P x → ¬ Q x)
    → IsListed (λ x. P x ⊎ Q x) (xs ++ ys)
listed_append P Q xs ys a b apart = record {
  each = λ x. (
    λ h. elim (in_append xs ys x h) [ inl k ↦ inl ((a.each x).0 k) | inr k ↦ inr ((b.each x).0 k) ],
    λ h. elim h [ inl p ↦ in_left xs ys x ((a.each x).1 p) | inr q ↦ in_right xs ys x ((b.each x).1 q) ],
  );
  once = once_append xs ys a.once b.once (λ x h k. apart x ((a.each x).0 h) ((b.each x).0 k));
}

-- where f tells apart what has P
pub listed_map_on : {X Y : Type 0} (P : X → Type 0) (f : X → Y) (xs : List X)
    → IsListed P xs → ((a b : X) → P a → P b → f a ≡ f b → a ≡ b) → IsListed (λ y. (x : X) × P x × (f x ≡ y)) (map f xs)
listed_map_on P f xs is one = record {
  each = λ y. (
    λ h. let r = from_map f xs y h in (r.0, (is.each r.0).0 r.1, r.2),
    λ w. subst (IsIn (map f xs)) w.2 (in_map f xs w.0 ((is.each w.0).1 w.1)),
  );
  once = once_map_on f xs (λ a b h k e. one a b ((is.each a).0 h) ((is.each b).0 k) e) is.once;
}

-- between standing in a list and standing at an index of it
pub in_from_contains : {X : Type 0} (xs : List X) (x : X) → Contains xs x → IsIn xs x
in_from_contains [] x (k, h, e) = absurd (omega arith)
in_from_contains (y ∷ ys) x (zero, h, e) = inl e
in_from_contains (y ∷ ys) x (suc k, h, e) = inr (in_from_contains ys x (k, omega arith, e))

pub contains_from_in : {X : Type 0} (xs : List X) (x : X) → IsIn xs x → Contains xs x
contains_from_in [] x h = absurd h
contains_from_in (y ∷ ys) x (inl e) = (0, omega arith, e)
contains_from_in (y ∷ ys) x (inr h) = let r = contains_from_in ys x h in (suc r.0, omega (arith, r.1), r.2)

-- what is strictly in order stands there once
pub once_from_pairs : {X : Type 0} (R : X → X → Type 0) → ((x : X) → ¬ R x x) → (xs : List X) → AllPairs R xs → IsOnce xs
once_from_pairs R strict [] pairs = tt
once_from_pairs R strict (x ∷ xs) pairs = (
  λ there.
      let r = contains_from_in xs x there in
      let behind : R x (get_or xs r.0 x) = pairs 0 (suc r.0) x (omega arith) (omega (arith, r.1)) in
      strict x (subst (R x) r.2 behind),
  once_from_pairs R strict xs (λ i j d a b. pairs (suc i) (suc j) d (omega (arith, a)) (omega (arith, b))),
)

-- what stands in a front stands in the list
pub in_take : {X : Type 0} (n : ℕ) (xs : List X) (x : X) → IsIn (take n xs) x → IsIn xs x
in_take zero xs x h = absurd h
in_take (suc n) [] x h = absurd h
in_take (suc n) (y ∷ ys) x (inl e) = inl e
in_take (suc n) (y ∷ ys) x (inr h) = inr (in_take n ys x h)

-- one more of the front
pub in_take_more : {X : Type 0} (n : ℕ) (xs : List X) (d x : X) → n < length xs → IsIn (take (suc n) xs) x ↔ (IsIn (take n xs) x ⊎ (get_or xs n d ≡ x))
in_take_more n [] d x h = absurd (omega arith)
in_take_more zero (y ∷ ys) d x h = (λ k. elim k [ inl e ↦ inr e | inr j ↦ absurd j ], λ k. elim k [ inl j ↦ absurd j | inr e ↦ inl e ])
in_take_more (suc n) (y ∷ ys) d x h =
    let r = in_take_more n ys d x (omega arith) in (
      λ k. elim k [ inl e ↦ inl (inl e) | inr j ↦ elim (r.0 j) [ inl a ↦ inl (inr a) | inr b ↦ inr b ] ],
      λ k. elim k [ inl j ↦ elim j [ inl e ↦ inl e | inr a ↦ inr (r.1 (inl a)) ] | inr b ↦ inr (r.1 (inr b)) ],
    )

-- in a list without repetition, what comes next is not in the front
pub not_in_front : {X : Type 0} (n : ℕ) (xs : List X) (d : X) → n < length xs → IsOnce xs → ¬ IsIn (take n xs) (get_or xs n d)
not_in_front n [] d h once k = absurd (omega arith)
not_in_front zero (y ∷ ys) d h once k = k
not_in_front (suc n) (y ∷ ys) d h once (inl e) = once.0 (subst (IsIn ys) (sym e) (in_from_contains ys (get_or ys n d) (Contains-get_or ys n d (omega arith))))
not_in_front (suc n) (y ∷ ys) d h once (inr k) = not_in_front n ys d (omega arith) once.1 k

pub in_get_or : {X : Type 0} (n : ℕ) (xs : List X) (d : X) → n < length xs → IsIn xs (get_or xs n d)
in_get_or n xs d h = in_from_contains xs (get_or xs n d) (Contains-get_or xs n d h)

-- the numbers from a on, n of them
in_range : (a n p : ℕ) → IsIn (range_with_len a n) p ↔ ((a ≤ p) × (p < a + n))
in_range a zero p = (λ h. absurd h, λ w. omega (arith, w.0, w.1))
in_range a (suc n) p =
    let r = in_range (a + 1) n p in (
      λ h. elim h [ inl e ↦ (omega (arith, e), omega (arith, e)) | inr i ↦ let w = r.0 i in (omega (arith, w.0), omega (arith, w.1)) ],
      λ w. elim (cases_lt a p) [ inl less ↦ inr (r.1 (omega (arith, less), omega (arith, w.1))) | inr at ↦ inl (omega (arith, w.0, at)) ],
    )

once_range : (a n : ℕ) → IsOnce (range_with_len a n)
once_range a zero = tt
once_range a (suc n) = (λ h. let w = (in_range (a + 1) n a).0 h in omega (arith, w.0), once_range (a + 1) n)

-- the numbers below n
pub range_listed : (n : ℕ) → IsListed (λ p. p < n) (range_with_len 0 n)
range_listed n = record {
  each = λ p. (λ h. let w = (in_range 0 n p).0 h in omega (arith, w.1), λ less. (in_range 0 n p).1 (omega arith, omega (arith, less)));
  once = once_range 0 n;
}
