-- Names of records and of reservations, as lists change.
use Rattle.std.proofs.Common.{◌≡◌, ◌≢◌, ◌+◌, ◌<◌, ◌≤◌, ℕ, zero, suc, Bool, true, false, List, [], ◌∷◌, ◌++◌, length, get_or, map, take, drop, refl, sym, ap, subst, ◌∙◌, inl, inr, ◌⊎◌, arith}
use Rattle.std.proofs.lemmas.Bool.Decides.{nat_tests}
use Rattle.std.proofs.lemmas.List.Quantifiers.{position-Some}
use Rattle.std.proofs.lemmas.List.Sums.{fails_before_first}
use Rattle.std.specs.Prelude.{if◌then◌else◌, ◌||◌, Contains, All, IsTrue, remove, nat_lt, Some, None}
use Rattle.std.specs.Cmp.Lexicographic.{bytes_decides}
use Rattle.std.specs.List.{IsDistinct, list_any, position, position_or_len}
use Rattle.std.proofs.lemmas.List.Elements.{All-contains, All-from_recursion, recursion_from_All, Contains-get_or}
use Rattle.std.proofs.lemmas.Map.Keys.{IsDistinct-head, IsDistinct-tail, IsDistinct-cons}
use Rattle.std.proofs.lemmas.Bool.{or_cases, or_left, or_right}
use Rattle.pot_bytes.proofs.Elements.{none_contained, contains_later}
use Rattle.pot_index.specs.declared.reservation.Reservation.{Reservation}
use Rattle.pot_index.specs.Index.{same_name, without}

-- TESTS

pub at_true : {X : Type 0} (b : Bool) (x y : X) → b ≡ true → (if b then x else y) ≡ x
at_true true x y h = refl
at_true false x y h = absurd (cc)

pub at_false : {X : Type 0} (b : Bool) (x y : X) → b ≡ false → (if b then x else y) ≡ y
at_false true x y h = absurd (cc)
at_false false x y h = refl

pub same_true : (a b : List ℕ) → same_name a b ≡ true → a ≡ b
same_true a b = (bytes_decides a b).0

pub same_back : (a b : List ℕ) → a ≡ b → same_name a b ≡ true
same_back a b = (bytes_decides a b).1

pub same_false : (a b : List ℕ) → same_name a b ≡ false → a ≢ b
same_false a b h e = let yes_too = same_back a b e in absurd (cc)

pub other_names : (a b : List ℕ) → a ≢ b → same_name a b ≡ false
other_names a b h = by (same_name a b) (same_true a b)
  where
    by : (t : Bool) → (t ≡ true → a ≡ b) → t ≡ false
    by true f = absurd (h (f refl))
    by false f = refl

-- MEMBERS

pub contains_here : {X : Type 0} (x : X) (xs : List X) → Contains (x ∷ xs) x
contains_here x xs = (0, omega arith, refl)

pub contains_cases : {X : Type 0} (x y : X) (xs : List X) → Contains (x ∷ xs) y → (x ≡ y) ⊎ Contains xs y
contains_cases x y xs (zero, lt, is) = inl is
contains_cases x y xs (suc k, lt, is) = inr (k, omega arith, is)

pub contains_map : {X Y : Type 0} (f : X → Y) (x : X) (xs : List X) → Contains xs x → Contains (map f xs) (f x)
contains_map f x [] h = absurd (none_contained x h)
contains_map f x (y ∷ xs) h = by (contains_cases y x xs h) (λ later. contains_map f x xs later)
  where
    by : (y ≡ x) ⊎ Contains xs x → (Contains xs x → Contains (map f xs) (f x)) → Contains (f y ∷ map f xs) (f x)
    by (inl e) go = subst (λ z. Contains (f y ∷ map f xs) (f z)) e (contains_here (f y) (map f xs))
    by (inr later) go = contains_later (f y) (f x) (map f xs) (go later)

-- what an element of the images is the image of
pub from_map : {X Y : Type 0} (f : X → Y) (y : Y) (xs : List X) → Contains (map f xs) y → (x : X) × Contains xs x × (f x ≡ y)
from_map f y [] h = absurd (none_contained y h)
from_map f y (x ∷ xs) h = by (contains_cases (f x) y (map f xs) h) (λ later. from_map f y xs later)
  where
    by : (f x ≡ y) ⊎ Contains (map f xs) y → (Contains (map f xs) y → (z : _) × Contains xs z × (f z ≡ y)) → (z : _) × Contains (x ∷ xs) z × (f z ≡ y)
    by (inl e) go = (x, contains_here x xs, e)
    by (inr later) go = let found = go later in (found.0, contains_later x found.0 xs found.1, found.2)

-- what holds of each element is what holds of each member
pub all_from_members : {X : Type 0} (P : X → Type 0) (xs : List X) → ((x : X) → Contains xs x → P x) → All P xs
all_from_members P xs h k d lt = h (get_or xs k d) (Contains-get_or xs k d lt)

-- RESERVATIONS

abbrev pub names_of : List Reservation → List (List ℕ)
names_of xs = map (λ x. x.name) xs

pub any_contains : (xs : List Reservation) (name : List ℕ) → list_any (λ x. same_name x.name name) xs ≡ true → Contains (names_of xs) name
any_contains [] name h = absurd (cc)
any_contains (x ∷ xs) name h = by (or_cases (same_name x.name name) (list_any (λ y. same_name y.name name) xs) h) (λ later. any_contains xs name later)
  where
    by : (same_name x.name name ≡ true) ⊎ (list_any (λ y. same_name y.name name) xs ≡ true) → (list_any (λ y. same_name y.name name) xs ≡ true → Contains (names_of xs) name) → Contains (x.name ∷ names_of xs) name
    by (inl e) go = subst (λ n. Contains (x.name ∷ names_of xs) n) (same_true x.name name e) (contains_here x.name (names_of xs))
    by (inr later) go = contains_later x.name name (names_of xs) (go later)

pub contains_any : (xs : List Reservation) (name : List ℕ) → Contains (names_of xs) name → list_any (λ x. same_name x.name name) xs ≡ true
contains_any [] name h = absurd (none_contained name h)
contains_any (x ∷ xs) name h = by (contains_cases x.name name (names_of xs) h) (λ later. contains_any xs name later)
  where
    by : (x.name ≡ name) ⊎ Contains (names_of xs) name → (Contains (names_of xs) name → list_any (λ y. same_name y.name name) xs ≡ true) → (same_name x.name name || list_any (λ y. same_name y.name name) xs) ≡ true
    by (inl e) go = or_left (same_name x.name name) (list_any (λ y. same_name y.name name) xs) (same_back x.name name e)
    by (inr later) go = or_right (same_name x.name name) (list_any (λ y. same_name y.name name) xs) (go later)

-- a reservation of another name stays
pub without_keeps : (name : List ℕ) (xs : List Reservation) (y : Reservation) → Contains xs y → y.name ≢ name → Contains (without name xs) y
without_keeps name [] y h other = h
without_keeps name (x ∷ xs) y h other = by (same_name x.name name) refl (contains_cases x y xs h) (λ later. without_keeps name xs y later other)
  where
    by : (b : Bool) → same_name x.name name ≡ b → (x ≡ y) ⊎ Contains xs y → (Contains xs y → Contains (without name xs) y) → Contains (if b then xs else x ∷ without name xs) y
    by true e (inl here) go = absurd (other (subst (λ (z : Reservation). z.name ≡ name) here (same_true x.name name e)))
    by true e (inr later) go = later
    by false e (inl here) go = subst (λ z. Contains (x ∷ without name xs) z) here (contains_here x (without name xs))
    by false e (inr later) go = contains_later x y (without name xs) (go later)

-- and none is new
pub without_from : (name : List ℕ) (xs : List Reservation) (y : Reservation) → Contains (without name xs) y → Contains xs y
without_from name [] y h = h
without_from name (x ∷ xs) y h = by (same_name x.name name) h (λ later. without_from name xs y later)
  where
    by : (b : Bool) → Contains (if b then xs else x ∷ without name xs) y → (Contains (without name xs) y → Contains xs y) → Contains (x ∷ xs) y
    by true k go = contains_later x y xs k
    by false k go = by_case (contains_cases x y (without name xs) k)
      where
        by_case : (x ≡ y) ⊎ Contains (without name xs) y → Contains (x ∷ xs) y
        by_case (inl e) = subst (λ z. Contains (x ∷ xs) z) e (contains_here x xs)
        by_case (inr later) = contains_later x y xs (go later)

pub length-without_le : (name : List ℕ) (xs : List Reservation) → length (without name xs) ≤ length xs
length-without_le name [] = omega arith
length-without_le name (x ∷ xs) = by (same_name x.name name) (length-without_le name xs)
  where
    by : (b : Bool) → length (without name xs) ≤ length xs → length (if b then xs else x ∷ without name xs) ≤ length (x ∷ xs)
    by true go = omega arith
    by false go = omega arith

pub length-without : (name : List ℕ) (xs : List Reservation) → Contains (names_of xs) name → length (without name xs) + 1 ≡ length xs
length-without name [] h = absurd (none_contained name h)
length-without name (x ∷ xs) h = by (same_name x.name name) refl (contains_cases x.name name (names_of xs) h) (λ later. length-without name xs later)
  where
    by : (b : Bool) → same_name x.name name ≡ b → (x.name ≡ name) ⊎ Contains (names_of xs) name → (Contains (names_of xs) name → length (without name xs) + 1 ≡ length xs) → length (if b then xs else x ∷ without name xs) + 1 ≡ length (x ∷ xs)
    by true e h go = omega arith
    by false e (inl here) go = absurd (same_false x.name name e here)
    by false e (inr later) go = omega (arith, go later)

-- names that are distinct stay so
pub without_distinct : (name : List ℕ) (xs : List Reservation) → IsDistinct same_name (names_of xs) → IsDistinct same_name (names_of (without name xs))
without_distinct name [] h = h
without_distinct name (x ∷ xs) h = by (same_name x.name name) (without_distinct name xs (IsDistinct-tail same_name x.name (names_of xs) h))
  where
    apart : All (λ n. same_name x.name n ≡ false) (names_of xs)
    apart = All-from_recursion (λ n. same_name x.name n ≡ false) (names_of xs) (IsDistinct-head same_name x.name (names_of xs) h)

    still : (n : List ℕ) → Contains (names_of (without name xs)) n → same_name x.name n ≡ false
    still n k =
        let from = from_map (λ y. y.name) n (without name xs) k in
        All-contains (λ m. same_name x.name m ≡ false) (names_of xs) n apart
        (subst (λ m. Contains (names_of xs) m) from.2 (contains_map (λ y. y.name) from.0 xs (without_from name xs from.0 from.1)))

    by : (b : Bool) → IsDistinct same_name (names_of (without name xs)) → IsDistinct same_name (names_of (if b then xs else x ∷ without name xs))
    by true go = IsDistinct-tail same_name x.name (names_of xs) h
    by false go = IsDistinct-cons same_name x.name (names_of (without name xs)) (recursion_from_All (λ n. same_name x.name n ≡ false) (names_of (without name xs)) (all_from_members (λ n. same_name x.name n ≡ false) (names_of (without name xs)) still)) go

-- and the name is gone
pub without_gone : (name : List ℕ) (xs : List Reservation) → IsDistinct same_name (names_of xs) → Contains (names_of (without name xs)) name → ⊥
without_gone name [] d h = none_contained name h
without_gone name (x ∷ xs) d h = by (same_name x.name name) refl h (λ later. without_gone name xs (IsDistinct-tail same_name x.name (names_of xs) d) later)
  where
    apart : All (λ n. same_name x.name n ≡ false) (names_of xs)
    apart = All-from_recursion (λ n. same_name x.name n ≡ false) (names_of xs) (IsDistinct-head same_name x.name (names_of xs) d)

    by : (b : Bool) → same_name x.name name ≡ b → Contains (names_of (if b then xs else x ∷ without name xs)) name → (Contains (names_of (without name xs)) name → ⊥) → ⊥
    by true e k go = same_false x.name name (All-contains (λ n. same_name x.name n ≡ false) (names_of xs) name apart k) (same_true x.name name e)
    by false e k go = by_case (contains_cases x.name name (names_of (without name xs)) k)
      where
        by_case : (x.name ≡ name) ⊎ Contains (names_of (without name xs)) name → ⊥
        by_case (inl here) = same_false x.name name e here
        by_case (inr later) = go later

-- two reservations of one name are one
pub one_reservation : (xs : List Reservation) (x y : Reservation) → IsDistinct same_name (names_of xs) → Contains xs x → Contains xs y → x.name ≡ y.name → x ≡ y
one_reservation [] x y d h k e = absurd (none_contained x h)
one_reservation (z ∷ xs) x y d h k e = by (contains_cases z x xs h) (contains_cases z y xs k) (λ hx ky. one_reservation xs x y (IsDistinct-tail same_name z.name (names_of xs) d) hx ky e)
  where
    apart : (w : Reservation) → Contains xs w → z.name ≢ w.name
    apart w k = same_false z.name w.name
        (All-contains (λ n. same_name z.name n ≡ false) (names_of xs) w.name
        (All-from_recursion (λ n. same_name z.name n ≡ false) (names_of xs) (IsDistinct-head same_name z.name (names_of xs) d)) (contains_map (λ v. v.name) w xs k))

    by : (z ≡ x) ⊎ Contains xs x → (z ≡ y) ⊎ Contains xs y → (Contains xs x → Contains xs y → x ≡ y) → x ≡ y
    by (inl p) (inl q) go = sym p ∙ q
    by (inl p) (inr q) go = absurd (apart y q (ap (λ (w : Reservation). w.name) p ∙ e))
    by (inr p) (inl q) go = absurd (apart x p (ap (λ (w : Reservation). w.name) q ∙ sym e))
    by (inr p) (inr q) go = go p q

-- the test of a reserved name
pub any_tells : (xs : List Reservation) (name : List ℕ) (b : Bool) → b ≡ list_any (λ x. same_name x.name name) xs → (IsTrue b → Contains (names_of xs) name) × (Contains (names_of xs) name → IsTrue b)
any_tells xs name b is = (λ t. any_contains xs name (sym is ∙ t), λ k. is ∙ contains_any xs name k)

-- the first reservation of a name is the one that `without` leaves out
module _ (name : List ℕ) where
  abbrev is_of : Reservation → Bool
  is_of x = same_name x.name name

  removed_at : (xs : List Reservation) (at : ℕ) (d : Reservation) → at < length xs → is_of (get_or xs at d) ≡ true → ((k : ℕ) → k < at → is_of (get_or xs k d) ≡ false) → take at xs ++ drop (suc at) xs ≡ without name xs
  removed_at [] at d lt here before = absurd (omega arith)
  removed_at (x ∷ xs) zero d lt here before = sym (at_true (is_of x) xs (x ∷ without name xs) here)
  removed_at (x ∷ xs) (suc at) d lt here before =
      ap (λ (t : List Reservation). x ∷ t) (removed_at xs at d (omega arith) here (λ k l. before (suc k) (omega arith)))
      ∙ sym (at_false (is_of x) xs (x ∷ without name xs) (before 0 (omega arith)))

  none_of : (xs : List Reservation) → ((k : ℕ) (d : Reservation) → k < length xs → is_of (get_or xs k d) ≡ false) → xs ≡ without name xs
  none_of [] none = refl
  none_of (x ∷ xs) none =
      ap (λ (t : List Reservation). x ∷ t) (none_of xs (λ k d l. none (suc k) d (omega arith)))
      ∙ sym (at_false (is_of x) xs (x ∷ without name xs) (none 0 x (omega arith)))

  pub removed_is : (xs : List Reservation) (at : ℕ) (d : Reservation) → position is_of xs ≡ Some at → remove xs at ≡ without name xs
  removed_is xs at d is = let h = position-Some is_of xs at d is in removed_at xs at d h.0 h.1 h.2

  pub none_is : (xs : List Reservation) → position is_of xs ≡ None → xs ≡ without name xs
  none_is xs is = none_of xs (λ k d l. fails_before_first is_of xs k d (omega (arith, behind (nat_lt (position_or_len is_of xs) (length xs)) refl is, l)))
    where
      behind : (b : Bool) → nat_lt (position_or_len is_of xs) (length xs) ≡ b → (if b then Some (position_or_len is_of xs) else None) ≡ None → length xs ≤ position_or_len is_of xs
      behind true e h = absurd (cc)
      behind false e h = grind (arith, nat_tests)
