-- What is exposed, in the words of the world and of the veil.
use Rattle.std.proofs.Common.{◌≡◌, ◌≢◌, ◌<◌, ◌≤◌, ◌⊎◌, inl, inr, ℕ, zero, suc, ◌+◌, Bool, true, false, cond, List, [], ◌∷◌, Option, Some, None, length, map, filter, refl, sym, ap, ap₂, ◌∙◌, subst, arith, add-one, length-append, if◌then◌else◌}
use Rattle.std.specs.Prelude.{◌==◌, ◌&&◌, ◌||◌, nat_le, is_some, flat_map}
use Rattle.std.specs.List.{list_any, range_with_len}
use Rattle.std.proofs.lemmas.Bool.{cases_eq}
use Rattle.std.proofs.lemmas.Bool.Decides.{nat_tests}
use Rattle.std.proofs.lemmas.List.Elements.{filter-append}
use Rattle.std.proofs.lemmas.List.Folds.{list_any-append}
use Rattle.pot_bytes.specs.declared.rack.Place.{Place}
use Rattle.pot_bytes.specs.declared.rack.Rack.{Rack}
use Rattle.pot_shard.proofs.BlockLemmas.{range_more}
use Rattle.pot_machine.specs.Table.{count, least}
use Rattle.pot_machine.proofs.Searches.{count_none, least_some}
use Rattle.pot_veil.specs.Veiled as veil
use Rattle.pot_veil.specs.Veiled.{is_seen}
use Rattle.pot_world.specs.Audit.{Whole, one_or_none, sight_of}
use Rattle.pot_world.specs.Explains.{Sees}
use Rattle.pot_audit.specs.declared.spot.Spot.{Spot}
use Rattle.pot_audit.specs.Exposure.{has_column, is_exposed, is_open}
use Rattle.pot_audit.specs.Hiding.{exposed_columns}

-- NUMBERS THAT PASS A TEST

-- as many as a filter keeps
pub counted : (test : ℕ → Bool) (n : ℕ) → length (filter test (range_with_len 0 n)) ≡ count n test
unfolding count
counted test zero = refl
counted test (suc n) =
    ap (λ l. length (filter test l)) (ap (range_with_len 0) (sym (add-one n)) ∙ range_more n)
    ∙ ap (length {A = ℕ}) (filter-append test (range_with_len 0 n) (n ∷ []))
    ∙ length-append (filter test (range_with_len 0 n)) (filter test (n ∷ []))
    ∙ ap₂ (λ (a b : ℕ). a + b) (counted test n) (one (test n))
  where
    one : (b : Bool) → length (cond b (n ∷ []) []) ≡ (if b then 1 else 0)
    one true = refl
    one false = refl

pub same_count : (n : ℕ) (p q : ℕ → Bool) → ((k : ℕ) → k < n → p k ≡ q k) → count n p ≡ count n q
unfolding count
same_count zero p q h = refl
same_count (suc n) p q h = ap₂ (λ (a : ℕ) b. a + (if b then 1 else 0)) (same_count n p q (λ k l. h k (omega (arith, l)))) (h n (omega arith))

none_any : (test : ℕ → Bool) (n : ℕ) → ((k : ℕ) → k < n → test k ≡ false) → list_any test (range_with_len 0 n) ≡ false
none_any test zero h = refl
none_any test (suc n) h =
    ap (list_any test) (ap (range_with_len 0) (sym (add-one n)) ∙ range_more n)
    ∙ list_any-append test (range_with_len 0 n) (n ∷ [])
    ∙ ap₂ (λ a b. a || (b || false)) (none_any test n (λ k l. h k (omega (arith, l)))) (h n (omega arith))

or_false : (b : Bool) → (b || false) ≡ b
or_false true = refl
or_false false = refl

-- a test that one number alone may pass
only_one : (test : ℕ → Bool) (n k : ℕ) → k < n → ((m : ℕ) → m ≢ k → test m ≡ false) → list_any test (range_with_len 0 n) ≡ test k
only_one test zero k lt h = absurd (omega (arith, lt))
only_one test (suc n) k lt h =
    ap (list_any test) (ap (range_with_len 0) (sym (add-one n)) ∙ range_more n) ∙ list_any-append test (range_with_len 0 n) (n ∷ [])
    ∙ by (λ l. only_one test n k l h) (cases_eq n k)
  where
    by : (k < n → list_any test (range_with_len 0 n) ≡ test k) → (n ≡ k) ⊎ (n ≢ k) → (list_any test (range_with_len 0 n) || (test n || false)) ≡ test k
    by before (inl e) = ap (λ b. b || (test n || false)) (none_any test n (λ m l. h m (λ same. absurd (omega (arith, l, e, same))))) ∙ or_false (test n) ∙ ap test e
    by before (inr ne) = ap₂ (λ a b. a || (b || false)) (before (let other : n ≢ k = ne in omega (arith, lt, other))) (h n ne) ∙ or_false (test k)

any-flat_map : {X Y : Type 0} (p : Y → Bool) (f : X → List Y) (xs : List X) → list_any p (flat_map f xs) ≡ list_any (λ x. list_any p (f x)) xs
any-flat_map p f [] = refl
any-flat_map p f (x ∷ xs) = list_any-append p (f x) (flat_map f xs) ∙ ap (λ b. list_any p (f x) || b) (any-flat_map p f xs)

any-map : {X Y : Type 0} (p : Y → Bool) (f : X → Y) (xs : List X) → list_any p (map f xs) ≡ list_any (λ x. p (f x)) xs
any-map p f [] = refl
any-map p f (x ∷ xs) = ap (λ b. p (f x) || b) (any-map p f xs)

any-filter : {X : Type 0} (p q : X → Bool) (xs : List X) → list_any p (filter q xs) ≡ list_any (λ x. q x && p x) xs
any-filter p q [] = refl
any-filter p q (x ∷ xs) = by (q x) (any-filter p q xs)
  where
    by : (b : Bool) → list_any p (filter q xs) ≡ list_any (λ x. q x && p x) xs → list_any p (cond b (x ∷ filter q xs) (filter q xs)) ≡ ((b && p x) || list_any (λ x. q x && p x) xs)
    by true rest = ap (λ b. p x || b) rest
    by false rest = rest

any_implies : {X : Type 0} (p q : X → Bool) (xs : List X) → ((x : X) → p x ≡ true → q x ≡ true) → list_any p xs ≡ true → list_any q xs ≡ true
any_implies p q [] h e = e
any_implies p q (x ∷ xs) h e = by (any_implies p q xs h) (p x) refl e
  where
    late : (b : Bool) → list_any q xs ≡ true → (b || list_any q xs) ≡ true
    late true e = refl
    late false e = e

    by : (list_any p xs ≡ true → list_any q xs ≡ true) → (b : Bool) → p x ≡ b → (b || list_any p xs) ≡ true → (q x || list_any q xs) ≡ true
    by rest true is e = ap (λ b. b || list_any q xs) (h x is)
    by rest false is e = late (q x) (rest e)

-- AS THE VEIL HAS IT

differs : (a b : ℕ) → a ≢ b → (a == b) ≡ false
differs a b ne = grind (arith, nat_tests)

equals : (a : ℕ) → (a == a) ≡ true
equals a = grind (arith, nat_tests)

and_false : (b : Bool) → (b && false) ≡ false
and_false true = refl
and_false false = refl

and_true : (b : Bool) → (b && true) ≡ b
and_true true = refl
and_true false = refl

module _ (rack : Rack) (spots : List Spot) where
  -- a data column of the rack is seen where it is exposed
  pub seen_is : (p : Place) → p.group < rack.groups → p.column < rack.columns → is_seen (exposed_columns rack spots) p ≡ is_exposed rack spots p.group p.column
  seen_is p lg lc = any-flat_map test by_group (range_with_len 0 rack.groups) ∙ only_one (λ n. list_any test (by_group n)) rack.groups p.group lg others ∙ here
    where
      test : veil.Spot → Bool
      test c = (c.group == p.group) && (c.column == p.column)

      by_group : ℕ → List veil.Spot
      by_group n = map (λ c. record { group = n; column = c }) (filter (is_exposed rack spots n) (range_with_len 0 rack.columns))

      inside : (n : ℕ) → list_any test (by_group n) ≡ list_any (λ c. is_exposed rack spots n c && ((n == p.group) && (c == p.column))) (range_with_len 0 rack.columns)
      inside n =
          any-map test (λ (c : ℕ). record { group = n; column = c }) (filter (is_exposed rack spots n) (range_with_len 0 rack.columns))
          ∙ any-filter (λ c. (n == p.group) && (c == p.column)) (is_exposed rack spots n) (range_with_len 0 rack.columns)

      others : (n : ℕ) → n ≢ p.group → list_any test (by_group n) ≡ false
      others n ne = inside n
          ∙ none_any (λ c. is_exposed rack spots n c && ((n == p.group) && (c == p.column))) rack.columns
          (λ c l. ap (λ b. is_exposed rack spots n c && (b && (c == p.column))) (differs n p.group ne) ∙ and_false (is_exposed rack spots n c))

      here : list_any test (by_group p.group) ≡ is_exposed rack spots p.group p.column
      here = inside p.group
          ∙ only_one (λ c. is_exposed rack spots p.group c && ((p.group == p.group) && (c == p.column))) rack.columns p.column lc
          (λ c ne. ap₂ (λ a b. is_exposed rack spots p.group c && (a && b)) (equals p.group) (differs c p.column ne) ∙ and_false (is_exposed rack spots p.group c))
          ∙ ap₂ (λ a b. is_exposed rack spots p.group p.column && (a && b)) (equals p.group) (equals p.column) ∙ and_true (is_exposed rack spots p.group p.column)

-- AS THE WORLD HAS IT

or_true : (b : Bool) → (b || true) ≡ true
or_true true = refl
or_true false = refl

left_true : (a b : Bool) → (a && b) ≡ true → a ≡ true
left_true true b e = refl
left_true false b e = e

right_true : (a b : Bool) → (a && b) ≡ true → b ≡ true
right_true true b e = e
right_true false b e = absurd (cc)

both_true : (a b : Bool) → a ≡ true → b ≡ true → (a && b) ≡ true
both_true a b ea eb = ap₂ (λ x y. x && y) ea eb

count_or : (n : ℕ) (p q : ℕ → Bool) → count n (λ k. p k || q k) ≤ count n p + count n q
unfolding count
count_or zero p q = omega arith
count_or (suc n) p q = let ih : count n (λ k. p k || q k) ≤ count n p + count n q = count_or n p q in omega (arith, ih, more (p n) (q n))
  where
    more : (a b : Bool) → (if a || b then 1 else 0) ≤ (if a then 1 else 0) + (if b then 1 else 0)
    more true b = by b
      where
        by : (b : Bool) → 1 ≤ 1 + (if b then 1 else 0)
        by true = omega arith
        by false = omega arith
    more false true = omega arith
    more false false = omega arith

-- at most one number is this one
count_one : (n m : ℕ) → count n (λ k. m == k) ≤ 1
unfolding count
count_one zero m = omega arith
count_one (suc n) m = by (count_one n m) (cases_eq m n)
  where
    one : (b : Bool) → 0 + (if b then 1 else 0) ≤ 1
    one true = omega arith
    one false = omega arith

    by : count n (λ k. m == k) ≤ 1 → (m ≡ n) ⊎ (m ≢ n) → count n (λ k. m == k) + (if m == n then 1 else 0) ≤ 1
    by before (inl e) = rw (count_none n (λ k. m == k) (λ c l. differs m c (λ same. absurd (omega (arith, l, e, same))))) (one (m == n))
    by before (inr ne) = rw (differs m n ne) (omega (arith, before))

count_at : (n m : ℕ) (b : Bool) → count n (λ k. b && (m == k)) ≤ (if b then 1 else 0)
count_at n m true = count_one n m
count_at n m false = omega (arith, count_none n (λ k. false) (λ c l. refl))

-- no more columns of a group are had than spots name it
few_columns : (spots : List Spot) (n width : ℕ) → count width (has_column spots n) ≤ length (filter (λ s. s.group == n) spots)
few_columns [] n width = omega (arith, count_none width (λ k. false) (λ c l. refl))
few_columns (s ∷ spots) n width =
    let all : count width (has_column (s ∷ spots) n) ≤ count width (λ c. (s.group == n) && (s.column == c)) + count width (has_column spots n) = count_or width (λ c. (s.group == n) && (s.column == c)) (has_column spots n) in
    let one : count width (λ c. (s.group == n) && (s.column == c)) ≤ (if s.group == n then 1 else 0) = count_at width s.column (s.group == n) in
    omega (arith, all, one, few_columns spots n width, more (s.group == n))
  where
    more : (b : Bool) → (if b then 1 else 0) + length (filter (λ s. s.group == n) spots) ≡ length (cond b (s ∷ filter (λ s. s.group == n) spots) (filter (λ s. s.group == n) spots))
    more true = omega arith
    more false = omega arith

module _ (rack : Rack) (spots : List Spot) where
  two_open : (n width : ℕ) → nat_le 2 (count width (has_column spots n)) ≡ true → is_open rack spots n ≡ true
  two_open n width e = ap (λ b. b || list_any (λ s. (s.group == n) && nat_le rack.columns s.column) spots) two
    where
      two : nat_le 2 (length (filter (λ s. s.group == n) spots)) ≡ true
      two = let few : count width (has_column spots n) ≤ length (filter (λ s. s.group == n) spots) = few_columns spots n width in grind (arith, nat_tests, e, few)

  parity_open : (n c : ℕ) → (nat_le rack.columns c && has_column spots n c) ≡ true → is_open rack spots n ≡ true
  parity_open n c e =
      ap (λ b. nat_le 2 (length (filter (λ s. s.group == n) spots)) || b)
      (any_implies (λ s. (s.group == n) && (s.column == c)) (λ s. (s.group == n) && nat_le rack.columns s.column) spots at (right_true (nat_le rack.columns c) (has_column spots n c) e))
      ∙ or_true (nat_le 2 (length (filter (λ s. s.group == n) spots)))
    where
      at : (s : Spot) → ((s.group == n) && (s.column == c)) ≡ true → ((s.group == n) && nat_le rack.columns s.column) ≡ true
      at s h =
          both_true (s.group == n) (nat_le rack.columns s.column) (left_true (s.group == n) (s.column == c) h)
          (let its : s.column == c ≡ true = right_true (s.group == n) (s.column == c) h in
          let above : nat_le rack.columns c ≡ true = left_true (nat_le rack.columns c) (has_column spots n c) e in
          grind (arith, nat_tests, its, above))

  -- what a coalition sees of a group is exposed
  pub sees_exposed : (n c : ℕ) → Sees (sight_of rack (has_column spots) n) c → is_exposed rack spots n c ≡ true
  sees_exposed n c sees = go (two || parity) refl sees
    where
      width : ℕ
      width = rack.columns + rack.parity

      two : Bool
      two = nat_le 2 (count width (has_column spots n))

      its_parity : Option ℕ
      its_parity = least width (λ c. nat_le rack.columns c && has_column spots n c)

      parity : Bool
      parity = is_some its_parity

      opened : is_open rack spots n ≡ true → is_exposed rack spots n c ≡ true
      opened e = ap (λ b. b || has_column spots n c) e

      by_parity : (o : Option ℕ) → its_parity ≡ o → is_some o ≡ true → is_exposed rack spots n c ≡ true
      by_parity None is e = absurd (cc)
      by_parity (Some k) is e = opened (parity_open n k ((least_some width (λ c. nat_le rack.columns c && has_column spots n c) k is).1))

      by_two : (a : Bool) → two ≡ a → (a || parity) ≡ true → is_exposed rack spots n c ≡ true
      by_two true is e = opened (two_open n width is)
      by_two false is e = by_parity its_parity refl e

      by_one : (o : Option ℕ) → least rack.columns (has_column spots n) ≡ o → Sees (one_or_none o) c → is_exposed rack spots n c ≡ true
      by_one None is s = absurd s
      by_one (Some k) is s =
          ap (λ b. is_open rack spots n || b) (subst (λ k. has_column spots n k ≡ true) s (least_some rack.columns (has_column spots n) k is).1) ∙ or_true (is_open rack spots n)

      go : (b : Bool) → (two || parity) ≡ b → Sees (if b then Whole else one_or_none (least rack.columns (has_column spots n))) c → is_exposed rack spots n c ≡ true
      go true is s = by_two two refl is
      go false is s = by_one (least rack.columns (has_column spots n)) refl s
