-- Choices are listed by the content that they begin with, and counted.
use Rattle.std.proofs.Common.{◌≡◌, ◌↔◌, inl, inr, ℕ, zero, suc, ◌+◌, ◌-◌, ◌*◌, ◌<◌, ◌≤◌, Bool, true, false, cond, min, List, [], ◌∷◌, ◌++◌, map, filter, take, length, get_or, refl, sym, ap, ap₂, ◌∙◌, subst, arith, length-append, append-nil, append_assoc, add-one, zero-mul, eqb-true, eq-eqb, nat_cmp, nat_eq, true≢false}
use Rattle.std.proofs.Math.Nat.{min-eq_left, min-eq_right, mul-zero, mul_assoc}
use Rattle.std.specs.Borrow.{Bor}
use Rattle.std.specs.Ordering.{is_eq}
use Rattle.std.specs.Cmp.Lexicographic.{slice_cmp}
use Rattle.std.specs.List.{flat_map, range_with_len}
use Rattle.std.proofs.lemmas.Bool.{cases_lt}
use Rattle.std.proofs.lemmas.Cmp.{nat_list_cmp_total, eq_by_cmp_equiv}
use Rattle.std.proofs.lemmas.List.{length-map, length-take-le}
use Rattle.std.proofs.lemmas.Map.Lookups.{exact_bytes}
use Rattle.pot_chains.specs.Listed.{IsIn, IsOnce, IsListed}
use Rattle.pot_chains.specs.Paths.{AreAll}
use Rattle.pot_chains.specs.Picks.{IsPick, picks, how_many}
use Rattle.pot_chains.proofs.ListedLemmas.{listed_map, listed_flat_map, listed_same}
use Rattle.pot_chains.proofs.ChainLemmas.{listed_itself}
use Rattle.pot_chains.proofs.PickLemmas.{picks_are, length-picks}
use Rattle.pot_object.specs.Contents.{IsContent}
use Rattle.pot_object.specs.declared.content.FragmentHead.{FragmentHead}
use Rattle.pot_object.proofs.ContentLemmas.{fragment_head_at-content}
use Rattle.pot_recover.specs.Choices.{AreContents, numbered, list_of, lists_of, choices_of, items_of}
use Rattle.pot_recover.specs.Contents.{begins_with, head_of}
use Rattle.pot_recover.specs.Recovered.{IsChoice}
use Rattle.pot_recover.specs.Rings.{IsAnyContent}
use Rattle.pot_recover.proofs.MemberLemmas.{in_filter}
use Rattle.pot_recover.proofs.PartLemmas.{equal_is}

-- picks from lists in a row
pub pick_range : {X : Type 0} (F : ℕ → List X) (d : X) (a n : ℕ) (c : List X)
    → IsPick (map F (range_with_len a n)) c ↔ ((length c ≡ n) × ((i : ℕ) → i < n → IsIn (F (a + i)) (get_or c i d)))
pick_range F d a zero [] = (λ h. (refl, λ i less. absurd (omega arith)), λ h. tt)
pick_range F d a zero (x ∷ c) = (λ h. absurd h, λ h. absurd (cc))
pick_range F d a (suc n) [] = (λ h. absurd h, λ h. absurd (cc))
pick_range F d a (suc n) (x ∷ c) =
    let r = pick_range F d (a + 1) n c in (
      λ h. let w = r.0 h.1 in (ap suc w.0, each h.0 w.1),
      λ h. (
        subst (λ k. IsIn (F k) x) (let e : a + 0 ≡ a = omega arith in e) (h.1 0 (omega arith)),
        r.1 (
          (let long : suc (length c) ≡ suc n = h.0 in omega (arith, long)),
          λ i less. subst (λ k. IsIn (F k) (get_or c i d)) (let e : a + suc i ≡ a + 1 + i = omega arith in e) (h.1 (suc i) (omega arith)),
        ),
      ),
    )
  where
    each : IsIn (F a) x → ((i : ℕ) → i < n → IsIn (F (a + 1 + i)) (get_or c i d)) → (i : ℕ) → i < suc n → IsIn (F (a + i)) (get_or (x ∷ c) i d)
    each here rest zero less = subst (λ k. IsIn (F k) x) (let e : a ≡ a + 0 = omega arith in e) here
    each here rest (suc i) less = subst (λ k. IsIn (F k) (get_or c i d)) (let e : a + 1 + i ≡ a + suc i = omega arith in e) (rest i (omega arith))

once_kept : {X : Type 0} (p : X → Bool) (xs : List X) → IsOnce xs → IsOnce (filter p xs)
once_kept p [] once = tt
once_kept p (x ∷ xs) once = by (p x) (once_kept p xs once.1)
  where
    by : (b : Bool) → IsOnce (filter p xs) → IsOnce (cond b (x ∷ filter p xs) (filter p xs))
    by true rest = (λ there. once.0 ((in_filter p xs x).0 there).0, rest)
    by false rest = rest

-- the front of a content is its head
take_two : (n : ℕ) (c : List ℕ) → suc (suc n) ≤ length c → take (suc (suc n)) c ≡ take n c ++ get_or c n 0 ∷ get_or c (suc n) 0 ∷ []
take_two n [] h = absurd (omega arith)
take_two zero (x ∷ []) h = absurd (omega arith)
take_two zero (x ∷ y ∷ c) h = refl
take_two (suc n) (x ∷ c) h = ap (λ l. x ∷ l) (take_two n c (omega arith))

ends_same : (xs ys : List ℕ) (a b c d : ℕ) → length xs ≡ length ys → xs ++ a ∷ b ∷ [] ≡ ys ++ c ∷ d ∷ [] → (xs ≡ ys) × (a ≡ c) × (b ≡ d)
ends_same [] [] a b c d long e = (refl, cc, cc)
ends_same [] (y ∷ ys) a b c d long e = absurd (cc)
ends_same (x ∷ xs) [] a b c d long e = absurd (cc)
ends_same (x ∷ xs) (y ∷ ys) a b c d long e =
    let rest : xs ++ a ∷ b ∷ [] ≡ ys ++ c ∷ d ∷ [] = cc in
    let first : x ≡ y = cc in
    let suc_long : suc (length xs) ≡ suc (length ys) = long in
    let r = ends_same xs ys a b c d (omega (arith, suc_long)) rest in
    let others : xs ≡ ys = r.0 in
    (cc, r.1, r.2)

-- what a content says by its head
module _ (h : FragmentHead) (c : List ℕ) (is : IsContent h c) where
  pub id_is : take 16 c ≡ h.object_id
  id_is = ap (λ (g : FragmentHead). g.object_id) (fragment_head_at-content h c is)

  pub number_is : get_or c 16 0 ≡ h.number
  number_is = ap (λ (g : FragmentHead). g.number) (fragment_head_at-content h c is)

  pub count_is : get_or c 17 0 ≡ h.count
  count_is = ap (λ (g : FragmentHead). g.count) (fragment_head_at-content h c is)

  long_head : length (take 16 c) ≡ 16
  long_head = length-take-le 16 c (omega (arith, is.long))

  pub head_is : take 18 c ≡ take 16 c ++ get_or c 16 0 ∷ get_or c 17 0 ∷ []
  head_is = take_two 16 c (omega (arith, is.long))

module _ (contents : List (List ℕ)) (all : AreContents contents) where
  -- a content of a list
  pub listed_head : (first c : List ℕ) (number : ℕ) → IsAnyContent first → IsIn contents c
      → (begins_with (numbered first number) c ≡ true) ↔ ((take 16 c ≡ take 16 first) × (get_or c 16 0 ≡ number) × (get_or c 17 0 ≡ get_or first 17 0))
  listed_head first c number any there =
      let is = all c there in
      let mine = head_is is.0 c is.1 in (
        λ h.
            let same : head_of c ≡ numbered first number = exact_bytes (head_of c) (numbered first number) (equal_is (slice_cmp nat_cmp (head_of c) (numbered first number)) h) in
            ends_same (take 16 c) (take 16 first) (get_or c 16 0) (get_or c 17 0) number (get_or first 17 0)
            (long_head is.0 c is.1 ∙ sym (long_head any.0 first any.1)) (sym mine ∙ same),
        λ w.
            let same : head_of c ≡ numbered first number = mine ∙ (ap (λ l. l ++ get_or c 16 0 ∷ get_or c 17 0 ∷ []) w.0
            ∙ ap₂ (λ a b. take 16 first ++ a ∷ b ∷ []) w.1 w.2) in
            subst (λ l. is_eq (slice_cmp nat_cmp (head_of c) l) ≡ true) same ((eq_by_cmp_equiv nat_list_cmp_total).refl (head_of c)),
      )

  abbrev Begins : List ℕ → List (List ℕ) → Type 0
  Begins first choice = (get_or first 16 0 ≡ 1) × ((c : List (List ℕ)) × IsPick (lists_of contents first) c × (first ∷ c ≡ choice))

  pub lists_once : IsOnce contents → (first : List ℕ) (a n : ℕ) → AreAll IsOnce (map (list_of contents first) (range_with_len a n))
  lists_once once first a zero = tt
  lists_once once first a (suc n) = (once_kept (begins_with (numbered first a)) contents once, lists_once once first (a + 1) n)

  begins_listed : IsOnce contents → (first : List ℕ) → IsListed (Begins first) (choices_of contents first)
  begins_listed once first = by (nat_eq (get_or first 16 0) 1) refl
    where
      by : (b : Bool) → nat_eq (get_or first 16 0) 1 ≡ b → IsListed (Begins first) (cond b (map (λ c. first ∷ c) (picks (lists_of contents first))) [])
      by true e =
          listed_same (λ y. (c : List (List ℕ)) × IsPick (lists_of contents first) c × (first ∷ c ≡ y)) (Begins first) (map (λ c. first ∷ c) (picks (lists_of contents first)))
          (λ y. (λ w. (eqb-true (get_or first 16 0) 1 e, w), λ w. w.1))
          (listed_map (IsPick (lists_of contents first)) (λ c. first ∷ c) (picks (lists_of contents first))
          (picks_are (lists_of contents first) (lists_once once first 2 (get_or first 17 0 - 1))) (λ a b f. cc))
      by false e = record { each = λ y. (λ h. absurd h, λ w. absurd (not_one w.0)); once = tt }
        where
          not_one : get_or first 16 0 ≡ 1 → ⊥
          not_one is = true≢false (sym (eq-eqb (get_or first 16 0) 1 is) ∙ e)

  abbrev made : List ℕ → ℕ → ℕ → FragmentHead
  made id number count = record { object_id = id; number = number; count = count }

  made_same : (id id' : List ℕ) (a a' b b' : ℕ) → id ≡ id' → a ≡ a' → b ≡ b' → made id a b ≡ made id' a' b'
  made_same id id' a a' b b' p q r = cc

  to_choice : (first : List ℕ) (choice : List (List ℕ)) → IsIn contents first → Begins first choice → IsChoice (IsIn contents) choice
  to_choice first choice there (one, (c, pick, e)) = subst (IsChoice (IsIn contents)) e (record { id = take 16 first; some = omega arith; each = each })
    where
      any : IsAnyContent first
      any = all first there

      picked : (length c ≡ get_or first 17 0 - 1) × ((i : ℕ) → i < get_or first 17 0 - 1 → IsIn (list_of contents first (2 + i)) (get_or c i []))
      picked = (pick_range (list_of contents first) [] 2 (get_or first 17 0 - 1) c).0 pick

      long : suc (length c) ≡ get_or first 17 0
      long = let two = any.1.head.two in omega (arith, picked.0, count_is any.0 first any.1, two)

      each : (i : ℕ) → i < length (first ∷ c) → IsIn contents (get_or (first ∷ c) i [])
          × IsContent (record { object_id = take 16 first; number = i + 1; count = length (first ∷ c) }) (get_or (first ∷ c) i [])
      each zero less = (
        there,
        subst (λ (h : FragmentHead). IsContent h first)
            (made_same any.0.object_id (take 16 first) any.0.number (0 + 1) any.0.count (suc (length c)) (sym (id_is any.0 first any.1))
            (sym (number_is any.0 first any.1) ∙ (one ∙ (let e : 1 ≡ 0 + 1 = omega arith in e))) (sym (count_is any.0 first any.1) ∙ sym long)) any.1,
      )
      each (suc i) less =
          let x = get_or c i [] in
          let w = (in_filter (begins_with (numbered first (2 + i))) contents x).0 (picked.1 i (omega (arith, less, picked.0))) in
          let is = all x w.0 in
          let heads = (listed_head first x (2 + i) any w.0).0 w.1 in (
            w.0,
            subst (λ (h : FragmentHead). IsContent h x)
                (made_same is.0.object_id (take 16 first) is.0.number (suc i + 1) is.0.count (suc (length c)) (sym (id_is is.0 x is.1) ∙ heads.0)
                (sym (number_is is.0 x is.1) ∙ (heads.1 ∙ (let e : 2 + i ≡ suc i + 1 = omega arith in e))) (sym (count_is is.0 x is.1) ∙ (heads.2 ∙ sym long))) is.1,
          )

  from_choice : (choice : List (List ℕ)) → IsChoice (IsIn contents) choice → (first : List ℕ) × IsIn contents first × Begins first choice
  from_choice [] is = absurd (let some = is.some in omega (arith, some))
  from_choice (first ∷ c) is = (first, one.0, (number_is (made is.id (0 + 1) (suc (length c))) first one.1 ∙ (let e : 0 + 1 ≡ 1 = omega arith in e), (c, pick, refl)))
    where
      one : IsIn contents first × IsContent (record { object_id = is.id; number = 0 + 1; count = suc (length c) }) first
      one = is.each 0 (omega arith)

      count : get_or first 17 0 ≡ suc (length c)
      count = count_is (record { object_id = is.id; number = 0 + 1; count = suc (length c) }) first one.1

      pick : IsPick (lists_of contents first) c
      pick = (pick_range (list_of contents first) [] 2 (get_or first 17 0 - 1) c).1 (
        omega (arith, count),
        λ i less.
            let x = get_or c i [] in
            let w = is.each (suc i) (let l : i < length c = omega (arith, less, count) in omega (arith, l)) in
            let head : FragmentHead = record { object_id = is.id; number = suc i + 1; count = suc (length c) } in
            (in_filter (begins_with (numbered first (2 + i))) contents x).1 (
              w.0,
              (listed_head first x (2 + i) (record { object_id = is.id; number = 0 + 1; count = suc (length c) }, one.1) w.0).1 (
                id_is head x w.1 ∙ sym (id_is (record { object_id = is.id; number = 0 + 1; count = suc (length c) }) first one.1),
                number_is head x w.1 ∙ (let e : suc i + 1 ≡ 2 + i = omega arith in e),
                count_is head x w.1 ∙ sym count,
              ),
            ),
      )

  -- all choices, each once
  pub choices_listed : IsOnce contents → IsListed (IsChoice (IsIn contents)) (flat_map (choices_of contents) contents)
  choices_listed once =
      listed_same (λ y. (first : List ℕ) × IsIn contents first × Begins first y) (IsChoice (IsIn contents)) (flat_map (choices_of contents) contents)
      (λ y. (λ w. to_choice w.0 y w.1 w.2, from_choice y))
      (listed_flat_map (IsIn contents) Begins (choices_of contents) contents (listed_itself contents once) (λ first h. begins_listed once first)
      (λ a b y p q. same_first a b p.1.0 q.1.0 (p.1.2 ∙ sym q.1.2)))
    where
      same_first : (a b : List ℕ) (c d : List (List ℕ)) → a ∷ c ≡ b ∷ d → a ≡ b
      same_first a b c d e = cc

pub length-choices : (contents : List (List ℕ)) (first : List ℕ) → length (choices_of contents first) ≡ cond (nat_eq (get_or first 16 0) 1) (how_many (lists_of contents first)) 0
length-choices contents first = by (nat_eq (get_or first 16 0) 1)
  where
    by : (b : Bool) → length (cond b (map (λ c. first ∷ c) (picks (lists_of contents first))) []) ≡ cond b (how_many (lists_of contents first)) 0
    by true = length-map (picks (lists_of contents first)) (λ c. first ∷ c) ∙ length-picks (lists_of contents first)
    by false = refl

pub flat-take : {X Y : Type 0} (f : X → List Y) (xs : List X) (i : ℕ) (d : X) → i < length xs → flat_map f (take (suc i) xs) ≡ flat_map f (take i xs) ++ f (get_or xs i d)
flat-take f [] i d less = absurd (omega arith)
flat-take f (x ∷ xs) zero d less = append-nil (f x)
flat-take f (x ∷ xs) (suc i) d less = ap (λ l. f x ++ l) (flat-take f xs i d (omega arith)) ∙ sym (append_assoc (f x) (flat_map f (take i xs)) (f (get_or xs i d)))

min_left : (a b : ℕ) → a ≤ b → min a b ≡ a
min_left a b h = min-eq_left h

min_right : (a b : ℕ) → b ≤ a → min a b ≡ b
min_right a b h = min-eq_right h

min_zero : (a : ℕ) → min a 0 ≡ 0
min_zero a = min-eq_right (omega arith)

-- numbers that are counted to a limit
pub capped_sum : (a b c : ℕ) → min (min a c + min b c) c ≡ min (a + b) c
capped_sum a b c =
    elim (cases_lt a c) [
      | inl la ↦ elim (cases_lt b c) [
        | inl lb ↦ ap₂ (λ x y. min (x + y) c) (min_left a c (omega arith)) (min_left b c (omega arith))
        | inr gb ↦
            ap₂ (λ x y. min (x + y) c) (min_left a c (omega arith)) (min_right b c gb)
            ∙ (min_right (a + c) c (omega arith) ∙ sym (min_right (a + b) c (omega arith)))
      ]
      | inr ga ↦
          ap (λ x. min (x + min b c) c) (min_right a c ga)
          ∙ (min_right (c + min b c) c (omega arith) ∙ sym (min_right (a + b) c (omega arith)))
    ]

pub capped_product : (a b c : ℕ) → min (min a c * min b c) c ≡ min (a * b) c
capped_product a b zero = min_zero (min a 0 * min b 0) ∙ sym (min_zero (a * b))
capped_product zero b (suc c) =
    ap (λ x. min (x * min b (suc c)) (suc c)) (min_left 0 (suc c) (omega arith)) ∙ (ap (λ x. min x (suc c)) (zero-mul (min b (suc c))) ∙ ap (λ x. min x (suc c)) (sym (zero-mul b)))
capped_product (suc a) zero (suc c) =
    ap (λ x. min (min (suc a) (suc c) * x) (suc c)) (min_left 0 (suc c) (omega arith))
    ∙ ap (λ x. min x (suc c)) (mul-zero (min (suc a) (suc c)) ∙ sym (mul-zero (suc a)))
capped_product (suc a) (suc b) (suc c) =
    elim (cases_lt (suc a) (suc c)) [
      | inl la ↦ elim (cases_lt (suc b) (suc c)) [
        | inl lb ↦ ap₂ (λ x y. min (x * y) (suc c)) (min_left (suc a) (suc c) (omega arith)) (min_left (suc b) (suc c) (omega arith))
        | inr gb ↦
            ap₂ (λ x y. min (x * y) (suc c)) (min_left (suc a) (suc c) (omega arith)) (min_right (suc b) (suc c) gb)
            ∙ (min_right (suc a * suc c) (suc c) (at_least a (suc c)) ∙ sym (min_right (suc a * suc b) (suc c) (at_least_of a (suc b) (suc c) gb)))
      ]
      | inr ga ↦
          ap (λ x. min (x * min (suc b) (suc c)) (suc c)) (min_right (suc a) (suc c) ga)
          ∙ (by (suc c) (min (suc b) (suc c)) (some_min b c) ∙ sym (min_right (suc a * suc b) (suc c) (wide a b (suc c) ga)))
    ]
  where
    at_least : (n k : ℕ) → k ≤ suc n * k
    at_least n k = let e : suc n * k ≡ n * k + k = grind arith in omega (arith, e)

    at_least_of : (n k l : ℕ) → l ≤ k → l ≤ suc n * k
    at_least_of n k l h = let e : suc n * k ≡ n * k + k = grind arith in omega (arith, e, h)

    wide : (n k l : ℕ) → l ≤ suc n → l ≤ suc n * suc k
    wide n k l h = let e : suc n * suc k ≡ suc n * k + suc n = grind arith in omega (arith, e, h)

    some_min : (n k : ℕ) → 0 < min (suc n) (suc k)
    some_min n k = elim (cases_lt (suc n) (suc k)) [
      | inl less ↦ subst (λ x. 0 < x) (sym (min_left (suc n) (suc k) (omega arith))) (omega arith)
      | inr more ↦ subst (λ x. 0 < x) (sym (min_right (suc n) (suc k) more)) (omega arith)
    ]

    by : (k x : ℕ) → 0 < x → min (k * x) k ≡ k
    by k zero h = absurd (omega arith)
    by k (suc x) h = min_right (k * suc x) k (let e : k * suc x ≡ k * x + k = grind arith in omega (arith, e))

how_many-more : {X : Type 0} (lists : List (List X)) (l : List X) → how_many (lists ++ l ∷ []) ≡ how_many lists * length l
how_many-more [] l = grind arith
how_many-more (xs ∷ lists) l = ap (λ n. length xs * n) (how_many-more lists l) ∙ sym (mul_assoc (length xs) (how_many lists) (length l))

map-take : {X Y : Type 0} (f : X → Y) (xs : List X) (i : ℕ) (d : X) → i < length xs → map f (take (suc i) xs) ≡ map f (take i xs) ++ f (get_or xs i d) ∷ []
map-take f [] i d less = absurd (omega arith)
map-take f (x ∷ xs) zero d less = refl
map-take f (x ∷ xs) (suc i) d less = ap (λ l. f x ∷ l) (map-take f xs i d (omega arith))

-- one more content
pub count_more : (contents : List (List ℕ)) (i : ℕ) (d : List ℕ) (cap old here : ℕ) → i < length contents
    → old ≡ min (length (flat_map (choices_of contents) (take i contents))) cap → here ≡ min (length (choices_of contents (get_or contents i d))) cap
    → min (old + here) cap ≡ min (length (flat_map (choices_of contents) (take (i + 1) contents))) cap
count_more contents i d cap old here inside before step =
    ap₂ (λ a b. min (a + b) cap) before step
    ∙ (capped_sum (length (flat_map (choices_of contents) (take i contents))) (length (choices_of contents (get_or contents i d))) cap
    ∙ ap (λ n. min n cap) (sym (ap (λ k. length (flat_map (choices_of contents) (take k contents))) (add-one i)
    ∙ (ap length (flat-take (choices_of contents) contents i d inside) ∙ length-append (flat_map (choices_of contents) (take i contents)) (choices_of contents (get_or contents i d))))))

-- one more part
pub product_more : (parts : List (Bor (List (List ℕ)))) (i : ℕ) (d : Bor (List (List ℕ))) (cap old here : ℕ) → i < length parts
    → old ≡ min (how_many (map items_of (take i parts))) cap → here ≡ length (get_or parts i d).now
    → min (old * min here cap) cap ≡ min (how_many (map items_of (take (i + 1) parts))) cap
product_more parts i d cap old here inside before step =
    ap₂ (λ a b. min (a * min b cap) cap) before step
    ∙ (capped_product (how_many (map items_of (take i parts))) (length (get_or parts i d).now) cap
    ∙ ap (λ n. min n cap) (sym (ap (λ k. how_many (map items_of (take k parts))) (add-one i)
    ∙ (ap how_many (map-take items_of parts i d inside) ∙ how_many-more (map items_of (take i parts)) (get_or parts i d).now))))

-- how many fragments a content says
pub count_within : (first : List ℕ) → IsAnyContent first → (2 ≤ get_or first 17 0) × (get_or first 17 0 ≤ 8)
count_within first any =
    let same = count_is any.0 first any.1 in
    let two = any.1.head.two in
    let eight = any.1.head.eight in
    (omega (arith, same, two), omega (arith, same, eight))
