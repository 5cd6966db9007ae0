-- Shards in order, each once.
use Rattle.std.proofs.Common.{◌≡◌, ◌↔◌, inl, inr, ℕ, zero, suc, ◌<◌, ◌≤◌, cond, Bool, true, false, List, [], ◌∷◌, map, length, get_or, arith, refl, sym, ap, ◌∙◌, subst, true≢false, IsPermutation, Ordering, Less, Equal, Greater, nat_cmp}
use Rattle.std.specs.Ordering.{eq_by_cmp, ordering_then, is_le}
use Rattle.std.specs.Prelude.{IsTrue}
use Rattle.std.specs.Cmp.{IsTotalOrder, IsEquivalence}
use Rattle.std.specs.Cmp.Lexicographic.{slice_cmp}
use Rattle.std.specs.List.{dedup, dedup_from, AllByRecursion}
use Rattle.std.specs.List.Sorted.{IsStrictlySortedBy, IsSorted}
use Rattle.std.proofs.lemmas.Cmp.{then_total, on_total, nat_cmp_total, nat_list_cmp_total, eq_by_cmp_equiv}
use Rattle.std.proofs.lemmas.List.Kept.{IsStrictlySortedBy-dedup, Any-dedup, Contains-from_dedup}
use Rattle.std.proofs.lemmas.List.Sorted.{Contains-permutation, IsPermutation-sym}
use Rattle.std.proofs.lemmas.Map.Lookups.{CmpEqualImpliesEq, exact_pairs, exact_unsigned, exact_bytes}
use Rattle.std.proofs.lemmas.Map.Keys.{sorted_head, sorted_tail}
use Rattle.pot_chains.specs.Listed.{IsIn, IsOnce}
use Rattle.pot_chains.proofs.ListedLemmas.{in_map, from_map, once_map, in_from_contains, contains_from_in}
use Rattle.pot_shard.specs.declared.shard.Shard.{Shard}
use Rattle.pot_bytes.specs.Lists.{AreBytes}
use Rattle.pot_recover.specs.HeldShards.{shard_of, place_of, HaveBytes, PlacesRise}
use Rattle.pot_recover.specs.declared.held.Held.{Held}

-- a shard without where its share lies in memory
record Plain : Type 0 where
  m : ℕ
  n : ℕ
  x : ℕ
  name : ℕ
  pointer : ℕ
  share : List ℕ

abbrev plain : Held → Plain
plain h = record { m = h.m; n = h.n; x = h.x; name = h.name; pointer = h.pointer; share = h.share.now }

-- by m, n, x, name, pointer and share
abbrev plain_cmp : Plain → Plain → Ordering
plain_cmp a b =
    ordering_then (nat_cmp a.m b.m) (ordering_then (nat_cmp a.n b.n) (ordering_then (nat_cmp a.x b.x)
    (ordering_then (nat_cmp a.name b.name) (ordering_then (nat_cmp a.pointer b.pointer) (slice_cmp nat_cmp a.share b.share)))))

abbrev with_blur : ℕ → Plain → Shard
with_blur bits s = record { x = s.x; m = s.m; n = s.n; blur = bits; name = s.name; pointer = s.pointer; share = s.share }

pub plain_total : IsTotalOrder plain_cmp
plain_total =
    then_total (on_total (λ (s : Plain). s.m) nat_cmp_total) (then_total (on_total (λ (s : Plain). s.n) nat_cmp_total) (then_total (on_total (λ (s : Plain). s.x) nat_cmp_total)
    (then_total (on_total (λ (s : Plain). s.name) nat_cmp_total) (then_total (on_total (λ (s : Plain). s.pointer) nat_cmp_total) (on_total (λ (s : Plain). s.share) nat_list_cmp_total)))))

abbrev Fields : Type 0
Fields = ℕ × (ℕ × (ℕ × (ℕ × (ℕ × List ℕ))))

abbrev from_fields : Fields → Plain
from_fields f = record { m = f.0; n = f.1.0; x = f.1.1.0; name = f.1.1.1.0; pointer = f.1.1.1.1.0; share = f.1.1.1.1.1 }

abbrev to_fields : Plain → Fields
to_fields s = (s.m, (s.n, (s.x, (s.name, (s.pointer, s.share)))))

-- shards that compare alike are one
pub plain_exact : CmpEqualImpliesEq plain_cmp
plain_exact a b h =
    ap from_fields (exact_pairs nat_cmp _ exact_unsigned (exact_pairs nat_cmp _ exact_unsigned (exact_pairs nat_cmp _ exact_unsigned
    (exact_pairs nat_cmp _ exact_unsigned (exact_pairs nat_cmp (slice_cmp nat_cmp) exact_unsigned exact_bytes)))) (to_fields a) (to_fields b) h)

abbrev without_blur : Shard → Plain
without_blur s = record { m = s.m; n = s.n; x = s.x; name = s.name; pointer = s.pointer; share = s.share }

-- what is strictly in order stands there once
pub once_from_sorted : {K : Type 0} {R : K → K → Ordering} → IsTotalOrder R → (ks : List K) → IsStrictlySortedBy R ks → IsOnce ks
once_from_sorted o [] h = tt
once_from_sorted {R = R} o (k ∷ ks) h = (
  λ there. not_less (all_in (λ y. R k y ≡ Less) ks k there (sorted_head R k ks h)),
  once_from_sorted o ks (sorted_tail R k ks h),
)
  where
    all_in : {X : Type 0} (P : X → Type 0) (xs : List X) (x : X) → IsIn xs x → AllByRecursion P xs → P x
    all_in P [] x i a = absurd i
    all_in P (y ∷ ys) x (inl e) a = subst P e a.0
    all_in P (y ∷ ys) x (inr i) a = all_in P ys x i a.1

    not_less : ¬ (R k k ≡ Less)
    not_less less = true≢false (sym ((eq_by_cmp_equiv o).refl k) ∙ ap is_equal less)
      where
        is_equal : Ordering → Bool
        is_equal Less = false
        is_equal Equal = true
        is_equal Greater = false

abbrev held_cmp : Held → Held → Ordering
held_cmp a b = plain_cmp (plain a) (plain b)

held_total : IsTotalOrder held_cmp
held_total = on_total plain plain_total

module _ (E : Held → Held → Bool) (ties : (x y : Held) → E x y ≡ eq_by_cmp held_cmp x y) where
  same_is_equivalence : IsEquivalence E
  same_is_equivalence =
      let e = eq_by_cmp_equiv held_total in
      record {
        refl = λ x. ties x x ∙ e.refl x;
        symm = λ x y. ties x y ∙ (e.symm x y ∙ sym (ties y x));
        congr = λ x y z h. ties x z ∙ (e.congr x y z (sym (ties x y) ∙ h) ∙ sym (ties y z));
      }

  -- those that count as the same are one shard
  one_shard : (x y : Held) → E x y ≡ true → plain x ≡ plain y
  one_shard x y h = plain_exact (plain x) (plain y) (is_equal (held_cmp x y) (sym (ties x y) ∙ h))
    where
      is_equal : (o : Ordering) → (elim o [ Less ↦ false | Equal ↦ true | Greater ↦ false ]) ≡ true → o ≡ Equal
      is_equal Less e = absurd (cc)
      is_equal Equal e = refl
      is_equal Greater e = absurd (cc)

  module _ (old middle : List Held) (moved : IsPermutation old middle) (sorted : IsSorted held_cmp middle) where
    in_order : IsStrictlySortedBy held_cmp (dedup E middle)
    in_order = IsStrictlySortedBy-dedup held_total ties middle sorted

    pub order : IsStrictlySortedBy plain_cmp (map plain (dedup E middle))
    unfolding IsStrictlySortedBy
    order = mapped (dedup E middle) in_order
      where
        all_mapped : (P : Plain → Type 0) (hs : List Held) → AllByRecursion (λ h. P (plain h)) hs → AllByRecursion P (map plain hs)
        all_mapped P [] a = tt
        all_mapped P (h ∷ hs) a = (a.0, all_mapped P hs a.1)

        mapped : (hs : List Held) → IsStrictlySortedBy held_cmp hs → IsStrictlySortedBy plain_cmp (map plain hs)
        mapped [] h = tt
        mapped (k ∷ hs) h = (all_mapped (λ y. plain_cmp (plain k) y ≡ Less) hs h.0, mapped hs h.1)

    -- what depends on the shards alone is the same
    pub same : {Y : Type 0} (f : Held → Y) → ((a b : Held) → plain a ≡ plain b → f a ≡ f b) → (y : Y) → IsIn (map f (dedup E middle)) y ↔ IsIn (map f old) y
    same f of_plain y = (
      λ h.
          let r = from_map f (dedup E middle) y h in
          let there = Contains-from_dedup E middle r.0 (contains_from_in (dedup E middle) r.0 r.1) in
          subst (IsIn (map f old)) r.2
          (in_map f old r.0 (in_from_contains old r.0 (Contains-permutation middle old r.0 (IsPermutation-sym old middle moved) there))),
      λ h.
          let r = from_map f old y h in
          let kept = Any-dedup same_is_equivalence middle r.0 (Contains-permutation old middle r.0 moved (contains_from_in old r.0 r.1)) in
          subst (IsIn (map f (dedup E middle))) (sym (of_plain r.0 kept.1 (one_shard r.0 kept.1 kept.4)) ∙ r.2)
          (in_map f (dedup E middle) kept.1 (in_from_contains (dedup E middle) kept.1 (kept.0, kept.2, kept.3))),
    )

    pub same_shards : (bits : ℕ) (s : Shard) → IsIn (map (shard_of bits) (dedup E middle)) s ↔ IsIn (map (shard_of bits) old) s
    same_shards bits s = same (shard_of bits) (λ a b e. ap (with_blur bits) e) s

    pub still_bytes : HaveBytes old → HaveBytes (dedup E middle)
    still_bytes have h there =
        let share : Held → List ℕ = λ g. g.share.now in
        let r = from_map share old h.share.now ((same share (λ a b e. ap (λ (p : Plain). p.share) e) h.share.now).0 (in_map share (dedup E middle) h there)) in
        subst AreBytes r.2 (have r.0 r.1)

    pub shards_once : (bits : ℕ) → IsOnce (map (shard_of bits) (dedup E middle))
    shards_once bits = subst IsOnce (fused (dedup E middle)) (once_map (with_blur bits) (map plain (dedup E middle)) one (once_from_sorted plain_total (map plain (dedup E middle)) order))
      where
        one : (a b : Plain) → with_blur bits a ≡ with_blur bits b → a ≡ b
        one a b e = ap without_blur e

        fused : (hs : List Held) → map (with_blur bits) (map plain hs) ≡ map (shard_of bits) hs
        fused [] = refl
        fused (h ∷ hs) = ap (λ l. shard_of bits h ∷ l) (fused hs)

    pub places_rise : PlacesRise (dedup E middle)
    unfolding IsStrictlySortedBy
    places_rise = pairs (dedup E middle) in_order
      where
        rises : (a b : Held) → held_cmp a b ≡ Less → IsTrue (is_le (slice_cmp nat_cmp (place_of a) (place_of b)))
        rises a b h = by (nat_cmp a.m b.m) (nat_cmp a.n b.n) (nat_cmp a.x b.x) _ h
          where
            by : (p q r o : Ordering) → ordering_then p (ordering_then q (ordering_then r o)) ≡ Less → IsTrue (is_le (ordering_then p (ordering_then q (ordering_then r Equal))))
            by Less q r o e = refl
            by Greater q r o e = absurd (cc)
            by Equal Less r o e = refl
            by Equal Greater r o e = absurd (cc)
            by Equal Equal Less o e = refl
            by Equal Equal Equal o e = refl
            by Equal Equal Greater o e = absurd (cc)

        in_front : (a : Held) (hs : List Held) → AllByRecursion (λ y. held_cmp a y ≡ Less) hs → (j : ℕ) (d : Held) → j < length hs → held_cmp a (get_or hs j d) ≡ Less
        in_front a [] h j d less = absurd (omega arith)
        in_front a (x ∷ hs) h zero d less = h.0
        in_front a (x ∷ hs) h (suc j) d less = in_front a hs h.1 j d (omega arith)

        pairs : (hs : List Held) → IsStrictlySortedBy held_cmp hs → PlacesRise hs
        pairs [] h i j d less within = absurd (omega arith)
        pairs (x ∷ hs) h zero zero d less within = absurd (omega arith)
        pairs (x ∷ hs) h zero (suc j) d less within = rises x (get_or hs j d) (in_front x hs h.0 j d (omega arith))
        pairs (x ∷ hs) h (suc i) zero d less within = absurd (omega arith)
        pairs (x ∷ hs) h (suc i) (suc j) d less within = pairs hs h.1 i j d (omega arith) (omega arith)

-- what is left is no longer
pub length-dedup_le : {X : Type 0} (E : X → X → Bool) (xs : List X) → length (dedup E xs) ≤ length xs
length-dedup_le E [] = omega arith
length-dedup_le {X = X} E (x ∷ xs) = from x xs
  where
    by : (k y : X) (ys : List X) (b : Bool) → length (dedup_from E k ys) ≤ suc (length ys) → length (dedup_from E y ys) ≤ suc (length ys)
        → length (cond b (dedup_from E k ys) (k ∷ dedup_from E y ys)) ≤ suc (suc (length ys))
    by k y ys true p q = omega arith
    by k y ys false p q = omega arith

    from : (k : X) (ys : List X) → length (dedup_from E k ys) ≤ suc (length ys)
    from k [] = omega arith
    from k (y ∷ ys) = by k y ys (E y k) (from k ys) (from y ys)

pub fewer_is : {X : Type 0} (E : X → X → Bool) (left xs : List X) → left ≡ dedup E xs → length left ≤ length xs
fewer_is E left xs e = subst (λ l. length l ≤ length xs) (sym e) (length-dedup_le E xs)
