-- What is found by chains and sets is just what is closed.
use Rattle.std.proofs.Common.{◌≡◌, inl, inr, ℕ, zero, suc, ◌+◌, ◌-◌, ◌<◌, ◌≤◌, List, [], ◌∷◌, ◌++◌, length, take, drop, get_or, nat_eq, refl, sym, ap, ◌∙◌, subst, arith, lit<, length-append, length-drop, take-append-drop}
use Rattle.std.specs.List.{range_with_len, IsDistinct}
use Rattle.std.proofs.lemmas.Bool.{ne_eqb}
use Rattle.std.proofs.lemmas.List.{length-map, length-take-le}
use Rattle.std.proofs.lemmas.List.FromFn.{length-range_with_len, get_or-range_with_len}
use Rattle.std.proofs.lemmas.Map.Keys.{IsDistinct-from_apart}
use Rattle.pot_chains.specs.Paths.{last_of, AreLinked, AreAll}
use Rattle.pot_chains.proofs.ChainLemmas.{closes_by_sets}
use Rattle.pot_joins.specs.Joins.{IsJoinAt, AreSamples}
use Rattle.pot_joins.proofs.JoinLemmas.{through}
use Rattle.pot_bytes.specs.Lists.{AreBytes}
use Rattle.pot_gf.specs.Polynomials.{value, IsBelowDegree, PassesThrough}
use Rattle.pot_gf.proofs.Values.{value-same, value-at_zero}
use Rattle.pot_gf.proofs.Zeros.{unique_law}
use Rattle.pot_shard.specs.LinkedRings.{IsLinked}
use Rattle.pot_shard.specs.Shards.{IsShard}
use Rattle.pot_shard.specs.declared.shard.Shard.{Shard}
use Rattle.pot_recover.specs.Held.{IsHeld}
use Rattle.pot_recover.specs.Rings.{points_of, bytes_at, IsFragmentClosed}
use Rattle.pot_recover.specs.Sets.{IsFixed, FitsChain, IsContentFound, RingLaws}

-- of lists one behind the other
pub all_append : {X : Type 0} (P : X → Type 0) (xs ys : List X) → AreAll P xs → AreAll P ys → AreAll P (xs ++ ys)
all_append P [] ys a b = b
all_append P (x ∷ xs) ys a b = (a.0, all_append P xs ys a.1 b)

pub all_parts : {X : Type 0} (P : X → Type 0) (xs ys : List X) → AreAll P (xs ++ ys) → AreAll P xs × AreAll P ys
all_parts P [] ys h = (tt, h)
all_parts P (x ∷ xs) ys h = let r = all_parts P xs ys h.1 in ((h.0, r.0), r.1)

pub all_weaker : {X : Type 0} (P Q : X → Type 0) → ((x : X) → P x → Q x) → (xs : List X) → AreAll P xs → AreAll Q xs
all_weaker P Q f [] h = tt
all_weaker P Q f (x ∷ xs) h = (f x h.0, all_weaker P Q f xs h.1)

pub all_both : {X : Type 0} (P Q : X → Type 0) (xs : List X) → AreAll P xs → AreAll Q xs → AreAll (λ x. P x × Q x) xs
all_both P Q [] a b = tt
all_both P Q (x ∷ xs) a b = ((a.0, b.0), all_both P Q xs a.1 b.1)

-- a fact for each place is one for each of them
all_places : {X : Type 0} (P : ℕ → X → Type 0) (n : ℕ) (xs : List X) → ((k : ℕ) → k < n → AreAll (P k) xs) → AreAll (λ x. (k : ℕ) → k < n → P k x) xs
all_places P n [] h = tt
all_places P n (x ∷ xs) h = (λ k l. (h k l).0, all_places P n xs (λ k l. (h k l).1))

linked_append : {X : Type 0} (Link : X → X → Type 0) (x : X) (ys zs : List X) → AreLinked Link x ys → AreLinked Link (last_of x ys) zs → AreLinked Link x (ys ++ zs)
linked_append Link x [] zs a b = b
linked_append Link x (y ∷ ys) zs a b = (a.0, linked_append Link y ys zs a.1 b)

pub linked_parts : {X : Type 0} (Link : X → X → Type 0) (x : X) (ys zs : List X) → AreLinked Link x (ys ++ zs) → AreLinked Link x ys × AreLinked Link (last_of x ys) zs
linked_parts Link x [] zs h = (tt, h)
linked_parts Link x (y ∷ ys) zs h = let r = linked_parts Link y ys zs h.1 in ((h.0, r.0), r.1)

last_append : {X : Type 0} (x : X) (ys zs : List X) → last_of x (ys ++ zs) ≡ last_of (last_of x ys) zs
last_append x [] zs = refl
last_append x (y ∷ ys) zs = last_append y ys zs

-- linked shards stand at points in a row
pub points_run : (s : Shard) (rest : List Shard) → AreLinked IsLinked s rest → s.x + length rest ≤ s.n → points_of (s ∷ rest) ≡ range_with_len s.x (suc (length rest))
points_run s [] h few = refl
points_run s (t ∷ rest) h few =
    elim h.0.next [
      | inl on ↦
          let there = points_run t rest h.1 (omega (arith, on.1, h.0.count, few)) in
          ap (λ l. s.x ∷ l) (there ∙ ap (λ n. range_with_len n (suc (length rest))) on.1)
      | inr turned ↦ absurd (omega (arith, turned.0, few))
    ]

pub range-bytes : (a n : ℕ) → a + n ≤ 256 → AreBytes (range_with_len a n)
range-bytes a zero h k = lit< tt
range-bytes a (suc n) h zero = omega arith
range-bytes a (suc n) h (suc k) = range-bytes (a + 1) n (omega arith) k

pub range-distinct : (a n : ℕ) → IsDistinct nat_eq (range_with_len a n)
range-distinct a n =
    IsDistinct-from_apart nat_eq (range_with_len a n) (λ i j d less within.
    let long = length-range_with_len a n in
    let at_i = get_or-range_with_len a n i d (omega (arith, less, within, long)) in
    let at_j = get_or-range_with_len a n j d (omega (arith, within, long)) in
    ne_eqb (get_or (range_with_len a n) i d) (get_or (range_with_len a n) j d) (λ same. omega (arith, at_i, at_j, same, less)))

values-bytes : (k : ℕ) (c : List Shard) → AreAll (λ (t : Shard). AreBytes t.share) c → AreBytes (bytes_at k c)
values-bytes k [] h j = lit< tt
values-bytes k (t ∷ c) h zero = h.0 k
values-bytes k (t ∷ c) h (suc j) = values-bytes k c h.1 j

-- a polynomial that goes through has each one's byte at its point
abbrev pub HasByte : ℕ → List ℕ → Shard → Type 0
HasByte k p t = value p t.x ≡ get_or t.share k 0

pub passes_all : (k : ℕ) (p : List ℕ) (c : List Shard) → AreAll (HasByte k p) c → PassesThrough (points_of c) (bytes_at k c) p
passes_all k p [] h i lt = absurd (omega arith)
passes_all k p (t ∷ c) h zero lt = h.0
passes_all k p (t ∷ c) h (suc i) lt = passes_all k p c h.1 i (omega arith)

pub all_pass : (k : ℕ) (p : List ℕ) (c : List Shard) → PassesThrough (points_of c) (bytes_at k c) p → AreAll (HasByte k p) c
all_pass k p [] h = tt
all_pass k p (t ∷ c) h = (h 0 (omega arith), all_pass k p c (λ i lt. h (suc i) (omega arith)))

length-points : (c : List Shard) → length (points_of c) ≡ length c
length-points c = length-map c (λ (t : Shard). t.x)

module _ (s : Shard) (rest : List Shard) (at_one : s.x ≡ 1) (linked : AreLinked IsLinked s rest) (few : length (s ∷ rest) ≤ s.n) (small : s.n ≤ 16)
    (bytes : AreAll (λ (t : Shard). AreBytes t.share) (s ∷ rest)) where
  abbrev Chain : List Shard
  Chain = s ∷ rest

  run : points_of Chain ≡ range_with_len s.x (suc (length rest))
  run = points_run s rest linked (omega (arith, at_one, few))

  pub samples : (k : ℕ) → AreSamples (points_of Chain) (bytes_at k Chain)
  samples k = record {
    points_bytes = subst AreBytes (sym run) (range-bytes s.x (suc (length rest)) (omega (arith, at_one, few, small)));
    values_bytes = values-bytes k Chain bytes;
    distinct = subst (IsDistinct nat_eq) (sym run) (range-distinct s.x (suc (length rest)));
    paired = length-map Chain (λ (t : Shard). get_or t.share k 0) ∙ sym (length-points Chain);
  }

  -- one polynomial through them is the only one
  pub joins : (k : ℕ) (p : List ℕ) (y : ℕ) → AreBytes p → IsBelowDegree (length (points_of Chain)) p → PassesThrough (points_of Chain) (bytes_at k Chain) p
      → IsJoinAt (points_of Chain) (bytes_at k Chain) y (value p y)
  joins k p y b d h q bq dq hq =
      let w = samples k in
      value-same p q y (unique_law (points_of Chain) (bytes_at k Chain) p q w.points_bytes b bq w.distinct d dq h hq)

  pub one_through : (k : ℕ) → (p : List ℕ) × AreBytes p × IsBelowDegree (length (points_of Chain)) p × PassesThrough (points_of Chain) (bytes_at k Chain) p
  one_through k = through (points_of Chain) (bytes_at k Chain) (samples k)

module _ (held : Shard → Type 0) (shards : (t : Shard) → held t → IsShard t) (bytes : (t : Shard) → held t → AreBytes t.share) where
  all_bytes : (c : List Shard) → AreAll held c → AreAll (λ (t : Shard). AreBytes t.share) c
  all_bytes c h = all_weaker held (λ (t : Shard). AreBytes t.share) bytes c h

  pub to_closed : (content : List ℕ) → IsContentFound held content → IsFragmentClosed held content
  to_closed content ([], chain, long, closing) = absurd chain
  to_closed content (s ∷ rest, chain, long, (fixed, grammar, last)) =
      let open_end = (closes_by_sets IsLinked (FitsChain held (s ∷ rest)) (s.n - s.m) s (last_of s rest)).1 last in
      let more = open_end.0 in
      let is = shards s chain.1.0 in
      let held_more = all_weaker (FitsChain held (s ∷ rest)) held (λ t f. f.0) more open_end.2 in
      let count : length (rest ++ more) ≡ length rest + length more = length-append rest more in (
        s ∷ (rest ++ more),
        all_append held (s ∷ rest) more chain.1 held_more,
        (
          chain.0,
          omega (arith, count, open_end.1, long, is.m_last),
          linked_append IsLinked s rest more chain.2 open_end.3,
          subst (λ t. IsLinked t s) (sym (last_append s rest more)) open_end.4,
        ),
        record {
          places = λ k lt.
              let r = one_through s rest chain.0 chain.2 (omega (arith, long, is.m_last)) is.n_last (all_bytes (s ∷ rest) chain.1) k in
              let p = r.0 in (
                p,
                r.1,
                subst (λ n. IsBelowDegree n p) (length-points (s ∷ rest) ∙ long) r.2,
                passes_all k p (s ∷ (rest ++ more))
                    (all_append (HasByte k p) (s ∷ rest) more (all_pass k p (s ∷ rest) r.3)
                    (all_weaker (FitsChain held (s ∷ rest)) (HasByte k p) (λ t f. sym (f.1 k lt p r.1 r.2 r.3)) more open_end.2)),
                sym (value-at_zero p r.1) ∙ sym (fixed k lt p r.1 r.2 r.3),
              );
          grammar = grammar;
        },
      )

  pub from_closed : (content : List ℕ) → IsFragmentClosed held content → IsContentFound held content
  from_closed content ([], all, ring, closes) = absurd ring
  from_closed content (s ∷ all, are_held, ring, closes) =
      let is = shards s are_held.0 in
      let rest = take (s.m - 1) all in
      let more = drop (s.m - 1) all in
      let whole : rest ++ more ≡ all = take-append-drop (s.m - 1) all in
      let front : length rest ≡ s.m - 1 = length-take-le (s.m - 1) all (omega (arith, ring.1, is.m_last)) in
      let long : length (s ∷ rest) ≡ s.m = omega (arith, front, is.m_first) in
      let behind : length more ≡ s.n - s.m = omega (arith, length-drop (s.m - 1) all, ring.1, is.m_first) in
      let held_parts = all_parts held (s ∷ rest) more (subst (λ l. AreAll held (s ∷ l)) (sym whole) are_held) in
      let links = linked_parts IsLinked s rest more (subst (AreLinked IsLinked s) (sym whole) ring.2) in
      let turns = subst (λ l. IsLinked (last_of s l) s) (sym whole) ring.3 in
      let one = λ (k : ℕ) (lt : k < 992). closes.places k lt in
      let parts = λ (k : ℕ) (lt : k < 992).
      all_parts (HasByte k (one k lt).0) (s ∷ rest) more
      (subst (λ l. AreAll (HasByte k (one k lt).0) (s ∷ l)) (sym whole) (all_pass k (one k lt).0 (s ∷ all) (one k lt).3)) in
      let fixes = λ (k : ℕ) (lt : k < 992) (y : ℕ).
      joins s rest ring.0 links.0 (omega (arith, long, is.m_last)) is.n_last (all_bytes (s ∷ rest) held_parts.0) k (one k lt).0 y (one k lt).1
      (subst (λ n. IsBelowDegree n (one k lt).0) (sym (length-points (s ∷ rest) ∙ long)) (one k lt).2)
      (passes_all k (one k lt).0 (s ∷ rest) (parts k lt).0) in (
        s ∷ rest,
        (ring.0, held_parts.0, links.0, omega (arith, long)),
        long,
        (
          λ k lt. subst (λ z. IsJoinAt (points_of (s ∷ rest)) (bytes_at k (s ∷ rest)) 0 z) (value-at_zero (one k lt).0 (one k lt).1 ∙ (one k lt).4) (fixes k lt 0),
          closes.grammar,
          (closes_by_sets IsLinked (FitsChain held (s ∷ rest)) (s.n - s.m) s (last_of s rest)).0 (
            more,
            behind,
            all_both held (λ t. IsFixed (s ∷ rest) t.x t.share) more held_parts.1
                (all_places (λ k t. IsJoinAt (points_of (s ∷ rest)) (bytes_at k (s ∷ rest)) t.x (get_or t.share k 0)) 992 more
                (λ k lt. all_weaker (HasByte k (one k lt).0) (λ t. IsJoinAt (points_of (s ∷ rest)) (bytes_at k (s ∷ rest)) t.x (get_or t.share k 0))
                (λ t e. subst (λ z. IsJoinAt (points_of (s ∷ rest)) (bytes_at k (s ∷ rest)) t.x z) e (fixes k lt t.x)) more (parts k lt).1)),
            links.1,
            subst (λ t. IsLinked t s) (last_append s rest more) turns,
          ),
        ),
      )

pub ring_laws : RingLaws
ring_laws = record {
  found = λ blocks bits content bytes. (
    to_closed (IsHeld blocks bits) (λ t h. h.2.shard) bytes content,
    from_closed (IsHeld blocks bits) (λ t h. h.2.shard) bytes content,
  );
}
