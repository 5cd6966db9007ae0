-- The rings that are stored are the rings that recovery speaks of.
use Rattle.std.proofs.Common.{◌≡◌, inl, inr, ℕ, zero, suc, ◌+◌, ◌<◌, ◌≤◌, List, [], ◌∷◌, length, get_or, refl, sym, ap, ◌∙◌, subst, arith}
use Rattle.std.specs.List.{range_with_len, Contains}
use Rattle.std.proofs.lemmas.List.{length-map, get_or_default}
use Rattle.std.proofs.lemmas.List.FromFn.{length-range_with_len, get_or-range_with_len}
use Rattle.pot_chains.specs.Listed.{IsIn}
use Rattle.pot_chains.specs.Paths.{last_of, AreLinked}
use Rattle.pot_chains.proofs.ListedLemmas.{contains_from_in}
use Rattle.pot_shard.specs.LinkedRings.{IsLinked, IsNextPoint, IsLinkedRing as IsStoredRing}
use Rattle.pot_shard.specs.declared.shard.Shard.{Shard}
use Rattle.pot_recover.specs.Rings.{IsRing, points_of}
use Rattle.pot_recover.specs.StoredRings.{LinkLaws}
use Rattle.pot_recover.proofs.GroupLemmas.{get_or-mapped}
use Rattle.pot_recover.proofs.RingLemmas.{points_run}

linked_at : {X : Type 0} (Link : X → X → Type 0) (x : X) (ys : List X) (i : ℕ) (d : X) → AreLinked Link x ys → i < length ys
    → Link (get_or (x ∷ ys) i d) (get_or (x ∷ ys) (suc i) d)
linked_at Link x [] i d h less = absurd (omega arith)
linked_at Link x (y ∷ ys) zero d h less = h.0
linked_at Link x (y ∷ ys) (suc i) d h less = linked_at Link y ys i d h.1 (omega arith)

last_is_at : {X : Type 0} (x : X) (ys : List X) (d : X) → last_of x ys ≡ get_or (x ∷ ys) (length ys) d
last_is_at x [] d = refl
last_is_at x (y ∷ ys) d = last_is_at y ys d

last_in : {X : Type 0} (x : X) (ys : List X) → IsIn (x ∷ ys) (last_of x ys)
last_in x [] = inl refl
last_in x (y ∷ ys) = inr (last_in y ys)

-- the point of a shard at a place
point_at : (shards : List Shard) (n i : ℕ) (d : Shard) → points_of shards ≡ range_with_len 1 n → i < n → (get_or shards i d).x ≡ 1 + i
point_at shards n i d points less =
    let long : length shards ≡ n = sym (length-map shards (λ (s : Shard). s.x)) ∙ (ap length points ∙ length-range_with_len 1 n) in
    sym (get_or-mapped (λ (s : Shard). s.x) shards i d 0 (omega (arith, less, long))) ∙ (ap (λ l. get_or l i 0) points ∙ get_or-range_with_len 1 n i 0 less)

all_linked : (n x : ℕ) (s : Shard) (rest : List Shard) → points_of (s ∷ rest) ≡ range_with_len x (suc (length rest)) → x + length rest ≤ n
    → ((a b : Shard) → IsIn (s ∷ rest) a → IsIn (s ∷ rest) b → IsNextPoint n a.x b.x → IsLinked a b) → AreLinked IsLinked s rest
all_linked n x s [] points few linked = tt
all_linked n x s (t ∷ rest) points few linked =
    let here : s.x ≡ x = ap (λ l. get_or l 0 0) points in
    let there : t.x ≡ x + 1 = ap (λ l. get_or l 1 0) points in
    let others : points_of (t ∷ rest) ≡ range_with_len (x + 1) (suc (length rest)) = tail s.x x (points_of (t ∷ rest)) (range_with_len (x + 1) (suc (length rest))) points in (
      linked s t (inl refl) (inr (inl refl)) (inl (omega (arith, here, few), omega (arith, here, there))),
      all_linked n (x + 1) t rest others (omega (arith, few)) (λ a b i j. linked a b (inr i) (inr j)),
    )
  where
    tail : (a b : ℕ) (as' bs : List ℕ) → a ∷ as' ≡ b ∷ bs → as' ≡ bs
    tail a b as' bs e = cc

to_ring : (n : ℕ) (shards : List Shard) → 1 ≤ n → IsStoredRing n shards → IsRing shards × (length shards ≡ n)
to_ring n [] some is = absurd (omega (arith, some, ap length is.points, length-range_with_len 1 n))
to_ring n (s ∷ rest) some is =
    let long : length (s ∷ rest) ≡ n = sym (length-map (s ∷ rest) (λ (t : Shard). t.x)) ∙ (ap length is.points ∙ length-range_with_len 1 n) in
    let points : points_of (s ∷ rest) ≡ range_with_len 1 (suc (length rest)) = is.points ∙ ap (range_with_len 1) (sym long) in
    let first : s.x ≡ 1 = ap (λ l. get_or l 0 0) points in
    let linked = λ (a b : Shard) (i : IsIn (s ∷ rest) a) (j : IsIn (s ∷ rest) b) (next : IsNextPoint n a.x b.x).
    is.linked a b (contains_from_in (s ∷ rest) a i) (contains_from_in (s ∷ rest) b j) next in
    let last : (last_of s rest).x ≡ n =
    ap (λ (t : Shard). t.x) (last_is_at s rest s) ∙ (point_at (s ∷ rest) n (length rest) s is.points (omega (arith, long)) ∙ (let e : 1 + length rest ≡ n = omega (arith, long) in e)) in
    let turn : IsLinked (last_of s rest) s = linked (last_of s rest) s (last_in s rest) (inl refl) (inr (last, first)) in
    let count : s.n ≡ n = turn.count ∙ (elim turn.next [ inl on ↦ absurd (omega (arith, on.1, last, first, some)) | inr at ↦ omega (arith, at.0, last) ]) in
    ((first, long ∙ sym count, all_linked n 1 s rest points (omega (arith, long)) linked, turn), long)

from_ring : (n : ℕ) (shards : List Shard) → IsRing shards → length shards ≡ n → IsStoredRing n shards
from_ring n [] is long = absurd is
from_ring n (s ∷ rest) is long = record { points = points; linked = linked }
  where
    points : points_of (s ∷ rest) ≡ range_with_len 1 n
    points =
        points_run s rest is.2 (omega (arith, is.0, is.1)) ∙ (ap (λ x. range_with_len x (suc (length rest))) is.0 ∙ ap (range_with_len 1) long)

    linked : (a b : Shard) → Contains (s ∷ rest) a → Contains (s ∷ rest) b → IsNextPoint n a.x b.x → IsLinked a b
    linked a b i j next =
        let at_a : get_or (s ∷ rest) i.0 s ≡ a = get_or_default (s ∷ rest) i.0 s a i.1 ∙ i.2 in
        let at_b : get_or (s ∷ rest) j.0 s ≡ b = get_or_default (s ∷ rest) j.0 s b j.1 ∙ j.2 in
        let place_a : a.x ≡ 1 + i.0 = ap (λ (t : Shard). t.x) (sym at_a) ∙ point_at (s ∷ rest) n i.0 s points (let h = i.1 in omega (arith, h, long)) in
        let place_b : b.x ≡ 1 + j.0 = ap (λ (t : Shard). t.x) (sym at_b) ∙ point_at (s ∷ rest) n j.0 s points (let h = j.1 in omega (arith, h, long)) in
        elim next [
          | inl on ↦
              let after : suc i.0 ≡ j.0 = omega (arith, on.1, place_a, place_b) in
              let inside : i.0 < length rest = (let h = j.1 in omega (arith, h, after)) in
              subst (λ (t : Shard). IsLinked t b) at_a (subst (IsLinked (get_or (s ∷ rest) i.0 s)) (ap (λ k. get_or (s ∷ rest) k s) after ∙ at_b) (linked_at IsLinked s rest i.0 s is.2 inside))
          | inr turned ↦
              let last : i.0 ≡ length rest = omega (arith, turned.0, place_a, long) in
              let first : j.0 ≡ 0 = omega (arith, turned.1, place_b) in
              let is_a : last_of s rest ≡ a = last_is_at s rest s ∙ (ap (λ k. get_or (s ∷ rest) k s) (sym last) ∙ at_a) in
              let is_b : s ≡ b = ap (λ k. get_or (s ∷ rest) k s) (sym first) ∙ at_b in
              subst (λ (t : Shard). IsLinked t b) is_a (subst (IsLinked (last_of s rest)) is_b is.3)
        ]

pub link_laws : LinkLaws
link_laws = record { rings = λ n shards some. (to_ring n shards some, λ w. from_ring n shards w.0 w.1) }
