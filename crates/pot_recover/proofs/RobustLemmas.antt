-- What the shares of a ring give robustly.
use Rattle.std.proofs.Common.{◌≡◌, inl, inr, ℕ, zero, suc, ◌+◌, ◌<◌, ◌≤◌, List, [], ◌∷◌, map, length, take, drop, get_or, set, refl, sym, ap, ◌∙◌, subst, arith}
use Rattle.std.specs.List.{range_with_len}
use Rattle.std.proofs.lemmas.Bool.{cases_eq}
use Rattle.std.proofs.lemmas.List.{length-map, length-take-le, length-drop, get_or-take, get_or-drop, ext_get_or, get_or-set_same, get_or-set_other}
use Rattle.pot_chains.specs.Listed.{IsIn}
use Rattle.pot_bytes.specs.Lists.{AreBytes}
use Rattle.pot_recover.specs.HeldShards.{point_of, bytes_held, share_of, AreWhole, HaveBytes}
use Rattle.pot_recover.specs.Robust.{IsRobustAt, AreRobust, IsRobustlyFixed, HasNoRobust}
use Rattle.pot_recover.specs.declared.held.Held.{Held}
use Rattle.pot_recover.proofs.ContentLemmas.{held_bytes}
use Rattle.pot_recover.proofs.JoinLemmas.{points_distinct}
use Rattle.pot_recover.proofs.RingLemmas.{range-bytes}
use Rattle.pot_robust.specs.Robust.{AreValues}
use Rattle.pot_robust.proofs.RobustLemmas.{unique_law}

pub share_whole : (ring : List Held) (i : ℕ) (d : Held) → AreWhole ring → i < length ring → length (share_of (get_or ring i d)) ≡ 992
share_whole ring i d whole lt = whole (get_or ring i d) (member ring i d lt)
  where
    member : (xs : List Held) (i : ℕ) (d : Held) → i < length xs → IsIn xs (get_or xs i d)
    member [] i d lt = absurd (omega arith)
    member (x ∷ xs) zero d lt = inl refl
    member (x ∷ xs) (suc i) d lt = inr (member xs i d (omega arith))

module _ (need : ℕ) (ring : List Held) (some : 1 ≤ need) (enough : need ≤ length ring) (points : map point_of ring ≡ range_with_len 1 (length ring)) (few : length ring ≤ 16) (bytes : HaveBytes ring) where
  values : (k : ℕ) → AreValues need (map point_of ring) (bytes_held k ring)
  values k = record {
    points_bytes = subst AreBytes (sym points) (range-bytes 1 (length ring) (omega (arith, few)));
    values_bytes = held_bytes k ring bytes;
    distinct = points_distinct (map point_of ring) (length ring) points;
    paired = length-map ring (λ (h : Held). get_or h.share.now k 0) ∙ sym (length-map ring point_of);
    first = some;
    last = omega (arith, enough, length-map ring point_of);
  }

  -- what is given at a place is one
  one_byte : (k a b : ℕ) → IsRobustAt need (map point_of ring) (bytes_held k ring) a → IsRobustAt need (map point_of ring) (bytes_held k ring) b → a ≡ b
  one_byte k a b ra rb = sym ra.2 ∙ (unique_law need (map point_of ring) (bytes_held k ring) ra.0 rb.0 (values k) ra.1 rb.1 0 ∙ rb.2)

  at_place : (c : List ℕ) (k : ℕ) → IsRobustlyFixed need ring c → k < 992 → IsRobustAt need (map point_of ring) (bytes_held k ring) (get_or c k 0)
  at_place c k fixed lt =
      subst (λ i. IsRobustAt need (map point_of ring) (bytes_held i ring) (get_or c k 0)) (let e : 0 + k ≡ k = omega arith in e) (fixed.1 k (omega (arith, lt, fixed.0)))

  -- where nothing is given at one place there is no content
  pub none_given : (start count : ℕ) → start + count ≤ 992 → HasNoRobust need ring start count → (c : List ℕ) → IsRobustlyFixed need ring c → ⊥
  none_given start count within none c fixed = none.2 (get_or c (start + none.0) 0) (at_place c (start + none.0) fixed (omega (arith, none.1, within)))

  pub one_robust : (joined c : List ℕ) → length joined ≡ 992 → AreRobust need ring 0 joined → IsRobustlyFixed need ring c → joined ≡ c
  one_robust joined c long given fixed = ext_get_or 0 joined c (long ∙ sym fixed.0) (λ k less.
      one_byte k (get_or joined k 0) (get_or c k 0) (at_place joined k (long, given) (omega (arith, less, long))) (at_place c k fixed (omega (arith, less, long))))

  pub robust_tail : (tail c : List ℕ) → length tail ≡ 16 → AreRobust need ring 16 tail → IsRobustlyFixed need ring c → tail ≡ take 16 (drop 16 c)
  robust_tail tail c long given fixed =
      let d = length-drop 16 c in
      let size : length (take 16 (drop 16 c)) ≡ 16 = length-take-le 16 (drop 16 c) (omega (arith, d, fixed.0)) in
      ext_get_or 0 tail (take 16 (drop 16 c)) (long ∙ sym size) (λ k less.
      let inside : k < 16 = omega (arith, less, long) in
      one_byte (16 + k) (get_or tail k 0) (get_or c (16 + k) 0) (given k less) (at_place c (16 + k) fixed (omega (arith, inside)))
      ∙ sym (get_or-take 16 (drop 16 c) k 0 inside ∙ get_or-drop 16 c k 0))

  -- one more place
  pub robust_more : (start i byte : ℕ) (now : List ℕ) → i < length now → IsRobustAt need (map point_of ring) (bytes_held (start + i) ring) byte
      → ((j : ℕ) → j < i → IsRobustAt need (map point_of ring) (bytes_held (start + j) ring) (get_or now j 0))
      → (j : ℕ) → j < i + 1 → IsRobustAt need (map point_of ring) (bytes_held (start + j) ring) (get_or (set now i byte) j 0)
  robust_more start i byte now lt here before j less = elim (cases_eq j i) [
    | inl e ↦ subst (λ b. IsRobustAt need (map point_of ring) (bytes_held (start + j) ring) b)
        (sym (ap (λ k. get_or (set now i byte) k 0) e ∙ get_or-set_same now i byte 0 lt))
        (subst (λ k. IsRobustAt need (map point_of ring) (bytes_held (start + k) ring) byte) (sym e) here)
    | inr ne ↦ subst (λ b. IsRobustAt need (map point_of ring) (bytes_held (start + j) ring) b) (sym (get_or-set_other now i j byte 0 ne)) (before j (omega (arith, less, ne)))
  ]
