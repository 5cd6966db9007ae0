-- The content that the shares of a chain mean.
use Rattle.std.proofs.Common.{◌≡◌, inl, inr, ℕ, zero, suc, ◌+◌, ◌<◌, List, [], ◌∷◌, map, length, take, drop, get_or, refl, sym, ap, ◌∙◌, subst, arith, lit<}
use Rattle.std.proofs.lemmas.List.{length-map, length-take-le, length-drop, get_or-take, get_or-drop, ext_get_or}
use Rattle.pot_bytes.specs.Lists.{AreBytes}
use Rattle.pot_joins.specs.Joins.{IsJoinAt, AreSamples}
use Rattle.pot_joins.proofs.JoinLemmas.{through}
use Rattle.pot_object.specs.Contents.{IsContent}
use Rattle.pot_object.specs.declared.content.FragmentHead.{FragmentHead}
use Rattle.pot_object.proofs.ContentLemmas.{fragment_head_at-content, zeros-content}
use Rattle.pot_recover.specs.Contents.{IsTail}
use Rattle.pot_recover.specs.HeldShards.{point_of, bytes_held, HaveBytes, IsFixedBy}
use Rattle.pot_recover.specs.Points.{ArePoints}
use Rattle.pot_recover.specs.declared.held.Held.{Held}

pub held_bytes : (k : ℕ) (chain : List Held) → HaveBytes chain → AreBytes (bytes_held k chain)
held_bytes k [] h j = lit< tt
held_bytes k (x ∷ chain) h zero = h x (inl refl) k
held_bytes k (x ∷ chain) h (suc j) = held_bytes k chain (λ y i. h y (inr i)) j

pub samples_of : (chain : List Held) → ArePoints (map point_of chain) → HaveBytes chain → (k : ℕ) → AreSamples (map point_of chain) (bytes_held k chain)
samples_of chain points bytes k = record {
  points_bytes = points.bytes;
  values_bytes = held_bytes k chain bytes;
  distinct = points.distinct;
  paired = length-map chain (λ (h : Held). get_or h.share.now k 0) ∙ sym (length-map chain point_of);
}

module _ (chain : List Held) (points : ArePoints (map point_of chain)) (bytes : HaveBytes chain) where
  -- what is fixed at a place is one
  fixed_place : (k y a b : ℕ) → IsJoinAt (map point_of chain) (bytes_held k chain) y a → IsJoinAt (map point_of chain) (bytes_held k chain) y b → a ≡ b
  fixed_place k y a b ja jb = let r = through (map point_of chain) (bytes_held k chain) (samples_of chain points bytes k) in ja r.0 r.1 r.2 r.3 ∙ sym (jb r.0 r.1 r.2 r.3)

  pub one_content : (joined c : List ℕ) → length joined ≡ 992 → length c ≡ 992 → IsFixedBy chain 0 joined → IsFixedBy chain 0 c → joined ≡ c
  one_content joined c lj lc fj fc = ext_get_or 0 joined c (lj ∙ sym lc) (λ k less.
      let inside : k < 992 = omega (arith, less, lj) in fixed_place k 0 (get_or joined k 0) (get_or c k 0) (fj k inside) (fc k inside))

  pub one_tail : (tail c : List ℕ) → length tail ≡ 16 → length c ≡ 992
      → ((k : ℕ) → k < length tail → IsJoinAt (map point_of chain) (bytes_held (16 + k) chain) 0 (get_or tail k 0)) → IsFixedBy chain 0 c
      → tail ≡ take 16 (drop 16 c)
  one_tail tail c lt lc ft fc =
      let d = length-drop 16 c in
      let long : length (take 16 (drop 16 c)) ≡ 16 = length-take-le 16 (drop 16 c) (omega (arith, d, lc)) in
      ext_get_or 0 tail (take 16 (drop 16 c)) (lt ∙ sym long) (λ k less.
      let inside : k < 16 = omega (arith, less, lt) in
      fixed_place (16 + k) 0 (get_or tail k 0) (get_or c (16 + k) 0) (ft k less) (fc (16 + k) (omega (arith, inside)))
      ∙ sym (get_or-take 16 (drop 16 c) k 0 inside ∙ get_or-drop 16 c k 0))

-- what is fixed from place 0 on
pub from_zero : (chain : List Held) (joined : List ℕ) → length joined ≡ 992
    → ((k : ℕ) → k < length joined → IsJoinAt (map point_of chain) (bytes_held (0 + k) chain) 0 (get_or joined k 0)) → IsFixedBy chain 0 joined
from_zero chain joined long h k less =
    subst (λ i. IsJoinAt (map point_of chain) (bytes_held i chain) 0 (get_or joined k 0)) (let e : 0 + k ≡ k = omega arith in e) (h k (omega (arith, less, long)))

-- what a content has at its places 16 to 31
pub tail_of : (h : FragmentHead) (c : List ℕ) → IsContent h c → IsTail (take 16 (drop 16 c))
tail_of h c is =
    let at = fragment_head_at-content h c is in
    let number : get_or c 16 0 ≡ h.number = ap (λ (g : FragmentHead). g.number) at in
    let count : get_or c 17 0 ≡ h.count = ap (λ (g : FragmentHead). g.count) at in
    let zeroth : get_or (take 16 (drop 16 c)) 0 0 ≡ get_or c 16 0 = get_or-take 16 (drop 16 c) 0 0 (lit< tt) ∙ get_or-drop 16 c 0 0 in
    let first : get_or (take 16 (drop 16 c)) 1 0 ≡ get_or c 17 0 = get_or-take 16 (drop 16 c) 1 0 (lit< tt) ∙ get_or-drop 16 c 1 0 in (
      record {
        two = omega (arith, first, count, is.head.two);
        eight = omega (arith, first, count, is.head.eight);
        first = omega (arith, zeroth, number, is.head.first);
        last = omega (arith, zeroth, first, number, count, is.head.last);
      },
      behind c is.long ∙ zeros-content h c is,
    )
  where
    behind : (c : List ℕ) → length c ≡ 992 → drop 2 (take 16 (drop 16 c)) ≡ take 14 (drop 18 c)
    behind c long = ext_get_or 0 (drop 2 (take 16 (drop 16 c))) (take 14 (drop 18 c)) same
        (λ i less.
        let inside : i < 14 = omega (arith, less, length-drop 2 (take 16 (drop 16 c)), sixteen) in
        get_or-drop 2 (take 16 (drop 16 c)) i 0 ∙ (get_or-take 16 (drop 16 c) (2 + i) 0 (omega (arith, inside)) ∙ (get_or-drop 16 c (2 + i) 0
        ∙ (ap (λ k. get_or c k 0) (let e : 16 + (2 + i) ≡ 18 + i = omega arith in e) ∙ sym (get_or-take 14 (drop 18 c) i 0 inside ∙ get_or-drop 18 c i 0)))))
      where
        sixteen : length (take 16 (drop 16 c)) ≡ 16
        sixteen = length-take-le 16 (drop 16 c) (omega (arith, length-drop 16 c, long))

        same : length (drop 2 (take 16 (drop 16 c))) ≡ length (take 14 (drop 18 c))
        same =
            let a = length-drop 2 (take 16 (drop 16 c)) in
            let b = length-take-le 14 (drop 18 c) (omega (arith, length-drop 18 c, long)) in
            omega (arith, a, b, sixteen)
