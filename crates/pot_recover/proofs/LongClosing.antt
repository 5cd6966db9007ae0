-- A chain of n held shards, and whether it closes robustly as a ring.
use Rattle.std.proofs.Common.{◌≡◌, ◌↔◌, inr, ℕ, suc, ◌+◌, ◌-◌, ◌<◌, ◌≤◌, List, [], ◌∷◌, map, length, get_or, refl, sym, ap, ◌∙◌, subst, arith}
use Rattle.std.specs.List.{range_with_len}
use Rattle.std.proofs.lemmas.List.{length-map}
use Rattle.pot_pointer.specs.Pointers.{blur}
use Rattle.pot_chains.specs.Listed.{IsIn}
use Rattle.pot_chains.proofs.ListedLemmas.{in_map}
use Rattle.pot_shard.specs.declared.shard.Shard.{Shard}
use Rattle.pot_recover.specs.Groups.{IsAt, IsHoldable, no_shard}
use Rattle.pot_recover.specs.HeldShards.{shard_of, point_of, bytes_held, AreWhole, HaveBytes}
use Rattle.pot_recover.specs.LongScopes.{IsLongWhole}
use Rattle.pot_recover.specs.Rings.{IsRing, points_of, bytes_at, need_of, IsAnyContent}
use Rattle.pot_recover.specs.Robust.{IsRobustAt, IsRobustlyFixed, ClosesRobustly, ClosesRobustlyAsRing}
use Rattle.pot_recover.specs.declared.held.Held.{Held}
use Rattle.pot_recover.proofs.ClosingLemmas.{all_in, first_is, last_is}
use Rattle.pot_recover.proofs.NextLemmas.{points_same, bytes_same, last_shard}
use Rattle.pot_recover.proofs.ReachedLemmas.{last_at}
use Rattle.pot_recover.proofs.RingLemmas.{points_run}
use Rattle.pot_recover.proofs.RobustLemmas.{one_robust}

-- the points of a whole chain
long_points : (shards : List Shard) (m n bits : ℕ) (chain : List Shard) → IsLongWhole shards m n bits chain → points_of chain ≡ range_with_len 1 (length chain)
long_points shards m n bits [] w = absurd w.of
long_points shards m n bits (s ∷ rest) w =
    points_run s rest w.of.0.2 (omega (arith, w.of.0.0, w.of.0.3)) ∙ ap (λ x. range_with_len x (suc (length rest))) w.of.0.0

-- whether the last of a whole chain is linked to its first
ring_is : (shards : List Shard) (m n bits : ℕ) (chain : List Shard) → IsLongWhole shards m n bits chain
    → (blur (get_or chain 0 no_shard).name bits ≡ (last_shard chain).pointer) ↔ IsRing chain
ring_is shards m n bits [] w = absurd w.of
ring_is shards m n bits (s ∷ rest) w =
    let own : s.blur ≡ bits = w.blurred s w.of.0.1.0 in
    let here : IsAt m n bits s.x s = record { need = w.of.1; count = w.of.2; bits_are = own; point = refl } in
    let last = last_at m n bits s rest here w.of.0.2 (omega (arith, w.of.0.0, w.of.0.3, w.of.2)) in
    let whole : length (s ∷ rest) ≡ s.n = w.long ∙ sym w.of.2 in (
      λ e. (
        w.of.0.0,
        whole,
        w.of.0.2,
        record {
          needed = w.of.1 ∙ sym last.need;
          count = w.of.2 ∙ sym last.count;
          bits = own ∙ sym last.bits_are;
          next = inr (omega (arith, last.point, last.count, w.of.0.0, w.long), w.of.0.0);
          pointer = sym e ∙ ap (blur s.name) (sym own);
        },
      ),
      λ ring. sym (ring.3.pointer ∙ ap (blur s.name) own),
    )

need_is : (shards : List Shard) (m n bits : ℕ) (chain : List Shard) → IsLongWhole shards m n bits chain → need_of chain ≡ m
need_is shards m n bits [] w = absurd w.of
need_is shards m n bits (s ∷ rest) w = w.of.1

module _ (shards : List Shard) (m n bits : ℕ) (chain : List Held) (w : IsLongWhole shards m n bits (map (shard_of bits) chain)) where
  holdable : (h : Held) → IsIn chain h → IsHoldable (shard_of bits h)
  holdable h there = w.holdable (shard_of bits h) (by (map (shard_of bits) chain) w (in_map (shard_of bits) chain h there))
    where
      by : (c : List Shard) → IsLongWhole shards m n bits c → IsIn c (shard_of bits h) → IsIn shards (shard_of bits h)
      by [] v i = absurd i
      by (s ∷ rest) v i = all_in (IsIn shards) (s ∷ rest) (shard_of bits h) v.of.0.1 i

  pub long_whole : AreWhole chain
  long_whole h there = (holdable h there).whole

  pub long_bytes : HaveBytes chain
  long_bytes h there = (holdable h there).bytes

  pub long_long : length chain ≡ n
  long_long = sym (length-map chain (shard_of bits)) ∙ w.long

  pub long_some : 0 < length chain
  long_some = let some = w.some in let few = w.few in omega (arith, long_long, some, few)

  pub long_enough : m ≤ length chain
  long_enough = let few = w.few in omega (arith, long_long, few)

  pub long_few : length chain ≤ 16
  long_few = omega (arith, long_long, w.small)

  pub long_point : map point_of chain ≡ range_with_len 1 (length chain)
  long_point = points_same bits chain ∙ (long_points shards m n bits (map (shard_of bits) chain) w ∙ ap (range_with_len 1) (length-map chain (shard_of bits)))

  -- what is read of the first and the last tells whether it is a ring
  pub is_ring : (first last : Held) → first ≡ get_or chain 0 first → last ≡ get_or chain (length chain - 1) last
      → (blur first.name bits ≡ last.pointer) ↔ IsRing (map (shard_of bits) chain)
  is_ring first last is_first is_last =
      let name = first_is bits chain first long_some is_first in
      let pointer = last_is bits chain last long_some is_last in
      let same = ring_is shards m n bits (map (shard_of bits) chain) w in (
        λ e. same.0 (ap (λ x. blur x bits) name ∙ (e ∙ sym pointer)),
        λ ring. ap (λ x. blur x bits) (sym name) ∙ (same.1 ring ∙ pointer),
      )

  fixed_places : (c : List ℕ) → IsRobustlyFixed m chain c → (k : ℕ) → k < 992 → IsRobustAt (need_of (map (shard_of bits) chain)) (points_of (map (shard_of bits) chain)) (bytes_at k (map (shard_of bits) chain)) (get_or c k 0)
  fixed_places c fixed k lt =
      subst (λ x. IsRobustAt x (points_of (map (shard_of bits) chain)) (bytes_at k (map (shard_of bits) chain)) (get_or c k 0)) (sym (need_is shards m n bits (map (shard_of bits) chain) w))
      (subst (λ (p : List ℕ). IsRobustAt m p (bytes_at k (map (shard_of bits) chain)) (get_or c k 0)) (points_same bits chain)
      (subst (λ (b : List ℕ). IsRobustAt m (map point_of chain) b (get_or c k 0)) (ap (λ i. bytes_held i chain) (let e : 0 + k ≡ k = omega arith in e) ∙ bytes_same bits k chain) (fixed.1 k (omega (arith, lt, fixed.0)))))

  places_fixed : (c : List ℕ) → length c ≡ 992 → ClosesRobustly (map (shard_of bits) chain) c → IsRobustlyFixed m chain c
  places_fixed c long closes = (
    long,
    λ k lt.
        subst (λ (b : List ℕ). IsRobustAt m (map point_of chain) b (get_or c k 0)) (sym (ap (λ i. bytes_held i chain) (let e : 0 + k ≡ k = omega arith in e) ∙ bytes_same bits k chain))
        (subst (λ (p : List ℕ). IsRobustAt m p (bytes_at k (map (shard_of bits) chain)) (get_or c k 0)) (sym (points_same bits chain))
        (subst (λ x. IsRobustAt x (points_of (map (shard_of bits) chain)) (bytes_at k (map (shard_of bits) chain)) (get_or c k 0)) (need_is shards m n bits (map (shard_of bits) chain) w)
        (closes.places k (omega (arith, lt, long))))),
  )

  -- the one content with which it closes
  pub closes_with : (content : List ℕ) → IsRing (map (shard_of bits) chain) → IsRobustlyFixed m chain content → IsAnyContent content
      → (c : List ℕ) → (content ≡ c) ↔ ClosesRobustlyAsRing (map (shard_of bits) chain) c
  closes_with content ring fixed any c = (
    λ e. (ring, record { places = fixed_places c (subst (IsRobustlyFixed m chain) e fixed); grammar = subst IsAnyContent e any }),
    λ closes. one_robust m chain w.some long_enough long_point long_few long_bytes content c fixed.0 fixed.1 (places_fixed c closes.1.grammar.1.long closes.1),
  )

  pub closes_not : ((c : List ℕ) → IsRobustlyFixed m chain c → IsAnyContent c → ⊥) → (c : List ℕ) → ClosesRobustlyAsRing (map (shard_of bits) chain) c → ⊥
  closes_not none c closes = none c (places_fixed c closes.1.grammar.1.long closes.1) closes.1.grammar
