-- The shards of a fragment are linked in a ring, and each has a block.
use Rattle.std.proofs.Common.{◌≡◌, ◌<◌, ◌+◌, ◌-◌, ◌*◌, ◌^◌, inl, inr, ℕ, List, length, map, drop, get_or, refl, ap, sym, subst, ◌∙◌, arith}
use Rattle.std.proofs.lemmas.List.{ext_get_or}
use Rattle.std.proofs.lemmas.List.FromFn.{length-map-range_with_len, get_or-map-range_with_len, length-range_with_len, get_or-range_with_len}
use Rattle.std.proofs.lemmas.Simd.{map-map}
use Rattle.std.specs.List.{range_with_len, Contains}
use Rattle.pot_bytes.specs.declared.rack.Geometry.{Geometry}
use Rattle.pot_object.specs.Pieces.{pieces_of}
use Rattle.pot_pointer.specs.Pointers.{blur}
use Rattle.pot_shard.specs.FileBlocks.{coefficients_in, content_shards, fragment_len, fragment_shards, head_len, names_in, part_at, piece_random, shard_at_place, shard_of}
use Rattle.pot_shard.specs.FileLaws.{content_in, object_in, shards_in, IsStore}
use Rattle.pot_shard.specs.LinkedRings.{IsLinked, IsNextPoint, IsLinkedRing}
use Rattle.pot_shard.specs.Rings.{ring}
use Rattle.pot_shard.specs.Shards.{shard_bytes, IsShardBlock}
use Rattle.pot_shard.specs.declared.shard.Shard.{Shard}
use Rattle.pot_shard.proofs.BlockLemmas.{length-names_at, ring_cleared}
use Rattle.pot_shard.proofs.RingLemmas.{ring_last, ring_next}
use Rattle.pot_shard.proofs.FileLemmas.{is_piece, length-content_of, part-bytes}
use Rattle.pot_split.proofs.ShareLemmas.{length-share}
use Rattle.pot_bytes.specs.Rack.{IsGeometry}
use Rattle.byteorder.specs.Endian.{big_number}
use Rattle.byteorder.specs.Numbers.{big_from-lt}
use Rattle.std.proofs.lemmas.Bool.{cases_lt}
use Rattle.pot_bytes.specs.Lists.{AreBytes}
use Rattle.pot_bytes.proofs.ListLemmas.{AreBytes-drop}

-- a shard of a content stands at one of its places
at_place : (g : Geometry) (content random : List ℕ) (s : Shard) → Contains (content_shards g content random) s
    → (k : ℕ) × (k < g.shards) × (s ≡ shard_at_place g content random k)
unfolding content_shards
at_place g content random s h =
    let f = shard_at_place g content random in
    let inside : h.0 < g.shards = omega (arith, h.1, length-map-range_with_len f 0 g.shards) in
    (h.0, inside, sym h.2 ∙ get_or-map-range_with_len f 0 g.shards h.0 h.0 s inside (omega arith))

-- the point of a shard by its place
x_at : (g : Geometry) (content random : List ℕ) (k : ℕ) → (shard_at_place g content random k).x ≡ k + 1
unfolding shard_of
x_at g content random k = refl

-- a shard points to the one at the next point
linked : (g : Geometry) (content random : List ℕ) (k l : ℕ) → k < g.shards → l < g.shards → IsNextPoint g.shards (k + 1) (l + 1)
    → IsLinked (shard_at_place g content random k) (shard_at_place g content random l)
unfolding shard_of
linked g content random k l a b next =
    let names = names_in g random in
    let long : length names ≡ g.shards = length-names_at g.shards (drop ((g.need - 1) * 992) random) in
    record {
      needed = refl;
      count = refl;
      bits = refl;
      next = next;
      pointer = elim next [
        | inl after ↦
            let here : k + 1 ≡ l = omega (arith, after.1) in
            ring_next names g.blur k (omega (arith, after.0)) ∙ ap (λ (z : ℕ). blur (get_or names z 0) g.blur) here
        | inr turned ↦
            let here : 0 ≡ l = omega (arith, turned.1) in
            ring_last names g.blur k (omega (arith, turned.0)) ∙ ap (λ (z : ℕ). blur (get_or names z 0) g.blur) here
      ];
    }

ring_of_content : (g : Geometry) (content random : List ℕ) → IsLinkedRing g.shards (content_shards g content random)
unfolding content_shards
ring_of_content g content random =
    let n = g.shards in
    let f = shard_at_place g content random in
    let x : ℕ → ℕ = λ k. (f k).x in
    record {
      points =
          map-map (λ (s : Shard). s.x) f (range_with_len 0 n)
          ∙ ext_get_or 0 (map x (range_with_len 0 n)) (range_with_len 1 n)
          (length-map-range_with_len x 0 n ∙ sym (length-range_with_len 1 n))
          (λ k l.
          let inside : k < n = omega (arith, length-map-range_with_len x 0 n) in
          let same : k + 1 ≡ 1 + k = omega arith in
          get_or-map-range_with_len x 0 n k k 0 inside (omega arith) ∙ x_at g content random k ∙ same
          ∙ sym (get_or-range_with_len 1 n k 0 inside));
      linked = λ s t hs ht next.
          let a = at_place g content random s hs in
          let b = at_place g content random t ht in
          let xs : s.x ≡ a.0 + 1 = ap (λ (z : Shard). z.x) a.2 ∙ x_at g content random a.0 in
          let xt : t.x ≡ b.0 + 1 = ap (λ (z : Shard). z.x) b.2 ∙ x_at g content random b.0 in
          let here : IsNextPoint n (a.0 + 1) (b.0 + 1) = subst (λ (z : ℕ). IsNextPoint n z (b.0 + 1)) xs (subst (λ (z : ℕ). IsNextPoint n s.x z) xt next) in
          subst (λ (z : Shard). IsLinked z t) (sym a.2)
          (subst (λ (z : Shard). IsLinked (f a.0) z) (sym b.2) (linked g content random a.0 b.0 a.1 b.1 here));
    }

pub rings_law : (g : Geometry) (file random : List ℕ) (i j : ℕ) → IsLinkedRing g.shards (shards_in g file random i j)
unfolding fragment_shards
rings_law g file random i j =
    ring_of_content g (content_in g file random i j) (part_at (head_len g) (fragment_len g) j (piece_random g i random))

-- a name is a number of 64 bits
name_fits : (g : Geometry) (random : List ℕ) (k : ℕ) → AreBytes random → k < g.shards → get_or (names_in g random) k 0 < 2 ^ 64
name_fits g random k bytes inside =
    let rest = drop ((g.need - 1) * 992) random in
    let read : ℕ → ℕ = λ i. big_number 8 (drop (i * 8) rest) in
    let here : get_or (names_in g random) k 0 ≡ read k = get_or-map-range_with_len read 0 g.shards k k 0 inside (omega arith) in
    let small : read k < 2 ^ 64 =
    big_from-lt 0 8 (drop (k * 8) rest) (AreBytes-drop (k * 8) rest (AreBytes-drop ((g.need - 1) * 992) random bytes)) in
    omega (arith, here, small)

-- so is a pointer
pointer_fits : (g : Geometry) (random : List ℕ) (k : ℕ) → AreBytes random → k < g.shards
    → get_or (ring (names_in g random) g.blur) k 0 < 2 ^ 64
pointer_fits g random k bytes inside =
    let names = names_in g random in
    let long : length names ≡ g.shards = length-names_at g.shards (drop ((g.need - 1) * 992) random) in
    elim (cases_lt (k + 1) g.shards) [
      | inl before ↦ omega (arith, ring_next names g.blur k (omega arith), name_fits g random (k + 1) bytes before)
      | inr last ↦ omega (arith, ring_last names g.blur k (omega arith), name_fits g random 0 bytes (omega arith))
    ]

-- the shards of a content have blocks
has_block : (g : Geometry) (content random : List ℕ) (k : ℕ) → IsGeometry g → length content ≡ 992 → AreBytes random → k < g.shards
    → IsShardBlock (shard_at_place g content random k) (shard_bytes (shard_at_place g content random k))
unfolding shard_of
has_block g content random k geometry long bytes inside =
    let names = names_in g random in
    let count : length names ≡ g.shards = length-names_at g.shards (drop ((g.need - 1) * 992) random) in
    record {
      widths = record {
        name = name_fits g random k bytes inside;
        pointer = pointer_fits g random k bytes inside;
        share = length-share content (coefficients_in g random) (k + 1) ∙ long;
      };
      shard = record {
        x_first = omega arith;
        x_last = omega arith;
        m_first = geometry.need.0;
        m_last = geometry.need.1;
        n_last = geometry.shards;
        blur_last = geometry.blur;
        cleared = ring_cleared names g.blur k (omega arith);
      };
      spelled = refl;
    }

pub shards_law : (g : Geometry) (file random : List ℕ) (i j : ℕ) (s : Shard) → IsStore g file random
    → i < pieces_of (length file) → j < g.fragments → Contains (shards_in g file random i j) s → IsShardBlock s (shard_bytes s)
unfolding fragment_shards
shards_law g file random i j s is inside within h =
    let own = piece_random g i random in
    let content = content_in g file random i j in
    let part = part_at (head_len g) (fragment_len g) j own in
    let p = is_piece g file random i is inside in
    let a = at_place g content part s h in
    subst (λ (z : Shard). IsShardBlock z (shard_bytes z)) (sym a.2)
    (has_block g content part a.0 is.geometry (length-content_of g (object_in file random i) own j p within)
    (part-bytes (head_len g) (fragment_len g) j own p.random_bytes) a.1)
