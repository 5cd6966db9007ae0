-- Where blocks stand, and what they say.
use Rattle.std.proofs.Common.{◌≡◌, ◌≤◌, ◌<◌, ◌+◌, ◌-◌, ◌*◌, ◌/◌, ℕ, List, [], length, map, take, drop, get_or, Some, refl, ap, sym, ◌∙◌, arith, length-drop, add-mul, add_assoc, mul_assoc}
use Rattle.std.specs.Prelude.{slice_get}
use Rattle.std.specs.List.{flat_map, range_with_len}
use Rattle.std.proofs.Math.Nat.{mul-div_cancel}
use Rattle.std.proofs.lemmas.List.{get_or-take, get_or-drop, get_or-map, length-take-le}
use Rattle.std.proofs.lemmas.List.FromFn.{get_or-map-range_with_len}
use Rattle.std.proofs.lemmas.Option.{slice_get-get_or}
use Rattle.pot_bytes.specs.Lists.{AreBytes, IsBlock}
use Rattle.pot_bytes.specs.declared.rack.Geometry.{Geometry}
use Rattle.pot_bytes.proofs.ListLemmas.{AreBytes-take}
use Rattle.pot_gf.specs.Polynomials.{value, IsBelowDegree}
use Rattle.pot_gf.proofs.Values.{get_or-end}
use Rattle.pot_object.specs.Objects.{object}
use Rattle.pot_object.specs.Pieces.{content_size, pieces_of}
use Rattle.pot_split.specs.Threshold.{polynomial_at}
use Rattle.pot_split.proofs.ShareLemmas.{get_or-share}
use Rattle.pot_split.proofs.ThresholdLaws.{polynomial_bytes, length-polynomial_at}
use Rattle.pot_shard.specs.FileBlocks.{blocks_at, file_blocks, coefficients_in, content_of, content_shards, fragment_shards, fragments_of, fragment_len, head_len, object_shards, part_at, piece_blocks, piece_random, shard_at_place, shard_of}
use Rattle.pot_shard.specs.FileLaws.{content_in, object_in, shards_in, IsStore}
use Rattle.pot_shard.specs.Places.{block_in, fragment_random, position, shard_in, PlaceLaws}
use Rattle.pot_shard.specs.Shards.{shard_bytes}
use Rattle.pot_shard.specs.declared.shard.Shard.{Shard}
use Rattle.pot_shard.proofs.BlockLemmas.{length-content_shards, length-fragment_blocks, length-parts, length-piece_blocks, map-flat_map, part_of_parts, part_within}
use Rattle.pot_shard.proofs.ByteLemmas.{share-bytes, shard-bytes}
use Rattle.pot_shard.proofs.FileLemmas.{content_of-bytes, is_piece, length-content_of, part-bytes}
use Rattle.pot_shard.proofs.LinkLemmas.{shards_law}
use Rattle.pot_shard.proofs.ShardLemmas.{length-shard_bytes}

-- an element of a part
at_part : {X : Type 0} (f : ℕ → List X) (size n i q : ℕ) (d : X) → ((k : ℕ) → length (f k) ≡ size) → i < n → q < size
    → get_or (flat_map f (range_with_len 0 n)) (i * size + q) d ≡ get_or (f i) q d
at_part f size n i q d each inside within =
    let all = flat_map f (range_with_len 0 n) in
    sym (ap (λ z. get_or z q d) (sym (part_of_parts f size n i each inside))
    ∙ get_or-take size (drop (i * size) all) q d within ∙ get_or-drop (i * size) all q d)

-- the shards of a fragment by place
pub shard_at : (g : Geometry) (file random : List ℕ) (i j p : ℕ) (d : Shard) → p < g.shards
    → get_or (shards_in g file random i j) p d ≡ shard_in g file random i j p
unfolding fragment_shards content_shards
shard_at g file random i j p d inside =
    get_or-map-range_with_len (shard_at_place g (content_in g file random i j) (part_at (head_len g) (fragment_len g) j (piece_random g i random)))
    0 g.shards p p d inside (let e : 0 + p ≡ p = omega arith in e)

length-shards_in : (g : Geometry) (file random : List ℕ) (i j : ℕ) → length (shards_in g file random i j) ≡ g.shards
unfolding fragment_shards
length-shards_in g file random i j =
    length-content_shards g (content_in g file random i j) (part_at (head_len g) (fragment_len g) j (piece_random g i random))

-- the block at a place of a piece, by its own random bytes
pub block_of_object : (g : Geometry) (id file : List ℕ) (piece : ℕ) (own : List ℕ) (j p : ℕ) → j < g.fragments → p < g.shards
    → get_or (piece_blocks g id file piece own) (j * g.shards + p) []
    ≡ shard_bytes (shard_at_place g (content_of g (fragments_of g (object id file piece) own) own j) (part_at (head_len g) (fragment_len g) j own) p)
unfolding piece_blocks object_shards fragment_shards content_shards
block_of_object g id file piece own j p within inside =
    let fragments = fragments_of g (object id file piece) own in
    let f = fragment_shards g fragments own in
    let at = shard_at_place g (content_of g fragments own j) (part_at (head_len g) (fragment_len g) j own) in
    ap (λ z. get_or z (j * g.shards + p) []) (map-flat_map shard_bytes f (range_with_len 0 g.fragments))
    ∙ at_part (λ l. map shard_bytes (f l)) g.shards g.fragments j p [] (length-fragment_blocks g fragments own) within inside
    ∙ get_or-map shard_bytes (f j) p (at p) [] (omega (arith, length-content_shards g (content_of g fragments own j) (part_at (head_len g) (fragment_len g) j own), inside))
    ∙ ap shard_bytes (get_or-map-range_with_len at 0 g.shards p p (at p) inside (let e : 0 + p ≡ p = omega arith in e))

block_of_piece : (g : Geometry) (file random : List ℕ) (i j p : ℕ) → j < g.fragments → p < g.shards
    → get_or (blocks_at g file random i) (j * g.shards + p) [] ≡ shard_bytes (shard_in g file random i j p)
block_of_piece g file random i j p within inside = block_of_object g (take 16 random) file i (piece_random g i random) j p within inside

count_law : (g : Geometry) (file random : List ℕ)
    → length (file_blocks g file random) ≡ pieces_of (length file) * (g.fragments * g.shards)
count_law g file random =
    length-parts (blocks_at g file random) (g.fragments * g.shards) (pieces_of (length file))
    (λ k. length-piece_blocks g (take 16 random) file k (piece_random g k random))

-- the position of a block by its piece
position_in : (fragments shards i j p : ℕ) → (i * fragments + j) * shards + p ≡ i * (fragments * shards) + (j * shards + p)
position_in fragments shards i j p =
    ap (λ z. z + p) (add-mul (i * fragments) j shards ∙ ap (λ z. z + j * shards) (mul_assoc i fragments shards)) ∙ add_assoc (i * (fragments * shards)) (j * shards) p

each_law : (g : Geometry) (file random : List ℕ) (i j p : ℕ) → i < pieces_of (length file) → j < g.fragments → p < g.shards
    → slice_get (file_blocks g file random) (position g i j p) ≡ Some (shard_bytes (shard_in g file random i j p))
each_law g file random i j p exists within inside =
    let size = g.fragments * g.shards in
    let q = j * g.shards + p in
    let low : 0 + j * g.shards + g.shards ≤ size = part_within 0 g.shards j g.fragments g.shards size within refl (omega arith) in
    let low_q : q < size = omega (arith, low) in
    let high : 0 + i * size + size ≤ pieces_of (length file) * size = part_within 0 size i (pieces_of (length file)) size (pieces_of (length file) * size) exists refl (omega arith) in
    ap (slice_get (file_blocks g file random)) (position_in g.fragments g.shards i j p)
    ∙ slice_get-get_or (file_blocks g file random) (i * size + q) [] (omega (arith, high, low_q, count_law g file random))
    ∙ ap Some (at_part (blocks_at g file random) size (pieces_of (length file)) i q []
    (λ k. length-piece_blocks g (take 16 random) file k (piece_random g k random)) exists low_q
    ∙ block_of_piece g file random i j p within inside)

point_law : (g : Geometry) (file random : List ℕ) (i j p : ℕ) → (shard_in g file random i j p).x ≡ p + 1
unfolding shard_of
point_law g file random i j p = refl

block_law : (g : Geometry) (file random : List ℕ) (i j p : ℕ) → IsStore g file random
    → i < pieces_of (length file) → j < g.fragments → p < g.shards → IsBlock (block_in g file random i j p)
unfolding shard_of
block_law g file random i j p is exists within inside =
    let s = shard_in g file random i j p in
    let has = shards_law g file random i j s is exists within
    (p, omega (arith, inside, length-shards_in g file random i j), shard_at g file random i j p s inside) in
    let own : AreBytes s.share = share-bytes (content_in g file random i j) (coefficients_in g (fragment_random g random i j)) (p + 1) in
    record {
      size = length-shard_bytes s has.widths;
      bytes = shard-bytes s (omega (arith, has.shard.x_last, has.shard.n_last)) (omega (arith, has.shard.m_last, has.shard.n_last))
          (omega (arith, has.shard.n_last)) (omega (arith, has.shard.blur_last)) own;
    }

pub share_at : (s : Shard) → drop 32 (shard_bytes s) ≡ s.share
unfolding shard_bytes
share_at s = refl

closes_law : (g : Geometry) (file random : List ℕ) (i j k : ℕ) → IsStore g file random → i < pieces_of (length file) → j < g.fragments → k < content_size
    → (p : List ℕ) × AreBytes p × IsBelowDegree g.need p × (get_or p 0 0 ≡ get_or (content_in g file random i j) k 0)
    × ((x : ℕ) → x < g.shards → get_or (shard_in g file random i j x).share k 0 ≡ value p (x + 1))
unfolding shard_of
closes_law g file random i j k is exists within inside =
    let own = piece_random g i random in
    let piece = is_piece g file random i is exists in
    let part = part_at (head_len g) (fragment_len g) j own in
    let content = content_in g file random i j in
    let rows = coefficients_in g part in
    let long : length content ≡ 992 = length-content_of g (object_in file random i) own j piece within in
    let bytes : AreBytes content = content_of-bytes g (object_in file random i) own j piece within in
    let own_bytes : AreBytes part = part-bytes (head_len g) (fragment_len g) j own piece.random_bytes in
    let fits = part_within (head_len g) (fragment_len g) j g.fragments (fragment_len g) (length own) within refl piece.taken in
    let taken : length part ≡ fragment_len g =
    length-take-le (fragment_len g) (drop (head_len g + j * fragment_len g) own) (omega (arith, length-drop {A = ℕ} (head_len g + j * fragment_len g) own, fits)) in
    let count : length rows ≡ (g.need - 1) * 992 = length-take-le ((g.need - 1) * 992) part (omega (arith, taken)) in
    let some : 0 < length content = omega (arith, long) in
    let same : length rows ≡ (g.need - 1) * length content = count ∙ ap (λ (z : ℕ). (g.need - 1) * z) (sym long) in
    let many : length rows / length content ≡ g.need - 1 = ap (λ (z : ℕ). z / length content) same ∙ mul-div_cancel (g.need - 1) some in
    let p = polynomial_at content rows k in (
      p,
      polynomial_bytes content rows k bytes (AreBytes-take ((g.need - 1) * 992) part own_bytes),
      (λ t le. get_or-end p t (omega (arith, length-polynomial_at content rows k, many, le, is.geometry.need.0))),
      refl,
      λ x l. get_or-share content rows (x + 1) k (omega (arith, long, inside)),
    )

pub place_laws : PlaceLaws
place_laws = record {
  count = count_law;
  each = each_law;
  block = block_law;
  point = point_law;
  share = λ g file random i j p. share_at (shard_in g file random i j p);
  closes = closes_law;
}
