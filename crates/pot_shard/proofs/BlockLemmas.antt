-- Parts of random bytes, of fragments and of blocks.
use Rattle.std.proofs.Common.{◌≡◌, ◌≤◌, ◌<◌, ◌+◌, ◌-◌, ◌*◌, ◌%◌, ◌^◌, ◌++◌, ◌∷◌, [], ℕ, zero, suc, inl, inr, List, length, length-append, map, take, drop, get_or, refl, ap, ap₂, sym, ◌∙◌, arith, replicate, length-drop}
use Rattle.std.proofs.lemmas.List.{drop_at, drop-append-le, take_all, take-append-le, length-take-le, length-map, length-replicate, get_or-map, get_or_append_left, take_at, flat_map_more, map-append, map-id}
use Rattle.std.proofs.lemmas.Slice.{take-put_mid}
use Rattle.std.proofs.Math.Nat.{mul-le-mul_right}
use Rattle.std.specs.List.{flat_map, range_with_len}
use Rattle.std.proofs.lemmas.List.FromFn.{length-map-range_with_len, map-range_with_len_more}
use Rattle.byteorder.specs.Endian.{big_number}
use Rattle.pot_bytes.specs.declared.rack.Geometry.{Geometry}
use borrow.Rule.Slice.PartMut.{put_mid}
use Rattle.pot_pointer.specs.Pointers.{blur}
use Rattle.pot_split.specs.Secrecy.{IsRows}
use Rattle.pot_object.specs.Objects.{object}
use Rattle.pot_object.specs.Pieces.{pieces_of}
use Rattle.std.proofs.lemmas.Bool.{cases_lt}
use Rattle.pot_pointer.proofs.BlurLemmas.{blur_is_cleared}
use Rattle.pot_shard.specs.FileBlocks.{blocks_at, file_blocks, piece_random, content_of, content_shards, fragment_len, fragment_shards, fragments_of, head_len, names_at, names_in, object_shards, part_at, piece_blocks, piece_len, shard_at_place}
use Rattle.pot_shard.specs.Rings.{ring}
use Rattle.pot_shard.specs.Shards.{shard_bytes}
use Rattle.pot_shard.proofs.RingLemmas.{length-ring}

-- a pad stands before the last fragment
pub pad_at : (pads last : List ℕ) (number : ℕ) → IsRows 928 pads → number * 928 < length pads
    → take (number * 928 + 928 - number * 928) (drop (number * 928) pads) ≡ part_at 0 928 number (pads ++ last)
pad_at pads last number rows inside =
    let at = number * 928 in
    let size : at + 928 - at ≡ 928 = omega arith in
    let begin : 0 + at ≡ at = omega arith in
    let whole : at + 928 ≤ length pads = omega arith in
    ap (λ (z : ℕ). take z (drop at pads)) size
    ∙ sym (ap (λ (z : ℕ). take 928 (drop z (pads ++ last))) begin
    ∙ ap (take 928) (drop-append-le at pads last (omega arith))
    ∙ take-append-le 928 (drop at pads) last (omega (arith, length-drop {A = ℕ} at pads)))

-- the last fragment stands behind the pads
pub last_at : (pads last : List ℕ) (number : ℕ) → length pads ≡ number * 928 → length last ≡ 928
    → last ≡ part_at 0 928 number (pads ++ last)
last_at pads last number before whole =
    let begin : 0 + number * 928 ≡ number * 928 = omega arith in
    sym (ap (λ (z : ℕ). take 928 (drop z (pads ++ last))) begin
    ∙ ap (take 928) (drop_at pads last (number * 928) before)
    ∙ take_all 928 last (omega arith))

-- so has a pointer of a ring
pub ring_cleared : (names : List ℕ) (bits k : ℕ) → k < length names → get_or (ring names bits) k 0 % 2 ^ bits ≡ 0
ring_cleared names bits k inside =
    let turned = drop 1 names ++ take 1 names in
    let f : ℕ → ℕ = λ name. blur name bits in
    let long : length turned ≡ length names = sym (length-map turned f) ∙ length-ring names bits in
    ap (λ (z : ℕ). z % 2 ^ bits) (get_or-map f turned k 0 0 (omega arith)) ∙ blur_is_cleared (get_or turned k 0) bits

pub length-names_at : (n : ℕ) (bytes : List ℕ) → length (names_at n bytes) ≡ n
length-names_at n bytes = length-map-range_with_len (λ i. big_number 8 (drop (i * 8) bytes)) 0 n

-- the names and the pointers that were read into arrays of 16
pub ring_read : (g : Geometry) (random named names pointers : List ℕ) (count rows : ℕ) → g.shards ≤ 16 → count ≡ g.shards
    → rows ≡ (g.need - 1) * 992 → named ≡ drop rows random → names ≡ names_at (length {A = ℕ} (take count (replicate 16 0))) named
    → pointers ≡ ring (take count (names ++ drop {A = ℕ} count (replicate 16 0))) g.blur
    → (names ≡ names_in g random) × (pointers ≡ ring (names_in g random) g.blur)
ring_read g random named names pointers count rows few n r b e p =
    let some : length {A = ℕ} (take count (replicate 16 0)) ≡ g.shards = length-take-le {A = ℕ} count (replicate 16 0) (omega (arith, length-replicate {A = ℕ} 16 0)) ∙ n in
    let read : names ≡ names_in g random =
    e ∙ ap (λ (z : ℕ). names_at z named) some ∙ ap (names_at g.shards) (b ∙ ap (λ (z : ℕ). drop z random) r) in
    let long : length names ≡ count = ap length read ∙ length-names_at g.shards (drop ((g.need - 1) * 992) random) ∙ sym n in
    (read, p ∙ ap (λ (z : List ℕ). ring z g.blur) (take_at names (drop {A = ℕ} count (replicate 16 0)) count long ∙ read))

-- what stands in the front of an array
pub front_at : (xs rest ys : List ℕ) (at k : ℕ) → xs ≡ ys → k < length ys → at ≡ k → get_or (xs ++ rest) at 0 ≡ get_or ys k 0
front_at xs rest ys at k same inside here =
    ap₂ (λ (z : List ℕ) (i : ℕ). get_or (z ++ rest) i 0) same here ∙ get_or_append_left ys rest 0 k inside

-- a part that was taken by its bounds
pub part_taken : (h i s head j size : ℕ) (xs : List ℕ) → h ≡ head → i ≡ j → s ≡ size
    → take (h + i * s + s - (h + i * s)) (drop (h + i * s) xs) ≡ part_at head size j xs
part_taken h i s head j size xs a b c =
    let long : h + i * s + s - (h + i * s) ≡ s = omega arith in
    ap (λ (z : ℕ). take z (drop (h + i * s) xs)) long
    ∙ ap₂ (λ (u v : ℕ). take s (drop (u + v * s) xs)) a b
    ∙ ap (λ (z : ℕ). take z (drop (head + j * z) xs)) c

-- the pads are whole rows
pub pads_are_rows : (g : Geometry) (random : List ℕ) (head : ℕ) → length random ≡ piece_len g → head ≡ head_len g
    → IsRows 928 (take (head - 16) (drop 16 random))
pads_are_rows g random head long e =
    let pads : head - 16 ≡ (g.fragments - 1) * 928 = omega arith in
    let room : head - 16 ≤ length (drop 16 random) = omega (arith, length-drop {A = ℕ} 16 random) in
    let whole : length (take (head - 16) (drop 16 random)) ≡ (g.fragments - 1) * 928 = length-take-le (head - 16) (drop 16 random) room ∙ pads in
    omega (arith, whole)

-- numbers from 0 on, and one more
pub range_more : (n : ℕ) → range_with_len 0 (n + 1) ≡ range_with_len 0 n ++ n ∷ []
range_more n =
    sym (map-id (range_with_len 0 (n + 1))) ∙ map-range_with_len_more (λ (i : ℕ). i) 0 n n (omega arith)
    ∙ ap (λ (z : List ℕ). z ++ n ∷ []) (map-id (range_with_len 0 n))

-- lists by number, one after another, and one more
pub parts_more : {X : Type 0} (f : ℕ → List X) (n : ℕ) → flat_map f (range_with_len 0 n) ++ f n ≡ flat_map f (range_with_len 0 (n + 1))
parts_more f n = flat_map_more f [] (range_with_len 0 n) n ∙ ap (flat_map f) (sym (range_more n))

pub one_part_more : (i size : ℕ) → (i + 1) * size ≡ i * size + size
one_part_more i size = grind arith

parts_below : (i n size : ℕ) → i < n → i * size ≤ n * size
parts_below i n size inside = mul-le-mul_right size (omega arith)

-- the next of parts of one size is written
pub put_part : {X : Type 0} (f : ℕ → List X) (out ys : List X) (i n size k : ℕ) → length out ≡ n * size → i < n
    → take (i * size) out ≡ flat_map f (range_with_len 0 i) → ys ≡ f i → length ys ≡ size
    → take ((i + 1) * size) (put_mid (i * size) k out ys) ≡ flat_map f (range_with_len 0 (i + 1))
put_part f out ys i n size k whole inside before here long =
    take-put_mid (i * size) k out ys ((i + 1) * size) (one_part_more i size ∙ ap (λ (z : ℕ). i * size + z) (sym long))
    (omega (arith, parts_below i n size inside))
    ∙ ap₂ (λ a b. a ++ b) before here ∙ parts_more f i

-- all parts are written
pub whole_parts : {X : Type 0} (f : ℕ → List X) (out : List X) (i n size : ℕ) → length out ≡ n * size → i ≡ n
    → take (i * size) out ≡ flat_map f (range_with_len 0 i) → out ≡ flat_map f (range_with_len 0 n)
whole_parts f out i n size whole all before =
    let room : length out ≡ i * size = whole ∙ ap (λ (z : ℕ). z * size) (sym all) in
    sym (take_all (i * size) out (omega arith)) ∙ before ∙ ap (λ (z : ℕ). flat_map f (range_with_len 0 z)) all

pub map-flat_map : {X Y : Type 0} (h : X → Y) (f : ℕ → List X) (xs : List ℕ) → map h (flat_map f xs) ≡ flat_map (λ i. map h (f i)) xs
map-flat_map h f [] = refl
map-flat_map h f (x ∷ xs) = map-append h (f x) (flat_map f xs) ∙ ap (λ z. map h (f x) ++ z) (map-flat_map h f xs)

pub length-content_shards : (g : Geometry) (content random : List ℕ) → length (content_shards g content random) ≡ g.shards
unfolding content_shards
length-content_shards g content random = length-map-range_with_len (shard_at_place g content random) 0 g.shards

-- a fragment has n shards
pub length-fragment_blocks : (g : Geometry) (fragments random : List ℕ) (j : ℕ)
    → length (map shard_bytes (fragment_shards g fragments random j)) ≡ g.shards
unfolding fragment_shards
length-fragment_blocks g fragments random j =
    length-map (fragment_shards g fragments random j) shard_bytes
    ∙ length-content_shards g (content_of g fragments random j) (part_at (head_len g) (fragment_len g) j random)

-- a part is within parts of one size that stand behind a head
pub part_within : (head s i n size long : ℕ) → i < n → s ≡ size → long ≡ head + n * size → head + i * s + s ≤ long
part_within head s i n size long inside same whole =
    let fits : head + i * s + s ≤ head + n * s = grind (arith, one_part_more i s, parts_below (i + 1) (n + 1) s) in
    omega (arith, fits, whole, ap (λ (z : ℕ). n * z) same)

-- lists of one length, one after another
pub length-parts : {X : Type 0} (f : ℕ → List X) (size n : ℕ) → ((i : ℕ) → length (f i) ≡ size)
    → length (flat_map f (range_with_len 0 n)) ≡ n * size
length-parts f size zero each = omega arith
length-parts {X} f size (suc n) each =
    let next : suc n ≡ n + 1 = omega arith in
    ap (λ (z : ℕ). length (flat_map f (range_with_len 0 z))) next ∙ ap length (sym (parts_more f n))
    ∙ length-append {A = X} (flat_map f (range_with_len 0 n)) (f n)
    ∙ ap₂ (λ (a b : ℕ). a + b) (length-parts f size n each) (each n) ∙ sym (one_part_more n size)
    ∙ ap (λ (z : ℕ). z * size) (sym next)

-- a piece has k * n blocks
pub length-piece_blocks : (g : Geometry) (id file : List ℕ) (piece : ℕ) (random : List ℕ)
    → length (piece_blocks g id file piece random) ≡ g.fragments * g.shards
unfolding piece_blocks object_shards
length-piece_blocks g id file piece random =
    let f = fragment_shards g (fragments_of g (object id file piece) random) random in
    ap length (map-flat_map shard_bytes f (range_with_len 0 g.fragments))
    ∙ length-parts (λ j. map shard_bytes (f j)) g.shards g.fragments
    (length-fragment_blocks g (fragments_of g (object id file piece) random) random)

-- a list of lists of one length
pub part_of_parts : {X : Type 0} (f : ℕ → List X) (size n i : ℕ) → ((k : ℕ) → length (f k) ≡ size) → i < n
    → take size (drop (i * size) (flat_map f (range_with_len 0 n))) ≡ f i
part_of_parts f size zero i each inside = absurd (omega arith)
part_of_parts {X} f size (suc n) i each inside =
    let front = flat_map f (range_with_len 0 n) in
    let next : suc n ≡ n + 1 = omega arith in
    let long : length front ≡ n * size = length-parts f size n each in
    let all : flat_map f (range_with_len 0 (suc n)) ≡ front ++ f n = ap (λ (z : ℕ). flat_map f (range_with_len 0 z)) next ∙ sym (parts_more f n) in
    ap (λ z. take size (drop (i * size) z)) all
    ∙ elim (cases_lt i n) [
      | inl before ↦
          let more : i + 1 ≤ n = omega arith in
          let fits : i * size + size ≤ n * size = omega (arith, one_part_more i size, mul-le-mul_right size more) in
          ap (take size) (drop-append-le (i * size) front (f n) (omega arith))
          ∙ take-append-le size (drop (i * size) front) (f n) (omega (arith, length-drop {A = X} (i * size) front))
          ∙ part_of_parts f size n i each before
      | inr behind ↦
          let here : i ≡ n = omega arith in
          ap (λ (z : ℕ). take size (drop (z * size) (front ++ f n))) here
          ∙ ap (take size) (drop_at front (f n) (n * size) long) ∙ take_all size (f n) (omega (arith, each n)) ∙ ap f (sym here)
    ]

-- the blocks of a piece stand in those of the file
pub piece_of_blocks : (g : Geometry) (file random : List ℕ) (i : ℕ) → i < pieces_of (length file)
    → take (g.fragments * g.shards) (drop (i * (g.fragments * g.shards)) (file_blocks g file random)) ≡ blocks_at g file random i
piece_of_blocks g file random i inside =
    part_of_parts (blocks_at g file random) (g.fragments * g.shards) (pieces_of (length file)) i
    (λ k. length-piece_blocks g (take 16 random) file k (piece_random g k random)) inside
