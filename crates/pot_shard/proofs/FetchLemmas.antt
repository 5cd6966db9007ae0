-- What a fetch joins and cuts.
use Rattle.std.proofs.Common.{◌≡◌, ◌≤◌, ◌<◌, ◌+◌, ◌-◌, ◌*◌, ◌++◌, ℕ, zero, suc, List, [], ◌∷◌, length, map, take, drop, replicate, get_or, nat_eq, refl, ap, ap₂, sym, subst, ◌∙◌, arith, length-drop}
use Rattle.std.specs.List.{flat_map, range_with_len, IsDistinct, Contains}
use Rattle.std.proofs.Math.Seq.{take-add}
use Rattle.std.proofs.lemmas.List.Elements.{Contains-get_or}
use Rattle.std.proofs.lemmas.List.{get_or-map, length-map, length-take-le, take_at, take_all, append_assoc, append-nil}
use Rattle.std.proofs.lemmas.List.FromFn.{length-map-range_with_len, get_or-map-range_with_len}
use Rattle.pot_bytes.specs.declared.rack.Geometry.{Geometry}
use Rattle.pot_object.specs.Objects.{object, object_bytes, head_bytes, head_of}
use Rattle.pot_object.specs.Pieces.{part_of, pieces_of}
use Rattle.pot_object.proofs.ObjectLemmas.{length-head_bytes}
use Rattle.pot_object.proofs.SealLemmas.{rest-sealed}
use Rattle.pot_split.specs.Secrecy.{meaning}
use Rattle.pot_split.specs.Threshold.{IsJoin}
use Rattle.pot_shard.specs.Fetches.{cut_to, shares_in, FetchLaws, IsFetched, IsJoinedAt}
use Rattle.pot_shard.specs.FileBlocks.{content_shards, fragment_shards, fragment_len, head_len, part_at, piece_random, shard_at_place, shard_of}
use Rattle.pot_shard.specs.FileLaws.{content_in, object_in, shards_in, IsStore}
use Rattle.pot_shard.specs.Places.{shard_in}
use Rattle.pot_shard.specs.declared.shard.Shard.{Shard}
use Rattle.pot_shard.proofs.BlockLemmas.{parts_more}
use Rattle.pot_shard.proofs.FileLemmas.{file_laws, objects_law, same_parts}
use Rattle.pot_shard.proofs.PlaceLemmas.{share_at}

-- the shards at some points
picked : Geometry → List ℕ → List ℕ → ℕ → ℕ → List ℕ → List Shard
picked g file random i j points = map (λ x. shard_in g file random i j (x - 1)) points

points_of : (g : Geometry) (file random : List ℕ) (i j : ℕ) (points : List ℕ) → ((x : ℕ) → Contains points x → (1 ≤ x) × (x ≤ g.shards))
    → map (λ (s : Shard). s.x) (picked g file random i j points) ≡ points
unfolding picked shard_of
points_of g file random i j [] each = refl
points_of g file random i j (x ∷ points) each =
    let first = each x (0, omega arith, refl) in
    let same : x - 1 + 1 ≡ x = omega (arith, first.0) in
    ap₂ (λ (a : ℕ) (b : List ℕ). a ∷ b) same (points_of g file random i j points (λ y h. each y (suc h.0, omega (arith, h.1), h.2)))

shares_of : (g : Geometry) (file random : List ℕ) (i j : ℕ) (points : List ℕ)
    → shares_in g file random i j points ≡ flat_map (λ (s : Shard). s.share) (picked g file random i j points)
unfolding picked
shares_of g file random i j [] = refl
shares_of g file random i j (x ∷ points) =
    ap₂ (λ (a b : List ℕ). a ++ b) (share_at (shard_in g file random i j (x - 1))) (shares_of g file random i j points)

held_there : (g : Geometry) (file random : List ℕ) (i j : ℕ) (points : List ℕ) → ((x : ℕ) → Contains points x → (1 ≤ x) × (x ≤ g.shards))
    → (s : Shard) → Contains (picked g file random i j points) s → Contains (shards_in g file random i j) s
unfolding picked fragment_shards content_shards
held_there g file random i j points each s h =
    let f = shard_at_place g (content_in g file random i j) (part_at (head_len g) (fragment_len g) j (piece_random g i random)) in
    let k = h.0 in
    let inside : k < length points = omega (arith, h.1, length-map points (λ x. shard_in g file random i j (x - 1))) in
    let x = get_or points k 0 in
    let bounds = each x (Contains-get_or points k 0 inside) in (
      x - 1,
      omega (arith, bounds.0, bounds.1, length-map-range_with_len f 0 g.shards),
      get_or-map-range_with_len f 0 g.shards (x - 1) (x - 1) s (omega (arith, bounds.0, bounds.1)) (omega arith)
          ∙ sym (get_or-map (λ y. shard_in g file random i j (y - 1)) points k 0 s inside) ∙ h.2,
    )

fetched_content : (g : Geometry) (file random : List ℕ) (i j : ℕ) (points joined : List ℕ) → IsStore g file random
    → i < pieces_of (length file) → j < g.fragments → IsJoinedAt g file random i j points joined → joined ≡ content_in g file random i j
unfolding picked
fetched_content g file random i j points joined is exists within h =
    let held = picked g file random i j points in
    let same = points_of g file random i j points h.chosen.each in
    file_laws.contents g file random i j held joined is exists within
    (record {
      enough = length-map points (λ x. shard_in g file random i j (x - 1)) ∙ h.chosen.enough;
      distinct = subst (IsDistinct nat_eq) (sym same) h.chosen.distinct;
      each = held_there g file random i j points h.chosen.each;
    })
    (record {
      wide = h.wide;
      join = subst (λ (z : List ℕ). IsJoin z (flat_map (λ (s : Shard). s.share) held) joined) (sym same)
          (subst (λ (z : List ℕ). IsJoin points z joined) (shares_of g file random i j points) h.join);
    })

-- the part of a piece and the zeros behind it
padded : List ℕ → ℕ → List ℕ
padded file i = part_of file i ++ replicate (864 - length (part_of file i)) 0

rest_of_object : (id file : List ℕ) (i : ℕ) → length id ≡ 16 → drop 64 (object id file i) ≡ padded file i
unfolding object object_bytes padded
rest_of_object id file i whole =
    rest-sealed (head_bytes (head_of id file i)) (part_of file i ++ replicate (864 - length (part_of file i)) 0) (length-head_bytes (head_of id file i) whole)

-- the rest of an object
rest_at : List ℕ → List ℕ → ℕ → List ℕ
rest_at id file i = drop 64 (object id file i)

one_more : (id file : List ℕ) (n : ℕ)
    → flat_map (rest_at id file) (range_with_len 0 (suc n)) ≡ flat_map (rest_at id file) (range_with_len 0 n) ++ rest_at id file n
one_more id file n =
    let next : suc n ≡ n + 1 = omega arith in
    ap (λ (z : ℕ). flat_map (rest_at id file) (range_with_len 0 z)) next ∙ sym (parts_more (rest_at id file) n)

-- whole pieces stand one after another
full : (id file : List ℕ) (n : ℕ) → length id ≡ 16 → n * 864 ≤ length file
    → flat_map (rest_at id file) (range_with_len 0 n) ≡ take (n * 864) file
unfolding padded rest_at
full id file zero whole inside = refl
full id file (suc n) whole inside =
    let long : length (part_of file n) ≡ 864 = length-take-le 864 (drop (n * 864) file) (omega (arith, length-drop {A = ℕ} (n * 864) file)) in
    let none : 864 - length (part_of file n) ≡ 0 = omega (arith, long) in
    let step : n * 864 + 864 ≡ suc n * 864 = omega arith in
    one_more id file n
    ∙ ap₂ (λ (a b : List ℕ). a ++ b) (full id file n whole (omega arith))
    (rest_of_object id file n whole ∙ ap (λ (z : ℕ). part_of file n ++ replicate z 0) none ∙ append-nil (part_of file n))
    ∙ sym (take-add (n * 864) 864 file) ∙ ap (λ (z : ℕ). take z file) step

cut_file : (id file : List ℕ) → length id ≡ 16
    → take (length file) (flat_map (rest_at id file) (range_with_len 0 (pieces_of (length file)))) ≡ file
unfolding padded rest_at
cut_file id file whole =
    let n = pieces_of (length file) in
    let q = n - 1 in
    let last : n ≡ suc q = omega arith in
    let front : q * 864 ≤ length file = omega arith in
    let end : length file ≤ q * 864 + 864 = omega arith in
    let zeros : List ℕ = replicate (864 - length (part_of file q)) 0 in
    let all : flat_map (rest_at id file) (range_with_len 0 n) ≡ file ++ zeros =
    ap (λ (z : ℕ). flat_map (rest_at id file) (range_with_len 0 z)) last
    ∙ one_more id file q
    ∙ ap₂ (λ (a b : List ℕ). a ++ b) (full id file q whole front) (rest_of_object id file q whole)
    ∙ sym (append_assoc (take (q * 864) file) (part_of file q) zeros)
    ∙ ap (λ (z : List ℕ). z ++ zeros) (sym (take-add (q * 864) 864 file) ∙ take_all (q * 864 + 864) file end) in
    ap (take (length file)) all ∙ take_at file zeros (length file) refl

cuts_law : (g : Geometry) (file random : List ℕ) → IsStore g file random → cut_to (length file) (object_in file random) ≡ file
unfolding rest_at
cuts_law g file random is = cut_file (take 16 random) file (length-take-le 16 random (omega (arith, is.taken)))

fetched_file : (g : Geometry) (file random : List ℕ) (points contents : ℕ → ℕ → List ℕ) (objects : ℕ → List ℕ)
    → IsStore g file random → IsFetched g file random points contents objects → cut_to (length file) objects ≡ file
fetched_file g file random points contents objects is h =
    let n = pieces_of (length file) in
    let each : (i : ℕ) → i < n → drop 64 (objects i) ≡ drop 64 (object_in file random i) =
    λ i l. ap (drop 64)
    (h.whole i l
    ∙ ap (meaning 928) (same_parts (λ j. drop 64 (contents i j)) (λ j. drop 64 (content_in g file random i j)) g.fragments
    (λ j m. ap (drop 64) (fetched_content g file random i j (points i j) (contents i j) is l m (h.joined i j l m))))
    ∙ objects_law g file random i is l) in
    ap (take (length file)) (same_parts (λ i. drop 64 (objects i)) (λ i. drop 64 (object_in file random i)) n each)
    ∙ cuts_law g file random is

pub fetch_laws : FetchLaws
fetch_laws = record { contents = fetched_content; cuts = cuts_law; file = fetched_file }
