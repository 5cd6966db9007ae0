-- Stretches of the random bytes of a file.
use Rattle.std.proofs.Common.{◌≡◌, ◌≤◌, ◌<◌, ◌+◌, ◌-◌, ◌*◌, ℕ, List, take, drop, refl, ap, ap₂, sym, ◌∙◌, arith}
use Rattle.std.proofs.lemmas.List.{drop-drop, drop-take, take-take}
use Rattle.pot_bytes.specs.declared.rack.Geometry.{Geometry}
use Rattle.pot_shard.specs.FileBlocks.{blocks_at, content_of, content_shards, fragment_shards, pads_in, piece_blocks, fragment_len, head_len, part_at, piece_len, piece_random}
use Rattle.pot_object.specs.Contents.{content}
use Rattle.pot_object.specs.Objects.{object}
use Rattle.pot_split.specs.Secrecy.{secrecy}
use Rattle.pot_shard.specs.FileLaws.{object_in, shards_in}
use Rattle.pot_shard.specs.declared.shard.Shard.{Shard}
use Rattle.pot_shard.specs.Stretches.{fragment_start, piece_start, StretchLaws}
use Rattle.pot_shard.proofs.BlockLemmas.{part_within}

add_third : (a b c : ℕ) → a + (b + c) ≡ a + b + c
add_third a b c = omega arith

add_more : (a b : ℕ) → a ≤ a + b
add_more a b = omega arith

behind : (a b c d e : ℕ) → b + c + d ≤ e → a + b + c + d ≤ a + e
behind a b c d e l = omega arith

-- a stretch within a stretch
stretch_within : (start long at size : ℕ) (xs : List ℕ) → at + size ≤ long
    → take size (drop at (take long (drop start xs))) ≡ take size (drop (start + at) xs)
stretch_within start long at size xs fits =
    let rest : long ≡ at + (long - at) = omega arith in
    ap (λ (z : ℕ). take size (drop at (take z (drop start xs)))) rest
    ∙ ap (take size) (drop-take at (long - at) (drop start xs))
    ∙ take-take size (long - at) (drop at (drop start xs)) (omega arith)
    ∙ ap (take size) (drop-drop at start xs)

fragment_fits : (g : Geometry) (j : ℕ) → j < g.fragments → head_len g + j * fragment_len g + fragment_len g ≤ piece_len g
fragment_fits g j inside = part_within (head_len g) (fragment_len g) j g.fragments (fragment_len g) (piece_len g) inside refl refl

fragment_bytes : (g : Geometry) (random : List ℕ) (i j : ℕ) → j < g.fragments
    → part_at (head_len g) (fragment_len g) j (piece_random g i random) ≡ take (fragment_len g) (drop (fragment_start g i j) random)
fragment_bytes g random i j inside =
    let at = head_len g + j * fragment_len g in
    let same : piece_start g i + at ≡ fragment_start g i j = add_third (piece_start g i) (head_len g) (j * fragment_len g) in
    stretch_within (piece_start g i) (piece_len g) at (fragment_len g) random (fragment_fits g j inside)
    ∙ ap (λ (z : ℕ). take (fragment_len g) (drop z random)) same

piece_alone : (g : Geometry) (file random other : List ℕ) (i : ℕ)
    → take 16 random ≡ take 16 other → piece_random g i random ≡ piece_random g i other
    → blocks_at g file random i ≡ blocks_at g file other i
piece_alone g file random other i id own = ap₂ (λ (a b : List ℕ). piece_blocks g a file i b) id own

-- the object id and the pads stand in the head
id_in_head : (g : Geometry) (random : List ℕ) → take 16 (take (head_len g) random) ≡ take 16 random
id_in_head g random = take-take 16 (head_len g) random (omega arith)

pads_in_head : (g : Geometry) (random : List ℕ) → drop 16 (take (head_len g) random) ≡ pads_in g random
pads_in_head g random = drop-take 16 ((g.fragments - 1) * 928) random

-- the shards of a fragment by what it uses
by_parts : Geometry → List ℕ → ℕ → ℕ → List ℕ → List ℕ → List ℕ → List Shard
by_parts g file i j id head own =
    content_shards g
    (content (take 16 head) (j + 1) g.fragments (part_at 0 928 j (secrecy (object id file i) (drop 16 head)))) own

shards_by_parts : (g : Geometry) (file random : List ℕ) (i j : ℕ)
    → shards_in g file random i j
    ≡ by_parts g file i j (take 16 random) (take (head_len g) (piece_random g i random)) (part_at (head_len g) (fragment_len g) j (piece_random g i random))
unfolding by_parts fragment_shards content_of
shards_by_parts g file random i j =
    let own = piece_random g i random in
    let part = part_at (head_len g) (fragment_len g) j own in
    ap₂ (λ (a b : List ℕ). content_shards g (content a (j + 1) g.fragments (part_at 0 928 j (secrecy (object_in file random i) b))) part)
    (sym (id_in_head g own)) (sym (pads_in_head g own))

fragment_alone : (g : Geometry) (file random other : List ℕ) (i j : ℕ)
    → take 16 random ≡ take 16 other
    → take (head_len g) (piece_random g i random) ≡ take (head_len g) (piece_random g i other)
    → part_at (head_len g) (fragment_len g) j (piece_random g i random) ≡ part_at (head_len g) (fragment_len g) j (piece_random g i other)
    → shards_in g file random i j ≡ shards_in g file other i j
fragment_alone g file random other i j id head own =
    shards_by_parts g file random i j
    ∙ ap₂ (λ (a b : List ℕ). by_parts g file i j a b (part_at (head_len g) (fragment_len g) j (piece_random g i random))) id head
    ∙ ap (by_parts g file i j (take 16 other) (take (head_len g) (piece_random g i other))) own
    ∙ sym (shards_by_parts g file other i j)

pub stretch_laws : StretchLaws
stretch_laws = record {
  piece_bytes = λ g random i. refl;
  fragment_bytes = fragment_bytes;
  pieces_apart = λ g i o l. part_within 16 (piece_len g) i o (piece_len g) (piece_start g o) l refl refl;
  fragments_apart = λ g i j l m. part_within (piece_start g i + head_len g) (fragment_len g) j l (fragment_len g) (fragment_start g i l) m refl refl;
  behind_the_pads = λ g i j. add_more (piece_start g i + head_len g) (j * fragment_len g);
  within_the_piece = λ g i j l. behind (piece_start g i) (head_len g) (j * fragment_len g) (fragment_len g) (piece_len g) (fragment_fits g j l);
  piece_alone = piece_alone;
  fragment_alone = fragment_alone;
}
