-- What a store draws.
use Rattle.std.proofs.Common.{◌≡◌, ◌≤◌, ◌<◌, ◌+◌, ◌-◌, ◌*◌, ℕ, List, length, take, drop, ap, ◌∙◌, arith}
use Rattle.std.proofs.lemmas.List.{drop_at, take_at}
use Rattle.pot_bytes.specs.Lists.{AreBytes}
use Rattle.pot_bytes.specs.Rack.{IsGeometry}
use Rattle.pot_bytes.specs.declared.rack.Geometry.{Geometry}
use Rattle.pot_object.specs.Pieces.{longest, pieces_of}
use Rattle.pot_pads.specs.Pads.{Pads, next_bytes, moved}
use Rattle.pot_pads.proofs.PadsLemmas.{length-next_bytes, AreBytes-next_bytes, next_bytes-append}
use Rattle.pot_shard.specs.Draws.{DrawLaws}
use Rattle.pot_shard.specs.FileBlocks.{piece_len, piece_random, random_len}
use Rattle.pot_shard.specs.FileLaws.{IsStore}
use Rattle.pot_shard.specs.Stretches.{piece_start}

-- a stretch of the next bytes
stretch : (pads : Pads) (a b c : ℕ) → take b (drop a (next_bytes pads (a + (b + c)))) ≡ next_bytes (moved pads a) b
stretch pads a b c =
    ap (λ (z : List ℕ). take b (drop a z)) (next_bytes-append pads a (b + c))
    ∙ ap (take b) (drop_at (next_bytes pads a) (next_bytes (moved pads a) (b + c)) a (length-next_bytes pads a)
    ∙ next_bytes-append (moved pads a) b c)
    ∙ take_at (next_bytes (moved pads a) b) (next_bytes (moved (moved pads a) b) c) b (length-next_bytes (moved pads a) b)

id_law : (g : Geometry) (pads : Pads) (pieces : ℕ) → take 16 (next_bytes pads (random_len pieces g)) ≡ next_bytes pads 16
id_law g pads pieces =
    ap (take 16) (next_bytes-append pads 16 (pieces * piece_len g))
    ∙ take_at (next_bytes pads 16) (next_bytes (moved pads 16) (pieces * piece_len g)) 16 (length-next_bytes pads 16)

piece_law : (g : Geometry) (pads : Pads) (pieces i : ℕ) → i < pieces
    → piece_random g i (next_bytes pads (random_len pieces g)) ≡ next_bytes (moved pads (piece_start g i)) (piece_len g)
piece_law g pads pieces i inside =
    let size = piece_len g in
    let rest = (pieces - i - 1) * size in
    let all : pieces * size ≡ i * size + (size + rest) =
    ap (λ (z : ℕ). z * size) (let e : pieces ≡ i + (1 + (pieces - i - 1)) = omega arith in e) ∙ (grind arith) in
    let whole : 16 + pieces * size ≡ (16 + i * size) + (size + rest) = omega (arith, all) in
    ap (λ (z : ℕ). take size (drop (16 + i * size) (next_bytes pads z))) whole
    ∙ stretch pads (16 + i * size) size rest

store_law : (g : Geometry) (pads : Pads) (file : List ℕ) → IsGeometry g → length file ≤ longest → AreBytes file
    → IsStore g file (next_bytes pads (random_len (pieces_of (length file)) g))
store_law g pads file geometry fits bytes = record {
  geometry = geometry;
  fits = fits;
  taken = length-next_bytes pads (random_len (pieces_of (length file)) g);
  file_bytes = bytes;
  random_bytes = AreBytes-next_bytes pads (random_len (pieces_of (length file)) g);
}

pub draw_laws : DrawLaws
draw_laws = record { store = store_law; id = id_law; piece = piece_law }
