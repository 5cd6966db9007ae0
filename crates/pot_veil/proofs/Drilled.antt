-- A drill over the pieces of a file.
use Rattle.std.proofs.Common.{◌≡◌, ◌<◌, ◌≤◌, ◌+◌, ◌++◌, ℕ, List, length, take, sym, ap, ap₂, ◌∙◌, arith, length-append}
use Rattle.std.proofs.lemmas.Grind.{flat_map-append}
use Rattle.std.proofs.lemmas.List.{append_assoc}
use Rattle.pot_bytes.specs.Lists.{AreBytes}
use Rattle.pot_bytes.specs.Rack.{IsGeometry}
use Rattle.pot_bytes.specs.declared.rack.Geometry.{Geometry}
use Rattle.pot_object.specs.Pieces.{longest, pieces_of}
use Rattle.pot_shard.specs.FileBlocks.{blocks_at, piece_blocks, piece_random, random_len}
use Rattle.pot_shard.proofs.BlockLemmas.{parts_more}
use Rattle.pot_veil.specs.Drills.{seen_in, seen_upto, text_of}
use Rattle.pot_veil.specs.FileLaws.{IsVeiledFile}
use Rattle.pot_veil.specs.Seen.{AreSeen}
use Rattle.pot_veil.proofs.SeenLemmas.{seen_bytes, seen_points}

-- a file of which a drill hides one fragment of each piece
pub drilled : (g : Geometry) (file other : List ℕ) (hidden : ℕ) (seen random : List ℕ) → IsGeometry g → length file ≤ longest
    → length other ≡ length file → length random ≡ random_len (pieces_of (length file)) g
    → AreBytes file → AreBytes other → AreBytes random → hidden < g.fragments → AreSeen g.shards seen → length seen < g.need
    → IsVeiledFile g file other (λ i. hidden) (λ i. seen) random
drilled g file other hidden seen random geometry fits same taken fb ob rb inside s few = record {
  store = record { geometry = geometry; fits = fits; taken = taken; file_bytes = fb; random_bytes = rb };
  other_store = record {
    geometry = geometry;
    fits = omega (arith, fits, same);
    taken = taken ∙ ap (λ (n : ℕ). random_len (pieces_of n) g) (sym same);
    file_bytes = ob;
    random_bytes = rb;
  };
  same_length = same;
  fragment = λ i li. inside;
  points = λ i li. record {
    points = seen_points g.shards seen s;
    bytes = seen_bytes g.shards seen (omega (arith, geometry.shards)) s;
    few = few;
  };
}

-- the seen blocks of one piece more
upto_more : (g : Geometry) (file random : List ℕ) (hidden : ℕ) (seen : List ℕ) (n : ℕ) (id own : List ℕ) → id ≡ take 16 random
    → own ≡ piece_random g n random
    → seen_upto g file random hidden seen (n + 1) ≡ seen_upto g file random hidden seen n ++ seen_in g hidden seen (piece_blocks g id file n own)
upto_more g file random hidden seen n id own first is =
    sym (parts_more (λ i. seen_in g hidden seen (blocks_at g file random i)) n)
    ∙ ap (λ (z : List (List ℕ)). seen_upto g file random hidden seen n ++ z)
    (sym (ap₂ (λ (a b : List ℕ). seen_in g hidden seen (piece_blocks g a file n b)) first is))

pub upto_count : (g : Geometry) (file random : List ℕ) (hidden : ℕ) (seen : List ℕ) (n : ℕ) (id own : List ℕ) → id ≡ take 16 random
    → own ≡ piece_random g n random
    → length (seen_upto g file random hidden seen n) + length (seen_in g hidden seen (piece_blocks g id file n own))
    ≡ length (seen_upto g file random hidden seen (n + 1))
upto_count g file random hidden seen n id own first is =
    sym (length-append {A = List ℕ} (seen_upto g file random hidden seen n) (seen_in g hidden seen (piece_blocks g id file n own)))
    ∙ ap length (sym (upto_more g file random hidden seen n id own first is))

pub upto_text : (g : Geometry) (file random : List ℕ) (hidden : ℕ) (seen m : List ℕ) (n : ℕ) (id own : List ℕ) → id ≡ take 16 random
    → own ≡ piece_random g n random
    → (m ++ text_of (seen_upto g file random hidden seen n)) ++ text_of (seen_in g hidden seen (piece_blocks g id file n own))
    ≡ m ++ text_of (seen_upto g file random hidden seen (n + 1))
upto_text g file random hidden seen m n id own first is =
    append_assoc m (text_of (seen_upto g file random hidden seen n)) (text_of (seen_in g hidden seen (piece_blocks g id file n own)))
    ∙ ap (λ (z : List ℕ). m ++ z)
    (sym (flat_map-append (λ (b : List ℕ). b) (seen_upto g file random hidden seen n) (seen_in g hidden seen (piece_blocks g id file n own)))
    ∙ ap text_of (sym (upto_more g file random hidden seen n id own first is)))
