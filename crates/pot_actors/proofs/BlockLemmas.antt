-- One block of a file, by the blocks of its piece.
use Rattle.std.proofs.Common.{◌≡◌, ℕ, ◌+◌, ◌*◌, ◌/◌, ◌%◌, ◌<◌, ◌≤◌, List, [], Some, length, take, drop, get_or, sym, ap, ◌∙◌, subst, arith}
use Rattle.std.specs.Prelude.{slice_get}
use Rattle.std.proofs.lemmas.List.{get_or-drop, get_or-take, get_or_read}
use Rattle.std.proofs.Math.Nat.{mul-le-mul_right}
use Rattle.std.proofs.lemmas.Nat.{div-add-mod', div_below}
use Rattle.std.proofs.lemmas.Option.{slice_get-get_or}
use Rattle.pot_bytes.specs.declared.rack.Geometry.{Geometry}
use Rattle.pot_object.specs.Pieces.{pieces_of}
use Rattle.pot_shard.specs.FileBlocks.{blocks_at, file_blocks, piece_random}
use Rattle.pot_shard.proofs.BlockLemmas.{length-piece_blocks, piece_of_blocks}
use Rattle.pot_shard.proofs.PlaceLemmas.{place_laws}

pub pos_mul : (a b : ℕ) → 0 < a → 0 < b → 0 < a * b
pos_mul a b p q = (let l : 1 * b ≤ a * b = mul-le-mul_right b (omega (arith, p)) in omega (arith, l, q))

module _ (g : Geometry) (file random : List ℕ) (at count : ℕ) (is : count ≡ g.fragments * g.shards) (some : 0 < count) (within : at < length (file_blocks g file random)) where
  pub piece_within : at / count < pieces_of (length file)
  piece_within = div_below at count (pieces_of (length file)) some (subst (λ n. at < n) (place_laws.count g file random ∙ ap (λ n. pieces_of (length file) * n) (sym is)) within)

  pub rest_within : at % count < count
  rest_within = omega arith

  pub block_is : (blocks : List (List ℕ)) (b : List ℕ) → blocks ≡ blocks_at g file random (at / count) → b ≡ get_or blocks (at % count) b
      → slice_get (file_blocks g file random) at ≡ Some b
  block_is blocks b e read =
      let i = at / count in
      let q = at % count in
      let all = file_blocks g file random in
      let size = g.fragments * g.shards in
      let whole : i * count + q ≡ at = div-add-mod' at count in
      let low : q < size = subst (λ n. q < n) is rest_within in
      let long : length blocks ≡ size = ap length e ∙ length-piece_blocks g (take 16 random) file i (piece_random g i random) in
      let here : get_or (blocks_at g file random i) q [] ≡ get_or all at [] =
      sym (ap (λ z. get_or z q []) (piece_of_blocks g file random i piece_within)) ∙ get_or-take size (drop (i * size) all) q [] low ∙ get_or-drop (i * size) all q []
      ∙ ap (λ n. get_or all n []) (ap (λ n. i * n + q) (sym is) ∙ whole) in
      slice_get-get_or all at [] within
      ∙ ap Some (sym here ∙ sym (ap (λ z. get_or z q []) e) ∙ sym (get_or_read blocks q b (subst (λ n. q < n) (sym long) low) read []))
