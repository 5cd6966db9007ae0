use Rattle.std.proofs.Common.{◌<◌, ◌-◌, [], ℕ, List, sym, ap, ◌∙◌, arith}
use Rattle.std.specs.List.{slice_index_or}
use Rattle.pot_object.specs.Objects.{object}
use Rattle.pot_object.proofs.ObjectLemmas.{length-object}
use Rattle.pot_shard.specs.FileBlocks.{piece_blocks}
use Rattle.pot_shard.specs.FileLaws.{IsPiece}
use Rattle.pot_shard.proofs.ByteLemmas.{object-bytes}
use Rattle.pot_veil.specs.PieceLaws.{IsPieceVeiled}
use Rattle.pot_veil.proofs.Kept.{kept}
use Rattle.pot_veil.proofs.SeenLemmas.{seen_bytes, seen_points}
use Rattle.pot_veil.proofs.drilling.drill_piece.Goals as goal

pub compare-requires-clause-kept : goal.compare-requires-clause-kept
compare-requires-clause-kept c place lt holds =
    let g = c.args.geometry.now in
    let id = c.args.id.now in
    let file = c.args.file.now in
    let other = c.args.other.now in
    let piece = c.args.piece in
    let seen = c.args.seen.now in
    let random = c.args.random.now in
    let one : IsPiece g (object id file piece) random = record {
      geometry = c.requires.geometry;
      long = length-object id file piece c.told-id;
      taken = c.requires.random;
      object_bytes = object-bytes id file piece c.fits-id (λ k. (c.type_inv.file k).fits);
      random_bytes = c.are_bytes.ensures;
    } in
    let two : IsPiece g (object id other piece) random = record {
      geometry = c.requires.geometry;
      long = length-object id other piece c.told-id;
      taken = c.requires.random;
      object_bytes = object-bytes id other piece c.fits-id (λ k. (c.type_inv.other k).fits);
      random_bytes = c.are_bytes.ensures;
    } in
    let v : IsPieceVeiled g (object id file piece) (object id other piece) (c.args.fragment - 1) seen random = record {
      piece = one;
      other_piece = two;
      fragment = omega (arith, c.requires.first, c.requires.last);
      points = seen_points g.shards seen c.requires.seen;
      bytes = seen_bytes g.shards seen (omega (arith, c.requires.geometry.shards)) c.requires.seen;
      few = c.requires.few;
    } in
    let some : 0 < g.shards = omega (arith, c.requires.geometry.need.0, c.requires.geometry.need.1) in
    ap (λ (z : List (List ℕ)). slice_index_or z place []) (c.piece_blocks-2.ensures ∙ ap (piece_blocks g id other piece) c.explain_piece.ensures)
    ∙ kept g id file other piece (c.args.fragment - 1) seen random place v some (omega (arith, lt, c.piece_blocks.auto.out, c.requires.room)) holds
    ∙ ap (λ (z : List (List ℕ)). slice_index_or z place []) (sym c.piece_blocks.ensures)
