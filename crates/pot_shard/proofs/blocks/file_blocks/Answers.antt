use Rattle.std.proofs.Common.{◌≡◌, ◌<◌, ◌+◌, ◌-◌, ◌*◌, ℕ, List, length, take, arith, ap, ap₂, refl, ◌∙◌}
use borrow.Rule.Slice.PartMut.{put_mid}
use Rattle.pot_object.specs.Pieces.{pieces_of}
use Rattle.pot_shard.specs.FileBlocks.{blocks_at, piece_blocks, piece_len, piece_random}
use Rattle.pot_shard.proofs.BlockLemmas.{length-piece_blocks, part_taken, part_within, put_part, whole_parts}
use Rattle.pot_shard.proofs.blocks.file_blocks.Goals as goal

pub slice_bounds-own-end : goal.slice_bounds-own-end
slice_bounds-own-end c =
    let g = c.args.geometry.now in
    let n = pieces_of (length c.args.file.now) in
    let inside : c.loop-piece.piece < n = omega (arith, c.loop-piece-test.true, c.count_pieces-piece-end.ensures.value) in
    let fits = part_within 16 c.piece_len-size.result c.loop-piece.piece n (piece_len g) (length c.args.random.now)
    inside c.piece_len-size.ensures.value c.requires.random in
    omega (arith, fits)

pub slice_bounds-piece_blocks-end : goal.slice_bounds-piece_blocks-end
slice_bounds-piece_blocks-end c =
    let g = c.args.geometry.now in
    let n = pieces_of (length c.args.file.now) in
    let inside : c.loop-piece.piece < n = omega (arith, c.loop-piece-test.true, c.count_pieces-piece-end.ensures.value) in
    let whole : length c.loop-piece.out ≡ 0 + n * (g.fragments * g.shards) = omega (arith, c.loop-piece.auto.out, c.requires.room) in
    let fits = part_within 0 c.count_blocks-count.result c.loop-piece.piece n (g.fragments * g.shards) (length c.loop-piece.out)
    inside c.count_blocks-count.ensures.value whole in
    omega (arith, fits)

pub loop-piece-preserved : goal.loop-piece-preserved
loop-piece-preserved c =
    let g = c.args.geometry.now in
    let file = c.args.file.now in
    let random = c.args.random.now in
    let piece = c.loop-piece.piece in
    let out = c.loop-piece.out in
    let new = c.piece_blocks.new.out in
    let n = pieces_of (length file) in
    let size = g.fragments * g.shards in
    let each = c.piece_len-size in
    let inside : piece < n = omega (arith, c.loop-piece-test.true, c.count_pieces-piece-end.ensures.value) in
    let here : new ≡ blocks_at g file random piece =
    c.piece_blocks.ensures
    ∙ ap₂ (λ (a b : List ℕ). piece_blocks g a file piece b) c.id_in-id.ensures
    (part_taken 16 piece each.result 16 piece (piece_len g) random refl refl each.ensures.value) in
    ap (λ (a : ℕ). take ((piece + 1) * size) (put_mid (piece * a) (piece * a + a - piece * a) out new)) c.count_blocks-count.ensures.value
    ∙ put_part (blocks_at g file random) out new piece n size (piece * size + size - piece * size)
    (c.loop-piece.auto.out ∙ c.requires.room) inside c.loop-piece.invariant here
    (ap length here ∙ length-piece_blocks g (take 16 random) file piece (piece_random g piece random))

pub returns : goal.returns
returns c =
    let g = c.args.geometry.now in
    let file = c.args.file.now in
    whole_parts (blocks_at g file c.args.random.now) c.loop-piece.out c.loop-piece.piece (pieces_of (length file)) (g.fragments * g.shards)
    (c.loop-piece.auto.out ∙ c.requires.room)
    (omega (arith, c.loop-piece-test.false, c.loop-piece.auto.piece-end, c.count_pieces-piece-end.ensures.value)) c.loop-piece.invariant
