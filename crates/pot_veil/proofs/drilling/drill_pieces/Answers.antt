use Rattle.std.proofs.Common.{◌≡◌, ◌<◌, ◌+◌, ◌-◌, ◌*◌, ◌++◌, ℕ, length, take, drop, refl, sym, subst, ap, ap₂, ◌∙◌, arith}
use Rattle.std.proofs.lemmas.List.{append-nil}
use Rattle.sha2.specs.Hashers.{Holds256}
use Rattle.pot_object.specs.Pieces.{pieces_of}
use Rattle.pot_shard.specs.FileBlocks.{piece_len}
use Rattle.pot_shard.specs.Stretches.{piece_start}
use Rattle.pot_veil.specs.Drills.{seen_upto, text_of}
use Rattle.pot_veil.specs.Explained.{explained_upto}
use Rattle.pot_veil.specs.FileLaws.{IsVeiledFile}
use Rattle.pot_veil.proofs.Drilled.{drilled, upto_count, upto_text}
use Rattle.pot_veil.proofs.Files.{piece_own, piece_written}
use Rattle.pot_veil.proofs.drilling.drill_pieces.Goals as goal

pub loop-piece-init : goal.loop-piece-init
unfolding explained_upto
loop-piece-init c = (refl, refl, omega arith, λ m h. subst (Holds256 c.args.taken.now) (sym (append-nil m)) h)

pub loop-piece-preserved : goal.loop-piece-preserved
loop-piece-preserved c =
    let g = c.args.geometry.now in
    let file = c.args.file.now in
    let other = c.args.other.now in
    let seen = c.args.seen.now in
    let random = c.args.random.now in
    let hidden = c.args.fragment - 1 in
    let n = c.loop-piece.piece in
    let from = 16 + n * c.piece_len-size.result in
    let k = from + c.piece_len-size.result - from in
    let now = c.loop-piece.random in
    let id = c.id_in-id.result in
    let made = c.drill_piece-blocks in
    let inside : n < pieces_of (length file) = omega (arith, c.loop-piece-test.true, c.count_pieces-piece-end.ensures.value) in
    let start : from ≡ piece_start g n = ap (λ (z : ℕ). 16 + n * z) c.piece_len-size.ensures.value in
    let size : k ≡ piece_len g = omega (arith, c.piece_len-size.ensures.value) in
    let v : IsVeiledFile g file other (λ i. hidden) (λ i. seen) random =
    drilled g file other hidden seen random c.requires.geometry c.requires.fits c.requires.same_length c.requires.random
    (λ i. (c.type_inv.file i).fits) (λ i. (c.type_inv.other i).fits) c.are_bytes.ensures (omega (arith, c.requires.first, c.requires.last)) c.requires.seen c.requires.few in
    let own = piece_own g file other (λ i. hidden) (λ i. seen) random v n from k now inside c.loop-piece.invariant.0 start size in (
      piece_written g file other (λ i. hidden) (λ i. seen) random v n from k id now made.new.random inside c.loop-piece.invariant.0
          c.id_in-id.ensures start size made.auto.random made.ensures.explained,
      ap₂ (λ (a b : ℕ). a + b) c.loop-piece.invariant.1 made.ensures.count
          ∙ upto_count g file random hidden seen n id (take k (drop from now)) c.id_in-id.ensures own,
      omega (arith, c.loop-piece.invariant.2, made.ensures.few),
      λ m h. subst (Holds256 made.new.taken) (upto_text g file random hidden seen m n id (take k (drop from now)) c.id_in-id.ensures own)
          (made.ensures.text (m ++ text_of (seen_upto g file random hidden seen n)) (c.loop-piece.invariant.3 m h)),
    )
