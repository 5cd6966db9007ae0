use Rattle.std.proofs.Common.{◌≡◌, ◌-◌, ◌*◌, ◌++◌, ℕ, List, length, take, drop, replicate, arith, ap, ◌∙◌}
use Rattle.std.proofs.lemmas.List.{length-drop, length-take}
use borrow.Rule.Slice.PartMut.{put_mid}
use Rattle.pot_object.specs.Pieces.{part_of, pieces_of}
use Rattle.pot_object.specs.Sealing.{sealed}
use Rattle.pot_object.specs.Objects.{head_bytes, head_of, object, object_bytes}
use Rattle.pot_object.proofs.FieldLemmas.{head_before, rest_after}
use Rattle.pot_object.proofs.ObjectLemmas.{length-head_bytes}
use Rattle.pot_object.proofs.PieceLemmas.{cut-part, piece_begins}
use Rattle.pot_object.proofs.object.write_object.Goals as goal

pub returns : goal.returns
unfolding object object_bytes
returns c =
    let id = c.args.file_id.now in
    let file = c.args.file.now in
    let piece = c.args.piece in
    let old = c.args.out.now in
    let from = piece * 864 in
    let pieces : c.count_pieces.result ≡ pieces_of (length file) = c.count_pieces.ensures.value in
    let part : take (c.min.result - from) (drop from file) ≡ part_of file piece =
    ap (λ (n : ℕ). take (n - from) (drop from file)) c.min.ensures ∙ cut-part file from 864 (piece_begins piece (length file) c.requires.exists) in
    let h = head_of id file piece in
    let head : c.put_head.new.out ≡ head_bytes h ++ drop 32 old = rw pieces at c.put_head.ensures in
    let whole = length-head_bytes h c.told-file_id in
    let room : length (take 864 (drop 64 c.put_head.new.out)) ≡ 864 =
    omega (arith, length-take {A = ℕ} 864 (drop 64 c.put_head.new.out), length-drop {A = ℕ} 64 c.put_head.new.out) in
    let rest : c.put_part.new.out ≡ part_of file piece ++ replicate (864 - length (part_of file piece)) 0 =
    rw (part, room) at c.put_part.ensures in
    let front : take 32 (put_mid 64 864 c.put_head.new.out c.put_part.new.out) ≡ head_bytes h =
    ap (λ (z : List ℕ). take 32 (put_mid 64 864 z c.put_part.new.out)) head ∙ head_before (head_bytes h) old c.put_part.new.out 864 whole (omega arith) in
    let back : drop 64 (put_mid 64 864 c.put_head.new.out c.put_part.new.out) ≡ part_of file piece ++ replicate (864 - length (part_of file piece)) 0 =
    ap (λ (z : List ℕ). drop 64 (put_mid 64 864 z c.put_part.new.out)) head ∙ rest_after (head_bytes h) old c.put_part.new.out 864 whole (omega arith) ∙ rest in
    c.seal.ensures ∙ ap (λ (z : List ℕ). sealed z (drop 64 (put_mid 64 864 c.put_head.new.out c.put_part.new.out))) front ∙ ap (λ (z : List ℕ). sealed (head_bytes h) z) back
