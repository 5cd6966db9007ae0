use Rattle.std.proofs.Common.{◌≡◌, ◌++◌, length, drop, ℕ, List, arith, refl, ap, ◌∙◌, length-append}
use Rattle.std.proofs.lemmas.List.{length-take-le}
use Rattle.byteorder.specs.Endian.{big_bytes}
use Rattle.pot_object.specs.Objects.{head_bytes}
use Rattle.pot_object.proofs.FieldLemmas.{put_next}
use Rattle.pot_object.proofs.object.put_head.Goals as goal

pub returns : goal.returns
unfolding head_bytes
returns c =
    let old = c.args.out.now in
    let id = c.copy_from_slice.new.self in
    let piece = big_bytes 4 c.args.head.now.piece in
    let pieces = big_bytes 4 c.args.head.now.pieces in
    let count = big_bytes 8 c.args.head.now.length in
    let whole : length id ≡ 16 = c.copy_from_slice.ensures.len ∙ length-take-le 16 old (omega arith) in
    let first = put_next id old _ c.write_u32.new.buf piece 16 4 whole refl c.write_u32.ensures in
    let second = put_next (id ++ piece) old _ c.write_u32-2.new.buf pieces 20 4 (omega (arith, length-append {A = ℕ} id piece)) first c.write_u32-2.ensures in
    let third = put_next ((id ++ piece) ++ pieces) old _ c.write_u64.new.buf count 24 8 (omega (arith, length-append {A = ℕ} (id ++ piece) pieces, length-append {A = ℕ} id piece)) second c.write_u64.ensures in
    third ∙ ap (λ (z : List ℕ). (((z ++ piece) ++ pieces) ++ count) ++ drop 32 old) c.copy_from_slice.ensures.after
