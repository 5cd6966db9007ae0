use Rattle.std.proofs.Common.{◌-◌, [], length, arith}
use Rattle.pot_bytes.specs.Digests.{digest_bytes}
use Rattle.pot_object.specs.Pieces.{pieces_of}
use Rattle.pot_veil.specs.Drills.{seen_upto, text_of}
use Rattle.pot_veil.proofs.drilling.drill.Goals as goal

pub returns-clause-report : goal.returns-clause-report
unfolding digest_bytes
returns-clause-report c =
    let g = c.args.geometry.now in
    let file = c.args.file.now in
    let text = text_of (seen_upto g file c.args.random.now (c.args.fragment - 1) c.args.seen.now (pieces_of (length file))) in
    record {
      few = omega (arith, c.if-seen-from.false, c.from.ensures);
      pieces = c.count_pieces.ensures.value;
      blocks = c.drill_pieces-blocks.ensures.count;
      digest = c.finalize.ensures text (c.drill_pieces-blocks.ensures.text [] c.new-taken.ensures);
      random_bytes = c.drill_pieces-blocks.ensures.explained;
    }
