use Rattle.std.proofs.Common.{◌++◌, ℕ, arith, ap, ◌∙◌}
use Rattle.pot_shard.specs.FileBlocks.{part_at}
use Rattle.pot_shard.proofs.BlockLemmas.{pad_at, last_at}
use Rattle.pot_shard.proofs.blocks.fragment_at.Goals as goal

pub returns-then-at-pads : goal.returns-then-at-pads
returns-then-at-pads c =
    let pads = c.args.pads.now in
    let last = c.args.last.now in
    c.copy_from_slice.ensures.after
    ∙ pad_at pads last c.from-at.result c.requires.rows (omega (arith, c.if-at-pads.true))
    ∙ ap (λ (z : ℕ). part_at 0 928 z (pads ++ last)) c.from-at.ensures

pub returns-else-at-pads : goal.returns-else-at-pads
returns-else-at-pads c =
    last_at c.args.pads.now c.args.last.now c.args.number
    (omega (arith, c.if-at-pads.false, c.requires.exists, c.from-at.ensures)) c.told-last
