use Rattle.std.proofs.Common.{◌+◌, refl, arith}
use Rattle.pot_turn.specs.Passes.{view}
use Rattle.turn_demo.proofs.Wrote.{wrote_nothing, wrote_more}
use Rattle.turn_demo.proofs.writing.write_lines.Goals as goal

pub loop-number-init : goal.loop-number-init
loop-number-init g c = (c.requires.own, wrote_nothing (view c.args.pass) c.args.pass.known c.requires.idle c.requires.fresh c.args.author 0 refl)

pub loop-number-preserved : goal.loop-number-preserved
loop-number-preserved g c =
    let pass = c.loop-number.pass in
    let wrote = c.write_line.ensures.wrote c.if-not-write_line.false in (
      c.write_line.ensures.own,
      wrote_more (view c.args.pass) (view pass) (view c.write_line.new.pass) c.args.author c.loop-number.number (c.loop-number.number + 1) (omega arith) pass.known c.loop-number.invariant.1 wrote,
    )
