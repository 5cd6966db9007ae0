use Rattle.std.proofs.Common.{arith, add-one, sym, ◌∙◌}
use Rattle.pot_bytes.proofs.SumLemmas.{xor-step, xor-end}
use Rattle.pot_bytes.proofs.block.xor_into.Goals as goal

pub loop-i-preserved : goal.loop-i-preserved
loop-i-preserved c =
    rw add-one (xor-step c.loop-i.into c.args.from.now c.loop-i.i (omega arith) (omega arith) ∙ c.loop-i.invariant)

pub returns : goal.returns
returns c = sym (xor-end c.loop-i.into c.args.from.now c.loop-i.i (omega arith)) ∙ c.loop-i.invariant
