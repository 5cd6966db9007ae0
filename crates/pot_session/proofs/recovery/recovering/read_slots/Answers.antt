use Rattle.std.proofs.Common.{arith}
use Rattle.pot_session.proofs.RecoveringLemmas.{gathers_more, read_more}
use Rattle.pot_session.proofs.recovery.recovering.read_slots.Goals as goal

pub loop-slot-preserved : goal.loop-slot-preserved
loop-slot-preserved g c = record {
  gathers = λ told. gathers_more c.loop-slot.slot _ _ _ _ _ _ (c.loop-slot.invariant.gathers told) (c.in-Ok.ensures.adds told);
  read = λ told. read_more _ _ _ (c.loop-slot.invariant.read told) (c.in-Ok.ensures.read told);
  length = (let a = c.loop-slot.invariant.length in let b = c.in-Ok.ensures.length in omega (arith, a, b));
  later = (let a = c.loop-slot.invariant.later in let b = c.in-Ok.ensures.cause.later in omega (arith, a, b));
}

pub returns-in-Err-clause-read : goal.returns-in-Err-clause-read
returns-in-Err-clause-read g c = λ told. read_more _ _ _ (c.loop-slot.invariant.read told) (c.in-Err.ensures.read told)
