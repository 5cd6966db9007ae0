use Rattle.std.proofs.Common.{IsTrue, false, refl}
use Rattle.pot_looks.proofs.looking.compare.Goals as goal

pub returns-then-is_of : goal.returns-then-is_of
returns-then-is_of c = (c.in-Some.block.now, record { held = c.in-Some.ensures; digest = c.if-is_of.ensures.0 refl })

pub returns-else-is_of : goal.returns-else-is_of
returns-else-is_of c = (c.in-Some.block.now, record { held = c.in-Some.ensures; digest = λ same. let yes : IsTrue false = c.if-is_of.ensures.1 same in cc })

pub returns-in-None : goal.returns-in-None
returns-in-None c = c.in-None.ensures
