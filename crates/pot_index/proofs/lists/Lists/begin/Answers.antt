use Rattle.std.proofs.Common.{refl}
use Rattle.pot_index.specs.Entries.{with_brought}
use Rattle.pot_index.proofs.lists.Lists.begin.Goals as goal

pub returns : goal.returns
unfolding with_brought
returns c = rw (c.of-read.ensures, c.new.ensures.items, c.in-Ok.ensures.items) refl
