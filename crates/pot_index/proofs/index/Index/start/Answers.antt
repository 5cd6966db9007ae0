use Rattle.std.proofs.Common.{sym, subst}
use Rattle.pot_index.specs.Index.{IsIndex}
use Rattle.pot_index.proofs.IndexLemmas.{started_is}
use Rattle.pot_index.proofs.index.Index.start.Goals as goal

pub invariant_of-result : goal.invariant_of-result
invariant_of-result c = subst IsIndex (sym c.in-Ok.ensures) (started_is c.args.rack.now c.args.records.items c.requires.rack c.requires.records)
