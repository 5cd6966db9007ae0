use Rattle.std.proofs.Common.{arith}
use Rattle.pot_index.specs.declared.entry.IndexEntry.TheVariants.{Taken}
use Rattle.pot_index.proofs.IndexLemmas.{entered_is, reserving_is}
use Rattle.pot_index.proofs.index.Index.reserve.Goals as goal

pub invariant_of-self : goal.invariant_of-self
invariant_of-self c =
    entered_is c.self.inside.lists _ (Taken c.args.job c.args.name.now) c.self.invariant c.enter.ensures tt c.if-is_taken.ensures (omega (arith, c.owed.ensures))

pub invariant_of-self-2 : goal.invariant_of-self-2
invariant_of-self-2 c =
    reserving_is c.self.inside.lists _ c.args.job c.args.name.now c.self.invariant c.in_ok-reserve.ensures.ok c.if-is_taken.ensures (omega (arith, c.owed.ensures))
