use Rattle.std.proofs.Common.{arith}
use Rattle.pot_index.specs.declared.entry.IndexEntry.TheVariants.{Listed}
use Rattle.pot_index.proofs.IndexLemmas.{entered_is}
use Rattle.pot_index.proofs.index.Index.names.Goals as goal

pub invariant_of-self : goal.invariant_of-self
invariant_of-self c = entered_is c.self.inside.lists _ (Listed c.args.job) c.self.invariant c.enter.ensures tt tt (omega (arith, c.owed.ensures))
