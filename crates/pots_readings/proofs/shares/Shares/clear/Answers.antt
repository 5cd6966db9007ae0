use Rattle.pots_readings.proofs.ShareLemmas.{none_distinct}
use Rattle.pots_readings.proofs.shares.Shares.clear.Goals as goal

pub invariant_of-self-clause-distinct : goal.invariant_of-self-clause-distinct
invariant_of-self-clause-distinct c = none_distinct c.clear.new.self.items c.clear.ensures.items
