use Rattle.pots_readings.proofs.ShareLemmas.{none_distinct}
use Rattle.pots_readings.proofs.shares.Shares.none.Goals as goal

pub invariant_of-result-clause-distinct : goal.invariant_of-result-clause-distinct
invariant_of-result-clause-distinct c = none_distinct c.new.result.items c.new.ensures.items
