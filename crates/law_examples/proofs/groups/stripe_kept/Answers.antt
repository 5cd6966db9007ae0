use Rattle.law_examples.proofs.Keeping.{keeps}
use Rattle.law_examples.proofs.groups.stripe_kept.Goals as goal

pub returns : goal.returns
returns c = keeps c.reach_laws.ensures c.group_laws.ensures.put c.group_laws.ensures.lose c.group_laws.ensures.look c.group_laws.ensures.mend c.group_laws.ensures.holds
