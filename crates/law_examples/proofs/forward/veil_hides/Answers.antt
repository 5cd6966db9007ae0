use Rattle.law_examples.proofs.Onward.{veil_hides}
use Rattle.law_examples.proofs.forward.veil_hides.Goals as goal

pub returns : goal.returns
returns c = veil_hides c.veil_laws.ensures
