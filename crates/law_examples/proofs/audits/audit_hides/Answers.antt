use Rattle.law_examples.proofs.Hiding.{hides}
use Rattle.law_examples.proofs.audits.audit_hides.Goals as goal

pub returns : goal.returns
returns c = hides c.place_laws.ensures c.hiding_laws.ensures.hides
