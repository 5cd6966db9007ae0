use Rattle.law_examples.proofs.Seeing.{parity_seen}
use Rattle.law_examples.proofs.worlds.parity_seen.Goals as goal

pub returns : goal.returns
returns c = parity_seen c.audit_laws.ensures.sights c.audit_laws.ensures.runs
