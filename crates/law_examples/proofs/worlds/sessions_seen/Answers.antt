use Rattle.law_examples.proofs.Seeing.{seen}
use Rattle.law_examples.proofs.worlds.sessions_seen.Goals as goal

pub returns : goal.returns
returns c = seen c.audit_laws.ensures.sights c.later_laws.ensures.sessions
