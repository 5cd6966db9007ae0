use Rattle.pot_audit.proofs.HidingLemmas.{audits_hide, bytes_return}
use Rattle.pot_audit.proofs.laws.hiding_laws.Goals as goal

pub returns : goal.returns
returns c = record { hides = audits_hide c.place_laws.ensures c.veil_laws.ensures c.run_laws.ensures.writes c.run_laws.ensures.replays c.audit_laws.ensures.sights c.coalition_sees.ensures.sees; returns = bytes_return c.place_laws.ensures c.veil_laws.ensures }
