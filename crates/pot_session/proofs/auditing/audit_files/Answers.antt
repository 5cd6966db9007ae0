use Rattle.std.proofs.Common.{sym, ◌∙◌}
use Rattle.pot_session.specs.Audits.{Outside, Stopped, Told}
use Rattle.pot_session.proofs.auditing.audit_files.Goals as goal

pub returns-then-are_of-clause-audits : goal.returns-then-are_of-clause-audits
returns-then-are_of-clause-audits g c = Told c.in-Ok.image c.in-Ok.ensures.reads (sym c.are_of.ensures ∙ c.if-are_of.true) c.tell_audit.ensures.answers

pub returns-in-Ok-clause-audits : goal.returns-in-Ok-clause-audits
returns-in-Ok-clause-audits g c = Outside c.in-Ok.image c.in-Ok.ensures.reads (sym c.are_of.ensures ∙ c.if-are_of.false) c.refuse.ensures.told

pub returns-clause-audits : goal.returns-clause-audits
returns-clause-audits g c = Stopped c.in-Err.stop c.in-Err.ensures.which c.in-Err.ensures.reads c.refuse-in-Err.ensures.told
