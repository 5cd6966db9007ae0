use Rattle.std.proofs.Common.{◌≡◌, ◌≤◌, List, take}
use Rattle.pot_outside.specs.Accounts.{transition}
use Rattle.pot_commands.specs.Streams.{Wrote}
use Rattle.pot_session.specs.Audits.{AreAudited, Audited, audit_text, has_bare}
use Rattle.pot_session.proofs.auditing.put_audit.Given as goal

abbrev pub invariant-loop-kept : goal.invariant-loop-kept
invariant-loop-kept g l = record {
  told : (all : List Audited) × AreAudited l.rack l.spots (take l.kept-index l.records) all × (l.bare ≡ has_bare all)
      × Wrote (transition g.K.Sink.account l.initial.sink l.sink) (audit_text all);
  later : (g.K.Sink.account.meaning l.initial.sink).faults ≤ (g.K.Sink.account.meaning l.sink).faults;
}
