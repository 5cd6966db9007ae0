use Rattle.std.proofs.Common.{inl, inr, refl, map, subst, arith}
use Rattle.std.specs.String.{string_bytes}
use Rattle.pot_session.specs.Tasks.{Asks}
use Rattle.pot_session.specs.Calls.{Auditing, Generating, Makes, Drilling, Recovering}
use Rattle.pot_session.proofs.AuditLemmas.{audit_source, audit_room}
use Rattle.pot_session.proofs.GenerateLemmas.{generate_desk, generate_room, generate_source}
use Rattle.pot_session.proofs.RecoveringLemmas.{recover_source, recover_desk}
use Rattle.pot_session.proofs.TopLemmas.{init_source, init_room, with_seed}
use Rattle.pot_session.proofs.WordLemmas.{drill_room, drill_desk}
use Rattle.pot_session.proofs.top.answer.Goals as goal

pub returns-in-Ok-Init-clause-runs : goal.returns-in-Ok-Init-clause-runs
returns-in-Ok-Init-clause-runs g c = Makes _ (subst (Asks (map string_bytes c.args.words.now)) c.in-Ok-Init.field-0-is c.in-Ok-Init.ensures).0 (λ t. refl) c.init.ensures.inits (λ n. refl)

pub returns-in-Ok-Init-clause-source : goal.returns-in-Ok-Init-clause-source
returns-in-Ok-Init-clause-source g c = record {
  later = omega arith;
  rose = λ e. absurd (init_source _ c.init.ensures.inits.made c.init.result c.init.ensures.inits.which c.init.ensures.inits.answers e);
}

pub returns-in-Ok-Init-clause-room : goal.returns-in-Ok-Init-clause-room
returns-in-Ok-Init-clause-room g c = record {
  later = omega arith;
  rose = λ e. absurd (init_room _ c.init.ensures.inits.made c.init.result c.init.ensures.inits.which c.init.ensures.inits.answers e);
}

pub returns-in-Ok-Run-clause-runs : goal.returns-in-Ok-Run-clause-runs
returns-in-Ok-Run-clause-runs g c =
    with_seed _ _ _ _ _ _ c.seed_of-seed.ensures (subst (Asks (map string_bytes c.args.words.now)) c.in-Ok-Run.field-0-is c.in-Ok-Run.ensures).0 c.hold.ensures.holds

pub hold-requires-clause-workers : goal.hold-requires-clause-workers
hold-requires-clause-workers g c = λ bounds within. (subst (Asks (map string_bytes c.args.words.now)) c.in-Ok-Run.field-0-is c.in-Ok-Run.ensures).1

pub returns-in-Ok-Drill-clause-runs : goal.returns-in-Ok-Drill-clause-runs
returns-in-Ok-Drill-clause-runs g c =
    Drilling _ (subst (Asks (map string_bytes c.args.words.now)) c.in-Ok-Drill.field-0-is c.in-Ok-Drill.ensures).0 c.drill_files.ensures.drills (λ t. refl) (λ n. refl)

pub returns-in-Ok-Drill-clause-room : goal.returns-in-Ok-Drill-clause-room
returns-in-Ok-Drill-clause-room g c = record {
  later = omega arith;
  rose = λ e. absurd (drill_room _ _ _ _ c.drill_files.result c.drill_files.ensures.drills e);
}

pub returns-in-Ok-Drill-clause-desk : goal.returns-in-Ok-Drill-clause-desk
returns-in-Ok-Drill-clause-desk g c = record {
  later = omega arith;
  rose = λ e. absurd (drill_desk _ _ _ _ c.drill_files.result c.drill_files.ensures.drills e);
}

pub returns-in-Ok-Recover-clause-runs : goal.returns-in-Ok-Recover-clause-runs
returns-in-Ok-Recover-clause-runs g c =
    Recovering _ (subst (Asks (map string_bytes c.args.words.now)) c.in-Ok-Recover.field-0-is c.in-Ok-Recover.ensures).0 (λ t. refl) c.recover_files.ensures.recovers (λ t. refl)

pub returns-in-Ok-Recover-clause-source : goal.returns-in-Ok-Recover-clause-source
returns-in-Ok-Recover-clause-source g c = record {
  later = omega arith;
  rose = λ e. absurd (recover_source _ _ _ c.recover_files.result c.recover_files.ensures.recovers e);
}

pub returns-in-Ok-Recover-clause-desk : goal.returns-in-Ok-Recover-clause-desk
returns-in-Ok-Recover-clause-desk g c = record {
  later = omega arith;
  rose = λ e. absurd (recover_desk _ _ _ c.recover_files.result c.recover_files.ensures.recovers e);
}

pub returns-in-Ok-Audit-clause-runs : goal.returns-in-Ok-Audit-clause-runs
returns-in-Ok-Audit-clause-runs g c =
    Auditing _ (subst (Asks (map string_bytes c.args.words.now)) c.in-Ok-Audit.field-0-is c.in-Ok-Audit.ensures).0 (λ t. refl) c.audit_files.ensures.audits c.audit_files.ensures.keeps (λ n. refl)

pub returns-in-Ok-Audit-clause-source : goal.returns-in-Ok-Audit-clause-source
returns-in-Ok-Audit-clause-source g c = record {
  later = omega arith;
  rose = λ e. absurd (audit_source _ _ _ c.audit_files.result c.audit_files.ensures.audits e);
}

pub returns-in-Ok-Audit-clause-room : goal.returns-in-Ok-Audit-clause-room
returns-in-Ok-Audit-clause-room g c = record {
  later = omega arith;
  rose = λ e. absurd (audit_room _ _ _ c.audit_files.result c.audit_files.ensures.audits e);
}

pub generate-requires-clause-limits : goal.generate-requires-clause-limits
generate-requires-clause-limits g c = λ bounds within. let asks = subst (Asks (map string_bytes c.args.words.now)) c.in-Ok-Generate.field-0-is c.in-Ok-Generate.ensures in (asks.1, asks.2)

pub returns-in-Ok-Generate-clause-runs : goal.returns-in-Ok-Generate-clause-runs
returns-in-Ok-Generate-clause-runs g c =
    Generating _ (subst (Asks (map string_bytes c.args.words.now)) c.in-Ok-Generate.field-0-is c.in-Ok-Generate.ensures).0 (λ t. refl) c.generate.ensures.generates (λ t. refl) (λ n. refl)

pub returns-in-Ok-Generate-clause-source : goal.returns-in-Ok-Generate-clause-source
returns-in-Ok-Generate-clause-source g c = record {
  later = omega arith;
  rose = λ e. absurd (generate_source _ _ c.generate.result c.generate.ensures.generates e);
}

pub returns-in-Ok-Generate-clause-room : goal.returns-in-Ok-Generate-clause-room
returns-in-Ok-Generate-clause-room g c = record {
  later = omega arith;
  rose = λ e. absurd (generate_room _ _ c.generate.result c.generate.ensures.generates e);
}

pub returns-in-Ok-Generate-clause-desk : goal.returns-in-Ok-Generate-clause-desk
returns-in-Ok-Generate-clause-desk g c = record {
  later = omega arith;
  rose = λ e. absurd (generate_desk _ _ c.generate.result c.generate.ensures.generates e);
}

pub returns-in-Ok-Init-clause-own : goal.returns-in-Ok-Init-clause-own
returns-in-Ok-Init-clause-own g c e = absurd (init_room _ c.init.ensures.inits.made c.init.result c.init.ensures.inits.which c.init.ensures.inits.answers e)

pub returns-in-Ok-Run-clause-own : goal.returns-in-Ok-Run-clause-own
returns-in-Ok-Run-clause-own g c e = inl (c.hold.ensures.own.rose e)

pub returns-in-Ok-Drill-clause-own : goal.returns-in-Ok-Drill-clause-own
returns-in-Ok-Drill-clause-own g c e = absurd (drill_room _ _ _ _ c.drill_files.result c.drill_files.ensures.drills e)

pub returns-in-Ok-Recover-clause-own : goal.returns-in-Ok-Recover-clause-own
returns-in-Ok-Recover-clause-own g c e = elim (c.recover_files.ensures.own.why e) [
  | inl rose ↦ inl rose
  | inr archive ↦ inr (_, (subst (Asks (map string_bytes c.args.words.now)) c.in-Ok-Recover.field-0-is c.in-Ok-Recover.ensures).0, archive)
]

pub returns-in-Ok-Audit-clause-own : goal.returns-in-Ok-Audit-clause-own
returns-in-Ok-Audit-clause-own g c e = absurd (audit_room _ _ _ c.audit_files.result c.audit_files.ensures.audits e)

pub returns-in-Ok-Generate-clause-own : goal.returns-in-Ok-Generate-clause-own
returns-in-Ok-Generate-clause-own g c e = absurd (generate_room _ _ c.generate.result c.generate.ensures.generates e)
