use Rattle.std.proofs.Common.{◌+◌, ◌++◌, ◌||◌, [], ◌∷◌, sym, ap, ◌∙◌, subst, arith}
use Rattle.pot_outside.specs.Accounts.{transition}
use Rattle.pot_commands.specs.Streams.{Wrote}
use Rattle.pot_session.specs.Audits.{Audited, audit_text, has_bare, veil_lines}
use Rattle.pot_session.specs.Listing.{Began}
use Rattle.pot_session.proofs.AuditLemmas.{bare_more, one_audited, text_more}
use Rattle.pot_session.proofs.ListingLemmas.{begun_behind, begun_front, written_behind}
use Rattle.pot_session.proofs.auditing.put_audit.Goals as goal

pub returns-in-Err-write_out-clause-puts : goal.returns-in-Err-write_out-clause-puts
returns-in-Err-write_out-clause-puts g c =
    let it = c.in-Ok.ensures in
    let a : Audited = record { kept = c.kept-item.result; veils = it.0 } in
    let all = c.loop-kept.invariant.told in
    let before = (g.K.Sink.account.meaning c.args.sink.now).held in
    let middle = (g.K.Sink.account.meaning c.loop-kept.sink).held in
    let after = (g.K.Sink.account.meaning c.write_out.new.sink).held in
    let more = veil_lines c.kept-item.result.name it.0 in
    let began : Began (transition g.K.Sink.account c.loop-kept.sink c.write_out.new.sink) more =
    subst (Began (transition g.K.Sink.account c.loop-kept.sink c.write_out.new.sink)) (c.deref.ensures.value ∙ it.2)
    (λ told. let w = c.in-Err-write_out.ensures.told told in begun_front middle after c.deref.result.now w.0 w.2) in (
      c.loop-kept.kept-index + 1,
      all.0 ++ a ∷ [],
      one_audited c.args.rack.now c.args.spots.now c.args.records.now all.0 c.loop-kept.kept-index c.kept-item.result it.0 c.loop-kept-test.true c.kept-item.is all.1 it.1,
      subst (Began (transition g.K.Sink.account c.args.sink.now c.write_out.new.sink)) (sym (text_more all.0 a))
          (λ told. begun_behind before middle after (audit_text all.0) more (all.3 told) (began told)),
    )

pub loop-kept-preserved : goal.loop-kept-preserved
loop-kept-preserved g c =
    let it = c.in-Ok.ensures in
    let a : Audited = record { kept = c.kept-item.result; veils = it.0 } in
    let all = c.loop-kept.invariant.told in
    let before = (g.K.Sink.account.meaning c.args.sink.now).held in
    let middle = (g.K.Sink.account.meaning c.loop-kept.sink).held in
    let after = (g.K.Sink.account.meaning c.write_out.new.sink).held in
    let more = veil_lines c.kept-item.result.name it.0 in
    let wrote : Wrote (transition g.K.Sink.account c.loop-kept.sink c.write_out.new.sink) more =
    subst (Wrote (transition g.K.Sink.account c.loop-kept.sink c.write_out.new.sink)) (c.deref.ensures.value ∙ it.2) c.in-Ok-write_out.ensures.told in record {
      told = (
        all.0 ++ a ∷ [],
        one_audited c.args.rack.now c.args.spots.now c.args.records.now all.0 c.loop-kept.kept-index c.kept-item.result it.0 c.loop-kept-test.true c.kept-item.is all.1 it.1,
        ap (λ b. b || c.in-Ok.telling.refused) all.2 ∙ ap (λ b. has_bare all.0 || b) it.3 ∙ sym (bare_more all.0 a),
        subst (Wrote (transition g.K.Sink.account c.args.sink.now c.write_out.new.sink)) (sym (text_more all.0 a))
            (λ told. written_behind before middle after (audit_text all.0) more (all.3 told) (wrote told)),
      );
      later = (let x = c.loop-kept.invariant.later in let y = c.write_out.ensures.cause.later in omega (arith, x, y));
    }
