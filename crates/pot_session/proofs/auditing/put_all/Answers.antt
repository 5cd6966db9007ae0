use Rattle.std.proofs.Common.{inl, inr, ◌≡◌, ◌||◌, List, ap, ◌∙◌, subst}
use Rattle.std.specs.Prelude.{Bool, Ok, Err}
use Rattle.pot_outside.specs.Accounts.{transition}
use Rattle.pot_index.specs.declared.record.Record.{Record}
use Rattle.pot_audit.specs.declared.loose.Loose.{Loose}
use Rattle.pot_session.specs.Audits.{PutsAudit, are_some, audit_text, has_bare, loose_lines, loose_of}
use Rattle.pot_session.specs.Listing.{PutsText}
use Rattle.pot_session.proofs.ListingLemmas.{begun_behind, begun_nothing, written_behind}
use Rattle.pot_session.proofs.auditing.put_all.Goals as goal

pub loose_of-requires-clause-tables : goal.loose_of-requires-clause-tables
loose_of-requires-clause-tables g c = c.requires.fits.tables.count

pub returns-in-Err-clause-puts : goal.returns-in-Err-clause-puts
returns-in-Err-clause-puts g c =
    inl (subst (λ (rs : List Record). PutsAudit (transition g.K.Sink.account c.args.sink.now c.put_audit.new.sink) c.args.image.now.rack c.args.spots.now rs (Err c.in-Err.fault))
    c.deref.ensures.value c.in-Err.ensures.puts)

pub returns-in_default-clause-puts : goal.returns-in_default-clause-puts
returns-in_default-clause-puts g c =
    let middle = (g.K.Sink.account.meaning c.put_audit.new.sink).held in
    let it = subst (λ (rs : List Record). PutsAudit (transition g.K.Sink.account c.args.sink.now c.put_audit.new.sink) c.args.image.now.rack c.args.spots.now rs (Ok c.in-Ok.bare)) c.deref.ensures.value c.in-Ok.ensures.puts in
    inr (it.0, it.1, λ told. begun_behind _ middle middle (audit_text it.0) (loose_lines (loose_of c.args.task.now c.args.image.now)) (it.3 told) (begun_nothing middle _))

pub returns-in-Ok-put_loose-clause-puts : goal.returns-in-Ok-put_loose-clause-puts
returns-in-Ok-put_loose-clause-puts g c =
    let middle = (g.K.Sink.account.meaning c.put_audit.new.sink).held in
    let it = subst (λ (rs : List Record). PutsAudit (transition g.K.Sink.account c.args.sink.now c.put_audit.new.sink) c.args.image.now.rack c.args.spots.now rs (Ok c.in-Ok.bare)) c.deref.ensures.value c.in-Ok.ensures.puts in
    let columns : c.deref-2.result.now ≡ loose_of c.args.task.now c.args.image.now = c.deref-2.ensures.value ∙ c.in-Ok-loose_of.ensures in (
      it.0,
      it.1,
      ap (λ b. b || c.in-Ok-put_loose.some) it.2 ∙ ap (λ b. has_bare it.0 || b) (c.in-Ok-put_loose.ensures.some ∙ ap are_some columns),
      λ told. written_behind _ middle _ (audit_text it.0) (loose_lines (loose_of c.args.task.now c.args.image.now)) (it.3 told)
          (subst (λ (xs : List Loose). PutsText (transition g.K.Sink.account c.put_audit.new.sink c.put_loose.new.sink) (loose_lines xs) (Ok c.in-Ok-put_loose.some)) columns c.in-Ok-put_loose.ensures.puts told),
    )

pub returns-clause-puts : goal.returns-clause-puts
returns-clause-puts g c =
    let middle = (g.K.Sink.account.meaning c.put_audit.new.sink).held in
    let it = subst (λ (rs : List Record). PutsAudit (transition g.K.Sink.account c.args.sink.now c.put_audit.new.sink) c.args.image.now.rack c.args.spots.now rs (Ok c.in-Ok.bare)) c.deref.ensures.value c.in-Ok.ensures.puts in
    let columns : c.deref-2.result.now ≡ loose_of c.args.task.now c.args.image.now = c.deref-2.ensures.value ∙ c.in-Ok-loose_of.ensures in
    inr (
      it.0,
      it.1,
      λ told. begun_behind _ middle _ (audit_text it.0) (loose_lines (loose_of c.args.task.now c.args.image.now)) (it.3 told)
          (subst (λ (xs : List Loose). PutsText {T = Bool} (transition g.K.Sink.account c.put_audit.new.sink c.put_loose.new.sink) (loose_lines xs) (Err c.in-Err-put_loose.fault)) columns c.in-Err-put_loose.ensures.puts told),
    )
