use Rattle.std.proofs.Common.{List, inl, inr, [], refl, sym, ◌∙◌, subst, append-nil}
use Rattle.std.specs.Prelude.{Err}
use Rattle.pot_outside.specs.Accounts.{transition}
use Rattle.pot_audit.specs.declared.spot.Spot.{Spot}
use Rattle.pot_audit.specs.Exposure.{AreSpots}
use Rattle.pot_session.specs.declared.recovery.listing.ListFault.TheVariants as fault
use Rattle.pot_session.specs.Audits.{PutsWholeAudit, loose_of, spots_of}
use Rattle.pot_session.proofs.AuditLemmas.{none_audited, spots_fit}
use Rattle.pot_session.proofs.auditing.tell_audit.Goals as goal

pub put_all-requires-clause-fitting : goal.put_all-requires-clause-fitting
put_all-requires-clause-fitting g c =
    subst (AreSpots c.args.image.now.rack) (sym (c.deref.ensures.value ∙ c.in-Ok.ensures)) (spots_fit c.args.image.now.rack c.args.task.now c.requires.task c.requires.of)

pub returns-in_default-clause-answers : goal.returns-in_default-clause-answers
returns-in_default-clause-answers g c =
    inr (
      fault.NoMemory,
      inl (0, [], none_audited c.args.image.now.rack (spots_of c.args.task.now) c.args.image.now.records.items, λ told. ([], [], refl, sym (append-nil _))),
      inr refl,
    )

pub returns-in-Err-SinkFault-clause-answers : goal.returns-in-Err-SinkFault-clause-answers
returns-in-Err-SinkFault-clause-answers g c =
    inr (
      fault.SinkFault,
      subst (λ (spots : List Spot). PutsWholeAudit (transition g.K.Sink.account c.args.sink.now c.put_all.new.sink) c.args.image.now.rack spots c.args.image.now.records.items (loose_of c.args.task.now c.args.image.now) (Err fault.SinkFault))
          (c.deref.ensures.value ∙ c.in-Ok.ensures) c.in-Err-SinkFault.ensures.puts,
      inl refl,
    )

pub returns-clause-answers : goal.returns-clause-answers
returns-clause-answers g c =
    inr (
      fault.NoMemory,
      subst (λ (spots : List Spot). PutsWholeAudit (transition g.K.Sink.account c.args.sink.now c.put_all.new.sink) c.args.image.now.rack spots c.args.image.now.records.items (loose_of c.args.task.now c.args.image.now) (Err fault.NoMemory))
          (c.deref.ensures.value ∙ c.in-Ok.ensures) c.in-Err-NoMemory.ensures.puts,
      inr refl,
    )
