use Rattle.std.proofs.Common.{inl, inr, subst, sym, arith}
use Rattle.pot_outside.specs.Rooms.{room_transition}
use Rattle.pot_doubles.proofs.CallLemmas.{rose_later}
use Rattle.std.proofs.lemmas.Result.{on_ok_weaker}
use Rattle.pot_session.specs.Recovering.{WasRead}
use Rattle.pot_session.proofs.RecoveringLemmas.{gathers_meant, ok_gives, read_back, read_not, why_failed}
use Rattle.pot_session.proofs.recovery.recovering.read_archive.Goals as goal

pub returns-in-Ok-clause-gathers : goal.returns-in-Ok-clause-gathers
returns-in-Ok-clause-gathers g c = λ told.
    on_ok_weaker c.first_fault.result
    (λ both. gathers_meant c.args.stripes _ _ _ _ _ _ (c.in-Ok.ensures.told told) (ok_gives c.give-given.result _ both.1 c.give-given.ensures.told told)
    (ok_gives c.read_slots-read.result _ both.0 (c.read_slots-read.ensures.gathers told)))
    c.first_fault.ensures.both

pub returns-in-Ok-clause-own : goal.returns-in-Ok-clause-own
returns-in-Ok-clause-own g c = record {
  later = (let a = c.take.ensures.own.later in let b = c.give-given.ensures.own.later in omega (arith, a, b));
  why = λ e. elim (c.first_fault.ensures.cause e) [
    | inl read ↦ why_failed (room_transition g.R.A.Archive.account g.R.Room.meaning c.args.room.now c.give-given.new.self) (g.R.Room.meaning c.take.new.self) c.args.number c.give-given.result _ _ c.take.ensures.own.later c.give-given.ensures.own c.give-given.ensures.told c.in-Ok.ensures.told
        (c.read_slots-read.ensures.cause.rose read)
    | inr given ↦ inl (rose_later _ _ _ c.take.ensures.own.later (c.give-given.ensures.own.rose given))
  ];
}

pub returns-in-Ok-clause-read : goal.returns-in-Ok-clause-read
returns-in-Ok-clause-read g c = λ told.
    read_back _ c.give-given.result (g.R.Room.meaning c.args.room.now) (g.R.Room.meaning c.take.new.self) (g.R.Room.meaning c.give-given.new.self) c.args.number _ _ c.take.ensures.own.later c.give-given.ensures.own
    c.in-Ok.ensures.vacates c.give-given.ensures.lost c.give-given.ensures.told told (c.in-Ok.ensures.told told) (c.read_slots-read.ensures.read told)

pub returns-in-Err-clause-read : goal.returns-in-Err-clause-read
returns-in-Err-clause-read g c = λ told. inl (subst (λ m. WasRead ((g.R.Room.meaning c.args.room.now).means c.args.number) m) (sym c.in-Err.ensures.unchanged) (read_not _))
