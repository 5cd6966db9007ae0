use Rattle.std.proofs.Common.{IsTrue, subst, sym}
use Rattle.pot_machine.specs.Machine.{Legal}
use Rattle.pot_machine.specs.declared.entry.Entry.TheVariants.{Fault}
use Rattle.pot_group.specs.Group.{GroupParts}
use Rattle.pot_group.proofs.AdvanceSteps.{fault_may}
use Rattle.pot_group.proofs.Advancing.{dead_advances, absent_advances, over_advances, failed_advances}
use Rattle.pot_group.proofs.group.Group.go_on.Goals as goal

pub returns-then-not-is_live : goal.returns-then-not-is_live
returns-then-not-is_live g c = dead_advances (IsTrue g.A.Archive.account.tells) g.A.Archive.account.meaning c.args.self.now c.args.job c.args.flight c.args.column c.logged-settled.ensures.settled c.requires.room c.requires.here c.requires.next c.requires.within c.leave_flight.new.self c.leave_flight.ensures (sym c.if-not-is_live.ensures)

pub note-requires-clause-legal : goal.note-requires-clause-legal
note-requires-clause-legal g c = subst (λ (w : GroupParts _). Legal w.table (Fault c.args.job c.args.flight.relay.stripe c.args.column)) (sym c.fold_next.ensures.same)
    (fault_may (IsTrue g.A.Archive.account.tells) g.A.Archive.account.meaning c.args.self.now c.args.job c.args.flight c.args.column c.logged-settled.ensures.settled c.requires.room c.requires.here c.requires.next c.requires.within c.fold_next.new.self.shelves c.fold_next.new.sum (sym c.if-not-is_live.ensures))

pub returns-in-Ok-Held : goal.returns-in-Ok-Held
returns-in-Ok-Held g c = over_advances (IsTrue g.A.Archive.account.tells) g.A.Archive.account.meaning c.args.self.now c.args.job c.args.flight c.args.column c.logged-settled.ensures.settled c.requires.room c.requires.here c.requires.next c.requires.within c.fold_next.new.self.shelves c.fold_next.new.sum (sym c.if-not-is_live.ensures) c.hop_over.result c.hop_over.new.self (rw c.fold_next.ensures.same at c.hop_over.ensures) (rw c.in-Ok-Held.field-0-is at c.in-Ok-Held.ensures.folds)

pub returns-in-Ok-Absent : goal.returns-in-Ok-Absent
returns-in-Ok-Absent g c = absent_advances (IsTrue g.A.Archive.account.tells) g.A.Archive.account.meaning c.args.self.now c.args.job c.args.flight c.args.column c.logged-settled.ensures.settled c.requires.room c.requires.here c.requires.next c.requires.within c.fold_next.new.self.shelves c.fold_next.new.sum (sym c.if-not-is_live.ensures) c.leave_flight-in-Ok-Absent.new.self (rw c.fold_next.ensures.same at c.leave_flight-in-Ok-Absent.ensures) (rw c.in-Ok-Absent.field-0-is at c.in-Ok-Absent.ensures.folds)

pub returns-in-Err : goal.returns-in-Err
returns-in-Err g c = failed_advances (IsTrue g.A.Archive.account.tells) g.A.Archive.account.meaning c.args.self.now c.args.job c.args.flight c.args.column c.logged-settled.ensures.settled c.requires.room c.requires.here c.requires.next c.requires.within c.fold_next.new.self.shelves c.fold_next.new.sum (sym c.if-not-is_live.ensures) c.note.new.self c.in-Err.field-0 (rw c.fold_next.ensures.same at c.note.ensures) c.in-Err.ensures.folds
