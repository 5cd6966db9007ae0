use Rattle.std.proofs.Common.{IsTrue, subst}
use Rattle.pot_group.specs.Group.{GroupParts, view_of}
use Rattle.pot_group.specs.Moving.{StepsMove}
use Rattle.pot_group.proofs.Stepping.{after_read, passed_read, unread_steps}
use Rattle.pot_group.proofs.group.Group.copy.Goals as goal

pub returns-in-Sound : goal.returns-in-Sound
returns-in-Sound g c = after_read (IsTrue g.A.Archive.account.tells) g.A.Archive.account.meaning c.args.self.now c.args.job c.args.column c.args.moving c.logged-settled.ensures.settled c.requires.room c.requires.column c.requires.moves c.read_slot.new.self.shelves c.write_copy.new.self c.in-Sound.ensures.finds.stays c.write_copy.result
    (subst (λ (w : GroupParts _). StepsMove (IsTrue g.A.Archive.account.tells) c.args.job c.args.column c.write_copy.result (view_of g.A.Archive.account.meaning w) (view_of g.A.Archive.account.meaning c.write_copy.new.self)) c.read_slot.ensures.same c.write_copy.ensures)

pub returns-in-Missing : goal.returns-in-Missing
returns-in-Missing g c = passed_read (IsTrue g.A.Archive.account.tells) g.A.Archive.account.meaning c.args.self.now c.args.job c.args.column c.args.moving c.logged-settled.ensures.settled c.requires.room c.requires.column c.requires.moves c.read_slot.new.self.shelves c.args.digest c.read_slot.new.into c.pass_slot.new.self c.requires.stripe c.requires.live c.in-Missing.ensures.finds (rw c.read_slot.ensures.same at c.pass_slot.ensures)

pub returns-in-NotRead : goal.returns-in-NotRead
returns-in-NotRead g c = unread_steps (IsTrue g.A.Archive.account.tells) g.A.Archive.account.meaning c.args.self.now c.args.job c.args.column c.args.moving c.logged-settled.ensures.settled c.requires.room c.requires.column c.requires.moves c.read_slot.new.self.shelves c.args.digest c.read_slot.new.into c.note.new.self c.requires.stripe c.requires.live c.in-NotRead.ensures.finds (rw c.read_slot.ensures.same at c.note.ensures)
