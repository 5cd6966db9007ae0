use Rattle.std.proofs.Common.{◌≡◌, length, ap, ◌∙◌, subst, IsTrue, arith}
use Rattle.pot_bytes.specs.Rack.{log_bound}
use Rattle.pot_machine.specs.declared.entry.Entry.TheVariants.{Skip}
use Rattle.pot_group.specs.Group.{GroupParts, view_of, noted}
use Rattle.pot_group.proofs.Passing.{skip_legal, left_full, left_behind}
use Rattle.pot_group.proofs.group.Group.leave.Goals as goal

pub returns-then-len-ge-LOG_BOUND-clause-passes : goal.returns-then-len-ge-LOG_BOUND-clause-passes
returns-then-len-ge-LOG_BOUND-clause-passes g c =
    let full : length c.self.inside.log.items ≡ log_bound = omega (arith, c.self.invariant.0.bound, c.len.ensures, c.if-len-ge-LOG_BOUND.true) in
    left_full (IsTrue g.A.Archive.account.tells) c.args.job c.args.stripe c.args.column (view_of g.A.Archive.account.meaning c.args.self.now) c.requires.rules c.requires.cursor c.requires.parity c.requires.column
    c.requires.void c.requires.gone c.requires.takes c.requires.least (view_of g.A.Archive.account.meaning c.note.new.self)
    (ap (view_of g.A.Archive.account.meaning) c.note.ensures)
    (subst (λ (v : GroupParts _). length v.log ≡ log_bound) c.self.view_is full)

pub note-requires-2-clause-legal : goal.note-requires-2-clause-legal
note-requires-2-clause-legal g c =
    rw c.note.ensures
    (skip_legal (IsTrue g.A.Archive.account.tells) c.args.job c.args.stripe c.args.column (view_of g.A.Archive.account.meaning c.args.self.now) c.requires.rules c.requires.cursor c.requires.parity c.requires.column c.requires.void)

pub returns-clause-passes : goal.returns-clause-passes
returns-clause-passes g c =
    left_behind (IsTrue g.A.Archive.account.tells) c.args.job c.args.stripe c.args.column (view_of g.A.Archive.account.meaning c.args.self.now) c.requires.rules c.requires.cursor c.requires.parity c.requires.column
    c.requires.void c.requires.gone c.requires.takes c.requires.least (view_of g.A.Archive.account.meaning c.note-2.new.self)
    (ap (view_of g.A.Archive.account.meaning) (c.note-2.ensures ∙ ap (λ v. noted v (Skip c.args.job c.args.stripe)) c.note.ensures))
