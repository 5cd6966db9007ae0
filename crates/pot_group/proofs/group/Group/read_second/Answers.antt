use Rattle.std.proofs.Common.{IsTrue, ◌+◌, ◌≢◌, subst, ap, arith, ◌∙◌}
use Rattle.pot_machine.specs.Rules.{IsTable}
use Rattle.pot_group.specs.Group.{GroupParts, view_of}
use Rattle.pot_group.proofs.ParityReads.{second_sound, second_missing, second_failed}
use Rattle.pot_group.proofs.group.Group.read_second.Goals as goal

pub returns-in-Sound-clause-reads : goal.returns-in-Sound-clause-reads
returns-in-Sound-clause-reads g c =
    second_sound (IsTrue g.A.Archive.account.tells) c.args.stripe _ c.read_old.new.old (view_of g.A.Archive.account.meaning c.args.self.now) (view_of g.A.Archive.account.meaning c.read_old.new.self)
    (subst (λ (v : GroupParts _). IsTable v.table) c.self.view_is c.parity.ensures.rules)
    (subst (λ (v : GroupParts _). v.table.parity ≢ 1) c.self.view_is (omega (arith, c.parity.ensures.value, c.if-parity-eq1.false)))
    (ap (λ n. n + 1) c.data_columns-column.ensures.value ∙ ap (λ (v : GroupParts _). v.table.data_columns + 1) c.self.view_is) c.in-Sound.ensures.reads

pub returns-in-Missing-clause-reads : goal.returns-in-Missing-clause-reads
returns-in-Missing-clause-reads g c =
    second_missing (IsTrue g.A.Archive.account.tells) c.args.stripe _ c.read_old.new.old (view_of g.A.Archive.account.meaning c.args.self.now) (view_of g.A.Archive.account.meaning c.read_old.new.self)
    (subst (λ (v : GroupParts _). IsTable v.table) c.self.view_is c.parity.ensures.rules)
    (subst (λ (v : GroupParts _). v.table.parity ≢ 1) c.self.view_is (omega (arith, c.parity.ensures.value, c.if-parity-eq1.false)))
    (ap (λ n. n + 1) c.data_columns-column.ensures.value ∙ ap (λ (v : GroupParts _). v.table.data_columns + 1) c.self.view_is) c.in-Missing.ensures.reads

pub returns-in-NotRead-clause-reads : goal.returns-in-NotRead-clause-reads
returns-in-NotRead-clause-reads g c =
    second_failed (IsTrue g.A.Archive.account.tells) c.args.stripe _ c.read_old.new.old (view_of g.A.Archive.account.meaning c.args.self.now) (view_of g.A.Archive.account.meaning c.read_old.new.self)
    (subst (λ (v : GroupParts _). IsTable v.table) c.self.view_is c.parity.ensures.rules)
    (subst (λ (v : GroupParts _). v.table.parity ≢ 1) c.self.view_is (omega (arith, c.parity.ensures.value, c.if-parity-eq1.false)))
    (ap (λ n. n + 1) c.data_columns-column.ensures.value ∙ ap (λ (v : GroupParts _). v.table.data_columns + 1) c.self.view_is) c.in-NotRead.ensures.reads
