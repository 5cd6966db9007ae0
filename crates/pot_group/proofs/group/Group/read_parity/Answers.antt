use Rattle.std.proofs.Common.{IsTrue, subst, ap, ◌∙◌}
use Rattle.pot_machine.specs.Rules.{IsTable}
use Rattle.pot_group.specs.Group.{GroupParts, view_of}
use Rattle.pot_shelves.specs.Shelves.{plain}
use Rattle.pot_group.specs.Putting.{ReadsOld, ReadsSecond}
use Rattle.pot_group.specs.declared.reads.Found.TheVariants.{Sound}
use Rattle.pot_group.proofs.ParityReads.{both_read}
use Rattle.pot_group.proofs.group.Group.read_parity.Goals as goal

pub returns-in-Sound-clause-reads : goal.returns-in-Sound-clause-reads
returns-in-Sound-clause-reads g c =
    both_read (IsTrue g.A.Archive.account.tells) c.args.stripe c.data_columns-column.result c.read_old.new.old c.read_second.new.old
    (view_of g.A.Archive.account.meaning c.args.self.now) (plain g.A.Archive.account.meaning c.read_old.new.self.shelves) (view_of g.A.Archive.account.meaning c.read_second.new.self)
    (subst (λ (v : GroupParts _). IsTable v.table) c.self.view_is c.data_columns-column.ensures.rules) c.requires.stripe
    (c.data_columns-column.ensures.value ∙ ap (λ (v : GroupParts _). v.table.data_columns) c.self.view_is)
    (subst (λ v. ReadsOld (IsTrue g.A.Archive.account.tells) c.args.stripe c.data_columns-column.result c.read_old.new.old Sound (view_of g.A.Archive.account.meaning c.args.self.now) (view_of g.A.Archive.account.meaning v)) c.in-Sound.ensures.same c.in-Sound.ensures.reads)
    c.read_second.result
    (subst (λ v. ReadsSecond (IsTrue g.A.Archive.account.tells) c.args.stripe c.read_second.new.old c.read_second.result (view_of g.A.Archive.account.meaning v) (view_of g.A.Archive.account.meaning c.read_second.new.self)) c.in-Sound.ensures.same c.read_second.ensures.reads)
