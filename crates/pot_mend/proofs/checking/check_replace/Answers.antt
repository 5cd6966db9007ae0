use Rattle.std.proofs.Common.{IsTrue}
use Rattle.pot_mend.proofs.CheckLemmas.{absent, all_asked, home_within, in_use, replaces}
use Rattle.pot_mend.proofs.checking.check_replace.Goals as goal

pub returns-in-None-clause-asked : goal.returns-in-None-clause-asked
returns-in-None-clause-asked g c = all_asked (IsTrue g.A.Archive.account.tells) c.args.vault.now.rack c.args.vault.now.groups c.args.from c.args.to c.args.passes.now.groups c.trace-told.new.passes.groups
    c.requires.ready c.trace-told.result c.trace-told.ensures.traces

pub returns-in-None-clause-says : goal.returns-in-None-clause-says
returns-in-None-clause-says g c = λ s set.
    (absent (IsTrue g.A.Archive.account.tells) c.args.vault.now.rack c.args.vault.now.groups c.args.from c.args.to c.args.passes.now.groups c.trace-told.new.passes.groups
    c.requires.ready c.trace-told.result c.trace-told.ensures.traces c.args.passes.now.index c.requires.count s set c.in-None.is).1

pub returns-in-Some-clause-asked : goal.returns-in-Some-clause-asked
returns-in-Some-clause-asked g c = all_asked (IsTrue g.A.Archive.account.tells) c.args.vault.now.rack c.args.vault.now.groups c.args.from c.args.to c.args.passes.now.groups c.trace-told.new.passes.groups
    c.requires.ready c.trace-told.result c.trace-told.ensures.traces

pub returns-in-Some-clause-says : goal.returns-in-Some-clause-says
returns-in-Some-clause-says g c = λ s set.
    in_use (IsTrue g.A.Archive.account.tells) c.args.vault.now.rack c.args.vault.now.groups c.args.from c.args.to c.args.passes.now.groups c.trace-told.new.passes.groups
    c.requires.ready c.trace-told.result c.trace-told.ensures.traces c.args.passes.now.index c.requires.count s set c.in-Some.field-0 c.in-Some.is c.if-told.true

pub returns-in-Some-2-clause-asked : goal.returns-in-Some-2-clause-asked
returns-in-Some-2-clause-asked g c = all_asked (IsTrue g.A.Archive.account.tells) c.args.vault.now.rack c.args.vault.now.groups c.args.from c.args.to c.args.passes.now.groups c.trace-told.new.passes.groups
    c.requires.ready c.trace-told.result c.trace-told.ensures.traces

pub returns-in-Some-2-clause-place : goal.returns-in-Some-2-clause-place
returns-in-Some-2-clause-place g c = home_within (IsTrue g.A.Archive.account.tells) c.args.vault.now.rack c.args.vault.now.groups c.args.from c.args.to c.args.passes.now.groups c.trace-told.new.passes.groups
    c.requires.ready c.trace-told.result c.trace-told.ensures.traces c.in-Some-2.home c.in-Some-2.is

pub returns-in-Some-2-clause-says : goal.returns-in-Some-2-clause-says
returns-in-Some-2-clause-says g c = λ s set.
    replaces (IsTrue g.A.Archive.account.tells) c.args.vault.now.rack c.args.vault.now.groups c.args.from c.args.to c.args.passes.now.groups c.trace-told.new.passes.groups
    c.requires.ready c.trace-told.result c.trace-told.ensures.traces c.args.passes.now.index c.requires.count s set c.in-Some-2.home c.in-Some-2.is c.if-told.false
