use Rattle.std.proofs.Common.{IsTrue, Some, ap, ◌∙◌}
use Rattle.pot_mend.proofs.CheckLemmas.{absent, all_asked, begins, elsewhere, home_within, resumes, taken_to}
use Rattle.pot_mend.proofs.checking.check_migrate.Goals as goal

pub returns-in_default-clause-asked : goal.returns-in_default-clause-asked
returns-in_default-clause-asked g c = all_asked (IsTrue g.A.Archive.account.tells) c.args.vault.now.rack c.args.vault.now.groups c.args.from c.args.to c.args.passes.now.groups c.trace-told.new.passes.groups
    c.requires.ready c.trace-told.result c.trace-told.ensures.traces

pub returns-in_default-clause-says : goal.returns-in_default-clause-says
returns-in_default-clause-says g c = λ s set.
    (absent (IsTrue g.A.Archive.account.tells) c.args.vault.now.rack c.args.vault.now.groups c.args.from c.args.to c.args.passes.now.groups c.trace-told.new.passes.groups
    c.requires.ready c.trace-told.result c.trace-told.ensures.traces c.args.passes.now.index c.requires.count s set c.in_default.is).0

pub returns-then-target-to-clause-asked : goal.returns-then-target-to-clause-asked
returns-then-target-to-clause-asked g c = all_asked (IsTrue g.A.Archive.account.tells) c.args.vault.now.rack c.args.vault.now.groups c.args.from c.args.to c.args.passes.now.groups c.trace-told.new.passes.groups
    c.requires.ready c.trace-told.result c.trace-told.ensures.traces

pub returns-then-target-to-clause-says : goal.returns-then-target-to-clause-says
returns-then-target-to-clause-says g c = λ s set.
    elsewhere (IsTrue g.A.Archive.account.tells) c.args.vault.now.rack c.args.vault.now.groups c.args.from c.args.to c.args.passes.now.groups c.trace-told.new.passes.groups
    c.requires.ready c.trace-told.result c.trace-told.ensures.traces c.args.passes.now.index c.requires.count s set c.in-Some.home c.in-Some.is c.in-Some-moving.target c.in-Some-moving.is c.if-target-to.true

pub returns-then-told-clause-asked : goal.returns-then-told-clause-asked
returns-then-told-clause-asked g c = all_asked (IsTrue g.A.Archive.account.tells) c.args.vault.now.rack c.args.vault.now.groups c.args.from c.args.to c.args.passes.now.groups c.trace-told.new.passes.groups
    c.requires.ready c.trace-told.result c.trace-told.ensures.traces

pub returns-then-told-clause-says : goal.returns-then-told-clause-says
returns-then-told-clause-says g c = λ s set.
    taken_to (IsTrue g.A.Archive.account.tells) c.args.vault.now.rack c.args.vault.now.groups c.args.from c.args.to c.args.passes.now.groups c.trace-told.new.passes.groups
    c.requires.ready c.trace-told.result c.trace-told.ensures.traces c.args.passes.now.index c.requires.count s set c.in-Some.home c.in-Some.is c.in-None.is c.if-told.true

pub returns-else-target-to-clause-asked : goal.returns-else-target-to-clause-asked
returns-else-target-to-clause-asked g c = all_asked (IsTrue g.A.Archive.account.tells) c.args.vault.now.rack c.args.vault.now.groups c.args.from c.args.to c.args.passes.now.groups c.trace-told.new.passes.groups
    c.requires.ready c.trace-told.result c.trace-told.ensures.traces

pub returns-else-target-to-clause-place : goal.returns-else-target-to-clause-place
returns-else-target-to-clause-place g c = home_within (IsTrue g.A.Archive.account.tells) c.args.vault.now.rack c.args.vault.now.groups c.args.from c.args.to c.args.passes.now.groups c.trace-told.new.passes.groups
    c.requires.ready c.trace-told.result c.trace-told.ensures.traces c.in-Some.home c.in-Some.is

pub returns-else-target-to-clause-says : goal.returns-else-target-to-clause-says
returns-else-target-to-clause-says g c = λ s set.
    resumes (IsTrue g.A.Archive.account.tells) c.args.vault.now.rack c.args.vault.now.groups c.args.from c.args.to c.args.passes.now.groups c.trace-told.new.passes.groups
    c.requires.ready c.trace-told.result c.trace-told.ensures.traces c.args.passes.now.index c.requires.count s set c.in-Some.home c.in-Some.is (c.in-Some-moving.is ∙ ap Some c.if-target-to.false)

pub returns-else-told-clause-asked : goal.returns-else-told-clause-asked
returns-else-told-clause-asked g c = all_asked (IsTrue g.A.Archive.account.tells) c.args.vault.now.rack c.args.vault.now.groups c.args.from c.args.to c.args.passes.now.groups c.trace-told.new.passes.groups
    c.requires.ready c.trace-told.result c.trace-told.ensures.traces

pub returns-else-told-clause-place : goal.returns-else-told-clause-place
returns-else-told-clause-place g c = home_within (IsTrue g.A.Archive.account.tells) c.args.vault.now.rack c.args.vault.now.groups c.args.from c.args.to c.args.passes.now.groups c.trace-told.new.passes.groups
    c.requires.ready c.trace-told.result c.trace-told.ensures.traces c.in-Some.home c.in-Some.is

pub returns-else-told-clause-says : goal.returns-else-told-clause-says
returns-else-told-clause-says g c = λ s set.
    begins (IsTrue g.A.Archive.account.tells) c.args.vault.now.rack c.args.vault.now.groups c.args.from c.args.to c.args.passes.now.groups c.trace-told.new.passes.groups
    c.requires.ready c.trace-told.result c.trace-told.ensures.traces c.args.passes.now.index c.requires.count s set c.in-Some.home c.in-Some.is c.in-None.is c.if-told.false
