use Rattle.pot_shared.proofs.IndexCallLemmas.{grown, called, may_there, renews_on}
use Rattle.pot_shared.proofs.SharingLemmas.{knows_ready}
use Rattle.pot_shared.proofs.vault.Vault.renew.Goals as goal

pub renew-answer-requires-clause-renews : goal.renew-answer-requires-clause-renews
renew-answer-requires-clause-renews g c =
    let index = rw (← c.passes.view_is) at c.requires.index in
    let renews = rw (← c.passes.view_is) at c.requires.renews in
    may_there index c.enter-catalog.result c.enter-catalog.ensures.took c.enter-catalog.ensures.origin c.enter-catalog.ensures.begins
    c.args.name.now c.args.split c.passes.inside.groups c.rules.ensures renews

pub leave-requires-clause-grown : goal.leave-requires-clause-grown
leave-requires-clause-grown g c =
    let index = rw (← c.passes.view_is) at c.requires.index in
    grown index c.enter-catalog.result c.enter-catalog.ensures.took c.enter-catalog.ensures.origin c.renew-answer.new.self
    (renews_on c.args.job c.args.name.now c.args.split c.renew-answer.result _ _ c.renew-answer.ensures.call) c.renew-answer.ensures.names

pub returns-clause-call : goal.returns-clause-call
returns-clause-call g c =
    let index = rw (← c.passes.view_is) at c.requires.index in
    rw (← c.passes.view_is) (called index c.enter-catalog.result c.enter-catalog.ensures.took c.enter-catalog.ensures.origin c.renew-answer.new.self
    (renews_on c.args.job c.args.name.now c.args.split c.renew-answer.result _ _ c.renew-answer.ensures.call) c.renew-answer.ensures.names
    c.leave.ensures.left c.enter-catalog.ensures.begins c.rules.ensures c.rules-2.ensures c.renew-answer.ensures.call)

pub returns-clause-ready : goal.returns-clause-ready
returns-clause-ready g c =
    let ready = rw (← c.passes.view_is) at c.requires.ready in
    knows_ready c.args.self.now.rack c.args.self.now.groups c.passes.inside.groups c.renew-answer.new.passes ready c.renew-answer.ensures.tied

pub returns-clause-groups : goal.returns-clause-groups
returns-clause-groups g c = rw (← c.passes.view_is) c.renew-answer.ensures.tied
