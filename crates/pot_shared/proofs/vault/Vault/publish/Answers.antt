use Rattle.pot_shared.proofs.IndexCallLemmas.{grown, called, publishes_on, reserved_there}
use Rattle.pot_shared.proofs.SharingLemmas.{knows_ready}
use Rattle.pot_shared.proofs.vault.Vault.publish.Goals as goal

pub publish-answer-requires-clause-reserved : goal.publish-answer-requires-clause-reserved
publish-answer-requires-clause-reserved g c =
    let reserved = rw (← c.passes.view_is) at c.requires.reserved in
    reserved_there c.args.job c.args.kept.name c.passes.inside.index c.enter-catalog.result.index.log c.enter-catalog.ensures.begins reserved

pub leave-requires-clause-grown : goal.leave-requires-clause-grown
leave-requires-clause-grown g c =
    let index = rw (← c.passes.view_is) at c.requires.index in
    grown index c.enter-catalog.result c.enter-catalog.ensures.took c.enter-catalog.ensures.origin c.publish-answer.new.self
    (publishes_on c.args.job c.args.kept c.publish-answer.result _ _ c.publish-answer.ensures.call) c.publish-answer.ensures.names

pub returns-clause-call : goal.returns-clause-call
returns-clause-call g c =
    let index = rw (← c.passes.view_is) at c.requires.index in
    rw (← c.passes.view_is) (called index c.enter-catalog.result c.enter-catalog.ensures.took c.enter-catalog.ensures.origin c.publish-answer.new.self
    (publishes_on c.args.job c.args.kept c.publish-answer.result _ _ c.publish-answer.ensures.call) c.publish-answer.ensures.names
    c.leave.ensures.left c.enter-catalog.ensures.begins c.rules.ensures c.rules-2.ensures c.publish-answer.ensures.call)

pub returns-clause-ready : goal.returns-clause-ready
returns-clause-ready g c =
    let ready = rw (← c.passes.view_is) at c.requires.ready in
    knows_ready c.args.self.now.rack c.args.self.now.groups c.passes.inside.groups c.publish-answer.new.passes ready c.publish-answer.ensures.tied

pub returns-clause-groups : goal.returns-clause-groups
returns-clause-groups g c = rw (← c.passes.view_is) c.publish-answer.ensures.tied
