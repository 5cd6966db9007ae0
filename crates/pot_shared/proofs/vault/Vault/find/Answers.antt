use Rattle.pot_shared.proofs.CatalogLemmas.{finds_small}
use Rattle.pot_shared.proofs.IndexCallLemmas.{grown, called, small_on}
use Rattle.pot_shared.proofs.SharingLemmas.{knows_ready}
use Rattle.pot_shared.proofs.vault.Vault.find.Goals as goal

pub leave-requires-clause-grown : goal.leave-requires-clause-grown
leave-requires-clause-grown g c =
    let index = rw (← c.passes.view_is) at c.requires.index in
    grown index c.enter-catalog.result c.enter-catalog.ensures.took c.enter-catalog.ensures.origin c.find-answer.new.self
    (small_on _ _ (finds_small c.args.job c.args.name.now _ _ c.find-answer.result c.find-answer.ensures.call)) c.find-answer.ensures.names

pub returns-clause-call : goal.returns-clause-call
returns-clause-call g c =
    let index = rw (← c.passes.view_is) at c.requires.index in
    rw (← c.passes.view_is) (called index c.enter-catalog.result c.enter-catalog.ensures.took c.enter-catalog.ensures.origin c.find-answer.new.self
    (small_on _ _ (finds_small c.args.job c.args.name.now _ _ c.find-answer.result c.find-answer.ensures.call)) c.find-answer.ensures.names
    c.leave.ensures.left c.enter-catalog.ensures.begins c.rules.ensures c.rules-2.ensures (c.find-answer.ensures.call, c.find-answer.ensures.seen, c.find-answer.ensures.told))

pub returns-clause-ready : goal.returns-clause-ready
returns-clause-ready g c =
    let ready = rw (← c.passes.view_is) at c.requires.ready in
    knows_ready c.args.self.now.rack c.args.self.now.groups c.passes.inside.groups c.find-answer.new.passes ready c.find-answer.ensures.tied

pub returns-clause-groups : goal.returns-clause-groups
returns-clause-groups g c = rw (← c.passes.view_is) c.find-answer.ensures.tied
