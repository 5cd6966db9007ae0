use Rattle.std.proofs.Common.{ap}
use Rattle.pot_shared.specs.Ready.{GroupPasses}
use Rattle.pot_shared.proofs.CatalogLemmas.{lists_small}
use Rattle.pot_shared.proofs.IndexCallLemmas.{grown, called, small_on}
use Rattle.pot_shared.proofs.vault.Vault.names.Goals as goal

pub leave-requires-clause-grown : goal.leave-requires-clause-grown
leave-requires-clause-grown g c =
    let index = rw (← c.passes.view_is) at c.requires.index in
    grown index c.enter-catalog.result c.enter-catalog.ensures.took c.enter-catalog.ensures.origin c.names-answer.new.self
    (small_on _ _ (lists_small c.args.job _ _ c.names-answer.result c.names-answer.ensures.call)) (ap (λ (r : GroupPasses). r.names) c.names-answer.ensures.kept)

pub returns-clause-call : goal.returns-clause-call
returns-clause-call g c =
    let index = rw (← c.passes.view_is) at c.requires.index in
    rw (← c.passes.view_is) (called index c.enter-catalog.result c.enter-catalog.ensures.took c.enter-catalog.ensures.origin c.names-answer.new.self
    (small_on _ _ (lists_small c.args.job _ _ c.names-answer.result c.names-answer.ensures.call)) (ap (λ (r : GroupPasses). r.names) c.names-answer.ensures.kept)
    c.leave.ensures.left c.enter-catalog.ensures.begins c.rules.ensures c.rules-2.ensures c.names-answer.ensures.call)
