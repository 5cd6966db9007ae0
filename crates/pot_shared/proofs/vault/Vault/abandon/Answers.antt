use Rattle.std.proofs.Common.{ap}
use Rattle.pot_shared.specs.Ready.{GroupPasses}
use Rattle.pot_shared.proofs.IndexCallLemmas.{grown, called, abandons_on, reserved_there}
use Rattle.pot_shared.proofs.vault.Vault.abandon.Goals as goal

pub abandon-answer-requires : goal.abandon-answer-requires
abandon-answer-requires g c =
    let reserved = rw (← c.passes.view_is) at c.requires.reserved in
    reserved_there c.args.job c.args.name.now c.passes.inside.index c.enter-catalog.result.index.log c.enter-catalog.ensures.begins reserved

pub leave-requires-clause-grown : goal.leave-requires-clause-grown
leave-requires-clause-grown g c =
    let index = rw (← c.passes.view_is) at c.requires.index in
    grown index c.enter-catalog.result c.enter-catalog.ensures.took c.enter-catalog.ensures.origin c.abandon-answer.new.self
    (abandons_on c.args.job c.args.name.now c.abandon-answer.result _ _ c.abandon-answer.ensures.call) (ap (λ (r : GroupPasses). r.names) c.abandon-answer.ensures.kept)

pub returns-clause-call : goal.returns-clause-call
returns-clause-call g c =
    let index = rw (← c.passes.view_is) at c.requires.index in
    rw (← c.passes.view_is) (called index c.enter-catalog.result c.enter-catalog.ensures.took c.enter-catalog.ensures.origin c.abandon-answer.new.self
    (abandons_on c.args.job c.args.name.now c.abandon-answer.result _ _ c.abandon-answer.ensures.call) (ap (λ (r : GroupPasses). r.names) c.abandon-answer.ensures.kept)
    c.leave.ensures.left c.enter-catalog.ensures.begins c.rules.ensures c.rules-2.ensures c.abandon-answer.ensures.call)
