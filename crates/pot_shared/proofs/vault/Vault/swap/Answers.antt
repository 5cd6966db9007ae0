use Rattle.pot_shared.proofs.CallLemmas.{is_column, grown, same_origin, called, ready_again}
use Rattle.pot_shared.proofs.CallBlinds.{swap_more}
use Rattle.pot_shared.proofs.vault.Vault.swap.Goals as goal

pub swap-answer-requires-clause-column : goal.swap-answer-requires-clause-column
swap-answer-requires-clause-column g c =
    let ready = rw (← c.passes.view_is) at c.requires.ready in
    is_column ready c.requires.group c.enter-member.ensures.origin c.logged-before.ensures.settled c.requires.column

pub leave-requires-clause-grown : goal.leave-requires-clause-grown
leave-requires-clause-grown g c =
    let ready = rw (← c.passes.view_is) at c.requires.ready in
    grown ready c.requires.group c.enter-member.ensures.took c.logged-before.ensures.arrived c.logged-before.ensures.settled (swap_more _ _ _ _ _ _ _ _ c.swap-answer.ensures.swaps) c.swap-answer.ensures.swaps.1

pub leave-requires-clause-origin : goal.leave-requires-clause-origin
leave-requires-clause-origin g c =
    let ready = rw (← c.passes.view_is) at c.requires.ready in
    same_origin ready c.requires.group c.enter-member.ensures.took c.logged-before.ensures.arrived c.logged-before.ensures.settled (swap_more _ _ _ _ _ _ _ _ c.swap-answer.ensures.swaps) c.swap-answer.ensures.swaps.1 c.enter-member.ensures.origin

pub returns-clause-call : goal.returns-clause-call
returns-clause-call g c =
    let ready = rw (← c.passes.view_is) at c.requires.ready in
    rw (← c.passes.view_is) (called ready c.requires.group c.enter-member.ensures.took c.logged-before.ensures.arrived c.logged-before.ensures.settled (swap_more _ _ _ _ _ _ _ _ c.swap-answer.ensures.swaps) c.enter-member.ensures.begins c.enter-member.ensures.origin
    c.logged-before.ensures.first c.swap-answer.ensures.swaps c.logged-after.ensures.settled c.leave.ensures.left)

pub returns-clause-ready : goal.returns-clause-ready
returns-clause-ready g c = ready_again c.requires.ready c.requires.group (returns-clause-call g c)
