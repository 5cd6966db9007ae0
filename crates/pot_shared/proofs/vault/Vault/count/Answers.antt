use Rattle.pot_shared.proofs.CallLemmas.{grown, called, ready_again}
use Rattle.pot_shared.proofs.CallBlinds.{count_more}
use Rattle.pot_shared.proofs.vault.Vault.count.Goals as goal

pub leave-requires-clause-grown : goal.leave-requires-clause-grown
leave-requires-clause-grown g c =
    let ready = rw (← c.passes.view_is) at c.requires.ready in
    grown ready c.requires.group c.enter-member.ensures.took c.logged-before.ensures.arrived c.logged-before.ensures.settled (count_more _ _ _ _ _ c.count-answer.ensures.counts) c.count-answer.ensures.counts.1

pub returns-clause-call : goal.returns-clause-call
returns-clause-call g c =
    let ready = rw (← c.passes.view_is) at c.requires.ready in
    rw (← c.passes.view_is) (called ready c.requires.group c.enter-member.ensures.took c.logged-before.ensures.arrived c.logged-before.ensures.settled (count_more _ _ _ _ _ c.count-answer.ensures.counts) c.enter-member.ensures.begins c.enter-member.ensures.origin
    c.logged-before.ensures.first c.count-answer.ensures.counts c.logged-after.ensures.settled c.leave.ensures.left)

pub returns-clause-ready : goal.returns-clause-ready
returns-clause-ready g c = ready_again c.requires.ready c.requires.group (returns-clause-call g c)
