use Rattle.pot_shared.proofs.CallLemmas.{grown, same_origin, called, ready_again}
use Rattle.pot_shared.proofs.CallBlinds.{mend_more}
use Rattle.pot_shared.proofs.vault.Vault.mend_step.Goals as goal

pub leave-requires-clause-grown : goal.leave-requires-clause-grown
leave-requires-clause-grown g c =
    let ready = rw (← c.passes.view_is) at c.requires.ready in
    grown ready c.requires.place.0 c.enter-member.ensures.took c.logged-before.ensures.arrived c.logged-before.ensures.settled (mend_more c.mend-answer.ensures.mends) c.mend-answer.ensures.mends.1

pub leave-requires-clause-origin : goal.leave-requires-clause-origin
leave-requires-clause-origin g c =
    let ready = rw (← c.passes.view_is) at c.requires.ready in
    same_origin ready c.requires.place.0 c.enter-member.ensures.took c.logged-before.ensures.arrived c.logged-before.ensures.settled (mend_more c.mend-answer.ensures.mends) c.mend-answer.ensures.mends.1 c.enter-member.ensures.origin

pub returns-clause-call : goal.returns-clause-call
returns-clause-call g c =
    let ready = rw (← c.passes.view_is) at c.requires.ready in
    rw (← c.passes.view_is) (called ready c.requires.place.0 c.enter-member.ensures.took c.logged-before.ensures.arrived c.logged-before.ensures.settled (mend_more c.mend-answer.ensures.mends) c.enter-member.ensures.begins c.enter-member.ensures.origin
    c.logged-before.ensures.first c.mend-answer.ensures.mends c.logged-after.ensures.settled c.leave.ensures.left)

pub returns-clause-ready : goal.returns-clause-ready
returns-clause-ready g c = ready_again c.requires.ready c.requires.place.0 (returns-clause-call g c)
