use Rattle.pot_shared.proofs.CallLemmas.{grown, same_origin, called, ready_again}
use Rattle.pot_shared.proofs.CallBlinds.{look_more}
use Rattle.pot_shared.proofs.vault.Vault.look.Goals as goal

pub leave-requires-clause-grown : goal.leave-requires-clause-grown
leave-requires-clause-grown g c =
    let ready = rw (← c.passes.view_is) at c.requires.ready in
    grown ready c.requires.place.0 c.enter-member.ensures.took c.logged-before.ensures.arrived c.logged-before.ensures.settled (look_more c.look-answer.ensures.looks) c.look-answer.ensures.looks.1

pub leave-requires-clause-origin : goal.leave-requires-clause-origin
leave-requires-clause-origin g c =
    let ready = rw (← c.passes.view_is) at c.requires.ready in
    same_origin ready c.requires.place.0 c.enter-member.ensures.took c.logged-before.ensures.arrived c.logged-before.ensures.settled (look_more c.look-answer.ensures.looks) c.look-answer.ensures.looks.1 c.enter-member.ensures.origin

pub returns-clause-call : goal.returns-clause-call
returns-clause-call g c =
    let ready = rw (← c.passes.view_is) at c.requires.ready in
    rw (← c.passes.view_is) (called ready c.requires.place.0 c.enter-member.ensures.took c.logged-before.ensures.arrived c.logged-before.ensures.settled (look_more c.look-answer.ensures.looks) c.enter-member.ensures.begins c.enter-member.ensures.origin
    c.logged-before.ensures.first c.look-answer.ensures.looks c.logged-after.ensures.settled c.leave.ensures.left)

pub returns-clause-ready : goal.returns-clause-ready
returns-clause-ready g c = ready_again c.requires.ready c.requires.place.0 (returns-clause-call g c)
