use Rattle.std.proofs.Common.{[], refl}
use Rattle.pot_group.specs.Group.{view_of}
use Rattle.pot_group.proofs.Rows.{grows_same}
use Rattle.pot_shared.proofs.CallLemmas.{grown, called, ready_again}
use Rattle.pot_shared.proofs.CallBlinds.{same_more}
use Rattle.pot_shared.proofs.vault.Vault.trace_at.Goals as goal

pub leave-requires-clause-grown : goal.leave-requires-clause-grown
leave-requires-clause-grown g c =
    let ready = rw (← c.passes.view_is) at c.requires.ready in
    let transition = view_of g.A.Archive.account.meaning c.enter-member.result.group in
    grown ready c.requires.group c.enter-member.ensures.took c.logged-before.ensures.arrived c.logged-before.ensures.settled (same_more transition transition refl) (grows_same transition transition refl)

pub returns-clause-call : goal.returns-clause-call
returns-clause-call g c =
    let ready = rw (← c.passes.view_is) at c.requires.ready in
    let transition = view_of g.A.Archive.account.meaning c.enter-member.result.group in
    rw (← c.passes.view_is) (called ready c.requires.group c.enter-member.ensures.took c.logged-before.ensures.arrived c.logged-before.ensures.settled (same_more transition transition refl) c.enter-member.ensures.begins c.enter-member.ensures.origin
    c.logged-before.ensures.first ([], grows_same transition transition refl, (refl, refl, c.trace-answer.ensures)) c.logged-before.ensures.settled c.leave.ensures.left)

pub returns-clause-ready : goal.returns-clause-ready
returns-clause-ready g c = ready_again c.requires.ready c.requires.group (returns-clause-call g c)
