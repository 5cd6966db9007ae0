use Rattle.std.proofs.Common.{◌≡◌, Some, None, MatchOption, ap, sym, subst, ◌∙◌}
use Rattle.pot_outside.specs.Accounts.{transition_by}
use Rattle.pot_outside.specs.Desks.{Images}
use Rattle.pot_recheck.specs.Rechecking.{Rechecks}
use Rattle.pot_recheck.proofs.rechecking.recheck.Goals as goal

pub returns-in-Ok-Some-clause-told : goal.returns-in-Ok-Some-clause-told
returns-in-Ok-Some-clause-told g c = λ told.
    let held = (g.D.Desk.account.meaning c.args.desk.now).held.now in
    let still = ap (λ (h : Images). h.now) (c.read.ensures.keeps told) in
    let read = subst (λ o. MatchOption o (held ≡ None) (λ v. held ≡ Some v.items)) c.in-Ok-Some.field-0-is (c.in-Ok-Some.ensures.told told) in
    subst (λ before. Rechecks (transition_by g.D.Desk.account.tells before (g.D.Desk.account.meaning c.recheck_bytes.new.desk).held.now) c.recheck_bytes.result) still
    (c.recheck_bytes.ensures.told told (still ∙ read ∙ ap Some (sym c.deref.ensures.value)))
