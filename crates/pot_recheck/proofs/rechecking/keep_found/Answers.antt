use Rattle.std.proofs.Common.{inr, Some, length, ap, subst, ◌∙◌, arith}
use Rattle.pot_outside.specs.Failing.{MayLeave}
use Rattle.pot_recheck.proofs.rechecking.keep_found.Goals as goal

pub returns-in-Ok-replace-clause-told : goal.returns-in-Ok-replace-clause-told
returns-in-Ok-replace-clause-told g c = λ told holds. (
  c.args.image,
  record {
    held = holds;
    all = c.requires.all;
    none = λ e. absurd (let n = ap length e in let m = c.requires.some in omega (arith, n, m));
    some = λ _. c.in-Ok-replace.ensures.told told ∙ ap Some (c.deref-in-Ok.ensures.value ∙ c.in-Ok.ensures.bytes);
    rules = λ _. c.in-Ok.ensures.rules;
  },
)

pub returns-in-Err-replace-clause-told : goal.returns-in-Err-replace-clause-told
returns-in-Err-replace-clause-told g c = λ told holds.
    inr (
      c.args.image,
      holds,
      omega (arith, c.requires.some, ap length c.requires.all),
      subst (λ bytes. MayLeave (g.D.Desk.account.meaning c.args.desk.now).held.now bytes (g.D.Desk.account.meaning c.replace.new.self).held.now) (c.deref-in-Ok.ensures.value ∙ c.in-Ok.ensures.bytes) (c.in-Err-replace.ensures.told told),
    )
