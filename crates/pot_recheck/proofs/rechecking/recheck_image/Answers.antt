use Rattle.std.proofs.Common.{refl, sym, arith}
use Rattle.std.proofs.lemmas.Bool.{eqb-true}
use Rattle.pot_recheck.proofs.rechecking.recheck_image.Goals as goal

pub returns-then-is_empty-clause-told : goal.returns-then-is_empty-clause-told
returns-then-is_empty-clause-told g c = λ told holds. (
  c.args.image,
  record {
    held = holds;
    all = c.in-Ok.ensures;
    none = λ e. refl;
    some = λ l. absurd (omega (arith, l, eqb-true _ _ (sym c.if-is_empty.ensures), c.in-Ok.found.ok.0));
    rules = λ l. absurd (omega (arith, l, eqb-true _ _ (sym c.if-is_empty.ensures), c.in-Ok.found.ok.0));
  },
)
