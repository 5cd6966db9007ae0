use Rattle.std.proofs.Common.{sym, ◌∙◌, arith}
use Rattle.pot_recover.proofs.FrontLemmas.{first_is, none_is_past, none_is_other}
use Rattle.pot_recover.proofs.fronts.first_front.Goals as goal

pub returns-then-place-objects : goal.returns-then-place-objects
returns-then-place-objects c =
    none_is_past c.args.objects.now c.args.front c.requires c.end_below-place.result c.end_below-place.ensures.bound c.end_below-place.ensures.split
    (omega (arith, c.if-place-objects.true))

pub returns-then-eq : goal.returns-then-eq
returns-then-eq c =
    first_is c.args.objects.now c.args.front c.requires c.end_below-place.result c.end_below-place.ensures.bound c.end_below-place.ensures.split
    (omega (arith, c.if-place-objects.false, c.end_below-place.ensures.bound))
    (rw c.front_of.ensures at (sym c.eq.ensures ∙ c.if-eq.true))

pub returns-else-eq : goal.returns-else-eq
returns-else-eq c =
    none_is_other c.args.objects.now c.args.front c.requires c.end_below-place.result c.end_below-place.ensures.bound c.end_below-place.ensures.split
    (omega (arith, c.if-place-objects.false, c.end_below-place.ensures.bound))
    (rw c.front_of.ensures at (sym c.eq.ensures ∙ c.if-eq.false))
