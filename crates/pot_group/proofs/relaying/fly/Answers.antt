use Rattle.std.proofs.Common.{refl, ap, ◌∙◌, get_or, set}
use Rattle.pot_machine.proofs.Mapped.{mapped, mapped-get, mapped-more, mapped-all}
use Rattle.pot_group.specs.Relaying.{flown_to}
use Rattle.pot_group.proofs.relaying.fly.Goals as goal

pub returns : goal.returns
returns c = c.loop-flight.invariant ∙ mapped-all _ _ _ c.loop-flight-test.false

pub loop-flight-init : goal.loop-flight-init
unfolding mapped
loop-flight-init c = refl

pub loop-flight-preserved : goal.loop-flight-preserved
loop-flight-preserved c =
    let f = flown_to c.args.stripe c.args.last c.args.sum.now in
    let n = c.loop-flight.flight-index in
    ap (λ x. set c.loop-flight.flight-items n x) c.flown_to.ensures
    ∙ ap (λ ys. set ys n (f (get_or ys n c.flight-item.result))) c.loop-flight.invariant
    ∙ ap (λ x. set (mapped f n c.args.flights.now) n (f x)) (mapped-get f n c.args.flights.now c.flight-item.result)
    ∙ mapped-more f n c.args.flights.now c.flight-item.result c.loop-flight-test.true
