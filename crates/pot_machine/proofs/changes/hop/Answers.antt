use Rattle.std.proofs.Common.{refl, ap, ◌∙◌, get_or, set, None}
use Rattle.pot_machine.specs.declared.relay.Relay.{Relay}
use Rattle.pot_machine.specs.Machine.{hopped}
use Rattle.pot_machine.proofs.Mapped.{mapped, mapped-get, mapped-more, mapped-all}
use Rattle.pot_machine.proofs.changes.hop.Goals as goal

abbrev no_relay : Relay
no_relay = record { stripe = 0; target = 0; skip = None; last = None }

pub returns : goal.returns
returns c = c.loop-relay.invariant ∙ mapped-all _ _ _ c.loop-relay-test.false

pub loop-relay-init : goal.loop-relay-init
unfolding mapped
loop-relay-init c = refl

pub loop-relay-preserved : goal.loop-relay-preserved
loop-relay-preserved c =
    let f = hopped c.args.stripe c.args.column in
    let n = c.loop-relay.relay-index in
    ap (λ x. set c.loop-relay.relay-items n x) c.hopped.ensures
    ∙ ap (λ ys. set ys n (f (get_or ys n no_relay))) c.loop-relay.invariant
    ∙ ap (λ x. set (mapped f n c.args.relays.now) n (f x)) (mapped-get f n c.args.relays.now no_relay)
    ∙ mapped-more f n c.args.relays.now no_relay c.loop-relay-test.true
