use Rattle.std.proofs.Common.{◌≡◌, Some, ap, sym, ◌∙◌}
use Rattle.pot_machine.specs.declared.relay.Relay.{Relay}
use Rattle.pot_steps.specs.declared.flight.Flight.{Flight}
use Rattle.pot_steps.proofs.CallLemmas.{relay_found, is_relay_found}
use Rattle.pot_steps.proofs.rebuilding.begin.Goals as goal

pub unwrap-relay-requires : goal.unwrap-relay-requires
unwrap-relay-requires c = is_relay_found c.args.table.now c.apply.new.self c.args.job c.args.place.stripe c.args.place.column c.relay.result c.requires c.apply.ensures c.relay.ensures

pub returns-clause-flight : goal.returns-clause-flight
returns-clause-flight c = ap flight (some _ _ (sym c.unwrap-relay.ensures ∙ relay_found c.args.table.now c.apply.new.self c.args.job c.args.place.stripe c.args.place.column c.relay.result c.requires c.apply.ensures c.relay.ensures))
  where
    some : (a b : Relay) → Some a ≡ Some b → a ≡ b
    some a b e = cc

    flight : Relay → Flight
    flight r = record { relay = r; blind = c.args.blind.now; sum = c.args.blind.now }
