-- What worlds say of the runs of the program.
use Rattle.pot_theorem.specs.Hard.{TheHardProperty}
use Rattle.pot_theorem.specs.Sessions.{last_session}
use Rattle.pot_theorem.proofs.Fitting.{another_file}
use Rattle.pot_theorem.proofs.Reaching.{reaches}
use Rattle.pot_theorem.proofs.Standing.{places_stand, stripes_stand}
use Rattle.pot_theorem.proofs.Veiling.{homes_serve, stays_veiled}

pub the_hard_property : TheHardProperty
the_hard_property c more chain =
    let r = reaches c more chain in
    let l = last_session c more in
    record {
      world = r.world;
      stripes = stripes_stand c.first.rack r.earlier l r.world.site r.reached;
      places = λ d in_chain. places_stand c.first.rack r.earlier c more r.world.site r.reached chain.go_on d in_chain;
      veil = stays_veiled c more r.world;
      another_file = another_file c more chain r;
      serve = homes_serve c more r.world r.earlier r.reached;
    }
