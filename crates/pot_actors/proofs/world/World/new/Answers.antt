use Rattle.pot_actors.proofs.FirstLemmas.{first_is, reached_first}
use Rattle.pot_actors.proofs.world.World.new.Goals as goal

pub invariant_of-result : goal.invariant_of-result
invariant_of-result c =
    reached_first c.args.rack.now _ c.requires
    (first_is c.args.rack.now c.in_ok-groups.groups c.new-2.result c.new-3.result c.new-4.result c.new-5.result c.in_ok-groups.ensures c.new-2.ensures c.new-3.ensures.items c.new-4.ensures.items c.new-5.ensures.items)

pub returns : goal.returns
returns c = first_is c.args.rack.now c.in_ok-groups.groups c.new-2.result c.new-3.result c.new-4.result c.new-5.result c.in_ok-groups.ensures c.new-2.ensures c.new-3.ensures.items c.new-4.ensures.items c.new-5.ensures.items
