use Rattle.std.proofs.Common.{None, sym, subst}
use Rattle.pot_actors.specs.Seats.{IsTold}
use Rattle.pot_actors.proofs.FetchLemmas.{told_none}
use Rattle.pot_actors.proofs.seat.Seat.find.Goals as goal

pub invariant_of-self : goal.invariant_of-self
invariant_of-self c = subst (λ g. IsTold c.args.found g None) (sym c.new.ensures.items) (told_none c.args.found c.requires)
