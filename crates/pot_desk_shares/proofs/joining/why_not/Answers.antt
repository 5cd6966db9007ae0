use Rattle.std.proofs.Common.{length, ap}
use Rattle.pot_desk_shares.proofs.GiveLemmas.{few_told, none_told}
use Rattle.pot_desk_shares.proofs.joining.why_not.Goals as goal

pub returns-in_ok-points-in-Some : goal.returns-in_ok-points-in-Some
returns-in_ok-points-in-Some c =
    few_told c.args.shares.now c.in-Some.head c.in_ok-points-in-Some.points.items (length c.as_slice.result.now) c.requires
    c.in-Some.ensures c.in_ok-points-in-Some.ensures (ap length c.as_slice.ensures.value)

pub returns-in-None : goal.returns-in-None
returns-in-None c = none_told c.args.shares.now c.in-None.ensures
