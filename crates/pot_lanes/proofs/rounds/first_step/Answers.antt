use Rattle.std.proofs.Common.{refl, sym}
use Rattle.sha2.proofs.Schedule256.{rounds_first}
use Rattle.pot_lanes.specs.Lanes.{lane, window}
use Rattle.pot_lanes.proofs.Four.{in_window}
use Rattle.pot_lanes.proofs.rounds.first_step.Goals as goal

pub returns : goal.returns
returns c = λ l lt b h ready held.
    rounds_first b h (window l c.args.w.now) (lane l c.args.v) c.args.t _ _ _ c.requires ready held refl
    (sym (in_window l c.args.w.now c.args.t)) (c.round.ensures l lt)
