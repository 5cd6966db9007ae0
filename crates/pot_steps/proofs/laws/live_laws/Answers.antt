use Rattle.pot_steps.proofs.ActingLive.{act_keeps_live}
use Rattle.pot_steps.proofs.Losses.{start_makes_live, entry_keeps_live, losses_keep_live}
use Rattle.pot_steps.proofs.laws.live_laws.Goals as goal

pub returns : goal.returns
returns g c = record {
  start = start_makes_live g.L.LossCount.rose;
  act = act_keeps_live g.L.LossCount.rose;
  entry = entry_keeps_live g.L.LossCount.rose;
  losses = losses_keep_live g.L.LossCount.rose g.L.LossCount.rose_later;
}
