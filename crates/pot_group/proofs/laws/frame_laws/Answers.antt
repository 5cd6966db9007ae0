use Rattle.pot_group.proofs.Remains.{blocks_remain, served_kept, serving_has}
use Rattle.pot_group.proofs.laws.frame_laws.Goals as goal

pub returns : goal.returns
returns c = record {
  serving = serving_has;
  served = served_kept;
  blocks = blocks_remain;
}
