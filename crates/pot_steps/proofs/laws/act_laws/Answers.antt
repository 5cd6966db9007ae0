use Rattle.pot_steps.proofs.Acting.{act_keeps, loss_keeps_all}
use Rattle.pot_steps.proofs.laws.act_laws.Goals as goal

pub returns : goal.returns
returns c = record { act = act_keeps; loss = loss_keeps_all }
