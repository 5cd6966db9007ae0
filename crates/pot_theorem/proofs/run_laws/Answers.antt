use Rattle.pot_theorem.proofs.Closing.{runs_close, runs_reply}
use Rattle.pot_theorem.proofs.run_laws.Goals as goal

pub returns : goal.returns
returns c = record { closes = runs_close; reply = runs_reply }
