use Rattle.pot_promises.proofs.Faulting.{faults_are_counted}
use Rattle.pot_promises.proofs.fault_laws.Goals as goal

pub returns : goal.returns
returns c = faults_are_counted
