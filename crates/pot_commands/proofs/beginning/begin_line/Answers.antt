use Rattle.pot_shared.specs.Works.{known}
use Rattle.pot_commands.proofs.AnswerLemmas.{stayed_worked}
use Rattle.pot_commands.proofs.BeginLemmas.{still_line, still_silent, still_took}
use Rattle.pot_commands.proofs.beginning.begin_line.Goals as goal

pub returns-in_default-clause-worked : goal.returns-in_default-clause-worked
returns-in_default-clause-worked g c = stayed_worked c.args.shared.now.vault.now.rack c.args.shared.now.vault.now.groups c.args.shared.now.vault.now.index c.args.job _ _ c.requires.can.ready c.requires.can.index_ready

pub returns-in_default-clause-task : goal.returns-in_default-clause-task
returns-in_default-clause-task g c = still_line _ _ c.requires.batched c.in_default.not-Migrate

pub returns-in_default-clause-says : goal.returns-in_default-clause-says
returns-in_default-clause-says g c = λ alone s set its. still_silent c.args.job (known c.args.passes.now.groups c.args.passes.now.index)

pub returns-in_default-clause-took : goal.returns-in_default-clause-took
returns-in_default-clause-took g c = still_took _ _ _ _ _
