use Rattle.pot_commands.specs.Sharing.{common_of}
use Rattle.pot_commands.proofs.BlindLemmas.{none_blinds}
use Rattle.pot_commands.proofs.answering.answer_plain.Goals as goal

pub returns-in_err-replies-in_default-clause-blinds : goal.returns-in_err-replies-in_default-clause-blinds
returns-in_err-replies-in_default-clause-blinds g c = none_blinds (common_of c.args.shared.now) _ c.args.command.now _ c.requires.can.ready.idle
