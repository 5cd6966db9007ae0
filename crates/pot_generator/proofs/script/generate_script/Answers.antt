use Rattle.std.proofs.Common.{◌∙◌}
use Rattle.pot_generator.proofs.StepLemmas.{reads_generated}
use Rattle.pot_generator.proofs.script.generate_script.Goals as goal

pub returns-clause-reads : goal.returns-clause-reads
returns-clause-reads c =
    reads_generated c.args.number c.write_script.result c.deref.result.now (c.deref.ensures.value ∙ c.in_ok-steps.ensures) c.write_script.ensures.text c.write_script.ensures.reads
