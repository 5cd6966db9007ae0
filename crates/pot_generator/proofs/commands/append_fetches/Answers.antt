use Rattle.std.proofs.Common.{ap}
use Rattle.pot_script.specs.declared.command.Command.TheVariants as commands
use Rattle.pot_generator.specs.Generated.{name_of}
use Rattle.pot_generator.proofs.MadeLemmas.{pushed}
use Rattle.pot_generator.proofs.commands.append_fetches.Goals as goal

pub loop-place-preserved : goal.loop-place-preserved
loop-place-preserved c = pushed (λ place. commands.Fetch (name_of place)) _ _ _ c.loop-place.place _ c.loop-place.invariant c.in_ok-push.ensures.items (ap commands.Fetch c.name_of.ensures)
