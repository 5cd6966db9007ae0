use Rattle.std.proofs.Common.{[]}
use Rattle.pot_generator.specs.Generated.{byte_of}
use Rattle.pot_generator.proofs.MadeLemmas.{pushed}
use Rattle.pot_generator.proofs.files.file_of.Goals as goal

pub loop-at-preserved : goal.loop-at-preserved
loop-at-preserved c = pushed (byte_of c.args.number c.args.place) [] _ _ c.loop-at.at _ c.loop-at.invariant c.in_ok-push.ensures.items c.byte_of.ensures
