use Rattle.pot_image.specs.Reading.{reading}
use Rattle.std.proofs.Common.{ap, ◌∙◌}
use Rattle.pot_image.proofs.Once.{done_reads}
use Rattle.pot_image.specs.Logs.{entry_of}
use Rattle.pot_image.proofs.entries.read_entry_of.Goals as goal

pub returns-in-17 : goal.returns-in-17
unfolding entry_of
returns-in-17 c = ap (λ k. reading (entry_of c.args.rack.now c.args.job k) c.args.bytes.now) c.in-17.is ∙ done_reads _ _
