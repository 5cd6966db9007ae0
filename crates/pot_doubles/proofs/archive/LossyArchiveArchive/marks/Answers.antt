use Rattle.std.proofs.Common.{refl}
use Rattle.pot_doubles.proofs.LossLemmas.{remembered}
use Rattle.pot_doubles.proofs.archive.LossyArchiveArchive.marks.Goals as goal

pub returns-clause-marks : goal.returns-clause-marks
returns-clause-marks c = record { faults = c.faults.ensures; losses = (λ t. refl); past = (λ t. remembered c.args.self.now.blocks c.args.self.now.past.items c.args.self.now.kept); low = (λ t. c.args.self.now.low) }
