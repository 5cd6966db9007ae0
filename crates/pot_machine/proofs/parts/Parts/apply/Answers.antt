use Rattle.std.proofs.Common.{subst}
use Rattle.pot_machine.specs.Machine.{Legal}
use Rattle.pot_machine.proofs.Sizes.{gave_up_range}
use Rattle.pot_machine.proofs.parts.Parts.apply.Goals as goal

pub lose-requires-in-GaveUp : goal.lose-requires-in-GaveUp
lose-requires-in-GaveUp c = gave_up_range c.args.self.now _ _ _ (subst (λ e. Legal c.args.self.now e) c.in-GaveUp.is c.requires.legal)
