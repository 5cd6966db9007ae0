use Rattle.std.proofs.Common.{ap, arith}
use Rattle.pot_machine.specs.Table.{width}
use Rattle.pot_machine.proofs.Sizes.{width-with_losses}
use Rattle.pot_machine.proofs.parts.Parts.swap.Goals as goal

pub set_column-requires : goal.set_column-requires
set_column-requires c = omega (arith, ap width c.lose_column.ensures, width-with_losses c.args.self.now.stripes c.args.self.now c.args.column)
