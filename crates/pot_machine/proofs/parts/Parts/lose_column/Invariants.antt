use Rattle.std.proofs.Common.{◌≡◌}
use Rattle.pot_machine.specs.Table.{width}
use Rattle.pot_machine.specs.Machine.{with_losses}
use Rattle.pot_machine.proofs.parts.Parts.lose_column.Given as goal

abbrev pub invariant-loop-stripe : goal.invariant-loop-stripe
invariant-loop-stripe l = record {
  now : l.self ≡ with_losses l.stripe l.fn.self l.column;
  stripes : l.self.stripes ≡ l.fn.self.stripes;
  width : width l.self ≡ width l.fn.self;
}
