use Rattle.std.proofs.Common.{sym, subst}
use Rattle.pot_machine.specs.Rules.{IsTable}
use Rattle.pot_machine.proofs.Empty.{empty_is_table}
use Rattle.pot_machine.proofs.table.GroupTable.empty.Goals as goal

pub invariant_of-result : goal.invariant_of-result
invariant_of-result c = subst (λ t. IsTable t) (sym c.in_ok-parts.ensures) (empty_is_table c.args.rack.now c.args.group c.requires.rack)
