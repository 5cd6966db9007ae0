use Rattle.std.proofs.Common.{sym, subst}
use Rattle.pot_machine.specs.Machine.{Legal}
use Rattle.pot_machine.specs.Rules.{IsTable}
use Rattle.pot_machine.proofs.Kept.{after_keeps}
use Rattle.pot_machine.proofs.table.GroupTable.apply.Goals as goal

pub invariant_of-self : goal.invariant_of-self
invariant_of-self c =
    subst (λ t. IsTable t) (sym c.apply.ensures)
    (after_keeps c.self.inside.parts c.args.entry.now c.self.invariant (subst (λ t. Legal t c.args.entry.now) (sym c.self.view_is) c.requires))
