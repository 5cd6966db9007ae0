use Rattle.std.proofs.Common.{◌<◌, List, length, subst, sym}
use Rattle.pot_machine.specs.declared.column.Column.{Column}
use Rattle.pot_group.proofs.Used.{holder_within}
use Rattle.pot_group.proofs.uses.role_in.Goals as goal

pub bounds-columns-from : goal.bounds-columns-from
bounds-columns-from c =
    subst (λ (cs : List Column). c.from.result < length cs) (sym c.columns-columns.ensures.value)
    (subst (λ n. n < length c.args.table.now.columns) (sym c.from.ensures) (holder_within c.args.table.now c.args.number c.args.column c.columns-columns.ensures.rules c.requires))
