use Rattle.std.proofs.Common.{rules, ◌≡◌, ◌⊎◌, inr, None, refl, subst}
use Rattle.std.specs.Prelude.{Contains, IsSome}
use Rattle.pot_machine.specs.Table.{column_at}
use Rattle.pot_shelves.specs.Shelves.{numbers_of}
use Rattle.pot_group.specs.Group.{GroupParts}
use Rattle.pot_group.proofs.group.Group.in_use.Goals as goal

pub returns-then-has : goal.returns-then-has
returns-then-has g c =
    subst (λ (w : GroupParts _). (IsSome (column_at w.table c.args.column).moving × (c.args.number ≡ (column_at w.table c.args.column).home))
    ⊎ (((column_at w.table c.args.column).moving ≡ None) × Contains (numbers_of w.shelves.shelves) c.args.number × (c.args.number ≡ c.args.number))) c.self.view_is
    (inr (search rules, c.has.ensures.0 c.if-has.true, refl))
