use Rattle.std.proofs.Common.{subst}
use Rattle.pot_script.specs.Parts.{Prints}
use Rattle.pot_script.proofs.Texts.{group_line}
use Rattle.pot_script.proofs.printing.print_group.Goals as goal

pub returns : goal.returns
returns c =
    subst (λ text. Prints c.args.out.now c.append_parts.new.out c.append_parts.result text)
    (group_line c.from.result c.from-2.result c.from-3.result c.from-4.result c.from-5.result c.from-6.result c.args.group c.args.live c.args.lost c.args.broken c.args.stripe c.args.column
    c.from.ensures c.from-2.ensures c.from-3.ensures c.from-4.ensures c.from-5.ensures c.from-6.ensures)
    c.append_parts.ensures
