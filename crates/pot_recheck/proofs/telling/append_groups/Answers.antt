use Rattle.std.proofs.Common.{◌++◌, ap, ◌∙◌, refl, arith}
use Rattle.pot_recheck.specs.Telling.{count_in, group_line}
use Rattle.pot_recheck.proofs.Rows.{rows_more, rows_end}
use Rattle.pot_recheck.proofs.telling.append_groups.Goals as goal

pub loop-group-preserved : goal.loop-group-preserved
loop-group-preserved c =
    rows_more (λ g. group_line g (count_in c.args.found.now g)) c.loop-group.group _ _ _ _ c.loop-group.invariant
    (c.in_ok-append_group.ensures ∙ ap (λ n. c.loop-group.text.items ++ group_line c.loop-group.group n) c.count_in.ensures) refl

pub returns : goal.returns
returns c =
    rows_end (λ g. group_line g (count_in c.args.found.now g)) c.loop-group.group 16 _ _ c.loop-group.invariant (omega (arith, c.loop-group-test.false, c.loop-group.auto.group-end))
