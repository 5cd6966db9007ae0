use Rattle.std.proofs.Common.{◌++◌, ap, ◌∙◌, append_assoc}
use Rattle.std.specs.List.{flat_map, range_with_len}
use Rattle.pot_shard.proofs.BlockLemmas.{parts_more}
use Rattle.pot_audit.specs.Loose.{loose_column}
use Rattle.pot_audit.proofs.loose.add_group.Goals as goal

pub loop-column-preserved : goal.loop-column-preserved
loop-column-preserved c =
    let old = c.args.columns.now.items in
    let n = c.loop-column.column in
    let more = loose_column c.args.coalition.now.rack.now c.args.coalition.now.spots.now c.args.records.now c.args.table.now c.args.group in
    c.in_ok-add_column.ensures ∙ (ap (λ l. l ++ more n) c.loop-column.invariant ∙ (append_assoc old (flat_map more (range_with_len 0 n)) (more n) ∙ ap (λ l. old ++ l) (parts_more more n)))
