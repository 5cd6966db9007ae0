use Rattle.std.proofs.Common.{◌++◌, ◌∷◌, [], length, map, sym, ap, ◌∙◌, arith}
use Rattle.std.specs.List.{range_with_len}
use Rattle.std.proofs.lemmas.List.FromFn.{length-map-range_with_len, map-range_with_len_more}
use Rattle.pot_machine.specs.Making.{empty_table}
use Rattle.pot_session.proofs.init.empty_tables.Goals as goal

pub push_reserved-requires : goal.push_reserved-requires
push_reserved-requires c =
    omega (arith, c.loop-group.tables.ok.0, ap length c.loop-group.invariant.tables, length-map-range_with_len (empty_table c.args.rack.now) 0 c.loop-group.group, c.loop-group.invariant.space, c.loop-group-test.true)

pub loop-group-preserved : goal.loop-group-preserved
loop-group-preserved c = record {
  space = omega (arith, c.loop-group.invariant.space, c.push_reserved.ensures.capacity);
  tables = c.push_reserved.ensures.items
      ∙ ap (λ xs. xs ++ c.in_ok-empty.field-0 ∷ []) c.loop-group.invariant.tables
      ∙ ap (λ t. map (empty_table c.args.rack.now) (range_with_len 0 c.loop-group.group) ++ t ∷ []) c.in_ok-empty.ensures
      ∙ sym (map-range_with_len_more (empty_table c.args.rack.now) 0 c.loop-group.group c.loop-group.group (omega arith));
}
