use Rattle.std.proofs.Common.{◌++◌, ◌∷◌, [], ◌+◌, length, sym, ap, ◌∙◌, arith}
use Rattle.std.proofs.lemmas.List.FromFn.{length-map-range_with_len, map-range_with_len_more}
use Rattle.pot_machine.specs.Making.{column_home}
use Rattle.pot_machine.proofs.making.columns_from.Goals as goal

pub push_reserved-requires : goal.push_reserved-requires
push_reserved-requires c =
    omega (arith, c.loop-column.columns.ok.0, ap length c.loop-column.invariant.items, length-map-range_with_len column_home c.args.first c.loop-column.column, c.loop-column.invariant.room, c.loop-column-test.true)

pub loop-column-preserved : goal.loop-column-preserved
loop-column-preserved c = record {
  items = c.push_reserved.ensures.items
      ∙ ap (λ xs. xs ++ column_home (c.args.first + c.from-in-loop-column.result) ∷ []) c.loop-column.invariant.items
      ∙ sym (map-range_with_len_more column_home c.args.first c.loop-column.column (c.args.first + c.from-in-loop-column.result) (ap (λ k. c.args.first + k) (sym c.from-in-loop-column.ensures)));
  room = omega (arith, c.loop-column.invariant.room, c.push_reserved.ensures.capacity);
}
