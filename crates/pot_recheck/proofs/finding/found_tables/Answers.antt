use Rattle.std.proofs.Common.{◌+◌, [], take, sym, subst, arith}
use Rattle.std.proofs.lemmas.List.{length-take-le}
use Rattle.pot_recheck.specs.Finding.{AreFoundTables}
use Rattle.pot_recheck.proofs.Pairs.{tables_more, no_tables}
use Rattle.pot_recheck.proofs.finding.found_tables.Goals as goal

pub loop-group-init : goal.loop-group-init
loop-group-init c = record {
  space = omega (arith, c.in_ok-made.ensures.capacity);
  found = subst (AreFoundTables c.args.found.now []) (sym c.in_ok-made.ensures.items) (no_tables c.args.found.now);
}

pub push_reserved-requires : goal.push_reserved-requires
push_reserved-requires c =
    omega (arith, c.loop-group.made.ok.0, c.loop-group.invariant.found.count, length-take-le c.loop-group.group c.args.tables.now c.loop-group.auto.group-end, c.loop-group.invariant.space, c.loop-group-test.true)

pub loop-group-preserved : goal.loop-group-preserved
loop-group-preserved c = record {
  space = omega (arith, c.loop-group.invariant.space, c.push_reserved.ensures.capacity);
  found = subst (AreFoundTables c.args.found.now (take (c.loop-group.group + 1) c.args.tables.now)) (sym c.push_reserved.ensures.items)
      (tables_more c.args.found.now c.args.tables.now c.loop-group.made.items c.loop-group.group _ _ c.loop-group-test.true c.index-tables-group.is c.loop-group.invariant.found c.in_ok-found_table.ensures);
}
