use Rattle.std.proofs.Common.{add-one, subst, arith, sym, ◌≡◌, ◌+◌, suc, get_or, ◌∙◌}
use Rattle.std.proofs.lemmas.List.{get_or_default}
use Rattle.pot_bytes.specs.Sums.{zero_block}
use Rattle.pot_steps.proofs.BlockLemmas.{IsBlock-zero_block}
use Rattle.pot_bytes.specs.Lists.{IsBlock}
use Rattle.pot_steps.specs.Decides.{Computed}
use Rattle.pot_rebuild.specs.Rebuilding.{column_of}
use Rattle.pot_rebuild.proofs.RebuiltLemmas.{IsSummed, is_rebuilt, summed_none, summed_more, summed_target}
use Rattle.pot_rebuild.proofs.rebuilding.rebuilt.Goals as goal
use Rattle.pot_rebuild.proofs.rebuilding.rebuilt.Goals.{then-column-target, else-column-target}

pub loop-column-init : goal.loop-column-init
loop-column-init c = summed_none c.args.data_columns c.args.target c.args.out c.args.blocks.now c.zero-sum.result (subst IsBlock (sym c.zero-sum.ensures) IsBlock-zero_block) c.zero-sum.ensures

pub loop-column-preserved : goal.loop-column-preserved
loop-column-preserved c = rw add-one (elim c.if-column-target.branch [
  | then-column-target w ↦ subst (IsSummed c.args.data_columns c.args.target c.args.out c.args.blocks.now (suc c.loop-column.column)) (sym w.sum-is)
      (summed_more c.args.data_columns c.args.target c.args.out c.args.blocks.now c.loop-column.column c.loop-column.sum w.add.new.sum w.index-blocks-from.result
      c.times_of-first.result.0 c.times_of-first.result.1 c.times_of-first.ensures.first c.times_of-first.ensures.second w.if-column-target.true
      (subst (λ n. w.index-blocks-from.result ≡ get_or c.args.blocks.now n zero_block) w.from.ensures
      (w.index-blocks-from.is ∙ get_or_default c.args.blocks.now w.from.result w.index-blocks-from.result zero_block (omega (arith, c.requires.all, w.from.ensures, c.loop-column-test.true))))
      w.add.ensures c.loop-column.invariant)
  | else-column-target w ↦ subst (IsSummed c.args.data_columns c.args.target c.args.out c.args.blocks.now (suc c.loop-column.column)) (sym w.sum-is)
      (summed_target c.args.data_columns c.args.target c.args.out c.args.blocks.now c.loop-column.column c.loop-column.sum w.if-column-target.false c.loop-column.invariant)
])

pub returns-clause-rebuilt : goal.returns-clause-rebuilt
returns-clause-rebuilt c = is_rebuilt c.args.data_columns c.args.parity c.args.target c.args.out c.args.blocks.now c.loop-column.sum c.requires.fits c.requires.apart
    (subst (λ n. IsSummed c.args.data_columns c.args.target c.args.out c.args.blocks.now n c.loop-column.sum → Computed c.args.data_columns c.args.parity c.args.target c.args.out (column_of c.args.blocks.now) c.loop-column.sum)
    at_end (λ h. record { block = h.whole; bytes = h.bytes }) c.loop-column.invariant)
  where
    at_end : c.args.data_columns + c.args.parity ≡ c.loop-column.column
    at_end = omega (arith, c.loop-column-test.false, c.loop-column.auto.column-end)
