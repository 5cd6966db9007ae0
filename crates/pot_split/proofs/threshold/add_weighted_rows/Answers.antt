use Rattle.std.proofs.Common.{refl}
use Rattle.pot_split.proofs.WeightedRows.{adding_begins, adding_fits, adding_goes_on, adding_ends}
use Rattle.pot_split.proofs.threshold.add_weighted_rows.Goals as goal

pub split_at-requires : goal.split_at-requires
split_at-requires c =
    rw c.loop-weight.auto.into (adding_fits _ _ _ _ _ _ _ c.loop-weight.invariant c.loop-weight-test.true)

pub loop-weight-init : goal.loop-weight-init
loop-weight-init c = adding_begins _ _ _ _ refl c.requires

pub loop-weight-preserved : goal.loop-weight-preserved
loop-weight-preserved c =
    rw (c.add_weighted.ensures, c.split_at.ensures.front, c.split_at.ensures.back, c.loop-weight.auto.into)
    (adding_goes_on _ _ _ _ _ _ _ c.loop-weight.invariant c.loop-weight-test.true)

pub returns : goal.returns
returns c = adding_ends _ _ _ _ _ _ _ c.loop-weight.invariant c.loop-weight-test.false
