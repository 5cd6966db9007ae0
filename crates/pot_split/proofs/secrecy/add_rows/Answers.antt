use Rattle.std.proofs.Common.{refl}
use Rattle.pot_split.proofs.RowLemmas.{begins, next_fits, goes_on, ends}
use Rattle.pot_split.proofs.secrecy.add_rows.Goals as goal

pub split_at-requires : goal.split_at-requires
split_at-requires c =
    rw c.loop.auto.into (next_fits _ _ _ _ _ _ _ c.loop.invariant c.loop-test.true)

pub loop-init : goal.loop-init
loop-init c = begins _ _ _ _ refl c.requires

pub loop-preserved : goal.loop-preserved
loop-preserved c =
    rw (c.xor_into.ensures, c.split_at.ensures.front, c.split_at.ensures.back, c.loop.auto.into)
    (goes_on _ _ _ _ _ _ _ c.loop.invariant c.loop-test.true)

pub returns : goal.returns
returns c = ends _ _ _ _ _ _ _ c.loop.invariant c.loop-test.false
