use Rattle.std.proofs.Common.{arith, ◌≡◌, ◌<◌, ℕ, false}
use Rattle.pot_image.proofs.Once.{ok_then, done_reads}
use Rattle.pot_image.proofs.Steps.{fails_then, fails_on, exits, fails_at, narrowed, barred, cut_short}
use Rattle.pot_image.specs.Heads.{geometry}
use Rattle.std.proofs.Common.{nat_le}
use Rattle.std.proofs.lemmas.Bool.{le-leb}
use Rattle.std.proofs.lemmas.Bool.Decides.{nat_tests}
use Rattle.pot_image.proofs.Once.{err_then}
use Rattle.pot_image.proofs.head.read_geometry.Goals as goal

pub returns-in_err-fragments : goal.returns-in_err-fragments
unfolding geometry
returns-in_err-fragments c = exits _ _ _ _ c.from_residual.ensures.1 (fails_then _ _ _ _ c.in_err-fragments.ensures)

pub returns-in_err-need : goal.returns-in_err-need
unfolding geometry
returns-in_err-need c = exits _ _ _ _ c.from_residual-in_err-need.ensures.1 (fails_on _ _ _ _ _ _ c.in_ok-fragments.ensures (fails_then _ _ _ _ c.in_err-need.ensures))

pub returns-in_err-shards : goal.returns-in_err-shards
unfolding geometry
returns-in_err-shards c = exits _ _ _ _ c.from_residual-in_err-shards.ensures.1 (fails_on _ _ _ _ _ _ c.in_ok-fragments.ensures (fails_on _ _ _ _ _ _ c.in_ok-need.ensures (fails_then _ _ _ _ (cut_short _ _ _ _ _ c.in_err-shards.ensures))))

above : (a b : ℕ) → b < a → nat_le a b ≡ false
above a b l = grind (arith, nat_tests)

pub returns-then-shards-groups : goal.returns-then-shards-groups
unfolding geometry
returns-then-shards-groups c = fails_at _ _ _ c.at.ensures (ok_then _ _ _ _ _ _ c.in_ok-fragments.ensures (ok_then _ _ _ _ _ _ c.in_ok-need.ensures (err_then _ _ _ _ (barred _ _ _ _ _ _ c.in_ok-shards.ensures (above _ _ c.if-shards-groups.true)))))

pub returns-in_err-blur : goal.returns-in_err-blur
unfolding geometry
returns-in_err-blur c = exits _ _ _ _ c.from_residual-in_err-blur.ensures.1 (fails_on _ _ _ _ _ _ c.in_ok-fragments.ensures (fails_on _ _ _ _ _ _ c.in_ok-need.ensures (fails_on _ _ _ _ _ _ (narrowed _ _ _ _ _ _ c.in_ok-shards.ensures (le-leb _ _ c.if-shards-groups.false)) (fails_then _ _ _ _ c.in_err-blur.ensures))))

pub returns : goal.returns
unfolding geometry
returns c = ok_then _ _ _ _ _ _ c.in_ok-fragments.ensures (ok_then _ _ _ _ _ _ c.in_ok-need.ensures (ok_then _ _ _ _ _ _ (narrowed _ _ _ _ _ _ c.in_ok-shards.ensures (le-leb _ _ c.if-shards-groups.false)) (ok_then _ _ _ _ _ _ c.in_ok-blur.ensures (done_reads _ _))))
