use Rattle.std.proofs.Common.{◌≡◌, ◌*◌, ◌∙◌, arith, ap, refl}
use Rattle.sha2.specs.Sha256.{hash_after, compress}
use Rattle.sha2.proofs.Absorbing256.{hash_after_next}
use Rattle.pot_lanes.specs.Lanes.{lane, nth}
use Rattle.pot_lanes.proofs.Whole.{nth_part}
use Rattle.pot_lanes.proofs.digest.absorb.Goals as goal

pub blocks-2-init : goal.blocks-2-init
unfolding hash_after
blocks-2-init c = λ n ln. refl

pub blocks-2-preserved : goal.blocks-2-preserved
blocks-2-preserved c = λ n ln.
    let a = c.args in
    let i = c.blocks-2.i in
    rw (hash_after_next (lane n a.state.now) (nth n a.a.now a.b.now a.c.now a.d.now) i, ← c.blocks-2.invariant n ln)
    (c.compress.ensures n ln
    ∙ ap (compress (lane n c.blocks-2.state)) (nth_part n (64 * i) (i * 64) _ a.a.now a.b.now a.c.now a.d.now (omega arith) (omega arith)))

pub returns : goal.returns
returns c = λ l ln.
    let done : c.blocks-2.i ≡ c.args.count = omega arith in
    rw done at (c.blocks-2.invariant l ln)
