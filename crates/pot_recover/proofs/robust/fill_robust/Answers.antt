use Rattle.std.proofs.Common.{◌∙◌, arith, refl}
use Rattle.std.proofs.lemmas.List.{length-set}
use Rattle.pot_recover.proofs.RobustLemmas.{robust_more}
use Rattle.pot_recover.proofs.robust.fill_robust.Goals as goal

pub returns-in-None-clause-none : goal.returns-in-None-clause-none
returns-in-None-clause-none c = λ is. (c.loop-k.k, c.loop-k-test.true, c.in-None.ensures.none refl)

pub loop-k-preserved : goal.loop-k-preserved
loop-k-preserved c =
    let r = c.requires in
    let i = c.loop-k.invariant in
    record {
      size = length-set c.loop-k.into c.loop-k.k c.in-Some.byte ∙ i.size;
      below = robust_more c.args.need c.args.ring.now r.some r.enough r.points r.few r.bytes c.args.start c.loop-k.k c.in-Some.byte c.loop-k.into (omega (arith, c.loop-k-test.true, i.size)) c.in-Some.ensures.found i.below;
    }
