use Rattle.std.proofs.Common.{◌*◌, ◌∙◌, min, refl, ap}
use Rattle.pot_recover.proofs.ChoiceLemmas.{product_more}
use Rattle.pot_recover.proofs.ObjectLemmas.{no_part}
use Rattle.pot_recover.proofs.choices.product.Goals as goal

pub loop-part-preserved : goal.loop-part-preserved
loop-part-preserved c =
    c.min-product.ensures
    ∙ (ap (λ x. min (c.loop-part.product * x) 4000001) c.min.ensures
    ∙ product_more c.args.parts.now c.loop-part.part-index no_part 4000001 c.loop-part.product _ c.loop-part-test.true c.loop-part.invariant refl)
