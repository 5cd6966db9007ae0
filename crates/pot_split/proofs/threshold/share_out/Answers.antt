use Rattle.std.proofs.Common.{◌∙◌}
use Rattle.pot_split.proofs.ShareLemmas.{shared}
use Rattle.pot_split.proofs.threshold.share_out.Goals as goal

pub returns : goal.returns
returns c =
    c.add_weighted_rows.ensures
    ∙ shared c.args.content.now c.args.coefficients.now c.powers_of-powers.result c.copy_from_slice.new.self c.args.point (λ k. (c.type_inv.content k).fits)
    c.requires.some c.requires.rows c.requires.few c.powers_of-powers.ensures.len c.powers_of-powers.ensures.values c.copy_from_slice.ensures.after
