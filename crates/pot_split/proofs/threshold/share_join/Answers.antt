use Rattle.std.proofs.Common.{subst, sym, ◌∙◌, ap, replicate, length, ◌*◌}
use Rattle.pot_split.specs.Threshold.{IsJoin}
use Rattle.pot_split.proofs.ShareLemmas.{joined}
use Rattle.pot_split.proofs.threshold.share_join.Goals as goal

pub returns : goal.returns
returns c =
    subst (IsJoin c.args.points.now c.args.shares.now) (sym c.add_weighted_rows.ensures)
    (joined c.args.points.now c.weights_of-weights.result c.args.shares.now c.fill.new.self (λ k. (c.type_inv.points k).fits) c.requires.distinct c.requires.few
    c.weights_of-weights.ensures.len c.weights_of-weights.ensures.values
    (c.requires.rows ∙ ap (λ n. length c.args.points.now * n) (sym c.fill.ensures.len))
    (c.fill.ensures.after (λ y e. e) ∙ ap (λ n. replicate n 0) (sym c.fill.ensures.len)))
