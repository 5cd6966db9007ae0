use Rattle.std.proofs.Common.{length, ap, ◌/◌, ◌∙◌}
use Rattle.pot_bytes.specs.Sums.{xor}
use Rattle.pot_bytes.proofs.SumLemmas.{xor_replicate}
use Rattle.pot_bytes.proofs.WeightedLemmas.{length-sum_of}
use Rattle.pot_split.specs.Secrecy.{rows_of, meaning}
use Rattle.pot_split.proofs.secrecy.secrecy_join.Goals as goal

pub returns : goal.returns
returns c =
    let size = length c.args.out.now in
    let sum = meaning size c.args.fragments.now in
    (rw c.fill.ensures.len at c.add_rows.ensures) ∙ ap (λ z. xor z sum) (c.fill.ensures.after (λ y e. e))
    ∙ xor_replicate size sum (length-sum_of size (rows_of (length c.args.fragments.now / size) size c.args.fragments.now))
