use Rattle.std.proofs.Common.{◌≡◌, ◌<◌, ℕ, List, ◌∷◌, length, drop, get_or, replicate, ap, arith, sym, ◌∙◌, drop-cons, add-one, suc}
use Rattle.std.proofs.Math.ListN.{drop_of_length-le}
use Rattle.pot_bytes.specs.Sums.{xor, sum_of}
use Rattle.pot_bytes.proofs.SumLemmas.{xor_zero, xor_comm, xor_assoc, xor_replicate, length-zero_block}
use Rattle.pot_bytes.proofs.WeightedLemmas.{length-sum_of}
use Rattle.pot_bytes.proofs.weighted.stripe_sum.Goals as goal

pub loop-block-init : goal.loop-block-init
loop-block-init c = (
  ap (λ z. xor z (sum_of 1024 c.args.blocks.now)) c.zero-sum.ensures ∙ xor_zero (sum_of 1024 c.args.blocks.now) (length-sum_of 1024 c.args.blocks.now),
  ap length c.zero-sum.ensures ∙ length-zero_block,
)

-- one more block is in the sum
one_more : (sum item now whole : List ℕ) (bs : List (List ℕ)) (i : ℕ) → i < length bs → item ≡ get_or bs i item → now ≡ xor sum item
    → xor sum (sum_of 1024 (drop i bs)) ≡ whole → xor now (sum_of 1024 (drop (suc i) bs)) ≡ whole
one_more sum item now whole bs i lt is n before =
    ap (λ z. xor z (sum_of 1024 (drop (suc i) bs))) n ∙ xor_assoc sum item (sum_of 1024 (drop (suc i) bs))
    ∙ ap (λ z. xor sum (sum_of 1024 z)) (ap (λ z. z ∷ drop (suc i) bs) is ∙ sym (drop-cons bs i item lt)) ∙ before

pub loop-block-preserved : goal.loop-block-preserved
loop-block-preserved c = (
  rw add-one (one_more c.loop-block.sum c.block-item.result c.xor.new.self _ c.args.blocks.now c.loop-block.block-index c.loop-block-test.true c.block-item.is c.xor.ensures.value c.loop-block.invariant.0),
  c.xor.ensures.len,
)

pub returns-clause-value : goal.returns-clause-value
returns-clause-value c =
    sym (xor_replicate 1024 c.loop-block.sum (omega (arith, c.loop-block.invariant.1))) ∙ xor_comm (replicate 1024 0) c.loop-block.sum
    ∙ ap (λ z. xor c.loop-block.sum (sum_of 1024 z)) (sym (drop_of_length-le c.args.blocks.now c.loop-block-test.false)) ∙ c.loop-block.invariant.0
