use Rattle.std.proofs.Common.{◌≡◌, ◌∙◌, ap, sym, arith, drop, length, length-drop}
use Rattle.std.proofs.lemmas.List.{take_all}
use Rattle.pot_shard.specs.declared.shard.Shard.{Shard}
use Rattle.pot_shard.proofs.ShardLemmas.{shard_at-block}
use Rattle.pot_recover.proofs.held.held_of.Goals as goal

pub held_with-requires : goal.held_with-requires
held_with-requires c =
    let whole : length (drop 32 c.args.block.now) ≡ 992 = omega (arith, length-drop 32 c.args.block.now, c.bytes.ensures.len) in
    sym (ap (λ l. borrow.Rule.Slice.PartMut.mid_of 32 992 l) c.bytes.ensures.value
    ∙ (take_all 992 (drop 32 c.args.block.now) (omega (arith, whole))
    ∙ ap (λ (s : Shard). s.share) (shard_at-block c.args.shard.now c.args.block.now c.requires)))
