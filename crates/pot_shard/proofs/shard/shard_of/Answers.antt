use Rattle.std.proofs.Common.{◌≡◌, IsTrue, false, sym, subst, refl, ap, ◌∙◌}
use Rattle.pot_shard.specs.Shards.{shard_bytes, HasWidths, HasShardFrame, IsShard}
use Rattle.pot_shard.proofs.ShardLemmas.{shard_at-block, shard_bytes-shard_at, HasWidths-shard_at, IsFramed-shard_bytes}
use Rattle.pot_shard.proofs.shard.shard_of.Goals as goal
use Rattle.pot_shard.proofs.shard.shard_of.Goals.{else-is_framed-via-then-is_framed+else-is_shard, else-is_framed-via-else-is_framed}

pub returns-then-is_shard : goal.returns-then-is_shard
returns-then-is_shard c =
    let bytes = c.args.bytes.now in
    let here = c.shard_in-shard.ensures in
    record {
      widths = subst HasWidths (sym here) (HasWidths-shard_at bytes c.fits-bytes c.told-bytes);
      shard = c.if-is_shard.ensures.0 refl;
      spelled = sym (shard_bytes-shard_at bytes c.fits-bytes c.told-bytes (c.if-is_framed.ensures.0 refl)) ∙ ap shard_bytes (sym here);
    }

pub returns-else-is_framed : goal.returns-else-is_framed
returns-else-is_framed c s is =
    let bytes = c.args.bytes.now in
    let same : s ≡ c.shard_in-shard.result = sym (shard_at-block s bytes is) ∙ sym c.shard_in-shard.ensures in
    elim c.else-is_framed.branch [
      | else-is_framed-via-then-is_framed+else-is_shard w ↦
          let yes : IsTrue false = w.if-is_shard.ensures.1 (subst IsShard same is.shard) in
          cc
      | else-is_framed-via-else-is_framed w ↦
          let yes : IsTrue false = w.if-is_framed.ensures.1 (subst HasShardFrame (sym is.spelled) (IsFramed-shard_bytes s)) in
          cc
    ]
