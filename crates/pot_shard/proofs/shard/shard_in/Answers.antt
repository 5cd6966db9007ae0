use Rattle.pot_shard.proofs.ShardLemmas.{made, shard_at-read}
use Rattle.pot_shard.proofs.shard.shard_in.Goals as goal

pub returns : goal.returns
unfolding made
returns c =
    shard_at-read c.args.bytes.now c.copy_from_slice.new.self c.read_u64.result c.read_u64-2.result c.read_u64.ensures c.read_u64-2.ensures
    c.copy_from_slice.ensures.after
