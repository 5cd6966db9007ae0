use Rattle.std.proofs.Common.{refl}
use Rattle.pot_shard.proofs.ShardLemmas.{length-shard_bytes, one_shard}
use Rattle.pot_shard.proofs.shard.shard_laws.Goals as goal

pub returns-clause-written : goal.returns-clause-written
returns-clause-written c s w is = record { widths = w; shard = is; spelled = refl }

pub returns-clause-one_shard : goal.returns-clause-one_shard
returns-clause-one_shard c = one_shard

pub returns-clause-bytes : goal.returns-clause-bytes
returns-clause-bytes c = length-shard_bytes
