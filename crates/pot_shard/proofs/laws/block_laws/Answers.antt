use Rattle.pot_shard.proofs.LinkLemmas.{rings_law, shards_law}
use Rattle.pot_shard.proofs.BlockLemmas.{piece_of_blocks}
use Rattle.pot_shard.proofs.laws.block_laws.Goals as goal

pub returns-clause-pieces : goal.returns-clause-pieces
returns-clause-pieces c = piece_of_blocks

pub returns-clause-shards : goal.returns-clause-shards
returns-clause-shards c = shards_law

pub returns-clause-rings : goal.returns-clause-rings
returns-clause-rings c = rings_law
