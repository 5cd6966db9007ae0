use Rattle.std.proofs.Common.{map}
use Rattle.std.proofs.lemmas.Result.{on_ok_weaker}
use Rattle.pot_chains.specs.Listed.{IsIn}
use Rattle.pot_recover.specs.HeldShards.{shard_of}
use Rattle.pot_recover.proofs.HeldLemmas.{of_block}
use Rattle.pot_recover.proofs.held.push_held.Goals as goal

pub returns-in-Some-clause-each : goal.returns-in-Some-clause-each
returns-in-Some-clause-each c =
    on_ok_weaker c.push_shard.result
    (λ d. of_block c.in-Some.shard c.args.block.now c.args.bits (IsIn (map (shard_of c.args.bits) c.args.held.now.items))
    (IsIn (map (shard_of c.args.bits) c.push_shard.new.held.items)) c.in-Some.ensures d)
    c.push_shard.ensures.each
