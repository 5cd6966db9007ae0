use Rattle.pot_recover.proofs.HeldLemmas.{shard_pushed, bytes_pushed}
use Rattle.pot_recover.proofs.held.push_shard.Goals as goal

pub returns-in-Ok-clause-each : goal.returns-in-Ok-clause-each
returns-in-Ok-clause-each c =
    shard_pushed c.args.bits c.args.held.now.items c.push.new.self.items c.held_of.result c.args.shard.now c.in-Ok.ensures.items c.if-shard-bits.true c.held_of.ensures.stands

pub returns-in-Ok-clause-bytes : goal.returns-in-Ok-clause-bytes
returns-in-Ok-clause-bytes c = bytes_pushed c.args.held.now.items c.push.new.self.items c.held_of.result c.in-Ok.ensures.items c.held_of.ensures.bytes
