use Rattle.pot_recover.proofs.RobustLemmas.{share_whole}
use Rattle.pot_recover.proofs.robust.bytes_at.Goals as goal

pub push_byte-requires-clause-whole : goal.push_byte-requires-clause-whole
push_byte-requires-clause-whole c = share_whole c.args.ring.now c.loop-held.held-index _ c.requires.whole c.loop-held-test.true
