use Rattle.pot_shelves.proofs.TouchLemmas.{digest_tells}
use Rattle.pot_shelves.proofs.archives.has_digest.Goals as goal

pub returns : goal.returns
returns c = digest_tells c.args.block.now c.bytes.result.now _ c.args.digest c.eq.result c.bytes.ensures.value c.digest_of.ensures c.eq.ensures
