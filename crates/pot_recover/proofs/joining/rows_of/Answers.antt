use Rattle.pot_chains.proofs.ListedLemmas.{in_get_or}
use Rattle.pot_recover.proofs.joining.rows_of.Goals as goal

pub push_piece-requires-clause-whole : goal.push_piece-requires-clause-whole
push_piece-requires-clause-whole c = c.requires.whole _ (in_get_or c.loop-held.held-index c.args.chain.now _ c.loop-held-test.true)
