use Rattle.pot_chains.proofs.ListedLemmas.{in_get_or}
use Rattle.pot_recover.proofs.choices.count_choices.Goals as goal

pub choices_with-requires-clause-content : goal.choices_with-requires-clause-content
choices_with-requires-clause-content c = c.requires.contents _ (in_get_or c.loop-first.first-index c.args.contents.now _ c.loop-first-test.true)
