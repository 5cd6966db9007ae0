use Rattle.pot_index.proofs.StoryLemmas.{none_read}
use Rattle.vault_tests.proofs.vaults.vault.Goals as goal

pub start-requires-clause-records : goal.start-requires-clause-records
start-requires-clause-records c = none_read _ c.new.result.items c.new.ensures.items
