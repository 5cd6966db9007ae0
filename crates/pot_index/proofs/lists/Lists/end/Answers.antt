use Rattle.std.proofs.Common.{ap, ◌∙◌, sym}
use Rattle.pot_index.specs.Entries.{entries}
use Rattle.pot_index.specs.Index.{IndexView}
use Rattle.pot_index.proofs.ListLemmas.{entries-with_brought}
use Rattle.pot_index.proofs.lists.Lists.end.Goals as goal

pub returns-clause-log : goal.returns-clause-log
returns-clause-log c = sym (entries-with_brought c.self.inside.log.items _) ∙ ap (λ (v : IndexView). entries v.log) c.self.view_is
