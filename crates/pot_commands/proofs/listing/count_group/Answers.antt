use Rattle.std.proofs.Common.{refl}
use Rattle.std.specs.Prelude.{Ok, Err}
use Rattle.pot_commands.proofs.LineLemmas.{line_counted}
use Rattle.pot_commands.proofs.listing.count_group.Goals as goal

pub returns-in-Ok-clause-counts : goal.returns-in-Ok-clause-counts
returns-in-Ok-clause-counts g c = line_counted _ _ _ (Ok c.in-Ok.counts) _ _ _ refl c.in-Ok.ensures.call

pub returns-in-Err-clause-counts : goal.returns-in-Err-clause-counts
returns-in-Err-clause-counts g c = line_counted _ _ _ (Err c.in-Err.field-0) _ _ _ refl c.in-Err.ensures.call
