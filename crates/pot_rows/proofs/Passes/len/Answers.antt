use Rattle.pot_rows.proofs.PassLemmas.{as_long, all_known}
use Rattle.pot_rows.proofs.Passes.len.Goals as goal

pub returns-clause-long : goal.returns-clause-long
returns-clause-long g c = as_long c.self.inside.passes.items c.args.self.now c.self.view_is

pub returns-clause-known : goal.returns-clause-known
returns-clause-known g c = all_known c.self.inside.passes.items c.args.self.now c.self.view_is
