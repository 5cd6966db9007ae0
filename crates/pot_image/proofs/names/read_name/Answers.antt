use Rattle.std.proofs.Common.{refl}
use Rattle.pot_image.proofs.Steps.{fails_at}
use Rattle.pot_image.proofs.NameRules.{no_name, a_name, cut_name}
use Rattle.pot_image.proofs.names.read_name.Goals as goal

pub returns-then-bytes-count-clause-reads : goal.returns-then-bytes-count-clause-reads
returns-then-bytes-count-clause-reads c = fails_at _ _ _ c.at.ensures (cut_name _ _ _ _ c.from-count.ensures c.if-bytes-count.true)

pub returns-in-None-clause-reads : goal.returns-in-None-clause-reads
returns-in-None-clause-reads c = fails_at _ _ _ c.at-in-None.ensures (no_name _ _ _ _ c.from-count.ensures c.requires.some c.requires.few c.if-bytes-count.false refl c.in-None.ensures)

pub returns-in-Some-clause-reads : goal.returns-in-Some-clause-reads
returns-in-Some-clause-reads c = a_name _ _ _ _ _ c.from-count.ensures c.if-bytes-count.false refl c.in-Some.ensures
