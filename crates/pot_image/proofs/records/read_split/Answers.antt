use Rattle.pot_image.proofs.Once.{ok_then, done_reads}
use Rattle.pot_image.proofs.Steps.{fails_then, fails_on, exits}
use Rattle.pot_image.specs.Records.{split}
use Rattle.pot_image.proofs.HeadRules.{geometry_kept}
use Rattle.pot_image.proofs.records.read_split.Goals as goal

pub returns-in_err-geometry-clause-reads : goal.returns-in_err-geometry-clause-reads
unfolding split
returns-in_err-geometry-clause-reads c = exits _ _ _ _ c.from_residual.ensures.1 (fails_then _ _ _ _ c.in_err-geometry.ensures)

pub returns-in_err-places-clause-reads : goal.returns-in_err-places-clause-reads
unfolding split
returns-in_err-places-clause-reads c = exits _ _ _ _ c.from_residual-in_err-places.ensures.1 (fails_on _ _ _ _ _ _ c.in_ok-geometry.ensures (fails_then _ _ _ _ c.in_err-places.ensures.reads))

pub read_places-requires-clause-geometry : goal.read_places-requires-clause-geometry
read_places-requires-clause-geometry c = (geometry_kept _ _ _ _ c.in_ok-geometry.ensures).limits

pub returns-clause-reads : goal.returns-clause-reads
unfolding split
returns-clause-reads c = ok_then _ _ _ _ _ _ c.in_ok-geometry.ensures (ok_then _ _ _ _ _ _ c.in_ok-places.ensures.reads (done_reads _ _))
