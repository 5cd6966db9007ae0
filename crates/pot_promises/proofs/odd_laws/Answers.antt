use Rattle.pot_promises.proofs.Odds.{never_odd, odd_reads}
use Rattle.pot_promises.proofs.OddsLater.{never_odd_later}
use Rattle.pot_promises.proofs.OddsMade.{never_odd_renewed, never_odd_renewed_later, never_odd_together, renewed_shows}
use Rattle.pot_promises.proofs.odd_laws.Goals as goal

pub returns : goal.returns
returns c = record {
  odd_reads = odd_reads;
  never_odd = never_odd;
  never_odd_later = never_odd_later;
  together = never_odd_together;
  renewed_shows = renewed_shows;
  renewed = never_odd_renewed;
  renewed_later = never_odd_renewed_later;
}
