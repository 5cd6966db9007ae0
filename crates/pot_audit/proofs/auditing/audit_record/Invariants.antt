use Rattle.pot_object.specs.Pieces.{pieces_of}
use Rattle.pot_index.specs.Records.{splits_of}
use Rattle.pot_audit.proofs.Adding.{AreVeilsUpto}
use Rattle.pot_audit.proofs.auditing.audit_record.Given as goal

abbrev pub invariant-loop-number : goal.invariant-loop-number
invariant-loop-number l = AreVeilsUpto l.rack l.coalition.spots.now (splits_of l.kept) (pieces_of l.kept.length) l.number l.veils.items
