use Rattle.std.proofs.Common.{◌≤◌, take}
use Rattle.std.specs.Prelude.{flat_map}
use Rattle.pot_outside.specs.Accounts.{transition}
use Rattle.pot_commands.specs.Streams.{Wrote}
use Rattle.pot_session.specs.Listing.{least_of, part_of, pieces_in}
use Rattle.pot_session.proofs.recovery.listing.put_parts.Given as goal

abbrev pub invariant-loop-piece : goal.invariant-loop-piece
invariant-loop-piece g l = record {
  written : Wrote (transition g.K.Sink.account l.initial.sink l.sink) (flat_map (λ piece. part_of (least_of l.found l.object piece)) (take l.piece (pieces_in l.object)));
  later : (g.K.Sink.account.meaning l.initial.sink).faults ≤ (g.K.Sink.account.meaning l.sink).faults;
}
