use Rattle.std.proofs.Common.{◌≤◌, take}
use Rattle.std.specs.Prelude.{flat_map}
use Rattle.pot_outside.specs.Accounts.{transition}
use Rattle.pot_commands.specs.Streams.{Wrote}
use Rattle.pot_session.specs.Listing.{object_line}
use Rattle.pot_session.proofs.recovery.listing.put_objects.Given as goal

abbrev pub invariant-loop-place : goal.invariant-loop-place
invariant-loop-place g l = record {
  written : Wrote (transition g.K.Sink.account l.initial.sink l.sink) (flat_map object_line (take l.place l.found));
  later : (g.K.Sink.account.meaning l.initial.sink).faults ≤ (g.K.Sink.account.meaning l.sink).faults;
}
