use Rattle.std.proofs.Common.{◌≡◌, ◌≤◌, take}
use Rattle.std.specs.Prelude.{flat_map}
use Rattle.std.specs.List.{list_any}
use Rattle.pot_outside.specs.Accounts.{transition}
use Rattle.pot_commands.specs.Streams.{Wrote}
use Rattle.pot_session.specs.Listing.{text_at, is_partial_at, places_in}
use Rattle.pot_session.proofs.recovery.listing.put_files.Given as goal

abbrev pub invariant-loop-place : goal.invariant-loop-place
invariant-loop-place g l = record {
  written : Wrote (transition g.K.Sink.account l.initial.sink l.sink) (flat_map (text_at l.found) (take l.place (places_in l.found)));
  partial : l.partial ≡ list_any (is_partial_at l.found) (take l.place (places_in l.found));
  later : (g.K.Sink.account.meaning l.initial.sink).faults ≤ (g.K.Sink.account.meaning l.sink).faults;
}
