-- The replies to `renew` stand when other jobs log more.
use Rattle.std.proofs.Common.{◌≡◌, ℕ, ◌+◌, ◌⊎◌, inl, inr, List, [], ◌∷◌, ◌++◌, ap, sym, ◌∙◌, subst, append_assoc}
use Rattle.std.specs.Prelude.{None}
use Rattle.pot_bytes.specs.declared.rack.Geometry.{Geometry}
use Rattle.pot_machine.specs.declared.entry.Entry.{Entry}
use Rattle.pot_machine.specs.declared.entry.Entry.TheVariants.{Fault}
use Rattle.pot_machine.specs.Table.{Table, relay_at}
use Rattle.pot_machine.specs.Logs.{replayed}
use Rattle.pot_index.specs.declared.entry.IndexEntry.TheVariants.{Renew, Often}
use Rattle.pot_index.specs.declared.entry.Logged.{Logged}
use Rattle.pot_index.specs.declared.record.Record.{Record}
use Rattle.pot_index.specs.Entries.{plain, bringing}
use Rattle.pot_index.specs.Records.{mark_of}
use Rattle.pot_steps.specs.GroupStep.{skips, gone_entries}
use Rattle.pot_replies.specs.Sections.{Section, JobEntries, NoneInGroups, Widens}
use Rattle.pot_replies.specs.Settings.{Setting}
use Rattle.pot_replies.specs.Stores.{Placed}
use Rattle.pot_replies.specs.Renewals.{Fetched, AllPut, RenewStops, IsPutFault}
use Rattle.pot_replies.specs.Laws.{RenewedStands, OftenStands, OftenLateStands, RenewIndexFullStands, RenewFaultStands, RenewFullStands, RenewLogFullStands}
use Rattle.pot_replies.proofs.Standing.{same_own, mine_stays, moment_stands, index_moment_stands, found_stands, mends_stand}

module _ (s : Setting) (job : ℕ) (name : List ℕ) (geometry : Geometry) (w w' : Section) (wide : Widens job w w') where
  fetched_stands : (behind : List Logged) (kept : Record) (file : List ℕ) (puts : ℕ → List Entry) → Fetched behind s job name geometry kept file puts w → Fetched behind s job name geometry kept file puts w'
  fetched_stands behind kept file puts is = record {
    found = found_stands job w w' wide behind s name kept is.found;
    few = is.few;
    reads = is.reads;
    own_is = λ g. same_own job w w' wide g ∙ is.own_is g;
    are_reads = is.are_reads;
    mends = λ g. mends_stand job w w' wide g (is.mends g);
    sees = is.sees;
    long = is.long;
    digest = is.digest;
  }

  all_put_stands : (behind : List Logged) (placed : List Placed) → AllPut behind s job name geometry placed w → AllPut behind s job name geometry placed w'
  all_put_stands behind placed is = record {
    kept = is.kept;
    file = is.file;
    puts = is.puts;
    fetched = fetched_stands behind is.kept is.file is.puts is.fetched;
    of_digests = is.of_digests;
    spread = is.spread;
    puts_are = is.puts_are;
  }

  abbrev stops_stand : (g : ℕ) (last : List Entry) → RenewStops s job name geometry g last w → RenewStops s job name geometry g last w'
  stops_stand g last is = record {
    kept = is.kept;
    file = is.file;
    puts = is.puts;
    fetched = fetched_stands [] is.kept is.file is.puts is.fetched;
    placed = is.placed;
    next = is.next;
    rest = is.rest;
    of_digests = is.of_digests;
    spread = is.spread;
    group = is.group;
    puts_are = is.puts_are;
    sofar = is.sofar;
    here = is.here;
    puts_here = is.puts_here;
  }

  put_fault_stands : (first : Table) (g stripe column : ℕ) → IsPutFault first job (w.before g) (w.added g) stripe column → IsPutFault first job (w'.before g) (w'.added g) stripe column
  put_fault_stands first g stripe column is = record {
    x = is.x;
    y = is.y ++ wide.more g;
    at = wide.added g ∙ (ap (λ l. l ++ wide.more g) is.at ∙ append_assoc is.x (Fault job stripe column ∷ is.y) (wide.more g));
    in_stripe = subst (λ l. stripe ≡ (replayed first (l ++ is.x)).cursor.stripe) (sym (wide.before g)) is.in_stripe;
    in_column = subst (λ l. (column ≡ (replayed first (l ++ is.x)).cursor.column) ⊎ ((q : ℕ) × (column ≡ first.data_columns + q))) (sym (wide.before g)) is.in_column;
    no_relay = subst (λ l. relay_at (replayed first (l ++ is.x)) stripe ≡ None) (sym (wide.before g)) is.no_relay;
  }

pub renewed_stands : RenewedStands
renewed_stands s job name geometry pieces shards w w' wide is = record {
  placed = is.placed;
  now = is.now;
  all = all_put_stands s job name geometry w w' wide (bringing (Renew job name (mark_of is.now)) is.now ∷ []) is.placed is.all;
  named = is.named;
  geometry_is = is.geometry_is;
  places = is.places;
  pieces_is = is.pieces_is;
  shards_is = is.shards_is;
}

pub often_stands : OftenStands
often_stands s job name w w' wide is = record {
  kept = is.kept;
  found = found_stands job w w' wide [] s name is.kept is.found;
  many = is.many;
  groups = subst (λ (m : JobEntries). NoneInGroups m) (sym (mine_stays job w w' wide)) is.groups;
}

pub often_late_stands : OftenLateStands
often_late_stands s job name geometry w w' wide is = record {
  placed = is.placed;
  all = all_put_stands s job name geometry w w' wide (plain (Often job name) ∷ []) is.placed is.all;
}

pub renew_index_full_stands : RenewIndexFullStands
renew_index_full_stands s job name geometry w w' wide is = record {
  placed = is.placed;
  all = all_put_stands s job name geometry w w' wide [] is.placed is.all;
  log = is.log;
  moment = index_moment_stands job w w' wide is.log is.moment;
  full = is.full;
}

pub renew_fault_stands : RenewFaultStands
renew_fault_stands s job name geometry g column w w' wide is = record {
  passed = is.passed;
  last = is.last;
  stops = stops_stand s job name geometry w w' wide g (skips job is.passed ++ is.last ∷ []) is.stops;
  fault = elim is.fault [
    | inl f ↦ inl (f.0, f.1, put_fault_stands s job name geometry w w' wide (s.first g) g f.0 column f.2)
    | inr u ↦ inr u
  ];
}

pub renew_full_stands : RenewFullStands
renew_full_stands s job name geometry g w w' wide is = record {
  passed = is.passed;
  stops = stops_stand s job name geometry w w' wide g (skips job is.passed) is.stops;
  log = is.log;
  moment = moment_stands job w w' wide g is.log is.moment;
  behind = is.behind;
  room = is.room;
}

pub renew_log_full_stands : RenewLogFullStands
renew_log_full_stands s job name geometry g w w' wide is = record {
  passed = is.passed;
  stripe = is.stripe;
  gone = is.gone;
  stops = stops_stand s job name geometry w w' wide g (skips job is.passed ++ gone_entries job is.stripe is.gone) is.stops;
  log = is.log;
  moment = moment_stands job w w' wide g is.log is.moment;
  full = is.full;
  next = is.next;
}
