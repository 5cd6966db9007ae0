-- The answer to a line of a batch stands when other jobs log more.
use Rattle.std.proofs.Common.{◌≡◌, ℕ, inl, inr, List, [], ◌∷◌, ◌++◌, length, ap, sym, ◌∙◌, subst}
use Rattle.std.specs.Prelude.{Option, Some, None, IsSome, Result, Ok, Err, Contains, filter}
use Rattle.std.proofs.lemmas.List.Elements.{Contains-append_left}
use Rattle.pot_bytes.specs.declared.memory.NoMemory.{NoMemory}
use Rattle.pot_machine.specs.declared.entry.Entry.{Entry}
use Rattle.pot_machine.specs.declared.entry.Entry.TheVariants as entry
use Rattle.pot_machine.specs.Logs.{own, replayed}
use Rattle.pot_machine.specs.Table.{column_at}
use Rattle.pot_bytes.specs.declared.rack.Geometry.{Geometry}
use Rattle.pot_steps.specs.GroupStep.{skips, gone_entries}
use Rattle.pot_script.specs.declared.command.Command.{Command}
use Rattle.pot_script.specs.declared.command.Command.TheVariants as commands
use Rattle.pot_script.specs.declared.reply.Reply.{Reply}
use Rattle.pot_script.specs.declared.reply.Reply.TheVariants as replies
use Rattle.pot_replies.specs.Settings.{Setting}
use Rattle.pot_replies.specs.Jobs.{is_copied, is_move_of, EachIs}
use Rattle.pot_replies.specs.Sections.{Section, JobEntries, mine, Widens, IsOnlyIn, IsSilent}
use Rattle.pot_replies.specs.Stores.{Placed, IsLong, IsStoreRefused, IsStored, IsStoreFault, IsStoreFull, IsStoreLogFull, StopsStore}
use Rattle.pot_replies.specs.Renewals.{AllPut}
use Rattle.pot_replies.specs.Listings.{IsIndexFull}
use Rattle.pot_replies.specs.Fetches.{IsFetchAbsent}
use Rattle.pot_replies.proofs.Standing.{same_own, mine_stays, moment_stands, index_moment_stands, found_stands, mends_stand, entries_stand}
use Rattle.pot_replies.proofs.FetchStanding.{file_stands, odd_stands, lost_stands, fetch_fault_stands, fetch_log_full_stands}
use Rattle.pot_replies.proofs.RenewStanding.{renewed_stands, often_stands, often_late_stands, renew_index_full_stands, renew_fault_stands, renew_full_stands, renew_log_full_stands}
use Rattle.pot_replies.proofs.ScrubStanding.{scrubbed_stands, scrub_fault_stands, scrub_log_full_stands, repaired_stands, repair_fault_stands, repair_log_full_stands}
use Rattle.pot_store.specs.Fetches.{IsUnfinished}
use Rattle.pot_mend.specs.Moves.{EndsMove, MoveRow}
use Rattle.pot_mend.specs.declared.fault.MendFault.{MendFault}
use Rattle.pot_mend.specs.declared.fault.MendFault.TheVariants as fault
use Rattle.pot_commands.specs.declared.beginning.Task.TheVariants as task
use Rattle.pot_commands.specs.Jobs.{SaysStill}
use Rattle.pot_commands.specs.Rows.{IsStoreReply, IsFetchReply, IsRenewReply, IsScrubReply, IsRepairReply, AreReplies, IsUnrenewed, IsIdleCommand}
use Rattle.pot_commands.specs.Steps.{IsStill}
use Rattle.pot_commands.specs.Batches.{AnswersWiden}

module _ (s : Setting) (job : ℕ) (w w' : Section) (wide : Widens job w w') where
  same : mine job w ≡ mine job w'
  same = sym (mine_stays job w w' wide)

  silent_stands : IsSilent (mine job w) → IsSilent (mine job w')
  silent_stands is = subst IsSilent same is

  full_stands : (name file : List ℕ) (g : ℕ) → IsStoreFull s job name file g w → IsStoreFull s job name file g w'
  full_stands name file g is = record {
    passed = is.passed;
    stops = subst (λ (m : JobEntries). StopsStore s job name file g (skips job is.passed) m) same is.stops;
    log = is.log;
    moment = moment_stands job w w' wide g is.log is.moment;
    behind = is.behind;
    room = is.room;
  }

  log_full_stands : (name file : List ℕ) (g : ℕ) → IsStoreLogFull s job name file g w → IsStoreLogFull s job name file g w'
  log_full_stands name file g is = record {
    passed = is.passed;
    stripe = is.stripe;
    gone = is.gone;
    stops = subst (λ (m : JobEntries). StopsStore s job name file g (skips job is.passed ++ gone_entries job is.stripe is.gone) m) same is.stops;
    log = is.log;
    moment = moment_stands job w w' wide g is.log is.moment;
    full = is.full;
    next = is.next;
  }

  index_full_stands : (n : ℕ) → IsIndexFull s n job w → IsIndexFull s n job w'
  index_full_stands n is = record {
    silent = silent_stands is.silent;
    log = is.log;
    moment = index_moment_stands job w w' wide is.log is.moment;
    full = is.full;
  }

  store_stands : (name file : List ℕ) (r : Reply) → IsStoreReply s job name file r w → IsStoreReply s job name file r w'
  store_stands name file (replies.Stored of pieces shards) row = (row.0, subst (IsStored s job name file pieces shards) same row.1)
  store_stands name file (replies.Long of size) row = (row.0, row.1, subst (IsLong _) same row.2)
  store_stands name file (replies.Exists of) row = (row.0, subst (IsStoreRefused job name _) same row.1)
  store_stands name file (replies.Fault group column) row = subst (IsStoreFault s job name file group column) same row
  store_stands name file (replies.Full group) row = full_stands name file group row
  store_stands name file (replies.LogFull group) row = log_full_stands name file group row
  store_stands name file replies.IndexLogFull row = (row.0, index_full_stands 2 row.1)
  store_stands name file _ row = absurd row

  fetch_stands : (name : List ℕ) (r : Reply) → IsFetchReply s job name r w → IsFetchReply s job name r w'
  fetch_stands name (replies.File of bytes) row = (row.0, file_stands s job name _ w w' wide row.1)
  fetch_stands name (replies.Absent of) row = (row.0, subst (IsFetchAbsent job name) same row.1)
  fetch_stands name (replies.Lost of piece fragment have need) row = (row.0, (row.1.0, row.1.1, lost_stands s job name piece row.1.0 have need w w' wide row.1.2))
  fetch_stands name (replies.Odd of wanted got) row = (row.0, odd_stands _ s job name wanted got w w' wide row.1)
  fetch_stands name (replies.Fault group column) row = fetch_fault_stands s job name group column w w' wide row
  fetch_stands name (replies.LogFull group) row = fetch_log_full_stands s job name group w w' wide row
  fetch_stands name replies.IndexLogFull row = index_full_stands 1 row
  fetch_stands name _ row = absurd row

  renew_stands : (name : List ℕ) (geometry : Geometry) (r : Reply) → IsRenewReply s job name geometry r w → IsRenewReply s job name geometry r w'
  renew_stands name geometry (replies.Renewed of pieces shards) row = (row.0, renewed_stands s job name geometry pieces shards w w' wide row.1)
  renew_stands name geometry (replies.Often of) (named, inl row) = (named, inl (often_stands s job name w w' wide row))
  renew_stands name geometry (replies.Often of) (named, inr row) = (named, inr (often_late_stands s job name geometry w w' wide row))
  renew_stands name geometry (replies.Absent of) row = (row.0, subst (IsFetchAbsent job name) same row.1)
  renew_stands name geometry (replies.Lost of piece fragment have need) row = (row.0, (row.1.0, row.1.1, lost_stands s job name piece row.1.0 have need w w' wide row.1.2))
  renew_stands name geometry (replies.Odd of wanted got) row = (row.0, odd_stands _ s job name wanted got w w' wide row.1)
  renew_stands name geometry (replies.Fault group column) (inl row) = inl (fetch_fault_stands s job name group column w w' wide row)
  renew_stands name geometry (replies.Fault group column) (inr row) = inr (renew_fault_stands s job name geometry group column w w' wide row)
  renew_stands name geometry (replies.Full group) row = renew_full_stands s job name geometry group w w' wide row
  renew_stands name geometry (replies.LogFull group) (inl row) = inl (fetch_log_full_stands s job name group w w' wide row)
  renew_stands name geometry (replies.LogFull group) (inr row) = inr (renew_log_full_stands s job name geometry group w w' wide row)
  renew_stands name geometry replies.IndexLogFull (inl row) = inl (index_full_stands 1 row)
  renew_stands name geometry replies.IndexLogFull (inr row) = inr (renew_index_full_stands s job name geometry w w' wide row)
  renew_stands name geometry _ row = absurd row

  scrub_stands : (g : ℕ) (r : Reply) → IsScrubReply s job g r w → IsScrubReply s job g r w'
  scrub_stands g (replies.Scrubbed group seen gone) row = (row.0, scrubbed_stands s job g seen gone w w' wide row.1)
  scrub_stands g (replies.Fault group column) row = (row.0, scrub_fault_stands s job g column w w' wide row.1)
  scrub_stands g (replies.LogFull group) row = (row.0, scrub_log_full_stands s job g w w' wide row.1)
  scrub_stands g _ row = absurd row

  repair_stands : (g : ℕ) (r : Reply) → IsRepairReply s job g r w → IsRepairReply s job g r w'
  repair_stands g (replies.Repaired group mended left) row = (row.0, repaired_stands s job g mended left w w' wide row.1)
  repair_stands g (replies.Fault group column) row = (row.0, repair_fault_stands job g column w w' wide row.1)
  repair_stands g (replies.LogFull group) row = (row.0, repair_log_full_stands s job g w w' wide row.1)
  repair_stands g _ row = absurd row

  replies_stand : (groups : ℕ) (c : Command) (r : Reply) → IsStill groups c → AreReplies s job c (r ∷ []) w → AreReplies s job c (r ∷ []) w'
  replies_stand groups (commands.Store name file) r batched row = store_stands name file r row
  replies_stand groups (commands.Fetch name) r batched row = fetch_stands name r row
  replies_stand groups (commands.Renew name geometry) r batched row = renew_stands name geometry r row
  replies_stand groups (commands.Scrub group) r batched row = scrub_stands group r row
  replies_stand groups (commands.Repair group) r batched row = repair_stands group r row
  replies_stand groups _ r batched row = absurd batched

  -- LINES THAT HAVE NO REPLY

  unfinished_stands : (name : List ℕ) → IsUnfinished s job name w → IsUnfinished s job name w'
  unfinished_stands name (inl silent) = inl (silent_stands silent)
  unfinished_stands name (inr (kept, found, entries)) = inr (kept, found_stands job w w' wide [] s name kept found, entries_stand job w w' wide kept entries)

  put_stands : (name : List ℕ) (geometry : Geometry) (placed : List Placed) → AllPut [] s job name geometry placed w → AllPut [] s job name geometry placed w'
  put_stands name geometry placed is = record {
    kept = is.kept;
    file = is.file;
    puts = is.puts;
    fetched = record {
      found = found_stands job w w' wide [] s name is.kept is.fetched.found;
      few = is.fetched.few;
      reads = is.fetched.reads;
      own_is = λ g. same_own job w w' wide g ∙ is.fetched.own_is g;
      are_reads = is.fetched.are_reads;
      mends = λ g. mends_stand job w w' wide g (is.fetched.mends g);
      sees = is.fetched.sees;
      long = is.fetched.long;
      digest = is.fetched.digest;
    };
    of_digests = is.of_digests;
    spread = is.spread;
    puts_are = is.puts_are;
  }

  unrenewed_stands : (name : List ℕ) (geometry : Geometry) → IsUnrenewed s job name geometry w → IsUnrenewed s job name geometry w'
  unrenewed_stands name geometry (inl is) = inl (unfinished_stands name is)
  unrenewed_stands name geometry (inr (placed, is)) = inr (placed, put_stands name geometry placed is)

  idle_stands : (groups : ℕ) (c : Command) → IsStill groups c → IsIdleCommand s job c w → IsIdleCommand s job c w'
  idle_stands groups (commands.Store name file) batched is = silent_stands is
  idle_stands groups (commands.Fetch name) batched is = unfinished_stands name is
  idle_stands groups (commands.Renew name geometry) batched is = unrenewed_stands name geometry is
  idle_stands groups (commands.Scrub group) batched is = silent_stands is
  idle_stands groups (commands.Repair group) batched is = silent_stands is
  idle_stands groups _ batched is = absurd batched

-- A MOVE

ends_on : (c : ℕ) (es more : List Entry) → EndsMove c es → EndsMove c (es ++ more)
ends_on c es more (inl (by, has)) = inl (by, Contains-append_left es more (entry.MoveEnd by c) has)
ends_on c es more (inr (by, to, has)) = inr (by, to, Contains-append_left es more (entry.Swapped by c to) has)

module _ (s : Setting) (job g c : ℕ) (w w' : Section) (wide : Widens job w w') where
  only_stands : IsOnlyIn g (mine job w) → IsOnlyIn g (mine job w')
  only_stands is = subst (λ (m : JobEntries). IsOnlyIn g m) (sym (mine_stays job w w' wide)) is

  own_stands : own job (w'.added g) ≡ own job (w.added g)
  own_stands = same_own job w w' wide g

  move_stands : (result : Result ℕ MendFault) → MoveRow s job g c result w → MoveRow s job g c result w'
  move_stands (Ok slots) row = record {
    only = only_stands row.only;
    moves = subst (λ es. EachIs (is_move_of c) es) (sym own_stands) row.moves;
    slots_is = row.slots_is ∙ ap (λ es. length (filter is_copied es)) (sym own_stands);
    ends = λ moving. subst (λ es. EndsMove c es) (sym (wide.added g)) (ends_on c (w.added g) (wide.more g)
        (row.ends (subst (λ l. IsSome (column_at (replayed (s.first g) l) c).moving) (wide.before g) moving)));
  }
  move_stands (Err (fault.Faulted group column)) row = (
    row.0,
    row.1,
    record { only = only_stands row.2.only; sofar = row.2.sofar; stripe = row.2.stripe; own_is = own_stands ∙ row.2.own_is; moves = row.2.moves },
  )
  move_stands (Err (fault.LogFull group)) row = (
    row.0,
    record {
      only = only_stands row.1.only;
      moves = subst (λ es. EachIs (is_move_of c) es) (sym own_stands) row.1.moves;
      unended = λ has. row.1.unended (subst (λ es. Contains es (entry.MoveEnd job c)) own_stands has);
      log = row.1.log;
      moment = moment_stands job w w' wide g row.1.log row.1.moment;
      full = row.1.full;
    },
  )

-- EACH LINE

still_widens : (s : Setting) (groups job : ℕ) (c : Command) (answer : Option (Result Reply NoMemory)) (w w' : Section) → IsStill groups c → Widens job w w' → SaysStill s job c answer w → SaysStill s job c answer w'
still_widens s groups job c None w w' still wide says = absurd says
still_widens s groups job c (Some (Ok r)) w w' still wide says = replies_stand s job w w' wide groups c r still says
still_widens s groups job c (Some (Err e)) w w' still wide says = idle_stands s job w w' wide groups c still says

pub answers_widen : AnswersWiden
answers_widen s rack job c task.Line answer w w' fits wide says = still_widens s rack.groups job c answer w w' fits wide says
answers_widen s rack job (commands.Migrate from to) (task.Move at) None w w' fits wide says = absurd says
answers_widen s rack job (commands.Migrate from to) (task.Move at) (Some (Ok r)) w w' fits wide says = (says.0, says.1, move_stands s job at.group at.column w w' wide says.0 says.2)
answers_widen s rack job (commands.Migrate from to) (task.Move at) (Some (Err e)) w w' fits wide says = absurd says
answers_widen s rack job c (task.Told r) answer w w' fits wide says = (says.0, subst IsSilent (same s job w w' wide) says.1)
answers_widen s rack job _ (task.Move at) answer w w' fits wide says = absurd fits
