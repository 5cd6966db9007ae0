-- The answers of a store, by what each of its calls logged.
use Rattle.std.proofs.Common.{◌≡◌, ◌≢◌, ◌<◌, ◌≤◌, ◌⊎◌, inl, inr, ⊎_elim, ℕ, zero, suc, ◌+◌, List, [], ◌∷◌, ◌++◌, length, refl, ap, sym, ◌∙◌, subst, arith, append-nil, append_assoc, take, drop}
use Rattle.std.specs.Prelude.{Option, Some, None, Result, Ok, Err, IfSome, map, filter, slice_get}
use Rattle.std.proofs.lemmas.List.{map-append, length-map}
use Rattle.std.proofs.lemmas.Option.{same_Some}
use lib.Seq.{drop-length}
use Rattle.pot_bytes.specs.Digests.{digest_bytes, digest_of}
use Rattle.pot_bytes.specs.Lists.{AreBytes}
use Rattle.pot_bytes.specs.declared.rack.Place.{Place}
use Rattle.pot_bytes.specs.declared.rack.Rack.{Rack}
use Rattle.pot_bytes.specs.Rack.{log_bound}
use Rattle.pot_machine.specs.declared.entry.Entry.{Entry}
use Rattle.pot_machine.specs.declared.entry.Entry.TheVariants as machine
use Rattle.pot_machine.specs.Table.{Table}
use Rattle.pot_machine.specs.Logs.{own, replayed}
use Rattle.pot_object.specs.Pieces.{longest, pieces_of}
use Rattle.pot_pads.specs.Pads.{Pads}
use Rattle.pot_steps.specs.GroupStep.{Passed, skips, gone_entries}
use Rattle.pot_group.specs.declared.answers.PutFault.{PutFault}
use Rattle.pot_group.specs.declared.answers.PutFault.TheVariants as put_fault
use Rattle.pot_index.specs.declared.entry.IndexEntry.TheVariants as entry
use Rattle.pot_index.specs.declared.entry.Logged.{Logged}
use Rattle.pot_index.specs.declared.fault.ReserveFault.{ReserveFault}
use Rattle.pot_index.specs.declared.fault.ReserveFault.TheVariants as reserve_fault
use Rattle.pot_index.specs.Ending.{EndsAt}
use Rattle.pot_index.specs.Entries as index
use Rattle.pot_index.specs.Entries.{plain, bringing, entries}
use Rattle.pot_index.specs.Index.{IndexView, names_read}
use Rattle.pot_index.specs.Fits.{FitsPlace, group_of}
use Rattle.pot_index.specs.Records.{mark_of}
use Rattle.pot_turn.specs.declared.name.TurnName.{TurnName}
use Rattle.pot_worked.specs.WroteOnlyFor.{added}
use Rattle.pot_worked.specs.Laws.{AllOf}
use Rattle.pot_rows.specs.Rows.{view_at}
use Rattle.pot_rows.specs.Works.{AllIdle, RowWroteOnlyFor, RowOnlyWriterOf}
use Rattle.pot_rows.proofs.WorkLemmas.{row_work_in_parts, row_alone_in_parts}
use Rattle.pot_replies.specs.Settings.{Setting}
use Rattle.pot_replies.specs.Sections.{mine, IsSilent, LogPoint, names_after}
use Rattle.pot_replies.specs.Renewals.{IsPutFault}
use Rattle.pot_replies.specs.Stores.{Placed, Puts, IsStored, IsStoreFault, IsStoreFull, IsStoreLogFull, IsUnkept, StopsStore, in_group, place_of}
use Rattle.pot_shared.specs.declared.member.GroupOrigin.{GroupOrigin}
use Rattle.pot_shared.specs.Members.{entries_of}
use Rattle.pot_shared.specs.Ready.{GroupPasses}
use Rattle.pot_shared.specs.Catalogs.{IndexPasses, IsIndexReady}
use Rattle.pot_shared.specs.IndexCalls.{IndexCall, ReservesName}
use Rattle.pot_shared.specs.Works.{of_job, gained, Known, known, JobWroteOnly, JobOnlyWriter, section_of, IsSettingOf}
use Rattle.pot_store.specs.Puts.{EndsFull, EndsLogFull, PutsEnd}
use Rattle.pot_store.specs.Stores.{StoreRow, DrawsFrom, drawn_blocks, record_of, fault_of}
use Rattle.pot_store.specs.declared.storing.StoreFault.TheVariants as fault
use Rattle.pot_shared.proofs.WorkLemmas.{gained_none, row_stays, index_idle, index_work, index_own, index_own_more}
use Rattle.pot_store.proofs.IndexLemmas.{names_to, reserve_entries, reserve_adds, all_reserve, index_added, index_seen, none_in, not_ended}

-- NOTHING WAS LOGGED

pub stays : (job : ℕ) (k : Known) → AllIdle k.groups → AllIdle k.index → JobWroteOnly job k k
stays job k idle index_idle = record { groups = row_stays (of_job job) k.groups idle; index = row_stays (index.is_of job) k.index index_idle }

pub silent : (job : ℕ) (k : Known) → IsSilent (mine job (section_of k k))
silent job k = (λ g. ap (own job) (gained_none k.groups g), ap (index.own job) (drop-length (view_at k.index 0).seen))

-- THE NAME

module _ (job : ℕ) (name : List ℕ) (rack : Rack) (names turn : List TurnName) (g0 : GroupPasses) (i0 i1 : IndexPasses) (result : Result (Unit {0}) ReserveFault)
    (idle : AllIdle g0) (ready : IsIndexReady rack names turn i0) (call : IndexCall (ReservesName job name result) i0 i1) where
  its_reserve : call.turn.entries ≡ reserve_entries job name result
  its_reserve = reserve_adds job name result call.turn.old call.turn.new call.turn.entries call.turn.call call.turn.log

  pub reserve_work : RowWroteOnlyFor (index.is_of job) i0 i1
  reserve_work = index_work job rack names turn (ReservesName job name result) i0 i1 ready call (all_reserve job name result call.turn.old call.turn.new call.turn.entries call.turn.call call.turn.log)

  pub reserve_own : RowOnlyWriterOf (index.is_of job) i0 i1 → index.own job (added (view_at i0 0) (view_at i1 0)) ≡ reserve_entries job name result
  reserve_own alone =
      index_own job rack names turn (ReservesName job name result) i0 i1 ready call (all_reserve job name result call.turn.old call.turn.new call.turn.entries call.turn.call call.turn.log) alone ∙ its_reserve

  pub reserve_job : JobWroteOnly job (known g0 i0) (known g0 i1)
  reserve_job = record { groups = row_stays (of_job job) g0 idle; index = reserve_work }

  none_in_groups : (g : ℕ) → own job (gained g0 g0 g) ≡ []
  none_in_groups g = ap (own job) (gained_none g0 g)

-- the records that the setting has are those that the index read
its_read : (s : Setting) (k : Known) (rack : Rack) (R : IndexView → IndexView → Type 0) (i : IndexPasses) → IsSettingOf s rack k → (call : IndexCall R k.index i) → s.read ≡ call.turn.old.read
its_read s k rack R i set call = subst (λ o. IfSome o (λ x. s.read ≡ x.read)) (sym call.turn.origin.1) set.read

-- The log of the index was full, or the name was taken, or there was no memory for its record.
module _ (job : ℕ) (name file : List ℕ) (rack : Rack) (names turn : List TurnName) (s : Setting) (g0 : GroupPasses) (i0 i1 : IndexPasses)
    (short : length file ≤ longest) (idle : AllIdle g0) (ready : IsIndexReady rack names turn i0) (set : IsSettingOf s rack (known g0 i0)) where
  pub log_full : (call : IndexCall (ReservesName job name (Err reserve_fault.LogFull)) i0 i1) → JobOnlyWriter job (known g0 i0) (known g0 i1)
      → StoreRow s job name file (Err fault.IndexLogFull) (section_of (known g0 i0) (known g0 i1))
  log_full call alone =
      let e : Result (Unit {0}) ReserveFault = Err reserve_fault.LogFull in
      let old = call.turn.old in
      let none : call.turn.entries ≡ [] = its_reserve job name rack names turn g0 i0 i1 e idle ready call in
      let within : 0 < length i0.views = (let a = ready.of.1 in let b = ready.one in omega (arith, a, b)) in
      let gain : added (view_at i0 0) (view_at i1 0) ≡ call.turn.others = index_added (ReservesName job name e) i0 i1 call within ∙ (ap (λ es. call.turn.others ++ es) none ∙ append-nil call.turn.others) in
      let read : s.read ≡ old.read = its_read s (known g0 i0) rack (ReservesName job name e) i1 set call in
      let leads = ap (λ r. names_after (names_read r) old.log) read ∙ names_to old.rack (names_read old.read) old.log old.now call.turn.is_old.replays in (
        short,
        record {
          silent = (none_in_groups job name rack names turn g0 i0 i1 e idle ready call, reserve_own job name rack names turn g0 i0 i1 e idle ready call alone.index);
          log = old.log;
          moment = record {
            sofar = added (view_at i0 0) (view_at i1 0);
            later = [];
            parts = sym (append-nil (added (view_at i0 0) (view_at i1 0)));
            last = refl;
            is = call.turn.transition ∙ ap (λ l. (view_at i0 0).seen ++ l) (sym gain);
          };
          full = subst (λ n. log_bound < (length old.log + length n.reserved) + 2) (sym leads) call.turn.call.0;
        },
      )

  pub taken : (call : IndexCall (ReservesName job name (Err reserve_fault.Exists)) i0 i1) → JobOnlyWriter job (known g0 i0) (known g0 i1)
      → StoreRow s job name file (Err fault.Exists) (section_of (known g0 i0) (known g0 i1))
  taken call alone =
      let e : Result (Unit {0}) ReserveFault = Err reserve_fault.Exists in
      record { short = short; index = reserve_own job name rack names turn g0 i0 i1 e idle ready call alone.index; groups = none_in_groups job name rack names turn g0 i0 i1 e idle ready call }

  pub no_memory : (call : IndexCall (ReservesName job name (Err reserve_fault.NoMemory)) i0 i1) → JobOnlyWriter job (known g0 i0) (known g0 i1)
      → StoreRow s job name file (Err fault.NoMemory) (section_of (known g0 i0) (known g0 i1))
  no_memory call alone =
      let e : Result (Unit {0}) ReserveFault = Err reserve_fault.NoMemory in
      (none_in_groups job name rack names turn g0 i0 i1 e idle ready call, reserve_own job name rack names turn g0 i0 i1 e idle ready call alone.index)

-- the list at a place: what stands before, the element, and what stands behind
pub cut_at : {X : Type 0} (xs : List X) (n : ℕ) (x : X) → slice_get xs n ≡ Some x → take n xs ++ x ∷ drop (suc n) xs ≡ xs
cut_at [] n x is = absurd (cc is)
cut_at (y ∷ ys) zero x is = (let e : y ≡ x = same_Some y x is in ap (λ z. z ∷ ys) (sym e))
cut_at (y ∷ ys) (suc n) x is = ap (λ l. y ∷ l) (cut_at ys n x is)

-- The name was reserved, and the puts came.
module _ (job : ℕ) (name file : List ℕ) (rack : Rack) (names turn : List TurnName) (g0 g2 : GroupPasses) (i0 i1 : IndexPasses) (u : Unit {0})
    (idle : AllIdle g0) (ready0 : IsIndexReady rack names turn i0) (reserve : IndexCall (ReservesName job name (Ok u)) i0 i1) (ready1 : IsIndexReady rack names turn i1) where
  abbrev reserved : Result (Unit {0}) ReserveFault
  reserved = Ok u

  first_work : RowWroteOnlyFor (index.is_of job) i0 i1
  first_work = reserve_work job name rack names turn g0 i0 i1 reserved idle ready0 reserve

  -- what the passes have seen of the index's log ends by the reservation
  pub reserved_seen : entries (view_at i1 0).seen ≡ entries ((view_at i0 0).seen ++ reserve.turn.others) ++ entry.Reserve job name ∷ []
  reserved_seen =
      let within : 0 < length i0.views = (let a = ready0.of.1 in let b = ready0.one in omega (arith, a, b)) in
      let es = its_reserve job name rack names turn g0 i0 i1 reserved idle ready0 reserve in
      ap entries (index_seen (ReservesName job name reserved) i0 i1 reserve within ∙ (sym (append_assoc (view_at i0 0).seen reserve.turn.others reserve.turn.entries) ∙ ap (λ l. ((view_at i0 0).seen ++ reserve.turn.others) ++ l) es))
      ∙ map-append (λ (x : Logged). x.entry) ((view_at i0 0).seen ++ reserve.turn.others) (plain (entry.Reserve job name) ∷ [])

  module _ (R : IndexView → IndexView → Type 0) (i3 : IndexPasses) (call : IndexCall R i1 i3) (all : AllOf (index.is_of job) call.turn.entries) where
    last_work : RowWroteOnlyFor (index.is_of job) i1 i3
    last_work = index_work job rack names turn R i1 i3 ready1 call all

    pub index_job : RowWroteOnlyFor (index.is_of job) i0 i3
    index_job = row_work_in_parts (index.is_of job) i0 i1 i3 first_work last_work

    pub index_owns : RowOnlyWriterOf (index.is_of job) i0 i3 → index.own job (added (view_at i0 0) (view_at i3 0)) ≡ plain (entry.Reserve job name) ∷ call.turn.entries
    index_owns alone =
        let parts = row_alone_in_parts (index.is_of job) i0 i1 i3 first_work last_work alone in
        index_own_more job i0 i1 i3 first_work last_work
        ∙ (ap (λ es. es ++ index.own job (added (view_at i1 0) (view_at i3 0))) (reserve_own job name rack names turn g0 i0 i1 reserved idle ready0 reserve parts.0)
        ∙ ap (λ es. plain (entry.Reserve job name) ∷ es) (index_own job rack names turn R i1 i3 ready1 call all parts.1))

    -- nobody else ended the reservation
    pub not_strange : (at : ℕ) → EndsAt job name (entries call.turn.old.log) at → call.turn.entries ≡ [] → RowOnlyWriterOf (index.is_of job) i0 i3 → ⊥
    not_strange at ends none alone =
        let parts = row_alone_in_parts (index.is_of job) i0 i1 i3 first_work last_work alone in
        let within : 0 < length i1.views = (let a = ready1.of.1 in let b = ready1.one in omega (arith, a, b)) in
        let gain = index_added R i1 i3 call within ∙ (ap (λ es. call.turn.others ++ es) none ∙ append-nil call.turn.others) in
        let own_none : filter (index.is_of job) call.turn.others ≡ [] = ap (filter (index.is_of job)) (sym gain) ∙ (index_own job rack names turn R i1 i3 ready1 call all parts.1 ∙ none) in
        let log : entries call.turn.old.log ≡ entries ((view_at i0 0).seen ++ reserve.turn.others) ++ entry.Reserve job name ∷ entries call.turn.others =
        ap entries call.turn.transition ∙ (map-append (λ (x : Logged). x.entry) (view_at i1 0).seen call.turn.others ∙ (ap (λ l. l ++ entries call.turn.others) reserved_seen
        ∙ append_assoc (entries ((view_at i0 0).seen ++ reserve.turn.others)) (entry.Reserve job name ∷ []) (entries call.turn.others))) in
        not_ended job name (entries ((view_at i0 0).seen ++ reserve.turn.others)) (entry.Reserve job name) (entries call.turn.others) at (refl, refl) (none_in job call.turn.others own_none)
        (subst (λ es. EndsAt job name es at) log ends)

-- PUBLISHED

pub digest_is : (bytes : List ℕ) → record { bytes = digest_bytes bytes } ≡ digest_of bytes
unfolding digest_of
digest_is bytes = refl

pub stored_row : (job : ℕ) (name file : List ℕ) (rack : Rack) (s : Setting) (pads : Pads) (g0 g3 : GroupPasses) (i0 i3 : IndexPasses) (blocks : List (List ℕ)) (places : List Place) (pieces shards : ℕ)
    (placed : List Placed)
    → AreBytes file → length file ≤ longest → s.rack ≡ rack → DrawsFrom s pads job file → map digest_of blocks ≡ map digest_of (drawn_blocks s pads file)
    → places ≡ map place_of placed → map (λ x. x.digest) placed ≡ map digest_of blocks
    → ((b : ℕ) (x : Placed) → slice_get placed b ≡ Some x → FitsPlace rack rack.geometry b (place_of x))
    → pieces ≡ pieces_of (length file) → shards ≡ length placed
    → index.own job (added (view_at i0 0) (view_at i3 0)) ≡ plain (entry.Reserve job name) ∷ bringing (entry.Publish job name (mark_of (record_of name file rack.geometry places))) (record_of name file rack.geometry places) ∷ []
    → ((g : ℕ) → Puts job (in_group g placed) (own job (gained g0 g3 g)))
    → IsStored s job name file pieces shards (mine job (section_of (known g0 i0) (known g3 i3)))
stored_row job name file rack s pads g0 g3 i0 i3 blocks places pieces shards placed bytes short racks draws same places_are digests fits pieces_is shards_is index puts = record {
  bytes = bytes;
  short = short;
  placed = placed;
  kept = record_of name file rack.geometry places;
  index = index;
  of_digests = digests ∙ (same ∙ sym draws);
  spread = λ b x at. (fits b x at).group ∙ ap (λ r. group_of r r.geometry b) (sym racks);
  puts = puts;
  is_record = record { named = refl; long = refl; digest = digest_is file; geometry = ap (λ (r : Rack). r.geometry) (sym racks); places = places_are; once = refl };
  pieces_is = pieces_is;
  shards_is = shards_is;
}

-- REFUSED

-- what the log that a pass has seen leads to, in the words of a session
module _ (s : Setting) (rack : Rack) (job : ℕ) (g0 g2 : GroupPasses) (i0 : IndexPasses) (g : ℕ) (within : g < length g0.names) (set : IsSettingOf s rack (known g0 i0)) (worked : RowWroteOnlyFor (of_job job) g0 g2)
    (o : GroupOrigin) (named : (view_at g2 g).origin ≡ Some o) where
  pub seen_is : entries_of (view_at g2 g).seen ≡ entries_of (view_at g0 g).seen ++ gained g0 g2 g
  seen_is = ap entries_of (worked g).seen ∙ map-append (λ l. l.entry) (view_at g0 g).seen (added (view_at g0 g) (view_at g2 g))

  pub seen_length : length (entries_of (view_at g0 g).seen ++ gained g0 g2 g) ≡ length (view_at g2 g).seen
  seen_length = sym (ap length seen_is) ∙ length-map (view_at g2 g).seen (λ l. l.entry)

  pub first_is : s.first g ≡ o.first
  first_is = subst (λ x. IfSome x (λ y. s.first g ≡ y.first)) (sym (worked g).origin ∙ named) (set.first g within)

  pub leads_to : replayed (s.first g) (entries_of (view_at g0 g).seen ++ gained g0 g2 g) ≡ replayed o.first (entries_of (view_at g2 g).seen)
  leads_to = ap (λ t. replayed t (entries_of (view_at g0 g).seen ++ gained g0 g2 g)) first_is ∙ ap (replayed o.first) (sym seen_is)

module _ (job : ℕ) (name file : List ℕ) (rack : Rack) (s : Setting) (pads : Pads) (g0 g2 : GroupPasses) (i0 i3 : IndexPasses) (group : ℕ) (cause : PutFault) (blocks : List (List ℕ))
    (short : length file ≤ longest) (racks : s.rack ≡ rack) (draws : DrawsFrom s pads job file) (same : map digest_of blocks ≡ map digest_of (drawn_blocks s pads file))
    (index : index.own job (added (view_at i0 0) (view_at i3 0)) ≡ plain (entry.Reserve job name) ∷ plain (entry.Abandon job name) ∷ [])
    (ends : PutsEnd rack rack.geometry job blocks group cause g0 g2) where
  abbrev stops : (last : List Entry) → ends.last ≡ last → StopsStore s job name file group last (mine job (section_of (known g0 i0) (known g2 i3)))
  stops last is = record {
    short = short;
    placed = ends.placed;
    next = digest_of ends.next;
    rest = map digest_of (drop (suc (length ends.placed)) blocks);
    index = index;
    of_digests =
        ap (λ ds. ds ++ digest_of ends.next ∷ map digest_of (drop (suc (length ends.placed)) blocks)) ends.digests
        ∙ (sym (map-append digest_of (take (length ends.placed) blocks) (ends.next ∷ drop (suc (length ends.placed)) blocks))
        ∙ (ap (map digest_of) (cut_at blocks (length ends.placed) ends.next ends.next_is) ∙ (same ∙ sym draws)));
    spread = λ b x at. (ends.fits b x at).group ∙ ap (λ r. group_of r r.geometry b) (sym racks);
    group = ends.group_is ∙ ap (λ r. group_of r r.geometry (length ends.placed)) (sym racks);
    puts = λ h ne. ends.puts h (λ e. ne (sym e));
    sofar = ends.sofar;
    here = ends.here ∙ ap (λ es. ends.sofar ++ es) is;
    puts_here = ends.puts_here;
  }

  module _ (set : IsSettingOf s rack (known g0 i0)) (worked : RowWroteOnlyFor (of_job job) g0 g2) (within : group < length g0.names) where
    -- the log of the group at the end
    abbrev whole : List Entry
    whole = entries_of (view_at g0 group).seen ++ gained g0 g2 group

    now : LogPoint job (entries_of (view_at g0 group).seen) (gained g0 g2 group) whole
    now = record { sofar = gained g0 g2 group; later = []; parts = sym (append-nil (gained g0 g2 group)); last = refl; is = refl }

    leads : replayed (s.first group) whole ≡ replayed ends.origin.first (entries_of (view_at g2 group).seen)
    leads = leads_to s rack job g0 g2 i0 group within set worked ends.origin ends.named

    firsts : s.first group ≡ ends.origin.first
    firsts = first_is s rack job g0 g2 i0 group within set worked ends.origin ends.named

    long : length whole ≡ length (view_at g2 group).seen
    long = seen_length s rack job g0 g2 i0 group within set worked ends.origin ends.named

    full_row : (passed : List Passed) → ends.last ≡ skips job passed → EndsFull ends.origin.first passed (view_at g2 group) → IsStoreFull s job name file group (section_of (known g0 i0) (known g2 i3))
    full_row passed is (behind, room) = record {
      passed = passed;
      stops = stops (skips job passed) is;
      log = whole;
      moment = now;
      behind = ap (λ (t : Table). t.cursor.stripe) leads ∙ (behind ∙ ap (λ (t : Table). t.stripes) (sym firsts));
      room = ⊎_elim (λ (lt : length (view_at g2 group).seen < log_bound). inl (let l = long in omega (arith, lt, l))) (λ (some : passed ≢ []). inr some) room;
    }

    log_full_row : (passed : List Passed) (stripe : ℕ) (gone : Option ℕ) → ends.last ≡ skips job passed ++ gone_entries job stripe gone → EndsLogFull ends.origin.first passed gone (view_at g2 group)
        → IsStoreLogFull s job name file group (section_of (known g0 i0) (known g2 i3))
    log_full_row passed stripe gone is (full, next) = record {
      passed = passed;
      stripe = stripe;
      gone = gone;
      stops = stops (skips job passed ++ gone_entries job stripe gone) is;
      log = whole;
      moment = now;
      full = long ∙ full;
      next = ⊎_elim (λ (none : (passed ≡ []) × (gone ≡ None)). inl none)
          (λ (less : (replayed ends.origin.first (entries_of (view_at g2 group).seen)).cursor.stripe < ends.origin.first.stripes).
          inr (let a = ap (λ (t : Table). t.cursor.stripe) leads in let b = ap (λ (t : Table). t.stripes) firsts in omega (arith, less, a, b))) next;
    }

    fault_row : (column : ℕ) (passed : List Passed) (last : Entry) → ends.last ≡ skips job passed ++ last ∷ []
        → ((t : ℕ) × (last ≡ machine.Fault job t column) × IsPutFault ends.origin.first job (entries_of (view_at g0 group).seen) (gained g0 g2 group) t column) ⊎ IsUnkept rack.columns job (digest_of ends.next) column last
        → IsStoreFault s job name file group column (mine job (section_of (known g0 i0) (known g2 i3)))
    fault_row column passed last is (inl at) = record { passed = passed; last = last; stops = stops (skips job passed ++ last ∷ []) is; fault = inl (at.0, at.1) }
    fault_row column passed last is (inr un) = record {
      passed = passed;
      last = last;
      stops = stops (skips job passed ++ last ∷ []) is;
      fault = inr (subst (λ (r : Rack). IsUnkept r.columns job (digest_of ends.next) column last) (sym racks) un);
    }

-- the answer to a put that was refused
pub refused_row : (job : ℕ) (name file : List ℕ) (rack : Rack) (s : Setting) (pads : Pads) (g0 g2 : GroupPasses) (i0 i3 : IndexPasses) (group : ℕ) (cause : PutFault) (blocks : List (List ℕ))
    → length file ≤ longest → s.rack ≡ rack → DrawsFrom s pads job file → map digest_of blocks ≡ map digest_of (drawn_blocks s pads file)
    → index.own job (added (view_at i0 0) (view_at i3 0)) ≡ plain (entry.Reserve job name) ∷ plain (entry.Abandon job name) ∷ []
    → PutsEnd rack rack.geometry job blocks group cause g0 g2 → IsSettingOf s rack (known g0 i0) → RowWroteOnlyFor (of_job job) g0 g2
    → StoreRow s job name file (Err (fault_of group cause)) (section_of (known g0 i0) (known g2 i3))
refused_row job name file rack s pads g0 g2 i0 i3 group put_fault.Full blocks short racks draws same index ends set worked =
    let e = ends.ends in
    full_row job name file rack s pads g0 g2 i0 i3 group put_fault.Full blocks short racks draws same index ends set worked ends.within e.0 e.1 e.2
refused_row job name file rack s pads g0 g2 i0 i3 group put_fault.LogFull blocks short racks draws same index ends set worked =
    let e = ends.ends in
    log_full_row job name file rack s pads g0 g2 i0 i3 group put_fault.LogFull blocks short racks draws same index ends set worked ends.within e.0 e.1 e.2 e.3 e.4
refused_row job name file rack s pads g0 g2 i0 i3 group (put_fault.Faulted column) blocks short racks draws same index ends set worked =
    let e = ends.ends in
    fault_row job name file rack s pads g0 g2 i0 i3 group (put_fault.Faulted column) blocks short racks draws same index ends set worked ends.within column e.0 e.1 e.2 e.3
