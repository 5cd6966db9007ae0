-- The reads of the record that was found, and what each answer says of them.
use Rattle.std.proofs.Common.{◌≡◌, ◌<◌, ◌≤◌, inr, ⊎_elim, ℕ, ◌+◌, ◌*◌, true, false, List, [], ◌∷◌, ◌++◌, IsTrue, length, ap, sym, ◌∙◌, subst, arith, append_assoc, length-append}
use Rattle.std.specs.Prelude.{IfSome, Result, Ok, Err, Vec}
use Rattle.std.specs.Global.{Global}
use Rattle.std.proofs.lemmas.List.{length-map}
use Rattle.std.proofs.lemmas.Bool.{cases_lt}
use Rattle.pot_bytes.specs.declared.rack.Place.{Place}
use Rattle.pot_bytes.specs.declared.rack.Rack.{Rack}
use Rattle.pot_machine.specs.declared.entry.Entry.{Entry}
use Rattle.pot_machine.specs.declared.entry.Entry.TheVariants as entry
use Rattle.pot_machine.specs.Slot.{is_live, is_void}
use Rattle.pot_machine.specs.Table.{slot_at}
use Rattle.pot_machine.specs.Logs.{own, replayed}
use Rattle.pot_machine.proofs.Logs.{replays_is}
use Rattle.pot_bytes.specs.Digests.{digest_of}
use Rattle.pot_index.specs.declared.record.Record.{Record}
use Rattle.pot_index.specs.Fits.{FitsRack}
use Rattle.pot_index.specs.Index.{IsRecordOf}
use Rattle.pot_turn.specs.declared.name.TurnName.{TurnName}
use Rattle.pot_worked.specs.WroteOnlyFor.{added}
use Rattle.pot_rows.specs.Rows.{view_at}
use Rattle.pot_rows.specs.Works.{RowWroteOnlyFor, RowOnlyWriterOf}
use Rattle.pot_rows.proofs.WorkLemmas.{row_work_in_parts, row_alone_in_parts}
use Rattle.pot_replies.specs.Sections.{Section}
use Rattle.pot_replies.specs.Settings.{Setting}
use Rattle.pot_replies.specs.Fetches.{Found, SeenAs, IsLost, IsFetchFault}
use Rattle.pot_shared.specs.Members.{entries_of}
use Rattle.pot_shared.specs.Ready.{GroupPasses, AreReady}
use Rattle.pot_shared.specs.Seen.{RowKnowsMore}
use Rattle.pot_shared.specs.Catalogs.{IndexPasses, IsIndexReady}
use Rattle.pot_shared.specs.IndexCalls.{IndexCall, FindsRecord}
use Rattle.pot_store.specs.declared.fetching.FetchFault.{FetchFault}
use Rattle.pot_store.specs.declared.fetching.FetchFault.TheVariants as fault
use Rattle.pot_shared.specs.Works.{of_job, gained, known, section_of, JobWroteOnly, JobOnlyWriter, IsSettingOf}
use Rattle.pot_store.specs.Visits.{Seen, Lost, Visit, IsReadAt, EndsGone, visit_at, came_at, place_in, logged_from, seen_in}
use Rattle.pot_store.specs.Reads.{IsMade, AreMade, AreHad, IsFetchStopped, IsFileIn, EndsFetch}
use Rattle.pot_store.specs.Fetches.{AreFilled, FetchRow, IsUnfinished}
use Rattle.pot_shared.proofs.WorkLemmas.{known_work, known_none, own_more}
use Rattle.pot_store.proofs.ReadLemmas.{both_gained, read_back, seen_parts}
use Rattle.pot_store.proofs.EntryLemmas.{has_place}
use Rattle.pot_store.proofs.FilledLemmas.{filled_of}
use Rattle.pot_store.proofs.GoneLemmas.{GoneTwice, has_origin, live_is}
use Rattle.pot_store.proofs.FitLemmas.{has_slot, many_places}
use Rattle.pot_store.proofs.RowLemmas.{entries, file_row, file_kept, odd_row}
use Rattle.pot_store.proofs.ShortLemmas.{lost_row, fault_row, full_row}
use Rattle.pot_store.proofs.LookLemmas.{AreVisits, came_past}
use Rattle.pot_store.proofs.SearchLemmas.{search_work, search_own, search_gain, met_names, found_fits}

-- A RECORD

module _ (job : ℕ) (name : List ℕ) (rack : Rack) (names turn : List TurnName) (u v w : GroupPasses) (ui wi : IndexPasses) (kept : Record)
    (ready : AreReady rack names u) (count : length names ≡ rack.groups) (index_ready : IsIndexReady rack names turn ui) (knows : RowKnowsMore u v)
    (call : IndexCall (FindsRecord job name (Ok kept) v) ui wi) (visits : List Visit) (reads : AreMade job kept.places 0 visits v w) where
  tied : RowWroteOnlyFor (of_job job) u v
  tied = known_work job rack names u v ready knows

  groups_work : RowWroteOnlyFor (of_job job) u w
  groups_work = row_work_in_parts (of_job job) u v w tied reads.worked

  pub all_work : JobWroteOnly job (known u ui) (known w wi)
  all_work = record { groups = groups_work; index = search_work job name rack names turn ui wi v (Ok kept) index_ready call }

  abbrev all : Section
  all = section_of (known u ui) (known w wi)

  pub fits : FitsRack rack kept
  fits = found_fits job name rack names turn ui wi v kept index_ready call

  -- the log of a group ans its pass has seen it in the end
  whole : (g : ℕ) → length (all.before g ++ all.added g) ≡ length (view_at w g).seen
  whole g =
      let a = length-append (all.before g) (all.added g) in
      let b : length (all.before g) ≡ length (view_at u g).seen = length-map (view_at u g).seen _ in
      let c : length (all.added g) ≡ length (added (view_at u g) (view_at w g)) = length-map (added (view_at u g) (view_at w g)) _ in
      let d = ap length (groups_work g).seen ∙ length-append (view_at u g).seen (added (view_at u g) (view_at w g)) in
      omega (arith, a, b, c, d)

  module _ (alone : JobOnlyWriter job (known u ui) (known w wi)) (s : Setting) (set : IsSettingOf s rack (known u ui)) (mends : s.mends ≡ true) (filled : AreFilled s) where
    parts : RowOnlyWriterOf (of_job job) u v × RowOnlyWriterOf (of_job job) v w
    parts = row_alone_in_parts (of_job job) u v w tied reads.worked alone.groups

    pub logs : (g : ℕ) → own job (all.added g) ≡ logged_from kept.places g 0 visits
    logs g = own_more job u v w tied reads.worked g
        ∙ (ap (λ l. l ++ own job (gained v w g)) (known_none job rack names u v ready knows parts.0 g) ∙ reads.own parts.1 g)

    pub found : Found s job name kept all
    found = record {
      index = search_own job name rack names turn ui wi v (Ok kept) index_ready call alone.index;
      sofar = call.turn.others;
      later = [];
      at = search_gain job name rack names turn ui wi v (Ok kept) index_ready call;
      published = subst (λ m. IsRecordOf m name kept) (sym (met_names job name rack names turn ui wi v (Ok kept) index_ready call s u set)) call.turn.call.0.1;
    }

    pub are : AreVisits job kept.places 0 visits
    are x lt = (reads.each x lt).is

    -- what was seen was visited
    seen_within : (x : ℕ) (b : List ℕ) → came_at visits x ≡ Seen b → x < length visits
    seen_within x b is = ⊎_elim (λ (l : x < length visits). l) (λ (le : length visits ≤ x). absurd (cc (is, came_past visits x le))) (cases_lt x (length visits))

    made : (x : ℕ) → x < length visits → IsMade job (place_in kept.places x) (visit_at visits x) v w
    made x lt = (let z : 0 + x ≡ x = omega arith in subst (λ m. IsMade job (place_in kept.places m) (visit_at visits x) v w) z (reads.each x lt))

    named : (b : ℕ) → b < length kept.places → (place_in kept.places b).group < length u.names
    named b lt = (let h = (has_slot rack kept fits names b count lt).0 in let n = ap length ready.of.0 in omega (arith, h, n))

    -- a block that was read stands in the section ans the setting has it
    seen_as : length visits ≤ length kept.places → (x : ℕ) (b : List ℕ) → came_at visits x ≡ Seen b
        → SeenAs (s.first (place_in kept.places x).group) job (all.before (place_in kept.places x).group) (all.added (place_in kept.places x).group) (place_in kept.places x).stripe (place_in kept.places x).column (digest_of b)
    seen_as room x b is =
        let p : Place = place_in kept.places x in
        let lt : x < length visits = seen_within x b is in
        let it : IsReadAt job p b u w = read_back job u v w tied reads.worked p b ((made x lt).block b is) in
        let first : s.first p.group ≡ it.0.first = subst (λ o. IfSome o (λ y. s.first p.group ≡ y.first)) it.1 (set.first p.group (named x (omega (arith, lt, room)))) in
        subst (λ t. SeenAs t job (all.before p.group) (all.added p.group) p.stripe p.column (digest_of b)) (sym first) it.2

    -- a place at which a visit ended by a Gone was Live between it and a Gone before
    twice : (b : ℕ) → b < length kept.places → b < length visits → came_at visits b ≡ Lost → EndsGone job (place_in kept.places b) (visit_at visits b).entries
        → GoneTwice (s.first (place_in kept.places b).group) job (all.before (place_in kept.places b).group) (all.added (place_in kept.places b).group) (place_in kept.places b).stripe (place_in kept.places b).column
    twice b within lt lost ends =
        let p : Place = place_in kept.places b in
        let gain : List Entry = gained u v p.group in
        let gone : Entry = entry.Gone job p.stripe p.column in
        let first : IfSome (view_at v p.group).origin (λ o. s.first p.group ≡ o.first) =
        subst (λ o. IfSome o (λ y. s.first p.group ≡ y.first)) (sym (tied p.group).origin) (set.first p.group (named b within)) in
        let gone_twice = (made b lt).again parts.1 lost ends in
        let origin = has_origin (s.first p.group) (view_at v p.group).origin (λ read is. (gone_twice read is).0) in
        let (table, (x, behind, z, (a, between, at), parted, (t, replays, sound))) = gone_twice (s.first p.group) first in
        let here : gain ++ x ≡ (gain ++ a) ++ gone ∷ between = ap (λ l. gain ++ l) at ∙ sym (append_assoc gain a (gone ∷ between)) in
        let log : entries_of (view_at v p.group).seen ++ x ≡ entries_of (view_at u p.group).seen ++ ((gain ++ a) ++ gone ∷ between) =
        ap (λ l. l ++ x) (seen_parts job u v w tied reads.worked p.group) ∙ (append_assoc (entries_of (view_at u p.group).seen) gain x ∙ ap (λ l. entries_of (view_at u p.group).seen ++ l) here) in
        let some : is_void (slot_at t p.stripe p.column) ≡ false =
        filled_of job name rack names turn u v ui wi kept ready count index_ready knows call s set filled p (has_place kept.places b within) origin.0 (sym (tied p.group).origin ∙ origin.1) x t table replays in
        record {
          a = gain ++ a;
          between = between;
          behind = behind;
          z = z;
          parts = both_gained job u v w tied reads.worked p.group
              ∙ (ap (λ l. gain ++ l) parted
              ∙ (sym (append_assoc gain (x ++ behind) (gone ∷ z))
              ∙ ap (λ l. l ++ gone ∷ z) (sym (append_assoc gain x behind) ∙ ap (λ l. l ++ behind) here)));
          live = subst (λ y. IsTrue (is_live (slot_at y p.stripe p.column)))
              (sym (ap (replayed (s.first p.group)) (sym log) ∙ replays_is (s.first p.group) (entries_of (view_at v p.group).seen ++ x) t replays))
              (live_is (slot_at t p.stripe p.column) sound some);
        }

    refused_row : (is : (e : FetchFault) × IsFetchStopped kept 0 visits e w) → FetchRow s job name (Err is.0) all
    refused_row (fault.IndexLogFull, is) = absurd is.refused.1
    refused_row (fault.Absent, is) = absurd is.refused.1
    refused_row (fault.NoMemory, is) = absurd is.refused.1
    refused_row (fault.Odd wanted got, is) = absurd is.refused.1
    refused_row (fault.Faulted group column, is) =
        let at : is.many ≡ is.piece * kept.geometry.fragments + is.fragment = (let a = is.at in omega (arith, a)) in
        let had = subst (λ m. AreHad kept m is.done is.contents) at is.had in
        let (short, (x, first, group_is)) = is.refused in
        let row = fault_row s rack job name kept all visits is.done is.last is.contents fits logs is.piece is.fragment is.in_pieces is.in_fragments is.are had is.long are twice mends found short x column first in
        subst (λ g. IsFetchFault s job name g column all) (sym group_is) row
    refused_row (fault.Lost piece number have m, is) =
        let at : is.many ≡ is.piece * kept.geometry.fragments + is.fragment = (let a = is.at in omega (arith, a)) in
        let had = subst (λ c. AreHad kept c is.done is.contents) at is.had in
        let (short, (none, piece_is, number_is, have_is, need_is)) = is.refused in
        let row = lost_row s rack job name kept all visits is.done is.last is.contents fits logs is.piece is.fragment is.in_pieces is.in_fragments is.are had is.long are twice mends found short none in
        (is.fragment, number_is, subst (λ i. IsLost s job name i is.fragment have m all) (sym piece_is) (subst (λ h. IsLost s job name is.piece is.fragment h m all) (sym have_is) (subst (λ c. IsLost s job name is.piece is.fragment (seen_in kept.geometry.shards is.last) c all) (sym need_is) row)))
    refused_row (fault.LogFull group, is) =
        let at : is.many ≡ is.piece * kept.geometry.fragments + is.fragment = (let a = is.at in omega (arith, a)) in
        let had = subst (λ m. AreHad kept m is.done is.contents) at is.had in
        full_row s rack job name kept all visits is.done is.last is.contents fits logs is.piece is.fragment is.in_pieces is.in_fragments is.are had is.long are twice found group w whole is.refused

    pub file_room : (contents : List (List ℕ)) (bytes : List ℕ) → IsFileIn kept visits contents bytes → length visits ≤ length kept.places
    file_room contents bytes file = (let a = file.had.visited in let b = many_places rack kept fits in omega (arith, a, b))

    pub record_row : (result : Result (Vec ℕ Global) FetchFault) → EndsFetch kept visits result w → FetchRow s job name result all
    record_row (Ok bytes) (contents, file, digest) =
        file_row s rack job name kept all visits fits logs (file_room contents bytes.items file) are found contents bytes.items file digest
    record_row (Err (fault.Odd wanted got)) (contents, bytes, file, is, got_is, differs) =
        let room = file_room contents bytes file in
        odd_row s rack job name kept all visits fits logs room are found contents bytes file wanted got is got_is differs (seen_as room)
    record_row (Err fault.NoMemory) none =
        inr (kept, found, entries s rack job name kept all visits fits logs (let n = ap length none in omega (arith, n)) are)
    record_row (Err fault.IndexLogFull) is = refused_row (fault.IndexLogFull, is)
    record_row (Err fault.Absent) is = refused_row (fault.Absent, is)
    record_row (Err (fault.Faulted group column)) is = refused_row (fault.Faulted group column, is)
    record_row (Err (fault.Lost piece number have m)) is = refused_row (fault.Lost piece number have m, is)
    record_row (Err (fault.LogFull group)) is = refused_row (fault.LogFull group, is)

    -- the record of a file is the one that was found
    pub record_kept : (bytes : Vec ℕ Global) (ends : EndsFetch kept visits (Ok bytes) w) → (record_row (Ok bytes) ends).kept ≡ kept
    unfolding record_row
    record_kept bytes (contents, file, digest) =
        file_kept s rack job name kept all visits fits logs (file_room contents bytes.items file) are found contents bytes.items file digest

    -- no memory, with these visits
    pub unfinished : length visits ≤ length kept.places → IsUnfinished s job name all
    unfinished room = inr (kept, found, entries s rack job name kept all visits fits logs room are)
