-- A renewal: a fetch, the puts of a new split behind it, and what the index logs in the end.
use Rattle.std.proofs.Common.{◌≡◌, ◌≢◌, ◌<◌, ◌⊎◌, inl, inr, ⊎_elim, ℕ, suc, ◌+◌, ◌*◌, true, List, [], ◌∷◌, ◌++◌, length, refl, ap, sym, ◌∙◌, subst, arith, append-nil, append_assoc, eq-eqb, take, drop}
use Rattle.std.specs.Prelude.{Option, Some, None, Result, Ok, Err, Vec, IfSome, filter, map}
use lib.Seq.{drop-length}
use Rattle.std.specs.Global.{Global}
use Rattle.std.proofs.lemmas.List.{length-map, map-append, append_cancel_left}
use Rattle.std.proofs.lemmas.List.Elements.{filter-append}
use Rattle.std.proofs.lemmas.Bool.{cases_eq}
use Rattle.std.proofs.lemmas.Option.{same_Some}
use Rattle.pot_bytes.specs.Lists.{AreBytes}
use Rattle.pot_bytes.specs.Rack.{log_bound}
use Rattle.pot_bytes.specs.declared.digest.Digest.{Digest}
use Rattle.pot_bytes.specs.declared.rack.Geometry.{Geometry}
use Rattle.pot_bytes.specs.declared.rack.Place.{Place}
use Rattle.pot_bytes.specs.declared.rack.Rack.{Rack}
use Rattle.pot_machine.specs.declared.entry.Entry.{Entry}
use Rattle.pot_machine.specs.declared.entry.Entry.TheVariants as entry
use Rattle.pot_machine.specs.Table.{Table}
use Rattle.pot_machine.specs.Logs.{own, replayed, IsKeptPut}
use Rattle.pot_object.specs.Pieces.{pieces_of}
use Rattle.pot_pads.specs.Pads.{Pads}
use Rattle.pot_shard.proofs.PlaceLemmas.{place_laws}
use Rattle.pot_bytes.specs.Digests.{digest_of}
use Rattle.pot_steps.specs.GroupStep.{Passed, skips, gone_entries}
use Rattle.pot_group.specs.declared.answers.PutFault.{PutFault}
use Rattle.pot_group.specs.declared.answers.PutFault.TheVariants as put_fault
use Rattle.pot_index.specs.declared.entry.IndexEntry.TheVariants as index_entry
use Rattle.pot_index.specs.declared.entry.IndexEntry.TheVariants.{Find}
use Rattle.pot_index.specs.declared.entry.Logged.{Logged}
use Rattle.pot_index.specs.declared.fault.FindFault.{FindFault}
use Rattle.pot_index.specs.declared.fault.FindFault.TheVariants as find_fault
use Rattle.pot_index.specs.declared.fault.RenewFault.{RenewFault}
use Rattle.pot_index.specs.declared.fault.RenewFault.TheVariants as renew_fault
use Rattle.pot_index.specs.declared.record.Record.{Record}
use Rattle.pot_index.specs.declared.record.Split.{Split}
use Rattle.pot_index.specs.Calls.{Renews}
use Rattle.pot_index.specs.Entries as index
use Rattle.pot_index.specs.Entries.{plain, bringing}
use Rattle.pot_index.specs.Fits.{FitsGeometry, FitsRack, FitsSplit, group_of}
use Rattle.pot_index.specs.Index.{IndexView, Names, names_read, IsRecordOf, ReplaysIndex}
use Rattle.pot_index.proofs.NamesKept.{went_on, leads_once}
use Rattle.pot_index.proofs.RecordLaws.{one_record, splits_stay}
use Rattle.pot_index.specs.Records.{mark_of, renewed}
use Rattle.pot_turn.specs.declared.name.TurnName.{TurnName}
use Rattle.pot_worked.specs.WroteOnlyFor.{added}
use Rattle.pot_worked.specs.Laws.{AllOf}
use Rattle.pot_worked.proofs.WroteOnlyForLemmas.{both_added}
use Rattle.pot_rows.specs.Rows.{view_at}
use Rattle.pot_rows.specs.Works.{RowWroteOnlyFor, RowOnlyWriterOf}
use Rattle.pot_rows.proofs.WorkLemmas.{row_work_in_parts, row_alone_in_parts}
use Rattle.pot_replies.specs.Jobs.{is_stuck_at}
use Rattle.pot_replies.specs.Sections.{Section, LogPoint, names_after}
use Rattle.pot_replies.specs.Settings.{Setting}
use Rattle.pot_replies.specs.Stores.{Placed, Puts, IsUnkept, in_group, place_of}
use Rattle.pot_replies.specs.Fetches.{FoundThen, Found, IsFile, MendsOnce}
use Rattle.pot_replies.specs.Renewals.{Fetched, AllPut, IsOften, RenewStops, IsRenewFault, IsRenewFull, IsRenewLogFull, IsPutFault}
use Rattle.pot_shared.specs.Members.{entries_of}
use Rattle.pot_shared.specs.Ready.{GroupPass, GroupPasses, AreReady}
use Rattle.pot_shared.specs.Seen.{RowKnowsMore, SeesFile}
use Rattle.pot_shared.specs.declared.catalog.CatalogOrigin.{CatalogOrigin}
use Rattle.pot_shared.specs.Catalogs.{IndexPasses, IsIndexReady, records_in}
use Rattle.pot_shared.specs.IndexCalls.{IndexCall, FindsRecord, MayRenewBy, RenewsSplit}
use Rattle.pot_store.specs.declared.fetching.FetchFault.{FetchFault}
use Rattle.pot_store.specs.declared.fetching.FetchFault.TheVariants as fetch_fault
use Rattle.pot_store.specs.declared.renewing.RenewFileFault.{RenewFileFault}
use Rattle.pot_store.specs.declared.renewing.RenewFileFault.TheVariants as fault
use Rattle.pot_store.specs.declared.storing.Stored.{Stored}
use Rattle.pot_store.specs.Drawing.{Drawn, all_blocks, blocks_from, count_of, random_from}
use Rattle.pot_store.specs.Fetches.{AreFilled, FetchRow}
use Rattle.pot_store.specs.Puts.{ArePut, EndsFull, EndsLogFull, EndsPut, PutsEnd}
use Rattle.pot_store.specs.Reads.{AreMade, EndsFetch}
use Rattle.pot_store.specs.Renewals.{of_find, of_fetch, of_put, of_renew, IsFileSplit, StopsAtPut, PutsSplit, RenewRow, RenewsFrom}
use Rattle.pot_store.specs.Stores.{IsPlan}
use Rattle.pot_store.specs.Visits.{Visit, is_begin_at}
use Rattle.pot_shared.specs.Works.{of_job, gained, known, section_of, JobWroteOnly, JobOnlyWriter, IsSettingOf}
use Rattle.pot_store.proofs.EndLemmas.{fault_wider}
use Rattle.pot_store.proofs.EntryLemmas.{mends_then}
use Rattle.pot_store.proofs.FetchLemmas.{all_work, record_row, record_kept, fits, found, logs, are, file_room, unfinished}
use Rattle.pot_store.proofs.FitLemmas.{apart}
use Rattle.pot_store.proofs.IndexLemmas.{names_to, index_seen}
use Rattle.pot_store.proofs.SearchLemmas.{search_work, met_rack, absent_row, silent_row, index_full_row as index_full}
use Rattle.pot_store.proofs.PublishLemmas.{fits_split, sees_split}
use Rattle.pot_store.proofs.PutLemmas.{take_all}
use Rattle.pot_store.proofs.ReadLemmas.{both_gained, no_reads, seen_parts}
use Rattle.pot_store.proofs.StoreLemmas.{cut_at, digest_is, first_is, leads_to, seen_length}
use Rattle.pot_shared.proofs.WorkLemmas.{all_none, all_one, known_work, known_none, row_stays, index_idle, index_work, index_own, own_more, index_own_more, work_more, alone_parts}

-- THE NEW SPLIT

-- a split that was put by a plan
pub is_split : (rack : Rack) (geometry : Geometry) (job : ℕ) (file : List ℕ) (pads : Pads) (pieces shards : ℕ) (d : Drawn) (none places : List Place) (old new : GroupPasses)
    → FitsGeometry rack geometry → AreBytes file → IsPlan geometry file pads pieces shards d none → length places ≡ shards → ArePut rack geometry job (all_blocks d) places old new
    → IsFileSplit rack geometry job file pads (record { pieces = pieces; shards = shards }) (record { geometry = geometry; places = places }) old new
is_split rack geometry job file pads pieces shards d none places old new fits_rack bytes plan long are =
    let puts : ArePut rack geometry job (blocks_from geometry file pads) places old new = subst (λ (x : Drawn). ArePut rack geometry job (all_blocks x) places old new) plan.drawing are in
    let many : length places ≡ pieces_of (length file) * (geometry.fragments * geometry.shards) = long ∙ (plan.shards_is ∙ ap count_of plan.drawing) in
    record {
      pieces_is = plan.pieces_is;
      shards_is = sym long;
      geometry_is = refl;
      many = many;
      puts = puts;
      fits = fits_split rack geometry job file pads (blocks_from geometry file pads) places old new fits_rack plan.short many puts;
      sees = λ r size digest.
          sees_split rack geometry job file pads (blocks_from geometry file pads) places old new fits_rack plan.short many puts bytes refl
          (renewed r (record { geometry = geometry; places = places })) refl refl size (digest ∙ sym (digest_is file));
    }

-- puts that were made
pub made_split : (rack : Rack) (geometry : Geometry) (job : ℕ) (file : List ℕ) (pads : Pads) (x : Stored × Split) (old new : GroupPasses) → PutsSplit rack geometry job file pads (Ok x) old new
    → IsFileSplit rack geometry job file pads x.0 x.1 old new
made_split rack geometry job file pads (x, split) old new is = is

-- puts that stopped
pub stopped_is : (rack : Rack) (geometry : Geometry) (job : ℕ) (file : List ℕ) (pads : Pads) (group : ℕ) (cause : PutFault) (old new : GroupPasses)
    → (RowOnlyWriterOf (of_job job) old new → PutsEnd rack geometry job (blocks_from geometry file pads) group cause old new) → PutsSplit rack geometry job file pads (Err (of_put group cause)) old new
stopped_is rack geometry job file pads group put_fault.LogFull old new ends = record { group = group; cause = put_fault.LogFull; is = refl; ends = ends }
stopped_is rack geometry job file pads group put_fault.Full old new ends = record { group = group; cause = put_fault.Full; is = refl; ends = ends }
stopped_is rack geometry job file pads group (put_fault.Faulted column) old new ends = record { group = group; cause = put_fault.Faulted column; is = refl; ends = ends }

-- WHAT PUTS LOG NONE OF

-- the entries begin no relay and have no Stuck
pub record IsQuiet (es : List Entry) : Type 0 where
  pub begun : (s c : ℕ) → filter (is_begin_at s c) es ≡ []
  pub stuck : (s c : ℕ) → filter (is_stuck_at s c) es ≡ []

quiet_none : IsQuiet []
quiet_none = record { begun = λ s c. refl; stuck = λ s c. refl }

quiet_both : (xs ys : List Entry) → IsQuiet xs → IsQuiet ys → IsQuiet (xs ++ ys)
quiet_both xs ys one two = record {
  begun = λ s c. filter-append (is_begin_at s c) xs ys ∙ (ap (λ l. l ++ filter (is_begin_at s c) ys) (one.begun s c) ∙ two.begun s c);
  stuck = λ s c. filter-append (is_stuck_at s c) xs ys ∙ (ap (λ l. l ++ filter (is_stuck_at s c) ys) (one.stuck s c) ∙ two.stuck s c);
}

quiet_gone : (job s : ℕ) (gone : Option ℕ) → IsQuiet (gone_entries job s gone)
quiet_gone job s None = quiet_none
quiet_gone job s (Some c) = record { begun = λ n k. refl; stuck = λ n k. refl }

quiet_skips : (job : ℕ) (passed : List Passed) → IsQuiet (skips job passed)
quiet_skips job [] = quiet_none
quiet_skips job (x ∷ xs) =
    quiet_both (gone_entries job x.stripe x.gone) (entry.Skip job x.stripe ∷ skips job xs) (quiet_gone job x.stripe x.gone)
    (quiet_both (entry.Skip job x.stripe ∷ []) (skips job xs) (record { begun = λ n k. refl; stuck = λ n k. refl }) (quiet_skips job xs))

quiet_put : (job s c : ℕ) (d : Digest) (e : Entry) → IsKeptPut job s c d e → IsQuiet (e ∷ [])
quiet_put job s c d e (inl (p, is)) = subst (λ x. IsQuiet (x ∷ [])) (sym is) (record { begun = λ n k. refl; stuck = λ n k. refl })
quiet_put job s c d e (inr (p, q, is)) = subst (λ x. IsQuiet (x ∷ [])) (sym is) (record { begun = λ n k. refl; stuck = λ n k. refl })

pub quiet_puts : (job : ℕ) (xs : List Placed) (es : List Entry) → Puts job xs es → IsQuiet es
quiet_puts job [] es is = subst IsQuiet (sym is) quiet_none
quiet_puts job (x ∷ xs) es (passed, e, rest, put, is, more) =
    subst IsQuiet (sym is)
    (quiet_both (skips job passed ++ e ∷ []) rest (quiet_both (skips job passed) (e ∷ []) (quiet_skips job passed) (quiet_put job x.stripe x.column x.digest e put)) (quiet_puts job xs rest more))

quiet_unkept : (data_columns job : ℕ) (d : Digest) (column : ℕ) (e : Entry) → IsUnkept data_columns job d column e → IsQuiet (e ∷ [])
quiet_unkept data_columns job d column e (inl (s, c, p, is, at)) = subst (λ x. IsQuiet (x ∷ [])) (sym is) (record { begun = λ n k. refl; stuck = λ n k. refl })
quiet_unkept data_columns job d column e (inr (inl (s, c, p, q, k, is, at))) = subst (λ x. IsQuiet (x ∷ [])) (sym is) (record { begun = λ n k. refl; stuck = λ n k. refl })
quiet_unkept data_columns job d column e (inr (inr (s, c, p, q, is, at))) = subst (λ x. IsQuiet (x ∷ [])) (sym is) (record { begun = λ n k. refl; stuck = λ n k. refl })

quiet_end : (rack : Rack) (first : Table) (job : ℕ) (block : List ℕ) (cause : PutFault) (entries before gain : List Entry) (w : GroupPass) → EndsPut rack first job block cause entries before gain w → IsQuiet entries
quiet_end rack first job block put_fault.Full entries before gain w ends = subst IsQuiet (sym ends.1) (quiet_skips job ends.0)
quiet_end rack first job block put_fault.LogFull entries before gain w ends =
    subst IsQuiet (sym ends.3) (quiet_both (skips job ends.0) (gone_entries job ends.1 ends.2) (quiet_skips job ends.0) (quiet_gone job ends.1 ends.2))
quiet_end rack first job block (put_fault.Faulted column) entries before gain w (passed, last, is, inl (s, at, f)) =
    subst IsQuiet (sym is) (quiet_both (skips job passed) (last ∷ []) (quiet_skips job passed) (subst (λ x. IsQuiet (x ∷ [])) (sym at) (record { begun = λ n k. refl; stuck = λ n k. refl })))
quiet_end rack first job block (put_fault.Faulted column) entries before gain w (passed, last, is, inr un) =
    subst IsQuiet (sym is) (quiet_both (skips job passed) (last ∷ []) (quiet_skips job passed) (quiet_unkept rack.columns job (digest_of block) column last un))

pub quiet_ends : (rack : Rack) (geometry : Geometry) (job : ℕ) (blocks : List (List ℕ)) (group : ℕ) (cause : PutFault) (old new : GroupPasses) → PutsEnd rack geometry job blocks group cause old new
    → (g : ℕ) → IsQuiet (own job (gained old new g))
quiet_ends rack geometry job blocks group cause old new ends g = ⊎_elim
    (λ (same : group ≡ g).
    subst (λ h. IsQuiet (own job (gained old new h))) same
    (subst IsQuiet (sym ends.here)
    (quiet_both ends.sofar ends.last (quiet_puts job (in_group group ends.placed) ends.sofar ends.puts_here)
    (quiet_end rack ends.origin.first job ends.next cause ends.last (entries_of (view_at old group).seen) (gained old new group) (view_at new group) ends.ends))))
    (λ (ne : group ≢ g). quiet_puts job (in_group g ends.placed) (own job (gained old new g)) (ends.puts g ne))
    (cases_eq group g)

-- A FETCH THAT FAILED

-- its answer is that of the renewal
pub fetch_is : (s : Setting) (job : ℕ) (name : List ℕ) (geometry : Geometry) (w : Section) (e : FetchFault) → FetchRow s job name (Err e) w → RenewRow s job name geometry (Err (of_fetch e)) w
fetch_is s job name geometry w fetch_fault.IndexLogFull is = inl is
fetch_is s job name geometry w fetch_fault.Absent is = is
fetch_is s job name geometry w (fetch_fault.Faulted group column) is = inl is
fetch_is s job name geometry w (fetch_fault.Lost piece fragment have need) is = is
fetch_is s job name geometry w (fetch_fault.LogFull group) is = inl is
fetch_is s job name geometry w (fetch_fault.Odd wanted read) is = is
fetch_is s job name geometry w fetch_fault.NoMemory is = inl is

-- BEHIND A FETCH

module _ (job : ℕ) (name : List ℕ) (rack : Rack) (names turn : List TurnName) (u v w : GroupPasses) (ui wi : IndexPasses) (kept : Record)
    (ready : AreReady rack names u) (count : length names ≡ rack.groups) (index_ready : IsIndexReady rack names turn ui) (knows : RowKnowsMore u v)
    (call : IndexCall (FindsRecord job name (Ok kept) v) ui wi) (visits : List Visit) (reads : AreMade job kept.places 0 visits v w)
    (ready_w : AreReady rack names w) (y : GroupPasses) (yi : IndexPasses) (behind : JobWroteOnly job (known w wi) (known y yi)) where
  fetch_work : JobWroteOnly job (known u ui) (known w wi)
  fetch_work = all_work job name rack names turn u v w ui wi kept ready count index_ready knows call visits reads

  pub whole_work : JobWroteOnly job (known u ui) (known y yi)
  whole_work = work_more job (known u ui) (known w wi) (known y yi) fetch_work behind

  abbrev fetch_section : Section
  fetch_section = section_of (known u ui) (known w wi)

  abbrev all_section : Section
  all_section = section_of (known u ui) (known y yi)

  whole_added : all_section.index_added ≡ fetch_section.index_added ++ added (view_at wi 0) (view_at yi 0)
  whole_added = both_added (index.is_of job) (view_at ui 0) (view_at wi 0) (view_at yi 0) (fetch_work.index 0) (behind.index 0)

  found_behind : (s : Setting) (k : Record) (more : List Logged) → index.own job (added (view_at wi 0) (view_at yi 0)) ≡ more → Found s job name k fetch_section → FoundThen more s job name k all_section
  found_behind s k more is f = record {
    index = index_own_more job ui wi yi fetch_work.index behind.index
        ∙ (ap (λ l. l ++ index.own job (added (view_at wi 0) (view_at yi 0))) f.index ∙ ap (λ l. plain (Find job name true) ∷ l) is);
    sofar = f.sofar;
    later = f.later ++ added (view_at wi 0) (view_at yi 0);
    at = whole_added ∙ (ap (λ l. l ++ added (view_at wi 0) (view_at yi 0)) f.at ∙ append_assoc f.sofar (plain (Find job name true) ∷ f.later) (added (view_at wi 0) (view_at yi 0)));
    published = f.published;
  }

  module _ (alone : JobOnlyWriter job (known u ui) (known y yi)) (s : Setting) (set : IsSettingOf s rack (known u ui)) (mends : s.mends ≡ true) (filled : AreFilled s)
      (bytes : Vec ℕ Global) (ends : EndsFetch kept visits (Ok bytes) w) (few : length kept.older < 15) where
    pub both_alone : JobOnlyWriter job (known u ui) (known w wi) × JobOnlyWriter job (known w wi) (known y yi)
    both_alone = alone_parts job (known u ui) (known w wi) (known y yi) fetch_work behind alone

    pub read_file : IsFile s job name bytes.items fetch_section
    read_file = record_row job name rack names turn u v w ui wi kept ready count index_ready knows call visits reads both_alone.0 s set mends filled (Ok bytes) ends

    -- it is the record that was found
    same_kept : read_file.kept ≡ kept
    unfolding read_file
    same_kept = record_kept job name rack names turn u v w ui wi kept ready count index_ready knows call visits reads both_alone.0 s set mends filled bytes ends

    own_parts : (g : ℕ) → own job (all_section.added g) ≡ own job (fetch_section.added g) ++ own job (gained w y g)
    own_parts g = own_more job u w y fetch_work.groups behind.groups g

    fits_here : FitsRack rack kept
    fits_here = fits job name rack names turn u v w ui wi kept ready count index_ready knows call visits reads

    whole_mends : ((g : ℕ) → IsQuiet (own job (gained w y g))) → (g : ℕ) → MendsOnce job (all_section.added g)
    whole_mends quiet g =
        mends_then job kept.places (length kept.places) visits (apart rack kept fits_here)
        (file_room job name rack names turn u v w ui wi kept ready count index_ready knows call visits reads both_alone.0 s set mends filled ends.0 bytes.items ends.1)
        (are job name rack names turn u v w ui wi kept ready count index_ready knows call visits reads both_alone.0 s set mends filled)
        g (all_section.added g) (own job (gained w y g))
        (own_parts g ∙ ap (λ l. l ++ own job (gained w y g)) (logs job name rack names turn u v w ui wi kept ready count index_ready knows call visits reads both_alone.0 s set mends filled g))
        (quiet g).begun (quiet g).stuck

    pub fetched : (geometry : Geometry) (more : List Logged) → index.own job (added (view_at wi 0) (view_at yi 0)) ≡ more → ((g : ℕ) → IsQuiet (own job (gained w y g)))
        → Fetched more s job name geometry read_file.kept bytes.items (λ g. own job (gained w y g)) all_section
    fetched geometry more is quiet = record {
      found = found_behind s read_file.kept more is read_file.found;
      few = subst (λ (r : Record). length r.older < 15) (sym same_kept) few;
      reads = λ g. own job (fetch_section.added g);
      own_is = own_parts;
      are_reads = read_file.entries.reads;
      mends = whole_mends quiet;
      sees = read_file.sees;
      long = read_file.long;
      digest = read_file.digest;
    }

    -- ALL PUT

    pub all_are_put : (geometry : Geometry) (pads : Pads) (more : List Logged) (places : List Place) (x : GroupPasses) → index.own job (added (view_at wi 0) (view_at yi 0)) ≡ more → RenewsFrom s pads geometry job
        → (puts : ArePut rack geometry job (blocks_from geometry bytes.items pads) places w x) → length puts.placed ≡ length (blocks_from geometry bytes.items pads)
        → ((g : ℕ) → Puts job (in_group g puts.placed) (own job (gained w y g))) → AllPut more s job name geometry puts.placed all_section
    all_are_put geometry pads more places x is draws puts long logged = record {
      kept = read_file.kept;
      file = bytes.items;
      puts = λ g. own job (gained w y g);
      fetched = fetched geometry more is (λ g. quiet_puts job (in_group g puts.placed) (own job (gained w y g)) (logged g));
      of_digests = puts.digests ∙ (ap (map digest_of) (take_all (blocks_from geometry bytes.items pads) (length puts.placed) (omega (arith, long))) ∙ sym (draws bytes.items));
      spread = λ b p at. (puts.fits b p at).group ∙ ap (λ (r : Rack). group_of r geometry b) (sym set.rack_is);
      puts_are = logged;
    }

    -- STOPPED

    module _ (geometry : Geometry) (pads : Pads) (draws : RenewsFrom s pads geometry job) (group : ℕ) (cause : PutFault) (none : index.own job (added (view_at wi 0) (view_at yi 0)) ≡ [])
        (puts_end : PutsEnd rack geometry job (blocks_from geometry bytes.items pads) group cause w y) where
      abbrev blocks : List (List ℕ)
      blocks = blocks_from geometry bytes.items pads

      abbrev stops : (last : List Entry) → puts_end.last ≡ last → RenewStops s job name geometry group last all_section
      stops last is = record {
        kept = read_file.kept;
        file = bytes.items;
        puts = λ g. own job (gained w y g);
        fetched = fetched geometry [] none (quiet_ends rack geometry job blocks group cause w y puts_end);
        placed = puts_end.placed;
        next = digest_of puts_end.next;
        rest = map digest_of (drop (suc (length puts_end.placed)) blocks);
        of_digests =
            ap (λ ds. ds ++ digest_of puts_end.next ∷ map digest_of (drop (suc (length puts_end.placed)) blocks)) puts_end.digests
            ∙ (sym (map-append digest_of (take (length puts_end.placed) blocks) (puts_end.next ∷ drop (suc (length puts_end.placed)) blocks))
            ∙ (ap (map digest_of) (cut_at blocks (length puts_end.placed) puts_end.next puts_end.next_is) ∙ sym (draws bytes.items)));
        spread = λ b p at. (puts_end.fits b p at).group ∙ ap (λ (r : Rack). group_of r geometry b) (sym set.rack_is);
        group = puts_end.group_is ∙ ap (λ (r : Rack). group_of r geometry (length puts_end.placed)) (sym set.rack_is);
        puts_are = λ h ne. puts_end.puts h (λ e. ne (sym e));
        sofar = puts_end.sofar;
        here = puts_end.here ∙ ap (λ es. puts_end.sofar ++ es) is;
        puts_here = puts_end.puts_here;
      }

      group_within : group < length u.names
      group_within = let l = puts_end.within in let a = ap length ready.of.0 in let b = ap length ready_w.of.0 in omega (arith, l, a, b)

      whole_groups : RowWroteOnlyFor (of_job job) u y
      whole_groups = whole_work.groups

      abbrev log : List Entry
      log = entries_of (view_at u group).seen ++ gained u y group

      now : LogPoint job (entries_of (view_at u group).seen) (gained u y group) log
      now = record { sofar = gained u y group; later = []; parts = sym (append-nil (gained u y group)); last = refl; is = refl }

      firsts : s.first group ≡ puts_end.origin.first
      firsts = first_is s rack job u y ui group group_within set whole_groups puts_end.origin puts_end.named

      leads : replayed (s.first group) log ≡ replayed puts_end.origin.first (entries_of (view_at y group).seen)
      leads = leads_to s rack job u y ui group group_within set whole_groups puts_end.origin puts_end.named

      long : length log ≡ length (view_at y group).seen
      long = seen_length s rack job u y ui group group_within set whole_groups puts_end.origin puts_end.named

      pub full_row : (passed : List Passed) → puts_end.last ≡ skips job passed → EndsFull puts_end.origin.first passed (view_at y group) → IsRenewFull s job name geometry group all_section
      full_row passed is (past, room) = record {
        passed = passed;
        stops = stops (skips job passed) is;
        log = log;
        moment = now;
        behind = ap (λ (t : Table). t.cursor.stripe) leads ∙ (past ∙ ap (λ (t : Table). t.stripes) (sym firsts));
        room = ⊎_elim (λ (lt : length (view_at y group).seen < log_bound). inl (let l = long in omega (arith, lt, l))) (λ (some : passed ≢ []). inr some) room;
      }

      pub log_full_row : (passed : List Passed) (stripe : ℕ) (gone : Option ℕ) → puts_end.last ≡ skips job passed ++ gone_entries job stripe gone → EndsLogFull puts_end.origin.first passed gone (view_at y group)
          → IsRenewLogFull s job name geometry group all_section
      log_full_row passed stripe gone is (full, next) = record {
        passed = passed;
        stripe = stripe;
        gone = gone;
        stops = stops (skips job passed ++ gone_entries job stripe gone) is;
        log = log;
        moment = now;
        full = long ∙ full;
        next = ⊎_elim (λ (nothing : (passed ≡ []) × (gone ≡ None)). inl nothing)
            (λ (less : (replayed puts_end.origin.first (entries_of (view_at y group).seen)).cursor.stripe < puts_end.origin.first.stripes).
            inr (let a = ap (λ (t : Table). t.cursor.stripe) leads in let b = ap (λ (t : Table). t.stripes) firsts in omega (arith, less, a, b))) next;
      }

      pub fault_row : (column : ℕ) (passed : List Passed) (last : Entry) → puts_end.last ≡ skips job passed ++ last ∷ []
          → ((t : ℕ) × (last ≡ entry.Fault job t column) × IsPutFault puts_end.origin.first job (entries_of (view_at w group).seen) (gained w y group) t column) ⊎ IsUnkept rack.columns job (digest_of puts_end.next) column last
          → IsRenewFault s job name geometry group column all_section
      fault_row column passed last is (inl (t, at, f)) = record {
        passed = passed;
        last = last;
        stops = stops (skips job passed ++ last ∷ []) is;
        fault = inl (
          t,
          at,
          subst (λ table. IsPutFault table job (entries_of (view_at u group).seen) (gained u y group) t column) (sym firsts)
              (subst (λ l. IsPutFault puts_end.origin.first job (entries_of (view_at u group).seen) l t column) (sym (both_gained job u w y fetch_work.groups behind.groups group))
              (fault_wider puts_end.origin.first job (entries_of (view_at u group).seen) (gained u w group) (gained w y group) t column
              (subst (λ l. IsPutFault puts_end.origin.first job l (gained w y group) t column) (seen_parts job u w y fetch_work.groups behind.groups group) f))),
        );
      }
      fault_row column passed last is (inr un) = record {
        passed = passed;
        last = last;
        stops = stops (skips job passed ++ last ∷ []) is;
        fault = inr (subst (λ (r : Rack). IsUnkept r.columns job (digest_of puts_end.next) column last) (sym set.rack_is) un);
      }

-- the answer of a put that was refused
pub stopped_row : (job : ℕ) (name : List ℕ) (rack : Rack) (names turn : List TurnName) (u v w : GroupPasses) (ui wi : IndexPasses) (kept : Record)
    (ready : AreReady rack names u) (count : length names ≡ rack.groups) (index_ready : IsIndexReady rack names turn ui) (knows : RowKnowsMore u v)
    (call : IndexCall (FindsRecord job name (Ok kept) v) ui wi) (visits : List Visit) (reads : AreMade job kept.places 0 visits v w)
    (ready_w : AreReady rack names w) (y : GroupPasses) (yi : IndexPasses) (behind : JobWroteOnly job (known w wi) (known y yi))
    (alone : JobOnlyWriter job (known u ui) (known y yi)) (s : Setting) (set : IsSettingOf s rack (known u ui)) (mends : s.mends ≡ true) (filled : AreFilled s)
    (bytes : Vec ℕ Global) (ends : EndsFetch kept visits (Ok bytes) w) (few : length kept.older < 15)
    (geometry : Geometry) (pads : Pads) (draws : RenewsFrom s pads geometry job) (group : ℕ) (cause : PutFault) (none : index.own job (added (view_at wi 0) (view_at yi 0)) ≡ [])
    (puts_end : PutsEnd rack geometry job (blocks_from geometry bytes.items pads) group cause w y)
    → RenewRow s job name geometry (Err (of_put group cause)) (section_of (known u ui) (known y yi))
stopped_row job name rack names turn u v w ui wi kept ready count index_ready knows call visits reads ready_w y yi behind alone s set mends filled bytes ends few geometry pads draws group put_fault.Full none puts_end =
    let e = puts_end.ends in
    full_row job name rack names turn u v w ui wi kept ready count index_ready knows call visits reads ready_w y yi behind alone s set mends filled bytes ends few geometry pads draws group put_fault.Full none puts_end e.0 e.1 e.2
stopped_row job name rack names turn u v w ui wi kept ready count index_ready knows call visits reads ready_w y yi behind alone s set mends filled bytes ends few geometry pads draws group put_fault.LogFull none puts_end =
    let e = puts_end.ends in
    inr (log_full_row job name rack names turn u v w ui wi kept ready count index_ready knows call visits reads ready_w y yi behind alone s set mends filled bytes ends few geometry pads draws group put_fault.LogFull none puts_end e.0 e.1 e.2 e.3 e.4)
stopped_row job name rack names turn u v w ui wi kept ready count index_ready knows call visits reads ready_w y yi behind alone s set mends filled bytes ends few geometry pads draws group (put_fault.Faulted column) none puts_end =
    let e = puts_end.ends in
    inr (fault_row job name rack names turn u v w ui wi kept ready count index_ready knows call visits reads ready_w y yi behind alone s set mends filled bytes ends few geometry pads draws group (put_fault.Faulted column) none puts_end column e.0 e.1 e.2 e.3)

-- WHAT A RENEWAL LOGS IN THE INDEX

abbrev pub renew_entries : ℕ → List ℕ → Record → Split → Result (Unit {0}) RenewFault → List Logged
renew_entries job name r split (Ok u) = bringing (index_entry.Renew job name (mark_of (renewed r split))) (renewed r split) ∷ []
renew_entries job name r split (Err renew_fault.TooOften) = plain (index_entry.Often job name) ∷ []
renew_entries job name r split (Err renew_fault.LogFull) = []
renew_entries job name r split (Err renew_fault.NoMemory) = []

same_added : {X : Type 0} (xs es fs : List X) → xs ++ fs ≡ xs ++ es → es ≡ fs
same_added xs es fs e = sym (append_cancel_left xs fs es e)

none_added : {X : Type 0} (xs es : List X) → xs ≡ xs ++ es → es ≡ []
none_added xs es e = same_added xs es [] (append-nil xs ∙ e)

renew_adds : (job : ℕ) (name : List ℕ) (split : Split) (result : Result (Unit {0}) RenewFault) (s t : IndexView) (es : List Logged) (call : Renews job name split s t result) → t.log ≡ s.log ++ es
    → es ≡ renew_entries job name call.0 split result
renew_adds job name split (Ok u) s t es (r, of, (room, few, is)) log = same_added s.log es _ (sym (ap (λ (i : IndexView). i.log) is) ∙ log)
renew_adds job name split (Err renew_fault.TooOften) s t es (r, of, (room, many, is)) log = same_added s.log es _ (sym (ap (λ (i : IndexView). i.log) is) ∙ log)
renew_adds job name split (Err renew_fault.LogFull) s t es (r, of, (full, is)) log = none_added s.log es (sym (ap (λ (i : IndexView). i.log) is) ∙ log)
renew_adds job name split (Err renew_fault.NoMemory) s t es (r, of, (room, few, is)) log = none_added s.log es (sym (ap (λ (i : IndexView). i.log) is) ∙ log)

renew_of : (job : ℕ) (name : List ℕ) (r : Record) (split : Split) (result : Result (Unit {0}) RenewFault) → AllOf (index.is_of job) (renew_entries job name r split result)
renew_of job name r split (Ok u) = all_one (index.is_of job) (bringing (index_entry.Renew job name (mark_of (renewed r split))) (renewed r split)) (eq-eqb job job refl)
renew_of job name r split (Err renew_fault.TooOften) = all_one (index.is_of job) (plain (index_entry.Often job name)) (eq-eqb job job refl)
renew_of job name r split (Err renew_fault.LogFull) = all_none (index.is_of job)
renew_of job name r split (Err renew_fault.NoMemory) = all_none (index.is_of job)

-- THE RECORD THAT WAS FOUND

module _ (job : ℕ) (name : List ℕ) (rack : Rack) (names turn : List TurnName) (ui wi : IndexPasses) (row : GroupPasses) (kept : Record)
    (index_ready : IsIndexReady rack names turn ui) (call : IndexCall (FindsRecord job name (Ok kept) row) ui wi) where
  abbrev left : IndexView
  left = call.turn.new

  index_within : 0 < length ui.views
  index_within = let a = index_ready.of.1 in let b = index_ready.one in omega (arith, a, b)

  -- what the pass has seen
  its_seen : (view_at wi 0).seen ≡ left.log
  its_seen =
      index_seen (FindsRecord job name (Ok kept) row) ui wi call index_within
      ∙ (sym (append_assoc (view_at ui 0).seen call.turn.others call.turn.entries) ∙ (ap (λ l. l ++ call.turn.entries) (sym call.turn.transition) ∙ sym call.turn.log))

  its_origin : Some (record { rack = call.turn.old.rack; read = call.turn.old.read; names = call.turn.origin.0 }) ≡ (view_at wi 0).origin
  its_origin = call.turn.origin.1 ∙ sym ((search_work job name rack names turn ui wi row (Ok kept) index_ready call 0).origin)

  its_rack : left.rack ≡ rack
  its_rack = call.turn.rack ∙ met_rack job name rack names turn ui wi row (Ok kept) index_ready call

  its_read : records_in (view_at wi 0).origin ≡ left.read
  its_read = sym (ap records_in its_origin) ∙ sym call.turn.read

  still_here : IsRecordOf left.now name kept
  still_here = subst (λ (i : IndexView). IsRecordOf i.now name kept) (sym call.turn.call.0.2) call.turn.call.0.1

  -- the record may get the split of its file that was put
  pub may_renew : (file : List ℕ) (split : Split) (groups : GroupPasses) → length file ≡ kept.length → digest_of file ≡ kept.digest → FitsSplit rack (pieces_of (length file)) split
      → ((r : Record) → r.length ≡ length file → r.digest ≡ digest_of file → SeesFile groups (renewed r split)) → MayRenewBy rack name split groups wi
  may_renew file split groups long digest fits_it sees = (
    left.now,
    subst (λ (r : Rack). ReplaysIndex r (names_read (records_in (view_at wi 0).origin)) (view_at wi 0).seen left.now) its_rack
        (subst (λ (rs : List Record). ReplaysIndex left.rack (names_read rs) (view_at wi 0).seen left.now) (sym its_read)
        (subst (λ (l : List Logged). ReplaysIndex left.rack (names_read left.read) l left.now) (sym its_seen) call.turn.is_new.replays)),
    (
      kept,
      still_here,
      subst (λ n. FitsSplit rack (pieces_of n) split) long fits_it,
      sees kept (sym long) (sym digest),
    ),
  )

  -- THE SAME RECORD LATER
  module _ (R : IndexView → IndexView → Type 0) (yi : IndexPasses) (later : IndexCall R wi yi) where
    abbrev first_origin : CatalogOrigin
    first_origin = record { rack = call.turn.old.rack; read = call.turn.old.read; names = call.turn.origin.0 }

    abbrev later_origin : CatalogOrigin
    later_origin = record { rack = later.turn.old.rack; read = later.turn.old.read; names = later.turn.origin.0 }

    same_origin : first_origin ≡ later_origin
    same_origin = same_Some first_origin later_origin (its_origin ∙ sym later.turn.origin.1)

    later_rack : later.turn.old.rack ≡ left.rack
    later_rack = sym (ap (λ (o : CatalogOrigin). o.rack) same_origin) ∙ sym call.turn.rack

    later_read : later.turn.old.read ≡ left.read
    later_read = sym (ap (λ (o : CatalogOrigin). o.read) same_origin) ∙ sym call.turn.read

    -- a record keeps its file
    pub same_file : (r : Record) → IsRecordOf later.turn.old.now name r → r.length ≡ kept.length
    same_file r is =
        let all : ReplaysIndex left.rack (names_read left.read) (left.log ++ later.turn.others) later.turn.old.now =
        subst (λ (l : List Logged). ReplaysIndex left.rack (names_read left.read) l later.turn.old.now) (later.turn.transition ∙ ap (λ l. l ++ later.turn.others) its_seen)
        (subst (λ (rs : List Record). ReplaysIndex left.rack (names_read rs) later.turn.old.log later.turn.old.now) later_read
        (subst (λ (k : Rack). ReplaysIndex k (names_read later.turn.old.read) later.turn.old.log later.turn.old.now) later_rack later.turn.is_old.replays)) in
        let cut = went_on left.rack (names_read left.read) later.turn.old.now left.log later.turn.others all in
        let same : cut.0 ≡ left.now = leads_once left.rack (names_read left.read) cut.0 left.now left.log cut.1 call.turn.is_new.replays in
        let rest : ReplaysIndex left.rack left.now later.turn.others later.turn.old.now = subst (λ (n : Names). ReplaysIndex left.rack n later.turn.others later.turn.old.now) same cut.2 in
        let it = splits_stay left.rack left.now later.turn.old.now later.turn.others kept call.turn.is_new.names rest still_here.0 in
        let one : it.0 ≡ r = one_record later.turn.old.now.published it.0 r later.turn.is_old.names.ascends it.1 is.0 (it.2.name ∙ (still_here.1 ∙ sym is.1)) in
        sym (ap (λ (q : Record). q.length) one) ∙ it.2.long

-- BEHIND THE PUTS

module _ (job : ℕ) (name : List ℕ) (rack : Rack) (names turn : List TurnName) (u v w : GroupPasses) (ui wi : IndexPasses) (kept : Record)
    (ready : AreReady rack names u) (count : length names ≡ rack.groups) (index_ready : IsIndexReady rack names turn ui) (knows : RowKnowsMore u v)
    (call : IndexCall (FindsRecord job name (Ok kept) v) ui wi) (visits : List Visit) (reads : AreMade job kept.places 0 visits v w)
    (ready_w : AreReady rack names w) (x : GroupPasses) (ready_x : AreReady rack names x) (put_work : RowWroteOnlyFor (of_job job) w x) (ready_wi : IsIndexReady rack names turn wi)
    (split : Split) (result : Result (Unit {0}) RenewFault) (y : GroupPasses) (yi : IndexPasses) (knows_y : RowKnowsMore x y) (last : IndexCall (RenewsSplit job name split result) wi yi) where
  last_adds : last.turn.entries ≡ renew_entries job name last.turn.call.0 split result
  last_adds = renew_adds job name split result last.turn.old last.turn.new last.turn.entries last.turn.call last.turn.log

  last_all : AllOf (index.is_of job) last.turn.entries
  last_all = subst (λ es. AllOf (index.is_of job) es) (sym last_adds) (renew_of job name last.turn.call.0 split result)

  pub put_behind : JobWroteOnly job (known w wi) (known y yi)
  put_behind = record {
    groups = row_work_in_parts (of_job job) w x y put_work (known_work job rack names x y ready_x knows_y);
    index = index_work job rack names turn (RenewsSplit job name split result) wi yi ready_wi last last_all;
  }

  pub renewed_work : JobWroteOnly job (known u ui) (known y yi)
  renewed_work = whole_work job name rack names turn u v w ui wi kept ready count index_ready knows call visits reads ready_w y yi put_behind

  module _ (alone : JobOnlyWriter job (known u ui) (known y yi)) (s : Setting) (set : IsSettingOf s rack (known u ui)) (mends : s.mends ≡ true) (filled : AreFilled s)
      (bytes : Vec ℕ Global) (ends : EndsFetch kept visits (Ok bytes) w) (few : length kept.older < 15) (geometry : Geometry) (pads : Pads) (draws : RenewsFrom s pads geometry job)
      (made : Stored) (is : IsFileSplit rack geometry job bytes.items pads made split w x) where
    abbrev its_parts : JobOnlyWriter job (known u ui) (known w wi) × JobOnlyWriter job (known w wi) (known y yi)
    its_parts = both_alone job name rack names turn u v w ui wi kept ready count index_ready knows call visits reads ready_w y yi put_behind alone s set mends filled bytes ends few

    put_parts : RowOnlyWriterOf (of_job job) w x × RowOnlyWriterOf (of_job job) x y
    put_parts = row_alone_in_parts (of_job job) w x y put_work (known_work job rack names x y ready_x knows_y) its_parts.1.groups

    own_y : (g : ℕ) → own job (gained w y g) ≡ own job (gained w x g)
    own_y g = own_more job w x y put_work (known_work job rack names x y ready_x knows_y) g
        ∙ (ap (λ l. own job (gained w x g) ++ l) (known_none job rack names x y ready_x knows_y put_parts.1 g) ∙ append-nil (own job (gained w x g)))

    puts_y : (g : ℕ) → Puts job (in_group g is.puts.placed) (own job (gained w y g))
    puts_y g = subst (λ es. Puts job (in_group g is.puts.placed) es) (sym (own_y g)) (is.puts.puts put_parts.0 g)

    placed_long : length is.puts.placed ≡ length split.places
    placed_long = sym (ap length is.puts.places_are ∙ length-map is.puts.placed place_of)

    blocks_long : length is.puts.placed ≡ length (blocks_from geometry bytes.items pads)
    blocks_long = placed_long ∙ (is.many ∙ sym (place_laws.count geometry bytes.items (random_from geometry bytes.items pads)))

    index_last : index.own job (added (view_at wi 0) (view_at yi 0)) ≡ renew_entries job name last.turn.call.0 split result
    index_last = index_own job rack names turn (RenewsSplit job name split result) wi yi ready_wi last last_all its_parts.1.index ∙ last_adds

    all_are : (more : List Logged) → renew_entries job name last.turn.call.0 split result ≡ more → AllPut more s job name geometry is.puts.placed (section_of (known u ui) (known y yi))
    all_are more e = all_are_put job name rack names turn u v w ui wi kept ready count index_ready knows call visits reads ready_w y yi put_behind alone s set mends filled bytes ends few
        geometry pads more split.places x (index_last ∙ e) draws is.puts blocks_long puts_y

    pub no_memory_row : result ≡ Err renew_fault.NoMemory → RenewRow s job name geometry (Err fault.NoMemory) (section_of (known u ui) (known y yi))
    no_memory_row e = inr (is.puts.placed, all_are [] (ap (renew_entries job name last.turn.call.0 split) e))

    pub often_row : result ≡ Err renew_fault.TooOften → RenewRow s job name geometry (Err fault.TooOften) (section_of (known u ui) (known y yi))
    often_row e = inr (record { placed = is.puts.placed; all = all_are (plain (index_entry.Often job name) ∷ []) (ap (renew_entries job name last.turn.call.0 split) e) })

    pub index_full_row : result ≡ Err renew_fault.LogFull → RenewRow s job name geometry (Err fault.IndexLogFull) (section_of (known u ui) (known y yi))
    index_full_row e =
        let w2 : Section = section_of (known u ui) (known y yi) in
        let old = last.turn.old in
        let none : last.turn.entries ≡ [] = last_adds ∙ ap (renew_entries job name last.turn.call.0 split) e in
        let within : 0 < length wi.views = (let a = ready_wi.of.1 in let b = ready_wi.one in omega (arith, a, b)) in
        let seen : (view_at yi 0).seen ≡ old.log =
        index_seen (RenewsSplit job name split result) wi yi last within ∙ (ap (λ es. (view_at wi 0).seen ++ (last.turn.others ++ es)) none ∙ (ap (λ es. (view_at wi 0).seen ++ es) (append-nil last.turn.others) ∙ sym last.turn.transition)) in
        let log : w2.index_before ++ w2.index_added ≡ old.log = sym (renewed_work.index 0).seen ∙ seen in
        let origin : (view_at wi 0).origin ≡ (view_at ui 0).origin = (search_work job name rack names turn ui wi v (Ok kept) index_ready call 0).origin in
        let read : s.read ≡ old.read = subst (λ o. IfSome o (λ q. s.read ≡ q.read)) (sym (last.turn.origin.1 ∙ origin)) set.read in
        let leads : names_after (names_read s.read) (w2.index_before ++ w2.index_added) ≡ old.now =
        ap (names_after (names_read s.read)) log ∙ (ap (λ r. names_after (names_read r) old.log) read ∙ names_to old.rack (names_read old.read) old.log old.now last.turn.is_old.replays) in
        let full = full_is last.turn.call e in
        inr (record {
          placed = is.puts.placed;
          all = all_are [] (ap (renew_entries job name last.turn.call.0 split) e);
          log = w2.index_before ++ w2.index_added;
          moment = record { sofar = w2.index_added; later = []; parts = sym (append-nil w2.index_added); last = refl; is = refl };
          full = (let a : length (w2.index_before ++ w2.index_added) ≡ length old.log = ap length log in
              let b : length (names_after (names_read s.read) (w2.index_before ++ w2.index_added)).reserved ≡ length old.now.reserved = ap (λ (n : Names). length n.reserved) leads in
              omega (arith, full, a, b));
        })
      where
        full_is : (r : Renews job name split last.turn.old last.turn.new result) → result ≡ Err renew_fault.LogFull → log_bound < (length last.turn.old.log + length last.turn.old.now.reserved) + 1
        full_is r e2 = (subst (λ a. Renews job name split last.turn.old last.turn.new a) e2 r).2.0

    pub renewed_row : (t : Unit {0}) → result ≡ Ok t → RenewRow s job name geometry (Ok made) (section_of (known u ui) (known y yi))
    renewed_row t e =
        let r : Record = last.turn.call.0 in
        let file_long : length bytes.items ≡ kept.length = ends.1.long in
        let long : r.length ≡ kept.length = same_file job name rack names turn ui wi v kept index_ready call (RenewsSplit job name split result) yi last r last.turn.call.1 in
        record {
          placed = is.puts.placed;
          now = renewed r split;
          all = all_are (bringing (index_entry.Renew job name (mark_of (renewed r split))) (renewed r split) ∷ []) (ap (renew_entries job name r split) e);
          named = last.turn.call.1.1;
          geometry_is = is.geometry_is;
          places = is.puts.places_are;
          pieces_is = is.pieces_is ∙ ap pieces_of (file_long ∙ sym long);
          shards_is = is.shards_is ∙ sym placed_long;
        }

    pub unrenewed_row : (f : RenewFault) → result ≡ Err f → RenewRow s job name geometry (Err (of_renew f)) (section_of (known u ui) (known y yi))
    unrenewed_row renew_fault.LogFull e = index_full_row e
    unrenewed_row renew_fault.TooOften e = often_row e
    unrenewed_row renew_fault.NoMemory e = no_memory_row e

-- A RECORD WITH 16 SPLITS

-- nothing but the search was logged
pub often_now : (job : ℕ) (name : List ℕ) (rack : Rack) (names turn : List TurnName) (u v : GroupPasses) (ui wi : IndexPasses) (kept : Record)
    (ready : AreReady rack names u) (ready_v : AreReady rack names v) (count : length names ≡ rack.groups) (index_ready : IsIndexReady rack names turn ui) (knows : RowKnowsMore u v)
    (call : IndexCall (FindsRecord job name (Ok kept) v) ui wi) → length kept.older ≡ 15
    → JobOnlyWriter job (known u ui) (known v wi) → (s : Setting) → IsSettingOf s rack (known u ui) → s.mends ≡ true → AreFilled s → IsOften s job name (section_of (known u ui) (known v wi))
often_now job name rack names turn u v ui wi kept ready ready_v count index_ready knows call many alone s set mends filled =
    let none = no_reads job kept.places 0 0 v ready_v.idle in
    record {
      kept = kept;
      found = found job name rack names turn u v v ui wi kept ready count index_ready knows call [] none alone s set mends filled;
      many = many;
      groups = logs job name rack names turn u v v ui wi kept ready count index_ready knows call [] none alone s set mends filled;
    }

pub often_work : (job : ℕ) (name : List ℕ) (rack : Rack) (names turn : List TurnName) (u v : GroupPasses) (ui wi : IndexPasses) (kept : Record)
    (ready : AreReady rack names u) (ready_v : AreReady rack names v) (count : length names ≡ rack.groups) (index_ready : IsIndexReady rack names turn ui) (knows : RowKnowsMore u v)
    (call : IndexCall (FindsRecord job name (Ok kept) v) ui wi) → JobWroteOnly job (known u ui) (known v wi)
often_work job name rack names turn u v ui wi kept ready ready_v count index_ready knows call =
    all_work job name rack names turn u v v ui wi kept ready count index_ready knows call [] (no_reads job kept.places 0 0 v ready_v.idle)

-- NO MEMORY FOR THE NEW SPLIT

pub unplanned_row : (job : ℕ) (name : List ℕ) (rack : Rack) (names turn : List TurnName) (u v w : GroupPasses) (ui wi : IndexPasses) (kept : Record)
    (ready : AreReady rack names u) (count : length names ≡ rack.groups) (index_ready : IsIndexReady rack names turn ui) (knows : RowKnowsMore u v)
    (call : IndexCall (FindsRecord job name (Ok kept) v) ui wi) (visits : List Visit) (reads : AreMade job kept.places 0 visits v w)
    (bytes : Vec ℕ Global) (ends : EndsFetch kept visits (Ok bytes) w) (geometry : Geometry)
    → JobOnlyWriter job (known u ui) (known w wi) → (s : Setting) → IsSettingOf s rack (known u ui) → s.mends ≡ true → AreFilled s
    → RenewRow s job name geometry (Err fault.NoMemory) (section_of (known u ui) (known w wi))
unplanned_row job name rack names turn u v w ui wi kept ready count index_ready knows call visits reads bytes ends geometry alone s set mends filled =
    inl (unfinished job name rack names turn u v w ui wi kept ready count index_ready knows call visits reads alone s set mends filled
    (file_room job name rack names turn u v w ui wi kept ready count index_ready knows call visits reads alone s set mends filled ends.0 bytes.items ends.1))

-- REFUSED BEHIND A FETCH

module _ (job : ℕ) (name : List ℕ) (rack : Rack) (names turn : List TurnName) (u v w : GroupPasses) (ui wi : IndexPasses) (kept : Record)
    (ready : AreReady rack names u) (count : length names ≡ rack.groups) (index_ready : IsIndexReady rack names turn ui) (knows : RowKnowsMore u v)
    (call : IndexCall (FindsRecord job name (Ok kept) v) ui wi) (visits : List Visit) (reads : AreMade job kept.places 0 visits v w)
    (ready_w : AreReady rack names w) (x : GroupPasses) (put_work : RowWroteOnlyFor (of_job job) w x) (ready_wi : IsIndexReady rack names turn wi) where
  puts_behind : JobWroteOnly job (known w wi) (known x wi)
  puts_behind = record { groups = put_work; index = row_stays (index.is_of job) wi (index_idle rack names turn wi ready_wi) }

  pub split_work : JobWroteOnly job (known u ui) (known x wi)
  split_work = whole_work job name rack names turn u v w ui wi kept ready count index_ready knows call visits reads ready_w x wi puts_behind

  module _ (alone : JobOnlyWriter job (known u ui) (known x wi)) (s : Setting) (set : IsSettingOf s rack (known u ui)) (mends : s.mends ≡ true) (filled : AreFilled s)
      (bytes : Vec ℕ Global) (ends : EndsFetch kept visits (Ok bytes) w) (few : length kept.older < 15) (geometry : Geometry) (pads : Pads) (draws : RenewsFrom s pads geometry job) where
    stops_row : (e : RenewFileFault) → StopsAtPut rack geometry job bytes.items pads e w x → RenewRow s job name geometry (Err e) (section_of (known u ui) (known x wi))
    stops_row e is =
        subst (λ (f : RenewFileFault). RenewRow s job name geometry (Err f) (section_of (known u ui) (known x wi))) (sym is.is)
        (stopped_row job name rack names turn u v w ui wi kept ready count index_ready knows call visits reads ready_w x wi puts_behind alone s set mends filled bytes ends few geometry pads draws is.group is.cause
        (ap (index.own job) (drop-length (view_at wi 0).seen))
        (is.ends (both_alone job name rack names turn u v w ui wi kept ready count index_ready knows call visits reads ready_w x wi puts_behind alone s set mends filled bytes ends few).1.groups))

    unplanned : x ≡ w → RenewRow s job name geometry (Err fault.NoMemory) (section_of (known u ui) (known x wi))
    unplanned same =
        subst (λ (y : GroupPasses). JobOnlyWriter job (known u ui) (known y wi) → RenewRow s job name geometry (Err fault.NoMemory) (section_of (known u ui) (known y wi))) (sym same)
        (λ here. unplanned_row job name rack names turn u v w ui wi kept ready count index_ready knows call visits reads bytes ends geometry here s set mends filled) alone

    pub refused_row : (e : RenewFileFault) → PutsSplit rack geometry job bytes.items pads (Err e) w x → RenewRow s job name geometry (Err e) (section_of (known u ui) (known x wi))
    refused_row fault.NoMemory same = unplanned same
    refused_row fault.IndexLogFull is = stops_row fault.IndexLogFull is
    refused_row fault.Absent is = stops_row fault.Absent is
    refused_row fault.TooOften is = stops_row fault.TooOften is
    refused_row (fault.Faulted group column) is = stops_row (fault.Faulted group column) is
    refused_row (fault.Lost piece fragment have need) is = stops_row (fault.Lost piece fragment have need) is
    refused_row (fault.LogFull group) is = stops_row (fault.LogFull group) is
    refused_row (fault.Odd wanted found) is = stops_row (fault.Odd wanted found) is
    refused_row (fault.Full group) is = stops_row (fault.Full group) is

-- NO RECORD

pub unfound_row : (job : ℕ) (name : List ℕ) (rack : Rack) (names turn : List TurnName) (u v : GroupPasses) (ui wi : IndexPasses) (e : FindFault)
    (ready : AreReady rack names u) (index_ready : IsIndexReady rack names turn ui) (knows : RowKnowsMore u v) (call : IndexCall (FindsRecord job name (Err e) v) ui wi) (geometry : Geometry)
    → JobOnlyWriter job (known u ui) (known v wi) → (s : Setting) → IsSettingOf s rack (known u ui) → RenewRow s job name geometry (Err (of_find e)) (section_of (known u ui) (known v wi))
unfound_row job name rack names turn u v ui wi find_fault.LogFull ready index_ready knows call geometry alone s set =
    inl (index_full job name rack names turn u v ui wi find_fault.LogFull ready index_ready knows call alone refl s set)
unfound_row job name rack names turn u v ui wi find_fault.Absent ready index_ready knows call geometry alone s set =
    absent_row job name rack names turn u v ui wi find_fault.Absent ready index_ready knows call alone refl
unfound_row job name rack names turn u v ui wi find_fault.NoMemory ready index_ready knows call geometry alone s set =
    inl (silent_row job name rack names turn u v ui wi find_fault.NoMemory ready index_ready knows call alone refl s)
