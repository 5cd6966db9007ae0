-- The search for a record: what it logs, and the answers where none is found.
use Rattle.std.proofs.Common.{◌≡◌, ◌<◌, inl, ℕ, true, false, List, [], ◌∷◌, ◌++◌, length, refl, ap, sym, ◌∙◌, subst, arith, append-nil, append_assoc, eq-eqb}
use Rattle.std.specs.Prelude.{Option, Some, IfSome, Result, Ok, Err}
use Rattle.std.proofs.lemmas.List.Elements.{All-contains}
use Rattle.pot_bytes.specs.declared.rack.Rack.{Rack}
use Rattle.pot_index.specs.declared.entry.IndexEntry.TheVariants.{Find}
use Rattle.pot_index.specs.declared.entry.Logged.{Logged}
use Rattle.pot_index.specs.declared.fault.FindFault.{FindFault}
use Rattle.pot_index.specs.declared.fault.FindFault.TheVariants as find
use Rattle.pot_index.specs.declared.record.Record.{Record}
use Rattle.pot_index.specs.Calls.{Finds}
use Rattle.pot_index.specs.Entries as index
use Rattle.pot_index.specs.Entries.{plain}
use Rattle.pot_index.specs.Fits.{FitsRack}
use Rattle.pot_index.specs.Index.{IndexView, Names, names_read}
use Rattle.pot_turn.specs.declared.name.TurnName.{TurnName}
use Rattle.pot_worked.specs.WroteOnlyFor.{added}
use Rattle.pot_worked.specs.Laws.{AllOf}
use Rattle.pot_worked.proofs.WroteOnlyForLemmas.{behind}
use Rattle.pot_rows.specs.Rows.{view_at}
use Rattle.pot_rows.specs.Works.{RowWroteOnlyFor, RowOnlyWriterOf}
use Rattle.pot_rows.proofs.RowLemmas.{at_set}
use Rattle.pot_machine.specs.Logs.{own}
use Rattle.pot_replies.specs.Sections.{Section, mine, names_after}
use Rattle.pot_replies.specs.Settings.{Setting}
use Rattle.pot_replies.specs.Listings.{IsIndexFull}
use Rattle.pot_replies.specs.Fetches.{IsFetchAbsent}
use Rattle.pot_shared.specs.declared.catalog.CatalogOrigin.{CatalogOrigin}
use Rattle.pot_shared.specs.Ready.{GroupPasses, AreReady}
use Rattle.pot_shared.specs.Seen.{RowKnowsMore}
use Rattle.pot_shared.specs.Catalogs.{IndexPass, IndexPasses, IsIndexReady, IsIndexOf}
use Rattle.pot_shared.specs.IndexCalls.{IndexCall, FindsRecord}
use Rattle.pot_shared.specs.Works.{gained, known, section_of, JobWroteOnly, JobOnlyWriter, IsSettingOf}
use Rattle.pot_store.specs.Fetches.{IsUnfinished}
use Rattle.pot_shared.proofs.WorkLemmas.{all_none, all_one, known_work, known_none, index_work, index_own}
use Rattle.pot_store.proofs.IndexLemmas.{names_to}

-- WHAT A SEARCH LOGS

abbrev pub found_entries : ℕ → List ℕ → Result Record FindFault → List Logged
found_entries job name (Ok r) = plain (Find job name true) ∷ []
found_entries job name (Err find.Absent) = plain (Find job name false) ∷ []
found_entries job name (Err find.LogFull) = []
found_entries job name (Err find.NoMemory) = []

all_found : (job : ℕ) (name : List ℕ) (result : Result Record FindFault) → AllOf (index.is_of job) (found_entries job name result)
all_found job name (Ok r) = all_one (index.is_of job) (plain (Find job name true)) (eq-eqb job job refl)
all_found job name (Err find.Absent) = all_one (index.is_of job) (plain (Find job name false)) (eq-eqb job job refl)
all_found job name (Err find.LogFull) = all_none (index.is_of job)
all_found job name (Err find.NoMemory) = all_none (index.is_of job)

same_log : (s t : IndexView) → t ≡ s → t.log ≡ s.log ++ []
same_log s t e = ap (λ (i : IndexView). i.log) e ∙ sym (append-nil s.log)

found_log : (job : ℕ) (name : List ℕ) (s t : IndexView) (result : Result Record FindFault) → Finds job name s t result → t.log ≡ s.log ++ found_entries job name result
found_log job name s t (Ok r) is = ap (λ (i : IndexView). i.log) is.2
found_log job name s t (Err find.Absent) is = ap (λ (i : IndexView). i.log) is.2
found_log job name s t (Err find.LogFull) is = same_log s t is.1
found_log job name s t (Err find.NoMemory) is = same_log s t is.2

module _ (job : ℕ) (name : List ℕ) (rack : Rack) (names turn : List TurnName) (u w : IndexPasses) (row : GroupPasses) (result : Result Record FindFault)
    (ready : IsIndexReady rack names turn u) (call : IndexCall (FindsRecord job name result row) u w) where
  finds : Finds job name call.turn.old call.turn.new result
  finds = call.turn.call.0

  search_entries : call.turn.entries ≡ found_entries job name result
  search_entries =
      sym (behind call.turn.new.log call.turn.old.log call.turn.entries call.turn.log)
      ∙ behind call.turn.new.log call.turn.old.log (found_entries job name result) (found_log job name call.turn.old call.turn.new result finds)

  all_its : AllOf (index.is_of job) call.turn.entries
  all_its = subst (λ es. AllOf (index.is_of job) es) (sym search_entries) (all_found job name result)

  pub search_work : RowWroteOnlyFor (index.is_of job) u w
  search_work = index_work job rack names turn (FindsRecord job name result row) u w ready call all_its

  pub search_own : RowOnlyWriterOf (index.is_of job) u w → index.own job (added (view_at u 0) (view_at w 0)) ≡ found_entries job name result
  search_own alone = index_own job rack names turn (FindsRecord job name result row) u w ready call all_its alone ∙ search_entries

  within : 0 < length u.views
  within = let a = ready.of.1 in let b = ready.one in omega (arith, a, b)

  its_seen : (view_at w 0).seen ≡ ((view_at u 0).seen ++ call.turn.others) ++ call.turn.entries
  its_seen =
      ap (λ (r : IndexPasses). (view_at r 0).seen) call.is
      ∙ (ap (λ (v : IndexPass). v.seen) (at_set u 0 call.pass within) ∙ ap (λ (v : IndexPass). v.seen) call.turn.turn)

  pub search_gain : added (view_at u 0) (view_at w 0) ≡ call.turn.others ++ found_entries job name result
  search_gain =
      behind (view_at w 0).seen (view_at u 0).seen (call.turn.others ++ call.turn.entries) (its_seen ∙ append_assoc (view_at u 0).seen call.turn.others call.turn.entries)
      ∙ ap (λ es. call.turn.others ++ es) search_entries

  -- the rack of the index that was met
  pub met_rack : call.turn.old.rack ≡ rack
  met_rack = at_origin (view_at u 0).origin call.turn.origin.1 ready.origin
    where
      at_origin : (o : Option CatalogOrigin) → Some (record { rack = call.turn.old.rack; read = call.turn.old.read; names = call.turn.origin.0 }) ≡ o → IsIndexOf rack names o → call.turn.old.rack ≡ rack
      at_origin o same is = (subst (λ x. IsIndexOf rack names x) (sym same) is).0

  module _ (s : Setting) (groups : GroupPasses) (set : IsSettingOf s rack (known groups u)) where
    pub met_read : s.read ≡ call.turn.old.read
    met_read = subst (λ o. IfSome o (λ x. s.read ≡ x.read)) (sym call.turn.origin.1) set.read

    pub met_names : names_after (names_read s.read) ((view_at u 0).seen ++ call.turn.others) ≡ call.turn.old.now
    met_names =
        ap (λ r. names_after (names_read r) ((view_at u 0).seen ++ call.turn.others)) met_read
        ∙ (ap (names_after (names_read call.turn.old.read)) (sym call.turn.transition)
        ∙ names_to call.turn.old.rack (names_read call.turn.old.read) call.turn.old.log call.turn.old.now call.turn.is_old.replays)

-- the record that was found fits the rack
pub found_fits : (job : ℕ) (name : List ℕ) (rack : Rack) (names turn : List TurnName) (u w : IndexPasses) (row : GroupPasses) (kept : Record)
    → IsIndexReady rack names turn u → IndexCall (FindsRecord job name (Ok kept) row) u w → FitsRack rack kept
found_fits job name rack names turn u w row kept ready call =
    subst (λ r. FitsRack r kept) (met_rack job name rack names turn u w row (Ok kept) ready call)
    (All-contains (FitsRack call.turn.old.rack) call.turn.old.now.published kept call.turn.is_old.names.fits call.turn.call.0.1.0)

-- NO RECORD

module _ (job : ℕ) (name : List ℕ) (rack : Rack) (names turn : List TurnName) (u v : GroupPasses) (ui wi : IndexPasses) (e : FindFault)
    (ready : AreReady rack names u) (index_ready : IsIndexReady rack names turn ui) (knows : RowKnowsMore u v) (call : IndexCall (FindsRecord job name (Err e) v) ui wi) where
  pub lone_work : JobWroteOnly job (known u ui) (known v wi)
  lone_work = record { groups = known_work job rack names u v ready knows; index = search_work job name rack names turn ui wi v (Err e) index_ready call }

  abbrev lone : Section
  lone = section_of (known u ui) (known v wi)

  module _ (alone : JobOnlyWriter job (known u ui) (known v wi)) where
    none_logged : (g : ℕ) → own job (gained u v g) ≡ []
    none_logged g = known_none job rack names u v ready knows alone.groups g

    logged : index.own job lone.index_added ≡ found_entries job name (Err e)
    logged = search_own job name rack names turn ui wi v (Err e) index_ready call alone.index

    pub absent_row : e ≡ find.Absent → IsFetchAbsent job name (mine job lone)
    absent_row is = record { index = logged ∙ ap (λ x. found_entries job name (Err x)) is; groups = none_logged }

    pub silent_row : e ≡ find.NoMemory → (s : Setting) → IsUnfinished s job name lone
    silent_row is s = inl (none_logged, logged ∙ ap (λ x. found_entries job name (Err x)) is)

    pub index_full_row : e ≡ find.LogFull → (s : Setting) → IsSettingOf s rack (known u ui) → IsIndexFull s 1 job lone
    index_full_row is s set =
        let old = call.turn.old in
        let nothing : found_entries job name (Err e) ≡ [] = ap (λ x. found_entries job name (Err x)) is in
        let gain : lone.index_added ≡ call.turn.others ++ [] = search_gain job name rack names turn ui wi v (Err e) index_ready call ∙ ap (λ l. call.turn.others ++ l) nothing in
        let log : lone.index_before ++ lone.index_added ≡ (view_at ui 0).seen ++ call.turn.others = ap (λ l. lone.index_before ++ l) (gain ∙ append-nil call.turn.others) in
        let reserved : names_after (names_read s.read) (lone.index_before ++ lone.index_added) ≡ old.now =
        ap (names_after (names_read s.read)) log ∙ met_names job name rack names turn ui wi v (Err e) index_ready call s u set in
        let full = (subst (λ x. Finds job name old call.turn.new (Err x)) is call.turn.call.0).0 in
        record {
          silent = (none_logged, logged ∙ nothing);
          log = lone.index_before ++ lone.index_added;
          moment = record { sofar = lone.index_added; later = []; parts = sym (append-nil lone.index_added); last = refl; is = refl };
          full = (let a : length (lone.index_before ++ lone.index_added) ≡ length old.log = ap length (log ∙ sym call.turn.transition) in
              let b : length (names_after (names_read s.read) (lone.index_before ++ lone.index_added)).reserved ≡ length old.now.reserved = ap (λ (x : Names). length x.reserved) reserved in
              omega (arith, full, a, b));
        }
