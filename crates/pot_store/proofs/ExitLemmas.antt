-- The ends of a store: each call of it came after the one before.
use Rattle.std.proofs.Common.{◌≡◌, ◌≤◌, ◌*◌, ℕ, List, ◌∷◌, ◌++◌, length, refl, ap, sym, ◌∙◌, subst, arith, append-nil}
use Rattle.std.specs.Prelude.{Result, Ok, Err, Any, map}
use Rattle.std.proofs.lemmas.List.{length-map}
use Rattle.pot_bytes.specs.Lists.{AreBytes}
use Rattle.pot_bytes.specs.declared.rack.Place.{Place}
use Rattle.pot_bytes.specs.declared.rack.Rack.{Rack}
use Rattle.pot_object.specs.Pieces.{longest, pieces_of}
use Rattle.pot_pads.specs.Pads.{Pads}
use Rattle.pot_bytes.specs.Digests.{digest_of}
use Rattle.pot_shard.proofs.PlaceLemmas.{place_laws}
use Rattle.pot_group.specs.declared.answers.PutFault.{PutFault}
use Rattle.pot_index.specs.declared.record.Record.{Record}
use Rattle.pot_index.specs.Entries as index
use Rattle.pot_index.specs.declared.entry.IndexEntry.TheVariants as entry
use Rattle.pot_index.specs.Ending.{EndsAt}
use Rattle.pot_index.specs.Entries.{plain, entries, IsReserving}
use Rattle.pot_turn.specs.declared.name.TurnName.{TurnName}
use Rattle.pot_worked.specs.Laws.{AllOf}
use Rattle.pot_rows.specs.Works.{RowWroteOnlyFor, RowOnlyWriterOf}
use Rattle.pot_rows.proofs.WorkLemmas.{row_work_in_parts, row_alone_in_parts}
use Rattle.pot_machine.specs.Logs.{own}
use Rattle.pot_replies.specs.Settings.{Setting}
use Rattle.pot_replies.specs.Stores.{Puts, in_group, place_of}
use Rattle.pot_shared.specs.declared.catalog.ReservationLost.{ReservationLost}
use Rattle.pot_shared.specs.Ready.{GroupPasses, AreReady}
use Rattle.pot_shared.specs.Seen.{RowKnowsMore}
use Rattle.pot_shared.specs.Catalogs.{IndexPasses, IsIndexReady}
use Rattle.pot_shared.specs.IndexCalls.{IndexCall, HasReserved, ReservesName, Abandons, PublishesRecord}
use Rattle.pot_store.specs.Drawing.{random_from, blocks_from}
use Rattle.pot_shared.specs.Works.{of_job, gained, known, JobWroteOnly, JobOnlyWriter, section_of, IsSettingOf}
use Rattle.pot_store.specs.Puts.{ArePut, PutsEnd}
use Rattle.pot_store.specs.Stores.{StoreRow, DrawsFrom, record_of, fault_of}
use Rattle.pot_shared.proofs.WorkLemmas.{own_more, known_work, known_none}
use Rattle.pot_store.proofs.PutLemmas.{take_all}
use Rattle.pot_store.proofs.IndexLemmas.{all_publish, publish_adds, all_abandon, abandon_adds}
use Rattle.pot_store.proofs.StoreLemmas.{reserved_seen, index_job, index_owns, not_strange, stored_row, refused_row}
use Rattle.pot_store.proofs.PublishLemmas.{any_last}

module _ (job : ℕ) (name file : List ℕ) (rack : Rack) (names turn : List TurnName) (g0 g1 g2 : GroupPasses) (i0 i1 i2 : IndexPasses) (u : Unit {0})
    (ready0 : AreReady rack names g0) (index0 : IsIndexReady rack names turn i0) (same1 : g1 ≡ g0) (reserve : IndexCall (ReservesName job name (Ok u)) i0 i1)
    (index1 : IsIndexReady rack names turn i1) (same2 : i2 ≡ i1) (worked : RowWroteOnlyFor (of_job job) g1 g2) where
  reserve2 : IndexCall (ReservesName job name (Ok u)) i0 i2
  reserve2 = subst (λ (i : IndexPasses). IndexCall (ReservesName job name (Ok u)) i0 i) (sym same2) reserve

  index2 : IsIndexReady rack names turn i2
  index2 = subst (λ (i : IndexPasses). IsIndexReady rack names turn i) (sym same2) index1

  worked2 : RowWroteOnlyFor (of_job job) g0 g2
  worked2 = subst (λ (g : GroupPasses). RowWroteOnlyFor (of_job job) g g2) same1 worked

  pub has_reserved : HasReserved job name i2
  has_reserved = subst (λ es. Any (IsReserving job name) es) (sym (reserved_seen job name file rack names turn g0 g2 i0 i2 u ready0.idle index0 reserve2 index2)) (any_last job name _)

  -- the record was published
  module _ (r : Record) (result : Result (Unit {0}) ReservationLost) (g3 : GroupPasses) (i3 : IndexPasses) (named : r.name ≡ name) (ready2 : AreReady rack names g2) (knows : RowKnowsMore g2 g3)
      (call : IndexCall (PublishesRecord job r result) i2 i3) where
    published_of : AllOf (index.is_of job) call.turn.entries
    published_of = all_publish job r result call.turn.old call.turn.new call.turn.entries call.turn.call call.turn.log

    pub published_work : JobWroteOnly job (known g0 i0) (known g3 i3)
    published_work = record {
      groups = row_work_in_parts (of_job job) g0 g2 g3 worked2 (known_work job rack names g2 g3 ready2 knows);
      index = index_job job name file rack names turn g0 g2 i0 i2 u ready0.idle index0 reserve2 index2 (PublishesRecord job r result) i3 call published_of;
    }

    its_alone : JobOnlyWriter job (known g0 i0) (known g3 i3) → RowOnlyWriterOf (of_job job) g0 g2 × RowOnlyWriterOf (of_job job) g2 g3
    its_alone alone = row_alone_in_parts (of_job job) g0 g2 g3 worked2 (known_work job rack names g2 g3 ready2 knows) alone.groups

    its_owns : (alone : JobOnlyWriter job (known g0 i0) (known g3 i3)) (g : ℕ) → own job (gained g0 g3 g) ≡ own job (gained g0 g2 g)
    its_owns alone g =
        own_more job g0 g2 g3 worked2 (known_work job rack names g2 g3 ready2 knows) g
        ∙ (ap (λ es. own job (gained g0 g2 g) ++ es) (known_none job rack names g2 g3 ready2 knows (its_alone alone).1 g) ∙ append-nil (own job (gained g0 g2 g)))

  pub published_row : (pads : Pads) (places : List Place) (pieces shards : ℕ) (v : Unit {0}) (g3 : GroupPasses) (i3 : IndexPasses) (ready2 : AreReady rack names g2) (knows : RowKnowsMore g2 g3)
      → IndexCall (PublishesRecord job (record_of name file rack.geometry places) (Ok v)) i2 i3 → ArePut rack rack.geometry job (blocks_from rack.geometry file pads) places g1 g2
      → AreBytes file → length file ≤ longest → pieces ≡ pieces_of (length file) → shards ≡ pieces_of (length file) * (rack.geometry.fragments * rack.geometry.shards) → length places ≡ shards
      → JobOnlyWriter job (known g0 i0) (known g3 i3) → (s : Setting) → IsSettingOf s rack (known g0 i0) → DrawsFrom s pads job file
      → StoreRow s job name file (Ok (record { pieces = pieces; shards = shards })) (section_of (known g0 i0) (known g3 i3))
  published_row pads places pieces shards v g3 i3 ready2 knows call puts bytes short pieces_is shards_is count alone s set draws =
      let r = record_of name file rack.geometry places in
      let blocks = blocks_from rack.geometry file pads in
      let long : length puts.placed ≡ length places = sym (ap length puts.places_are ∙ length-map puts.placed place_of) in
      let many : length blocks ≡ pieces_of (length file) * (rack.geometry.fragments * rack.geometry.shards) = place_laws.count rack.geometry file (random_from rack.geometry file pads) in
      let all = all_publish job r (Ok v) call.turn.old call.turn.new call.turn.entries call.turn.call call.turn.log in
      let is = publish_adds job r (Ok v) call.turn.old call.turn.new call.turn.entries call.turn.call call.turn.log in
      let parts = its_alone r (Ok v) g3 i3 refl ready2 knows call alone in
      stored_row job name file rack s pads g0 g3 i0 i3 blocks places pieces shards puts.placed bytes short set.rack_is draws
      (ap (λ (q : Rack). map digest_of (blocks_from q.geometry file pads)) (sym set.rack_is)) puts.places_are
      (puts.digests ∙ ap (map digest_of) (take_all blocks (length puts.placed) (omega (arith, long, count, shards_is, many)))) puts.fits pieces_is (sym count ∙ sym long)
      (index_owns job name file rack names turn g0 g2 i0 i2 u ready0.idle index0 reserve2 index2 (PublishesRecord job r (Ok v)) i3 call all alone.index ∙ ap (λ es. plain (entry.Reserve job name) ∷ es) is)
      (λ g. subst (λ es. Puts job (in_group g puts.placed) es) (sym (its_owns r (Ok v) g3 i3 refl ready2 knows call alone g))
      (subst (λ (x : GroupPasses). Puts job (in_group g puts.placed) (own job (gained x g2 g))) same1 (puts.puts (subst (λ (x : GroupPasses). RowOnlyWriterOf (of_job job) x g2) (sym same1) parts.0) g)))

  pub published_not : (r : Record) (e : ReservationLost) (g3 : GroupPasses) (i3 : IndexPasses) → r.name ≡ name → IndexCall (PublishesRecord job r (Err e)) i2 i3
      → JobOnlyWriter job (known g0 i0) (known g3 i3) → ⊥
  published_not r e g3 i3 named call alone =
      let all = all_publish job r (Err e) call.turn.old call.turn.new call.turn.entries call.turn.call call.turn.log in
      let none = publish_adds job r (Err e) call.turn.old call.turn.new call.turn.entries call.turn.call call.turn.log in
      not_strange job name file rack names turn g0 g2 i0 i2 u ready0.idle index0 reserve2 index2 (PublishesRecord job r (Err e)) i3 call all e.at
      (subst (λ n. EndsAt job n (entries call.turn.old.log) e.at) named call.turn.call.2) none alone.index

  -- the name was given up
  pub abandoned_work : (result : Result (Unit {0}) ReservationLost) (g3 : GroupPasses) (i3 : IndexPasses) → g3 ≡ g2 → IndexCall (Abandons job name result) i2 i3 → JobWroteOnly job (known g0 i0) (known g3 i3)
  abandoned_work result g3 i3 same3 call = record {
    groups = subst (λ (g : GroupPasses). RowWroteOnlyFor (of_job job) g0 g) (sym same3) worked2;
    index = index_job job name file rack names turn g0 g2 i0 i2 u ready0.idle index0 reserve2 index2 (Abandons job name result) i3 call
        (all_abandon job name result call.turn.old call.turn.new call.turn.entries call.turn.call call.turn.log);
  }

  abandoned_here : (pads : Pads) (group : ℕ) (cause : PutFault) (v : Unit {0}) (i3 : IndexPasses) → IndexCall (Abandons job name (Ok v)) i2 i3 → length file ≤ longest
      → (RowOnlyWriterOf (of_job job) g1 g2 → PutsEnd rack rack.geometry job (blocks_from rack.geometry file pads) group cause g1 g2)
      → JobOnlyWriter job (known g0 i0) (known g2 i3) → (s : Setting) → IsSettingOf s rack (known g0 i0) → DrawsFrom s pads job file
      → StoreRow s job name file (Err (fault_of group cause)) (section_of (known g0 i0) (known g2 i3))
  abandoned_here pads group cause v i3 call short ends alone s set draws =
      let all = all_abandon job name (Ok v) call.turn.old call.turn.new call.turn.entries call.turn.call call.turn.log in
      let is = abandon_adds job name (Ok v) call.turn.old call.turn.new call.turn.entries call.turn.call call.turn.log in
      refused_row job name file rack s pads g0 g2 i0 i3 group cause (blocks_from rack.geometry file pads) short set.rack_is draws
      (ap (λ (q : Rack). map digest_of (blocks_from q.geometry file pads)) (sym set.rack_is))
      (index_owns job name file rack names turn g0 g2 i0 i2 u ready0.idle index0 reserve2 index2 (Abandons job name (Ok v)) i3 call all alone.index ∙ ap (λ es. plain (entry.Reserve job name) ∷ es) is)
      (subst (λ (x : GroupPasses). PutsEnd rack rack.geometry job (blocks_from rack.geometry file pads) group cause x g2) same1 (ends (subst (λ (x : GroupPasses). RowOnlyWriterOf (of_job job) x g2) (sym same1) alone.groups)))
      set worked2

  pub abandoned_row : (pads : Pads) (group : ℕ) (cause : PutFault) (v : Unit {0}) (g3 : GroupPasses) (i3 : IndexPasses) → g3 ≡ g2 → IndexCall (Abandons job name (Ok v)) i2 i3 → length file ≤ longest
      → (RowOnlyWriterOf (of_job job) g1 g2 → PutsEnd rack rack.geometry job (blocks_from rack.geometry file pads) group cause g1 g2)
      → JobOnlyWriter job (known g0 i0) (known g3 i3) → (s : Setting) → IsSettingOf s rack (known g0 i0) → DrawsFrom s pads job file
      → StoreRow s job name file (Err (fault_of group cause)) (section_of (known g0 i0) (known g3 i3))
  abandoned_row pads group cause v g3 i3 same3 call short ends alone s set draws =
      (subst (λ (x : GroupPasses). JobOnlyWriter job (known g0 i0) (known x i3) → StoreRow s job name file (Err (fault_of group cause)) (section_of (known g0 i0) (known x i3))) (sym same3)
      (λ here. abandoned_here pads group cause v i3 call short ends here s set draws)) alone

  pub abandoned_not : (e : ReservationLost) (g3 : GroupPasses) (i3 : IndexPasses) → IndexCall (Abandons job name (Err e)) i2 i3 → JobOnlyWriter job (known g0 i0) (known g3 i3) → ⊥
  abandoned_not e g3 i3 call alone =
      let all = all_abandon job name (Err e) call.turn.old call.turn.new call.turn.entries call.turn.call call.turn.log in
      let none = abandon_adds job name (Err e) call.turn.old call.turn.new call.turn.entries call.turn.call call.turn.log in
      not_strange job name file rack names turn g0 g2 i0 i2 u ready0.idle index0 reserve2 index2 (Abandons job name (Err e)) i3 call all e.at call.turn.call.2 none alone.index
