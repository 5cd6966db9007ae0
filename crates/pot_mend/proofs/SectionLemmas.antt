-- What the calls of a job on one group say of the section of the logs.
use Rattle.std.proofs.Common.{◌≡◌, ◌<◌, ℕ, Bool, false, List, [], ◌∷◌, ◌++◌, length, refl, ap, sym, ◌∙◌, subst, arith, append-nil, append_assoc}
use Rattle.std.specs.Prelude.{Some, IsTrue}
use Rattle.std.proofs.lemmas.List.{length-map}
use lib.Seq.{drop-length}
use Rattle.pot_bytes.specs.declared.rack.Place.{Place}
use Rattle.pot_bytes.specs.declared.rack.Rack.{Rack}
use Rattle.pot_bytes.specs.Rack.{log_bound}
use Rattle.pot_index.specs.Entries as index
use Rattle.pot_machine.specs.declared.entry.Entry.{Entry}
use Rattle.pot_machine.specs.declared.slot.SlotState.{SlotState}
use Rattle.pot_machine.specs.Machine.{after}
use Rattle.pot_machine.specs.Table.{Table, width, slot_at}
use Rattle.pot_machine.specs.Logs.{replayed}
use Rattle.pot_machine.proofs.LeftAlone.{sizes_stay}
use Rattle.pot_machine.proofs.Logs.{replayed_append}
use Rattle.pot_group.specs.Group.{GroupView}
use Rattle.pot_worked.specs.WroteOnlyFor.{added}
use Rattle.pot_rows.specs.Rows.{view_at}
use Rattle.pot_rows.specs.Works.{RowOnlyWriterOf}
use Rattle.pot_shared.specs.Members.{entries_of}
use Rattle.pot_shared.specs.Calls.{CallAt}
use Rattle.pot_shared.specs.Catalogs.{IndexPasses}
use Rattle.pot_shared.specs.Ready.{GroupPasses}
use Rattle.pot_replies.specs.Sections.{Section, mine, AlwaysAt, IsOnlyIn, LogPoint}
use Rattle.pot_replies.specs.Settings.{Setting}
use Rattle.pot_replies.specs.Scrubs.{WasAt}
use Rattle.pot_shared.specs.Works.{of_job, known, section_of, IsSettingOf}
use Rattle.pot_shared.specs.Adds.{Adds, FailsTest, FailsOnce, FindsNext, IsFirstTableSeen}
use Rattle.pot_shared.proofs.AddLemmas.{seen_parts}

-- the group of a call may have another name
pub call_in : {told : Type 0} {R : GroupView → GroupView → List Entry → Type 0} {g h : ℕ} {v w : GroupPasses} → g ≡ h → CallAt told R g v w → CallAt told R h v w
call_in {told} {R} {g} {h} {v} {w} same call = subst (λ n. CallAt told R n v w) same call

-- the sizes of a group stay
pub sizes_replayed : (t : Table) (log : List Entry) → ((replayed t log).stripes ≡ t.stripes) × (width (replayed t log) ≡ width t)
sizes_replayed t [] = (refl, refl)
sizes_replayed t (e ∷ log) =
    let more = sizes_replayed (after t e) log in
    let stays = sizes_stay t e in
    let data_columns = stays.0 in
    let parity = stays.1 in
    let wide = more.1 in
    (more.0 ∙ stays.2, omega (arith, wide, data_columns, parity))

-- AT SOME POINT

-- at some point of what a log gained, the slot, if it is one, failed the test
abbrev pub FailsIn : (SlotState → Bool) → Table → List Entry → List Entry → ℕ → ℕ → Type 0
FailsIn test first before added n k = (x : List Entry) × (y : List Entry) × (added ≡ x ++ y) × FailsTest test n k first (replayed first (before ++ x))

module _ (test : SlotState → Bool) (first : Table) (before added : List Entry) where
  -- in the end
  pub fails_last : (n k : ℕ) → FailsTest test n k first (replayed first (before ++ added)) → FailsIn test first before added n k
  fails_last n k fails = (added, [], sym (append-nil added), fails)

  -- the log gained more
  pub fails_more : (more : List Entry) (n k : ℕ) → FailsIn test first before added n k → FailsIn test first before (added ++ more) n k
  fails_more more n k (x, y, parts, fails) = (x, y ++ more, ap (λ l. l ++ more) parts ∙ append_assoc x y more, fails)

  -- what failed a test at some point did not pass it all the time
  pub not_passed : (n k : ℕ) → n < first.stripes → k < width first → AlwaysAt test (replayed first before) added n k → FailsIn test first before added n k → ⊥
  not_passed n k in_stripes in_columns always (x, y, parts, fails) =
      let passes = always x y parts in
      let there = ap (λ t. test (slot_at t n k)) (replayed_append first before x) in
      no_test (subst (λ b. IsTrue b) (sym there ∙ fails in_stripes in_columns) passes)
    where
      no_test : IsTrue false → ⊥
      no_test e = cc

-- A SECTION

module _ (st : Setting) (job g : ℕ) (rack : Rack) (u w : GroupPasses) (ui wi : IndexPasses) (same : wi ≡ ui) (within : g < length u.names)
    (alone : RowOnlyWriterOf (of_job job) u w) (set : IsSettingOf st rack (known u ui)) where
  abbrev its : Section
  its = section_of (known u ui) (known w wi)

  its_index : index.own job its.index_added ≡ []
  its_index = ap (λ (i : IndexPasses). index.own job (added (view_at ui 0) (view_at i 0))) same ∙ ap (index.own job) (drop-length (view_at ui 0).seen)

  pub only_in : (entries : List Entry) → Adds job g entries u w → IsOnlyIn g (mine job its)
  only_in entries adds = (adds.none_else alone, its_index)

  read : IsFirstTableSeen g u (st.first g)
  read = set.first g within

  -- what failed a test at some point did not pass it all the time
  pub not_always : (test : SlotState → Bool) (n k : ℕ) → n < (st.first g).stripes → k < width (st.first g) → AlwaysAt test (replayed (st.first g) (its.before g)) (its.added g) n k
      → FailsOnce test n k g u w → ⊥
  not_always test n k in_stripes in_columns always fails = not_passed test (st.first g) (its.before g) (its.added g) n k in_stripes in_columns always (fails (st.first g) read)

  -- a place that was found is one of the group, and was so at some point
  pub found_was : (test : SlotState → Bool) (s c : ℕ) (p : Place) → FindsNext test s c (Some p) g u w
      → (p.stripe < (st.first g).stripes) × (p.column < width (st.first g)) × WasAt st g its test p.stripe p.column
  found_was test s c p finds =
      let (x, y, parts, is) = finds (st.first g) read in
      let place = is.2 in
      (subst (λ n. p.stripe < n) is.0 place.1.0.0.0, subst (λ n. p.column < n) is.1 place.1.0.0.1, (x, y, parts, place.1.1))

  -- the log at the end of the section, where it is full
  pub last_full : (entries : List Entry) → Adds job g entries u w → length (view_at w g).seen ≡ log_bound
      → LogPoint job (its.before g) (its.added g) (entries_of (view_at w g).seen) × (length (entries_of (view_at w g).seen) ≡ log_bound)
  last_full entries adds full = (
    record { sofar = its.added g; later = []; parts = sym (append-nil (its.added g)); last = refl; is = seen_parts job g u w adds.worked },
    length-map (view_at w g).seen _ ∙ full,
  )
