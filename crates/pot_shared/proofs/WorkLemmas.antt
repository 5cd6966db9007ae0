-- One locked call as work of a job, and work after work.
use Rattle.std.proofs.Common.{◌≡◌, ◌≢◌, ◌<◌, ◌≤◌, ⊎_elim, ℕ, zero, suc, Bool, true, false, List, [], ◌∷◌, ◌++◌, length, refl, ap, ap₂, sym, ◌∙◌, subst, arith}
use Rattle.std.specs.Prelude.{filter}
use Rattle.std.proofs.lemmas.List.{map-append}
use Rattle.std.proofs.lemmas.Option.{same_Some}
use Rattle.std.proofs.lemmas.Bool.{cases_lt}
use lib.Seq.{drop-length}
use Rattle.pot_bytes.specs.declared.rack.Rack.{Rack}
use Rattle.pot_machine.specs.declared.entry.Entry.{Entry}
use Rattle.pot_machine.specs.Logs.{is_of, own}
use Rattle.pot_shelves.specs.Shelves.{Shelves}
use Rattle.pot_group.specs.Group.{GroupView}
use Rattle.pot_index.specs.Entries as index
use Rattle.pot_index.specs.Index.{IndexView}
use Rattle.pot_turn.specs.declared.name.TurnName.{TurnName}
use Rattle.pot_worked.specs.WroteOnlyFor.{added, WroteOnlyFor}
use Rattle.pot_worked.specs.Laws.{AllOf}
use Rattle.pot_worked.proofs.WroteOnlyForLemmas.{own_in_parts, more_is_work, more_has_none}
use Rattle.pot_rows.specs.Rows.{PassRow, view_at}
use Rattle.pot_rows.specs.Works.{AllIdle, RowWroteOnlyFor, RowOnlyWriterOf, TurnAt}
use Rattle.pot_rows.proofs.RowLemmas.{at_past}
use Rattle.pot_rows.proofs.TieLemmas.{knows_same}
use Rattle.pot_rows.proofs.WorkLemmas.{turn_is_work, own_in_turn_at, row_work_in_parts, row_alone_in_parts}
use Rattle.pot_shared.specs.declared.member.Logged.{Logged}
use Rattle.pot_shared.specs.Members.{later_blinds, logged_at, all_logged, entries_of}
use Rattle.pot_shared.specs.Ready.{GroupPasses, AreReady}
use Rattle.pot_shared.specs.Seen.{RowKnowsMore}
use Rattle.pot_shared.specs.Calls.{CallAt, marked}
use Rattle.pot_shared.specs.Catalogs.{IndexPasses, IsIndexReady}
use Rattle.pot_shared.specs.IndexCalls.{IndexCall}
use Rattle.pot_shared.proofs.MemberLemmas.{entries_all}
use Rattle.pot_shared.specs.Works.{of_job, gained, Known, JobWroteOnly, JobOnlyWriter, OnlySaw}

-- ENTRIES OF A JOB

module _ {E : Type 0} (test : E → Bool) where
  pub all_none : AllOf test []
  all_none i e is = absurd (cc is)

  pub all_cons : (x : E) (xs : List E) → test x ≡ true → AllOf test xs → AllOf test (x ∷ xs)
  all_cons x xs h t zero e is = ap test (sym (same_Some x e is)) ∙ h
  all_cons x xs h t (suc i) e is = t i e is

  pub all_one : (x : E) → test x ≡ true → AllOf test (x ∷ [])
  all_one x h = all_cons x [] h all_none

  pub all_append : (xs ys : List E) → AllOf test xs → AllOf test ys → AllOf test (xs ++ ys)
  all_append [] ys p q = q
  all_append (x ∷ xs) ys p q = all_cons x (xs ++ ys) (p 0 x refl) (all_append xs ys (λ i e is. p (suc i) e is) q)

all_marked : (job : ℕ) (s : Shelves) (blinds : List (List ℕ)) (es : List Entry) → AllOf (is_of job) es → AllOf (of_job job) (all_logged s blinds es)
all_marked job s blinds [] h = all_none (of_job job)
all_marked job s blinds (e ∷ es) h =
    all_cons (of_job job) (logged_at s blinds e) (all_logged s (later_blinds blinds e) es) (h 0 e refl) (all_marked job s (later_blinds blinds e) es (λ i x is. h (suc i) x is))

-- the job's own entries, with their marks or without
own_at : (job : ℕ) (l : Logged) (ls : List Logged) → own job (entries_of ls) ≡ entries_of (filter (of_job job) ls)
    → (b : Bool) → is_of job l.entry ≡ b → own job (entries_of (l ∷ ls)) ≡ entries_of (filter (of_job job) (l ∷ ls))
own_at job l ls rest true e = rw e (ap (λ w. l.entry ∷ w) rest)
own_at job l ls rest false e = rw e rest

pub own_entries : (job : ℕ) (ls : List Logged) → own job (entries_of ls) ≡ entries_of (filter (of_job job) ls)
own_entries job [] = refl
own_entries job (l ∷ ls) = own_at job l ls (own_entries job ls) (is_of job l.entry) refl

-- A ROW THAT STAYED

module _ {E O : Type 0} (is_job : E → Bool) (row : PassRow E O) where
  pub row_stays : AllIdle row → RowWroteOnlyFor is_job row row
  row_stays idle at = more_is_work is_job (view_at row at) (view_at row at) (knows_same (view_at row at)) (idle at)

-- A LOCKED CALL OF A GROUP

module _ (told : Type 0) (job : ℕ) (R : GroupView → GroupView → List Entry → Type 0) (group : ℕ) (v w : GroupPasses) (within : group < length v.views)
    (call : CallAt told R group v w) (all : AllOf (is_of job) call.turn.entries) where
  abbrev its_marked : List Logged
  its_marked = marked call.turn

  all_its : AllOf (of_job job) its_marked
  all_its = all_marked job call.turn.new.shelves call.turn.more call.turn.entries all

  its_turn : TurnAt call.turn.others its_marked v group w
  its_turn = record { pass = call.pass; is = call.is; turn = call.turn.turn }

  pub group_work : AllIdle v → RowWroteOnlyFor (of_job job) v w
  group_work idle = turn_is_work (of_job job) call.turn.others its_marked v w group within idle its_turn all_its

  module _ (alone : RowOnlyWriterOf (of_job job) v w) where
    pub its_own : (filter (of_job job) (added (view_at v group) (view_at w group)) ≡ its_marked) × ((h : ℕ) → group ≢ h → filter (of_job job) (added (view_at v h) (view_at w h)) ≡ [])
    its_own = own_in_turn_at (of_job job) call.turn.others its_marked v w group within its_turn all_its alone

    pub group_own : own job (gained v w group) ≡ call.turn.entries
    group_own = own_entries job (added (view_at v group) (view_at w group)) ∙ (ap entries_of its_own.0 ∙ entries_all call.turn.new.shelves call.turn.more call.turn.entries)

    pub group_else : (h : ℕ) → group ≢ h → own job (gained v w h) ≡ []
    group_else h ne = own_entries job (added (view_at v h) (view_at w h)) ∙ ap entries_of (its_own.1 h ne)

-- A LOCKED CALL OF THE INDEX

-- no pass of the index has its value, at any place
pub index_idle : (rack : Rack) (names turn : List TurnName) (row : IndexPasses) → IsIndexReady rack names turn row → AllIdle row
index_idle rack names turn row ready at = ⊎_elim
    (λ (lt : at < length turn). ready.idle at lt)
    (λ (past : length turn ≤ at). ap (λ v. v.holds) (at_past turn row at ready.of past))
    (cases_lt at (length turn))

module _ (job : ℕ) (rack : Rack) (names turn : List TurnName) (R : IndexView → IndexView → Type 0) (v w : IndexPasses) (ready : IsIndexReady rack names turn v)
    (call : IndexCall R v w) (all : AllOf (index.is_of job) call.turn.entries) where
  index_within : 0 < length v.views
  index_within = let a = ready.of.1 in let b = ready.one in omega (arith, a, b)

  index_turn : TurnAt call.turn.others call.turn.entries v 0 w
  index_turn = record { pass = call.pass; is = call.is; turn = call.turn.turn }

  pub index_work : RowWroteOnlyFor (index.is_of job) v w
  index_work = turn_is_work (index.is_of job) call.turn.others call.turn.entries v w 0 index_within (index_idle rack names turn v ready) index_turn all

  pub index_own : RowOnlyWriterOf (index.is_of job) v w → index.own job (added (view_at v 0) (view_at w 0)) ≡ call.turn.entries
  index_own alone = (own_in_turn_at (index.is_of job) call.turn.others call.turn.entries v w 0 index_within index_turn all alone).0

-- TIES

module _ (job : ℕ) (rack : Rack) (names : List TurnName) (v w : GroupPasses) (ready : AreReady rack names v) (knows : RowKnowsMore v w) where
  pub known_work : RowWroteOnlyFor (of_job job) v w
  known_work at = ⊎_elim
      (λ (lt : at < length v.names). more_is_work (of_job job) (view_at v at) (view_at w at) (knows.2 at lt) (ready.idle at))
      (λ (past : length v.names ≤ at).
      let here = at_past v.names v at (refl, (let a = ready.of.1 in let b = ap length ready.of.0 in omega (arith, a, b))) past in
      let there = at_past w.names w at (refl, (let a = ready.of.1 in let b = ap length ready.of.0 in let c = knows.1 in let d = ap length knows.0 in omega (arith, a, b, c, d))) (let d = ap length knows.0 in omega (arith, past, d)) in
      subst (λ x. WroteOnlyFor (of_job job) (view_at v at) x) (here ∙ sym there)
      (more_is_work (of_job job) (view_at v at) (view_at v at) (knows_same (view_at v at)) (ready.idle at)))
      (cases_lt at (length v.names))

  pub known_none : RowOnlyWriterOf (of_job job) v w → (g : ℕ) → own job (gained v w g) ≡ []
  known_none alone at = ⊎_elim
      (λ (lt : at < length v.names).
      own_entries job (added (view_at v at) (view_at w at)) ∙ ap entries_of (more_has_none (of_job job) (view_at v at) (view_at w at) (knows.2 at lt) (alone at)))
      (λ (past : length v.names ≤ at).
      let there = at_past w.names w at (refl, (let a = ready.of.1 in let b = ap length ready.of.0 in let c = knows.1 in let d = ap length knows.0 in omega (arith, a, b, c, d))) (let d = ap length knows.0 in omega (arith, past, d)) in
      let here = at_past v.names v at (refl, (let a = ready.of.1 in let b = ap length ready.of.0 in omega (arith, a, b))) past in
      ap (λ x. own job (entries_of (added (view_at v at) x))) (there ∙ sym here) ∙ ap (λ ls. own job (entries_of ls)) (drop-length (view_at v at).seen))
      (cases_lt at (length v.names))

-- PART AFTER PART

pub work_more : (job : ℕ) (u v w : Known) → JobWroteOnly job u v → JobWroteOnly job v w → JobWroteOnly job u w
work_more job u v w p q = record {
  groups = row_work_in_parts (of_job job) u.groups v.groups w.groups p.groups q.groups;
  index = row_work_in_parts (index.is_of job) u.index v.index w.index p.index q.index;
}

pub alone_parts : (job : ℕ) (u v w : Known) → JobWroteOnly job u v → JobWroteOnly job v w → JobOnlyWriter job u w → JobOnlyWriter job u v × JobOnlyWriter job v w
alone_parts job u v w p q alone =
    let g = row_alone_in_parts (of_job job) u.groups v.groups w.groups p.groups q.groups alone.groups in
    let i = row_alone_in_parts (index.is_of job) u.index v.index w.index p.index q.index alone.index in
    (record { groups = g.0; index = i.0 }, record { groups = g.1; index = i.1 })

pub own_more : (job : ℕ) (u v w : GroupPasses) → RowWroteOnlyFor (of_job job) u v → RowWroteOnlyFor (of_job job) v w
    → (g : ℕ) → own job (gained u w g) ≡ own job (gained u v g) ++ own job (gained v w g)
own_more job u v w p q g =
    let ug = view_at u g in
    let vg = view_at v g in
    let wg = view_at w g in
    own_entries job (added ug wg)
    ∙ (ap entries_of (own_in_parts (of_job job) ug vg wg (p g) (q g))
    ∙ (map-append (λ l. l.entry) (filter (of_job job) (added ug vg)) (filter (of_job job) (added vg wg))
    ∙ (ap (λ s. s ++ entries_of (filter (of_job job) (added vg wg))) (sym (own_entries job (added ug vg)))
    ∙ ap (λ s. own job (gained u v g) ++ s) (sym (own_entries job (added vg wg))))))

pub index_own_more : (job : ℕ) (u v w : IndexPasses) → RowWroteOnlyFor (index.is_of job) u v → RowWroteOnlyFor (index.is_of job) v w
    → index.own job (added (view_at u 0) (view_at w 0)) ≡ index.own job (added (view_at u 0) (view_at v 0)) ++ index.own job (added (view_at v 0) (view_at w 0))
index_own_more job u v w p q = own_in_parts (index.is_of job) (view_at u 0) (view_at v 0) (view_at w 0) (p 0) (q 0)

-- CALLS THAT ONLY SAW

-- no call
pub saw_none : (row : GroupPasses) → AllIdle row → OnlySaw row row
saw_none row idle = record {
  worked = λ job. row_stays (of_job job) row idle;
  none = λ job alone g. ap (λ ls. own job (entries_of ls)) (drop-length (view_at row g).seen);
}

-- one after another
pub saw_more : {u v w : GroupPasses} → OnlySaw u v → OnlySaw v w → OnlySaw u w
saw_more {u} {v} {w} p q = record {
  worked = λ job. row_work_in_parts (of_job job) u v w (p.worked job) (q.worked job);
  none = λ job alone g. (
      let parts = row_alone_in_parts (of_job job) u v w (p.worked job) (q.worked job) alone in
      own_more job u v w (p.worked job) (q.worked job) g ∙ ap₂ (λ (xs ys : List Entry). xs ++ ys) (p.none job parts.0 g) (q.none job parts.1 g));
}

-- NOTHING WAS LOGGED

pub gained_none : (row : GroupPasses) (g : ℕ) → gained row row g ≡ []
gained_none row g = ap entries_of (drop-length (view_at row g).seen)
