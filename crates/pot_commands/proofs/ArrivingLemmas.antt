-- An archive that was asked for: whether it may come, that it came, and that it was handed back.
use Rattle.std.proofs.Common.{◌≡◌, ◌≢◌, ◌<◌, ⊎_elim, ℕ, zero, suc, Bool, true, false, List, [], ◌∷◌, ◌++◌, length, refl, sym, ap, subst, ◌∙◌, arith, append-nil, append_assoc, eq-eqb, length-append}
use Rattle.std.specs.Prelude.{Option, Some, None, IsSome, IsSomeAnd, IfSome, Contains, flat_map, slice_index_or}
use Rattle.std.proofs.lemmas.List.{nil_from_length}
use Rattle.std.proofs.lemmas.Option.{same_Some}
use Rattle.std.proofs.lemmas.List.Elements.{Contains-append_cases, Contains-append_left}
use mathlib.Core.Path.{fun_ext}
use Rattle.std.proofs.lemmas.Bool.{cases_eq}
use lib.Seq.{drop-length}
use Rattle.pot_bytes.specs.declared.rack.Rack.{Rack}
use Rattle.pot_bytes.proofs.Elements.{none_contained, one_contained}
use Rattle.pot_outside.specs.Archives.{Meaning, IsMeant}
use Rattle.pot_outside.specs.declared.archive.Shelf.{Shelf}
use Rattle.pot_machine.specs.declared.column.Column.{Column}
use Rattle.pot_machine.specs.declared.entry.Entry.{Entry}
use Rattle.pot_machine.specs.declared.entry.Entry.TheVariants as entry
use Rattle.pot_machine.specs.Machine.{Legal, Replays, after}
use Rattle.pot_machine.specs.Rules.{IsTable}
use Rattle.pot_machine.proofs.Kept.{after_keeps}
use Rattle.pot_machine.specs.Table.{Table, width, column_at, holder_of, count, no_column, archives_in}
use Rattle.pot_machine.specs.Logs.{job_of, is_of, own, replayed}
use Rattle.pot_machine.proofs.Logs.{replays_is}
use Rattle.pot_index.specs.Entries as index
use Rattle.pot_group.specs.Arrivals.{arrival, arrivals, HasArrived}
use Rattle.pot_machine.specs.Column.{homes_of}
use Rattle.pot_group.specs.Causes.{brought_by}
use Rattle.pot_group.specs.Group.{GroupView}
use Rattle.pot_turn.specs.declared.name.TurnName.{TurnName}
use Rattle.pot_worked.specs.Laws.{AllOf}
use Rattle.pot_worked.specs.WroteOnlyFor.{added}
use Rattle.pot_worked.proofs.OnlyWriterLemmas.{gain_in_parts}
use Rattle.pot_rows.specs.Rows.{view_at}
use Rattle.pot_rows.specs.Works.{RowWroteOnlyFor}
use Rattle.pot_rows.proofs.RowLemmas.{at_set}
use Rattle.pot_replies.specs.Settings.{Setting}
use Rattle.pot_replies.specs.Sections.{Section, mine, IsSilent, IsOfJobs}
use Rattle.pot_replies.specs.Moves.{IsUsed}
use Rattle.pot_shared.specs.declared.member.GroupOrigin.{GroupOrigin}
use Rattle.pot_shared.specs.declared.member.Logged.{Logged}
use Rattle.pot_shared.specs.Calls.{CallAt, marked}
use Rattle.pot_shared.specs.Catalogs.{IndexPasses, IsIndexReady}
use Rattle.pot_shared.proofs.Takings.{taking_is, taking_same}
use Rattle.pot_shared.specs.Members.{all_logged, entries_of, logged_at, taking_at, origin_of}
use Rattle.pot_shared.proofs.MemberLemmas.{entries_all, entries_append, entries_kept, marks_by}
use Rattle.pot_group.specs.Calls.{ComesBy}
use Rattle.pot_shared.specs.Ready.{AreReady, GroupPass, GroupPasses}
use Rattle.pot_shared.specs.Works.{Known, known, of_job, gained, JobWroteOnly, JobOnlyWriter, IsSettingOf, section_of}
use Rattle.pot_shared.proofs.WorkLemmas.{row_stays, index_idle, group_work, group_own, group_else, work_more, alone_parts, own_more, all_none, all_one}
use Rattle.pot_mend.specs.Moves.{IsOnlyAsked, seen_in}
use Rattle.pot_mend.proofs.HadLemmas.{IsUsedIn, brought_here, brought_named, had_used, named_held, same_width}
use Rattle.pot_shared.specs.Going.{AllOnlyWriters}
use Rattle.pot_shared.specs.Hands.{times}
use Rattle.pot_commands.specs.Taking.{Took, HasUse, AreUsed}
use Rattle.pot_outside.specs.Rooms.{RoomState}
use Rattle.pot_shared.specs.Coming.{AreMarkedBy, came_in, taking_of}
use Rattle.pot_commands.proofs.Brought.{its_setting, is_its}
use Rattle.pot_commands.proofs.Going.{sole_alone, work_all_went}
use Rattle.pot_commands.proofs.Logs.{turn_added}
use Rattle.pot_shared.proofs.ComingLemmas.{arrival_in}
use Rattle.pot_commands.proofs.TakingLemmas.{came_one, come_none, meant_by, takes_back, takes_one, took_none, used_more, use_more}
use Rattle.pot_commands.proofs.Whose.{its_jobs, own_all}

-- THE ROOM

-- what is the same at one number, and at the others
pub same_at : {X : Type 0} (f g : ℕ → X) (k : ℕ) → g k ≡ f k → ((n : ℕ) → n ≢ k → g n ≡ f n) → (n : ℕ) → g n ≡ f n
same_at f g k here others n = ⊎_elim
    (λ (e : n ≡ k). subst (λ m. g m ≡ f m) (sym e) here)
    (λ (ne : n ≢ k). others n ne)
    (cases_eq n k)

-- LISTS

none_front : {X : Type 0} (xs ys : List X) → xs ++ ys ≡ ys → xs ≡ []
none_front xs ys e = nil_from_length xs (let n = ap length e in let m = length-append xs ys in omega (arith, n, m))

no_entries : (ls : List Logged) → entries_of ls ≡ [] → ls ≡ []
no_entries [] e = refl
no_entries (l ∷ ls) e = absurd (cc e)

-- the jobs of a section are those of its parts
pub front_jobs : (job : ℕ) (whole one rest : List Entry) → whole ≡ one ++ rest → ((x y : List Entry) (e : Entry) → whole ≡ x ++ e ∷ y → is_of job e ≡ true) → (x y : List Entry) (e : Entry) → one ≡ x ++ e ∷ y → is_of job e ≡ true
front_jobs job whole one rest parts each x y e at = each x (y ++ rest) e (parts ∙ (ap (λ l. l ++ rest) at ∙ append_assoc x (e ∷ y) rest))

-- where all entries are the job's, they are its own
pub own_each : (job : ℕ) (es : List Entry) → ((x y : List Entry) (e : Entry) → es ≡ x ++ e ∷ y → is_of job e ≡ true) → own job es ≡ es
own_each job [] each = refl
own_each job (e ∷ es) each = rw (each [] es e refl) (ap (λ l. e ∷ l) (own_each job es (λ x y f at. each (e ∷ x) y f (ap (λ l. e ∷ l) at))))

pub of_jobs : (job : ℕ) (w : Section) → IsOfJobs job 1 w → (g : ℕ) (x y : List Entry) (e : Entry) → w.added g ≡ x ++ e ∷ y → is_of job e ≡ true
of_jobs job w its g x y e at = eq-eqb (job_of e) job (let a = (its.groups g x y e at).0 in let b = (its.groups g x y e at).1 in omega (arith, a, b))

-- a job that logged nothing brought no archive
pub silent_arrivals : (job : ℕ) (old new : Known) → JobWroteOnly job old new → (JobOnlyWriter job old new → IsSilent (mine job (section_of old new))) → AllOnlyWriters old new → (g : ℕ) → arrivals (gained old.groups new.groups g) ≡ []
silent_arrivals job old new worked silent sole g =
    ap arrivals (sym (own_all job (gained old.groups new.groups g) ((its_jobs job old new worked sole).groups g)) ∙ (silent (sole_alone job old new worked sole)).0 g)

-- WHICH ARCHIVES ARE USED

-- a column that has the archive in the first table
first_column : (cs : List Column) (n : ℕ) → Contains (flat_map homes_of cs) n → (c : ℕ) × (c < length cs) × Contains (homes_of (slice_index_or cs c no_column)) n
first_column [] n has = absurd (none_contained n has)
first_column (x ∷ cs) n has = ⊎_elim
    (λ (h : Contains (homes_of x) n). (0, omega arith, h))
    (λ (h : Contains (flat_map homes_of cs) n). (let r = first_column cs n h in (suc r.0, (let l = r.1 in omega (arith, l)), r.2)))
    (Contains-append_cases (homes_of x) (flat_map homes_of cs) n has)

-- an archive that an entry brings is the home or the target of a column then
pub entry_held : (t : Table) (e : Entry) (n : ℕ) → IsTable t → Legal t e → Contains (arrival e) n → IsSome (holder_of (after t e) n)
entry_held t (entry.MoveBegin job k to) n is legal has =
    named_held (after t (entry.MoveBegin job k to)) k n
    (let w : width (after t (entry.MoveBegin job k to)) ≡ width t = same_width t (entry.MoveBegin job k to ∷ []) in let l = legal.0.0 in omega (arith, w, l))
    (brought_named t k n is.size.columns (entry.MoveBegin job k to) legal (brought_here k k to n refl (one_contained to n has)))
entry_held t (entry.Swapped job k to) n is legal has =
    named_held (after t (entry.Swapped job k to)) k n
    (let w : width (after t (entry.Swapped job k to)) ≡ width t = same_width t (entry.Swapped job k to ∷ []) in let l = legal.0 in omega (arith, w, l))
    (brought_named t k n is.size.columns (entry.Swapped job k to) legal (brought_here k k to n refl (one_contained to n has)))
entry_held t _ n is legal has = absurd (none_contained n has)

brought_used : (t : Table) (log : List Entry) (u : Table) (n : ℕ) → IsTable t → Replays t log u → Contains (arrivals log) n → IsUsedIn t log n
brought_used t [] u n is replay has = absurd (none_contained n has)
brought_used t (e ∷ log) u n is replay has = ⊎_elim
    (λ (h : Contains (arrival e) n). (e ∷ [], log, refl, entry_held t e n is replay.0 h))
    (λ (h : Contains (arrivals log) n). (let r = brought_used (after t e) log u n (after_keeps t e is replay.0) replay.1 h in (e ∷ r.0, r.1, ap (λ l. e ∷ l) r.2, r.3)))
    (Contains-append_cases (arrival e) (arrivals log) n has)

-- each archive that came to a group is one that it has a use of
pub arrived_used : (first table : Table) (log : List Entry) (n : ℕ) → IsTable first → Replays first log table → Contains (archives_in first ++ arrivals log) n → IsUsedIn first log n
arrived_used first table log n is replay has = ⊎_elim
    (λ (h : Contains (archives_in first) n).
    (let c = first_column first.columns n h in
    had_used first log table n is replay c.0 (let a = is.size.columns in let l = c.1 in omega (arith, a, l))
    (Contains-append_left (homes_of (column_at first c.0)) (brought_by c.0 log) n c.2)))
    (λ (h : Contains (arrivals log) n). brought_used first log table n is replay h)
    (Contains-append_cases (archives_in first) (arrivals log) n has)

-- A SETTING, AND WHAT THE PASSES KNOW

first_is : (o p : Option GroupOrigin) (t : Table) (x : GroupOrigin) → IfSome o (λ y. t ≡ y.first) → p ≡ o → Some x ≡ p → t ≡ x.first
first_is None p t x is same e = absurd (cc (e ∙ same))
first_is (Some y) p t x is same e = is ∙ ap (λ (z : GroupOrigin). z.first) (sym (same_Some x y (e ∙ same)))

use_there : (o : Option GroupOrigin) (t : Table) (P : Table → Type 0) → IfSome o (λ y. t ≡ y.first) → IsSomeAnd o (λ y. P y.first) → P t
use_there None t P is h = absurd h
use_there (Some y) t P is h = subst P (sym is) h

module _ {rack : Rack} {names turn : List TurnName} (job : ℕ) {row0 row1 : GroupPasses} {i i1 : IndexPasses} (ready : AreReady rack names row0) (ready1 : AreReady rack names row1)
    (iready : IsIndexReady rack names turn i) (same : i1 ≡ i) (asked : IsOnlyAsked row0 row1) where
  abbrev k0 : Known
  k0 = known row0 i

  abbrev k1 : Known
  k1 = known row1 i1

  pub same_names : row1.names ≡ row0.names
  same_names = ready1.of.0 ∙ sym ready.of.0

  -- A CHECK

  index_worked : RowWroteOnlyFor (index.is_of job) i i1
  index_worked = subst (λ x. RowWroteOnlyFor (index.is_of job) i x) (sym same) (row_stays (index.is_of job) i (index_idle rack names turn i iready))

  pub checked_work : JobWroteOnly job k0 k1
  checked_work = record { groups = asked.worked job; index = index_worked }

  index_silent : index.own job (added (view_at i 0) (view_at i1 0)) ≡ []
  index_silent = ap (λ x. index.own job (added (view_at i 0) (view_at x 0))) same ∙ ap (λ ls. index.own job ls) (drop-length (view_at i 0).seen)

  pub checked_silent : JobOnlyWriter job k0 k1 → IsSilent (mine job (section_of k0 k1))
  checked_silent alone = ((λ g. asked.silent job alone.groups g), index_silent)

  -- where all that was gained is the job's, the check met the logs as they were
  module _ (alone : JobOnlyWriter job k0 k1) (its : (g : ℕ) (x y : List Entry) (e : Entry) → gained row0 row1 g ≡ x ++ e ∷ y → is_of job e ≡ true) where
    none_gained : (g : ℕ) → gained row0 row1 g ≡ []
    none_gained g = sym (own_each job (gained row0 row1 g) (its g)) ∙ asked.silent job alone.groups g

    seen_at : (g : ℕ) → seen_in row1 g ≡ seen_in row0 g
    seen_at g =
        ap entries_of (asked.worked job g).seen
        ∙ (entries_append (view_at row0 g).seen (added (view_at row0 g) (view_at row1 g))
        ∙ (ap (λ l. seen_in row0 g ++ l) (none_gained g) ∙ append-nil (seen_in row0 g)))

    pub met_logs : seen_in row1 ≡ seen_in row0
    met_logs = fun_ext seen_at

  -- an archive that a check found in no use is at home
  used_at : (s : Setting) → IsSettingOf s rack k0 → length names ≡ rack.groups → (n : ℕ) → HasUse row0 n → IsUsed s (seen_in row1) n
  used_at s set count n (g, lt, h) = (
    g,
    (let a = ap length ready.of.0 in let b = ap (λ (r : Rack). r.groups) set.rack_is in omega (arith, lt, a, b, count)),
    (let u = use_there (view_at row0 g).origin (s.first g) (λ t. (x : List Entry) × (y : List Entry) × (seen_in row0 g ≡ x ++ y) × IsSome (holder_of (replayed t x) n)) (set.first g lt) h in (
      u.0,
      u.1 ++ gained row0 row1 g,
      ap entries_of (asked.worked job g).seen
          ∙ (entries_append (view_at row0 g).seen (added (view_at row0 g) (view_at row1 g)) ∙ (ap (λ l. l ++ gained row0 row1 g) u.2 ∙ append_assoc u.0 u.1 (gained row0 row1 g))),
      u.3,
    )),
  )

  pub free_home : (r : RoomState) (n : ℕ) → length names ≡ rack.groups → AreUsed r row0 → ((s : Setting) → IsSettingOf s rack k0 → IsUsed s (seen_in row1) n → ⊥) → r.out n ≡ false
  free_home r n count used free = by (r.out n) refl
    where
      by : (b : Bool) → r.out n ≡ b → r.out n ≡ false
      by false e = e
      by true e = absurd (free (its_setting rack [] 0 k0) (is_its rack [] 0 k0) (used_at (its_setting rack [] 0 k0) (is_its rack [] 0 k0) count n (used n e)))

  -- the room lends and means what it did
  pub check_used : (r r' : RoomState) → ((n : ℕ) → r'.out n ≡ r.out n) → AreUsed r row0 → AreUsed r' row1
  check_used r r' lends used = used_more job r r' row0 row1 (asked.worked job) same_names lends used

  pub check_took : (told well : Type 0) (ns : List ℕ) (r r' : RoomState) → ((n : ℕ) → r'.out n ≡ r.out n) → ((n : ℕ) → r'.means n ≡ r.means n) → Took told well ns r r' k0 k1
  check_took told well ns r r' out means = took_none told well ns r r' k0 k1 out means (silent_arrivals job k0 k1 checked_work checked_silent)

  -- ONE CALL THEN, of the group of this number
  module _ {told : Type 0} {R : GroupView → GroupView → List Entry → Type 0} {group : ℕ} {row2 : GroupPasses} {i2 : IndexPasses} (same2 : i2 ≡ i1) (ready2 : AreReady rack names row2) (within : group < length names)
      (call : CallAt told R group row1 row2) (all : AllOf (is_of job) call.turn.entries) where
    abbrev k2 : Known
    k2 = known row2 i2

    in_row : group < length row1.views
    in_row = (let a = ready1.of.1 in omega (arith, within, a))

    group_worked : RowWroteOnlyFor (of_job job) row1 row2
    group_worked = group_work told job R group row1 row2 in_row call all ready1.idle

    iready1 : IsIndexReady rack names turn i1
    iready1 = subst (λ x. IsIndexReady rack names turn x) (sym same) iready

    call_work : JobWroteOnly job k1 k2
    call_work = record { groups = group_worked; index = subst (λ x. RowWroteOnlyFor (index.is_of job) i1 x) (sym same2) (row_stays (index.is_of job) i1 (index_idle rack names turn i1 iready1)) }

    pub whole_work : JobWroteOnly job k0 k2
    whole_work = work_more job k0 k1 k2 checked_work call_work

    whole_index : index.own job (added (view_at i 0) (view_at i2 0)) ≡ []
    whole_index = ap (λ x. index.own job (added (view_at i 0) (view_at x 0))) (same2 ∙ same) ∙ ap (λ ls. index.own job ls) (drop-length (view_at i 0).seen)

    -- WHERE THE JOB WAS ALONE
    module _ (alone : JobOnlyWriter job k0 k2) where
      parts : JobOnlyWriter job k0 k1 × JobOnlyWriter job k1 k2
      parts = alone_parts job k0 k1 k2 checked_work call_work alone

      own_at : (g : ℕ) → own job (gained row0 row2 g) ≡ own job (gained row1 row2 g)
      own_at g = own_more job row0 row1 row2 (asked.worked job) group_worked g ∙ ap (λ l. l ++ own job (gained row1 row2 g)) (asked.silent job parts.0.groups g)

      pub own_here : own job (gained row0 row2 group) ≡ call.turn.entries
      own_here = own_at group ∙ group_own told job R group row1 row2 in_row call all parts.1.groups

      own_there : (h : ℕ) → h ≢ group → own job (gained row0 row2 h) ≡ []
      own_there h ne = own_at h ∙ group_else told job R group row1 row2 in_row call all parts.1.groups h (λ e. ne (sym e))

      pub only_here : ((h : ℕ) → h ≢ group → own job (gained row0 row2 h) ≡ []) × (index.own job (added (view_at i 0) (view_at i2 0)) ≡ [])
      only_here = (own_there, whole_index)

      pub none_here : call.turn.entries ≡ [] → IsSilent (mine job (section_of k0 k2))
      none_here none = (
        λ g. ⊎_elim (λ (e : g ≡ group). subst (λ x. own job (gained row0 row2 x) ≡ []) (sym e) (own_here ∙ none)) (λ (ne : g ≢ group). own_there g ne) (cases_eq g group),
        whole_index,
      )

      -- AND LOGGED ALL THAT WAS GAINED
      module _ (its : (g : ℕ) (x y : List Entry) (e : Entry) → gained row0 row2 g ≡ x ++ e ∷ y → is_of job e ≡ true) where
        gain : (g : ℕ) → gained row0 row2 g ≡ gained row0 row1 g ++ gained row1 row2 g
        gain g =
            ap entries_of (gain_in_parts (view_at row0 g) (view_at row1 g) (view_at row2 g) ((work_all_went job k0 k1 checked_work).groups g) ((work_all_went job k1 k2 call_work).groups g))
            ∙ entries_append (added (view_at row0 g) (view_at row1 g)) (added (view_at row1 g) (view_at row2 g))

        its_front : (g : ℕ) (x y : List Entry) (e : Entry) → gained row0 row1 g ≡ x ++ e ∷ y → is_of job e ≡ true
        its_front g = front_jobs job (gained row0 row2 g) (gained row0 row1 g) (gained row1 row2 g) (gain g) (its g)

        pub logs_met : seen_in row1 ≡ seen_in row0
        logs_met = met_logs parts.0 its_front

        nothing_first : (g : ℕ) → gained row0 row1 g ≡ []
        nothing_first g = none_gained parts.0 its_front g

        -- the call's group had seen no entry of others
        here_gained : gained row1 row2 group ≡ call.turn.entries
        here_gained =
            sym (ap (λ l. l ++ gained row1 row2 group) (nothing_first group))
            ∙ (sym (gain group) ∙ (sym (own_each job (gained row0 row2 group) (its group)) ∙ own_here))

        now_pass : view_at row2 group ≡ call.pass
        now_pass = ap (λ r. view_at r group) call.is ∙ at_set row1 group call.pass in_row

        added_is : added (view_at row1 group) (view_at row2 group) ≡ call.turn.others ++ marked call.turn
        added_is = ap (λ v. added (view_at row1 group) v) now_pass ∙ turn_added call.turn.others (marked call.turn) (view_at row1 group) call.pass call.turn.turn

        no_others : call.turn.others ≡ []
        no_others = no_entries call.turn.others (none_front (entries_of call.turn.others) call.turn.entries
            (ap (λ l. entries_of call.turn.others ++ l) (sym (entries_all call.turn.new.shelves call.turn.more call.turn.entries))
            ∙ (sym (entries_append call.turn.others (marked call.turn)) ∙ (sym (ap entries_of added_is) ∙ here_gained))))

        -- what was gained, with its marks
        pub added_here : added (view_at row0 group) (view_at row2 group) ≡ marked call.turn
        added_here =
            gain_in_parts (view_at row0 group) (view_at row1 group) (view_at row2 group) ((work_all_went job k0 k1 checked_work).groups group) ((work_all_went job k1 k2 call_work).groups group)
            ∙ (ap (λ l. l ++ added (view_at row1 group) (view_at row2 group)) (no_entries (added (view_at row0 group) (view_at row1 group)) (nothing_first group))
            ∙ (added_is ∙ ap (λ l. l ++ marked call.turn) no_others))

        pub met_log : call.turn.old.log ≡ seen_in row0 group
        met_log =
            sym (entries_kept call.turn.old)
            ∙ (ap entries_of call.turn.transition
            ∙ (ap (λ l. entries_of ((view_at row1 group).seen ++ l)) no_others ∙ (ap entries_of (append-nil (view_at row1 group).seen) ∙ ap (λ f. f group) logs_met)))

        -- the table that the call met is that of the setting
        module _ (s : Setting) (set : IsSettingOf s rack k0) where
          pub its_first : s.first group ≡ call.turn.old.first
          its_first = first_is (view_at row0 group).origin (view_at row1 group).origin (s.first group) (origin_of call.turn.old) (set.first group (let a = ap length ready.of.0 in omega (arith, a, within)))
              (asked.worked job group).origin call.turn.origin

          pub met_table : replayed (s.first group) (seen_in row0 group) ≡ call.turn.old.table
          met_table =
              ap (λ t. replayed t (seen_in row0 group)) its_first
              ∙ (ap (replayed call.turn.old.first) (sym met_log) ∙ replays_is call.turn.old.first call.turn.old.log call.turn.old.table call.turn.settled_old.replay)

    -- IF NOBODY ELSE LOGGED ANYTHING
    module _ (sole : AllOnlyWriters k0 k2) where
      its_all : (g : ℕ) (x y : List Entry) (e : Entry) → gained row0 row2 g ≡ x ++ e ∷ y → is_of job e ≡ true
      its_all = of_jobs job (section_of k0 k2) (its_jobs job k0 k2 whole_work sole)

      alone_all : JobOnlyWriter job k0 k2
      alone_all = sole_alone job k0 k2 whole_work sole

      gains_there : (h : ℕ) → h ≢ group → arrivals (gained row0 row2 h) ≡ []
      gains_there h ne = ap arrivals (sym (own_each job (gained row0 row2 h) (its_all h)) ∙ (only_here alone_all).0 h ne)

      gains_here : gained row0 row2 group ≡ call.turn.entries
      gains_here = sym (own_each job (gained row0 row2 group) (its_all group)) ∙ own_here alone_all

      marked_here : added (view_at row0 group) (view_at row2 group) ≡ marked call.turn
      marked_here = added_here alone_all its_all

    -- the log that the pass has seen then is that of the group
    log_now : entries_of (view_at row2 group).seen ≡ call.turn.new.log
    log_now =
        ap (λ v. entries_of v.seen) (ap (λ r. view_at r group) call.is ∙ at_set row1 group call.pass in_row)
        ∙ (ap (λ (v : GroupPass). entries_of v.seen) call.turn.turn
        ∙ (entries_append ((view_at row1 group).seen ++ call.turn.others) (marked call.turn)
        ∙ (ap (λ l. entries_of l ++ entries_of (marked call.turn)) (sym call.turn.transition)
        ∙ (ap (λ l. l ++ entries_of (marked call.turn)) (entries_kept call.turn.old)
        ∙ (ap (λ l. call.turn.old.log ++ l) (entries_all call.turn.new.shelves call.turn.more call.turn.entries) ∙ sym call.turn.log)))))

    pub table_now : replayed call.turn.old.first (entries_of (view_at row2 group).seen) ≡ call.turn.new.table
    table_now =
        ap (replayed call.turn.old.first) log_now
        ∙ (ap (λ t. replayed t call.turn.new.log) (sym call.turn.first) ∙ replays_is call.turn.new.first call.turn.new.log call.turn.new.table call.turn.settled.replay)

    -- the archives of the group have a use in the logs
    pub group_used : (alone : JobOnlyWriter job k0 k2) → ((g : ℕ) (x y : List Entry) (e : Entry) → gained row0 row2 g ≡ x ++ e ∷ y → is_of job e ≡ true) → (s : Setting) → IsSettingOf s rack k0 → length names ≡ rack.groups
        → HasArrived call.turn.old.first call.turn.old.log call.turn.old.shelves.numbers → (n : ℕ) → Contains call.turn.old.shelves.numbers n → IsUsed s (seen_in row0) n
    group_used alone its s set count arrived n has =
        let u = arrived_used call.turn.old.first call.turn.old.table call.turn.old.log n call.turn.read call.turn.settled_old.replay (subst (λ ns. Contains ns n) arrived has) in (
          group,
          (let b = ap (λ (r : Rack). r.groups) set.rack_is in omega (arith, within, b, count)),
          (u.0, u.1, sym (met_log alone its) ∙ u.2, subst (λ t. IsSome (holder_of (replayed t u.0) n)) (sym (its_first alone its s set)) u.3),
        )

  -- IT CAME, by an entry of the job
  module _ {told : Type 0} {R : GroupView → GroupView → List Entry → Type 0} {group : ℕ} {row2 : GroupPasses} {i2 : IndexPasses} (same2 : i2 ≡ i1) (ready2 : AreReady rack names row2) (within : group < length names)
      (call : CallAt told R group row1 row2) {A : Type 0} {meaning : A → Meaning} {e : Entry} {shelf : Shelf A} {to : ℕ} (comes : ComesBy told meaning e shelf call.turn.old call.turn.new call.turn.entries)
      (number : shelf.number ≡ to) (by_job : job_of e ≡ job) (brings : arrival e ≡ shelf.number ∷ []) where
    abbrev with_it : Known
    with_it = known row2 i2

    pub came_all : AllOf (is_of job) call.turn.entries
    came_all = subst (λ es. AllOf (is_of job) es) (sym comes.entries_are) (all_one (is_of job) e (eq-eqb (job_of e) job by_job))

    pub came_work : JobWroteOnly job k0 with_it
    came_work = whole_work same2 ready2 within call came_all

    arrives : arrival e ≡ to ∷ []
    arrives = brings ∙ ap (λ n. n ∷ []) number

    at_names : group < length row0.names
    at_names = (let a = ap length ready.of.0 in omega (arith, a, within))

    come_are : AllOnlyWriters k0 with_it → (n : ℕ) → times n (to ∷ []) ≡ times n (came_in (length row0.names) (gained row0 row2))
    come_are sole n =
        ap (times n) (sym (came_one (length row0.names) (gained row0 row2) group at_names (gains_there same2 ready2 within call came_all sole)
        ∙ (ap arrivals (gains_here same2 ready2 within call came_all sole ∙ comes.entries_are) ∙ (append-nil (arrival e) ∙ arrives))))

    its_marks : (meant : ℕ → Meaning) → told → IsMeant (meant to) (meaning shelf.archive) → taking_at call.turn.new.shelves to ≡ taking_of (meant to)
    its_marks meant tells is =
        let b = comes.comes.brings in
        subst (λ n. taking_at call.turn.new.shelves n ≡ taking_of (meant to)) number
        (taking_is call.turn.new.shelves shelf.number (meaning shelf.archive) (b.marked ∙ b.counts.0) (b.marked_losses tells ∙ b.counts.1) b.taken ∙ taking_same (meant to) (meaning shelf.archive) is)

    come_marked : (meant : ℕ → Meaning) → told → IsMeant (meant to) (meaning shelf.archive) → AllOnlyWriters k0 with_it → (g : ℕ) → g < length row0.names → AreMarkedBy meant (added (view_at row0 g) (view_at row2 g))
    come_marked meant tells is sole g lt l n has arr = ⊎_elim
        (λ (same_group : g ≡ group).
        (let there : Contains (all_logged call.turn.new.shelves call.turn.more (e ∷ [])) l =
        subst (λ es. Contains (all_logged call.turn.new.shelves call.turn.more es) l) comes.entries_are
        (subst (λ ls. Contains ls l) (marked_here same2 ready2 within call came_all sole) (subst (λ h. Contains (added (view_at row0 h) (view_at row2 h)) l) same_group has)) in
        let one : logged_at call.turn.new.shelves call.turn.more e ≡ l = one_contained (logged_at call.turn.new.shelves call.turn.more e) l there in
        let its_number : to ≡ n = one_contained to n (subst (λ ns. Contains ns n) arrives (subst (λ (x : Logged). Contains (arrival x.entry) n) (sym one) arr)) in
        subst (λ k. l.taken ≡ Some (taking_of (meant k))) its_number
        (ap (λ (x : Logged). x.taken) (sym one) ∙ (marks_by call.turn.new.shelves e to (subst (λ ns. Contains ns to) (sym arrives) (zero, omega arith, refl)) ∙ ap (λ m. Some m) (its_marks meant tells is)))))
        (λ (ne : g ≢ group).
        absurd (none_contained n (subst (λ ns. Contains ns n) (gains_there same2 ready2 within call came_all sole g ne) (arrival_in (added (view_at row0 g) (view_at row2 g)) l n has arr))))
        (cases_eq g group)

    pub came_took : (well : Type 0) (r r' : RoomState) → r.out to ≡ false → ((n : ℕ) → n ≢ to → (r'.means n ≡ r.means n) × (r'.out n ≡ r.out n)) → r'.out to ≡ true
        → (told → IsMeant (r.means to) (meaning shelf.archive)) → Took told well (to ∷ []) r r' k0 with_it
    came_took well r r' home others out is = record {
      taken = to ∷ [];
      takes = takes_one told well to r r' home others out;
      come = record { are = come_are; marked = λ tells. come_marked r.means tells (is tells) };
    }

    now_use : HasUse row2 to
    now_use = (
      group,
      (let a = ap length ready2.of.0 in omega (arith, a, within)),
      subst (λ o. IsSomeAnd o (λ (x : GroupOrigin). (y : List Entry) × (z : List Entry) × (entries_of (view_at row2 group).seen ≡ y ++ z) × IsSome (holder_of (replayed x.first y) to)))
          (call.turn.origin ∙ sym (group_worked same2 ready2 within call came_all group).origin) (
            entries_of (view_at row2 group).seen,
            [],
            sym (append-nil (entries_of (view_at row2 group).seen)),
            subst (λ t. IsSome (holder_of t to)) (sym (table_now same2 ready2 within call came_all ∙ comes.comes.acts.table))
                (entry_held call.turn.old.table e to call.turn.settled_old.table comes.comes.acts.legal (subst (λ ns. Contains ns to) (sym arrives) (0, omega arith, refl))),
          ),
    )

    pub came_used : (r r' : RoomState) → ((n : ℕ) → n ≢ to → r'.out n ≡ r.out n) → AreUsed r row0 → AreUsed r' row2
    came_used r r' others used n is = ⊎_elim
        (λ (e : n ≡ to). subst (λ k. HasUse row2 k) (sym e) now_use)
        (λ (ne : n ≢ to). use_more job row0 row2 came_work.groups (ready2.of.0 ∙ sym ready.of.0) n (used n (sym (others n ne) ∙ is)))
        (cases_eq n to)

  -- IT WAS HANDED BACK
  module _ {told : Type 0} {R : GroupView → GroupView → List Entry → Type 0} {group : ℕ} {row2 : GroupPasses} {i2 : IndexPasses} (same2 : i2 ≡ i1) (ready2 : AreReady rack names row2) (within : group < length names)
      (call : CallAt told R group row1 row2) (none : call.turn.entries ≡ []) where
    pub back_all : AllOf (is_of job) call.turn.entries
    back_all = subst (λ es. AllOf (is_of job) es) (sym none) (all_none (is_of job))

    pub back_work : JobWroteOnly job k0 (known row2 i2)
    back_work = whole_work same2 ready2 within call back_all

    pub back_silent : JobOnlyWriter job k0 (known row2 i2) → IsSilent (mine job (section_of k0 (known row2 i2)))
    back_silent alone = none_here same2 ready2 within call back_all alone none

    -- to the room that had lent it
    module _ {A : Type 0} {shelf handed : Shelf A} {to : ℕ} (handed_is : handed ≡ shelf) (number : shelf.number ≡ to) (r r1 r2 : RoomState) (home : r.out to ≡ false)
        (took_others : (n : ℕ) → n ≢ to → (r1.means n ≡ r.means n) × (r1.out n ≡ r.out n)) (back : r2.out handed.number ≡ false)
        (gave_others : (n : ℕ) → n ≢ handed.number → (r2.means n ≡ r1.means n) × (r2.out n ≡ r1.out n)) where
      handed_number : handed.number ≡ to
      handed_number = ap (λ (x : Shelf A). x.number) handed_is ∙ number

      home_again : r2.out to ≡ false
      home_again = subst (λ n. r2.out n ≡ false) handed_number back

      others_same : (n : ℕ) → n ≢ to → (r2.means n ≡ r.means n) × (r2.out n ≡ r.out n)
      others_same n ne =
          let later = gave_others n (λ e. ne (e ∙ handed_number)) in
          let then = took_others n ne in
          (later.0 ∙ then.0, later.1 ∙ then.1)

      pub back_used : AreUsed r row0 → AreUsed r2 row2
      back_used used = used_more job r r2 row0 row2 back_work.groups (ready2.of.0 ∙ sym ready.of.0) (same_at r.out r2.out to (home_again ∙ sym home) (λ n ne. (others_same n ne).1)) used

      pub back_took : (meaning : A → Meaning) (well : Type 0) → (told → IsMeant (r.means to) (meaning shelf.archive)) → (told → well → IsMeant (r2.means handed.number) (meaning handed.archive)) → Took told well (to ∷ []) r r2 k0 (known row2 i2)
      back_took meaning well took gave = record {
        taken = [];
        takes = takes_back told well to r r2 home others_same home_again
            (λ tells w. meant_by (r.means to) (r2.means to) (meaning shelf.archive) (took tells) (subst (λ n. IsMeant (r2.means n) (meaning shelf.archive)) handed_number
            (subst (λ (x : Shelf A). IsMeant (r2.means handed.number) (meaning x.archive)) handed_is (gave tells w))));
        come = come_none told r.means k0 (known row2 i2) (silent_arrivals job k0 (known row2 i2) back_work back_silent);
      }
