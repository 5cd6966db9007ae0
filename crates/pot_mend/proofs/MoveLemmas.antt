-- The steps of a move, one after another, as work of a job.
use Rattle.std.proofs.Common.{◌≡◌, ◌≢◌, inl, ℕ, zero, suc, ◌<◌, ◌≤◌, ◌+◌, ◌-◌, ◌++◌, Bool, true, false, List, [], ◌∷◌, Option, Some, None, length, refl, sym, ap, ◌∙◌, subst, arith, append-nil, length-append, eq-eqb}
use Rattle.std.specs.Prelude.{cond, IsSomeAnd, Result, Ok, Err, Contains, filter, ◌==◌}
use Rattle.std.proofs.lemmas.List.{map-append, length-map}
use Rattle.std.proofs.lemmas.List.Elements.{Contains-append_right, filter-append}
use lib.Seq.{drop-length}
use Rattle.pot_bytes.specs.declared.rack.Rack.{Rack}
use Rattle.pot_bytes.proofs.Elements.{none_contained, one_contained}
use Rattle.pot_bytes.specs.Rack.{log_bound}
use Rattle.pot_machine.specs.declared.column.Moving.{Moving}
use Rattle.pot_machine.specs.declared.entry.Entry.{Entry}
use Rattle.pot_machine.specs.declared.entry.Entry.TheVariants.{Fault, Moved, MoveEnd}
use Rattle.pot_machine.specs.Table.{column_at}
use Rattle.pot_machine.specs.Machine.{Replays}
use Rattle.pot_machine.specs.Rules.{IsTable}
use Rattle.pot_machine.specs.Logs.{is_of, own, replayed}
use Rattle.pot_machine.proofs.LeftAlone.{rules_stay}
use Rattle.pot_machine.proofs.Logs.{back_replays, front_replays}
use Rattle.pot_group.specs.declared.copying.MoveStep.{MoveStep}
use Rattle.pot_group.specs.declared.copying.MoveStep.TheVariants as moved
use Rattle.pot_group.specs.declared.copying.MoveFault.{MoveFault}
use Rattle.pot_group.specs.declared.copying.MoveFault.TheVariants as failed
use Rattle.pot_group.specs.Group.{GroupView}
use Rattle.pot_turn.specs.declared.name.TurnName.{TurnName}
use Rattle.pot_worked.specs.Laws.{AllOf}
use Rattle.pot_worked.specs.WroteOnlyFor.{added}
use Rattle.pot_rows.specs.Rows.{view_at}
use Rattle.pot_rows.specs.Works.{RowOnlyWriterOf, RowWroteOnlyFor}
use Rattle.pot_rows.proofs.RowLemmas.{at_set}
use Rattle.pot_rows.proofs.WorkLemmas.{row_alone_in_parts, row_work_in_parts}
use Rattle.pot_index.specs.Entries as index
use Rattle.pot_replies.specs.Jobs.{is_copied, is_move_of, EachIs}
use Rattle.pot_replies.specs.Sections.{Section, IsOnlyIn, mine}
use Rattle.pot_replies.specs.Settings.{Setting}
use Rattle.pot_shared.specs.declared.member.GroupOrigin.{GroupOrigin}
use Rattle.pot_shared.specs.Members.{entries_of, origin_of}
use Rattle.pot_shared.specs.Ready.{AreReady, GroupPass, GroupPasses}
use Rattle.pot_shared.specs.Calls.{CallAt, marked}
use Rattle.pot_shared.specs.Catalogs.{IndexPasses}
use Rattle.pot_group.specs.Calls.{MoveStepCall, MoveTells}
use Rattle.pot_shared.proofs.MemberLemmas.{all_long, entries_all, entries_kept}
use Rattle.pot_shared.specs.Works.{of_job, gained, known, section_of, IsSettingOf}
use Rattle.pot_shared.proofs.WorkLemmas.{all_none, all_one, group_else, group_own, group_work, own_more, row_stays}
use Rattle.pot_shared.proofs.WorkLemmas.{gained_none}
use Rattle.pot_mend.specs.Moves.{IsMoved, IsMoveFault, IsMoveLogFull, MoveRow, seen_in}
use Rattle.pot_mend.specs.declared.fault.MendFault.{MendFault}
use Rattle.pot_mend.specs.declared.fault.MendFault.TheVariants as fault
use Rattle.pot_mend.proofs.HadLemmas.{move_ended}
use Rattle.pot_mend.proofs.CheckLemmas.{from_some}
use Rattle.pot_mend.proofs.EntryLemmas.{each_more}

-- ENTRIES

-- a step of the move of a column that does not end it
abbrev pub is_step : ℕ → Entry → Bool
is_step c (Moved job s column k) = column == c
is_step c _ = false

one_in : {X : Type 0} (x : X) → Contains (x ∷ []) x
one_in x = (0, omega arith, refl)

each_none : (test : Entry → Bool) → EachIs test []
each_none test e h = absurd (none_contained e h)

each_one : (test : Entry → Bool) (x : Entry) → test x ≡ true → EachIs test (x ∷ [])
each_one test x is e h = ap test (sym (one_contained x e h)) ∙ is

step_moves : (c : ℕ) (e : Entry) → is_step c e ≡ true → is_move_of c e ≡ true
step_moves c (Moved job s k copied) h = h
step_moves c _ h = absurd (cc h)

ends_not : (c job k : ℕ) → is_step c (MoveEnd job k) ≡ true → ⊥
ends_not c job k h = cc h

-- an element of what was filtered
pub kept_in : {X : Type 0} (test : X → Bool) (xs : List X) (x : X) → Contains (filter test xs) x → Contains xs x
kept_in test [] x h = h
kept_in {X} test (y ∷ xs) x h = by (λ more. kept_in test xs x more) (test y) h
  where
    later : Contains xs x → Contains (y ∷ xs) x
    later h = (suc h.0, omega (arith, h.1), h.2)

    by : (Contains (filter test xs) x → Contains xs x) → (b : Bool) → Contains (cond b (y ∷ filter test xs) (filter test xs)) x → Contains (y ∷ xs) x
    by rest true (zero, l, e) = (0, omega arith, e)
    by rest true (suc k, l, e) = later (rest (k, omega (arith, l), e))
    by rest false h = later (rest h)

-- ONE STEP

-- what a step logs for its answer
abbrev LogsAs : ℕ → ℕ → Result MoveStep MoveFault → List Entry → Type 0
LogsAs job c (Ok moved.Copied) es = (s : ℕ) × (es ≡ Moved job s c true ∷ [])
LogsAs job c (Ok moved.Passed) es = (s : ℕ) × (es ≡ Moved job s c false ∷ [])
LogsAs job c (Ok moved.Ended) es = es ≡ MoveEnd job c ∷ []
LogsAs job c (Err (failed.Faulted column)) es = (s : ℕ) × (es ≡ Fault job s c ∷ []) × (column ≡ c)
LogsAs job c (Err failed.LogFull) es = es ≡ []
LogsAs job c (Err failed.Idle) es = es ≡ []

on_move : (o : Option Moving) (P : Moving → Type 0) → IsSomeAnd o P → (m : Moving) × P m
on_move None P h = absurd h
on_move (Some m) P h = (m, h)

logs_as : (job c : ℕ) (result : Result MoveStep MoveFault) (old new : GroupView) (es : List Entry) → MoveTells job c result old new es → LogsAs job c result es
logs_as job c (Ok moved.Copied) old new es h = (let m = on_move (column_at old.table c).moving (λ m. es ≡ Moved job m.upto c true ∷ []) h.2 in (m.0.upto, m.1))
logs_as job c (Ok moved.Passed) old new es h = (let m = on_move (column_at old.table c).moving (λ m. es ≡ Moved job m.upto c false ∷ []) h.2 in (m.0.upto, m.1))
logs_as job c (Ok moved.Ended) old new es h = h.2
logs_as job c (Err (failed.Faulted column)) old new es h = (let m = on_move (column_at old.table c).moving (λ m. es ≡ Fault job m.upto c ∷ []) h.2 in (m.0.upto, m.1, h.1.0))
logs_as job c (Err failed.LogFull) old new es h = h.0
logs_as job c (Err failed.Idle) old new es h = h.0

all_its : (job c : ℕ) (result : Result MoveStep MoveFault) (es : List Entry) → LogsAs job c result es → AllOf (is_of job) es
all_its job c (Ok moved.Copied) es h = subst (λ l. AllOf (is_of job) l) (sym h.1) (all_one (is_of job) (Moved job h.0 c true) (eq-eqb job job refl))
all_its job c (Ok moved.Passed) es h = subst (λ l. AllOf (is_of job) l) (sym h.1) (all_one (is_of job) (Moved job h.0 c false) (eq-eqb job job refl))
all_its job c (Ok moved.Ended) es h = subst (λ l. AllOf (is_of job) l) (sym h) (all_one (is_of job) (MoveEnd job c) (eq-eqb job job refl))
all_its job c (Err (failed.Faulted column)) es h = subst (λ l. AllOf (is_of job) l) (sym h.1) (all_one (is_of job) (Fault job h.0 c) (eq-eqb job job refl))
all_its job c (Err failed.LogFull) es h = subst (λ l. AllOf (is_of job) l) (sym h) (all_none (is_of job))
all_its job c (Err failed.Idle) es h = subst (λ l. AllOf (is_of job) l) (sym h) (all_none (is_of job))

-- STEPS SO FAR

-- The job stepped the move, and copied so many blocks.
pub record IsMoving (job group c copied : ℕ) (old now : GroupPasses) : Type 0 where
  pub worked : RowWroteOnlyFor (of_job job) old now
  pub steps : RowOnlyWriterOf (of_job job) old now → EachIs (is_step c) (own job (gained old now group))
  pub copied_is : RowOnlyWriterOf (of_job job) old now → copied ≡ length (filter is_copied (own job (gained old now group)))
  pub elsewhere : RowOnlyWriterOf (of_job job) old now → (h : ℕ) → h ≢ group → own job (gained old now h) ≡ []
  pub few : copied ≤ length (view_at now group).seen

pub moving_none : (job group c : ℕ) (rack : Rack) (names : List TurnName) (row : GroupPasses) → AreReady rack names row → IsMoving job group c 0 row row
moving_none job group c rack names row ready = record {
  worked = row_stays (of_job job) row ready.idle;
  steps = (λ alone. subst (λ es. EachIs (is_step c) (own job es)) (sym (gained_none row group)) (each_none (is_step c)));
  copied_is = (λ alone. sym (ap (λ es. length (filter is_copied (own job es))) (gained_none row group)));
  elsewhere = (λ alone h ne. ap (own job) (gained_none row h));
  few = omega arith;
}

module _ (told : Type 0) (job group c copied : ℕ) (rack : Rack) (names : List TurnName) (old now next : GroupPasses) (ready : AreReady rack names now) (within : group < length names)
    (sofar : IsMoving job group c copied old now) (result : Result MoveStep MoveFault) (call : CallAt told (MoveStepCall told job c result) group now next) where
  long : group < length now.views
  long = let l = ready.of.1 in omega (arith, within, l)

  logs : LogsAs job c result call.turn.entries
  logs = logs_as job c result call.turn.old call.turn.new call.turn.entries call.turn.call.tells

  all : AllOf (is_of job) call.turn.entries
  all = all_its job c result call.turn.entries logs

  next_work : RowWroteOnlyFor (of_job job) now next
  next_work = group_work told job (MoveStepCall told job c result) group now next long call all ready.idle

  pub move_work : RowWroteOnlyFor (of_job job) old next
  move_work = row_work_in_parts (of_job job) old now next sofar.worked next_work

  here : view_at next group ≡ call.pass
  here = ap (λ (r : GroupPasses). view_at r group) call.is ∙ at_set now group call.pass long

  next_seen : (view_at next group).seen ≡ ((view_at now group).seen ++ call.turn.others) ++ marked call.turn
  next_seen = ap (λ (v : GroupPass). v.seen) here ∙ ap (λ (v : GroupPass). v.seen) call.turn.turn

  -- how long the log is that was seen
  longer : length (view_at next group).seen ≡ (length (view_at now group).seen + length call.turn.others) + length call.turn.entries
  longer =
      let parts = ap length next_seen ∙ length-append ((view_at now group).seen ++ call.turn.others) (marked call.turn) in
      let front = length-append (view_at now group).seen call.turn.others in
      let back = all_long call.turn.new.shelves call.turn.more call.turn.entries in
      omega (arith, parts, front, back)

  -- the log that was left is all that was seen
  left : seen_in next group ≡ call.turn.new.log
  left =
      let transition : entries_of ((view_at now group).seen ++ call.turn.others) ≡ call.turn.old.log = ap entries_of (sym call.turn.transition) ∙ entries_kept call.turn.old in
      ap entries_of next_seen
      ∙ (map-append (λ l. l.entry) ((view_at now group).seen ++ call.turn.others) (marked call.turn)
      ∙ (ap (λ l. l ++ entries_of (marked call.turn)) transition
      ∙ (ap (λ l. call.turn.old.log ++ l) (entries_all call.turn.new.shelves call.turn.more call.turn.entries) ∙ sym call.turn.log)))

  bounded : length (view_at next group).seen ≤ log_bound
  bounded =
      let a = length-map (view_at next group).seen (λ l. l.entry) in
      let b = ap length left in
      let d = call.turn.settled.bound in
      omega (arith, a, b, d)

  -- it falls
  pub move_falls : 1 ≤ length call.turn.entries → 262145 - length (view_at next group).seen < 262145 - length (view_at now group).seen
  move_falls some = (let a = longer in let b = bounded in omega (arith, a, b, some))

  module _ (alone : RowOnlyWriterOf (of_job job) old next) where
    parts : RowOnlyWriterOf (of_job job) old now × RowOnlyWriterOf (of_job job) now next
    parts = row_alone_in_parts (of_job job) old now next sofar.worked next_work alone

    own_here : own job (gained old next group) ≡ own job (gained old now group) ++ call.turn.entries
    own_here = own_more job old now next sofar.worked next_work group
        ∙ ap (λ es. own job (gained old now group) ++ es) (group_own told job (MoveStepCall told job c result) group now next long call all parts.1)

    own_else : (h : ℕ) → h ≢ group → own job (gained old next h) ≡ []
    own_else h ne = own_more job old now next sofar.worked next_work h
        ∙ (ap (λ es. es ++ own job (gained now next h)) (sofar.elsewhere parts.0 h ne) ∙ group_else told job (MoveStepCall told job c result) group now next long call all parts.1 h (λ e. ne (sym e)))

    -- the steps so far and then this one
    own_one : (e : Entry) → call.turn.entries ≡ e ∷ [] → own job (gained old next group) ≡ own job (gained old now group) ++ e ∷ []
    own_one e is = own_here ∙ ap (λ es. own job (gained old now group) ++ es) is

    own_none : call.turn.entries ≡ [] → own job (gained old next group) ≡ own job (gained old now group)
    own_none is = own_here ∙ (ap (λ es. own job (gained old now group) ++ es) is ∙ append-nil (own job (gained old now group)))

    copied_one : (e : Entry) (n : ℕ) → call.turn.entries ≡ e ∷ [] → length (filter is_copied (e ∷ [])) ≡ n → copied + n ≡ length (filter is_copied (own job (gained old next group)))
    copied_one e n is one =
        let parted = ap (λ es. length (filter is_copied es)) (own_one e is)
        ∙ (ap length (filter-append is_copied (own job (gained old now group)) (e ∷ [])) ∙ length-append (filter is_copied (own job (gained old now group))) (filter is_copied (e ∷ []))) in
        let before = sofar.copied_is parts.0 in
        omega (arith, parted, before, one)

    steps_are : EachIs (is_move_of c) (own job (gained old now group))
    steps_are e h = step_moves c e (sofar.steps parts.0 e h)

  one_more : (e : Entry) (n : ℕ) → call.turn.entries ≡ e ∷ [] → is_step c e ≡ true → length (filter is_copied (e ∷ [])) ≡ n → n ≤ 1 → IsMoving job group c (copied + n) old next
  one_more e n is step one most = record {
    worked = move_work;
    steps = (λ alone. subst (λ es. EachIs (is_step c) es) (sym (own_one alone e is))
        (each_more (is_step c) (own job (gained old now group)) (e ∷ []) (sofar.steps (parts alone).0) (each_one (is_step c) e step)));
    copied_is = (λ alone. copied_one alone e n is one);
    elsewhere = own_else;
    few = (let a = longer in let b = sofar.few in let d = ap length is in omega (arith, a, b, d, most));
  }

  -- THE ENDS

  module _ (alone : RowOnlyWriterOf (of_job job) old next) (s : Setting) (i j : IndexPasses) (same : j ≡ i) where
    abbrev whole : Section
    whole = section_of (known old i) (known next j)

    only : IsOnlyIn group (mine job whole)
    only = (own_else alone, subst (λ k. index.own job (added (view_at i 0) (view_at k 0)) ≡ []) (sym same) (ap (index.own job) (drop-length (view_at i 0).seen)))

    fault_ends : (stripe : ℕ) → call.turn.entries ≡ Fault job stripe c ∷ [] → IsMoveFault job group c whole
    fault_ends stripe is = record {
      only = only;
      sofar = own job (gained old now group);
      stripe = stripe;
      own_is = own_one alone (Fault job stripe c) is;
      moves = steps_are alone;
    }

    -- the log of the group is what stood before and what was gained
    in_parts : whole.before group ++ whole.added group ≡ call.turn.new.log
    in_parts =
        sym (map-append (λ l. l.entry) (view_at old group).seen (added (view_at old group) (view_at next group)))
        ∙ (ap entries_of (sym (move_work group).seen) ∙ left)

    full_ends : call.turn.entries ≡ [] → length call.turn.new.log ≡ log_bound → IsMoveLogFull job group c whole
    full_ends none full = record {
      only = only;
      moves = subst (λ es. EachIs (is_move_of c) es) (sym (own_none alone none)) (steps_are alone);
      unended = (λ h. ends_not c job c (sofar.steps (parts alone).0 (MoveEnd job c) (subst (λ es. Contains es (MoveEnd job c)) (own_none alone none) h)));
      log = whole.before group ++ whole.added group;
      moment = record { sofar = whole.added group; later = []; parts = sym (append-nil (whole.added group)); last = refl; is = refl };
      full = ap length in_parts ∙ full;
    }

    -- it ended
    end_ends : call.turn.entries ≡ MoveEnd job c ∷ [] → IsMoved s job group c copied whole
    end_ends is = record {
      only = only;
      moves = subst (λ es. EachIs (is_move_of c) es) (sym (own_one alone (MoveEnd job c) is))
          (each_more (is_move_of c) (own job (gained old now group)) (MoveEnd job c ∷ []) (steps_are alone) (each_one (is_move_of c) (MoveEnd job c) (eq-eqb c c refl)));
      slots_is = (let a = copied_one alone (MoveEnd job c) 0 is refl in omega (arith, a));
      ends = (λ moves. inl (
        job,
        kept_in (is_of job) (whole.added group) (MoveEnd job c) (subst (λ es. Contains es (MoveEnd job c)) (sym (own_one alone (MoveEnd job c) is))
            (Contains-append_right (own job (gained old now group)) (MoveEnd job c ∷ []) (MoveEnd job c) (one_in (MoveEnd job c)))),
      ));
    }

    module _ (set : IsSettingOf s rack (known old i)) (of : old.names ≡ names) where
      first_is : s.first group ≡ call.turn.old.first
      first_is =
          let origin : Some (origin_of call.turn.old) ≡ (view_at old group).origin = call.turn.origin ∙ (sofar.worked group).origin in
          from_some (view_at old group).origin (origin_of call.turn.old) (λ (o : GroupOrigin). s.first group ≡ o.first) origin
          (set.first group (let n = ap length of in omega (arith, n, within)))

      replay : Replays (s.first group) (whole.before group ++ whole.added group) call.turn.new.table
      replay = subst (λ l. Replays (s.first group) l call.turn.new.table) (sym in_parts)
          (subst (λ t. Replays t call.turn.new.log call.turn.new.table) (call.turn.first ∙ sym first_is) call.turn.settled.replay)

      -- the column moves no more
      idle_ends : call.turn.entries ≡ [] → (column_at call.turn.new.table c).moving ≡ None → IsMoved s job group c copied whole
      idle_ends none idle = record {
        only = only;
        moves = subst (λ es. EachIs (is_move_of c) es) (sym (own_none alone none)) (steps_are alone);
        slots_is = sofar.copied_is (parts alone).0 ∙ ap (λ es. length (filter is_copied es)) (sym (own_none alone none));
        ends = (λ moves. move_ended (replayed (s.first group) (whole.before group)) (whole.added group) call.turn.new.table c
            (rules_stay (s.first group) (replayed (s.first group) (whole.before group)) (whole.before group) (subst (λ t. IsTable t) (sym first_is) call.turn.read)
            (front_replays (s.first group) (whole.before group) (whole.added group) call.turn.new.table replay))
            (back_replays (s.first group) (whole.before group) (whole.added group) call.turn.new.table replay) moves idle);
      }

-- A STEP THAT GOES ON

module _ (told : Type 0) (job group c copied : ℕ) (rack : Rack) (names : List TurnName) (old now next : GroupPasses) (ready : AreReady rack names now) (within : group < length names)
    (sofar : IsMoving job group c copied old now) where
  -- a block was copied
  module _ (call : CallAt told (MoveStepCall told job c (Ok moved.Copied)) group now next) where
    pub moving_copied : IsMoving job group c (copied + 1) old next
    moving_copied =
        let l = logs told job group c copied rack names old now next ready within sofar (Ok moved.Copied) call in
        one_more told job group c copied rack names old now next ready within sofar (Ok moved.Copied) call (Moved job l.0 c true) 1 l.1 (eq-eqb c c refl) refl (omega arith)

    pub falls_copied : 262145 - length (view_at next group).seen < 262145 - length (view_at now group).seen
    falls_copied =
        let l = logs told job group c copied rack names old now next ready within sofar (Ok moved.Copied) call in
        move_falls told job group c copied rack names old now next ready within sofar (Ok moved.Copied) call (let n = ap length l.1 in omega (arith, n))

    -- and the count fits
    pub copied_fits : copied < log_bound
    copied_fits =
        let m = moving_copied.few in
        let b = bounded told job group c copied rack names old now next ready within sofar (Ok moved.Copied) call in
        omega (arith, m, b)

  -- a slot was passed
  module _ (call : CallAt told (MoveStepCall told job c (Ok moved.Passed)) group now next) where
    pub moving_passed : IsMoving job group c copied old next
    moving_passed =
        let l = logs told job group c copied rack names old now next ready within sofar (Ok moved.Passed) call in
        subst (λ n. IsMoving job group c n old next) (plus_none copied)
        (one_more told job group c copied rack names old now next ready within sofar (Ok moved.Passed) call (Moved job l.0 c false) 0 l.1 (eq-eqb c c refl) refl (omega arith))
      where
        plus_none : (n : ℕ) → n + 0 ≡ n
        plus_none n = omega arith

    pub falls_passed : 262145 - length (view_at next group).seen < 262145 - length (view_at now group).seen
    falls_passed =
        let l = logs told job group c copied rack names old now next ready within sofar (Ok moved.Passed) call in
        move_falls told job group c copied rack names old now next ready within sofar (Ok moved.Passed) call (let n = ap length l.1 in omega (arith, n))

-- A STEP THAT IS THE LAST

module _ (told : Type 0) (job group c copied : ℕ) (rack : Rack) (names : List TurnName) (old now next : GroupPasses) (ready : AreReady rack names now) (within : group < length names)
    (sofar : IsMoving job group c copied old now) (i j : IndexPasses) (same : j ≡ i) (of : old.names ≡ names) where
  abbrev Says : Result ℕ MendFault → Type 0
  Says answer = RowOnlyWriterOf (of_job job) old next → (s : Setting) → IsSettingOf s rack (known old i) → MoveRow s job group c answer (section_of (known old i) (known next j))

  pub says_ended : CallAt told (MoveStepCall told job c (Ok moved.Ended)) group now next → Says (Ok copied)
  says_ended call alone s set =
      let l = logs told job group c copied rack names old now next ready within sofar (Ok moved.Ended) call in
      end_ends told job group c copied rack names old now next ready within sofar (Ok moved.Ended) call alone s i j same l

  pub says_idle : CallAt told (MoveStepCall told job c (Err failed.Idle)) group now next → Says (Ok copied)
  says_idle call alone s set =
      let t = call.turn.call.tells in
      idle_ends told job group c copied rack names old now next ready within sofar (Err failed.Idle) call alone s i j same set of t.0
      (ap (λ (g : GroupView). (column_at g.table c).moving) t.1 ∙ t.3)

  pub says_faulted : (k : ℕ) → CallAt told (MoveStepCall told job c (Err (failed.Faulted k))) group now next → Says (Err (fault.Faulted group k))
  says_faulted k call alone s set =
      let l = logs told job group c copied rack names old now next ready within sofar (Err (failed.Faulted k)) call in
      (refl, l.2, fault_ends told job group c copied rack names old now next ready within sofar (Err (failed.Faulted k)) call alone s i j same l.0 l.1)

  pub says_full : CallAt told (MoveStepCall told job c (Err failed.LogFull)) group now next → Says (Err (fault.LogFull group))
  says_full call alone s set =
      let t = call.turn.call.tells in
      (refl, full_ends told job group c copied rack names old now next ready within sofar (Err failed.LogFull) call alone s i j same t.0 (ap (λ (g : GroupView). length g.log) t.1 ∙ t.2))

-- THE WORK

module _ (told : Type 0) (job group c copied : ℕ) (rack : Rack) (names : List TurnName) (old now next : GroupPasses) (ready : AreReady rack names now) (within : group < length names)
    (sofar : IsMoving job group c copied old now) where
  pub worked_on : (result : Result MoveStep MoveFault) → CallAt told (MoveStepCall told job c result) group now next → RowWroteOnlyFor (of_job job) old next
  worked_on result call = move_work told job group c copied rack names old now next ready within sofar result call
