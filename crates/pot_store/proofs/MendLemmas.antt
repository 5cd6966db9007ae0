-- The mending of a place, turn by turn, and one look behind it.
use Rattle.std.proofs.Common.{◌≡◌, ◌<◌, ◌≤◌, inl, inr, ℕ, zero, suc, ◌+◌, true, false, List, [], ◌∷◌, ◌++◌, length, refl, ap, sym, ◌∙◌, subst, arith, append_assoc, append-nil, eq-eqb}
use Rattle.std.specs.Prelude.{IfSome, All}
use Rattle.pot_bytes.specs.declared.digest.Digest.{Digest}
use Rattle.pot_bytes.specs.declared.rack.Place.{Place}
use Rattle.pot_bytes.specs.declared.rack.Rack.{Rack}
use Rattle.pot_bytes.specs.Rack.{log_bound}
use Rattle.pot_machine.specs.declared.entry.Entry.{Entry}
use Rattle.pot_machine.specs.declared.entry.Entry.TheVariants as entry
use Rattle.pot_machine.specs.Machine.{Replays}
use Rattle.pot_machine.specs.Rules.{IsTable}
use Rattle.pot_machine.specs.Table.{Table}
use Rattle.pot_machine.specs.Logs.{is_of}
use Rattle.pot_group.specs.declared.relaying.Mend.{Mend}
use Rattle.pot_group.specs.declared.relaying.Mend.TheVariants as mend
use Rattle.pot_group.specs.Group.{GroupView}
use Rattle.pot_pads.specs.Pads.{Pads}
use Rattle.pot_turn.specs.declared.name.TurnName.{TurnName}
use Rattle.pot_worked.specs.Laws.{AllOf}
use Rattle.pot_rows.specs.Rows.{view_at, with_view}
use Rattle.pot_rows.proofs.RowLemmas.{at_set}
use Rattle.pot_replies.specs.Jobs.{is_seen_at}
use Rattle.pot_shared.specs.Members.{entries_of, origin_of}
use Rattle.pot_shared.specs.Ready.{AreReady, GroupPass, GroupPasses}
use Rattle.pot_shared.specs.Calls.{CallAt, CallTurn}
use Rattle.pot_group.specs.Calls.{MendCall}
use Rattle.pot_replies.proofs.Excluding.{last_same}
use Rattle.pot_shared.specs.MendCalls.{GoesOn, MendTurns, MendsPlace, begins, blind_at}
use Rattle.pot_shared.specs.declared.mending.Mending.{Mending}
use Rattle.pot_shared.proofs.CallLemmas.{ready_again, set_twice}
use Rattle.pot_shared.specs.Adds.{Adds, IsFirstTableSeen}
use Rattle.pot_shared.specs.Works.{gained}
use Rattle.pot_store.specs.Visits.{Came, EndsGone, EndsSecond, LooksAgain, LooksOnce, MayVisit, MendsOn, ReadsBlock, SoundThenGone, look_logs, lost_if_gone, was_seen}
use Rattle.pot_store.specs.Visits as came
use Rattle.pot_shared.proofs.WorkLemmas.{all_none, all_one}
use Rattle.pot_shared.proofs.AddLemmas.{adds_call, adds_none, adds_then, is_first, left_long, seen_parts}
use Rattle.pot_store.proofs.VisitLemmas.{gained_both, gained_by, just_this, log_met, no_entry, reads_behind}
use Rattle.pot_store.proofs.RelayLemmas.{AreSteps, fault_entry, odd_entry, second_of, turn_step}

-- ALL TURNS

module _ (told : Type 0) (rack : Rack) (names : List TurnName) (job : ℕ) (p : Place) (pads : Pads) (within : p.group < length names) where
  -- Turns after each of which the mend went on, and then the one that ended it.
  pub record EndsMend (result : Mend) (old new : GroupPasses) : Type 0 where
    pub steps : List Entry
    pub are : AreSteps job p steps
    pub mid : GroupPasses
    pub adds : Adds job p.group steps old mid
    pub ready : AreReady rack names mid
    pub blind : List ℕ
    pub call : CallAt told (MendCall told job p blind result) p.group mid new

  long : (row : GroupPasses) → AreReady rack names row → p.group < length row.views
  long row ready = (let l = ready.of.1 in omega (arith, within, l))

  module _ (a : Mend) (blind : List ℕ) (result : Mend) (row next new : GroupPasses) (go : GoesOn a) (ready : AreReady rack names row)
      (call : CallAt told (MendCall told job p blind a) p.group row next) where
    -- one turn more before the others
    ends_more : EndsMend result next new → EndsMend result row new
    ends_more later =
        let (e, is, step) = turn_step told job p blind a (view_at row p.group) call.pass go call.turn in
        let one : Adds job p.group (e ∷ []) row next =
        subst (λ es. Adds job p.group es row next) is
        (adds_call told job (MendCall told job p blind a) p.group row next (long row ready) call ready.idle (subst (λ es. AllOf (is_of job) es) (sym is) (all_one (is_of job) e step.own))) in
        record {
          steps = e ∷ later.steps;
          are = (step, later.are);
          mid = later.mid;
          adds = adds_then job p.group (e ∷ []) later.steps row next later.mid one later.adds;
          ready = later.ready;
          blind = later.blind;
          call = later.call;
        }

  ends_turns : (n : ℕ) (before : List Mend) (result : Mend) (row : GroupPasses) (w : GroupPass) → All GoesOn before → AreReady rack names row
      → MendTurns told job p pads n (before ++ result ∷ []) (view_at row p.group) w → EndsMend result row (with_view row p.group w)
  ends_turns n [] result row w go ready (u, turn, is) = record {
    steps = [];
    are = tt;
    mid = row;
    adds = adds_none job p.group row ready.idle;
    ready = ready;
    blind = blind_at pads n;
    call = record { pass = w; is = refl; turn = subst (λ (x : GroupPass). CallTurn told (MendCall told job p (blind_at pads n) result) (view_at row p.group) x) (sym is) turn };
  }
  ends_turns n (a ∷ more) result row w go ready (u, turn, rest) =
      let next : GroupPasses = with_view row p.group u in
      let call : CallAt told (MendCall told job p (blind_at pads n) a) p.group row next = record { pass = u; is = refl; turn = turn } in
      let here : view_at next p.group ≡ u = at_set row p.group u (long row ready) in
      let ready_next : AreReady rack names next = ready_again ready within call in
      let later : EndsMend result next (with_view next p.group w) =
      ends_turns (n + begins a) more result next w (λ i d lt. go (suc i) d (omega (arith, lt))) ready_next
      (subst (λ (x : GroupPass). MendTurns told job p pads (n + begins a) (more ++ result ∷ []) x w) (sym here) rest) in
      let same : with_view next p.group w ≡ with_view row p.group w = ap (λ vs. record row { views = vs }) (set_twice row.views p.group u w) in
      ends_more a (blind_at pads n) result row next (with_view row p.group w) (go zero a (omega arith)) ready call (subst (λ (x : GroupPasses). EndsMend result next x) same later)

  pub ends_mend : (after : Pads) (result : Mending) (old new : GroupPasses) → AreReady rack names old → MendsPlace told job p pads after result old new → EndsMend result.end old new
  ends_mend after result old new ready mends =
      subst (λ (x : GroupPasses). EndsMend result.end old x) (sym mends.is) (ends_turns 0 mends.before result.end old mends.pass mends.go_on ready mends.turns)

-- IN VAIN

-- another entry than a Gone is the last
no_gone : (job : ℕ) (p : Place) (xs : List Entry) (x : Entry) → (x ≡ entry.Gone job p.stripe p.column → ⊥) → EndsGone job p (xs ++ x ∷ []) → ⊥
no_gone job p xs x other (sofar, e, parts, is) = other (last_same xs sofar x e parts ∙ is)

no_block : (job : ℕ) (p : Place) (c : Came) (old new : GroupPasses) → ((block : List ℕ) → c ≡ came.Seen block → ⊥) → ReadsBlock job p c old new
no_block job p c old new unseen block is = absurd (unseen block is)

module _ (told : Type 0) (rack : Rack) (names : List TurnName) (job : ℕ) (p : Place) (pads : Pads) (within : p.group < length names) (result : Mend) (old new : GroupPasses)
    (ends : EndsMend told rack names job p pads within result old new) where
  abbrev Call : GroupView → GroupView → List Entry → Type 0
  Call = MendCall told job p ends.blind result

  mid_long : p.group < length ends.mid.views
  mid_long = (let l = ends.ready.of.1 in omega (arith, within, l))

  -- what the last turn logged, and what all did
  call_adds : (last : List Entry) → ends.call.turn.entries ≡ last → AllOf (is_of job) last → Adds job p.group last ends.mid new
  call_adds last is all = subst (λ es. Adds job p.group es ends.mid new) is
      (adds_call told job Call p.group ends.mid new mid_long ends.call ends.ready.idle (subst (λ es. AllOf (is_of job) es) (sym is) all))

  its_adds : (last : List Entry) → ends.call.turn.entries ≡ last → AllOf (is_of job) last → Adds job p.group (ends.steps ++ last) old new
  its_adds last is all = adds_then job p.group ends.steps last old ends.mid new ends.adds (call_adds last is all)

  -- one entry ended it, which was no look
  ends_one : (e : Entry) (c : Came) → ends.call.turn.entries ≡ e ∷ [] → is_of job e ≡ true → MayVisit job p e → is_seen_at p.stripe p.column e ≡ false → was_seen c ≡ false
      → ((block : List ℕ) → c ≡ came.Seen block → ⊥) → (e ≡ entry.Gone job p.stripe p.column → ⊥) → (c ≡ came.Barred → ⊥) → EndsSecond job p (ends.steps ++ e ∷ []) c → MendsOn job p c old new
  ends_one e c is own may unseen none no_seen gone barred last = record {
    entries = ends.steps ++ e ∷ [];
    adds = its_adds (e ∷ []) is (all_one (is_of job) e own);
    is = second_of job p ends.steps (e ∷ []) c ends.are (omega arith) (just_this job p e may) (rw unseen (sym none)) last;
    block = no_block job p c old new no_seen;
    again = λ lost at. absurd (no_gone job p ends.steps e gone at);
    barred = λ full. absurd (barred full);
  }

-- AN ANSWER

module _ (told : Type 0) (rack : Rack) (names : List TurnName) (job : ℕ) (p : Place) (pads : Pads) (within : p.group < length names) (old new : GroupPasses) where
  abbrev Ended : Mend → Type 0
  Ended result = EndsMend told rack names job p pads within result old new

  -- two slots of the stripe are gone
  mends_stuck : (first second : ℕ) → Ended (mend.TwoGone first second) → MendsOn job p came.Lost old new
  mends_stuck first second ends =
      ends_one told rack names job p pads within (mend.TwoGone first second) old new ends (entry.Stuck job p.stripe p.column second) came.Lost ends.call.turn.call.tells.0
      (eq-eqb job job refl) (refl, refl, refl) refl refl (λ block e. cc e) (λ e. cc e) (λ e. cc e)
      (inl (ends.steps, entry.Stuck job p.stripe p.column second, refl, (second, refl)))

  -- its relay came to another block
  mends_odd : (wanted found : Digest) → Ended (mend.Odd wanted found) → MendsOn job p came.Lost old new
  mends_odd wanted found ends =
      let t = ends.call.turn in
      let (d, m) = t.call.tells.1 in
      let (f, is) = odd_entry told job p t.old t.settled_old d.stripe t.entries wanted found d.own d.owns d.result d.is m in
      ends_one told rack names job p pads within (mend.Odd wanted found) old new ends (entry.Oddly job p.stripe p.column f) came.Lost is
      (eq-eqb job job refl) refl refl refl (λ block e. cc e) (λ e. cc e) (λ e. cc e)
      (inr (inl (ends.steps, entry.Oddly job p.stripe p.column f, refl, (f, refl))))

  -- an archive failed
  mends_failed : (column : ℕ) → Ended (mend.Faulted column) → MendsOn job p (came.Failed column) old new
  mends_failed column ends =
      let t = ends.call.turn in
      let (d, m) = t.call.tells.1 in
      let is = fault_entry told job p t.old t.settled_old d.stripe t.entries column d.own d.result d.is m in
      ends_one told rack names job p pads within (mend.Faulted column) old new ends (entry.Fault job d.stripe column) (came.Failed column) is
      (eq-eqb job job refl) refl refl refl (λ block e. cc e) (λ e. cc e) (λ e. cc e)
      (ends.steps, d.stripe, refl, tt)

  -- the log was full
  mends_barred : Ended mend.LogFull → MendsOn job p came.Barred old new
  mends_barred ends =
      let t = ends.call.turn in
      let none : t.entries ≡ [] = t.call.tells.0 in
      let full : length t.old.log ≡ log_bound = t.call.tells.2 in
      let same = ap (λ (g : GroupView). length g.log) t.call.tells.1 in
      let left = left_long told job (MendCall told job p ends.blind mend.LogFull) p.group ends.mid new (mid_long told rack names job p pads within mend.LogFull old new ends) ends.call in
      record {
        entries = ends.steps ++ [];
        adds = its_adds told rack names job p pads within mend.LogFull old new ends [] none (all_none (is_of job));
        is = second_of job p ends.steps [] came.Barred ends.are (omega arith) (no_entry job p) refl tt;
        block = no_block job p came.Barred old new (λ block e. cc e);
        again = λ lost at. absurd (cc lost);
        barred = λ is. omega (arith, full, same, left);
      }

-- ONE LOOK MORE

module _ (job : ℕ) (p : Place) where
  logs_few : (c : Came) → length (look_logs job p c) ≤ 1
  logs_few came.Unknown = omega arith
  logs_few (came.Seen block) = omega arith
  logs_few came.Gone = omega arith
  logs_few came.Lost = omega arith
  logs_few (came.Failed column) = omega arith
  logs_few came.Barred = omega arith

  seen_same : (c : Came) → was_seen c ≡ was_seen (lost_if_gone c)
  seen_same came.Unknown = refl
  seen_same (came.Seen block) = refl
  seen_same came.Gone = refl
  seen_same came.Lost = refl
  seen_same (came.Failed column) = refl
  seen_same came.Barred = refl

  -- a look ends what was logged before it
  look_ends : (xs : List Entry) (c : Came) (old new : GroupPasses) → LooksOnce job p c old new → EndsSecond job p (xs ++ look_logs job p c) (lost_if_gone c)
  look_ends xs came.Unknown old new look = absurd (look.known (inl refl))
  look_ends xs (came.Seen block) old new look = tt
  look_ends xs came.Gone old new look = inr (inr (xs, entry.Gone job p.stripe p.column, refl, refl))
  look_ends xs came.Lost old new look = absurd (look.known (inr refl))
  look_ends xs (came.Failed column) old new look =
      let (sofar, t, is, why) = look.visits.is.ends in
      (xs ++ sofar, t, ap (λ l. xs ++ l) is ∙ sym (append_assoc xs sofar (entry.Fault job t column ∷ [])), tt)
  look_ends xs came.Barred old new look = tt

  look_block : (c : Came) (old new : GroupPasses) → ReadsBlock job p c old new → ReadsBlock job p (lost_if_gone c) old new
  look_block came.Unknown old new block = block
  look_block (came.Seen b) old new block = block
  look_block came.Gone old new block = no_block job p came.Lost old new (λ b e. cc e)
  look_block came.Lost old new block = block
  look_block (came.Failed column) old new block = block
  look_block came.Barred old new block = block

  barred_first : (c : Came) → lost_if_gone c ≡ came.Barred → c ≡ came.Barred
  barred_first came.Unknown e = absurd (cc e)
  barred_first (came.Seen b) e = absurd (cc e)
  barred_first came.Gone e = absurd (cc e)
  barred_first came.Lost e = absurd (cc e)
  barred_first (came.Failed column) e = absurd (cc e)
  barred_first came.Barred e = refl

  lost_first : (c : Came) (old new : GroupPasses) → LooksOnce job p c old new → lost_if_gone c ≡ came.Lost → c ≡ came.Gone
  lost_first came.Unknown old new look e = absurd (cc e)
  lost_first (came.Seen b) old new look e = absurd (cc e)
  lost_first came.Gone old new look e = refl
  lost_first came.Lost old new look e = absurd (look.known (inr refl))
  lost_first (came.Failed column) old new look e = absurd (cc e)
  lost_first came.Barred old new look e = absurd (cc e)

module _ (told : Type 0) (rack : Rack) (names : List TurnName) (job : ℕ) (p : Place) (pads : Pads) (within : p.group < length names) (old mid new : GroupPasses)
    (ends : EndsMend told rack names job p pads within mend.Whole old mid) (c : Came) (look : LooksOnce job p c mid new) where
  abbrev Whole : GroupView → GroupView → List Entry → Type 0
  Whole = MendCall told job p ends.blind mend.Whole

  abbrev t : CallTurn told Whole (view_at ends.mid p.group) ends.call.pass
  t = ends.call.turn

  group_long : p.group < length ends.mid.views
  group_long = mid_long told rack names job p pads within mend.Whole old mid ends

  none_adds : Adds job p.group [] ends.mid mid
  none_adds = call_adds told rack names job p pads within mend.Whole old mid ends [] t.call.tells.0 (all_none (is_of job))

  before_adds : Adds job p.group ends.steps old mid
  before_adds = subst (λ es. Adds job p.group es old mid) (append-nil ends.steps) (adds_then job p.group ends.steps [] old ends.mid mid ends.adds none_adds)

  -- what the pass gained up to the moment at which the slot was whole
  abbrev up_to : List Entry
  up_to = gained old ends.mid p.group ++ entries_of t.others

  gained_whole : gained old mid p.group ≡ up_to
  gained_whole =
      gained_both job old ends.mid mid ends.adds.worked none_adds.worked p.group
      ∙ ap (λ l. gained old ends.mid p.group ++ l)
      (gained_by told Whole p.group ends.mid mid group_long ends.call ∙ (ap (λ es. entries_of t.others ++ es) t.call.tells.0 ∙ append-nil (entries_of t.others)))

  -- and a look that gave nothing stands behind it
  gained_gone : c ≡ came.Gone → gained old new p.group ≡ (up_to ++ look.last.0) ++ entry.Gone job p.stripe p.column ∷ []
  gained_gone is =
      gained_both job old mid new before_adds.worked look.visits.adds.worked p.group
      ∙ (ap (λ l. l ++ gained mid new p.group) gained_whole
      ∙ (ap (λ l. up_to ++ l) (look.last.1 ∙ ap (λ x. look.last.0 ++ look_logs job p x) is) ∙ sym (append_assoc up_to look.last.0 (entry.Gone job p.stripe p.column ∷ []))))

  -- the log that was met then
  log_whole : t.old.log ≡ entries_of (view_at old p.group).seen ++ up_to
  log_whole =
      log_met told Whole p.group ends.mid mid group_long ends.call
      ∙ (ap (λ l. l ++ entries_of t.others) (seen_parts job p.group old ends.mid ends.adds.worked)
      ∙ append_assoc (entries_of (view_at old p.group).seen) (gained old ends.mid p.group) (entries_of t.others))

  first_whole : (first : Table) → IsFirstTableSeen p.group old first → first ≡ t.old.first
  first_whole first read =
      is_first (view_at ends.mid p.group).origin first (origin_of t.old) t.origin (subst (λ o. IfSome o (λ x. first ≡ x.first)) (sym (ends.adds.worked p.group).origin) read)

  sound_gone : c ≡ came.Gone → SoundThenGone job p (λ x. Unit {0}) old new
  sound_gone is first read =
      let same : first ≡ t.old.first = first_whole first read in
      let replay : Replays first (entries_of (view_at old p.group).seen ++ up_to) t.old.table =
      subst (λ l. Replays first l t.old.table) log_whole (subst (λ f. Replays f t.old.log t.old.table) (sym same) t.settled_old.replay) in
      (subst (λ f. IsTable f) (sym same) t.read, (up_to, look.last.0, [], tt, gained_gone is, (t.old.table, replay, t.call.tells.3)))

  mends_whole : MendsOn job p (lost_if_gone c) old new
  mends_whole = record {
    entries = ends.steps ++ look_logs job p c;
    adds = adds_then job p.group ends.steps (look_logs job p c) old mid new before_adds look.visits.adds;
    is = second_of job p ends.steps (look_logs job p c) (lost_if_gone c) ends.are (logs_few job p c) look.visits.is.kinds (look.visits.is.seen ∙ seen_same job p c)
        (look_ends job p ends.steps c mid new look);
    block = reads_behind job old mid new before_adds.worked look.visits.adds.worked p (lost_if_gone c) (look_block job p c mid new look.visits.block);
    again = λ lost at. sound_gone (lost_first job p c mid new look lost);
    barred = λ is. look.visits.barred (barred_first job p c is);
  }

-- THE ANSWERS OF A MEND

module _ (told : Type 0) (rack : Rack) (names : List TurnName) (job : ℕ) (p : Place) (pads after : Pads) (within : p.group < length names) (result : Mending) (old mid : GroupPasses)
    (ready : AreReady rack names old) (mends : MendsPlace told job p pads after result old mid) where
  ends_as : (answer : Mend) → result.end ≡ answer → EndsMend told rack names job p pads within answer old mid
  ends_as answer is = subst (λ r. EndsMend told rack names job p pads within r old mid) is (ends_mend told rack names job p pads within after result old mid ready mends)

  pub mended_stuck : (first second : ℕ) → result.end ≡ mend.TwoGone first second → MendsOn job p came.Lost old mid
  mended_stuck first second is = mends_stuck told rack names job p pads within old mid first second (ends_as (mend.TwoGone first second) is)

  pub mended_odd : (wanted found : Digest) → result.end ≡ mend.Odd wanted found → MendsOn job p came.Lost old mid
  mended_odd wanted found is = mends_odd told rack names job p pads within old mid wanted found (ends_as (mend.Odd wanted found) is)

  pub mended_failed : (column : ℕ) → result.end ≡ mend.Faulted column → MendsOn job p (came.Failed column) old mid
  mended_failed column is = mends_failed told rack names job p pads within old mid column (ends_as (mend.Faulted column) is)

  pub mended_barred : result.end ≡ mend.LogFull → MendsOn job p came.Barred old mid
  mended_barred is = mends_barred told rack names job p pads within old mid (ends_as mend.LogFull is)

  pub mended_whole : (c : Came) (new : GroupPasses) → result.end ≡ mend.Whole → LooksAgain job p c mid new → MendsOn job p c old new
  mended_whole c new is again =
      subst (λ x. MendsOn job p x old new) (sym again.is)
      (mends_whole told rack names job p pads within old mid new (ends_as mend.Whole is) again.first again.looks)
