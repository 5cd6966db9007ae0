-- The answers of a batch as a step of a session.
use Rattle.std.proofs.Common.{◌≡◌, ◌+◌, ⊎_elim, inl, inr, ℕ, zero, suc, Bool, true, false, List, [], ◌∷◌, ◌++◌, length, refl, ap, sym, ◌∙◌, subst, arith, append-nil, eqb-true}
use Rattle.std.specs.Prelude.{Option, Some, None, Result, Ok, Err, slice_get, filter}
use Rattle.std.proofs.lemmas.Bool.{and_parts}
use Rattle.std.proofs.lemmas.Option.{same_Some}
use mathlib.Core.Path.{fun_ext}
use Rattle.pot_bytes.specs.declared.rack.Rack.{Rack}
use Rattle.pot_bytes.specs.declared.memory.NoMemory.{NoMemory}
use Rattle.pot_machine.specs.declared.entry.Entry.{Entry}
use Rattle.pot_machine.specs.Logs.{job_of, is_of, own}
use Rattle.pot_group.specs.Arrivals.{arrivals}
use Rattle.pot_index.specs.Entries.{job_in}
use Rattle.pot_turn.proofs.LogLemmas.{get_back}
use Rattle.pot_worked.specs.WroteOnlyFor.{added}
use Rattle.pot_rows.specs.Rows.{view_at}
use Rattle.pot_script.specs.declared.command.Command.{Command}
use Rattle.pot_script.specs.declared.command.Command.TheVariants as commands
use Rattle.pot_script.specs.declared.reply.Reply.{Reply}
use Rattle.pot_shared.specs.declared.member.Logged.{Logged}
use Rattle.pot_shared.specs.Members.{entries_of}
use Rattle.pot_replies.specs.Settings.{Setting}
use Rattle.pot_replies.specs.Sections.{Section, MovesThenRest, FollowsSection, IsAmong, IsOfJobs, work_of}
use Rattle.pot_replies.specs.Sessions.{Rows}
use Rattle.pot_shared.specs.Works.{gained, Known, section_of}
use Rattle.pot_commands.specs.declared.beginning.Task.{Task}
use Rattle.pot_commands.specs.declared.beginning.Task.TheVariants as task
use Rattle.pot_commands.specs.Rows.{IsSessionSetting, IsMigrateReply, AreReplies, IsIdleCommand, Row}
use Rattle.pot_commands.specs.Begun.{HasTask, IsBegun, HaveBegun}
use Rattle.pot_shared.specs.Going.{AllOnlyWriters}
use Rattle.pot_commands.specs.Taking.{asks}
use Rattle.pot_commands.specs.Steps.{IsStill, IsLineLeft, AreLinesLeft}
use Rattle.pot_commands.specs.Jobs.{Says, reply_in, has_reply}
use Rattle.pot_commands.specs.Batches.{Line, KnownJoins, AreLines, IsAmongLines, AllSay, lines_of, tasks_of, replies_of, have_replies, BatchGives, BatchLeaves}
use Rattle.pot_commands.proofs.BatchLemmas.{whose_entry, whose_index_entry}
use Rattle.pot_commands.proofs.BatchAnswers.{AnswersAll, batch_answers}
use Rattle.pot_commands.proofs.BegunLemmas.{either_part}
use Rattle.pot_commands.proofs.MovedLemmas.{moved_brings, moved_reply, unbegun_row}
use Rattle.pot_commands.proofs.NoMoves.{brings, left, no_begin, no_arrivals, no_moves, not_first, idle_moves, taken}

-- ENTRIES THAT PASS NO TEST

module _ {X : Type 0} (test : X → Bool) where
  none_of_all : (xs : List X) → ((i : ℕ) (x : X) → slice_get xs i ≡ Some x → test x ≡ false) → filter test xs ≡ []
  none_of_all [] none = refl
  none_of_all (x ∷ xs) none = rw (none 0 x refl) (none_of_all xs (λ i y at. none (suc i) y at))

  -- an element of a part that has none
  not_in : (of : X → Bool) (xs : List X) (i : ℕ) (x : X) → slice_get xs i ≡ Some x → of x ≡ true → filter test (filter of xs) ≡ [] → test x ≡ false
  not_in of [] i x at its none = absurd (cc at)
  not_in of (y ∷ ys) zero x at its none =
      let same : y ≡ x = same_Some y x at in
      let here = taken of y ys (ap of same ∙ its) in
      ap test (sym same) ∙ (not_first test y (filter of ys) (ap (filter test) (sym here) ∙ none) (test y) refl).0
  not_in of (y ∷ ys) (suc i) x at its none = not_in of ys i x at its (rest (of y) refl)
    where
      rest : (b : Bool) → of y ≡ b → filter test (filter of ys) ≡ []
      rest true is = (not_first test y (filter of ys) (ap (filter test) (sym (taken of y ys is)) ∙ none) (test y) refl).1
      rest false is = ap (filter test) (sym (left of y ys is)) ∙ none

-- an element between two parts stands at its place
stands_at : {X : Type 0} (whole xs ys : List X) (x : X) → whole ≡ xs ++ x ∷ ys → slice_get whole (length xs + 0) ≡ Some x
stands_at whole xs ys x at = ap (λ l. slice_get l (length xs + 0)) at ∙ get_back xs (x ∷ ys) 0

-- THE LINES OF A BATCH

still_asks : (groups : ℕ) (c : Command) → IsStill groups c → asks c ≡ []
still_asks groups (commands.Store name file) q = refl
still_asks groups (commands.Fetch name) q = refl
still_asks groups (commands.Renew name geometry) q = refl
still_asks groups (commands.Scrub group) q = refl
still_asks groups (commands.Repair group) q = refl
still_asks groups _ q = absurd q

-- a job that has its answer brought no archive
says_none : (s : Setting) (rack : Rack) (job : ℕ) (c : Command) (t : Task) (answer : Option (Result Reply NoMemory)) (w : Section) → HasTask rack c t → Says s job c t answer w → (g : ℕ) → filter brings (own job (w.added g)) ≡ []
says_none s rack job c task.Line None w fits says g = absurd says
says_none s rack job c task.Line (Some (Ok r)) w fits says g = no_moves s job c (r ∷ []) w (still_asks rack.groups c fits) says g
says_none s rack job c task.Line (Some (Err e)) w fits says g = idle_moves s job c w says g
says_none s rack job (commands.Migrate from to) (task.Move at) None w fits says g = absurd says
says_none s rack job (commands.Migrate from to) (task.Move at) (Some (Ok r)) w fits says g = moved_brings s job at.group at.column says.0 w says.2 g
says_none s rack job (commands.Migrate from to) (task.Move at) (Some (Err e)) w fits says g = absurd says
says_none s rack job c (task.Told r) answer w fits says g = ap (filter brings) (says.1.0 g)
says_none s rack job _ (task.Move at) answer w fits says g = absurd fits

entry_at : (ls : List Logged) (i : ℕ) (e : Entry) → slice_get (entries_of ls) i ≡ Some e → (l : Logged) × (slice_get ls i ≡ Some l) × (l.entry ≡ e)
entry_at [] i e at = absurd (cc at)
entry_at (l ∷ ls) zero e at = (l, refl, same_Some l.entry e at)
entry_at (l ∷ ls) (suc i) e at = entry_at ls i e at

-- its number is one of theirs
among_jobs : (v : Known) (from : ℕ) (cs : List Line) (d : Line) → AreLines v from cs → IsAmongLines d cs → IsAmong from (length (lines_of cs)) d.job
among_jobs v from [] d jobs there = absurd there
among_jobs v from (c ∷ cs) d jobs (inl same) = let n = sym (ap (λ (b : Line). b.job) same) ∙ jobs.0 in (omega (arith, n), omega (arith, n))
among_jobs v from (c ∷ cs) d jobs (inr later) = let rest = among_jobs v (suc from) cs d jobs.2 later in (omega (arith, rest.0), omega (arith, rest.1))

module _ (v x : Known) (from : ℕ) (cs : List Line) (jobs : AreLines v from cs) (joins : KnownJoins v cs x) (sole : AllOnlyWriters v x) where
  -- each entry is of a job of the batch
  pub of_lines : IsOfJobs from (length (lines_of cs)) (section_of v x)
  of_lines = record {
    groups = λ g xs ys e at.
        let l = entry_at (added (view_at v.groups g) (view_at x.groups g)) (length xs + 0) e (stands_at (gained v.groups x.groups g) xs ys e at) in
        let who = whose_entry v x from cs jobs joins sole g (length xs + 0) l.0 l.1 in
        let number : job_of e ≡ who.0.job = eqb-true (job_of e) who.0.job (ap (is_of who.0.job) (sym l.2) ∙ who.2) in
        subst (λ n. IsAmong from (length (lines_of cs)) n) (sym number) (among_jobs v from cs who.0 jobs who.1);
    index = λ xs ys e at.
        let who = whose_index_entry v x from cs jobs joins sole (length xs + 0) e (stands_at (added (view_at v.index 0) (view_at x.index 0)) xs ys e at) in
        let number : job_in e.entry ≡ who.0.job = eqb-true (job_in e.entry) who.0.job who.2 in
        subst (λ n. IsAmong from (length (lines_of cs)) n) (sym number) (among_jobs v from cs who.0 jobs who.1);
  }

  module _ (rack : Rack) (s : Setting) (all : AnswersAll rack s cs (section_of v x)) where
    none_own : (g : ℕ) (d : Line) (ds : List Line) → IsAmongLines d ds → AnswersAll rack s ds (section_of v x) → filter brings (own d.job (gained v.groups x.groups g)) ≡ []
    none_own g d [] there each = absurd there
    none_own g d (c ∷ ds) (inl same) each =
        subst (λ (b : Line). filter brings (own b.job (gained v.groups x.groups g)) ≡ []) same (says_none s rack c.job c.line c.task c.answer (section_of v x) each.0.0 each.0.1 g)
    none_own g d (c ∷ ds) (inr later) each = none_own g d ds later each.1

    -- no job brought an archive
    pub none_brought : (g : ℕ) → filter brings (gained v.groups x.groups g) ≡ []
    none_brought g = none_of_all brings (gained v.groups x.groups g) (λ i e at.
        let l = entry_at (added (view_at v.groups g) (view_at x.groups g)) i e at in
        let who = whose_entry v x from cs jobs joins sole g i l.0 l.1 in
        not_in brings (is_of who.0.job) (gained v.groups x.groups g) i e at (ap (is_of who.0.job) (sym l.2) ∙ who.2) (none_own g who.0 cs who.1 all))

-- A LINE, BY THE MOVES THAT BEGAN AND BY ITS ANSWER

still_row : (s : Setting) (groups job : ℕ) (c : Command) (r : Reply) (w : Section) (h : MovesThenRest w) → IsStill groups c → ((g : ℕ) → own job (h.begun g) ≡ []) → AreReplies s job c (r ∷ []) (work_of w h) → Row s job c (r ∷ []) w h
still_row s groups job (commands.Store name file) r w h q none row = (none, row)
still_row s groups job (commands.Fetch name) r w h q none row = (none, row)
still_row s groups job (commands.Renew name geometry) r w h q none row = (none, row)
still_row s groups job (commands.Scrub group) r w h q none row = (none, row)
still_row s groups job (commands.Repair group) r w h q none row = (none, row)
still_row s groups job _ r w h q none row = absurd q

still_left : (s : Setting) (groups job : ℕ) (c : Command) (w : Section) (h : MovesThenRest w) → IsStill groups c → ((g : ℕ) → own job (h.begun g) ≡ []) → IsIdleCommand s job c (work_of w h) → IsLineLeft s job c w h
still_left s groups job (commands.Store name file) w h q none idle = inr (none, idle)
still_left s groups job (commands.Fetch name) w h q none idle = inr (none, idle)
still_left s groups job (commands.Renew name geometry) w h q none idle = inr (none, idle)
still_left s groups job (commands.Scrub group) w h q none idle = inr (none, idle)
still_left s groups job (commands.Repair group) w h q none idle = inr (none, idle)
still_left s groups job _ w h q none idle = absurd q

module _ (rack : Rack) (s : Setting) (w : Section) (h : MovesThenRest w) (brought : (g : ℕ) → filter brings (h.worked g) ≡ []) where
  its_reply : (a b : Reply) → ◌≡◌ {A = Option (Result Reply NoMemory)} (Some (Ok a)) (Some (Ok b)) → a ≡ b
  its_reply a b same = cc same

  -- its answer is a reply that it has
  line_row : (job : ℕ) (c : Command) (t : Task) (r : Reply) → HasTask rack c t → IsBegun s w.before h.begun job c t → Says s job c t (Some (Ok r)) (work_of w h) → Row s job c (r ∷ []) w h
  line_row job c task.Line r fits begun says = still_row s rack.groups job c r w h fits begun says
  line_row job (commands.Migrate from to) (task.Move at) r fits begun says =
      subst (λ x. IsMigrateReply s w.before h.begun job from to x (work_of w h)) (sym says.1)
      (moved_reply s w.before h.begun job from to at.group at.column (work_of w h) begun.0 begun.1 (brought at.group) begun.2 says.0 says.2)
  line_row job (commands.Migrate from to) (task.Told reply) r fits begun says =
      subst (λ x. IsMigrateReply s w.before h.begun job from to x (work_of w h)) (sym (its_reply r reply says.0))
      (unbegun_row s w.before h.begun job from to (work_of w h) says.1 begun.1 reply begun.0)
  line_row job _ (task.Move at) r fits begun says = absurd fits
  line_row job _ (task.Told reply) r fits begun says = absurd fits

  reply_at : (job : ℕ) (c : Command) (t : Task) (answer : Option (Result Reply NoMemory)) → HasTask rack c t → IsBegun s w.before h.begun job c t → has_reply answer ≡ true → Says s job c t answer (work_of w h)
      → (r : Reply) × (reply_in answer ≡ r ∷ []) × Row s job c (r ∷ []) w h
  reply_at job c t None fits begun has says = absurd (cc has)
  reply_at job c t (Some (Ok r)) fits begun has says = (r, refl, line_row job c t r fits begun says)
  reply_at job c t (Some (Err e)) fits begun has says = absurd (cc has)

  -- by its answer a line has a reply, or was left
  left_at : (job : ℕ) (c : Command) (t : Task) (answer : Option (Result Reply NoMemory)) → HasTask rack c t → IsBegun s w.before h.begun job c t → Says s job c t answer (work_of w h) → IsLineLeft s job c w h
  left_at job c t (Some (Ok r)) fits begun says = inl (r, line_row job c t r fits begun says)
  left_at job c task.Line None fits begun says = absurd says
  left_at job c task.Line (Some (Err e)) fits begun says = still_left s rack.groups job c w h fits begun says
  left_at job (commands.Migrate from to) (task.Move at) None fits begun says = absurd says
  left_at job (commands.Migrate from to) (task.Move at) (Some (Err e)) fits begun says = absurd says
  left_at job c (task.Told reply) None fits begun says = absurd (let e = says.0 in cc e)
  left_at job c (task.Told reply) (Some (Err x)) fits begun says = absurd (let e = says.0 in cc e)
  left_at job _ (task.Move at) answer fits begun says = absurd fits

  -- ALL LINES
  abbrev AreBegun : ℕ → List Line → Type 0
  AreBegun from cs = (i : ℕ) (c : Command) (t : Task) → slice_get (lines_of cs) i ≡ Some c → slice_get (tasks_of cs) i ≡ Some t → IsBegun s w.before h.begun (from + i) c t

  first_begun : (from : ℕ) (c : Line) (cs : List Line) → AreBegun from (c ∷ cs) → IsBegun s w.before h.begun from c.line c.task
  first_begun from c cs begun = subst (λ n. IsBegun s w.before h.begun n c.line c.task) (let e : from + 0 ≡ from = omega arith in e) (begun 0 c.line c.task refl refl)

  rest_begun : (from : ℕ) (c : Line) (cs : List Line) → AreBegun from (c ∷ cs) → AreBegun (suc from) cs
  rest_begun from c cs begun i d t in_lines in_tasks = subst (λ n. IsBegun s w.before h.begun n d t) (let e : from + suc i ≡ suc from + i = omega arith in e) (begun (suc i) d t in_lines in_tasks)

  module _ (v : Known) where
    pub rows_from : (from : ℕ) (cs : List Line) → AreLines v from cs → AreBegun from cs → AnswersAll rack s cs (work_of w h) → have_replies cs ≡ true → Rows (Row s) from (lines_of cs) (replies_of cs) w h
    rows_from from [] jobs begun all have = refl
    rows_from from (c ∷ cs) jobs begun all have =
        let both = and_parts (has_reply c.answer) (have_replies cs) have in
        let here = first_begun from c cs begun in
        let r = reply_at c.job c.line c.task c.answer all.0.0 (subst (λ n. IsBegun s w.before h.begun n c.line c.task) (sym jobs.0) here) both.0 all.0.1 in (
          r.0,
          replies_of cs,
          ap (λ l. l ++ replies_of cs) r.1,
          subst (λ n. Row s n c.line (r.0 ∷ []) w h) jobs.0 r.2,
          rows_from (suc from) cs jobs.2 (rest_begun from c cs begun) all.1 both.1,
        )

    pub left_from : (from : ℕ) (cs : List Line) → AreLines v from cs → AreBegun from cs → AnswersAll rack s cs (work_of w h) → AreLinesLeft s from (lines_of cs) w h
    left_from from [] jobs begun all = tt
    left_from from (c ∷ cs) jobs begun all =
        let here = first_begun from c cs begun in (
          subst (λ n. IsLineLeft s n c.line w h) jobs.0 (left_at c.job c.line c.task c.answer all.0.0 (subst (λ n. IsBegun s w.before h.begun n c.line c.task) (sym jobs.0) here) all.0.1),
          left_from (suc from) cs jobs.2 (rest_begun from c cs begun) all.1,
        )

-- THE MOVES THAT BEGAN, AND THEN THE JOBS

module _ (rack : Rack) (seed : List ℕ) (session : ℕ) (v x : Known) (from : ℕ) (cs : List Line) (jobs : AreLines v from cs) (joins : KnownJoins v cs x) (say : AllSay rack seed session cs) (sole : AllOnlyWriters v x)
    (s : Setting) (is : IsSessionSetting s rack seed session v) (moves whole : Section) (begun : HaveBegun s from (lines_of cs) (tasks_of cs) moves) (follows : FollowsSection moves (section_of v x) whole) where
  all : AnswersAll rack s cs (section_of v x)
  all = batch_answers rack seed session v x from cs jobs joins sole s is say

  brought : (g : ℕ) → filter brings (gained v.groups x.groups g) ≡ []
  brought = none_brought v x from cs jobs joins sole rack s all

  abbrev halves : MovesThenRest whole
  halves = record {
    begun = moves.added;
    worked = gained v.groups x.groups;
    parts = follows.is_added;
    begins = begun.begins;
    no_more = λ g. no_begin (gained v.groups x.groups g) (brought g);
    in_order = begun.in_order;
  }

  -- the lines are judged on what the jobs logged
  work_is : section_of v x ≡ work_of whole halves
  work_is =
      let befores : (section_of v x).before ≡ (λ g. whole.before g ++ moves.added g) = fun_ext follows.goes_on in
      let index_befores : (section_of v x).index_before ≡ whole.index_before = follows.index_goes_on ∙ (ap (λ l. whole.index_before ++ l) begun.none_index ∙ append-nil whole.index_before) in
      let index_addeds : (section_of v x).index_added ≡ whole.index_added = sym (follows.index_is_added ∙ ap (λ l. l ++ (section_of v x).index_added) begun.none_index) in
      λ i. record { before = befores i; added = gained v.groups x.groups; index_before = index_befores i; index_added = index_addeds i }

  on_work : AnswersAll rack s cs (work_of whole halves)
  on_work = subst (λ (u : Section). AnswersAll rack s cs u) work_is all

  each_begun : AreBegun rack s whole halves brought from cs
  each_begun i c t in_lines in_tasks = subst (λ b. IsBegun s b moves.added (from + i) c t) (fun_ext follows.begins) (begun.each i c t in_lines in_tasks)

  many : length (tasks_of cs) ≡ length (lines_of cs)
  many = as_many cs
    where
      as_many : (ds : List Line) → length (tasks_of ds) ≡ length (lines_of ds)
      as_many [] = refl
      as_many (d ∷ ds) = (let e = as_many ds in omega (arith, e))

  of_both : IsOfJobs from (length (lines_of cs)) whole
  of_both =
      let later = of_lines v x from cs jobs joins sole in
      let first : IsOfJobs from (length (lines_of cs)) moves = subst (λ n. IsOfJobs from n moves) many begun.its in
      record {
        groups = λ g a b e at. ⊎_elim
            (λ (p : (z : List Entry) × (moves.added g ≡ a ++ e ∷ z)). first.groups g a p.0 e p.1)
            (λ (p : (z : List Entry) × (gained v.groups x.groups g ≡ z ++ e ∷ b)). later.groups g p.0 b e p.1)
            (either_part (moves.added g) (gained v.groups x.groups g) a b e (sym (follows.is_added g) ∙ at));
        index = λ a b e at. later.index a b e (sym (follows.index_is_added ∙ ap (λ l. l ++ (section_of v x).index_added) begun.none_index) ∙ at);
      }

  pub gives_rows : have_replies cs ≡ true → IsOfJobs from (length (lines_of cs)) whole × ((h : MovesThenRest whole) × Rows (Row s) from (lines_of cs) (replies_of cs) whole h)
  gives_rows have = (of_both, (halves, rows_from rack s whole halves brought v from cs jobs each_begun on_work have))

  pub leaves_rows : IsOfJobs from (length (lines_of cs)) whole × ((h : MovesThenRest whole) × AreLinesLeft s from (lines_of cs) whole h)
  leaves_rows = (of_both, (halves, left_from rack s whole halves brought v from cs jobs each_begun on_work))

pub batch_gives : BatchGives
batch_gives rack seed session v x from cs jobs joins say have sole s is moves whole begun follows =
    gives_rows rack seed session v x from cs jobs joins say sole s is moves whole begun follows have

pub batch_leaves : BatchLeaves
batch_leaves rack seed session v x from cs jobs joins say sole s is moves whole begun follows =
    leaves_rows rack seed session v x from cs jobs joins say sole s is moves whole begun follows

-- no archive came to a group
pub batch_brings_none : (rack : Rack) (seed : List ℕ) (session : ℕ) (v x : Known) (from : ℕ) (cs : List Line) → AreLines v from cs → KnownJoins v cs x → AllSay rack seed session cs → (s : Setting) → IsSessionSetting s rack seed session v
    → AllOnlyWriters v x → (g : ℕ) → arrivals (gained v.groups x.groups g) ≡ []
batch_brings_none rack seed session v x from cs jobs joins say s is sole g =
    let all = batch_answers rack seed session v x from cs jobs joins sole s is say in
    no_arrivals (gained v.groups x.groups g) (none_brought v x from cs jobs joins sole rack s all g)
