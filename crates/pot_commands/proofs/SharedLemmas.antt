-- Passes that are shared out to the lines of a batch.
use Rattle.std.proofs.Common.{◌≡◌, ◌<◌, ◌≤◌, ◌+◌, ◌-◌, ◌*◌, ℕ, zero, suc, List, [], ◌∷◌, ◌++◌, length, take, get_or, refl, ap, sym, ◌∙◌, subst, arith, append-nil, append_assoc, length-append}
use Rattle.std.specs.Prelude.{slice_get, None, Result, Ok, Err, Vec, IfOk, IfErr, MatchResult}
use Rattle.std.specs.Global.{Global}
use Rattle.std.proofs.Math.Seq.{take-length}
use Rattle.std.proofs.lemmas.List.{map-append}
use Rattle.std.proofs.lemmas.Option.{slice_get_read}
use Rattle.pot_bytes.specs.declared.rack.Rack.{Rack}
use Rattle.pot_turn.proofs.LogLemmas.{get_back}
use Rattle.pot_turn.specs.declared.name.TurnName.{TurnName}
use Rattle.pot_turn.specs.declared.view.View.{View}
use Rattle.pot_turn.specs.Views.{cut_view, new_view}
use Rattle.pot_rows.specs.Rows.{PassRow, AreOf, HasMoreParts, view_at}
use Rattle.pot_rows.specs.Parts.{RowCut, RowNew}
use Rattle.pot_rows.proofs.Lists.{take_next}
use Rattle.pot_script.specs.declared.command.Command.{Command}
use Rattle.pot_shared.specs.Sharing.{SamePasses}
use Rattle.pot_shared.specs.Works.{Known}
use Rattle.pot_work.specs.Works.{AreFresh, AreWorked}
use Rattle.pot_work.specs.declared.JobsRefused.{JobsRefused}
use Rattle.pot_commands.specs.declared.beginning.Task.{Task}
use Rattle.pot_commands.specs.Begun.{HasTask, HaveTasks}
use Rattle.pot_shared.specs.Callers.{CanCall}
use Rattle.pot_commands.specs.Sharing.{Common}
use Rattle.pot_commands.specs.Jobs.{JobView, IsJobDone, Did, IsJobGiven, AreGiven, AreShared, tasks_in}

-- PARTS THAT ARE GIVEN AWAY

module _ {E O : Type 0} where
  abbrev with_parts : View E O → ℕ → View E O
  with_parts v n = record { holds = v.holds; opened = v.opened; seen = v.seen; turns = v.turns; joined = v.joined; made = v.made; parts = n; origin = v.origin }

  cut_none : (v : View E O) → v ≡ cut_view 0 v
  cut_none v = let e : v.parts ≡ v.parts - 0 = omega arith in ap (with_parts v) e

  cut_more : (v : View E O) (m n : ℕ) → cut_view m (cut_view n v) ≡ cut_view (n + m) v
  cut_more v m n = let e : (v.parts - n) - m ≡ v.parts - (n + m) = omega arith in ap (with_parts v) e

  module _ (names : List TurnName) (n : ℕ) (old mid : PassRow E O) (o : AreOf names old) (m : AreOf names mid) (first : RowCut n old mid) where
    there : (at : ℕ) → at < length old.names → at < length mid.names
    there at lt = let a = ap length o.0 in let b = ap length m.0 in omega (arith, lt, a, b)

    cut_then : (new : PassRow E O) → RowCut 2 mid new → RowCut (n + 2) old new
    cut_then new then at lt = then at (there at lt) ∙ (ap (cut_view 2) (first at lt) ∙ cut_more (view_at old at) 2 n)

    new_then : (given : PassRow E O) → RowNew 2 mid given → RowNew 2 old given
    new_then given then at lt = then at (there at lt) ∙ ap (new_view 2) (first at lt)

    same_then : (new : PassRow E O) → SamePasses mid new → RowCut n old new
    same_then new same at lt = same at ∙ first at lt

    more_left : (k : ℕ) → n + 2 ≤ k → HasMoreParts k old → HasMoreParts 2 mid
    more_left k le more at lt =
        let within : at < length old.names = (let a = ap length o.0 in let b = ap length m.0 in omega (arith, lt, a, b)) in
        let p = more at within in
        let c = ap (λ (v : View E O). v.parts) (first at within) in
        omega (arith, p, c, le)

  -- passes of two parts have one more than one
  pub one_part : (names : List TurnName) (old given : PassRow E O) → AreOf names old → AreOf names given → RowNew 2 old given → HasMoreParts 1 given
  one_part names old given o m new at lt =
      let within : at < length old.names = (let a = ap length o.0 in let b = ap length m.0 in omega (arith, lt, a, b)) in
      let c = ap (λ (v : View E O). v.parts) (new at within) in
      omega (arith, c)

-- THE JOBS SO FAR

given_more : (b : Common) (start : Known) (from : ℕ) (cs : List Command) (js : List JobView) (c : Command) (j : JobView) → AreGiven b start from cs js → IsJobGiven b start (from + length js) c j
    → AreGiven b start from (cs ++ c ∷ []) (js ++ j ∷ [])
given_more b start from [] [] c j given is = (subst (λ n. IsJobGiven b start n c j) (let e : from + 0 ≡ from = omega arith in e) is, tt)
given_more b start from [] (k ∷ js) c j given is = absurd given
given_more b start from (d ∷ cs) [] c j given is = absurd given
given_more b start from (d ∷ cs) (k ∷ js) c j given is =
    (given.0, given_more b start (suc from) cs js c j given.1 (subst (λ n. IsJobGiven b start n c j) (let e : from + length (k ∷ js) ≡ suc from + length js = omega arith in e) is))

pub given_count : (b : Common) (start : Known) (from : ℕ) (cs : List Command) (js : List JobView) → AreGiven b start from cs js → length js ≡ length cs
given_count b start from [] [] given = refl
given_count b start from [] (j ∷ js) given = absurd given
given_count b start from (c ∷ cs) [] given = absurd given
given_count b start from (c ∷ cs) (j ∷ js) given = let n = given_count b start (suc from) cs js given.1 in omega (arith, n)

-- none of them is done
pub given_fresh : (b : Common) (start : Known) (from : ℕ) (cs : List Command) (js : List JobView) → AreGiven b start from cs js → AreFresh IsJobDone js
given_fresh b start from [] [] given k x at done = absurd (cc at)
given_fresh b start from [] (j ∷ js) given k x at done = absurd given
given_fresh b start from (c ∷ cs) [] given k x at done = absurd given
given_fresh b start from (c ∷ cs) (j ∷ js) given zero x at done =
    let same : j ≡ x = cc at in
    let none : x.answer ≡ None = ap (λ (i : JobView). i.answer) (sym same) ∙ given.0.answer in
    absurd (cc (done, none))
given_fresh b start from (c ∷ cs) (j ∷ js) given (suc k) x at done = given_fresh b start (suc from) cs js given.1 k x at done

-- the first lines have their jobs
pub record IsSharing (b : Common) (old : Known) (from : ℕ) (lines : List Command) (n : ℕ) (js : List JobView) (now : Known) : Type 0 where
  pub shared : AreShared b old from (take n lines) js now
  pub count : length js ≡ n
  pub can : CanCall b.vault now

pub begins_sharing : (b : Common) (old : Known) (from : ℕ) (lines : List Command) → CanCall b.vault old → IsSharing b old from lines 0 [] old
begins_sharing b old from lines can = record {
  shared = record { given = tt; groups = λ at lt. cut_none (view_at old.groups at); index = λ at lt. cut_none (view_at old.index at) };
  count = refl;
  can = can;
}

module _ (b : Common) (old : Known) (from : ℕ) (lines : List Command) (n : ℕ) (js : List JobView) (now : Known) (is : IsSharing b old from lines n js now) (can : CanCall b.vault old) (within : n < length lines) where
  -- there are parts for one more
  pub more_sharing : HasMoreParts (2 * length lines) old.groups → HasMoreParts (2 * length lines) old.index → HasMoreParts 2 now.groups × HasMoreParts 2 now.index
  more_sharing more more_index =
      let le : 2 * length js + 2 ≤ 2 * length lines = (let c = is.count in omega (arith, c, within)) in (
        more_left b.vault.groups (2 * length js) old.groups now.groups can.ready.of is.can.ready.of is.shared.groups (2 * length lines) le more,
        more_left b.vault.index (2 * length js) old.index now.index can.index_ready.of is.can.index_ready.of is.shared.index (2 * length lines) le more_index,
      )

  -- and one more has its job
  pub goes_sharing : (c : Command) (j : JobView) (new : Known) → c ≡ get_or lines n c → IsJobGiven b now (from + n) c j → RowCut 2 now.groups new.groups → RowCut 2 now.index new.index → CanCall b.vault new
      → IsSharing b old from lines (n + 1) (js ++ j ∷ []) new
  goes_sharing c j new at given cut cut_index can_new =
      let long : length (js ++ j ∷ []) ≡ length js + 1 = length-append js (j ∷ []) in
      let twice : 2 * length js + 2 ≡ 2 * length (js ++ j ∷ []) = omega (arith, long) in
      let more : take (n + 1) lines ≡ take n lines ++ c ∷ [] =
      (let e : n + 1 ≡ suc n = omega arith in ap (λ k. take k lines) e) ∙ take_next lines n c (slice_get_read lines (length lines) n c refl within at) in
      let here : IsJobGiven b old (from + length js) c j = record {
        common = given.common;
        number = given.number ∙ ap (λ k. from + k) (sym is.count);
        line = given.line;
        fits = given.fits;
        answer = given.answer;
        passes = given.passes;
        groups = new_then b.vault.groups (2 * length js) old.groups now.groups can.ready.of is.can.ready.of is.shared.groups j.passes.groups given.groups;
        index = new_then b.vault.index (2 * length js) old.index now.index can.index_ready.of is.can.index_ready.of is.shared.index j.passes.index given.index;
      } in
      record {
        shared = record {
          given = subst (λ cs. AreGiven b old from cs (js ++ j ∷ [])) (sym more) (given_more b old from (take n lines) js c j is.shared.given here);
          groups = subst (λ k. RowCut k old.groups new.groups) twice (cut_then b.vault.groups (2 * length js) old.groups now.groups can.ready.of is.can.ready.of is.shared.groups new.groups cut);
          index = subst (λ k. RowCut k old.index new.index) twice (cut_then b.vault.index (2 * length js) old.index now.index can.index_ready.of is.can.index_ready.of is.shared.index new.index cut_index);
        };
        count = (let c = is.count in omega (arith, c, long));
        can = can_new;
      }

  -- where memory is short the jobs so far are left
  pub short_sharing : (new : Known) → SamePasses now.groups new.groups → SamePasses now.index new.index → AreShared b old from (take (length js) lines) js new
  short_sharing new same same_index = record {
    given = subst (λ k. AreGiven b old from (take k lines) js) (sym is.count) is.shared.given;
    groups = same_then b.vault.groups (2 * length js) old.groups now.groups can.ready.of is.can.ready.of is.shared.groups new.groups same;
    index = same_then b.vault.index (2 * length js) old.index now.index can.index_ready.of is.can.index_ready.of is.shared.index new.index same_index;
  }

-- all lines have their jobs
pub all_shared : (b : Common) (old : Known) (from : ℕ) (lines : List Command) (n : ℕ) (js : List JobView) (now : Known) → IsSharing b old from lines n js now → n ≡ length lines → AreShared b old from lines js now
all_shared b old from lines n js now is last = subst (λ cs. AreShared b old from cs js now) (ap (λ k. take k lines) last ∙ take-length lines) is.shared

-- or none has, for want of memory
pub none_shared : (b : Common) (old : Known) (from : ℕ) (lines : List Command) (js : List JobView) → CanCall b.vault old → js ≡ [] → AreShared b old from (take (length js) lines) js old
none_shared b old from lines js can none = subst (λ ks. AreShared b old from (take (length ks) lines) ks old) (sym none) (begins_sharing b old from lines can).shared

-- jobs that come back are those of all lines
pub back_shared : (b : Common) (old : Known) (from : ℕ) (lines : List Command) (js ks : List JobView) (now : Known) → AreShared b old from lines js now → ks ≡ js → AreShared b old from (take (length ks) lines) ks now
back_shared b old from lines js ks now is same =
    let whole : take (length js) lines ≡ lines = ap (λ k. take k lines) (given_count b old from lines js is.given) ∙ take-length lines in
    subst (λ is. AreShared b old from (take (length is) lines) is now) (sym same) (subst (λ cs. AreShared b old from cs js now) (sym whole) is)

-- so the jobs of all lines were worked, or none was
pub lines_worked : (b : Common) (old : Known) (from : ℕ) (lines : List Command) (tasks : List Task) (js : List JobView) (now : Known) (result : Result (Vec JobView Global) (JobsRefused JobView)) → AreShared b old from lines js now
    → tasks_in js ≡ tasks → IfOk result (λ back. AreWorked IsJobDone Did js back.items) → IfErr result (λ refused. refused.jobs.items ≡ js)
    → MatchResult result (λ back. (ks : List JobView) × AreShared b old from lines ks now × (tasks_in ks ≡ tasks) × AreWorked IsJobDone Did ks back.items)
    (λ refused. AreShared b old from (take (length refused.jobs.items) lines) refused.jobs.items now)
lines_worked b old from lines tasks js now (Ok back) shared same worked refused = (js, shared, same, worked)
lines_worked b old from lines tasks js now (Err r) shared same worked refused = back_shared b old from lines js r.jobs.items now shared refused

-- TASKS

many_tasks : (js : List JobView) → length (tasks_in js) ≡ length js
many_tasks [] = refl
many_tasks (j ∷ js) = let n = many_tasks js in omega (arith, n)

tasks_append : (js : List JobView) (j : JobView) → tasks_in (js ++ j ∷ []) ≡ tasks_in js ++ j.task ∷ []
tasks_append js j = map-append (λ (k : JobView). k.task) js (j ∷ [])

-- the jobs so far have the first tasks, and these are left
module _ (rack : Rack) (lines : List Command) (tasks : List Task) (have : HaveTasks rack lines tasks) (js : List JobView) (n : ℕ) (count : length js ≡ n) (left : List Task) (so : tasks_in js ++ left ≡ tasks) where
  how_many : n + length left ≡ length lines
  how_many = let c = count in let t = have.count in let m = many_tasks js in let a = length-append (tasks_in js) left in let w = ap length so in omega (arith, c, t, m, a, w)

  -- while lines are left, tasks are
  pub more_tasks : n < length lines → left ≡ [] → ⊥
  more_tasks within none = let h = how_many in let z = ap length none in absurd (omega (arith, h, z, within))

  pub all_tasks_in : n ≡ length lines → tasks_in js ≡ tasks
  all_tasks_in all = sym (append-nil (tasks_in js)) ∙ (ap (λ l. tasks_in js ++ l) (sym (empty left (let h = how_many in omega (arith, h, all)))) ∙ so)
    where
      empty : (ts : List Task) → length ts ≡ 0 → ts ≡ []
      empty [] z = refl
      empty (t ∷ ts) z = absurd (omega (arith, z))

  module _ (t : Task) (rest : List Task) (next : left ≡ t ∷ rest) where
    -- the next line can have the next task
    pub next_fits : (c : Command) → n < length lines → c ≡ get_or lines n c → HasTask rack c t
    next_fits c within at =
        have.each n c t (slice_get_read lines (length lines) n c refl within at)
        (ap (slice_get tasks) (let m = many_tasks js in let k = count in let e : n ≡ length (tasks_in js) + 0 = omega (arith, m, k) in e)
        ∙ (ap (λ ts. slice_get ts (length (tasks_in js) + 0)) (sym so ∙ ap (λ l. tasks_in js ++ l) next) ∙ get_back (tasks_in js) (t ∷ rest) 0))

    pub tasks_more : (j : JobView) → j.task ≡ t → tasks_in (js ++ j ∷ []) ++ rest ≡ tasks
    tasks_more j same =
        ap (λ l. l ++ rest) (tasks_append js j ∙ ap (λ u. tasks_in js ++ u ∷ []) same)
        ∙ (append_assoc (tasks_in js) (t ∷ []) rest ∙ (ap (λ l. tasks_in js ++ l) (sym next) ∙ so))
