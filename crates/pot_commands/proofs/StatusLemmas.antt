-- The lines of all groups.
use Rattle.std.proofs.Common.{◌≡◌, ◌≢◌, ◌<◌, ◌≤◌, ◌+◌, ◌⊎◌, ⊎_elim, inl, inr, ℕ, zero, suc, List, [], ◌∷◌, ◌++◌, length, refl, ap, sym, ◌∙◌, subst, arith}
use Rattle.std.specs.Prelude.{Some, IfSome, slice_get}
use Rattle.std.proofs.lemmas.Option.{same_Some, slice_get_within}
use Rattle.std.proofs.lemmas.List.{length-append}
use lib.Seq.{drop-length}
use Rattle.pot_bytes.specs.declared.rack.Rack.{Rack}
use Rattle.pot_turn.specs.declared.name.TurnName.{TurnName}
use Rattle.pot_worked.specs.WroteOnlyFor.{added}
use Rattle.pot_worked.specs.Laws.{AllOf}
use Rattle.pot_rows.specs.Rows.{view_at}
use Rattle.pot_rows.specs.Works.{RowWroteOnlyFor}
use Rattle.pot_rows.proofs.RowLemmas.{at_set, at_other}
use Rattle.pot_rows.proofs.WorkLemmas.{row_work_in_parts}
use Rattle.pot_index.specs.Entries as index
use Rattle.pot_script.specs.declared.reply.Reply.{Reply}
use Rattle.pot_machine.specs.Logs.{is_of, own}
use Rattle.pot_replies.specs.Settings.{Setting}
use Rattle.pot_replies.specs.Listings.{StatusLine}
use Rattle.pot_shared.specs.declared.member.GroupOrigin.{GroupOrigin}
use Rattle.pot_shared.specs.Members.{entries_of}
use Rattle.pot_shared.specs.Ready.{GroupPasses, AreReady}
use Rattle.pot_shared.specs.Catalogs.{IndexPasses, IsIndexReady}
use Rattle.pot_shared.specs.Calls.{CallTurn}
use Rattle.pot_shared.specs.Works.{of_job, known, JobWroteOnly, JobOnlyWriter, IsSettingOf, section_of}
use Rattle.pot_shared.proofs.WorkLemmas.{row_stays, group_work, index_idle}
use Rattle.pot_commands.specs.Rows.{reply_of_line, replies_from, AreStatusReplies}
use Rattle.pot_commands.specs.Counting.{CountsTable, CountsLine}
use Rattle.pot_commands.proofs.ListLemmas.{none_gained}
use Rattle.pot_commands.proofs.LineLemmas.{all_own, line_stands}

-- a line more
replies_more : (from : ℕ) (lines : List StatusLine) (line : StatusLine) → replies_from from (lines ++ line ∷ []) ≡ replies_from from lines ++ reply_of_line (from + length lines) line ∷ []
replies_more from [] line = ap (λ n. reply_of_line n line ∷ []) (omega arith)
replies_more from (l ∷ lines) line =
    let n : suc from + length lines ≡ from + suc (length lines) = omega arith in
    ap (λ rs. reply_of_line from l ∷ rs) (replies_more (suc from) lines line ∙ ap (λ k. replies_from (suc from) lines ++ reply_of_line k line ∷ []) n)

get_more : {X : Type 0} (xs : List X) (x y : X) (k : ℕ) → slice_get (xs ++ x ∷ []) k ≡ Some y → (slice_get xs k ≡ Some y) ⊎ ((k ≡ length xs) × (x ≡ y))
get_more [] x y zero is = inr (refl, same_Some x y is)
get_more [] x y (suc k) is = absurd (cc is)
get_more (z ∷ xs) x y zero is = inl is
get_more (z ∷ xs) x y (suc k) is = ⊎_elim (λ (h : slice_get xs k ≡ Some y). inl h) (λ (h : (k ≡ length xs) × (x ≡ y)). inr (ap suc h.0, h.1)) (get_more xs x y k is)

-- The first `n` groups had their turns, and these are their replies; the passes of the others are
-- as they were.
pub record IsCounting (told : Type 0) (rack : Rack) (names : List TurnName) (job n : ℕ) (rs : List Reply) (old new : GroupPasses) : Type 0 where
  pub ready : AreReady rack names new
  pub worked : RowWroteOnlyFor (of_job job) old new
  pub lines : List StatusLine
  pub count : length lines ≡ n
  pub are : rs ≡ replies_from 0 lines
  pub each : (g : ℕ) (line : StatusLine) → slice_get lines g ≡ Some line → CallTurn told (CountsTable job line) (view_at old g) (view_at new g)
  pub rest : (g : ℕ) → n ≤ g → view_at new g ≡ view_at old g

pub begins_counting : (told : Type 0) (rack : Rack) (names : List TurnName) (job : ℕ) (rs : List Reply) (row : GroupPasses)
    → AreReady rack names row → rs ≡ [] → IsCounting told rack names job 0 rs row row
begins_counting told rack names job rs row ready none = record {
  ready = ready;
  worked = row_stays (of_job job) row ready.idle;
  lines = [];
  count = refl;
  are = none;
  each = λ g line is. absurd (cc is);
  rest = λ g le. refl;
}

module _ (told : Type 0) (rack : Rack) (names : List TurnName) (job n : ℕ) (rs : List Reply) (old now next : GroupPasses) (reply : Reply)
    (so : IsCounting told rack names job n rs old now) (within : n < length names) (step : CountsLine told job n reply now next) where
  within_views : n < length now.views
  within_views = let l = so.ready.of.1 in omega (arith, within, l)

  here : view_at next n ≡ step.call.pass
  here = ap (λ (r : GroupPasses). view_at r n) step.call.is ∙ at_set now n step.call.pass within_views

  else_same : (g : ℕ) → n ≢ g → view_at next g ≡ view_at now g
  else_same g ne = ap (λ (r : GroupPasses). view_at r g) step.call.is ∙ at_other now n g step.call.pass ne

  its_turn : CallTurn told (CountsTable job step.line) (view_at old n) (view_at next n)
  its_turn = subst (λ x. CallTurn told (CountsTable job step.line) (view_at old n) x) (sym here)
      (subst (λ x. CallTurn told (CountsTable job step.line) x step.call.pass) (so.rest n (omega arith)) step.call.turn)

  step_own : AllOf (is_of job) step.call.turn.entries
  step_own = all_own told job step.line (view_at now n) step.call.pass step.call.turn

  pub counting_more : (rs' : List Reply) → rs' ≡ rs ++ reply ∷ [] → AreReady rack names next → IsCounting told rack names job (n + 1) rs' old next
  counting_more rs' more ready = record {
    ready = ready;
    worked = row_work_in_parts (of_job job) old now next so.worked
        (group_work told job (CountsTable job step.line) n now next within_views step.call step_own so.ready.idle);
    lines = so.lines ++ step.line ∷ [];
    count = length-append so.lines (step.line ∷ []) ∙ ap (λ k. k + 1) so.count;
    are =
        more ∙ (ap (λ ls. ls ++ reply ∷ []) so.are
        ∙ (ap (λ r. replies_from 0 so.lines ++ r ∷ []) (step.is ∙ ap (λ k. reply_of_line k step.line) (sym so.count ∙ omega arith)) ∙ sym (replies_more 0 so.lines step.line)));
    each = λ g line is. ⊎_elim
        (λ (h : slice_get so.lines g ≡ Some line).
        let lt : g < length so.lines = slice_get_within so.lines g line h in
        let ne : n ≢ g = (let c = so.count in omega (arith, lt, c)) in
        subst (λ x. CallTurn told (CountsTable job line) (view_at old g) x) (sym (else_same g ne)) (so.each g line h))
        (λ (h : (g ≡ length so.lines) × (step.line ≡ line)).
        let at : n ≡ g = sym (h.0 ∙ so.count) in
        subst (λ k. CallTurn told (CountsTable job line) (view_at old k) (view_at next k)) at
        (subst (λ l. CallTurn told (CountsTable job l) (view_at old n) (view_at next n)) h.1 its_turn))
        (get_more so.lines step.line line g is);
    rest = λ g le. else_same g (omega (arith, le)) ∙ so.rest g (omega (arith, le));
  }

-- the index was not called
pub counted_worked : (told : Type 0) (rack : Rack) (names turn : List TurnName) (job n : ℕ) (rs : List Reply) (old new : GroupPasses) (index : IndexPasses)
    → IsIndexReady rack names turn index → IsCounting told rack names job n rs old new → JobWroteOnly job (known old index) (known new index)
counted_worked told rack names turn job n rs old new row ready so = record { groups = so.worked; index = row_stays (index.is_of job) row (index_idle rack names turn row ready) }

-- all groups had their turns
pub counted_says : (told : Type 0) (rack : Rack) (names : List TurnName) (job n : ℕ) (rs : List Reply) (old new : GroupPasses) (row : IndexPasses)
    → IsCounting told rack names job n rs old new → n ≡ rack.groups → length names ≡ rack.groups → old.names ≡ names
    → JobOnlyWriter job (known old row) (known new row) → (s : Setting) → IsSettingOf s rack (known old row) → AreStatusReplies s job rs (section_of (known old row) (known new row))
counted_says told rack names job n rs old new row so all long same alone s setting = record {
  lines = so.lines;
  are = so.are;
  status = record {
    index = ap (λ ls. index.own job ls) (drop-length (view_at row 0).seen);
    count = so.count ∙ (all ∙ ap (λ r. r.groups) (sym setting.rack_is));
    each = λ g line is.
        let lt : g < length so.lines = slice_get_within so.lines g line is in
        let turn = so.each g line is in
        let within : g < length old.names = (let a = so.count in let b = ap length same in omega (arith, lt, a, all, long, b)) in
        let first : s.first g ≡ turn.old.first = subst (λ o. IfSome o (λ (x : GroupOrigin). s.first g ≡ x.first)) (sym turn.origin) (setting.first g within) in
        line_stands told job g s (section_of (known old row) (known new row)) (view_at old g) (view_at new g) line turn (alone.groups g) first refl refl;
    elsewhere = λ g le.
        let past : n ≤ g = (let r = ap (λ (k : Rack). k.groups) setting.rack_is in omega (arith, le, all, r)) in
        ap (λ x. own job (entries_of (added (view_at old g) x))) (so.rest g past) ∙ none_gained job old g;
  };
}
