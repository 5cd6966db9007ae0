-- A batch that was not begun, for want of memory: its passes are what they were.
use Rattle.std.proofs.Common.{◌≡◌, ◌<◌, ◌≤◌, ◌+◌, ◌-◌, ◌*◌, ℕ, zero, suc, inl, inr, Bool, true, false, List, [], ◌∷◌, ◌++◌, length, drop, take, refl, ap, sym, ◌∙◌, subst, arith, append-nil}
use Rattle.std.specs.Prelude.{if◌then◌else◌, nat_lt}
use Rattle.std.proofs.lemmas.Bool.{cases_lt}
use lib.Seq.{drop-length}
use mathlib.Core.Path.{fun_ext}
use Rattle.pot_group.specs.Arrivals.{arrivals}
use Rattle.pot_turn.specs.declared.name.TurnName.{TurnName}
use Rattle.pot_turn.specs.declared.view.View.{View}
use Rattle.pot_turn.specs.Logs.{longer}
use Rattle.pot_turn.specs.Views.{cut_view, new_view, both_views}
use Rattle.pot_worked.specs.WroteOnlyFor.{added}
use Rattle.pot_worked.specs.OnlyWriter.{Extends, OnlyWriter}
use Rattle.pot_rows.specs.Rows.{PassRow, AreOf, HasMoreParts, view_at}
use Rattle.pot_rows.specs.Parts.{RowCut, RowJoined}
use Rattle.pot_rows.proofs.RowLemmas.{at_past}
use Rattle.pot_script.specs.declared.command.Command.{Command}
use Rattle.pot_shared.specs.Members.{entries_of}
use Rattle.pot_shared.specs.Sharing.{SamePasses}
use Rattle.pot_replies.specs.Sections.{Section, IsOfJobs}
use Rattle.pot_replies.specs.Sessions.{Together}
use Rattle.pot_shared.specs.Works.{Known, section_of, gained}
use Rattle.pot_commands.specs.declared.beginning.Task.{Task}
use Rattle.pot_commands.specs.Begun.{AreMovesBegun}
use Rattle.pot_shared.specs.Going.{AllOnlyWriters, AllStay, AllExtend}
use Rattle.pot_commands.specs.Steps.{StepLeaves, IsStepLeft}
use Rattle.pot_shared.specs.Callers.{CanCall}
use Rattle.pot_commands.specs.Sharing.{Common}
use Rattle.pot_commands.specs.Jobs.{JobView, AreGiven, AreShared, AllJoined}
use Rattle.pot_commands.specs.Batches.{BringsNone}
use Rattle.pot_commands.proofs.AnswerLemmas.{stayed_worked}
use Rattle.pot_commands.proofs.BeginLemmas.{moves_leave}
use Rattle.pot_commands.proofs.Going.{work_all_went}
use Rattle.pot_commands.proofs.SharedLemmas.{given_count}
use Rattle.pot_commands.specs.Blinding.{AreJobsBlinded}
use Rattle.pot_commands.proofs.DrawnLemmas.{still_blinds}

-- PARTS THAT COME BACK

longer_self : {E : Type 0} (xs : List E) → longer xs xs ≡ xs
longer_self xs = either (nat_lt (length xs) (length xs))
  where
    either : (b : Bool) → (if b then xs else xs) ≡ xs
    either true = refl
    either false = refl

module _ {E O : Type 0} where
  -- a pass of two parts that did nothing was taken in
  back_one : (u : View E O) (n : ℕ) → n + 2 < u.parts → both_views (cut_view (n + 2) u) (new_view 2 u) ≡ cut_view n u
  back_one u n few =
      let seen : longer u.seen u.seen ≡ u.seen = longer_self u.seen in
      let joined : u.joined ++ [] ≡ u.joined = append-nil u.joined in
      let made : u.made + 0 ≡ u.made = omega arith in
      let parts : (u.parts - (n + 2)) + 2 ≡ u.parts - n = omega (arith, few) in
      λ i. record { holds = u.holds; opened = u.opened; seen = seen i; turns = u.turns; joined = joined i; made = made i; parts = parts i; origin = u.origin }

  back_all : (u : View E O) → cut_view 0 u ≡ u
  back_all u =
      let parts : u.parts - 0 ≡ u.parts = omega arith in
      λ i. record { holds = u.holds; opened = u.opened; seen = u.seen; turns = u.turns; joined = u.joined; made = u.made; parts = parts i; origin = u.origin }

  module _ (row : JobView → PassRow E O) where
    -- the rows of the jobs were taken in, in order
    abbrev RowsJoined : PassRow E O → List JobView → PassRow E O → Type 0
    RowsJoined old [] new = new ≡ old
    RowsJoined old (j ∷ js) new = (mid : PassRow E O) × RowJoined old (row j) mid × RowsJoined mid js new

    -- each is a new one at this place
    abbrev AllNew : ℕ → View E O → List JobView → Type 0
    AllNew at u [] = Unit {0}
    AllNew at u (j ∷ js) = (view_at (row j) at ≡ new_view 2 u) × AllNew at u js

    back_at : (at : ℕ) (u : View E O) (js : List JobView) (v x : PassRow E O) → RowsJoined v js x → AllNew at u js → 2 * length js < u.parts → view_at v at ≡ cut_view (2 * length js) u → view_at x at ≡ u
    back_at at u [] v x is new few cut = ap (λ (r : PassRow E O). view_at r at) is ∙ (cut ∙ back_all u)
    back_at at u (j ∷ js) v x (y, joined, more) new few cut =
        let n : ℕ = 2 * length js in
        let e : 2 * length (j ∷ js) ≡ n + 2 = omega arith in
        let here : view_at y at ≡ cut_view n u =
        (joined at).both ∙ (ap (λ (w : View E O). both_views w (view_at (row j) at)) (cut ∙ ap (λ k. cut_view k u) e) ∙ (ap (both_views (cut_view (n + 2) u)) new.0 ∙ back_one u n (omega (arith, few)))) in
        back_at at u js y x more new.1 (omega (arith, few)) here

    same_back : (names : List TurnName) (js : List JobView) (old v x : PassRow E O) → AreOf names old → AreOf names x → RowCut (2 * length js) old v → HasMoreParts (2 * length js) old
        → ((at : ℕ) → at < length names → AllNew at (view_at old at) js) → RowsJoined v js x → SamePasses old x
    same_back names js old v x o of cut more new joined at = elim (cases_lt at (length names)) [
      | inl lt ↦ (let within : at < length old.names = (let l = ap length o.0 in omega (arith, lt, l)) in back_at at (view_at old at) js v x joined (new at lt) (more at within) (cut at within))
      | inr le ↦ at_past names x at of le ∙ sym (at_past names old at o le)
    ]

-- THE JOBS OF A BATCH THAT WAS NOT BEGUN

groups_joined : (js : List JobView) (v x : Known) → AllJoined v js x → RowsJoined (λ j. j.passes.groups) v.groups js x.groups
groups_joined [] v x is = ap (λ (k : Known). k.groups) is
groups_joined (j ∷ js) v x (y, joined, joined_index, more) = (y.groups, joined, groups_joined js y x more)

index_joined : (js : List JobView) (v x : Known) → AllJoined v js x → RowsJoined (λ j. j.passes.index) v.index js x.index
index_joined [] v x is = ap (λ (k : Known). k.index) is
index_joined (j ∷ js) v x (y, joined, joined_index, more) = (y.index, joined_index, index_joined js y x more)

groups_new : (b : Common) (old : Known) (can : CanCall b.vault old) (from : ℕ) (cs : List Command) (js : List JobView) → AreGiven b old from cs js → (at : ℕ) → at < length b.vault.groups → AllNew (λ j. j.passes.groups) at (view_at old.groups at) js
groups_new b old can from [] [] given at lt = tt
groups_new b old can from [] (j ∷ js) given at lt = absurd given
groups_new b old can from (c ∷ cs) [] given at lt = absurd given
groups_new b old can from (c ∷ cs) (j ∷ js) given at lt = (given.0.groups at (let l = ap length can.ready.of.0 in omega (arith, lt, l)), groups_new b old can (suc from) cs js given.1 at lt)

index_new : (b : Common) (old : Known) (can : CanCall b.vault old) (from : ℕ) (cs : List Command) (js : List JobView) → AreGiven b old from cs js → (at : ℕ) → at < length b.vault.index → AllNew (λ j. j.passes.index) at (view_at old.index at) js
index_new b old can from [] [] given at lt = tt
index_new b old can from [] (j ∷ js) given at lt = absurd given
index_new b old can from (c ∷ cs) [] given at lt = absurd given
index_new b old can from (c ∷ cs) (j ∷ js) given at lt = (given.0.index at (let l = ap length can.index_ready.of.0 in omega (arith, lt, l)), index_new b old can (suc from) cs js given.1 at lt)

fewer : {X : Type 0} (n : ℕ) (xs : List X) → length (take n xs) ≤ length xs
fewer zero [] = omega arith
fewer (suc n) [] = omega arith
fewer zero (x ∷ xs) = omega arith
fewer (suc n) (x ∷ xs) = (let l = fewer n xs in omega (arith, l))

-- no more jobs than lines
pub fewer_jobs : (b : Common) (old v : Known) (from : ℕ) (cs : List Command) (js : List JobView) → AreShared b old from (take (length js) cs) js v → length js ≤ length cs
fewer_jobs b old v from cs js shared = (let n = given_count b old from (take (length js) cs) js shared.given in let f = fewer (length js) cs in omega (arith, n, f))

pub unbegun : (b : Common) (old v x : Known) (from : ℕ) (cs : List Command) (js : List JobView) → CanCall b.vault old → CanCall b.vault x → HasMoreParts (2 * length cs) old.groups → HasMoreParts (2 * length cs) old.index
    → AreShared b old from (take (length js) cs) js v → AllJoined v js x → SamePasses old.groups x.groups × SamePasses old.index x.index
unbegun b old v x from cs js can can_x more more_index shared joined =
    let le = fewer_jobs b old v from cs js shared in (
      same_back (λ j. j.passes.groups) b.vault.groups js old.groups v.groups x.groups can.ready.of can_x.ready.of shared.groups (λ at lt. (let m = more at lt in omega (arith, m, le)))
          (groups_new b old can from (take (length js) cs) js shared.given) (groups_joined js v x joined),
      same_back (λ j. j.passes.index) b.vault.index js old.index v.index x.index can.index_ready.of can_x.index_ready.of shared.index (λ at lt. (let m = more_index at lt in omega (arith, m, le)))
          (index_new b old can from (take (length js) cs) js shared.given) (index_joined js v x joined),
    )

-- NOTHING WAS LOGGED

module _ (b : Common) (old x : Known) (can : CanCall b.vault old) (can_x : CanCall b.vault x) (same : SamePasses old.groups x.groups) (same_index : SamePasses old.index x.index) where
  pub unbegun_went : AllExtend old x
  unbegun_went =
      let went = work_all_went 1 old old (stayed_worked b.vault.rack b.vault.groups b.vault.index 1 old.groups old.index can.ready can.index_ready) in
      record {
        groups = λ at. subst (λ (u : View _ _). Extends (view_at old.groups at) u) (sym (same at)) (went.groups at);
        index = λ at. subst (λ (u : View _ _). Extends (view_at old.index at) u) (sym (same_index at)) (went.index at);
      }

  pub unbegun_stays : AllStay old x
  unbegun_stays = record {
    groups = record {
      names = can_x.ready.of.0 ∙ sym can.ready.of.0;
      origin = λ at. ap (λ (u : View _ _). u.origin) (same at);
      opened = λ at. ap (λ (u : View _ _). u.opened) (same at);
      parts = λ at. ap (λ (u : View _ _). u.parts) (same at);
    };
    index = record {
      names = can_x.index_ready.of.0 ∙ sym can.index_ready.of.0;
      origin = λ at. ap (λ (u : View _ _). u.origin) (same_index at);
      opened = λ at. ap (λ (u : View _ _). u.opened) (same_index at);
      parts = λ at. ap (λ (u : View _ _). u.parts) (same_index at);
    };
  }

  none_gained : (g : ℕ) → gained old.groups x.groups g ≡ []
  none_gained g = ap (λ (u : View _ _). entries_of (drop (length (view_at old.groups g).seen) u.seen)) (same g) ∙ ap entries_of (drop-length (view_at old.groups g).seen)

  none_index : added (view_at old.index 0) (view_at x.index 0) ≡ []
  none_index = ap (λ (u : View _ _). drop (length (view_at old.index 0).seen) u.seen) (same_index 0) ∙ drop-length (view_at old.index 0).seen

  -- the moves that began before are all that was logged
  module _ (start : Known) where
    gain_since : (g : ℕ) → gained start.groups x.groups g ≡ gained start.groups old.groups g
    gain_since g = ap (λ (u : View _ _). entries_of (drop (length (view_at start.groups g).seen) u.seen)) (same g)

    section_since : section_of start x ≡ section_of start old
    section_since =
        let addeds : gained start.groups x.groups ≡ gained start.groups old.groups = fun_ext gain_since in
        let index_addeds : added (view_at start.index 0) (view_at x.index 0) ≡ added (view_at start.index 0) (view_at old.index 0) =
        ap (λ (u : View _ _). drop (length (view_at start.index 0).seen) u.seen) (same_index 0) in
        λ i. record { before = (section_of start old).before; added = addeds i; index_before = (section_of start old).index_before; index_added = index_addeds i }

    sole_since : AllOnlyWriters start x → AllOnlyWriters start old
    sole_since sole = record {
      groups = λ at. subst (λ (u : View _ _). OnlyWriter (view_at start.groups at) u) (same at) (sole.groups at);
      index = λ at. subst (λ (u : View _ _). OnlyWriter (view_at start.index at) u) (same_index at) (sole.index at);
    }

    pub unbegun_leaves : (from : ℕ) (lines : List Command) (tasks : List Task) → AreMovesBegun b.vault.rack from lines tasks start old → StepLeaves b.vault.rack b.seed b.session from (Together lines) start x
    unbegun_leaves from lines tasks moves sole s is =
        subst (λ (w : Section). IsOfJobs from (length lines) w × IsStepLeft s from (Together lines) w) (sym section_since)
        (moves_leave b.vault.rack b.seed b.session from lines tasks start old moves (sole_since sole) s is)

  pub unbegun_none : BringsNone old x
  unbegun_none sole g = ap arrivals (none_gained g)

-- A batch was not begun, and the passes of its jobs were taken back.
pub record IsUnbegun (b : Common) (old v x : Known) (from : ℕ) (cs : List Command) (js : List JobView) : Type 0 where
  pub can : CanCall b.vault old
  pub can_x : CanCall b.vault x
  pub parts : HasMoreParts (2 * length cs) old.groups × HasMoreParts (2 * length cs) old.index
  pub shared : AreShared b old from (take (length js) cs) js v
  pub joined : AllJoined v js x

module _ (b : Common) (old v x : Known) (from : ℕ) (cs : List Command) (js : List JobView) (is : IsUnbegun b old v x from cs js) where
  same_both : SamePasses old.groups x.groups × SamePasses old.index x.index
  same_both = unbegun b old v x from cs js is.can is.can_x is.parts.0 is.parts.1 is.shared is.joined

  pub back_went : AllExtend old x
  back_went = unbegun_went b old x is.can is.can_x same_both.0 same_both.1

  pub back_stays : AllStay old x
  back_stays = unbegun_stays b old x is.can is.can_x same_both.0 same_both.1

  pub back_leaves : (tasks : List Task) (start : Known) → AreMovesBegun b.vault.rack from cs tasks start old → StepLeaves b.vault.rack b.seed b.session from (Together cs) start x
  back_leaves tasks start moves = unbegun_leaves b old x is.can is.can_x same_both.0 same_both.1 start from cs tasks moves

  pub back_none : BringsNone old x
  back_none = unbegun_none b old x is.can is.can_x same_both.0 same_both.1

  pub back_blinds : AreJobsBlinded b old x
  back_blinds = still_blinds b old x same_both.0
