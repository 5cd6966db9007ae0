-- From the jobs of a batch to the step.
use Rattle.std.proofs.Common.{◌≡◌, ◌<◌, ◌+◌, ◌-◌, ◌*◌, ℕ, suc, inl, inr, true, List, [], ◌∷◌, ◌++◌, length, map, drop, refl, ap, sym, ◌∙◌, subst, arith}
use Rattle.std.specs.Prelude.{◌&&◌, filter}
use Rattle.std.specs.List.{AllByRecursion}
use Rattle.std.proofs.lemmas.Bool.{cases_lt}
use mathlib.Core.Path.{fun_ext}
use Rattle.pot_group.specs.Arrivals.{arrivals}
use Rattle.pot_turn.specs.declared.name.TurnName.{TurnName}
use Rattle.pot_turn.specs.declared.view.View.{View}
use Rattle.pot_turn.specs.Views.{cut_view, new_view, spent_view}
use Rattle.pot_worked.specs.OnlyWriter.{Extends, OnlyWriter}
use Rattle.pot_work.specs.Works.{AreWorked}
use Rattle.pot_rows.specs.Rows.{PassRow, AreOf, HasMoreParts, view_at}
use Rattle.pot_rows.specs.Parts.{RowCut, RowNew}
use Rattle.pot_rows.specs.Works.{CarriedRow, RowJoins, RowExtends, RowOnlyWriter}
use Rattle.pot_rows.proofs.RowLemmas.{at_past}
use Rattle.pot_script.specs.declared.command.Command.{Command}
use Rattle.pot_script.specs.declared.reply.Reply.{Reply}
use Rattle.pot_shared.specs.Members.{entries_of}
use Rattle.pot_replies.specs.Settings.{Setting}
use Rattle.pot_replies.specs.Sections.{Section, MovesThenRest, FollowsSection, IsOfJobs}
use Rattle.pot_replies.specs.Sessions.{Together, Rows}
use Rattle.pot_pads.specs.Pads.{pads_of}
use Rattle.pot_shared.specs.Works.{Known, blinds_by, blinds_in, of_job, section_of, gained}
use Rattle.pot_commands.specs.Rows.{IsSessionSetting, HasFilled, Row}
use Rattle.pot_shared.specs.Going.{PassesStay, AllOnlyWriters, AllStay, AllExtend}
use Rattle.pot_commands.specs.declared.beginning.Task.{Task}
use Rattle.pot_commands.specs.Begun.{HasTask, HaveBegun, AreMovesBegun}
use Rattle.pot_commands.specs.Steps.{StepGives, StepLeaves, AreLinesLeft}
use Rattle.pot_shared.specs.Callers.{CanCall}
use Rattle.pot_commands.specs.Sharing.{Common}
use Rattle.pot_commands.specs.Jobs.{JobView, HasPasses, IsJobDone, Did, AreGiven, AreShared, AllJoined, reply_in, has_reply, replies_in, all_replied, tasks_in}
use Rattle.pot_commands.specs.Batches.{Line, group_rows, index_rows, KnownJoins, IsGivenOf, AreLines, AllSay, lines_of, tasks_of, replies_of, have_replies, BringsNone}
use Rattle.pot_commands.proofs.Going.{known_follows, setting_of_stays, setting_stays, sole_parts}
use Rattle.pot_commands.proofs.Brought.{its_setting, is_setting}
use Rattle.pot_commands.proofs.SharedLemmas.{given_count}
use Rattle.pot_commands.proofs.BatchLemmas.{batch_all_went}
use Rattle.pot_commands.proofs.BatchRows.{batch_gives, batch_leaves, batch_brings_none}
use Rattle.pot_commands.specs.Blinding.{HasBlinds, AreJobsBlinded}
use Rattle.pot_commands.proofs.DrawnLemmas.{AllBlind, lines_drawn, same_drawn}

-- AT EACH PLACE OF A ROW

module _ {E O : Type 0} where
  abbrev spent : View E O
  spent = spent_view

  cut_spent : (n : ℕ) → spent ≡ cut_view n spent
  cut_spent n =
      let e : 0 ≡ 0 - n = omega arith in
      λ i. record { holds = spent.holds; opened = spent.opened; seen = spent.seen; turns = spent.turns; joined = spent.joined; made = spent.made; parts = e i; origin = spent.origin }

  module _ (names : List TurnName) (old : PassRow E O) (o : AreOf names old) where
    long : length old.names ≡ length names
    long = ap length o.0

    -- what was cut is, also past the last place
    cut_at : (n : ℕ) (v : PassRow E O) → AreOf names v → RowCut n old v → (at : ℕ) → view_at v at ≡ cut_view n (view_at old at)
    cut_at n v of cut at = elim (cases_lt at (length names)) [
      | inl lt ↦ cut at (let l = long in omega (arith, lt, l))
      | inr le ↦ at_past names v at of le ∙ (cut_spent n ∙ ap (cut_view n) (sym (at_past names old at o le)))
    ]

    module _ (given : PassRow E O) (of : AreOf names given) (new : RowNew 2 old given) where
      given_at : (P : View E O → View E O → Type 0) → ((u : View E O) → P u (new_view 2 u)) → P spent_view spent_view → (at : ℕ) → P (view_at old at) (view_at given at)
      given_at P fresh spent at = elim (cases_lt at (length names)) [
        | inl lt ↦ subst (P (view_at old at)) (sym (new at (let l = long in omega (arith, lt, l)))) (fresh (view_at old at))
        | inr le ↦ subst (λ u. P u (view_at given at)) (sym (at_past names old at o le)) (subst (P spent_view) (sym (at_past names given at of le)) spent)
      ]

      pub given_of : (v : PassRow E O) (n : ℕ) → AreOf names v → RowCut n old v → IsGivenOf v given
      given_of v n of' cut at =
          let same : (view_at v at).seen ≡ (view_at old at).seen = ap (λ (u : View E O). u.seen) (cut_at n v of' cut at) in
          let here = given_at (λ u w. (w.seen ≡ u.seen) × (w.turns ≡ []) × (w.joined ≡ [])) (λ u. (refl, refl, refl)) (refl, refl, refl) at in
          (here.0 ∙ sym same, here.1, here.2)

      pub given_origin : (v : PassRow E O) (n : ℕ) → AreOf names v → RowCut n old v → (at : ℕ) → (view_at given at).origin ≡ (view_at v at).origin
      given_origin v n of' cut at =
          given_at (λ u w. w.origin ≡ u.origin) (λ u. refl) refl at ∙ sym (ap (λ (u : View E O). u.origin) (cut_at n v of' cut at))

-- A batch is a going on of what was before the passes were shared out.
module _ {E O : Type 0} (names : List TurnName) (old v x : PassRow E O) (o : AreOf names old) (of : AreOf names v) (n : ℕ) (cut : RowCut n old v) where
  pub went_cut : RowExtends v x → RowExtends old x
  went_cut went at =
      let h = subst (λ (u : View E O). Extends u (view_at x at)) (cut_at names old o n v of cut at) (went at) in
      record { seen = h.seen; turns = h.turns; joined = h.joined; lies = h.lies }

  pub sole_cut : RowOnlyWriter old x → RowOnlyWriter v x
  sole_cut sole at = subst (λ (u : View E O). OnlyWriter u (view_at x at)) (sym (cut_at names old o n v of cut at)) (sole at)

  pub seen_cut : (at : ℕ) → (view_at v at).seen ≡ (view_at old at).seen
  seen_cut at = ap (λ (u : View E O). u.seen) (cut_at names old o n v of cut at)

-- PASSES THAT ARE JOINED

module _ {E O : Type 0} (rows : Line → CarriedRow E O) where
  -- each has two parts at this place
  abbrev HaveTwo : ℕ → List Line → Type 0
  HaveTwo at [] = Unit {0}
  HaveTwo at (c ∷ cs) = ((view_at (rows c).done at).parts ≡ 2) × HaveTwo at cs

  joins_keep : (at : ℕ) (cs : List Line) (v x : PassRow E O) → RowJoins v (map rows cs) x → ((view_at x at).origin ≡ (view_at v at).origin) × ((view_at x at).opened ≡ (view_at v at).opened)
  joins_keep at [] v x is = (ap (λ (r : PassRow E O). (view_at r at).origin) is, ap (λ (r : PassRow E O). (view_at r at).opened) is)
  joins_keep at (c ∷ cs) v x (y, joined, more) =
      let rest = joins_keep at cs y x more in
      let here = (joined at).both in
      (rest.0 ∙ ap (λ (u : View E O). u.origin) here, rest.1 ∙ ap (λ (u : View E O). u.opened) here)

  joins_parts : (at : ℕ) (cs : List Line) (v x : PassRow E O) → RowJoins v (map rows cs) x → HaveTwo at cs → (view_at x at).parts ≡ (view_at v at).parts + 2 * length cs
  joins_parts at [] v x is two = (let e = ap (λ (r : PassRow E O). (view_at r at).parts) is in omega (arith, e))
  joins_parts at (c ∷ cs) v x (y, joined, more) two =
      let rest = joins_parts at cs y x more two.1 in
      let here = ap (λ (u : View E O). u.parts) (joined at).both in
      let its = two.0 in
      omega (arith, rest, here, its)

  -- they stay what they were before they were shared out
  pub joins_stay : (names : List TurnName) (cs : List Line) (old v x : PassRow E O) → AreOf names old → AreOf names v → AreOf names x → RowCut (2 * length cs) old v → HasMoreParts (2 * length cs) old
      → ((at : ℕ) → at < length names → HaveTwo at cs) → RowJoins v (map rows cs) x → PassesStay old x
  joins_stay names cs old v x o of of' cut more two joins = record {
    names = of'.0 ∙ sym o.0;
    origin = λ at. (joins_keep at cs v x joins).0 ∙ ap (λ (u : View E O). u.origin) (cut_at names old o (2 * length cs) v of cut at);
    opened = λ at. (joins_keep at cs v x joins).1 ∙ ap (λ (u : View E O). u.opened) (cut_at names old o (2 * length cs) v of cut at);
    parts = λ at. elim (cases_lt at (length names)) [
      | inl lt ↦ (let p = joins_parts at cs v x joins (two at lt) in let c = ap (λ (u : View E O). u.parts) (cut_at names old o (2 * length cs) v of cut at) in let m = more at (let l = ap length o.0 in omega (arith, lt, l)) in omega (arith, p, c, m))
      | inr le ↦ ap (λ (u : View E O). u.parts) (at_past names x at of' le ∙ sym (at_past names old at o le))
    ];
  }

-- FROM THE JOBS TO THE LINES

-- what was handed in, and what came back
abbrev pub AreDid : List JobView → List JobView → Type 0
AreDid [] [] = Unit {0}
AreDid (j ∷ js) (k ∷ ks) = Did j k × AreDid js ks
AreDid _ _ = ⊥

pub are_did : (js ks : List JobView) → AreWorked IsJobDone Did js ks → AreDid js ks
are_did [] [] is = tt
are_did [] (k ∷ ks) is = absurd (let n = is.count in omega (arith, n))
are_did (j ∷ js) [] is = absurd (let n = is.count in omega (arith, n))
are_did (j ∷ js) (k ∷ ks) is = (
  (is.each 0 j k refl refl).1,
  are_did js ks (record { count = (let n = is.count in omega (arith, n)); each = λ i x y at at'. is.each (suc i) x y at at' }),
)

abbrev pub zipped : List JobView → List JobView → List Line
zipped [] ks = []
zipped (j ∷ js) [] = []
zipped (j ∷ js) (k ∷ ks) = record { job = j.job; line = j.line; task = j.task; answer = k.answer; given = j.passes; done = k.passes } ∷ zipped js ks

module _ (b : Common) (old : Known) where
  zip_lines : (from : ℕ) (cs : List Command) (js ks : List JobView) → AreGiven b old from cs js → AreDid js ks → lines_of (zipped js ks) ≡ cs
  zip_lines from [] [] [] given did = refl
  zip_lines from [] [] (k ∷ ks) given did = absurd did
  zip_lines from [] (j ∷ js) ks given did = absurd given
  zip_lines from (c ∷ cs) [] ks given did = absurd given
  zip_lines from (c ∷ cs) (j ∷ js) [] given did = absurd did
  zip_lines from (c ∷ cs) (j ∷ js) (k ∷ ks) given did =
      let head = given.0.line in
      let rest = zip_lines (suc from) cs js ks given.1 did.1 in
      cc (head, rest)

  zip_tasks : (js ks : List JobView) → AreDid js ks → tasks_of (zipped js ks) ≡ tasks_in js
  zip_tasks [] ks did = refl
  zip_tasks (j ∷ js) [] did = absurd did
  zip_tasks (j ∷ js) (k ∷ ks) did = ap (λ ts. j.task ∷ ts) (zip_tasks js ks did.1)

  zip_count : (js ks : List JobView) → AreDid js ks → length (zipped js ks) ≡ length js
  zip_count [] ks did = refl
  zip_count (j ∷ js) [] did = absurd did
  zip_count (j ∷ js) (k ∷ ks) did = (let n = zip_count js ks did.1 in omega (arith, n))

  zip_replies : (js ks : List JobView) → AreDid js ks → replies_of (zipped js ks) ≡ replies_in ks
  zip_replies [] [] did = refl
  zip_replies [] (k ∷ ks) did = absurd did
  zip_replies (j ∷ js) [] did = absurd did
  zip_replies (j ∷ js) (k ∷ ks) did = ap (λ rs. reply_in k.answer ++ rs) (zip_replies js ks did.1)

  zip_have : (js ks : List JobView) → AreDid js ks → have_replies (zipped js ks) ≡ all_replied ks
  zip_have [] [] did = refl
  zip_have [] (k ∷ ks) did = absurd did
  zip_have (j ∷ js) [] did = absurd did
  zip_have (j ∷ js) (k ∷ ks) did = ap (λ h. has_reply k.answer && h) (zip_have js ks did.1)

  zip_say : (from : ℕ) (cs : List Command) (js ks : List JobView) → AreGiven b old from cs js → AreDid js ks → AllSay b.vault.rack b.seed b.session (zipped js ks)
  zip_say from [] [] [] given did = tt
  zip_say from [] [] (k ∷ ks) given did = absurd did
  zip_say from [] (j ∷ js) ks given did = absurd given
  zip_say from (c ∷ cs) [] ks given did = absurd given
  zip_say from (c ∷ cs) (j ∷ js) [] given did = absurd did
  zip_say from (c ∷ cs) (j ∷ js) (k ∷ ks) given did = (
    (
      subst (λ d. HasTask b.vault.rack d j.task) (sym given.0.line) given.0.fits,
      λ alone s is. did.0.says alone s (subst (λ (a : Common). IsSessionSetting s a.vault.rack a.seed a.session j.passes) (sym given.0.common) is),
    ),
    zip_say (suc from) cs js ks given.1 did.1,
  )

  zip_blind : (from : ℕ) (cs : List Command) (js ks : List JobView) → AreGiven b old from cs js → AreDid js ks → AllBlind b (zipped js ks)
  zip_blind from [] [] [] given did = tt
  zip_blind from [] [] (k ∷ ks) given did = absurd did
  zip_blind from [] (j ∷ js) ks given did = absurd given
  zip_blind from (c ∷ cs) [] ks given did = absurd given
  zip_blind from (c ∷ cs) (j ∷ js) [] given did = absurd did
  zip_blind from (c ∷ cs) (j ∷ js) (k ∷ ks) given did = (
    subst (λ (a : Common). HasBlinds a j.job j.line j.passes.groups k.passes.groups) given.0.common did.0.blinds,
    zip_blind (suc from) cs js ks given.1 did.1,
  )

  zip_joins : (js ks : List JobView) (v x : Known) → AreDid js ks → AllJoined v ks x → KnownJoins v (zipped js ks) x
  zip_joins [] [] v x did is = record { groups = ap (λ (k : Known). k.groups) is; index = ap (λ (k : Known). k.index) is }
  zip_joins [] (k ∷ ks) v x did is = absurd did
  zip_joins (j ∷ js) [] v x did is = absurd did
  zip_joins (j ∷ js) (k ∷ ks) v x did (y, joined, joined_index, more) =
      let rest = zip_joins js ks y x did.1 more in
      record { groups = (y.groups, joined, rest.groups); index = (y.index, joined_index, rest.index) }

  -- what comes back are jobs of the vault, whose passes can call
  pub did_have : (from : ℕ) (cs : List Command) (js ks : List JobView) → AreGiven b old from cs js → AreDid js ks → AllByRecursion (HasPasses b.vault) ks
  did_have from [] [] [] given did = tt
  did_have from [] [] (k ∷ ks) given did = absurd did
  did_have from [] (j ∷ js) ks given did = absurd given
  did_have from (c ∷ cs) [] ks given did = absurd given
  did_have from (c ∷ cs) (j ∷ js) [] given did = absurd did
  did_have from (c ∷ cs) (j ∷ js) (k ∷ ks) given did =
      let same = ap (λ (a : Common). a.vault) (did.0.common ∙ given.0.common) in
      ((same, subst (λ w. CanCall w k.passes) same did.0.passes), did_have (suc from) cs js ks given.1 did.1)

  -- and so are those that were not begun
  pub given_have : (from : ℕ) (cs : List Command) (js : List JobView) → AreGiven b old from cs js → AllByRecursion (HasPasses b.vault) js
  given_have from [] [] given = tt
  given_have from [] (j ∷ js) given = absurd given
  given_have from (c ∷ cs) [] given = absurd given
  given_have from (c ∷ cs) (j ∷ js) given = ((ap (λ (a : Common). a.vault) given.0.common, given.0.passes), given_have (suc from) cs js given.1)

  module _ (can : CanCall b.vault old) where
    zip_two : (from : ℕ) (cs : List Command) (js ks : List JobView) → AreGiven b old from cs js → AreDid js ks → (at : ℕ) → at < length b.vault.groups → HaveTwo group_rows at (zipped js ks)
    zip_two from [] [] ks given did at lt = tt
    zip_two from [] (j ∷ js) ks given did at lt = absurd given
    zip_two from (c ∷ cs) [] ks given did at lt = absurd given
    zip_two from (c ∷ cs) (j ∷ js) [] given did at lt = absurd did
    zip_two from (c ∷ cs) (j ∷ js) (k ∷ ks) given did at lt = (
      (did.0.worked.groups at).parts ∙ ap (λ (u : View _ _). u.parts) (given.0.groups at (let l = ap length can.ready.of.0 in omega (arith, lt, l))),
      zip_two (suc from) cs js ks given.1 did.1 at lt,
    )

    zip_index_two : (from : ℕ) (cs : List Command) (js ks : List JobView) → AreGiven b old from cs js → AreDid js ks → (at : ℕ) → at < length b.vault.index → HaveTwo index_rows at (zipped js ks)
    zip_index_two from [] [] ks given did at lt = tt
    zip_index_two from [] (j ∷ js) ks given did at lt = absurd given
    zip_index_two from (c ∷ cs) [] ks given did at lt = absurd given
    zip_index_two from (c ∷ cs) (j ∷ js) [] given did at lt = absurd did
    zip_index_two from (c ∷ cs) (j ∷ js) (k ∷ ks) given did at lt = (
      (did.0.worked.index at).parts ∙ ap (λ (u : View _ _). u.parts) (given.0.index at (let l = ap length can.index_ready.of.0 in omega (arith, lt, l))),
      zip_index_two (suc from) cs js ks given.1 did.1 at lt,
    )

    zip_are : (n : ℕ) (v : Known) → CanCall b.vault v → RowCut n old.groups v.groups → RowCut n old.index v.index → (from : ℕ) (cs : List Command) (js ks : List JobView) → AreGiven b old from cs js → AreDid js ks
        → AreLines v from (zipped js ks)
    zip_are n v can_v cut cut_index from [] [] ks given did = tt
    zip_are n v can_v cut cut_index from [] (j ∷ js) ks given did = absurd given
    zip_are n v can_v cut cut_index from (c ∷ cs) [] ks given did = absurd given
    zip_are n v can_v cut cut_index from (c ∷ cs) (j ∷ js) [] given did = absurd did
    zip_are n v can_v cut cut_index from (c ∷ cs) (j ∷ js) (k ∷ ks) given did =
        let its = given.0.passes in (
          given.0.number,
          record {
            groups = given_of b.vault.groups old.groups can.ready.of j.passes.groups its.ready.of given.0.groups v.groups n can_v.ready.of cut;
            index = given_of b.vault.index old.index can.index_ready.of j.passes.index its.index_ready.of given.0.index v.index n can_v.index_ready.of cut_index;
            names = its.ready.of.0 ∙ sym can_v.ready.of.0;
            origin = given_origin b.vault.groups old.groups can.ready.of j.passes.groups its.ready.of given.0.groups v.groups n can_v.ready.of cut;
            index_origin = given_origin b.vault.index old.index can.index_ready.of j.passes.index its.index_ready.of given.0.index v.index n can_v.index_ready.of cut_index;
            worked = did.0.worked;
          },
          zip_are n v can_v cut cut_index (suc from) cs js ks given.1 did.1,
        )

-- THE STEP

module _ (b : Common) (old v x : Known) (from : ℕ) (cs : List Command) (js ks : List JobView) (can : CanCall b.vault old) (can_v : CanCall b.vault v) (can_x : CanCall b.vault x)
    (more : HasMoreParts (2 * length cs) old.groups) (more_index : HasMoreParts (2 * length cs) old.index)
    (shared : AreShared b old from cs js v) (did : AreDid js ks) (joined : AllJoined v ks x) where
  abbrev zs : List Line
  zs = zipped js ks

  abbrev n : ℕ
  n = 2 * length js

  are : AreLines v from zs
  are = zip_are b old can n v can_v shared.groups shared.index from cs js ks shared.given did

  joins : KnownJoins v zs x
  joins = zip_joins b old js ks v x did joined

  say : AllSay b.vault.rack b.seed b.session zs
  say = zip_say b old from cs js ks shared.given did

  lines : lines_of zs ≡ cs
  lines = zip_lines b old from cs js ks shared.given did

  sole : AllOnlyWriters old x → AllOnlyWriters v x
  sole s = record {
    groups = sole_cut b.vault.groups old.groups v.groups x.groups can.ready.of can_v.ready.of n shared.groups s.groups;
    index = sole_cut b.vault.index old.index v.index x.index can.index_ready.of can_v.index_ready.of n shared.index s.index;
  }

  seen : (g : ℕ) → (view_at v.groups g).seen ≡ (view_at old.groups g).seen
  seen = seen_cut b.vault.groups old.groups v.groups x.groups can.ready.of can_v.ready.of n shared.groups

  seen_index : (at : ℕ) → (view_at v.index at).seen ≡ (view_at old.index at).seen
  seen_index = seen_cut b.vault.index old.index v.index x.index can.index_ready.of can_v.index_ready.of n shared.index

  same_gain : (g : ℕ) → gained v.groups x.groups g ≡ gained old.groups x.groups g
  same_gain g = ap (λ l. entries_of (drop (length l) (view_at x.groups g).seen)) (seen g)

  section : section_of v x ≡ section_of old x
  section =
      let befores : (section_of v x).before ≡ (section_of old x).before = fun_ext (λ g. ap entries_of (seen g)) in
      let addeds : (section_of v x).added ≡ (section_of old x).added = fun_ext same_gain in
      let index_befores : (section_of v x).index_before ≡ (section_of old x).index_before = seen_index 0 in
      let index_addeds : (section_of v x).index_added ≡ (section_of old x).index_added = ap (λ l. drop (length l) (view_at x.index 0).seen) (seen_index 0) in
      λ i. record { before = befores i; added = addeds i; index_before = index_befores i; index_added = index_addeds i }

  setting : (s : Setting) → IsSessionSetting s b.vault.rack b.seed b.session old → IsSessionSetting s b.vault.rack b.seed b.session v
  setting s is = record {
    setting = setting_of_stays s b.vault.rack old v (can_v.ready.of.0 ∙ sym can.ready.of.0)
        (λ at. ap (λ (u : View _ _). u.origin) (cut_at b.vault.groups old.groups can.ready.of n v.groups can_v.ready.of shared.groups at))
        (λ at. ap (λ (u : View _ _). u.origin) (cut_at b.vault.index old.index can.index_ready.of n v.index can_v.index_ready.of shared.index at)) is.setting;
    drawn = is.drawn;
    mends = is.mends;
    filled = is.filled;
  }

  pub together_went : AllExtend old x
  together_went =
      let went = batch_all_went v x from zs are joins in
      record {
        groups = went_cut b.vault.groups old.groups v.groups x.groups can.ready.of can_v.ready.of n shared.groups went.groups;
        index = went_cut b.vault.index old.index v.index x.index can.index_ready.of can_v.index_ready.of n shared.index went.index;
      }

  many : length zs ≡ length cs
  many = let a = ap length lines in let c = zip_count b old js ks did in let l = length_lines zs in omega (arith, a, l)
    where
      length_lines : (ds : List Line) → length (lines_of ds) ≡ length ds
      length_lines [] = refl
      length_lines (d ∷ ds) = (let m = length_lines ds in omega (arith, m))

  twice : n ≡ 2 * length zs
  twice = let c = zip_count b old js ks did in omega (arith, c)

  twice_more : 2 * length cs ≡ 2 * length zs
  twice_more = let m = many in omega (arith, m)

  pub together_stays : AllStay old x
  together_stays = record {
    groups = joins_stay group_rows b.vault.groups zs old.groups v.groups x.groups can.ready.of can_v.ready.of can_x.ready.of
        (subst (λ k. RowCut k old.groups v.groups) twice shared.groups) (subst (λ k. HasMoreParts k old.groups) twice_more more) (zip_two b old can from cs js ks shared.given did) joins.groups;
    index = joins_stay index_rows b.vault.index zs old.index v.index x.index can.index_ready.of can_v.index_ready.of can_x.index_ready.of
        (subst (λ k. RowCut k old.index v.index) twice shared.index) (subst (λ k. HasMoreParts k old.index) twice_more more_index) (zip_index_two b old can from cs js ks shared.given did) joins.index;
  }

  -- the moves of the lines began before
  module _ (start : Known) (tasks : List Task) (same_tasks : tasks_in js ≡ tasks) (moves : AreMovesBegun b.vault.rack from cs tasks start old) where
    module _ (s_start : AllOnlyWriters start x) (s : Setting) (is : IsSessionSetting s b.vault.rack b.seed b.session start) where
      soles : AllOnlyWriters start old × AllOnlyWriters old x
      soles = sole_parts start old x moves.went together_went s_start

      setting_old : IsSessionSetting s b.vault.rack b.seed b.session old
      setting_old = setting_stays s b.vault.rack b.seed b.session start old moves.stays is

      begun : HaveBegun s from (lines_of zs) (tasks_of zs) (section_of start old)
      begun = subst (λ ls. HaveBegun s from ls (tasks_of zs) (section_of start old)) (sym lines)
          (subst (λ ts. HaveBegun s from cs ts (section_of start old)) (sym (zip_tasks b old js ks did ∙ same_tasks)) (moves.begun soles.0 s is.setting))

      follows : FollowsSection (section_of start old) (section_of v x) (section_of start x)
      follows = subst (λ (u : Section). FollowsSection (section_of start old) u (section_of start x)) (sym section) (known_follows start old x moves.went together_went)

      its_gives : all_replied ks ≡ true → IsOfJobs from (length cs) (section_of start x) × ((h : MovesThenRest (section_of start x)) × Rows (Row s) from cs (replies_in ks) (section_of start x) h)
      its_gives all =
          let gives = batch_gives b.vault.rack b.seed b.session v x from zs are joins say (zip_have b old js ks did ∙ all) (sole soles.1) s (setting s setting_old) (section_of start old) (section_of start x) begun follows in
          subst (λ rs. IsOfJobs from (length cs) (section_of start x) × ((h : MovesThenRest (section_of start x)) × Rows (Row s) from cs rs (section_of start x) h)) (zip_replies b old js ks did)
          (subst (λ ls. IsOfJobs from (length ls) (section_of start x) × ((h : MovesThenRest (section_of start x)) × Rows (Row s) from ls (replies_of zs) (section_of start x) h)) lines gives)

      its_leaves : IsOfJobs from (length cs) (section_of start x) × ((h : MovesThenRest (section_of start x)) × AreLinesLeft s from cs (section_of start x) h)
      its_leaves =
          subst (λ ls. IsOfJobs from (length ls) (section_of start x) × ((h : MovesThenRest (section_of start x)) × AreLinesLeft s from ls (section_of start x) h)) lines
          (batch_leaves b.vault.rack b.seed b.session v x from zs are joins say (sole soles.1) s (setting s setting_old) (section_of start old) (section_of start x) begun follows)

    pub together_gives : all_replied ks ≡ true → StepGives b.vault.rack b.seed b.session from (Together cs) start x (replies_in ks)
    together_gives all s_start s is = its_gives s_start s is all

    pub together_leaves : StepLeaves b.vault.rack b.seed b.session from (Together cs) start x
    together_leaves s_start s is = its_leaves s_start s is

  pub together_none : HasFilled b.vault.rack old → BringsNone old x
  together_none filled s_old g =
      let s = its_setting b.vault.rack b.seed b.session old in
      let none = batch_brings_none b.vault.rack b.seed b.session v x from zs are joins say s (setting s (is_setting b.vault.rack b.seed b.session old filled)) (sole s_old) g in
      ap arrivals (sym (same_gain g)) ∙ none

  pub together_blinds : HasFilled b.vault.rack old → AreJobsBlinded b old x
  together_blinds filled s_old job =
      let s = its_setting b.vault.rack b.seed b.session old in
      same_drawn (pads_of b.seed b.session job) (blinds_by job v.groups x.groups) (blinds_by job old.groups x.groups)
      (λ g. ap (λ l. blinds_in (filter (of_job job) (drop (length l) (view_at x.groups g).seen))) (sym (seen g)))
      (lines_drawn b v x from zs are joins say (zip_blind b old from cs js ks shared.given did) s (setting s (is_setting b.vault.rack b.seed b.session old filled)) (sole s_old) job)

-- The jobs of a batch were worked.
pub record AreLinesWorked (b : Common) (old v : Known) (from : ℕ) (cs : List Command) (tasks : List Task) (ks : List JobView) : Type 0 where
  pub given : List JobView
  pub shared : AreShared b old from cs given v
  pub tasks_are : tasks_in given ≡ tasks
  pub are_worked : AreWorked IsJobDone Did given ks

pub lines_worked_are : (b : Common) (old v : Known) (from : ℕ) (cs : List Command) (tasks : List Task) (ks : List JobView)
    → ((js : List JobView) × AreShared b old from cs js v × (tasks_in js ≡ tasks) × AreWorked IsJobDone Did js ks) → AreLinesWorked b old v from cs tasks ks
lines_worked_are b old v from cs tasks ks (js, shared, same, worked) = record { given = js; shared = shared; tasks_are = same; are_worked = worked }

-- A batch was worked, and the passes of its jobs were taken back.
pub record IsTaken (b : Common) (old v x : Known) (from : ℕ) (cs : List Command) (tasks : List Task) (ks : List JobView) : Type 0 where
  pub can : CanCall b.vault old
  pub can_v : CanCall b.vault v
  pub can_x : CanCall b.vault x
  pub parts : HasMoreParts (2 * length cs) old.groups × HasMoreParts (2 * length cs) old.index
  pub worked : AreLinesWorked b old v from cs tasks ks
  pub joined : AllJoined v ks x

module _ (b : Common) (old v : Known) (from : ℕ) (cs : List Command) (tasks : List Task) (ks : List JobView) (worked : AreLinesWorked b old v from cs tasks ks) where
  -- its jobs are of the vault, one for each line
  pub worked_have : AllByRecursion (HasPasses b.vault) ks
  worked_have = did_have b old from cs worked.given ks worked.shared.given (are_did worked.given ks worked.are_worked)

  pub worked_count : length ks ≡ length cs
  worked_count = worked.are_worked.count ∙ given_count b old from cs worked.given worked.shared.given

module _ (b : Common) (old v x : Known) (from : ℕ) (cs : List Command) (tasks : List Task) (ks : List JobView) (is : IsTaken b old v x from cs tasks ks) where
  did : AreDid is.worked.given ks
  did = are_did is.worked.given ks is.worked.are_worked

  pub taken_went : AllExtend old x
  taken_went = together_went b old v x from cs is.worked.given ks is.can is.can_v is.can_x is.parts.0 is.parts.1 is.worked.shared did is.joined

  pub taken_stays : AllStay old x
  taken_stays = together_stays b old v x from cs is.worked.given ks is.can is.can_v is.can_x is.parts.0 is.parts.1 is.worked.shared did is.joined

  pub taken_gives : (rs : List Reply) → rs ≡ replies_in ks → all_replied ks ≡ true → (start : Known) → AreMovesBegun b.vault.rack from cs tasks start old → StepGives b.vault.rack b.seed b.session from (Together cs) start x rs
  taken_gives rs same all start moves =
      subst (λ ls. StepGives b.vault.rack b.seed b.session from (Together cs) start x ls) (sym same)
      (together_gives b old v x from cs is.worked.given ks is.can is.can_v is.can_x is.parts.0 is.parts.1 is.worked.shared did is.joined start tasks is.worked.tasks_are moves all)

  pub taken_leaves : (start : Known) → AreMovesBegun b.vault.rack from cs tasks start old → StepLeaves b.vault.rack b.seed b.session from (Together cs) start x
  taken_leaves start moves = together_leaves b old v x from cs is.worked.given ks is.can is.can_v is.can_x is.parts.0 is.parts.1 is.worked.shared did is.joined start tasks is.worked.tasks_are moves

  pub taken_none : HasFilled b.vault.rack old → BringsNone old x
  taken_none = together_none b old v x from cs is.worked.given ks is.can is.can_v is.can_x is.parts.0 is.parts.1 is.worked.shared did is.joined

  pub taken_blinds : HasFilled b.vault.rack old → AreJobsBlinded b old x
  taken_blinds = together_blinds b old v x from cs is.worked.given ks is.can is.can_v is.can_x is.parts.0 is.parts.1 is.worked.shared did is.joined
