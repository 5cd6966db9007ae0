-- The moves of a batch, which its lines begin one after another.
use Rattle.std.proofs.Common.{◌≡◌, ◌≢◌, ◌<◌, ◌≤◌, ◌+◌, ◌⊎◌, ⊎_elim, inl, inr, ℕ, zero, suc, Bool, true, false, List, [], ◌∷◌, ◌++◌, length, refl, ap, sym, ◌∙◌, subst, arith, append-nil, append_assoc, length-append, ne_eqb}
use Rattle.std.specs.Prelude.{Option, Some, None, IsSome, Contains, filter, nat_lt, slice_get}
use Rattle.std.proofs.lemmas.Bool.{cases_eq, cases_lt}
use Rattle.std.proofs.lemmas.Bool.Decides.{nat_tests}
use Rattle.std.proofs.lemmas.Option.{same_Some, slice_get_within}
use Rattle.std.proofs.lemmas.List.{get_or-set_same, get_or_past}
use Rattle.std.proofs.lemmas.List.Elements.{filter-append, Contains-append_cases}
use mathlib.Core.Path.{fun_ext}
use Rattle.pot_machine.specs.declared.column.Column.{Column}
use Rattle.pot_machine.specs.declared.column.Moving.{Moving}
use Rattle.pot_machine.specs.declared.entry.Entry.{Entry}
use Rattle.pot_machine.specs.declared.entry.Entry.TheVariants as entry
use Rattle.pot_machine.specs.Machine.{after, with_column}
use Rattle.pot_machine.specs.Table.{Table, column_at, no_column}
use Rattle.pot_machine.specs.Logs.{job_of, is_of, own, replayed}
use Rattle.pot_index.specs.Entries as index
use Rattle.pot_machine.proofs.Columns.{column_other}
use Rattle.pot_machine.proofs.Logs.{replayed_append}
use Rattle.pot_turn.proofs.LogLemmas.{get_front, get_back}
use Rattle.pot_script.specs.declared.command.Command.{Command}
use Rattle.pot_script.specs.declared.command.Command.TheVariants as commands
use Rattle.pot_replies.specs.Jobs.{is_move_begin, EachIs}
use Rattle.pot_replies.specs.Settings.{Setting}
use Rattle.pot_replies.specs.Sections.{Section, MovesThenRest, FollowsSection, JobsAscend, IsSectionEmpty, IsOfJobs, IsSilent, checked, mine, work_of}
use Rattle.pot_replies.specs.Moves.{MayBegin, MayGoOn, moving_at}
use Rattle.pot_commands.specs.declared.beginning.Task.{Task}
use Rattle.pot_commands.specs.declared.beginning.Task.TheVariants as task
use Rattle.pot_commands.specs.Arriving.{IsUnbegun}
use Rattle.pot_commands.specs.Begun.{LineBegins, IsBegun, HaveBegun}
use Rattle.pot_commands.specs.Steps.{IsLineIdle, IsLineLeft, AreLinesLeft}
use Rattle.pot_commands.proofs.Whose.{own_all}

-- A COLUMN THAT MOVES DOES SO WHEN MORE MOVES HAVE BEGUN

no_moving : (o : Option Moving) → o ≡ None → IsSome o → ⊥
no_moving None e h = cc h
no_moving (Some m) e h = cc e

one_moving : (t : Table) (k : ℕ) (e : Entry) → is_move_begin e ≡ true → IsSome (column_at t k).moving → IsSome (column_at (after t e) k).moving
one_moving t k (entry.MoveBegin job c to) begins is =
    let x : Column = record (column_at t c) { moving = Some (record { to = to; upto = 0 }) } in ⊎_elim
    (λ (e : k ≡ c). ⊎_elim
    (λ (lt : c < length t.columns). subst (λ j. IsSome (column_at (with_column t c x) j).moving) (sym e) (subst (λ (y : Column). IsSome y.moving) (sym (get_or-set_same t.columns c x no_column lt)) refl))
    (λ (le : length t.columns ≤ c). absurd (no_moving (column_at t c).moving (ap (λ (y : Column). y.moving) (get_or_past t.columns c no_column le)) (subst (λ j. IsSome (column_at t j).moving) e is)))
    (cases_lt c (length t.columns)))
    (λ (ne : k ≢ c). subst (λ (y : Column). IsSome y.moving) (sym (column_other t c k x ne)) is)
    (cases_eq k c)
one_moving t k _ begins is = absurd (cc begins)

still_moving : (t : Table) (k : ℕ) (es : List Entry) → EachIs is_move_begin es → IsSome (column_at t k).moving → IsSome (column_at (replayed t es) k).moving
still_moving t k [] each is = is
still_moving t k (e ∷ es) each is =
    still_moving (after t e) k es (λ x (i, lt, at). each x (suc i, omega (arith, lt), at)) (one_moving t k e (each e (0, omega arith, refl)) is)

-- PARTS OF A LOG

module _ (test : Entry → Bool) where
  each_out : (es : List Entry) → ((x y : List Entry) (e : Entry) → es ≡ x ++ e ∷ y → test e ≡ false) → filter test es ≡ []
  each_out [] h = refl
  each_out (e ∷ es) h = rw (h [] es e refl) (each_out es (λ x y f at. h (e ∷ x) y f (ap (λ l. e ∷ l) at)))

  each_in : (es : List Entry) → ((x y : List Entry) (e : Entry) → es ≡ x ++ e ∷ y → test e ≡ true) → filter test es ≡ es
  each_in [] h = refl
  each_in (e ∷ es) h = rw (h [] es e refl) (ap (λ l. e ∷ l) (each_in es (λ x y f at. h (e ∷ x) y f (ap (λ l. e ∷ l) at))))

less : (a b : ℕ) → a < b → nat_lt a b ≡ true
less a b lt = grind (arith, nat_tests, lt)

not_less : (a b : ℕ) → b ≤ a → nat_lt a b ≡ false
not_less a b le = grind (arith, nat_tests, le)

-- an element of a list in two parts stands in one of them
pub either_part : {X : Type 0} (xs ys x y : List X) (e : X) → xs ++ ys ≡ x ++ e ∷ y → ((z : List X) × (xs ≡ x ++ e ∷ z)) ⊎ ((z : List X) × (ys ≡ z ++ e ∷ y))
either_part [] ys x y e at = inr (x, at)
either_part (a ∷ xs) ys [] y e at = let same : a ≡ e = cc at in inl (xs, ap (λ b. b ∷ xs) same)
either_part (a ∷ xs) ys (b ∷ x) y e at =
    let same : a ≡ b = cc at in ⊎_elim
    (λ (h : (z : List _) × (xs ≡ x ++ e ∷ z)). inl (h.0, let rest = h.1 in cc (same, rest)))
    (λ (h : (z : List _) × (ys ≡ z ++ e ∷ y)). inr h)
    (either_part xs ys x y e (cc at))

pub no_entry : {X : Type 0} (ls xs ys : List X) (x : X) → ls ≡ [] → ls ≡ xs ++ x ∷ ys → ⊥
no_entry ls [] ys x none at = cc (none, at)
no_entry ls (z ∷ xs) ys x none at = cc (none, at)

ascend_last : (xs : List Entry) (e : Entry) → JobsAscend xs → ((x y : List Entry) (f : Entry) → xs ≡ x ++ f ∷ y → job_of f < job_of e) → JobsAscend (xs ++ e ∷ [])
ascend_last [] e ascend low = tt
ascend_last (x ∷ []) e ascend low = (low [] [] x refl, tt)
ascend_last (x ∷ y ∷ xs) e ascend low = (ascend.0, ascend_last (y ∷ xs) e ascend.1 (λ u v f at. low (x ∷ u) v f (ap (λ l. x ∷ l) at)))

-- NOTHING MORE WAS ADDED

same_section : (w one whole : Section) → FollowsSection w one whole → IsSectionEmpty one → whole ≡ w
same_section w one whole follows none =
    let befores : whole.before ≡ w.before = fun_ext (λ g. sym (follows.begins g)) in
    let addeds : whole.added ≡ w.added = fun_ext (λ g. follows.is_added g ∙ (ap (λ l. w.added g ++ l) (none.0 g) ∙ append-nil (w.added g))) in
    let index_befores : whole.index_before ≡ w.index_before = sym follows.index_begins in
    let index_addeds : whole.index_added ≡ w.index_added = follows.index_is_added ∙ (ap (λ l. w.index_added ++ l) none.1 ∙ append-nil w.index_added) in
    λ i. record { before = befores i; added = addeds i; index_before = index_befores i; index_added = index_addeds i }

-- before the first line
pub none_begun : (s : Setting) (from : ℕ) (lines : List Command) (w : Section) → IsSectionEmpty w → HaveBegun s from lines [] w
none_begun s from lines w none = record {
  none_index = none.1;
  its = record { groups = λ g x y e at. absurd (no_entry (w.added g) x y e (none.0 g) at); index = λ x y e at. absurd (no_entry w.index_added x y e none.1 at) };
  begins = λ g. subst (λ l. EachIs is_move_begin l) (sym (none.0 g)) (λ e (k, lt, at). absurd (omega (arith, lt)));
  in_order = λ g. subst (λ l. JobsAscend l) (sym (none.0 g)) tt;
  each = λ i c t at there. absurd (cc there);
}

pub same_begun : (s : Setting) (from : ℕ) (lines : List Command) (tasks : List Task) (w one whole : Section) → HaveBegun s from lines tasks w → FollowsSection w one whole → IsSectionEmpty one → HaveBegun s from lines tasks whole
same_begun s from lines tasks w one whole sofar follows none = subst (λ (u : Section). HaveBegun s from lines tasks u) (sym (same_section w one whole follows none)) sofar

-- ONE LINE MORE

module _ (s : Setting) (from : ℕ) (lines : List Command) (tasks : List Task) (w one whole : Section) (sofar : HaveBegun s from lines tasks w) (follows : FollowsSection w one whole)
    (its : IsOfJobs (from + length tasks) 1 one) where
  abbrev job : ℕ
  job = from + length tasks

  its_job : (g : ℕ) (x y : List Entry) (e : Entry) → one.added g ≡ x ++ e ∷ y → job_of e ≡ job
  its_job g x y e at = let a = (its.groups g x y e at).0 in let b = (its.groups g x y e at).1 in omega (arith, a, b)

  earlier : (g : ℕ) (x y : List Entry) (e : Entry) → w.added g ≡ x ++ e ∷ y → job_of e < job
  earlier g x y e at = (sofar.its.groups g x y e at).1

  own_one : (g : ℕ) → own job (one.added g) ≡ one.added g
  own_one g = own_all job (one.added g) (its.groups g)

  -- it began one move at most
  abbrev BeginsOne : ℕ → Type 0
  BeginsOne g = (one.added g ≡ []) ⊎ ((e : Entry) × (one.added g ≡ e ∷ []) × (is_move_begin e ≡ true) × (job_of e ≡ job))

  began_one : (c : Command) (t : Task) → LineBegins s job c t one → (g : ℕ) → BeginsOne g
  began_one c task.Line silent g = inl (sym (own_one g) ∙ silent.0 g)
  began_one (commands.Migrate from to) (task.Move at) has g = ⊎_elim
      (λ (e : g ≡ at.group). subst BeginsOne (sym e) (⊎_elim
      (λ (b : MayBegin s one.before from to at.group at.column × (own job (one.added at.group) ≡ entry.MoveBegin job at.column to ∷ [])).
      inr (entry.MoveBegin job at.column to, sym (own_one at.group) ∙ b.1, refl, refl))
      (λ (b : MayGoOn s one.before from to at.group at.column × (own job (one.added at.group) ≡ [])). inl (sym (own_one at.group) ∙ b.1))
      has.begins))
      (λ (ne : g ≢ at.group). inl (sym (own_one g) ∙ has.only.0 g ne))
      (cases_eq g at.group)
  began_one (commands.Migrate from to) (task.Told reply) (row, silent) g = inl (sym (own_one g) ∙ silent.0 g)
  began_one _ (task.Move at) has g = absurd has
  began_one _ (task.Told reply) has g = absurd has

  -- what earlier lines met and began is as it was
  module _ (j : ℕ) (low : j < job) where
    same_check : checked whole.before whole.added j ≡ checked w.before w.added j
    same_check = fun_ext (λ g.
        let none : filter (λ e. nat_lt (job_of e) j) (one.added g) ≡ [] =
        each_out (λ e. nat_lt (job_of e) j) (one.added g) (λ x y e at. not_less (job_of e) j (let n = its_job g x y e at in omega (arith, n, low))) in
        let kept : filter (λ e. nat_lt (job_of e) j) (whole.added g) ≡ filter (λ e. nat_lt (job_of e) j) (w.added g) =
        ap (filter (λ e. nat_lt (job_of e) j)) (follows.is_added g) ∙ (filter-append (λ e. nat_lt (job_of e) j) (w.added g) (one.added g)
        ∙ (ap (λ l. filter (λ e. nat_lt (job_of e) j) (w.added g) ++ l) none ∙ append-nil (filter (λ e. nat_lt (job_of e) j) (w.added g)))) in
        ap (λ l. l ++ filter (λ e. nat_lt (job_of e) j) (whole.added g)) (sym (follows.begins g)) ∙ ap (λ l. w.before g ++ l) kept)

    same_own : (g : ℕ) → own j (whole.added g) ≡ own j (w.added g)
    same_own g =
        let none : own j (one.added g) ≡ [] = each_out (is_of j) (one.added g) (λ x y e at. ne_eqb (job_of e) j (λ same. let n = its_job g x y e at in absurd (omega (arith, n, low, same)))) in
        ap (own j) (follows.is_added g) ∙ (filter-append (is_of j) (w.added g) (one.added g) ∙ (ap (λ l. own j (w.added g) ++ l) none ∙ append-nil (own j (w.added g))))

    moves_on : ((g : ℕ) → EachIs is_move_begin (one.added g)) → (g c : ℕ) → IsSome (moving_at s (λ h. w.before h ++ w.added h) g c) → IsSome (moving_at s (λ h. whole.before h ++ whole.added h) g c)
    moves_on each g c is =
        let logs : whole.before g ++ whole.added g ≡ (w.before g ++ w.added g) ++ one.added g =
        ap (λ l. l ++ whole.added g) (sym (follows.begins g)) ∙ (ap (λ l. w.before g ++ l) (follows.is_added g) ∙ sym (append_assoc (w.before g) (w.added g) (one.added g))) in
        let leads = ap (replayed (s.first g)) logs ∙ replayed_append (s.first g) (w.before g ++ w.added g) (one.added g) in
        subst (λ (t : Table). IsSome (column_at t c).moving) (sym leads) (still_moving (replayed (s.first g) (w.before g ++ w.added g)) c (one.added g) (each g) is)

    earlier_begun : ((g : ℕ) → EachIs is_move_begin (one.added g)) → (c : Command) (t : Task) → IsBegun s w.before w.added j c t → IsBegun s whole.before whole.added j c t
    earlier_begun each c task.Line is = λ g. same_own g ∙ is g
    earlier_begun each (commands.Migrate from to) (task.Move at) is = (
      ⊎_elim
          (λ (b : MayBegin s (checked w.before w.added j) from to at.group at.column × (own j (w.added at.group) ≡ entry.MoveBegin j at.column to ∷ [])).
          inl (subst (λ logs. MayBegin s logs from to at.group at.column) (sym same_check) b.0, same_own at.group ∙ b.1))
          (λ (b : MayGoOn s (checked w.before w.added j) from to at.group at.column × (own j (w.added at.group) ≡ [])).
          inr (subst (λ logs. MayGoOn s logs from to at.group at.column) (sym same_check) b.0, same_own at.group ∙ b.1))
          is.0,
      (λ h ne. same_own h ∙ is.1 h ne),
      moves_on each at.group at.column is.2,
    )
    earlier_begun each (commands.Migrate from to) (task.Told reply) is = (subst (λ logs. IsUnbegun s logs from to reply) (sym same_check) is.0, (λ g. same_own g ∙ is.1 g))
    earlier_begun each _ (task.Move at) is = absurd is
    earlier_begun each _ (task.Told reply) is = absurd is

  -- the line met the logs before it, and what it began is its own
  now_check : checked whole.before whole.added job ≡ one.before
  now_check = fun_ext (λ g.
      let low : filter (λ e. nat_lt (job_of e) job) (w.added g) ≡ w.added g = each_in (λ e. nat_lt (job_of e) job) (w.added g) (λ x y e at. less (job_of e) job (earlier g x y e at)) in
      let none : filter (λ e. nat_lt (job_of e) job) (one.added g) ≡ [] =
      each_out (λ e. nat_lt (job_of e) job) (one.added g) (λ x y e at. not_less (job_of e) job (let n = its_job g x y e at in omega (arith, n))) in
      let kept : filter (λ e. nat_lt (job_of e) job) (whole.added g) ≡ w.added g =
      ap (filter (λ e. nat_lt (job_of e) job)) (follows.is_added g) ∙ (filter-append (λ e. nat_lt (job_of e) job) (w.added g) (one.added g)
      ∙ (ap (λ l. filter (λ e. nat_lt (job_of e) job) (w.added g) ++ l) none ∙ (append-nil (filter (λ e. nat_lt (job_of e) job) (w.added g)) ∙ low))) in
      ap (λ l. whole.before g ++ l) kept ∙ sym (follows.goes_on g))

  now_own : (g : ℕ) → own job (whole.added g) ≡ own job (one.added g)
  now_own g =
      let none : own job (w.added g) ≡ [] = each_out (is_of job) (w.added g) (λ x y e at. ne_eqb (job_of e) job (λ same. let n = earlier g x y e at in absurd (omega (arith, n, same)))) in
      ap (own job) (follows.is_added g) ∙ (filter-append (is_of job) (w.added g) (one.added g) ∙ ap (λ l. l ++ own job (one.added g)) none)

  now_all : ◌≡◌ {A = ℕ → List Entry} (λ h. whole.before h ++ whole.added h) (λ h. one.before h ++ one.added h)
  now_all = fun_ext (λ h. ap (λ l. whole.before h ++ l) (follows.is_added h) ∙ (sym (append_assoc (whole.before h) (w.added h) (one.added h)) ∙ ap (λ l. l ++ one.added h) (sym (follows.goes_on h))))

  now_begun : (c : Command) (t : Task) → LineBegins s job c t one → IsBegun s whole.before whole.added job c t
  now_begun c task.Line silent = λ g. now_own g ∙ silent.0 g
  now_begun (commands.Migrate from to) (task.Move at) has = (
    ⊎_elim
        (λ (b : MayBegin s one.before from to at.group at.column × (own job (one.added at.group) ≡ entry.MoveBegin job at.column to ∷ [])).
        inl (subst (λ logs. MayBegin s logs from to at.group at.column) (sym now_check) b.0, now_own at.group ∙ b.1))
        (λ (b : MayGoOn s one.before from to at.group at.column × (own job (one.added at.group) ≡ [])).
        inr (subst (λ logs. MayGoOn s logs from to at.group at.column) (sym now_check) b.0, now_own at.group ∙ b.1))
        has.begins,
    (λ h ne. now_own h ∙ has.only.0 h ne),
    subst (λ logs. IsSome (moving_at s logs at.group at.column)) (sym now_all) has.moves,
  )
  now_begun (commands.Migrate from to) (task.Told reply) (row, silent) = (subst (λ logs. IsUnbegun s logs from to reply) (sym now_check) row, (λ g. now_own g ∙ silent.0 g))
  now_begun _ (task.Move at) has = absurd has
  now_begun _ (task.Told reply) has = absurd has

  module _ (c : Command) (t : Task) (there : slice_get lines (length tasks) ≡ Some c) (begins : LineBegins s job c t one) (none_index : one.index_added ≡ []) where
    one_each : (g : ℕ) → EachIs is_move_begin (one.added g)
    one_each g = ⊎_elim
        (λ (none : one.added g ≡ []). subst (λ l. EachIs is_move_begin l) (sym none) (λ e (k, lt, at). absurd (omega (arith, lt))))
        (λ (h : (e : Entry) × (one.added g ≡ e ∷ []) × (is_move_begin e ≡ true) × (job_of e ≡ job)). subst (λ l. EachIs is_move_begin l) (sym h.1) (only_one h.0 h.2))
        (began_one c t begins g)
      where
        only_one : (e : Entry) → is_move_begin e ≡ true → (f : Entry) → Contains (e ∷ []) f → is_move_begin f ≡ true
        only_one e is f (zero, lt, at) = ap is_move_begin (sym at) ∙ is
        only_one e is f (suc k, lt, at) = absurd (omega (arith, lt))

    ascends : (g : ℕ) → JobsAscend (whole.added g)
    ascends g = subst JobsAscend (sym (follows.is_added g)) (⊎_elim
        (λ (none : one.added g ≡ []). subst (λ l. JobsAscend (w.added g ++ l)) (sym none) (subst JobsAscend (sym (append-nil (w.added g))) (sofar.in_order g)))
        (λ (h : (e : Entry) × (one.added g ≡ e ∷ []) × (is_move_begin e ≡ true) × (job_of e ≡ job)).
        subst (λ l. JobsAscend (w.added g ++ l)) (sym h.1) (ascend_last (w.added g) h.0 (sofar.in_order g) (λ x y f at. let n = earlier g x y f at in let k = h.3 in omega (arith, n, k))))
        (began_one c t begins g))

    longer : length (tasks ++ t ∷ []) ≡ length tasks + 1
    longer = length-append tasks (t ∷ [])

    pub more_begun : HaveBegun s from lines (tasks ++ t ∷ []) whole
    more_begun = record {
      none_index = follows.index_is_added ∙ (ap (λ l. l ++ one.index_added) sofar.none_index ∙ none_index);
      its = record {
        groups = λ g x y e at. ⊎_elim
            (λ (h : (z : List Entry) × (w.added g ≡ x ++ e ∷ z)). let a = (sofar.its.groups g x h.0 e h.1).0 in let b = (sofar.its.groups g x h.0 e h.1).1 in (a, (let n = longer in omega (arith, b, n))))
            (λ (h : (z : List Entry) × (one.added g ≡ z ++ e ∷ y)). let a = its_job g h.0 y e h.1 in let n = longer in (omega (arith, a), omega (arith, a, n)))
            (either_part (w.added g) (one.added g) x y e (sym (follows.is_added g) ∙ at));
        index = λ x y e at. absurd (no_entry whole.index_added x y e (follows.index_is_added ∙ (ap (λ l. l ++ one.index_added) sofar.none_index ∙ none_index)) at);
      };
      begins = λ g e has. ⊎_elim
          (λ (h : Contains (w.added g) e). sofar.begins g e h)
          (λ (h : Contains (one.added g) e). one_each g e h)
          (Contains-append_cases (w.added g) (one.added g) e (subst (λ l. Contains l e) (follows.is_added g) has));
      in_order = ascends;
      each = λ i d u in_lines in_tasks.
          let within : i < length (tasks ++ t ∷ []) = slice_get_within (tasks ++ t ∷ []) i u in_tasks in ⊎_elim
          (λ (lt : i < length tasks). earlier_begun (from + i) (omega (arith, lt)) one_each d u (sofar.each i d u in_lines (sym (get_front tasks (t ∷ []) i lt) ∙ in_tasks)))
          (λ (le : length tasks ≤ i).
          let last : i ≡ length tasks = (let n = longer in omega (arith, le, within, n)) in
          let same_line : c ≡ d = same_Some c d (sym there ∙ (ap (slice_get lines) (sym last) ∙ in_lines)) in
          let same_task : t ≡ u = same_Some t u (sym (get_back tasks (t ∷ []) 0) ∙ (ap (slice_get (tasks ++ t ∷ [])) (let e : length tasks + 0 ≡ i = omega (arith, last) in e) ∙ in_tasks)) in
          subst (λ j. IsBegun s whole.before whole.added j d u) (let e : job ≡ from + i = omega (arith, last) in e)
          (subst (λ b. IsBegun s whole.before whole.added job b u) same_line (subst (λ b. IsBegun s whole.before whole.added job c b) same_task (now_begun c t begins))))
          (cases_lt i (length tasks));
    }

some_there : {X : Type 0} (xs : List X) (k : ℕ) → k < length xs → slice_get xs k ≡ None → ⊥
some_there [] k lt none = absurd (omega (arith, lt))
some_there (x ∷ xs) zero lt none = cc none
some_there (x ∷ xs) (suc k) lt none = some_there xs k (omega (arith, lt)) none

-- A BATCH THAT ENDED WHEN SOME OF ITS MOVES HAD BEGUN

module _ (s : Setting) (from : ℕ) (lines : List Command) (tasks : List Task) (w : Section) (begun : HaveBegun s from lines tasks w) where
  abbrev begun_only : MovesThenRest w
  begun_only = record {
    begun = w.added;
    worked = λ g. [];
    parts = λ g. sym (append-nil (w.added g));
    begins = begun.begins;
    no_more = λ g. refl;
    in_order = begun.in_order;
  }

  nothing_else : (k : ℕ) → IsSilent (mine k (work_of w begun_only))
  nothing_else k = ((λ g. refl), ap (index.own k) begun.none_index)

  idle_line : (k : ℕ) (c : Command) (t : Task) → IsBegun s w.before w.added k c t → IsLineIdle s k c w begun_only
  idle_line k (commands.Migrate from to) task.Line is = (inl is, nothing_else k)
  idle_line k (commands.Migrate from to) (task.Move at) is = (inr (at.group, at.column, is.0, is.1), nothing_else k)
  idle_line k (commands.Migrate from to) (task.Told reply) is = (inl is.1, nothing_else k)
  idle_line k (commands.Fetch name) task.Line is = (is, inl (nothing_else k))
  idle_line k (commands.Renew name geometry) task.Line is = (is, inl (inl (nothing_else k)))
  idle_line k _ task.Line is = (is, nothing_else k)
  idle_line k _ (task.Move at) is = absurd is
  idle_line k _ (task.Told reply) is = absurd is

  -- where the first lines have begun, each line is idle
  its_task : (i : ℕ) (c : Command) → slice_get lines i ≡ Some c → (o : Option Task) → slice_get tasks i ≡ o → (t : Task) × IsBegun s w.before w.added (from + i) c t
  its_task i c there (Some t) at = (t, begun.each i c t there at)
  its_task i c there None at = (
    task.Line,
    λ g. each_out (is_of (from + i)) (w.added g) (λ x y e is. ne_eqb (job_of e) (from + i) (λ same.
        let low = (begun.its.groups g x y e is).1 in let le = behind i at in absurd (omega (arith, low, le, same)))),
  )
    where
      behind : (k : ℕ) → slice_get tasks k ≡ None → length tasks ≤ k
      behind k none = ⊎_elim
          (λ (lt : k < length tasks). absurd (some_there tasks k lt none))
          (λ (le : length tasks ≤ k). le)
          (cases_lt k (length tasks))

  lines_left : (n : ℕ) (cs : List Command) → ((i : ℕ) (c : Command) → slice_get cs i ≡ Some c → IsLineLeft s (n + i) c w begun_only) → AreLinesLeft s n cs w begun_only
  lines_left n [] each = tt
  lines_left n (c ∷ cs) each = (
    subst (λ j. IsLineLeft s j c w begun_only) (let e : n + 0 ≡ n = omega arith in e) (each 0 c refl),
    lines_left (suc n) cs (λ i d there. subst (λ j. IsLineLeft s j d w begun_only) (let e : n + suc i ≡ suc n + i = omega arith in e) (each (suc i) d there)),
  )

  pub begun_halted : length tasks ≤ length lines → IsOfJobs from (length lines) w × ((h : MovesThenRest w) × AreLinesLeft s from lines w h × IsSectionEmpty (work_of w h))
  begun_halted few = (
    record {
      groups = λ g x y e at. let a = (begun.its.groups g x y e at).0 in let b = (begun.its.groups g x y e at).1 in (a, omega (arith, b, few));
      index = λ x y e at. absurd (no_entry w.index_added x y e begun.none_index at);
    },
    (begun_only, lines_left from lines (λ i c there. let t = its_task i c there (slice_get tasks i) refl in inr (idle_line (from + i) c t.0 t.1)), ((λ g. refl), begun.none_index)),
  )
