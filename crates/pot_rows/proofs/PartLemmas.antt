-- A row that is split, and a row that takes in another, turn by turn.
use Rattle.std.proofs.Common.{◌≡◌, ◌≢◌, ℕ, suc, ◌+◌, ◌<◌, ◌≤◌, List, [], ◌∷◌, ◌++◌, length, take, drop, refl, ap, sym, ◌∙◌, subst, arith, ⊎_elim, length-append}
use Rattle.std.specs.Prelude.{slice_get, Some}
use Rattle.std.proofs.lemmas.Option.{get_or_from_slice_get}
use Rattle.std.proofs.lemmas.Bool.{cases_lt}
use Rattle.pot_turn.specs.declared.view.View.{View}
use Rattle.pot_turn.specs.declared.name.TurnName.{TurnName}
use Rattle.pot_turn.specs.Views.{spent_view, cut_view, new_view}
use Rattle.pot_turn.proofs.LogLemmas.{starts_self}
use Rattle.pot_rows.specs.Rows.{PassRow, AreOf, view_at, with_view}
use Rattle.pot_rows.specs.Parts.{SplitSofar, Joined, JoinedAt, RowJoined, JoinSofar}
use Rattle.pot_rows.proofs.Lists.{drop_next, take_next, get_or_front, get_or_last}
use Rattle.pot_rows.proofs.RowLemmas.{at_set, at_other, at_past, still_of, below_or_at}

one_more : (n : ℕ) → n + 1 ≡ suc n
one_more n = omega arith

module _ {E O : Type 0} (names : List TurnName) (old : PassRow E O) where
  module _ (n : ℕ) (within : n < length names) (new1 new2 : PassRow E O) (new_of : AreOf names new1) (v : View E O) (is : new2 ≡ with_view new1 n v) where
    here_new : view_at new2 n ≡ v
    here_new = ap (λ (r : PassRow E O). view_at r n) is ∙ at_set new1 n v (omega (arith, within, new_of.1))

    else_new : (at : ℕ) → n ≢ at → view_at new2 at ≡ view_at new1 at
    else_new at ne = ap (λ (r : PassRow E O). view_at r at) is ∙ at_other new1 n at v ne

    of_new : AreOf names new2
    of_new = subst (λ (r : PassRow E O). AreOf names r) (sym is) (still_of names new1 n v new_of)

  pub split_more : (n parts : ℕ) (new1 part1 new2 part2 : PassRow E O) (name : TurnName) (v : View E O) → n < length names → SplitSofar names n parts old new1 part1
      → new2 ≡ with_view new1 n (cut_view parts (view_at new1 n)) → Some name ≡ slice_get names n → v ≡ new_view parts (view_at new1 n)
      → part2.names ≡ part1.names ++ name ∷ [] → part2.views ≡ part1.views ++ v ∷ [] → SplitSofar names (n + 1) parts old new2 part2
  split_more n parts new1 part1 new2 part2 name v within sofar is its_name its_view names2 views2 =
      let cut : View E O = cut_view parts (view_at new1 n) in
      let here : view_at new1 n ≡ view_at old n = sofar.rest n (omega arith) in
      let long = sofar.part_long in
      let last : view_at part2 n ≡ v =
      ap (λ vs. view_at (record { names = part2.names; views = vs }) n) views2
      ∙ (ap (λ k. view_at (record { names = part2.names; views = part1.views ++ v ∷ [] }) k) (sym long) ∙ get_or_last part1.views v spent_view) in
      record {
        new_of = of_new n within new1 new2 sofar.new_of cut is;
        part_names = names2 ∙ (ap (λ ns. ns ++ name ∷ []) sofar.part_names ∙ (sym (take_next names n name (sym its_name)) ∙ ap (λ k. take k names) (sym (one_more n))));
        part_long = let more = ap length views2 ∙ length-append part1.views (v ∷ []) in omega (arith, more, long);
        left = λ at lt. ⊎_elim
            (λ (l : at < n). else_new n within new1 new2 sofar.new_of cut is at (λ e. omega (arith, e, l)) ∙ sofar.left at l)
            (λ (e : n ≡ at). subst (λ k. view_at new2 k ≡ cut_view parts (view_at old k)) e (here_new n within new1 new2 sofar.new_of cut is ∙ ap (cut_view parts) here))
            (below_or_at n at lt);
        given = λ at lt. ⊎_elim
            (λ (l : at < n).
            ap (λ vs. view_at (record { names = part2.names; views = vs }) at) views2 ∙ (get_or_front part1.views (v ∷ []) at spent_view (omega (arith, l, long)) ∙ sofar.given at l))
            (λ (e : n ≡ at). subst (λ k. view_at part2 k ≡ new_view parts (view_at old k)) e (last ∙ (its_view ∙ ap (new_view parts) here)))
            (below_or_at n at lt);
        rest = λ at le. else_new n within new1 new2 sofar.new_of cut is at (λ e. omega (arith, e, le)) ∙ sofar.rest at (omega (arith, le));
      }

  module _ (other : PassRow E O) where
    -- the pass that comes next is that of the next turn
    pub next_of : (n : ℕ) (new left : PassRow E O) (name : TurnName) (rest : List TurnName) → JoinSofar names n old other new left → left.names ≡ name ∷ rest → Some name ≡ slice_get names n
    next_of n new left name rest sofar is = sym (drop_next names n name rest (sym sofar.left_names ∙ is)).0

    pub next_knows : (n : ℕ) (new left : PassRow E O) (v : View E O) (rest : List (View E O)) → JoinSofar names n old other new left → left.views ≡ v ∷ rest → view_at other n ≡ v
    next_knows n new left v rest sofar is = get_or_from_slice_get other.views n v spent_view (drop_next other.views n v rest (sym sofar.left_views ∙ is)).0

    pub join_more : (n : ℕ) (new1 left1 new2 left2 : PassRow E O) (name : TurnName) (v : View E O) → n < length names → JoinSofar names n old other new1 left1
        → left1.names ≡ name ∷ left2.names → left1.views ≡ v ∷ left2.views → JoinedAt new1 n v new2 → JoinSofar names (n + 1) old other new2 left2
    join_more n new1 left1 new2 left2 name v within sofar its_names its_views step =
        let same : (at : ℕ) → n ≢ at → view_at new2 at ≡ view_at new1 at = else_new n within new1 new2 sofar.new_of step.one step.is in
        let here : view_at new1 n ≡ view_at old n = sofar.rest n (omega arith) in
        let its : view_at other n ≡ v = next_knows n new1 left1 v left2.views sofar its_views in
        let now : view_at new2 n ≡ step.one = here_new n within new1 new2 sofar.new_of step.one step.is in
        let joined : Joined (view_at old n) (view_at other n) (view_at new2 n) =
        subst (λ k. Joined (view_at old n) (view_at other n) k) (sym now) (subst (λ k. Joined (view_at old n) k step.one) (sym its) (subst (λ k. Joined k v step.one) here step.joined)) in
        record {
          new_of = of_new n within new1 new2 sofar.new_of step.one step.is;
          left_names = sym (drop_next names n name left2.names (sym sofar.left_names ∙ its_names)).1 ∙ ap (λ k. drop k names) (sym (one_more n));
          left_views = sym (drop_next other.views n v left2.views (sym sofar.left_views ∙ its_views)).1 ∙ ap (λ k. drop k other.views) (sym (one_more n));
          each = λ at lt. ⊎_elim
              (λ (l : at < n). subst (λ k. Joined (view_at old at) (view_at other at) k) (sym (same at (λ e. omega (arith, e, l)))) (sofar.each at l))
              (λ (e : n ≡ at). subst (λ k. Joined (view_at old k) (view_at other k) (view_at new2 k)) e joined)
              (below_or_at n at lt);
          rest = λ at le. same at (λ e. omega (arith, e, le)) ∙ sofar.rest at (omega (arith, le));
        }

    -- spent passes know nothing, and so does their join
    joined_spent : Joined {E = E} {O = O} spent_view spent_view spent_view
    joined_spent = record { both = refl; begins = starts_self []; its_begins = starts_self []; opened = refl; origin = refl; apart = λ i. omega arith }

    pub join_all : (n : ℕ) (new left : PassRow E O) → length names ≤ n → AreOf names old → AreOf names other → JoinSofar names n old other new left → RowJoined old other new
    join_all n new left le mine its sofar at = ⊎_elim
        (λ (l : at < n). sofar.each at l)
        (λ (p : n ≤ at).
        let past : length names ≤ at = omega (arith, le, p) in
        let op = at_past names old at mine past in
        let ip = at_past names other at its past in
        subst (λ k. Joined k (view_at other at) (view_at new at)) (sym op)
        (subst (λ k. Joined spent_view k (view_at new at)) (sym ip)
        (subst (λ k. Joined spent_view spent_view k) (sym (sofar.rest at p ∙ op)) joined_spent)))
        (cases_lt at n)
