-- Two rows of passes that are tied, turn by turn.
use Rattle.std.proofs.Common.{◌≡◌, ◌≢◌, ℕ, ◌+◌, ◌<◌, ◌≤◌, List, length, refl, ap, sym, ◌∙◌, subst, arith, ⊎_elim}
use Rattle.std.proofs.lemmas.Bool.{cases_lt}
use Rattle.pot_turn.specs.declared.view.View.{View}
use Rattle.pot_turn.specs.declared.name.TurnName.{TurnName}
use Rattle.pot_turn.specs.Views.{spent_view}
use Rattle.pot_turn.proofs.LogLemmas.{starts_self}
use Rattle.pot_worked.specs.WroteOnlyFor.{KnowsMore}
use Rattle.pot_rows.specs.Rows.{PassRow, AreOf, view_at}
use Rattle.pot_rows.specs.Ties.{Tied, TiedAt, RowTied, TiedSofar}
use Rattle.pot_rows.proofs.RowLemmas.{at_set, at_other, at_past, still_of, below_or_at}

module _ {E O : Type 0} where
  pub knows_same : (v : View E O) → KnowsMore v v
  knows_same v = record { holds = refl; opened = refl; turns = refl; joined = refl; made = refl; parts = refl; origin = refl; seen = starts_self v.seen }

  -- passes that know the same are tied
  tied_same : (v : View E O) → Tied v v v v
  tied_same v = record { mine = knows_same v; other = knows_same v; told = starts_self v.seen; heard = starts_self v.seen }

  tied_along : (v w x y v' w' x' y' : View E O) → v' ≡ v → w' ≡ w → x' ≡ x → y' ≡ y → Tied v w x y → Tied v' w' x' y'
  tied_along v w x y v' w' x' y' a b c d tied =
      subst (λ k. Tied k w' x' y') (sym a) (subst (λ k. Tied v k x' y') (sym b) (subst (λ k. Tied v w k y') (sym c) (subst (λ k. Tied v w x k) (sym d) tied)))

module _ {E O : Type 0} (names : List TurnName) (mine others : PassRow E O) where
  pub tied_none : AreOf names mine → AreOf names others → TiedSofar names 0 mine others mine others
  tied_none m o = record { mine_of = m; others_of = o; each = λ at lt. absurd (omega (arith, lt)); rest = λ at le. (refl, refl) }

  pub tied_more : (n : ℕ) (mine1 others1 mine2 others2 : PassRow E O) → n < length names → TiedSofar names n mine others mine1 others1 → TiedAt mine1 others1 n mine2 others2
      → TiedSofar names (n + 1) mine others mine2 others2
  tied_more n mine1 others1 mine2 others2 within sofar step =
      let mlong : n < length mine1.views = omega (arith, within, sofar.mine_of.1) in
      let olong : n < length others1.views = omega (arith, within, sofar.others_of.1) in
      let here = sofar.rest n (omega arith) in
      let m2 : (at : ℕ) → n ≢ at → view_at mine2 at ≡ view_at mine1 at = λ at ne. ap (λ (r : PassRow E O). view_at r at) step.is_mine ∙ at_other mine1 n at step.one ne in
      let o2 : (at : ℕ) → n ≢ at → view_at others2 at ≡ view_at others1 at = λ at ne. ap (λ (r : PassRow E O). view_at r at) step.is_other ∙ at_other others1 n at step.other ne in
      let m2n : view_at mine2 n ≡ step.one = ap (λ (r : PassRow E O). view_at r n) step.is_mine ∙ at_set mine1 n step.one mlong in
      let o2n : view_at others2 n ≡ step.other = ap (λ (r : PassRow E O). view_at r n) step.is_other ∙ at_set others1 n step.other olong in
      let new : Tied (view_at mine n) (view_at others n) (view_at mine2 n) (view_at others2 n) =
      tied_along (view_at mine1 n) (view_at others1 n) step.one step.other _ _ _ _ (sym here.0) (sym here.1) m2n o2n step.tied in
      record {
        mine_of = subst (λ (r : PassRow E O). AreOf names r) (sym step.is_mine) (still_of names mine1 n step.one sofar.mine_of);
        others_of = subst (λ (r : PassRow E O). AreOf names r) (sym step.is_other) (still_of names others1 n step.other sofar.others_of);
        each = λ at lt. ⊎_elim
            (λ (l : at < n).
            let ne : n ≢ at = λ e. omega (arith, e, l) in
            tied_along (view_at mine at) (view_at others at) (view_at mine1 at) (view_at others1 at) _ _ _ _ refl refl (m2 at ne) (o2 at ne) (sofar.each at l))
            (λ (e : n ≡ at). subst (λ i. Tied (view_at mine i) (view_at others i) (view_at mine2 i) (view_at others2 i)) e new)
            (below_or_at n at lt);
        rest = λ at le.
            let ne : n ≢ at = λ e. omega (arith, e, le) in
            let was = sofar.rest at (omega (arith, le)) in
            (m2 at ne ∙ was.0, o2 at ne ∙ was.1);
      }

  -- at the end every place is, and past the last there are spent passes
  pub tied_all : (n : ℕ) (mine' others' : PassRow E O) → length names ≤ n → AreOf names mine → AreOf names others → TiedSofar names n mine others mine' others'
      → RowTied mine others mine' others'
  tied_all n mine' others' le m o sofar at = ⊎_elim
      (λ (l : at < n). sofar.each at l)
      (λ (p : n ≤ at).
      let was = sofar.rest at p in
      let past : length names ≤ at = omega (arith, le, p) in
      let mp = at_past names mine at m past in
      let op = at_past names others at o past in
      tied_along spent_view spent_view spent_view spent_view _ _ _ _ mp op (was.0 ∙ mp) (was.1 ∙ op) (tied_same spent_view))
      (cases_lt at n)
