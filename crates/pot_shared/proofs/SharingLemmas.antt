-- Passes that were split, and new ones, of the turns of a vault.
use Rattle.std.proofs.Common.{◌≡◌, ◌<◌, ◌+◌, ◌-◌, inl, inr, ℕ, Bool, true, false, List, [], ◌++◌, length, refl, ap, sym, ◌∙◌, subst, arith, append-nil, cond}
use Rattle.std.specs.Prelude.{nat_lt}
use Rattle.std.proofs.lemmas.Bool.{cases_lt}
use Rattle.pot_bytes.specs.declared.rack.Rack.{Rack}
use Rattle.pot_turn.specs.declared.name.TurnName.{TurnName}
use Rattle.pot_turn.specs.declared.view.Stretch.{Stretch}
use Rattle.pot_turn.specs.declared.view.View.{View}
use Rattle.pot_turn.specs.Logs.{longer}
use Rattle.pot_turn.specs.Views.{cut_view, new_view, both_views}
use Rattle.pot_rows.specs.Parts.{RowCut, RowNew, RowJoined}
use Rattle.pot_rows.specs.Rows.{PassRow, AreOf, HasMoreParts, view_at}
use Rattle.pot_rows.proofs.RowLemmas.{at_past}
use Rattle.pot_shared.specs.Ready.{GroupPass, GroupPasses, AreReady, IsOrigin}
use Rattle.pot_shared.specs.Seen.{RowKnowsMore}
use Rattle.pot_shared.specs.Catalogs.{IndexPass, IndexPasses, IsIndexReady, IsIndexOf}
use Rattle.pot_shared.specs.Sharing.{HasAllButKept, SamePasses}

pub more_parts : (row : GroupPasses) → HasAllButKept row → HasMoreParts 1 row
more_parts row h at l = (let p = h at l in omega (arith, p))

pub cut_ready : (rack : Rack) (names : List TurnName) (parts : ℕ) (old new : GroupPasses) → AreReady rack names old → AreOf names new → RowCut parts old new → AreReady rack names new
cut_ready rack names parts old new ready of is = record {
  of = of;
  idle = (λ g. elim (cases_lt g (length names)) [
    | inl lt ↦ ap (λ (v : GroupPass). v.holds) (is g (within g lt)) ∙ ready.idle g
    | inr le ↦ ap (λ (v : GroupPass). v.holds) (at_past names new g of le)
  ]);
  origins = (λ g lt. subst (λ o. IsOrigin rack g o) (sym (ap (λ (v : GroupPass). v.origin) (is g (within g lt)))) (ready.origins g lt));
}
  where
    within : (g : ℕ) → g < length names → g < length old.names
    within g lt = (let l = ap length ready.of.0 in omega (arith, lt, l))

pub new_ready : (rack : Rack) (names : List TurnName) (parts : ℕ) (old new : GroupPasses) → AreReady rack names old → AreOf names new → RowNew parts old new → AreReady rack names new
new_ready rack names parts old new ready of is = record {
  of = of;
  idle = (λ g. elim (cases_lt g (length names)) [
    | inl lt ↦ ap (λ (v : GroupPass). v.holds) (is g (within g lt))
    | inr le ↦ ap (λ (v : GroupPass). v.holds) (at_past names new g of le)
  ]);
  origins = (λ g lt. subst (λ o. IsOrigin rack g o) (sym (ap (λ (v : GroupPass). v.origin) (is g (within g lt)))) (ready.origins g lt));
}
  where
    within : (g : ℕ) → g < length names → g < length old.names
    within g lt = (let l = ap length ready.of.0 in omega (arith, lt, l))

pub new_index_ready : (rack : Rack) (names turn : List TurnName) (parts : ℕ) (old new : IndexPasses) → IsIndexReady rack names turn old → AreOf turn new → RowNew parts old new
    → IsIndexReady rack names turn new
new_index_ready rack names turn parts old new ready of is = record {
  of = of;
  one = ready.one;
  idle = (λ k lt. ap (λ (v : IndexPass). v.holds) (is k (let l = ap length ready.of.0 in omega (arith, lt, l))));
  origin = subst (λ o. IsIndexOf rack names o) (sym (ap (λ (v : IndexPass). v.origin) (is 0 (let l = ap length ready.of.0 in let o = ready.one in omega (arith, l, o))))) ready.origin;
}

longer_self : {X : Type 0} (xs : List X) → longer xs xs ≡ xs
longer_self xs = either (nat_lt (length xs) (length xs))
  where
    either : (b : Bool) → cond b xs xs ≡ xs
    either true = refl
    either false = refl

-- the parts that were given come back
module _ {E O : Type 0} where
  abbrev with_parts : View E O → List E → List Stretch → ℕ → ℕ → View E O
  with_parts v seen joined made parts = record { holds = v.holds; opened = v.opened; seen = seen; turns = v.turns; joined = joined; made = made; parts = parts; origin = v.origin }

  one_back : (n : ℕ) (v : View E O) → n < v.parts → both_views (cut_view n v) (new_view n v) ≡ v
  one_back n v some =
      ap (λ s. with_parts v s (v.joined ++ []) (v.made + 0) ((v.parts - n) + n)) (longer_self v.seen)
      ∙ (ap (λ j. with_parts v v.seen j (v.made + 0) ((v.parts - n) + n)) (append-nil v.joined)
      ∙ (ap (λ m. with_parts v v.seen v.joined m ((v.parts - n) + n)) (let e : v.made + 0 ≡ v.made = omega arith in e)
      ∙ ap (λ p. with_parts v v.seen v.joined v.made p) (let e : (v.parts - n) + n ≡ v.parts = omega (arith, some) in e)))

  pub back_again : (n : ℕ) (names : List TurnName) (old cut kept new : PassRow E O) → AreOf names old → AreOf names cut → AreOf names kept → AreOf names new
      → RowCut n old cut → RowNew n old kept → RowJoined cut kept new → HasMoreParts n old → SamePasses old new
  back_again n names old cut kept new of of_cut of_kept of_new is_cut is_new joined some at = elim (cases_lt at (length names)) [
    | inl lt ↦
        let within : at < length old.names = (let l = ap length of.0 in omega (arith, lt, l)) in
        (joined at).both ∙ (ap (λ (v : View E O). both_views v (view_at kept at)) (is_cut at within) ∙ (ap (λ (w : View E O). both_views (cut_view n (view_at old at)) w) (is_new at within)
        ∙ one_back n (view_at old at) (some at within)))
    | inr le ↦ at_past names new at of_new le ∙ sym (at_past names old at of le)
  ]

-- passes that have seen more can still call
pub knows_ready : (rack : Rack) (names : List TurnName) (old new : GroupPasses) → AreReady rack names old → RowKnowsMore old new → AreReady rack names new
knows_ready rack names old new ready more = record {
  of = of;
  idle = (λ g. elim (cases_lt g (length names)) [
    | inl lt ↦ (more.2 g (within g lt)).holds ∙ ready.idle g
    | inr le ↦ ap (λ (v : GroupPass). v.holds) (at_past names new g of le)
  ]);
  origins = (λ g lt. subst (λ o. IsOrigin rack g o) (sym (more.2 g (within g lt)).origin) (ready.origins g lt));
}
  where
    of : AreOf names new
    of = (more.0 ∙ ready.of.0, more.1 ∙ ready.of.1)

    within : (g : ℕ) → g < length names → g < length old.names
    within g lt = (let l = ap length ready.of.0 in omega (arith, lt, l))
