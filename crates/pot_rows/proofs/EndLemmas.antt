-- How a row of turns begins and ends, value by value.
use Rattle.std.proofs.Common.{◌≡◌, ℕ, suc, ◌+◌, ◌^◌, ◌<◌, false, List, [], ◌∷◌, ◌++◌, length, drop, ap, sym, ◌∙◌, subst, arith, ⊎_elim, length-append, append_assoc}
use Rattle.std.specs.Prelude.{map, reverse, slice_get, Some}
use Rattle.std.proofs.lemmas.List.{map-append, reverse-append, reverse-reverse, append-nil}
use Rattle.std.proofs.lemmas.Simd.{map-map}
use Rattle.std.proofs.lemmas.Option.{get_or_from_slice_get, slice_get_within, same_Some}
use Rattle.pot_turn.specs.declared.view.View.{View}
use Rattle.pot_turn.specs.declared.name.TurnName.{TurnName}
use Rattle.pot_turn.specs.Views.{spent_view, stretches_of}
use Rattle.pot_turn.proofs.LogLemmas.{get_front, get_back}
use Rattle.pot_rows.specs.Rows.{PassRow, view_at, IsIdle}
use Rattle.pot_rows.specs.Ends.{HasAllParts, IsUntouched, Closed, RowClosed, CloseSofar}
use Rattle.pot_rows.proofs.Lists.{drop_next, snoc_same}
use Rattle.pot_rows.proofs.RowLemmas.{below_or_at}

module _ {T E O : Type 0} (log_of : T → List E) (origin_of : T → O) (row : PassRow E O) where
  module _ (n : ℕ) (turns : List TurnName) (left : PassRow E O) (values : List T) (sofar : CloseSofar log_of origin_of row n turns left values) where
    -- what the pass knows that comes next
    pub next_is : (v : View E O) (rest : List (View E O)) → left.views ≡ v ∷ rest → view_at row (length values) ≡ v
    next_is v rest is = get_or_from_slice_get row.views (length values) v spent_view (drop_next row.views (length values) v rest (sym sofar.left_views ∙ is)).0

    next_within : (name : TurnName) (rest : List TurnName) → left.names ≡ name ∷ rest → length values < length row.names
    next_within name rest is = slice_get_within row.names (length values) name (drop_next row.names (length values) name rest (sym sofar.left_names ∙ is)).0

    pub next_idle : (name : TurnName) (names : List TurnName) (v : View E O) (rest : List (View E O)) → left.names ≡ name ∷ names → left.views ≡ v ∷ rest → IsIdle row → v.holds ≡ false
    next_idle name names v rest named is idle = sym (ap (λ (w : View E O). w.holds) (next_is v rest is)) ∙ idle (length values) (next_within name names named)

    pub next_all : (name : TurnName) (names : List TurnName) (v : View E O) (rest : List (View E O)) → left.names ≡ name ∷ names → left.views ≡ v ∷ rest → HasAllParts row → v.parts ≡ 2 ^ 62
    next_all name names v rest named is all = sym (ap (λ (w : View E O). w.parts) (next_is v rest is)) ∙ all (length values) (next_within name names named)

    pub next_untouched : (name : TurnName) (names : List TurnName) (v : View E O) (rest : List (View E O)) → left.names ≡ name ∷ names → left.views ≡ v ∷ rest → IsUntouched row → stretches_of v ≡ []
    next_untouched name names v rest named is untouched = sym (ap stretches_of (next_is v rest is)) ∙ untouched (length values) (next_within name names named)

    pub close_more : (m : ℕ) (turns2 : List TurnName) (left2 : PassRow E O) (values2 : List T) (x : T) (turn name : TurnName) (v : View E O)
        → m + 1 ≡ n → turns ≡ turn ∷ turns2 → left.names ≡ name ∷ left2.names → left.views ≡ v ∷ left2.views → values2 ≡ values ++ x ∷ [] → Closed (log_of x) (origin_of x) v
        → CloseSofar log_of origin_of row m turns2 left2 values2
    close_more m turns2 left2 values2 x turn name v fewer its_turn its_name its_view is closed =
        let count = sofar.count in
        let more : length values2 ≡ suc (length values) = (let long = ap length is ∙ length-append values (x ∷ []) in omega (arith, long)) in
        let here : Closed (log_of x) (origin_of x) (view_at row (length values)) = subst (λ w. Closed (log_of x) (origin_of x) w) (sym (next_is v left2.views its_view)) closed in
        record {
          count = omega (arith, count, more, fewer);
          left_turns = sym (drop_next row.names (length values) turn turns2 (sym sofar.left_turns ∙ its_turn)).1 ∙ ap (λ k. drop k row.names) (sym more);
          left_names = sym (drop_next row.names (length values) name left2.names (sym sofar.left_names ∙ its_name)).1 ∙ ap (λ k. drop k row.names) (sym more);
          left_views = sym (drop_next row.views (length values) v left2.views (sym sofar.left_views ∙ its_view)).1 ∙ ap (λ k. drop k row.views) (sym more);
          each = λ at y e.
              let there : slice_get (values ++ x ∷ []) at ≡ Some y = sym (ap (λ vs. slice_get vs at) is) ∙ e in
              let within = slice_get_within values2 at y e in
              ⊎_elim
              (λ (l : at < length values). sofar.each at y (sym (get_front values (x ∷ []) at l) ∙ there))
              (λ (same : length values ≡ at).
              let last : length values + 0 ≡ at = omega (arith, same) in
              let it : x ≡ y = same_Some x y (sym (get_back values (x ∷ []) 0) ∙ (ap (slice_get (values ++ x ∷ [])) last ∙ there)) in
              subst (λ k. Closed (log_of y) (origin_of y) (view_at row k)) same (subst (λ z. Closed (log_of z) (origin_of z) (view_at row (length values))) it here))
              (below_or_at (length values) at (omega (arith, within, more)));
        }

    pub close_all : n ≡ 0 → RowClosed log_of origin_of row values
    close_all none = record { count = let count = sofar.count in omega (arith, count, none); each = sofar.each }

-- Turns that no pass entered are unmade from the last to the first
module _ {A P N V T : Type 0} (name : A → N) (its : P → N) (know : P → V) (first : A → V) (made : A → T)
    (ts rest : List A) (t : A) (ps left : List P) (p : P) (turns : ts ≡ rest ++ t ∷ []) (passes : ps ≡ left ++ p ∷ [])
    (names : map its ps ≡ map name ts) (views : map know ps ≡ map first ts) where
  both_names : (map its left ≡ map name rest) × (its p ≡ name t)
  both_names = snoc_same (map its left) (map name rest) (its p) (name t)
      (sym (map-append its left (p ∷ [])) ∙ (sym (ap (map its) passes) ∙ (names ∙ (ap (map name) turns ∙ map-append name rest (t ∷ [])))))

  both_views : (map know left ≡ map first rest) × (know p ≡ first t)
  both_views = snoc_same (map know left) (map first rest) (know p) (first t)
      (sym (map-append know left (p ∷ [])) ∙ (sym (ap (map know) passes) ∙ (views ∙ (ap (map first) turns ∙ map-append first rest (t ∷ [])))))

  pub first_left : (map its left ≡ map name rest) × (map know left ≡ map first rest)
  first_left = (both_names.0, both_views.0)

  pub last_knows : know p ≡ first t
  last_knows = both_views.1

  pub back_more : (values values2 start : List T) (x : T) → values2 ≡ values ++ x ∷ [] → x ≡ made t → values ++ reverse (map made ts) ≡ start → values2 ++ reverse (map made rest) ≡ start
  back_more values values2 start x is same sofar =
      let order : reverse (map made ts) ≡ made t ∷ reverse (map made rest) =
      ap (λ xs. reverse (map made xs)) turns ∙ (ap reverse (map-append made rest (t ∷ [])) ∙ reverse-append (map made rest) (made t ∷ [])) in
      ap (λ vs. vs ++ reverse (map made rest)) is
      ∙ (append_assoc values (x ∷ []) (reverse (map made rest))
      ∙ (ap (λ y. values ++ (y ∷ reverse (map made rest))) same ∙ (ap (λ vs. values ++ vs) (sym order) ∙ sofar)))

-- one value more that its turn was made with
pub made_more : {A T : Type 0} (made : A → T) (turns rest : List A) (t : A) (values values2 start : List T) (x : T) → turns ≡ t ∷ rest → values2 ≡ values ++ x ∷ [] → x ≡ made t → values ++ map made turns ≡ start
    → values2 ++ map made rest ≡ start
made_more made turns rest t values values2 start x split is same sofar =
    ap (λ vs. vs ++ map made rest) is
    ∙ (append_assoc values (x ∷ []) (map made rest)
    ∙ (ap (λ y. values ++ (y ∷ map made rest)) same ∙ (ap (λ ts. values ++ map made ts) (sym split) ∙ sofar)))

-- where all values have turns, these were made with them in order
pub all_made : {A T : Type 0} (made : A → T) (ts : List A) (values turned left : List T) → turned ≡ reverse values → reverse turned ≡ map made ts ++ reverse left → left ≡ [] → map made ts ≡ values
all_made made ts values turned left turn order none =
    sym (append-nil (map made ts)) ∙ (ap (λ l. map made ts ++ reverse l) (sym none) ∙ (sym order ∙ (ap reverse turn ∙ reverse-reverse values)))

-- and what was made with them in order is what they were
pub first_made : {A P V T : Type 0} (know : P → V) (made : A → T) (of : T → V) (ps : List P) (ts : List A) (values turned left : List T)
    → map know ps ≡ map (λ a. of (made a)) ts → turned ≡ reverse values → reverse turned ≡ map made ts ++ reverse left → left ≡ [] → map know ps ≡ map of values
first_made know made of ps ts values turned left knows turn order none =
    knows ∙ (sym (map-map of made ts) ∙ ap (map of) (all_made made ts values turned left turn order none))
