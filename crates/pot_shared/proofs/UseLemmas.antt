-- Groups that are asked one after another.
use Rattle.std.proofs.Common.{◌≡◌, ◌≢◌, ◌<◌, ◌+◌, ◌⊎◌, inl, inr, ℕ, zero, suc, List, [], ◌∷◌, ◌++◌, length, length-append, refl, ap, sym, ◌∙◌, subst, arith, replicate}
use Rattle.std.specs.Prelude.{Option, None, Some, slice_get, ◌||◌, true, false, Bool}
use Rattle.std.specs.List.{list_any}
use Rattle.std.specs.Option.{option_or}
use Rattle.std.proofs.lemmas.Option.{same_Some}
use Rattle.std.proofs.lemmas.List.{length-replicate, replicate_more}
use Rattle.std.proofs.lemmas.List.Folds.{list_any-append}
use Rattle.pot_machine.specs.declared.entry.Entry.{Entry}
use Rattle.pot_group.specs.declared.uses.HomeAt.{HomeAt}
use Rattle.pot_group.specs.declared.uses.Trace.{Trace}
use Rattle.pot_group.specs.declared.uses.Use.{Use}
use Rattle.pot_group.specs.Group.{GroupView}
use Rattle.pot_turn.specs.declared.name.TurnName.{TurnName}
use Rattle.pot_rows.specs.Rows.{AreOf, view_at, with_view}
use Rattle.pot_rows.proofs.RowLemmas.{at_set, at_other}
use Rattle.pot_shared.specs.Ready.{GroupPasses}
use Rattle.pot_shared.specs.Calls.{CallAt, CallTurn}
use Rattle.pot_shared.specs.UseCalls.{AsksEach, FindsUse, TraceCall, TracesAll, UseCall, first_home}

last_or_front : {X : Type 0} (xs : List X) (x y : X) (g : ℕ) → slice_get (xs ++ x ∷ []) g ≡ Some y → ((g < length xs) × (slice_get xs g ≡ Some y)) ⊎ ((g ≡ length xs) × (x ≡ y))
last_or_front [] x y zero e = inr (refl, same_Some x y e)
last_or_front [] x y (suc g) e = absurd (cc e)
last_or_front (z ∷ xs) x y zero e = inl (omega arith, e)
last_or_front (z ∷ xs) x y (suc g) e = elim (last_or_front xs x y g e) [
  | inl h ↦ (let l = h.0 in inl (omega (arith, l), h.1))
  | inr h ↦ (let l = h.0 in inr (omega (arith, l), h.1))
]

apart : (g n : ℕ) → g < n → n ≢ g
apart g n lt e = omega (arith, lt, e)

module _ {X : Type 0} (told : Type 0) (R : X → GroupView → GroupView → List Entry → Type 0) where
  pub asks_none : (row : GroupPasses) → AsksEach told R [] row row
  asks_none row = record { each = (λ g x e. absurd (cc e)); rest = (λ g le. refl) }

  pub asks_more : (answers : List X) (x : X) (old mid new : GroupPasses) → length answers < length mid.views → AsksEach told R answers old mid → CallAt told (R x) (length answers) mid new
      → AsksEach told R (answers ++ x ∷ []) old new
  asks_more answers x old mid new within asked call = record {
    each = (λ g y e. subst (λ (r : GroupPasses). CallTurn told (R y) (view_at old g) (view_at r g)) (sym call.is) (elim (last_or_front answers x y g e) [
      | inl h ↦ subst (λ v. CallTurn told (R y) (view_at old g) v) (sym (at_other mid (length answers) g call.pass (apart g (length answers) h.0))) (asked.each g y h.1)
      | inr h ↦
          subst (λ n. CallTurn told (R y) (view_at old n) (view_at (with_view mid (length answers) call.pass) n)) (sym h.0)
          (subst (λ z. CallTurn told (R z) (view_at old (length answers)) (view_at (with_view mid (length answers) call.pass) (length answers))) h.1
          (subst (λ v. CallTurn told (R x) (view_at old (length answers)) v) (sym (at_set mid (length answers) call.pass within))
          (subst (λ v. CallTurn told (R x) v call.pass) (asked.rest (length answers) (omega arith)) call.turn)))
    ]));
    rest = (λ g le. (let l = length-append answers (x ∷ []) in subst (λ (r : GroupPasses). view_at r g ≡ view_at old g) (sym call.is)
        (at_other mid (length answers) g call.pass (λ e. omega (arith, le, l, e)) ∙ asked.rest g (omega (arith, le, l)))));
  }

-- A USE

module _ (told : Type 0) (number : ℕ) (names : List TurnName) (old mid new : GroupPasses) (at : ℕ) (of : AreOf names mid) (within : at < length names)
    (asked : AsksEach told (UseCall number) (replicate at None) old mid) where
  asked_at : (answer : Option Use) → CallAt told (UseCall number answer) at mid new → AsksEach told (UseCall number) (replicate at None ++ answer ∷ []) old new
  asked_at answer call =
      let l = length-replicate at None in
      let long = of.1 in
      asks_more told (UseCall number) (replicate at None) answer old mid new (omega (arith, within, long, l)) asked
      (subst (λ n. CallAt told (UseCall number answer) n mid new) (sym l) call)

  pub none_there : CallAt told (UseCall number None) at mid new → AsksEach told (UseCall number) (replicate (at + 1) None) old new
  none_there call = subst (λ answers. AsksEach told (UseCall number) answers old new) (replicate_more at None) (asked_at None call)

  pub found_there : (u : Use) → CallAt told (UseCall number (Some u)) at mid new → FindsUse told (length names) number (Some u) old new
  found_there u call = (at, within, asked_at (Some u) call)

-- A TRACE

-- what is told so far
pub record Traced (told : Type 0) (from to at : ℕ) (home : Option HomeAt) (taken : Bool) (old now : GroupPasses) : Type 0 where
  pub answers : List Trace
  pub count : length answers ≡ at
  pub asked : AsksEach told (TraceCall from to) answers old now
  pub home_is : home ≡ first_home answers
  pub taken_is : taken ≡ list_any (λ t. t.taken) answers

pub traced_none : (told : Type 0) (from to : ℕ) (row : GroupPasses) → Traced told from to 0 None false row row
traced_none told from to row = record { answers = []; count = refl; asked = asks_none told (TraceCall from to) row; home_is = refl; taken_is = refl }

or_none : (o : Option HomeAt) → o ≡ option_or o None
or_none None = refl
or_none (Some h) = refl

or_or : (a b c : Option HomeAt) → option_or a (option_or b c) ≡ option_or (option_or a b) c
or_or None b c = refl
or_or (Some h) b c = refl

home_more : (answers : List Trace) (t : Trace) → option_or (first_home answers) t.home ≡ first_home (answers ++ t ∷ [])
home_more [] t = or_none t.home
home_more (s ∷ answers) t = sym (or_or s.home (first_home answers) t.home) ∙ ap (λ o. option_or s.home o) (home_more answers t)

or_false : (b : Bool) → (b || false) ≡ b
or_false true = refl
or_false false = refl

pub traced_more : (told : Type 0) (from to at : ℕ) (home home1 : Option HomeAt) (taken taken1 : Bool) (names : List TurnName) (old mid new : GroupPasses) (t : Trace)
    → AreOf names mid → at < length names → Traced told from to at home taken old mid → CallAt told (TraceCall from to t) at mid new
    → home1 ≡ option_or home t.home → taken1 ≡ (taken || t.taken) → Traced told from to (at + 1) home1 taken1 old new
traced_more told from to at home home1 taken taken1 names old mid new t of within sofar call home_is taken_is = record {
  answers = sofar.answers ++ t ∷ [];
  count = (let l = length-append sofar.answers (t ∷ []) in let c = sofar.count in omega (arith, l, c));
  asked = (let long = of.1 in let c = sofar.count in asks_more told (TraceCall from to) sofar.answers t old mid new (omega (arith, within, long, c)) sofar.asked
      (subst (λ n. CallAt told (TraceCall from to t) n mid new) (sym c) call));
  home_is = home_is ∙ (ap (λ o. option_or o t.home) sofar.home_is ∙ home_more sofar.answers t);
  taken_is = taken_is ∙ sym (list_any-append (λ (s : Trace). s.taken) sofar.answers (t ∷ [])
      ∙ (ap (λ b. list_any (λ (s : Trace). s.taken) sofar.answers || b) (or_false t.taken) ∙ ap (λ b. b || t.taken) (sym sofar.taken_is)));
}

pub traces_all : (told : Type 0) (from to n : ℕ) (home : Option HomeAt) (taken : Bool) (old new : GroupPasses) → Traced told from to n home taken old new
    → TracesAll told n from to (record { home = home; taken = taken }) old new
traces_all told from to n home taken old new sofar =
    record { answers = sofar.answers; count = sofar.count; asked = sofar.asked; home = sofar.home_is; taken = sofar.taken_is }
