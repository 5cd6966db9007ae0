-- What a seat of the table is while its pass is idle, and while it has the value.
use Rattle.std.proofs.Common.{◌≡◌, ℕ, ◌<◌, Bool, true, false, List, [], ◌∷◌, sym, refl, ap, ◌∙◌, subst}
use Rattle.std.specs.Prelude.{Option, None, if◌then◌else◌}
use Rattle.atomic_table.specs.Table.{Me}
use Rattle.pot_turn.specs.declared.view.Sight.{Sight}
use Rattle.pot_turn.specs.Views.{IsPass}
use Rattle.pot_turn.specs.Rules.{slots_of}

abbrev pub bit : Bool → ℕ
bit b = if b then 1 else 0

-- the pass is not spent, and holds nothing
abbrev pub IsIdle : {T E O : Type 0} → Me T (Sight E O) → Type 0
IsIdle m = (m.0.view.holds ≡ false) × (0 < m.0.view.parts) × (m.1 ≡ [])

-- the pass has the value, which is out of the slot
abbrev pub IsHolder : {T E O : Type 0} → Me (Option T) (Sight E O) → Type 0
IsHolder m = (m.0.view.holds ≡ true) × (0 < m.0.view.parts) × (m.1 ≡ (0, None) ∷ [])

module _ {T E O : Type 0} (m : Me (Option T) (Sight E O)) where
  pub is_idle : m.1 ≡ slots_of m.0.view.holds → IsPass m.0.view → m.0.view.holds ≡ false → IsIdle m
  is_idle slots is h = (h, is.some, slots ∙ ap (λ b. slots_of b) h)

  pub is_holder : m.1 ≡ slots_of m.0.view.holds → IsPass m.0.view → m.0.view.holds ≡ true → IsHolder m
  is_holder slots is h = (h, is.some, slots ∙ ap (λ b. slots_of b) h)

  -- the facts of the pass, where the seat has become this one
  pub slots_at : (s : Sight E O) → m ≡ (s, slots_of s.view.holds) → m.1 ≡ slots_of m.0.view.holds
  slots_at s e = subst (λ (k : Me (Option T) (Sight E O)). k.1 ≡ slots_of k.0.view.holds) (sym e) refl

  pub slots_out : (s : Sight E O) (c : List (ℕ × Option T)) → m ≡ (s, c) → c ≡ [] → m.1 ≡ []
  slots_out s c e out = ap (λ (k : Me (Option T) (Sight E O)). k.1) e ∙ out

  pub pass_at : (s : Sight E O) (c : List (ℕ × Option T)) → m ≡ (s, c) → IsPass s.view → IsPass m.0.view
  pass_at s c e is = subst (λ (k : Me (Option T) (Sight E O)). IsPass k.0.view) (sym e) is
