-- What is true of every pass is true of each of a row.
use Rattle.std.proofs.Common.{◌≡◌, ℕ, zero, suc, ◌<◌, List, [], ◌∷◌, length, ap, sym, ◌∙◌, subst, arith, get_or}
use Rattle.std.specs.Prelude.{map}
use Rattle.std.proofs.lemmas.List.{length-map}
use Rattle.pot_turn.specs.declared.Kept.{Ghosts}
use Rattle.pot_turn.specs.declared.turning.Pass.{Pass}
use Rattle.pot_turn.specs.Passes.{view, turn_of}
use Rattle.pot_turn.specs.Views.{IsPass, spent_view}
use Rattle.pot_rows.specs.Rows.{PassRow, view_at}

module _ {T E O : Type 0} {g : Ghosts T E O} where
  known_at : (ps : List (Pass T E O g)) (at : ℕ) → at < length ps → IsPass (get_or (map view ps) at spent_view)
  known_at [] at lt = absurd (omega (arith, lt))
  known_at (p ∷ ps) zero lt = p.known
  known_at (p ∷ ps) (suc at) lt = known_at ps at (omega (arith, lt))

  module _ (ps : List (Pass T E O g)) (row : PassRow E O) (is : record { names = map turn_of ps; views = map view ps } ≡ row) where
    long : length row.names ≡ length ps
    long = ap (λ (r : PassRow E O). length r.names) (sym is) ∙ length-map ps turn_of

    pub as_long : length row.views ≡ length row.names
    as_long = ap (λ (r : PassRow E O). length r.views) (sym is) ∙ (length-map ps view ∙ sym long)

    pub all_known : (at : ℕ) → at < length row.names → IsPass (view_at row at)
    all_known at lt = subst (λ (r : PassRow E O). IsPass (view_at r at)) is (known_at ps at (omega (arith, lt, long)))
