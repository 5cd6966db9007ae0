-- Points of which no two are one.
use Rattle.std.proofs.Common.{◌≡◌, ◌≢◌, ◌<◌, ◌+◌, ◌++◌, ◌∷◌, [], ℕ, List, get_or, nat_eq, sym, subst, ne_eqb}
use Rattle.std.specs.List.{All, IsDistinct}
use Rattle.std.specs.Cmp.{nat_eq_equiv}
use Rattle.std.proofs.lemmas.List.Folds.{list_any_none}
use Rattle.std.proofs.lemmas.Map.Keys.{IsDistinct-push}

pub none_distinct : (xs : List ℕ) → xs ≡ [] → IsDistinct nat_eq xs
unfolding IsDistinct
none_distinct xs e = subst (IsDistinct nat_eq) (sym e) tt

-- one more, at which none of the others is
pub one_more : (xs ys : List ℕ) (y : ℕ) → IsDistinct nat_eq xs → All (λ x. x ≢ y) xs → ys ≡ xs ++ y ∷ [] → IsDistinct nat_eq ys
one_more xs ys y apart none e =
    subst (IsDistinct nat_eq) (sym e)
    (IsDistinct-push nat_eq_equiv xs y apart (list_any_none (nat_eq y) xs (λ k d lt. ne_eqb y (get_or xs k d) (λ is. none k d lt (sym is)))))
