use Rattle.std.proofs.Common.{[], ◌∷◌, ◌++◌, ◌∙◌, List, ℕ, ap, sym, arith}
use Rattle.std.proofs.lemmas.List.FromFn.{map-range_with_len_more}
use Rattle.pot_chains.proofs.levels.singles.Goals as goal

pub loop-position-preserved : goal.loop-position-preserved
loop-position-preserved c =
    let p = c.loop-position.position in
    c.in_ok-push_one.ensures.ok
    ∙ (ap (λ (x : List ℕ). c.loop-position.found.items ++ x ∷ []) c.new.ensures
    ∙ (ap (λ (xs : List (List ℕ)). xs ++ (p ∷ []) ∷ []) c.loop-position.invariant ∙ sym (map-range_with_len_more (λ (q : ℕ). q ∷ []) 0 p p (omega arith))))
