use Rattle.std.proofs.Common.{◌≡◌, ℕ, List, [], ◌∷◌}
use Rattle.pot_client.specs.ReplyTexts.{IsReplyLineOf}
use Rattle.pot_client.specs.declared.kind.ReplyKind.TheVariants as kinds
use Rattle.pot_client.proofs.KindLemmas.{only_group}
use Rattle.pot_client.proofs.groups.read_group.Goals as goal

-- behind nine words stands the tenth
tenth : (words w1 w2 w3 w4 w5 : List (List ℕ)) (g u l v o w b x s g' u' l' v' o' w' b' x' s' n : List ℕ)
    → words ≡ g ∷ w1 → w1 ≡ u ∷ l ∷ w2 → w2 ≡ v ∷ o ∷ w3 → w3 ≡ w ∷ b ∷ w4 → w4 ≡ x ∷ s ∷ w5
    → words ≡ g' ∷ u' ∷ l' ∷ v' ∷ o' ∷ w' ∷ b' ∷ x' ∷ s' ∷ n ∷ [] → w5 ≡ n ∷ []
tenth words w1 w2 w3 w4 w5 g u l v o w b x s g' u' l' v' o' w' b' x' s' n one two three four five all = cc

pub returns-in_err-column : goal.returns-in_err-column
returns-in_err-column c =
    rw c.from_residual-in_err-column.ensures (λ r at.
    only_group (λ d. IsReplyLineOf kinds.Group c.args.words d → ⊥) (λ g l o b s n is.
    c.in_err-column.ensures n [] is.is.5
    (tenth _ _ _ _ _ _ _ _ _ _ _ _ _ _ _ _ _ _ _ _ _ _ _ _ _ c.in_ok-group.ensures.1 c.in_ok-live.ensures.1 c.in_ok-lost.ensures.1 c.in_ok-broken.ensures.1 c.in_ok-stripe.ensures.1 is.words_are)) r at.kind_is at)
