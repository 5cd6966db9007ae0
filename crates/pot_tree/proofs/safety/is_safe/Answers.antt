use Rattle.std.proofs.Common.{◌≡◌, ◌∙◌, ℕ, Bool, List, map, ap, subst, length, Bor, arith}
use Rattle.std.specs.Prelude.{◌↔◌, All, IsTrue}
use Rattle.std.proofs.lemmas.List.{get_or-map, length-map}
use Rattle.std.proofs.lemmas.List.Elements.{All-map}
use Rattle.pot_tree.specs.Entries.{IsSafePart}
use Rattle.pot_tree.proofs.safety.is_safe.Goals as goal

-- each part is one of the words
unmapped : (parts : List (Bor (List ℕ))) → All IsSafePart (map (λ p. p.now) parts) → All (λ p. IsSafePart p.now) parts
unmapped parts h = λ k d lt. subst IsSafePart (get_or-map (λ p. p.now) parts k d d.now lt) (h k d.now (omega (arith, lt, length-map parts (λ (p : Bor (List ℕ)). p.now))))

told : (b : Bool) (parts : List (Bor (List ℕ))) (words : List (List ℕ)) → map (λ p. p.now) parts ≡ words → IsTrue b ↔ All (λ p. IsSafePart p.now) parts → IsTrue b ↔ All IsSafePart words
told b parts words e h =
    subst (λ (ws : List (List ℕ)). IsTrue b ↔ All IsSafePart ws) e
    (λ t. All-map IsSafePart (λ p. p.now) parts (h.0 t), λ a. h.1 (unmapped parts a))

pub returns : goal.returns
returns c = told c.are_safe.result c.deref.result.now _ (ap (map (λ p. p.now)) c.deref.ensures.value ∙ c.in_ok-parts.ensures) c.are_safe.ensures
