use Rattle.std.proofs.Common.{◌∷◌, List, ℕ, decimal, refl, sym, ap, ◌∙◌}
use Rattle.pot_client.proofs.FieldLemmas.{same_split}
use Rattle.pot_client.proofs.fields.read_split.Goals as goal

pub returns : goal.returns
returns c =
    let whole = c.in_ok-name.ensures.1 ∙ ap (λ (words : List (List ℕ)). c.in_ok-name.name ∷ words) (c.in_ok-pieces.ensures.1
    ∙ ap (λ (words : List (List ℕ)). decimal c.in_ok-pieces.pieces ∷ words) (c.in_ok-shards.ensures.1 ∙ ap (λ (words : List (List ℕ)). decimal c.in_ok-shards.shards ∷ words) (c.in_ok-end.ensures.0 refl))) in (
      (c.in_ok-name.ensures.0, c.in_ok-pieces.ensures.0, c.in_ok-shards.ensures.0, whole),
      λ s h.
          same_split s.0 c.in_ok-name.name s.1 c.in_ok-pieces.pieces s.2 c.in_ok-shards.shards h.1 c.in_ok-pieces.ensures.0 h.2 c.in_ok-shards.ensures.0 (sym h.3 ∙ whole),
    )
