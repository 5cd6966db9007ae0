use Rattle.std.proofs.Common.{◌∷◌, List, ℕ, decimal, refl, ap, ◌∙◌}
use Rattle.pot_script.proofs.LineLemmas.{no_empty_batch}
use Rattle.pot_script.proofs.lines.together.read_together.Goals as goal

pub returns-then-count-eq0 : goal.returns-then-count-eq0
returns-then-count-eq0 c = λ rack.
    no_empty_batch rack c.args.words c.in_ok-count.count c.if-count-eq0.true
    (c.in_ok-count.ensures.1 ∙ ap (λ (words : List (List ℕ)). decimal c.in_ok-count.count ∷ words) (c.in_ok-end.ensures.0 refl))
