use Rattle.std.proofs.Common.{◌∙◌, ℕ, List, min, map, ap, eq-eqb, get_or}
use Rattle.pot_chains.specs.Picks.{how_many}
use Rattle.pot_recover.specs.Choices.{items_of}
use Rattle.pot_recover.proofs.ObjectLemmas.{picks_few}
use Rattle.pot_recover.proofs.choices.choices_with.Goals as goal

pub returns-in_ok-parts : goal.returns-in_ok-parts
returns-in_ok-parts c =
    c.product.ensures
    ∙ ap (λ n. min n 4000001)
    (ap (λ (l : List (List (List ℕ))). how_many l) (ap (map items_of) c.deref.ensures.value ∙ c.in_ok-parts.ensures)
    ∙ picks_few c.args.contents.now c.args.first.now (eq-eqb (get_or c.args.first.now 16 0) 1 c.if-first-eq1.true))
