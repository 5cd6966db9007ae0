use Rattle.std.proofs.Common.{[], ◌∷◌, List, ℕ, decimal, refl, ap, ◌∙◌, arith}
use Rattle.pot_script.proofs.LineLemmas.{not_a_group}
use Rattle.pot_script.proofs.lines.group.read_group.Goals as goal

pub returns-in_err-group : goal.returns-in_err-group
returns-in_err-group c = rw c.from_residual.ensures (λ group is e. c.in_err-group.ensures group [] (omega (arith, is.1)) e)

pub returns-then-group-rack : goal.returns-then-group-rack
returns-then-group-rack c =
    not_a_group c.args.rack.now c.args.words c.in_ok-group.field-0 (omega (arith, c.in_ok-group.ensures.0))
    (c.in_ok-group.ensures.1 ∙ ap (λ (words : List (List ℕ)). decimal c.in_ok-group.field-0 ∷ words) (c.in_ok-end.ensures.0 refl)) c.if-group-rack.true
