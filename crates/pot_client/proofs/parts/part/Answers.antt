use Rattle.std.proofs.Common.{◌≡◌, ◌*◌, ℕ, take, drop, sym, ap, ◌∙◌, arith}
use Rattle.std.proofs.lemmas.List.{take_all}
use Rattle.pot_client.proofs.parts.part.Goals as goal

pub returns-then-rest-le-PART_SIZE : goal.returns-then-rest-le-PART_SIZE
returns-then-rest-le-PART_SIZE c =
    let start-is : c.saturating_mul-start.result ≡ c.args.number * 884736 = omega (arith, c.saturating_mul-start.ensures, c.if-start-file.false, c.type_inv.file) in
    sym (take_all 884736 c.split_at.result.1.now (omega (arith, c.if-rest-le-PART_SIZE.true)))
    ∙ ap (take 884736) (c.split_at.ensures.back ∙ ap (λ (i : ℕ). drop i c.args.file.now) start-is)
