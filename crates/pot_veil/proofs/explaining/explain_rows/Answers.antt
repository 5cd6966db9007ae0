use Rattle.std.proofs.Common.{◌/◌, ℕ, List, length, ap, ap₂, sym, ◌∙◌}
use Rattle.pot_bytes.specs.Sums.{xor}
use Rattle.pot_gf.specs.Polynomials.{vanishing}
use Rattle.pot_split.specs.Threshold.{changed_rows}
use Rattle.pot_veil.proofs.SeenLemmas.{seen_distinct, seen_some}
use Rattle.pot_veil.proofs.Rewriting.{same_factors}
use Rattle.pot_veil.proofs.explaining.explain_rows.Goals as goal

pub vanish-requires-clause-distinct : goal.vanish-requires-clause-distinct
vanish-requires-clause-distinct c = seen_distinct 16 c.args.seen.now c.requires.seen

pub vanish-requires-clause-not_zero : goal.vanish-requires-clause-not_zero
vanish-requires-clause-not_zero c = seen_some 16 c.args.seen.now c.requires.seen

pub returns : goal.returns
returns c =
    let rows = c.args.rows.now in
    let d = xor c.args.content.now c.args.other.now in
    c.add_rows.ensures
    ∙ ap₂ (λ (u w : List ℕ). changed_rows u w 1 (length rows / 992) rows) c.xor_into.ensures c.coefficients.ensures.value
    ∙ same_factors d c.vanish.result (vanishing c.args.seen.now) 1 (length rows / 992) rows c.vanish.ensures.vanishing
    ∙ ap (λ (n : ℕ). changed_rows d (vanishing c.args.seen.now) 1 (length rows / n) rows) (sym c.told-content)
