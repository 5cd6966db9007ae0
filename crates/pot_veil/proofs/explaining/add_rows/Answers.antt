use Rattle.std.proofs.Common.{◌≡◌, ◌+◌, ◌-◌, ◌*◌, ◌++◌, [], ℕ, List, drop, arith, ap₂, refl, ◌∙◌}
use Rattle.std.proofs.lemmas.List.{append-nil, drop_all}
use Rattle.pot_split.specs.Threshold.{changed_rows}
use Rattle.pot_veil.proofs.Rewriting.{row_written}
use Rattle.pot_veil.proofs.explaining.add_rows.Goals as goal

pub loop-row-init : goal.loop-row-init
loop-row-init c = refl

pub loop-row-preserved : goal.loop-row-preserved
loop-row-preserved c =
    let row = c.loop-row.row in
    row_written c.args.difference.now c.args.factors.now c.args.rows.now c.loop-row.rows c.add_weighted.new.into row c.args.count 992
    (row * 992 + 992 - row * 992) c.told-difference c.requires.whole c.loop-row-test.true c.loop-row.invariant (omega arith) c.add_weighted.ensures

pub returns : goal.returns
returns c =
    let d = c.args.difference.now in
    let v = c.args.factors.now in
    let old = c.args.rows.now in
    let all : c.loop-row.row ≡ c.args.count = omega (arith, c.loop-row-test.false, c.loop-row.auto.row-end) in
    let rest : drop (c.loop-row.row * 992) old ≡ [] = drop_all (c.loop-row.row * 992) old (omega (arith, c.requires.whole)) in
    c.loop-row.invariant
    ∙ ap₂ (λ (n : ℕ) (z : List ℕ). changed_rows d v 1 n old ++ z) all rest
    ∙ append-nil (changed_rows d v 1 c.args.count old)
