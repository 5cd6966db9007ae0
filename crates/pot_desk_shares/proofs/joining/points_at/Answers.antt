use Rattle.std.proofs.Common.{◌≡◌, ◌+◌, ◌++◌, ◌∷◌, [], length, ap, sym, subst, ◌∙◌, arith}
use Rattle.pot_desk_shares.specs.Finding.{AreFound}
use Rattle.pot_desk_shares.proofs.FindLemmas.{found_end, found_none, found_more, found_same, none_of, there_of}
use Rattle.pot_desk_shares.proofs.joining.points_at.Goals as goal
use Rattle.pot_desk_shares.proofs.joining.points_at.Goals.{then-count-from+then-is_some+in_ok-push_point, else-count-from, else-count-from-via-then-count-from+else-is_some, else-count-from-via-else-count-from}

pub loop-point-init : goal.loop-point-init
loop-point-init c =
    subst (AreFound c.args.shares.now c.args.head.now 1) (sym c.new-points.ensures.items) (found_none c.args.shares.now c.args.head.now)

pub loop-point-preserved : goal.loop-point-preserved
loop-point-preserved c =
    let shares = c.args.shares.now in
    let head = c.args.head.now in
    let x = c.loop-point.point in
    let points = c.loop-point.points.items in
    elim c.if-count-from.branch [
      | then-count-from+then-is_some+in_ok-push_point w ↦
          let there = there_of shares head x w.find_share.result w.find_share.ensures w.if-is_some.ensures in
          let items : c.if-count-from.points.items ≡ points ++ x ∷ [] = ap (λ z. z.items) w.points-is ∙ w.in_ok-push_point.ensures in
          subst (AreFound shares head (x + 1)) (sym items)
          (found_more shares head x points c.loop-point.invariant (omega (arith, w.if-count-from.true, ap length c.as_slice-count.ensures.value, c.from.ensures)) there)
      | else-count-from w ↦
          let items = ap (λ z. z.items) w.points-is in
          subst (AreFound shares head (x + 1)) (sym items)
          (found_same shares head x points c.loop-point.invariant (λ less. elim w.else-count-from.branch [
            | else-count-from-via-then-count-from+else-is_some w' ↦ none_of shares head x w'.find_share.result w'.find_share.ensures w'.if-is_some.ensures
            | else-count-from-via-else-count-from w' ↦ absurd (omega (arith, less, w'.if-count-from.false, ap length c.as_slice-count.ensures.value, c.from.ensures))
          ]))
    ]

pub returns : goal.returns
returns c = found_end c.args.shares.now c.args.head.now c.loop-point.point c.loop-point.points.items c.loop-point.invariant c.loop-point-test.false
