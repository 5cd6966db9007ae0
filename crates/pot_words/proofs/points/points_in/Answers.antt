use Rattle.std.proofs.Common.{◌∙◌, ◌≤◌, ◌<◌, ◌+◌, ◌^◌, ℕ, List, sym, ap, subst, lit<, decimal, arith}
use Rattle.std.proofs.lemmas.Iterator.Splits.{YieldsList-from_str_split}
use Rattle.pot_words.proofs.ListLemmas.{IsLeft, IsReading, lists_none, lists_these, parts, reads_on, starts}
use Rattle.pot_words.proofs.PointLemmas.{one_point, plain_point}
use Rattle.pot_words.proofs.points.points_in.Goals as goal

pub loop-piece-init : goal.loop-piece-init
loop-piece-init c =
    let split = c.split-piece-items.ensures in
    let left = subst (λ it. IsLeft it (parts c.args.text.now)) (sym c.into_iter-piece-iterator.ensures.into_iter_gives)
    (YieldsList-from_str_split {s = c.split-piece-items.result} 44 c.args.text.now (lit< tt) split.text split.has_more split.pattern).runs in
    rw c.new-points.ensures (starts decimal (λ p. p ≤ c.args.most) (λ p. p) 1 (parts c.args.text.now) c.into_iter-piece-iterator.result left, omega arith)

pub returns-in_err-point : goal.returns-in_err-point
returns-in_err-point c =
    let most = c.ranges.most.fits in
    let small : c.args.most < 2 ^ 64 = omega arith in
    rw c.from_residual.ensures (λ t. lists_none decimal (λ p. p ≤ c.args.most) (λ p. p) (plain_point c.args.most small) (one_point c.args.most small) 1 c.args.text.now c.loop-piece.points.items c.loop-piece.next
    c.loop-piece.piece-iterator c.next.new.self c.loop-piece.invariant.0 c.in-Some.piece c.in-Some.ensures.steps
    (λ x is fits above. c.in_err-point.ensures x (omega (arith, c.from.ensures, fits)) is) t.items)

pub returns-then-point-next : goal.returns-then-point-next
returns-then-point-next c = λ t.
    let most = c.ranges.most.fits in
    let small : c.args.most < 2 ^ 64 = omega arith in
    let point = c.in_ok-point.ensures in
    let low = c.if-point-next.true in
    lists_none decimal (λ p. p ≤ c.args.most) (λ p. p) (plain_point c.args.most small) (one_point c.args.most small) 1 c.args.text.now c.loop-piece.points.items c.loop-piece.next
    c.loop-piece.piece-iterator c.next.new.self c.loop-piece.invariant.0 c.in-Some.piece c.in-Some.ensures.steps
    (λ x is fits above.
    let same = one_point c.args.most small x c.in_ok-point.point fits (omega (arith, c.from.ensures, point.0)) (sym is ∙ point.1) in
    omega (arith, same, above, low)) t.items

pub loop-piece-preserved : goal.loop-piece-preserved
loop-piece-preserved c =
    let most = c.ranges.most.fits in
    let small : c.args.most < 2 ^ 64 = omega arith in
    let point = c.in_ok-point.ensures in
    let further = reads_on decimal (λ p. p ≤ c.args.most) (λ p. p) (one_point c.args.most small) 1 (parts c.args.text.now) c.loop-piece.points.items c.loop-piece.next
    c.loop-piece.piece-iterator c.next.new.self c.in-Some.piece c.loop-piece.invariant.0 c.in-Some.ensures.steps
    c.in_ok-point.point point.1 (omega (arith, c.from.ensures, point.0)) (omega (arith, c.if-point-next.false)) in (
      subst (λ (xs : List ℕ). IsReading decimal (λ p. p ≤ c.args.most) (λ p. p) 1 (parts c.args.text.now) c.next.new.self xs (c.in_ok-point.point + 1)) (sym c.push.ensures.items) further,
      omega (arith, c.push.ensures.len, c.loop-piece.invariant.1, c.if-point-next.false),
    )

pub returns : goal.returns
returns c =
    let most = c.ranges.most.fits in
    let small : c.args.most < 2 ^ 64 = omega arith in
    let done = lists_these decimal (λ p. p ≤ c.args.most) (λ p. p) (plain_point c.args.most small) (one_point c.args.most small) 1 c.args.text.now c.loop-piece.points.items c.loop-piece.next
    c.loop-piece.piece-iterator c.next.new.self c.loop-piece.invariant.0 c.in-None.ensures.steps in
    (done.0, λ t has. ap (λ (items : List ℕ). record { items = items }) (done.1 t.items has))
