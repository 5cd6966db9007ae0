use Rattle.std.proofs.Common.{◌≡◌, List, sym, ap, lit<, subst, arith}
use Rattle.std.proofs.lemmas.Iterator.Splits.{YieldsList-from_str_split}
use Rattle.pot_words.specs.Lists.{IsSpot, spot_rank, spot_text}
use Rattle.pot_words.specs.declared.spot.Spot.{Spot}
use Rattle.pot_words.proofs.ListLemmas.{IsLeft, lists_none, lists_these, parts, reads_on, starts}
use Rattle.pot_words.proofs.PointLemmas.{one_spot, plain_spot}
use Rattle.pot_words.proofs.spots.spots_in.Goals as goal

pub loop-piece-init : goal.loop-piece-init
loop-piece-init c =
    let split = c.split-piece-items.ensures in
    let left = subst (λ it. IsLeft it (parts c.args.text.now)) (sym c.into_iter-piece-iterator.ensures.into_iter_gives)
    (YieldsList-from_str_split {s = c.split-piece-items.result} 44 c.args.text.now (lit< tt) split.text split.has_more split.pattern).runs in
    rw c.new-spots.ensures (starts spot_text IsSpot spot_rank 0 (parts c.args.text.now) c.into_iter-piece-iterator.result left, omega arith)

pub returns-in_err-spot : goal.returns-in_err-spot
returns-in_err-spot c = rw c.from_residual.ensures (λ t.
    lists_none spot_text IsSpot spot_rank plain_spot one_spot 0 c.args.text.now c.loop-piece.spots.items c.loop-piece.next
    c.loop-piece.piece-iterator c.next.new.self c.loop-piece.invariant.0 c.in-Some.piece c.in-Some.ensures.steps
    (λ s is fits above. c.in_err-spot.ensures s (fits, is)) t.items)

pub returns-then-rank-next : goal.returns-then-rank-next
returns-then-rank-next c = λ t.
    let spot = c.in_ok-spot.ensures in
    lists_none spot_text IsSpot spot_rank plain_spot one_spot 0 c.args.text.now c.loop-piece.spots.items c.loop-piece.next
    c.loop-piece.piece-iterator c.next.new.self c.loop-piece.invariant.0 c.in-Some.piece c.in-Some.ensures.steps
    (λ s is fits above. let same : spot_rank s ≡ spot_rank c.in_ok-spot.spot = ap spot_rank (spot.1 s (fits, is)) in
    omega (arith, same, above, c.rank_of-rank.ensures, c.if-rank-next.true)) t.items

pub push-requires : goal.push-requires
push-requires c =
    let fits = c.in_ok-spot.ensures.0.0 in
    (omega arith, omega (arith, c.loop-piece.invariant.1, c.rank_of-rank.ensures, c.if-rank-next.false, fits.0, fits.1))

pub loop-piece-preserved : goal.loop-piece-preserved
loop-piece-preserved c =
    let spot = c.in_ok-spot.ensures in
    let further = reads_on spot_text IsSpot spot_rank one_spot 0 (parts c.args.text.now) c.loop-piece.spots.items c.loop-piece.next
    c.loop-piece.piece-iterator c.next.new.self c.in-Some.piece c.loop-piece.invariant.0 c.in-Some.ensures.steps
    c.in_ok-spot.spot spot.0.1 spot.0.0 (omega (arith, c.rank_of-rank.ensures, c.if-rank-next.false)) in
    (rw (c.push.ensures.items, c.rank_of-rank.ensures) further, omega (arith, c.push.ensures.len, c.loop-piece.invariant.1, c.if-rank-next.false))

pub returns : goal.returns
returns c =
    let done = lists_these spot_text IsSpot spot_rank plain_spot one_spot 0 c.args.text.now c.loop-piece.spots.items c.loop-piece.next
    c.loop-piece.piece-iterator c.next.new.self c.loop-piece.invariant.0 c.in-None.ensures.steps in
    (done.0, λ t has. ap (λ (items : List Spot). record { items = items }) (done.1 t.items has))
