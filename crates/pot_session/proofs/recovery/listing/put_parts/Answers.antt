use Rattle.std.proofs.Common.{◌≡◌, ◌<◌, ℕ, List, ap, arith}
use Rattle.std.proofs.lemmas.List.FromFn.{length-range_with_len}
use Rattle.pot_object.specs.Objects.{head_at}
use Rattle.pot_object.specs.declared.object.ObjectHead.{ObjectHead}
use Rattle.pot_session.specs.Listing.{least_of, part_of, pieces_in}
use Rattle.pot_session.proofs.ListingLemmas.{texts_begun, texts_more, texts_all, number_at, number_within}
use Rattle.pot_session.proofs.recovery.listing.put_parts.Goals as goal

abbrev text : List (List ℕ) → List ℕ → ℕ → List ℕ
text found object piece = part_of (least_of found object piece)

pub returns-in-Err-clause-puts : goal.returns-in-Err-clause-puts
returns-in-Err-clause-puts g c = λ told.
    let n = (head_at c.args.object.now).pieces in
    let e : c.head_of-piece-end.result.pieces ≡ n = ap (λ (h : ObjectHead). h.pieces) c.head_of-piece-end.ensures in
    let l : c.loop-piece.piece < n = omega (arith, c.loop-piece-test.true, e) in
    texts_begun (text c.args.found.now c.args.object.now) (pieces_in c.args.object.now) _ _ _ c.loop-piece.piece c.loop-piece.piece (number_within n c.loop-piece.piece l) (number_at n c.loop-piece.piece l)
    (c.loop-piece.invariant.written told) (c.in-Err.ensures.puts told)

pub loop-piece-preserved : goal.loop-piece-preserved
loop-piece-preserved g c = record {
  written = λ told.
      let n = (head_at c.args.object.now).pieces in
      let e : c.head_of-piece-end.result.pieces ≡ n = ap (λ (h : ObjectHead). h.pieces) c.head_of-piece-end.ensures in
      let l : c.loop-piece.piece < n = omega (arith, c.loop-piece-test.true, e) in
      texts_more (text c.args.found.now c.args.object.now) (pieces_in c.args.object.now) _ _ _ c.loop-piece.piece c.loop-piece.piece (number_within n c.loop-piece.piece l) (number_at n c.loop-piece.piece l)
      (c.loop-piece.invariant.written told) (c.in-Ok.ensures.puts told);
  later = (let a = c.loop-piece.invariant.later in let b = c.put_part.ensures.cause.later in omega (arith, a, b));
}

pub returns-clause-puts : goal.returns-clause-puts
returns-clause-puts g c = λ told.
    let e : c.head_of-piece-end.result.pieces ≡ (head_at c.args.object.now).pieces = ap (λ (h : ObjectHead). h.pieces) c.head_of-piece-end.ensures in
    let size = length-range_with_len 0 (head_at c.args.object.now).pieces in
    texts_all (text c.args.found.now c.args.object.now) (pieces_in c.args.object.now) _ _ c.loop-piece.piece
    (omega (arith, e, size, c.loop-piece-test.false, c.loop-piece.auto.piece-end)) (c.loop-piece.invariant.written told)
