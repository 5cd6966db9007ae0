use Rattle.std.proofs.Common.{◌≡◌, ℕ, Bool, true, false, not, List, [], Some, None, ap, subst, ◌∙◌, arith}
use Rattle.std.specs.Prelude.{find, is_none, is_some}
use Rattle.std.specs.List.{range_with_len}
use Rattle.pot_object.specs.declared.object.ObjectHead.{ObjectHead}
use Rattle.pot_recover.specs.Fronts.{has_front}
use Rattle.pot_session.specs.Listing.{least_of}
use Rattle.pot_session.proofs.FrontLemmas.{pieces_more}
use Rattle.pot_session.proofs.ListingLemmas.{gap_found, gap_none, least_none, least_some}
use Rattle.pot_session.proofs.recovery.listing.first_gap.Goals as goal

-- whether there is no object of a piece
abbrev test : List (List ℕ) → List ℕ → ℕ → Bool
test found object q = is_none (least_of found object q)

pub returns-then-is_none : goal.returns-then-is_none
returns-then-is_none c =
    subst (λ n. Some c.loop-piece.piece ≡ find (test c.args.found.now c.args.object.now) (range_with_len 0 n)) (ap (λ (h : ObjectHead). h.pieces) c.head_of-piece-end.ensures)
    (gap_found (test c.args.found.now c.args.object.now) c.head_of-piece-end.result.pieces c.loop-piece.piece c.loop-piece-test.true c.loop-piece.invariant
    (subst (λ f. is_none (find (has_front f) c.args.found.now) ≡ true) c.front_at.ensures
    (least_none (has_front c.front_at.result) c.args.found.now [] (subst (λ r. is_some r ≡ false) c.first_with.ensures (c.is_none.ensures ∙ ap not c.if-is_none.true)))))

pub loop-piece-preserved : goal.loop-piece-preserved
loop-piece-preserved c =
    pieces_more (test c.args.found.now c.args.object.now) c.loop-piece.piece c.loop-piece.invariant
    (subst (λ f. is_none (find (has_front f) c.args.found.now) ≡ false) c.front_at.ensures
    (least_some (has_front c.front_at.result) c.args.found.now [] (subst (λ r. is_some r ≡ true) c.first_with.ensures (c.is_none.ensures ∙ ap not c.if-is_none.false))))

pub returns : goal.returns
returns c =
    subst (λ n. None ≡ find (test c.args.found.now c.args.object.now) (range_with_len 0 n)) (ap (λ (h : ObjectHead). h.pieces) c.head_of-piece-end.ensures)
    (gap_none (test c.args.found.now c.args.object.now) c.head_of-piece-end.result.pieces (λ q l. c.loop-piece.invariant q (omega (arith, l, c.loop-piece-test.false))))
