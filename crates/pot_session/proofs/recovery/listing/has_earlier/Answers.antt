use Rattle.std.proofs.Common.{◌≡◌, false, true, [], sym, ap, subst, ◌∙◌, take, arith}
use Rattle.std.specs.List.{list_any}
use Rattle.std.proofs.lemmas.List.{get_or_read}
use Rattle.pot_object.specs.Objects.{head_at}
use Rattle.pot_object.specs.declared.object.ObjectHead.{ObjectHead}
use Rattle.pot_recover.specs.Fronts.{has_front}
use Rattle.pot_session.specs.Listing.{front_at, object_at}
use Rattle.pot_session.proofs.FrontLemmas.{some_earlier, none_earlier, pieces_more}
use Rattle.pot_session.proofs.recovery.listing.has_earlier.Goals as goal

pub loop-piece-init : goal.loop-piece-init
loop-piece-init c = λ q l. absurd (omega (arith, l))

pub loop-piece-preserved : goal.loop-piece-preserved
loop-piece-preserved c =
    let here = object_at c.args.found.now c.args.place in
    let is : c.object-object.result.now ≡ here = get_or_read c.args.found.now c.args.place c.object-object.result.now c.requires.within c.object-object.ensures [] in
    pieces_more (λ q. list_any (has_front (front_at here q)) (take c.args.place c.args.found.now)) c.loop-piece.piece c.loop-piece.invariant
    (subst (λ front. list_any (has_front front) (take c.args.place c.args.found.now) ≡ false) (c.front_at.ensures ∙ ap (λ o. front_at o c.loop-piece.piece) is)
    (sym c.stands_before.ensures ∙ c.if-stands_before.false))

pub returns-then-stands_before : goal.returns-then-stands_before
returns-then-stands_before c =
    let is : c.object-object.result.now ≡ object_at c.args.found.now c.args.place = get_or_read c.args.found.now c.args.place c.object-object.result.now c.requires.within c.object-object.ensures [] in
    some_earlier c.args.found.now c.args.place c.requires.objects c.requires.within c.loop-piece.piece
    (subst (λ front. list_any (has_front front) (take c.args.place c.args.found.now) ≡ true) (c.front_at.ensures ∙ ap (λ o. front_at o c.loop-piece.piece) is)
    (sym c.stands_before.ensures ∙ c.if-stands_before.true))

pub returns : goal.returns
returns c =
    let is : c.object-object.result.now ≡ object_at c.args.found.now c.args.place = get_or_read c.args.found.now c.args.place c.object-object.result.now c.requires.within c.object-object.ensures [] in
    let pieces : c.head_of-piece-end.result.pieces ≡ (head_at (object_at c.args.found.now c.args.place)).pieces =
    ap (λ (h : ObjectHead). h.pieces) (c.head_of-piece-end.ensures ∙ ap head_at is) in
    none_earlier c.args.found.now c.args.place c.requires.objects c.requires.within
    (λ q l. c.loop-piece.invariant q (omega (arith, l, pieces, c.loop-piece-test.false)))
