use Rattle.std.proofs.Common.{◌≡◌, ◌+◌, ◌++◌, ℕ, List, arith, add-one, ap, ◌∙◌}
use Rattle.pot_object.specs.Objects.{object}
use Rattle.pot_object.specs.Assembly.{objects_from}
use Rattle.pot_object.proofs.LawLemmas.{objects_from_more}
use Rattle.pot_object.proofs.tests.objects_in_order.Goals as goal

pub loop-piece-preserved : goal.loop-piece-preserved
loop-piece-preserved c =
    let id = c.args.file_id.now in
    let file = c.args.file.now in
    let n = c.loop-piece.piece in
    let zero_first : n ≡ 0 + n = omega arith in
    rw add-one
    (c.in_ok-extend_from_slice.ensures.items
    ∙ ap (λ (z : List ℕ). z ++ c.write_object.new.out) c.loop-piece.invariant
    ∙ ap (λ (z : List ℕ). objects_from id file 0 n ++ z) (c.write_object.ensures ∙ ap (object id file) zero_first)
    ∙ objects_from_more id file 0 n)
