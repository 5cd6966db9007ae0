use Rattle.std.proofs.Common.{◌≡◌, ◌≤◌, ℕ, List, length, take, arith, ap, sym, subst, ◌∙◌}
use Rattle.std.proofs.lemmas.Result.{err_from_is_err_and}
use Rattle.pot_object.specs.Pieces.{longest}
use Rattle.pot_object.specs.Objects.{head_at}
use Rattle.pot_object.specs.Assembly.{joined, objects_of, part_at, BeginsWhole}
use Rattle.pot_object.specs.declared.object.ObjectHead.{ObjectHead}
use Rattle.pot_object.proofs.AssemblyLemmas.{all_there, objects_of-joined, some_piece, IsHead-object_at}
use Rattle.pot_object.proofs.assembly.assemble.Goals as goal

pub join_parts-requires-clause-whole : goal.join_parts-requires-clause-whole
join_parts-requires-clause-whole c =
    let objects = c.args.objects.now in
    let h = head_at objects in
    let is = c.requires.objects_are in
    let pieces : c.head_in-pieces.result.pieces ≡ h.pieces = ap (λ (z : ObjectHead). z.pieces) c.head_in-pieces.ensures in
    let whole = subst (λ (n : ℕ). BeginsWhole objects n) pieces c.in_default.ensures in
    let count = all_there h objects is (some_piece h objects is c.requires.some) whole in
    omega (arith, is.long, count, pieces)

pub join_parts-requires-clause-heads : goal.join_parts-requires-clause-heads
join_parts-requires-clause-heads c k l =
    let objects = c.args.objects.now in
    IsHead-object_at (head_at objects) objects c.requires.objects_are k (c.in_default.ensures k l).0

pub returns-clause-file : goal.returns-clause-file
returns-clause-file c =
    let objects = c.args.objects.now in
    let h = head_at objects in
    let is = c.requires.objects_are in
    let pieces : c.head_in-pieces.result.pieces ≡ h.pieces = ap (λ (z : ObjectHead). z.pieces) c.head_in-pieces.ensures in
    let whole = subst (λ (n : ℕ). BeginsWhole objects n) pieces c.in_default.ensures in
    let file : c.in_ok-join_parts.field-0.items ≡ joined (part_at objects) h.pieces =
    c.in_ok-join_parts.ensures ∙ ap (joined (part_at objects)) pieces in
    let made = objects_of-joined h objects is c.requires.some whole in
    record {
      fits = subst (λ (z : List ℕ). length z ≤ longest) (sym file) (omega (arith, made.1, made.2));
      all = made.0 ∙ ap (objects_of (take 16 objects)) (sym file);
    }

pub returns-in_err-join_parts-clause-fault : goal.returns-in_err-join_parts-clause-fault
returns-in_err-join_parts-clause-fault c =
    let p = err_from_is_err_and c.from_residual.result c.from_residual.ensures.1 in
    let pieces = ap (λ (z : ObjectHead). z.pieces) c.head_in-pieces.ensures in
    rw (p.1, p.2)
    (λ piece l missing. let place = c.in_default.ensures piece (omega (arith, pieces)) in missing piece place.0 place.1)
