use Rattle.std.proofs.Common.{◌≡◌, ◌+◌, ◌-◌, ◌++◌, ℕ, List, take, drop, arith, add-one, ap, sym, subst, ◌∙◌}
use Rattle.pot_object.specs.Objects.{head_at, part_length, IsObjectHead}
use Rattle.pot_object.specs.Assembly.{object_at, part_at}
use Rattle.pot_object.proofs.AssemblyLemmas.{whole_object}
use Rattle.pot_object.proofs.assembly.join_parts.Goals as goal

pub part_len-end-requires : goal.part_len-end-requires
part_len-end-requires c =
    let head = c.head_in.ensures ∙ ap head_at (whole_object c.args.objects.now c.loop-number.number) in
    subst IsObjectHead (sym head) (c.requires.heads c.loop-number.number (omega arith))

pub loop-number-preserved : goal.loop-number-preserved
loop-number-preserved c =
    let objects = c.args.objects.now in
    let n = c.loop-number.number in
    let bytes = whole_object objects n in
    let head : c.head_in.result ≡ head_at (object_at objects n) = c.head_in.ensures ∙ ap head_at bytes in
    let end : 64 + c.part_len-end.result - 64 ≡ part_length (head_at (object_at objects n)) =
    omega (arith, c.part_len-end.ensures ∙ ap part_length head) in
    rw add-one
    (c.in_ok-extend_from_slice.ensures.items
    ∙ ap (λ (z : List ℕ). c.loop-number.file.items ++ take (64 + c.part_len-end.result - 64) (drop 64 z)) bytes
    ∙ ap (λ (z : ℕ). c.loop-number.file.items ++ take z (drop 64 (object_at objects n))) end
    ∙ ap (λ (z : List ℕ). z ++ part_at objects n) c.loop-number.invariant)
