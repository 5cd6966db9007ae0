use Rattle.std.proofs.Common.{◌≡◌, ◌∷◌, [], ℕ, length, ap, sym, subst, arith, length-append}
use Rattle.std.specs.Prelude.{Some, slice_get}
use Rattle.pot_bench.specs.Plain.{meaning_in}
use Rattle.pot_group.specs.Group.{view_of}
use Rattle.pot_shared.specs.Sharing.{IsRackGroup}
use Rattle.pot_bench.proofs.Members.{each_more}
use Rattle.pot_bench.proofs.sessions.start_groups.Goals as goal

pub loop-number-preserved : goal.loop-number-preserved
loop-number-preserved c =
    let more = ap length c.in_ok-push.ensures.items in
    let one = length-append c.loop-number.members.items (c.in_ok-start_group.field-0 ∷ []) in
    record {
      count = omega (arith, more, one, c.loop-number.invariant.count);
      groups = subst (λ ms. (n : ℕ) (m : _) → slice_get ms n ≡ Some m → IsRackGroup c.args.rack.now n (view_of meaning_in m.group)) (sym c.in_ok-push.ensures.items)
          (each_more (λ n m. IsRackGroup c.args.rack.now n (view_of meaning_in m.group)) c.loop-number.members.items c.in_ok-start_group.field-0 c.loop-number.invariant.groups
          (subst (λ n. IsRackGroup c.args.rack.now n (view_of meaning_in c.in_ok-start_group.field-0.group)) (sym c.loop-number.invariant.count) c.in_ok-start_group.ensures));
    }
