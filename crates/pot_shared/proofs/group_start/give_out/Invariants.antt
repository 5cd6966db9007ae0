use Rattle.std.proofs.Common.{◌≡◌, length}
use Rattle.std.specs.Prelude.{vec_len, vec_capacity}
use Rattle.pot_shared.specs.Starts.{AreGivenOut}
use Rattle.pot_shared.proofs.group_start.give_out.Given as goal

abbrev pub invariant-loop-alloc : goal.invariant-loop-alloc
invariant-loop-alloc g l = record {
  given : AreGivenOut l.initial.tables.items l.tables.items l.initial.hand.items l.starts.items l.hand.items;
  number_is : l.number ≡ length l.starts.items;
  space : vec_capacity l.hand ≡ vec_capacity l.initial.hand;
  places : vec_capacity l.starts ≡ vec_capacity l.initial.starts;
}

abbrev pub decreases-loop-alloc : goal.decreases-loop-alloc
decreases-loop-alloc g l = vec_len l.tables
