use Rattle.std.proofs.Common.{◌≡◌}
use Rattle.std.specs.Prelude.{vec_len, vec_capacity}
use Rattle.pot_shared.proofs.TakenIn.{TakenSofar}
use Rattle.pot_shared.proofs.group_start.take_in.Given as goal

abbrev pub invariant-loop-starts : goal.invariant-loop-starts
invariant-loop-starts g l = record {
  taken : TakenSofar (λ s. s.hand.items) (λ s. s.started.items) l.initial.starts.items l.starts.items l.initial.hand.items l.hand.items l.initial.members.items l.members.items;
  space : vec_capacity l.hand ≡ vec_capacity l.initial.hand;
  places : vec_capacity l.members ≡ vec_capacity l.initial.members;
}

abbrev pub decreases-loop-starts : goal.decreases-loop-starts
decreases-loop-starts g l = vec_len l.starts
