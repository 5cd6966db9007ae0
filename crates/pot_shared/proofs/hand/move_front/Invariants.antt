use Rattle.std.proofs.Common.{◌≡◌, ◌≤◌, ◌-◌, ◌++◌, take, drop}
use Rattle.std.specs.Prelude.{vec_capacity}
use Rattle.pot_shared.proofs.hand.move_front.Given as goal

abbrev pub invariant-loop-moved : goal.invariant-loop-moved
invariant-loop-moved g l = record {
  within : l.moved ≤ l.count;
  moved_in : l.into.items ≡ l.initial.into.items ++ take l.moved l.initial.from.items;
  left : l.from.items ≡ drop l.moved l.initial.from.items;
  space : vec_capacity l.into ≡ vec_capacity l.initial.into;
  from_space : vec_capacity l.from ≡ vec_capacity l.initial.from;
}

abbrev pub decreases-loop-moved : goal.decreases-loop-moved
decreases-loop-moved g l = l.count - l.moved
