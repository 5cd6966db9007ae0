use Rattle.std.proofs.Common.{◌≡◌, ◌≤◌, ◌-◌, [], map, replicate}
use Rattle.std.specs.Prelude.{vec_len, vec_capacity}
use Rattle.pot_session.proofs.desk.empty_logs.Given as goal

abbrev pub invariant-loop-alloc : goal.invariant-loop-alloc
invariant-loop-alloc l = record {
  within : vec_len l.logs ≤ l.count;
  space : l.count ≤ vec_capacity l.logs;
  empty : map (λ v. v.items) l.logs.items ≡ replicate (vec_len l.logs) [];
}

abbrev pub decreases-loop-alloc : goal.decreases-loop-alloc
decreases-loop-alloc l = l.count - vec_len l.logs
