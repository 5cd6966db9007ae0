use Rattle.std.specs.Prelude.{◌≤◌, ◌+◌, length}
use Rattle.std.specs.Vec.{vec_capacity}
use Rattle.std.specs.Vec.Iter.{into_iter_items, into_iter_len}
use Rattle.pot_shared.specs.Works.{known}
use Rattle.pot_commands.proofs.BackLemmas.{IsTaking}
use Rattle.pot_commands.proofs.batching.take_back.Given as goal

abbrev pub invariant-loop-job : goal.invariant-loop-job
invariant-loop-job g l = record {
  taking : IsTaking l.vault (known l.initial.passes.groups l.initial.passes.index) l.fn.jobs.items l.initial.replies.items (into_iter_items l.jobs)
      (known l.passes.groups l.passes.index) l.replies.items l.whole;
  room : length l.replies.items + into_iter_len l.jobs ≤ vec_capacity l.replies;
}

abbrev pub decreases-loop-job : goal.decreases-loop-job
decreases-loop-job g l = into_iter_len l.jobs
