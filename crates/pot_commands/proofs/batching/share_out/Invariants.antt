use Rattle.std.specs.Prelude.{◌≡◌, ◌≤◌, ◌++◌, length}
use Rattle.std.specs.Vec.{vec_capacity}
use Rattle.std.specs.Vec.Iter.{into_iter_items}
use Rattle.pot_shared.specs.Works.{known}
use Rattle.pot_commands.specs.Sharing.{common_of}
use Rattle.pot_commands.specs.Jobs.{tasks_in}
use Rattle.pot_commands.proofs.SharedLemmas.{IsSharing}
use Rattle.pot_commands.proofs.batching.share_out.Given as goal

abbrev pub invariant-loop-index : goal.invariant-loop-index
invariant-loop-index g l = record {
  sharing : IsSharing (common_of l.shared) (known l.initial.passes.groups l.initial.passes.index) l.job l.lines l.index l.jobs.items
      (known l.passes.groups l.passes.index);
  tasks : tasks_in l.jobs.items ++ into_iter_items l.tasks ≡ l.fn.tasks.items;
  room : length l.lines ≤ vec_capacity l.jobs;
}
