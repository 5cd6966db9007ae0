use Rattle.std.proofs.Common.{◌≡◌, ◌+◌, ◌++◌, List, sym, subst, arith}
use Rattle.std.specs.Vec.Iter.{into_iter_items}
use Rattle.pot_shared.specs.Works.{known}
use Rattle.pot_commands.specs.Sharing.{common_of}
use Rattle.pot_commands.specs.Jobs.{JobView, tasks_in}
use Rattle.pot_commands.proofs.SharedLemmas.{IsSharing, goes_sharing, tasks_more}
use Rattle.pot_commands.proofs.batching.share_out.Goals as goal

pub loop-index-preserved : goal.loop-index-preserved
loop-index-preserved g c =
    let i = c.loop-index.invariant in
    let e = c.in-Ok-give_line.ensures in
    record {
      sharing = subst (λ (js : List JobView). IsSharing (common_of c.args.shared.now)
          (known c.args.passes.now.groups c.args.passes.now.index) c.args.job c.args.lines.now (c.loop-index.index + 1) js (known c.give_line.new.passes.groups c.give_line.new.passes.index))
          (sym c.push_reserved.ensures.items)
          (goes_sharing _ _ _ _ _ _ _ i.sharing c.requires.can c.loop-index-test.true _ _ _ c.index-lines-index.is e.given e.left.0 e.left.1
          e.can);
      tasks = subst (λ (js : List JobView). tasks_in js ++ into_iter_items c.next.new.self ≡ c.args.tasks.items) (sym c.push_reserved.ensures.items)
          (tasks_more c.args.shared.now.vault.now.rack _ _ c.requires.tasks _ _ i.sharing.count _ i.tasks _ _ c.in-Some.ensures.items _ e.task);
      room = omega (arith, i.room, c.push_reserved.ensures.capacity);
    }
