use Rattle.std.proofs.Common.{◌∙◌, ◌+◌, [], List, refl, sym, subst, arith, IsTrue}
use Rattle.pot_shared.specs.Works.{known}
use Rattle.pot_commands.specs.declared.beginning.Task.{Task}
use Rattle.pot_commands.proofs.BeginLemmas.{IsBeginning, all_asked, begins_beginning, beginning_moves, ended_asked, ended_moves, more_beginning, still_took}
use Rattle.pot_commands.proofs.StepLemmas.{work_stays}
use Rattle.pot_commands.proofs.beginning.begin_lines.Goals as goal

pub returns-in_default-clause-begun : goal.returns-in_default-clause-begun
returns-in_default-clause-begun g c = (
  [],
  beginning_moves c.args.shared.now.vault.now.rack (IsTrue g.R.A.Archive.account.tells) c.args.job c.args.lines.now 0 [] (g.R.Room.meaning c.args.room.now)
      (g.R.Room.meaning c.args.room.now) _ _
      (begins_beginning c.args.shared.now.vault.now.rack _ c.args.job c.args.lines.now [] _ c.args.shared.now.vault.now.groups c.args.shared.now.vault.now.index _ _ refl c.requires.can.ready c.requires.can.index_ready) (omega arith),
)

pub returns-in_default-clause-took : goal.returns-in_default-clause-took
returns-in_default-clause-took g c = still_took _ _ _ _ _

pub loop-index-init : goal.loop-index-init
loop-index-init g c = record {
  can = c.requires.can;
  used = c.requires.used;
  beginning = begins_beginning c.args.shared.now.vault.now.rack _ c.args.job c.args.lines.now _ _ c.args.shared.now.vault.now.groups c.args.shared.now.vault.now.index _ _ c.in-Ok.ensures.items c.requires.can.ready c.requires.can.index_ready;
  own = refl;
  later = omega arith;
  space = c.in-Ok.ensures.capacity;
}

pub returns-in-Err-clause-begun : goal.returns-in-Err-clause-begun
returns-in-Err-clause-begun g c =
    let i = c.loop-index.invariant in
    let e = c.begin_line.ensures in (
      c.loop-index.tasks.items,
      ended_moves _ _ _ _ _ _ _ _ (g.R.Room.meaning c.begin_line.new.room) _ _ _ i.beginning _ c.loop-index-test.true c.index-lines-index.is e.worked
          (work_stays c.args.shared.now.vault.now.rack c.args.shared.now.vault.now.groups c.args.shared.now.vault.now.index _ _ _ _ _ i.can.ready e.can.ready i.can.index_ready e.can.index_ready e.worked)
          e.index c.in-Err.ensures.says,
    )

pub returns-in-Err-clause-took : goal.returns-in-Err-clause-took
returns-in-Err-clause-took g c =
    let i = c.loop-index.invariant in
    let e = c.begin_line.ensures in
    ended_asked _ _ _ _ _ _ _ _ _ _ _ _ i.beginning _ c.loop-index-test.true c.index-lines-index.is e.worked
    (work_stays c.args.shared.now.vault.now.rack c.args.shared.now.vault.now.groups c.args.shared.now.vault.now.index _ _ _ _ _ i.can.ready e.can.ready i.can.index_ready e.can.index_ready e.worked)
    e.index _ _ (λ well same. well (cc same)) c.in-Err.ensures.took

pub loop-index-preserved : goal.loop-index-preserved
loop-index-preserved g c =
    let i = c.loop-index.invariant in
    let e = c.in-Ok-begin_line.ensures in
    record {
      can = e.can;
      used = e.used;
      beginning = subst (λ (ts : List Task). IsBeginning c.args.shared.now.vault.now.rack (IsTrue g.R.A.Archive.account.tells) c.args.job c.args.lines.now (c.loop-index.index + 1) ts
          (g.R.Room.meaning c.args.room.now) (g.R.Room.meaning c.begin_line.new.room)
          (known c.args.passes.now.groups c.args.passes.now.index) (known c.begin_line.new.passes.groups c.begin_line.new.passes.index))
          (sym c.push_reserved.ensures.items)
          (more_beginning _ _ _ _ _ _ _ _ _ _ _ _ i.beginning _ c.loop-index-test.true c.index-lines-index.is e.worked
          (work_stays c.args.shared.now.vault.now.rack c.args.shared.now.vault.now.groups c.args.shared.now.vault.now.index _ _ _ _ _ i.can.ready e.can.ready i.can.index_ready e.can.index_ready e.worked)
          e.index c.in-Ok-begin_line.task e.task e.says _ (λ same. cc same) e.took);
      own = e.own.still (λ x. cc) ∙ i.own;
      later = (let a = i.later in let b = e.cause.later in omega (arith, a, b));
      space = (let a = i.space in let b = c.push_reserved.ensures.capacity in omega (arith, a, b));
    }

pub returns-clause-took : goal.returns-clause-took
returns-clause-took g c =
    let end = c.loop-index.auto.index-end in
    let stop = c.loop-index-test.false in
    all_asked _ _ _ _ _ _ _ _ _ _ _ c.loop-index.invariant.beginning (omega (arith, end, stop))

pub returns-in-Err-clause-asked : goal.returns-in-Err-clause-asked
returns-in-Err-clause-asked g c failed = (c.index-lines-index.result, (c.loop-index.index, c.loop-index-test.true, sym c.index-lines-index.is), c.in-Err.ensures.asked (cc failed))
