-- A group of the world goes along with the calls of a running group.
use Rattle.std.proofs.Common.{◌≡◌, ℕ, ◌<◌, [], ◌∷◌, ◌++◌, Bool, refl, sym, ◌∙◌, subst}
use Rattle.pot_machine.specs.declared.entry.Entry.{Entry}
use Rattle.pot_machine.specs.declared.entry.Entry.TheVariants as entry
use Rattle.pot_steps.specs.GroupStep.{GroupState, Seen, Gone, Faulted, LogFull, Placed, NotPut, Full, NoRoom}
use Rattle.pot_steps.specs.MoveSteps.{Copied, Passed, MoveEnded, MoveFaulted, MoveIdle, MoveFull}
use Rattle.pot_execution.specs.Execution.{Call, StepOf, IsCallAsked}
use Rattle.pot_execution.specs.Execution as call
use Rattle.pot_world.specs.Group.{WorldGroup}
use Rattle.pot_world.specs.Acts.{Look, PutNext, Mend, MoveBegin, MoveOne, Swap}
use Rattle.pot_world.proofs.FullTying.{full_tied}
use Rattle.pot_world.proofs.MendTying.{mend_tied}
use Rattle.pot_world.proofs.MoveTying.{move_begin_tied, move_tied, swap_tied}
use Rattle.pot_world.proofs.PutTying.{put_tied}
use Rattle.pot_world.proofs.Tying.{look_tied}
use Rattle.pot_refinement.proofs.Acting.{acts_join, by_tie, by_losses, matches}
use Rattle.pot_refinement.proofs.Openings.{opens}
use Rattle.pot_refinement.specs.Refinement.{Simulates, GoesWell, used_after, used_by_all, ActsTo, ExecutionSimulated}

-- EACH KIND OF CALL

follow : (used : ℕ → Bool) (g : WorldGroup) (c : Call) (old new : GroupState) (f : Simulates used g old) → IsCallAsked c old → (step : StepOf c old new) → GoesWell used c old new step → ActsTo used g (used_after used c) new
follow used g call.Open old new f asked step well = opens used g old new f step well
follow used g (call.Put job block (Placed s c)) old new f asked step well =
    let t = put_tied used f.numbers job s c block g old new (matches used g old f) asked step in by_tie used t.0 (PutNext job block) g old new f t.1
follow used g (call.Put job block Full) old new f asked step well =
    let t = full_tied used f.numbers job block g old new (matches used g old f) asked step in by_tie used t.0 (PutNext job block) g old new f t.1
follow used g (call.Put job block (NotPut column)) old new f asked step well = absurd well
follow used g (call.Put job block NoRoom) old new f asked step well = absurd well
follow used g (call.Look job s c (Seen block)) old new f asked step well =
    by_tie used _ (Look job s c) g old new f (look_tied used f.numbers job s c (Seen block) g old new (matches used g old f) asked.0 asked.1 tt step)
follow used g (call.Look job s c Gone) old new f asked step well =
    by_tie used _ (Look job s c) g old new f (look_tied used f.numbers job s c Gone g old new (matches used g old f) asked.0 asked.1 tt step)
follow used g (call.Look job s c Faulted) old new f asked step well = by_losses used g old new f step.replay.1 step.logs.flights step.logs.heard step.loses
follow used g (call.Look job s c LogFull) old new f asked step well = by_losses used g old new f step.replay step.logs.flights step.logs.heard step.loses
follow used g (call.Count job) old new f asked step well = by_losses used g old new f step.replay.1 step.logs.flights step.logs.heard step.loses
follow used g (call.Mend job s c blind answer) old new f asked step well =
    let t = mend_tied used f.numbers job s c blind answer g old new (matches used g old f) asked.0 asked.1 asked.2 well step in by_tie used t.0 (Mend job s c blind) g old new f t.1
follow used g (call.MoveBegin job c to held heard) old new f asked step well =
    by_tie used _ (MoveBegin job c to) g old new f (move_begin_tied used f.numbers job c to held heard g old new (matches used g old f) well.0 well.1 step)
follow used g (call.MoveOne job c Copied) old new f asked step well =
    let t = move_tied used f.numbers job c Copied g old new (matches used g old f) tt step in by_tie used t.0 (MoveOne job c) g old new f t.1
follow used g (call.MoveOne job c Passed) old new f asked step well =
    let t = move_tied used f.numbers job c Passed g old new (matches used g old f) tt step in by_tie used t.0 (MoveOne job c) g old new f t.1
follow used g (call.MoveOne job c MoveEnded) old new f asked step well =
    let t = move_tied used f.numbers job c MoveEnded g old new (matches used g old f) tt step in by_tie used t.0 (MoveOne job c) g old new f t.1
follow used g (call.MoveOne job c MoveFaulted) old new f asked step well = absurd well
follow used g (call.MoveOne job c MoveFull) old new f asked step well = absurd well
follow used g (call.MoveOne job c MoveIdle) old new f asked step well =
    by_losses used g old new f step.0.table step.0.flights step.0.heard (λ n k b e. sym (step.0.held n k) ∙ e)
follow used g (call.Swap job c to held heard) old new f asked step well =
    by_tie used _ (Swap job c to) g old new f (swap_tied used f.numbers job c to held heard g old new (matches used g old f) well.0 well.1 step)

-- CALL AFTER CALL

pub follows_all : ExecutionSimulated
follows_all used g [] old new f leads well = record { acts = []; group = g; go = (refl, refl); follows = subst (λ s. Simulates used g s) (sym leads) f }
follows_all used g (c ∷ calls) old new f leads well =
    let one = follow used g c old leads.0 f leads.1 leads.2 well.0 in
    let more = follows_all (used_after used c) one.group calls leads.0 new one.follows leads.3 well.1 in
    record {
      acts = one.acts ++ more.acts;
      group = more.group;
      go = acts_join used (used_after used c) (used_by_all calls (used_after used c)) g one.group more.group one.acts more.acts one.go more.go;
      follows = more.follows;
    }
