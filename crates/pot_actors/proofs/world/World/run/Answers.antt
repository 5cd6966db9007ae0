use Rattle.std.proofs.Common.{Err, take, sym, subst}
use Rattle.pot_world.specs.declared.acts.ActFault.{ActFault}
use Rattle.pot_world.specs.declared.acts.ActFault.TheVariants as act_fault
use Rattle.pot_world.specs.World.{Runs}
use Rattle.pot_actors.specs.declared.parts.Parts.{Parts}
use Rattle.pot_actors.specs.Steps.{ActorSteps}
use Rattle.pot_actors.specs.Worlds.{IsWorldReached, world_of}
use Rattle.pot_actors.proofs.RunLemmas.{reached_by, runs_all, runs_none, runs_on, runs_starved, runs_stopped}
use Rattle.pot_actors.proofs.world.World.run.Goals as goal

pub loop-at-init : goal.loop-at-init
loop-at-init c = subst (λ (q : Parts). Runs (take 0 c.args.steps.now) (world_of q) (world_of c.self.inside.parts)) c.self.view_is (runs_none c.args.steps.now (world_of c.self.inside.parts))

pub invariant_of-self : goal.invariant_of-self
invariant_of-self c = reached_by (take c.loop-at.at c.args.steps.now) c.self.inside.parts c.args.self.now c.loop-at.self-inside.parts c.self.view_is c.self.invariant c.loop-at.invariant

pub step-requires : goal.step-requires
step-requires c = reached_by (take c.loop-at.at c.args.steps.now) c.self.inside.parts c.args.self.now c.loop-at.self-inside.parts c.self.view_is c.self.invariant c.loop-at.invariant

pub invariant_of-self-in-Err-NotAllowed : goal.invariant_of-self-in-Err-NotAllowed
invariant_of-self-in-Err-NotAllowed c =
    let h : ActorSteps c.index-steps-at.result c.loop-at.self-inside.parts c.step.new.self (Err act_fault.NotAllowed) =
    subst (λ (f : ActFault). ActorSteps c.index-steps-at.result c.loop-at.self-inside.parts c.step.new.self (Err f)) c.in-Err-NotAllowed.field-0-is c.in-Err-NotAllowed.ensures in
    subst IsWorldReached (sym h.1)
    (reached_by (take c.loop-at.at c.args.steps.now) c.self.inside.parts c.args.self.now c.loop-at.self-inside.parts c.self.view_is c.self.invariant c.loop-at.invariant)

pub returns-in-Err-NotAllowed : goal.returns-in-Err-NotAllowed
returns-in-Err-NotAllowed c =
    let h : ActorSteps c.index-steps-at.result c.loop-at.self-inside.parts c.step.new.self (Err act_fault.NotAllowed) =
    subst (λ (f : ActFault). ActorSteps c.index-steps-at.result c.loop-at.self-inside.parts c.step.new.self (Err f)) c.in-Err-NotAllowed.field-0-is c.in-Err-NotAllowed.ensures in
    runs_stopped c.args.steps.now c.loop-at.at c.index-steps-at.result (world_of c.args.self.now) (world_of c.loop-at.self-inside.parts) (world_of c.step.new.self) c.loop-at-test.true (sym c.index-steps-at.is)
    c.loop-at.invariant h

pub invariant_of-self-in-Err-NoMemory : goal.invariant_of-self-in-Err-NoMemory
invariant_of-self-in-Err-NoMemory c =
    let h : ActorSteps c.index-steps-at.result c.loop-at.self-inside.parts c.step.new.self (Err act_fault.NoMemory) =
    subst (λ (f : ActFault). ActorSteps c.index-steps-at.result c.loop-at.self-inside.parts c.step.new.self (Err f)) c.in-Err-NoMemory.field-0-is c.in-Err-NoMemory.ensures in
    subst IsWorldReached (sym h)
    (reached_by (take c.loop-at.at c.args.steps.now) c.self.inside.parts c.args.self.now c.loop-at.self-inside.parts c.self.view_is c.self.invariant c.loop-at.invariant)

pub returns-in-Err-NoMemory : goal.returns-in-Err-NoMemory
returns-in-Err-NoMemory c =
    let h : ActorSteps c.index-steps-at.result c.loop-at.self-inside.parts c.step.new.self (Err act_fault.NoMemory) =
    subst (λ (f : ActFault). ActorSteps c.index-steps-at.result c.loop-at.self-inside.parts c.step.new.self (Err f)) c.in-Err-NoMemory.field-0-is c.in-Err-NoMemory.ensures in
    runs_starved c.args.steps.now c.loop-at.at (world_of c.args.self.now) (world_of c.loop-at.self-inside.parts) (world_of c.step.new.self) c.loop-at-test.true c.loop-at.invariant h

pub loop-at-preserved : goal.loop-at-preserved
loop-at-preserved c =
    runs_on c.args.steps.now c.loop-at.at c.index-steps-at.result (world_of c.args.self.now) (world_of c.loop-at.self-inside.parts) (world_of c.step.new.self) c.loop-at-test.true (sym c.index-steps-at.is)
    c.loop-at.invariant c.in-Ok.ensures

pub returns : goal.returns
returns c = runs_all c.args.steps.now c.loop-at.at (world_of c.args.self.now) (world_of c.loop-at.self-inside.parts) c.loop-at-test.false c.loop-at.invariant
