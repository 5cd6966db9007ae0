use Rattle.std.proofs.Common.{arith, refl, ◌∙◌}
use Rattle.pot_mend.proofs.ScrubLemmas.{scrub_begin, scrub_end_row, scrub_fault_row, scrub_fits, scrub_full_row, scrub_less, scrub_narrow, scrub_step, scrub_works}
use Rattle.pot_mend.proofs.SectionLemmas.{call_in}
use Rattle.pot_mend.proofs.scrubbing.scrub_group.Goals as goal

pub sweeps-init : goal.sweeps-init
sweeps-init g c = (c.requires.ready, refl, refl, scrub_begin c.args.job c.args.group c.args.passes.now.groups c.requires.ready.idle)

pub overflow_add-scrubbed : goal.overflow_add-scrubbed
overflow_add-scrubbed g c =
    let fits = scrub_fits c.requires.group c.sweeps.invariant.0 c.sweeps.invariant.3 (call_in c.sweeps.invariant.2 c.sweep-swept.ensures.call) in
    omega (arith, fits)

pub overflow_add-scrubbed-in-sweeps : goal.overflow_add-scrubbed-in-sweeps
overflow_add-scrubbed-in-sweeps g c =
    let fits = scrub_fits c.requires.group c.sweeps.invariant.0 c.sweeps.invariant.3 (call_in c.sweeps.invariant.2 c.sweep-swept.ensures.call) in
    omega (arith, fits)

pub returns-in-End-clause-worked : goal.returns-in-End-clause-worked
returns-in-End-clause-worked g c = scrub_works c.requires.group c.sweeps.invariant.0 c.sweeps.invariant.3 (call_in c.sweeps.invariant.2 c.sweep-swept.ensures.call)

pub returns-in-End-clause-says : goal.returns-in-End-clause-says
returns-in-End-clause-says g c =
    λ alone s set. scrub_end_row c.requires.group c.sweeps.invariant.0 c.sweeps.invariant.3 (call_in c.sweeps.invariant.2 c.sweep-swept.ensures.call)
    s c.args.passes.now.index c.sweep-swept.new.passes.index (c.sweep-swept.ensures.index ∙ c.sweeps.invariant.1) (let a = c.requires.group in let b = c.requires.ready.of.0 in rw b a) alone set c.in-End.is

pub overflow_add-from : goal.overflow_add-from
overflow_add-from g c =
    let narrow = scrub_narrow c.requires.group c.sweeps.invariant.0 c.sweeps.invariant.3 (call_in c.sweeps.invariant.2 c.sweep-swept.ensures.call) c.in-Slot.stripe c.in-Slot.column c.in-Slot.is in
    omega (arith, narrow)

pub sweeps-smaller : goal.sweeps-smaller
sweeps-smaller g c = scrub_less c.requires.group c.sweeps.invariant.0 c.sweeps.invariant.3 (call_in c.sweeps.invariant.2 c.sweep-swept.ensures.call) c.in-Slot.stripe c.in-Slot.column c.in-Slot.is

pub sweeps-preserved : goal.sweeps-preserved
sweeps-preserved g c = (
  c.sweep-swept.ensures.ready,
  c.sweep-swept.ensures.index ∙ c.sweeps.invariant.1,
  c.sweeps.invariant.2,
  scrub_step c.requires.group c.sweeps.invariant.0 c.sweeps.invariant.3 (call_in c.sweeps.invariant.2 c.sweep-swept.ensures.call) c.in-Slot.stripe c.in-Slot.column c.in-Slot.is,
)

pub returns-in-Faulted-clause-worked : goal.returns-in-Faulted-clause-worked
returns-in-Faulted-clause-worked g c = scrub_works c.requires.group c.sweeps.invariant.0 c.sweeps.invariant.3 (call_in c.sweeps.invariant.2 c.sweep-swept.ensures.call)

pub returns-in-Faulted-clause-says : goal.returns-in-Faulted-clause-says
returns-in-Faulted-clause-says g c =
    λ alone s set. (
      refl,
      scrub_fault_row c.requires.group c.sweeps.invariant.0 c.sweeps.invariant.3 (call_in c.sweeps.invariant.2 c.sweep-swept.ensures.call)
          s c.args.passes.now.index c.sweep-swept.new.passes.index (c.sweep-swept.ensures.index ∙ c.sweeps.invariant.1) (let a = c.requires.group in let b = c.requires.ready.of.0 in rw b a) alone set c.in-Faulted.column c.in-Faulted.is,
    )

pub returns-in-LogFull-clause-worked : goal.returns-in-LogFull-clause-worked
returns-in-LogFull-clause-worked g c = scrub_works c.requires.group c.sweeps.invariant.0 c.sweeps.invariant.3 (call_in c.sweeps.invariant.2 c.sweep-swept.ensures.call)

pub returns-in-LogFull-clause-says : goal.returns-in-LogFull-clause-says
returns-in-LogFull-clause-says g c =
    λ alone s set. (
      refl,
      scrub_full_row c.requires.group c.sweeps.invariant.0 c.sweeps.invariant.3 (call_in c.sweeps.invariant.2 c.sweep-swept.ensures.call)
          s c.args.passes.now.index c.sweep-swept.new.passes.index (c.sweep-swept.ensures.index ∙ c.sweeps.invariant.1) (let a = c.requires.group in let b = c.requires.ready.of.0 in rw b a) alone set c.in-LogFull.is,
    )
