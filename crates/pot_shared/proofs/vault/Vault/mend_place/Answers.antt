use Rattle.std.proofs.Common.{◌∙◌, refl, arith}
use Rattle.pot_group.specs.declared.relaying.Mend.TheVariants as mend
use Rattle.pot_shared.proofs.PlaceLemmas.{falls, grows, is_last, mending_began, mending_ends, mending_mended, mending_none, mending_passed, mending_went}
use Rattle.pot_shared.proofs.vault.Vault.mend_place.Goals as goal

pub steps-init : goal.steps-init
steps-init g c = (c.requires.ready, refl, mending_none _ _ _ _ _ _ _ c.draw_blind-blind.ensures.block c.draw_blind-blind.ensures.stream c.requires.ready.idle)

pub steps-preserved-in-Began : goal.steps-preserved-in-Began
steps-preserved-in-Began g c = (
  c.in-Began.ensures.ready,
  c.in-Began.ensures.index ∙ c.steps.invariant.1,
  mending_began _ _ _ _ _ _ _ _ _ _ _ _ c.requires.ready.of c.steps.invariant.0.of c.steps.invariant.0.idle c.requires.place.0 c.steps.invariant.2 _ _ c.in-Began.ensures.call
      c.draw_blind-blind-in-Began.ensures.block c.draw_blind-blind-in-Began.ensures.stream,
)

pub steps-smaller-in-Began : goal.steps-smaller-in-Began
steps-smaller-in-Began g c = falls _ _ _ _ mend.Began _ _ _ c.steps.invariant.0.of c.requires.place.0 (tt) c.in-Began.ensures.call

pub steps-preserved-in-Extends : goal.steps-preserved-in-Extends
steps-preserved-in-Extends g c = (
  c.in-Extends.ensures.ready,
  c.in-Extends.ensures.index ∙ c.steps.invariant.1,
  mending_went _ _ _ _ _ _ _ _ _ _ _ _ c.requires.ready.of c.steps.invariant.0.of c.steps.invariant.0.idle c.requires.place.0 c.steps.invariant.2 c.in-Extends.ensures.call,
)

pub steps-smaller-in-Extends : goal.steps-smaller-in-Extends
steps-smaller-in-Extends g c = falls _ _ _ _ mend.Extends _ _ _ c.steps.invariant.0.of c.requires.place.0 (tt) c.in-Extends.ensures.call

pub overflow_add-mended : goal.overflow_add-mended
overflow_add-mended g c =
    let few = c.steps.invariant.2.few in
    let more = grows _ _ _ _ mend.Mended _ _ _ c.steps.invariant.0.of c.requires.place.0 (tt) c.in-Mended.ensures.call in
    let first = more.0 in
    let last = more.1 in
    omega (arith, few, first, last)

pub steps-preserved-in-Mended : goal.steps-preserved-in-Mended
steps-preserved-in-Mended g c = (
  c.in-Mended.ensures.ready,
  c.in-Mended.ensures.index ∙ c.steps.invariant.1,
  mending_mended _ _ _ _ _ _ _ _ _ _ _ _ c.requires.ready.of c.steps.invariant.0.of c.steps.invariant.0.idle c.requires.place.0 c.steps.invariant.2 _ refl c.in-Mended.ensures.call,
)

pub steps-smaller-in-Mended : goal.steps-smaller-in-Mended
steps-smaller-in-Mended g c = falls _ _ _ _ mend.Mended _ _ _ c.steps.invariant.0.of c.requires.place.0 (tt) c.in-Mended.ensures.call

pub overflow_add-passed : goal.overflow_add-passed
overflow_add-passed g c =
    let few = c.steps.invariant.2.few in
    let more = grows _ _ _ _ mend.Passed _ _ _ c.steps.invariant.0.of c.requires.place.0 (tt) c.in-Passed.ensures.call in
    let first = more.0 in
    let last = more.1 in
    omega (arith, few, first, last)

pub steps-smaller : goal.steps-smaller
steps-smaller g c = falls _ _ _ _ mend.Passed _ _ _ c.steps.invariant.0.of c.requires.place.0 (tt) c.in-Passed.ensures.call

pub steps-preserved : goal.steps-preserved
steps-preserved g c = (
  c.in-Passed.ensures.ready,
  c.in-Passed.ensures.index ∙ c.steps.invariant.1,
  mending_passed _ _ _ _ _ _ _ _ _ _ _ _ c.requires.ready.of c.steps.invariant.0.of c.steps.invariant.0.idle c.requires.place.0 c.steps.invariant.2 _ refl c.in-Passed.ensures.call,
)

pub returns-in_default : goal.returns-in_default
returns-in_default g c = record {
  ready = c.mend_step.ensures.ready;
  index = c.mend_step.ensures.index ∙ c.steps.invariant.1;
  mended = mending_ends _ _ _ _ _ _ _ _ _ _ _ _ c.requires.ready.of c.steps.invariant.0.of c.steps.invariant.0.idle c.requires.place.0 c.steps.invariant.2 _ c.mend_step.ensures.call
      (is_last c.mend_step.result c.in_default.not-Began c.in_default.not-Extends c.in_default.not-Mended c.in_default.not-Passed);
}
