use Rattle.std.proofs.Common.{◌≡◌, ◌+◌, refl, ap, sym, ◌∙◌, subst, arith, slice_index_or}
use Rattle.pot_bytes.specs.declared.rack.Place.{Place}
use Rattle.pot_bytes.specs.Rack.{no_place}
use Rattle.pot_shared.specs.Ready.{HasSlot}
use Rattle.pot_store.specs.Visits.{place_in}
use Rattle.pot_shared.proofs.BlindLemmas.{none_more, none_yet}
use Rattle.pot_store.proofs.BlindLemmas.{none_look}
use Rattle.pot_store.proofs.FitLemmas.{current_fits, fragment_apart, has_slot}
use Rattle.pot_store.proofs.PointLemmas.{looks_begin, looks_end, looks_enough, looks_full, looks_step}
use Rattle.pot_store.proofs.fragments.look_at_points.Goals as goal

pub loop-x-init : goal.loop-x-init
loop-x-init g c = (
  c.requires.ready,
  refl,
  looks_begin c.args.caller.now.job c.args.kept.now.places c.args.from c.args.kept.now.geometry.shards c.args.kept.now.geometry.need c.clear.new.self c.args.passes.now.groups c.requires.ready.idle c.clear.ensures,
  none_yet c.args.caller.now.job c.args.passes.now.groups c.requires.ready.idle,
)

pub count-requires : goal.count-requires
count-requires g c = (current_fits c.args.caller.now.vault.now.rack c.args.kept.now c.requires.fits).geometry.limits.shards

pub returns-then-count-kept-clause-read : goal.returns-then-count-kept-clause-read
returns-then-count-kept-clause-read g c =
    looks_enough c.args.caller.now.job c.args.kept.now.places c.args.from c.args.kept.now.geometry.shards c.args.kept.now.geometry.need c.loop-x.x c.loop-x.points c.args.passes.now.groups c.loop-x.passes.groups
    c.loop-x.invariant.2 (sym c.count.ensures ∙ c.if-count-kept.true)

pub look_at_point-requires-clause-place : goal.look_at_point-requires-clause-place
look_at_point-requires-clause-place g c =
    let rack = c.args.caller.now.vault.now.rack in
    let kept = c.args.kept.now in
    let lt = c.loop-x-test.true in
    let at : slice_index_or c.as_slice-places.result.now (c.args.from + c.from.result) no_place ≡ place_in kept.places (c.args.from + c.loop-x.x) =
    ap (λ ps. slice_index_or ps (c.args.from + c.from.result) no_place) c.as_slice-places.ensures ∙ ap (λ m. place_in kept.places (c.args.from + m)) c.from.ensures in
    subst (λ p. HasSlot rack c.args.caller.now.vault.now.groups p) (sym at) (has_slot rack kept c.requires.fits c.args.caller.now.vault.now.groups (c.args.from + c.loop-x.x) c.requires.groups (let within = c.requires.within in omega (arith, lt, within)))

pub look_at_point-requires-clause-point : goal.look_at_point-requires-clause-point
look_at_point-requires-clause-point g c =
    let lt = c.loop-x-test.true in
    let few = (current_fits c.args.caller.now.vault.now.rack c.args.kept.now c.requires.fits).geometry.limits.shards in
    omega (arith, lt, few)

pub returns-then-not-look_at_point-clause-read : goal.returns-then-not-look_at_point-clause-read
returns-then-not-look_at_point-clause-read g c =
    let kept = c.args.kept.now in
    let p : Place = slice_index_or c.as_slice-places.result.now (c.args.from + c.from.result) no_place in
    let at : p ≡ place_in kept.places (c.args.from + c.loop-x.x) =
    ap (λ ps. slice_index_or ps (c.args.from + c.from.result) no_place) c.as_slice-places.ensures ∙ ap (λ m. place_in kept.places (c.args.from + m)) c.from.ensures in
    looks_full c.args.caller.now.job kept.places c.args.from kept.geometry.shards kept.geometry.need c.loop-x.x c.loop-x.points c.look_at_point.new.points p c.args.passes.now.groups c.loop-x.passes.groups
    c.look_at_point.new.passes.groups (fragment_apart c.args.caller.now.vault.now.rack kept c.requires.fits c.args.from c.requires.fragment) c.loop-x-test.true at c.loop-x.invariant.2
    (λ e. c.if-count-kept.false (c.count.ensures ∙ e)) c.if-not-look_at_point.ensures.read

pub loop-x-preserved : goal.loop-x-preserved
loop-x-preserved g c =
    let kept = c.args.kept.now in
    let p : Place = slice_index_or c.as_slice-places.result.now (c.args.from + c.from.result) no_place in
    let at : p ≡ place_in kept.places (c.args.from + c.loop-x.x) =
    ap (λ ps. slice_index_or ps (c.args.from + c.from.result) no_place) c.as_slice-places.ensures ∙ ap (λ m. place_in kept.places (c.args.from + m)) c.from.ensures in (
      c.look_at_point.ensures.ready,
      c.look_at_point.ensures.index ∙ c.loop-x.invariant.1,
      looks_step c.args.caller.now.job kept.places c.args.from kept.geometry.shards kept.geometry.need c.loop-x.x c.loop-x.points c.look_at_point.new.points p c.args.passes.now.groups c.loop-x.passes.groups
          c.look_at_point.new.passes.groups (fragment_apart c.args.caller.now.vault.now.rack kept c.requires.fits c.args.from c.requires.fragment) c.loop-x-test.true at c.loop-x.invariant.2
          (λ e. c.if-count-kept.false (c.count.ensures ∙ e)) c.if-not-look_at_point.ensures.read,
      none_more c.args.caller.now.job c.args.passes.now.groups c.loop-x.passes.groups c.look_at_point.new.passes.groups c.loop-x.invariant.3
          (none_look c.args.caller.now.job p c.if-not-look_at_point.ensures.read.came c.loop-x.passes.groups c.look_at_point.new.passes.groups c.if-not-look_at_point.ensures.read.step),
    )

pub returns-clause-read : goal.returns-clause-read
returns-clause-read g c =
    let kept = c.args.kept.now in
    let last = c.loop-x-test.false in
    let bound = c.loop-x.auto.x-end in
    looks_end c.args.caller.now.job kept.places c.args.from kept.geometry.shards kept.geometry.need c.loop-x.x c.loop-x.points c.args.passes.now.groups c.loop-x.passes.groups c.loop-x.invariant.2
    (omega (arith, last, bound))

pub returns-then-not-look_at_point-clause-quiet : goal.returns-then-not-look_at_point-clause-quiet
returns-then-not-look_at_point-clause-quiet g c =
    let p : Place = slice_index_or c.as_slice-places.result.now (c.args.from + c.from.result) no_place in
    none_more c.args.caller.now.job c.args.passes.now.groups c.loop-x.passes.groups c.look_at_point.new.passes.groups c.loop-x.invariant.3
    (none_look c.args.caller.now.job p c.if-not-look_at_point.ensures.read.came c.loop-x.passes.groups c.look_at_point.new.passes.groups c.if-not-look_at_point.ensures.read.step)
