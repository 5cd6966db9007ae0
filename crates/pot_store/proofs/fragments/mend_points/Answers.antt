use Rattle.std.proofs.Common.{◌≡◌, ◌≢◌, ◌+◌, ℕ, [], refl, ap, sym, ◌∙◌, subst, arith, slice_index_or}
use Rattle.pot_bytes.specs.declared.rack.Place.{Place}
use Rattle.pot_bytes.specs.Rack.{no_place}
use Rattle.pot_pads.specs.Pads.{Pads}
use Rattle.pot_shared.specs.Ready.{AreReady, HasSlot}
use Rattle.pot_store.specs.declared.points.Points.{Points}
use Rattle.pot_store.specs.declared.visiting.Point.TheVariants as point
use Rattle.pot_store.specs.Visits.{Gone, came_of, place_in}
use Rattle.pot_store.specs.Points.{came_in}
use Rattle.pot_shared.specs.Blinds.{Blinds}
use Rattle.pot_store.specs.Reads.{PointsTried}
use Rattle.pot_shared.proofs.BlindLemmas.{blinds_fewer, blinds_none, blinds_then}
use Rattle.pot_store.proofs.FitLemmas.{current_fits, fragment_apart, has_slot}
use Rattle.pot_store.proofs.NoteLemmas.{not_gone}
use Rattle.pot_store.proofs.PointLemmas.{mends_end, mends_enough, mends_full, mends_pass, mends_step}
use Rattle.pot_store.proofs.fragments.mend_points.Goals as goal
use Rattle.pot_store.proofs.fragments.mend_points.Goals.{in-Gone+else-not-mend_point, in_default}

-- what came of a point that is known as Gone, and of another
is_gone : (s : Points) (x : ℕ) → slice_index_or s.known.items x point.Unknown ≡ point.Gone → came_in s x ≡ Gone
is_gone s x is = ap (λ p. came_of p (slice_index_or s.blocks.items x [])) is

not_gone_there : (s : Points) (x : ℕ) → slice_index_or s.known.items x point.Unknown ≢ point.Gone → came_in s x ≢ Gone
not_gone_there s x other = not_gone (slice_index_or s.known.items x point.Unknown) (slice_index_or s.blocks.items x []) other

pub loop-x-init : goal.loop-x-init
loop-x-init g c = (c.requires.ready, refl, λ first tried. tried, blinds_none c.requires.ready.idle)

pub count-requires : goal.count-requires
count-requires g c = (current_fits c.args.caller.now.vault.now.rack c.args.kept.now c.requires.fits).geometry.limits.shards

pub returns-then-count-kept-clause-read : goal.returns-then-count-kept-clause-read
returns-then-count-kept-clause-read g c = λ first tried.
    mends_enough c.args.caller.now.job c.args.kept.now.places c.args.from c.args.kept.now.geometry.shards c.args.kept.now.geometry.need c.loop-x.x c.loop-x.points first c.loop-x.passes.groups
    (c.loop-x.invariant.2 first tried) (sym c.count.ensures ∙ c.if-count-kept.true)

pub known-requires : goal.known-requires
known-requires g c =
    let lt = c.loop-x-test.true in
    let few = (current_fits c.args.caller.now.vault.now.rack c.args.kept.now c.requires.fits).geometry.limits.shards in
    omega (arith, lt, few)

pub mend_point-requires-clause-place : goal.mend_point-requires-clause-place
mend_point-requires-clause-place g c =
    let rack = c.args.caller.now.vault.now.rack in
    let kept = c.args.kept.now in
    let lt = c.loop-x-test.true in
    let at : slice_index_or c.as_slice-places.result.now (c.args.from + c.from.result) no_place ≡ place_in kept.places (c.args.from + c.loop-x.x) =
    ap (λ ps. slice_index_or ps (c.args.from + c.from.result) no_place) c.as_slice-places.ensures ∙ ap (λ m. place_in kept.places (c.args.from + m)) c.from.ensures in
    subst (λ p. HasSlot rack c.args.caller.now.vault.now.groups p) (sym at)
    (has_slot rack kept c.requires.fits c.args.caller.now.vault.now.groups (c.args.from + c.loop-x.x) c.requires.groups (let within = c.requires.within in omega (arith, lt, within)))

pub returns-then-not-mend_point-clause-read : goal.returns-then-not-mend_point-clause-read
returns-then-not-mend_point-clause-read g c = λ first tried.
    let kept = c.args.kept.now in
    let p : Place = slice_index_or c.as_slice-places.result.now (c.args.from + c.from.result) no_place in
    let at : p ≡ place_in kept.places (c.args.from + c.loop-x.x) =
    ap (λ ps. slice_index_or ps (c.args.from + c.from.result) no_place) c.as_slice-places.ensures ∙ ap (λ m. place_in kept.places (c.args.from + m)) c.from.ensures in
    mends_full c.args.caller.now.job kept.places c.args.from kept.geometry.shards kept.geometry.need c.loop-x.x c.loop-x.points first c.loop-x.passes.groups (c.loop-x.invariant.2 first tried)
    c.mend_point.new.points p c.mend_point.new.passes.groups (fragment_apart c.args.caller.now.vault.now.rack kept c.requires.fits c.args.from c.requires.fragment) c.loop-x-test.true at
    (λ e. c.if-count-kept.false (c.count.ensures ∙ e)) (is_gone c.loop-x.points c.loop-x.x (sym c.known.ensures ∙ c.in-Gone.is)) c.if-not-mend_point.ensures.read

pub loop-x-preserved : goal.loop-x-preserved
loop-x-preserved g c =
    let kept = c.args.kept.now in
    let x : ℕ = c.loop-x.x in
    let n : ℕ = kept.geometry.shards in
    let need : ℕ = kept.geometry.need in
    let points : Points = c.loop-x.points in
    elim c.match-known.branch [
      | in-Gone+else-not-mend_point w ↦
          let p : Place = slice_index_or c.as_slice-places.result.now (c.args.from + w.from.result) no_place in
          let at : p ≡ place_in kept.places (c.args.from + x) =
          ap (λ ps. slice_index_or ps (c.args.from + w.from.result) no_place) c.as_slice-places.ensures ∙ ap (λ m. place_in kept.places (c.args.from + m)) w.from.ensures in (
            subst (λ r. AreReady c.args.caller.now.vault.now.rack c.args.caller.now.vault.now.groups r.groups) (sym w.passes-is) w.mend_point.ensures.ready,
            ap (λ r. r.index) w.passes-is ∙ (w.mend_point.ensures.index ∙ c.loop-x.invariant.1),
            λ first tried.
                subst (λ s. PointsTried c.args.caller.now.job kept.places c.args.from n need (x + 1) s first c.match-known.passes.groups) (sym w.points-is)
                (subst (λ r. PointsTried c.args.caller.now.job kept.places c.args.from n need (x + 1) w.mend_point.new.points first r.groups) (sym w.passes-is)
                (mends_step c.args.caller.now.job kept.places c.args.from n need x points first c.loop-x.passes.groups (c.loop-x.invariant.2 first tried)
                w.mend_point.new.points p w.mend_point.new.passes.groups (fragment_apart c.args.caller.now.vault.now.rack kept c.requires.fits c.args.from c.requires.fragment) c.loop-x-test.true at
                (λ e. c.if-count-kept.false (c.count.ensures ∙ e)) (is_gone points x (sym c.known.ensures ∙ w.in-Gone.is)) w.if-not-mend_point.ensures.read)),
            subst (λ (s : Pads). Blinds c.args.caller.now.job (x + 1) c.args.pads.now s c.args.passes.now.groups c.match-known.passes.groups) (sym w.pads-is)
                (subst (λ r. Blinds c.args.caller.now.job (x + 1) c.args.pads.now w.mend_point.new.pads c.args.passes.now.groups r.groups) (sym w.passes-is)
                (blinds_then c.loop-x.invariant.3 w.mend_point.ensures.blinds (omega arith))),
          )
      | in_default w ↦ (
        subst (λ r. AreReady c.args.caller.now.vault.now.rack c.args.caller.now.vault.now.groups r.groups) (sym w.passes-is) c.loop-x.invariant.0,
        ap (λ r. r.index) w.passes-is ∙ c.loop-x.invariant.1,
        λ first tried.
            subst (λ s. PointsTried c.args.caller.now.job kept.places c.args.from n need (x + 1) s first c.match-known.passes.groups) (sym w.points-is)
            (subst (λ r. PointsTried c.args.caller.now.job kept.places c.args.from n need (x + 1) points first r.groups) (sym w.passes-is)
            (mends_pass c.args.caller.now.job kept.places c.args.from n need x points first c.loop-x.passes.groups (c.loop-x.invariant.2 first tried)
            (not_gone_there points x (λ e. w.in_default.not-Gone (c.known.ensures ∙ e))))),
        subst (λ (s : Pads). Blinds c.args.caller.now.job (x + 1) c.args.pads.now s c.args.passes.now.groups c.match-known.passes.groups) (sym w.pads-is)
            (subst (λ r. Blinds c.args.caller.now.job (x + 1) c.args.pads.now c.loop-x.pads c.args.passes.now.groups r.groups) (sym w.passes-is) (blinds_fewer c.loop-x.invariant.3 (omega arith))),
      )
    ]

pub returns-clause-read : goal.returns-clause-read
returns-clause-read g c = λ first tried.
    let kept = c.args.kept.now in
    let last = c.loop-x-test.false in
    let bound = c.loop-x.auto.x-end in
    mends_end c.args.caller.now.job kept.places c.args.from kept.geometry.shards kept.geometry.need c.loop-x.x c.loop-x.points first c.loop-x.passes.groups (c.loop-x.invariant.2 first tried)
    (omega (arith, last, bound))

pub returns-then-not-mend_point-clause-blinds : goal.returns-then-not-mend_point-clause-blinds
returns-then-not-mend_point-clause-blinds g c =
    let lt = c.loop-x-test.true in
    let few = (current_fits c.args.caller.now.vault.now.rack c.args.kept.now c.requires.fits).geometry.limits.shards in
    blinds_then c.loop-x.invariant.3 c.mend_point.ensures.blinds (omega (arith, lt, few))

pub returns-then-count-kept-clause-blinds : goal.returns-then-count-kept-clause-blinds
returns-then-count-kept-clause-blinds g c =
    let lt = c.loop-x-test.true in
    let few = (current_fits c.args.caller.now.vault.now.rack c.args.kept.now c.requires.fits).geometry.limits.shards in
    blinds_fewer c.loop-x.invariant.3 (omega (arith, lt, few))

pub returns-clause-blinds : goal.returns-clause-blinds
returns-clause-blinds g c =
    let bound = c.loop-x.auto.x-end in
    let few = (current_fits c.args.caller.now.vault.now.rack c.args.kept.now c.requires.fits).geometry.limits.shards in
    blinds_fewer c.loop-x.invariant.3 (omega (arith, bound, few))
