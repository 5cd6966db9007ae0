use Rattle.std.proofs.Common.{◌≡◌, ◌≤◌, ◌<◌, ◌+◌, ◌*◌, ◌++◌, ℕ, length, ap, ◌∙◌, subst, arith}
use Rattle.std.specs.Prelude.{Err}
use Rattle.std.proofs.lemmas.Result.{err_from_is_err_and}
use Rattle.pot_machine.specs.Table.{count}
use Rattle.pot_store.specs.declared.points.Points.{Points}
use Rattle.pot_store.specs.Visits.{block_in, was_seen}
use Rattle.pot_store.specs.Points.{came_in}
use Rattle.pot_store.specs.Reads.{IsFileMissing, PointsRead, PointsTried}
use Rattle.pot_store.proofs.FitLemmas.{current_fits, fragment_within, points_within, pieces_few}
use Rattle.pot_store.proofs.NoteLemmas.{points_count, points_distinct, points_positive}
use Rattle.pot_store.proofs.KnownLemmas.{seen_most}
use Rattle.pot_store.proofs.GatherLemmas.{behind_whole}
use Rattle.pot_store.proofs.PointLemmas.{fragment_had, fragment_missing, fragment_refused}
use Rattle.pot_store.proofs.fragments.read_fragment.Goals as goal

pub first_block-from-requires-clause-geometry : goal.first_block-from-requires-clause-geometry
first_block-from-requires-clause-geometry g c = (current_fits c.args.caller.now.vault.now.rack c.args.kept.now c.requires.fits).geometry.limits

pub first_block-from-requires-clause-piece : goal.first_block-from-requires-clause-piece
first_block-from-requires-clause-piece g c =
    let few = pieces_few c.args.kept.now.length c.requires.fits.long in let lt = c.requires.piece in omega (arith, few, lt)

pub see_points-requires-clause-fragment : goal.see_points-requires-clause-fragment
see_points-requires-clause-fragment g c =
    (c.args.at.piece * c.args.kept.now.geometry.fragments + c.args.at.fragment, fragment_within c.args.caller.now.vault.now.rack c.args.kept.now c.requires.fits c.args.at.piece c.args.at.fragment c.requires.piece c.requires.fragment, c.first_block-from.ensures)

pub see_points-requires-clause-within : goal.see_points-requires-clause-within
see_points-requires-clause-within g c =
    let rack = c.args.caller.now.vault.now.rack in
    let kept = c.args.kept.now in
    let e = c.first_block-from.ensures in
    let h = points_within rack kept c.requires.fits (c.args.at.piece * kept.geometry.fragments + c.args.at.fragment)
    (fragment_within rack kept c.requires.fits c.args.at.piece c.args.at.fragment c.requires.piece c.requires.fragment) in
    omega (arith, e, h)

pub returns-in_err-see_points-clause-read : goal.returns-in_err-see_points-clause-read
returns-in_err-see_points-clause-read g c =
    let kept = c.args.kept.now in
    let points : Points = c.see_points.new.points in
    let e = c.in_err-see_points.field-0.0 in
    let p = err_from_is_err_and c.from_residual.result c.from_residual.ensures.1 in
    rw (p.1, p.2)
    (fragment_refused c.args.caller.now.job kept c.args.at.piece c.args.at.fragment c.args.rooms.now.fragments.items c.args.passes.now.groups c.see_points.new.passes.groups points e
    (subst (λ m. PointsRead c.args.caller.now.job kept.places m kept.geometry.shards kept.geometry.need kept.geometry.shards points (Err e) c.args.passes.now.groups c.see_points.new.passes.groups)
    c.first_block-from.ensures c.in_err-see_points.ensures.read))

pub count-requires : goal.count-requires
count-requires g c = (current_fits c.args.caller.now.vault.now.rack c.args.kept.now c.requires.fits).geometry.limits.shards

pub missing-requires-clause-geometry : goal.missing-requires-clause-geometry
missing-requires-clause-geometry g c = (current_fits c.args.caller.now.vault.now.rack c.args.kept.now c.requires.fits).geometry.limits

pub missing-requires-clause-within : goal.missing-requires-clause-within
missing-requires-clause-within g c =
    let rack = c.args.caller.now.vault.now.rack in
    let kept = c.args.kept.now in
    let e = c.first_block-from.ensures in
    let h = points_within rack kept c.requires.fits (c.args.at.piece * kept.geometry.fragments + c.args.at.fragment)
    (fragment_within rack kept c.requires.fits c.args.at.piece c.args.at.fragment c.requires.piece c.requires.fragment) in
    omega (arith, e, h)

pub missing-requires-clause-few : goal.missing-requires-clause-few
missing-requires-clause-few g c =
    let few = (current_fits c.args.caller.now.vault.now.rack c.args.kept.now c.requires.fits).geometry.limits.fragments.1 in let lt = c.requires.fragment in omega (arith, few, lt)

pub returns-then-count-kept-clause-read : goal.returns-then-count-kept-clause-read
returns-then-count-kept-clause-read g c =
    let kept = c.args.kept.now in
    let points : Points = c.see_points.new.points in
    let from : ℕ = (c.args.at.piece * kept.geometry.fragments + c.args.at.fragment) * kept.geometry.shards in
    let read : PointsTried c.args.caller.now.job kept.places from kept.geometry.shards kept.geometry.need kept.geometry.shards points c.args.passes.now.groups c.see_points.new.passes.groups =
    subst (λ m. PointsTried c.args.caller.now.job kept.places m kept.geometry.shards kept.geometry.need kept.geometry.shards points c.args.passes.now.groups c.see_points.new.passes.groups)
    c.first_block-from.ensures c.in_ok-see_points.ensures.read in
    let fewer : count kept.geometry.shards (λ y. was_seen (came_in points y)) < kept.geometry.need = subst (λ m. m < kept.geometry.need) c.count.ensures c.if-count-kept.true in
    fragment_missing c.args.caller.now.job kept c.args.at.piece c.args.at.fragment c.args.rooms.now.fragments.items c.args.passes.now.groups c.see_points.new.passes.groups points read c.missing.result fewer
    (subst (λ m. IsFileMissing kept m c.args.at.piece c.args.at.fragment (came_in points) c.missing.result) c.first_block-from.ensures c.missing.ensures)

pub gather-requires : goal.gather-requires
gather-requires g c = (current_fits c.args.caller.now.vault.now.rack c.args.kept.now c.requires.fits).geometry.limits.shards

pub join-requires-clause-some : goal.join-requires-clause-some
join-requires-clause-some g c =
    let some = (current_fits c.args.caller.now.vault.now.rack c.args.kept.now c.requires.fits).geometry.limits.need.0 in
    let a = c.if-count-kept.false in
    let b = c.count.ensures in
    let d = ap length c.gather.ensures.0 in
    let e = points_count (came_in c.see_points.new.points) c.args.kept.now.geometry.shards in
    omega (arith, some, a, b, d, e)

pub join-requires-clause-few : goal.join-requires-clause-few
join-requires-clause-few g c =
    let few = (current_fits c.args.caller.now.vault.now.rack c.args.kept.now c.requires.fits).geometry.limits.shards in
    let most = seen_most c.args.kept.now.geometry.shards c.see_points.new.points in
    let d = ap length c.gather.ensures.0 in
    let e = points_count (came_in c.see_points.new.points) c.args.kept.now.geometry.shards in
    omega (arith, few, most, d, e)

pub join-requires-clause-distinct : goal.join-requires-clause-distinct
join-requires-clause-distinct g c =
    points_distinct c.args.kept.now.geometry.shards (λ x. block_in (came_in c.see_points.new.points x)) c.gather.new.shares.points.items c.gather.ensures.0

pub join-requires-clause-not_zero : goal.join-requires-clause-not_zero
join-requires-clause-not_zero g c =
    points_positive c.args.kept.now.geometry.shards (λ x. block_in (came_in c.see_points.new.points x)) c.gather.new.shares.points.items c.gather.ensures.0

pub returns-clause-read : goal.returns-clause-read
returns-clause-read g c =
    let kept = c.args.kept.now in
    let points : Points = c.see_points.new.points in
    let from : ℕ = (c.args.at.piece * kept.geometry.fragments + c.args.at.fragment) * kept.geometry.shards in
    let read : PointsTried c.args.caller.now.job kept.places from kept.geometry.shards kept.geometry.need kept.geometry.shards points c.args.passes.now.groups c.see_points.new.passes.groups =
    subst (λ m. PointsTried c.args.caller.now.job kept.places m kept.geometry.shards kept.geometry.need kept.geometry.shards points c.args.passes.now.groups c.see_points.new.passes.groups)
    c.first_block-from.ensures c.in_ok-see_points.ensures.read in
    let a = c.if-count-kept.false in
    let b = c.count.ensures in
    let enough : kept.geometry.need ≤ count kept.geometry.shards (λ y. was_seen (came_in points y)) = omega (arith, a, b) in
    let long : length c.join.new.content ≡ 992 = c.join.auto.content in
    fragment_had c.args.caller.now.job kept c.args.at.piece c.args.at.fragment c.args.rooms.now.fragments.items c.args.passes.now.groups c.see_points.new.passes.groups points read
    c.gather.new.shares c.join.new.content c.append.new.into.items enough c.gather.ensures long c.join.ensures
    (c.append.ensures.items ∙ ap (λ l. c.args.rooms.now.fragments.items ++ l) (behind_whole 64 928 c.join.new.content long))
