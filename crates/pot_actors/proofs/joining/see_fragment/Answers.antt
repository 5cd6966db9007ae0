use Rattle.std.proofs.Common.{◌≡◌, ◌<◌, ◌+◌, ◌*◌, ℕ, length, sym, ◌∙◌, subst, arith}
use Rattle.pot_shard.specs.Places.{position}
use Rattle.pot_actors.specs.Joins.{block_of_point}
use Rattle.pot_actors.proofs.JoinLemmas.{at_read, position_within, shared_more, shared_none}
use Rattle.pot_actors.proofs.joining.see_fragment.Goals as goal

pub loop-point-init : goal.loop-point-init
loop-point-init c = c.clear.ensures ∙ shared_none (block_of_point c.args.kept.now c.args.gathered.now c.args.piece c.args.fragment) c.args.kept.now.geometry.need

pub loop-point-preserved : goal.loop-point-preserved
loop-point-preserved c =
    let e : (c.args.piece * c.from.result + c.from-2.result) * c.from-3.result + c.from-in-loop-point.result ≡ position c.args.kept.now.geometry c.args.piece c.args.fragment c.loop-point.point =
    (λ i. (c.args.piece * c.from.ensures i + c.from-2.ensures i) * c.from-3.ensures i + c.from-in-loop-point.ensures i) in
    let lt = position_within c.args.kept.now c.args.piece c.args.fragment c.loop-point.point c.requires.readable c.requires.piece c.requires.fragment c.loop-point-test.true in
    shared_more (block_of_point c.args.kept.now c.args.gathered.now c.args.piece c.args.fragment) c.args.kept.now.geometry.need c.loop-point.point (c.loop-point.point + 1) c.loop-point.shares c.keep.new.self c.gathered_at-block.result
    c.loop-point.invariant
    (at_read c.args.gathered.now c.args.kept.now.geometry c.as_slice-places.result.now c.args.kept.now.places c.args.piece c.args.fragment c.loop-point.point
    ((c.args.piece * c.from.result + c.from-2.result) * c.from-3.result + c.from-in-loop-point.result) _ c.gathered_at-block.result c.gathered_at-block.ensures c.as_slice-places.ensures e
    (subst (λ n. n < length c.args.kept.now.places) (sym e) lt))
    (omega arith) c.keep.ensures
