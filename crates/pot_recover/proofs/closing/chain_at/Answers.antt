use Rattle.std.proofs.Common.{◌∙◌, List, map, get_or, arith, ap₂}
use Rattle.std.specs.Borrow.{Bor}
use Rattle.std.proofs.lemmas.List.{length-map, take_all}
use Rattle.pot_recover.specs.Groups.{parts_of, shards_at}
use Rattle.pot_recover.specs.HeldShards.{shard_of}
use Rattle.pot_recover.specs.declared.held.Held.{Held}
use Rattle.pot_recover.proofs.NextLemmas.{at_place, chain_more, length-shards_at}
use Rattle.pot_recover.proofs.ClosingLemmas.{nobody, position_within}
use Rattle.pot_recover.proofs.closing.chain_at.Goals as goal

pub index-part-requires : goal.index-part-requires
index-part-requires c =
    let g = c.args.group.now in
    let r = at_place (parts_of g.bits g.parts.items) c.args.positions.now c.loop-place.place c.requires (omega (arith, c.loop-place-test.true, c.len-place-end.ensures.value)) in
    omega (arith, r.0, length-map g.parts.items (λ (part : Bor (List Held)). map (shard_of g.bits) part.now), g.parts.ok.0)

pub bounds-part-get : goal.bounds-part-get
bounds-part-get c =
    let g = c.args.group.now in
    let h = position_within g.bits g.parts.items c.args.positions.now c.loop-place.place c.index-part.result.now c.index-part.result.now c.requires
    (omega (arith, c.loop-place-test.true, c.len-place-end.ensures.value)) c.index-part.ensures in
    omega (arith, h, c.get.ensures)

pub loop-place-preserved : goal.loop-place-preserved
loop-place-preserved c =
    let g = c.args.group.now in
    chain_more g.bits g.parts.items c.args.positions.now c.loop-place.place c.loop-place.chain.items c.push_shard.new.chain.items c.index-part.result.now
    (get_or c.index-part.result.now.now c.get.result nobody) nobody c.requires (omega (arith, c.loop-place-test.true, c.len-place-end.ensures.value)) c.loop-place.invariant
    c.in_ok-push_shard.ensures (ap₂ (λ (part : Bor (List Held)) k. get_or part.now k nobody) c.index-part.ensures c.get.ensures)

pub returns : goal.returns
returns c =
    let g = c.args.group.now in
    let P = parts_of g.bits g.parts.items in
    c.loop-place.invariant
    ∙ take_all c.loop-place.place (shards_at P c.args.positions.now)
    (omega (arith, length-shards_at P c.args.positions.now c.requires, c.loop-place-test.false, c.loop-place.auto.place-end, c.len-place-end.ensures.value))
