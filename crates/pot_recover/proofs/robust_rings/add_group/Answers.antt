use Rattle.pot_recover.proofs.ScopeLemmas.{ok_both}
use Rattle.std.proofs.Common.{map, length}
use Rattle.std.proofs.lemmas.Result.{IfErr-weaker}
use Rattle.pot_recover.specs.Groups.{shards_in}
use Rattle.pot_recover.specs.HeldShards.{shard_of}
use Rattle.pot_recover.proofs.LongLemmas.{group_is_searched, group_is_above}
use Rattle.pot_recover.proofs.robust_rings.add_group.Goals as goal

pub returns-in-Ok-clause-searched : goal.returns-in-Ok-clause-searched
returns-in-Ok-clause-searched c =
    let g = c.in-Ok.group in
    let shards = map (shard_of c.args.bits) c.args.held.now in
    ok_both c.search.result
    (λ grown found. group_is_searched shards (shards_in g) c.args.need c.args.shards g.need (length g.parts.items) c.args.count.now c.search.new.count c.args.found.now.items c.search.new.found.items
    c.in-Ok.ensures.same.0 c.in-Ok.ensures.same.1 c.in-Ok.ensures.members grown found)
    c.search.ensures.counts c.search.ensures.found

pub returns-in-Ok-clause-wide : goal.returns-in-Ok-clause-wide
returns-in-Ok-clause-wide c =
    let g = c.in-Ok.group in
    let shards = map (shard_of c.args.bits) c.args.held.now in
    IfErr-weaker c.search.result _ _
    (λ e wide same. group_is_above shards (shards_in g) c.args.need c.args.shards g.need (length g.parts.items) 4000000 c.args.count.now
    c.in-Ok.ensures.same.0 c.in-Ok.ensures.same.1 c.in-Ok.ensures.members (wide same))
    c.search.ensures.wide
