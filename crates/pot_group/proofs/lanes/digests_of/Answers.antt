use Rattle.pot_group.proofs.LaneReads.{digests_four, digests_one}
use Rattle.pot_group.proofs.lanes.digests_of.Goals as goal

pub returns-then-count-lt2 : goal.returns-then-count-lt2
returns-then-count-lt2 c = digests_one c.args.count c.args.lanes.now _ c.bytes.result.now c.digest_of.result c.if-count-lt2.true c.type_inv.lanes c.bytes.ensures.value c.digest_of.ensures

pub returns : goal.returns
returns c = digests_four c.args.count c.args.lanes.now c.digests_of_four.result _ _ _ _ c.requires c.type_inv.lanes c.digests_of_four.ensures
