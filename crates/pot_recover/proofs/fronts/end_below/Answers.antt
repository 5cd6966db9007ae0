use Rattle.std.proofs.Common.{nat_cmp, rules}
use Rattle.std.specs.Cmp.Lexicographic.{slice_cmp}
use Rattle.std.proofs.lemmas.List.Sorted.{IsPartitionPoint-from_clause}
use Rattle.pot_pointer.proofs.RangeLemmas.{partitioned_below}
use Rattle.pot_recover.specs.Fronts.{front_of, is_below}
use Rattle.pot_recover.proofs.PartLemmas.{compares_rise}
use Rattle.pot_recover.proofs.fronts.end_below.Goals as goal

pub returns-clause-split : goal.returns-clause-split
returns-clause-split c =
    IsPartitionPoint-from_clause (is_below c.args.front) c.args.objects.now c.partition_point.result c.partition_point.ensures.partitioned
    (partitioned_below (λ o. slice_cmp nat_cmp (front_of o) c.args.front) c.args.objects.now (compares_rise front_of c.args.front c.args.objects.now c.requires))
    (λ a r f called. search rules)
