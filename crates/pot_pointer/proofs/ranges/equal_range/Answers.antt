use Rattle.std.proofs.Common.{rules}
use Rattle.std.specs.Ordering.{is_lt, is_le}
use Rattle.std.proofs.lemmas.List.Sorted.{IsPartitionPoint-from_clause}
use Rattle.pot_pointer.proofs.RangeLemmas.{partitioned_below, partitioned_at_most, rises_in_front, range_is_filter}
use Rattle.pot_pointer.proofs.ranges.equal_range.Goals as goal

pub returns : goal.returns
returns g c = λ at says rises.
    let within = c.partition_point-end.ensures.bound in
    range_is_filter at c.args.items.now c.partition_point-end.result within c.partition_point-start.result c.partition_point-start.ensures.bound
    (IsPartitionPoint-from_clause (λ x. is_le (at x)) _ _ c.partition_point-end.ensures.partitioned (partitioned_at_most at _ rises) (λ a r f called. search rules))
    (IsPartitionPoint-from_clause (λ x. is_lt (at x)) _ _ c.partition_point-start.ensures.partitioned
    (partitioned_below at _ (rises_in_front at _ _ within rises)) (λ a r f called. search rules))
