use Rattle.std.proofs.Common.{◌↔◌, List, ℕ, subst, sym, nat_cmp}
use Rattle.std.specs.Cmp.{unsigned_ties}
use Rattle.std.specs.Cmp.Lexicographic.{slice_cmp, lists_ties}
use Rattle.std.specs.List.Sorted.{IsStrictlySortedBy}
use Rattle.std.proofs.lemmas.List.Filters.{dedup_is}
use Rattle.pot_chains.specs.Listed.{IsIn}
use Rattle.pot_recover.proofs.DistinctLemmas.{distinct_order, distinct_same}
use Rattle.pot_recover.proofs.distinct.sort_distinct.Goals as goal

pub returns-clause-same : goal.returns-clause-same
returns-clause-same g c = λ l.
    let left = dedup_is _ c.sort_unstable.new.self.items c.dedup.new.self.items c.dedup.ensures.filtered in
    subst (λ (k : List (List ℕ)). IsIn k l ↔ IsIn c.args.lists.now.items l) (sym left)
    (distinct_same _ (lists_ties nat_cmp unsigned_ties) c.args.lists.now.items c.sort_unstable.new.self.items c.sort_unstable.ensures.permutation c.sort_unstable.ensures.sorted l)

pub returns-clause-order : goal.returns-clause-order
returns-clause-order g c =
    let left = dedup_is _ c.sort_unstable.new.self.items c.dedup.new.self.items c.dedup.ensures.filtered in
    subst (IsStrictlySortedBy (slice_cmp nat_cmp)) (sym left)
    (distinct_order _ (lists_ties nat_cmp unsigned_ties) c.args.lists.now.items c.sort_unstable.new.self.items c.sort_unstable.ensures.permutation c.sort_unstable.ensures.sorted)
