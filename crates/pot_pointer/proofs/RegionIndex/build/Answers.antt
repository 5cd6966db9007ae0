-- The sorted table stands for the names, and is in order.
use Rattle.std.proofs.Common.{subst, sym, IsPermutation}
use Rattle.pot_pointer.specs.Pointers.{named}
use Rattle.pot_pointer.proofs.TableLemmas.{names_of-IsPermutation, order_from_sort}
use Rattle.pot_pointer.proofs.RegionIndex.build.Goals as goal

pub invariant_of-result : goal.invariant_of-result
invariant_of-result c =
    let names = c.args.names.now in
    let table = c.sort_unstable.new.self.items in
    let same = subst (λ l. IsPermutation l table) c.in_ok-entries.ensures c.sort_unstable.ensures.permutation in
    record {
      whole = subst (λ l. IsPermutation (named l) table) (sym (names_of-IsPermutation names table same)) same;
      order = order_from_sort names table same c.sort_unstable.ensures.sorted;
    }

pub returns : goal.returns
returns c =
    names_of-IsPermutation c.args.names.now c.sort_unstable.new.self.items
    (subst (λ l. IsPermutation l c.sort_unstable.new.self.items) c.in_ok-entries.ensures c.sort_unstable.ensures.permutation)
