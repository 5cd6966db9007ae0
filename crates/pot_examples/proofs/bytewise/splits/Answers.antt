use Rattle.std.proofs.Common.{refl}
use Rattle.std.specs.Cmp.{nat_eq_equiv}
use Rattle.std.proofs.lemmas.Map.Made.{IsDistinct-from_count}
use Rattle.pot_examples.proofs.bytewise.splits.Goals as goal

pub share_join-requires-clause-distinct : goal.share_join-requires-clause-distinct
share_join-requires-clause-distinct c = IsDistinct-from_count nat_eq_equiv _ refl
