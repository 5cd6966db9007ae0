use Rattle.std.proofs.Common.{refl}
use Rattle.std.specs.Cmp.{nat_eq_equiv}
use Rattle.std.proofs.lemmas.Map.Made.{IsDistinct-from_count}
use Rattle.pot_joins.proofs.tests.shares_fix_the_others.Goals as goal

pub share_at-requires-clause-distinct : goal.share_at-requires-clause-distinct
share_at-requires-clause-distinct g c = IsDistinct-from_count nat_eq_equiv _ refl

pub share_at-requires-2-clause-distinct : goal.share_at-requires-2-clause-distinct
share_at-requires-2-clause-distinct g c = IsDistinct-from_count nat_eq_equiv _ refl

pub share_at-requires-3-clause-distinct : goal.share_at-requires-3-clause-distinct
share_at-requires-3-clause-distinct g c = IsDistinct-from_count nat_eq_equiv _ refl
