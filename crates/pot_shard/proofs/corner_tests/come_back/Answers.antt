use Rattle.std.proofs.Common.{refl}
use Rattle.std.proofs.lemmas.Map.Made.{IsDistinct-from_count}
use Rattle.std.specs.Cmp.{nat_eq_equiv}
use Rattle.pot_shard.proofs.corner_tests.come_back.Goals as goal

pub comes_back-requires-clause-distinct : goal.comes_back-requires-clause-distinct
comes_back-requires-clause-distinct g c = IsDistinct-from_count nat_eq_equiv _ refl

pub comes_back-requires-2-clause-distinct : goal.comes_back-requires-2-clause-distinct
comes_back-requires-2-clause-distinct g c = IsDistinct-from_count nat_eq_equiv _ refl

pub comes_back-requires-3-clause-distinct : goal.comes_back-requires-3-clause-distinct
comes_back-requires-3-clause-distinct g c = IsDistinct-from_count nat_eq_equiv _ refl
