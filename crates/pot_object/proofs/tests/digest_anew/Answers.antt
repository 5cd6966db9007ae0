use Rattle.std.proofs.Common.{ℕ, arith}
use Rattle.std.proofs.lemmas.List.{length-take}
use Rattle.pot_object.proofs.tests.digest_anew.Goals as goal

pub slice_bounds-digest_of_two-end : goal.slice_bounds-digest_of_two-end
slice_bounds-digest_of_two-end c = omega (arith, length-take {A = ℕ} 32 c.args.bytes.now)
