use Rattle.std.proofs.Common.{refl}
use Rattle.pot_bytes.specs.Digests.{digest_bytes}
use Rattle.pot_sealed.proofs.digests_of_four.Goals as goal

pub returns : goal.returns
unfolding digest_bytes
returns c = rw (c.digest_four.ensures, c.bytes.ensures.value, c.bytes-2.ensures.value, c.bytes-3.ensures.value, c.bytes-4.ensures.value) refl
