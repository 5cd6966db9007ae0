use Rattle.std.proofs.Common.{rules}
use Rattle.pot_bytes.specs.Digests.{digest_bytes}
use Rattle.pot_bytes.proofs.parts.digest_of_two.Goals as goal

pub returns : goal.returns
unfolding digest_bytes
returns c = search rules
