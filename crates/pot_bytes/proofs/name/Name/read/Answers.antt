use Rattle.std.proofs.Common.{rules}
use Rattle.pot_bytes.proofs.NameLemmas.{name-padded}
use Rattle.pot_bytes.proofs.name.Name.read.Goals as goal

pub invariant_of-result : goal.invariant_of-result
invariant_of-result c = rw c.put_front.ensures (name-padded c.args.bytes.now (c.if-not-is_name.ensures.0 (search rules)))
