use Rattle.std.proofs.Common.{◌≢◌, arith}
use Rattle.pot_client.specs.ReplyKinds.{keyword}
use Rattle.pot_client.proofs.KindLemmas.{every_kind}
use Rattle.pot_client.proofs.kind.ReplyKind.read.Goals as goal

pub returns : goal.returns
returns c = every_kind (λ kind. c.args.word.now ≢ keyword kind) (λ i d lt. c.loop-kind.invariant i d (omega arith))
