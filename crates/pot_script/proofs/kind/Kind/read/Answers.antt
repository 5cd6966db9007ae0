use Rattle.std.proofs.Common.{◌≢◌, arith}
use Rattle.pot_script.specs.Kinds.{keyword}
use Rattle.pot_script.proofs.KindLemmas.{every_kind}
use Rattle.pot_script.proofs.kind.Kind.read.Goals as goal

pub returns : goal.returns
returns c = every_kind (λ kind. c.args.word.now ≢ keyword kind) (λ i d lt. c.loop-kind.invariant i d (omega arith))
