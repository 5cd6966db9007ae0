use Rattle.std.proofs.Common.{◌+◌, length, refl, arith}
use Rattle.std.proofs.lemmas.Slice.{take-put_mid}
use Rattle.pot_lanes.proofs.digest.put.Goals as goal

pub returns-clause-front : goal.returns-clause-front
returns-clause-front c = rw c.copy_from_slice.ensures.after
    (take-put_mid c.args.at _ c.args.into.now c.args.from.now (c.args.at + length c.args.from.now) refl (omega arith))
