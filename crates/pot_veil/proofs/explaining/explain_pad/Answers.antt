use Rattle.std.proofs.Common.{◌+◌, ◌-◌, ◌*◌, ℕ, take, drop, arith, ap, ◌∙◌}
use Rattle.pot_bytes.specs.Sums.{xor}
use Rattle.pot_veil.proofs.Rewriting.{none_written, pad_written}
use Rattle.pot_veil.proofs.explaining.explain_pad.Goals as goal

pub returns-then-number-geometry : goal.returns-then-number-geometry
returns-then-number-geometry c =
    let at = 16 + c.from.result * 928 in
    pad_written c.args.geometry.now c.args.object.now c.args.other.now c.args.random.now c.xor_into-then-number-geometry.new.into c.args.number
    at (at + 928 - at) c.told-object c.told-other c.requires.random c.if-number-geometry.true
    (ap (λ (z : ℕ). 16 + z * 928) c.from.ensures) (omega arith)
    (c.xor_into-then-number-geometry.ensures ∙ ap (xor (take (at + 928 - at) (drop at c.args.random.now))) c.xor_into.ensures)

pub returns-else-number-geometry : goal.returns-else-number-geometry
returns-else-number-geometry c =
    none_written c.args.geometry.now c.args.object.now c.args.other.now c.args.random.now c.args.number c.requires.random
    (omega (arith, c.if-number-geometry.false, c.requires.exists))
