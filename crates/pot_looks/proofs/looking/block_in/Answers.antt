use Rattle.std.proofs.Common.{◌≡◌, ◌+◌, ◌-◌, ◌*◌, arith, ap, take, drop, ℕ}
use Rattle.pot_looks.proofs.looking.block_in.Goals as goal

pub returns : goal.returns
returns c =
    let n : c.args.stripe * 1025 + 1025 - (c.args.stripe * 1025 + 1) ≡ 1024 = omega arith in
    record { within = omega (arith, c.if-bytes-start.false); first = c.if-bytes-start-ne1.false; rest = ap (λ (k : ℕ). take k (drop (c.args.stripe * 1025 + 1) c.args.bytes.now)) n }
