use Rattle.std.proofs.Common.{map, length, arith}
use Rattle.pot_outside.specs.Disks.{seen}
use Rattle.pot_doubles.specs.Disks.{call_of}
use Rattle.pot_doubles.proofs.DiskLemmas.{is_bytes_at}
use Rattle.pot_doubles.proofs.disk.fill_seen.Goals as goal

pub returns : goal.returns
returns c = is_bytes_at (seen (map call_of c.args.notes.now)) c.loop-k.into c.args.at (length c.args.into.now) c.loop-k.invariant.size
    (λ j lt. c.loop-k.invariant.below j (omega (arith, lt, c.loop-k-test.false)))
