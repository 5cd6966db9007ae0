use Rattle.std.proofs.Common.{◌≡◌, ◌-◌, take}
use Rattle.std.specs.List.{flat_map}
use Rattle.pot_recover.specs.HeldShards.{piece_of}
use Rattle.pot_recover.proofs.joining.rows_of.Given as goal

abbrev pub invariant-loop-held : goal.invariant-loop-held
invariant-loop-held l = l.rows.items ≡ flat_map (piece_of l.start (l.end - l.start)) (take l.held-index l.chain)
