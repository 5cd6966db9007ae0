use Rattle.std.proofs.Common.{List, take}
use Rattle.pot_desk_shares.specs.Finding.{AreRows}
use Rattle.pot_desk_shares.specs.declared.share.DeskShare.{DeskShare}
use Rattle.pot_desk_shares.proofs.joining.values_at.Given as goal

abbrev pub invariant-loop-i : goal.invariant-loop-i
invariant-loop-i l = (chosen : List DeskShare) × AreRows l.shares l.head chosen (take l.i l.points) l.values.items
