use Rattle.std.proofs.Common.{◌<◌, ℕ}
use Rattle.pot_desk_shares.specs.Finding.{HasHead}
use Rattle.pot_desk_shares.specs.declared.share.DeskShare.{DeskShare}
use Rattle.pot_desk_shares.proofs.joining.find_head.Given as goal

abbrev pub invariant-loop-at : goal.invariant-loop-at
invariant-loop-at l = (k : ℕ) (s : DeskShare) → k < l.at → ¬ HasHead l.shares l.wanted k s
