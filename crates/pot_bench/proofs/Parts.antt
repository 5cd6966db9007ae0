-- What a job leaves of the parts of passes.
use Rattle.std.proofs.Common.{Bool, List, length, ap, sym, ◌∙◌, arith}
use Rattle.pot_turn.specs.declared.name.TurnName.{TurnName}
use Rattle.pot_rows.specs.Rows.{PassRow, AreOf}
use Rattle.pot_rows.specs.Ends.{HasAllParts}
use Rattle.pot_rows.specs.Works.{RowWroteOnlyFor}
use Rattle.pot_shared.specs.declared.member.Logged.{Logged}
use Rattle.pot_shared.specs.Ready.{GroupPasses}
use Rattle.pot_shared.specs.Sharing.{HasAllButKept}

pub still_but_kept : (is_of : Logged → Bool) (names : List TurnName) (old new : GroupPasses) → AreOf names old → AreOf names new → RowWroteOnlyFor is_of old new
    → HasAllButKept old → HasAllButKept new
still_but_kept is_of names old new a b w h g l =
    (let p = h g (let n = ap length (a.0 ∙ sym b.0) in omega (arith, n, l)) in let q = (w g).parts in omega (arith, p, q))

pub still_all : {E O : Type 0} (is_of : E → Bool) (names : List TurnName) (old new : PassRow E O) → AreOf names old → AreOf names new → RowWroteOnlyFor is_of old new
    → HasAllParts old → HasAllParts new
still_all is_of names old new a b w h at l = (w at).parts ∙ h at (let n = ap length (a.0 ∙ sym b.0) in omega (arith, n, l))
