use Rattle.std.proofs.Common.{◌≡◌, ◌≤◌, length}
use Rattle.std.specs.Vec.{vec_capacity}
use Rattle.pot_shared.specs.Connections.{InGroups}
use Rattle.pot_store.specs.Drawing.{all_blocks}
use Rattle.pot_store.specs.Puts.{ArePut}
use Rattle.pot_store.proofs.putting.put_all.Given as goal

abbrev pub invariant-loop-number : goal.invariant-loop-number
invariant-loop-number g l =
    InGroups (λ b. ArePut b.vault.rack l.geometry b.job (all_blocks l.fn.drawing) l.places.items) l.fn.connection l.connection
    × (length l.places.items ≡ l.number)
    × (l.drawing ≡ record l.fn.drawing { next = l.number })
    × (l.count ≤ vec_capacity l.places)
