use Rattle.std.proofs.Common.{◌↔◌, ◌≤◌, map, length, take}
use Rattle.pot_chains.specs.Listed.{IsIn}
use Rattle.pot_shard.specs.declared.shard.Shard.{Shard}
use Rattle.pot_recover.specs.Held.{IsHeld}
use Rattle.pot_recover.specs.HeldShards.{shard_of, HaveBytes}
use Rattle.pot_recover.proofs.held.gathered.Given as goal

abbrev pub invariant-loop-block : goal.invariant-loop-block
invariant-loop-block l =
    ((s : Shard) → IsIn (map (shard_of l.bits) l.held.items) s ↔ IsHeld (take l.block-index l.blocks) l.bits s) × HaveBytes l.held.items × (length l.held.items ≤ l.block-index)
