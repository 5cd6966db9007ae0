use Rattle.std.proofs.Common.{◌<◌, ◌≤◌, [], map}
use Rattle.std.specs.Prelude.{⊤}
use Rattle.pot_recover.specs.HeldShards.{shard_of}
use Rattle.pot_recover.specs.OpenScopes.{HasSearchedOpen}
use Rattle.pot_recover.proofs.open_chains.open_contents.Given as goal
use Rattle.pot_shard.specs.declared.shard.Shard.{Shard}

abbrev pub invariant-loop-need : goal.invariant-loop-need
invariant-loop-need l = HasSearchedOpen (map (shard_of l.bits) l.held) (λ (s : Shard). ⊤ × (s.m < l.need)) l.fn.count l.count [] l.found.items × (l.count ≤ 4000000)
