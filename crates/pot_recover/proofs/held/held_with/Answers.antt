use Rattle.std.proofs.Common.{ap, sym, List, ℕ}
use Rattle.pot_shard.specs.declared.shard.Shard.{Shard}
use Rattle.pot_recover.proofs.held.held_with.Goals as goal

abbrev with_share : Shard → List ℕ → Shard
with_share s share = record { x = s.x; m = s.m; n = s.n; blur = s.blur; name = s.name; pointer = s.pointer; share = share }

pub returns-clause-stands : goal.returns-clause-stands
returns-clause-stands c = ap (with_share c.args.shard.now) (sym c.requires)

pub returns-clause-bytes : goal.returns-clause-bytes
returns-clause-bytes c = λ k. (c.type_inv.share k).fits
