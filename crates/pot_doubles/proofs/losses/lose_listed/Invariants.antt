use Rattle.std.proofs.Common.{◌≡◌, ◌<◌, ◌^◌, ℕ, take}
use Rattle.std.specs.Ordering.{nat_cmp}
use Rattle.std.specs.BTreeMap.{get}
use Rattle.pot_doubles.specs.Losses.{without, losses_at, raised_by}
use Rattle.pot_doubles.proofs.losses.lose_listed.Given as goal

abbrev pub invariant-loop-loss : goal.invariant-loop-loss
invariant-loop-loss l = record {
  range : l.initial.lost < 2 ^ 64;
  blocks : (k : ℕ) → get nat_cmp l.blocks k ≡ without (take l.loss-index l.losses) l.call (get nat_cmp l.initial.blocks) k;
  count : l.lost ≡ raised_by (losses_at (take l.loss-index l.losses) l.call) l.initial.lost;
}
