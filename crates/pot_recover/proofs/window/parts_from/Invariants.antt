use Rattle.std.proofs.Common.{◌≡◌, ◌≤◌, ◌-◌, ◌++◌, map}
use Rattle.pot_recover.specs.Groups.{part_of, now_of}
use Rattle.pot_recover.specs.OpenScopes.{points_from}
use Rattle.pot_recover.proofs.window.parts_from.Given as goal

abbrev pub invariant-loop : goal.invariant-loop
invariant-loop l = record {
  parts : map now_of l.parts.items ++ map (part_of l.start.need l.start.shards l.held) (points_from l.start.shards l.x (l.start.need - l.counter))
      ≡ map (part_of l.start.need l.start.shards l.held) (points_from l.start.shards l.start.first l.start.need);
  first : 1 ≤ l.x;
  last : l.x ≤ l.start.shards;
}
