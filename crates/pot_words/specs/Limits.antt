-- The limits within which the values of a task lie.
use Rattle.std.specs.Prelude.{◌≤◌, ◌<◌, length}
use Rattle.pot_bytes.specs.Rack.{IsGeometry, IsRack}
use Rattle.pot_words.specs.Lists.{AscendFrom, AreListedPoints, IsSpot, spot_rank}
use Rattle.pot_words.specs.declared.task.Task.{Task}
use Rattle.pot_words.specs.declared.task.Task.TheVariants as task

abbrev pub IsWithinLimits : Task → Type 0
IsWithinLimits (task.Init rack) = IsRack rack
IsWithinLimits (task.Run run) = (1 ≤ run.workers) × (run.workers ≤ 16)
IsWithinLimits (task.Generate n) = (1 ≤ n) × (n ≤ 1000000)
IsWithinLimits (task.Recover r) = (1 ≤ r.archives) × (r.archives ≤ 512) × (1 ≤ r.stripes)
    × (r.stripes ≤ 4096) × (r.blur ≤ 63)
IsWithinLimits (task.Drill d) = IsGeometry d.geometry × (1 ≤ d.hidden)
    × (d.hidden ≤ d.geometry.fragments) × AreListedPoints d.geometry.shards d.seen.items
IsWithinLimits (task.Audit a) = (0 < length a.seen.items)
    × AscendFrom IsSpot spot_rank 0 a.seen.items
