use Rattle.std.proofs.Common.{◌≡◌, ◌-◌, map}
use Rattle.pot_image.specs.Reading.{several, reading}
use Rattle.pot_image.specs.Logs.{group_log_behind, group_logs}
use Rattle.pot_image.proofs.logs.read_group_logs.Given as goal

abbrev pub invariant-loop : goal.invariant-loop
invariant-loop l = reading (several l.counter (l.rack.groups - l.counter) (group_log_behind l.format l.rack) (map (λ v. v.items) l.logs.items)) l.rest ≡ reading (group_logs l.format l.rack) l.bytes
