use Rattle.std.proofs.Common.{◌≡◌, ◌-◌, []}
use Rattle.pot_image.specs.Reading.{several, reading}
use Rattle.pot_image.specs.Logs.{index_entry_behind}
use Rattle.pot_image.proofs.logs.read_index_log.Given as goal

abbrev pub invariant-loop : goal.invariant-loop
invariant-loop l = reading (several l.counter (l.count - l.counter) (index_entry_behind l.format) l.entries.items) l.rest ≡ reading (several 0 l.count (index_entry_behind l.format) []) l.initial.rest
