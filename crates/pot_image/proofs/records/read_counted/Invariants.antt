use Rattle.std.proofs.Common.{◌≡◌, ◌*◌, ◌-◌, []}
use Rattle.pot_image.specs.Reading.{several, reading}
use Rattle.pot_image.specs.Records.{record_behind}
use Rattle.pot_image.specs.Marks.{AreStamps}
use Rattle.pot_image.proofs.records.read_counted.Given as goal

abbrev pub invariant-loop-number : goal.invariant-loop-number
invariant-loop-number l = record {
  reads : reading (several l.number (l.count - l.number) (record_behind l.format l.rack l.tables) l.records.items) l.rest ≡ reading (several 0 l.count (record_behind l.format l.rack l.tables) []) l.bytes;
  stamps : AreStamps l.rack l.stamps (l.number * 16);
}
