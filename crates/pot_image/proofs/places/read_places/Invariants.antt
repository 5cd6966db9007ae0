use Rattle.std.proofs.Common.{◌≡◌, ◌-◌, []}
use Rattle.pot_image.specs.Reading.{several, reading}
use Rattle.pot_image.specs.Records.{place}
use Rattle.pot_image.specs.Marks.{HaveMarks}
use Rattle.pot_image.proofs.places.read_places.Given as goal

abbrev pub invariant-loop-number : goal.invariant-loop-number
invariant-loop-number l = record {
  reads : reading (several l.number (l.total - l.number) (place l.rack l.tables l.geometry) l.places.items) l.rest ≡ reading (several 0 l.total (place l.rack l.tables l.geometry) []) l.bytes;
  marks : HaveMarks l.rack l.stamps l.last l.places.items;
}
