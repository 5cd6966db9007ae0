use Rattle.std.proofs.Common.{◌≡◌, ◌+◌, ◌-◌, [], vec_len}
use Rattle.pot_image.specs.Reading.{several, reading}
use Rattle.pot_image.specs.Records.{split_behind}
use Rattle.pot_image.specs.Marks.{AreStamps}
use Rattle.pot_image.proofs.records.read_older.Given as goal

abbrev pub invariant-loop-number : goal.invariant-loop-number
invariant-loop-number l = record {
  reads : reading (several l.number (l.count - l.number) (split_behind l.rack l.tables l.pieces) l.splits.items) l.rest ≡ reading (several 0 l.count (split_behind l.rack l.tables l.pieces) []) l.bytes;
  stamps : AreStamps l.rack l.stamps (l.last + l.number);
  number : vec_len l.splits ≡ l.number;
}
