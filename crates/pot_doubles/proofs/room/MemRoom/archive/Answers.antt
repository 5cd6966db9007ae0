use Rattle.std.proofs.Common.{ap, sym, ◌∙◌}
use Rattle.std.specs.Prelude.{Some}
use Rattle.pot_outside.specs.declared.archive.Shelf.{Shelf}
use Rattle.pot_doubles.specs.Rooms.{IsFirst}
use Rattle.pot_doubles.specs.declared.archive.LossyArchive.{LossyArchive}
use Rattle.pot_doubles.proofs.RoomLemmas.{archive_of-first}
use Rattle.pot_doubles.proofs.room.MemRoom.archive.Goals as goal

pub returns : goal.returns
returns c =
    let first : IsFirst c.args.self.now.shelves.items c.args.number c.in_ok-place.place = rw c.deref.ensures.value at c.in_ok-place.ensures in
    ap (λ (s : Shelf LossyArchive). Some s.archive) c.index.ensures ∙ sym (archive_of-first c.args.self.now.shelves.items c.args.number c.in_ok-place.place _ first)
