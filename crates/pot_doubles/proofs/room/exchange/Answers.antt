use Rattle.std.proofs.Common.{◌≡◌, ap, sym, ◌∙◌}
use Rattle.std.specs.Prelude.{Some}
use Rattle.pot_outside.specs.declared.archive.Shelf.{Shelf}
use Rattle.pot_doubles.specs.declared.archive.LossyArchive.{LossyArchive}
use Rattle.pot_doubles.specs.Rooms.{IsFirst}
use Rattle.pot_doubles.proofs.RoomLemmas.{archive_of-first, archive_of-set, archive_of-set_other}
use Rattle.pot_doubles.proofs.room.exchange.Goals as goal

first : (c : goal.After-shelves-1) → IsFirst c.args.shelves.now.items c.args.number c.in-Some.place
first c = rw c.deref.ensures.value at c.in-Some.ensures

same_number : (c : goal.After-shelves-1) → c.index_mut-shelf.result.now.number ≡ c.args.number
same_number c = ap (λ (s : Shelf LossyArchive). s.number) c.index_mut-shelf.ensures.value ∙ (first c).here _

pub returns-in-Some-clause-found : goal.returns-in-Some-clause-found
returns-in-Some-clause-found c =
    archive_of-first c.args.shelves.now.items c.args.number c.in-Some.place _ (first c)
    ∙ ap (λ (s : Shelf LossyArchive). Some s.archive) (sym c.index_mut-shelf.ensures.value) ∙ ap Some (sym c.replace.ensures.value)

pub returns-in-Some-clause-puts : goal.returns-in-Some-clause-puts
returns-in-Some-clause-puts c =
    archive_of-set c.args.shelves.now.items c.args.number c.in-Some.place _ (first c) (same_number c) ∙ ap Some c.replace.ensures.after

pub returns-in-Some-clause-others : goal.returns-in-Some-clause-others
returns-in-Some-clause-others c =
    λ n ne. archive_of-set_other c.args.shelves.now.items c.args.number n c.in-Some.place _ (first c).here (same_number c) ne
