use Rattle.std.proofs.Common.{◌≡◌, ◌≤◌, IsTrue, length, map, take}
use Rattle.std.specs.Prelude.{Contains, vec_len, vec_capacity}
use Rattle.pot_outside.specs.Archives.{IsCoherent}
use Rattle.pot_outside.specs.declared.archive.Shelf.{Shelf}
use Rattle.pot_shelves.proofs.archives.mark_all.Given as goal

abbrev pub invariant-loop-shelf : goal.invariant-loop-shelf
invariant-loop-shelf g l = record {
  count : vec_len l.marks ≡ l.shelf-index;
  room : length l.shelves ≤ vec_capacity l.marks;
  faults : map (λ m. m.faults) l.marks.items ≡ map (λ s. (g.A.Archive.account.meaning s.archive).faults) (take l.shelf-index l.shelves);
  losses : IsTrue g.A.Archive.account.tells → map (λ m. m.losses) l.marks.items ≡ map (λ s. (g.A.Archive.account.meaning s.archive).losses) (take l.shelf-index l.shelves);
  coherent : IsTrue g.A.Archive.account.tells → (s : Shelf g.row.A.Denot) → Contains (take l.shelf-index l.shelves) s → IsCoherent (g.A.Archive.account.meaning s.archive);
}
