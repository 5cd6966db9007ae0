use Rattle.std.proofs.Common.{◌≡◌, IsTrue, map}
use Rattle.std.specs.Prelude.{vec_len, vec_capacity}
use Rattle.pot_group.specs.Group.{view_of}
use Rattle.pot_shelves.specs.Shelves.{numbers_of}
use Rattle.pot_shared.proofs.GroupLemmas.{EndedSofar}
use Rattle.pot_shared.proofs.leaving.end_groups.Given as goal

abbrev pub invariant-loop-members : goal.invariant-loop-members
invariant-loop-members g l = record {
  ended : EndedSofar (IsTrue g.A.Archive.account.tells) (λ m. view_of g.A.Archive.account.meaning m.group) (λ m. m.group.shelves.shelves) l.initial.members.items l.members.items l.initial.remains.tables.items l.remains.tables.items
      (map (λ v. v.items) l.initial.remains.logs.items) (map (λ v. v.items) l.remains.logs.items) (numbers_of l.initial.remains.hand.items) (numbers_of l.remains.hand.items)
      l.initial.remains.hand.items l.remains.hand.items;
  tables : vec_capacity l.remains.tables ≡ vec_capacity l.initial.remains.tables;
  logs : vec_capacity l.remains.logs ≡ vec_capacity l.initial.remains.logs;
  hand : vec_capacity l.remains.hand ≡ vec_capacity l.initial.remains.hand;
}

abbrev pub decreases-loop-members : goal.decreases-loop-members
decreases-loop-members g l = vec_len l.members
