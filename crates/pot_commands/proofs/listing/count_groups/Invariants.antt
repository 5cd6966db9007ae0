use Rattle.std.proofs.Common.{◌≡◌, IsTrue, vec_len}
use Rattle.std.specs.Vec.{vec_capacity}
use Rattle.pot_shared.specs.Callers.{CanCall}
use Rattle.pot_commands.proofs.StatusLemmas.{IsCounting}
use Rattle.pot_commands.proofs.listing.count_groups.Given as goal

abbrev pub invariant-loop-group : goal.invariant-loop-group
invariant-loop-group g l = record {
  can : CanCall l.shared.vault.now l.passes;
  counting : IsCounting (IsTrue g.A.Archive.account.tells) l.shared.vault.now.rack l.shared.vault.now.groups l.job l.group l.replies.items l.initial.passes.groups l.passes.groups;
  index : l.passes.index ≡ l.initial.passes.index;
  long : vec_len l.replies ≡ l.group;
  room : vec_capacity l.replies ≡ l.groups;
}
