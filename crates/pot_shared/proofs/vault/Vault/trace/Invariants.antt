use Rattle.std.proofs.Common.{◌≡◌, IsTrue}
use Rattle.pot_shared.specs.Ready.{AreReady}
use Rattle.pot_shared.proofs.UseLemmas.{Traced}
use Rattle.pot_shared.proofs.vault.Vault.trace.Given as goal

abbrev pub invariant-traced : goal.invariant-traced
invariant-traced g l =
    AreReady l.self.rack l.self.groups l.passes.groups × (l.passes.index ≡ l.fn.passes.index)
    × Traced (IsTrue g.A.Archive.account.tells) l.from l.to l.at l.home l.taken l.fn.passes.groups l.passes.groups
