use Rattle.std.proofs.Common.{◌≡◌, IsTrue, replicate}
use Rattle.std.specs.Prelude.{None}
use Rattle.pot_shared.specs.Ready.{AreReady}
use Rattle.pot_shared.specs.UseCalls.{AsksEach, UseCall}
use Rattle.pot_shared.proofs.vault.Vault.use_of.Given as goal

abbrev pub invariant-asked : goal.invariant-asked
invariant-asked g l =
    AreReady l.self.rack l.self.groups l.passes.groups × (l.passes.index ≡ l.fn.passes.index)
    × AsksEach (IsTrue g.A.Archive.account.tells) (UseCall l.number) (replicate l.at None) l.fn.passes.groups l.passes.groups
