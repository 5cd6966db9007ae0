-- What the commands of a session share.
use Rattle.std.specs.Prelude.{ℕ, List}
use Rattle.pot_shared.specs.Vaults.{VaultView}
use Rattle.pot_commands.specs.declared.sharing.Shared.{Shared}

-- what commands have in common: the vault, and what their random bytes are drawn from
pub record Common : Type 0 where
  pub vault : VaultView
  pub seed : List ℕ
  pub session : ℕ

abbrev pub common : VaultView → List ℕ → ℕ → Common
common vault seed session = record { vault = vault; seed = seed; session = session }

-- what those that share this have in common
abbrev pub common_of : {A X : Type 0} → Shared A X → Common
common_of s = common s.vault.now s.seed.now s.session
