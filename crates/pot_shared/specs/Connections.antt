-- A job's connection to a vault: what clauses see of it, and what its calls do with it.
use Rattle.std.specs.Prelude.{◌≡◌, ℕ, List}
use Rattle.pot_bytes.specs.declared.rack.Rack.{Rack}
use Rattle.pot_rows.specs.Parts.{RowNew}
use Rattle.pot_replies.specs.Sections.{Section}
use Rattle.pot_replies.specs.Settings.{Setting}
use Rattle.pot_turn.specs.declared.name.TurnName.{TurnName}
use Rattle.pot_shared.specs.declared.connection.Connection.{Connection}
use Rattle.pot_shared.specs.Ready.{GroupPasses}
use Rattle.pot_shared.specs.Catalogs.{IndexPasses}
use Rattle.pot_shared.specs.Seen.{RowKnowsMore}
use Rattle.pot_shared.specs.Vaults.{VaultView}
use Rattle.pot_shared.specs.Works.{Known, JobWroteOnly, JobOnlyWriter, IsSettingOf, section_of}

-- what stays of a connection: the vault that it calls, and its job
pub record Bound : Type 0 where
  pub vault : VaultView
  pub job : ℕ

module _ {A X : Type 0} where
  abbrev pub bound : Connection A X → Bound
  bound s = record { vault = s.vault.now; job = s.job }

  -- what its passes know
  abbrev pub knows : Connection A X → Known
  knows s = s.passes

  -- the shape of the archive
  abbrev pub rack_of : Connection A X → Rack
  rack_of s = s.vault.now.rack

  -- the turns of the groups
  abbrev pub names_of : Connection A X → List TurnName
  names_of s = s.vault.now.groups

  -- the number of its job
  abbrev pub job_of : Connection A X → ℕ
  job_of s = s.job

  -- this was done with the passes of the groups, and nothing else of the connection changed
  pub record InGroups (R : Bound → GroupPasses → GroupPasses → Type 0)
      (old new : Connection A X) : Type 0 where
    pub same : bound new ≡ bound old
    pub index : (knows new).index ≡ (knows old).index
    pub is : R (bound old) (knows old).groups (knows new).groups

  -- this was done with the pass of the index, and nothing else of the connection changed
  pub record InIndex (R : Bound → IndexPasses → IndexPasses → Type 0)
      (old new : Connection A X) : Type 0 where
    pub same : bound new ≡ bound old
    pub groups : (knows new).groups ≡ (knows old).groups
    pub is : R (bound old) (knows old).index (knows new).index

  -- the same, while the passes of the groups saw more
  pub record InTied (R : Bound → GroupPasses → IndexPasses → IndexPasses → Type 0)
      (old new : Connection A X) : Type 0 where
    pub same : bound new ≡ bound old
    pub groups : RowKnowsMore (knows old).groups (knows new).groups
    pub is : R (bound old) (knows new).groups (knows old).index (knows new).index

  -- Through the connection its job alone was worked for.
  pub record WroteForItsJob (old new : Connection A X) : Type 0 where
    pub same : bound new ≡ bound old
    pub worked : JobWroteOnly (job_of old) (knows old) (knows new)

  -- a connection for this job to the same vault, whose passes took these parts and know what the
  -- old ones do
  pub record IsConnectionSplit (job parts : ℕ) (old new : Connection A X) : Type 0 where
    pub bound_is : bound new ≡ record { vault = (bound old).vault; job = job }
    pub groups : RowNew parts (knows old).groups (knows new).groups
    pub index : RowNew parts (knows old).index (knows new).index

  -- Where nobody else logged an entry of its job, this is said of what the logs gained, in every
  -- setting that its passes know.
  abbrev pub TellsIfOnlyWriter : (Bound → Setting → Section → Type 0) → Connection A X → Connection A X → Type 0
  TellsIfOnlyWriter says old new =
      JobOnlyWriter (job_of old) (knows old) (knows new)
      → (s : Setting) → IsSettingOf s (rack_of old) (knows old)
      → says (bound old) s (section_of (knows old) (knows new))
