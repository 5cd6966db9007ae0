-- What a job needs of the passes that it calls a vault with, and what is said of its work.
use Rattle.std.specs.Prelude.{◌≡◌, ℕ, length}
use Rattle.pot_bytes.specs.Rack.{IsRack}
use Rattle.pot_bytes.specs.declared.rack.Rack.{Rack}
use Rattle.pot_rows.specs.Rows.{HasMoreParts}
use Rattle.pot_replies.specs.Sections.{Section}
use Rattle.pot_replies.specs.Settings.{Setting}
use Rattle.pot_shared.specs.declared.caller.Caller.{Caller}
use Rattle.pot_bytes.specs.declared.rack.Place.{Place}
use Rattle.pot_shared.specs.Ready.{AreReady, GroupPasses, HasSlot}
use Rattle.pot_shared.specs.Catalogs.{IndexPasses, IsIndexReady}
use Rattle.pot_shared.specs.Vaults.{VaultView}
use Rattle.pot_shared.specs.Works.{Known, JobOnlyWriter, IsSettingOf, section_of}

-- The vault has a turn for each group of its rack, and the passes can call all of its turns.
pub record CanCall (v : VaultView) (k : Known) : Type 0 where
  pub is_rack : IsRack v.rack
  pub count : length v.groups ≡ v.rack.groups
  pub ready : AreReady v.rack v.groups k.groups
  pub index_ready : IsIndexReady v.rack v.groups v.index k.index

-- each pass has so many parts
abbrev pub HaveParts : ℕ → Known → Type 0
HaveParts n k = HasMoreParts n k.groups × HasMoreParts n k.index

-- Where nobody else logged an entry of the job, this is said of what the logs gained, in every
-- setting that the passes know.
abbrev pub IfOnlyWriter : ℕ → Rack → Known → Known → (Setting → Section → Type 0) → Type 0
IfOnlyWriter job rack old new says =
    JobOnlyWriter job old new → (s : Setting) → IsSettingOf s rack old → says s (section_of old new)

-- WHAT A CALLER ASKS OF ITS PASSES

-- the passes of the groups are ready for calls of its vault
abbrev pub AreReadyFor : {A X : Type 0} → Caller A X → GroupPasses → Type 0
AreReadyFor c row = AreReady c.vault.now.rack c.vault.now.groups row

-- and so is that of the index
abbrev pub IsIndexReadyFor : {A X : Type 0} → Caller A X → IndexPasses → Type 0
IsIndexReadyFor c row = IsIndexReady c.vault.now.rack c.vault.now.groups c.vault.now.index row

-- its vault has a turn for each group of the rack
abbrev pub HasAllGroups : {A X : Type 0} → Caller A X → Type 0
HasAllGroups c = length c.vault.now.groups ≡ c.vault.now.rack.groups

-- and has this slot
abbrev pub HasSlotFor : {A X : Type 0} → Caller A X → Place → Type 0
HasSlotFor c p = HasSlot c.vault.now.rack c.vault.now.groups p

-- what is judged of its job
abbrev pub IfOnlyWriterFor : {A X : Type 0} → Caller A X → Known → Known → (Setting → Section → Type 0)
    → Type 0
IfOnlyWriterFor c old new says = IfOnlyWriter c.job c.vault.now.rack old new says
