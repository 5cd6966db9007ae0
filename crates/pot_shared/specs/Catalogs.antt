-- What the contracts see of an index under its turn, with the passes that it keeps.
use Rattle.std.specs.Prelude.{◌≡◌, ◌<◌, ◌⊎◌, ℕ, List, [], false, Option, IfSome, Contains, length}
use Rattle.std.specs.Prelude.{Some, None}
use Rattle.pot_bytes.specs.declared.digest.Digest.{Digest}
use Rattle.pot_bytes.specs.declared.rack.Rack.{Rack}
use Rattle.pot_index.specs.declared.entry.IndexEntry.{IndexEntry}
use Rattle.pot_index.specs.declared.entry.IndexEntry.TheVariants as entry
use Rattle.pot_index.specs.declared.entry.Logged.{Logged}
use Rattle.pot_index.specs.declared.record.Record.{Record}
use Rattle.pot_index.specs.Entries.{bringing}
use Rattle.pot_index.specs.Index.{IndexView}
use Rattle.pot_turn.specs.declared.name.TurnName.{TurnName}
use Rattle.pot_turn.specs.declared.view.View.{View}
use Rattle.pot_rows.specs.Rows.{PassRow, AreOf, view_at}
use Rattle.pot_shared.specs.declared.catalog.CatalogOrigin.{CatalogOrigin}
use Rattle.pot_shared.specs.Ready.{GroupPass, GroupPasses, AreReady}
use Rattle.pot_shared.specs.Seen.{SeesFile}

pub record CatalogView : Type 0 where
  pub index : IndexView
  pub kept : GroupPasses

-- an entry of the log of an index brings this record: it is published, or has this current split
-- from then on
abbrev pub Publishes : List Logged → Record → Type 0
Publishes log r = (e : IndexEntry) × Contains log (bringing e r)

-- a record is published with one split: it gets a further one by a renewal alone
abbrev pub AreFirstSplits : List Logged → Type 0
AreFirstSplits log =
    (job : ℕ) (name : List ℕ) (mark : Digest) (r : Record)
    → Contains log (bringing (entry.Publish job name mark) r) → r.older ≡ []

-- each record that is published was read, or an entry of the log brought it
abbrev pub AreTold : IndexView → Type 0
AreTold s = (r : Record) → Contains s.now.published r → Contains s.read r ⊎ Publishes s.log r

-- a pass that has two parts of its turn and never called
abbrev pub IsPassKept : GroupPass → Type 0
IsPassKept v = (v.parts ≡ 2) × (v.turns ≡ []) × (v.joined ≡ []) × (v.made ≡ 0)

-- The kept passes are of all groups, have two parts and never called, and have seen the puts of the
-- current split of each record that an entry brought; every other record was read. A record that
-- was published has no other split.
pub record KeepsSeen (c : CatalogView) : Type 0 where
  pub groups : length c.kept.names ≡ c.index.rack.groups
  pub ready : AreReady c.index.rack c.kept.names c.kept
  pub kept : (g : ℕ) → g < length c.kept.names → IsPassKept (view_at c.kept g)
  pub seen : (r : Record) → Publishes c.index.log r → SeesFile c.kept r
  pub told : AreTold c.index
  pub once : AreFirstSplits c.index.log

-- what never changes of it
abbrev pub origin_of : CatalogView → CatalogOrigin
origin_of c = record { rack = c.index.rack; read = c.index.read; names = c.kept.names }

-- what a pass of the index knows
abbrev pub IndexPass : Type 0
IndexPass = View Logged CatalogOrigin

abbrev pub IndexPasses : Type 0
IndexPasses = PassRow Logged CatalogOrigin

-- the records that the index of a pass began with
abbrev pub records_in : Option CatalogOrigin → List Record
records_in None = []
records_in (Some o) = o.read

-- the index is that of the rack, over groups under these turns
abbrev pub IsIndexOf : Rack → List TurnName → Option CatalogOrigin → Type 0
IsIndexOf rack names origin = IfSome origin (λ o. (o.rack ≡ rack) × (o.names ≡ names))

-- the one pass is of the index's turn, holds nothing, and is of that index
pub record IsIndexReady (rack : Rack) (names turn : List TurnName)
    (row : IndexPasses) : Type 0 where
  pub of : AreOf turn row
  pub one : length turn ≡ 1
  pub idle : (at : ℕ) → at < length turn → (view_at row at).holds ≡ false
  pub origin : IsIndexOf rack names (view_at row 0).origin
