-- A split under way as a program has it.
use Rattle.std.specs.Prelude.{◌≡◌, ◌<◌, ℕ, List, Some, Result, Ok, Err, length}
use Rattle.std.specs.Prelude.{slice_index_or}
use Rattle.pot_bytes.specs.declared.rack.Rack.{Rack}
use Rattle.pot_world.specs.declared.acts.ActFault.{ActFault}
use Rattle.pot_world.specs.declared.acts.ActFault.TheVariants as act_fault
use Rattle.pot_world.specs.Acts as act
use Rattle.pot_world.specs.Data.{SiteData, site_of}
use Rattle.pot_world.specs.Group.{put}
use Rattle.pot_world.specs.Reached.{Makes, Site, moved}
use Rattle.pot_world.specs.World.{UnderWay, blocks_of, grown, next_block, next_group, no_group}
use Rattle.pot_actors.specs.declared.split.OpenSplit.{OpenSplit}

abbrev pub under_way_of : OpenSplit → UnderWay
under_way_of u =
    record {
      name = u.name;
      file = u.file;
      geometry = u.geometry;
      random = u.random;
      renews = u.renews;
      places = u.places.items;
    }

-- a block was put in its group, and came to a place or to none
pub record PutBlock (rack : Rack) (a : ℕ) (old : Site) (u : UnderWay) (new : Site)
    (v : UnderWay) : Type 0 where
  pub left : length u.places < length (blocks_of u)
  pub block : List ℕ
  pub is_next : next_block u ≡ Some block
  pub site : new ≡ moved (Makes (next_group rack u) (act.PutNext a block)) old
  pub kept : v
      ≡ grown (next_group rack u) u
      (put a block (slice_index_or old.groups (next_group rack u) no_group)).place

-- The next block was put; or none is left, or memory was not found, and all is as before.
abbrev pub PutsNext : Rack → ℕ → SiteData → UnderWay → SiteData → UnderWay
    → Result (Unit {0}) ActFault → Type 0
PutsNext rack a old u new v (Ok x) = PutBlock rack a (site_of old) u (site_of new) v
PutsNext rack a old u new v (Err act_fault.NotAllowed) =
    (¬ (length u.places < length (blocks_of u))) × (new ≡ old) × (v ≡ u)
PutsNext rack a old u new v (Err act_fault.NoMemory) = (new ≡ old) × (v ≡ u)
