-- The world that a rack begins with.
use Rattle.std.proofs.Common.{◌≡◌, ℕ, [], List, Vec, map, refl, ap, ◌∙◌}
use Rattle.std.specs.Global.{Global}
use Rattle.std.specs.declared.snapshot.Snapshot.{Snapshot}
use Rattle.pot_bytes.specs.declared.rack.Rack.{Rack}
use Rattle.pot_bytes.specs.Rack.{IsRack}
use Rattle.pot_index.specs.Index.{started}
use Rattle.pot_world.specs.Data.{SiteData, site_of}
use Rattle.pot_world.specs.Reached.{first_site}
use Rattle.pot_world.specs.World.{Original, Runs, World, first_world, kept_of}
use Rattle.pot_actors.specs.declared.ledger.Ledger.{Ledger}
use Rattle.pot_actors.specs.declared.split.OpenSplit.{OpenSplit}
use Rattle.pot_actors.specs.Ledgers.{index_of}
use Rattle.pot_actors.specs.Seats.{SeatData, actor_at}
use Rattle.pot_actors.specs.Worlds.{IsWorldReached, originals_from, originals_of, split_values, world_of}
use Rattle.pot_actors.proofs.SeatLemmas.{no_actors}

no_originals : ◌≡◌ {A = List ℕ → Original} (originals_of []) (λ name. record { file = []; randoms = [] })
unfolding originals_from
no_originals = refl

pub first_is : (rack : Rack) (groups : SiteData) (names : Ledger) (seats : Vec SeatData Global) (begun ended : Vec (Snapshot OpenSplit) Global)
    → site_of groups ≡ first_site rack → index_of names ≡ started rack [] → seats.items ≡ [] → begun.items ≡ [] → ended.items ≡ []
    → world_of (record { groups = groups; names = names; seats = seats; begun = begun; ended = ended }) ≡ first_world rack
first_is rack groups names seats begun ended es en ea eb ee =
    λ i. record {
      site = es i;
      index = en i;
      actors = (ap actor_at ea ∙ no_actors) i;
      kept = map kept_of (split_values (eb i));
      originals = (ap (λ ss. originals_of (split_values ss)) ee ∙ no_originals) i;
    }

pub reached_first : (rack : Rack) (w : World) → IsRack rack → w ≡ first_world rack → IsWorldReached w
unfolding Runs
reached_first rack w fits e = (rack, [], fits, e)
