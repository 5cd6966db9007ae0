-- What a coalition sees of a run where enough points of some fragment of each piece are not exposed
-- to it.
use Rattle.std.specs.Prelude.{◌≡◌, ◌<◌, ℕ, Bool, nat_lt, List, [], Some, All, Contains, length, map}
use Rattle.std.specs.Prelude.{filter, slice_get, slice_index_or, unwrap_or}
use Rattle.std.specs.List.{flat_map, range_with_len}
use Rattle.pot_bytes.specs.Lists.{AreBytes}
use Rattle.pot_bytes.specs.declared.rack.Rack.{Rack}
use Rattle.pot_bytes.specs.Rack.{IsRack}
use Rattle.pot_machine.specs.Table.{least}
use Rattle.pot_shard.specs.FileLaws.{IsStore}
use Rattle.pot_veil.specs.Veiled as veil
use Rattle.pot_veil.specs.Veiled.{explained_split}
use Rattle.pot_index.specs.declared.record.Record.{Record}
use Rattle.pot_index.specs.declared.record.Split.{Split}
use Rattle.pot_index.specs.Fits.{FitsRack}
use Rattle.pot_index.specs.Records.{current_of, splits_of}
use Rattle.pot_world.specs.declared.step.Step.{Step}
use Rattle.pot_world.specs.Audit.{sight_of}
use Rattle.pot_world.specs.Explains.{AllEndWell, SeenSame}
use Rattle.pot_world.specs.World.{World, first_world, Runs}
use Rattle.pot_audit.specs.declared.spot.Spot.{Spot}
use Rattle.pot_audit.specs.declared.veil.Veil.{Veil}
use Rattle.pot_audit.specs.Exposure.{exposed_points, has_column, is_exposed}
use Rattle.pot_audit.specs.Veils.{AreVeils}

-- each piece of each split has a fragment of which fewer points are exposed than are needed
abbrev pub AreHidden : List Veil → Type 0
AreHidden veils = All (λ v. v.have < v.need) veils

-- all data columns whose blocks are exposed
abbrev pub exposed_columns : Rack → List Spot → List veil.Spot
exposed_columns rack spots =
    flat_map (λ n. map (λ c. record { group = n; column = c })
    (filter (is_exposed rack spots n) (range_with_len 0 rack.columns)))
    (range_with_len 0 rack.groups)

-- the least fragment, from 0, of which fewer points are exposed than are needed
abbrev pub hidden_of : Rack → List Spot → Split → ℕ → ℕ
hidden_of rack spots s i =
    unwrap_or (least s.geometry.fragments
    (λ j. nat_lt (exposed_points rack spots s i j) s.geometry.need)) 0

abbrev pub places_of : Split → veil.Split
places_of s = record { geometry = s.geometry; places = s.places }

-- the random bytes of a split with which another file has the same exposed blocks
abbrev pub other_random : Rack → List Spot → Split → List ℕ → List ℕ → List ℕ → List ℕ
other_random rack spots s file other random =
    explained_split (exposed_columns rack spots) (places_of s) (hidden_of rack spots s) file other
    random

-- those of all splits of a record, by the number of the split
abbrev pub other_randoms : Rack → List Spot → Record → List ℕ → List ℕ → List (List ℕ) → ℕ → List ℕ
other_randoms rack spots r file other randoms n =
    other_random rack spots (slice_index_or (splits_of r) n (current_of r)) file other
    (slice_index_or randoms n [])

-- Take a run, a coalition, and a published record each piece of which has in each split a fragment
-- with fewer exposed points than are needed. Let each renewal of its name that put a block have
-- been published. Then for every other file of that length there is a run of the same steps, with
-- that file and with these random bytes, in which all that the coalition sees is the same: what the
-- archives of its columns hold, and, where the blinds are exchanged, the sums that they heard.
abbrev pub AuditsHide : Type 0
AuditsHide =
    (rack : Rack) (spots : List Spot) (exchanges : Bool) (steps : List Step) (w : World)
    (r : Record) (veils : List Veil) (other : List ℕ) → IsRack rack
    → Runs steps (first_world rack) w → AllEndWell r.name steps (first_world rack)
    → Contains w.index.now.published r
    → AreVeils rack spots r veils → AreHidden veils → AreBytes other → length other ≡ r.length
    → SeenSame rack exchanges (sight_of rack (has_column spots)) steps w r.name other
    (other_randoms rack spots r (w.originals r.name).file other (w.originals r.name).randoms)

-- These random bytes are those of a store of the other file, and with the files exchanged they give
-- the first ones back. So for each two files they are one for one.
abbrev pub BytesReturn : Type 0
BytesReturn =
    (rack : Rack) (spots : List Spot) (r : Record) (veils : List Veil) (n : ℕ) (s : Split)
    (file other random : List ℕ) → IsRack rack → FitsRack rack r
    → AreVeils rack spots r veils → AreHidden veils → slice_get (splits_of r) n ≡ Some s
    → length file ≡ r.length → length other ≡ r.length → AreBytes other
    → IsStore s.geometry file random
    → IsStore s.geometry other (other_random rack spots s file other random)
    × (other_random rack spots s other file (other_random rack spots s file other random) ≡ random)
