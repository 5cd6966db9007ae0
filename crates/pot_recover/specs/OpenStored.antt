-- What blocks give of which some shards of a fragment are gone.
use Rattle.std.specs.Prelude.{◌<◌, ℕ, ◌+◌, zero, suc, List, [], ◌∷◌, length, nat_eq}
use Rattle.std.specs.Prelude.{if◌then◌else◌}
use Rattle.pot_bytes.specs.declared.rack.Geometry.{Geometry}
use Rattle.pot_chains.specs.Listed.{IsIn}
use Rattle.pot_object.specs.Pieces.{pieces_of}
use Rattle.pot_recover.specs.Open.{IsOpenFragmentIn}
use Rattle.pot_recover.specs.Recovered.{IsClosedIn, IsRecovered}
use Rattle.pot_shard.specs.FileLaws.{IsStore, object_in}
use Rattle.pot_shard.specs.Places.{block_in}

-- the place after p of n, counted from 0
abbrev pub place_after : ℕ → ℕ → ℕ
place_after n p = if nat_eq (p + 1) n then 0 else p + 1

-- so many places from p on, the first behind the last
abbrev pub run_of : ℕ → ℕ → ℕ → List ℕ
run_of n p zero = []
run_of n p (suc k) = p ∷ run_of n (place_after n p) k

-- Of a fragment the blocks hold m shards that follow one another.
pub record HoldRun (blocks : List (List ℕ)) (g : Geometry) (file random : List ℕ) (i j : ℕ) : Type
    0 where
  pub first : ℕ
  pub exists : first < g.shards
  pub held : (p : ℕ) → IsIn (run_of g.shards first g.need) p
      → IsIn blocks (block_in g file random i j p)

pub record OpenLaws : Type 0 where
  -- Each fragment that a ring closes with is an open fragment too,
  pub closed : (blocks : List (List ℕ)) (bits : ℕ) (content : List ℕ)
      → IsClosedIn blocks bits content → IsOpenFragmentIn blocks bits content
  -- so each object that rings give is given by open chains.
  pub objects : (blocks : List (List ℕ)) (bits : ℕ) (object : List ℕ)
      → IsRecovered (IsClosedIn blocks bits) object
      → IsRecovered (IsOpenFragmentIn blocks bits) object
  -- The object of a piece is recovered from blocks that hold, of each fragment, m shards that
  -- follow one another, whatever others stand there.
  pub stored : (g : Geometry) (file random : List ℕ) (i : ℕ) → IsStore g file random
      → i < pieces_of (length file)
      → (blocks : List (List ℕ)) → ((j : ℕ) → j < g.fragments → HoldRun blocks g file random i j)
      → IsRecovered (IsOpenFragmentIn blocks g.blur) (object_in file random i)
