-- What all rows of a session share.
use Rattle.std.specs.Prelude.{ℕ, Bool, List}
use Rattle.pot_bytes.specs.declared.digest.Digest.{Digest}
use Rattle.pot_bytes.specs.declared.rack.Geometry.{Geometry}
use Rattle.pot_bytes.specs.declared.rack.Rack.{Rack}
use Rattle.pot_machine.specs.Table.{Table}
use Rattle.pot_index.specs.declared.record.Record.{Record}

pub record Setting : Type 0 where
  pub rack : Rack
  -- as read from the image: the table of each group, and the published records
  pub first : ℕ → Table
  pub read : List Record
  -- by geometry, job and file the digests of the blocks of the file, made with the job's random
  -- bytes
  pub digests : Geometry → ℕ → List ℕ → List Digest
  -- whether a fetch mends what it finds missing; else a place that is Gone once can't be had
  pub mends : Bool
