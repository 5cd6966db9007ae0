-- What is read.
use Rattle.std.specs.Prelude.{◌≡◌, ℕ, List, length}
use Rattle.pot_bytes.specs.Digests.{digest_bytes}
use Rattle.pot_index.specs.declared.record.Record.{Record}

-- the bytes have the length and the digest that the record has of its file
pub record IsOfRecord (r : Record) (bytes : List ℕ) : Type 0 where
  pub long : length bytes ≡ r.length
  pub digest : digest_bytes bytes ≡ r.digest.bytes
