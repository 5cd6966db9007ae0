-- The splits of a record, and its bytes in an image.
use Rattle.std.specs.Prelude.{ℕ, List, [], ◌∷◌, ◌++◌, length}
use Rattle.std.specs.List.{flat_map}
use Rattle.byteorder.specs.Endian.{big_bytes}
use Rattle.pot_bytes.specs.Digests.{digest_bytes}
use Rattle.pot_bytes.specs.declared.digest.Digest.{Digest}
use Rattle.pot_bytes.specs.declared.rack.Geometry.{Geometry}
use Rattle.pot_bytes.specs.declared.rack.Place.{Place}
use Rattle.pot_index.specs.declared.record.Record.{Record}
use Rattle.pot_index.specs.declared.record.Split.{Split}

abbrev pub current_of : Record → Split
current_of r = record { geometry = r.geometry; places = r.places }

-- all splits of a record, the oldest first and the current one last
abbrev pub splits_of : Record → List Split
splits_of r = r.older ++ current_of r ∷ []

-- the record with a new current split: the old one is the last of the older ones
abbrev pub renewed : Record → Split → Record
renewed r s = record r { geometry = s.geometry; places = s.places; older = splits_of r }

-- the length of the name and the name
abbrev pub name_bytes : List ℕ → List ℕ
name_bytes name = length name ∷ name

abbrev pub geometry_bytes : Geometry → List ℕ
geometry_bytes g = g.fragments ∷ g.need ∷ g.shards ∷ g.blur ∷ []

abbrev pub place_bytes : Place → List ℕ
place_bytes p = p.group ∷ p.column ∷ big_bytes 4 p.stripe

abbrev pub split_bytes : Split → List ℕ
split_bytes s = geometry_bytes s.geometry ++ flat_map place_bytes s.places

-- what stands before the splits: the name, the length in 8 bytes, the digest and the number of
-- splits. Numbers have their highest byte first
abbrev pub head_bytes : Record → List ℕ
head_bytes r =
    ((name_bytes r.name ++ big_bytes 8 r.length) ++ r.digest.bytes) ++ length (splits_of r) ∷ []

-- a record's bytes in an image
unfoldable pub record_bytes : Record → List ℕ
record_bytes r = head_bytes r ++ flat_map split_bytes (splits_of r)

-- the mark of a record: the digest of its bytes
abbrev pub mark_of : Record → Digest
mark_of r = record { bytes = digest_bytes (record_bytes r) }
