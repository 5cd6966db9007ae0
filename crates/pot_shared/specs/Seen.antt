-- Which puts passes have seen.
use Rattle.std.specs.Prelude.{◌≡◌, ◌<◌, ℕ, List, [], Some, Contains, length, slice_get}
use Rattle.std.specs.Prelude.{slice_index_or}
use Rattle.pot_bytes.specs.Digests.{digest_bytes, digest_of}
use Rattle.pot_bytes.specs.declared.digest.Digest.{Digest}
use Rattle.pot_bytes.specs.declared.rack.Place.{Place}
use Rattle.pot_machine.specs.declared.entry.Entry.{Entry}
use Rattle.pot_machine.specs.Logs.{IsKeptPut}
use Rattle.pot_index.specs.declared.record.Record.{Record}
use Rattle.pot_shard.specs.FileBlocks.{file_blocks}
use Rattle.pot_shard.specs.FileLaws.{IsStore}
use Rattle.pot_rows.specs.Rows.{view_at}
use Rattle.pot_worked.specs.WroteOnlyFor.{KnowsMore}
use Rattle.pot_shared.specs.Members.{entries_of}
use Rattle.pot_shared.specs.Ready.{GroupPasses}

-- such a Put at this place stands in the log that the pass of its group has seen
abbrev pub SeesPut : GroupPasses → Place → Digest → Type 0
SeesPut row p d =
    (p.group < length row.names)
    × ((job : ℕ) × (e : Entry) × IsKeptPut job p.stripe p.column d e
    × Contains (entries_of (view_at row p.group).seen) e)

-- Such Puts of the blocks of one file, in order at the places of its record.
pub record SeesFile (row : GroupPasses) (r : Record) : Type 0 where
  pub file : List ℕ
  pub random : List ℕ
  pub store : IsStore r.geometry file random
  pub long : length file ≡ r.length
  pub digest : r.digest ≡ record { bytes = digest_bytes file }
  pub puts : (b : ℕ) (p : Place) → slice_get r.places b ≡ Some p
      → SeesPut row p (digest_of (slice_index_or (file_blocks r.geometry file random) b []))

-- the passes have seen more, and nothing else of them changed
abbrev pub RowKnowsMore : GroupPasses → GroupPasses → Type 0
RowKnowsMore old new =
    (new.names ≡ old.names) × (length new.views ≡ length old.views)
    × ((g : ℕ) → g < length old.names → KnowsMore (view_at old g) (view_at new g))
