-- The answers of `store_file`, each as the job's own entries give it.
use Rattle.std.specs.Prelude.{◌≡◌, ◌<◌, ◌≤◌, ℕ, List, [], Result, Ok, Err, length, map}
use Rattle.pot_bytes.specs.Digests.{digest_bytes, digest_of}
use Rattle.pot_bytes.specs.declared.rack.Geometry.{Geometry}
use Rattle.pot_bytes.specs.declared.rack.Place.{Place}
use Rattle.pot_group.specs.declared.answers.PutFault.{PutFault}
use Rattle.pot_group.specs.declared.answers.PutFault.TheVariants as put_fault
use Rattle.pot_index.specs.declared.record.Record.{Record}
use Rattle.pot_object.specs.Pieces.{longest, pieces_of}
use Rattle.pot_pads.specs.Pads.{Pads}
use Rattle.pot_replies.specs.Settings.{Setting}
use Rattle.pot_replies.specs.Sections.{Section, mine, IsSilent}
use Rattle.pot_replies.specs.Listings.{IsStoreIndexFull}
use Rattle.pot_replies.specs.Stores.{IsLong, IsStoreRefused, IsStored, IsStoreFault, IsStoreFull}
use Rattle.pot_replies.specs.Stores.{IsStoreLogFull}
use Rattle.pot_store.specs.Drawing.{Drawn, blocks_from, count_of}
use Rattle.pot_store.specs.declared.storing.Stored.{Stored}
use Rattle.pot_store.specs.declared.storing.StoreFault.{StoreFault}
use Rattle.pot_store.specs.declared.storing.StoreFault.TheVariants as fault

-- the record of a file whose blocks stand at these places
abbrev pub record_of : List ℕ → List ℕ → Geometry → List Place → Record
record_of name file g places =
    record {
      name = name;
      length = length file;
      digest = record { bytes = digest_bytes file };
      geometry = g;
      places = places;
      older = [];
    }

-- the answer to a put of this group that was refused
abbrev pub fault_of : ℕ → PutFault → StoreFault
fault_of group put_fault.LogFull = fault.LogFull group
fault_of group put_fault.Full = fault.Full group
fault_of group (put_fault.Faulted column) = fault.Faulted group column

-- the blocks of a file by the next bytes of a stream
abbrev pub drawn_blocks : Setting → Pads → List ℕ → List (List ℕ)
drawn_blocks s pads file = blocks_from s.rack.geometry file pads

-- the digests that a session means for the job's file are those of its blocks by the next bytes of
-- the stream
abbrev pub DrawsFrom : Setting → Pads → ℕ → List ℕ → Type 0
DrawsFrom s pads job file =
    s.digests s.rack.geometry job file ≡ map digest_of (drawn_blocks s pads file)

-- what a split of a file has before a block of it is put: its pieces and blocks are counted, no
-- block was drawn, and no place is noted
pub record IsPlan (geometry : Geometry) (file : List ℕ) (pads : Pads) (pieces shards : ℕ)
    (d : Drawn) (places : List Place) : Type 0 where
  pub short : length file ≤ longest
  pub pieces_is : pieces ≡ pieces_of (length file)
  pub shards_is : shards ≡ count_of d
  pub few : shards ≤ 131072
  pub drawing : d ≡ record { geometry = geometry; file = file; start = pads; next = 0 }
  pub none : places ≡ []

-- why it has none of that
abbrev pub IsUnplanned : List ℕ → StoreFault → Type 0
IsUnplanned file (fault.TooLong long) = (longest < length file) × (long ≡ length file)
IsUnplanned file fault.NoMemory = Unit {0}
IsUnplanned file _ = ⊥

-- What each answer says of the section. A name that the job reserved is ended by nobody else, and
-- want of memory comes before anything is logged.
abbrev pub StoreRow : Setting → ℕ → List ℕ → List ℕ → Result Stored StoreFault → Section → Type 0
StoreRow s job name file (Ok x) w = IsStored s job name file x.pieces x.shards (mine job w)
StoreRow s job name file (Err (fault.TooLong long)) w =
    (long ≡ length file) × IsLong (length file) (mine job w)
StoreRow s job name file (Err fault.IndexLogFull) w = IsStoreIndexFull s (length file) job w
StoreRow s job name file (Err fault.Exists) w = IsStoreRefused job name (length file) (mine job w)
StoreRow s job name file (Err (fault.Full group)) w = IsStoreFull s job name file group w
StoreRow s job name file (Err (fault.Faulted group column)) w =
    IsStoreFault s job name file group column (mine job w)
StoreRow s job name file (Err (fault.LogFull group)) w = IsStoreLogFull s job name file group w
StoreRow s job name file (Err (fault.ReservationLost at)) w = ⊥
StoreRow s job name file (Err fault.NoMemory) w = IsSilent (mine job w)
