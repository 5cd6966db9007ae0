-- The answers of `renew_file`, each as the job's own entries give it.
use Rattle.std.specs.Prelude.{◌≡◌, ◌⊎◌, ◌*◌, ℕ, suc, List, [], None, Result, Ok, Err, length, map}
use Rattle.pot_bytes.specs.declared.rack.Geometry.{Geometry}
use Rattle.pot_bytes.specs.declared.rack.Rack.{Rack}
use Rattle.pot_bytes.specs.Digests.{digest_of}
use Rattle.pot_object.specs.Pieces.{pieces_of}
use Rattle.pot_pads.specs.Pads.{Pads}
use Rattle.pot_group.specs.declared.answers.PutFault.{PutFault}
use Rattle.pot_group.specs.declared.answers.PutFault.TheVariants as put_fault
use Rattle.pot_index.specs.declared.fault.FindFault.{FindFault}
use Rattle.pot_index.specs.declared.fault.FindFault.TheVariants as find_fault
use Rattle.pot_index.specs.declared.fault.RenewFault.{RenewFault}
use Rattle.pot_index.specs.declared.fault.RenewFault.TheVariants as renew_fault
use Rattle.pot_index.specs.declared.record.Record.{Record}
use Rattle.pot_index.specs.declared.record.Split.{Split}
use Rattle.pot_index.specs.Fits.{FitsSplit}
use Rattle.pot_index.specs.Records.{renewed}
use Rattle.pot_rows.specs.Works.{RowOnlyWriterOf}
use Rattle.pot_shared.specs.Ready.{GroupPasses}
use Rattle.pot_shared.specs.Seen.{SeesFile}
use Rattle.pot_replies.specs.Settings.{Setting}
use Rattle.pot_replies.specs.Sections.{Section, mine}
use Rattle.pot_replies.specs.Listings.{IsIndexFull}
use Rattle.pot_replies.specs.Stores.{Placed}
use Rattle.pot_replies.specs.Fetches.{IsFetchAbsent, IsOdd, IsLost, IsFetchFault, IsFetchLogFull}
use Rattle.pot_replies.specs.Renewals.{renewing, AllPut, IsRenewed, IsOften, IsOftenLate}
use Rattle.pot_replies.specs.Renewals.{IsRenewIndexFull, IsRenewFault, IsRenewFull, IsRenewLogFull}
use Rattle.pot_store.specs.Drawing.{blocks_from}
use Rattle.pot_store.specs.Fetches.{IsUnfinished}
use Rattle.pot_store.specs.Puts.{ArePut, PutsEnd}
use Rattle.pot_shared.specs.Works.{of_job}
use Rattle.pot_store.specs.declared.fetching.FetchFault.{FetchFault}
use Rattle.pot_store.specs.declared.fetching.FetchFault.TheVariants as fetch_fault
use Rattle.pot_store.specs.declared.storing.Stored.{Stored}
use Rattle.pot_store.specs.declared.renewing.RenewFileFault.{RenewFileFault}
use Rattle.pot_store.specs.declared.renewing.RenewFileFault.TheVariants as fault

-- WHAT A PART ANSWERED, IN THE WORDS OF THE WHOLE

abbrev pub of_find : FindFault → RenewFileFault
of_find find_fault.LogFull = fault.IndexLogFull
of_find find_fault.Absent = fault.Absent
of_find find_fault.NoMemory = fault.NoMemory

abbrev pub of_fetch : FetchFault → RenewFileFault
of_fetch fetch_fault.IndexLogFull = fault.IndexLogFull
of_fetch fetch_fault.Absent = fault.Absent
of_fetch (fetch_fault.Faulted group column) = fault.Faulted group column
of_fetch (fetch_fault.Lost piece fragment have need) = fault.Lost piece fragment have need
of_fetch (fetch_fault.LogFull group) = fault.LogFull group
of_fetch (fetch_fault.Odd wanted found) = fault.Odd wanted found
of_fetch fetch_fault.NoMemory = fault.NoMemory

abbrev pub of_put : ℕ → PutFault → RenewFileFault
of_put group put_fault.LogFull = fault.LogFull group
of_put group put_fault.Full = fault.Full group
of_put group (put_fault.Faulted column) = fault.Faulted group column

abbrev pub of_renew : RenewFault → RenewFileFault
of_renew renew_fault.LogFull = fault.IndexLogFull
of_renew renew_fault.TooOften = fault.TooOften
of_renew renew_fault.NoMemory = fault.NoMemory

-- THE PUTS OF THE NEW SPLIT

-- the puts ended at this one
pub record StopsAtPut (rack : Rack) (geometry : Geometry) (job : ℕ) (file : List ℕ) (pads : Pads)
    (e : RenewFileFault) (old new : GroupPasses) : Type 0 where
  pub group : ℕ
  pub cause : PutFault
  pub is : e ≡ of_put group cause
  pub ends : RowOnlyWriterOf (of_job job) old new
      → PutsEnd rack geometry job (blocks_from geometry file pads) group cause old new

-- The blocks of a file, by the next bytes of a stream, were put as a split of this geometry, which
-- each record of that file may get.
pub record IsFileSplit (rack : Rack) (geometry : Geometry) (job : ℕ) (file : List ℕ) (pads : Pads)
    (x : Stored) (split : Split) (old new : GroupPasses) : Type 0 where
  pub pieces_is : x.pieces ≡ pieces_of (length file)
  pub shards_is : x.shards ≡ length split.places
  pub geometry_is : split.geometry ≡ geometry
  pub many : length split.places ≡ pieces_of (length file) * (geometry.fragments * geometry.shards)
  pub puts : ArePut rack geometry job (blocks_from geometry file pads) split.places old new
  pub fits : FitsSplit rack (pieces_of (length file)) split
  pub sees : (r : Record) → r.length ≡ length file → r.digest ≡ digest_of file
      → SeesFile new (renewed r split)

abbrev pub PutsSplit : Rack → Geometry → ℕ → List ℕ → Pads → Result (Stored × Split) RenewFileFault
    → GroupPasses → GroupPasses → Type 0
PutsSplit rack geometry job file pads (Ok (x, split)) old new =
    IsFileSplit rack geometry job file pads x split old new
PutsSplit rack geometry job file pads (Err fault.NoMemory) old new = new ≡ old
PutsSplit rack geometry job file pads (Err e) old new =
    StopsAtPut rack geometry job file pads e old new

-- THE ANSWERS

-- the digests that a session means for the new split of any file are those of its blocks by the
-- next bytes of the stream
abbrev pub RenewsFrom : Setting → Pads → Geometry → ℕ → Type 0
RenewsFrom s pads geometry job =
    (file : List ℕ)
    → s.digests geometry (renewing job) file ≡ map digest_of (blocks_from geometry file pads)

-- What each answer says of the section: it ended as a fetch does, or at the puts of the new split,
-- or behind them. The number of a fragment counts from 1.
abbrev pub RenewRow : Setting → ℕ → List ℕ → Geometry → Result Stored RenewFileFault → Section
    → Type 0
RenewRow s job name geometry (Ok x) w = IsRenewed s job name geometry x.pieces x.shards w
RenewRow s job name geometry (Err fault.IndexLogFull) w =
    IsIndexFull s 1 job w ⊎ IsRenewIndexFull s job name geometry w
RenewRow s job name geometry (Err fault.Absent) w = IsFetchAbsent job name (mine job w)
RenewRow s job name geometry (Err fault.TooOften) w =
    IsOften s job name w ⊎ IsOftenLate s job name geometry w
RenewRow s job name geometry (Err (fault.Faulted group column)) w =
    IsFetchFault s job name group column w ⊎ IsRenewFault s job name geometry group column w
RenewRow s job name geometry (Err (fault.Lost piece fragment have need)) w =
    (j : ℕ) × (fragment ≡ suc j) × IsLost s job name piece j have need w
RenewRow s job name geometry (Err (fault.LogFull group)) w =
    IsFetchLogFull s job name group w ⊎ IsRenewLogFull s job name geometry group w
RenewRow s job name geometry (Err (fault.Odd wanted found)) w = IsOdd None s job name wanted found w
RenewRow s job name geometry (Err (fault.Full group)) w = IsRenewFull s job name geometry group w
RenewRow s job name geometry (Err fault.NoMemory) w =
    IsUnfinished s job name w ⊎ ((placed : List Placed) × AllPut [] s job name geometry placed w)
