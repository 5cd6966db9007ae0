-- The file of a record, by its answer.
use Rattle.std.proofs.Common.{◌≡◌, ◌≢◌, ℕ, Bool, true, false, List, [], refl, ap, sym, ◌∙◌}
use Rattle.std.specs.Prelude.{Vec, Ok, Err, nat_eq, not}
use Rattle.std.specs.Cmp.Lexicographic.{pointwise, same_text, other_text}
use Rattle.std.specs.Global.{Global}
use Rattle.pot_bytes.specs.declared.digest.Digest.{Digest}
use Rattle.pot_bytes.specs.Digests.{digest_of}
use Rattle.pot_index.specs.declared.record.Record.{Record}
use Rattle.pot_rows.specs.Works.{AllIdle}
use Rattle.pot_shared.specs.Ready.{GroupPasses}
use Rattle.pot_store.specs.declared.fetching.FetchFault.{FetchFault}
use Rattle.pot_store.specs.declared.fetching.FetchFault.TheVariants as fault
use Rattle.pot_store.specs.Visits.{Visit}
use Rattle.pot_store.specs.Reads.{IsFetchStopped, EndsFetch, FileRead, RecordRead}
use Rattle.pot_store.proofs.ReadLemmas.{no_reads}

-- what a comparison of digests tells
pub digests_same : (a b : Digest) → false ≡ not (pointwise nat_eq a.bytes b.bytes) → a ≡ b
digests_same a b told = go (pointwise nat_eq a.bytes b.bytes) refl told
  where
    go : (v : Bool) → pointwise nat_eq a.bytes b.bytes ≡ v → false ≡ not v → a ≡ b
    go true is t = ap (λ x. record { bytes = x }) (same_text a.bytes b.bytes (sym is))
    go false is t = absurd (cc t)

pub digests_differ : (a b : Digest) → true ≡ not (pointwise nat_eq a.bytes b.bytes) → a ≢ b
digests_differ a b told same = go (pointwise nat_eq a.bytes b.bytes) refl told
  where
    go : (v : Bool) → pointwise nat_eq a.bytes b.bytes ≡ v → true ≡ not v → ⊥
    go true is t = cc t
    go false is t = other_text a.bytes b.bytes (sym is) (ap (λ (d : Digest). d.bytes) same)

pub record_none : (job : ℕ) (kept : Record) (u : GroupPasses) → AllIdle u → RecordRead job kept (Err fault.NoMemory) u u
record_none job kept u idle = record { visits = []; reads = no_reads job kept.places 0 0 u idle; ends = refl }

stopped_ends : (kept : Record) (visits : List Visit) (e : FetchFault) (w : GroupPasses) → IsFetchStopped kept 0 visits e w → EndsFetch kept visits (Err e) w
stopped_ends kept visits fault.IndexLogFull w is = is
stopped_ends kept visits fault.Absent w is = is
stopped_ends kept visits (fault.Faulted group column) w is = is
stopped_ends kept visits (fault.Lost piece fragment have need) w is = is
stopped_ends kept visits (fault.LogFull group) w is = is
stopped_ends kept visits (fault.Odd wanted found) w is = absurd is.refused.1
stopped_ends kept visits fault.NoMemory w is = absurd is.refused.1

module _ (job : ℕ) (kept : Record) (u w : GroupPasses) where
  pub record_stopped : (bytes : List ℕ) (e : FetchFault) → FileRead job kept bytes (Err e) u w → RecordRead job kept (Err e) u w
  record_stopped bytes e read = record { visits = read.visits; reads = read.reads; ends = stopped_ends kept read.visits e w read.ends }

  pub record_odd : (bytes : List ℕ) (found : Digest) → FileRead job kept bytes (Ok tt) u w → found ≡ digest_of bytes → found ≢ kept.digest
      → RecordRead job kept (Err (fault.Odd kept.digest found)) u w
  record_odd bytes found read is differs = record {
    visits = read.visits;
    reads = read.reads;
    ends = (read.ends.0, bytes, read.ends.1, refl, is, differs);
  }

  pub record_file : (bytes : Vec ℕ Global) (found : Digest) → FileRead job kept bytes.items (Ok tt) u w → found ≡ digest_of bytes.items → found ≡ kept.digest
      → RecordRead job kept (Ok bytes) u w
  record_file bytes found read is same = record {
    visits = read.visits;
    reads = read.reads;
    ends = (read.ends.0, read.ends.1, sym is ∙ same);
  }
