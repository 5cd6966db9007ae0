-- The fragments of a piece and the pieces of a file, one after another.
use Rattle.std.proofs.Common.{◌≡◌, ◌<◌, ℕ, ◌+◌, ◌*◌, ◌/◌, List, [], ◌∷◌, ◌++◌, length, ap, sym, ◌∙◌, subst, arith, take, drop}
use Rattle.std.specs.Prelude.{Ok, Err}
use Rattle.std.specs.List.{flat_map, range_with_len}
use Rattle.std.proofs.lemmas.Nat.{div-mul-add}
use Rattle.pot_object.specs.Pieces.{object_size, pieces_of}
use Rattle.pot_split.specs.Secrecy.{meaning, IsRows}
use Rattle.pot_index.specs.declared.record.Record.{Record}
use Rattle.pot_rows.specs.Works.{AllIdle}
use Rattle.pot_shared.specs.Ready.{GroupPasses}
use Rattle.pot_store.specs.declared.fetching.FetchFault.{FetchFault}
use Rattle.pot_store.specs.Visits.{Visit}
use Rattle.pot_store.specs.Reads.{AreMade, AreHad, IsFetchStopped, FragmentRead, PieceRead, FileRead, fragments_in, object_at}
use Rattle.pot_store.proofs.ReadLemmas.{no_reads, reads_then}
use Rattle.pot_store.proofs.GatherLemmas.{had_none, had_then, stopped_then, stopped_first, fragments_more, objects_more}

-- the first j fragments of piece i were had
pub record PieceSofar (job : ℕ) (kept : Record) (i j : ℕ) (bytes : List ℕ) (u w : GroupPasses) : Type 0 where
  pub visits : List Visit
  pub contents : List (List ℕ)
  pub reads : AreMade job kept.places (i * kept.geometry.fragments * kept.geometry.shards) visits u w
  pub had : AreHad kept j visits contents
  pub are : bytes ≡ fragments_in contents j

pub piece_begin : (job : ℕ) (kept : Record) (i : ℕ) (bytes : List ℕ) (u : GroupPasses) → AllIdle u → bytes ≡ [] → PieceSofar job kept i 0 bytes u u
piece_begin job kept i bytes u idle none = record {
  visits = [];
  contents = [];
  reads = no_reads job kept.places (i * kept.geometry.fragments * kept.geometry.shards) 0 u idle;
  had = had_none kept;
  are = none;
}

module _ (job : ℕ) (kept : Record) (i j : ℕ) (bytes : List ℕ) (u v w : GroupPasses) (sofar : PieceSofar job kept i j bytes u v) where
  abbrev k : ℕ
  k = kept.geometry.fragments

  abbrev n : ℕ
  n = kept.geometry.shards

  from_is : (i * k + j) * n ≡ i * k * n + length sofar.visits
  from_is = let l = sofar.had.visited in omega (arith, l)

  then_reads : (vs : List Visit) → AreMade job kept.places ((i * k + j) * n) vs v w → AreMade job kept.places (i * k * n) (sofar.visits ++ vs) u w
  then_reads vs reads = reads_then job u v w sofar.reads.worked reads.worked kept.places (i * k * n) sofar.visits vs sofar.reads (subst (λ m. AreMade job kept.places m vs v w) from_is reads)

  pub piece_step : (new : List ℕ) → FragmentRead job kept i j bytes new (Ok tt) v w → PieceSofar job kept i (j + 1) new u w
  piece_step new read =
      let content = read.ends.0 in
      record {
        visits = sofar.visits ++ read.visits;
        contents = sofar.contents ++ content ∷ [];
        reads = then_reads read.visits read.reads;
        had = had_then kept j 1 sofar.visits read.visits sofar.contents (content ∷ []) sofar.had read.ends.1;
        are = read.ends.2 ∙ fragments_more sofar.contents content bytes j sofar.had.count sofar.are;
      }

  pub piece_stop : (new : List ℕ) (e : FetchFault) → i < pieces_of kept.length → j < k → FragmentRead job kept i j bytes new (Err e) v w → PieceRead job kept i (Err e) u w
  piece_stop new e in_pieces in_fragments read = record {
    visits = sofar.visits ++ read.visits;
    reads = then_reads read.visits read.reads;
    ends = stopped_then kept (i * k) j sofar.visits read.visits sofar.contents e w sofar.had
        (stopped_first kept i j read.visits e w in_pieces in_fragments read.long read.ends);
  }

  pub piece_end : (object : List ℕ) → j ≡ k → object ≡ meaning object_size bytes → PieceRead job kept i (Ok object) u v
  piece_end object e is = record {
    visits = sofar.visits;
    reads = sofar.reads;
    ends = (
      sofar.contents,
      subst (λ m. AreHad kept m sofar.visits sofar.contents) e sofar.had,
      is ∙ (ap (meaning object_size) sofar.are ∙ ap (λ m. meaning object_size (fragments_in sofar.contents m)) e),
    );
  }

-- whole rows
pub whole_rows : (size m : ℕ) (bytes : List ℕ) → 0 < size → length bytes ≡ m * size → IsRows size bytes
whole_rows size m bytes some long =
    let z : length bytes ≡ m * size + 0 = omega (arith, long) in
    let q : length bytes / size ≡ m = ap (λ x. x / size) z ∙ div-mul-add m size 0 some in
    long ∙ sym (ap (λ x. x * size) q)

-- the first i pieces were had
pub record FileSofar (job : ℕ) (kept : Record) (i : ℕ) (bytes : List ℕ) (u w : GroupPasses) : Type 0 where
  pub visits : List Visit
  pub contents : List (List ℕ)
  pub reads : AreMade job kept.places 0 visits u w
  pub had : AreHad kept (i * kept.geometry.fragments) visits contents
  pub are : bytes ≡ flat_map (λ p. drop 64 (object_at kept.geometry.fragments contents p)) (range_with_len 0 i)

pub file_begin : (job : ℕ) (kept : Record) (bytes : List ℕ) (u : GroupPasses) → AllIdle u → bytes ≡ [] → FileSofar job kept 0 bytes u u
file_begin job kept bytes u idle none = record {
  visits = [];
  contents = [];
  reads = no_reads job kept.places 0 0 u idle;
  had = (let z : 0 ≡ 0 * kept.geometry.fragments = omega arith in subst (λ m. AreHad kept m [] []) z (had_none kept));
  are = none;
}

module _ (job : ℕ) (kept : Record) (i : ℕ) (bytes : List ℕ) (u v w : GroupPasses) (sofar : FileSofar job kept i bytes u v) where
  file_from : i * kept.geometry.fragments * kept.geometry.shards ≡ 0 + length sofar.visits
  file_from = let l = sofar.had.visited in omega (arith, l)

  file_reads : (vs : List Visit) → AreMade job kept.places (i * kept.geometry.fragments * kept.geometry.shards) vs v w → AreMade job kept.places 0 (sofar.visits ++ vs) u w
  file_reads vs reads = reads_then job u v w sofar.reads.worked reads.worked kept.places 0 sofar.visits vs sofar.reads (subst (λ m. AreMade job kept.places m vs v w) file_from reads)

  pub file_step : (object : List ℕ) → PieceRead job kept i (Ok object) v w → FileSofar job kept (i + 1) (bytes ++ drop 64 object) u w
  file_step object read =
      let e : i * kept.geometry.fragments + kept.geometry.fragments ≡ (i + 1) * kept.geometry.fragments = omega arith in
      record {
        visits = sofar.visits ++ read.visits;
        contents = sofar.contents ++ read.ends.0;
        reads = file_reads read.visits read.reads;
        had = subst (λ m. AreHad kept m (sofar.visits ++ read.visits) (sofar.contents ++ read.ends.0)) e
            (had_then kept (i * kept.geometry.fragments) kept.geometry.fragments sofar.visits read.visits sofar.contents read.ends.0 sofar.had read.ends.1);
        are = objects_more kept.geometry.fragments i sofar.contents read.ends.0 object bytes sofar.had.count read.ends.2 sofar.are;
      }

  pub file_stop : (new : List ℕ) (e : FetchFault) → PieceRead job kept i (Err e) v w → FileRead job kept new (Err e) u w
  file_stop new e read = record {
    visits = sofar.visits ++ read.visits;
    reads = file_reads read.visits read.reads;
    ends = stopped_then kept 0 (i * kept.geometry.fragments) sofar.visits read.visits sofar.contents e w sofar.had
        (let z : i * kept.geometry.fragments ≡ 0 + i * kept.geometry.fragments = omega arith in subst (λ m. IsFetchStopped kept m read.visits e w) z read.ends);
  }

  pub file_end : (whole : List ℕ) → i ≡ pieces_of kept.length → whole ≡ take kept.length bytes → length whole ≡ kept.length → FileRead job kept whole (Ok tt) u v
  file_end whole e is long = record {
    visits = sofar.visits;
    reads = sofar.reads;
    ends = (
      sofar.contents,
      record {
        had = subst (λ m. AreHad kept (m * kept.geometry.fragments) sofar.visits sofar.contents) e sofar.had;
        long = long;
        are = is ∙ (ap (take kept.length) sofar.are
            ∙ ap (λ m. take kept.length (flat_map (λ p. drop 64 (object_at kept.geometry.fragments sofar.contents p)) (range_with_len 0 m))) e);
      },
    );
  }
