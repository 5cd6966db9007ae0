-- A job of a batch, judged on the section of the batch.
use Rattle.std.proofs.Common.{◌≡◌, ℕ, suc, ◌+◌, ◌<◌, inl, inr, Bool, true, false, List, [], ◌∷◌, ◌++◌, length, map, refl, ap, sym, ◌∙◌, subst, arith, append_assoc, append-nil, eqb-true}
use Rattle.std.specs.Prelude.{filter, slice_get, Some}
use Rattle.std.proofs.lemmas.List.{map-append, append_cancel_left}
use Rattle.std.proofs.lemmas.List.Elements.{filter-append}
use Rattle.pot_machine.specs.Logs.{job_of, is_of, own}
use Rattle.pot_turn.specs.declared.view.View.{View}
use Rattle.pot_turn.specs.Logs.{StartsWith}
use Rattle.pot_turn.proofs.LogLemmas.{get_back}
use Rattle.pot_worked.specs.WroteOnlyFor.{added, WroteOnlyFor, OnlyWriterOf}
use Rattle.pot_worked.specs.Batches.{Carried, Apart, IsInBatch, AreCarried, TellsJobs}
use Rattle.pot_worked.specs.OnlyWriter.{Extends, OnlyWriter}
use Rattle.pot_worked.proofs.BatchLemmas.{alone_in_batch, owned_in_batch}
use Rattle.pot_worked.proofs.OnlyWriterLemmas.{batch_went}
use Rattle.pot_worked.proofs.WroteOnlyForLemmas.{behind}
use Rattle.pot_rows.specs.Rows.{PassRow, view_at}
use Rattle.pot_rows.specs.Works.{CarriedRow, RowJoins, RowWroteOnlyFor, carried_at}
use Rattle.pot_rows.proofs.WorkLemmas.{joins_at_places}
use Rattle.pot_index.specs.Entries as index
use Rattle.pot_shared.specs.declared.member.Logged.{Logged}
use Rattle.pot_shared.specs.Members.{entries_of}
use Rattle.pot_replies.specs.Sections.{Widens}
use Rattle.pot_shared.specs.Works.{of_job, Known, JobOnlyWriter, section_of}
use Rattle.pot_shared.specs.Going.{AllOnlyWriters, AllExtend}
use Rattle.pot_commands.specs.Batches.{Line, group_rows, index_rows, KnownJoins, IsGivenOf, IsLine, AreLines, IsAmongLines, JobsWiden}

-- ONE TURN OF A BATCH

-- whatever its values and origins, the jobs' rows at a place are carried, no two of one number
module _ {E O : Type 0} (of : ℕ → E → Bool) (rows : Line → CarriedRow E O) (numbered : (c : Line) → (rows c).job ≡ c.job) (start : PassRow E O) where
  abbrev pub Carries : Line → Type 0
  Carries c = IsGivenOf start (rows c).given × RowWroteOnlyFor (of (rows c).job) (rows c).given (rows c).done

  -- the jobs are numbered from this one on, and each carried its row
  abbrev pub AllCarry : ℕ → List Line → Type 0
  AllCarry from [] = Unit {0}
  AllCarry from (c ∷ cs) = (c.job ≡ from) × Carries c × AllCarry (suc from) cs

  apart : (at from n : ℕ) (c : Line) (cs : List Line) → c.job ≡ n → n < from → AllCarry from cs → Apart (carried_at at (rows c)) (map (carried_at at) (map rows cs))
  apart at from n c [] is lt all = tt
  apart at from n c (d ∷ cs) is lt all = (
    (λ same. absurd (let a = numbered c in let b = numbered d in let e = all.0 in omega (arith, a, b, e, is, lt, same))),
    apart at (suc from) n c cs is (omega (arith, lt)) all.2,
  )

  carried : (at from : ℕ) (cs : List Line) → AllCarry from cs → AreCarried of (view_at start at).seen (map (carried_at at) (map rows cs))
  carried at from [] all = tt
  carried at from (c ∷ cs) all =
      let given = all.1.0 at in (
        record { seen = given.0; turns = given.1; joined = given.2; worked = all.1.1 at },
        apart at (suc from) from c cs all.0 (omega arith) all.2,
        carried at (suc from) cs all.2,
      )

  is_in : (at : ℕ) (c : Line) (cs : List Line) → IsAmongLines c cs → IsInBatch (carried_at at (rows c)) (map (carried_at at) (map rows cs))
  is_in at c [] among = absurd among
  is_in at c (d ∷ cs) (inl same) = inl (ap (λ (b : Line). carried_at at (rows b)) same)
  is_in at c (d ∷ cs) (inr later) = inr (is_in at c cs later)

  -- the job that one of the rows at a place is of
  line_in : (at : ℕ) (ds : List Line) (c : Carried E O) → IsInBatch c (map (carried_at at) (map rows ds)) → (d : Line) × IsAmongLines d ds × (d.job ≡ c.job)
  line_in at [] c there = absurd there
  line_in at (d ∷ ds) c (inl same) = (d, inl refl, sym (numbered d) ∙ ap (λ (b : Carried E O). b.job) same)
  line_in at (d ∷ ds) c (inr later) = let rest = line_in at ds c later in (rest.0, inr rest.1, rest.2)

  module _ (x : PassRow E O) (from : ℕ) (cs : List Line) (all : AllCarry from cs) (joins : RowJoins start (map rows cs) x) (at : ℕ) where
    pub went_at : Extends (view_at start at) (view_at x at)
    went_at = (batch_went of (view_at start at) (view_at x at) (map (carried_at at) (map rows cs)) (joins_at_places start x (map rows cs) joins at) (carried at from cs all)).0

    -- at one place: the job was alone, and what it saw begins what the batch saw, with no entry of
    -- the job behind
    pub at_place : TellsJobs of → OnlyWriter (view_at start at) (view_at x at) → (c : Line) → IsAmongLines c cs
        → OnlyWriterOf (of (rows c).job) (view_at (rows c).given at) (view_at (rows c).done at) × StartsWith (view_at x at).seen (view_at (rows c).done at).seen
        × (filter (of (rows c).job) (added (view_at start at) (view_at x at)) ≡ filter (of (rows c).job) (added (view_at (rows c).given at) (view_at (rows c).done at)))
    at_place tells sole c among =
        let j = joins_at_places start x (map rows cs) joins at in
        let carry = carried at from cs all in
        let went = batch_went of (view_at start at) (view_at x at) (map (carried_at at) (map rows cs)) j carry in
        alone_in_batch of (view_at start at) (view_at x at) (map (carried_at at) (map rows cs)) tells j carry (went.1 sole) (carried_at at (rows c)) (is_in at c cs among)

    -- each entry that was gained is of a job of the batch
    pub whose_at : OnlyWriter (view_at start at) (view_at x at) → (i : ℕ) (e : E) → slice_get (added (view_at start at) (view_at x at)) i ≡ Some e → (d : Line) × IsAmongLines d cs × (of d.job e ≡ true)
    whose_at sole i e is =
        let j = joins_at_places start x (map rows cs) joins at in
        let carry = carried at from cs all in
        let went = batch_went of (view_at start at) (view_at x at) (map (carried_at at) (map rows cs)) j carry in
        let here : slice_get (view_at x at).seen (length (view_at start at).seen + i) ≡ Some e =
        ap (λ ls. slice_get ls (length (view_at start at).seen + i)) went.0.seen ∙ (get_back (view_at start at).seen (added (view_at start at) (view_at x at)) i ∙ is) in
        let who = owned_in_batch of (view_at start at) (view_at x at) (map (carried_at at) (map rows cs)) j carry (went.1 sole) (length (view_at start at).seen + i) e (omega arith) here in
        let line = line_in at cs who.0 who.1 in
        (line.0, line.1, ap (λ n. of n e) line.2 ∙ who.2)

-- WHAT COMES BEHIND A JOB

module _ {E O : Type 0} (is_of_job : E → Bool) (start given done x : View E O) (same : given.seen ≡ start.seen) (worked : WroteOnlyFor is_of_job given done) (begins : StartsWith x.seen done.seen)
    (owns : filter is_of_job (added start x) ≡ filter is_of_job (added given done)) where
  abbrev rest_of : List E
  rest_of = begins.0

  gained_more : added start x ≡ added given done ++ rest_of
  gained_more = behind x.seen start.seen (added given done ++ rest_of)
      (begins.1 ∙ ap (λ l. l ++ rest_of) (worked.seen ∙ ap (λ l. l ++ added given done) same) ∙ append_assoc start.seen (added given done) rest_of)

  none_behind : filter is_of_job rest_of ≡ []
  none_behind = append_cancel_left (filter is_of_job (added given done)) (filter is_of_job rest_of) []
      (sym (filter-append is_of_job (added given done) rest_of) ∙ ap (filter is_of_job) (sym gained_more) ∙ owns ∙ sym (append-nil (filter is_of_job (added given done))))

-- ENTRIES OF A JOB

tells_job : TellsJobs of_job
tells_job j k l a b = let p = eqb-true (job_of l.entry) j a in let q = eqb-true (job_of l.entry) k b in sym p ∙ q

tells_index : TellsJobs index.is_of
tells_index j k l a b = let p = eqb-true (index.job_in l.entry) j a in let q = eqb-true (index.job_in l.entry) k b in sym p ∙ q

own_at : (job : ℕ) (l : Logged) (ls : List Logged) → own job (entries_of ls) ≡ entries_of (filter (of_job job) ls) → (b : Bool) → is_of job l.entry ≡ b → own job (entries_of (l ∷ ls)) ≡ entries_of (filter (of_job job) (l ∷ ls))
own_at job l ls more true is = rw is (ap (λ es. l.entry ∷ es) more)
own_at job l ls more false is = rw is more

own_entries : (job : ℕ) (ls : List Logged) → own job (entries_of ls) ≡ entries_of (filter (of_job job) ls)
own_entries job [] = refl
own_entries job (l ∷ ls) = own_at job l ls (own_entries job ls) (is_of job l.entry) refl

-- THE WHOLE

pub its_line : (v : Known) (n : ℕ) (ds : List Line) → AreLines v n ds → (c : Line) → IsAmongLines c ds → IsLine v c
its_line v n [] all c among = absurd among
its_line v n (d ∷ ds) all c (inl same) = subst (IsLine v) same all.1
its_line v n (d ∷ ds) all c (inr later) = its_line v (suc n) ds all.2 c later

module _ (v x : Known) (from : ℕ) (cs : List Line) (jobs : AreLines v from cs) (joins : KnownJoins v cs x) where
  group_carry : (n : ℕ) (ds : List Line) → AreLines v n ds → AllCarry of_job group_rows (λ c. refl) v.groups n ds
  group_carry n [] all = tt
  group_carry n (d ∷ ds) all = (all.0, (all.1.groups, all.1.worked.groups), group_carry (suc n) ds all.2)

  index_carry : (n : ℕ) (ds : List Line) → AreLines v n ds → AllCarry index.is_of index_rows (λ c. refl) v.index n ds
  index_carry n [] all = tt
  index_carry n (d ∷ ds) all = (all.0, (all.1.index, all.1.worked.index), index_carry (suc n) ds all.2)

  -- a batch is a going on of the passes
  pub batch_all_went : AllExtend v x
  batch_all_went = record {
    groups = went_at of_job group_rows (λ c. refl) v.groups x.groups from cs (group_carry from cs jobs) joins.groups;
    index = went_at index.is_of index_rows (λ c. refl) v.index x.index from cs (index_carry from cs jobs) joins.index;
  }

  module _ (sole : AllOnlyWriters v x) where
    pub whose_entry : (g i : ℕ) (l : Logged) → slice_get (added (view_at v.groups g) (view_at x.groups g)) i ≡ Some l → (d : Line) × IsAmongLines d cs × (of_job d.job l ≡ true)
    whose_entry g = whose_at of_job group_rows (λ c. refl) v.groups x.groups from cs (group_carry from cs jobs) joins.groups g (sole.groups g)

    pub whose_index_entry : (i : ℕ) (l : _) → slice_get (added (view_at v.index 0) (view_at x.index 0)) i ≡ Some l → (d : Line) × IsAmongLines d cs × (index.is_of d.job l ≡ true)
    whose_index_entry = whose_at index.is_of index_rows (λ c. refl) v.index x.index from cs (index_carry from cs jobs) joins.index 0 (sole.index 0)

    module _ (c : Line) (among : IsAmongLines c cs) where
      its : IsLine v c
      its = its_line v from cs jobs c among

      in_group : (g : ℕ) → OnlyWriterOf (of_job c.job) (view_at c.given.groups g) (view_at c.done.groups g) × StartsWith (view_at x.groups g).seen (view_at c.done.groups g).seen
          × (filter (of_job c.job) (added (view_at v.groups g) (view_at x.groups g)) ≡ filter (of_job c.job) (added (view_at c.given.groups g) (view_at c.done.groups g)))
      in_group g = at_place of_job group_rows (λ d. refl) v.groups x.groups from cs (group_carry from cs jobs) joins.groups g tells_job (sole.groups g) c among

      in_index : (at : ℕ) → OnlyWriterOf (index.is_of c.job) (view_at c.given.index at) (view_at c.done.index at) × StartsWith (view_at x.index at).seen (view_at c.done.index at).seen
          × (filter (index.is_of c.job) (added (view_at v.index at) (view_at x.index at)) ≡ filter (index.is_of c.job) (added (view_at c.given.index at) (view_at c.done.index at)))
      in_index at = at_place index.is_of index_rows (λ d. refl) v.index x.index from cs (index_carry from cs jobs) joins.index at tells_index (sole.index at) c among

      -- its entries in all that the batch gained are those that it had when it was done
      pub its_own : (g : ℕ) → filter (of_job c.job) (added (view_at v.groups g) (view_at x.groups g)) ≡ filter (of_job c.job) (added (view_at c.given.groups g) (view_at c.done.groups g))
      its_own g = (in_group g).2

      pub job_alone : JobOnlyWriter c.job c.given c.done
      job_alone = record { groups = λ g. (in_group g).0; index = λ at. (in_index at).0 }

      pub job_widens : Widens c.job (section_of c.given c.done) (section_of v x)
      job_widens = record {
        before = λ g. ap entries_of (sym (its.groups g).0);
        index_before = sym (its.index 0).0;
        more = λ g. entries_of (in_group g).1.0;
        index_more = (in_index 0).1.0;
        added = λ g.
            let here = in_group g in
            ap entries_of (gained_more (of_job c.job) (view_at v.groups g) (view_at c.given.groups g) (view_at c.done.groups g) (view_at x.groups g) (its.groups g).0 (its.worked.groups g) here.1 here.2)
            ∙ map-append (λ (l : Logged). l.entry) (added (view_at c.given.groups g) (view_at c.done.groups g)) here.1.0;
        index_added =
            let here = in_index 0 in
            gained_more (index.is_of c.job) (view_at v.index 0) (view_at c.given.index 0) (view_at c.done.index 0) (view_at x.index 0) (its.index 0).0 (its.worked.index 0) here.1 here.2;
        others = λ g.
            let here = in_group g in
            own_entries c.job here.1.0
            ∙ ap entries_of (none_behind (of_job c.job) (view_at v.groups g) (view_at c.given.groups g) (view_at c.done.groups g) (view_at x.groups g) (its.groups g).0 (its.worked.groups g) here.1 here.2);
        index_others =
            let here = in_index 0 in
            none_behind (index.is_of c.job) (view_at v.index 0) (view_at c.given.index 0) (view_at c.done.index 0) (view_at x.index 0) (its.index 0).0 (its.worked.index 0) here.1 here.2;
      }

pub jobs_widen : JobsWiden
jobs_widen v x from cs jobs joins sole c among = (job_alone v x from cs jobs joins sole c among, job_widens v x from cs jobs joins sole c among)
