-- The visits to the points of a fragment, one after another.
use Rattle.std.proofs.Common.{◌≡◌, ◌≢◌, ◌<◌, ◌≤◌, ◌⊎◌, inl, inr, ⊎_elim, ℕ, zero, suc, ◌+◌, ◌*◌, true, false, List, [], ◌∷◌, ◌++◌, length, refl, ap, sym, ◌∙◌, subst, arith, replicate, drop}
use Rattle.std.specs.Prelude.{Ok, Err, Contains, filter, slice_set, slice_index_or}
use Rattle.std.proofs.lemmas.List.{length-replicate}
use Rattle.std.proofs.lemmas.Bool.{cases_eq, cases_lt}
use Rattle.pot_bytes.specs.declared.rack.Place.{Place}
use Rattle.pot_machine.specs.declared.entry.Entry.{Entry}
use Rattle.pot_machine.specs.declared.entry.Entry.TheVariants as entry
use Rattle.pot_machine.specs.Table.{count}
use Rattle.pot_split.specs.Threshold.{IsJoin}
use Rattle.pot_object.specs.Pieces.{content_size}
use Rattle.pot_machine.proofs.Searches.{count_none}
use Rattle.pot_index.specs.declared.record.Record.{Record}
use Rattle.pot_rows.specs.Works.{AllIdle}
use Rattle.pot_replies.specs.Fetches.{LooksTwice}
use Rattle.pot_replies.specs.Jobs.{is_look_at}
use Rattle.pot_replies.specs.Joined.{points_read, shares_read}
use Rattle.pot_shared.specs.Ready.{GroupPasses}
use Rattle.pot_store.specs.declared.fetching.FetchFault.{FetchFault}
use Rattle.pot_store.specs.declared.fetching.FetchFault.TheVariants as fault
use Rattle.pot_store.specs.declared.points.Points.{Points}
use Rattle.pot_store.specs.declared.shares.Shares.{Shares}
use Rattle.pot_store.specs.declared.visiting.Point.TheVariants as point
use Rattle.pot_store.specs.Visits.{Came, Unknown, Seen, Gone, Lost, Failed, Barred, was_seen, block_in, Visit, unvisited, MayVisit, LooksOnce, MendsOn, EndsVisit, EndsSecond, EndsInVain, EndsGone, look_logs, visit_at, came_at, place_in, seen_in}
use Rattle.pot_store.specs.Points.{came_in, AreUnknown, IsPointSet, AreGathered}
use Rattle.pot_store.specs.Reads.{AreMade, PointRead, AreTried, PointsTried, PointsBarred, PointsRead, AreTooFewSeen, IsFileMissing, IsRefused, FragmentRead}
use Rattle.pot_store.proofs.LookLemmas.{hit, visit_none, visit_set, visit_other, set_long}
use Rattle.pot_store.proofs.FitLemmas.{GroupsDiffer}
use Rattle.pot_store.proofs.ReadLemmas.{GoesOn, no_reads, reads_set}
use Rattle.pot_store.proofs.GatherLemmas.{had_one}
use Rattle.pot_store.proofs.NoteLemmas.{count_change, not_barred, one_most}
use Rattle.pot_shared.proofs.Times.{one_if}

-- A LOOK, AND A MEND BEHIND IT

-- a look is a visit
pub look_goes : (job : ℕ) (p : Place) (came : Came) (v w : GroupPasses) → LooksOnce job p came v w → GoesOn job p [] (record { entries = look_logs job p came; came = came }) v w
look_goes job p came v w is = record {
  entries = look_logs job p came;
  are = refl;
  adds = is.visits.adds;
  is = is.visits.is;
  block = is.visits.block;
  again = λ lost. absurd (is.known (inr lost));
}

-- what ends in vain is not empty
not_empty : (job : ℕ) (p : Place) → EndsInVain job p [] → ⊥
not_empty job p (inl ([], e, is, what)) = cc is
not_empty job p (inl (x ∷ sofar, e, is, what)) = cc is
not_empty job p (inr (inl ([], e, is, what))) = cc is
not_empty job p (inr (inl (x ∷ sofar, e, is, what))) = cc is
not_empty job p (inr (inr ([], e, is, what))) = cc is
not_empty job p (inr (inr (x ∷ sofar, e, is, what))) = cc is

module _ (job : ℕ) (p : Place) where
  abbrev gone : Entry
  gone = entry.Gone job p.stripe p.column

  -- the last entry behind the first look is the last of all
  vain_behind : (es : List Entry) → EndsInVain job p es → EndsInVain job p (gone ∷ es)
  vain_behind es (inl (sofar, e, is, what)) = inl (gone ∷ sofar, e, ap (λ l. gone ∷ l) is, what)
  vain_behind es (inr (inl (sofar, e, is, what))) = inr (inl (gone ∷ sofar, e, ap (λ l. gone ∷ l) is, what))
  vain_behind es (inr (inr (sofar, e, is, what))) = inr (inr (gone ∷ sofar, e, ap (λ l. gone ∷ l) is, what))

  ends_behind : (es : List Entry) (came : Came) → EndsSecond job p es came → EndsVisit job p (gone ∷ es) came
  ends_behind es Unknown is = absurd is
  ends_behind es (Seen block) is = tt
  ends_behind es Gone is = absurd is
  ends_behind es Lost is = vain_behind es is
  ends_behind es (Failed column) (sofar, t, is, any) = (gone ∷ sofar, t, ap (λ l. gone ∷ l) is, inr (zero, omega arith, refl))
  ends_behind es Barred is = tt

  looks_behind : (es : List Entry) → (filter (is_look_at p.stripe p.column) es ≡ []) ⊎ ((e : Entry) × (filter (is_look_at p.stripe p.column) es ≡ e ∷ []))
      → filter (is_look_at p.stripe p.column) (gone ∷ es) ≡ gone ∷ filter (is_look_at p.stripe p.column) es → LooksTwice job p.stripe p.column (gone ∷ es)
  looks_behind es (inl none) first = inr (inl (gone, first ∙ ap (λ l. gone ∷ l) none))
  looks_behind es (inr (e, one)) first = inr (inr (e, first ∙ ap (λ l. gone ∷ l) one))

  gone_first : (es : List Entry) → filter (is_look_at p.stripe p.column) (gone ∷ es) ≡ gone ∷ filter (is_look_at p.stripe p.column) es
  gone_first es = rw (hit p.stripe p.column p.stripe p.column refl refl) refl

  last_behind : (es : List Entry) → EndsInVain job p es → EndsGone job p (gone ∷ es) → EndsGone job p es
  last_behind es vain ([], e, is, what) = absurd (not_empty job p (subst (EndsInVain job p) (tail_same is) vain))
    where
      tail_same : gone ∷ es ≡ e ∷ [] → es ≡ []
      tail_same h = cc h
  last_behind es vain (x ∷ sofar, e, is, what) = (sofar, e, cc is, what)

  -- a place that was mended after a Gone was visited once
  pub mend_goes : (came : Came) (v w : GroupPasses) (is : MendsOn job p came v w)
      → GoesOn job p (gone ∷ []) (record { entries = gone ∷ is.entries; came = came }) v w
  mend_goes came v w is = record {
    entries = is.entries;
    are = refl;
    adds = is.adds;
    is = record {
      kinds = λ e has. kinds_behind e has;
      looks = looks_behind is.entries is.is.looks (gone_first is.entries);
      one_stuck = is.is.one_stuck;
      begun = is.is.begun;
      seen = is.is.seen;
      ends = ends_behind is.entries came is.is.ends;
    };
    block = is.block;
    again = λ lost ends. ((zero, omega arith, refl), is.again lost (last_behind is.entries (subst (λ c. EndsSecond job p is.entries c) lost is.is.ends) ends));
  }
    where
      kinds_behind : (e : Entry) → Contains (gone ∷ is.entries) e → MayVisit job p e
      kinds_behind e (zero, lt, same) = subst (MayVisit job p) same (refl, refl, refl)
      kinds_behind e (suc k, lt, same) = is.is.kinds e (k, omega (arith, lt), same)

-- ONE STEP

-- what is known of a point besides
came_same : (points : Points) (visits : List Visit) → ((y : ℕ) → came_in points y ≡ came_at visits y) → came_in points ≡ came_at visits
came_same points visits same = λ i y. same y i

module _ (vs : List Visit) (x : ℕ) (v : Visit) (lt : x < length vs) where
  set_came : came_at (slice_set vs x v) x ≡ v.came
  set_came = ap (λ (z : Visit). z.came) (visit_set vs x v lt)

  other_came : (y : ℕ) → y ≢ x → came_at (slice_set vs x v) y ≡ came_at vs y
  other_came y ne = ap (λ (z : Visit). z.came) (visit_other vs x y v ne)

  -- the points know it too
  set_same : (old new : Points) → ((y : ℕ) → came_in old y ≡ came_at vs y) → IsPointSet x v.came old new → (y : ℕ) → came_in new y ≡ came_at (slice_set vs x v) y
  set_same old new same (here, others) y = ⊎_elim
      (λ (e : y ≡ x). subst (λ z. came_in new z ≡ came_at (slice_set vs x v) z) (sym e) (here ∙ sym set_came))
      (λ (ne : y ≢ x). others y ne ∙ (same y ∙ sym (other_came y ne)))
      (cases_eq y x)

  -- at most one more was seen
  set_seen : (n : ℕ) → seen_in n (slice_set vs x v) ≤ seen_in n vs + one_if (was_seen v.came)
  set_seen n =
      let a = count_change n x (λ y. was_seen (came_at vs y)) (λ y. was_seen (came_at (slice_set vs x v) y)) (λ y ne. ap was_seen (other_came y ne)) in
      let e : one_if (was_seen (came_at (slice_set vs x v) x)) ≡ one_if (was_seen v.came) = ap (λ c. one_if (was_seen c)) set_came in
      omega (arith, a, e)

-- as many were seen as the points say
pub many_seen : (n : ℕ) (points : Points) (visits : List Visit) → ((y : ℕ) → came_in points y ≡ came_at visits y) → count n (λ y. was_seen (came_in points y)) ≡ seen_in n visits
many_seen n points visits same = ap (λ (f : ℕ → Came). count n (λ y. was_seen (f y))) (came_same points visits same)

-- LOOKS

-- the first x points were looked at
pub record LookSofar (job : ℕ) (places : List Place) (from n need x : ℕ) (points : Points) (u w : GroupPasses) : Type 0 where
  pub visits : List Visit
  pub long : length visits ≡ n
  pub reads : AreMade job places from visits u w
  pub same : (y : ℕ) → came_in points y ≡ came_at visits y
  pub looked : (y : ℕ) → y < x → came_at visits y ≢ Unknown
  pub rest : (y : ℕ) → x ≤ y → visit_at visits y ≡ unvisited
  pub low : seen_in n visits ≤ need

pub looks_begin : (job : ℕ) (places : List Place) (from n need : ℕ) (points : Points) (u : GroupPasses) → AllIdle u → AreUnknown points → LookSofar job places from n need 0 points u u
looks_begin job places from n need points u idle none = record {
  visits = replicate n unvisited;
  long = length-replicate n unvisited;
  reads = no_reads job places from n u idle;
  same = λ y. none y ∙ sym (ap (λ (v : Visit). v.came) (visit_none n y));
  looked = λ y lt. absurd (omega (arith, lt));
  rest = λ y le. visit_none n y;
  low = (let z = count_none n (λ y. was_seen (came_at (replicate n unvisited) y)) (λ y lt. ap (λ (v : Visit). was_seen v.came) (visit_none n y)) in omega (arith, z));
}

module _ (job : ℕ) (places : List Place) (from n need x : ℕ) (points new : Points) (p : Place) (u v w : GroupPasses) (differ : GroupsDiffer places from n) (lt : x < n)
    (at : p ≡ place_in places (from + x)) where
  -- one visit goes on
  next_reads : (visits : List Visit) → length visits ≡ n → AreMade job places from visits u v → (visit : Visit) → GoesOn job p (visit_at visits x).entries visit v w
      → AreMade job places from (slice_set visits x visit) u w
  next_reads visits long reads visit on =
      reads_set job u v w places from visits x visit (omega (arith, lt, long)) (λ y more less. differ x y more (omega (arith, less, long))) reads
      (subst (λ q. GoesOn job q (visit_at visits x).entries visit v w) at on)

  module _ (sofar : LookSofar job places from n need x points u v) (few : count n (λ y. was_seen (came_in points y)) ≢ need) where
    within : x < length sofar.visits
    within = (let l = sofar.long in omega (arith, lt, l))

    fewer : seen_in n sofar.visits < need
    fewer = (let l = sofar.low in let m = many_seen n points sofar.visits sofar.same in omega (arith, l, m, few))

    abbrev looked_at : Came → Visit
    looked_at came = record { entries = look_logs job p came; came = came }

    look_reads : (came : Came) → LooksOnce job p came v w → AreMade job places from (slice_set sofar.visits x (looked_at came)) u w
    look_reads came is =
        let none : [] ≡ (visit_at sofar.visits x).entries = ap (λ (z : Visit). z.entries) (sym (sofar.rest x (omega arith))) in
        next_reads sofar.visits sofar.long sofar.reads (looked_at came) (subst (λ es. GoesOn job p es (looked_at came) v w) none (look_goes job p came v w is))

    pub looks_step : PointRead (LooksOnce job p) x points new true v w → LookSofar job places from n need (x + 1) new u w
    looks_step read =
        let visit : Visit = looked_at read.came in record {
          visits = slice_set sofar.visits x visit;
          long = set_long sofar.visits x visit ∙ sofar.long;
          reads = look_reads read.came read.step;
          same = set_same sofar.visits x visit within points new sofar.same read.noted;
          looked = λ y less. ⊎_elim
              (λ (e : y ≡ x). (λ none. read.step.known (inl (sym (set_came sofar.visits x visit within) ∙ (ap (came_at (slice_set sofar.visits x visit)) (sym e) ∙ none)))))
              (λ (ne : y ≢ x). (λ none. sofar.looked y (omega (arith, less, ne)) (sym (other_came sofar.visits x visit within y ne) ∙ none)))
              (cases_eq y x);
          rest = λ y le. visit_other sofar.visits x y visit (λ e. omega (arith, e, le)) ∙ sofar.rest y (omega (arith, le));
          low = (let s = set_seen sofar.visits x visit within n in let m = one_most (was_seen read.came) in let f = fewer in omega (arith, s, m, f));
        }

    -- a look was refused
    pub looks_full : PointRead (LooksOnce job p) x points new false v w → PointsBarred job places from n need p.group u w
    looks_full read =
        let visit : Visit = looked_at read.came in record {
          visits = slice_set sofar.visits x visit;
          reads = look_reads read.came read.step;
          long = set_long sofar.visits x visit ∙ sofar.long;
          barred = record {
            point = x;
            within = lt;
            none = set_came sofar.visits x visit within ∙ read.noted;
            group_is = ap (λ (q : Place). q.group) at;
            fewer = (let s = set_seen sofar.visits x visit within n in let m = ap (λ c. one_if (was_seen c)) read.noted in let f = fewer in omega (arith, s, m, f));
            full = read.step.visits.barred read.noted;
          };
        }

-- as many were seen as are needed
pub looks_enough : (job : ℕ) (places : List Place) (from n need x : ℕ) (points : Points) (u v : GroupPasses) (sofar : LookSofar job places from n need x points u v)
    → count n (λ y. was_seen (came_in points y)) ≡ need → PointsTried job places from n need 0 points u v
looks_enough job places from n need x points u v sofar enough = record {
  visits = sofar.visits;
  reads = sofar.reads;
  long = sofar.long;
  same = sofar.same;
  tried = inl (sym (many_seen n points sofar.visits sofar.same) ∙ enough);
}

-- all were looked at
pub looks_end : (job : ℕ) (places : List Place) (from n need x : ℕ) (points : Points) (u v : GroupPasses) (sofar : LookSofar job places from n need x points u v)
    → x ≡ n → PointsTried job places from n need 0 points u v
looks_end job places from n need x points u v sofar e = record {
  visits = sofar.visits;
  reads = sofar.reads;
  long = sofar.long;
  same = sofar.same;
  tried = ⊎_elim
      (λ (less : seen_in n sofar.visits < need). inr (less, λ y lt. (sofar.looked y (omega (arith, lt, e)), λ none. absurd (omega (arith, none)))))
      (λ (le : need ≤ seen_in n sofar.visits). inl (let l = sofar.low in omega (arith, l, le)))
      (cases_lt (seen_in n sofar.visits) need);
}

-- MENDS

module _ (job : ℕ) (places : List Place) (from n need x : ℕ) (points : Points) (u v : GroupPasses) (sofar : PointsTried job places from n need x points u v) where
  abbrev vs : List Visit
  vs = sofar.visits

  -- enough were seen
  pub mends_enough : count n (λ y. was_seen (came_in points y)) ≡ need → PointsTried job places from n need n points u v
  mends_enough enough = record {
    visits = sofar.visits;
    reads = sofar.reads;
    long = sofar.long;
    same = sofar.same;
    tried = inl (sym (many_seen n points vs sofar.same) ∙ enough);
  }

  pub mends_end : x ≡ n → PointsTried job places from n need n points u v
  mends_end e = subst (λ m. PointsTried job places from n need m points u v) e sofar

  -- a point that is not mended
  pub mends_pass : came_in points x ≢ Gone → PointsTried job places from n need (x + 1) points u v
  mends_pass other = record {
    visits = sofar.visits;
    reads = sofar.reads;
    long = sofar.long;
    same = sofar.same;
    tried = at sofar.tried;
  }
    where
      at : AreTried n need x vs → AreTried n need (x + 1) vs
      at (inl enough) = inl enough
      at (inr (less, each)) = inr (
        less,
        λ y lt. (
          (each y lt).0,
          λ low gone. ⊎_elim
              (λ (e : y ≡ x). other (sofar.same x ∙ (ap (came_at vs) (sym e) ∙ gone)))
              (λ (ne : y ≢ x). (each y lt).1 (omega (arith, low, ne)) gone)
              (cases_eq y x),
        ),
      )

  module _ (new : Points) (p : Place) (w : GroupPasses) (differ : GroupsDiffer places from n) (lt : x < n) (at : p ≡ place_in places (from + x))
      (few : count n (λ y. was_seen (came_in points y)) ≢ need) (is_gone : came_in points x ≡ Gone) where
    abbrev it : Entry
    it = entry.Gone job p.stripe p.column

    in_list : x < length vs
    in_list = (let l = sofar.long in omega (arith, lt, l))

    -- only its Gone was logged there
    was_gone : (visit_at vs x).entries ≡ it ∷ []
    was_gone =
        let q : Place = place_in places (from + x) in
        let ends : EndsVisit job q (visit_at vs x).entries Gone =
        subst (λ c. EndsVisit job q (visit_at vs x).entries c) (sym (sofar.same x) ∙ is_gone) (sofar.reads.each x in_list).is.ends in
        subst (λ (r : Place). (visit_at vs x).entries ≡ entry.Gone job r.stripe r.column ∷ []) (sym at) ends

    still : (seen_in n vs < need) × ((y : ℕ) → y < n → (came_at vs y ≢ Unknown) × (y < x → came_at vs y ≢ Gone))
    still = ⊎_elim
        (λ (enough : seen_in n vs ≡ need). absurd (few (many_seen n points vs sofar.same ∙ enough)))
        (λ (h : (seen_in n vs < need) × ((y : ℕ) → y < n → (came_at vs y ≢ Unknown) × (y < x → came_at vs y ≢ Gone))). h)
        sofar.tried

    abbrev mended : (came : Came) → MendsOn job p came v w → Visit
    mended came is = record { entries = it ∷ is.entries; came = came }

    mend_reads : (came : Came) (is : MendsOn job p came v w) → AreMade job places from (slice_set vs x (mended came is)) u w
    mend_reads came is =
        next_reads job places from n need x points new p u v w differ lt at vs sofar.long sofar.reads (mended came is)
        (subst (λ es. GoesOn job p es (mended came is) v w) (sym was_gone) (mend_goes job p came v w is))

    -- it is known now, and not Gone
    is_known : (came : Came) → MendsOn job p came v w → (came ≢ Unknown) × (came ≢ Gone)
    is_known came is = (
      λ e. subst (λ c. EndsSecond job p is.entries c) e is.is.ends,
      λ e. subst (λ c. EndsSecond job p is.entries c) e is.is.ends,
    )

    pub mends_step : PointRead (MendsOn job p) x points new true v w → PointsTried job places from n need (x + 1) new u w
    mends_step read =
        let visit : Visit = mended read.came read.step in
        let known = is_known read.came read.step in
        let seen : seen_in n (slice_set vs x visit) ≤ need =
        (let s = set_seen vs x visit in_list n in let m = one_most (was_seen read.came) in let f = still.0 in omega (arith, s, m, f)) in
        record {
          visits = slice_set vs x visit;
          reads = mend_reads read.came read.step;
          long = set_long vs x visit ∙ sofar.long;
          same = set_same vs x visit in_list points new sofar.same read.noted;
          tried = ⊎_elim
              (λ (less : seen_in n (slice_set vs x visit) < need). inr (
                less,
                λ y within. ⊎_elim
                    (λ (e : y ≡ x).
                    let here : read.came ≡ came_at (slice_set vs x visit) y = sym (set_came vs x visit in_list) ∙ ap (came_at (slice_set vs x visit)) (sym e) in
                    (λ none. known.0 (here ∙ none), λ low gone. known.1 (here ∙ gone)))
                    (λ (ne : y ≢ x).
                    let there = other_came vs x visit in_list y ne in
                    (λ none. (still.1 y within).0 (sym there ∙ none), λ low gone. (still.1 y within).1 (omega (arith, low, ne)) (sym there ∙ gone)))
                    (cases_eq y x),
              ))
              (λ (le : need ≤ seen_in n (slice_set vs x visit)). inl (omega (arith, seen, le)))
              (cases_lt (seen_in n (slice_set vs x visit)) need);
        }

    -- a call was refused
    pub mends_full : PointRead (MendsOn job p) x points new false v w → PointsBarred job places from n need p.group u w
    mends_full read =
        let visit : Visit = mended read.came read.step in record {
          visits = slice_set vs x visit;
          reads = mend_reads read.came read.step;
          long = set_long vs x visit ∙ sofar.long;
          barred = record {
            point = x;
            within = lt;
            none = set_came vs x visit in_list ∙ read.noted;
            group_is = ap (λ (q : Place). q.group) at;
            fewer = (let s = set_seen vs x visit in_list n in let m = ap (λ c. one_if (was_seen c)) read.noted in let f = still.0 in omega (arith, s, m, f));
            full = read.step.barred read.noted;
          };
        }

-- A FRAGMENT

module _ (job : ℕ) (kept : Record) (i j : ℕ) (old : List ℕ) (u w : GroupPasses) where
  abbrev shards : ℕ
  shards = kept.geometry.shards

  abbrev need : ℕ
  need = kept.geometry.need

  abbrev from : ℕ
  from = (i * kept.geometry.fragments + j) * shards

  -- a call was refused
  pub fragment_refused : (points : Points) (e : FetchFault) → PointsRead job kept.places from shards need shards points (Err e) u w → FragmentRead job kept i j old old (Err e) u w
  fragment_refused points (fault.LogFull group) read = record {
    visits = read.visits;
    reads = read.reads;
    long = read.long;
    ends = read.barred;
  }
  fragment_refused points fault.IndexLogFull read = absurd read
  fragment_refused points fault.Absent read = absurd read
  fragment_refused points (fault.Faulted group column) read = absurd read
  fragment_refused points (fault.Lost piece fragment have m) read = absurd read
  fragment_refused points (fault.Odd wanted found) read = absurd read
  fragment_refused points fault.NoMemory read = absurd read

  module _ (points : Points) (read : PointsTried job kept.places from shards need shards points u w) where
    many : count shards (λ y. was_seen (came_in points y)) ≡ seen_in shards read.visits
    many = many_seen shards points read.visits read.same

    is_short : seen_in shards read.visits < need → AreTooFewSeen shards need read.visits
    is_short fewer = ⊎_elim
        (λ (enough : seen_in shards read.visits ≡ need). absurd (omega (arith, enough, fewer)))
        (λ (h : (seen_in shards read.visits < need) × ((y : ℕ) → y < shards → (came_at read.visits y ≢ Unknown) × (y < shards → came_at read.visits y ≢ Gone))).
        record {
          fewer = fewer;
          looked = λ x lt. (h.1 x lt).0;
          mended = λ x lt. (h.1 x lt).1 lt;
          room = λ x lt barred. not_barred (slice_index_or points.known.items x point.Unknown) (slice_index_or points.blocks.items x []) (read.same x ∙ barred);
        })
        read.tried

    missing_is : (e : FetchFault) → AreTooFewSeen shards need read.visits → IsFileMissing kept from i j (came_in points) e → IsRefused kept i j read.visits e w
    missing_is (fault.Faulted group column) short is = (short, subst (λ c. IsFileMissing kept from i j c (fault.Faulted group column)) (came_same points read.visits read.same) is)
    missing_is (fault.Lost piece fragment have m) short is =
        (short, subst (λ c. IsFileMissing kept from i j c (fault.Lost piece fragment have m)) (came_same points read.visits read.same) is)
    missing_is (fault.LogFull group) short is = absurd is
    missing_is fault.IndexLogFull short is = absurd is
    missing_is fault.Absent short is = absurd is
    missing_is (fault.Odd wanted found) short is = absurd is
    missing_is fault.NoMemory short is = absurd is

    pub fragment_missing : (e : FetchFault) → count shards (λ y. was_seen (came_in points y)) < need → IsFileMissing kept from i j (came_in points) e → FragmentRead job kept i j old old (Err e) u w
    fragment_missing e fewer missing = record {
      visits = read.visits;
      reads = read.reads;
      long = read.long;
      ends = missing_is e (is_short (let m = many in omega (arith, m, fewer))) missing;
    }

    pub fragment_had : (shares : Shares) (content new : List ℕ) → need ≤ count shards (λ y. was_seen (came_in points y)) → AreGathered shards points shares
        → length content ≡ content_size → IsJoin shares.points.items shares.rows.items content → new ≡ old ++ drop 64 content → FragmentRead job kept i j old new (Ok tt) u w
    fragment_had shares content new enough gathered long join is = record {
      visits = read.visits;
      reads = read.reads;
      long = read.long;
      ends = (
        content,
        had_one kept read.visits content read.long
            (⊎_elim
            (λ (all : seen_in shards read.visits ≡ need). all)
            (λ (short : (seen_in shards read.visits < need) × ((y : ℕ) → y < shards → (came_at read.visits y ≢ Unknown) × (y < shards → came_at read.visits y ≢ Gone))).
            absurd (let m = many in let s = short.0 in omega (arith, m, s, enough)))
            read.tried)
            long
            (subst (λ (c : ℕ → Came). IsJoin (points_read shards (λ x. block_in (c x))) (shares_read shards (λ x. block_in (c x))) content) (came_same points read.visits read.same)
            (subst (λ ps. IsJoin ps (shares_read shards (λ x. block_in (came_in points x))) content) gathered.0
            (subst (λ ss. IsJoin shares.points.items ss content) gathered.1 join))),
        is,
      );
    }
