-- A put: its step, from the stripes that it passed, why it stopped and its writes.
use Rattle.std.proofs.Common.{◌≡◌, ◌⊎◌, inl, inr, ℕ, ◌+◌, ◌<◌, ◌≤◌, ◌++◌, List, [], ◌∷◌, Option, Some, None, Bool, true, false, length, refl, sym, ap, ◌∙◌, subst, arith, append-nil, length-append}
use Rattle.std.specs.Prelude.{IfSome, All, Result, Ok, Err}
use Rattle.std.proofs.lemmas.List.Elements.{All-weaker, All-nil}
use Rattle.pot_bytes.specs.declared.rack.Place.{Place}
use Rattle.pot_bytes.specs.Sums.{xor}
use Rattle.pot_bytes.specs.Weighted.{scaled}
use Rattle.pot_bytes.specs.Rack.{log_bound}
use Rattle.pot_outside.specs.Failing.{MayLeave}
use Rattle.pot_gf.specs.Field.{power}
use Rattle.pot_outside.specs.Counts.{Rose}
use Rattle.pot_doubles.proofs.CallLemmas.{rose_later}
use Rattle.pot_machine.specs.declared.entry.Entry.{Entry}
use Rattle.pot_machine.specs.declared.entry.Entry.TheVariants as entry
use Rattle.pot_machine.specs.Table.{Table, width, serving_at, slot_at}
use Rattle.pot_machine.specs.Machine.{TakesBlocks, Replays}
use Rattle.pot_steps.specs.GroupStep.{LogsInStep, LosesBlocks, Passed, PassesTo, PutsBlock, PutStep, PutFailed, IsParityMissing, skips, gone_entries, put_entry, unkept}
use Rattle.pot_group.specs.declared.answers.PutFault.{PutFault}
use Rattle.pot_group.specs.declared.answers.PutFault.TheVariants as fault
use Rattle.pot_group.specs.declared.putting.Stop.TheVariants as stop
use Rattle.pot_shelves.specs.Shelves.{ShelvesStay, LosesByCount, put_at}
use Rattle.pot_group.specs.Frames.{Tries}
use Rattle.pot_group.specs.Group.{GroupView, Logs, LogsOf, FailedAt, state_of, put_as, FitsSlot, FitsParity, FitsGone}
use Rattle.pot_group.specs.Putting.{PassesAll, FindsStripe, HasOld, PutsAll, PutsNone, BlockMeans}
use Rattle.pot_group.proofs.Rows.{PutMade}
use Rattle.pot_group.proofs.Passing.{logs_then, same_serving, missing_on, missing_here, fits_gone}
use Rattle.pot_shelves.proofs.ShelfLemmas.{put_at-here, put_at-other, left_new, left_any}

-- LOGS ONE AFTER ANOTHER

-- where nothing was logged last
pub logs_end : (xs : List Entry) (a b c : GroupView) → Logs xs a b → Logs [] b c → Logs xs a c
logs_end xs a b c l m = subst (λ x. Logs x a c) (append-nil xs) (logs_then xs [] a b c l m)

-- where no block of a put was kept
pub logs_of : (xs : List Entry) (a b : GroupView) → Logs xs a b → LogsOf xs a b
logs_of xs a b l = record { number = l.number; first = l.first; log = l.log; flights = l.flights; blinds = l.blinds; tried = refl; replay = l.replay }

-- a log that had room for one entry
one_more : (log more : List Entry) (e : Entry) → length log < log_bound → more ≡ log ++ e ∷ [] → length more ≤ log_bound
one_more log more e room is = let l : length (log ++ e ∷ []) ≡ length log + 1 = length-append log (e ∷ []) in omega (arith, room, ap length is)

-- THE STRIPES THAT WERE PASSED

module _ (told : Type 0) (job : ℕ) (passed : List Passed) (old now mid : GroupView) (passes : PassesAll told job passed old now) (stays : ShelvesStay told now.shelves mid.shelves) where
  since : (n : ℕ) → old.shelves.faults n ≤ mid.shelves.faults n
  since n = omega (arith, passes.stays.keeps.later n, stays.keeps.later n)

  only_lost : told → LosesBlocks old.shelves.held mid.shelves.held
  only_lost t n m b e = (passes.stays.loses t n).keeps m b ((stays.loses t n).keeps m b e)

  same_heard : told → (n : ℕ) → mid.shelves.heard n ≡ old.shelves.heard n
  same_heard t n = stays.heard t n ∙ passes.stays.heard t n

  -- a block that was missing is missing
  all_missing : told → All (λ x. IfSome x.gone (λ c. IsParityMissing (state_of old) mid.shelves.held x.stripe c)) passed
  all_missing t =
      All-weaker (λ x. IfSome x.gone (λ c. IsParityMissing (state_of old) now.shelves.held x.stripe c)) (λ x. IfSome x.gone (λ c. IsParityMissing (state_of old) mid.shelves.held x.stripe c))
      (λ x m. missing_on old now.shelves mid.shelves x.stripe x.gone (stays.loses t) m) passed (passes.missing t)

  passes_to : (at : Table) → at ≡ now.table → told → PassesTo job passed (state_of old) at mid.shelves.held
  passes_to at e t = record {
    missing = all_missing t;
    replay = subst (λ u. Replays old.table (skips job passed) u) (sym e) passes.logs.replay;
    loses = only_lost t;
  }

  logged : told → (entries : List Entry) (new : GroupView) → LogsOf entries old new → length new.log ≤ log_bound → ((n : ℕ) → new.shelves.heard n ≡ mid.shelves.heard n)
      → LogsInStep entries (state_of old) (state_of new)
  logged t entries new l room heard = record { log = l.log; room = room; flights = l.flights; heard = (λ n. heard n ∙ same_heard t n) }

  -- an archive that failed after it failed in the whole call
  failed_since : (new : GroupView) (s c : ℕ) → mid.table ≡ now.table → FailedAt mid new s c → FailedAt old new s c
  failed_since new s c e f =
      subst (λ n. Rose (old.shelves.faults n) (new.shelves.faults n)) (same_serving mid.table old.table (ap (λ t. t.columns) e ∙ passes.columns) s c)
      (rose_later (old.shelves.faults (serving_at mid.table s c)) (mid.shelves.faults (serving_at mid.table s c)) (new.shelves.faults (serving_at mid.table s c)) (since (serving_at mid.table s c)) f)

-- NO STRIPE IS LEFT

module _ (told : Type 0) (job : ℕ) (p q block : List ℕ) (old mid : GroupView) (f : FindsStripe told job p q stop.Full old mid) where
  behind : mid.table.cursor.stripe ≡ mid.table.stripes
  behind = subst (λ t. t.cursor.stripe ≡ t.stripes) (sym f.means.0.replay) f.means.1

  all_passed : Logs (skips job f.passed) old mid
  all_passed = logs_end (skips job f.passed) old f.now mid f.passes.logs f.means.0

  pub full_made : PutMade job block (Err fault.Full) old mid
  full_made = (skips job f.passed, logs_of (skips job f.passed) old mid all_passed, (f.passed, refl, f.passes.gones, behind), all_passed.tried)

  pub full_step : length mid.log ≤ log_bound → told → PutStep job block (put_as (Err fault.Full)) (state_of old) (state_of mid)
  full_step room t = record {
    passed = f.passed;
    passes = passes_to told job f.passed old f.now mid f.passes f.stays mid.table f.means.0.replay t;
    behind = behind;
    logs = logged told job f.passed old f.now mid f.passes f.stays t (skips job f.passed) mid (logs_of (skips job f.passed) old mid all_passed) room (λ n. refl);
  }

-- THE LOG HAS NO ROOM

-- at once
module _ (job : ℕ) (block : List ℕ) (old : GroupView) (full : length old.log ≡ log_bound) where
  nothing_logged : Logs [] old old
  nothing_logged = record { number = refl; first = refl; log = sym (append-nil old.log); flights = refl; blinds = refl; tried = refl; replay = refl }

  pub at_once_made : PutMade job block (Err fault.LogFull) old old
  at_once_made = ([], nothing_logged, ([], 0, None, refl, All-nil (λ x. FitsGone old.table x.stripe x.gone), tt, full, inl full), refl)

  pub at_once_step : PutStep job block (put_as (Err fault.LogFull)) (state_of old) (state_of old)
  at_once_step = record {
    passed = [];
    at = old.table;
    gone = None;
    missing = tt;
    passes = record { missing = (λ k d lk. absurd (omega arith)); replay = refl; loses = (λ n m b e. e) };
    replay = refl;
    logs = record { log = sym (append-nil old.log); room = omega arith; flights = refl; heard = (λ n. refl) };
    full = full;
    next = inl full;
  }

-- a loss moves no cursor
gone_stays : (job s : ℕ) (gone : Option ℕ) (t u : Table) → Replays t (gone_entries job s gone) u → t.cursor.stripe < t.stripes → u.cursor.stripe < u.stripes
gone_stays job s None t u r l = subst (λ v. v.cursor.stripe < v.stripes) (sym r) l
gone_stays job s (Some c) t u r l = subst (λ v. v.cursor.stripe < v.stripes) (sym r.1) l

-- after some entries
module _ (told : Type 0) (job : ℕ) (p q block : List ℕ) (old mid : GroupView) (f : FindsStripe told job p q stop.LogFull old mid) where
  as_far : Logs (skips job f.passed ++ gone_entries job f.now.table.cursor.stripe f.means.0) old mid
  as_far = logs_then (skips job f.passed) (gone_entries job f.now.table.cursor.stripe f.means.0) old f.now mid f.passes.logs f.means.2

  still_left : mid.table.cursor.stripe < mid.table.stripes
  still_left = gone_stays job f.now.table.cursor.stripe f.means.0 f.now.table mid.table f.means.2.replay f.means.4

  pub log_full_made : PutMade job block (Err fault.LogFull) old mid
  log_full_made = (
    skips job f.passed ++ gone_entries job f.now.table.cursor.stripe f.means.0,
    logs_of (skips job f.passed ++ gone_entries job f.now.table.cursor.stripe f.means.0) old mid as_far,
    (
      f.passed,
      f.now.table.cursor.stripe,
      f.means.0,
      refl,
      f.passes.gones,
      fits_gone told job f.passed old f.now mid f.passes f.now.table.cursor.stripe f.means.0 (omega arith) f.means.1,
      f.means.3,
      inr still_left,
    ),
    as_far.tried,
  )

  pub log_full_step : told → PutStep job block (put_as (Err fault.LogFull)) (state_of old) (state_of mid)
  log_full_step t = record {
    passed = f.passed;
    at = f.now.table;
    gone = f.means.0;
    missing = missing_here told job f.passed old f.now mid f.passes t f.now.table.cursor.stripe f.means.0 (omega arith) f.means.1;
    passes = passes_to told job f.passed old f.now mid f.passes f.stays f.now.table refl t;
    replay = f.means.2.replay;
    logs = logged told job f.passed old f.now mid f.passes f.stays t (skips job f.passed ++ gone_entries job f.now.table.cursor.stripe f.means.0) mid (logs_of (skips job f.passed ++ gone_entries job f.now.table.cursor.stripe f.means.0) old mid as_far) (omega (arith, f.means.3)) (λ n. refl);
    full = f.means.3;
    next = inr still_left;
  }

-- A PARITY COLUMN FAILED

module _ (told : Type 0) (job : ℕ) (p q block : List ℕ) (old mid : GroupView) (column : ℕ) (f : FindsStripe told job p q (stop.Faulted column) old mid) where
  fault_logged : Logs (skips job f.passed ++ entry.Fault job f.now.table.cursor.stripe column ∷ []) old mid
  fault_logged = logs_then (skips job f.passed) (entry.Fault job f.now.table.cursor.stripe column ∷ []) old f.now mid f.passes.logs f.means.0

  failed_here : FailedAt old mid f.now.table.cursor.stripe column
  failed_here =
      let n : ℕ = serving_at f.now.table f.now.table.cursor.stripe column in
      subst (λ n. Rose (old.shelves.faults n) (mid.shelves.faults n)) (same_serving f.now.table old.table f.passes.columns f.now.table.cursor.stripe column)
      (rose_later (old.shelves.faults n) (f.now.shelves.faults n) (mid.shelves.faults n) (f.passes.stays.keeps.later n) f.means.1)

  pub faulted_made : PutMade job block (Err (fault.Faulted column)) old mid
  faulted_made = (
    skips job f.passed ++ entry.Fault job f.now.table.cursor.stripe column ∷ [],
    logs_of (skips job f.passed ++ entry.Fault job f.now.table.cursor.stripe column ∷ []) old mid fault_logged,
    (
      f.passed,
      f.now.table.cursor.stripe,
      inl (
        refl,
        ap (λ u. u.cursor.stripe) (sym f.means.0.replay.1),
        subst (λ u. TakesBlocks u u.cursor.stripe) (sym f.means.0.replay.1) f.means.2,
        inr (omega (arith, f.means.3, f.passes.data_columns)),
      ),
      failed_here,
      f.passes.gones,
    ),
    inr (omega (arith, f.means.3, f.passes.data_columns), fault_logged.tried),
  )

  pub faulted_step : length mid.log ≤ log_bound → told → PutStep job block (put_as (Err (fault.Faulted column))) (state_of old) (state_of mid)
  faulted_step room t = inr (record {
    passed = f.passed;
    at = f.now.table;
    now = mid.shelves.held;
    passes = passes_to told job f.passed old f.now mid f.passes f.stays f.now.table refl t;
    takes = f.means.2;
    place = inr (f.means.3, f.means.4);
    legal = f.means.0.replay.0;
    table = f.means.0.replay.1;
    logs = logged told job f.passed old f.now mid f.passes f.stays t (skips job f.passed ++ entry.Fault job f.now.table.cursor.stripe column ∷ []) mid (logs_of (skips job f.passed ++ entry.Fault job f.now.table.cursor.stripe column ∷ []) old mid fault_logged) room (λ n. refl);
    written = mid.shelves.held;
    left = inl refl;
    loses = (λ n m b e. e);
  })

-- THE STRIPE TAKES THE BLOCK

-- the writes of a put and its entry
puts_block : (told : Type 0) (job s c : ℕ) (block p q : List ℕ) (kept kept2 : Bool) (mid new : GroupView) → PutsAll told job s c block p q kept kept2 mid new → told
    → HasOld told mid.table mid.shelves.held s p q → PutsBlock job s c block p q kept kept2 mid.table mid.shelves.held (state_of new)
puts_block told job s c block p q kept kept2 mid new puts t old =
    let w = puts.writes.wrote t in
    record {
      legal = puts.logs.replay.0;
      table = puts.logs.replay.1;
      written = w.0;
      writes = record {
        is_block = puts.is_block;
        old_p = old.first t;
        old_q = old.second t;
        data_block = w.1.data_block;
        new_p = left_new kept _ _ (xor p block) w.1.first;
        new_q = (λ two. left_new kept2 _ _ (xor q (scaled (power 3 c) block)) (w.1.second two));
        others = w.1.others;
      };
      left_p = left_any kept _ _ (xor p block) w.1.first;
      left_q = (λ two. left_any kept2 _ _ (xor q (scaled (power 3 c) block)) (w.1.second two));
      elsewhere = w.1.elsewhere;
      loses = (λ n m b e. (w.2 n).keeps m b e);
    }

module _ (told : Type 0) (job : ℕ) (p q block : List ℕ) (old mid new : GroupView) (f : FindsStripe told job p q stop.Here old mid) where
  same_parity : mid.table.parity ≡ old.table.parity
  same_parity = ap (λ t. t.parity) f.means.0.replay ∙ f.passes.parity

  same_columns : mid.table.data_columns ≡ old.table.data_columns
  same_columns = ap (λ t. t.data_columns) f.means.0.replay ∙ f.passes.data_columns

  old_blocks : (s : ℕ) → s ≡ mid.table.cursor.stripe → HasOld told mid.table mid.shelves.held s p q
  old_blocks s e =
      subst (λ n. HasOld told mid.table mid.shelves.held n p q) (sym e)
      (subst (λ u. HasOld told u mid.shelves.held u.cursor.stripe p q) (sym f.means.0.replay) f.means.4)

  has_room : (e : Entry) → LogsOf (e ∷ []) mid new → length new.log ≤ log_bound
  has_room e l = one_more mid.log new.log e (subst (λ log. length log < log_bound) (sym (f.means.0.log ∙ append-nil f.now.log)) f.means.3) l.log

  before : Logs (skips job f.passed) old mid
  before = logs_end (skips job f.passed) old f.now mid f.passes.logs f.means.0

  -- a group as it is but for the blocks of puts that it kept
  abbrev as_mid : GroupView
  as_mid = record new { tried = mid.tried }

  all_logged : (e : Entry) → LogsOf (e ∷ []) mid new → LogsOf (skips job f.passed ++ e ∷ []) old new
  all_logged e l = logs_of (skips job f.passed ++ e ∷ []) old as_mid (logs_then (skips job f.passed) (e ∷ []) old mid as_mid before l)

  put_logged : (s c : ℕ) (kept kept2 : Bool) → Logs (put_entry mid.table.parity job s c block p q kept kept2 ∷ []) mid new
      → LogsOf (skips job f.passed ++ put_entry old.table.parity job s c block p q kept kept2 ∷ []) old new
  put_logged s c kept kept2 l =
      subst (λ n. LogsOf (skips job f.passed ++ put_entry n job s c block p q kept kept2 ∷ []) old new) same_parity
      (all_logged (put_entry mid.table.parity job s c block p q kept kept2) (logs_of (put_entry mid.table.parity job s c block p q kept kept2 ∷ []) mid new l))

  -- the block of a put whose write failed
  one_tried : (column : ℕ) → PutsNone told job mid.table.cursor.stripe column block mid new → new.tried ≡ old.tried ++ (length (old.log ++ skips job f.passed), block) ∷ []
  one_tried column puts =
      puts.tried ∙ ap (λ (l : Tries). l ++ (length mid.log, block) ∷ []) before.tried ∙ ap (λ l. old.tried ++ (length l, block) ∷ []) before.log

  beyond : (kept : Bool) → mid.table.data_columns ≤ unkept mid.table.data_columns kept
  beyond true = omega arith
  beyond false = omega arith

  failed : (s c : ℕ) → FailedAt mid new s c → FailedAt old new s c
  failed s c x = failed_since told job f.passed old f.now mid f.passes f.stays new s c f.means.0.replay x

  -- the old parity blocks fit their slots, which the stripes passed left alone
  fits_at : (block : List ℕ) (c k : ℕ) → c ≡ k → k < width old.table → FitsSlot (slot_at f.now.table f.now.table.cursor.stripe c) block → FitsSlot (slot_at old.table f.now.table.cursor.stripe k) block
  fits_at block c k e lk x =
      subst (λ x. FitsSlot x block) (f.passes.ahead f.now.table.cursor.stripe k (omega arith) lk)
      (subst (λ k. FitsSlot (slot_at f.now.table f.now.table.cursor.stripe k) block) e x)

  fits_here : 1 ≤ old.table.parity → (s : ℕ) → s ≡ mid.table.cursor.stripe → FitsParity old.table s p q
  fits_here some s e =
      subst (λ n. FitsParity old.table n p q) (sym (e ∙ ap (λ u. u.cursor.stripe) f.means.0.replay)) (
        fits_at p f.now.table.data_columns old.table.data_columns f.passes.data_columns (omega (arith, some)) f.means.4.fits.0,
        λ two. fits_at q (f.now.table.data_columns + 1) (old.table.data_columns + 1) (ap (λ n. n + 1) f.passes.data_columns) (omega (arith, two)) (f.means.4.fits.1 (f.passes.parity ∙ two)),
      )

  -- which parity column failed
  fails_at : (s c : ℕ) (kept kept2 : Bool) → PutsAll told job s c block p q kept kept2 mid new → (kept ≡ false) ⊎ (kept2 ≡ false) → FailedAt old new s (unkept mid.table.data_columns kept)
  fails_at s c false kept2 puts which = failed s mid.table.data_columns (puts.writes.first refl)
  fails_at s c true kept2 puts (inl e) = absurd (cc)
  fails_at s c true kept2 puts (inr e) = failed s (mid.table.data_columns + 1) (puts.writes.second e).1

  -- with two parity columns, where it is Q
  which_failed : (s c : ℕ) (kept kept2 : Bool) → PutsAll told job s c block p q kept kept2 mid new → (kept ≡ false) ⊎ (kept2 ≡ false) → (kept ≡ false) ⊎ ((mid.table.parity ≡ 2) × (kept2 ≡ false))
  which_failed s c kept kept2 puts (inl e) = inl e
  which_failed s c kept kept2 puts (inr e) = inr ((puts.writes.second e).0, e)

  in_old : (kept kept2 : Bool) → (kept ≡ false) ⊎ ((mid.table.parity ≡ 2) × (kept2 ≡ false)) → (kept ≡ false) ⊎ ((old.table.parity ≡ 2) × (kept2 ≡ false))
  in_old kept kept2 (inl e) = inl e
  in_old kept kept2 (inr e) = inr (sym same_parity ∙ e.0, e.1)

  pub here_made : 1 ≤ old.table.parity → (result : Result Place PutFault) → BlockMeans told job block p q result mid new → PutMade job block result old new
  here_made some (Ok place) m = (
    skips job f.passed ++ put_entry old.table.parity job place.stripe place.column block p q true true ∷ [],
    put_logged place.stripe place.column true true m.3.logs,
    (m.0 ∙ f.means.0.number ∙ f.passes.logs.number, (f.passed, p, q, refl, fits_here some place.stripe m.1, f.passes.gones)),
    m.3.logs.tried ∙ before.tried,
  )
  here_made some (Err (fault.Faulted column)) (inl m) = (
    skips job f.passed ++ entry.Fault job mid.table.cursor.stripe column ∷ [],
    all_logged (entry.Fault job mid.table.cursor.stripe column) m.0.logs,
    (
      f.passed,
      mid.table.cursor.stripe,
      inl (
        refl,
        ap (λ u. u.cursor.stripe) (sym m.0.logs.replay.1),
        subst (λ u. TakesBlocks u u.cursor.stripe) (sym (m.0.logs.replay.1 ∙ f.means.0.replay)) f.means.2,
        inl (m.1 ∙ sym (ap (λ u. u.cursor.column) m.0.logs.replay.1)),
      ),
      failed mid.table.cursor.stripe column m.0.fails,
      f.passes.gones,
    ),
    inl (m.1 ∙ sym (ap (λ u. u.cursor.column) m.0.logs.replay.1), (skips job f.passed, mid.table.cursor.stripe, refl, one_tried column m.0)),
  )
  here_made some (Err (fault.Faulted column)) (inr (kept, kept2, puts, which, is)) =
      let s : ℕ = mid.table.cursor.stripe in
      let c : ℕ = mid.table.cursor.column in (
        skips job f.passed ++ put_entry old.table.parity job s c block p q kept kept2 ∷ [],
        put_logged s c kept kept2 puts.logs,
        (
          f.passed,
          s,
          inr (c, p, q, kept, kept2, is ∙ ap (λ n. unkept n kept) same_columns, in_old kept kept2 (which_failed s c kept kept2 puts which), refl, fits_here some s refl),
          subst (λ k. FailedAt old new s k) (sym is) (fails_at s c kept kept2 puts which),
          f.passes.gones,
        ),
        inr (subst (λ n. n ≤ column) same_columns (subst (λ k. mid.table.data_columns ≤ k) (sym is) (beyond kept)), puts.logs.tried ∙ before.tried),
      )
  here_made some (Err fault.Full) m = absurd m
  here_made some (Err fault.LogFull) m = absurd m

  passes_here : told → PassesTo job f.passed (state_of old) mid.table mid.shelves.held
  passes_here t = passes_to told job f.passed old f.now mid f.passes f.stays mid.table f.means.0.replay t

  logged_here : told → (entries : List Entry) → LogsOf entries old new → length new.log ≤ log_bound → ((n : ℕ) → new.shelves.heard n ≡ mid.shelves.heard n)
      → LogsInStep entries (state_of old) (state_of new)
  logged_here t entries l room heard = logged told job f.passed old f.now mid f.passes f.stays t entries new l room heard

  -- the entry of the put
  put_here : told → (s c : ℕ) (kept kept2 : Bool) → PutsAll told job s c block p q kept kept2 mid new → LogsInStep (skips job f.passed ++ put_entry mid.table.parity job s c block p q kept kept2 ∷ []) (state_of old) (state_of new)
  put_here t s c kept kept2 puts =
      let e : Entry = put_entry mid.table.parity job s c block p q kept kept2 in
      let l : LogsOf (e ∷ []) mid new = logs_of (e ∷ []) mid new puts.logs in
      logged_here t (skips job f.passed ++ e ∷ []) (all_logged e l) (has_room e l) (puts.writes.heard t)

  -- the data block was not written
  none_step : (column : ℕ) → PutsNone told job mid.table.cursor.stripe column block mid new → column ≡ mid.table.cursor.column → told
      → PutFailed job column block (state_of old) (state_of new)
  none_step column puts e t =
      let s : ℕ = mid.table.cursor.stripe in
      let n : ℕ = serving_at mid.table s column in
      let holds : (left : Option (List ℕ)) × MayLeave (mid.shelves.held n s) block left × LosesByCount (put_at mid.shelves.held n s left) mid.shelves new.shelves = puts.holds t in
      record {
        passed = f.passed;
        at = mid.table;
        now = mid.shelves.held;
        passes = passes_here t;
        takes = subst (λ u. TakesBlocks u u.cursor.stripe) (sym f.means.0.replay) f.means.2;
        place = inl e;
        legal = puts.logs.replay.0;
        table = puts.logs.replay.1;
        logs = logged_here t (skips job f.passed ++ entry.Fault job s column ∷ []) (all_logged (entry.Fault job s column) puts.logs) (has_room (entry.Fault job s column) puts.logs) (puts.heard t);
        written = put_at mid.shelves.held n s holds.0;
        left = inr (
          e,
          subst (λ x. MayLeave (mid.shelves.held n s) block x) (sym (put_at-here mid.shelves.held n s holds.0)) holds.1,
          λ k m d. put_at-other mid.shelves.held n s holds.0 k m (elim d [ inl x ↦ inr x | inr x ↦ inl (λ q. x (sym q)) ]),
        );
        loses = (λ k m b h. (holds.2 k).keeps m b h);
      }

  pub here_step : (result : Result Place PutFault) → BlockMeans told job block p q result mid new → told → PutStep job block (put_as result) (state_of old) (state_of new)
  here_step (Ok place) m t = record {
    passed = f.passed;
    at = mid.table;
    now = mid.shelves.held;
    p = p;
    q = q;
    passes = passes_here t;
    puts = puts_block told job place.stripe place.column block p q true true mid new m.3 t (old_blocks place.stripe m.1);
    logs = put_here t place.stripe place.column true true m.3;
  }
  here_step (Err (fault.Faulted column)) (inl m) t = inr (none_step column m.0 m.1 t)
  here_step (Err (fault.Faulted column)) (inr (kept, kept2, puts, which, is)) t =
      let s : ℕ = mid.table.cursor.stripe in
      let c : ℕ = mid.table.cursor.column in
      inl (record {
        passed = f.passed;
        at = mid.table;
        now = mid.shelves.held;
        s = s;
        c = c;
        p = p;
        q = q;
        kept = kept;
        kept2 = kept2;
        passes = passes_here t;
        puts = puts_block told job s c block p q kept kept2 mid new puts t (old_blocks s refl);
        logs = put_here t s c kept kept2 puts;
        fails = which_failed s c kept kept2 puts which;
        names = is ∙ ap (λ n. unkept n kept) same_columns;
      })
  here_step (Err fault.Full) m t = absurd m
  here_step (Err fault.LogFull) m t = absurd m
