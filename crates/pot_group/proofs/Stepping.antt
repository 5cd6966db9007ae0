-- A move's step, exit by exit.
use Rattle.std.proofs.Common.{◌≡◌, ◌≢◌, ◌⊎◌, inl, inr, ℕ, ◌+◌, ◌<◌, ◌≤◌, ◌++◌, List, [], ◌∷◌, Option, Some, None, IfSome, IsSomeAnd, true, false, IsTrue, length, length-append, refl, sym, ap, ◌∙◌, subst, arith}
use Rattle.std.specs.Prelude.{Ok, Err, Result}
use Rattle.pot_bytes.specs.declared.digest.Digest.{Digest}
use Rattle.pot_bytes.specs.Rack.{log_bound}
use Rattle.pot_outside.specs.Archives.{Meaning}
use Rattle.pot_outside.specs.declared.faults.Failed.{Failed}
use Rattle.pot_machine.specs.declared.column.Moving.{Moving}
use Rattle.pot_machine.specs.declared.slot.SlotState.{SlotState}
use Rattle.pot_machine.specs.declared.slot.SlotState.TheVariants.{Void, Live, Lost, Broken}
use Rattle.pot_machine.specs.declared.entry.Entry.{Entry}
use Rattle.pot_machine.specs.declared.entry.Entry.TheVariants.{Fault, Moved, MoveEnd}
use Rattle.pot_machine.specs.Slot.{is_live}
use Rattle.pot_machine.specs.Table.{Table, width, slot_at, column_at, serving_at}
use Rattle.pot_machine.specs.Machine.{Legal, after}
use Rattle.pot_steps.specs.Stripe.{Sound, IsSound}
use Rattle.pot_steps.specs.Holdings.{stripe_of}
use Rattle.pot_steps.specs.RelaySteps.{Logged, EntryWrites}
use Rattle.pot_group.specs.declared.reads.Found.TheVariants as found
use Rattle.pot_group.specs.declared.copying.MoveStep.{MoveStep}
use Rattle.pot_group.specs.declared.copying.MoveStep.TheVariants as moved
use Rattle.pot_group.specs.declared.copying.MoveFault.{MoveFault}
use Rattle.pot_group.specs.declared.copying.MoveFault.TheVariants as failed
use Rattle.pot_shelves.specs.Shelves.{LosesByCount, Shelved, Shelves, ShelvesStay, WritesAt, WritesInto, plain, put_at}
use Rattle.pot_group.specs.Reads.{ReadsByDigest}
use Rattle.pot_group.specs.Group.{GroupParts, GroupView, IsSettled, noted, state_of, view_of, with_archives}
use Rattle.pot_group.specs.Relaying.{LogsEntry, acted}
use Rattle.pot_steps.specs.MoveSteps.{MoveStep as IsMoveStep}
use Rattle.pot_steps.proofs.MendingSteps.{some_of}
use Rattle.pot_group.specs.Moving.{CopiesInto, FaultRose, MoveWrites, MovesOn, OnMove, StepsMove, move_as}
use Rattle.pot_group.proofs.BeginSteps.{logged_in}
use Rattle.pot_group.proofs.MoveExits.{beside, copied_settled, copies, move_end_settled, passed_settled, target_named, uncopied_settled}
use Rattle.pot_group.proofs.RelayExits.{unwritten}
use Rattle.pot_shelves.proofs.ShelfLemmas.{into_after, keeps_refl, keeps_then, loses_from_then, loses_refl}

some_map : {A : Type 0} {P Q : A → Type 0} (o : Option A) → ((a : A) → P a → Q a) → IsSomeAnd o P → IsSomeAnd o Q
some_map None f h = h
some_map (Some a) f h = f a h

room_for : (log : List Entry) (e : Entry) → length log < log_bound → length (log ++ e ∷ []) ≤ log_bound
room_for log e room = (let l : length (log ++ e ∷ []) ≡ length log + 1 = length-append log (e ∷ []) in omega (arith, room))

pub ended_exit : (told : Type 0) (g : GroupView) (job c : ℕ) → IsSettled told g → length g.log < log_bound → Legal g.table (MoveEnd job c) → (e : Entry) (t : Table) (log : List Entry)
    → e ≡ MoveEnd job c → t ≡ after g.table e → log ≡ g.log ++ e ∷ [] → IsSettled told (record g { table = t; log = log })
ended_exit told g job c settled room legal e t log ee et el =
    subst (λ t. IsSettled told (record g { table = t; log = log })) (sym (et ∙ ap (after g.table) ee))
    (subst (λ log. IsSettled told (record g { table = after g.table (MoveEnd job c); log = log })) (sym (el ∙ ap (λ e. g.log ++ e ∷ []) ee))
    (move_end_settled told g job c settled room legal))

-- OVER PLAIN DATA: a column that moves, and has come to a stripe

module _ (told : Type 0) (g : GroupView) (job c : ℕ) (m : Moving) (settled : IsSettled told g) (room : length g.log < log_bound) (column : c < width g.table) (moving : (column_at g.table c).moving ≡ Some m) where
  on_move : (P : Moving → Type 0) → P m → OnMove g c P
  on_move P p = subst (λ o. IsSomeAnd o P) (sym moving) p

  pub end_legal : g.table.stripes ≤ m.upto → Legal g.table (MoveEnd job c)
  end_legal le = (column, on_move (λ m. m.upto ≡ g.table.stripes) (let t : (m.to ≢ (column_at g.table c).home) × (m.upto ≤ g.table.stripes) = subst (λ o. IfSome o (λ m. (m.to ≢ (column_at g.table c).home) × (m.upto ≤ g.table.stripes))) moving (settled.table.columns.target c column) in omega (arith, t.1, le)))

  pub pass_legal : m.upto < g.table.stripes → Legal g.table (Moved job m.upto c false)
  pass_legal lt = ((column, on_move (λ n. n.upto ≡ m.upto) refl), lt, λ e. absurd (no e))
    where
      no : IsTrue false → ⊥
      no e = cc

  pub copy_legal : m.upto < g.table.stripes → IsTrue (is_live (slot_at g.table m.upto c)) → Legal g.table (Moved job m.upto c true)
  copy_legal lt live = ((column, on_move (λ n. n.upto ≡ m.upto) refl), lt, λ e. live)

  -- what the code asks of a pure step
  pub one_legal : (copied : _) → Legal g.table (Moved job m.upto c copied) → IsSomeAnd (column_at g.table c).moving (λ n. Legal g.table (Moved job n.upto c copied))
  one_legal copied legal = on_move (λ n. Legal g.table (Moved job n.upto c copied)) legal

  -- the entry of a pure step
  pub one_entry : (copied : _) (e : Entry) → IsSomeAnd (column_at g.table c).moving (λ n. e ≡ Moved job n.upto c copied) → e ≡ Moved job m.upto c copied
  one_entry copied e h = some_of (column_at g.table c).moving m (λ n. e ≡ Moved job n.upto c copied) h moving

  pub pass_exit : m.upto < g.table.stripes → (told → Sound (stripe_of g.table g.shelves.held m.upto) c → ⊥) → (e : Entry) (t : Table) (log : List Entry)
      → IsSomeAnd (column_at g.table c).moving (λ n. e ≡ Moved job n.upto c false) → t ≡ after g.table e → log ≡ g.log ++ e ∷ [] → IsSettled told (record g { table = t; log = log })
  pass_exit lt missing e t log ee et el =
      subst (λ t. IsSettled told (record g { table = t; log = log })) (sym (et ∙ ap (after g.table) (one_entry false e ee)))
      (subst (λ log. IsSettled told (record g { table = after g.table (Moved job m.upto c false); log = log })) (sym (el ∙ ap (λ e. g.log ++ e ∷ []) (one_entry false e ee)))
      (passed_settled told g job c settled room m.upto (pass_legal lt) missing))

  -- the write to the target was made
  module _ (lt : m.upto < g.table.stripes) (live : IsTrue (is_live (slot_at g.table m.upto c))) (now : Shelves) (block : List ℕ) where
    module _ (sound : told → IsSound (stripe_of g.table g.shelves.held m.upto) c block) (w : WritesAt told m.to m.upto block (Ok (tt)) g.shelves now)
        (e : Entry) (t : Table) (log : List Entry) (ee : IsSomeAnd (column_at g.table c).moving (λ n. e ≡ Moved job n.upto c true)) (et : t ≡ after g.table e) (el : log ≡ g.log ++ e ∷ []) where
      is : e ≡ Moved job m.upto c true
      is = one_entry true e ee

      pub copied_exit : IsSettled told (record g { table = t; log = log; shelves = now })
      copied_exit =
          subst (λ t. IsSettled told (record g { table = t; log = log; shelves = now })) (sym (et ∙ ap (after g.table) is))
          (subst (λ log. IsSettled told (record g { table = after g.table (Moved job m.upto c true); log = log; shelves = now })) (sym (el ∙ ap (λ e. g.log ++ e ∷ []) is))
          (copied_settled told g m.upto c m settled column moving refl now job block room (copy_legal lt live) sound w))

      pub copied_steps : StepsMove told job c (Ok moved.Copied) g (record g { table = t; log = log; shelves = now })
      copied_steps = record {
        moves = on_move (λ n. (n.upto < g.table.stripes) × IsTrue (is_live (slot_at g.table n.upto c)) × LogsEntry (Moved job n.upto c true) [] g (record g { table = t; log = log; shelves = now }))
            (lt, live, record { number = refl; first = refl; legal = copy_legal lt live; table = et ∙ ap (after g.table) is; log = el ∙ ap (λ e. g.log ++ e ∷ []) is; flights = refl; blinds = refl; tried = refl });
        keeps = w.keeps;
        steps = λ k. (
          m.upto,
          record {
            legal = copy_legal lt live;
            log = el ∙ ap (λ e. g.log ++ e ∷ []) is;
            room = subst (λ l. length l ≤ log_bound) (sym el) (room_for g.log e room);
            table = et ∙ ap (after g.table) is;
            flights = refl;
            before = g.shelves.held;
            now = put_at g.shelves.held m.to m.upto (Some block);
            lost = (λ n q b e. e);
            acts = copies told g m.upto c m settled column moving refl now job block room (copy_legal lt live) sound w k;
            loses = (λ n q b e. (subst (λ left. LosesByCount (put_at g.shelves.held m.to m.upto left) g.shelves now) ((w.wrote k).1) (w.wrote k).2 n).keeps q b e);
            elsewhere = (λ n q b ne e. sym (unwritten (EntryWrites g.table (Moved job m.upto c true)) g.shelves.held m.to m.upto (w.wrote k).0 (refl, on_move (λ x. m.to ≡ x.to) refl, refl) n q ne) ∙ ((w.wrote k).2 n).keeps q b e);
          },
          w.heard k,
        );
        writes = λ k. on_move (λ n. (b : List ℕ) × IsSound (stripe_of g.table g.shelves.held n.upto) c b × WritesInto n.to n.upto b (Ok (tt)) g.shelves now) (block, sound k, w.wrote k);
      }

    -- or failed
    module _ (e : Failed) (w : WritesAt told m.to m.upto block (Err e) g.shelves now) (t : Table) (log : List Entry) (et : t ≡ after g.table (Fault job m.upto c)) (el : log ≡ g.log ++ Fault job m.upto c ∷ []) where
      pub uncopied_exit : (told → IsSound (stripe_of g.table g.shelves.held m.upto) c block) → IsSettled told (record g { table = t; log = log; shelves = now })
      uncopied_exit sound =
          subst (λ t. IsSettled told (record g { table = t; log = log; shelves = now })) (sym et)
          (subst (λ log. IsSettled told (record g { table = after g.table (Fault job m.upto c); log = log; shelves = now })) (sym el)
          (uncopied_settled told g m.upto c m settled column moving refl now job block room lt sound e w))

      pub uncopied_steps : (told → IsSound (stripe_of g.table g.shelves.held m.upto) c block) → StepsMove told job c (Err (failed.Faulted c)) g (record g { table = t; log = log; shelves = now })
      uncopied_steps sound = record {
        moves = (
          refl,
          on_move (λ n. (n.upto < g.table.stripes) × IsTrue (is_live (slot_at g.table n.upto c))
              × (FaultRose g (record g { table = t; log = log; shelves = now }) (serving_at g.table n.upto c) ⊎ FaultRose g (record g { table = t; log = log; shelves = now }) n.to)
              × LogsEntry (Fault job n.upto c) [] g (record g { table = t; log = log; shelves = now }))
              (lt, live, inr (w.cause refl), record { number = refl; first = refl; legal = (lt, column); table = et; log = el; flights = refl; blinds = refl; tried = refl }),
        );
        keeps = w.keeps;
        steps = λ k. (
          m.upto,
          record {
            legal = (lt, column);
            log = el;
            room = subst (λ l. length l ≤ log_bound) (sym el) (room_for g.log (Fault job m.upto c) room);
            table = et;
            flights = refl;
            before = g.shelves.held;
            now = put_at g.shelves.held m.to m.upto (w.wrote k).0;
            lost = (λ n q b e. e);
            acts = (λ n q b ln lq live h. sym (beside told g m.upto c m settled column moving refl (w.wrote k).0 n q lq) ∙ h);
            loses = (λ n q b e. ((w.wrote k).2 n).keeps q b e);
            elsewhere = (λ n q b ne e. sym (unwritten (EntryWrites g.table (Fault job m.upto c)) g.shelves.held m.to m.upto (w.wrote k).0 (target_named told g m.upto c m settled column moving refl, refl) n q ne) ∙ ((w.wrote k).2 n).keeps q b e);
          },
          w.heard k,
          on_move (λ n. n.upto ≡ m.upto) refl,
        );
        writes = λ k. inr (e, on_move (λ n. (b : List ℕ) × IsSound (stripe_of g.table g.shelves.held n.upto) c b × WritesInto n.to n.upto b (Err e) g.shelves now) (block, sound k, w.wrote k));
      }

-- A CALL OF THE CODE

module _ {A : Type 0} (told : Type 0) (meaning : A → Meaning) (old : GroupParts A) (job c : ℕ) (m : Moving) (settled : IsSettled told (view_of meaning old)) (room : length old.log < log_bound)
    (column : c < width old.table) (moving : (column_at old.table c).moving ≡ Some m) where
  acts : (b : Shelved A) (e : Entry) → Legal old.table e → LogsEntry e [] (view_of meaning old) (view_of meaning (acted (with_archives old b) e []))
  acts b e legal = record { number = refl; first = refl; legal = legal; table = refl; log = refl; flights = refl; blinds = refl; tried = refl }

  -- all stripes were passed
  pub ended_steps : (new : GroupParts A) → old.table.stripes ≤ m.upto → new ≡ acted old (MoveEnd job c) [] → StepsMove told job c (Ok moved.Ended) (view_of meaning old) (view_of meaning new)
  ended_steps new le e = subst (λ (w : GroupParts A). StepsMove told job c (Ok moved.Ended) (view_of meaning old) (view_of meaning w)) (sym e) (record {
    moves = on_move told (view_of meaning old) job c m settled room column moving (λ n. (n.upto ≡ old.table.stripes) × LogsEntry (MoveEnd job c) [] (view_of meaning old) (view_of meaning (acted old (MoveEnd job c) [])))
        (some_of (column_at old.table c).moving m (λ n. n.upto ≡ old.table.stripes) (legal.1) moving, acts old.shelves (MoveEnd job c) legal);
    keeps = keeps_refl (view_of meaning old).shelves;
    steps = λ t. (logged_in told (view_of meaning old) settled room (MoveEnd job c) [] legal (λ n k b ln lk l e. e), (λ n. refl));
    writes = λ t. loses_refl (view_of meaning old).shelves;
  })
    where
      legal : Legal old.table (MoveEnd job c)
      legal = end_legal told (view_of meaning old) job c m settled room column moving le

  -- a slot that is not sound
  pub passed_steps : (new : GroupParts A) → m.upto < old.table.stripes → (told → Sound (stripe_of old.table (view_of meaning old).shelves.held m.upto) c → ⊥) → new ≡ acted old (Moved job m.upto c false) []
      → StepsMove told job c (Ok moved.Passed) (view_of meaning old) (view_of meaning new)
  passed_steps new lt missing e = subst (λ (w : GroupParts A). StepsMove told job c (Ok moved.Passed) (view_of meaning old) (view_of meaning w)) (sym e) (record {
    moves = on_move told (view_of meaning old) job c m settled room column moving (λ n. (n.upto < old.table.stripes) × LogsEntry (Moved job n.upto c false) [] (view_of meaning old) (view_of meaning (acted old (Moved job m.upto c false) [])))
        (lt, acts old.shelves (Moved job m.upto c false) legal);
    keeps = keeps_refl (view_of meaning old).shelves;
    steps = λ t. (m.upto, logged_in told (view_of meaning old) settled room (Moved job m.upto c false) [] legal (λ n k b ln lk l e. e), (λ n. refl), missing t);
    writes = λ t. loses_refl (view_of meaning old).shelves;
  })
    where
      legal : Legal old.table (Moved job m.upto c false)
      legal = pass_legal told (view_of meaning old) job c m settled room column moving lt

  -- the read failed
  pub unread_steps : (b : Shelved A) (digest : Digest) (into : List ℕ) (new : GroupParts A) → m.upto < old.table.stripes → slot_at old.table m.upto c ≡ Live digest
      → ReadsByDigest told (serving_at old.table m.upto c) m.upto digest into found.NotRead (plain meaning old.shelves) (plain meaning b) → new ≡ noted (with_archives old b) (Fault job m.upto c)
      → StepsMove told job c (Err (failed.Faulted c)) (view_of meaning old) (view_of meaning new)
  unread_steps b digest into new lt live finds e = subst (λ (w : GroupParts A). StepsMove told job c (Err (failed.Faulted c)) (view_of meaning old) (view_of meaning w)) (sym e) (record {
    moves = (
      refl,
      on_move told (view_of meaning old) job c m settled room column moving (λ n. (n.upto < old.table.stripes) × IsTrue (is_live (slot_at old.table n.upto c))
          × (FaultRose (view_of meaning old) (view_of meaning (noted (with_archives old b) (Fault job m.upto c))) (serving_at old.table n.upto c) ⊎ FaultRose (view_of meaning old) (view_of meaning (noted (with_archives old b) (Fault job m.upto c))) n.to)
          × LogsEntry (Fault job n.upto c) [] (view_of meaning old) (view_of meaning (noted (with_archives old b) (Fault job m.upto c))))
          (lt, ap is_live live, inl finds.means, acts b (Fault job m.upto c) (lt, column)),
    );
    keeps = finds.stays.keeps;
    steps = λ t. (
      m.upto,
      record {
        legal = (lt, column);
        log = refl;
        room = room_for old.log (Fault job m.upto c) room;
        table = refl;
        flights = refl;
        before = (plain meaning b).held;
        now = (plain meaning b).held;
        lost = (λ n q x h. (finds.stays.loses t n).keeps q x h);
        acts = (λ n k x ln lk l h. h);
        loses = (λ n q x h. h);
        elsewhere = (λ n q x ne h. (finds.stays.loses t n).keeps q x h);
      },
      finds.stays.heard t,
      on_move told (view_of meaning old) job c m settled room column moving (λ n. n.upto ≡ m.upto) refl,
    );
    writes = λ t. inl (finds.stays.loses t);
  })

  -- A step after a read that did not fail.
  module _ (b : Shelved A) (new : GroupParts A) (stays : ShelvesStay told (plain meaning old.shelves) (plain meaning b)) where
    acts_back : (e : Entry) → LogsEntry e [] (view_of meaning (with_archives old b)) (view_of meaning new) → LogsEntry e [] (view_of meaning old) (view_of meaning new)
    acts_back e a = record { number = a.number; first = a.first; legal = a.legal; table = a.table; log = a.log; flights = a.flights; blinds = a.blinds; tried = a.tried }

    rose_back : (n : ℕ) → FaultRose (view_of meaning (with_archives old b)) (view_of meaning new) n → FaultRose (view_of meaning old) (view_of meaning new) n
    rose_back n (inl l) = inl (omega (arith, l, stays.keeps.later n))
    rose_back n (inr l) = inr l

    back : (r : Result MoveStep MoveFault) → MovesOn job c r (view_of meaning (with_archives old b)) (view_of meaning new) → MovesOn job c r (view_of meaning old) (view_of meaning new)
    back (Ok moved.Copied) x = some_map (column_at old.table c).moving (λ n y. (y.0, y.1, acts_back (Moved job n.upto c true) y.2)) x
    back (Ok moved.Passed) x = some_map (column_at old.table c).moving (λ n y. (y.0, acts_back (Moved job n.upto c false) y.1)) x
    back (Ok moved.Ended) x = some_map (column_at old.table c).moving (λ n y. (y.0, acts_back (MoveEnd job c) y.1)) x
    back (Err (failed.Faulted d)) x = (x.0, some_map (column_at old.table c).moving (λ n y. (y.0, y.1, rises n y.2, acts_back (Fault job n.upto c) y.3)) x.1)
      where
        rises : (n : Moving) → FaultRose (view_of meaning (with_archives old b)) (view_of meaning new) (serving_at old.table n.upto c) ⊎ FaultRose (view_of meaning (with_archives old b)) (view_of meaning new) n.to
            → FaultRose (view_of meaning old) (view_of meaning new) (serving_at old.table n.upto c) ⊎ FaultRose (view_of meaning old) (view_of meaning new) n.to
        rises n (inl l) = inl (rose_back (serving_at old.table n.upto c) l)
        rises n (inr l) = inr (rose_back n.to l)
    back (Err failed.LogFull) x = absurd x
    back (Err failed.Idle) x = absurd x

    logged_back : told → (e : Entry) → Logged e [] (state_of (view_of meaning (with_archives old b))) (state_of (view_of meaning new)) → Logged e [] (state_of (view_of meaning old)) (state_of (view_of meaning new))
    logged_back t e l = record {
      legal = l.legal;
      log = l.log;
      room = l.room;
      table = l.table;
      flights = l.flights;
      before = l.before;
      now = l.now;
      lost = λ n q x h. (stays.loses t n).keeps q x (l.lost n q x h);
      acts = l.acts;
      loses = l.loses;
      elsewhere = λ n q x ne h. (stays.loses t n).keeps q x (l.elsewhere n q x ne h);
    }

    steps_back : (r : Result MoveStep MoveFault) → MovesOn job c r (view_of meaning (with_archives old b)) (view_of meaning new) → told
        → IsMoveStep job c (move_as r) (state_of (view_of meaning (with_archives old b))) (state_of (view_of meaning new)) → IsMoveStep job c (move_as r) (state_of (view_of meaning old)) (state_of (view_of meaning new))
    steps_back (Ok moved.Copied) x t s = (s.0, logged_back t _ s.1, λ n. s.2 n ∙ stays.heard t n)
    steps_back (Ok moved.Passed) x t s = (s.0, logged_back t _ s.1, (λ n. s.2 n ∙ stays.heard t n), s.3)
    steps_back (Ok moved.Ended) x t s = (logged_back t _ s.0, λ n. s.1 n ∙ stays.heard t n)
    steps_back (Err (failed.Faulted d)) x t s = (s.0, logged_back t _ s.1, (λ n. s.2 n ∙ stays.heard t n), s.3)
    steps_back (Err failed.LogFull) x t s = absurd x
    steps_back (Err failed.Idle) x t s = absurd x

    into_back : (r : Result (Unit {0}) Failed) → told → CopiesInto c r (view_of meaning (with_archives old b)) (view_of meaning new) → CopiesInto c r (view_of meaning old) (view_of meaning new)
    into_back r t x = some_map (column_at old.table c).moving (λ n y. (
      y.0,
      record { digest = y.1.digest; live = y.1.live; held = (stays.loses t (serving_at old.table n.upto c)).keeps n.upto y.0 y.1.held; right = y.1.right },
      into_after (plain meaning old.shelves) (plain meaning b) (view_of meaning new).shelves n.to n.upto y.0 r (stays.loses t) y.2,
    )) x

    lost_back : told → LosesByCount (plain meaning b).held (plain meaning b) (view_of meaning new).shelves → LosesByCount (plain meaning old.shelves).held (plain meaning old.shelves) (view_of meaning new).shelves
    lost_back t l = loses_from_then (plain meaning old.shelves).held (plain meaning old.shelves) (plain meaning b) (view_of meaning new).shelves (stays.loses t) l

    writes_back : (r : Result MoveStep MoveFault) → told → MoveWrites c r (view_of meaning (with_archives old b)) (view_of meaning new) → MoveWrites c r (view_of meaning old) (view_of meaning new)
    writes_back (Ok moved.Copied) t x = into_back (Ok (tt)) t x
    writes_back (Ok moved.Passed) t x = lost_back t x
    writes_back (Ok moved.Ended) t x = lost_back t x
    writes_back (Err (failed.Faulted d)) t (inl x) = inl (lost_back t x)
    writes_back (Err (failed.Faulted d)) t (inr x) = inr (x.0, into_back (Err x.0) t x.1)
    writes_back (Err failed.LogFull) t x = lost_back t x
    writes_back (Err failed.Idle) t x = lost_back t x

    pub after_read : (r : Result MoveStep MoveFault) → StepsMove told job c r (view_of meaning (with_archives old b)) (view_of meaning new) → StepsMove told job c r (view_of meaning old) (view_of meaning new)
    after_read r s = record {
      moves = back r s.moves;
      keeps = keeps_then (plain meaning old.shelves) (plain meaning b) (view_of meaning new).shelves stays.keeps s.keeps;
      steps = λ t. steps_back r s.moves t (s.steps t);
      writes = λ t. writes_back r t (s.writes t);
    }

  -- the slot has no block of its digest
  pub passed_read : (b : Shelved A) (digest : Digest) (into : List ℕ) (new : GroupParts A) → m.upto < old.table.stripes → slot_at old.table m.upto c ≡ Live digest
      → ReadsByDigest told (serving_at old.table m.upto c) m.upto digest into found.Missing (plain meaning old.shelves) (plain meaning b) → new ≡ acted (with_archives old b) (Moved job m.upto c false) []
      → StepsMove told job c (Ok moved.Passed) (view_of meaning old) (view_of meaning new)
  passed_read b digest into new lt live finds e = subst (λ (w : GroupParts A). StepsMove told job c (Ok moved.Passed) (view_of meaning old) (view_of meaning w)) (sym e) (record {
    moves = on_move told (view_of meaning old) job c m settled room column moving (λ n. (n.upto < old.table.stripes) × LogsEntry (Moved job n.upto c false) [] (view_of meaning old) (view_of meaning (acted (with_archives old b) (Moved job m.upto c false) [])))
        (lt, acts b (Moved job m.upto c false) legal);
    keeps = finds.stays.keeps;
    steps = λ t. (
      m.upto,
      record {
        legal = legal;
        log = refl;
        room = room_for old.log (Moved job m.upto c false) room;
        table = refl;
        flights = refl;
        before = (plain meaning b).held;
        now = (plain meaning b).held;
        lost = (λ n q x h. (finds.stays.loses t n).keeps q x h);
        acts = (λ n k x ln lk l h. h);
        loses = (λ n q x h. h);
        elsewhere = (λ n q x ne h. (finds.stays.loses t n).keeps q x h);
      },
      finds.stays.heard t,
      (λ x. finds.means t x.0 x.1.held (x.1.right ∙ same x.1.digest (sym x.1.live ∙ live))),
    );
    writes = λ t. finds.stays.loses t;
  })
    where
      legal : Legal old.table (Moved job m.upto c false)
      legal = pass_legal told (view_of meaning old) job c m settled room column moving lt

      same : (d : Digest) → Live d ≡ Live digest → d ≡ digest
      same d q = cc

-- a slot that is not Live is not sound
pub dead_slot : (x : SlotState) → ((d : Digest) → x ≡ Live d → ⊥) → is_live x ≡ false
dead_slot Void h = refl
dead_slot (Live d) h = absurd (h d refl)
dead_slot (Lost d) h = refl
dead_slot (Broken d) h = refl
