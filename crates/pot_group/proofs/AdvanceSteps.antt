-- An advance as a step of a group.
use Rattle.std.proofs.Common.{◌≡◌, ◌≢◌, ◌⊎◌, inl, inr, ℕ, ◌+◌, ◌<◌, ◌≤◌, ◌++◌, List, [], ◌∷◌, Option, Some, None, IsSomeAnd, true, false, IsTrue, length, length-append, refl, sym, ap, ◌∙◌, subst, arith}
use Rattle.std.specs.Prelude.{Ok, Err, Result}
use Rattle.pot_outside.specs.Archives.{HearsFold, Meaning}
use Rattle.pot_outside.specs.declared.archive.Held.TheVariants.{Held, Absent}
use Rattle.pot_outside.specs.declared.faults.Failed.{Failed}
use Rattle.pot_machine.specs.declared.entry.Entry.{Entry}
use Rattle.pot_machine.specs.declared.entry.Entry.TheVariants.{Hop, GaveUp, Fault, Oddly, Mended}
use Rattle.pot_machine.specs.Slot.{is_broken, is_live, digest_in}
use Rattle.pot_machine.specs.declared.slot.SlotState.TheVariants.{Broken}
use Rattle.pot_machine.specs.Column.{names}
use Rattle.pot_machine.specs.Table.{Table, slot_at, column_at, serving_at, relay_at, next_column}
use Rattle.pot_machine.proofs.Columns.{names_serving}
use Rattle.pot_machine.specs.Machine.{Legal, after}
use Rattle.pot_steps.specs.declared.flight.Flight.{Flight}
use Rattle.pot_bytes.specs.Digests.{digest_of}
use Rattle.pot_steps.specs.Stripe.{Sound}
use Rattle.pot_steps.specs.Flight.{unfolded, weight_in, partial_of}
use Rattle.pot_steps.specs.Flights.{Acts, flight_in, flights_after, IsFlying, FliesOver, WritesBack, without_flight}
use Rattle.pot_steps.specs.Holdings.{stripe_of}
use Rattle.pot_steps.specs.GroupStep.{GroupState}
use Rattle.pot_steps.specs.RelaySteps.{Logged, EntryWrites, AdvanceStep, Hopped, Ended, Faulted, Idle, HearsSum, ArchiveHears, ComesTo, Odd}
use Rattle.pot_steps.proofs.CallLemmas.{stands, next_within, legal_oddly, odd_broken}
use Rattle.pot_steps.proofs.FlightLists.{relay_of, relay_of_flight, over_stripe}
use Rattle.pot_shelves.specs.Shelves.{Shelves, LosesByCount, FoldsAt, Shelved, plain, WritesAt, put_at}
use Rattle.pot_outside.specs.declared.archive.Held.{Held as IsHeld}
use Rattle.pot_group.specs.Group.{view_of, noted, with_archives, GroupView, GroupParts, IsSettled, state_of}
use Rattle.pot_shelves.proofs.ShelfLemmas.{loses_refl}
use Rattle.pot_group.specs.declared.relaying.Advanced.{Advanced}
use Rattle.pot_group.specs.Relaying.{acted, advance_as, HopsOver, EndsRelay}
use Rattle.pot_group.specs.declared.relaying.Advanced.TheVariants as advanced
use Rattle.pot_bytes.specs.declared.digest.Digest.{Digest}
use Rattle.pot_bytes.specs.Rack.{log_bound}
use Rattle.pot_steps.specs.Calls.{FinishMeans}
use Rattle.pot_steps.specs.declared.rebuilding.Finished.TheVariants as finished
use Rattle.pot_group.specs.declared.relaying.AdvanceFault.{AdvanceFault}
use Rattle.pot_group.specs.declared.relaying.AdvanceFault.TheVariants as failed
use Rattle.pot_group.proofs.Hearing.{heard_fold}
use Rattle.pot_group.proofs.RelayExits.{hop_step, missing, quiet_act, unwritten, writes_back, untouched}

module _ (told : Type 0) (g : GroupView) (now : Shelves) (job : ℕ) (f : Flight) (c : ℕ) (settled : IsSettled told g) (room : length g.log < log_bound)
    (here : flight_in g.flights f.relay.stripe ≡ Some f) (next : next_column g.table f.relay ≡ Some c) (within : f.relay.stripe < g.table.stripes)
    (loses : told → LosesByCount g.shelves.held g.shelves now) where
  at : relay_at g.table f.relay.stripe ≡ Some f.relay
  at = relay_of_flight g.table g.flights f.relay.stripe settled.relays ∙ ap relay_of here

  logged : told → (e : Entry) (given : List ℕ) → Legal g.table e → Acts g.table g.flights given e now.held now.held
      → Logged e given (state_of g) (state_of (record g { table = after g.table e; log = g.log ++ e ∷ []; flights = flights_after g.table e given g.flights; shelves = now }))
  logged t e given legal acts = record {
    legal = legal;
    log = refl;
    room = (let l : length (g.log ++ e ∷ []) ≡ length g.log + 1 = length-append g.log (e ∷ []) in omega (arith, room));
    table = refl;
    flights = refl;
    before = now.held;
    now = now.held;
    lost = (λ n m b e. (loses t n).keeps m b e);
    acts = acts;
    loses = (λ n m b e. e);
    elsewhere = (λ n m b ne e. (loses t n).keeps m b e);
  }

  pub gave_up : Legal g.table (GaveUp job f.relay.stripe f.relay.target c)
  gave_up = ((within, (stands g.table f.relay settled.table at).target), subst (λ o. IsSomeAnd o (λ r. (r.target ≡ f.relay.target) × (next_column g.table r ≡ Some c))) (sym at) (refl, next))

  hears_sum : (new : GroupState) → ArchiveHears f.relay.stripe c f.sum (state_of g) new → HearsSum f.relay.stripe c (state_of g) new
  hears_sum new h = subst (λ o. IsSomeAnd o (λ f2. ArchiveHears f.relay.stripe c f2.sum (state_of g) new)) (sym here) h

  pub ended_step : (t : told) → (Sound (stripe_of g.table now.held f.relay.stripe) c → ⊥)
      → (IsTrue (is_live (slot_at g.table f.relay.stripe c)) × (now.heard (serving_at g.table f.relay.stripe c) ≡ g.shelves.heard (serving_at g.table f.relay.stripe c) ++ (f.relay.stripe, f.sum) ∷ [])
      × ((n : ℕ) → n ≢ serving_at g.table f.relay.stripe c → now.heard n ≡ g.shelves.heard n))
      ⊎ ((is_live (slot_at g.table f.relay.stripe c) ≡ false) × ((n : ℕ) → now.heard n ≡ g.shelves.heard n))
      → AdvanceStep job f.relay.stripe Ended (state_of g) (state_of (record g { table = after g.table (GaveUp job f.relay.stripe f.relay.target c); log = g.log ++ GaveUp job f.relay.stripe f.relay.target c ∷ []; flights = flights_after g.table (GaveUp job f.relay.stripe f.relay.target c) [] g.flights; shelves = now }))
  ended_step t missing (inl h) = (
    f.relay.target,
    c,
    logged t (GaveUp job f.relay.stripe f.relay.target c) [] gave_up (λ n k b ln lk l e. e),
    missing,
    inl (h.0, hears_sum _ (record { here = h.1; others = h.2 })),
  )
  ended_step t missing (inr h) = (f.relay.target, c, logged t (GaveUp job f.relay.stripe f.relay.target c) [] gave_up (λ n k b ln lk l e. e), missing, inr (h.0, h.1))

  pub fault_legal : Legal g.table (Fault job f.relay.stripe c)
  fault_legal = (within, next_within g.table f.relay settled.table at c next)

  comes : ComesTo g.table f.relay.stripe (Some c)
  comes = subst (λ o. IsSomeAnd o (λ r. next_column g.table r ≡ Some c)) (sym at) next

  pub fault_step : (t : told) → (e : Failed) → HearsFold (g.shelves.heard (serving_at g.table f.relay.stripe c)) (now.heard (serving_at g.table f.relay.stripe c)) f.relay.stripe f.sum (Err e)
      → ((n : ℕ) → n ≢ serving_at g.table f.relay.stripe c → now.heard n ≡ g.shelves.heard n)
      → AdvanceStep job f.relay.stripe (Faulted c) (state_of g) (state_of (record g { log = g.log ++ Fault job f.relay.stripe c ∷ []; shelves = now }))
  fault_step t e (inl same) silent = (logged t (Fault job f.relay.stripe c) [] fault_legal (λ n k b ln lk l e. e), inl (comes, inl (λ n. elim (either n (serving_at g.table f.relay.stripe c)) [ inl q ↦ subst (λ n. now.heard n ≡ g.shelves.heard n) (sym q) same | inr ne ↦ silent n ne ])))
    where
      either : (a b : ℕ) → (a ≡ b) ⊎ (a ≢ b)
      either a b = grind arith
  fault_step t e (inr more) silent = (logged t (Fault job f.relay.stripe c) [] fault_legal (λ n k b ln lk l e. e), inl (comes, inr (hears_sum _ (record { here = more; others = silent }))))

-- no relay stands
pub idle_step : (told : Type 0) (g : GroupView) (job s : ℕ) → IsSettled told g → flight_in g.flights s ≡ None → AdvanceStep job s Idle (state_of g) (state_of g)
idle_step told g job s settled none = (record { table = refl; log = refl; flights = refl; heard = λ n. refl; held = λ n m. refl }, none_at (flight_in g.flights s) none)
  where
    none_at : (o : Option Flight) → o ≡ None → relay_at g.table s ≡ None
    none_at o e = relay_of_flight g.table g.flights s settled.relays ∙ ap relay_of none

-- a slot without a block, or that is not Live, is not sound
pub absent_unsound : (h : ℕ → ℕ → Option (List ℕ)) (t : Table) (s c : ℕ) → h (serving_at t s c) s ≡ None → Sound (stripe_of t h s) c → ⊥
absent_unsound h t s c e x = clash (sym e ∙ x.1.held)
  where
    clash : {b : List ℕ} → None ≡ Some b → ⊥
    clash e = cc

pub dead_unsound : (h : ℕ → ℕ → Option (List ℕ)) (t : Table) (s c : ℕ) → is_live (slot_at t s c) ≡ false → Sound (stripe_of t h s) c → ⊥
dead_unsound h t s c e x = clash (sym e ∙ ap is_live x.1.live)
  where
    clash : false ≡ true → ⊥
    clash e = cc

pub at_next : (P : ℕ → Type 0) (o : Option ℕ) (c : ℕ) → o ≡ Some c → IsSomeAnd o P → P c
at_next P o c e h = subst (λ o. IsSomeAnd o P) e h

-- A CALL OF THE CODE

module _ {A : Type 0} (told : Type 0) (meaning : A → Meaning) (old : GroupParts A) (job : ℕ) (f : Flight) (c : ℕ)
    (settled : IsSettled told (view_of meaning old)) (room : length old.log < log_bound)
    (here : flight_in old.flights f.relay.stripe ≡ Some f) (next : next_column old.table f.relay ≡ Some c) (within : f.relay.stripe < old.table.stripes) where
  abbrev view : GroupParts A → GroupView
  view g = view_of meaning g

  -- the relay's end
  abbrev Left : GroupParts A → GroupParts A → Type 0
  Left mid new = IsSomeAnd (next_column mid.table f.relay) (λ c. new ≡ acted mid (GaveUp job f.relay.stripe f.relay.target c) [])

  pub dead_exit : (new : GroupParts A) → Left old new → is_live (slot_at old.table f.relay.stripe c) ≡ false → told → AdvanceStep job f.relay.stripe Ended (state_of (view old)) (state_of (view new))
  dead_exit new left dead t = subst (λ (w : GroupParts A). AdvanceStep job f.relay.stripe Ended (state_of (view old)) (state_of (view w))) (sym (at_next _ (next_column old.table f.relay) c next left))
      (ended_step told (view old) (view old).shelves job f c settled room here next within (λ t. loses_refl (view old).shelves) t
      (dead_unsound (view old).shelves.held old.table f.relay.stripe c dead) (inr (dead, λ n. refl)))

  module _ (b : Shelved A) (sum : List ℕ) (live : IsTrue (is_live (slot_at old.table f.relay.stripe c))) where
    abbrev mid : GroupParts A
    mid = with_archives old b

    abbrev Folded : Result IsHeld Failed → Type 0
    Folded r = FoldsAt told (serving_at old.table f.relay.stripe c) f.relay.stripe (weight_in old.table.data_columns f.relay c) f.sum sum r (plain meaning old.shelves) (plain meaning b)

    pub absent_exit : (new : GroupParts A) → Left (with_archives old b) new → Folded (Ok Absent) → told → AdvanceStep job f.relay.stripe Ended (state_of (view old)) (state_of (view new))
    absent_exit new left folds t = subst (λ (w : GroupParts A). AdvanceStep job f.relay.stripe Ended (state_of (view old)) (state_of (view w))) (sym (at_next _ (next_column old.table f.relay) c next left))
        (ended_step told (view old) (plain meaning b) job f c settled room here next within folds.loses t
        (absent_unsound (plain meaning b).held old.table f.relay.stripe c (folds.tells t)) (inl (live, folds.hears t, folds.silent t)))

    pub over_exit : (r : Advanced) (new : GroupParts A) → HopsOver job sum r f (with_archives old b) new → Folded (Ok Held) → told → AdvanceStep job f.relay.stripe (advance_as (Ok r)) (state_of (view old)) (state_of (view new))
    over_exit advanced.Mended new means folds t = absurd means
    over_exit advanced.Hopped new means folds t =
        let m : (digest_in (slot_at old.table f.relay.stripe c) ≡ Some (digest_of (unfolded (weight_in old.table.data_columns f.relay c) f.sum sum))) × (new ≡ acted (with_archives old b) (Hop job f.relay.stripe c) sum) =
        at_next (λ c. (digest_in (slot_at old.table f.relay.stripe c) ≡ Some (digest_of (unfolded (weight_in old.table.data_columns f.relay c) f.sum sum))) × (new ≡ acted (with_archives old b) (Hop job f.relay.stripe c) sum)) (next_column old.table f.relay) c next means in
        subst (λ (w : GroupParts A). AdvanceStep job f.relay.stripe Hopped (state_of (view old)) (state_of (view w))) (sym m.1)
        (hop_step told (view old) (plain meaning b) job f.relay.stripe c f sum settled room here next within folds.keeps folds.loses folds.history (λ t. heard_fold old.table old.flights f f.relay.stripe c (Ok Held) (plain meaning old.shelves) (plain meaning b) here next (folds.hears t) (folds.silent t)) folds.tells live m.0 folds.hears folds.silent t)
    over_exit advanced.Ended new means folds t =
        let m : (digest_in (slot_at old.table f.relay.stripe c) ≢ Some (digest_of (unfolded (weight_in old.table.data_columns f.relay c) f.sum sum))) × (new ≡ acted (with_archives old b) (GaveUp job f.relay.stripe f.relay.target c) []) =
        at_next (λ c. (digest_in (slot_at old.table f.relay.stripe c) ≢ Some (digest_of (unfolded (weight_in old.table.data_columns f.relay c) f.sum sum))) × (new ≡ acted (with_archives old b) (GaveUp job f.relay.stripe f.relay.target c) [])) (next_column old.table f.relay) c next means in
        subst (λ (w : GroupParts A). AdvanceStep job f.relay.stripe Ended (state_of (view old)) (state_of (view w))) (sym m.1)
        (ended_step told (view old) (plain meaning b) job f c settled room here next within folds.loses t
        (missing told (view old) (plain meaning b) job f.relay.stripe c f sum settled room here next within folds.keeps folds.loses folds.history (λ t. heard_fold old.table old.flights f f.relay.stripe c (Ok Held) (plain meaning old.shelves) (plain meaning b) here next (folds.hears t) (folds.silent t)) folds.tells live m.0 t) (inl (live, folds.hears t, folds.silent t)))

    pub failed_exit : (new : GroupParts A) (e : Failed) → new ≡ noted (with_archives old b) (Fault job f.relay.stripe c) → Folded (Err e) → told → AdvanceStep job f.relay.stripe (Faulted c) (state_of (view old)) (state_of (view new))
    failed_exit new e is folds t = subst (λ (w : GroupParts A). AdvanceStep job f.relay.stripe (Faulted c) (state_of (view old)) (state_of (view w))) (sym is)
        (fault_step told (view old) (plain meaning b) job f c settled room here next within folds.loses t e (folds.hears t) (folds.silent t))

    pub fault_may : Legal old.table (Fault job f.relay.stripe c)
    fault_may = fault_legal told (view old) (view old).shelves job f c settled room here next within (λ t. loses_refl (view old).shelves)

-- A RELAY THAT WENT OVER ALL ITS COLUMNS

module _ (told : Type 0) (g : GroupView) (job : ℕ) (f : Flight) (settled : IsSettled told g) (room : length g.log < log_bound)
    (here : flight_in g.flights f.relay.stripe ≡ Some f) (next : next_column g.table f.relay ≡ None) where
  stood : relay_at g.table f.relay.stripe ≡ Some f.relay
  stood = relay_of_flight g.table g.flights f.relay.stripe settled.relays ∙ ap relay_of here

  stripe_in : f.relay.stripe < g.table.stripes
  stripe_in = (stands g.table f.relay settled.table stood).stripe

  fly : told → IsFlying g.table.data_columns g.table.parity (stripe_of g.table g.shelves.held f.relay.stripe) f
  fly t = subst (λ o. FliesOver g.table.data_columns g.table.parity (stripe_of g.table g.shelves.held f.relay.stripe) o) here (settled.flying t f.relay.stripe stripe_in)

  more : (e : Entry) → length (g.log ++ e ∷ []) ≤ log_bound
  more e = let l : length (g.log ++ e ∷ []) ≡ length g.log + 1 = length-append g.log (e ∷ []) in omega (arith, room)

  -- Oddly
  pub odd_legal : (found : Digest) → digest_in (slot_at g.table f.relay.stripe f.relay.target) ≢ Some found → Legal g.table (Oddly job f.relay.stripe f.relay.target found)
  odd_legal found differs = legal_oddly g.table f.relay job found settled.table stood next differs

  same_digest : (a b : Digest) → Some a ≡ Some b → a ≡ b
  same_digest a b e = cc

  -- the slot was Broken
  odd_found : (t : Table) (e : Entry) (wanted found : Digest) → FinishMeans job (finished.Odd wanted found e) g.table t f → told → slot_at g.table f.relay.stripe f.relay.target ≡ Broken wanted
  odd_found t e wanted found m k = odd_broken g.table g.shelves.held f wanted settled.table stood next (fly k) m.4 (λ q. m.3 (q ∙ sym m.2))

  pub odd_settled : (e : Entry) (wanted found : Digest) (t : Table) (log : List Entry) (fs : List Flight) → FinishMeans job (finished.Odd wanted found e) g.table t f → log ≡ g.log ++ e ∷ []
      → fs ≡ without_flight g.flights f.relay.stripe → IsSettled told (record g { table = t; log = log; flights = fs })
  odd_settled e wanted found t log fs m el ef =
      subst (λ t. IsSettled told (record g { table = t; log = log; flights = fs })) (sym (m.1 ∙ ap (after g.table) m.0))
      (subst (λ log. IsSettled told (record g { table = after g.table (Oddly job f.relay.stripe f.relay.target found); log = log; flights = fs })) (sym (el ∙ ap (λ e. g.log ++ e ∷ []) m.0))
      (subst (λ fs. IsSettled told (record g { table = after g.table (Oddly job f.relay.stripe f.relay.target found); log = g.log ++ Oddly job f.relay.stripe f.relay.target found ∷ []; flights = fs })) (sym ef)
      (quiet_act told g (Oddly job f.relay.stripe f.relay.target found) [] settled (odd_legal found (λ q. m.3 (same_digest wanted found (sym m.4 ∙ q)))) room refl (λ k. refl) (λ t n k b ln lk l h. h) (λ k. refl)
      (λ k c lc says. (let whole = sym says.1 ∙ ap is_broken (odd_found t e wanted found m k) in absurd (cc whole))) (λ t. tt))))

  pub odd_step : (e : Entry) (wanted found : Digest) (t : Table) (log : List Entry) (fs : List Flight) → FinishMeans job (finished.Odd wanted found e) g.table t f → log ≡ g.log ++ e ∷ [] → fs ≡ without_flight g.flights f.relay.stripe
      → told → AdvanceStep job f.relay.stripe (Odd wanted found) (state_of g) (state_of (record g { table = t; log = log; flights = fs }))
  odd_step e wanted found t log fs m el ef k = (
    f.relay.target,
    record {
      legal = odd_legal found (λ q. m.3 (same_digest wanted found (sym m.4 ∙ q)));
      log = el ∙ ap (λ e. g.log ++ e ∷ []) m.0;
      room = subst (λ l. length l ≤ log_bound) (sym el) (more e);
      table = m.1 ∙ ap (after g.table) m.0;
      flights = ef;
      before = g.shelves.held;
      now = g.shelves.held;
      lost = (λ n q b e. e);
      acts = (λ n k b ln lk l e. e);
      loses = (λ n q b e. e);
      elsewhere = (λ n q b ne e. e);
    },
    (λ n. refl),
    odd_found t e wanted found m k,
    subst (λ o. IsSomeAnd o (λ f2. found ≡ digest_of (partial_of f2))) (sym here) m.2,
  )

  -- Mended, and a write that failed
  module _ (block : List ℕ) (is : block ≡ partial_of f) (digest : digest_in (slot_at g.table f.relay.stripe f.relay.target) ≡ Some (digest_of block)) (new : GroupView) where
    pub well_step : (r : Result Advanced AdvanceFault) → EndsRelay told job block f r g new → told → AdvanceStep job f.relay.stripe (advance_as r) (state_of g) (state_of new)
    well_step (Ok advanced.Hopped) m t = absurd m
    well_step (Ok advanced.Ended) m t = absurd m
    well_step (Err failed.LogFull) m t = absurd m
    well_step (Err failed.Idle) m t = absurd m
    well_step (Err (failed.Odd wanted found)) m t = absurd m
    well_step (Ok advanced.Mended) m t = (
      f.relay.target,
      record {
        legal = m.0.legal;
        log = m.0.log;
        room = subst (λ l. length l ≤ log_bound) (sym m.0.log) (more (Mended job f.relay.stripe f.relay.target));
        table = m.0.table;
        flights = m.0.flights;
        before = g.shelves.held;
        now = put_at g.shelves.held (serving_at g.table f.relay.stripe f.relay.target) f.relay.stripe (Some (partial_of f));
        lost = (λ n q b e. e);
        acts = subst (λ o. IsSomeAnd o (λ x. WritesBack g.table g.shelves.held (put_at g.shelves.held (serving_at g.table f.relay.stripe f.relay.target) f.relay.stripe (Some (partial_of f))) x f.relay.stripe f.relay.target)) (sym here)
            (writes_back told g new.shelves job f.relay.stripe f.relay.target f settled room here m.0.legal (digest ∙ ap (λ b. Some (digest_of b)) is)
            (subst (λ b. WritesAt told (serving_at g.table f.relay.stripe f.relay.target) f.relay.stripe b (Ok (tt)) g.shelves new.shelves) is m.1) t);
        loses = (λ n q b e. (subst (λ left. LosesByCount (put_at g.shelves.held (serving_at g.table f.relay.stripe f.relay.target) f.relay.stripe left) g.shelves new.shelves) ((m.1.wrote t).1 ∙ ap Some is) (m.1.wrote t).2 n).keeps q b e);
        elsewhere = (λ n q b ne e. sym (unwritten (EntryWrites g.table (Mended job f.relay.stripe f.relay.target)) g.shelves.held (serving_at g.table f.relay.stripe f.relay.target) f.relay.stripe (m.1.wrote t).0 (refl, refl) n q ne)
            ∙ ((m.1.wrote t).2 n).keeps q b e);
      },
      m.1.heard t,
    )
    well_step (Err (failed.Faulted column)) m t = (
      record {
        legal = m.1.legal;
        log = m.1.log;
        room = subst (λ l. length l ≤ log_bound) (sym m.1.log) (more (Fault job f.relay.stripe column));
        table = m.1.table;
        flights = m.1.flights;
        before = g.shelves.held;
        now = put_at g.shelves.held (serving_at g.table f.relay.stripe f.relay.target) f.relay.stripe (m.2.1.wrote t).0;
        lost = (λ n q b e. e);
        acts = (λ n k b ln lk live h. sym (untouched told g new.shelves job f block settled room here next (m.2.1.wrote t).0 n k lk live) ∙ h);
        loses = (λ n q b e. ((m.2.1.wrote t).2 n).keeps q b e);
        elsewhere = (λ n q b ne e. sym (unwritten (EntryWrites g.table (Fault job f.relay.stripe column)) g.shelves.held (serving_at g.table f.relay.stripe f.relay.target) f.relay.stripe (m.2.1.wrote t).0
            (subst (λ k. IsTrue (names (column_at g.table k) (serving_at g.table f.relay.stripe f.relay.target))) (sym m.0) (names_serving (column_at g.table f.relay.target) f.relay.stripe), refl) n q ne)
            ∙ ((m.2.1.wrote t).2 n).keeps q b e);
      },
      inr (subst (λ o. IsSomeAnd o (λ r. next_column g.table r ≡ None)) (sym stood) next, subst (λ o. IsSomeAnd o (λ r. r.target ≡ column)) (sym stood) (sym m.0), m.2.1.heard t),
    )

pub some_differs : (o : Option Digest) (wanted found : Digest) → o ≡ Some wanted → wanted ≢ found → o ≢ Some found
some_differs o wanted found e ne q = ne (same wanted found (sym e ∙ q))
  where
    same : (a b : Digest) → Some a ≡ Some b → a ≡ b
    same a b e = cc

-- what the flight over a stripe is
pub found_over : (flights : List Flight) (s : ℕ) (o : Option Flight) (f : Flight) → o ≡ flight_in flights s → o ≡ Some f → (f.relay.stripe ≡ s) × (flight_in flights f.relay.stripe ≡ Some f)
found_over flights s o f e q =
    let over : f.relay.stripe ≡ s = over_stripe flights s f (sym e ∙ q) in
    (over, subst (λ n. flight_in flights n ≡ Some f) (sym over) (sym e ∙ q))

pub none_found : (flights : List Flight) (s : ℕ) (o : Option Flight) → o ≡ flight_in flights s → ((f : Flight) → o ≡ Some f → ⊥) → flight_in flights s ≡ None
none_found flights s None e no_one = sym e
none_found flights s (Some f) e no_one = absurd (no_one f refl)
