-- What an advance does, exit by exit, whether or not archives tell.
use Rattle.std.proofs.Common.{◌≡◌, ◌≢◌, inl, inr, ℕ, ◌<◌, ◌++◌, List, [], ◌∷◌, Some, None, IsSomeAnd, false, IsTrue, length, refl, sym, ap, ◌∙◌, subst}
use Rattle.std.specs.Prelude.{Ok, Err, Result}
use Rattle.pot_bytes.specs.declared.digest.Digest.{Digest}
use Rattle.pot_bytes.specs.Rack.{log_bound}
use Rattle.pot_outside.specs.Archives.{Meaning}
use Rattle.pot_outside.specs.Counts.{Rose}
use Rattle.pot_outside.specs.declared.archive.Held.{Held as IsHeld}
use Rattle.pot_outside.specs.declared.archive.Held.TheVariants.{Held, Absent}
use Rattle.pot_outside.specs.declared.faults.Failed.{Failed}
use Rattle.pot_machine.specs.declared.entry.Entry.{Entry}
use Rattle.pot_machine.specs.declared.entry.Entry.TheVariants.{Hop, GaveUp, Fault, Mended, Oddly}
use Rattle.pot_machine.specs.Slot.{is_live, digest_in}
use Rattle.pot_machine.specs.Table.{Table, slot_at, serving_at, relay_at, next_column}
use Rattle.pot_machine.specs.Machine.{Legal, after}
use Rattle.pot_steps.specs.declared.flight.Flight.{Flight}
use Rattle.pot_bytes.specs.Digests.{digest_of}
use Rattle.pot_steps.specs.Flight.{partial_of, unfolded, weight_in}
use Rattle.pot_steps.specs.Flights.{flight_in, without_flight}
use Rattle.pot_steps.specs.Calls.{FinishMeans}
use Rattle.pot_steps.specs.declared.rebuilding.Finished.TheVariants as finished
use Rattle.pot_steps.proofs.CallLemmas.{legal_hop}
use Rattle.pot_steps.proofs.FlightLists.{relay_of, relay_of_flight}
use Rattle.pot_group.specs.declared.relaying.Advanced.{Advanced}
use Rattle.pot_group.specs.declared.relaying.Advanced.TheVariants as advanced
use Rattle.pot_group.specs.declared.relaying.AdvanceFault.{AdvanceFault}
use Rattle.pot_group.specs.declared.relaying.AdvanceFault.TheVariants as failed
use Rattle.pot_shelves.specs.Shelves.{Shelved, Keeps, FoldsAt, LosesByCount, NoneLost, WritesInto, plain, put_at}
use Rattle.pot_group.specs.Group.{GroupView, GroupParts, IsSettled, noted, view_of, with_archives, state_of}
use Rattle.pot_group.specs.Relaying.{LogsEntry, Advances, AtEnd, EndsRelay, HopsOver, Moves, OnWay, acted}
use Rattle.pot_group.proofs.AdvanceSteps.{at_next, absent_exit, dead_exit, failed_exit, fault_legal, gave_up, odd_legal, odd_step, over_exit, some_differs, well_step}
use Rattle.pot_steps.specs.Mending.{LosesNothing}
use Rattle.pot_steps.proofs.Acting.{Lessens}
use Rattle.pot_group.proofs.Lossless.{lossless_less, lossless_mended}
use Rattle.pot_group.proofs.RelayExits.{untouched}
use Rattle.pot_shelves.proofs.ShelfLemmas.{keeps_refl, loses_refl}

-- A CALL OF THE CODE

module _ {A : Type 0} (told : Type 0) (meaning : A → Meaning) (old : GroupParts A) (job : ℕ) (f : Flight) (c : ℕ)
    (settled : IsSettled told (view_of meaning old)) (room : length old.log < log_bound)
    (here : flight_in old.flights f.relay.stripe ≡ Some f) (next : next_column old.table f.relay ≡ Some c) (within : f.relay.stripe < old.table.stripes) where
  on_way : (P : Flight → ℕ → Type 0) → P f c → OnWay (view_of meaning old) f.relay.stripe P
  on_way P p = subst (λ o. IsSomeAnd o (λ g. IsSomeAnd (next_column old.table g.relay) (P g))) (sym here) (subst (λ o. IsSomeAnd o (P f)) (sym next) p)

  acts : (b : Shelved A) (e : Entry) (given : List ℕ) → Legal old.table e → LogsEntry e given (view_of meaning old) (view_of meaning (acted (with_archives old b) e given))
  acts b e given legal = record { number = refl; first = refl; legal = legal; table = refl; log = refl; flights = refl; blinds = refl; tried = refl }

  left : Legal old.table (GaveUp job f.relay.stripe f.relay.target c)
  left = gave_up told (view_of meaning old) (view_of meaning old).shelves job f c settled room here next within (λ t. loses_refl (view_of meaning old).shelves)

  ends : (b : Shelved A) (new : GroupParts A) → new ≡ acted (with_archives old b) (GaveUp job f.relay.stripe f.relay.target c) []
      → Moves job f.relay.stripe (Ok advanced.Ended) (view_of meaning old) (view_of meaning new)
  ends b new e = on_way (λ f2 k. LogsEntry (GaveUp job f.relay.stripe f2.relay.target k) [] (view_of meaning old) (view_of meaning new))
      (subst (λ (w : GroupParts A). LogsEntry (GaveUp job f.relay.stripe f.relay.target c) [] (view_of meaning old) (view_of meaning w)) (sym e) (acts b (GaveUp job f.relay.stripe f.relay.target c) [] left))

  keeps_at : (b : Shelved A) (e : Entry) (given : List ℕ) (new : GroupParts A) → new ≡ acted (with_archives old b) e given → Keeps (plain meaning old.shelves) (plain meaning b) → Keeps (view_of meaning old).shelves (view_of meaning new).shelves
  keeps_at b e given new is k = subst (λ (w : GroupParts A). Keeps (view_of meaning old).shelves (view_of meaning w).shelves) (sym is) k

  -- nothing was written
  lost_only : (b : Shelved A) (e : Entry) (given : List ℕ) (new : GroupParts A) → new ≡ acted (with_archives old b) e given
      → (told → LosesByCount (plain meaning old.shelves).held (plain meaning old.shelves) (plain meaning b)) → told → LosesByCount (view_of meaning old).shelves.held (view_of meaning old).shelves (view_of meaning new).shelves
  lost_only b e given new is loses t = subst (λ (w : GroupParts A). LosesByCount (view_of meaning old).shelves.held (view_of meaning old).shelves (view_of meaning w).shelves) (sym is) (loses t)

  lossless_at : (b : Shelved A) (e : Entry) (given : List ℕ) (new : GroupParts A) → new ≡ acted (with_archives old b) e given → Lessens e
      → (told → LosesByCount (plain meaning old.shelves).held (plain meaning old.shelves) (plain meaning b)) → told
      → NoneLost (view_of meaning old).shelves (view_of meaning new).shelves → LosesNothing (state_of (view_of meaning old)) (state_of (view_of meaning new))
  lossless_at b e given new is less loses t none = lossless_less (view_of meaning old) (view_of meaning new) (view_of meaning old).shelves.held
      (lost_only b e given new is loses t) none (λ n k x ln lk live q. q) e less (ap (λ (w : GroupParts A). w.table) is)

  -- the relay's end
  pub dead_advances : (new : GroupParts A) → IsSomeAnd (next_column old.table f.relay) (λ c. new ≡ acted old (GaveUp job f.relay.stripe f.relay.target c) []) → is_live (slot_at old.table f.relay.stripe c) ≡ false
      → Advances told job f.relay.stripe (Ok advanced.Ended) (view_of meaning old) (view_of meaning new)
  dead_advances new gone dead =
      let e : new ≡ acted old (GaveUp job f.relay.stripe f.relay.target c) [] = at_next (λ c. new ≡ acted old (GaveUp job f.relay.stripe f.relay.target c) []) (next_column old.table f.relay) c next gone in
      record {
        moves = ends old.shelves new e;
        keeps = keeps_at old.shelves (GaveUp job f.relay.stripe f.relay.target c) [] new e (keeps_refl (plain meaning old.shelves));
        steps = dead_exit told meaning old job f c settled room here next within new gone dead;
        lossless = lossless_at old.shelves (GaveUp job f.relay.stripe f.relay.target c) [] new e tt (λ t. loses_refl (plain meaning old.shelves));
        writes = lost_only old.shelves (GaveUp job f.relay.stripe f.relay.target c) [] new e (λ t. loses_refl (plain meaning old.shelves));
      }

  module _ (b : Shelved A) (sum : List ℕ) (live : IsTrue (is_live (slot_at old.table f.relay.stripe c))) where
    abbrev pub Folded : Result IsHeld Failed → Type 0
    Folded r = FoldsAt told (serving_at old.table f.relay.stripe c) f.relay.stripe (weight_in old.table.data_columns f.relay c) f.sum sum r (plain meaning old.shelves) (plain meaning b)

    pub absent_advances : (new : GroupParts A) → IsSomeAnd (next_column old.table f.relay) (λ c. new ≡ acted (with_archives old b) (GaveUp job f.relay.stripe f.relay.target c) []) → Folded (Ok Absent)
        → Advances told job f.relay.stripe (Ok advanced.Ended) (view_of meaning old) (view_of meaning new)
    absent_advances new gone folds =
        let e : new ≡ acted (with_archives old b) (GaveUp job f.relay.stripe f.relay.target c) [] = at_next (λ c. new ≡ acted (with_archives old b) (GaveUp job f.relay.stripe f.relay.target c) []) (next_column old.table f.relay) c next gone in
        record {
          moves = ends b new e;
          keeps = keeps_at b (GaveUp job f.relay.stripe f.relay.target c) [] new e folds.keeps;
          steps = absent_exit told meaning old job f c settled room here next within b sum live new gone folds;
          lossless = lossless_at b (GaveUp job f.relay.stripe f.relay.target c) [] new e tt folds.loses;
          writes = lost_only b (GaveUp job f.relay.stripe f.relay.target c) [] new e folds.loses;
        }

    pub over_advances : (r : Advanced) (new : GroupParts A) → HopsOver job sum r f (with_archives old b) new → Folded (Ok Held) → Advances told job f.relay.stripe (Ok r) (view_of meaning old) (view_of meaning new)
    over_advances advanced.Mended new means folds = absurd means
    over_advances advanced.Hopped new means folds =
        let m : (digest_in (slot_at old.table f.relay.stripe c) ≡ Some (digest_of (unfolded (weight_in old.table.data_columns f.relay c) f.sum sum))) × (new ≡ acted (with_archives old b) (Hop job f.relay.stripe c) sum) =
        at_next (λ c. (digest_in (slot_at old.table f.relay.stripe c) ≡ Some (digest_of (unfolded (weight_in old.table.data_columns f.relay c) f.sum sum))) × (new ≡ acted (with_archives old b) (Hop job f.relay.stripe c) sum)) (next_column old.table f.relay) c next means in
        record {
          moves = on_way (λ f2 c. (sum2 : List ℕ) × IsTrue (is_live (slot_at old.table f.relay.stripe c))
              × (digest_in (slot_at old.table f.relay.stripe c) ≡ Some (digest_of (unfolded (weight_in old.table.data_columns f2.relay c) f2.sum sum2)))
              × LogsEntry (Hop job f.relay.stripe c) sum2 (view_of meaning old) (view_of meaning new)) (
                sum,
                live,
                m.0,
                subst (λ (w : GroupParts A). LogsEntry (Hop job f.relay.stripe c) sum (view_of meaning old) (view_of meaning w)) (sym m.1)
                    (acts b (Hop job f.relay.stripe c) sum (legal_hop old.table f.relay settled.table (relay_of_flight old.table old.flights f.relay.stripe settled.relays ∙ ap relay_of here) c next job live)),
              );
          keeps = keeps_at b (Hop job f.relay.stripe c) sum new m.1 folds.keeps;
          steps = over_exit told meaning old job f c settled room here next within b sum live advanced.Hopped new means folds;
          lossless = lossless_at b (Hop job f.relay.stripe c) sum new m.1 tt folds.loses;
          writes = lost_only b (Hop job f.relay.stripe c) sum new m.1 folds.loses;
        }
    over_advances advanced.Ended new means folds =
        let m : (digest_in (slot_at old.table f.relay.stripe c) ≢ Some (digest_of (unfolded (weight_in old.table.data_columns f.relay c) f.sum sum))) × (new ≡ acted (with_archives old b) (GaveUp job f.relay.stripe f.relay.target c) []) =
        at_next (λ c. (digest_in (slot_at old.table f.relay.stripe c) ≢ Some (digest_of (unfolded (weight_in old.table.data_columns f.relay c) f.sum sum))) × (new ≡ acted (with_archives old b) (GaveUp job f.relay.stripe f.relay.target c) [])) (next_column old.table f.relay) c next means in
        record {
          moves = ends b new m.1;
          keeps = keeps_at b (GaveUp job f.relay.stripe f.relay.target c) [] new m.1 folds.keeps;
          steps = over_exit told meaning old job f c settled room here next within b sum live advanced.Ended new means folds;
          lossless = lossless_at b (GaveUp job f.relay.stripe f.relay.target c) [] new m.1 tt folds.loses;
          writes = lost_only b (GaveUp job f.relay.stripe f.relay.target c) [] new m.1 folds.loses;
        }

    pub failed_advances : (new : GroupParts A) (e : Failed) → new ≡ noted (with_archives old b) (Fault job f.relay.stripe c) → Folded (Err e) → Advances told job f.relay.stripe (Err (failed.Faulted c)) (view_of meaning old) (view_of meaning new)
    failed_advances new e is folds = record {
      moves = (
        subst (λ (w : GroupParts A). Rose ((plain meaning old.shelves).faults (serving_at old.table f.relay.stripe c)) ((plain meaning w.shelves).faults (serving_at old.table f.relay.stripe c))) (sym is) (folds.cause refl),
        subst (λ (w : GroupParts A). LogsEntry (Fault job f.relay.stripe c) [] (view_of meaning old) (view_of meaning w)) (sym is)
            (acts b (Fault job f.relay.stripe c) [] (fault_legal told (view_of meaning old) (view_of meaning old).shelves job f c settled room here next within (λ t. loses_refl (view_of meaning old).shelves))),
        inl (on_way (λ f2 k. (k ≡ c) × IsTrue (is_live (slot_at old.table f.relay.stripe k))) (refl, live)),
      );
      keeps = keeps_at b (Fault job f.relay.stripe c) [] new is folds.keeps;
      steps = failed_exit told meaning old job f c settled room here next within b sum live new e is folds;
      lossless = lossless_at b (Fault job f.relay.stripe c) [] new is tt folds.loses;
      writes = λ t. inl (on_way (λ f2 k. LosesByCount (view_of meaning old).shelves.held (view_of meaning old).shelves (view_of meaning new).shelves) (lost_only b (Fault job f.relay.stripe c) [] new is folds.loses t));
    }

-- A RELAY THAT WENT OVER ALL ITS COLUMNS

module _ (told : Type 0) (g : GroupView) (job : ℕ) (f : Flight) (settled : IsSettled told g) (room : length g.log < log_bound)
    (here : flight_in g.flights f.relay.stripe ≡ Some f) (next : next_column g.table f.relay ≡ None) where
  at_end : (P : Flight → Type 0) → P f → AtEnd g f.relay.stripe P
  at_end P p = subst (λ o. IsSomeAnd o (λ f. (next_column g.table f.relay ≡ None) × P f)) (sym here) (next, p)

  pub odd_advances : (e : Entry) (wanted found : Digest) (t : Table) (log : List Entry) (fs : List Flight) → FinishMeans job (finished.Odd wanted found e) g.table t f → log ≡ g.log ++ e ∷ [] → fs ≡ without_flight g.flights f.relay.stripe
      → Advances told job f.relay.stripe (Err (failed.Odd wanted found)) g (record g { table = t; log = log; flights = fs })
  odd_advances e wanted found t log fs m el ef = record {
    moves = at_end (λ f2. (digest_in (slot_at g.table f.relay.stripe f2.relay.target) ≡ Some wanted) × (found ≡ digest_of (partial_of f2)) × (wanted ≢ found)
        × LogsEntry (Oddly job f.relay.stripe f2.relay.target found) [] g (record g { table = t; log = log; flights = fs })) (
          m.4,
          m.2,
          m.3,
          record {
            number = refl;
            first = refl;
            legal = odd_legal told g job f settled room here next found (some_differs (digest_in (slot_at g.table f.relay.stripe f.relay.target)) wanted found m.4 m.3);
            table = m.1 ∙ ap (after g.table) m.0;
            log = el ∙ ap (λ e. g.log ++ e ∷ []) m.0;
            flights = ef;
            blinds = refl;
            tried = refl;
          },
        );
    keeps = keeps_refl g.shelves;
    steps = odd_step told g job f settled room here next e wanted found t log fs m el ef;
    lossless = λ k none. lossless_less g (record g { table = t; log = log; flights = fs }) g.shelves.held (loses_refl g.shelves) none (λ n q x ln lq live h. h)
        (Oddly job f.relay.stripe f.relay.target found) tt (m.1 ∙ ap (after g.table) m.0);
    writes = λ t. loses_refl g.shelves;
  }

  module _ (block : List ℕ) (is : block ≡ partial_of f) (digest : digest_in (slot_at g.table f.relay.stripe f.relay.target) ≡ Some (digest_of block)) (new : GroupView) where
    pub well_advances : (r : Result Advanced AdvanceFault) → EndsRelay told job block f r g new → Advances told job f.relay.stripe r g new
    well_advances (Ok advanced.Hopped) m = absurd m
    well_advances (Ok advanced.Ended) m = absurd m
    well_advances (Err failed.LogFull) m = absurd m
    well_advances (Err failed.Idle) m = absurd m
    well_advances (Err (failed.Odd wanted found)) m = absurd m
    well_advances (Ok advanced.Mended) m = record {
      moves = at_end (λ f2. (digest_in (slot_at g.table f.relay.stripe f2.relay.target) ≡ Some (digest_of (partial_of f2))) × LogsEntry (Mended job f.relay.stripe f2.relay.target) [] g new)
          (digest ∙ ap (λ b. Some (digest_of b)) is, m.0);
      keeps = m.1.keeps;
      steps = well_step told g job f settled room here next block is digest new (Ok advanced.Mended) m;
      lossless = λ t none. lossless_mended g new (put_at g.shelves.held (serving_at g.table f.relay.stripe f.relay.target) f.relay.stripe (Some block))
          (subst (λ left. LosesByCount (put_at g.shelves.held (serving_at g.table f.relay.stripe f.relay.target) f.relay.stripe left) g.shelves new.shelves) ((m.1.wrote t).1) (m.1.wrote t).2) none
          (λ n k x ln lk live h. untouched told g new.shelves job f block settled room here next (Some block) n k lk live ∙ h)
          job f.relay.stripe f.relay.target block m.0.legal.0.1 (λ n q. refl) m.0.table;
      writes = λ t. at_end (λ f2. WritesInto (serving_at g.table f.relay.stripe f2.relay.target) f.relay.stripe (partial_of f2) (Ok (tt)) g.shelves new.shelves)
          (subst (λ b. WritesInto (serving_at g.table f.relay.stripe f.relay.target) f.relay.stripe b (Ok (tt)) g.shelves new.shelves) is (m.1.wrote t));
    }
    well_advances (Err (failed.Faulted column)) m = record {
      moves = (
        subst (λ k. Rose (g.shelves.faults (serving_at g.table f.relay.stripe k)) (new.shelves.faults (serving_at g.table f.relay.stripe k))) (sym m.0) (m.2.1.cause refl),
        m.1,
        inr (at_end (λ f2. f2.relay.target ≡ column) (sym m.0)),
      );
      keeps = m.2.1.keeps;
      steps = well_step told g job f settled room here next block is digest new (Err (failed.Faulted column)) m;
      lossless = λ t none. lossless_less g new (put_at g.shelves.held (serving_at g.table f.relay.stripe f.relay.target) f.relay.stripe (m.2.1.wrote t).0) (m.2.1.wrote t).2 none
          (λ n k x ln lk live h. untouched told g new.shelves job f block settled room here next (m.2.1.wrote t).0 n k lk live ∙ h)
          (Fault job f.relay.stripe column) tt m.1.table;
      writes = λ t. inr (at_end (λ f2. (e : Failed) × WritesInto (serving_at g.table f.relay.stripe f2.relay.target) f.relay.stripe (partial_of f2) (Err e) g.shelves new.shelves)
          (m.2.0, subst (λ b. WritesInto (serving_at g.table f.relay.stripe f.relay.target) f.relay.stripe b (Err m.2.0) g.shelves new.shelves) is (m.2.1.wrote t)));
    }

-- AN ADVANCE

-- no relay stands where there is no flight
pub idle_none : (told : Type 0) (g : GroupView) (s : ℕ) → IsSettled told g → flight_in g.flights s ≡ None → relay_at g.table s ≡ None
idle_none told g s settled none = relay_of_flight g.table g.flights s settled.relays ∙ ap relay_of none
