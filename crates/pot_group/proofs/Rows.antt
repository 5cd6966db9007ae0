-- What a call of a group made, from what it did: its entries, how the group grew by them, and its
-- row.
use Rattle.std.proofs.Common.{◌≡◌, ◌≢◌, inl, inr, ◌<◌, ◌≤◌, ◌+◌, ◌++◌, ℕ, List, [], ◌∷◌, length, refl, ap, sym, ◌∙◌, subst, arith, append-nil, length-append}
use Rattle.std.proofs.lemmas.List.Elements.{Contains-push_cases}
use Rattle.std.specs.Prelude.{Option, None, Some, IsSomeAnd, Result, Ok, Err, Contains}
use Rattle.pot_bytes.specs.declared.rack.Place.{Place}
use Rattle.pot_bytes.specs.Rack.{log_bound}
use Rattle.pot_outside.specs.Archives.{Meaning}
use Rattle.pot_outside.specs.declared.archive.Shelf.{Shelf}
use Rattle.pot_machine.specs.declared.column.Moving.{Moving}
use Rattle.pot_machine.specs.declared.entry.Entry.{Entry}
use Rattle.pot_machine.specs.declared.entry.Entry.TheVariants as entry
use Rattle.pot_machine.specs.Table.{column_at, next_column}
use Rattle.pot_steps.specs.declared.flight.Flight.{Flight}
use Rattle.pot_steps.specs.Flights.{flight_in}
use Rattle.pot_steps.specs.GroupStep.{PutStep}
use Rattle.pot_steps.specs.RelaySteps.{BeginStep}
use Rattle.pot_group.specs.declared.answers.PutFault.{PutFault}
use Rattle.pot_group.specs.declared.answers.PutFault.TheVariants as fault
use Rattle.pot_group.specs.declared.relaying.Advanced.{Advanced}
use Rattle.pot_group.specs.declared.relaying.Advanced.TheVariants as advanced
use Rattle.pot_group.specs.declared.relaying.AdvanceFault.{AdvanceFault}
use Rattle.pot_group.specs.declared.relaying.AdvanceFault.TheVariants as failed
use Rattle.pot_group.specs.declared.relaying.BeginFault.{BeginFault}
use Rattle.pot_group.specs.declared.relaying.BeginFault.TheVariants as refused
use Rattle.pot_group.specs.declared.copying.MoveStep.{MoveStep}
use Rattle.pot_group.specs.declared.copying.MoveStep.TheVariants as moved
use Rattle.pot_group.specs.declared.copying.MoveFault.{MoveFault}
use Rattle.pot_group.specs.declared.copying.MoveFault.TheVariants as stopped
use Rattle.pot_shelves.specs.Shelves.{Brings, Keeps}
use Rattle.pot_group.specs.Group.{GroupParts, GroupView, LogsOf, put_as, state_of, view_of}
use Rattle.pot_group.specs.Relaying.{LogsEntry, Advances, BeginMeans, Moves, begin_as}
use Rattle.pot_group.specs.Moving.{Comes, MovesOn, StepsMove}
use Rattle.pot_group.specs.Calls.{AdvanceCall, BeginCall, BeginTells, ComesBy, GainsTries, Grows, Made, MoveEntries, MoveStepCall, PutCall, PutTells, PutTries, RelayEntries}
use Rattle.pot_shelves.proofs.ShelfLemmas.{keeps_refl}

-- HOW A GROUP GROWS

-- where no block of a put is kept
pub no_tries : (old new : GroupView) → new.tried ≡ old.tried → GainsTries old new
no_tries old new same = ([], same ∙ sym (append-nil old.tried), λ x h. absurd (omega (arith, h.1)))

pub grows_keeps : (old new : GroupView) (entries : List Entry) → new.number ≡ old.number → new.first ≡ old.first → new.log ≡ old.log ++ entries → GainsTries old new → Keeps old.shelves new.shelves → Grows old new entries
grows_keeps old new entries number first log tried keeps = record {
  number = number;
  first = first;
  log = log;
  tried = tried;
  faults_taken = λ n c. keeps.faults_taken n;
  losses_taken = λ n c. keeps.losses_taken n;
  faults_opened = λ n c. keeps.faults_opened n;
  losses_opened = λ n c. keeps.losses_opened n;
  taken = λ n c. keeps.taken n;
}

pub grows_same : (old new : GroupView) → new ≡ old → Grows old new []
grows_same old new e = subst (λ (v : GroupView). Grows old v []) (sym e) (grows_keeps old old [] refl refl (sym (append-nil old.log)) (no_tries old old refl) (keeps_refl old.shelves))

acts_grow : (e : Entry) (given : List ℕ) (old new : GroupView) → LogsEntry e given old new → Keeps old.shelves new.shelves → Grows old new (e ∷ [])
acts_grow e given old new acts keeps = grows_keeps old new (e ∷ []) acts.number acts.first acts.log (no_tries old new acts.tried) keeps

-- an archive came under a number that none has
brings_grow : (told : Type 0) (to : ℕ) (m : Meaning) (e : Entry) (old new : GroupView) → LogsEntry e [] old new → Brings told to m old.shelves new.shelves
    → (Contains old.shelves.numbers to → ⊥) → Grows old new (e ∷ [])
brings_grow told to m e old new acts brings fresh =
    let other : (n : ℕ) → Contains old.shelves.numbers n → n ≢ to = λ n c q. fresh (subst (λ k. Contains old.shelves.numbers k) q c) in
    record {
      number = acts.number;
      first = acts.first;
      log = acts.log;
      tried = no_tries old new acts.tried;
      faults_taken = λ n c. (brings.same_faults n (other n c)).1;
      losses_taken = λ n c. (brings.same_losses n (other n c)).1;
      faults_opened = λ n c. (brings.same_opened n (other n c)).0;
      losses_opened = λ n c. (brings.same_opened n (other n c)).1;
      taken = λ n c. brings.same_taken n (other n c);
    }

-- A PUT

-- what a put logged, what its answer says, and which block it kept
abbrev pub PutMade : ℕ → List ℕ → Result Place PutFault → GroupView → GroupView → Type 0
PutMade job block result old new = (entries : List Entry) × LogsOf entries old new × PutTells job block result old new entries × PutTries job block result old new entries

put_gains : (job : ℕ) (block : List ℕ) (result : Result Place PutFault) (old new : GroupView) (entries : List Entry) → new.log ≡ old.log ++ entries → PutTries job block result old new entries → GainsTries old new
put_gains job block (Ok place) old new entries log same = no_tries old new same
put_gains job block (Err fault.LogFull) old new entries log same = no_tries old new same
put_gains job block (Err fault.Full) old new entries log same = no_tries old new same
put_gains job block (Err (fault.Faulted column)) old new entries log (inr t) = no_tries old new t.1
put_gains job block (Err (fault.Faulted column)) old new entries log (inl (at, (before, s, is, now))) =
    ((length (old.log ++ before), block) ∷ [], now, λ x h. subst (λ (y : ℕ × List ℕ). (length old.log ≤ y.0) × (y.0 < length new.log)) (only x h) (omega (arith, far), omega (arith, far, long, end)))
  where
    far : length (old.log ++ before) ≡ length old.log + length before
    far = length-append old.log before

    end : length (before ++ entry.Fault job s column ∷ []) ≡ length before + 1
    end = length-append before (entry.Fault job s column ∷ [])

    long : length new.log ≡ length old.log + length (before ++ entry.Fault job s column ∷ [])
    long = ap length log ∙ ap (λ l. length (old.log ++ l)) is ∙ length-append old.log (before ++ entry.Fault job s column ∷ [])

    only : (x : ℕ × List ℕ) → Contains ((length (old.log ++ before), block) ∷ []) x → (length (old.log ++ before), block) ≡ x
    only x h = elim (Contains-push_cases [] (length (old.log ++ before), block) x h) [
      | inl y ↦ absurd (omega (arith, y.1))
      | inr y ↦ y
    ]

pub put_made : (told : Type 0) (job : ℕ) (block : List ℕ) (result : Result Place PutFault) (old new : GroupView) → PutMade job block result old new
    → (length old.log ≡ log_bound → (result ≡ Err fault.LogFull) × (new ≡ old)) → Keeps old.shelves new.shelves
    → (told → PutStep job block (put_as result) (state_of old) (state_of new)) → Made (PutCall told job block result) old new
put_made told job block result old new m full keeps step =
    (m.0, grows_keeps old new m.0 m.1.number m.1.first m.1.log (put_gains job block result old new m.0 m.1.log m.3) keeps, record { logs = m.1; tries = m.3; tells = m.2; full = full; keeps = keeps; step = step })

-- ONE ENTRY

-- an entry that the parts of a flight or of a move name
on_one : {X : Type 0} (o : Option X) (P : X → Type 0) (e : X → Entry) (old new : GroupView)
    → ((x : X) → P x → Grows old new (e x ∷ [])) → IsSomeAnd o P
    → (entries : List Entry) × Grows old new entries × IsSomeAnd o (λ x. entries ≡ e x ∷ [])
on_one None P e old new grow h = absurd h
on_one (Some x) P e old new grow h = (e x ∷ [], grow x h, refl)

-- A RELAY BEGINS

module _ {A : Type 0} (meaning : A → Meaning) (told : Type 0) (job : ℕ) (place : Place) (blind : List ℕ) (old new : GroupParts A) where
  abbrev view : GroupParts A → GroupView
  view g = view_of meaning g

  abbrev Begun : Result (Unit {0}) BeginFault → Type 0
  Begun answer = (entries : List Entry) × Grows (view old) (view new) entries × BeginTells job place.stripe place.column blind answer (view old) (view new) entries

  begun_same : (answer : Result (Unit {0}) BeginFault) → view new ≡ view old → BeginTells job place.stripe place.column blind answer (view old) (view new) [] → Begun answer
  begun_same answer same tells = ([], grows_same (view old) (view new) same, tells)

  begun : (answer : Result (Unit {0}) BeginFault) → BeginMeans job place.stripe place.column blind answer old new → Begun answer
  begun (Ok u) m =
      let e = entry.Begin job place.stripe place.column in
      let shelves = ap (λ (g : GroupParts A). (view g).shelves) m.2 in
      let acts : LogsEntry e blind (view old) (view new) =
      subst (λ (g : GroupParts A). LogsEntry e blind (view old) (view g)) (sym m.2) (record { number = refl; first = refl; legal = m.1; table = refl; log = refl; flights = refl; blinds = refl; tried = refl }) in
      (e ∷ [], acts_grow e blind (view old) (view new) acts (subst (λ s. Keeps (view old).shelves s) (sym shelves) (keeps_refl (view old).shelves)), (refl, m.0, acts, shelves))
  begun (Err (refused.TwoGone first second)) m =
      let e = entry.Stuck job place.stripe place.column second in
      let shelves = ap (λ (g : GroupParts A). (view g).shelves) m.3 in
      let acts : LogsEntry e [] (view old) (view new) =
      subst (λ (g : GroupParts A). LogsEntry e [] (view old) (view g)) (sym m.3) (record { number = refl; first = refl; legal = m.2; table = refl; log = refl; flights = refl; blinds = refl; tried = refl }) in
      (e ∷ [], acts_grow e [] (view old) (view new) acts (subst (λ s. Keeps (view old).shelves s) (sym shelves) (keeps_refl (view old).shelves)), (refl, m.0, m.1, acts, shelves))
  begun (Err refused.LogFull) m = (let same = ap view m.0 in begun_same (Err refused.LogFull) same (refl, same, m.1))
  begun (Err refused.Whole) m = (let same = ap view m.1 in begun_same (Err refused.Whole) same (refl, same, m.0, m.2))
  begun (Err (refused.Standing column)) m = (let same = ap view m.1 in begun_same (Err (refused.Standing column)) same (refl, same, m.0, m.2, m.3))
  begun (Err refused.Crowded) m = (let same = ap view m.1 in begun_same (Err refused.Crowded) same (refl, same, m.0, m.2, m.3, m.4, m.5))

  pub begin_made : (answer : Result (Unit {0}) BeginFault) → BeginMeans job place.stripe place.column blind answer old new
      → (told → BeginStep job place.stripe place.column blind (begin_as answer) (state_of (view old)) (state_of (view new)))
      → Made (BeginCall told job place blind answer) (view old) (view new)
  begin_made answer means step = (let b = begun answer means in (b.0, b.1, record { tells = b.2; step = step }))

-- A STEP OF A RELAY

module _ (told : Type 0) (job s : ℕ) (old new : GroupView) where
  module _ (keeps : Keeps old.shelves new.shelves) where
    on_way : (P : Flight → ℕ → Type 0) (e : Flight → ℕ → Entry) → ((f : Flight) (c : ℕ) → P f c → Grows old new (e f c ∷ [])) → (o : Option Flight)
        → IsSomeAnd o (λ f. IsSomeAnd (next_column old.table f.relay) (P f))
        → (entries : List Entry) × Grows old new entries × IsSomeAnd o (λ f. IsSomeAnd (next_column old.table f.relay) (λ c. entries ≡ e f c ∷ []))
    on_way P e grow None h = absurd h
    on_way P e grow (Some f) h = on_one (next_column old.table f.relay) (P f) (e f) old new (grow f) h

    at_end : (P : Flight → Type 0) (e : Flight → Entry) → ((f : Flight) → P f → Grows old new (e f ∷ [])) → (o : Option Flight)
        → IsSomeAnd o (λ f. (next_column old.table f.relay ≡ None) × P f)
        → (entries : List Entry) × Grows old new entries × IsSomeAnd o (λ f. (next_column old.table f.relay ≡ None) × (entries ≡ e f ∷ []))
    at_end P e grow None h = absurd h
    at_end P e grow (Some f) h = (e f ∷ [], grow f h.1, (h.0, refl))

    relayed : (result : Result Advanced AdvanceFault) → Moves job s result old new → (entries : List Entry) × Grows old new entries × RelayEntries job s result old entries
    relayed (Ok advanced.Hopped) m = on_way _ (λ f c. entry.Hop job s c) (λ f c p. acts_grow _ p.0 old new p.3 keeps) (flight_in old.flights s) m
    relayed (Ok advanced.Ended) m = on_way _ (λ f c. entry.GaveUp job s f.relay.target c) (λ f c p. acts_grow _ [] old new p keeps) (flight_in old.flights s) m
    relayed (Ok advanced.Mended) m = at_end _ (λ f. entry.Mended job s f.relay.target) (λ f p. acts_grow _ [] old new p.1 keeps) (flight_in old.flights s) m
    relayed (Err (failed.Odd wanted found)) m = at_end _ (λ f. entry.Oddly job s f.relay.target found) (λ f p. acts_grow _ [] old new p.3 keeps) (flight_in old.flights s) m
    relayed (Err (failed.Faulted column)) m = (entry.Fault job s column ∷ [], acts_grow _ [] old new m.1 keeps, refl)
    relayed (Err failed.LogFull) m = absurd m
    relayed (Err failed.Idle) m = absurd m

  pub advance_made : (result : Result Advanced AdvanceFault) → length old.log < log_bound → Advances told job s result old new → Made (AdvanceCall told job s result) old new
  advance_made (Ok advanced.Hopped) room a =
      (let r = relayed a.keeps (Ok advanced.Hopped) a.moves in (r.0, r.1, record { tells = (room, a.moves, r.2); keeps = a.keeps; step = a.steps; lossless = a.lossless; writes = a.writes }))
  advance_made (Ok advanced.Ended) room a =
      (let r = relayed a.keeps (Ok advanced.Ended) a.moves in (r.0, r.1, record { tells = (room, a.moves, r.2); keeps = a.keeps; step = a.steps; lossless = a.lossless; writes = a.writes }))
  advance_made (Ok advanced.Mended) room a =
      (let r = relayed a.keeps (Ok advanced.Mended) a.moves in (r.0, r.1, record { tells = (room, a.moves, r.2); keeps = a.keeps; step = a.steps; lossless = a.lossless; writes = a.writes }))
  advance_made (Err (failed.Odd wanted found)) room a =
      (let r = relayed a.keeps (Err (failed.Odd wanted found)) a.moves in (r.0, r.1, record { tells = (room, a.moves, r.2); keeps = a.keeps; step = a.steps; lossless = a.lossless; writes = a.writes }))
  advance_made (Err (failed.Faulted column)) room a =
      (let r = relayed a.keeps (Err (failed.Faulted column)) a.moves in (r.0, r.1, record { tells = (room, a.moves, r.2); keeps = a.keeps; step = a.steps; lossless = a.lossless; writes = a.writes }))
  advance_made (Err failed.LogFull) room a = absurd a.moves
  advance_made (Err failed.Idle) room a = absurd a.moves

-- A STEP OF A MOVE

last_acts : (o : Option Moving) (P : Moving → Type 0) (B : Type 0) → IsSomeAnd o (λ n. P n × B) → B
last_acts None P B h = absurd h
last_acts (Some n) P B h = h.1

module _ (told : Type 0) (job c : ℕ) (old new : GroupView) where
  moved_on : Keeps old.shelves new.shelves → (answer : Result MoveStep MoveFault) → MovesOn job c answer old new
      → (entries : List Entry) × Grows old new entries × MoveEntries job c answer old entries
  moved_on keeps (Ok moved.Copied) m =
      on_one (column_at old.table c).moving _ (λ (n : Moving). entry.Moved job n.upto c _) old new (λ n p. acts_grow _ [] old new p.2 keeps) m
  moved_on keeps (Ok moved.Passed) m =
      on_one (column_at old.table c).moving _ (λ (n : Moving). entry.Moved job n.upto c _) old new (λ n p. acts_grow _ [] old new p.1 keeps) m
  moved_on keeps (Ok moved.Ended) m = (entry.MoveEnd job c ∷ [], acts_grow (entry.MoveEnd job c) [] old new (last_acts (column_at old.table c).moving _ _ m) keeps, refl)
  moved_on keeps (Err (stopped.Faulted column)) m =
      on_one (column_at old.table c).moving _ (λ (n : Moving). entry.Fault job n.upto c) old new (λ n p. acts_grow _ [] old new p.3 keeps) m.1
  moved_on keeps (Err stopped.LogFull) m = absurd m
  moved_on keeps (Err stopped.Idle) m = absurd m

  pub move_made : (answer : Result MoveStep MoveFault) → length old.log < log_bound → StepsMove told job c answer old new → Made (MoveStepCall told job c answer) old new
  move_made (Ok moved.Copied) room a =
      (let r = moved_on a.keeps (Ok moved.Copied) a.moves in (r.0, r.1, record { tells = (room, a.moves, r.2); keeps = a.keeps; step = a.steps; writes = a.writes }))
  move_made (Ok moved.Passed) room a =
      (let r = moved_on a.keeps (Ok moved.Passed) a.moves in (r.0, r.1, record { tells = (room, a.moves, r.2); keeps = a.keeps; step = a.steps; writes = a.writes }))
  move_made (Ok moved.Ended) room a =
      (let r = moved_on a.keeps (Ok moved.Ended) a.moves in (r.0, r.1, record { tells = (room, a.moves, r.2); keeps = a.keeps; step = a.steps; writes = a.writes }))
  move_made (Err (stopped.Faulted column)) room a =
      (let r = moved_on a.keeps (Err (stopped.Faulted column)) a.moves in (r.0, r.1, record { tells = (room, a.moves, r.2); keeps = a.keeps; step = a.steps; writes = a.writes }))
  move_made (Err stopped.LogFull) room a = absurd a.moves
  move_made (Err stopped.Idle) room a = absurd a.moves

-- AN ARCHIVE COMES

pub comes_made : {A : Type 0} (meaning : A → Meaning) (told : Type 0) (shelf : Shelf A) (old new : GroupView) (e : Entry) → Comes told meaning e shelf old new
    → Made (ComesBy told meaning e shelf) old new
comes_made meaning told shelf old new e comes = (
  e ∷ [],
  brings_grow told shelf.number (meaning shelf.archive) e old new comes.acts comes.brings comes.fresh,
  record { entries_are = refl; comes = comes },
)
