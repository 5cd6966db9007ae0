-- The blinds of a group over a call, and the blocks of puts whose write failed: a mend that began a
-- relay adds its own blind, and such a put its own block; no other call adds one.
use Rattle.std.proofs.Common.{◌≡◌, ◌≢◌, ◌⊎◌, inl, inr, ◌<◌, IsTrue, true, false, ℕ, zero, suc, List, [], ◌∷◌, ◌++◌, ◌+◌, Option, Some, None, Result, Ok, Err, length, refl, sym, ap, ◌∙◌, subst, arith, append-nil, append_assoc}
use Rattle.std.specs.Prelude.{IsSomeAnd, Contains, slice_get}
use Rattle.std.proofs.lemmas.List.Elements.{Contains-append_left, Contains-append_right, Contains-push_cases}
use Rattle.pot_bytes.specs.declared.rack.Place.{Place}
use Rattle.pot_bytes.specs.Digests.{digest_of}
use Rattle.pot_machine.specs.declared.column.Moving.{Moving}
use Rattle.pot_machine.specs.declared.entry.Entry.{Entry}
use Rattle.pot_machine.specs.declared.entry.Entry.TheVariants as entry
use Rattle.pot_machine.specs.Slot.{digest_in, is_live}
use Rattle.pot_machine.specs.Table.{column_at, next_column, serving_at, slot_at}
use Rattle.pot_steps.specs.declared.flight.Flight.{Flight}
use Rattle.pot_steps.specs.Flight.{partial_of, unfolded, weight_in}
use Rattle.pot_steps.specs.Flights.{flight_in}
use Rattle.pot_group.specs.declared.copying.MoveStep.{MoveStep}
use Rattle.pot_group.specs.declared.copying.MoveStep.TheVariants as moved
use Rattle.pot_group.specs.declared.copying.MoveFault.{MoveFault}
use Rattle.pot_group.specs.declared.copying.MoveFault.TheVariants as stopped
use Rattle.pot_group.specs.declared.relaying.Advanced.{Advanced}
use Rattle.pot_group.specs.declared.relaying.Advanced.TheVariants as advanced
use Rattle.pot_group.specs.declared.relaying.AdvanceFault.{AdvanceFault}
use Rattle.pot_group.specs.declared.relaying.AdvanceFault.TheVariants as failed
use Rattle.pot_group.specs.declared.relaying.Mend.{Mend}
use Rattle.pot_group.specs.declared.relaying.Mend.TheVariants as mend
use Rattle.pot_group.specs.declared.answers.PutFault.{PutFault}
use Rattle.pot_group.specs.declared.answers.PutFault.TheVariants as fault
use Rattle.pot_group.specs.Calls.{MendTells, MoveTells, PutCall, PutTries}
use Rattle.pot_group.specs.Frames.{Tries}
use Rattle.pot_group.specs.Group.{GroupView, LogsOf, put_as}
use Rattle.pot_group.specs.Moving.{FaultRose, OnMove, move_as}
use Rattle.pot_group.specs.Relaying.{LogsEntry, AtEnd, Moves, OnWay, mend_as}
use Rattle.pot_group.specs.Sweeping.{Look, LooksOn}
use Rattle.pot_steps.specs.GroupStep.{NotPut}
use Rattle.pot_steps.specs.RelaySteps.{Began}
use Rattle.pot_execution.specs.Execution.{Call, WasTried, blind_of, blinds_of}
use Rattle.pot_execution.specs.Execution as call

pub blinds_more : (cs : List Call) (c : Call) → blinds_of (cs ++ c ∷ []) ≡ blinds_of cs ++ blind_of c
blinds_more [] c = append-nil (blind_of c)
blinds_more (x ∷ xs) c = ap (λ l. blind_of x ++ l) (blinds_more xs c) ∙ sym (append_assoc (blind_of x) (blinds_of xs) (blind_of c))

-- both lists are as they were
abbrev pub SameLists : GroupView → GroupView → Type 0
SameLists old new = (new.blinds ≡ old.blinds) × (new.tried ≡ old.tried)

-- what a call adds to both
pub record Adds (c : Call) (old new : GroupView) : Type 0 where
  pub blinds : new.blinds ≡ old.blinds ++ blind_of c
  pub tried : (x : ℕ × List ℕ) → Contains new.tried x → Contains old.tried x ⊎ WasTried (c ∷ []) new.log x

still_tried : (c : Call) (old new : GroupView) → new.tried ≡ old.tried → (x : ℕ × List ℕ) → Contains new.tried x → Contains old.tried x ⊎ WasTried (c ∷ []) new.log x
still_tried c old new same x h = inl (subst (λ (l : Tries). Contains l x) same h)

-- a call that adds none
pub none_added : {c : Call} (old new : GroupView) → blind_of c ≡ [] → SameLists old new → Adds c old new
none_added {c} old new none same = record {
  blinds = same.0 ∙ sym (ap (λ l. old.blinds ++ l) none ∙ append-nil old.blinds);
  tried = still_tried c old new same.1;
}

get_front : {X : Type 0} (xs ys : List X) (k : ℕ) (x : X) → slice_get xs k ≡ Some x → slice_get (xs ++ ys) k ≡ Some x
get_front [] ys k x at = absurd (cc at)
get_front (y ∷ xs) ys zero x at = at
get_front (y ∷ xs) ys (suc k) x at = get_front xs ys k x at

get_last : {X : Type 0} (xs : List X) (x : X) → slice_get (xs ++ x ∷ []) (length xs) ≡ Some x
get_last [] x = refl
get_last (y ∷ xs) x = get_last xs x

-- what was tried in calls is there after one more
pub tried_in : (cs ds : List Call) (log more : List Entry) (x : ℕ × List ℕ) → ((c : Call) → Contains cs c → Contains ds c) → WasTried cs log x → WasTried ds (log ++ more) x
tried_in cs ds log more x are w = (w.0, w.1, w.2, are (call.Put w.0 x.1 (NotPut w.2)) w.3, get_front log more x.0 (entry.Fault w.0 w.1 w.2) w.4)

pub tried_more : (cs : List Call) (c : Call) (log more : List Entry) (x : ℕ × List ℕ) → WasTried cs log x → WasTried (cs ++ c ∷ []) (log ++ more) x
tried_more cs c log more x w = tried_in cs (cs ++ c ∷ []) log more x (λ d h. Contains-append_left cs (c ∷ []) d h) w

pub tried_last : (cs : List Call) (c : Call) (log : List Entry) (x : ℕ × List ℕ) → WasTried (c ∷ []) log x → WasTried (cs ++ c ∷ []) log x
tried_last cs c log x w = (w.0, w.1, w.2, Contains-append_right cs (c ∷ []) (call.Put w.0 x.1 (NotPut w.2)) w.3, w.4)

-- A PUT

put_tried : (job : ℕ) (block : List ℕ) (result : Result Place PutFault) (old new : GroupView) (entries : List Entry) → LogsOf entries old new → PutTries job block result old new entries
    → (x : ℕ × List ℕ) → Contains new.tried x → Contains old.tried x ⊎ WasTried (call.Put job block (put_as result) ∷ []) new.log x
put_tried job block (Ok place) old new entries logs same x h = inl (subst (λ (l : Tries). Contains l x) same h)
put_tried job block (Err fault.LogFull) old new entries logs same x h = inl (subst (λ (l : Tries). Contains l x) same h)
put_tried job block (Err fault.Full) old new entries logs same x h = inl (subst (λ (l : Tries). Contains l x) same h)
put_tried job block (Err (fault.Faulted column)) old new entries logs (inr (far, same)) x h = inl (subst (λ (l : Tries). Contains l x) same h)
put_tried job block (Err (fault.Faulted column)) old new entries logs (inl (at, (before, s, is, now))) x h =
    elim (Contains-push_cases old.tried (length (old.log ++ before), block) x (subst (λ (l : Tries). Contains l x) now h)) [
      | inl y ↦ inl y
      | inr y ↦ inr (subst (λ z. WasTried (call.Put job block (NotPut column) ∷ []) new.log z) y
          (job, s, column, (0, omega arith, refl), here))
    ]
  where
    log_is : new.log ≡ (old.log ++ before) ++ entry.Fault job s column ∷ []
    log_is = logs.log ∙ ap (λ l. old.log ++ l) is ∙ sym (append_assoc old.log before (entry.Fault job s column ∷ []))

    here : slice_get new.log (length (old.log ++ before)) ≡ Some (entry.Fault job s column)
    here = ap (λ l. slice_get l (length (old.log ++ before))) log_is ∙ get_last (old.log ++ before) (entry.Fault job s column)

pub put_adds : (told : Type 0) (job : ℕ) (block : List ℕ) (result : Result Place PutFault) (old new : GroupView) (entries : List Entry) → PutCall told job block result old new entries
    → Adds (call.Put job block (put_as result)) old new
put_adds told job block result old new entries p = record {
  blinds = p.logs.blinds ∙ sym (append-nil old.blinds);
  tried = put_tried job block result old new entries p.logs p.tries;
}

-- A MEND

some_and : {X : Type 0} (o : Option X) (P : X → Type 0) (Q : Type 0) → IsSomeAnd o P → ((x : X) → P x → Q) → Q
some_and None P Q h f = absurd h
some_and (Some x) P Q h f = f x h

on_way : (g : GroupView) (s : ℕ) (P : Flight → ℕ → Type 0) (Q : Type 0) → OnWay g s P → ((f : Flight) (c : ℕ) → P f c → Q) → Q
on_way g s P Q h f = some_and (flight_in g.flights s) (λ x. IsSomeAnd (next_column g.table x.relay) (P x)) Q h (λ x k. some_and (next_column g.table x.relay) (P x) Q k (f x))

at_end : (g : GroupView) (s : ℕ) (P : Flight → Type 0) (Q : Type 0) → AtEnd g s P → ((f : Flight) → P f → Q) → Q
at_end g s P Q h f = some_and (flight_in g.flights s) (λ x. (next_column g.table x.relay ≡ None) × P x) Q h (λ x k. f x k.1)

-- an advance
advance_keeps : (job s : ℕ) (result : Result Advanced AdvanceFault) (old new : GroupView) → Moves job s result old new → SameLists old new
advance_keeps job s (Ok advanced.Hopped) old new h =
    on_way old s (λ f c. (sum : List ℕ) × IsTrue (is_live (slot_at old.table s c))
    × (digest_in (slot_at old.table s c) ≡ Some (digest_of (unfolded (weight_in old.table.data_columns f.relay c) f.sum sum)))
    × LogsEntry (entry.Hop job s c) sum old new) (SameLists old new) h (λ f c m. (m.3.blinds, m.3.tried))
advance_keeps job s (Ok advanced.Ended) old new h = on_way old s (λ f c. LogsEntry (entry.GaveUp job s f.relay.target c) [] old new) (SameLists old new) h (λ f c m. (m.blinds, m.tried))
advance_keeps job s (Ok advanced.Mended) old new h =
    at_end old s (λ f. (digest_in (slot_at old.table s f.relay.target) ≡ Some (digest_of (partial_of f))) × LogsEntry (entry.Mended job s f.relay.target) [] old new)
    (SameLists old new) h (λ f m. (m.1.blinds, m.1.tried))
advance_keeps job s (Err (failed.Odd wanted found)) old new h =
    at_end old s (λ f. (digest_in (slot_at old.table s f.relay.target) ≡ Some wanted) × (found ≡ digest_of (partial_of f)) × (wanted ≢ found) × LogsEntry (entry.Oddly job s f.relay.target found) [] old new)
    (SameLists old new) h (λ f m. (m.3.blinds, m.3.tried))
advance_keeps job s (Err (failed.Faulted column)) old new h = (h.1.blinds, h.1.tried)
advance_keeps job s (Err failed.LogFull) old new h = absurd h
advance_keeps job s (Err failed.Idle) old new h = absurd h

same_view : (old new : GroupView) → new ≡ old → SameLists old new
same_view old new e = (ap (λ (w : GroupView). w.blinds) e, ap (λ (w : GroupView). w.tried) e)

-- a mend
module _ (job s c : ℕ) (blind : List ℕ) (old new : GroupView) (entries : List Entry) where
  pub mend_adds : (result : Mend) → MendTells job s c blind result old new entries → Adds (call.Mend job s c blind (mend_as result)) old new
  mend_adds mend.Whole t = none_added old new refl (same_view old new t.1)
  mend_adds mend.LogFull t = none_added old new refl (same_view old new t.1)
  mend_adds mend.Began t = record { blinds = t.2.blinds; tried = still_tried (call.Mend job s c blind Began) old new t.2.tried }
  mend_adds (mend.TwoGone first second) t = none_added old new refl (t.3.blinds, t.3.tried)
  mend_adds mend.Extends t = none_added old new refl (advance_keeps job t.1.0.stripe t.1.0.result old new t.1.0.moves)
  mend_adds mend.Mended t = none_added old new refl (advance_keeps job t.1.0.stripe t.1.0.result old new t.1.0.moves)
  mend_adds mend.Passed t = none_added old new refl (advance_keeps job t.1.0.stripe t.1.0.result old new t.1.0.moves)
  mend_adds (mend.Odd wanted found) t = none_added old new refl (advance_keeps job t.1.0.stripe t.1.0.result old new t.1.0.moves)
  mend_adds (mend.Faulted column) t = none_added old new refl (advance_keeps job t.1.0.stripe t.1.0.result old new t.1.0.moves)

on_move : (g : GroupView) (c : ℕ) (P : Moving → Type 0) (Q : Type 0) → OnMove g c P → ((m : Moving) → P m → Q) → Q
on_move g c P Q h f = some_and (column_at g.table c).moving P Q h f

-- a step of a move
pub move_adds : (job c : ℕ) (result : Result MoveStep MoveFault) (old new : GroupView) (entries : List Entry) → MoveTells job c result old new entries → Adds (call.MoveOne job c (move_as result)) old new
move_adds job c (Ok moved.Copied) old new entries t = none_added old new refl
    (on_move old c (λ m. (m.upto < old.table.stripes) × IsTrue (is_live (slot_at old.table m.upto c)) × LogsEntry (entry.Moved job m.upto c true) [] old new) (SameLists old new) t.1 (λ m h. (h.2.blinds, h.2.tried)))
move_adds job c (Ok moved.Passed) old new entries t = none_added old new refl
    (on_move old c (λ m. (m.upto < old.table.stripes) × LogsEntry (entry.Moved job m.upto c false) [] old new) (SameLists old new) t.1 (λ m h. (h.1.blinds, h.1.tried)))
move_adds job c (Ok moved.Ended) old new entries t = none_added old new refl
    (on_move old c (λ m. (m.upto ≡ old.table.stripes) × LogsEntry (entry.MoveEnd job c) [] old new) (SameLists old new) t.1 (λ m h. (h.1.blinds, h.1.tried)))
move_adds job c (Err (stopped.Faulted column)) old new entries t = none_added old new refl
    (on_move old c (λ m. (m.upto < old.table.stripes) × IsTrue (is_live (slot_at old.table m.upto c))
    × (FaultRose old new (serving_at old.table m.upto c) ⊎ FaultRose old new m.to)
    × LogsEntry (entry.Fault job m.upto c) [] old new) (SameLists old new) t.1.1 (λ m h. (h.3.blinds, h.3.tried)))
move_adds job c (Err stopped.LogFull) old new entries t = none_added old new refl (same_view old new t.1)
move_adds job c (Err stopped.Idle) old new entries t = none_added old new refl (same_view old new t.1)

-- looks in a row
pub look_keeps : (told : Type 0) (job s c : ℕ) (looks : List Look) (old new : GroupView) (entries : List Entry) → LooksOn told job s c looks old new entries → SameLists old new
look_keeps told job s c [] old new entries goes = same_view old new goes.1
look_keeps told job s c ((p, answer) ∷ rest) old new entries goes =
    (let rest_keeps = look_keeps told job p.stripe (p.column + 1) rest goes.1 new goes.3 goes.6 in (rest_keeps.0 ∙ goes.5.logs.blinds, rest_keeps.1 ∙ goes.5.logs.tried))
