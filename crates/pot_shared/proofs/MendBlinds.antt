-- What one step of a mend logs, and the blind of the relay that it began.
use Rattle.std.proofs.Common.{◌≡◌, ◌<◌, ◌+◌, ◌⊎◌, inl, inr, ℕ, suc, true, false, List, [], ◌∷◌, ◌++◌, length, drop, refl, ap, ap₂, sym, ◌∙◌, subst, arith, append-nil}
use Rattle.std.specs.Prelude.{Option, None, Some, IsSomeAnd, Result, Ok, Err, filter}
use Rattle.std.proofs.Math.Seq.{drop-append_seam}
use Rattle.std.proofs.lemmas.Bool.{eq-eqb}
use Rattle.pot_bytes.specs.declared.rack.Place.{Place}
use Rattle.pot_machine.specs.declared.entry.Entry.{Entry}
use Rattle.pot_machine.specs.declared.entry.Entry.TheVariants as entry
use Rattle.pot_machine.specs.Logs.{is_of}
use Rattle.pot_machine.specs.Table.{next_column}
use Rattle.pot_steps.specs.declared.flight.Flight.{Flight}
use Rattle.pot_steps.specs.Flights.{flight_in}
use Rattle.pot_group.specs.declared.relaying.Advanced.{Advanced}
use Rattle.pot_group.specs.declared.relaying.Advanced.TheVariants as advanced
use Rattle.pot_group.specs.declared.relaying.AdvanceFault.{AdvanceFault}
use Rattle.pot_group.specs.declared.relaying.AdvanceFault.TheVariants as failed
use Rattle.pot_group.specs.declared.relaying.Mend.{Mend}
use Rattle.pot_group.specs.declared.relaying.Mend.TheVariants as mend
use Rattle.pot_group.specs.Calls.{MendCall, RelayEntries}
use Rattle.pot_group.specs.Group.{GroupView}
use Rattle.pot_pads.specs.Pads.{Pads}
use Rattle.pot_worked.specs.Laws.{AllOf}
use Rattle.pot_rows.specs.Rows.{view_at}
use Rattle.pot_rows.specs.Works.{AllIdle, RowWroteOnlyFor, RowOnlyWriterOf}
use Rattle.pot_shared.specs.Members.{all_logged}
use Rattle.pot_shared.specs.Ready.{GroupPass, GroupPasses}
use Rattle.pot_shared.specs.Calls.{CallAt, CallTurn, marked}
use Rattle.pot_shared.specs.Blinds.{is_begin}
use Rattle.pot_shared.specs.MendCalls.{GoesOn, begins, blind_at, stretches}
use Rattle.pot_shared.specs.Works.{blinds_by, blinds_in, of_job}
use Rattle.pot_shared.proofs.DrawLemmas.{no_blinds, stretches_more}
use Rattle.pot_shared.proofs.MemberLemmas.{entries_all}
use Rattle.pot_shared.proofs.WorkLemmas.{all_none, all_one, group_work, its_own}

-- THE ENTRY OF A STEP

-- The step of a relay logs one entry, which is the job's and begins none: what holds of such lists
-- holds of what it logged.
module _ (job : ℕ) (P : List Entry → Type 0) (one : (e : Entry) → is_of job e ≡ true → is_begin e ≡ false → P (e ∷ [])) where
  its : is_of job (entry.Counted job) ≡ true
  its = eq-eqb job job refl

  any_of : {X : Type 0} (o : Option X) (e : X → Entry) (entries : List Entry) → ((x : X) → P (e x ∷ [])) → IsSomeAnd o (λ x. entries ≡ e x ∷ []) → P entries
  any_of None e entries p h = absurd h
  any_of (Some x) e entries p h = subst P (sym h) (p x)

  any_way : (o : Option Flight) (next : Flight → Option ℕ) (e : Flight → ℕ → Entry) (entries : List Entry) → ((f : Flight) (c : ℕ) → P (e f c ∷ []))
      → IsSomeAnd o (λ f. IsSomeAnd (next f) (λ c. entries ≡ e f c ∷ [])) → P entries
  any_way None next e entries p h = absurd h
  any_way (Some f) next e entries p h = any_of (next f) (e f) entries (p f) h

  any_end : (o : Option Flight) (Q : Flight → Type 0) (e : Flight → Entry) (entries : List Entry) → ((f : Flight) → P (e f ∷ []))
      → IsSomeAnd o (λ f. Q f × (entries ≡ e f ∷ [])) → P entries
  any_end None Q e entries p h = absurd h
  any_end (Some f) Q e entries p h = subst P (sym h.1) (p f)

  pub relay_any : (s : ℕ) (result : Result Advanced AdvanceFault) (old : GroupView) (entries : List Entry) → RelayEntries job s result old entries → P entries
  relay_any s (Ok advanced.Hopped) old entries h =
      any_way (flight_in old.flights s) (λ f. next_column old.table f.relay) (λ f c. entry.Hop job s c) entries (λ f c. one (entry.Hop job s c) its refl) h
  relay_any s (Ok advanced.Ended) old entries h =
      any_way (flight_in old.flights s) (λ f. next_column old.table f.relay) (λ f c. entry.GaveUp job s f.relay.target c) entries (λ f c. one (entry.GaveUp job s f.relay.target c) its refl) h
  relay_any s (Ok advanced.Mended) old entries h =
      any_end (flight_in old.flights s) (λ f. next_column old.table f.relay ≡ None) (λ f. entry.Mended job s f.relay.target) entries (λ f. one (entry.Mended job s f.relay.target) its refl) h
  relay_any s (Err (failed.Odd wanted found)) old entries h =
      any_end (flight_in old.flights s) (λ f. next_column old.table f.relay ≡ None) (λ f. entry.Oddly job s f.relay.target found) entries
      (λ f. one (entry.Oddly job s f.relay.target found) its refl) h
  relay_any s (Err (failed.Faulted column)) old entries h = subst P (sym h) (one (entry.Fault job s column) its refl)
  relay_any s (Err failed.LogFull) old entries h = absurd h
  relay_any s (Err failed.Idle) old entries h = absurd h

  -- and so of a step that began no relay, if it holds of no entry
  mend_any : P [] → (told : Type 0) (place : Place) (blind : List ℕ) (answer : Mend) (old new : GroupView) (entries : List Entry) → begins answer ≡ 0
      → MendCall told job place blind answer old new entries → P entries
  mend_any none told place blind mend.Whole old new entries not call = subst P (sym call.tells.0) none
  mend_any none told place blind mend.LogFull old new entries not call = subst P (sym call.tells.0) none
  mend_any none told place blind mend.Began old new entries not call = absurd (let z : 1 ≡ 0 = not in omega (arith, z))
  mend_any none told place blind (mend.TwoGone first second) old new entries not call =
      subst P (sym call.tells.0) (one (entry.Stuck job place.stripe place.column second) its refl)
  mend_any none told place blind mend.Extends old new entries not call = let d = call.tells.1 in relay_any d.0.stripe d.0.result old entries d.1
  mend_any none told place blind mend.Mended old new entries not call = let d = call.tells.1 in relay_any d.0.stripe d.0.result old entries d.1
  mend_any none told place blind mend.Passed old new entries not call = let d = call.tells.1 in relay_any d.0.stripe d.0.result old entries d.1
  mend_any none told place blind (mend.Odd wanted found) old new entries not call = let d = call.tells.1 in relay_any d.0.stripe d.0.result old entries d.1
  mend_any none told place blind (mend.Faulted column) old new entries not call = let d = call.tells.1 in relay_any d.0.stripe d.0.result old entries d.1

-- a step began a relay, or it did not
abbrev DidBegin : Mend → Type 0
DidBegin answer = (answer ≡ mend.Began) ⊎ (begins answer ≡ 0)

did_begin : (answer : Mend) → DidBegin answer
did_begin mend.Began = inl refl
did_begin _ = inr refl

-- ITS BLIND

-- the blind, if the step began a relay
abbrev pub given : Mend → List ℕ → List (List ℕ)
given mend.Began blind = blind ∷ []
given _ blind = []

given_none : (answer : Mend) (blind : List ℕ) → begins answer ≡ 0 → given answer blind ≡ []
given_none mend.Began blind not = absurd (let z : 1 ≡ 0 = not in omega (arith, z))
given_none _ blind not = refl

pub given_more : (answer : Mend) (pads : Pads) (n : ℕ) (blind : List ℕ) → blind ≡ blind_at pads n → stretches pads n ++ given answer blind ≡ stretches pads (n + begins answer)
given_more answer pads n blind is = elim (did_begin answer) [
  | inl began ↦ (
      let one : n + 1 ≡ suc n = omega arith in
      ap (λ a. stretches pads n ++ given a blind) began
      ∙ (ap (λ b. stretches pads n ++ b ∷ []) is ∙ (sym (stretches_more pads n) ∙ (ap (stretches pads) (sym one) ∙ ap (λ a. stretches pads (n + begins a)) (sym began)))))
  | inr not ↦ (
      let same : n ≡ n + begins answer = omega (arith, not) in
      ap (λ w. stretches pads n ++ w) (given_none answer blind not) ∙ (append-nil (stretches pads n) ∙ ap (stretches pads) same))
]

pub none_begun : (answer : Mend) (n : ℕ) → (GoesOn answer → ⊥) → n + begins answer ≡ n
none_begun answer n ends = elim (did_begin answer) [
  | inl began ↦ absurd (ends (subst GoesOn (sym began) tt))
  | inr not ↦ omega (arith, not)
]

module _ (told : Type 0) (job : ℕ) (place : Place) (blind : List ℕ) where
  abbrev Row : Mend → GroupView → GroupView → List Entry → Type 0
  Row answer = MendCall told job place blind answer

  all_its : (answer : Mend) (old new : GroupView) (entries : List Entry) → Row answer old new entries → AllOf (is_of job) entries
  all_its answer old new entries call = elim (did_begin answer) [
    | inl began ↦ (
        let there : Row mend.Began old new entries = subst (λ a. Row a old new entries) began call in
        subst (λ es. AllOf (is_of job) es) (sym there.tells.0) (all_one (is_of job) (entry.Begin job place.stripe place.column) (eq-eqb job job refl)))
    | inr not ↦ mend_any job (λ es. AllOf (is_of job) es) (λ e own no. all_one (is_of job) e own) (all_none (is_of job)) told place blind answer old new entries not call
  ]

  -- what passes see of its entries has the blind that was handed in
  began_blind : (v w : GroupPass) (t : CallTurn told (Row mend.Began) v w) → blinds_in (marked t) ≡ blind ∷ []
  began_blind v w t =
      let began = t.call.tells.2.blinds in
      let more : t.more ≡ blind ∷ [] = sym (drop-append_seam t.old.blinds t.more) ∙ (ap (drop (length t.old.blinds)) (sym t.blinds ∙ began) ∙ drop-append_seam t.old.blinds (blind ∷ [])) in
      ap₂ (λ (bs : List (List ℕ)) (es : List Entry). blinds_in (all_logged t.new.shelves bs es)) more t.call.tells.0

  other_blind : (answer : Mend) (v w : GroupPass) (t : CallTurn told (Row answer) v w) → begins answer ≡ 0 → blinds_in (marked t) ≡ []
  other_blind answer v w t not =
      no_blinds (marked t) (ap (filter is_begin) (entries_all t.new.shelves t.more t.entries)
      ∙ mend_any job (λ es. filter is_begin es ≡ []) (λ e own no. rw no refl) refl told place blind answer t.old t.new t.entries not t.call)

  turn_blind : (answer : Mend) (v w : GroupPass) (t : CallTurn told (Row answer) v w) → blinds_in (marked t) ≡ given answer blind
  turn_blind mend.Began v w t = began_blind v w t
  turn_blind answer v w t = other_blind answer v w t refl

  module _ (answer : Mend) (v w : GroupPasses) (within : place.group < length v.views) (call : CallAt told (Row answer) place.group v w) where
    pub mend_work : AllIdle v → RowWroteOnlyFor (of_job job) v w
    mend_work idle = group_work told job (Row answer) place.group v w within call (all_its answer call.turn.old call.turn.new call.turn.entries call.turn.call) idle

    pub mend_blinds_are : RowOnlyWriterOf (of_job job) v w → blinds_by job v w place.group ≡ given answer blind
    mend_blinds_are alone =
        ap blinds_in (its_own told job (Row answer) place.group v w within call (all_its answer call.turn.old call.turn.new call.turn.entries call.turn.call) alone).0
        ∙ turn_blind answer (view_at v place.group) call.pass call.turn
