-- One turn of the mending of a slot.
use Rattle.std.proofs.Common.{◌≡◌, ◌<◌, ◌≤◌, ◌⊎◌, inl, inr, ℕ, true, false, Bool, IsTrue, List, [], ◌∷◌, length, refl, sym, ap, ◌∙◌, subst, eq-eqb}
use Rattle.std.specs.Prelude.{Some, IsSomeAnd, Ok, Err, Result, ◌↔◌}
use Rattle.pot_bytes.specs.declared.digest.Digest.{Digest}
use Rattle.pot_bytes.specs.declared.rack.Place.{Place}
use Rattle.pot_bytes.specs.Rack.{log_bound}
use Rattle.pot_machine.specs.declared.entry.Entry.{Entry}
use Rattle.pot_machine.specs.declared.entry.Entry.TheVariants as entry
use Rattle.pot_machine.specs.Slot.{is_unsound}
use Rattle.pot_machine.specs.Table.{next_column, slot_at, width}
use Rattle.pot_machine.specs.Logs.{is_of}
use Rattle.pot_steps.specs.declared.flight.Flight.{Flight}
use Rattle.pot_steps.specs.Flights.{flight_in}
use Rattle.pot_steps.proofs.FlightLists.{relay_of, relay_of_flight}
use Rattle.pot_group.specs.declared.relaying.Advanced.{Advanced}
use Rattle.pot_group.specs.declared.relaying.Advanced.TheVariants as advanced
use Rattle.pot_group.specs.declared.relaying.AdvanceFault.{AdvanceFault}
use Rattle.pot_group.specs.declared.relaying.AdvanceFault.TheVariants as failed
use Rattle.pot_group.specs.declared.relaying.Mend.{Mend}
use Rattle.pot_group.specs.declared.relaying.Mend.TheVariants as mend
use Rattle.pot_group.specs.Group.{GroupView, IsSettled}
use Rattle.pot_group.specs.Relaying.{Drives, Owns, answered}
use Rattle.pot_group.specs.Calls.{MendCall, MendTells, RelayEntries}
use Rattle.pot_rows.specs.Rows.{view_at}
use Rattle.pot_rows.specs.Works.{AllIdle}
use Rattle.pot_shared.specs.Ready.{GroupPasses}
use Rattle.pot_shared.specs.Calls.{CallAt}
use Rattle.pot_worked.specs.Laws.{AllOf}
use Rattle.pot_shared.specs.Adds.{Adds, FailsOnce}
use Rattle.pot_shared.proofs.AddLemmas.{adds_call, left_bound, left_long, met_once}
use Rattle.pot_shared.proofs.FlightLemmas.{on_way, at_end}
use Rattle.pot_shared.proofs.WorkLemmas.{all_none, all_one}

-- WHAT AN ANSWER LOGS

-- for the place of this stripe and column
abbrev pub StepEntries : ℕ → ℕ → ℕ → Mend → List Entry → Type 0
StepEntries job s c mend.Began entries = entries ≡ entry.Begin job s c ∷ []
StepEntries job s c mend.Extends entries = ((n : ℕ) × (k : ℕ) × (entries ≡ entry.Hop job n k ∷ [])) ⊎ ((n : ℕ) × (k : ℕ) × (o : ℕ) × (entries ≡ entry.GaveUp job n k o ∷ []))
StepEntries job s c mend.Mended entries = (n : ℕ) × (k : ℕ) × (entries ≡ entry.Mended job n k ∷ [])
StepEntries job s c mend.Passed entries = (n : ℕ) × (k : ℕ) × (f : Digest) × (entries ≡ entry.Oddly job n k f ∷ []) × (n ≡ s → k ≡ c → ⊥)
StepEntries job s c (mend.TwoGone first second) entries = entries ≡ entry.Stuck job s c second ∷ []
StepEntries job s c (mend.Odd wanted found) entries = (f : Digest) × (entries ≡ entry.Oddly job s c f ∷ [])
StepEntries job s c mend.Whole entries = entries ≡ []
StepEntries job s c (mend.Faulted column) entries = (n : ℕ) × (entries ≡ entry.Fault job n column ∷ [])
StepEntries job s c mend.LogFull entries = entries ≡ []

-- the step of a relay, of the slot's own or of another
module _ (told : Type 0) (job : ℕ) (p : Place) (old : GroupView) (settled : IsSettled told old) (n : ℕ) (entries : List Entry) where
  target : (f : Flight) → flight_in old.flights n ≡ Some f → Owns old.table n p.stripe p.column ≡ ((n ≡ p.stripe) × (f.relay.target ≡ p.column))
  target f is = ap (λ x. IsSomeAnd x (λ r. (n ≡ p.stripe) × (r.target ≡ p.column))) (relay_of_flight old.table old.flights n settled.relays ∙ ap relay_of is)

  odd_step : (own : Bool) → IsTrue own ↔ Owns old.table n p.stripe p.column → (wanted found : Digest) → RelayEntries job n (Err (failed.Odd wanted found)) old entries
      → StepEntries job p.stripe p.column (answered own (Err (failed.Odd wanted found))) entries
  odd_step true owns wanted found m =
      let (f, is, q) = at_end (flight_in old.flights n) _ m in
      let at = subst (λ (X : Type 0). X) (target f is) (owns.0 refl) in
      (found, q.1 ∙ (ap (λ k. entry.Oddly job k f.relay.target found ∷ []) at.0 ∙ ap (λ k. entry.Oddly job p.stripe k found ∷ []) at.1))
  odd_step false owns wanted found m =
      let (f, is, q) = at_end (flight_in old.flights n) _ m in
      (n, f.relay.target, found, q.1, λ e t. no (owns.1 (subst (λ (X : Type 0). X) (sym (target f is)) (e, t))))
    where
      no : IsTrue false → ⊥
      no e = cc

  relay_step : (own : Bool) → IsTrue own ↔ Owns old.table n p.stripe p.column → (r : Result Advanced AdvanceFault) → RelayEntries job n r old entries → StepEntries job p.stripe p.column (answered own r) entries
  relay_step own owns (Ok advanced.Hopped) m =
      (let (f, k, is) = on_way (flight_in old.flights n) (λ f. next_column old.table f.relay) (λ f k. entries ≡ entry.Hop job n k ∷ []) m in inl (n, k, is))
  relay_step own owns (Ok advanced.Ended) m =
      (let (f, k, is) = on_way (flight_in old.flights n) (λ f. next_column old.table f.relay) (λ f k. entries ≡ entry.GaveUp job n f.relay.target k ∷ []) m in inr (n, f.relay.target, k, is))
  relay_step own owns (Ok advanced.Mended) m = (let (f, is, q) = at_end (flight_in old.flights n) _ m in (n, f.relay.target, q.1))
  relay_step own owns (Err (failed.Odd wanted found)) m = odd_step own owns wanted found m
  relay_step own owns (Err (failed.Faulted column)) m = (n, m)
  relay_step own owns (Err failed.LogFull) m = absurd m
  relay_step own owns (Err failed.Idle) m = absurd m

module _ (told : Type 0) (job : ℕ) (p : Place) (blind : List ℕ) (old new : GroupView) (settled : IsSettled told old) (entries : List Entry) where
  driven : (a : Mend) → (d : Drives job p.stripe p.column a old new) × RelayEntries job d.stripe d.result old entries → StepEntries job p.stripe p.column a entries
  driven a (d, m) = subst (λ x. StepEntries job p.stripe p.column x entries) (sym d.is) (relay_step told job p old settled d.stripe entries d.own d.owns d.result m)

  step_says : (a : Mend) → MendTells job p.stripe p.column blind a old new entries → StepEntries job p.stripe p.column a entries
  step_says mend.Began tells = tells.0
  step_says mend.Extends tells = driven mend.Extends tells.1
  step_says mend.Mended tells = driven mend.Mended tells.1
  step_says mend.Passed tells = driven mend.Passed tells.1
  step_says (mend.TwoGone first second) tells = tells.0
  step_says (mend.Odd wanted found) tells = driven (mend.Odd wanted found) tells.1
  step_says mend.Whole tells = tells.0
  step_says (mend.Faulted column) tells = driven (mend.Faulted column) tells.1
  step_says mend.LogFull tells = tells.0

-- AS THE PASSES SEE IT

abbrev pub StepWhy : ℕ → ℕ → ℕ → Mend → GroupPasses → GroupPasses → Type 0
StepWhy g s c mend.Whole old new = FailsOnce is_unsound s c g old new
StepWhy g s c mend.LogFull old new = length (view_at new g).seen ≡ log_bound
StepWhy g s c _ old new = Unit {0}

pub record StepsAt (job : ℕ) (p : Place) (answer : Mend) (old new : GroupPasses) : Type 0 where
  pub entries : List Entry
  pub says : StepEntries job p.stripe p.column answer entries
  pub why : StepWhy p.group p.stripe p.column answer old new
  pub adds : Adds job p.group entries old new
  pub bound : length (view_at new p.group).seen ≤ log_bound

module _ (job : ℕ) (es : List Entry) where
  just_one : (e : Entry) → es ≡ e ∷ [] → is_of job e ≡ true → AllOf (is_of job) es
  just_one e is own = subst (λ l. AllOf (is_of job) l) (sym is) (all_one (is_of job) e own)

  nothing : es ≡ [] → AllOf (is_of job) es
  nothing is = subst (λ l. AllOf (is_of job) l) (sym is) (all_none (is_of job))

  steps_all : (s c : ℕ) (answer : Mend) → StepEntries job s c answer es → AllOf (is_of job) es
  steps_all s c mend.Began is = just_one _ is (eq-eqb job job refl)
  steps_all s c mend.Extends (inl (n, k, is)) = just_one _ is (eq-eqb job job refl)
  steps_all s c mend.Extends (inr (n, k, o, is)) = just_one _ is (eq-eqb job job refl)
  steps_all s c mend.Mended (n, k, is) = just_one _ is (eq-eqb job job refl)
  steps_all s c mend.Passed (n, k, f, is, other) = just_one _ is (eq-eqb job job refl)
  steps_all s c (mend.TwoGone first second) is = just_one _ is (eq-eqb job job refl)
  steps_all s c (mend.Odd wanted found) (f, is) = just_one _ is (eq-eqb job job refl)
  steps_all s c mend.Whole is = nothing is
  steps_all s c (mend.Faulted column) (n, is) = just_one _ is (eq-eqb job job refl)
  steps_all s c mend.LogFull is = nothing is

module _ (told : Type 0) (job : ℕ) (p : Place) (blind : List ℕ) (answer : Mend) (v w : GroupPasses) (within : p.group < length v.views) (idle : AllIdle v)
    (call : CallAt told (MendCall told job p blind answer) p.group v w) where
  abbrev Call : GroupView → GroupView → List Entry → Type 0
  Call = MendCall told job p blind answer

  says : StepEntries job p.stripe p.column answer call.turn.entries
  says = step_says told job p blind call.turn.old call.turn.new call.turn.settled_old call.turn.entries answer call.turn.call.tells

  why : (a : Mend) → MendTells job p.stripe p.column blind a call.turn.old call.turn.new call.turn.entries → StepWhy p.group p.stripe p.column a v w
  why mend.Whole tells = met_once told job Call p.group v w within call (λ first t. p.stripe < first.stripes → p.column < width first → is_unsound (slot_at t p.stripe p.column) ≡ false) (λ first same a b. tells.3)
  why mend.LogFull tells = left_long told job Call p.group v w within call ∙ (ap (λ (g : GroupView). length g.log) tells.1 ∙ tells.2)
  why mend.Began tells = tt
  why mend.Extends tells = tt
  why mend.Mended tells = tt
  why mend.Passed tells = tt
  why (mend.TwoGone first second) tells = tt
  why (mend.Odd wanted found) tells = tt
  why (mend.Faulted column) tells = tt

  pub steps_at : StepsAt job p answer v w
  steps_at = record {
    entries = call.turn.entries;
    says = says;
    why = why answer call.turn.call.tells;
    adds = adds_call told job Call p.group v w within call idle (steps_all job call.turn.entries p.stripe p.column answer says);
    bound = left_bound told job Call p.group v w within call;
  }
