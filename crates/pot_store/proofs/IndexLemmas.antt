-- What each call of the index logged for a job.
use Rattle.std.proofs.Common.{◌≡◌, ◌<◌, ◌⊎◌, inl, inr, ⊎_elim, ℕ, Bool, true, false, List, [], ◌∷◌, ◌++◌, length, refl, ap, sym, ◌∙◌, subst, append-nil, append_assoc, eq-eqb, if◌then◌else◌}
use Rattle.std.specs.Prelude.{Result, Ok, Err, All, filter}
use Rattle.std.proofs.lemmas.List.{append_cancel_left}
use Rattle.std.proofs.lemmas.List.Elements.{All-nil, All-cons, All-head, All-tail}
use Rattle.pot_bytes.specs.declared.rack.Rack.{Rack}
use Rattle.pot_index.specs.declared.entry.IndexEntry.{IndexEntry}
use Rattle.pot_index.specs.declared.entry.IndexEntry.TheVariants as entry
use Rattle.pot_index.specs.declared.entry.Logged.{Logged}
use Rattle.pot_index.specs.declared.record.Record.{Record}
use Rattle.pot_index.specs.declared.fault.ReserveFault.{ReserveFault}
use Rattle.pot_index.specs.declared.fault.ReserveFault.TheVariants as reserve_fault
use Rattle.pot_index.specs.Ending.{EndsAt}
use Rattle.pot_index.specs.Entries as index
use Rattle.pot_index.specs.Entries.{plain, bringing, entries, IsReserving, IsEnding}
use Rattle.pot_index.specs.Index.{IndexView, Names, ReplaysIndex, after}
use Rattle.pot_index.specs.Records.{mark_of}
use Rattle.pot_worked.specs.WroteOnlyFor.{added}
use Rattle.pot_worked.specs.Laws.{AllOf}
use Rattle.pot_worked.proofs.WroteOnlyForLemmas.{behind}
use Rattle.pot_rows.specs.Rows.{view_at}
use Rattle.pot_rows.proofs.RowLemmas.{at_set}
use Rattle.pot_replies.specs.Sections.{names_after}
use Rattle.pot_shared.specs.declared.catalog.ReservationLost.{ReservationLost}
use Rattle.pot_shared.specs.Catalogs.{IndexPass, IndexPasses}
use Rattle.pot_shared.specs.IndexCalls.{IndexCall, ReservesName, Abandons, PublishesRecord}
use Rattle.pot_shared.proofs.WorkLemmas.{all_none, all_one}

same_added : {X : Type 0} (xs es fs : List X) → xs ++ fs ≡ xs ++ es → es ≡ fs
same_added xs es fs e = sym (append_cancel_left xs fs es e)

none_added : {X : Type 0} (xs es : List X) → xs ≡ xs ++ es → es ≡ []
none_added xs es e = same_added xs es [] (append-nil xs ∙ e)

-- what a log leads to
pub names_to : (rack : Rack) (n : Names) (log : List Logged) (m : Names) → ReplaysIndex rack n log m → names_after n log ≡ m
names_to rack n [] m is = sym is
names_to rack n (x ∷ log) m is = names_to rack (after n x) log m is.1

-- RESERVE

abbrev pub reserve_entries : ℕ → List ℕ → Result (Unit {0}) ReserveFault → List Logged
reserve_entries job name (Ok u) = plain (entry.Reserve job name) ∷ []
reserve_entries job name (Err reserve_fault.Exists) = plain (entry.Taken job name) ∷ []
reserve_entries job name (Err reserve_fault.LogFull) = []
reserve_entries job name (Err reserve_fault.NoMemory) = []

pub reserve_adds : (job : ℕ) (name : List ℕ) (result : Result (Unit {0}) ReserveFault) (s t : IndexView) (es : List Logged) → ReservesName job name result s t → t.log ≡ s.log ++ es
    → es ≡ reserve_entries job name result
reserve_adds job name (Ok u) s t es (room, free, is) log = same_added s.log es _ (sym (ap (λ (i : IndexView). i.log) is) ∙ log)
reserve_adds job name (Err reserve_fault.Exists) s t es (room, taken, is) log = same_added s.log es _ (sym (ap (λ (i : IndexView). i.log) is) ∙ log)
reserve_adds job name (Err reserve_fault.LogFull) s t es (full, is) log = none_added s.log es (sym (ap (λ (i : IndexView). i.log) is) ∙ log)
reserve_adds job name (Err reserve_fault.NoMemory) s t es (room, free, is) log = none_added s.log es (sym (ap (λ (i : IndexView). i.log) is) ∙ log)

reserve_of : (job : ℕ) (name : List ℕ) (result : Result (Unit {0}) ReserveFault) → AllOf (index.is_of job) (reserve_entries job name result)
reserve_of job name (Ok u) = all_one (index.is_of job) (plain (entry.Reserve job name)) (eq-eqb job job refl)
reserve_of job name (Err reserve_fault.Exists) = all_one (index.is_of job) (plain (entry.Taken job name)) (eq-eqb job job refl)
reserve_of job name (Err reserve_fault.LogFull) = all_none (index.is_of job)
reserve_of job name (Err reserve_fault.NoMemory) = all_none (index.is_of job)

pub all_reserve : (job : ℕ) (name : List ℕ) (result : Result (Unit {0}) ReserveFault) (s t : IndexView) (es : List Logged) → ReservesName job name result s t → t.log ≡ s.log ++ es → AllOf (index.is_of job) es
all_reserve job name result s t es call log = subst (λ xs. AllOf (index.is_of job) xs) (sym (reserve_adds job name result s t es call log)) (reserve_of job name result)

-- PUBLISH AND ABANDON

abbrev pub publish_entries : ℕ → Record → Result (Unit {0}) ReservationLost → List Logged
publish_entries job r (Ok u) = bringing (entry.Publish job r.name (mark_of r)) r ∷ []
publish_entries job r (Err e) = []

pub publish_adds : (job : ℕ) (r : Record) (result : Result (Unit {0}) ReservationLost) (s t : IndexView) (es : List Logged) → PublishesRecord job r result s t → t.log ≡ s.log ++ es → es ≡ publish_entries job r result
publish_adds job r (Ok u) s t es (reserved, is) log = same_added s.log es _ (sym (ap (λ (i : IndexView). i.log) is) ∙ log)
publish_adds job r (Err e) s t es (is, not, ended) log = none_added s.log es (sym (ap (λ (i : IndexView). i.log) is) ∙ log)

publish_of : (job : ℕ) (r : Record) (result : Result (Unit {0}) ReservationLost) → AllOf (index.is_of job) (publish_entries job r result)
publish_of job r (Ok u) = all_one (index.is_of job) (bringing (entry.Publish job r.name (mark_of r)) r) (eq-eqb job job refl)
publish_of job r (Err e) = all_none (index.is_of job)

pub all_publish : (job : ℕ) (r : Record) (result : Result (Unit {0}) ReservationLost) (s t : IndexView) (es : List Logged) → PublishesRecord job r result s t → t.log ≡ s.log ++ es → AllOf (index.is_of job) es
all_publish job r result s t es call log = subst (λ xs. AllOf (index.is_of job) xs) (sym (publish_adds job r result s t es call log)) (publish_of job r result)

abbrev pub abandon_entries : ℕ → List ℕ → Result (Unit {0}) ReservationLost → List Logged
abandon_entries job name (Ok u) = plain (entry.Abandon job name) ∷ []
abandon_entries job name (Err e) = []

pub abandon_adds : (job : ℕ) (name : List ℕ) (result : Result (Unit {0}) ReservationLost) (s t : IndexView) (es : List Logged) → Abandons job name result s t → t.log ≡ s.log ++ es → es ≡ abandon_entries job name result
abandon_adds job name (Ok u) s t es (reserved, is) log = same_added s.log es _ (sym (ap (λ (i : IndexView). i.log) is) ∙ log)
abandon_adds job name (Err e) s t es (is, not, ended) log = none_added s.log es (sym (ap (λ (i : IndexView). i.log) is) ∙ log)

abandon_of : (job : ℕ) (name : List ℕ) (result : Result (Unit {0}) ReservationLost) → AllOf (index.is_of job) (abandon_entries job name result)
abandon_of job name (Ok u) = all_one (index.is_of job) (plain (entry.Abandon job name)) (eq-eqb job job refl)
abandon_of job name (Err e) = all_none (index.is_of job)

pub all_abandon : (job : ℕ) (name : List ℕ) (result : Result (Unit {0}) ReservationLost) (s t : IndexView) (es : List Logged) → Abandons job name result s t → t.log ≡ s.log ++ es → AllOf (index.is_of job) es
all_abandon job name result s t es call log = subst (λ xs. AllOf (index.is_of job) xs) (sym (abandon_adds job name result s t es call log)) (abandon_of job name result)

-- A RESERVATION THAT NOBODY ELSE ENDED

-- of two cuts of one list either is first, or both are one
cuts : {X : Type 0} (xs us ys vs : List X) (a b : X) → xs ++ a ∷ ys ≡ us ++ b ∷ vs
    → ((zs : List X) × (ys ≡ zs ++ b ∷ vs)) ⊎ (((ys ≡ vs) × (a ≡ b)) ⊎ ((zs : List X) × (vs ≡ zs ++ a ∷ ys)))
cuts [] [] ys vs a b e = inr (inl (cc e, cc e))
cuts [] (u ∷ us) ys vs a b e = inl (us, cc e)
cuts (x ∷ xs) [] ys vs a b e = inr (inr (xs, cc e))
cuts (x ∷ xs) (u ∷ us) ys vs a b e = cuts xs us ys vs a b (cc e)

-- none of the entries is the job's
abbrev pub NoneOf : ℕ → List IndexEntry → Type 0
NoneOf job es = All (λ e. index.job_in e ≡ job → ⊥) es

ending_of : (job : ℕ) (name : List ℕ) (e : IndexEntry) → IsEnding job name e → index.job_in e ≡ job
ending_of job name (entry.Publish j n m) is = is.0
ending_of job name (entry.Abandon j n) is = is.0
ending_of job name (entry.Reserve j n) is = absurd is
ending_of job name (entry.Taken j n) is = absurd is
ending_of job name (entry.Find j n f) is = absurd is
ending_of job name (entry.Listed j) is = absurd is
ending_of job name (entry.Renew j n m) is = absurd is
ending_of job name (entry.Often j n) is = absurd is

all_middle : {X : Type 0} (P : X → Type 0) (xs : List X) (a : X) (ys : List X) → All P (xs ++ a ∷ ys) → P a
all_middle P [] a ys all = All-head P a ys all
all_middle P (x ∷ xs) a ys all = all_middle P xs a ys (All-tail P x (xs ++ a ∷ ys) all)

-- no entry behind the reservation is the job's, so none ended it
pub not_ended : (job : ℕ) (name : List ℕ) (xs : List IndexEntry) (r : IndexEntry) (ys : List IndexEntry) (at : ℕ) → IsReserving job name r → NoneOf job ys → EndsAt job name (xs ++ r ∷ ys) at → ⊥
not_ended job name xs r ys at makes none ends =
    let no : (zs : List IndexEntry) → ys ≡ zs ++ ends.ended ∷ ends.behind → ⊥ =
    λ zs is. all_middle (λ e. index.job_in e ≡ job → ⊥) zs ends.ended ends.behind (subst (NoneOf job) is none) (ending_of job name ends.ended ends.ends) in
    ⊎_elim
    (λ (first : (zs : List IndexEntry) × (ys ≡ zs ++ ends.made ∷ (ends.between ++ ends.ended ∷ ends.behind))).
    no (first.0 ++ ends.made ∷ ends.between) (first.1 ∙ sym (append_assoc first.0 (ends.made ∷ ends.between) (ends.ended ∷ ends.behind))))
    (⊎_elim
    (λ (same : (ys ≡ ends.between ++ ends.ended ∷ ends.behind) × (r ≡ ends.made)). no ends.between same.0)
    (λ (last : (zs : List IndexEntry) × (ends.between ++ ends.ended ∷ ends.behind ≡ zs ++ r ∷ ys)).
    all_middle (λ e. IsReserving job name e → ⊥) last.0 r ys (subst (λ es. All (λ e. IsReserving job name e → ⊥) es) last.1 ends.last) makes))
    (cuts xs ends.before ys (ends.between ++ ends.ended ∷ ends.behind) r ends.made ends.parts)

-- what a filter leaves out
none_first : (job : ℕ) (l : Logged) (ls : List Logged) → (filter (index.is_of job) ls ≡ [] → NoneOf job (entries ls)) → (b : Bool) → index.is_of job l ≡ b
    → filter (index.is_of job) (l ∷ ls) ≡ [] → NoneOf job (entries (l ∷ ls))
none_first job l ls rest true e is = absurd (let h : l ∷ filter (index.is_of job) ls ≡ [] = subst (λ b. (if b then l ∷ filter (index.is_of job) ls else filter (index.is_of job) ls) ≡ []) e is in cc h)
none_first job l ls rest false e is =
    All-cons (λ x. index.job_in x ≡ job → ⊥) l.entry (entries ls)
    (λ j. absurd (let t = eq-eqb (index.job_in l.entry) job j in cc (e, t))) (rest (subst (λ b. (if b then l ∷ filter (index.is_of job) ls else filter (index.is_of job) ls) ≡ []) e is))

pub none_in : (job : ℕ) (ls : List Logged) → filter (index.is_of job) ls ≡ [] → NoneOf job (entries ls)
none_in job [] is = All-nil (λ e. index.job_in e ≡ job → ⊥)
none_in job (l ∷ ls) is = none_first job l ls (none_in job ls) (index.is_of job l) refl is

-- A TURN OF THE INDEX

module _ (R : IndexView → IndexView → Type 0) (v w : IndexPasses) (call : IndexCall R v w) (within : 0 < length v.views) where
  pub index_here : view_at w 0 ≡ call.pass
  index_here = ap (λ (r : IndexPasses). view_at r 0) call.is ∙ at_set v 0 call.pass within

  pub index_seen : (view_at w 0).seen ≡ (view_at v 0).seen ++ (call.turn.others ++ call.turn.entries)
  index_seen = ap (λ (x : IndexPass). x.seen) index_here ∙ (ap (λ (x : IndexPass). x.seen) call.turn.turn ∙ append_assoc (view_at v 0).seen call.turn.others call.turn.entries)

  pub index_added : added (view_at v 0) (view_at w 0) ≡ call.turn.others ++ call.turn.entries
  index_added = behind (view_at w 0).seen (view_at v 0).seen (call.turn.others ++ call.turn.entries) index_seen
