-- What a log tells of the calls that made it.
use Rattle.std.proofs.Common.{◌≡◌, ◌≢◌, ◌⊎◌, inl, inr, ℕ, zero, suc, ◌<◌, ◌≤◌, ◌+◌, ◌&&◌, List, [], ◌∷◌, ◌++◌, Option, Some, None, Bool, true, false, IsTrue, refl, sym, ap, ◌∙◌, subst, arith, append-nil, append_assoc, length, nat_eq, if◌then◌else◌}
use Rattle.std.specs.Prelude.{All, Contains, ◌^◌}
use Rattle.std.proofs.lemmas.Bool.{cases_lt}
use Rattle.std.proofs.lemmas.List.{length-append}
use Rattle.std.proofs.lemmas.List.Elements.{All-nil, All-cons, All-head, All-tail}
use Rattle.pot_bytes.specs.Rack.{log_bound}
use Rattle.pot_bytes.specs.Sums.{xor}
use Rattle.pot_bytes.specs.Weighted.{scaled}
use Rattle.pot_gf.specs.Field.{power}
use Rattle.pot_bytes.specs.Digests.{digest_of}
use Rattle.pot_machine.specs.declared.entry.Entry.{Entry}
use Rattle.pot_machine.specs.declared.entry.Entry.TheVariants as entry
use Rattle.pot_machine.specs.Table.{Table, width, archives_in, serving_at}
use Rattle.pot_outside.specs.Archives.{IsCoherent, Meaning}
use Rattle.pot_group.specs.Arrivals.{arrival, arrivals}
use Rattle.pot_group.specs.Group.{state_of}
use Rattle.pot_group.proofs.Arriving.{arrivals-append}
use Rattle.pot_steps.specs.Stripe.{Sound}
use Rattle.pot_steps.specs.Holdings.{stripe_of}
use Rattle.pot_steps.specs.GroupStep.{GroupState, StartStep, Passed, Placed, NotPut, Full, NoRoom, Looked, Seen, Gone, Faulted, LogFull, put_entry, look_entries, gone_entries, skips, entries_where, opening}
use Rattle.pot_steps.specs.RelaySteps.{MendAnswer, MendStep, Began, Extends, NoNeed, Stuck, MendOdd, MendFaulted, MendFull, AdvanceStep, AdvanceAnswer}
use Rattle.pot_steps.specs.RelaySteps as relay
use Rattle.pot_steps.specs.MoveSteps.{Copied, MoveEnded, MoveFaulted, MoveIdle, MoveFull}
use Rattle.pot_steps.specs.MoveSteps as move
use Rattle.pot_execution.specs.Execution.{AllCame, Call, FailedInOpening, IsAtWork, StepOf, Leads, had}
use Rattle.pot_execution.proofs.Taken.{served_first}
use Rattle.pot_execution.specs.Execution as call
use Rattle.pot_world.specs.Acts.{with_use}
use Rattle.pot_world.specs.Ties.{IsArchiveFresh}
use Rattle.pot_refinement.specs.Refinement.{AllWell, ComeEmpty, GoesWell, GoneIsMissing, IsArchiveEmpty, PastGroup, WellByLog, is_clean, ran_of, used_after, used_by_all, with_uses}

-- WHAT A CALL ADDS TO THE LOG

-- the log grew by some entries, which brought these archives
abbrev pub GrewBy : List ℕ → GroupState → GroupState → Type 0
GrewBy ns old new = (es : List Entry) × (new.log ≡ old.log ++ es) × (arrivals es ≡ ns)

-- the archive that a call brought
abbrev pub brought_by : Call → List ℕ
brought_by (call.MoveBegin job c to held heard) = to ∷ []
brought_by (call.Swap job c to held heard) = to ∷ []
brought_by _ = []

-- those that calls brought, in order
abbrev pub all_brought : List Call → List ℕ
all_brought [] = []
all_brought (c ∷ calls) = brought_by c ++ all_brought calls

none_grew : (old new : GroupState) → new.log ≡ old.log → GrewBy [] old new
none_grew old new e = ([], e ∙ sym (append-nil old.log), refl)

-- the entries of an opening bring none, nor do those of the stripes that a put passes
where_none : (m : ℕ) (test : ℕ → Bool) (make : ℕ → Entry) → ((c : ℕ) → arrival (make c) ≡ []) → arrivals (entries_where m test make) ≡ []
unfolding entries_where
where_none zero test make none = refl
where_none (suc m) test make none =
    arrivals-append (entries_where m test make) (if test m then make m ∷ [] else [])
    ∙ ap (λ l. l ++ arrivals (if test m then make m ∷ [] else [])) (where_none m test make none) ∙ last (test m)
  where
    last : (b : Bool) → arrivals (if b then make m ∷ [] else []) ≡ []
    last true = append-nil (arrival (make m)) ∙ none m
    last false = refl

opening_none : (w n : ℕ) (gone broke : ℕ → ℕ → Bool) → arrivals (opening w n gone broke) ≡ []
unfolding opening
opening_none w zero gone broke = refl
opening_none w (suc n) gone broke =
    let first = entries_where w (gone n) (entry.Gone 0 n) in
    let last = entries_where w (broke n) (entry.Broke 0 n) in
    arrivals-append (opening w n gone broke) (first ++ last) ∙ ap (λ l. l ++ arrivals (first ++ last)) (opening_none w n gone broke)
    ∙ arrivals-append first last ∙ ap (λ l. l ++ arrivals last) (where_none w (gone n) (entry.Gone 0 n) (λ c. refl)) ∙ where_none w (broke n) (entry.Broke 0 n) (λ c. refl)

gone_brings : (job s : ℕ) (gone : Option ℕ) → arrivals (gone_entries job s gone) ≡ []
gone_brings job s None = refl
gone_brings job s (Some c) = refl

skips_none : (job : ℕ) (passed : List Passed) → arrivals (skips job passed) ≡ []
skips_none job [] = refl
skips_none job (x ∷ xs) =
    arrivals-append (gone_entries job x.stripe x.gone) (entry.Skip job x.stripe ∷ skips job xs)
    ∙ ap (λ l. l ++ arrivals (skips job xs)) (gone_brings job x.stripe x.gone) ∙ skips_none job xs

-- stripes passed, and entries that bring none
skipped : (job : ℕ) (passed : List Passed) (es : List Entry) → arrivals es ≡ [] → arrivals (skips job passed ++ es) ≡ []
skipped job passed es none = arrivals-append (skips job passed) es ∙ ap (λ l. l ++ arrivals es) (skips_none job passed) ∙ none

put_none : (parity job s c : ℕ) (block p q : List ℕ) (kept kept2 : Bool) → arrivals (put_entry parity job s c block p q kept kept2 ∷ []) ≡ []
put_none parity job s c block p q kept kept2 = by (nat_eq parity 1)
  where
    by : (z : Bool) → arrivals ((if z then entry.Put job s c (digest_of block) (digest_of (xor p block)) kept
        else entry.Put2 job s c (digest_of block) (digest_of (xor p block)) (digest_of (xor q (scaled (power 3 c) block))) kept kept2) ∷ []) ≡ []
    by true = refl
    by false = refl

advanced : (job s : ℕ) (answer : AdvanceAnswer) (old new : GroupState) → AdvanceStep job s answer old new → GrewBy [] old new
advanced job s relay.Hopped old new step = (_, step.2.log, refl)
advanced job s relay.Mended old new step = (_, step.1.log, refl)
advanced job s relay.Ended old new step = (_, step.2.log, refl)
advanced job s (relay.Odd wanted found) old new step = (_, step.1.log, refl)
advanced job s (relay.Faulted column) old new step = (_, step.0.log, refl)
advanced job s relay.Idle old new step = none_grew old new step.0.log
advanced job s relay.LogFull old new step = (_, step.logs.log, refl)

mended : (job s c : ℕ) (blind : List ℕ) (answer : MendAnswer) (old new : GroupState) → MendStep job s c blind answer old new → GrewBy [] old new
mended job s c blind Began old new step = (_, step.0.log, refl)
mended job s c blind NoNeed old new step = none_grew old new step.0.log
mended job s c blind (Stuck first second) old new step = (_, step.0.log, refl)
mended job s c blind MendFull old new step = (_, step.logs.log, refl)
mended job s c blind Extends old new step = elim step.1.2 [
  | inl a ↦ advanced job step.1.0 relay.Hopped old new a
  | inr r ↦ elim r [
    | inl a ↦ advanced job step.1.0 relay.Mended old new a
    | inr q ↦ elim q [ inl a ↦ advanced job step.1.0 relay.Ended old new a | inr o ↦ advanced job step.1.0 (relay.Odd o.0 o.1) old new o.2 ]
  ]
]
mended job s c blind (MendOdd wanted found) old new step = advanced job step.1.0 (relay.Odd wanted found) old new step.1.2.0
mended job s c blind (MendFaulted column) old new step = advanced job step.1.0 (relay.Faulted column) old new step.1.2

looked : (job s c : ℕ) (answer : Looked) → arrivals (look_entries job s c answer) ≡ []
looked job s c (Seen block) = refl
looked job s c Gone = refl
looked job s c Faulted = refl
looked job s c LogFull = refl

grew : (c : Call) (old new : GroupState) → StepOf c old new → GrewBy (brought_by c) old new
grew call.Open old new step = (_, step.logs.log, opening_none (width old.table) old.table.stripes step.gone step.broke)
grew (call.Put job block (Placed s c)) old new step =
    (_, step.logs.log, skipped job step.passed (put_entry step.at.parity job s c block step.p step.q true true ∷ []) (put_none step.at.parity job s c block step.p step.q true true))
grew (call.Put job block Full) old new step = (_, step.logs.log, skips_none job step.passed)
grew (call.Put job block (NotPut column)) old new step = elim step [
  | inl u ↦ (_, u.logs.log, skipped job u.passed (put_entry u.at.parity job u.s u.c block u.p u.q u.kept u.kept2 ∷ []) (put_none u.at.parity job u.s u.c block u.p u.q u.kept u.kept2))
  | inr x ↦ (_, x.logs.log, skipped job x.passed (entry.Fault job x.at.cursor.stripe column ∷ []) refl)
]
grew (call.Put job block NoRoom) old new step =
    (_, step.logs.log, skipped job step.passed (gone_entries job step.at.cursor.stripe step.gone) (gone_brings job step.at.cursor.stripe step.gone))
grew (call.Look job s c answer) old new step = (_, step.logs.log, looked job s c answer)
grew (call.Count job) old new step = (_, step.logs.log, refl)
grew (call.Mend job s c blind answer) old new step = mended job s c blind answer old new step
grew (call.MoveBegin job c to held heard) old new step = (_, step.logs.log, refl)
grew (call.MoveOne job c Copied) old new step = (_, step.1.log, refl)
grew (call.MoveOne job c move.Passed) old new step = (_, step.1.log, refl)
grew (call.MoveOne job c MoveEnded) old new step = (_, step.0.log, refl)
grew (call.MoveOne job c MoveFaulted) old new step = (_, step.1.log, refl)
grew (call.MoveOne job c MoveIdle) old new step = none_grew old new step.0.log
grew (call.MoveOne job c MoveFull) old new step = (_, step.logs.log, refl)
grew (call.Swap job c to held heard) old new step = (_, step.logs.log, refl)

pub all_grew : (calls : List Call) (old new : GroupState) → Leads calls old new → GrewBy (all_brought calls) old new
all_grew [] old new leads = none_grew old new (ap (λ (s : GroupState). s.log) leads)
all_grew (c ∷ calls) old new leads =
    let one = grew c old leads.0 leads.2 in
    let more = all_grew calls leads.0 new leads.3 in (
      one.0 ++ more.0,
      more.1 ∙ (ap (λ l. l ++ more.0) one.1 ∙ append_assoc old.log one.0 more.0),
      arrivals-append one.0 more.0 ∙ ap (λ l. l ++ arrivals more.0) one.2 ∙ ap (λ l. brought_by c ++ l) more.2,
    )

-- WHICH ARCHIVES HAVE A USE

uses_more : (xs ys : List ℕ) (used : ℕ → Bool) → with_uses used (xs ++ ys) ≡ with_uses (with_uses used xs) ys
uses_more [] ys used = refl
uses_more (x ∷ xs) ys used = uses_more xs ys (with_use used x)

used_one : (c : Call) (used : ℕ → Bool) → used_after used c ≡ with_uses used (brought_by c)
used_one call.Open used = refl
used_one (call.Put job block answer) used = refl
used_one (call.Look job s c answer) used = refl
used_one (call.Count job) used = refl
used_one (call.Mend job s c blind answer) used = refl
used_one (call.MoveBegin job c to held heard) used = refl
used_one (call.MoveOne job c answer) used = refl
used_one (call.Swap job c to held heard) used = refl

pub used_all : (calls : List Call) (used : ℕ → Bool) → used_by_all calls used ≡ with_uses used (all_brought calls)
used_all [] used = refl
used_all (c ∷ calls) used =
    used_all calls (used_after used c) ∙ ap (λ u. with_uses u (all_brought calls)) (used_one c used) ∙ sym (uses_more (brought_by c) (all_brought calls) used)

-- WHAT CAME

-- an archive that a call brought had no use and was empty
abbrev ComesFresh : (ℕ → Bool) → Call → Type 0
ComesFresh used (call.MoveBegin job c to held heard) = (used to ≡ false) × IsArchiveFresh held heard
ComesFresh used (call.Swap job c to held heard) = (used to ≡ false) × IsArchiveFresh held heard
ComesFresh used _ = Unit {0}

abbrev AllFresh : (ℕ → Bool) → List Call → Type 0
AllFresh used [] = Unit {0}
AllFresh used (c ∷ calls) = ComesFresh used c × AllFresh (used_after used c) calls

-- an archive that holds nothing below slot 2^32, and nothing from there on
pub holds_none : (m : Meaning) → IsCoherent m → IsArchiveEmpty m → (slot : ℕ) → m.held slot ≡ None
holds_none m is empty slot = elim (cases_lt slot (2 ^ 32)) [ inl lt ↦ empty.held slot lt | inr le ↦ by (m.held slot) refl le ]
  where
    by : (o : Option (List ℕ)) → m.held slot ≡ o → 2 ^ 32 ≤ slot → o ≡ None
    by None e le = refl
    by (Some b) e le = (let lt = is.low slot b e in absurd (omega (arith, lt, le)))

fresh : (m : Meaning) (held : ℕ → Option (List ℕ)) (heard : List (ℕ × List ℕ)) → IsCoherent m → IsArchiveEmpty m → ((slot : ℕ) → held slot ≡ m.held slot) → heard ≡ m.heard → IsArchiveFresh held heard
fresh m held heard is empty blocks sums = (λ slot. blocks slot ∙ holds_none m is empty slot, sums ∙ empty.heard)

all_fresh : (calls : List Call) (used : ℕ → Bool) (ns : List ℕ) (taken : ℕ → Meaning) → ((n : ℕ) → IsCoherent (taken n)) → AllCame ns taken calls → ComeEmpty used taken (all_brought calls) → AllFresh used calls
all_fresh [] used ns taken is came empty = tt
all_fresh (call.Open ∷ calls) used ns taken is came empty = (tt, all_fresh calls used ns taken is came.1 empty)
all_fresh (call.Put job block answer ∷ calls) used ns taken is came empty = (tt, all_fresh calls used ns taken is came.1 empty)
all_fresh (call.Look job s c answer ∷ calls) used ns taken is came empty = (tt, all_fresh calls used ns taken is came.1 empty)
all_fresh (call.Count job ∷ calls) used ns taken is came empty = (tt, all_fresh calls used ns taken is came.1 empty)
all_fresh (call.Mend job s c blind answer ∷ calls) used ns taken is came empty = (tt, all_fresh calls used ns taken is came.1 empty)
all_fresh (call.MoveBegin job c to held heard ∷ calls) used ns taken is came empty =
    ((empty.0, fresh (taken to) held heard (is to) empty.1 came.0.1 came.0.2), all_fresh calls (with_use used to) ns taken is came.1 empty.2)
all_fresh (call.MoveOne job c answer ∷ calls) used ns taken is came empty = (tt, all_fresh calls used ns taken is came.1 empty)
all_fresh (call.Swap job c to held heard ∷ calls) used ns taken is came empty =
    ((empty.0, fresh (taken to) held heard (is to) empty.1 came.0.1 came.0.2), all_fresh calls (with_use used to) ns taken is came.1 empty.2)

-- A CLEAN LOG

abbrev Clean : List Entry → Type 0
Clean log = All (λ e. IsTrue (is_clean e)) log

all_left : (P : Entry → Type 0) (xs ys : List Entry) → All P (xs ++ ys) → All P xs
all_left P [] ys h = All-nil P
all_left P (x ∷ xs) ys h = All-cons P x xs (All-head P x (xs ++ ys) h) (all_left P xs ys (All-tail P x (xs ++ ys) h))

all_right : (P : Entry → Type 0) (xs ys : List Entry) → All P (xs ++ ys) → All P ys
all_right P [] ys h = h
all_right P (x ∷ xs) ys h = all_right P xs ys (All-tail P x (xs ++ ys) h)

-- the log before is clean and short too
before : {ns : List ℕ} (old new : GroupState) → GrewBy ns old new → Clean new.log → Clean old.log
before old new g clean = all_left (λ e. IsTrue (is_clean e)) old.log g.0 (subst Clean g.1 clean)

shorter : {ns : List ℕ} (old new : GroupState) → GrewBy ns old new → length new.log < log_bound → length old.log < log_bound
shorter old new g lt = let a = ap length g.1 in let b = length-append old.log g.0 in omega (arith, a, b, lt)

-- an entry that is last
last_clean : (log : List Entry) (es : List Entry) (e : Entry) → Clean (log ++ (es ++ e ∷ [])) → IsTrue (is_clean e)
last_clean log es e clean =
    All-head (λ e. IsTrue (is_clean e)) e [] (all_right (λ e. IsTrue (is_clean e)) es (e ∷ []) (all_right (λ e. IsTrue (is_clean e)) log (es ++ e ∷ []) clean))

one_clean : (log : List Entry) (e : Entry) → Clean (log ++ e ∷ []) → IsTrue (is_clean e)
one_clean log e clean = All-head (λ e. IsTrue (is_clean e)) e [] (all_right (λ e. IsTrue (is_clean e)) log (e ∷ []) clean)

-- of a put whose parity was not kept
kept_put : (parity job s c : ℕ) (block p q : List ℕ) (kept kept2 : Bool) → IsTrue (is_clean (put_entry parity job s c block p q kept kept2)) → (kept ≡ true) × (nat_eq parity 1 ≡ false → kept2 ≡ true)
kept_put parity job s c block p q kept kept2 h = by (nat_eq parity 1) h
  where
    both : (a b : Bool) → IsTrue (a && b) → (a ≡ true) × (b ≡ true)
    both true true h = (refl, refl)
    both true false h = absurd (cc)
    both false b h = absurd (cc)

    by : (z : Bool) → IsTrue (is_clean (if z then entry.Put job s c (digest_of block) (digest_of (xor p block)) kept
        else entry.Put2 job s c (digest_of block) (digest_of (xor p block)) (digest_of (xor q (scaled (power 3 c) block))) kept kept2)) → (kept ≡ true) × (z ≡ false → kept2 ≡ true)
    by true h = (h, λ e. absurd (cc))
    by false h = (let b = both kept kept2 h in (b.0, λ e. b.1))

no_true : IsTrue false → ⊥
no_true h = cc

goes : (used : ℕ → Bool) (c : Call) (old new : GroupState) (step : StepOf c old new) → IsAtWork c → ComesFresh used c → Clean new.log → length new.log < log_bound → GoesWell used c old new step
goes used call.Open old new step work comes clean room = absurd work
goes used (call.Put job block (Placed s c)) old new step work comes clean room = tt
goes used (call.Put job block Full) old new step work comes clean room = tt
goes used (call.Put job block (NotPut column)) old new step work comes clean room = elim step [
  | inl u ↦ unkept (kept_put u.at.parity job u.s u.c block u.p u.q u.kept u.kept2 (last_clean old.log (skips job u.passed) _ (subst Clean u.logs.log clean))) u.fails
  | inr x ↦ no_true (last_clean old.log (skips job x.passed) _ (subst Clean x.logs.log clean))
]
  where
    two : (n : ℕ) → n ≡ 2 → nat_eq n 1 ≡ false
    two n e = ap (λ m. nat_eq m 1) e

    no : (b : Bool) → b ≡ true → b ≡ false → ⊥
    no b p q = cc

    unkept : {n : ℕ} {kept kept2 : Bool} → (kept ≡ true) × (nat_eq n 1 ≡ false → kept2 ≡ true) → (kept ≡ false) ⊎ ((n ≡ 2) × (kept2 ≡ false)) → ⊥
    unkept {n} {kept} {kept2} k (inl f) = no kept k.0 f
    unkept {n} {kept} {kept2} k (inr f) = no kept2 (k.1 (two n f.0)) f.1
goes used (call.Put job block NoRoom) old new step work comes clean room = (let f = step.full in omega (arith, f, room))
goes used (call.Look job s c answer) old new step work comes clean room = tt
goes used (call.Count job) old new step work comes clean room = tt
goes used (call.Mend job s c blind Began) old new step work comes clean room = tt
goes used (call.Mend job s c blind Extends) old new step work comes clean room = tt
goes used (call.Mend job s c blind NoNeed) old new step work comes clean room = tt
goes used (call.Mend job s c blind (Stuck first second)) old new step work comes clean room = tt
goes used (call.Mend job s c blind (MendOdd wanted found)) old new step work comes clean room = tt
goes used (call.Mend job s c blind (MendFaulted column)) old new step work comes clean room = no_true (one_clean old.log _ (subst Clean step.1.2.0.log clean))
goes used (call.Mend job s c blind MendFull) old new step work comes clean room =
    (let f = step.full in let l = shorter old new ([], step.logs.log, refl) room in omega (arith, f, l))
goes used (call.MoveBegin job c to held heard) old new step work comes clean room = comes
goes used (call.MoveOne job c Copied) old new step work comes clean room = tt
goes used (call.MoveOne job c move.Passed) old new step work comes clean room = tt
goes used (call.MoveOne job c MoveEnded) old new step work comes clean room = tt
goes used (call.MoveOne job c MoveFaulted) old new step work comes clean room = no_true (one_clean old.log _ (subst Clean step.1.log clean))
goes used (call.MoveOne job c MoveIdle) old new step work comes clean room = tt
goes used (call.MoveOne job c MoveFull) old new step work comes clean room =
    (let f = step.full in let l = shorter old new ([], step.logs.log, refl) room in omega (arith, f, l))
goes used (call.Swap job c to held heard) old new step work comes clean room = comes

works : (calls : List Call) (used : ℕ → Bool) (old new : GroupState) (leads : Leads calls old new) → All IsAtWork calls → AllFresh used calls → Clean new.log → length new.log < log_bound → AllWell used calls old new leads
works [] used old new leads work comes clean room = tt
works (c ∷ calls) used old new leads work comes clean room =
    let more = all_grew calls leads.0 new leads.3 in (
      goes used c old leads.0 leads.2 (All-head IsAtWork c calls work) comes.0 (before leads.0 new more clean) (shorter leads.0 new more room),
      works calls (used_after used c) leads.0 new leads.3 (All-tail IsAtWork c calls work) comes.1 clean room,
    )

-- THE OPENING

-- where no count of faults rose, what is gone is held no more
abbrev GoneBy : (start opened : GroupState) → StartStep start opened → Table → Type 0
GoneBy start opened opening t = (s c : ℕ) → s < t.stripes → c < width t → opening.gone s c ≡ true → Sound (stripe_of t opened.held s) c → ⊥

opens_well : (p : PastGroup) → ((n : ℕ) → Contains (archives_in p.view.first) n → FailedInOpening p.view.shelves n → ⊥) → GoneIsMissing p.execution.start p.execution.opened p.execution.opening
opens_well p steady =
    let e = p.execution in
    subst (GoneBy e.start e.opened e.opening) (sym e.unopened.table)
    (λ s c ls lc gone sound. steady (serving_at p.view.first s c)
    (served_first p.view.first p.view.shelves.taken e.start e.unopened (serving_at p.view.first s c) s sound.0 (e.opening.loses (serving_at p.view.first s c) s sound.0 sound.1.held)) (e.finds s c ls lc gone sound))

pub well_by_log : WellByLog
well_by_log used p well =
    let e = p.execution in
    let all = all_grew (ran_of p).calls (ran_of p).old (ran_of p).new (ran_of p).leads in
    let brought : arrivals p.view.log ≡ all_brought e.calls = ap arrivals (all.1 ∙ ap (λ l. l ++ all.0) e.unopened.log) ∙ all.2 in
    let come = all_fresh e.calls used (had p.view) p.view.shelves.taken e.coherent e.came (subst (ComeEmpty used p.view.shelves.taken) brought well.come) in (
      (opens_well p well.steady, works e.calls used e.opened (state_of p.view) e.leads e.at_work come well.clean well.room),
      used_all e.calls used ∙ ap (with_uses used) (sym brought),
    )
