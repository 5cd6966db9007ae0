-- An execution goes on by one call.
use Rattle.std.proofs.Common.{◌≡◌, ◌<◌, ℕ, List, [], ◌∷◌, ◌++◌, ◌+◌, ◌∙◌, inl, inr, refl, sym, ap, subst, arith, append-nil}
use Rattle.std.proofs.lemmas.Bool.Decides.{eqb_tells}
use Rattle.std.proofs.lemmas.List.Elements.{All-append, All-cons, All-nil, Contains-append_left, Contains-append_right}
use Rattle.std.specs.Prelude.{Result, Ok, Err, Some, None, Contains, All}
use Rattle.pot_bytes.specs.declared.rack.Place.{Place}
use Rattle.pot_outside.specs.Archives.{IsCoherent, Meaning}
use Rattle.pot_outside.specs.Counts.{Rose}
use Rattle.pot_outside.specs.declared.archive.Shelf.{Shelf}
use Rattle.pot_machine.specs.declared.entry.Entry.{Entry}
use Rattle.pot_machine.specs.Table.{Table, width, archives_in, serving_at}
use Rattle.pot_steps.specs.Stripe.{Sound}
use Rattle.pot_steps.specs.Holdings.{stripe_of}
use Rattle.pot_steps.specs.GroupStep.{GroupState}
use Rattle.pot_shelves.specs.Shelves.{Keeps, Shelved, Shelves, plain, numbers_of, shelf_of, given}
use Rattle.pot_shelves.proofs.OpeningCauses.{gone_failed}
use Rattle.pot_group.specs.Group.{GroupParts, GroupView, view_of, state_of, looked_as}
use Rattle.pot_group.specs.Arrivals.{HasArrived, arrivals}
use Rattle.pot_group.specs.Beginning.{Begins, unopened}
use Rattle.pot_group.specs.Frames.{Tries}
use Rattle.pot_group.specs.declared.counting.Counts.{Counts}
use Rattle.pot_group.specs.declared.telling.LogFull.{LogFull}
use Rattle.pot_group.specs.declared.moving.ShelfRefused.{ShelfRefused}
use Rattle.pot_group.specs.declared.sweeping.Swept.{Swept}
use Rattle.pot_group.specs.Calls.{ComesBy, Grows, Made, CountCall, MoveBeginCall, SwapCall}
use Rattle.pot_group.specs.Sweeping.{Look, LooksOn, SweepCall}
use Rattle.pot_machine.specs.Slot.{is_live}
use Rattle.pot_group.specs.Finding.{IsPlace}
use Rattle.pot_execution.specs.Execution.{Call, IsCallAsked, IsAtWork, StepOf, Leads, IsUnopened, HasExecution, AllCame, CameAs, WasTried, blind_of, blinds_of, had}
use Rattle.pot_execution.proofs.Taken.{AreCoherent, Finds, coherent_brings, coherent_keeps, finds_stay}
use Rattle.pot_execution.proofs.Came.{all_came_stay, came_more, had_brought, had_more}
use Rattle.pot_machine.specs.declared.entry.Entry.TheVariants as entry
use Rattle.pot_execution.proofs.Begun.{Adds, blinds_more, look_keeps, none_added, tried_in, tried_last, tried_more}
use Rattle.pot_execution.specs.Execution as call

-- one call more
pub led : (calls : List Call) (c : Call) (old mid new : GroupState) → Leads calls old mid → IsCallAsked c mid → StepOf c mid new → Leads (calls ++ c ∷ []) old new
led [] c old mid new same asked step = (new, subst (λ m. IsCallAsked c m) same asked, subst (λ m. StepOf c m new) same step, refl)
led (x ∷ xs) c old mid new leads asked step = (leads.0, leads.1, leads.2, led xs c leads.0 mid new leads.3 asked step)

-- the archives that a group began with meant the same at their taking
pub unopened_stays : (first : Table) (a b : ℕ → Meaning) (start : GroupState) → ((n : ℕ) → Contains (archives_in first) n → b n ≡ a n) → IsUnopened first a start → IsUnopened first b start
unopened_stays first a b start same u = record {
  table = u.table;
  log = u.log;
  flights = u.flights;
  held = λ n slot h. subst (λ (m : Meaning). start.held n slot ≡ m.held slot) (sym (same n h)) (u.held n slot h);
  heard = λ n h. subst (λ (m : Meaning). start.heard n ≡ m.heard) (sym (same n h)) (u.heard n h);
  none = u.none;
  silent = u.silent;
}

-- what the archives that a group had meant at their taking stays
taken_stays : (old new : GroupView) (entries : List Entry) → HasArrived old.first old.log old.shelves.numbers → Grows old new entries → (n : ℕ) → Contains (had old) n → new.shelves.taken n ≡ old.shelves.taken n
taken_stays old new entries arrived grows n h = grows.taken n (subst (λ ns. Contains ns n) (sym arrived) h)

-- calls at work, and one more
work_more : (cs : List Call) (c : Call) → All IsAtWork cs → IsAtWork c → All IsAtWork (cs ++ c ∷ [])
work_more cs c all one = All-append IsAtWork cs (c ∷ []) all (All-cons IsAtWork c [] one (All-nil IsAtWork))

-- one call more
goes_on : (c : Call) (old new : GroupView) (entries : List Entry) → HasArrived old.first old.log old.shelves.numbers → Grows old new entries
    → CameAs (had new) new.shelves.taken c → Adds c old new → IsCallAsked c (state_of old) → StepOf c (state_of old) (state_of new) → IsAtWork c → (AreCoherent old.shelves → AreCoherent new.shelves) → HasExecution old → HasExecution new
goes_on c old new entries arrived grows came begun asked step work coherent execution = record {
  start = execution.start;
  unopened = subst (λ f. IsUnopened f new.shelves.taken execution.start) (sym grows.first)
      (unopened_stays old.first old.shelves.taken new.shelves.taken execution.start (λ n h. same n (Contains-append_left (archives_in old.first) (arrivals old.log) n h)) execution.unopened);
  opened = execution.opened;
  opening = execution.opening;
  finds = finds_stay old new entries execution.start execution.opened execution.opening arrived grows execution.unopened execution.finds;
  calls = execution.calls ++ c ∷ [];
  at_work = work_more execution.calls c execution.at_work work;
  leads = led execution.calls c execution.opened (state_of old) (state_of new) execution.leads asked step;
  blinds = blinds_more execution.calls c ∙ ap (λ l. l ++ blind_of c) execution.blinds ∙ sym begun.blinds;
  tried = (λ x h. elim (begun.tried x h) [
    | inl y ↦ subst (λ l. WasTried (execution.calls ++ c ∷ []) l x) (sym grows.log) (tried_more execution.calls c old.log entries x (execution.tried x y))
    | inr y ↦ tried_last execution.calls c new.log x y
  ]);
  came = came_more execution.calls c (had new) new.shelves.taken (all_came_stay execution.calls (had old) (had new) old.shelves.taken new.shelves.taken (had_more old new entries grows) same execution.came) came;
  coherent = coherent execution.coherent;
}
  where
    same : (n : ℕ) → Contains (had old) n → new.shelves.taken n ≡ old.shelves.taken n
    same = taken_stays old new entries arrived grows

-- so a call of the group whose step this is
pub after : {told : Type 0} (old new : GroupView) (entries : List Entry) (c : Call) → HasArrived old.first old.log old.shelves.numbers → Grows old new entries
    → CameAs (had new) new.shelves.taken c → Adds c old new → IsCallAsked c (state_of old) → (told → StepOf c (state_of old) (state_of new)) → IsAtWork c → (told → AreCoherent old.shelves → AreCoherent new.shelves)
    → (told → HasExecution old) → told → HasExecution new
after old new entries c arrived grows came begun asked step work coherent execution tells =
    goes_on c old new entries arrived grows came begun asked (step tells) work (coherent tells) (execution tells)

-- one that keeps the archives
pub after_kept : {told : Type 0} (old new : GroupView) (entries : List Entry) (c : Call) → HasArrived old.first old.log old.shelves.numbers → Grows old new entries → Keeps old.shelves new.shelves
    → CameAs (had new) new.shelves.taken c → Adds c old new → IsCallAsked c (state_of old) → (told → StepOf c (state_of old) (state_of new)) → IsAtWork c
    → (told → HasExecution old) → told → HasExecution new
after_kept old new entries c arrived grows keeps came begun asked step work execution tells =
    goes_on c old new entries arrived grows came begun asked (step tells) work (coherent_keeps old.shelves new.shelves keeps) (execution tells)

-- nothing changes
pub still : {told : Type 0} (old new : GroupView) → new ≡ old → (told → HasExecution old) → told → HasExecution new
still old new same execution tells = subst (λ (w : GroupView). HasExecution w) (sym same) (execution tells)

-- ITS OPENING

no_shelf : {A : Type 0} (shelves : List (Shelf A)) (n : ℕ) → (Contains (numbers_of shelves) n → ⊥) → shelf_of shelves n ≡ None
no_shelf [] n none = refl
no_shelf (s ∷ ss) n none = elim (eqb_tells s.number n) [
  | inl e ↦ absurd (none (0, omega arith, e.1))
  | inr e ↦ rw e.0 (no_shelf ss n (λ h. none (Contains-append_right (s.number ∷ []) (numbers_of ss) n h)))
]

pub begun : {A : Type 0} (told : Type 0) (meaning : A → Meaning) (number : ℕ) (t : Table) (handed : List (Shelf A)) (g : GroupParts A)
    → numbers_of handed ≡ archives_in t → Begins told meaning number t handed g → told → HasExecution (view_of meaning g)
begun {A} told meaning number t handed g apart begins tells = record {
  start = first;
  unopened = subst (λ f. IsUnopened f now.taken first) (sym begins.first) here;
  opened = state_of (view_of meaning g);
  opening = begins.step tells;
  finds = subst (Finds now first (state_of (view_of meaning g)) (begins.step tells)) (sym begins.first) found;
  calls = [];
  at_work = All-nil IsAtWork;
  leads = refl;
  blinds = sym begins.blinds;
  tried = (λ x h. absurd (no_contents x (subst (λ (l : Tries). Contains l x) begins.tried h)));
  came = tt;
  coherent = λ n. subst IsCoherent (sym (meant n)) (begins.marks.coherent tells n);
}
  where
    now : Shelves
    now = plain meaning g.shelves

    then_taken : Shelves
    then_taken = plain meaning begins.taken

    then_read : Shelves
    then_read = plain meaning begins.read

    first : GroupState
    first = state_of (view_of meaning (unopened number t begins.taken))

    no_contents : (x : ℕ × List ℕ) → Contains [] x → ⊥
    no_contents x h = omega (arith, h.1)

    -- what an archive meant when it was taken
    meant : (n : ℕ) → now.taken n ≡ then_taken.taken n
    meant n = ap (λ (s : Shelved A). (plain meaning s).taken n) begins.marked ∙ begins.opens.stays.keeps.taken n

    -- the counts of faults at both marks
    taken_at : (n : ℕ) → now.faults_taken n ≡ then_taken.faults n
    taken_at n = ap (λ (s : Shelved A). (plain meaning s).faults_taken n) begins.marked ∙ begins.opens.stays.keeps.faults_taken n ∙ begins.marks.faults n

    opened_at : (n : ℕ) → now.faults_opened n ≡ then_read.faults n
    opened_at n = begins.opened.faults n ∙ ap (λ (s : Shelved A). (plain meaning s).faults n) begins.marked

    found : Finds now first (state_of (view_of meaning g)) (begins.step tells) t
    found s c ls lc gone sound =
        let rose = gone_failed told t.stripes t g.table g.log then_taken then_read begins.opens tells s c ls lc (sym (ap (λ f. f s c) (begins.same_gone tells)) ∙ gone)
        (subst (λ h. Sound (stripe_of t h s) c) (ap (λ (x : Shelved A). (plain meaning x).held) begins.marked) sound) in
        subst (λ x. Rose x (now.faults_opened (serving_at t s c))) (sym (taken_at (serving_at t s c)))
        (subst (λ y. Rose (then_taken.faults (serving_at t s c)) y) (sym (opened_at (serving_at t s c))) rose)

    absent : (n : ℕ) → (Contains (archives_in t) n → ⊥) → shelf_of begins.taken.shelves n ≡ None
    absent n none = no_shelf begins.taken.shelves n (λ h. none (subst (λ ns. Contains ns n) (ap numbers_of begins.shelves ∙ apart) h))

    here : IsUnopened t now.taken first
    here = record {
      table = refl;
      log = refl;
      flights = refl;
      held = λ n slot h. sym (ap (λ (m : Meaning). m.held slot) (meant n ∙ begins.marks.meant n));
      heard = λ n h. sym (ap (λ (m : Meaning). m.heard) (meant n ∙ begins.marks.meant n));
      none = λ n slot h. ap (λ o. given (λ x. (meaning x).held slot) None o) (absent n h);
      silent = λ n h. ap (λ o. given (λ x. (meaning x).heard) [] o) (absent n h);
    }

-- THE CALLS OF TWO KINDS

pub counted : (told : Type 0) (old new : GroupView) (job : ℕ) (result : Result Counts LogFull) → HasArrived old.first old.log old.shelves.numbers
    → Made (CountCall told job result) old new → (told → HasExecution old) → told → HasExecution new
counted told old new job (Ok counts) arrived made execution = after old new made.0 (call.Count job) arrived made.1 tt (none_added old new refl (made.2.4.blinds, made.2.4.tried)) tt made.2.3 tt (λ tells. subst AreCoherent (sym made.2.2)) execution
counted told old new job (Err e) arrived made execution = still old new made.2.1 execution

-- an archive came, or was handed back
module _ {A : Type 0} (told : Type 0) (meaning : A → Meaning) (old new : GroupView) (job c : ℕ) (shelf : Shelf A) (arrived : HasArrived old.first old.log old.shelves.numbers) (within : c < width old.table) where
  here : (e : Entry) {entries : List Entry} → ComesBy told meaning e shelf old new entries → Contains (arrivals (e ∷ [])) shelf.number
      → Contains (had new) shelf.number × ((slot : ℕ) → (meaning shelf.archive).held slot ≡ (new.shelves.taken shelf.number).held slot) × ((meaning shelf.archive).heard ≡ (new.shelves.taken shelf.number).heard)
  here e by brings = (
    had_brought old new e shelf.number by.comes.acts.log brings,
    (λ slot. sym (ap (λ (m : Meaning). m.held slot) by.comes.brings.taken)),
    sym (ap (λ (m : Meaning). m.heard) by.comes.brings.taken),
  )

  pub move_begun : (result : Result (Unit {0}) (ShelfRefused A)) → Made (MoveBeginCall told meaning job c shelf result) old new → (told → HasExecution old) → told → HasExecution new
  move_begun (Ok u) made execution =
      after old new made.0 (call.MoveBegin job c shelf.number (meaning shelf.archive).held (meaning shelf.archive).heard) arrived made.1 (here (entry.MoveBegin job c shelf.number) made.2 (0, omega arith, refl)) (none_added old new refl (made.2.comes.acts.blinds, made.2.comes.acts.tried)) within made.2.comes.steps tt
      (coherent_brings told shelf.number (meaning shelf.archive) old.shelves new.shelves made.2.comes.brings) execution
  move_begun (Err r) made execution = still old new made.2.0.same execution

  pub swapped : (result : Result ℕ (ShelfRefused A)) → Made (SwapCall told meaning job c shelf result) old new → (told → HasExecution old) → told → HasExecution new
  swapped (Ok n) made execution =
      after old new made.0 (call.Swap job c shelf.number (meaning shelf.archive).held (meaning shelf.archive).heard) arrived made.1 (here (entry.Swapped job c shelf.number) made.2.0 (0, omega arith, refl)) (none_added old new refl (made.2.0.comes.acts.blinds, made.2.0.comes.acts.tried)) within made.2.0.comes.steps tt
      (coherent_brings told shelf.number (meaning shelf.archive) old.shelves new.shelves made.2.0.comes.brings) execution
  swapped (Err r) made execution = still old new made.2.0.same execution

-- LOOKS IN A ROW

is_there : (old : GroupView) (s c : ℕ) (p : Place) → IsPlace old.number old.table is_live s c (Some p) → (p.stripe < old.table.stripes) × (p.column < width old.table)
is_there old s c p is = is.1.0.0

-- what looks leave as it was
looks_keep : (told : Type 0) (job s c : ℕ) (looks : List Look) (old new : GroupView) (entries : List Entry) → LooksOn told job s c looks old new entries → AreCoherent old.shelves → AreCoherent new.shelves
looks_keep told job s c [] old new entries goes all = subst (λ (w : GroupView). AreCoherent w.shelves) (sym goes.1) all
looks_keep told job s c ((p, answer) ∷ rest) old new entries goes all =
    looks_keep told job p.stripe (p.column + 1) rest goes.1 new goes.3 goes.6 (coherent_keeps old.shelves goes.1.shelves goes.5.stays.keeps all)

-- the calls of a sweep, behind calls that came before it
looked_on : {told : Type 0} (ns : List ℕ) (taken : ℕ → Meaning) (job s c : ℕ) (looks : List Look) (start : GroupState) (calls : List Call) (old new : GroupView) (entries : List Entry)
    → LooksOn told job s c looks old new entries → told → Leads calls start (state_of old) → AllCame ns taken calls → All IsAtWork calls
    → (all : List Call) × Leads all start (state_of new) × (blinds_of all ≡ blinds_of calls) × AllCame ns taken all × All IsAtWork all × ((c : Call) → Contains calls c → Contains all c)
looked_on ns taken job s c [] start calls old new entries goes tells leads came work = (calls, subst (λ (w : GroupView). Leads calls start (state_of w)) (sym goes.1) leads, refl, came, work, λ c h. h)
looked_on ns taken job s c ((p, answer) ∷ rest) start calls old new entries goes tells leads came work =
    let mid = goes.1 in
    let one = call.Look job p.stripe p.column (looked_as answer goes.0) in
    let more = looked_on ns taken job p.stripe (p.column + 1) rest start (calls ++ one ∷ []) mid new goes.3 goes.6 tells (led calls one start (state_of old) (state_of mid) leads (is_there old s c p goes.4) (goes.5.step tells)) (came_more calls one ns taken came tt) (work_more calls one work tt) in
    (more.0, more.1, more.2 ∙ blinds_more calls one ∙ append-nil (blinds_of calls), more.3, more.4, λ c h. more.5 c (Contains-append_left calls (one ∷ []) c h))

pub swept : (told : Type 0) (old new : GroupView) (job s c : ℕ) (result : Swept) → HasArrived old.first old.log old.shelves.numbers
    → Made (SweepCall told job s c result) old new → (told → HasExecution old) → told → HasExecution new
swept told old new job s c result arrived made execution tells =
    let was = execution tells in
    let same = taken_stays old new made.0 arrived made.1 in
    let all = looked_on (had new) new.shelves.taken job s c made.2.looks was.opened was.calls old new made.0 made.2.goes tells was.leads
    (all_came_stay was.calls (had old) (had new) old.shelves.taken new.shelves.taken (had_more old new made.0 made.1) same was.came) was.at_work in
    record {
      start = was.start;
      unopened = subst (λ f. IsUnopened f new.shelves.taken was.start) (sym made.1.first)
          (unopened_stays old.first old.shelves.taken new.shelves.taken was.start (λ n h. same n (Contains-append_left (archives_in old.first) (arrivals old.log) n h)) was.unopened);
      opened = was.opened;
      opening = was.opening;
      finds = finds_stay old new made.0 was.start was.opened was.opening arrived made.1 was.unopened was.finds;
      calls = all.0;
      at_work = all.4;
      leads = all.1;
      blinds = all.2 ∙ was.blinds ∙ sym (look_keeps told job s c made.2.looks old new made.0 made.2.goes).0;
      tried = (λ x h. let w : WasTried was.calls old.log x = was.tried x (subst (λ (l : Tries). Contains l x) (look_keeps told job s c made.2.looks old new made.0 made.2.goes).1 h) in
          subst (λ l. WasTried all.0 l x) (sym made.1.log) (tried_in was.calls all.0 old.log made.0 x all.5 w));
      came = all.3;
      coherent = looks_keep told job s c made.2.looks old new made.0 made.2.goes was.coherent;
    }
