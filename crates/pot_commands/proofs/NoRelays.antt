-- Which commands begin no relay.
use Rattle.std.proofs.Common.{◌≡◌, ◌≢◌, ◌<◌, ◌≤◌, ⊎_elim, inl, inr, ℕ, suc, Bool, true, false, List, [], ◌∷◌, ◌++◌, length, refl, ap, sym, ◌∙◌, subst, arith}
use Rattle.std.specs.Prelude.{Option, Some, None, Result, Ok, Err, filter, Contains}
use Rattle.std.proofs.lemmas.Bool.{cases_eq, cases_lt}
use Rattle.std.proofs.lemmas.List.Elements.{filter-append}
use Rattle.pot_bytes.specs.declared.memory.NoMemory.{NoMemory}
use Rattle.pot_bytes.specs.declared.rack.Rack.{Rack}
use Rattle.pot_bytes.proofs.Elements.{element_at}
use Rattle.pot_machine.specs.declared.entry.Entry.{Entry}
use Rattle.pot_machine.specs.declared.entry.Entry.TheVariants.{Begin, Fault}
use Rattle.pot_machine.specs.Logs.{is_of, own}
use Rattle.pot_steps.specs.GroupStep.{gone_entries, skips}
use Rattle.pot_script.specs.declared.command.Command.{Command}
use Rattle.pot_script.specs.declared.command.Command.TheVariants as commands
use Rattle.pot_script.specs.declared.reply.Reply.{Reply}
use Rattle.pot_script.specs.declared.reply.Reply.TheVariants as replies
use Rattle.pot_replies.specs.Jobs.{is_look, is_move_begin, is_move_of, EachIs}
use Rattle.pot_replies.specs.Settings.{Setting}
use Rattle.pot_replies.specs.Sections.{Section, JobEntries, mine, IsOfJobs, MovesThenRest, work_of}
use Rattle.pot_replies.specs.Stores.{in_group, StopsStore}
use Rattle.pot_replies.specs.Listings.{StatusLine, Group, GroupFull, IsStatusLine}
use Rattle.pot_mend.specs.Moves.{MoveRow}
use Rattle.pot_mend.specs.declared.fault.MendFault.{MendFault}
use Rattle.pot_mend.specs.declared.fault.MendFault.TheVariants as fault
use Rattle.pot_shared.specs.Blinds.{is_begin}
use Rattle.pot_shared.proofs.BlindLemmas.{none_of_two}
use Rattle.pot_store.proofs.BlindLemmas.{gone_begins, one_begins, puts_begin, skips_begin, unkept_begins}
use Rattle.pot_commands.specs.declared.beginning.Task.{Task}
use Rattle.pot_commands.specs.declared.beginning.Task.TheVariants as task
use Rattle.pot_commands.specs.Begun.{HasTask}
use Rattle.pot_commands.specs.Jobs.{Says}
use Rattle.pot_commands.specs.Steps.{IsStill}
use Rattle.pot_commands.specs.Rows.{IsStoreReply, IsScrubReply, IsListReply, IsReplaceReply, IsMigrateReply, AreStatusReplies, AreReplies, IsIdleCommand}
use Rattle.pot_commands.proofs.NoMoves.{left, not_first, taken}

-- a command that mends nothing
abbrev pub MendsNone : Command → Type 0
MendsNone (commands.Fetch name) = ⊥
MendsNone (commands.Renew name geometry) = ⊥
MendsNone (commands.Repair group) = ⊥
MendsNone c = Unit {0}

-- ENTRIES OF WHICH NONE IS A BEGIN

none_same : (es fs : List Entry) → es ≡ fs → filter is_begin fs ≡ [] → filter is_begin es ≡ []
none_same es fs same h = ap (filter is_begin) same ∙ h

none_each : (es : List Entry) → ((e : Entry) → Contains es e → is_begin e ≡ false) → filter is_begin es ≡ []
none_each [] h = refl
none_each (e ∷ es) h = rw (h e (0, omega arith, refl)) (none_each es (λ x (k, lt, at). h x (suc k, omega (arith, lt), at)))

looks_begin : (e : Entry) → is_look e ≡ true → is_begin e ≡ false
looks_begin (Begin job s c) h = absurd (cc h)
looks_begin _ h = refl

moves_begin : (c : ℕ) (e : Entry) → is_move_of c e ≡ true → is_begin e ≡ false
moves_begin c (Begin job s d) h = absurd (cc h)
moves_begin c _ h = refl

move_begins : (e : Entry) → is_move_begin e ≡ true → is_begin e ≡ false
move_begins (Begin job s c) h = absurd (cc h)
move_begins _ h = refl

looks_none : (es : List Entry) → EachIs is_look es → filter is_begin es ≡ []
looks_none es each = none_each es (λ e there. looks_begin e (each e there))

moves_none : (c : ℕ) (es : List Entry) → EachIs (is_move_of c) es → filter is_begin es ≡ []
moves_none c es each = none_each es (λ e there. moves_begin c e (each e there))

-- and so is none of those that pass a test
sub_at : (of : Entry → Bool) (e : Entry) (es : List Entry) → is_begin e ≡ false → filter is_begin (filter of es) ≡ [] → (b : Bool) → of e ≡ b → filter is_begin (filter of (e ∷ es)) ≡ []
sub_at of e es not more true is = ap (filter is_begin) (taken of e es is) ∙ (left is_begin e (filter of es) not ∙ more)
sub_at of e es not more false is = ap (filter is_begin) (left of e es is) ∙ more

sub_none : (of : Entry → Bool) (es : List Entry) → filter is_begin es ≡ [] → filter is_begin (filter of es) ≡ []
sub_none of [] none = refl
sub_none of (e ∷ es) none = (let p = not_first is_begin e es none (is_begin e) refl in sub_at of e es p.0 (sub_none of es p.1) (of e) refl)

-- those that begin moves
pub begun_none : (job : ℕ) (es : List Entry) → EachIs is_move_begin es → filter is_begin (own job es) ≡ []
begun_none job es each = sub_none _ es (none_each es (λ e there. move_begins e (each e there)))

-- what a job logged in one group, and nothing in any other
only_in : (m : JobEntries) (group : ℕ) → ((h : ℕ) → h ≢ group → m.own h ≡ []) → filter is_begin (m.own group) ≡ [] → (g : ℕ) → filter is_begin (m.own g) ≡ []
only_in m group others here g = ⊎_elim
    (λ (e : g ≡ group). subst (λ k. filter is_begin (m.own k) ≡ []) (sym e) here)
    (λ (ne : g ≢ group). ap (filter is_begin) (others g ne))
    (cases_eq g group)

-- THE ENTRIES OF A STORE

stops_none : (s : Setting) (job : ℕ) (name file : List ℕ) (g : ℕ) (ends : List Entry) (m : JobEntries) → StopsStore s job name file g ends m → filter is_begin ends ≡ []
    → (h : ℕ) → filter is_begin (m.own h) ≡ []
stops_none s job name file g ends m stops none h = ⊎_elim
    (λ (e : g ≡ h). subst (λ k. filter is_begin (m.own k) ≡ []) e
    (none_same (m.own g) (stops.sofar ++ ends) stops.here (none_of_two stops.sofar ends (puts_begin job (in_group g stops.placed) stops.sofar stops.puts_here) none)))
    (λ (ne : g ≢ h). puts_begin job (in_group h stops.placed) (m.own h) (stops.puts h (λ e. ne (sym e))))
    (cases_eq g h)

last_none : (job : ℕ) (e : Entry) (column : ℕ) → (stripe : ℕ) × (e ≡ Fault job stripe column) → is_begin e ≡ false
last_none job e column (stripe, is) = ap is_begin is

store_none : (s : Setting) (job : ℕ) (name file : List ℕ) (r : Reply) (w : Section) → IsStoreReply s job name file r w → (g : ℕ) → filter is_begin (own job (w.added g)) ≡ []
store_none s job name file (replies.Stored of pieces shards) w row g = puts_begin job (in_group g row.1.placed) (own job (w.added g)) (row.1.puts g)
store_none s job name file (replies.Long of size) w row g = ap (filter is_begin) (row.2.silent.0 g)
store_none s job name file (replies.Exists of) w row g = ap (filter is_begin) (row.1.groups g)
store_none s job name file (replies.Fault group column) w row g =
    stops_none s job name file group (skips job row.passed ++ row.last ∷ []) (mine job w) row.stops
    (none_of_two (skips job row.passed) (row.last ∷ []) (skips_begin job row.passed)
    (one_begins row.last (⊎_elim (last_none job row.last column) (unkept_begins s.rack.columns job row.stops.next column row.last) row.fault)))
    g
store_none s job name file (replies.Full group) w row g =
    stops_none s job name file group (skips job row.passed) (mine job w) row.stops (skips_begin job row.passed) g
store_none s job name file (replies.LogFull group) w row g =
    stops_none s job name file group (skips job row.passed ++ gone_entries job row.stripe row.gone) (mine job w) row.stops
    (none_of_two (skips job row.passed) (gone_entries job row.stripe row.gone) (skips_begin job row.passed) (gone_begins job row.stripe row.gone))
    g
store_none s job name file replies.IndexLogFull w row g = ap (filter is_begin) (row.1.silent.0 g)
store_none s job name file _ w row g = absurd row

-- THOSE OF A SCRUB, A LIST AND A STATUS

scrub_none : (s : Setting) (job group : ℕ) (r : Reply) (w : Section) → IsScrubReply s job group r w → (g : ℕ) → filter is_begin (own job (w.added g)) ≡ []
scrub_none s job group (replies.Scrubbed of seen gone) w row g = only_in (mine job w) group row.1.only.0 (looks_none (own job (w.added group)) row.1.looks.kinds) g
scrub_none s job group (replies.Fault of column) w row g =
    only_in (mine job w) group row.1.only.0
    (none_same (own job (w.added group)) (row.1.looks ++ Fault job row.1.stripe column ∷ []) row.1.own_is
    (none_of_two row.1.looks (Fault job row.1.stripe column ∷ []) (looks_none row.1.looks row.1.kinds) refl)) g
scrub_none s job group (replies.LogFull of) w row g = only_in (mine job w) group row.1.only.0 (looks_none (own job (w.added group)) row.1.looks.kinds) g
scrub_none s job group _ w row g = absurd row

list_none : (s : Setting) (job : ℕ) (r : Reply) (w : Section) → IsListReply s job r w → (g : ℕ) → filter is_begin (own job (w.added g)) ≡ []
list_none s job (replies.Names names) w row g = ap (filter is_begin) (row.groups g)
list_none s job replies.IndexLogFull w row g = ap (filter is_begin) (row.silent.0 g)
list_none s job _ w row g = absurd row

line_none : (s : Setting) (job g : ℕ) (line : StatusLine) (w : Section) → IsStatusLine s job g line w → filter is_begin (own job (w.added g)) ≡ []
line_none s job g (Group counts) w is = ap (filter is_begin) is.own_is
line_none s job g GroupFull w is = ap (filter is_begin) is.none

status_none : (s : Setting) (job : ℕ) (rs : List Reply) (w : Section) → AreStatusReplies s job rs w → (g : ℕ) → filter is_begin (own job (w.added g)) ≡ []
status_none s job rs w row g = ⊎_elim
    (λ (lt : g < length row.lines). let x = element_at row.lines g lt in line_none s job g x.0 w (row.status.each g x.0 x.1))
    (λ (le : length row.lines ≤ g). ap (filter is_begin) (row.status.elsewhere g (let c = row.status.count in omega (arith, le, c))))
    (cases_lt g (length row.lines))

-- THOSE OF A REPLACE AND OF A MOVE

replace_none : (s : Setting) (job from to : ℕ) (r : Reply) (m : JobEntries) → IsReplaceReply s job from to r m → (g : ℕ) → filter is_begin (m.own g) ≡ []
replace_none s job from to (replies.Replaced old new slots) m row g =
    only_in m row.2.group row.2.only.0 (ap (filter is_begin) row.2.own_is) g
replace_none s job from to (replies.NoArchive number) m row g = ap (filter is_begin) (row.1.1.0 g)
replace_none s job from to (replies.InUse number) m row g = ap (filter is_begin) (row.1.2.0 g)
replace_none s job from to (replies.LogFull group) m row g = ap (filter is_begin) (row.silent.0 g)
replace_none s job from to _ m row g = absurd row

faulted_none : (job c stripe column : ℕ) (es sofar : List Entry) → es ≡ sofar ++ Fault job stripe column ∷ [] → EachIs (is_move_of c) sofar → filter is_begin es ≡ []
faulted_none job c stripe column es sofar is moves =
    none_same es (sofar ++ Fault job stripe column ∷ []) is (none_of_two sofar (Fault job stripe column ∷ []) (moves_none c sofar moves) refl)

-- a move, by its work
migrate_none : (s : Setting) (before begun : ℕ → List Entry) (job from to : ℕ) (r : Reply) (w : Section) → IsMigrateReply s before begun job from to r w → (g : ℕ) → filter is_begin (own job (w.added g)) ≡ []
migrate_none s before begun job from to (replies.Migrated old new slots) w row g =
    only_in (mine job w) row.2.group row.2.only.0 (moves_none row.2.column (own job (w.added row.2.group)) row.2.moves) g
migrate_none s before begun job from to (replies.NoArchive number) w row g = ap (filter is_begin) (row.1.2.0 g)
migrate_none s before begun job from to (replies.InUse number) w row g = ap (filter is_begin) (row.2.0 g)
migrate_none s before begun job from to (replies.Fault group column) w row g =
    only_in (mine job w) group row.only.0 (faulted_none job column row.stripe column (own job (w.added group)) row.sofar row.own_is row.moves) g
migrate_none s before begun job from to (replies.LogFull group) w (inl row) g = ap (filter is_begin) (row.silent.0 g)
migrate_none s before begun job from to (replies.LogFull group) w (inr row) g =
    only_in (mine job w) group row.only.0 (moves_none row.column (own job (w.added group)) row.moves) g
migrate_none s before begun job from to _ w row g = absurd row

-- the moves that it began, and then its work
both_none : (job : ℕ) (w : Section) (h : MovesThenRest w) → ((g : ℕ) → filter is_begin (own job (h.worked g)) ≡ []) → (g : ℕ) → filter is_begin (own job (w.added g)) ≡ []
both_none job w h worked g =
    ap (λ es. filter is_begin (own job es)) (h.parts g)
    ∙ (ap (filter is_begin) (filter-append (is_of job) (h.begun g) (h.worked g))
    ∙ none_of_two (own job (h.begun g)) (own job (h.worked g)) (begun_none job (h.begun g) (h.begins g)) (worked g))

-- COMMANDS

-- a command that mends nothing and has these replies began none
pub replied_none : (s : Setting) (job : ℕ) (c : Command) (rs : List Reply) (w : Section) → MendsNone c → IsOfJobs job 1 w → AreReplies s job c rs w → (g : ℕ) → filter is_begin (own job (w.added g)) ≡ []
replied_none s job (commands.Store name file) (r ∷ []) w mends its row g = store_none s job name file r w row g
replied_none s job (commands.Fetch name) rs w mends its row g = absurd mends
replied_none s job (commands.Renew name geometry) rs w mends its row g = absurd mends
replied_none s job (commands.Repair group) rs w mends its row g = absurd mends
replied_none s job commands.List (r ∷ []) w mends its row g = list_none s job r w row g
replied_none s job commands.Status rs w mends its row g = status_none s job rs w row g
replied_none s job (commands.Scrub group) (r ∷ []) w mends its row g = scrub_none s job group r w row g
replied_none s job (commands.Replace from to) (r ∷ []) w mends its row g = replace_none s job from to r (mine job w) (row its) g
replied_none s job (commands.Migrate from to) (r ∷ []) w mends its row g =
    (let m = row its in both_none job w m.0 (migrate_none s w.before m.0.begun job from to r (work_of w m.0) m.1) g)
replied_none s job _ _ w mends its row g = absurd row

-- and so did one that was left
pub idle_none : (s : Setting) (job : ℕ) (c : Command) (w : Section) → MendsNone c → IsIdleCommand s job c w → (g : ℕ) → filter is_begin (own job (w.added g)) ≡ []
idle_none s job (commands.Fetch name) w mends is g = absurd mends
idle_none s job (commands.Renew name geometry) w mends is g = absurd mends
idle_none s job _ w mends is g = ap (filter is_begin) (is.0 g)

-- LINES OF A BATCH

moved_none : (s : Setting) (job h c : ℕ) (result : Result ℕ MendFault) (w : Section) → MoveRow s job h c result w → (g : ℕ) → filter is_begin (own job (w.added g)) ≡ []
moved_none s job h c (Ok slots) w row g = only_in (mine job w) h row.only.0 (moves_none c (own job (w.added h)) row.moves) g
moved_none s job h c (Err (fault.Faulted group column)) w row g =
    only_in (mine job w) h row.2.only.0 (faulted_none job c row.2.stripe c (own job (w.added h)) row.2.sofar row.2.own_is row.2.moves) g
moved_none s job h c (Err (fault.LogFull group)) w row g = only_in (mine job w) h row.1.only.0 (moves_none c (own job (w.added h)) row.1.moves) g

-- one that moves nothing
still_none : (s : Setting) (groups job : ℕ) (c : Command) (r : Reply) (w : Section) → MendsNone c → IsStill groups c → AreReplies s job c (r ∷ []) w → (g : ℕ) → filter is_begin (own job (w.added g)) ≡ []
still_none s groups job (commands.Store name file) r w mends still row g = store_none s job name file r w row g
still_none s groups job (commands.Scrub group) r w mends still row g = scrub_none s job group r w row g
still_none s groups job (commands.Fetch name) r w mends still row g = absurd mends
still_none s groups job (commands.Renew name geometry) r w mends still row g = absurd mends
still_none s groups job (commands.Repair group) r w mends still row g = absurd mends
still_none s groups job _ r w mends still row g = absurd still

pub says_none : (s : Setting) (rack : Rack) (job : ℕ) (c : Command) (t : Task) (answer : Option (Result Reply NoMemory)) (w : Section) → MendsNone c → HasTask rack c t → Says s job c t answer w
    → (g : ℕ) → filter is_begin (own job (w.added g)) ≡ []
says_none s rack job c task.Line None w mends fits says g = absurd says
says_none s rack job c task.Line (Some (Ok r)) w mends fits says g = still_none s rack.groups job c r w mends fits says g
says_none s rack job c task.Line (Some (Err e)) w mends fits says g = idle_none s job c w mends says g
says_none s rack job (commands.Migrate from to) (task.Move at) None w mends fits says g = absurd says
says_none s rack job (commands.Migrate from to) (task.Move at) (Some (Ok r)) w mends fits says g = moved_none s job at.group at.column says.0 w says.2 g
says_none s rack job (commands.Migrate from to) (task.Move at) (Some (Err e)) w mends fits says g = absurd says
says_none s rack job c (task.Told r) answer w mends fits says g = ap (filter is_begin) (says.1.0 g)
says_none s rack job _ (task.Move at) answer w mends fits says g = absurd fits
