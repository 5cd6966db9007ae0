-- A first session of a small rack in which nothing was done: what is asked of a first session can
-- be had.
use Rattle.std.proofs.Common.{◌≡◌, inl, inr, ℕ, zero, suc, ◌<◌, ◌≤◌, List, [], ◌∷◌, ◌++◌, Some, None, Bool, true, false, IsTrue, refl, sym, subst, arith, length}
use Rattle.std.specs.Prelude.{All, Contains, slice_get}
use Rattle.std.proofs.lemmas.List.Elements.{All-nil, All-cons}
use Rattle.std.proofs.lemmas.Map.Made.{IsDistinct-from_count}
use Rattle.std.proofs.lemmas.Bool.Decides.{nat_tests}
use Rattle.std.proofs.lemmas.Option.{same_Some}
use Rattle.pot_bytes.specs.Rack.{IsRack}
use Rattle.pot_bytes.proofs.Elements.{none_contained}
use Rattle.pot_outside.specs.Accounts.{Transition}
use Rattle.pot_outside.specs.Rooms.{RoomState}
use Rattle.pot_machine.specs.declared.entry.Entry.{Entry}
use Rattle.pot_machine.specs.declared.slot.SlotState.{SlotState}
use Rattle.pot_machine.specs.declared.slot.SlotState.TheVariants.{Void}
use Rattle.pot_machine.specs.Column.{names}
use Rattle.pot_machine.specs.Slot.{is_live}
use Rattle.pot_machine.specs.Making.{empty_table}
use Rattle.pot_machine.specs.Rules.{IsTable}
use Rattle.pot_machine.specs.Table.{Table, archives_in, column_at, slot_at, width}
use Rattle.pot_machine.proofs.Empty.{empty_is_table, empty_void}
use Rattle.pot_steps.specs.Flights.{Stands}
use Rattle.pot_steps.specs.GroupStep.{GroupState, StartStep, entries_where, opening}
use Rattle.pot_steps.proofs.Opening.{start_makes}
use Rattle.pot_shelves.specs.Shelves.{Shelves, nothing}
use Rattle.pot_group.specs.Causes.{archives_of}
use Rattle.pot_group.specs.Group.{GroupView, IsSettled}
use Rattle.pot_image.specs.Images.{Contents}
use Rattle.pot_image.specs.Rules.{FitsTable, FitsTogether}
use Rattle.pot_replies.specs.Sections.{Section}
use Rattle.pot_shared.specs.Leaving.{LeavesGroup}
use Rattle.pot_execution.specs.Execution.{HasExecution}
use Rattle.pot_session.specs.Desks.{begun}
use Rattle.pot_session.specs.Making.{empty_contents}
use Rattle.pot_session.specs.Serving.{IsInRoom, Leaves, ShareNone}
use Rattle.pot_shared.specs.Hands.{AreApart}
use Rattle.pot_world.specs.Kept.{IsKept}
use Rattle.pot_world.specs.Reached.{EachGroup, Reaches, first_group, first_groups, first_site}
use Rattle.pot_world.proofs.Reaching.{reached_keeps}
use Rattle.std.specs.Cmp.{nat_eq_equiv}
use Rattle.std.specs.Prelude.{◌==◌}
use Rattle.pot_bytes.specs.Rack.{log_bound}
use Rattle.pot_machine.specs.Machine.{Replays}
use Rattle.pot_group.proofs.Opened.{handed_all}
use Rattle.pot_index.specs.Fits.{FitsRack}
use Rattle.pot_index.specs.Index.{NamesAscend, names_read}
use Rattle.std.specs.List.Sorted.{IsStrictlySortedBy}
use Rattle.pot_image.specs.Rules.{IsRecordOver}
use Rattle.pot_shared.specs.Groups.{IsOpened}
use Rattle.pot_execution.specs.Execution.{IsAtWork}
use Rattle.pot_refinement.specs.Refinement.{IsArchiveEmpty, is_clean}
use Rattle.pot_session.specs.Serving.{RoseInRoom, RoseOftenInRoom}
use Rattle.pot_shared.proofs.OpeningFew.{none_served}
use Rattle.pot_shared.proofs.Times.{times_there}
use Rattle.run_examples.specs.Quiet.{QuietSession, small}
use Rattle.pot_theorem.specs.Sessions.{AreInARow, ClosedSession}
use Rattle.pot_theorem.specs.Hard.{TheHardProperty}

-- THE RACK AND ITS GROUP
pub is_rack : IsRack small
is_rack = record {
  geometry = record { fragments = (omega arith, omega arith); need = (omega arith, omega arith); shards = omega arith; blur = omega arith };
  groups = (omega arith, omega arith);
  columns = (omega arith, omega arith);
  parity = (omega arith, omega arith);
  stripes = (omega arith, omega arith);
}

abbrev pub bare : Table
bare = empty_table small 0

pub is_table : IsTable bare
is_table = empty_is_table small 0 is_rack

pub void : (s k : ℕ) → slot_at bare s k ≡ Void
void s k = empty_void small 0 is_rack s k

pub none_live : (s k : ℕ) → IsTrue (is_live (slot_at bare s k)) → ⊥
none_live s k live = no_true (subst (λ (x : SlotState). IsTrue (is_live x)) (void s k) live)
  where
    no_true : IsTrue (is_live Void) → ⊥
    no_true h = cc

pub kept : IsKept (first_group small 0)
unfolding EachGroup first_groups Reaches
kept = (reached_keeps small [] (first_site small) is_rack refl).0.0

-- AN OPENING THAT FINDS NOTHING

abbrev pub empty_state : GroupState
empty_state = record { table = bare; log = []; held = λ n k. None; heard = λ n. []; flights = [] }

abbrev pub never : ℕ → ℕ → Bool
never s k = false

pub none_logged : opening (width bare) bare.stripes never never ≡ []
unfolding opening entries_where
none_logged = refl

pub nothing_is : {X : Type 0} {b : List ℕ} → None ≡ Some b → X
nothing_is e = absurd (cc)

pub not_both : {X : Type 0} → false ≡ true → X
not_both e = absurd (cc)

unfoldable pub opens_still : StartStep empty_state empty_state
opens_still = record {
  no_relays = refl;
  no_flights = refl;
  no_log = refl;
  read = λ s k. None;
  gone = never;
  broke = never;
  failed = never;
  missing = λ s k ls lk e f sound. not_both e;
  reads = λ s k b ls lk e. nothing_is e;
  finds = λ s ls. record { found = λ k lk e. not_both e; left = λ k lk e live. absurd (none_live s k live) };
  breaks = λ s ls. inr (record { none = λ k lk. refl; why = inl ((first_group small 0).written s, kept.filled s ls) });
  logs = record { log = sym none_logged; room = omega arith; flights = refl; heard = λ n. refl };
  replay = subst (λ l. Replays bare l bare) (sym none_logged) refl;
  loses = λ n k b e. e;
}

pub stands : Stands bare (λ n k. None) []
stands = start_makes empty_state empty_state opens_still is_table

-- THE GROUP AS IT IS LEFT

abbrev shelves : Shelves
shelves = record {
  numbers = archives_in bare;
  held = λ n k. None;
  history = λ n. [];
  heard = λ n. [];
  faults = λ n. 0;
  losses = λ n. 0;
  faults_taken = λ n. 0;
  losses_taken = λ n. 0;
  faults_opened = λ n. 0;
  losses_opened = λ n. 0;
  taken = λ n. nothing;
}

abbrev view : GroupView
view = record { number = 0; first = bare; table = bare; log = []; flights = []; blinds = []; tried = []; shelves = shelves }

-- its columns have the archives 0 and 1
pub home_is : (k n : ℕ) → k < width bare → IsTrue (names (column_at bare k) n) → Contains (archives_of bare [] k) n
home_is zero n lt h = (0, omega arith, is 0 n h)
  where
    is : (a b : ℕ) → (a == b) ≡ true → a ≡ b
    is a b e = grind (arith, nat_tests)
home_is (suc zero) n lt h = (0, omega arith, is 1 n h)
  where
    is : (a b : ℕ) → (a == b) ≡ true → a ≡ b
    is a b e = grind (arith, nat_tests)
home_is (suc (suc k)) n lt h = absurd (omega (arith, lt))

settled : (told : Type 0) → IsSettled told view
settled told = record {
  replay = refl;
  table = is_table;
  relays = refl;
  bound = omega arith;
  shelves = handed_all bare (archives_in bare) is_table refl;
  serves = home_is;
  sizes = (refl, refl, refl);
  faults = λ n. omega arith;
  losses = λ t n. omega arith;
  opened_faults = λ n. omega arith;
  opened_losses = λ t n. omega arith;
  holds = λ t. stands.holds;
  flying = λ t. stands.flying;
  live = λ t s k ls lk live. absurd (none_live s k live);
  causes = record { faults = λ k lk. inr (omega arith); losses = λ t k lk. tt };
  frame = λ t. record { held = λ n k b e. nothing_is e; history = λ n b h. absurd (none_contained b h); kept = λ n k b e. nothing_is e };
  blinds = refl;
  tried = record { few = omega arith; below = λ x h. absurd (none_contained x h) };
  heard = λ t. record { givens = []; are = refl; fly = (refl, refl); sums = λ n x h. absurd (none_contained x h) };
}

execution : HasExecution view
unfolding opens_still
execution = record {
  start = empty_state;
  unopened = record {
    table = refl;
    log = refl;
    flights = refl;
    held = λ n k h. refl;
    heard = λ n h. refl;
    none = λ n k h. refl;
    silent = λ n h. refl;
  };
  opened = empty_state;
  opening = opens_still;
  finds = λ s k ls lk e sound. not_both e;
  calls = [];
  at_work = All-nil IsAtWork;
  leads = refl;
  blinds = refl;
  tried = λ x h. absurd (none_contained x h);
  came = tt;
  coherent = λ n. record { past = λ k b e. nothing_is e; low = λ k b e. nothing_is e };
}

-- THE SESSION

abbrev pub empty_room : RoomState
empty_room = record { out = λ n. false; means = λ n. nothing; lent = λ n. 0; faults = 0; failures = 0 }

abbrev still_room : Transition RoomState
still_room = record { tells = true; before = empty_room; after = empty_room }

abbrev pub first_image : Contents
first_image = begun (empty_contents small)

abbrev no_story : Section
no_story = record { before = λ g. []; added = λ g. []; index_before = []; index_added = [] }

left : LeavesGroup (IsTrue true) (λ n. nothing) (IsInRoom (IsTrue true) (λ n. nothing) []) bare [] bare
left = record {
  view = view;
  first = refl;
  is_log = refl;
  is = refl;
  settled = settled (IsTrue true);
  marked = λ t n h. refl;
  taken = λ t n h. refl;
  within = λ t. record {
    givens = [];
    are = refl;
    fly = (refl, refl);
    each = λ n h. record {
      held = λ k b lt e. nothing_is e;
      history = λ b h. absurd (none_contained b h);
      heard = λ x h. absurd (none_contained x h);
      kept = λ k b lt e. nothing_is e;
    };
  };
  execution = λ t. execution;
  archives = λ n h t back. record { blocks = λ k. refl; history = refl; sums = refl; faults = refl; losses = refl };
}

pub none_there : {X A : Type 0} (g : ℕ) (x : A) → slice_get [] g ≡ Some x → X
none_there g x e = absurd (cc)

each_left : (g : ℕ) (t u : Table) (log : List Entry) → slice_get (bare ∷ []) g ≡ Some t → slice_get (bare ∷ []) g ≡ Some u → slice_get ([] ∷ []) g ≡ Some log
    → LeavesGroup (IsTrue true) (λ n. nothing) (IsInRoom (IsTrue true) (λ n. nothing) []) t log u
each_left zero t u log et eu el =
    subst (λ x. LeavesGroup (IsTrue true) (λ n. nothing) (IsInRoom (IsTrue true) (λ n. nothing) []) x log u) (same_Some bare t et)
    (subst (λ x. LeavesGroup (IsTrue true) (λ n. nothing) (IsInRoom (IsTrue true) (λ n. nothing) []) bare log x) (same_Some bare u eu)
    (subst (λ l. LeavesGroup (IsTrue true) (λ n. nothing) (IsInRoom (IsTrue true) (λ n. nothing) []) bare l bare) (same_Some [] log el) left))
each_left (suc g) t u log et eu el = none_there g t et

each_log : (g : ℕ) (log : List Entry) → slice_get ([] ∷ []) g ≡ Some log → log ≡ []
each_log zero log e = sym (same_Some [] log e)
each_log (suc g) log e = none_there g log e

pub none_split : (x y : List Entry) (e : Entry) → [] ≡ x ++ e ∷ y → ⊥
none_split [] y e is = cc
none_split (z ∷ x) y e is = cc

opened : IsOpened (λ n. nothing) (RoseInRoom (λ n. nothing) (λ n. nothing) []) (RoseOftenInRoom (λ n. nothing) (λ n. nothing) []) bare []
unfolding opens_still
opened = record {
  read = λ s k. None;
  gone = never;
  broke = never;
  found = λ s k b ls lk e. nothing_is e;
  finds = opens_still.finds;
  missed = λ s k ls lk e sound. not_both e;
  few = λ slots missed n has back. inl (inl (let z = none_served bare slots bare.stripes n (λ s c ls lc e. not_both (missed s c ls lc e).0) in omega (arith, z)));
  breaks = opens_still.breaks;
  is = sym none_logged;
}

each_opened : (g : ℕ) (t : Table) → slice_get (bare ∷ []) g ≡ Some t → IsOpened (λ n. nothing) (RoseInRoom (λ n. nothing) (λ n. nothing) []) (RoseOftenInRoom (λ n. nothing) (λ n. nothing) []) t []
each_opened zero t e = subst (λ x. IsOpened (λ n. nothing) (RoseInRoom (λ n. nothing) (λ n. nothing) []) (RoseOftenInRoom (λ n. nothing) (λ n. nothing) []) x []) (same_Some bare t e) opened
each_opened (suc g) t e = none_there g t e

leaves : Leaves still_room [] first_image first_image no_story
leaves = record {
  session = refl;
  rack = refl;
  groups = record { count = refl; count_logs = refl; each = each_left };
  records = record { ended = names_read []; is_log = refl; replays = refl; is = refl };
  logs = each_log;
  opened = λ g x y e is. absurd (none_split x y e is);
  found = λ t. each_opened;
  index_opened = refl;
  few = omega arith;
  put = record { puts = λ r brought b p at. absurd (none_contained _ brought.1); once = λ job name mark r h. absurd (none_contained _ h) };
}

none_ascend : NamesAscend []
unfolding IsStrictlySortedBy
none_ascend = tt

pub fits : FitsTogether first_image
fits = record {
  rack = is_rack;
  tables = record {
    count = refl;
    fits = All-cons (FitsTable small) bare [] (record { rules = is_table; data_columns = refl; parity = refl; stripes = refl; relays = refl }) (All-nil (FitsTable small));
    archives = record {
      within = All-cons (λ n. n ≤ 511) 0 (1 ∷ []) (omega arith) (All-cons (λ n. n ≤ 511) 1 [] (omega arith) (All-nil (λ n. n ≤ 511)));
      distinct = IsDistinct-from_count nat_eq_equiv _ refl;
    };
  };
  records = record { read = record { few = omega arith; ascends = none_ascend; fits = All-nil (FitsRack small) }; each = All-nil (IsRecordOver (bare ∷ [])) };
  logs = refl;
}

-- two archives, and none came
pub once : AreApart (0 ∷ 1 ∷ [])
once zero = omega arith
once (suc zero) = omega arith
once (suc (suc n)) =
    (let a = times_there 0 (suc (suc n)) (λ e. omega (arith, e)) in let b = times_there 1 (suc (suc n)) (λ e. omega (arith, e)) in omega (arith, a, b))

apart : ShareNone first_image first_image
apart = record { had = once; left = once }

quiet : ClosedSession
quiet = record { first = first_image; last = first_image; room = still_room; missing = []; story = no_story; fits = fits; told = refl; leaves = leaves; apart = apart }

pub empty_archive : IsArchiveEmpty nothing
empty_archive = record { held = λ slot lt. refl; heard = refl }

-- WHAT IS ASKED OF IT

in_a_row : AreInARow quiet []
unfolding quiet
in_a_row = record {
  is_first = record { tables = refl; empty = λ n h. empty_archive };
  undisturbed = record {
    back = λ n h. refl;
    steady = λ n h rose. elim rose [ inl lt ↦ omega (arith, lt) | inr le ↦ omega (arith, le) ];
    clean = All-cons (λ log. All (λ e. IsTrue (is_clean e)) log) [] [] (All-nil (λ e. IsTrue (is_clean e))) (All-nil (λ log. All (λ e. IsTrue (is_clean e)) log));
    has_room = All-cons (λ (log : List Entry). length log < log_bound) [] [] (omega arith) (All-nil (λ (log : List Entry). length log < log_bound));
    empty = λ n h. empty_archive;
    unused = λ n h. absurd (none_contained n h);
  };
  go_on = tt;
}

pub quiet_session : TheHardProperty → QuietSession
unfolding quiet
quiet_session law = (quiet, refl, in_a_row, law quiet [] in_a_row)
