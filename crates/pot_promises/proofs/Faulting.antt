-- A reply `fault` names a column of which an archive counted a fault.
use Rattle.std.proofs.Common.{◌≡◌, ◌⊎◌, inl, inr, ◌+◌, ◌<◌, ◌≤◌, ℕ, Bool, true, false, List, [], ◌∷◌, ◌++◌, Some, length, refl, ap, sym, ◌∙◌, subst, arith, IsTrue}
use Rattle.std.specs.Prelude.{◌&&◌, Contains, nat_eq, slice_get, if◌then◌else◌}
use Rattle.std.proofs.lemmas.List.Elements.{Contains-append_left, Contains-append_right, Contains-append_cases}
use Rattle.std.proofs.lemmas.Bool.{eq-eqb, eqb-true, cases_lt, false_from_ne_true}
use Rattle.std.proofs.lemmas.Option.{same_Some}
use Rattle.pot_bytes.specs.declared.digest.Digest.{Digest}
use Rattle.pot_bytes.specs.declared.rack.Geometry.{Geometry}
use Rattle.pot_bytes.specs.declared.rack.Rack.{Rack}
use Rattle.pot_bytes.proofs.Elements.{contains_later, element_at, none_contained, parted_at}
use Rattle.pot_outside.specs.Accounts.{Transition}
use Rattle.pot_outside.specs.declared.archive.Marks.{Marks}
use Rattle.pot_outside.specs.Counts.{Rose}
use Rattle.pot_outside.specs.Rooms.{RoomState}
use Rattle.pot_machine.specs.declared.entry.Entry.{Entry}
use Rattle.pot_machine.specs.declared.entry.Entry.TheVariants as entry
use Rattle.pot_machine.specs.Column.{homes_of}
use Rattle.pot_machine.specs.Logs.{is_of, own, replayed}
use Rattle.pot_machine.specs.Machine.{Legal, Replays, after}
use Rattle.pot_machine.specs.Table.{Table, width, column_at, no_column, archives_in}
use Rattle.pot_machine.proofs.LeftAlone.{sizes_stay}
use Rattle.pot_machine.proofs.Logs.{legal_at}
use Rattle.pot_group.specs.Arrivals.{arrival, arrivals}
use Rattle.pot_group.specs.Causes.{Covers, archives_of, brought, brought_by, fault_of, faults_in, risen}
use Rattle.pot_shelves.specs.Shelves.{Shelves}
use Rattle.pot_index.proofs.NameLemmas.{contains_here, contains_cases}
use Rattle.pot_script.specs.declared.command.Command.{Command}
use Rattle.pot_script.specs.declared.command.Command.TheVariants as commands
use Rattle.pot_script.specs.declared.reply.Reply.{Reply}
use Rattle.pot_script.specs.declared.reply.Reply.TheVariants as replies
use Rattle.pot_image.specs.Images.{Contents}
use Rattle.pot_image.specs.Rules.{FitsTable, FitsTogether}
use Rattle.pot_steps.specs.GroupStep.{skips}
use Rattle.pot_replies.specs.Fetches.{IsFetchFault}
use Rattle.pot_replies.specs.Listings.{StatusLine, Group, GroupFull}
use Rattle.pot_replies.specs.Sections.{Section, MovesThenRest, mine, work_of}
use Rattle.pot_replies.specs.Settings.{Setting}
use Rattle.pot_replies.specs.Stores.{IsStoreFault, IsUnkept}
use Rattle.pot_replies.specs.Renewals.{IsPutFault, IsRenewFault}
use Rattle.pot_shared.specs.Members.{mark_at}
use Rattle.pot_shared.specs.Coming.{marks_of}
use Rattle.pot_store.proofs.ReadLemmas.{from_filter}
use Rattle.pot_commands.specs.Rows.{Row, IsStoreReply, IsFetchReply, IsRenewReply, IsScrubReply, IsRepairReply, IsMigrateReply, IsReplaceReply, IsListReply, reply_of_line, replies_from}
use Rattle.pot_shared.specs.Groups.{had_by}
use Rattle.pot_session.specs.Serving.{IsInRoom, Leaves, setting_of}
use Rattle.pot_shared.specs.Leaving.{LeavesGroup}
use Rattle.pot_shared.proofs.Lists.{all_at_place, at_same, flat_contains}
use Rattle.pot_session.proofs.LossLemmas.{get_within}
use Rattle.pot_promises.specs.Answers.{count_replies}
use Rattle.pot_promises.specs.Faults.{HasFailed, FaultsAreCounted}
use Rattle.pot_promises.proofs.FirstReplies.{HasReply, reply_of}

-- THE ENTRY OF A REPLY

-- the entry names a fault of the column: of an archive of it, or a parity block that was not kept
abbrev IsFaultOf : ℕ → ℕ → Entry → Type 0
IsFaultOf data_columns column e =
    ((job : ℕ) × (stripe : ℕ) × (e ≡ entry.Fault job stripe column))
    ⊎ ((job : ℕ) × (d : Digest) × IsUnkept data_columns job d column e)

-- such an entry stands among these
abbrev HasFault : ℕ → ℕ → List Entry → Type 0
HasFault data_columns column log = (e : Entry) × Contains log e × IsFaultOf data_columns column e

last_of : (own sofar : List Entry) (e : Entry) → own ≡ sofar ++ e ∷ [] → Contains own e
last_of own sofar e is = subst (λ l. Contains l e) (sym is) (Contains-append_right sofar (e ∷ []) e (contains_here e []))

module _ (s : Setting) (job : ℕ) (w : Section) (h : MovesThenRest w) (group column : ℕ) where
  abbrev work : Section
  work = work_of w h

  -- an entry of the job's work is one of the section
  from_own : (g : ℕ) (e : Entry) → Contains (own job (h.worked g)) e → Contains (w.added g) e
  from_own g e at = subst (λ l. Contains l e) (sym (h.parts g)) (Contains-append_right (h.begun g) (h.worked g) e (from_filter (is_of job) (h.worked g) e at))

  by_last : (g : ℕ) (sofar : List Entry) (stripe : ℕ) → own job (h.worked g) ≡ sofar ++ entry.Fault job stripe column ∷ [] → g ≡ group → HasFault s.rack.columns column (w.added group)
  by_last g sofar stripe is same =
      let e : Entry = entry.Fault job stripe column in
      (e, subst (λ k. Contains (w.added k) e) same (from_own g e (last_of (own job (h.worked g)) sofar e is)), inl (job, stripe, refl))

  by_fetch : (name : List ℕ) → IsFetchFault s job name group column work → HasFault s.rack.columns column (w.added group)
  by_fetch name f = by_last _ f.fails.0 f.fails.1 f.fails.2 (sym f.group_is)

  by_store : (name file : List ℕ) → IsStoreFault s job name file group column (mine job work) → HasFault s.rack.columns column (w.added group)
  by_store name file f = (
    f.last,
    from_own group f.last (subst (λ l. Contains l f.last) (sym f.stops.here)
        (Contains-append_right f.stops.sofar (skips job f.passed ++ f.last ∷ []) f.last (last_of _ (skips job f.passed) f.last refl))),
    kind f.fault,
  )
    where
      kind : ((stripe : ℕ) × (f.last ≡ entry.Fault job stripe column)) ⊎ IsUnkept s.rack.columns job f.stops.next column f.last → IsFaultOf s.rack.columns column f.last
      kind (inl (stripe, is)) = inl (job, stripe, is)
      kind (inr unkept) = inr (job, f.stops.next, unkept)

  by_renew : (name : List ℕ) (geometry : Geometry) → IsRenewFault s job name geometry group column work → HasFault s.rack.columns column (w.added group)
  by_renew name geometry f = (
    f.last,
    from_own group f.last (subst (λ l. Contains l f.last) (sym (f.stops.fetched.own_is group))
        (Contains-append_right (f.stops.fetched.reads group) (f.stops.puts group) f.last (subst (λ l. Contains l f.last) (sym f.stops.here)
        (Contains-append_right f.stops.sofar (skips job f.passed ++ f.last ∷ []) f.last (last_of _ (skips job f.passed) f.last refl))))),
    kind f.fault,
  )
    where
      kind : ((stripe : ℕ) × (f.last ≡ entry.Fault job stripe column) × IsPutFault (s.first group) job (work.before group) (work.added group) stripe column)
          ⊎ IsUnkept s.rack.columns job f.stops.next column f.last → IsFaultOf s.rack.columns column f.last
      kind (inl (stripe, is, at)) = inl (job, stripe, is)
      kind (inr unkept) = inr (job, f.stops.next, unkept)

  -- no line of `status` is a fault
  not_a_line : (l : StatusLine) → replies.Fault group column ≡ reply_of_line 0 l → ⊥
  not_a_line (Group counts) is = absurd (cc is)
  not_a_line GroupFull is = absurd (cc is)

  not_of_status : (r : Reply) (its : List Reply) (lines : List StatusLine) → r ≡ replies.Fault group column → r ∷ its ≡ replies_from 0 lines → ⊥
  not_of_status r its [] is are = absurd (cc are)
  not_of_status r its (l ∷ ls) is are = not_a_line l (sym is ∙ (let e : r ≡ reply_of_line 0 l = cc are in e))

  -- a reply `fault` has an entry of its job
  fault_is : (c : Command) (r : Reply) (its : List Reply) → r ≡ replies.Fault group column → Row s job c (r ∷ its) w h → HasFault s.rack.columns column (w.added group)
  fault_is (commands.Store name file) r [] is row = by_store name file (subst (λ x. IsStoreReply s job name file x work) is row.1)
  fault_is (commands.Store name file) r (q ∷ its) is row = absurd row.1
  fault_is (commands.Fetch name) r [] is row = by_fetch name (subst (λ x. IsFetchReply s job name x work) is row.1)
  fault_is (commands.Fetch name) r (q ∷ its) is row = absurd row.1
  fault_is (commands.Renew name geometry) r [] is row =
      elim (subst (λ x. IsRenewReply s job name geometry x work) is row.1) [
        | inl fetch ↦ by_fetch name fetch
        | inr renew ↦ by_renew name geometry renew
      ]
  fault_is (commands.Renew name geometry) r (q ∷ its) is row = absurd row.1
  fault_is (commands.Scrub g) r [] is row =
      let f = subst (λ x. IsScrubReply s job g x work) is row.1 in
      by_last g f.1.looks f.1.stripe f.1.own_is (sym f.0)
  fault_is (commands.Scrub g) r (q ∷ its) is row = absurd row.1
  fault_is (commands.Repair g) r [] is row =
      let f = subst (λ x. IsRepairReply s job g x work) is row.1 in
      by_last g f.1.sofar f.1.stripe f.1.own_is (sym f.0)
  fault_is (commands.Repair g) r (q ∷ its) is row = absurd row.1
  fault_is (commands.Migrate from to) r [] is row =
      let f = subst (λ x. IsMigrateReply s w.before h.begun job from to x work) is row in
      by_last group f.sofar f.stripe f.own_is refl
  fault_is (commands.Migrate from to) r (q ∷ its) is row = absurd row.1
  fault_is (commands.Replace from to) r [] is row = absurd (subst (λ x. IsReplaceReply s job from to x (mine job work)) is row.1)
  fault_is (commands.Replace from to) r (q ∷ its) is row = absurd row.1
  fault_is commands.List r [] is row = absurd (subst (λ x. IsListReply s job x work) is row.1)
  fault_is commands.List r (q ∷ its) is row = absurd row.1
  fault_is commands.Status r its is row = absurd (not_of_status r its row.1.lines is row.1.are)
  fault_is (commands.Together count) r its is row = absurd row.1
  fault_is commands.End r its is row = absurd row.1
  fault_is commands.Quit r its is row = absurd row.1

  fault_row : (c : Command) (its : List Reply) → Row s job c its w h → slice_get its 0 ≡ Some (replies.Fault group column) → HasFault s.rack.columns column (w.added group)
  fault_row c [] row first = absurd (cc first)
  fault_row c (r ∷ its) row first = fault_is c r its (same_Some r (replies.Fault group column) first) row

-- HOW MANY FAULTS A LOG NAMES

first_if : (b : Bool) (n : ℕ) → b ≡ true → 1 ≤ (if b then 1 else n)
first_if true n e = omega arith
first_if false n e = absurd (cc e)

both : (b : Bool) → b ≡ true → (b && true) ≡ true
both true e = refl
both false e = absurd (cc e)

second_if : (a b : Bool) → a ≡ false → b ≡ true → 1 ≤ (if a && false then 1 else (if b && true then 1 else 0))
second_if true b first last = absurd (cc first)
second_if false true first last = omega arith
second_if false false first last = absurd (cc last)

-- the second parity block was not kept
second : (n job s c : ℕ) (d p q : Digest) → 1 ≤ fault_of n (n + 1) (entry.Put2 job s c d p q true false)
second n job s c d p q =
    let first : nat_eq (n + 1) n ≡ false = false_from_ne_true (nat_eq (n + 1) n) (λ e. (let same = eqb-true (n + 1) n e in omega (arith, same))) in
    let last : nat_eq (n + 1) (n + 1) ≡ true = eq-eqb (n + 1) (n + 1) refl in
    second_if (nat_eq (n + 1) n) (nat_eq (n + 1) (n + 1)) first last

-- the entry counts as one
counts_one : (data_columns column : ℕ) (e : Entry) → IsFaultOf data_columns column e → 1 ≤ fault_of data_columns column e
counts_one data_columns column e (inl (job, stripe, is)) =
    subst (λ x. 1 ≤ fault_of data_columns column x) (sym is) (first_if (nat_eq column column) 0 (eq-eqb column column refl))
counts_one data_columns column e (inr (job, d, inl (s, c, p, is, at))) =
    subst (λ x. 1 ≤ fault_of data_columns column x) (sym is)
    (first_if (nat_eq column data_columns && true) 0 (both (nat_eq column data_columns) (eq-eqb column data_columns at)))
counts_one data_columns column e (inr (job, d, inr (inl (s, c, p, q, k, is, at)))) =
    subst (λ x. 1 ≤ fault_of data_columns column x) (sym is)
    (first_if (nat_eq column data_columns && true) _ (both (nat_eq column data_columns) (eq-eqb column data_columns at)))
counts_one data_columns column e (inr (job, d, inr (inr (s, c, p, q, is, at)))) =
    subst (λ x. 1 ≤ fault_of data_columns column x) (sym is)
    (subst (λ k. 1 ≤ fault_of data_columns k (entry.Put2 job s c d p q true false)) (sym at) (second data_columns job s c d p q))

counted : (data_columns column : ℕ) (log : List Entry) → HasFault data_columns column log → 1 ≤ faults_in data_columns column log
counted data_columns column [] (e, at, is) = absurd (none_contained e at)
counted data_columns column (x ∷ log) (e, at, is) =
    elim (contains_cases x e log at) [
      | inl same ↦ (let one : 1 ≤ fault_of data_columns column x = subst (λ y. 1 ≤ fault_of data_columns column y) (sym same) (counts_one data_columns column e is) in omega (arith, one))
      | inr later ↦ (let more = counted data_columns column log (e, later, is) in omega (arith, more))
    ]

-- so one of the archives counted one
risen_one : (s : Shelves) (numbers : List ℕ) → 1 ≤ risen s numbers → (n : ℕ) × Contains numbers n × (s.faults_taken n < s.faults n)
risen_one s [] some = absurd (omega (arith, some))
risen_one s (n ∷ numbers) some =
    elim (cases_lt (s.faults_taken n) (s.faults n)) [
      | inl less ↦ (n, contains_here n numbers, less)
      | inr le ↦ (let more = risen_one s numbers (omega (arith, some, le)) in (more.0, contains_later n more.0 numbers more.1, more.2))
    ]

covered : (s : Shelves) (numbers : List ℕ) (named : ℕ) → 1 ≤ named → Covers s numbers named → (n : ℕ) × Contains numbers n × Rose (s.faults_taken n) (s.faults n)
covered s numbers named some (inl (n, there, last)) = (n, there, inr last)
covered s numbers named some (inr few) = (let one = risen_one s numbers (omega (arith, some, few)) in (one.0, one.1, inl one.2))

-- THE COLUMN OF AN ENTRY

same_columns : (t : Table) (log : List Entry) → ((replayed t log).data_columns ≡ t.data_columns) × ((replayed t log).parity ≡ t.parity)
same_columns t [] = (refl, refl)
same_columns t (e ∷ log) =
    let more = same_columns (after t e) log in
    let size : ((after t e).data_columns ≡ t.data_columns) × ((after t e).parity ≡ t.parity) × ((after t e).stripes ≡ t.stripes) = sizes_stay t e in
    (more.0 ∙ size.0, more.1 ∙ size.1)

-- a column of which a fault may be named is one of the table
column_within : (t : Table) (column : ℕ) (e : Entry) → IsFaultOf t.data_columns column e → Legal t e → column < width t
column_within t column e (inl (job, stripe, is)) legal =
    let l : Legal t (entry.Fault job stripe column) = subst (λ x. Legal t x) is legal in l.1
column_within t column e (inr (job, d, inl (s, c, p, is, at))) legal =
    let l : Legal t (entry.Put job s c d p false) = subst (λ x. Legal t x) is legal in
    (let one = l.0 in omega (arith, at, one))
column_within t column e (inr (job, d, inr (inl (s, c, p, q, k, is, at)))) legal =
    let l : Legal t (entry.Put2 job s c d p q false k) = subst (λ x. Legal t x) is legal in
    (let two = l.0 in omega (arith, at, two))
column_within t column e (inr (job, d, inr (inr (s, c, p, q, is, at)))) legal =
    let l : Legal t (entry.Put2 job s c d p q true false) = subst (λ x. Legal t x) is legal in
    (let two = l.0 in omega (arith, at, two))

-- THE ARCHIVES OF A COLUMN

brought_arrives : (c : ℕ) (e : Entry) (n : ℕ) → Contains (brought c e) n → Contains (arrival e) n
brought_arrives c (entry.MoveBegin job k to) n there = by (nat_eq c k) there
  where
    by : (b : Bool) → Contains (if b then to ∷ [] else []) n → Contains (to ∷ []) n
    by true at = at
    by false at = absurd (none_contained n at)
brought_arrives c (entry.Swapped job k to) n there = by (nat_eq c k) there
  where
    by : (b : Bool) → Contains (if b then to ∷ [] else []) n → Contains (to ∷ []) n
    by true at = at
    by false at = absurd (none_contained n at)
brought_arrives c (entry.Put job s k d p kept) n there = absurd (none_contained n there)
brought_arrives c (entry.Put2 job s k d p q kept kept2) n there = absurd (none_contained n there)
brought_arrives c (entry.Skip job s) n there = absurd (none_contained n there)
brought_arrives c (entry.Seen job s k) n there = absurd (none_contained n there)
brought_arrives c (entry.Gone job s k) n there = absurd (none_contained n there)
brought_arrives c (entry.Broke job s k) n there = absurd (none_contained n there)
brought_arrives c (entry.Fault job s k) n there = absurd (none_contained n there)
brought_arrives c (entry.Begin job s k) n there = absurd (none_contained n there)
brought_arrives c (entry.Hop job s k) n there = absurd (none_contained n there)
brought_arrives c (entry.Mended job s k) n there = absurd (none_contained n there)
brought_arrives c (entry.GaveUp job s k o) n there = absurd (none_contained n there)
brought_arrives c (entry.Oddly job s k f) n there = absurd (none_contained n there)
brought_arrives c (entry.Stuck job s k o) n there = absurd (none_contained n there)
brought_arrives c (entry.Moved job s k copied) n there = absurd (none_contained n there)
brought_arrives c (entry.MoveEnd job k) n there = absurd (none_contained n there)
brought_arrives c (entry.Counted job) n there = absurd (none_contained n there)

all_arrive : (c : ℕ) (log : List Entry) (n : ℕ) → Contains (brought_by c log) n → Contains (arrivals log) n
all_arrive c [] n there = there
all_arrive c (e ∷ log) n there =
    elim (Contains-append_cases (brought c e) (brought_by c log) n there) [
      | inl now ↦ Contains-append_left (arrival e) (arrivals log) n (brought_arrives c e n now)
      | inr later ↦ Contains-append_right (arrival e) (arrivals log) n (all_arrive c log n later)
    ]

-- each archive of a column is one of the group
of_group : (t : Table) (log : List Entry) (c n : ℕ) → c < length t.columns → Contains (archives_of t log c) n → Contains (archives_in t ++ arrivals log) n
of_group t log c n lt has =
    let column = element_at t.columns c lt in
    let same : column_at t c ≡ column.0 = at_same t.columns c no_column column.0 column.1 in
    elim (Contains-append_cases (homes_of (column_at t c)) (brought_by c log) n has) [
      | inl home ↦ Contains-append_left (archives_in t) (arrivals log) n (flat_contains homes_of t.columns c column.0 n column.1 (subst (λ k. Contains (homes_of k) n) same home))
      | inr came ↦ Contains-append_right (archives_in t) (arrivals log) n (all_arrive c log n came)
    ]

-- THE WHOLE

module _ (first last : Contents) (room : Transition RoomState) (missing : List ℕ) (story : Section) (fits : FitsTogether first) (told : IsTrue room.tells) (leaves : Leaves room missing first last story)
    (group column : ℕ) (read : Table) (log : List Entry) (is_read : slice_get first.tables group ≡ Some read) (is_log : slice_get last.group_logs group ≡ Some log) where
  by_entry : HasFault first.rack.columns column log → HasFailed room.before.means room.after.means missing (archives_of read log column)
  by_entry has =
      let rules : FitsTable first.rack read = all_at_place (FitsTable first.rack) first.tables group read fits.tables.fits is_read in
      let in_last : group < length last.tables = (let a = leaves.groups.count in let b = get_within first.tables group read is_read in omega (arith, a, b)) in
      let written = element_at last.tables group in_last in
      let left : LeavesGroup (IsTrue room.tells) room.before.means (IsInRoom (IsTrue room.tells) room.after.means missing) read log written.0 =
      leaves.groups.each group read written.0 log is_read written.1 is_log in
      let view = left.view in
      let here : HasFault read.data_columns column log = subst (λ n. HasFault n column log) (sym rules.data_columns) has in
      let parts = parted_at log here.0 here.1 in
      let replays : Replays read (parts.0 ++ here.0 ∷ parts.1) view.table =
      subst (λ l. Replays read l view.table) parts.2 (subst (λ l. Replays read l view.table) left.is_log (subst (λ f. Replays f view.log view.table) left.first left.settled.replay)) in
      let legal : Legal (replayed read parts.0) here.0 = legal_at read parts.0 parts.1 here.0 view.table replays in
      let sizes = same_columns read parts.0 in
      let within : column < width (replayed read parts.0) =
      column_within (replayed read parts.0) column here.0 (subst (λ n. IsFaultOf n column here.0) (sym sizes.0) here.2) legal in
      let lt : column < width read = (let a = sizes.0 in let b = sizes.1 in omega (arith, within, a, b)) in
      let covers : Covers view.shelves (archives_of read log column) (faults_in read.data_columns column log) =
      subst (λ l. Covers view.shelves (archives_of read l column) (faults_in read.data_columns column l)) left.is_log
      (subst (λ f. Covers view.shelves (archives_of f view.log column) (faults_in f.data_columns column view.log)) left.first
      (left.settled.causes.faults column (subst (λ f. column < width f) (sym left.first) lt))) in
      let one = covered view.shelves (archives_of read log column) (faults_in read.data_columns column log) (counted read.data_columns column log here) covers in
      let had : Contains (had_by view) one.0 =
      subst (λ f. Contains (archives_in f ++ arrivals view.log) one.0) (sym left.first) (subst (λ l. Contains (archives_in read ++ arrivals l) one.0) (sym left.is_log)
      (of_group read log column one.0 (let w : length read.columns ≡ width read = rules.rules.size.columns in omega (arith, lt, w)) one.1)) in
      let marked : mark_at view.shelves one.0 ≡ marks_of (room.before.means one.0) = left.marked told one.0 had in
      let marks : view.shelves.faults_taken one.0 ≡ (room.before.means one.0).faults = ap (λ (m : Marks). m.faults) marked in
      (one.0, one.1, λ back. subst (λ b. Rose b (room.after.means one.0).faults) marks (subst (λ b. Rose (view.shelves.faults_taken one.0) b) (left.archives one.0 had told back).faults one.2))

-- each command has a reply
some_reply : (rack : Rack) (c : Command) → 0 < rack.groups → 0 < count_replies rack c
some_reply rack commands.Status some = some
some_reply rack (commands.Store name file) some = omega arith
some_reply rack (commands.Fetch name) some = omega arith
some_reply rack (commands.Renew name geometry) some = omega arith
some_reply rack commands.List some = omega arith
some_reply rack (commands.Scrub g) some = omega arith
some_reply rack (commands.Repair g) some = omega arith
some_reply rack (commands.Replace from to) some = omega arith
some_reply rack (commands.Migrate from to) some = omega arith
some_reply rack (commands.Together count) some = omega arith
some_reply rack commands.End some = omega arith
some_reply rack commands.Quit some = omega arith

pub faults_are_counted : FaultsAreCounted
faults_are_counted seed first last room missing story fits told leaves ss rs done later follows replied k i c group column answered read log is_read is_log =
    let s : Setting = setting_of seed first in
    let it : HasReply s done c (replies.Fault group column) =
    reply_of s ss 1 replied.ones rs done k i c (replies.Fault group column) replied.are replied.answers (some_reply first.rack c (let g = fits.rack.groups in omega (arith, g))) answered in
    let has : HasFault first.rack.columns column (it.one.added group) = fault_row s it.job it.one it.halves group column c it.its it.row it.first in
    let added : Contains (story.added group) has.0 =
    subst (λ l. Contains l has.0) (sym (follows.is_added group)) (Contains-append_left (done.added group) (later.added group) has.0 (it.within group has.0 has.1)) in
    let there : Contains log has.0 =
    subst (λ l. Contains l has.0) (sym (leaves.logs group log is_log)) (Contains-append_right (story.before group) (story.added group) has.0 added) in
    by_entry first last room missing story fits told leaves group column read log is_read is_log (has.0, there, has.2)
