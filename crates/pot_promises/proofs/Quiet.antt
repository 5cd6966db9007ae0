-- A name is renewed by those commands alone that say so.
use Rattle.std.proofs.Common.{◌≡◌, ◌≢◌, inl, inr, ⊎_elim, ℕ, zero, suc, ◌+◌, List, [], ◌∷◌, ◌++◌, Some, length, get_or, refl, ap, sym, ◌∙◌, subst, arith, eq-eqb}
use Rattle.std.specs.Prelude.{All, Contains, slice_get}
use Rattle.std.proofs.lemmas.Bool.{cases_eq}
use Rattle.std.proofs.lemmas.List.Elements.{Contains-append_cases, Contains-get_or}
use Rattle.std.proofs.lemmas.Option.{same_Some}
use Rattle.pot_bytes.specs.declared.rack.Geometry.{Geometry}
use Rattle.pot_bytes.proofs.Elements.{none_contained, parted_at}
use Rattle.pot_pointer.proofs.FilterLemmas.{Contains-filter}
use Rattle.pot_index.specs.declared.entry.IndexEntry.{IndexEntry}
use Rattle.pot_index.specs.declared.entry.Logged.{Logged}
use Rattle.pot_index.specs.Entries.{IsRenewing, entries, is_of, job_in, own}
use Rattle.pot_index.proofs.NameLemmas.{contains_cases, from_map}
use Rattle.pot_script.specs.declared.command.Command.{Command}
use Rattle.pot_script.specs.declared.command.Command.TheVariants as commands
use Rattle.pot_script.specs.declared.grouping.Step.{Step}
use Rattle.pot_script.specs.declared.grouping.Step.TheVariants as steps
use Rattle.pot_script.specs.declared.reply.Reply.{Reply}
use Rattle.pot_script.specs.declared.reply.Reply.TheVariants as replies
use Rattle.pot_machine.specs.declared.entry.Entry.{Entry}
use Rattle.pot_replies.specs.Sections.{Section, MovesThenRest, JobEntries, mine, work_of, IsAmong, IsOfJobs}
use Rattle.pot_replies.specs.Sessions.{AreSections, Answered, Answers, Rows, jobs_in}
use Rattle.pot_replies.specs.Settings.{Setting}
use Rattle.pot_commands.specs.Rows.{Row, IsStoreReply, IsFetchReply, IsRenewReply, IsListReply, IsScrubReply, IsRepairReply, IsReplaceReply, IsMigrateReply}
use Rattle.pot_commands.specs.Steps.{step_of, steps_of}
use Rattle.pot_promises.specs.Answers.{CommandStandsAt}
use Rattle.pot_promises.specs.Odds.{NoneRenewed}
use Rattle.pot_promises.proofs.Walking.{is_answered_here, is_answered_behind}

module _ (name : List ℕ) where
  -- no entry of these renews the name
  abbrev pub Quiet : List Logged → Type 0
  Quiet es = (x : Logged) → Contains es x → IsRenewing name x.entry → ⊥

  pub quiet_none : Quiet []
  quiet_none x has is = none_contained x has

  quiet_more : (y : Logged) (es : List Logged) → (IsRenewing name y.entry → ⊥) → Quiet es → Quiet (y ∷ es)
  quiet_more y es apart quiet x has is = ⊎_elim (λ (e : y ≡ x). apart (subst (λ (z : Logged). IsRenewing name z.entry) (sym e) is)) (λ (h : Contains es x). quiet x h is) (contains_cases y x es has)

  pub quiet_both : (xs ys : List Logged) → Quiet xs → Quiet ys → Quiet (xs ++ ys)
  quiet_both xs ys a b x has is = ⊎_elim (λ (h : Contains xs x). a x h is) (λ (h : Contains ys x). b x h is) (Contains-append_cases xs ys x has)

  pub all_quiet : (log : List Logged) → Quiet log → All (λ e. IsRenewing name e → ⊥) (entries log)
  all_quiet log quiet k d lt = λ is.
      let e : IndexEntry = get_or (entries log) k d in
      let f = from_map (λ (x : Logged). x.entry) e log (Contains-get_or (entries log) k d lt) in
      quiet f.0 f.1 (subst (IsRenewing name) (sym f.2) is)

  -- the index entries of a job, by an equation for them
  one : (es : List Logged) (y : Logged) → es ≡ y ∷ [] → (IsRenewing name y.entry → ⊥) → Quiet es
  one es y is apart = subst Quiet (sym is) (quiet_more y [] apart quiet_none)

  two : (es : List Logged) (y z : Logged) → es ≡ y ∷ z ∷ [] → (IsRenewing name y.entry → ⊥) → (IsRenewing name z.entry → ⊥) → Quiet es
  two es y z is apart none = subst Quiet (sym is) (quiet_more y (z ∷ []) apart (quiet_more z [] none quiet_none))

  nothing : (es : List Logged) → es ≡ [] → Quiet es
  nothing es is = subst Quiet (sym is) quiet_none

  module _ (s : Setting) (job : ℕ) where
    store_quiet : (of file : List ℕ) (r : Reply) (w : Section) → IsStoreReply s job of file r w → Quiet (mine job w).index
    store_quiet of file (replies.Stored a p n) w row = two (mine job w).index _ _ row.1.index (λ h. h) (λ h. h)
    store_quiet of file (replies.Long a n) w row = nothing (mine job w).index row.2.silent.1
    store_quiet of file (replies.Exists a) w row = one (mine job w).index _ row.1.index (λ h. h)
    store_quiet of file (replies.Fault g c) w row = two (mine job w).index _ _ row.stops.index (λ h. h) (λ h. h)
    store_quiet of file (replies.Full g) w row = two (mine job w).index _ _ row.stops.index (λ h. h) (λ h. h)
    store_quiet of file (replies.LogFull g) w row = two (mine job w).index _ _ row.stops.index (λ h. h) (λ h. h)
    store_quiet of file replies.IndexLogFull w row = nothing (mine job w).index row.1.silent.1
    store_quiet of file _ w row = absurd row

    fetch_quiet : (of : List ℕ) (r : Reply) (w : Section) → IsFetchReply s job of r w → Quiet (mine job w).index
    fetch_quiet of (replies.File a b) w row = one (mine job w).index _ row.1.found.index (λ h. h)
    fetch_quiet of (replies.Absent a) w row = one (mine job w).index _ row.1.index (λ h. h)
    fetch_quiet of (replies.Lost a i j h m) w row = one (mine job w).index _ row.1.2.found.index (λ h. h)
    fetch_quiet of (replies.Odd a x y) w row = one (mine job w).index _ row.1.found.index (λ h. h)
    fetch_quiet of (replies.Fault g c) w row = one (mine job w).index _ row.found.index (λ h. h)
    fetch_quiet of (replies.LogFull g) w row = one (mine job w).index _ row.found.index (λ h. h)
    fetch_quiet of replies.IndexLogFull w row = nothing (mine job w).index row.silent.1
    fetch_quiet of _ w row = absurd row

    renew_quiet : (of : List ℕ) (geometry : Geometry) (r : Reply) (w : Section)
        → ((a : List ℕ) (p n : ℕ) → of ≡ name → r ≡ replies.Renewed a p n → ⊥) → IsRenewReply s job of geometry r w → Quiet (mine job w).index
    renew_quiet of geometry (replies.Renewed a p n) w ne row = two (mine job w).index _ _ row.1.all.fetched.found.index (λ h. h) (λ h. ne a p n h refl)
    renew_quiet of geometry (replies.Often a) w ne (is, inl row) = one (mine job w).index _ row.found.index (λ h. h)
    renew_quiet of geometry (replies.Often a) w ne (is, inr row) = two (mine job w).index _ _ row.all.fetched.found.index (λ h. h) (λ h. h)
    renew_quiet of geometry (replies.Absent a) w ne row = one (mine job w).index _ row.1.index (λ h. h)
    renew_quiet of geometry (replies.Lost a i j h m) w ne row = one (mine job w).index _ row.1.2.found.index (λ h. h)
    renew_quiet of geometry (replies.Odd a x y) w ne row = one (mine job w).index _ row.1.found.index (λ h. h)
    renew_quiet of geometry (replies.Fault g c) w ne (inl row) = one (mine job w).index _ row.found.index (λ h. h)
    renew_quiet of geometry (replies.Fault g c) w ne (inr row) = one (mine job w).index _ row.stops.fetched.found.index (λ h. h)
    renew_quiet of geometry (replies.Full g) w ne row = one (mine job w).index _ row.stops.fetched.found.index (λ h. h)
    renew_quiet of geometry (replies.LogFull g) w ne (inl row) = one (mine job w).index _ row.found.index (λ h. h)
    renew_quiet of geometry (replies.LogFull g) w ne (inr row) = one (mine job w).index _ row.stops.fetched.found.index (λ h. h)
    renew_quiet of geometry replies.IndexLogFull w ne (inl row) = nothing (mine job w).index row.silent.1
    renew_quiet of geometry replies.IndexLogFull w ne (inr row) = one (mine job w).index _ row.all.fetched.found.index (λ h. h)
    renew_quiet of geometry _ w ne row = absurd row

    list_quiet : (r : Reply) (w : Section) → IsListReply s job r w → Quiet (mine job w).index
    list_quiet (replies.Names names) w row = one (mine job w).index _ row.index (λ h. h)
    list_quiet replies.IndexLogFull w row = nothing (mine job w).index row.silent.1
    list_quiet _ w row = absurd row

    scrub_quiet : (g : ℕ) (r : Reply) (w : Section) → IsScrubReply s job g r w → Quiet (mine job w).index
    scrub_quiet g (replies.Scrubbed a n m) w row = nothing (mine job w).index row.1.only.1
    scrub_quiet g (replies.Fault a c) w row = nothing (mine job w).index row.1.only.1
    scrub_quiet g (replies.LogFull a) w row = nothing (mine job w).index row.1.only.1
    scrub_quiet g _ w row = absurd row

    repair_quiet : (g : ℕ) (r : Reply) (w : Section) → IsRepairReply s job g r w → Quiet (mine job w).index
    repair_quiet g (replies.Repaired a n m) w row = nothing (mine job w).index row.1.only.1
    repair_quiet g (replies.Fault a c) w row = nothing (mine job w).index row.1.only.1
    repair_quiet g (replies.LogFull a) w row = nothing (mine job w).index row.1.only.1
    repair_quiet g _ w row = absurd row

    replace_quiet : (from to : ℕ) (r : Reply) (m : JobEntries) → IsReplaceReply s job from to r m → Quiet m.index
    replace_quiet from to (replies.Replaced a b n) m row = nothing m.index row.2.only.1
    replace_quiet from to (replies.NoArchive n) m row = nothing m.index row.1.1.1
    replace_quiet from to (replies.InUse n) m row = nothing m.index row.1.2.1
    replace_quiet from to (replies.LogFull g) m row = nothing m.index row.silent.1
    replace_quiet from to _ m row = absurd row

    migrate_quiet : (before begun : ℕ → List Entry) (from to : ℕ) (r : Reply) (w : Section) → IsMigrateReply s before begun job from to r w → Quiet (mine job w).index
    migrate_quiet before begun from to (replies.Migrated a b n) w row = nothing (mine job w).index row.2.only.1
    migrate_quiet before begun from to (replies.NoArchive n) w row = nothing (mine job w).index row.1.2.1
    migrate_quiet before begun from to (replies.InUse n) w row = nothing (mine job w).index row.2.1
    migrate_quiet before begun from to (replies.Fault g c) w row = nothing (mine job w).index row.only.1
    migrate_quiet before begun from to (replies.LogFull g) w (inl row) = nothing (mine job w).index row.silent.1
    migrate_quiet before begun from to (replies.LogFull g) w (inr row) = nothing (mine job w).index row.only.1
    migrate_quiet before begun from to _ w row = absurd row

    -- a command that did not renew the name, by its row
    row_quiet : (c : Command) (rs : List Reply) (w : Section) (h : MovesThenRest w) → Row s job c rs w h
        → ((geometry : Geometry) (a : List ℕ) (p n : ℕ) → c ≡ commands.Renew name geometry → rs ≡ replies.Renewed a p n ∷ [] → ⊥)
        → Quiet (own job w.index_added)
    row_quiet (commands.Store of file) [] w h row ne = absurd row.1
    row_quiet (commands.Store of file) (r ∷ []) w h row ne = store_quiet of file r (work_of w h) row.1
    row_quiet (commands.Store of file) (r ∷ q ∷ rs) w h row ne = absurd row.1
    row_quiet (commands.Fetch of) [] w h row ne = absurd row.1
    row_quiet (commands.Fetch of) (r ∷ []) w h row ne = fetch_quiet of r (work_of w h) row.1
    row_quiet (commands.Fetch of) (r ∷ q ∷ rs) w h row ne = absurd row.1
    row_quiet commands.List [] w h row ne = absurd row.1
    row_quiet commands.List (r ∷ []) w h row ne = list_quiet r (work_of w h) row.1
    row_quiet commands.List (r ∷ q ∷ rs) w h row ne = absurd row.1
    row_quiet commands.Status rs w h row ne = nothing (own job w.index_added) row.1.status.index
    row_quiet (commands.Scrub group) [] w h row ne = absurd row.1
    row_quiet (commands.Scrub group) (r ∷ []) w h row ne = scrub_quiet group r (work_of w h) row.1
    row_quiet (commands.Scrub group) (r ∷ q ∷ rs) w h row ne = absurd row.1
    row_quiet (commands.Repair group) [] w h row ne = absurd row.1
    row_quiet (commands.Repair group) (r ∷ []) w h row ne = repair_quiet group r (work_of w h) row.1
    row_quiet (commands.Repair group) (r ∷ q ∷ rs) w h row ne = absurd row.1
    row_quiet (commands.Replace from to) [] w h row ne = absurd row.1
    row_quiet (commands.Replace from to) (r ∷ []) w h row ne = replace_quiet from to r (mine job (work_of w h)) row.1
    row_quiet (commands.Replace from to) (r ∷ q ∷ rs) w h row ne = absurd row.1
    row_quiet (commands.Migrate from to) [] w h row ne = absurd row.1
    row_quiet (commands.Migrate from to) (r ∷ []) w h row ne = migrate_quiet w.before h.begun from to r (work_of w h) row
    row_quiet (commands.Migrate from to) (r ∷ q ∷ rs) w h row ne = absurd row.1
    row_quiet (commands.Renew of geometry) [] w h row ne = absurd row.1
    row_quiet (commands.Renew of geometry) (r ∷ []) w h row ne =
        renew_quiet of geometry r (work_of w h) (λ a p n same is. ne geometry a p n (ap (λ m. commands.Renew m geometry) same) (ap (λ x. x ∷ []) is)) row.1
    row_quiet (commands.Renew of geometry) (r ∷ q ∷ rs) w h row ne = absurd row.1
    row_quiet (commands.Together count) rs w h row ne = absurd row.1
    row_quiet commands.End rs w h row ne = absurd row.1
    row_quiet commands.Quit rs w h row ne = absurd row.1

  -- A STEP

  module _ (s : Setting) where
    -- no line of these renewed the name
    abbrev NoneOf : (ℕ → Command → Type 0) → List Reply → Type 0
    NoneOf Stands now =
        (i : ℕ) (geometry : Geometry) (a : List ℕ) (p n : ℕ) → Stands i (commands.Renew name geometry) → slice_get now i ≡ Some (replies.Renewed a p n) → ⊥

    rows_quiet : (lines : List Command) (job : ℕ) (now : List Reply) (w : Section) (h : MovesThenRest w) → Rows (Row s) job lines now w h
        → NoneOf (λ i c. slice_get lines i ≡ Some c) now → (j : ℕ) → IsAmong job (length lines) j → Quiet (own j w.index_added)
    rows_quiet [] job now w h rows ne j among = absurd (let a = among.0 in let b = among.1 in let no : ⊥ = omega (arith, a, b) in no)
    rows_quiet (l ∷ ls) job now w h (x, more, is, row, rest) ne j among = ⊎_elim
        (λ (e : job ≡ j).
        subst (λ n. Quiet (own n w.index_added)) e
        (row_quiet s job l (x ∷ []) w h row
        (λ geometry a p n same one. ne zero geometry a p n (ap Some same) (ap (λ q. slice_get q zero) is ∙ ap (λ q. slice_get q zero) one))))
        (λ (apart : job ≢ j).
        let low = among.0 in
        let high = among.1 in
        rows_quiet ls (suc job) more w h rest
        (λ i geometry a p n at got. ne (suc i) geometry a p n at (ap (λ q. slice_get q (suc i)) is ∙ got)) j (omega (arith, low, apart), omega (arith, high)))
        (cases_eq job j)

    -- the jobs of a step that did not renew the name log no such entry
    jobs_quiet : (d : Step) (job : ℕ) (now : List Reply) (w : Section) (h : MovesThenRest w) → Answered (Row s) job (step_of d) now w h
        → NoneOf (CommandStandsAt d) now → (j : ℕ) → IsAmong job (jobs_in (step_of d)) j → Quiet (own j w.index_added)
    jobs_quiet (steps.One c) job now w h row none j among =
        let low = among.0 in
        let high = among.1 in
        subst (λ n. Quiet (own n w.index_added)) (let e : job ≡ j = omega (arith, low, high) in e)
        (row_quiet s job c now w h row (λ geometry a p n same one. none zero geometry a p n (refl, same) (ap (λ q. slice_get q zero) one)))
    jobs_quiet (steps.Together lines) job now w h rows none j among = rows_quiet lines job now w h rows none j among

    step_quiet : (d : Step) (job : ℕ) (now : List Reply) (w : Section) (h : MovesThenRest w) → Answered (Row s) job (step_of d) now w h → IsOfJobs job (jobs_in (step_of d)) w
        → NoneOf (CommandStandsAt d) now → Quiet w.index_added
    step_quiet d job now w h row of none x has is =
        let parts = parted_at w.index_added x has in
        let j : ℕ = job_in x.entry in
        jobs_quiet d job now w h row none j (of.index parts.0 parts.1 x parts.2) x
        ((Contains-filter (is_of j) w.index_added x).1 (has, eq-eqb j j refl)) is

    -- nor do the steps up to one
    pub steps_quiet : (ss : List Step) (job : ℕ) (ones : List Section) (rs : List Reply) (w : Section) (q : ℕ) (one : Section) → AreSections job (steps_of ss) ones w
        → Answers (Row s) job (steps_of ss) ones rs → slice_get ones q ≡ Some one → NoneRenewed s.rack ss rs q name → Quiet w.index_before
        → Quiet one.index_before × Quiet one.index_added
    steps_quiet [] job [] rs w q one are answers at none quiet = absurd (cc at)
    steps_quiet [] job (o ∷ os) rs w q one are answers at none quiet = absurd are
    steps_quiet (x ∷ ss) job [] rs w q one are answers at none quiet = absurd are
    steps_quiet (x ∷ ss) job (o ∷ os) rs w zero one (rest, follows, of, more) (h, now, later, is, row, behind) at none quiet =
        subst (λ (z : Section). Quiet z.index_before × Quiet z.index_added) (same_Some o one at) (
          subst Quiet (sym follows.index_begins) quiet,
          step_quiet x job now o h row of
              (λ i geometry a p n stands got. none zero i geometry a p n (omega arith) (is_answered_here s x ss now later rs i (commands.Renew name geometry) (replies.Renewed a p n) is stands got)),
        )
    steps_quiet (x ∷ ss) job (o ∷ os) rs w (suc q) one (rest, follows, of, more) (h, now, later, is, row, behind) at none quiet =
        steps_quiet ss (job + jobs_in (step_of x)) os later rest q one more behind at
        (λ k i geometry a p n le answered. none (suc k) i geometry a p n (omega (arith, le))
        (is_answered_behind s x ss job now later rs o h k i (commands.Renew name geometry) (replies.Renewed a p n) row is answered))
        (subst Quiet (sym follows.index_goes_on)
        (quiet_both w.index_before o.index_added quiet
        (step_quiet x job now o h row of
        (λ i geometry a p n stands got. none zero i geometry a p n (omega arith) (is_answered_here s x ss now later rs i (commands.Renew name geometry) (replies.Renewed a p n) is stands got)))))
