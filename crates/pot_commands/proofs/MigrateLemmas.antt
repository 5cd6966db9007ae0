-- A `migrate`, by how it ends.
use Rattle.std.proofs.Common.{◌≡◌, ◌<◌, ⊎_elim, inl, inr, ℕ, Bool, true, false, List, [], ◌∷◌, ◌++◌, length, refl, sym, ap, subst, ◌∙◌, arith, append-nil}
use Rattle.std.specs.Prelude.{nat_lt, Contains, IsSome, Option, Some, None, Result, Ok, Err, filter}
use Rattle.std.proofs.lemmas.Bool.Decides.{nat_tests}
use mathlib.Core.Path.{fun_ext}
use Rattle.pot_bytes.specs.declared.rack.Rack.{Rack}
use Rattle.pot_outside.specs.Archives.{Meaning}
use Rattle.pot_outside.specs.declared.archive.Shelf.{Shelf}
use Rattle.pot_machine.specs.declared.column.Column.{Column}
use Rattle.pot_machine.specs.declared.column.Moving.{Moving}
use Rattle.pot_machine.specs.declared.entry.Entry.{Entry}
use Rattle.pot_machine.specs.declared.entry.Entry.TheVariants as entry
use Rattle.pot_machine.specs.Table.{Table, column_at}
use Rattle.pot_machine.specs.Logs.{job_of, is_of, replayed}
use Rattle.pot_machine.proofs.Columns.{column_same}
use Rattle.pot_group.specs.declared.moving.ShelfCause.{ShelfCause}
use Rattle.pot_group.specs.declared.moving.ShelfCause.TheVariants as cause
use Rattle.pot_group.specs.declared.moving.ShelfRefused.{ShelfRefused}
use Rattle.pot_group.specs.Moving.{RefusesMove}
use Rattle.pot_turn.specs.declared.name.TurnName.{TurnName}
use Rattle.pot_worked.specs.WroteOnlyFor.{added}
use Rattle.pot_worked.specs.Laws.{AllOf}
use Rattle.pot_rows.specs.Rows.{view_at}
use Rattle.pot_script.specs.declared.reply.Reply.{Reply}
use Rattle.pot_script.specs.declared.reply.Reply.TheVariants as replies
use Rattle.pot_replies.specs.Settings.{Setting}
use Rattle.pot_replies.specs.Sections.{Section, mine, checked, IsSilent, IsOfJobs}
use Rattle.pot_replies.specs.Moves.{IsUsed, MayBegin, MayGoOn, moving_at}
use Rattle.pot_shared.specs.Calls.{CallAt}
use Rattle.pot_shared.specs.Catalogs.{IndexPasses, IsIndexReady}
use Rattle.pot_shared.specs.Members.{entries_of}
use Rattle.pot_group.specs.Calls.{MoveBeginCall}
use Rattle.pot_shared.specs.Ready.{AreReady, GroupPasses}
use Rattle.pot_shared.proofs.MemberLemmas.{entries_append}
use Rattle.pot_shared.specs.Works.{Known, known, gained, JobOnlyWriter, IsSettingOf, section_of}
use Rattle.pot_mend.specs.Moves.{IsOnlyAsked, MayMove, MigrateChecked, seen_in}
use Rattle.pot_mend.specs.declared.checking.UseFault.{UseFault}
use Rattle.pot_mend.specs.declared.checking.UseFault.TheVariants as used
use Rattle.pot_commands.specs.declared.arriving.Unanswered.{Unanswered}
use Rattle.pot_commands.specs.Arriving.{HandsBack, HasBegun, IsUnbegun, Unbegins, use_reply}
use Rattle.pot_commands.proofs.ArrivingLemmas.{back_all, back_silent, came_all, checked_silent, group_used, its_first, logs_met, met_log, met_logs, met_table, of_jobs, only_here, own_each, own_here, table_now, whole_work}

-- LOGS AT A CHECK

not_less : (job : ℕ) (e : Entry) → is_of job e ≡ true → nat_lt (job_of e) job ≡ false
not_less job e is = grind (arith, nat_tests, is)

none_less : (job : ℕ) (es : List Entry) → ((x y : List Entry) (e : Entry) → es ≡ x ++ e ∷ y → is_of job e ≡ true) → filter (λ e. nat_lt (job_of e) job) es ≡ []
none_less job [] each = refl
none_less job (e ∷ es) each = rw (not_less job e (each [] es e refl)) (none_less job es (λ x y f at. each (e ∷ x) y f (ap (λ l. e ∷ l) at)))

-- nor do moves of the job itself count
pub none_before : (before begun : ℕ → List Entry) (job : ℕ) → ((g : ℕ) (x y : List Entry) (e : Entry) → begun g ≡ x ++ e ∷ y → is_of job e ≡ true) → checked before begun job ≡ before
none_before before begun job each = fun_ext (λ g. ap (λ l. before g ++ l) (none_less job (begun g) (each g)) ∙ append-nil (before g))

-- a column that does not move to the archive already may begin to
pub may_begin : (b : Bool) (s : Setting) (logs : ℕ → List Entry) (from to g c : ℕ) → b ≡ false → MayMove b s logs from to g c → MayBegin s logs from to g c
may_begin b s logs from to g c off may = subst (λ x. MayMove x s logs from to g c) off may

module _ {rack : Rack} {names turn : List TurnName} (job from to : ℕ) {row0 row1 : GroupPasses} {i i1 : IndexPasses} (ready : AreReady rack names row0) (ready1 : AreReady rack names row1)
    (iready : IsIndexReady rack names turn i) (same : i1 ≡ i) (asked : IsOnlyAsked row0 row1) where
  abbrev first : Known
  first = known row0 i

  -- A CHECK REFUSED IT

  refused_row : (s : Setting) (logs : ℕ → List Entry) (fault : UseFault) → MigrateChecked s logs from to (Err fault) → IsUnbegun s logs from to (use_reply fault)
  refused_row s logs (used.NoSuchArchive n) says = says
  refused_row s logs (used.InUse n) says = says

  abbrev asked_section : Section
  asked_section = section_of first (known row1 i1)

  pub refused_begins : (fault : UseFault) (reply : Reply) → reply ≡ use_reply fault → ((s : Setting) → IsSettingOf s rack first → MigrateChecked s (seen_in row1) from to (Err fault)) → JobOnlyWriter job first (known row1 i1)
      → (s : Setting) → IsSettingOf s rack first → Unbegins s job from to (Ok reply) asked_section
  refused_begins fault reply is says alone s set = λ its.
      let silent = checked_silent job ready ready1 iready same asked alone in (
        subst (λ r. IsUnbegun s (seen_in row0) from to r) (sym is)
            (subst (λ logs. IsUnbegun s logs from to (use_reply fault)) (met_logs job ready ready1 iready same asked alone (of_jobs job asked_section its)) (refused_row s (seen_in row1) fault (says s set))),
        silent,
      )

  -- THE COLUMN MOVES ALREADY

  some_moving : (o : Option Moving) → ((m : Moving) × (o ≡ Some m) × (m.to ≡ to)) → IsSome o
  some_moving None h = absurd (cc (h.1))
  some_moving (Some m) h = refl

  pub goes_on : (g c : ℕ) (b : Bool) → b ≡ true → ((s : Setting) → IsSettingOf s rack first → MigrateChecked s (seen_in row1) from to (Ok (record { group = g; column = c; resumes = b }))) → JobOnlyWriter job first (known row1 i1)
      → (s : Setting) → IsSettingOf s rack first → IsOfJobs job 1 asked_section → HasBegun s job from to g c asked_section
  goes_on g c false on says alone s set its = absurd (cc on)
  goes_on g c true on says alone s set its =
      let silent = checked_silent job ready ready1 iready same asked alone in
      let all = of_jobs job asked_section its in
      let transition = met_logs job ready ready1 iready same asked alone all in
      let may = subst (λ logs. MayGoOn s logs from to g c) transition (says s set) in
      let none : asked_section.added g ≡ [] = sym (own_each job (asked_section.added g) (all g)) ∙ silent.0 g in
      record {
        begins = inr (may, silent.0 g);
        only = ((λ h ne. silent.0 h), silent.1);
        moves = subst (λ l. IsSome (column_at (replayed (s.first g) l) c).moving) (sym (ap (λ l. seen_in row0 g ++ l) none ∙ append-nil (seen_in row0 g))) (some_moving (moving_at s (seen_in row0) g c) may.1);
      }

  -- A CALL OF THE GROUP
  module _ {A : Type 0} (told : Type 0) (meaning : A → Meaning) (group c : ℕ) (shelf : Shelf A) (number : shelf.number ≡ to) {row2 : GroupPasses} {i2 : IndexPasses} (same2 : i2 ≡ i1) (ready2 : AreReady rack names row2)
      (within : group < length names) where
    abbrev last : Known
    last = known row2 i2

    -- IT CAME
    module _ (u : Unit {0}) (call : CallAt told (MoveBeginCall told meaning job c shelf (Ok u)) group row1 row2) where
      came_own : AllOf (is_of job) call.turn.entries
      came_own = came_all job ready ready1 iready same asked same2 ready2 within call call.turn.call number refl refl

      now_moves : IsSome (column_at call.turn.new.table c).moving
      now_moves =
          let comes = call.turn.call.comes in
          let x : Column = record (column_at call.turn.old.table c) { moving = Some (record { to = shelf.number; upto = 0 }) } in
          subst (λ (t : Table). IsSome (column_at t c).moving) (sym comes.acts.table)
          (subst (λ (k : Column). IsSome k.moving) (sym (column_same call.turn.old.table c x call.turn.settled_old.table.size.columns comes.acts.legal.0.0)) refl)

      pub begin_says : (b : Bool) → b ≡ false → ((s : Setting) → IsSettingOf s rack first → MigrateChecked s (seen_in row1) from to (Ok (record { group = group; column = c; resumes = b }))) → JobOnlyWriter job first last → (s : Setting)
          → IsSettingOf s rack first → IsOfJobs job 1 (section_of first last) → HasBegun s job from to group c (section_of first last)
      begin_says true off says alone s set its = absurd (cc off)
      begin_says false off says alone s set its =
          let all = of_jobs job (section_of first last) its in
          let transition = logs_met job ready ready1 iready same asked same2 ready2 within call came_own alone all in
          let began = its_first job ready ready1 iready same asked same2 ready2 within call came_own alone all s set in
          let grows : seen_in row0 group ++ gained row0 row2 group ≡ seen_in row2 group =
          sym (ap entries_of ((whole_work job ready ready1 iready same asked same2 ready2 within call came_own).groups group).seen ∙ entries_append (view_at row0 group).seen (added (view_at row0 group) (view_at row2 group))) in
          let table : replayed (s.first group) (seen_in row0 group ++ gained row0 row2 group) ≡ call.turn.new.table =
          ap (replayed (s.first group)) grows
          ∙ (ap (λ t. replayed t (seen_in row2 group)) began ∙ table_now job ready ready1 iready same asked same2 ready2 within call came_own) in
          record {
            begins = inl (
              subst (λ logs. MayBegin s logs from to group c) transition (says s set),
              own_here job ready ready1 iready same asked same2 ready2 within call came_own alone
                  ∙ (call.turn.call.entries_are ∙ ap (λ n. entry.MoveBegin job c n ∷ []) number),
            );
            only = only_here job ready ready1 iready same asked same2 ready2 within call came_own alone;
            moves = subst (λ (t : Table). IsSome (column_at t c).moving) (sym table) now_moves;
          }

    -- IT WAS HANDED BACK
    module _ (r : ShelfRefused A) (call : CallAt told (MoveBeginCall told meaning job c shelf (Err r)) group row1 row2) where
      back_own : AllOf (is_of job) call.turn.entries
      back_own = back_all job ready ready1 iready same asked same2 ready2 within call call.turn.call.0.entries_are

      its_silent : JobOnlyWriter job first last → IsSilent (mine job (section_of first last))
      its_silent = back_silent job ready ready1 iready same asked same2 ready2 within call call.turn.call.0.entries_are

      no_move : (o : Option Moving) → o ≡ None → IsSome o → ⊥
      no_move None e h = cc h
      no_move (Some m) e h = cc e

      module _ (s : Setting) (set : IsSettingOf s rack first) (count : length names ≡ rack.groups) (may : MayBegin s (seen_in row1) from to group c) (alone : JobOnlyWriter job first last)
          (all : (g : ℕ) (x y : List Entry) (e : Entry) → gained row0 row2 g ≡ x ++ e ∷ y → is_of job e ≡ true) (silent : IsSilent (mine job (section_of first last))) where
        transition : seen_in row1 ≡ seen_in row0
        transition = logs_met job ready ready1 iready same asked same2 ready2 within call back_own alone all

        full_row : (why : ShelfCause) → RefusesMove call.turn.old c shelf.number why → (reply : Reply) → HandsBack group why (Ok reply) → IsUnbegun s (seen_in row0) from to reply
        full_row cause.LogFull why (replies.LogFull g) e = subst (λ k. IsUnbegun s (seen_in row0) from to (replies.LogFull k)) (sym e) (
          c,
          subst (λ logs. MayBegin s logs from to group c) transition may,
          ap length (sym (met_log job ready ready1 iready same asked same2 ready2 within call back_own alone all)) ∙ why,
        )
        full_row (cause.InUse n) why (replies.InUse k) e = absurd (⊎_elim
            (λ (h : IsSome (column_at call.turn.old.table c).moving × (n ≡ (column_at call.turn.old.table c).home)).
            no_move (column_at call.turn.old.table c).moving
            (ap (λ (t : Table). (column_at t c).moving) (sym (met_table job ready ready1 iready same asked same2 ready2 within call back_own alone all s set))
            ∙ subst (λ logs. moving_at s logs group c ≡ None) transition may.1) h.0)
            (λ (h : ((column_at call.turn.old.table c).moving ≡ None) × Contains call.turn.old.shelves.numbers shelf.number × (n ≡ shelf.number)).
            may.2 (subst (λ logs. IsUsed s logs to) (sym transition)
            (group_used job ready ready1 iready same asked same2 ready2 within call back_own alone all s set count call.turn.call.0.arrived to
            (subst (λ m. Contains call.turn.old.shelves.numbers m) number h.1))))
            why.1)
        full_row _ why _ e = absurd e

      pub unbegun_says : (b : Bool) → b ≡ false → length names ≡ rack.groups → ((s : Setting) → IsSettingOf s rack first → MigrateChecked s (seen_in row1) from to (Ok (record { group = group; column = c; resumes = b })))
          → (answer : Result Reply Unanswered) → HandsBack group r.cause answer → JobOnlyWriter job first last → (s : Setting) → IsSettingOf s rack first → Unbegins s job from to answer (section_of first last)
      unbegun_says true off count says answer h alone s set = absurd (cc off)
      unbegun_says false off count says (Ok reply) h alone s set = λ its.
          (full_row s set count (says s set) alone (of_jobs job (section_of first last) its) (its_silent alone) r.cause call.turn.call.1 reply h, its_silent alone)
      unbegun_says false off count says (Err e) h alone s set = its_silent alone
