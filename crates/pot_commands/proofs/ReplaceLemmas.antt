-- A `replace`, by how it ends.
use Rattle.std.proofs.Common.{◌≡◌, ◌<◌, ℕ, Bool, true, List, [], ◌∷◌, ◌++◌, length, refl, sym, ap, subst, ◌∙◌}
use Rattle.std.specs.Prelude.{Contains, Result, Ok, Err, MatchResult}
use Rattle.pot_bytes.specs.declared.rack.Rack.{Rack}
use Rattle.pot_outside.specs.Archives.{Meaning}
use Rattle.pot_outside.specs.declared.archive.Shelf.{Shelf}
use Rattle.pot_machine.specs.declared.entry.Entry.{Entry}
use Rattle.pot_machine.specs.declared.entry.Entry.TheVariants as entry
use Rattle.pot_machine.specs.Slot.{is_live}
use Rattle.pot_machine.specs.Table.{Table, slot_at, count}
use Rattle.pot_machine.specs.Logs.{is_of, replayed}
use Rattle.pot_group.specs.declared.moving.ShelfCause.{ShelfCause}
use Rattle.pot_group.specs.declared.moving.ShelfCause.TheVariants as cause
use Rattle.pot_group.specs.declared.moving.ShelfRefused.{ShelfRefused}
use Rattle.pot_group.specs.Moving.{RefusesSwap, live_in}
use Rattle.pot_turn.specs.declared.name.TurnName.{TurnName}
use Rattle.pot_worked.specs.Laws.{AllOf}
use Rattle.pot_script.specs.declared.reply.Reply.{Reply}
use Rattle.pot_script.specs.declared.reply.Reply.TheVariants as replies
use Rattle.pot_replies.specs.Settings.{Setting}
use Rattle.pot_replies.specs.Sections.{mine, IsSilent, IsOfJobs}
use Rattle.pot_replies.specs.Moves.{HasHome, IsUsed, NoHome}
use Rattle.pot_shared.specs.Calls.{CallAt}
use Rattle.pot_shared.specs.Catalogs.{IndexPasses, IsIndexReady}
use Rattle.pot_group.specs.Calls.{SwapCall}
use Rattle.pot_shared.specs.Ready.{AreReady, GroupPasses}
use Rattle.pot_shared.specs.Works.{Known, known, JobOnlyWriter, IsSettingOf, section_of}
use Rattle.pot_mend.specs.Moves.{IsOnlyAsked, ReplaceChecked, seen_in}
use Rattle.pot_mend.specs.declared.checking.UseFault.{UseFault}
use Rattle.pot_mend.specs.declared.checking.UseFault.TheVariants as used
use Rattle.pot_commands.specs.declared.arriving.Unanswered.{Unanswered}
use Rattle.pot_commands.specs.Arriving.{HandsBack, use_reply}
use Rattle.pot_commands.specs.Rows.{IsReplaceReply}
use Rattle.pot_commands.proofs.ArrivingLemmas.{back_all, back_silent, came_all, checked_silent, group_used, logs_met, met_log, met_logs, met_table, its_first, of_jobs, only_here, own_here}

module _ {rack : Rack} {names turn : List TurnName} (job from to : ℕ) {row0 row1 : GroupPasses} {i i1 : IndexPasses} (ready : AreReady rack names row0) (ready1 : AreReady rack names row1)
    (iready : IsIndexReady rack names turn i) (same : i1 ≡ i) (asked : IsOnlyAsked row0 row1) where
  abbrev first : Known
  first = known row0 i

  -- A CHECK REFUSED IT

  refused_row : (s : Setting) (fault : UseFault) → seen_in row1 ≡ seen_in row0 → IsSilent (mine job (section_of first (known row1 i1))) → ReplaceChecked s (seen_in row1) from to (Err fault)
      → IsReplaceReply s job from to (use_reply fault) (mine job (section_of first (known row1 i1)))
  refused_row s (used.NoSuchArchive n) transition silent says = (says.0, (subst (λ logs. NoHome s logs from) transition says.1, silent))
  refused_row s (used.InUse n) transition silent says =
      (says.0, (subst (λ logs. (g : ℕ) × (c : ℕ) × HasHome s logs from g c) transition says.1, subst (λ logs. IsUsed s logs to) transition says.2, silent))

  pub refused_says : (fault : UseFault) (reply : Reply) → reply ≡ use_reply fault → ((s : Setting) → IsSettingOf s rack first → ReplaceChecked s (seen_in row1) from to (Err fault)) → JobOnlyWriter job first (known row1 i1) → (s : Setting) → IsSettingOf s rack first
      → IsOfJobs job 1 (section_of first (known row1 i1)) → IsReplaceReply s job from to reply (mine job (section_of first (known row1 i1)))
  refused_says fault reply is says alone s set its =
      subst (λ r. IsReplaceReply s job from to r (mine job (section_of first (known row1 i1)))) (sym is) (refused_row s fault (met_logs job ready ready1 iready same asked alone (of_jobs job (section_of first (known row1 i1)) its))
      (checked_silent job ready ready1 iready same asked alone) (says s set))

  -- A CALL OF THE GROUP
  module _ {A : Type 0} (told : Type 0) (meaning : A → Meaning) (group c : ℕ) (shelf : Shelf A) (number : shelf.number ≡ to) {row2 : GroupPasses} {i2 : IndexPasses} (same2 : i2 ≡ i1) (ready2 : AreReady rack names row2)
      (within : group < length names) where
    abbrev last : Known
    last = known row2 i2

    -- IT CAME
    module _ (slots : ℕ) (call : CallAt told (SwapCall told meaning job c shelf (Ok slots)) group row1 row2) where
      came_own : AllOf (is_of job) call.turn.entries
      came_own = came_all job ready ready1 iready same asked same2 ready2 within call call.turn.call.0 number refl refl

      pub swap_says : (b : Bool) → ((s : Setting) → IsSettingOf s rack first → ReplaceChecked s (seen_in row1) from to (Ok (record { group = group; column = c; resumes = b }))) → JobOnlyWriter job first last → (s : Setting)
          → IsSettingOf s rack first → IsOfJobs job 1 (section_of first last) → IsReplaceReply s job from to (replies.Replaced from to slots) (mine job (section_of first last))
      swap_says b says alone s set its =
          let all = of_jobs job (section_of first last) its in
          let transition = logs_met job ready ready1 iready same asked same2 ready2 within call came_own alone all in
          let table = met_table job ready ready1 iready same asked same2 ready2 within call came_own alone all s set in
          let began = its_first job ready ready1 iready same asked same2 ready2 within call came_own alone all s set in
          let row = says s set in (
            refl,
            refl,
            record {
              group = group;
              column = c;
              home = subst (λ logs. HasHome s logs from group c) transition row.1;
              free = subst (λ logs. IsUsed s logs to → ⊥) transition row.2;
              own_is = own_here job ready ready1 iready same asked same2 ready2 within call came_own alone
                  ∙ (call.turn.call.0.entries_are ∙ ap (λ n. entry.Swapped job c n ∷ []) number);
              only = only_here job ready ready1 iready same asked same2 ready2 within call came_own alone;
              slots_is = call.turn.call.1 ∙ (ap (λ t. live_in t c) (sym table)
                  ∙ ap (λ n. count n (λ k. is_live (slot_at (replayed (s.first group) (seen_in row0 group)) k c))) (ap (λ (t : Table). t.stripes) table ∙ (call.turn.settled_old.sizes.2 ∙ ap (λ (t : Table). t.stripes) (sym began))));
            },
          )

    -- IT WAS HANDED BACK
    module _ (r : ShelfRefused A) (call : CallAt told (SwapCall told meaning job c shelf (Err r)) group row1 row2) where
      back_own : AllOf (is_of job) call.turn.entries
      back_own = back_all job ready ready1 iready same asked same2 ready2 within call call.turn.call.0.entries_are

      its_silent : JobOnlyWriter job first last → IsSilent (mine job (section_of first last))
      its_silent = back_silent job ready ready1 iready same asked same2 ready2 within call call.turn.call.0.entries_are

      full_row : (b : Bool) (s : Setting) → IsSettingOf s rack first → length names ≡ rack.groups → ReplaceChecked s (seen_in row1) from to (Ok (record { group = group; column = c; resumes = b })) → JobOnlyWriter job first last
          → ((g : ℕ) (x y : List Entry) (e : Entry) → (section_of first last).added g ≡ x ++ e ∷ y → is_of job e ≡ true) → IsSilent (mine job (section_of first last)) → (why : ShelfCause) → RefusesSwap call.turn.old shelf.number why
          → (reply : Reply) → HandsBack group why (Ok reply) → IsReplaceReply s job from to reply (mine job (section_of first last))
      full_row b s set count row alone all silent cause.LogFull why (replies.LogFull g) e = subst (λ k. IsReplaceReply s job from to (replies.LogFull k) (mine job (section_of first last))) (sym e) (record {
        column = c;
        home = subst (λ logs. HasHome s logs from group c) transition row.1;
        free = subst (λ logs. IsUsed s logs to → ⊥) transition row.2;
        silent = silent;
        full = ap length (sym (met_log job ready ready1 iready same asked same2 ready2 within call back_own alone all)) ∙ why;
      })
        where
          transition : seen_in row1 ≡ seen_in row0
          transition = logs_met job ready ready1 iready same asked same2 ready2 within call back_own alone all
      full_row b s set count row alone all silent (cause.InUse n) why (replies.InUse k) e =
          absurd (row.2 (subst (λ logs. IsUsed s logs to) (sym transition)
          (group_used job ready ready1 iready same asked same2 ready2 within call back_own alone all s set count call.turn.call.0.arrived to
          (subst (λ k. Contains call.turn.old.shelves.numbers k) number why.1))))
        where
          transition : seen_in row1 ≡ seen_in row0
          transition = logs_met job ready ready1 iready same asked same2 ready2 within call back_own alone all
      full_row b s set count row alone all silent _ why _ e = absurd e

      pub refused_ends : (b : Bool) → length names ≡ rack.groups → ((s : Setting) → IsSettingOf s rack first → ReplaceChecked s (seen_in row1) from to (Ok (record { group = group; column = c; resumes = b })))
          → (result : Result Reply Unanswered) → HandsBack group r.cause result → JobOnlyWriter job first last → (s : Setting) → IsSettingOf s rack first
          → MatchResult result (λ reply. IsOfJobs job 1 (section_of first last) → IsReplaceReply s job from to reply (mine job (section_of first last))) (λ e. IsSilent (mine job (section_of first last)))
      refused_ends b count says (Ok reply) e alone s set = λ its.
          full_row b s set count (says s set) alone (of_jobs job (section_of first last) its) (its_silent alone) r.cause call.turn.call.1 reply e
      refused_ends b count says (Err f) e alone s set = its_silent alone
