-- A scrub, turn by turn.
use Rattle.std.proofs.Common.{◌≡◌, ◌<◌, ◌≤◌, inr, ⊎_elim, ℕ, ◌+◌, ◌-◌, List, [], ◌∷◌, ◌++◌, length, refl, ap, sym, ◌∙◌, subst, arith, append-nil, append_assoc, length-append}
use Rattle.std.specs.Prelude.{None, IfSome, filter, map}
use Rattle.pot_bytes.specs.declared.rack.Place.{Place}
use Rattle.pot_bytes.specs.declared.rack.Rack.{Rack}
use Rattle.pot_bytes.specs.Rack.{log_bound}
use Rattle.pot_bytes.proofs.Elements.{none_contained}
use Rattle.pot_machine.specs.declared.entry.Entry.{Entry}
use Rattle.pot_machine.specs.declared.entry.Entry.TheVariants as entry
use Rattle.pot_machine.specs.Slot.{is_live}
use Rattle.pot_machine.specs.Table.{Table}
use Rattle.pot_machine.specs.Logs.{is_of, own, replayed}
use Rattle.pot_machine.proofs.Logs.{own_append}
use Rattle.pot_group.specs.declared.answers.Looked.{Looked}
use Rattle.pot_group.specs.declared.answers.Looked.TheVariants as looked
use Rattle.pot_group.specs.declared.sweeping.Reached.TheVariants as reached
use Rattle.pot_group.specs.declared.sweeping.Swept.{Swept}
use Rattle.pot_group.specs.Finding.{IsNextPlace}
use Rattle.pot_group.specs.Group.{GroupView}
use Rattle.pot_group.specs.Sweeping.{IsSweepReached, Look, LooksOn, SweepCall}
use Rattle.pot_turn.specs.declared.name.TurnName.{TurnName}
use Rattle.pot_worked.specs.Laws.{AllOf}
use Rattle.pot_rows.specs.Rows.{view_at}
use Rattle.pot_rows.specs.Works.{AllIdle, RowOnlyWriterOf, RowWroteOnlyFor}
use Rattle.pot_rows.proofs.WorkLemmas.{row_alone_in_parts}
use Rattle.pot_shared.specs.Members.{entries_of}
use Rattle.pot_shared.specs.Ready.{GroupPasses, AreReady}
use Rattle.pot_shared.specs.Calls.{CallAt}
use Rattle.pot_shared.specs.Catalogs.{IndexPasses}
use Rattle.pot_shared.specs.Adds.{Adds, IsFirstTableSeen}
use Rattle.pot_shared.specs.Works.{of_job, gained, known, section_of, IsSettingOf}
use Rattle.pot_shared.proofs.AddLemmas.{adds_call, adds_none, adds_then, both_gained, its_gain, left_bound, left_long, met_table, seen_parts}
use Rattle.pot_shared.proofs.WorkLemmas.{gained_none}
use Rattle.pot_replies.specs.Jobs.{is_look, is_seen, is_gone, place_in, EachIs, Ascend, Precedes}
use Rattle.pot_replies.specs.Sections.{Section}
use Rattle.pot_replies.specs.Settings.{Setting}
use Rattle.pot_replies.specs.Scrubs.{AreLooks, IsScrubbed, IsScrubFault, IsScrubLogFull, WereLive}
use Rattle.pot_mend.proofs.EntryLemmas.{count_both, each_more}
use Rattle.pot_mend.proofs.OrderLemmas.{AtOrAfter, ascend_front, before_or_after}
use Rattle.pot_mend.proofs.SectionLemmas.{FailsIn, fails_last, last_full, not_passed, only_in, sizes_replayed}
use Rattle.pot_mend.proofs.SweepLemmas.{AreAnswered, LastLook, ScrubOn, WasLooked, all_by, behind, behind_last, both_by, each_by, gone_by, last_by, last_full_log, last_here, last_narrow, logged, logged_by, most_by, none_answered, on_ascends, on_begin, on_live, on_others, one_more_by, own_by, seen_by, turn_done, turn_last, turn_logs}

-- SO FAR

-- What was done before this place.
pub record ScrubSofar (job g s c seen gone : ℕ) (old now : GroupPasses) : Type 0 where
  pub entries : List Entry
  pub adds : Adds job g entries old now
  pub kinds : EachIs is_look entries
  pub seen_is : seen ≡ length (filter is_seen entries)
  pub gone_is : gone ≡ length (filter is_gone entries)
  pub both : seen + gone ≡ length entries
  pub on : (first : Table) → IsFirstTableSeen g old first → RowOnlyWriterOf (of_job job) old now
      → ScrubOn job s c entries first (entries_of (view_at old g).seen) (gained old now g)

pub scrub_begin : (job g : ℕ) (row : GroupPasses) → AllIdle row → ScrubSofar job g 0 0 0 0 row row
scrub_begin job g row idle = record {
  entries = [];
  adds = adds_none job g row idle;
  kinds = λ e has. absurd (none_contained e has);
  seen_is = refl;
  gone_is = refl;
  both = refl;
  on = λ first read alone. subst (λ l. ScrubOn job 0 0 [] first (entries_of (view_at row g).seen) l) (sym (gained_none row g)) (on_begin job first (entries_of (view_at row g).seen));
}

-- THE ANSWERS

module _ (st : Setting) (job g : ℕ) (rack : Rack) (u w : GroupPasses) (ui wi : IndexPasses) (same : wi ≡ ui) (within : g < length u.names) (alone : RowOnlyWriterOf (of_job job) u w)
    (set : IsSettingOf st rack (known u ui)) where
  abbrev its : Section
  its = section_of (known u ui) (known w wi)

  -- no slot is left
  scrubbed_row : (s c seen gone : ℕ) → ScrubSofar job g s c seen gone u w → IsNextPlace (replayed (st.first g) (its.before g ++ its.added g)) is_live s c None → IsScrubbed st job g seen gone its
  scrubbed_row s c seen gone sofar none =
      let on : ScrubOn job s c sofar.entries (st.first g) (its.before g) (its.added g) = sofar.on (st.first g) (set.first g within) alone in
      let are : own job (its.added g) ≡ sofar.entries = sofar.adds.own_is alone in
      record {
        looks = subst AreLooks (sym are) (record { kinds = sofar.kinds; ascends = ascend_front (map place_in sofar.entries) (s, c) on.ascends });
        only = only_in st job g rack u w ui wi same within alone set sofar.entries sofar.adds;
        seen_is = sofar.seen_is ∙ ap (λ es. length (filter is_seen es)) (sym are);
        gone_is = sofar.gone_is ∙ ap (λ es. length (filter is_gone es)) (sym are);
        all = λ n k in_stripes in_columns always. subst (λ es. WasLooked es job n k) (sym are) (⊎_elim
            (λ (had : WasLooked sofar.entries job n k). had)
            (λ (failed : FailsIn is_live (st.first g) (its.before g) (its.added g) n k).
            absurd (not_passed is_live (st.first g) (its.before g) (its.added g) n k in_stripes in_columns always failed))
            (⊎_elim
            (λ (low : Precedes (n, k) (s, c)). on.done n k low)
            (λ (at : AtOrAfter (s, c) (n, k)). inr (left n k at))
            (before_or_after n k s c)));
        live = on.live;
      }
    where
      left : (n k : ℕ) → AtOrAfter (s, c) (n, k) → FailsIn is_live (st.first g) (its.before g) (its.added g) n k
      left n k at = fails_last is_live (st.first g) (its.before g) (its.added g) n k
          (λ in_stripes in_columns. let sizes = sizes_replayed (st.first g) (its.before g ++ its.added g) in
          none n k ((subst (λ m. n < m) (sym sizes.0) in_stripes, subst (λ m. k < m) (sym sizes.1) in_columns), at))

  module _ (entries : List Entry) (p : Place) where
    -- an archive failed
    fault_row : (column : ℕ) → EachIs is_look entries → Adds job g (entries ++ entry.Fault job p.stripe column ∷ []) u w → column ≡ p.column
        → LastLook job entries p (looked.Faulted column) (st.first g) (its.before g) (its.added g) → IsScrubFault st job g column its
    fault_row column kinds adds here last =
        let place : (p.stripe, column) ≡ (p.stripe, p.column) = ap (λ (k : ℕ). (p.stripe, k)) here in
        record {
          looks = entries;
          stripe = p.stripe;
          own_is = adds.own_is alone;
          kinds = kinds;
          ascends = subst (λ (q : ℕ × ℕ). Ascend (map place_in entries ++ q ∷ [])) (sym place)
              (on_ascends job last.stripe last.column entries (st.first g) (its.before g) last.sofar last.on p.stripe p.column last.next);
          only = only_in st job g rack u w ui wi same within alone set (entries ++ entry.Fault job p.stripe column ∷ []) adds;
          live = subst (WereLive job (st.first g) (its.before g)) (sym last.parts)
              (on_live job last.stripe last.column entries (st.first g) (its.before g) last.sofar last.on p.stripe p.column last.next (entry.Fault job p.stripe column) place);
        }

    -- the log was full
    full_row : EachIs is_look entries → Adds job g entries u w → length (view_at w g).seen ≡ log_bound
        → LastLook job entries p looked.LogFull (st.first g) (its.before g) (its.added g) → IsScrubLogFull st job g its
    full_row kinds adds bound last =
        let are : own job (its.added g) ≡ entries = adds.own_is alone in
        let full = last_full st job g rack u w ui wi same within alone set entries adds bound in
        let sizes = sizes_replayed (st.first g) (its.before g ++ last.sofar) in
        let ascends = on_ascends job last.stripe last.column entries (st.first g) (its.before g) last.sofar last.on p.stripe p.column last.next in
        record {
          looks = subst AreLooks (sym are) (record { kinds = kinds; ascends = ascend_front (map place_in entries) (p.stripe, p.column) ascends });
          only = only_in st job g rack u w ui wi same within alone set entries adds;
          log = entries_of (view_at w g).seen;
          moment = full.0;
          full = full.1;
          stripe = p.stripe;
          column = p.column;
          in_stripes = subst (λ n. p.stripe < n) sizes.0 last.next.0.0.0;
          in_columns = subst (λ n. p.column < n) sizes.1 last.next.0.0.1;
          behind = subst (λ es. Ascend (map place_in es ++ (p.stripe, p.column) ∷ [])) (sym are) ascends;
          was = (last.sofar, [], last.parts, last.next.1);
          live = subst (WereLive job (st.first g) (its.before g)) (sym (last.parts ∙ append-nil last.sofar)) last.on.live;
        }

-- A TURN

nothing_before : (xs ys : List Entry) → xs ++ ys ≡ ys → xs ≡ []
nothing_before [] ys is = refl
nothing_before (x ∷ xs) ys is = (let long = ap length is in let both = length-append xs ys in absurd (omega (arith, long, both)))

module _ {told : Type 0} {job : ℕ} {rack : Rack} {names : List TurnName} {g s c seen gone : ℕ} {swept : Swept} {u v w : GroupPasses} (within : g < length names) (ready : AreReady rack names v)
    (sofar : ScrubSofar job g s c seen gone u v) (call : CallAt told (SweepCall told job s c swept) g v w) where
  abbrev Sweep : GroupView → GroupView → List Entry → Type 0
  Sweep = SweepCall told job s c swept

  abbrev looks : List Look
  looks = call.turn.call.looks

  long : g < length v.views
  long = let l = ready.of.1 in omega (arith, within, l)

  its_logs : call.turn.entries ≡ logged_by job looks
  its_logs = turn_logs told job s c looks call.turn.old call.turn.new call.turn.entries call.turn.call.goes

  turn_adds : Adds job g (logged_by job looks) v w
  turn_adds = subst (λ es. Adds job g es v w) its_logs
      (adds_call told job Sweep g v w long call ready.idle (subst (λ es. AllOf (is_of job) es) (sym its_logs) (all_by job looks)))

  all_adds : Adds job g (sofar.entries ++ logged_by job looks) u w
  all_adds = adds_then job g sofar.entries (logged_by job looks) u v w sofar.adds turn_adds

  pub scrub_works : RowWroteOnlyFor (of_job job) u w
  scrub_works = all_adds.worked

  last_is : (front : List Look) (p : Place) (answer : Looked) → sofar.entries ++ logged_by job (front ++ (p, answer) ∷ []) ≡ (sofar.entries ++ logged_by job front) ++ logged job p answer
  last_is front p answer = ap (λ es. sofar.entries ++ es) (last_by job front p answer) ∙ sym (append_assoc sofar.entries (logged_by job front) (logged job p answer))

  -- what was counted is no more than the log
  pub scrub_fits : (seen + swept.seen) + (gone + swept.gone) ≤ log_bound
  scrub_fits =
      let both = sofar.both in
      let most = most_by job looks in
      let seen_is = call.turn.call.seen_is in
      let gone_is = call.turn.call.gone_is in
      let grew = all_adds.grew in
      let parts = length-append sofar.entries (logged_by job looks) in
      let bound = left_bound told job Sweep g v w long call in
      omega (arith, both, most, seen_is, gone_is, grew, parts, bound)

  -- where nobody else logged an entry of the job
  module _ (first : Table) (read : IsFirstTableSeen g u first) (alone : RowOnlyWriterOf (of_job job) u w) where
    abbrev before : List Entry
    before = entries_of (view_at u g).seen

    abbrev others : List Entry
    others = entries_of call.turn.others

    abbrev transition : List Entry
    transition = gained u v g ++ others

    parts : RowOnlyWriterOf (of_job job) u v × RowOnlyWriterOf (of_job job) v w
    parts = row_alone_in_parts (of_job job) u v w sofar.adds.worked turn_adds.worked alone

    gain : gained v w g ≡ others ++ logged_by job looks
    gain = its_gain told job Sweep g v w long call ∙ ap (λ es. others ++ es) its_logs

    none_of_others : own job others ≡ []
    none_of_others = nothing_before (own job others) (logged_by job looks)
        (ap (λ es. own job others ++ es) (sym (own_by job looks)) ∙ (sym (own_append job others (logged_by job looks)) ∙ (ap (own job) (sym gain) ∙ turn_adds.own_is parts.1)))

    all_gain : gained u w g ≡ transition ++ logged_by job looks
    all_gain = both_gained job g u v w sofar.adds.worked turn_adds.worked ∙ (ap (λ es. gained u v g ++ es) gain ∙ sym (append_assoc (gained u v g) others (logged_by job looks)))

    its_table : call.turn.old.table ≡ replayed first (before ++ transition)
    its_table =
        met_table told job Sweep g v w long call first (subst (λ o. IfSome o (λ t. first ≡ t.first)) (sym (sofar.adds.worked g).origin) read)
        ∙ ap (replayed first) (ap (λ es. es ++ others) (seen_parts job g u v sofar.adds.worked) ∙ append_assoc before (gained u v g) others)

    on_met : ScrubOn job s c sofar.entries first before transition
    on_met = on_others job s c sofar.entries first before (gained u v g) (sofar.on first read parts.0) others none_of_others

    its_gain_is : transition ++ call.turn.entries ≡ gained u w g
    its_gain_is = ap (λ es. transition ++ es) its_logs ∙ sym all_gain

    on_turn : AreAnswered looks → ScrubOn job (behind s c looks).0 (behind s c looks).1 (sofar.entries ++ logged_by job looks) first before (gained u w g)
    on_turn all = subst (λ es. ScrubOn job (behind s c looks).0 (behind s c looks).1 (sofar.entries ++ logged_by job looks) first before es) its_gain_is
        (turn_done told job first before s c looks call.turn.old call.turn.new call.turn.entries call.turn.call.goes all sofar.entries transition its_table on_met)

    on_last : (front : List Look) (p : Place) (answer : Looked) → looks ≡ front ++ (p, answer) ∷ [] → AreAnswered front
        → LastLook job (sofar.entries ++ logged_by job front) p answer first before (gained u w g)
    on_last front p answer is all = subst (λ es. LastLook job (sofar.entries ++ logged_by job front) p answer first before es) its_gain_is
        (turn_last told job first before p answer s c front call.turn.old call.turn.new call.turn.entries (subst (λ ls. LooksOn told job s c ls call.turn.old call.turn.new call.turn.entries) is call.turn.call.goes) all
        sofar.entries transition its_table on_met)

    -- where nothing was looked at
    none_next : looks ≡ [] → IsNextPlace call.turn.old.table is_live s c None → IsNextPlace (replayed first (before ++ gained u w g)) is_live s c None
    none_next none next = subst (λ t. IsNextPlace t is_live s c None)
        (its_table ∙ ap (λ es. replayed first (before ++ es)) (sym (append-nil transition) ∙ (ap (λ ls. transition ++ logged_by job ls) (sym none) ∙ sym all_gain))) next

  -- all looks were answered
  scrub_went : AreAnswered looks → ScrubSofar job g (behind s c looks).0 (behind s c looks).1 (seen + swept.seen) (gone + swept.gone) u w
  scrub_went all = record {
    entries = sofar.entries ++ logged_by job looks;
    adds = all_adds;
    kinds = each_more is_look sofar.entries (logged_by job looks) sofar.kinds (each_by job looks all);
    seen_is = (let a = sofar.seen_is in let b = call.turn.call.seen_is in let d = seen_by job looks in let e = count_both is_seen sofar.entries (logged_by job looks) in omega (arith, a, b, d, e));
    gone_is = (let a = sofar.gone_is in let b = call.turn.call.gone_is in let d = gone_by job looks in let e = count_both is_gone sofar.entries (logged_by job looks) in omega (arith, a, b, d, e));
    both = (let a = sofar.both in
        let b = call.turn.call.seen_is in
        let d = call.turn.call.gone_is in
        let e = both_by job looks all in
        let f = length-append sofar.entries (logged_by job looks) in
        omega (arith, a, b, d, e, f));
    on = λ first read alone. on_turn first read alone all;
  }

  -- the last of them was at this slot
  module _ (stripe column : ℕ) (at : swept.reached ≡ reached.Slot stripe column) where
    reaches : IsSweepReached call.turn.old s c (reached.Slot stripe column) looks
    reaches = subst (λ r. IsSweepReached call.turn.old s c r looks) at call.turn.call.reaches

    pub scrub_step : ScrubSofar job g stripe (column + 1) (seen + swept.seen) (gone + swept.gone) u w
    scrub_step =
        let (front, p, answer, is, all, at_stripe, at_column) = reaches in
        subst (λ (q : ℕ × ℕ). ScrubSofar job g q.0 q.1 (seen + swept.seen) (gone + swept.gone) u w)
        (ap (behind s c) is ∙ (behind_last s c front p answer ∙ (ap (λ (n : ℕ). (n, p.column + 1)) at_stripe ∙ ap (λ (n : ℕ). (stripe, n + 1)) at_column)))
        (scrub_went all)

    pub scrub_narrow : column < 18
    scrub_narrow =
        let (front, p, answer, is, all, at_stripe, at_column) = reaches in
        let narrow = last_narrow told job p answer s c front call.turn.old call.turn.new call.turn.entries (subst (λ ls. LooksOn told job s c ls call.turn.old call.turn.new call.turn.entries) is call.turn.call.goes)
        call.turn.old.table [] refl in
        let size = call.turn.settled_old.table.size in
        let a = size.data_columns.1 in
        let b = size.parity.1 in
        omega (arith, narrow, at_column, a, b)

    pub scrub_less : 262145 - length (view_at w g).seen < 262145 - length (view_at v g).seen
    scrub_less =
        let (front, p, answer, is, all, at_stripe, at_column) = reaches in
        let some = subst (λ ls. length (logged_by job front) < length (logged_by job ls)) (sym is) (one_more_by job front (p, answer) (subst AreAnswered is all)) in
        let grew = turn_adds.grew in
        let bound = left_bound told job Sweep g v w long call in
        omega (arith, some, grew, bound)

  -- it stopped
  module _ (st : Setting) (ui wi : IndexPasses) (same : wi ≡ ui) (has : g < length u.names) (alone : RowOnlyWriterOf (of_job job) u w) (set : IsSettingOf st rack (known u ui)) where
    pub scrub_end_row : swept.reached ≡ reached.End → IsScrubbed st job g (seen + swept.seen) (gone + swept.gone) (section_of (known u ui) (known w wi))
    scrub_end_row at =
        let (none, next) = subst (λ r. IsSweepReached call.turn.old s c r looks) at call.turn.call.reaches in
        scrubbed_row st job g rack u w ui wi same has alone set s c (seen + swept.seen) (gone + swept.gone)
        (subst (λ (q : ℕ × ℕ). ScrubSofar job g q.0 q.1 (seen + swept.seen) (gone + swept.gone) u w) (ap (behind s c) none) (scrub_went (subst AreAnswered (sym none) none_answered)))
        (none_next (st.first g) (set.first g has) alone none next)

    pub scrub_fault_row : (column : ℕ) → swept.reached ≡ reached.Faulted column → IsScrubFault st job g column (section_of (known u ui) (known w wi))
    scrub_fault_row column at =
        let (front, p, is, all) = subst (λ r. IsSweepReached call.turn.old s c r looks) at call.turn.call.reaches in
        let goes = subst (λ ls. LooksOn told job s c ls call.turn.old call.turn.new call.turn.entries) is call.turn.call.goes in
        fault_row st job g rack u w ui wi same has alone set (sofar.entries ++ logged_by job front) p column
        (each_more is_look sofar.entries (logged_by job front) sofar.kinds (each_by job front all))
        (subst (λ es. Adds job g es u w) (ap (λ ls. sofar.entries ++ logged_by job ls) is ∙ last_is front p (looked.Faulted column)) all_adds)
        (last_here told job p (looked.Faulted column) s c front call.turn.old call.turn.new call.turn.entries goes)
        (on_last (st.first g) (set.first g has) alone front p (looked.Faulted column) is all)

    pub scrub_full_row : swept.reached ≡ reached.LogFull → IsScrubLogFull st job g (section_of (known u ui) (known w wi))
    scrub_full_row at =
        let (front, p, is, all) = subst (λ r. IsSweepReached call.turn.old s c r looks) at call.turn.call.reaches in
        let goes = subst (λ ls. LooksOn told job s c ls call.turn.old call.turn.new call.turn.entries) is call.turn.call.goes in
        full_row st job g rack u w ui wi same has alone set (sofar.entries ++ logged_by job front) p
        (each_more is_look sofar.entries (logged_by job front) sofar.kinds (each_by job front all))
        (subst (λ es. Adds job g es u w) (ap (λ ls. sofar.entries ++ logged_by job ls) is ∙ (last_is front p looked.LogFull ∙ append-nil (sofar.entries ++ logged_by job front))) all_adds)
        (left_long told job Sweep g v w long call ∙ last_full_log told job p s c front call.turn.old call.turn.new call.turn.entries goes)
        (on_last (st.first g) (set.first g has) alone front p looked.LogFull is all)
