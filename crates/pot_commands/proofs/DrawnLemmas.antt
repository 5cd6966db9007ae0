-- The blinds of jobs, step after step.
use Rattle.std.proofs.Common.{◌≡◌, ◌≢◌, ◌<◌, ◌≤◌, ◌+◌, ⊎_elim, inl, inr, ℕ, suc, Bool, false, List, [], ◌∷◌, ◌++◌, length, refl, ap, sym, ◌∙◌, subst, arith, append-nil}
use Rattle.std.specs.Prelude.{Result, Ok, Err, Vec, MatchResult, filter}
use Rattle.std.specs.Global.{Global}
use Rattle.std.proofs.lemmas.Bool.{cases_eq, cases_lt, ne_eqb}
use Rattle.std.proofs.lemmas.List.Elements.{filter-append}
use lib.Seq.{drop-length}
use Rattle.pot_bytes.specs.declared.rack.Rack.{Rack}
use Rattle.pot_machine.specs.declared.entry.Entry.{Entry}
use Rattle.pot_machine.specs.Logs.{job_of, is_of, own}
use Rattle.pot_outside.specs.Accounts.{Transition}
use Rattle.pot_pads.specs.Pads.{Pads, pads_of}
use Rattle.pot_worked.specs.WroteOnlyFor.{added}
use Rattle.pot_worked.proofs.OnlyWriterLemmas.{gain_in_parts}
use Rattle.pot_rows.specs.Rows.{view_at}
use Rattle.pot_script.specs.declared.command.Command.{Command}
use Rattle.pot_script.specs.declared.command.Command.TheVariants as commands
use Rattle.pot_script.specs.declared.reply.Reply.{Reply}
use Rattle.pot_replies.specs.Sections.{IsOfJobs}
use Rattle.pot_replies.specs.Sessions.{Step, jobs_in}
use Rattle.pot_replies.specs.Settings.{Setting}
use Rattle.pot_shared.specs.Blinds.{AreDrawn, Blinds, is_begin, most_dropped}
use Rattle.pot_shared.specs.Going.{AllExtend, AllOnlyWriters}
use Rattle.pot_shared.specs.Works.{Known, JobOnlyWriter, JobWroteOnly, blinds_by, blinds_in, gained, of_job, section_of}
use Rattle.pot_shared.specs.Members.{entries_of}
use Rattle.pot_shared.specs.Ready.{GroupPass}
use Rattle.pot_shared.proofs.MemberLemmas.{entries_append}
use Rattle.pot_shared.proofs.DrawLemmas.{blinds_append, by_none}
use Rattle.pot_commands.specs.declared.working.Ending.{Ending}
use Rattle.pot_commands.specs.declared.working.Ending.TheVariants as ending
use Rattle.pot_commands.specs.Begun.{AreMovesBegun}
use Rattle.pot_commands.specs.Blinding.{HasBlinds, AreJobsBlinded}
use Rattle.pot_commands.specs.Ones.{OneEnds}
use Rattle.pot_commands.specs.Rows.{AreReplies, HasFilled, IsIdleCommand, IsSessionSetting}
use Rattle.pot_commands.specs.Sharing.{Common}
use Rattle.pot_commands.specs.declared.beginning.Task.{Task}
use Rattle.pot_commands.specs.Batches.{Line, KnownJoins, AreLines, AllSay, SaysIts, IsAmongLines, lines_of}
use Rattle.pot_commands.proofs.Brought.{is_its, is_setting, its_setting}
use Rattle.pot_commands.proofs.Going.{sole_alone, sole_parts}
use Rattle.pot_commands.proofs.Whose.{its_jobs}
use Rattle.pot_commands.proofs.BatchAnswers.{setting_given}
use Rattle.pot_commands.proofs.BatchLemmas.{its_line, job_alone, its_own}
use Rattle.pot_commands.proofs.BatchRows.{of_lines}
use Rattle.pot_commands.proofs.BegunLemmas.{either_part}
use Rattle.pot_commands.proofs.NoRelays.{MendsNone, begun_none, idle_none, replied_none, says_none}

-- NO BLINDS, AND THOSE OF TWO PARTS

pub none_drawn : (pads : Pads) (its : ℕ → List (List ℕ)) → ((g : ℕ) → its g ≡ []) → AreDrawn pads its
none_drawn pads its none = record { draws = []; few = omega arith; are = none }

pub same_drawn : (pads : Pads) (its other : ℕ → List (List ℕ)) → ((g : ℕ) → other g ≡ its g) → AreDrawn pads its → AreDrawn pads other
same_drawn pads its other same drawn = record { draws = drawn.draws; few = drawn.few; are = λ g. same g ∙ drawn.are g }

-- the passes are as they were
pub blinds_still : (job : ℕ) (old new : Known) (g : ℕ) → view_at new.groups g ≡ view_at old.groups g → blinds_by job old.groups new.groups g ≡ []
blinds_still job old new g same =
    ap (λ (v : GroupPass). blinds_in (filter (of_job job) (added (view_at old.groups g) v))) same ∙ ap (λ ls. blinds_in (filter (of_job job) ls)) (drop-length (view_at old.groups g).seen)

pub still_blinds : (b : Common) (old new : Known) → ((g : ℕ) → view_at new.groups g ≡ view_at old.groups g) → AreJobsBlinded b old new
still_blinds b old new same sole job = none_drawn (pads_of b.seed b.session job) (blinds_by job old.groups new.groups) (λ g. blinds_still job old new g (same g))

by_parts : (u v w : Known) → AllExtend u v → AllExtend v w → (job g : ℕ) → blinds_by job u.groups w.groups g ≡ blinds_by job u.groups v.groups g ++ blinds_by job v.groups w.groups g
by_parts u v w one two job g =
    ap (λ ls. blinds_in (filter (of_job job) ls)) (gain_in_parts (view_at u.groups g) (view_at v.groups g) (view_at w.groups g) (one.groups g) (two.groups g))
    ∙ (ap blinds_in (filter-append (of_job job) (added (view_at u.groups g) (view_at v.groups g)) (added (view_at v.groups g) (view_at w.groups g)))
    ∙ blinds_append (filter (of_job job) (added (view_at u.groups g) (view_at v.groups g))) (filter (of_job job) (added (view_at v.groups g) (view_at w.groups g))))

-- entries of which none is the job's
none_own : (job : ℕ) (es : List Entry) → ((x y : List Entry) (e : Entry) → es ≡ x ++ e ∷ y → job_of e ≢ job) → own job es ≡ []
none_own job [] other = refl
none_own job (e ∷ es) other =
    let not : is_of job e ≡ false = ne_eqb (job_of e) job (other [] es e refl) in
    rw not (none_own job es (λ x y f at. other (e ∷ x) y f (ap (λ l. e ∷ l) at)))

pub others_none : (job : ℕ) (old new : Known) (g : ℕ) → ((x y : List Entry) (e : Entry) → gained old.groups new.groups g ≡ x ++ e ∷ y → job_of e ≢ job) → blinds_by job old.groups new.groups g ≡ []
others_none job old new g other = by_none job old.groups new.groups g (ap (filter is_begin) (none_own job (gained old.groups new.groups g) other))

-- ONE JOB

-- by what its command says of them, or since it began no relay
command_drawn : (b : Common) (job : ℕ) (c : Command) (old new : Known) → HasBlinds b job c old.groups new.groups → JobOnlyWriter job old new
    → (MendsNone c → (g : ℕ) → filter is_begin (own job (gained old.groups new.groups g)) ≡ []) → AreDrawn (pads_of b.seed b.session job) (blinds_by job old.groups new.groups)
command_drawn b job c old new blinds alone none = by c blinds none
  where
    quiet : ((g : ℕ) → filter is_begin (own job (gained old.groups new.groups g)) ≡ []) → AreDrawn (pads_of b.seed b.session job) (blinds_by job old.groups new.groups)
    quiet begins = none_drawn (pads_of b.seed b.session job) (blinds_by job old.groups new.groups) (λ g. by_none job old.groups new.groups g (begins g))

    drawn : (after : Pads) × Blinds job most_dropped (pads_of b.seed b.session job) after old.groups new.groups → AreDrawn (pads_of b.seed b.session job) (blinds_by job old.groups new.groups)
    drawn (after, d) = record { draws = d.draws; few = d.few; are = d.blinds alone.groups }

    by : (x : Command) → HasBlinds b job x old.groups new.groups → (MendsNone x → (g : ℕ) → filter is_begin (own job (gained old.groups new.groups g)) ≡ [])
        → AreDrawn (pads_of b.seed b.session job) (blinds_by job old.groups new.groups)
    by (commands.Fetch name) has begins = drawn has
    by (commands.Renew name geometry) has begins = drawn has
    by (commands.Repair group) has begins = drawn has
    by _ has begins = quiet (begins tt)

-- a command alone: no other job logged anything
module _ (b : Common) (job : ℕ) (c : Command) (old new : Known) (filled : HasFilled b.vault.rack old) (worked : JobWroteOnly job old new) (blinds : HasBlinds b job c old.groups new.groups) where
  quiet_command : {E : Type 0} (result : Result (Vec Reply Global) E) → (JobOnlyWriter job old new → (s : Setting) → IsSessionSetting s b.vault.rack b.seed b.session old
      → MatchResult result (λ rs. AreReplies s job c rs.items (section_of old new)) (λ e. IsIdleCommand s job c (section_of old new))) → AllOnlyWriters old new
      → MendsNone c → (g : ℕ) → filter is_begin (own job (gained old.groups new.groups g)) ≡ []
  quiet_command (Ok rs) says sole mends g =
      replied_none (its_setting b.vault.rack b.seed b.session old) job c rs.items (section_of old new) mends (its_jobs job old new worked sole)
      (says (sole_alone job old new worked sole) (its_setting b.vault.rack b.seed b.session old) (is_setting b.vault.rack b.seed b.session old filled)) g
  quiet_command (Err e) says sole mends g =
      idle_none (its_setting b.vault.rack b.seed b.session old) job c (section_of old new) mends
      (says (sole_alone job old new worked sole) (its_setting b.vault.rack b.seed b.session old) (is_setting b.vault.rack b.seed b.session old filled)) g

  pub command_blinds : {E : Type 0} (result : Result (Vec Reply Global) E) → (JobOnlyWriter job old new → (s : Setting) → IsSessionSetting s b.vault.rack b.seed b.session old
      → MatchResult result (λ rs. AreReplies s job c rs.items (section_of old new)) (λ e. IsIdleCommand s job c (section_of old new))) → AreJobsBlinded b old new
  command_blinds result says sole j = ⊎_elim
      (λ (e : job ≡ j). subst (λ n. AreDrawn (pads_of b.seed b.session n) (blinds_by n old.groups new.groups)) e
      (command_drawn b job c old new blinds (sole_alone job old new worked sole) (quiet_command result says sole)))
      (λ (ne : job ≢ j). none_drawn (pads_of b.seed b.session j) (blinds_by j old.groups new.groups) (λ g. others_none j old new g (λ x y f at same.
      let its = (its_jobs job old new worked sole).groups g x y f at in let a = its.0 in let z = its.1 in
      ne (let eq : job ≡ j = omega (arith, a, z, same) in eq))))
      (cases_eq job j)

-- A BATCH

-- each line says so of its own passes
abbrev pub AllBlind : Common → List Line → Type 0
AllBlind b [] = Unit {0}
AllBlind b (c ∷ cs) = HasBlinds b c.job c.line c.given.groups c.done.groups × AllBlind b cs

blind_among : (b : Common) (cs : List Line) (c : Line) → IsAmongLines c cs → AllBlind b cs → HasBlinds b c.job c.line c.given.groups c.done.groups
blind_among b [] c there all = absurd there
blind_among b (d ∷ cs) c (inl same) all = subst (λ (x : Line). HasBlinds b x.job x.line x.given.groups x.done.groups) same all.0
blind_among b (d ∷ cs) c (inr later) all = blind_among b cs c later all.1

says_among : (rack : Rack) (seed : List ℕ) (session : ℕ) (cs : List Line) (c : Line) → IsAmongLines c cs → AllSay rack seed session cs → SaysIts rack seed session c
says_among rack seed session [] c there all = absurd there
says_among rack seed session (d ∷ cs) c (inl same) all = subst (SaysIts rack seed session) same all.0
says_among rack seed session (d ∷ cs) c (inr later) all = says_among rack seed session cs c later all.1

-- the line of a job
line_at : (v : Known) (from : ℕ) (cs : List Line) → AreLines v from cs → (job : ℕ) → from ≤ job → job < from + length (lines_of cs) → (d : Line) × IsAmongLines d cs × (d.job ≡ job)
line_at v from [] jobs job le lt = absurd (omega (arith, le, lt))
line_at v from (c ∷ cs) jobs job le lt = ⊎_elim
    (λ (e : from ≡ job). (c, inl refl, jobs.0 ∙ e))
    (λ (ne : from ≢ job). let rest = line_at v (suc from) cs jobs.2 job (after from job le ne) (omega (arith, lt)) in (rest.0, inr rest.1, rest.2))
    (cases_eq from job)
  where
    after : (n m : ℕ) → n ≤ m → n ≢ m → suc n ≤ m
    after n m l ne = ⊎_elim (λ (k : n < m). let z : suc n ≤ m = omega (arith, k) in z) (λ (k : m ≤ n). absurd (ne (let z : n ≡ m = omega (arith, k, l) in z))) (cases_lt n m)

module _ (b : Common) (v x : Known) (from : ℕ) (cs : List Line) (jobs : AreLines v from cs) (joins : KnownJoins v cs x) (say : AllSay b.vault.rack b.seed b.session cs) (blind : AllBlind b cs)
    (s : Setting) (is : IsSessionSetting s b.vault.rack b.seed b.session v) (sole : AllOnlyWriters v x) where
  line_drawn : (d : Line) → IsAmongLines d cs → AreDrawn (pads_of b.seed b.session d.job) (blinds_by d.job v.groups x.groups)
  line_drawn d among =
      let its = says_among b.vault.rack b.seed b.session cs d among say in
      let alone = job_alone v x from cs jobs joins sole d among in
      let set = setting_given s b.vault.rack b.seed b.session v d (its_line v from cs jobs d among) is in
      same_drawn (pads_of b.seed b.session d.job) (blinds_by d.job d.given.groups d.done.groups) (blinds_by d.job v.groups x.groups)
      (λ g. ap blinds_in (its_own v x from cs jobs joins sole d among g))
      (command_drawn b d.job d.line d.given d.done (blind_among b cs d among blind) alone
      (λ mends g. says_none s b.vault.rack d.job d.line d.task d.answer (section_of d.given d.done) mends its.0 (its.1 alone s set) g))

  pub lines_drawn : (job : ℕ) → AreDrawn (pads_of b.seed b.session job) (blinds_by job v.groups x.groups)
  lines_drawn job = ⊎_elim
      (λ (lt : job < from). none_drawn (pads_of b.seed b.session job) (blinds_by job v.groups x.groups) (λ g. others_none job v x g (λ y z e at same.
      let low = ((of_lines v x from cs jobs joins sole).groups g y z e at).0 in absurd (omega (arith, low, lt, same)))))
      (λ (le : from ≤ job). ⊎_elim
      (λ (lt : job < from + length (lines_of cs)). let d = line_at v from cs jobs job le lt in
      subst (λ n. AreDrawn (pads_of b.seed b.session n) (blinds_by n v.groups x.groups)) d.2 (line_drawn d.0 d.1))
      (λ (past : from + length (lines_of cs) ≤ job). none_drawn (pads_of b.seed b.session job) (blinds_by job v.groups x.groups) (λ g. others_none job v x g (λ y z e at same.
      let high = ((of_lines v x from cs jobs joins sole).groups g y z e at).1 in absurd (omega (arith, high, past, same)))))
      (cases_lt job (from + length (lines_of cs))))
      (cases_lt job from)

moves_none : (b : Common) (from : ℕ) (lines : List Command) (tasks : List Task) (u v : Known) → AreMovesBegun b.vault.rack from lines tasks u v → AllOnlyWriters u v → (job g : ℕ) → blinds_by job u.groups v.groups g ≡ []
moves_none b from lines tasks u v moves sole job g =
    by_none job u.groups v.groups g (begun_none job (gained u.groups v.groups g) ((moves.begun sole (its_setting b.vault.rack b.seed b.session u) (is_its b.vault.rack b.seed b.session u)).begins g))

-- the moves that began before it have none
pub moves_then : (b : Common) (from : ℕ) (lines : List Command) (tasks : List Task) (u v w : Known) → AreMovesBegun b.vault.rack from lines tasks u v → AllExtend v w → AreJobsBlinded b v w → AreJobsBlinded b u w
moves_then b from lines tasks u v w moves went blinds sole job =
    let parts = sole_parts u v w moves.went went sole in
    same_drawn (pads_of b.seed b.session job) (blinds_by job v.groups w.groups) (blinds_by job u.groups w.groups)
    (λ g. by_parts u v w moves.went went job g ∙ ap (λ l. l ++ blinds_by job v.groups w.groups g) (moves_none b from lines tasks u v moves parts.0 job g))
    (blinds parts.1 job)

pub moves_blinds : (b : Common) (from : ℕ) (lines : List Command) (tasks : List Task) (u v : Known) → AreMovesBegun b.vault.rack from lines tasks u v → AreJobsBlinded b u v
moves_blinds b from lines tasks u v moves sole job =
    none_drawn (pads_of b.seed b.session job) (blinds_by job u.groups v.groups) (moves_none b from lines tasks u v moves sole job)

-- STEPS IN A ROW

-- What the steps so far logged is of jobs before this one, and these have their blinds.
pub record AreBlindBelow (b : Common) (next : ℕ) (old new : Known) : Type 0 where
  pub below : AllOnlyWriters old new → (g : ℕ) (x y : List Entry) (e : Entry) → gained old.groups new.groups g ≡ x ++ e ∷ y → job_of e < next
  pub blinds : AreJobsBlinded b old new

pub none_below : (b : Common) (next : ℕ) (k : Known) → AreBlindBelow b next k k
none_below b next k = record {
  below = λ sole g x y e at. absurd (no_parts x y e (sym (ap entries_of (drop-length (view_at k.groups g).seen)) ∙ at));
  blinds = still_blinds b k k (λ g. refl);
}
  where
    no_parts : (x y : List Entry) (e : Entry) → [] ≡ x ++ e ∷ y → ⊥
    no_parts [] y e is = cc is
    no_parts (z ∷ x) y e is = cc is

-- what was logged at a step is of its jobs
step_jobs : (rack : Rack) (seed : List ℕ) (session job : ℕ) (step : Step Command) (old new : Known) (sink : Transition (List ℕ)) (result : Result Bool Ending) → OneEnds rack seed session job step old new sink result
    → HasFilled rack old → AllOnlyWriters old new → IsOfJobs job (jobs_in step) (section_of old new)
step_jobs rack seed session job step old new sink (Ok refused) ends filled sole = (ends.1 sole (its_setting rack seed session old) (is_setting rack seed session old filled)).0
step_jobs rack seed session job step old new sink (Err ending.SinkFailed) ends filled sole = (ends.1 sole (its_setting rack seed session old) (is_setting rack seed session old filled)).0
step_jobs rack seed session job step old new sink (Err ending.RoomFailed) ends filled sole = (ends.0 sole (its_setting rack seed session old) (is_setting rack seed session old filled)).0
step_jobs rack seed session job step old new sink (Err ending.NoMemory) ends filled sole = (ends.0 sole (its_setting rack seed session old) (is_setting rack seed session old filled)).0
step_jobs rack seed session job step old new sink (Err (ending.Done refused)) ends filled sole = absurd ends

pub blind_below : (b : Common) (job : ℕ) (step : Step Command) (u v w : Known) (sink : Transition (List ℕ)) (result : Result Bool Ending) → AllExtend u v → AllExtend v w → HasFilled b.vault.rack v
    → OneEnds b.vault.rack b.seed b.session job step v w sink result → AreJobsBlinded b v w → AreBlindBelow b job u v → (next : ℕ) → next ≡ job + jobs_in step → AreBlindBelow b next u w
blind_below b job step u v w sink result one two filled ends blinds sofar next is = record {
  below = λ sole g x y e at.
      let parts = sole_parts u v w one two sole in
      let its = step_jobs b.vault.rack b.seed b.session job step v w sink result ends filled parts.1 in
      let two_parts : gained u.groups v.groups g ++ gained v.groups w.groups g ≡ x ++ e ∷ y =
      sym (ap entries_of (gain_in_parts (view_at u.groups g) (view_at v.groups g) (view_at w.groups g) (one.groups g) (two.groups g))
      ∙ entries_append (added (view_at u.groups g) (view_at v.groups g)) (added (view_at v.groups g) (view_at w.groups g))) ∙ at in
      ⊎_elim
      (λ (p : (z : List Entry) × (gained u.groups v.groups g ≡ x ++ e ∷ z)). let lt = sofar.below parts.0 g x p.0 e p.1 in let z : job_of e < next = omega (arith, lt, is) in z)
      (λ (p : (z : List Entry) × (gained v.groups w.groups g ≡ z ++ e ∷ y)). let lt = (its.groups g p.0 y e p.1).1 in let z : job_of e < next = omega (arith, lt, is) in z)
      (either_part (gained u.groups v.groups g) (gained v.groups w.groups g) x y e two_parts);
  blinds = λ sole j.
      let parts = sole_parts u v w one two sole in
      let its = step_jobs b.vault.rack b.seed b.session job step v w sink result ends filled parts.1 in
      ⊎_elim
      (λ (lt : j < job). same_drawn (pads_of b.seed b.session j) (blinds_by j u.groups v.groups) (blinds_by j u.groups w.groups)
      (λ g. by_parts u v w one two j g
      ∙ (ap (λ l. blinds_by j u.groups v.groups g ++ l) (others_none j v w g (λ x y e at same. let low = (its.groups g x y e at).0 in absurd (omega (arith, low, lt, same))))
      ∙ append-nil (blinds_by j u.groups v.groups g)))
      (sofar.blinds parts.0 j))
      (λ (le : job ≤ j). same_drawn (pads_of b.seed b.session j) (blinds_by j v.groups w.groups) (blinds_by j u.groups w.groups)
      (λ g. by_parts u v w one two j g
      ∙ ap (λ l. l ++ blinds_by j v.groups w.groups g) (others_none j u v g (λ x y e at same. let low = sofar.below parts.0 g x y e at in absurd (omega (arith, low, le, same)))))
      (blinds parts.1 j))
      (cases_lt j job);
}
