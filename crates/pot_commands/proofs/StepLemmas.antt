-- A command alone as a step of a script, and what is left of a step that has its replies.
use Rattle.std.proofs.Common.{◌≡◌, ◌<◌, ◌≤◌, ◌+◌, ◌^◌, ℕ, suc, inl, inr, List, [], ◌∷◌, length, refl, ap, sym, ◌∙◌, subst, arith}
use Rattle.std.specs.Prelude.{Result, Ok, Err, Vec, MatchResult}
use Rattle.std.specs.Global.{Global}
use Rattle.std.specs.List.{AllByRecursion, flat_map}
use Rattle.pot_bytes.specs.declared.rack.Rack.{Rack}
use Rattle.pot_script.specs.declared.command.Command.{Command}
use Rattle.pot_script.specs.declared.grouping.Step as script
use Rattle.pot_script.specs.declared.grouping.Step.TheVariants as steps
use Rattle.pot_script.specs.declared.reply.Reply.{Reply}
use Rattle.pot_turn.specs.declared.name.TurnName.{TurnName}
use Rattle.pot_replies.specs.Settings.{Setting}
use Rattle.pot_replies.specs.Sections.{Section, MovesThenRest}
use Rattle.pot_replies.specs.Sessions.{Step, One, Together, Rows, jobs_in}
use Rattle.pot_rows.specs.Rows.{PassRow, HasMoreParts}
use Rattle.pot_shared.specs.Ready.{GroupPasses, AreReady}
use Rattle.pot_shared.specs.Catalogs.{IndexPasses, IsIndexReady}
use Rattle.pot_shared.specs.Works.{Known, known, JobWroteOnly, JobOnlyWriter, section_of}
use Rattle.pot_commands.specs.Rows.{IsSessionSetting, AreReplies, IsIdleCommand, IsWorked, Row}
use Rattle.pot_shared.specs.Going.{AllStay}
use Rattle.pot_commands.specs.declared.arriving.Unanswered.{Unanswered}
use Rattle.pot_commands.specs.declared.arriving.Unanswered.TheVariants as unanswered
use Rattle.pot_commands.specs.Steps.{AsksArchive, IsBatched, IsWorkedStep, StepGives, StepLeaves, StepStops, AreLinesLeft, step_of}
use Rattle.pot_commands.specs.Taking.{Took, asks, asks_in}
use Rattle.pot_outside.specs.Rooms.{RoomState}
use Rattle.pot_commands.proofs.Going.{sole_alone}
use Rattle.pot_commands.proofs.Whose.{its_jobs, judged}

-- a job's work leaves the passes ready for another
pub work_stays : (rack : Rack) (names turn : List TurnName) (job : ℕ) (row row' : GroupPasses) (i i' : IndexPasses) → AreReady rack names row → AreReady rack names row'
    → IsIndexReady rack names turn i → IsIndexReady rack names turn i' → JobWroteOnly job (known row i) (known row' i') → AllStay (known row i) (known row' i')
work_stays rack names turn job row row' i i' ready ready' iready iready' worked = record {
  groups = record { names = ready'.of.0 ∙ sym ready.of.0; origin = λ at. (worked.groups at).origin; opened = λ at. (worked.groups at).opened; parts = λ at. (worked.groups at).parts };
  index = record { names = iready'.of.0 ∙ sym iready.of.0; origin = λ at. (worked.index at).origin; opened = λ at. (worked.index at).opened; parts = λ at. (worked.index at).parts };
}

module _ (rack : Rack) (seed : List ℕ) (session job : ℕ) (c : Command) (old new : Known) (worked : JobWroteOnly job old new) where
  -- its job's entries give its replies
  pub one_gives : (rs : List Reply) → (JobOnlyWriter job old new → (s : Setting) → IsSessionSetting s rack seed session old → AreReplies s job c rs (section_of old new))
      → StepGives rack seed session job (One c) old new rs
  one_gives rs says sole s setting =
      let of = its_jobs job old new worked sole in
      let row = judged s job c rs (section_of old new) of (says (sole_alone job old new worked sole) s setting) in
      (of, (row.0, row.1))

  -- or it has none
  pub one_leaves : (JobOnlyWriter job old new → (s : Setting) → IsSessionSetting s rack seed session old → IsIdleCommand s job c (section_of old new)) → StepLeaves rack seed session job (One c) old new
  one_leaves says sole s setting = (its_jobs job old new worked sole, inl (says (sole_alone job old new worked sole) s setting))

  pub one_stops : (e : Unanswered) → (e ≡ unanswered.RoomFailed → AsksArchive c) → (JobOnlyWriter job old new → (s : Setting) → IsSessionSetting s rack seed session old → IsIdleCommand s job c (section_of old new)) → StepStops rack seed session job (One c) old new e
  one_stops unanswered.RoomFailed asked says = λ sole s setting. (its_jobs job old new worked sole, (asked refl, says (sole_alone job old new worked sole) s setting))
  one_stops unanswered.NoMemory asked says = one_leaves says

-- lines that have their replies
rows_left : (s : Setting) (job : ℕ) (lines : List Command) (rs : List Reply) (w : Section) (h : MovesThenRest w) → Rows (Row s) job lines rs w h → AreLinesLeft s job lines w h
rows_left s job [] rs w h rows = tt
rows_left s job (c ∷ lines) rs w h (r, more, is, row, rest) = (inl (r, row), rows_left s (suc job) lines more w h rest)

-- the replies of a step that are not printed are left
pub gives_left : (rack : Rack) (seed : List ℕ) (session job : ℕ) (step : Step Command) (old new : Known) (rs : List Reply) → StepGives rack seed session job step old new rs
    → StepLeaves rack seed session job step old new
gives_left rack seed session job (One c) old new rs gives sole s setting = let row = gives sole s setting in (row.0, inr (rs, row.1.0, row.1.1))
gives_left rack seed session job (Together lines) old new rs gives sole s setting =
    let row = gives sole s setting in (row.0, (row.1.0, rows_left s job lines rs (section_of old new) row.1.0 row.1.1))

-- A STEP BY ITS KIND

-- more parts than a batch needs
pub fewer_parts : {E O : Type 0} (few many : ℕ) (row : PassRow E O) → few ≤ many → HasMoreParts many row → HasMoreParts few row
fewer_parts few many row le more at lt = (let m = more at lt in omega (arith, le, m))

module _ (step : script.Step) (c : Command) (is : step ≡ steps.One c) where
  pub one_worked : (groups : ℕ) → IsWorkedStep groups step → IsWorked groups c
  one_worked groups worked = subst (IsWorkedStep groups) is worked

  pub one_took : (told well : Type 0) (r r' : RoomState) (old new : Known) → Took told well (asks c) r r' old new → Took told well (asks_in step) r r' old new
  one_took told well r r' old new took = subst (λ d. Took told well (asks_in d) r r' old new) (sym is) took

  pub one_job : (job : ℕ) → job + jobs_in (step_of step) ≤ 2 ^ 31 → job < 2 ^ 31
  one_job job fits = (let n = subst (λ d. job + jobs_in (step_of d) ≤ 2 ^ 31) is fits in omega (arith, n))

  pub one_says : (rack : Rack) (seed : List ℕ) (session job : ℕ) (old new : Known) → JobWroteOnly job old new → (result : Result (Vec Reply Global) Unanswered) → (result ≡ Err unanswered.RoomFailed → AsksArchive c)
      → (JobOnlyWriter job old new → (s : Setting) → IsSessionSetting s rack seed session old → MatchResult result (λ replies. AreReplies s job c replies.items (section_of old new)) (λ e. IsIdleCommand s job c (section_of old new)))
      → MatchResult result (λ replies. StepGives rack seed session job (step_of step) old new replies.items) (λ e. StepStops rack seed session job (step_of step) old new e)
  one_says rack seed session job old new worked (Ok replies) asked says =
      subst (λ d. StepGives rack seed session job (step_of d) old new replies.items) (sym is) (one_gives rack seed session job c old new worked replies.items says)
  one_says rack seed session job old new worked (Err e) asked says =
      subst (λ d. StepStops rack seed session job (step_of d) old new e) (sym is) (one_stops rack seed session job c old new worked e (λ q. asked (cc q)) says)

module _ (step : script.Step) (lines now : List Command) (is : step ≡ steps.Together lines) (same : now ≡ lines) where
  together_is : Together now ≡ step_of step
  together_is = ap (λ ls. Together ls) same ∙ ap step_of (sym is)

  together_at : step ≡ steps.Together now
  together_at = is ∙ ap (λ ls. steps.Together ls) (sym same)

  pub together_worked : (groups : ℕ) → IsWorkedStep groups step → (0 < length now) × (length now ≤ 1024) × AllByRecursion (IsBatched groups) now
  together_worked groups worked = subst (IsWorkedStep groups) together_at worked

  pub together_jobs : (job : ℕ) → job + jobs_in (step_of step) ≤ 2 ^ 31 → job + length now ≤ 2 ^ 31
  together_jobs job fits = subst (λ d. job + jobs_in (step_of d) ≤ 2 ^ 31) together_at fits

  pub together_took : (told well : Type 0) (r r' : RoomState) (old new : Known) → Took told well (flat_map asks now) r r' old new → Took told well (asks_in step) r r' old new
  together_took told well r r' old new took = subst (λ d. Took told well (asks_in d) r r' old new) (sym together_at) took

  pub together_says : (rack : Rack) (seed : List ℕ) (session job : ℕ) (old new : Known) (result : Result (Vec Reply Global) Unanswered)
      → MatchResult result (λ replies. StepGives rack seed session job (Together now) old new replies.items) (λ e. StepStops rack seed session job (Together now) old new e)
      → MatchResult result (λ replies. StepGives rack seed session job (step_of step) old new replies.items) (λ e. StepStops rack seed session job (step_of step) old new e)
  together_says rack seed session job old new (Ok replies) says = subst (λ d. StepGives rack seed session job d old new replies.items) together_is says
  together_says rack seed session job old new (Err e) says = subst (λ d. StepStops rack seed session job d old new e) together_is says
