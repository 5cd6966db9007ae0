-- What is told of a step of a script that was worked, a command alone or the jobs of a batch: by
-- the entries of its jobs, if nobody else logged anything meanwhile.
use Rattle.std.specs.Prelude.{◌≡◌, ◌⊎◌, ◌<◌, ◌≤◌, ℕ, suc, List, [], ◌∷◌, Contains, length, map}
use Rattle.std.specs.List.{AllByRecursion}
use Rattle.pot_bytes.specs.declared.rack.Rack.{Rack}
use Rattle.pot_machine.specs.Logs.{own}
use Rattle.pot_script.specs.declared.command.Command.{Command}
use Rattle.pot_script.specs.declared.command.Command.TheVariants as commands
use Rattle.pot_script.specs.declared.grouping.Step as script
use Rattle.pot_script.specs.declared.grouping.Step.TheVariants as steps
use Rattle.pot_script.specs.declared.reply.Reply.{Reply}
use Rattle.pot_replies.specs.Settings.{Setting}
use Rattle.pot_replies.specs.Moves.{BeganNoMove, BeginsMove, BeganElsewhere}
use Rattle.pot_replies.specs.Sections.{Section, MovesThenRest, mine, IsSectionEmpty, IsOfJobs, IsSilent, work_of}
use Rattle.pot_replies.specs.Sessions.{Step, One, Together, Answered, jobs_in}
use Rattle.pot_shared.specs.Works.{Known, section_of}
use Rattle.pot_commands.specs.declared.arriving.Unanswered.{Unanswered}
use Rattle.pot_commands.specs.declared.arriving.Unanswered.TheVariants as unanswered
use Rattle.pot_commands.specs.Rows.{IsSessionSetting, Row, IsIdleCommand, IsSingle, IsWorked}
use Rattle.pot_shared.specs.Going.{AllOnlyWriters}

-- a step of a script as a step of a session
abbrev pub step_of : script.Step → Step Command
step_of (steps.One c) = One c
step_of (steps.Together lines) = Together lines

abbrev pub steps_of : List script.Step → List (Step Command)
steps_of ss = map step_of ss

-- the lines of a batch that move nothing, over so many groups: they have one reply, and take no
-- archive; `list` is none of them
abbrev pub IsStill : ℕ → Command → Type 0
IsStill groups commands.List = ⊥
IsStill groups c = IsSingle groups c

-- the lines that are worked in a batch
abbrev pub IsBatched : ℕ → Command → Type 0
IsBatched groups (commands.Migrate from to) = Unit {0}
IsBatched groups c = IsStill groups c

-- the steps that are worked over so many groups
abbrev pub IsWorkedStep : ℕ → script.Step → Type 0
IsWorkedStep groups (steps.One c) = IsWorked groups c
IsWorkedStep groups (steps.Together lines) =
    (0 < length lines) × (length lines ≤ 1024) × AllByRecursion (IsBatched groups) lines

-- a command that asks the room for an archive: `replace` and `migrate` do, and no other
abbrev pub AsksArchive : Command → Type 0
AsksArchive (commands.Replace from to) = Unit {0}
AsksArchive (commands.Migrate from to) = Unit {0}
AsksArchive c = ⊥

-- a step that does, or one of whose lines does
abbrev pub AsksRoom : Step Command → Type 0
AsksRoom (One c) = AsksArchive c
AsksRoom (Together lines) = (c : Command) × Contains lines c × AsksArchive c

-- WITHOUT REPLIES

-- A line of a batch without a reply. A `migrate` began no move, or began that of its column or
-- found it begun; and its job logged nothing else.
abbrev pub IsLineIdle : Setting → ℕ → Command → (w : Section) → MovesThenRest w → Type 0
IsLineIdle s job (commands.Migrate from to) w h =
    (BeganNoMove s w.before h.begun job from to
    ⊎ ((g : ℕ) × (c : ℕ) × BeginsMove s w.before h.begun job from to g c
    × BeganElsewhere s w.before h.begun job from to g))
    × IsSilent (mine job (work_of w h))
IsLineIdle s job c w h = ((g : ℕ) → own job (h.begun g) ≡ []) × IsIdleCommand s job c (work_of w h)

-- A line of a batch that ended early: it has a reply which was not written, or has none.
abbrev pub IsLineLeft : Setting → ℕ → Command → (w : Section) → MovesThenRest w → Type 0
IsLineLeft s job c w h = ((r : Reply) × Row s job c (r ∷ []) w h) ⊎ IsLineIdle s job c w h

abbrev pub AreLinesLeft : Setting → ℕ → List Command → (w : Section) → MovesThenRest w → Type 0
AreLinesLeft s job [] w h = Unit {0}
AreLinesLeft s job (c ∷ cs) w h = IsLineLeft s job c w h × AreLinesLeft s (suc job) cs w h

-- a step that ended for want of memory, or since the room failed, or whose replies were not printed
-- for want of memory
abbrev pub IsStepLeft : Setting → ℕ → Step Command → Section → Type 0
IsStepLeft s job (One c) w =
    IsIdleCommand s job c w ⊎ ((rs : List Reply) × (h : MovesThenRest w) × Row s job c rs w h)
IsStepLeft s job (Together lines) w = (h : MovesThenRest w) × AreLinesLeft s job lines w h

-- a step at which the room failed, which asked it for an archive: of a batch no line was worked,
-- and all that was logged are the moves that began
abbrev pub IsStepHalted : Setting → ℕ → Step Command → Section → Type 0
IsStepHalted s job (One c) w = AsksRoom (One c) × IsIdleCommand s job c w
IsStepHalted s job (Together lines) w =
    AsksRoom (Together lines)
    × ((h : MovesThenRest w) × AreLinesLeft s job lines w h × IsSectionEmpty (work_of w h))

-- WHERE NOBODY ELSE LOGGED ANYTHING

module _ (rack : Rack) (seed : List ℕ) (session job : ℕ) (step : Step Command) (old new : Known)
  where
    -- what was logged is of the step's jobs alone, and gives these replies
    abbrev pub StepGives : List Reply → Type 0
    StepGives rs =
        AllOnlyWriters old new → (s : Setting) → IsSessionSetting s rack seed session old
        → IsOfJobs job (jobs_in step) (section_of old new)
        × ((h : MovesThenRest (section_of old new)) × Answered (Row s) job step rs (section_of old new) h)

    -- what was logged is of the step's jobs alone, and the step was left
    abbrev pub StepLeaves : Type 0
    StepLeaves =
        AllOnlyWriters old new → (s : Setting) → IsSessionSetting s rack seed session old
        → IsOfJobs job (jobs_in step) (section_of old new)
        × IsStepLeft s job step (section_of old new)

    -- what was logged is of the step's jobs alone, and the room failed at the step
    abbrev pub StepHalts : Type 0
    StepHalts =
        AllOnlyWriters old new → (s : Setting) → IsSessionSetting s rack seed session old
        → IsOfJobs job (jobs_in step) (section_of old new)
        × IsStepHalted s job step (section_of old new)

    -- so it was, by why it has no replies
    abbrev pub StepStops : Unanswered → Type 0
    StepStops unanswered.RoomFailed = StepHalts
    StepStops unanswered.NoMemory = StepLeaves
