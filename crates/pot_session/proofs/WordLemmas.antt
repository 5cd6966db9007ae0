-- Which statuses a word may answer that holds no session.
use Rattle.std.proofs.Common.{◌≡◌, inl, inr, Bool, true, false, List, ℕ, Result, Ok, Err, refl, sym, subst}
use Rattle.std.specs.Prelude.{unwrap_or}
use Rattle.pot_outside.specs.Accounts.{Transition}
use Rattle.pot_words.specs.declared.drill.Drill.{Drill}
use Rattle.pot_session.specs.declared.ending.status.Status.{Status}
use Rattle.pot_session.specs.declared.ending.status.Status.TheVariants as status
use Rattle.pot_session.specs.declared.ending.stop.Stop.{Stop}
use Rattle.pot_session.specs.declared.ending.stop.Stop.TheVariants as stop
use Rattle.pot_session.specs.declared.telling.Telling.{Telling}
use Rattle.pot_session.specs.Drills.{Drilled, Drills}
use Rattle.pot_session.specs.Stops.{status_of}
use Rattle.pot_session.specs.Telling.{WordAnswers, told_status}

-- what `drill` may answer
abbrev IsDrillStatus : Status → Type 0
IsDrillStatus status.Good = Unit {0}
IsDrillStatus status.Refusals = Unit {0}
IsDrillStatus status.ScriptRefused = Unit {0}
IsDrillStatus status.SourceFault = Unit {0}
IsDrillStatus status.SinkFault = Unit {0}
IsDrillStatus status.NoMemory = Unit {0}
IsDrillStatus _ = ⊥

-- an answer has a property that the statuses of the text or of the stop have, and those that a sink
-- and memory give
answered : (P : Status → Type 0) (sink : Transition (List ℕ)) (made : Result Telling Stop) (answer : Status)
    → P status.Good → P status.Refusals → P status.SinkFault → P status.NoMemory → ((s : Stop) → made ≡ Err s → P (status_of s))
    → WordAnswers sink made answer → P answer
answered P sink (Ok t) answer good refusals fault memory stops (inl h) = subst P (sym h.0) (by t.refused)
  where
    by : (b : Bool) → P (told_status b)
    by true = refusals
    by false = good
answered P sink (Ok t) answer good refusals fault memory stops (inr h) = subst P (sym h.0) fault
answered P sink (Err s) answer good refusals fault memory stops (inl h) = subst P (sym h.0) (stops s refl)
answered P sink (Err s) answer good refusals fault memory stops (inr (inl h)) = subst P (sym h.0) fault
answered P sink (Err s) answer good refusals fault memory stops (inr (inr h)) = subst P (sym h.0) memory

drill_stop : (d : Drill) (seed : List ℕ) (source : Transition (List ℕ)) (s : Stop) → Drilled d seed source (Err s) → IsDrillStatus (status_of s)
drill_stop d seed source (stop.BadLine number) h = tt
drill_stop d seed source stop.SourceFault h = tt
drill_stop d seed source stop.NoMemory h = tt
drill_stop d seed source stop.Words h = absurd h
drill_stop d seed source stop.DeskFault h = absurd h
drill_stop d seed source stop.NoImage h = absurd h
drill_stop d seed source stop.Cut h = absurd h
drill_stop d seed source (stop.Trailer kept computed) h = absurd h
drill_stop d seed source (stop.Form place) h = absurd h
drill_stop d seed source stop.Spent h = absurd h
drill_stop d seed source stop.Exists h = absurd h
drill_stop d seed source stop.RoomFault h = absurd h
drill_stop d seed source stop.TooWide h = absurd h

drill_status : (d : Drill) (drawn : List ℕ) (source sink : Transition (List ℕ)) (answer : Status)
    → Drills d drawn source sink answer → IsDrillStatus answer
drill_status d drawn source sink answer h =
    answered IsDrillStatus sink h.made answer tt tt tt tt
    (λ s e. drill_stop d (unwrap_or d.seed drawn) source s (subst (Drilled d (unwrap_or d.seed drawn) source) e h.is)) h.answers

-- a drill fails neither for the room nor for the desk
pub drill_room : (d : Drill) (drawn : List ℕ) (source sink : Transition (List ℕ)) (answer : Status)
    → Drills d drawn source sink answer → answer ≡ status.RoomFault → ⊥
drill_room d drawn source sink answer h e = subst IsDrillStatus e (drill_status d drawn source sink answer h)

pub drill_desk : (d : Drill) (drawn : List ℕ) (source sink : Transition (List ℕ)) (answer : Status)
    → Drills d drawn source sink answer → answer ≡ status.DeskFault → ⊥
drill_desk d drawn source sink answer h e = subst IsDrillStatus e (drill_status d drawn source sink answer h)
