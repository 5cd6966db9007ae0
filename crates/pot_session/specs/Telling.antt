-- What a word that holds no session writes and answers.
use Rattle.std.specs.Prelude.{◌≡◌, ◌⊎◌, ℕ, Bool, List, Result, Ok, Err, if◌then◌else◌}
use Rattle.pot_outside.specs.Accounts.{Transition}
use Rattle.pot_commands.specs.Streams.{Wrote, WroteSome}
use Rattle.pot_session.specs.declared.ending.status.Status.{Status}
use Rattle.pot_session.specs.declared.ending.status.Status.TheVariants as status
use Rattle.pot_session.specs.declared.ending.stop.Stop.{Stop}
use Rattle.pot_session.specs.declared.telling.Telling.{Telling}
use Rattle.pot_session.specs.Stops.{Refuses}

-- the status of a text, by whether it says that something was refused
abbrev pub told_status : Bool → Status
told_status refused = if refused then status.Refusals else status.Good

-- The text was written, and the answer says whether something was refused; or some first bytes of
-- the text were written and the sink failed.
abbrev pub Tells : Transition (List ℕ) → Telling → Status → Type 0
Tells sink t answer =
    ((answer ≡ told_status t.refused) × Wrote sink t.text.items)
    ⊎ ((answer ≡ status.SinkFault) × WroteSome sink t.text.items)

-- what is written and answered, by what a word comes to
abbrev pub WordAnswers : Transition (List ℕ) → Result Telling Stop → Status → Type 0
WordAnswers sink (Ok t) answer = Tells sink t answer
WordAnswers sink (Err s) answer = Refuses sink s answer
