-- Why a call of the program stops before its commands, what it writes then, and the number of each
-- status.
use Rattle.std.specs.Prelude.{◌≡◌, ◌⊎◌, ◌++◌, ℕ, List, [], codes}
use Rattle.pot_outside.specs.Accounts.{Transition, Stays}
use Rattle.pot_script.specs.Replies.{spaced, in_hex, bad_line_text, words_refused_text}
use Rattle.pot_commands.specs.Streams.{Wrote, WroteSome}
use Rattle.pot_session.specs.declared.ending.status.Status.{Status}
use Rattle.pot_session.specs.declared.ending.status.Status.TheVariants as status
use Rattle.pot_session.specs.declared.ending.stop.Stop.{Stop}
use Rattle.pot_session.specs.declared.ending.stop.Stop.TheVariants as stop

-- the number of a status
abbrev pub code_of : Status → ℕ
code_of status.Good = 0
code_of status.Refusals = 1
code_of status.WordsRefused = 2
code_of status.ScriptRefused = 3
code_of status.SourceFault = 4
code_of status.SinkFault = 5
code_of status.DeskFault = 6
code_of status.ImageRefused = 7
code_of status.RoomFault = 8
code_of status.SessionSpent = 9
code_of status.ImageExists = 10
code_of status.TooWide = 11
code_of status.NoMemory = 70

-- the status that a stop gives
abbrev pub status_of : Stop → Status
status_of stop.Words = status.WordsRefused
status_of stop.SourceFault = status.SourceFault
status_of (stop.BadLine number) = status.ScriptRefused
status_of stop.DeskFault = status.DeskFault
status_of stop.NoImage = status.ImageRefused
status_of stop.Cut = status.ImageRefused
status_of (stop.Trailer kept computed) = status.ImageRefused
status_of (stop.Form place) = status.ImageRefused
status_of stop.Spent = status.SessionSpent
status_of stop.Exists = status.ImageExists
status_of stop.RoomFault = status.RoomFault
status_of stop.TooWide = status.TooWide
status_of stop.NoMemory = status.NoMemory

-- the text that is written for a stop
abbrev pub stop_text : Stop → List ℕ
stop_text stop.Words = words_refused_text
stop_text stop.SourceFault = []
stop_text (stop.BadLine number) = bad_line_text number
stop_text stop.DeskFault = []
stop_text stop.NoImage = codes "image refused none\n"
stop_text stop.Cut = codes "image refused cut\n"
stop_text (stop.Trailer kept computed) =
    codes "image refused trailer" ++ in_hex kept ++ in_hex computed ++ codes "\n"
stop_text (stop.Form place) = codes "image refused form" ++ spaced place ++ codes "\n"
stop_text stop.Spent = codes "session spent\n"
stop_text stop.Exists = codes "image exists\n"
stop_text stop.RoomFault = []
stop_text stop.TooWide = codes "too wide\n"
stop_text stop.NoMemory = []

-- The text of a stop was written, and its status is the answer; or some first bytes of the text
-- were written and the sink failed; or nothing was written for want of memory.
abbrev pub Refuses : Transition (List ℕ) → Stop → Status → Type 0
Refuses sink s answer =
    ((answer ≡ status_of s) × Wrote sink (stop_text s))
    ⊎ ((answer ≡ status.SinkFault) × WroteSome sink (stop_text s))
    ⊎ ((answer ≡ status.NoMemory) × Stays sink)
