-- How steps end by what the logs gained, where nobody else logged anything.
use Rattle.std.specs.Prelude.{ℕ, List}
use Rattle.pot_outside.specs.Accounts.{Transition}
use Rattle.pot_bytes.specs.declared.rack.Rack.{Rack}
use Rattle.pot_script.specs.declared.grouping.Step.{Step}
use Rattle.pot_replies.specs.Settings.{Setting}
use Rattle.pot_shared.specs.Works.{Known, section_of}
use Rattle.pot_commands.specs.declared.working.Ending.{Ending}
use Rattle.pot_commands.specs.declared.working.Ending.TheVariants as ending
use Rattle.pot_commands.specs.Rows.{IsSessionSetting}
use Rattle.pot_commands.specs.Ends.{Ends, EndsOver}
use Rattle.pot_shared.specs.Going.{AllOnlyWriters}

pub ends_over : (rack : Rack) (seed : List ℕ) (session : ℕ) (sink : Transition (List ℕ)) (ss : List Step) (old new : Known) (e : Ending) → Ends rack seed session sink ss old new e
    → AllOnlyWriters old new → (s : Setting) → IsSessionSetting s rack seed session old → EndsOver s (section_of old new) sink ss e
ends_over rack seed session sink ss old new (ending.Done refused) e sole s is = record {
  replies = e.replies;
  replied = e.replied sole s is;
  refusal = e.refusal;
  written = e.written;
}
ends_over rack seed session sink ss old new ending.SinkFailed e sole s is = record {
  first = e.first;
  next = e.next;
  rest = e.rest;
  parts = e.parts;
  replies = e.replies;
  its = e.its;
  answered = e.answered sole s is;
  replied = e.replied sole s is;
  written = e.written;
}
ends_over rack seed session sink ss old new ending.NoMemory e sole s is = record {
  first = e.first;
  next = e.next;
  rest = e.rest;
  parts = e.parts;
  replies = e.replies;
  replied = e.replied sole s is;
  written = e.written;
}
ends_over rack seed session sink ss old new ending.RoomFailed e sole s is = record {
  first = e.first;
  next = e.next;
  rest = e.rest;
  parts = e.parts;
  replies = e.replies;
  replied = e.replied sole s is;
  written = e.written;
}
