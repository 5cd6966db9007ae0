-- A run has one session that closed, or none; and one that closed has replies.
use Rattle.std.proofs.Common.{◌≡◌, ◌⊎◌, inl, inr, ℕ, Bool, List, [], ◌∷◌, ◌++◌, sym, ◌∙◌, append-nil, append_assoc}
use Rattle.pot_outside.specs.Desks.{image_met}
use Rattle.pot_script.specs.declared.grouping.Step.{Step}
use Rattle.pot_image.specs.declared.image.Image.{Image}
use Rattle.pot_image.specs.Images.{contents}
use Rattle.pot_image.specs.Rules.{FitsTogether}
use Rattle.pot_script.specs.declared.command.Command.{Command}
use Rattle.pot_script.specs.declared.reply.Reply.{Reply}
use Rattle.pot_replies.specs.Sections.{Section}
use Rattle.pot_replies.specs.Sessions as Sessions
use Rattle.pot_replies.specs.Settings.{Setting}
use Rattle.pot_commands.specs.declared.working.Ending.{Ending}
use Rattle.pot_commands.specs.declared.working.Ending.TheVariants as ending
use Rattle.pot_commands.specs.Ends.{EndsOver, EndsShort, StopsAt}
use Rattle.pot_commands.specs.Steps.{IsStepHalted, IsStepLeft}
use Rattle.pot_session.specs.declared.ending.status.Status.{Status}
use Rattle.pot_session.specs.Desks.{begun}
use Rattle.pot_session.specs.Runs.{IsSessionOf, Seen, Served, Stopped}
use Rattle.pot_session.specs.Serving.{Serves, Closed, Unlent, Unopened, setting_of}
use Rattle.pot_promises.proofs.Running.{WroteFirst, all_written, cut_written, none_behind, whole_follows}
use Rattle.pot_theorem.specs.Sessions.{HasAnswered, HasReplies, NoneClosedInRoom, RanToClose, RunsClose, RunsReply}

served : (seed : List ℕ) (careful : Bool) (seen : Seen) (answer : Status) (i : Image) (steps : List Step) → IsSessionOf seen.source (image_met seen.desk) i steps → FitsTogether (begun (contents i))
    → Serves seed careful (begun (contents i)) steps seen.room seen.sink seen.desk answer → RanToClose seed careful seen answer ⊎ NoneClosedInRoom seen.room
served seed careful seen answer i steps of fits (Unlent is stays kept unlent others) = inr (inr (inl unlent))
served seed careful seen answer i steps of fits (Unopened is stays kept unopened) = inr (inr (inr unopened.0))
served seed careful seen answer i steps of fits (Closed closed) = inl (record { read = i; steps = steps; of = of; fits = fits; closed = closed })

pub runs_close : RunsClose
runs_close seed careful seen answer (Stopped s stops refuses same) = inr (inl same)
runs_close seed careful seen answer (Served i steps of rules told serves ends untouched) = served seed careful seen answer i steps of rules.together serves

-- THE REPLIES

module _ (seed : List ℕ) (careful : Bool) (seen : Seen) (answer : Status) (r : RanToClose seed careful seen answer) where
  abbrev Replies : List Step → List Reply → Type 0
  Replies ss rs = HasReplies seed (begun (contents r.read)) r.closed.story ss rs

  -- some first steps have them
  front : (answered rest : List Step) (rs : List Reply) → r.steps ≡ answered ++ rest → Replies answered rs → WroteFirst seen.sink rs → HasAnswered r
  front answered rest rs parts replied written = record { answered = answered; rest = rest; parts = parts; replies = rs; replied = replied; written = written }

  short : (Left : Setting → ℕ → Sessions.Step Command → Section → Type 0)
      → EndsShort (λ ds d rs. StopsAt Left (setting_of seed (begun (contents r.read))) ds d rs r.closed.story) seen.sink r.steps → HasAnswered r
  short Left ends =
      front ends.first (ends.next ∷ ends.rest) ends.replies (ends.parts ∙ append_assoc ends.first (ends.next ∷ []) ends.rest)
      (record { done = ends.replied.done; later = ends.replied.last; follows = ends.replied.follows; replied = ends.replied.replied }) (all_written seen.sink ends.replies ends.written)

  by_ending : (e : Ending) → EndsOver (setting_of seed (begun (contents r.read))) r.closed.story seen.sink r.steps e → HasAnswered r
  by_ending (ending.Done refused) ends =
      front r.steps [] ends.replies (sym (append-nil r.steps))
      (record { done = r.closed.story; later = none_behind r.closed.story; follows = whole_follows r.closed.story; replied = ends.replied }) (all_written seen.sink ends.replies ends.written)
  by_ending ending.SinkFailed ends =
      front (ends.first ++ ends.next ∷ []) ends.rest (ends.replies ++ ends.its) ends.parts
      (record { done = r.closed.story; later = none_behind r.closed.story; follows = whole_follows r.closed.story; replied = ends.replied })
      (λ t. (let w = ends.written t in cut_written seen.sink ends.replies ends.its w.0 w.2))
  by_ending ending.RoomFailed ends = short IsStepHalted ends
  by_ending ending.NoMemory ends = short IsStepLeft ends

pub runs_reply : RunsReply
runs_reply seed careful seen answer r = by_ending seed careful seen answer r r.closed.ending r.closed.ends
