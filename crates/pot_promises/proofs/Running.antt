-- A run is a session, as far as its steps came, and leaves a later image.
use Rattle.std.proofs.Common.{◌≡◌, ◌⊎◌, inl, inr, ℕ, Bool, true, false, List, [], ◌∷◌, ◌++◌, Option, Some, Result, Ok, Err, refl, ap, sym, ◌∙◌, subst, append-nil, append_assoc, arith, take, drop}
use Rattle.std.specs.Prelude.{IfErr, IsTrue, None}
use Rattle.std.proofs.lemmas.Grind.{flat_map-append}
use Rattle.std.proofs.lemmas.List.{take-append-drop}
use Rattle.pot_outside.specs.Accounts.{Transition, held_in, since}
use Rattle.pot_outside.specs.Desks.{Images, image_met}
use Rattle.pot_outside.specs.Failing.{MayLeave}
use Rattle.pot_outside.specs.Rooms.{RoomState}
use Rattle.pot_script.specs.Replies.{reply_text}
use Rattle.pot_script.specs.declared.command.Command.{Command}
use Rattle.pot_script.specs.declared.grouping.Step.{Step}
use Rattle.pot_script.specs.declared.reply.Reply.{Reply}
use Rattle.pot_image.specs.declared.image.Image.{Image}
use Rattle.pot_image.specs.Images.{Contents, contents}
use Rattle.pot_image.specs.Rules.{FitsTogether, IsImage}
use Rattle.pot_recheck.specs.declared.rechecking.Rechecked.{Rechecked}
use Rattle.pot_recheck.specs.declared.rechecking.Rechecked.TheVariants as rechecked
use Rattle.pot_recheck.specs.Rechecking.{Rechecks}
use Rattle.pot_replies.specs.Sections.{Section, FollowsSection}
use Rattle.pot_replies.specs.Sessions.{Replied}
use Rattle.pot_replies.specs.Sessions as Sessions
use Rattle.pot_replies.specs.Settings.{Setting}
use Rattle.pot_commands.specs.declared.working.Ending.{Ending}
use Rattle.pot_commands.specs.declared.working.Ending.TheVariants as ending
use Rattle.pot_commands.specs.Ends.{EndsOver, EndsShort, StopsAt, texts_of}
use Rattle.pot_commands.specs.Rows.{Row}
use Rattle.pot_commands.specs.Steps.{IsStepHalted, IsStepLeft, steps_of}
use Rattle.pot_commands.specs.Streams.{Wrote}
use Rattle.pot_session.specs.declared.ending.status.Status.{Status}
use Rattle.pot_session.specs.declared.ending.stop.Stop.{Stop}
use Rattle.pot_session.specs.declared.ending.status.Status.TheVariants as status
use Rattle.pot_session.specs.declared.ending.stop.Stop.TheVariants as stop
use Rattle.pot_bytes.specs.declared.rack.Rack.{Rack}
use Rattle.pot_options.specs.Options.{Text}
use Rattle.pot_session.specs.Calls.{RunsProgram, Nothing, Short, Session, Drilling, Recovering, Auditing, Generating}
use Rattle.pot_session.specs.Calls as calls
use Rattle.pot_session.specs.Desks.{HoldsImage, IfWritten, IsKeepStop, DeskKeeps, begun}
use Rattle.pot_session.specs.Making.{MakesDesk, empty_contents}
use Rattle.pot_session.specs.Tasks.{seed_of}
use Rattle.pot_session.specs.Runs.{Holds, Stopped, Served, AtDesk, AtScript, AtOpening, IsSessionOf, Seen, Stops}
use Rattle.pot_session.specs.Serving.{Serves, Unlent, Unopened, Closed, IsClosed, Leaves, close_answer, setting_of, status_by}
use Rattle.pot_session.specs.Stops.{Refuses, status_of}
use Rattle.std.proofs.lemmas.Option.{slice_get_within}
use Rattle.pot_bytes.proofs.Elements.{element_at}
use Rattle.pot_machine.specs.Machine.{Replays}
use Rattle.pot_promises.specs.Chains.{AllLead, BeginsFrom, Begun, IsSession, Later, More, Same}
use Rattle.pot_image.specs.Spelling.{image_bytes}
use Rattle.pot_promises.specs.Runs.{Bare, CarefulKeeps, ClosedAs, DesksStayGood, HasImage, HasLater, IsDone, IsKeptAs, Next, NoneClosed, RanAs, Recheck, RunsAreSessions, RunsGoLater, RunsMayClose}
use Rattle.pot_promises.proofs.Rechecking.{none_stays, rechecks_go_on, runs_go_on}

-- no stop gives such a status
not_done : (s : Stop) → IsDone (status_of s) → ⊥
not_done stop.Words d = d
not_done stop.SourceFault d = d
not_done (stop.BadLine number) d = d
not_done stop.DeskFault d = d
not_done stop.NoImage d = d
not_done stop.Cut d = d
not_done (stop.Trailer kept computed) d = d
not_done (stop.Form place) d = d
not_done stop.Spent d = d
not_done stop.Exists d = d
not_done stop.RoomFault d = d
not_done stop.TooWide d = d
not_done stop.NoMemory d = d

-- what was refused is not done
refused_not : (sink : Transition (List ℕ)) (s : Stop) (answer : Status) → Refuses sink s answer → IsDone answer → ⊥
refused_not sink s answer (inl p) d = not_done s (subst IsDone p.0 d)
refused_not sink s answer (inr (inl p)) d = subst IsDone p.0 d
refused_not sink s answer (inr (inr p)) d = subst IsDone p.0 d

-- nothing was added behind
abbrev pub none_behind : Section → Section
none_behind w = record {
  before = λ g. w.before g ++ w.added g;
  added = λ g. [];
  index_before = w.index_before ++ w.index_added;
  index_added = [];
}

pub whole_follows : (w : Section) → FollowsSection w (none_behind w) w
whole_follows w = record {
  begins = λ g. refl;
  is_added = λ g. sym (append-nil (w.added g));
  goes_on = λ g. refl;
  index_begins = refl;
  index_is_added = sym (append-nil w.index_added);
  index_goes_on = refl;
}

-- the log of each group of a session that closed leads from its first table
pub all_lead : (room : Transition RoomState) (missing : List ℕ) (first last : Contents) (w : Section) → Leaves room missing first last w → AllLead first.tables w last.tables
all_lead room missing first last w leaves g t at =
    let lt = slice_get_within first.tables g t at in
    let many = leaves.groups.count in
    let logs = leaves.groups.count_logs in
    let u = element_at last.tables g (omega (arith, lt, many)) in
    let log = element_at last.group_logs g (omega (arith, lt, logs)) in
    let left = leaves.groups.each g t u.0 log.0 at u.1 log.1 in (
      left.view.table,
      subst (λ l. Replays t l left.view.table) (left.is_log ∙ leaves.logs g log.0 log.1) (subst (λ f. Replays f left.view.log left.view.table) left.first left.settled.replay),
      u.1 ∙ ap Some left.is,
    )

-- A SESSION THAT CLOSED

module _ (seed : List ℕ) (room : Transition RoomState) (missing : List ℕ) (first last : Contents) (w : Section) (fits : FitsTogether first) (leaves : Leaves room missing first last w) where
  -- these steps have their replies when the logs had gained so much
  session_of : (ss : List Step) (rs : List Reply) (done later : Section) → FollowsSection done later w → Replied (Row (setting_of seed first)) 1 (steps_of ss) rs done → IsSession seed first last ss rs
  session_of ss rs done later follows replied = record {
    fits = fits;
    story = w;
    opened = leaves.index_opened;
    rack = leaves.rack;
    records = leaves.records;
    groups = all_lead room missing first last w leaves;
    done = done;
    later = later;
    follows = follows;
    replied = replied;
  }

  -- and all that they gained
  whole_session : (ss : List Step) (rs : List Reply) → Replied (Row (setting_of seed first)) 1 (steps_of ss) rs w → IsSession seed first last ss rs
  whole_session ss rs replied = session_of ss rs w (none_behind w) (whole_follows w) replied

-- WHAT WAS WRITTEN

-- first bytes of the texts of these replies
abbrev pub WroteFirst : Transition (List ℕ) → List Reply → Type 0
WroteFirst sink rs = IsTrue sink.tells → (more : List ℕ) × (sink.before ++ texts_of rs ≡ sink.after ++ more)

-- so it is where it is the texts of all of them
pub all_written : (sink : Transition (List ℕ)) (rs : List Reply) → Wrote sink (texts_of rs) → WroteFirst sink rs
all_written sink rs wrote told = ([], sym (wrote told) ∙ sym (append-nil sink.after))

-- and where it is first bytes of the last
pub cut_written : (sink : Transition (List ℕ)) (rs its : List Reply) (count : ℕ) → sink.after ≡ sink.before ++ (texts_of rs ++ take count (texts_of its))
    → (more : List ℕ) × (sink.before ++ texts_of (rs ++ its) ≡ sink.after ++ more)
cut_written sink rs its count is = (
  drop count (texts_of its),
  ap (λ l. sink.before ++ l) (flat_map-append reply_text rs its ∙ ap (λ l. texts_of rs ++ l) (sym (take-append-drop count (texts_of its))))
      ∙ (ap (λ l. sink.before ++ l) (sym (append_assoc (texts_of rs) (take count (texts_of its)) (drop count (texts_of its))))
      ∙ (sym (append_assoc sink.before (texts_of rs ++ take count (texts_of its)) (drop count (texts_of its)))
      ∙ ap (λ l. l ++ drop count (texts_of its)) (sym is))),
)

-- WHAT THE DESK HOLDS

-- what it held, an image that keeps the rules of images, or none
abbrev MayHave : Transition (Option (List ℕ)) → Contents → Type 0
MayHave desk v = (desk.after ≡ desk.before) ⊎ (HasImage desk.after v ⊎ (desk.after ≡ None))

failed_by : (desk : Transition (Option (List ℕ))) (v : Contents) → IsImage v → MayLeave desk.before (image_bytes v) desk.after → MayHave desk v
failed_by desk v is (inl same) = inl same
failed_by desk v is (inr (inl new)) = inr (inl (new, is))
failed_by desk v is (inr (inr none)) = inr (inr none)

-- where it did not take an image
refused_by : (desk : Transition (Option (List ℕ))) (v : Contents) (s : Stop) → IsKeepStop s → IfWritten (Err s) (IsImage v) → DeskKeeps desk (image_bytes v) (Err s) → MayHave desk v
refused_by desk v stop.DeskFault which image is = failed_by desk v image is
refused_by desk v stop.NoMemory which image is = inl is
refused_by desk v stop.Words which image is = absurd which
refused_by desk v stop.SourceFault which image is = absurd which
refused_by desk v (stop.BadLine number) which image is = absurd which
refused_by desk v stop.NoImage which image is = absurd which
refused_by desk v stop.Cut which image is = absurd which
refused_by desk v (stop.Trailer kept computed) which image is = absurd which
refused_by desk v (stop.Form place) which image is = absurd which
refused_by desk v stop.Spent which image is = absurd which
refused_by desk v stop.Exists which image is = absurd which
refused_by desk v stop.RoomFault which image is = absurd which
refused_by desk v stop.TooWide which image is = absurd which

-- and by how it took the image of a close
left_by : (desk : Transition (Option (List ℕ))) (v : Contents) (r : Result (Unit {0}) Stop) → IfErr r IsKeepStop → IfWritten r (IsImage v) → DeskKeeps desk (image_bytes v) r → MayHave desk v
left_by desk v (Ok u) which image is = inr (inl (is, image))
left_by desk v (Err s) which image is = refused_by desk v s which image is

-- where it had the image of the begin
had_begun : (desk : Transition (Option (List ℕ))) (first last : Contents) → IsImage first → desk.before ≡ Some (image_bytes first) → MayHave desk last
    → HasImage desk.after first ⊎ (HasImage desk.after last ⊎ (desk.after ≡ None))
had_begun desk first last is before (inl same) = inl (same ∙ before, is)
had_begun desk first last is before (inr new) = inr new

-- A RUN

module _ (seed : List ℕ) (careful : Bool) (seen : Seen) (answer : Status) (told : IsTrue seen.desk.tells) where
  abbrev Ended : Type 0
  Ended = ClosedAs seed seen ⊎ NoneClosed (image_met seen.desk)

  -- a session began with the image that was read, and ended so
  module _ (i : Image) (steps : List Step) (of : IsSessionOf seen.source (image_met seen.desk) i steps) (rules : IsImage (begun (contents i))) where
    abbrev first : Contents
    first = begun (contents i)

    abbrev Shut : Type 0
    Shut = IsClosed seed careful first steps seen.room seen.sink seen.desk answer

    abbrev Ends : Type 0
    Ends = Serves seed careful first steps seen.room seen.sink seen.desk answer

    -- WELL

    module _ (done : IsDone answer) where
      -- a session that closed, by how its steps and its close ended
      well : Shut → RanAs seed seen
      well c = by careful c.ending c.ends c.missing c.kept c.leaves c.keeps.holds c.image c.status
        where
          done_well : (refused : Bool) → EndsOver (setting_of seed first) c.story seen.sink steps (ending.Done refused) → Leaves seen.room [] first c.last c.story
              → DeskKeeps (since (image_met seen.desk) (Some (image_bytes first))) (image_bytes c.last) (Ok tt) → IsImage c.last → RanAs seed seen
          done_well refused ends leaves kept image = record {
            read = i;
            was_held = of.image told;
            steps = steps;
            script = of.script;
            last = c.last;
            replies = ends.replies;
            session = whole_session seed seen.room [] first c.last c.story rules.together leaves steps ends.replies ends.replied;
            written = ends.written;
            left = (kept, image);
          }

          by : (careful : Bool) (e : Ending) → EndsOver (setting_of seed first) c.story seen.sink steps e → (missing : List ℕ) (r : Result (Unit {0}) Stop)
              → Leaves seen.room missing first c.last c.story
              → (IsTrue seen.desk.tells → DeskKeeps (since (image_met seen.desk) (Some (image_bytes first))) (image_bytes c.last) r) → IfWritten r (IsImage c.last)
              → answer ≡ status_by careful e r (close_answer missing r) → RanAs seed seen
          by true e ends missing (Err s) leaves kept image is = absurd (not_done s (subst IsDone is done))
          by true (ending.Done refused) ends [] (Ok u) leaves kept image is = done_well refused ends leaves (kept told) image
          by true (ending.Done refused) ends (n ∷ missing) (Ok u) leaves kept image is = absurd (subst IsDone is done)
          by true ending.SinkFailed ends missing (Ok u) leaves kept image is = absurd (subst IsDone is done)
          by true ending.RoomFailed ends missing (Ok u) leaves kept image is = absurd (subst IsDone is done)
          by true ending.NoMemory ends missing (Ok u) leaves kept image is = absurd (subst IsDone is done)
          by false (ending.Done refused) ends [] (Ok u) leaves kept image is = done_well refused ends leaves (kept told) image
          by false (ending.Done refused) ends [] (Err s) leaves kept image is = absurd (not_done s (subst IsDone is done))
          by false (ending.Done refused) ends (n ∷ missing) r leaves kept image is = absurd (subst IsDone is done)
          by false ending.SinkFailed ends missing r leaves kept image is = absurd (subst IsDone is done)
          by false ending.RoomFailed ends missing r leaves kept image is = absurd (subst IsDone is done)
          by false ending.NoMemory ends missing r leaves kept image is = absurd (subst IsDone is done)

      served_well : Ends → RanAs seed seen
      served_well (Unlent is sink kept room others) = absurd (subst IsDone is done)
      served_well (Unopened is sink kept others) = absurd (subst IsDone is done)
      served_well (Closed c) = well c

    -- HOWEVER IT ENDED

    -- with the image that it left
    abbrev At : Shut → Type 0
    At c = (d : ClosedAs seed seen) × (d.last ≡ c.last)

    shut_at : (c : Shut) → At c
    shut_at c = by c.ending c.ends
      where
        -- some first steps were answered
        front : (answered others : List Step) (rs : List Reply) → steps ≡ answered ++ others → IsSession seed first c.last answered rs → WroteFirst seen.sink rs → At c
        front answered others rs parts session written = (
          record {
            read = i;
            was_held = of.image told;
            steps = steps;
            script = of.script;
            answered = answered;
            rest = others;
            parts = parts;
            last = c.last;
            replies = rs;
            session = session;
            written = written;
            left = had_begun (since (image_met seen.desk) (Some (image_bytes first))) first c.last rules refl
                (left_by (since (image_met seen.desk) (Some (image_bytes first))) c.last c.kept c.keeps.which c.image (c.keeps.holds told));
          },
          refl,
        )

        short : (Left : Setting → ℕ → Sessions.Step Command → Section → Type 0)
            → EndsShort (λ ds d rs. StopsAt Left (setting_of seed first) ds d rs c.story) seen.sink steps → At c
        short Left ends =
            front ends.first (ends.next ∷ ends.rest) ends.replies (ends.parts ∙ append_assoc ends.first (ends.next ∷ []) ends.rest)
            (session_of seed seen.room c.missing first c.last c.story rules.together c.leaves ends.first ends.replies ends.replied.done ends.replied.last ends.replied.follows ends.replied.replied)
            (all_written seen.sink ends.replies ends.written)

        whole : (ss : List Step) (rs : List Reply) → Replied (Row (setting_of seed first)) 1 (steps_of ss) rs c.story → IsSession seed first c.last ss rs
        whole ss rs replied = whole_session seed seen.room c.missing first c.last c.story rules.together c.leaves ss rs replied

        by : (e : Ending) → EndsOver (setting_of seed first) c.story seen.sink steps e → At c
        by (ending.Done refused) ends = front steps [] ends.replies (sym (append-nil steps)) (whole steps ends.replies ends.replied) (all_written seen.sink ends.replies ends.written)
        by ending.SinkFailed ends =
            front (ends.first ++ ends.next ∷ []) ends.rest (ends.replies ++ ends.its) ends.parts (whole (ends.first ++ ends.next ∷ []) (ends.replies ++ ends.its) ends.replied)
            (λ t. (let w = ends.written t in cut_written seen.sink ends.replies ends.its w.0 w.2))
        by ending.RoomFailed ends = short IsStepHalted ends
        by ending.NoMemory ends = short IsStepLeft ends

    shut : Shut → ClosedAs seed seen
    shut c = (shut_at c).0

    -- a session that kept its image, by what it answered
    left_kept : (e : Ending) (closed r : Result (Unit {0}) Stop) (last : Contents) → answer ≡ status_by true e r closed → IfErr r IsKeepStop
        → DeskKeeps (since (image_met seen.desk) (Some (image_bytes first))) (image_bytes last) r → IfWritten r (IsImage last)
        → (answer ≡ status.SinkFault) ⊎ (answer ≡ status.RoomFault) → HasImage seen.desk.after.held.now last
    left_kept e closed (Ok u) last is which kept image why = (kept, image)
    left_kept e closed (Err stop.DeskFault) last is which kept image (inl sink) = absurd (cc (is, sink))
    left_kept e closed (Err stop.DeskFault) last is which kept image (inr room) = absurd (cc (is, room))
    left_kept e closed (Err stop.NoMemory) last is which kept image (inl sink) = absurd (cc (is, sink))
    left_kept e closed (Err stop.NoMemory) last is which kept image (inr room) = absurd (cc (is, room))
    left_kept e closed (Err _) last is which kept image why = absurd which

    served : Ends → Ended
    served (Unlent is sink kept room others) = inr (inr (inr (i, of.image told, ((kept told).0, rules))))
    served (Unopened is sink kept others) = inr (inr (inr (i, of.image told, ((kept told).0, rules))))
    served (Closed c) = inl (shut c)

  held_well : IsDone answer → Holds seed careful seen answer → RanAs seed seen
  held_well done (Stopped s stops refuses same) = absurd (refused_not seen.sink s answer refuses done)
  held_well done (Served i steps of rules whole serves ends untouched) = served_well i steps of rules done serves

  -- the desk did not take the image with which a session would begin
  unopened : (i : Image) → HoldsImage seen.desk.before.held.now i → MayHave (image_met seen.desk) (begun (contents i)) → NoneClosed (image_met seen.desk)
  unopened i was_held (inl same) = inl same
  unopened i was_held (inr (inl new)) = inr (inr (i, was_held, new))
  unopened i was_held (inr (inr none)) = inr (inl none)

  -- no session began
  stopped : (s : Stop) → Stops seen.source (held_in seen.desk) s → NoneClosed (image_met seen.desk)
  stopped s (AtDesk d refused same) = inl (ap (λ (h : Images). h.now) (same told))
  stopped s (AtScript i goes holds_that refused same) = inl (ap (λ (h : Images). h.now) (same told))
  stopped s (AtOpening i steps of which image keeps came) = unopened i (of.image told) (refused_by (image_met seen.desk) (begun (contents i)) s which image (keeps told))

  held_shut : Holds seed careful seen answer → Ended
  held_shut (Stopped s stops refuses room) = inr (stopped s stops)
  held_shut (Served i steps of rules whole serves ends untouched) = served i steps of rules serves

-- LATER

module _ (seed : List ℕ) (seen : Seen) (from left : Contents) (sofar : Later from left) (has : HasImage seen.desk.before.held.now left) where
  abbrev Extends : Type 0
  Extends = HasLater from seen.desk.after.held.now ⊎ (seen.desk.after.held.now ≡ None)

  -- the session that follows the one that left it
  begins : (i : Image) → HoldsImage seen.desk.before.held.now i → BeginsFrom left (begun (contents i))
  begins i was_held = runs_go_on left seen.desk.before.held.now i has was_held

  closed_by : (c : ClosedAs seed seen) → HasImage seen.desk.after.held.now (begun (contents c.read)) ⊎ (HasImage seen.desk.after.held.now c.last ⊎ (seen.desk.after.held.now ≡ None)) → Extends
  closed_by c (inl is) = inl (begun (contents c.read), is, Begun sofar (begins c.read c.was_held))
  closed_by c (inr (inl is)) =
      inl (c.last, is, More sofar (begins c.read c.was_held) (record { fits = c.session.fits; story = c.session.story; rack = c.session.rack; records = c.session.records; groups = c.session.groups }))
  closed_by c (inr (inr none)) = inr none

  later_by : ClosedAs seed seen ⊎ NoneClosed (image_met seen.desk) → Extends
  later_by (inl c) = closed_by c c.left
  later_by (inr (inl same)) = inl (left, (same ∙ has.0, has.1), sofar)
  later_by (inr (inr (inl none))) = inr none
  later_by (inr (inr (inr (i, was_held, is)))) = inl (begun (contents i), is, Begun sofar (begins i was_held))

pub runs_are_sessions : RunsAreSessions
runs_are_sessions seed careful seen answer it done told = held_well seed careful seen answer told done it

pub runs_may_close : RunsMayClose
runs_may_close seed careful seen answer it told = held_shut seed careful seen answer told it

-- A CAREFUL RUN

module _ (seed : List ℕ) (seen : Seen) (answer : Status) (why : (answer ≡ status.SinkFault) ⊎ (answer ≡ status.RoomFault)) (told : IsTrue seen.desk.tells) where
  kept_close : (i : Image) (steps : List Step) (of : IsSessionOf seen.source (image_met seen.desk) i steps) (rules : IsImage (begun (contents i)))
      → Serves seed true (begun (contents i)) steps seen.room seen.sink seen.desk answer → IsKeptAs seed seen ⊎ NoneClosed (image_met seen.desk)
  kept_close i steps of rules (Unlent is sink kept room others) = inr (inr (inr (i, of.image told, ((kept told).0, rules))))
  kept_close i steps of rules (Unopened is sink kept others) = inr (inr (inr (i, of.image told, ((kept told).0, rules))))
  kept_close i steps of rules (Closed c) =
      let d = shut_at seed true seen answer told i steps of rules c in
      inl (
        d.0,
        subst (HasImage seen.desk.after.held.now) (sym d.1)
            (left_kept seed true seen answer told i steps of rules c.ending (close_answer c.missing c.kept) c.kept c.last c.status c.keeps.which (c.keeps.holds told) c.image why),
      )

  kept_held : Holds seed true seen answer → IsKeptAs seed seen ⊎ NoneClosed (image_met seen.desk)
  kept_held (Stopped s stops refuses room) = inr (stopped seed true seen answer told s stops)
  kept_held (Served i steps of rules whole serves ends untouched) = kept_close i steps of rules serves

pub careful_keeps : CarefulKeeps
careful_keeps seed seen answer it why told = kept_held seed seen answer why told it

pub runs_go_later : RunsGoLater
runs_go_later seed careful seen answer it told from (left, has, sofar) =
    later_by seed seen from left sofar has (held_shut seed careful seen answer told it)

-- RUNS AND RECHECKS, ONE AFTER THE OTHER

abbrev IsGood : Option (List ℕ) → Type 0
IsGood held = (held ≡ None) ⊎ ((rack : Rack) × HasLater (empty_contents rack) held)

-- a desk that stays
still_good : (desk : Transition (Option (List ℕ))) → desk.after ≡ desk.before → IsGood desk.before → IsGood desk.after
still_good desk same good = subst IsGood (sym same) good

-- a new archive
made_good : (rack : Rack) (desk : Transition (Option (List ℕ))) (made : Result (Unit {0}) Stop) → IsImage (empty_contents rack) → MakesDesk rack desk made → IsGood desk.before → IsGood desk.after
made_good rack desk (Ok u) is makes good = inr (rack, (empty_contents rack, (makes.1, is), Same))
made_good rack desk (Err stop.Exists) is makes good = still_good desk makes.1 good
made_good rack desk (Err stop.NoMemory) is makes good = still_good desk makes good
made_good rack desk (Err stop.DeskFault) is makes good = by (failed_by desk (empty_contents rack) is makes.1)
  where
    by : MayHave desk (empty_contents rack) → IsGood desk.after
    by (inl same) = still_good desk same good
    by (inr (inl new)) = inr (rack, (empty_contents rack, new, Same))
    by (inr (inr none)) = inl none
made_good rack desk (Err stop.Words) is makes good = absurd makes
made_good rack desk (Err stop.SourceFault) is makes good = absurd makes
made_good rack desk (Err (stop.BadLine number)) is makes good = absurd makes
made_good rack desk (Err stop.NoImage) is makes good = absurd makes
made_good rack desk (Err stop.Cut) is makes good = absurd makes
made_good rack desk (Err (stop.Trailer kept computed)) is makes good = absurd makes
made_good rack desk (Err (stop.Form place)) is makes good = absurd makes
made_good rack desk (Err stop.Spent) is makes good = absurd makes
made_good rack desk (Err stop.RoomFault) is makes good = absurd makes
made_good rack desk (Err stop.TooWide) is makes good = absurd makes

-- no session begins on a desk that has no image
none_held : (seed : List ℕ) (seen : Seen) → seen.desk.before.held.now ≡ None → ClosedAs seed seen ⊎ NoneClosed (image_met seen.desk) → seen.desk.after.held.now ≡ None
none_held seed seen none (inl c) = absurd (unheld c.read c.was_held)
  where
    unheld : (i : Image) → HoldsImage seen.desk.before.held.now i → ⊥
    unheld i (bytes, is, answers) = absurd (cc (none, is))
none_held seed seen none (inr (inl same)) = same ∙ none
none_held seed seen none (inr (inr (inl gone))) = gone
none_held seed seen none (inr (inr (inr (i, (bytes, is, answers), left)))) = absurd (cc (none, is))

-- a session
run_good : (seed : List ℕ) (careful : Bool) (seen : Seen) (answer : Status) → Holds seed careful seen answer → IsTrue seen.desk.tells → IsGood seen.desk.before.held.now → IsGood seen.desk.after.held.now
run_good seed careful seen answer it told (inl none) = inl (none_held seed seen none (held_shut seed careful seen answer told it))
run_good seed careful seen answer it told (inr (rack, later)) = by (runs_go_later seed careful seen answer it told (empty_contents rack) later)
  where
    by : HasLater (empty_contents rack) seen.desk.after.held.now ⊎ (seen.desk.after.held.now ≡ None) → IsGood seen.desk.after.held.now
    by (inl more) = inr (rack, more)
    by (inr none) = inl none

-- any run
next_good : (words : List Text) (drawn : List ℕ) (seen : Seen) (answer : Status) → RunsProgram words drawn seen answer → IsTrue seen.desk.tells → IsGood seen.desk.before.held.now → IsGood seen.desk.after.held.now
next_good words drawn seen answer (Nothing none unread refuses same room) told good = still_good (image_met seen.desk) (ap (λ (h : Images). h.now) (same told)) good
next_good words drawn seen answer (Short is unread sink same room) told good = still_good (image_met seen.desk) (ap (λ (h : Images). h.now) (same told)) good
next_good words drawn seen answer (calls.Makes rack spells unread inits room) told good = made_good rack (image_met seen.desk) inits.made inits.image (inits.makes told) good
next_good words drawn seen answer (Drilling d spells drills same room) told good = still_good (image_met seen.desk) (ap (λ (h : Images). h.now) (same told)) good
next_good words drawn seen answer (Recovering r spells unread recovers same) told good = still_good (image_met seen.desk) (ap (λ (h : Images). h.now) (same told)) good
next_good words drawn seen answer (Auditing a spells unread audits same room) told good = still_good (image_met seen.desk) (ap (λ (h : Images). h.now) (same told)) good
next_good words drawn seen answer (Generating n spells unread generates same room) told good = still_good (image_met seen.desk) (ap (λ (h : Images). h.now) (same told)) good
next_good words drawn seen answer (Session that spelled it) told good = run_good (seed_of that drawn) that.careful seen answer it told good

-- a recheck
recheck_good : (desk : Transition (Option (List ℕ))) (answer : Rechecked) → Rechecks desk answer → IsGood desk.before → IsGood desk.after
recheck_good desk answer is (inl none) = inl (none_stays desk answer is none)
recheck_good desk answer is (inr (rack, later)) = by (rechecks_go_on desk answer is (empty_contents rack) later)
  where
    by : HasLater (empty_contents rack) desk.after ⊎ ((answer ≡ rechecked.DeskFault) × (desk.after ≡ None)) → IsGood desk.after
    by (inl more) = inr (rack, more)
    by (inr (failed, none)) = inl none

pub desks_stay_good : DesksStayGood
desks_stay_good held Bare = inl refl
desks_stay_good held (Next words drawn seen answer came runs told) = next_good words drawn seen answer runs told (desks_stay_good seen.desk.before.held.now came)
desks_stay_good held (Recheck desk answer came is) = recheck_good desk answer is (desks_stay_good desk.before came)
