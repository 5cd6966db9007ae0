-- What a refusal and a session say of the failures of objects.
use Rattle.std.proofs.Common.{◌≡◌, ◌≤◌, ◌++◌, inl, inr, ℕ, Bool, List, [], refl, sym, ap, subst, ◌∙◌, arith}
use Rattle.std.specs.Prelude.{IsTrue, Result, Ok, Err, IfErr, flat_map}
use Rattle.pot_outside.specs.Accounts.{Content, Transition, held_in, since, until}
use Rattle.pot_outside.specs.Desks.{Images}
use Rattle.pot_outside.specs.Rooms.{RoomState}
use Rattle.pot_doubles.proofs.CallLemmas.{rose_later}
use Rattle.pot_script.specs.declared.grouping.Step.{Step}
use Rattle.pot_machine.specs.Table.{archives_in}
use Rattle.pot_image.specs.declared.image.Image.{Image}
use Rattle.pot_image.specs.Images.{Contents, contents}
use Rattle.pot_image.specs.Spelling.{image_bytes}
use Rattle.pot_image.specs.Rules.{IsImage}
use Rattle.pot_session.specs.declared.ending.status.Status.{Status}
use Rattle.pot_session.specs.declared.ending.status.Status.TheVariants as status
use Rattle.pot_session.specs.declared.ending.stop.Stop.{Stop}
use Rattle.pot_session.specs.declared.ending.stop.Stop.TheVariants as stop
use Rattle.pot_shared.specs.Hands.{times}
use Rattle.pot_commands.specs.Holding.{Untouched}
use Rattle.pot_commands.specs.Taking.{asked_by}
use Rattle.pot_options.specs.Options.{Text}
use Rattle.pot_words.specs.Tasks.{SpellTask}
use Rattle.pot_words.specs.declared.run.Run.{Run}
use Rattle.pot_words.specs.declared.task.Task.TheVariants as task
use Rattle.pot_session.specs.Runs.{IsPrepared, Seen, Holds, Served}
use Rattle.pot_session.specs.Calls.{RunsProgram, Session}
use Rattle.pot_session.specs.Tasks.{seed_of}
use Rattle.pot_session.specs.Making.{IsMakeStop, InitAnswers}
use Rattle.pot_session.specs.Serving.{Closed, Serves, Unlent, Unopened, IsEnd}
use Rattle.pot_session.specs.Desks.{CameToDesk}
use Rattle.pot_session.specs.Stops.{Refuses, code_of, status_of}
use Rattle.pot_session.proofs.PastImages.{came_more, came_once}

by_status : (sink : Transition (List ℕ)) (s : Stop) (answer x : Status) → Refuses sink s answer → answer ≡ x → (x ≡ status.SinkFault → ⊥) → (x ≡ status.NoMemory → ⊥) → status_of s ≡ x
by_status sink s answer x (inl h) e f k = sym h.0 ∙ e
by_status sink s answer x (inr (inl h)) e f k = absurd (f (sym e ∙ h.0))
by_status sink s answer x (inr (inr h)) e f k = absurd (k (sym e ∙ h.0))

of_source : (s : Stop) → status_of s ≡ status.SourceFault → s ≡ stop.SourceFault
of_source stop.SourceFault e = refl
of_source stop.Words e = absurd (cc)
of_source (stop.BadLine number) e = absurd (cc)
of_source stop.DeskFault e = absurd (cc)
of_source stop.NoImage e = absurd (cc)
of_source stop.Cut e = absurd (cc)
of_source (stop.Trailer kept computed) e = absurd (cc)
of_source (stop.Form place) e = absurd (cc)
of_source stop.Spent e = absurd (cc)
of_source stop.Exists e = absurd (cc)
of_source stop.RoomFault e = absurd (cc)
of_source stop.TooWide e = absurd (cc)
of_source stop.NoMemory e = absurd (cc)

of_room : (s : Stop) → status_of s ≡ status.RoomFault → s ≡ stop.RoomFault
of_room stop.RoomFault e = refl
of_room stop.DeskFault e = absurd (cc)
of_room stop.SourceFault e = absurd (cc)
of_room stop.Words e = absurd (cc)
of_room (stop.BadLine number) e = absurd (cc)
of_room stop.NoImage e = absurd (cc)
of_room stop.Cut e = absurd (cc)
of_room (stop.Trailer kept computed) e = absurd (cc)
of_room (stop.Form place) e = absurd (cc)
of_room stop.Spent e = absurd (cc)
of_room stop.Exists e = absurd (cc)
of_room stop.TooWide e = absurd (cc)
of_room stop.NoMemory e = absurd (cc)

pub refused_source : (sink : Transition (List ℕ)) (s : Stop) (answer : Status) → Refuses sink s answer → answer ≡ status.SourceFault → s ≡ stop.SourceFault
refused_source sink s answer r e = of_source s (by_status sink s answer status.SourceFault r e (λ h. cc) (λ h. cc))

pub refused_room : (sink : Transition (List ℕ)) (s : Stop) (answer : Status) → Refuses sink s answer → answer ≡ status.RoomFault → s ≡ stop.RoomFault
refused_room sink s answer r e = of_room s (by_status sink s answer status.RoomFault r e (λ h. cc) (λ h. cc))

-- making an archive fails neither for the source nor for the room
pub init_source : (sink : Transition (List ℕ)) (made : Result (Unit {0}) Stop) (answer : Status) → IfErr made IsMakeStop → InitAnswers sink made answer → answer ≡ status.SourceFault → ⊥
init_source sink (Ok u) answer w (inl h) e = (let q : status.Good ≡ status.SourceFault = sym h.0 ∙ e in (cc))
init_source sink (Ok u) answer w (inr h) e = (let q : status.SinkFault ≡ status.SourceFault = sym h.0 ∙ e in (cc))
init_source sink (Err s) answer w r e = subst IsMakeStop (refused_source sink s answer r e) w

pub init_room : (sink : Transition (List ℕ)) (made : Result (Unit {0}) Stop) (answer : Status) → IfErr made IsMakeStop → InitAnswers sink made answer → answer ≡ status.RoomFault → ⊥
init_room sink (Ok u) answer w (inl h) e = (let q : status.Good ≡ status.RoomFault = sym h.0 ∙ e in (cc))
init_room sink (Ok u) answer w (inr h) e = (let q : status.SinkFault ≡ status.RoomFault = sym h.0 ∙ e in (cc))
init_room sink (Err s) answer w r e = subst IsMakeStop (refused_room sink s answer r e) w

-- a session over a desk that failed before it too
longer : (seed : List ℕ) (careful : Bool) (first : Contents) (steps : List Step) (room : Transition RoomState) (sink : Transition (List ℕ)) (desk : Transition (Content Images)) (mid : Content Images) (answer : Status)
    → desk.before.faults ≤ mid.faults → (IsTrue desk.tells → CameToDesk desk.before.held.past (image_bytes first) mid.held.past) → Serves seed careful first steps room sink (since desk mid) answer → Serves seed careful first steps room sink desk answer
longer seed careful first steps room sink desk mid answer le came (Unlent why same holds unlent others) =
    Unlent why same (λ t. ((holds t).0, came_more desk.before.held.past (image_bytes first) mid.held.past desk.after.held.past (came t) (holds t).1)) unlent others
longer seed careful first steps room sink desk mid answer le came (Unopened why same holds others) =
    Unopened why same (λ t. ((holds t).0, came_more desk.before.held.past (image_bytes first) mid.held.past desk.after.held.past (came t) (holds t).1)) others
longer seed careful first steps room sink desk mid answer le came (Closed c) = Closed (record {
  last = c.last;
  story = c.story;
  ending = c.ending;
  ends = c.ends;
  worked = c.worked;
  fails = c.fails;
  missing = c.missing;
  failed_at = c.failed_at;
  leaves = c.leaves;
  apart = c.apart;
  blinded = c.blinded;
  others = c.others;
  lost = c.lost;
  kept = c.kept;
  image = c.image;
  keeps = record {
    holds = c.keeps.holds;
    past = λ t. (let p = c.keeps.past t in (p.0, came_more desk.before.held.past (image_bytes first) mid.held.past p.0 (came t) p.1, p.2));
    began = c.keeps.began;
    had = c.keeps.had;
    which = c.keeps.which;
    cause = record {
      later = (let k = c.keeps.cause.later in omega (arith, le, k));
      rose = λ e. rose_later desk.before.faults mid.faults desk.after.faults le (c.keeps.cause.rose e);
    };
  };
  status = c.status;
})

-- a session that was prepared and served
pub served : (seed : List ℕ) (careful : Bool) (seen : Seen) (answer : Status) (image : Image) (steps used : List Step) (mid : Content Images) → IsPrepared seen.source (until (held_in seen.desk) mid.held) image steps
    → (IsTrue seen.source.tells → seen.source.after ≡ []) → used ≡ steps → Serves seed careful (contents image) used seen.room seen.sink (since seen.desk mid) answer → IsEnd answer
    → Untouched (flat_map archives_in image.tables.items ++ asked_by used) seen.room.before seen.room.after → seen.desk.before.faults ≤ mid.faults → Holds seed careful seen answer
served seed careful seen answer image steps used mid p read same serves is untouched le =
    Served p.read steps (record { goes_on = p.of.goes_on; image = p.of.image; script = p.of.script }) (subst IsImage p.is p.rules) read
    (subst (λ v. Serves seed careful v steps seen.room seen.sink seen.desk answer) p.is
    (subst (λ cs. Serves seed careful (contents image) cs seen.room seen.sink seen.desk answer) same
    (longer seed careful (contents image) used seen.room seen.sink seen.desk mid answer le (λ t. came_once seen.desk.before.held.past (image_bytes (contents image)) mid.held.past (p.came t)) serves))) is
    (λ n none. untouched n (ap (λ ts. times n (flat_map archives_in ts ++ asked_by used)) (ap (λ v. v.tables) p.is) ∙ (ap (λ cs. times n (flat_map archives_in p.read.tables.items ++ asked_by cs)) same ∙ none)))

-- a session with the seed of its words
pub with_seed : (words : List Text) (drawn seed : List ℕ) (run : Run) (seen : Seen) (answer : Status) → seed ≡ seed_of run drawn → SpellTask words (task.Run run) → Holds seed run.careful seen answer → RunsProgram words drawn seen answer
with_seed words drawn seed run seen answer e spelled holds = Session run spelled (subst (λ s. Holds s run.careful seen answer) e holds)

-- 8 is the code of a failed room alone
pub room_code : (s : Status) → code_of s ≡ 8 → s ≡ status.RoomFault
room_code status.RoomFault e = refl
room_code status.Good e = absurd (let z : 0 ≡ 8 = e in omega (arith, z))
room_code status.Refusals e = absurd (let z : 1 ≡ 8 = e in omega (arith, z))
room_code status.WordsRefused e = absurd (let z : 2 ≡ 8 = e in omega (arith, z))
room_code status.ScriptRefused e = absurd (let z : 3 ≡ 8 = e in omega (arith, z))
room_code status.SourceFault e = absurd (let z : 4 ≡ 8 = e in omega (arith, z))
room_code status.SinkFault e = absurd (let z : 5 ≡ 8 = e in omega (arith, z))
room_code status.DeskFault e = absurd (let z : 6 ≡ 8 = e in omega (arith, z))
room_code status.ImageRefused e = absurd (let z : 7 ≡ 8 = e in omega (arith, z))
room_code status.SessionSpent e = absurd (let z : 9 ≡ 8 = e in omega (arith, z))
room_code status.ImageExists e = absurd (let z : 10 ≡ 8 = e in omega (arith, z))
room_code status.TooWide e = absurd (let z : 11 ≡ 8 = e in omega (arith, z))
room_code status.NoMemory e = absurd (let z : 70 ≡ 8 = e in omega (arith, z))
