-- A run whose words, image and script are in their grammars answers all commands.
use Rattle.std.proofs.Common.{◌≡◌, inl, inr, ℕ, Bool, List, Option, Some, Result, Ok, Err, refl, ap, sym, ◌∙◌, subst, arith, MatchResult}
use Rattle.std.specs.Prelude.{IsTrue, None, length}
use Rattle.std.proofs.lemmas.Option.{same_Some}
use Rattle.pot_outside.specs.Accounts.{Transition, held_in}
use Rattle.pot_bytes.specs.declared.rack.Rack.{Rack}
use Rattle.pot_options.specs.Options.{Text}
use Rattle.pot_script.specs.declared.grouping.Step.{Step}
use Rattle.pot_script.proofs.ScriptLemmas.{no_fault}
use Rattle.pot_script.specs.Scripts.{LeavesAtLine}
use Rattle.pot_words.specs.Tasks.{SpellTask}
use Rattle.pot_words.specs.declared.run.Run.{Run}
use Rattle.pot_words.proofs.KindLemmas.{one_kind}
use Rattle.pot_words.specs.declared.task.Task.TheVariants as task
use Rattle.pot_image.specs.declared.fault.ImageFault.{ImageFault}
use Rattle.pot_image.specs.declared.fault.ImageFault.TheVariants as faults
use Rattle.pot_image.specs.declared.image.Image.{Image}
use Rattle.pot_image.specs.Images.{Contents, contents, image, AnsweredFields, Trailed, Measured, Numbered, Marked, AnswersImage}
use Rattle.pot_image.specs.Fields.{IsOf}
use Rattle.pot_image.specs.Spelling.{image_bytes}
use Rattle.pot_image.proofs.ImageBack.{answers_back}
use Rattle.pot_image.proofs.Once.{once_value, never_both}
use Rattle.pot_session.specs.declared.ending.status.Status.{Status}
use Rattle.pot_session.specs.declared.ending.status.Status.TheVariants as status
use Rattle.pot_session.specs.declared.ending.stop.Stop.{Stop}
use Rattle.pot_session.specs.declared.ending.stop.Stop.TheVariants as stop
use Rattle.pot_session.specs.Calls.{RunsProgram, Nothing, Short, Makes, Session, Drilling, Recovering, Auditing, Generating}
use Rattle.pot_session.specs.Commands.{IsScriptRead, RefusesScript}
use Rattle.pot_session.specs.Desks.{CanGoOn, HoldsImage, IsLastSession, RefusesBytes, RefusesDesk, IsDeskStop, IsKeepStop}
use Rattle.pot_session.specs.Runs.{Holds, Stopped, Served, Stops, AtDesk, AtScript, AtOpening, Seen}
use Rattle.pot_session.specs.Serving.{IsEnd}
use Rattle.pot_session.specs.Stops.{Refuses, status_of}
use Rattle.pot_session.specs.Tasks.{seed_of}
use Rattle.pot_promises.specs.Complete.{AsksSession, IsFault, NextIsAnswered, RunsAreAnswered}
use Rattle.pot_promises.specs.Runs.{HasImage, IsDone, NeverRefused, RanAs}
use Rattle.pot_promises.proofs.Running.{runs_are_sessions}

-- BYTES ARE ANSWERED IN ONE WAY, BUT FOR WANT OF MEMORY

-- the image of these contents is answered, or memory ran out
abbrev IsThat : Contents → Result Image ImageFault → Type 0
IsThat v r = MatchResult r (λ i. contents i ≡ v) (λ e. e ≡ faults.NoMemory)

module _ (i : Image) where
  by_fault : (format : _) (body : List ℕ) → IsOf (image format) body (contents i) → (e : ImageFault) → AnsweredFields format body (Err e) → e ≡ faults.NoMemory
  by_fault format body is (faults.Form place) a = absurd (never_both (image format) body (contents i) a.0 is a.2)
  by_fault format body is faults.NoMemory a = refl
  by_fault format body is faults.Cut a = absurd a
  by_fault format body is (faults.Trailer kept computed) a = absurd a

  by_fields : (format : _) (body : List ℕ) → AnsweredFields format body (Ok i) → (r : Result Image ImageFault) → AnsweredFields format body r → IsThat (contents i) r
  by_fields format body is (Ok j) a = once_value (image format) body (contents j) (contents i) a is
  by_fields format body is (Err e) a = by_fault format body is e a

  by_trailer : (format : _) (bytes : List ℕ) → Trailed format bytes (Ok i) → (r : Result Image ImageFault) → Trailed format bytes r → IsThat (contents i) r
  by_trailer format bytes (inl p) r t = absurd (cc (p.1))
  by_trailer format bytes (inr p) r (inl t) = absurd (t.0 p.0)
  by_trailer format bytes (inr p) r (inr t) = by_fields format _ p.1 r t.1

  by_length : (format : _) (bytes : List ℕ) → Measured format bytes (Ok i) → (r : Result Image ImageFault) → Measured format bytes r → IsThat (contents i) r
  by_length format bytes (inl p) r t = absurd (cc (p.1))
  by_length format bytes (inr (inl p)) r t = absurd (cc (p.1))
  by_length format bytes (inr (inr p)) r (inl t) = absurd (let a = p.0 in let b = t.0 in omega (arith, a, b))
  by_length format bytes (inr (inr p)) r (inr (inl t)) = absurd (let a = p.0 in let b = t.0 in omega (arith, a, b))
  by_length format bytes (inr (inr p)) r (inr (inr t)) = by_trailer format bytes p.1 r t.1

  by_number : (bytes : List ℕ) → Numbered bytes (Ok i) → (r : Result Image ImageFault) → Numbered bytes r → IsThat (contents i) r
  by_number bytes (inl p) r t = absurd (cc (p.2))
  by_number bytes (inr (inl p)) r (inl t) = absurd (t.0 p.0)
  by_number bytes (inr (inl p)) r (inr (inl t)) = by_length _ bytes p.1 r t.1
  by_number bytes (inr (inl p)) r (inr (inr t)) = absurd (let a = p.0 in let b = t.0 in omega (arith, a, b))
  by_number bytes (inr (inr p)) r (inl t) = absurd (t.1 p.0)
  by_number bytes (inr (inr p)) r (inr (inl t)) = absurd (let a = p.0 in let b = t.0 in omega (arith, a, b))
  by_number bytes (inr (inr p)) r (inr (inr t)) = by_length _ bytes p.1 r t.1

  by_front : (bytes : List ℕ) → Marked bytes (Ok i) → (r : Result Image ImageFault) → Marked bytes r → IsThat (contents i) r
  by_front bytes (inl p) r t = absurd (cc (p.1))
  by_front bytes (inr p) r (inl t) = absurd (t.0 p.0)
  by_front bytes (inr p) r (inr t) = by_number bytes p.1 r t.1

  one_answer : (bytes : List ℕ) → AnswersImage bytes (Ok i) → (r : Result Image ImageFault) → AnswersImage bytes r → IsThat (contents i) r
  one_answer bytes (inl p) r t = absurd (cc (p.1))
  one_answer bytes (inr p) r (inl t) = absurd (let a = p.0 in let b = t.0 in omega (arith, a, b))
  one_answer bytes (inr p) r (inr t) = by_front bytes p.1 r t.1

-- The desk has bytes that are answered with the image of these contents, or not at all.
abbrev pub IsReadAs : Option (List ℕ) → Contents → Type 0
IsReadAs held v = (bytes : List ℕ) × (held ≡ Some bytes) × ((r : Result Image ImageFault) → AnswersImage bytes r → IsThat v r)

-- so it is where they are its bytes, and where they were read
pub held_read : (held : Option (List ℕ)) (i : Image) → HoldsImage held i → IsReadAs held (contents i)
held_read held i (bytes, is, answers) = (bytes, is, one_answer i bytes answers)

has_read : (held : Option (List ℕ)) (v : Contents) → HasImage held v → IsReadAs held v
has_read held v (is, rules) = (image_bytes v, is, answers_back v rules)

-- a desk holds one image
pub one_held : (held : Option (List ℕ)) (v : Contents) (j : Image) → IsReadAs held v → HoldsImage held j → contents j ≡ v
one_held held v j (bytes, is, reads) (others, are, given) = reads (Ok j) (subst (λ b. AnswersImage b (Ok j)) (same_Some others bytes (sym are ∙ is)) given)

-- its bytes are not refused by this fault
pub no_fault_in : (held : Option (List ℕ)) (v : Contents) → IsReadAs held v → (e : ImageFault) → (e ≡ faults.NoMemory → ⊥) → (bytes : List ℕ) → held ≡ Some bytes → AnswersImage bytes (Err e) → ⊥
no_fault_in held v (others, are, reads) e other bytes is refused = other (reads (Err e) (subst (λ b. AnswersImage b (Err e)) (same_Some bytes others (sym is ∙ are)) refused))

pub not_bare : (held : Option (List ℕ)) (v : Contents) → IsReadAs held v → held ≡ None → ⊥
not_bare held v (bytes, are, reads) none = absurd (cc (none, are))

-- NO REFUSAL OF WHAT IS IN ITS GRAMMAR

module _ (answer : Status) (no_fault_said : IsFault answer → ⊥) (had_memory : answer ≡ status.NoMemory → ⊥) where
  -- the status of a fault or of want of memory is none of this answer
  no_source : answer ≡ status.SourceFault → ⊥
  no_source is = no_fault_said (subst IsFault (sym is) tt)

  no_sink : answer ≡ status.SinkFault → ⊥
  no_sink is = no_fault_said (subst IsFault (sym is) tt)

  no_desk : answer ≡ status.DeskFault → ⊥
  no_desk is = no_fault_said (subst IsFault (sym is) tt)

  module _ (held : Option (List ℕ)) (v : Contents) (reads : IsReadAs held v) (goes_on : CanGoOn v) where
    not_spent : (bytes : List ℕ) → held ≡ Some bytes → RefusesBytes bytes stop.Spent → ⊥
    not_spent bytes is (j, answers, last) = by last
      where
        same : contents j ≡ v
        same = one_held held v j reads (bytes, is, answers)

        by : IsLastSession j → ⊥
        by (inl number) = (let a = ap (λ (w : Contents). w.session) same in let g = goes_on.0 in omega (arith, g, number, a))
        by (inr full) = (let a = ap (λ (w : Contents). length w.records) same in let g = goes_on.1 in omega (arith, g, full, a))

    not_by : (e : ImageFault) → (e ≡ faults.NoMemory → ⊥) → (bytes : List ℕ) → held ≡ Some bytes → AnswersImage bytes (Err e) → ⊥
    not_by e other bytes is refused = no_fault_in held v reads e other bytes is refused

    at_desk : (s : Stop) → IsDeskStop s → RefusesDesk held s → answer ≡ status_of s → ⊥
    at_desk stop.NoImage d none is = not_bare held v reads none
    at_desk stop.Cut d (bytes, is, refused) _ = not_by faults.Cut (λ e. absurd (cc e)) bytes is refused
    at_desk (stop.Trailer kept computed) d (bytes, is, refused) _ = not_by (faults.Trailer kept computed) (λ e. absurd (cc e)) bytes is refused
    at_desk (stop.Form place) d (bytes, is, refused) _ = not_by (faults.Form place) (λ e. absurd (cc e)) bytes is refused
    at_desk stop.Spent d (bytes, is, refused) _ = not_spent bytes is refused
    at_desk stop.DeskFault d refused is = no_desk is
    at_desk stop.NoMemory d refused is = had_memory is
    at_desk stop.Words d refused is = d
    at_desk stop.SourceFault d refused is = d
    at_desk (stop.BadLine number) d refused is = d
    at_desk stop.Exists d refused is = d
    at_desk stop.RoomFault d refused is = d
    at_desk stop.TooWide d refused is = d

  at_script : (rack : Rack) (source : Transition (List ℕ)) (told : IsTrue source.tells) (steps : List Step) → IsScriptRead rack source steps
      → (s : Stop) → RefusesScript rack source s → answer ≡ status_of s → ⊥
  at_script rack source told steps read (stop.BadLine number) refused is =
      no_fault read.script (subst (λ b. LeavesAtLine rack b number) (read.read told) (refused told))
  at_script rack source told steps read stop.SourceFault refused is = no_source is
  at_script rack source told steps read stop.NoMemory refused is = had_memory is
  at_script rack source told steps read stop.Words refused is = refused
  at_script rack source told steps read stop.DeskFault refused is = refused
  at_script rack source told steps read stop.NoImage refused is = refused
  at_script rack source told steps read stop.Cut refused is = refused
  at_script rack source told steps read (stop.Trailer kept computed) refused is = refused
  at_script rack source told steps read (stop.Form place) refused is = refused
  at_script rack source told steps read stop.Spent refused is = refused
  at_script rack source told steps read stop.Exists refused is = refused
  at_script rack source told steps read stop.RoomFault refused is = refused
  at_script rack source told steps read stop.TooWide refused is = refused

  at_keeping : (s : Stop) → IsKeepStop s → answer ≡ status_of s → ⊥
  at_keeping stop.DeskFault k is = no_desk is
  at_keeping stop.NoMemory k is = had_memory is
  at_keeping stop.Words k is = k
  at_keeping stop.SourceFault k is = k
  at_keeping (stop.BadLine number) k is = k
  at_keeping stop.NoImage k is = k
  at_keeping stop.Cut k is = k
  at_keeping (stop.Trailer kept computed) k is = k
  at_keeping (stop.Form place) k is = k
  at_keeping stop.Spent k is = k
  at_keeping stop.Exists k is = k
  at_keeping stop.RoomFault k is = k
  at_keeping stop.TooWide k is = k

  -- so what did not stop before its steps ended well
  refused_so : (sink : Transition (List ℕ)) (s : Stop) → Refuses sink s answer → (answer ≡ status_of s → ⊥) → ⊥
  refused_so sink s (inl p) never = never p.0
  refused_so sink s (inr (inl p)) never = no_sink p.0
  refused_so sink s (inr (inr p)) never = had_memory p.0

-- how a session ends in which no object failed and that found memory
ended_well : (answer : Status) → IsEnd answer → (IsFault answer → ⊥) → (answer ≡ status.NoMemory → ⊥) → IsDone answer
ended_well status.Good e f m = tt
ended_well status.Refusals e f m = tt
ended_well status.SinkFault e f m = absurd (f tt)
ended_well status.DeskFault e f m = absurd (f tt)
ended_well status.RoomFault e f m = absurd (f tt)
ended_well status.NoMemory e f m = absurd (m refl)
ended_well status.WordsRefused e f m = absurd e
ended_well status.ScriptRefused e f m = absurd e
ended_well status.SourceFault e f m = absurd e
ended_well status.ImageRefused e f m = absurd e
ended_well status.SessionSpent e f m = absurd e
ended_well status.ImageExists e f m = absurd e
ended_well status.TooWide e f m = absurd e

-- THE WHOLE

module _ (words : List Text) (drawn : List ℕ) (seen : Seen) (answer : Status) (source_told : IsTrue seen.source.tells) (desk_told : IsTrue seen.desk.tells)
    (v : Contents) (reads : IsReadAs seen.desk.before.held.now v) (goes_on : CanGoOn v) (steps : List Step) (read : IsScriptRead v.rack seen.source steps)
    (no_fault_said : IsFault answer → ⊥) (had_memory : answer ≡ status.NoMemory → ⊥) where
  stops_not : (s : Stop) → Stops seen.source (held_in seen.desk) s → answer ≡ status_of s → ⊥
  stops_not s (AtDesk d refused same) is = at_desk answer no_fault_said had_memory seen.desk.before.held.now v reads goes_on s d (refused desk_told) is
  stops_not s (AtScript j goes holds_that refused same) is =
      let rack : j.rack ≡ v.rack = ap (λ (w : Contents). w.rack) (one_held seen.desk.before.held.now v j reads (holds_that desk_told)) in
      at_script answer no_fault_said had_memory v.rack seen.source source_told steps read s
      (subst (λ r. RefusesScript r seen.source s) rack refused) is
  stops_not s (AtOpening j others of k image keeps came) is = at_keeping answer no_fault_said had_memory s k is

  held_well : (seed : List ℕ) (careful : Bool) → Holds seed careful seen answer → IsDone answer
  held_well seed careful (Stopped s stops refuses same) = absurd (refused_so answer no_fault_said had_memory seen.sink s refuses (stops_not s stops))
  held_well seed careful (Served j others of rules whole serves ends untouched) = ended_well answer ends no_fault_said had_memory

  abbrev Answers : Type 0
  Answers = IsDone answer × ((seed : List ℕ) × AsksSession words drawn seed × RanAs seed seen)

  answered : (run : Run) → SpellTask words (task.Run run) → RunsProgram words drawn seen answer → Answers
  answered run spells (Nothing none unread refuses same room) = absurd (none (task.Run run) spells)
  answered run spells (Short is unread sink same room) = absurd (had_memory is)
  answered run spells (Makes rack other unread inits room) = absurd (cc (one_kind words (task.Run run) (task.Init rack) spells other))
  answered run spells (Drilling d other drills same room) = absurd (cc (one_kind words (task.Run run) (task.Drill d) spells other))
  answered run spells (Recovering r other unread recovers same) = absurd (cc (one_kind words (task.Run run) (task.Recover r) spells other))
  answered run spells (Auditing a other unread audits same room) = absurd (cc (one_kind words (task.Run run) (task.Audit a) spells other))
  answered run spells (Generating n other unread generates same room) = absurd (cc (one_kind words (task.Run run) (task.Generate n) spells other))
  answered run spells (Session that spelled it) =
      let seed = seed_of that drawn in
      let done = held_well seed that.careful it in
      (done, (seed, (that, spelled, refl), runs_are_sessions seed that.careful seen answer it done desk_told))

pub runs_are_answered : RunsAreAnswered
runs_are_answered words drawn seen answer it source_told desk_told given (run, spells, is) i holds_it goes_on steps read no_fault_said had_memory =
    answered words drawn seen answer source_told desk_told (contents i) (held_read seen.desk.before.held.now i holds_it) goes_on steps read no_fault_said had_memory run spells it

pub next_is_answered : NextIsAnswered
next_is_answered words drawn seen answer it source_told desk_told given (run, spells, is) left has goes_on steps read no_fault_said had_memory =
    answered words drawn seen answer source_told desk_told left (has_read seen.desk.before.held.now left has) goes_on steps read no_fault_said had_memory run spells it

-- NO IMAGE IS REFUSED

module _ (answer : Status) (refused : answer ≡ status.ImageRefused) where
  -- a status that is another
  other : (s : Status) → (s ≡ status.ImageRefused → ⊥) → answer ≡ s → ⊥
  other s ne is = ne (sym is ∙ refused)

  desk_reads : (held : Option (List ℕ)) (v : Contents) → IsReadAs held v → (s : Stop) → IsDeskStop s → RefusesDesk held s → answer ≡ status_of s → ⊥
  desk_reads held v reads stop.NoImage d none is = not_bare held v reads none
  desk_reads held v reads stop.Cut d (bytes, at, why) is = no_fault_in held v reads faults.Cut (λ e. absurd (cc e)) bytes at why
  desk_reads held v reads (stop.Trailer kept computed) d (bytes, at, why) is = no_fault_in held v reads (faults.Trailer kept computed) (λ e. absurd (cc e)) bytes at why
  desk_reads held v reads (stop.Form place) d (bytes, at, why) is = no_fault_in held v reads (faults.Form place) (λ e. absurd (cc e)) bytes at why
  desk_reads held v reads stop.Spent d why is = other status.SessionSpent (λ e. absurd (cc e)) is
  desk_reads held v reads stop.DeskFault d why is = other status.DeskFault (λ e. absurd (cc e)) is
  desk_reads held v reads stop.NoMemory d why is = other status.NoMemory (λ e. absurd (cc e)) is
  desk_reads held v reads stop.Words d why is = d
  desk_reads held v reads stop.SourceFault d why is = d
  desk_reads held v reads (stop.BadLine number) d why is = d
  desk_reads held v reads stop.Exists d why is = d
  desk_reads held v reads stop.RoomFault d why is = d
  desk_reads held v reads stop.TooWide d why is = d

  script_reads : (rack : Rack) (source : Transition (List ℕ)) (s : Stop) → RefusesScript rack source s → answer ≡ status_of s → ⊥
  script_reads rack source (stop.BadLine number) why is = other status.ScriptRefused (λ e. absurd (cc e)) is
  script_reads rack source stop.SourceFault why is = other status.SourceFault (λ e. absurd (cc e)) is
  script_reads rack source stop.NoMemory why is = other status.NoMemory (λ e. absurd (cc e)) is
  script_reads rack source stop.Words why is = why
  script_reads rack source stop.DeskFault why is = why
  script_reads rack source stop.NoImage why is = why
  script_reads rack source stop.Cut why is = why
  script_reads rack source (stop.Trailer kept computed) why is = why
  script_reads rack source (stop.Form place) why is = why
  script_reads rack source stop.Spent why is = why
  script_reads rack source stop.Exists why is = why
  script_reads rack source stop.RoomFault why is = why
  script_reads rack source stop.TooWide why is = why

  keeping : (s : Stop) → IsKeepStop s → answer ≡ status_of s → ⊥
  keeping stop.DeskFault k is = other status.DeskFault (λ e. absurd (cc e)) is
  keeping stop.NoMemory k is = other status.NoMemory (λ e. absurd (cc e)) is
  keeping stop.Words k is = k
  keeping stop.SourceFault k is = k
  keeping (stop.BadLine number) k is = k
  keeping stop.NoImage k is = k
  keeping stop.Cut k is = k
  keeping (stop.Trailer kept computed) k is = k
  keeping (stop.Form place) k is = k
  keeping stop.Spent k is = k
  keeping stop.Exists k is = k
  keeping stop.RoomFault k is = k
  keeping stop.TooWide k is = k

  refusing : (sink : Transition (List ℕ)) (s : Stop) → Refuses sink s answer → (answer ≡ status_of s → ⊥) → ⊥
  refusing sink s (inl p) never = never p.0
  refusing sink s (inr (inl p)) never = other status.SinkFault (λ e. absurd (cc e)) p.0
  refusing sink s (inr (inr p)) never = other status.NoMemory (λ e. absurd (cc e)) p.0

  ends_not : IsEnd answer → ⊥
  ends_not ends = subst IsEnd refused ends

  module _ (seen : Seen) (told : IsTrue seen.desk.tells) (v : Contents) (reads : IsReadAs seen.desk.before.held.now v) where
    stopping : (s : Stop) → Stops seen.source (held_in seen.desk) s → answer ≡ status_of s → ⊥
    stopping s (AtDesk d why same) is = desk_reads seen.desk.before.held.now v reads s d (why told) is
    stopping s (AtScript j goes holds_that why same) is = script_reads j.rack seen.source s why is
    stopping s (AtOpening j others of k image keeps came) is = keeping s k is

    held_not : (seed : List ℕ) (careful : Bool) → Holds seed careful seen answer → ⊥
    held_not seed careful (Stopped s stops refuses same) = refusing seen.sink s refuses (stopping s stops)
    held_not seed careful (Served j others of rules whole serves ends untouched) = ends_not ends

    run_not : (words : List Text) (drawn : List ℕ) (run : Run) → SpellTask words (task.Run run) → RunsProgram words drawn seen answer → ⊥
    run_not words drawn run spells (Nothing none unread refuses same room) = none (task.Run run) spells
    run_not words drawn run spells (Short is unread sink same room) = other status.NoMemory (λ e. absurd (cc e)) is
    run_not words drawn run spells (Makes rack that unread inits room) = absurd (cc (one_kind words (task.Run run) (task.Init rack) spells that))
    run_not words drawn run spells (Drilling d that drills same room) = absurd (cc (one_kind words (task.Run run) (task.Drill d) spells that))
    run_not words drawn run spells (Recovering r that unread recovers same) = absurd (cc (one_kind words (task.Run run) (task.Recover r) spells that))
    run_not words drawn run spells (Auditing a that unread audits same room) = absurd (cc (one_kind words (task.Run run) (task.Audit a) spells that))
    run_not words drawn run spells (Generating n that unread generates same room) = absurd (cc (one_kind words (task.Run run) (task.Generate n) spells that))
    run_not words drawn run spells (Session that spelled it) = held_not (seed_of that drawn) that.careful it

pub never_refused : NeverRefused
never_refused words drawn seen answer runs told left has run spells refused = run_not answer refused seen told left (has_read seen.desk.before.held.now left has) words drawn run spells runs
