-- What the words that hold no session answer.
use Rattle.std.proofs.Common.{◌≡◌, inl, inr, ℕ, true, false, List, [], ◌∷◌, Option, Some, None, Result, Ok, Err, ap, sym, ◌∙◌, subst, arith, length}
use Rattle.std.specs.Prelude.{IsTrue, IsSome, codes, if◌then◌else◌, unwrap_or}
use Rattle.std.proofs.lemmas.Option.{same_Some}
use Rattle.pot_bytes.specs.declared.rack.Rack.{Rack}
use Rattle.pot_outside.specs.Accounts.{Transition}
use Rattle.pot_outside.specs.Desks.{image_met}
use Rattle.pot_outside.specs.Rooms.{RoomState}
use Rattle.pot_outside.specs.declared.faults.Failed.{Failed}
use Rattle.pot_options.specs.Options.{Text}
use Rattle.pot_words.specs.Tasks.{SpellTask}
use Rattle.pot_words.specs.declared.audit.Audit.{Audit}
use Rattle.pot_words.specs.declared.drill.Drill.{Drill}
use Rattle.pot_words.specs.declared.recover.Recover.{Recover}
use Rattle.pot_words.proofs.KindLemmas.{one_kind}
use Rattle.pot_words.specs.declared.task.Task.TheVariants as task
use Rattle.pot_image.specs.declared.fault.ImageFault.{ImageFault}
use Rattle.pot_image.specs.declared.fault.ImageFault.TheVariants as faults
use Rattle.pot_image.specs.declared.image.Image.{Image}
use Rattle.pot_image.specs.Images.{Contents, contents, AnswersImage}
use Rattle.pot_audit.specs.Loose.{loose_columns}
use Rattle.pot_commands.specs.Streams.{Wrote, WritesText}
use Rattle.pot_session.specs.declared.ending.status.Status.{Status}
use Rattle.pot_session.specs.declared.ending.status.Status.TheVariants as status
use Rattle.pot_session.specs.declared.ending.stop.Stop.{Stop}
use Rattle.pot_session.specs.declared.ending.stop.Stop.TheVariants as stop
use Rattle.pot_session.specs.Audits.{Audits, AuditAnswers, PutsWholeAudit, are_of, loose_of, spots_of}
use Rattle.pot_session.specs.Audits.{Stopped, Outside, Told}
use Rattle.pot_session.specs.Calls.{RunsProgram, Nothing, Short, Makes, Session, Drilling, Recovering, Auditing, Generating}
use Rattle.pot_session.specs.Desks.{HoldsImage, IsImageStop, RefusesBytes, RefusesDesk}
use Rattle.pot_session.specs.Drills.{ArePair, Drilled, DrillsTo, Explained, Exposed, exposed_text}
use Rattle.pot_session.specs.Generating.{Generates, IsGenerated, Starved, answer_of, is_answered, summary}
use Rattle.pot_session.specs.Generating as generating
use Rattle.pot_session.specs.Making.{InitAnswers, Inits}
use Rattle.pot_session.specs.Making as making
use Rattle.pot_session.specs.Recovering.{AreHeldIn, FindsObjects, ListAnswers}
use Rattle.pot_session.specs.Runs.{Seen}
use Rattle.pot_session.specs.Stops.{Refuses, status_of, stop_text}
use Rattle.pot_session.specs.Tasks.{AsksNothing}
use Rattle.pot_session.specs.Telling.{WordAnswers, told_status}
use Rattle.pot_promises.specs.Complete.{IsFault}
use Rattle.pot_promises.specs.Words.{AreAllHeld, AuditAnswered, DrillAnswered, GenerateAnswered, InitAnswered, NoArchiveLost, RecoverAnswered, WordsAreAnswered}
use Rattle.pot_promises.proofs.Answering.{IsReadAs, held_read, no_fault_in, not_bare, one_held}

none_some : {X : Type 0} (o : Option X) → IsSome o → o ≡ None → ⊥
none_some None s e = cc
none_some (Some x) s e = cc

-- two words that begin with other letters
abbrev first_letter : Text → ℕ
first_letter [] = 0
first_letter (b ∷ bs) = b

drill_or_audit : codes "drill" ≡ codes "audit" → ⊥
drill_or_audit e = (let f : 100 ≡ 97 = ap first_letter e in omega (arith, f))

-- which blocks were read where none was lost
all_held : (archives stripes : ℕ) (room : Transition RoomState) (blocks : List (List ℕ)) → AreHeldIn archives stripes room.before.means room.after.means blocks → NoArchiveLost archives room → AreAllHeld archives stripes room.before blocks
all_held archives stripes room blocks held none = record {
  only = held.only;
  all = λ n b lt is. (let x = none n lt in held.all n lt x.0 x.1 b is);
}

module _ (answer : Status) (fine : IsFault answer → ⊥) (had : answer ≡ status.NoMemory → ⊥) where
  no : (s : Status) → IsFault s → answer ≡ s → ⊥
  no s f is = fine (subst IsFault (sym is) f)

  -- a refusal is written whole
  refuses : (sink : Transition (List ℕ)) (s : Stop) → Refuses sink s answer → (answer ≡ status_of s) × Wrote sink (stop_text s)
  refuses sink s (inl p) = p
  refuses sink s (inr (inl p)) = absurd (no status.SinkFault tt p.0)
  refuses sink s (inr (inr p)) = absurd (had p.0)

  -- INIT

  module _ (rack : Rack) (desk : Transition (Option (List ℕ))) (sink : Transition (List ℕ)) where
    made_by : (made : Result (Unit {0}) Stop) → making.MakesDesk rack desk made → InitAnswers sink made answer → InitAnswered rack desk sink answer
    made_by (Ok u) m (inl p) = record { none = λ e. (p.0, m.1, p.1); some = λ s. absurd (none_some desk.before s m.0) }
    made_by (Ok u) m (inr p) = absurd (no status.SinkFault tt p.0)
    made_by (Err stop.Exists) m a = (let r = refuses sink stop.Exists a in record { none = λ e. absurd (none_some desk.before m.0 e); some = λ s. (r.0, m.1, r.1) })
    made_by (Err stop.DeskFault) m a = absurd (no status.DeskFault tt (refuses sink stop.DeskFault a).0)
    made_by (Err stop.NoMemory) m a = absurd (had (refuses sink stop.NoMemory a).0)
    made_by (Err _) m a = absurd m

    init_answered : IsTrue desk.tells → Inits rack desk sink answer → InitAnswered rack desk sink answer
    init_answered told it = made_by it.made (it.makes told) it.answers

  -- DRILL

  module _ (d : Drill) (seed : List ℕ) (source sink : Transition (List ℕ)) (told : IsTrue source.tells) where
    told_of : (t : _) (file other : List ℕ) → ArePair source.before file other → DrillsTo d seed file other t → (answer ≡ told_status t.refused) × Wrote sink t.text.items → DrillAnswered d seed source sink answer
    told_of t file other pair (Explained r explained report text refused) p = record {
      few = λ f o q lt. (p.0 ∙ ap told_status refused, (file, other, pair, (r, explained, report, subst (λ l. Wrote sink l) text p.1)));
      many = λ f o q le. absurd (let few = report.few in omega (arith, few, le));
      no_pair = λ none. absurd (none file other pair);
    }
    told_of t file other pair (Exposed number have need random fault text refused) p = record {
      few = λ f o q lt. absurd (let many = fault.0 in omega (arith, many, lt));
      many = λ f o q le. (p.0 ∙ ap told_status refused, subst (λ l. Wrote sink l) (text ∙ same) p.1);
      no_pair = λ none. absurd (none file other pair);
    }
      where
        same : exposed_text number have need ≡ exposed_text d.hidden (length d.seen.items) d.geometry.need
        same = ap (λ n. exposed_text n have need) fault.1
            ∙ (ap (λ h. exposed_text d.hidden h need) fault.2 ∙ ap (λ n. exposed_text d.hidden (length d.seen.items) n) fault.3)

    drilled_by : (made : Result _ Stop) → Drilled d seed source made → WordAnswers sink made answer → DrillAnswered d seed source sink answer
    drilled_by (Ok t) (file, other, pair, to) (inl p) = told_of t file other (pair told) to p
    drilled_by (Ok t) (file, other, pair, to) (inr p) = absurd (no status.SinkFault tt p.0)
    drilled_by (Err (stop.BadLine number)) (zero_is, none) a = (let r = refuses sink (stop.BadLine number) a in record {
      few = λ f o q lt. absurd (none told f o q);
      many = λ f o q le. absurd (none told f o q);
      no_pair = λ n. (r.0, subst (λ k. Wrote sink (stop_text (stop.BadLine k))) zero_is r.1);
    })
    drilled_by (Err stop.SourceFault) m a = absurd (no status.SourceFault tt (refuses sink stop.SourceFault a).0)
    drilled_by (Err stop.NoMemory) m a = absurd (had (refuses sink stop.NoMemory a).0)
    drilled_by (Err _) m a = absurd m

  -- RECOVER

  module _ (r : Recover) (room : Transition RoomState) (sink : Transition (List ℕ)) (told : IsTrue room.tells) where
    found_by : (found : Result (List (List ℕ)) Stop) → FindsObjects r room found → ListAnswers sink found answer → RecoverAnswered r room sink answer
    found_by (Ok objects) (blocks, held, gives) (inl p) = record {
      blocks = blocks;
      held = all_held r.archives r.stripes room blocks (held told);
      is = inl (objects, gives, p.0, p.1);
    }
    found_by (Ok objects) m (inr (inl e, began)) = absurd (no status.SinkFault tt e)
    found_by (Ok objects) m (inr (inr e, began)) = absurd (had e)
    found_by (Err stop.TooWide) (blocks, held, (chains, choices, many)) a = (let w = refuses sink stop.TooWide a in record {
      blocks = blocks;
      held = all_held r.archives r.stripes room blocks (held told);
      is = inr (chains, choices, many, w.0, w.1);
    })
    found_by (Err stop.RoomFault) m a = absurd (no status.RoomFault tt (refuses sink stop.RoomFault a).0)
    found_by (Err stop.NoMemory) m a = absurd (had (refuses sink stop.NoMemory a).0)
    found_by (Err _) m a = absurd m

  -- AUDIT

  module _ (a : Audit) (desk : Transition (Option (List ℕ))) (sink : Transition (List ℕ)) (told : IsTrue desk.tells) where
    -- the desk has bytes that are no image
    by_bytes : (s : Stop) (bytes : List ℕ) (fault : ImageFault) → (fault ≡ faults.NoMemory → ⊥) → AnswersImage bytes (Err fault) → desk.before ≡ Some bytes → RefusesBytes bytes s → answer ≡ status.ImageRefused → Wrote sink (stop_text s)
        → AuditAnswered a desk sink answer
    by_bytes s bytes fault other is at why q wrote = record {
      none = λ e. absurd (cc (at, e));
      refused = λ others e unread. (q, (s, subst (λ b. RefusesBytes b s) (same_Some bytes others (sym at ∙ e)) why, wrote));
      outside = λ i holds f. absurd (not i holds);
      told = λ i holds t. absurd (not i holds);
    }
      where
        not : (i : Image) → HoldsImage desk.before i → ⊥
        not i holds = no_fault_in desk.before (contents i) (held_read desk.before i holds) fault other bytes at is

    stopped_by : (s : Stop) → IsImageStop s → RefusesDesk desk.before s → (answer ≡ status_of s) × Wrote sink (stop_text s) → AuditAnswered a desk sink answer
    stopped_by stop.NoImage is none r = record {
      none = λ e. r;
      refused = λ bytes at unread. absurd (cc (none, at));
      outside = λ i holds f. absurd (not_bare desk.before (contents i) (held_read desk.before i holds) none);
      told = λ i holds t. absurd (not_bare desk.before (contents i) (held_read desk.before i holds) none);
    }
    stopped_by stop.Cut is (bytes, at, why) r = by_bytes stop.Cut bytes faults.Cut (λ e. absurd (cc e)) why at why r.0 r.1
    stopped_by (stop.Trailer kept computed) is (bytes, at, why) r = by_bytes (stop.Trailer kept computed) bytes (faults.Trailer kept computed) (λ e. absurd (cc e)) why at why r.0 r.1
    stopped_by (stop.Form place) is (bytes, at, why) r = by_bytes (stop.Form place) bytes (faults.Form place) (λ e. absurd (cc e)) why at why r.0 r.1
    stopped_by stop.DeskFault is why r = absurd (no status.DeskFault tt r.0)
    stopped_by stop.NoMemory is why r = absurd (had r.0)
    stopped_by stop.Spent is why r = absurd is
    stopped_by stop.Words is why r = absurd is
    stopped_by stop.SourceFault is why r = absurd is
    stopped_by (stop.BadLine number) is why r = absurd is
    stopped_by stop.Exists is why r = absurd is
    stopped_by stop.RoomFault is why r = absurd is
    stopped_by stop.TooWide is why r = absurd is

    module _ (i : Image) (holds : HoldsImage desk.before i) where
      reads : IsReadAs desk.before (contents i)
      reads = held_read desk.before i holds

      same : (j : Image) → HoldsImage desk.before j → contents j ≡ contents i
      same j h = one_held desk.before (contents i) j reads h

      same_are : (j : Image) → HoldsImage desk.before j → are_of j.rack a ≡ are_of i.rack a
      same_are j h = ap (λ (v : Contents). are_of v.rack a) (same j h)

      read_there : (bytes : List ℕ) → desk.before ≡ Some bytes → ((j : Image) → AnswersImage bytes (Ok j) → ⊥) → ⊥
      read_there bytes at unread = unread i (subst (λ b. AnswersImage b (Ok i)) (same_Some holds.0 bytes (sym holds.1 ∙ at)) holds.2)

      audited_by : are_of i.rack a ≡ true → AuditAnswers sink i.rack (spots_of a) i.records.items (loose_of a i) answer → AuditAnswered a desk sink answer
      audited_by t (inl (found, puts, is)) = record {
        none = λ e. absurd (not_bare desk.before (contents i) reads e);
        refused = λ bytes at unread. absurd (read_there bytes at unread);
        outside = λ j h f. absurd (cc (same_are j h, t, f));
        told = λ j h q. (
          found,
          subst (λ (v : Contents). PutsWholeAudit sink v.rack (spots_of a) v.records (if a.loose then loose_columns v.rack (spots_of a) v.tables v.records else []) (Ok found)) (sym (same j h)) puts,
          is,
        );
      }
      audited_by t (inr (e, puts, inl q)) = absurd (no status.SinkFault tt q)
      audited_by t (inr (e, puts, inr q)) = absurd (had q)

      refused_by : are_of i.rack a ≡ false → (answer ≡ status.WordsRefused) × Wrote sink (stop_text stop.Words) → AuditAnswered a desk sink answer
      refused_by f r = record {
        none = λ e. absurd (not_bare desk.before (contents i) reads e);
        refused = λ bytes at unread. absurd (read_there bytes at unread);
        outside = λ j h q. r;
        told = λ j h q. absurd (cc (same_are j h, f, q));
      }

    audit_answered : Audits a desk sink answer → AuditAnswered a desk sink answer
    audit_answered (Stopped s is why r) = stopped_by s is (why told) (refuses sink s r)
    audit_answered (Outside i holds f r) = refused_by i (holds told) f (refuses sink stop.Words r)
    audit_answered (Told i holds t r) = audited_by i (holds told) t r

  -- GENERATE

  generate_answered : (number : ℕ) (sink : Transition (List ℕ)) → Generates number sink answer → GenerateAnswered number sink answer
  generate_answered number sink (Starved is stays) = absurd (had is)
  generate_answered number sink (generating.Told bytes ended is answered wrote writes answers) = by wrote writes answers
    where
      by : (wrote : Result (Unit {0}) Failed) → WritesText sink (summary number bytes) wrote → answer ≡ answer_of ended wrote → GenerateAnswered number sink answer
      by (Ok u) writes same = record {
        bytes = bytes;
        generated = subst (λ s. IsGenerated number bytes s) (sym same) is;
        answered = ap is_answered same ∙ answered;
        written = writes;
      }
      by (Err e) writes same = absurd (no status.SinkFault tt same)

  -- THE WHOLE

  module _ (words : List Text) (drawn : List ℕ) (seen : Seen) where
    init_of : (given : Rack) → SpellTask words (task.Init given) → IsTrue seen.desk.tells → RunsProgram words drawn seen answer
        → (rack : Rack) × SpellTask words (task.Init rack) × InitAnswered rack (image_met seen.desk) seen.sink answer
    init_of given spells told (Nothing none unread refused same room) = absurd (none (task.Init given) spells)
    init_of given spells told (Short is unread sink same room) = absurd (had is)
    init_of given spells told (Makes rack that unread inits room) = (rack, that, init_answered rack (image_met seen.desk) seen.sink told inits)
    init_of given spells told (Session run that it) = absurd (cc (one_kind words (task.Init given) (task.Run run) spells that))
    init_of given spells told (Drilling d that it same room) = absurd (cc (one_kind words (task.Init given) (task.Drill d) spells that))
    init_of given spells told (Recovering r that unread it same) = absurd (cc (one_kind words (task.Init given) (task.Recover r) spells that))
    init_of given spells told (Auditing a that unread it same room) = absurd (cc (one_kind words (task.Init given) (task.Audit a) spells that))
    init_of given spells told (Generating n that unread it same room) = absurd (cc (one_kind words (task.Init given) (task.Generate n) spells that))

    drill_of : (given : Drill) → SpellTask words (task.Drill given) → IsTrue seen.source.tells → RunsProgram words drawn seen answer
        → (d : Drill) × SpellTask words (task.Drill d) × DrillAnswered d (unwrap_or d.seed drawn) seen.source seen.sink answer
    drill_of given spells told (Nothing none unread refused same room) = absurd (none (task.Drill given) spells)
    drill_of given spells told (Short is unread sink same room) = absurd (had is)
    drill_of given spells told (Makes rack that unread inits room) = absurd (cc (one_kind words (task.Drill given) (task.Init rack) spells that))
    drill_of given spells told (Session run that it) = absurd (cc (one_kind words (task.Drill given) (task.Run run) spells that))
    drill_of given spells told (Drilling d that it same room) = (d, that, drilled_by d (unwrap_or d.seed drawn) seen.source seen.sink told it.made it.is it.answers)
    drill_of given spells told (Recovering r that unread it same) = absurd (cc (one_kind words (task.Drill given) (task.Recover r) spells that))
    drill_of given spells told (Auditing a that unread it same room) = absurd (drill_or_audit (one_kind words (task.Drill given) (task.Audit a) spells that))
    drill_of given spells told (Generating n that unread it same room) = absurd (cc (one_kind words (task.Drill given) (task.Generate n) spells that))

    recover_of : (given : Recover) → SpellTask words (task.Recover given) → IsTrue seen.room.tells → RunsProgram words drawn seen answer
        → (r : Recover) × SpellTask words (task.Recover r) × RecoverAnswered r seen.room seen.sink answer
    recover_of given spells told (Nothing none unread refused same room) = absurd (none (task.Recover given) spells)
    recover_of given spells told (Short is unread sink same room) = absurd (had is)
    recover_of given spells told (Makes rack that unread inits room) = absurd (cc (one_kind words (task.Recover given) (task.Init rack) spells that))
    recover_of given spells told (Session run that it) = absurd (cc (one_kind words (task.Recover given) (task.Run run) spells that))
    recover_of given spells told (Drilling d that it same room) = absurd (cc (one_kind words (task.Recover given) (task.Drill d) spells that))
    recover_of given spells told (Recovering r that unread it same) = (r, that, found_by r seen.room seen.sink told it.found it.is it.answers)
    recover_of given spells told (Auditing a that unread it same room) = absurd (cc (one_kind words (task.Recover given) (task.Audit a) spells that))
    recover_of given spells told (Generating n that unread it same room) = absurd (cc (one_kind words (task.Recover given) (task.Generate n) spells that))

    audit_of : (given : Audit) → SpellTask words (task.Audit given) → IsTrue seen.desk.tells → RunsProgram words drawn seen answer
        → (a : Audit) × SpellTask words (task.Audit a) × AuditAnswered a (image_met seen.desk) seen.sink answer
    audit_of given spells told (Nothing none unread refused same room) = absurd (none (task.Audit given) spells)
    audit_of given spells told (Short is unread sink same room) = absurd (had is)
    audit_of given spells told (Makes rack that unread inits room) = absurd (cc (one_kind words (task.Audit given) (task.Init rack) spells that))
    audit_of given spells told (Session run that it) = absurd (cc (one_kind words (task.Audit given) (task.Run run) spells that))
    audit_of given spells told (Drilling d that it same room) = absurd (drill_or_audit (sym (one_kind words (task.Audit given) (task.Drill d) spells that)))
    audit_of given spells told (Recovering r that unread it same) = absurd (cc (one_kind words (task.Audit given) (task.Recover r) spells that))
    audit_of given spells told (Auditing a that unread it same room) = (a, that, audit_answered a (image_met seen.desk) seen.sink told it)
    audit_of given spells told (Generating n that unread it same room) = absurd (cc (one_kind words (task.Audit given) (task.Generate n) spells that))

    generate_of : (given : ℕ) → SpellTask words (task.Generate given) → RunsProgram words drawn seen answer → (number : ℕ) × SpellTask words (task.Generate number) × GenerateAnswered number seen.sink answer
    generate_of given spells (Nothing none unread refused same room) = absurd (none (task.Generate given) spells)
    generate_of given spells (Short is unread sink same room) = absurd (had is)
    generate_of given spells (Makes rack that unread inits room) = absurd (cc (one_kind words (task.Generate given) (task.Init rack) spells that))
    generate_of given spells (Session run that it) = absurd (cc (one_kind words (task.Generate given) (task.Run run) spells that))
    generate_of given spells (Drilling d that it same room) = absurd (cc (one_kind words (task.Generate given) (task.Drill d) spells that))
    generate_of given spells (Recovering r that unread it same) = absurd (cc (one_kind words (task.Generate given) (task.Recover r) spells that))
    generate_of given spells (Auditing a that unread it same room) = absurd (cc (one_kind words (task.Generate given) (task.Audit a) spells that))
    generate_of given spells (Generating n that unread it same room) = (n, that, generate_answered n seen.sink it)

    nothing_of : AsksNothing words → RunsProgram words drawn seen answer → (answer ≡ status.WordsRefused) × Wrote seen.sink (stop_text stop.Words)
    nothing_of none (Nothing n unread refused same room) = refuses seen.sink stop.Words refused
    nothing_of none (Short is unread sink same room) = absurd (had is)
    nothing_of none (Makes rack that unread inits room) = absurd (none (task.Init rack) that)
    nothing_of none (Session run that it) = absurd (none (task.Run run) that)
    nothing_of none (Drilling d that it same room) = absurd (none (task.Drill d) that)
    nothing_of none (Recovering r that unread it same) = absurd (none (task.Recover r) that)
    nothing_of none (Auditing a that unread it same room) = absurd (none (task.Audit a) that)
    nothing_of none (Generating n that unread it same room) = absurd (none (task.Generate n) that)

pub words_are_answered : WordsAreAnswered
words_are_answered words drawn seen answer it fine had = record {
  init = λ given spells told. init_of answer fine had words drawn seen given spells told it;
  drill = λ given spells told. drill_of answer fine had words drawn seen given spells told it;
  recover = λ given spells told. recover_of answer fine had words drawn seen given spells told it;
  audit = λ given spells told. audit_of answer fine had words drawn seen given spells told it;
  generate = λ given spells. generate_of answer fine had words drawn seen given spells it;
  nothing = λ none. nothing_of answer fine had words drawn seen none it;
}
