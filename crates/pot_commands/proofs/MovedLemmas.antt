-- A `migrate` whose column moves: what its reply is, by the move that it began and by its work.
use Rattle.std.proofs.Common.{◌≡◌, ◌≢◌, ◌⊎◌, ⊎_elim, inl, inr, ℕ, zero, suc, true, false, List, [], ◌∷◌, ◌++◌, refl, sym, ap, subst, ◌∙◌, arith, append-nil, append_assoc}
use Rattle.std.specs.Prelude.{nat_lt, Contains, IsSome, Result, Ok, Err, MatchResult, filter}
use mathlib.Core.Path.{fun_ext}
use Rattle.std.proofs.lemmas.Bool.{cases_eq}
use lib.Seq.{drop-length}
use Rattle.pot_bytes.specs.declared.rack.Rack.{Rack}
use Rattle.pot_index.specs.Entries as index
use Rattle.pot_machine.specs.declared.entry.Entry.{Entry}
use Rattle.pot_machine.specs.declared.entry.Entry.TheVariants as entry
use Rattle.pot_machine.specs.Logs.{job_of, is_of, own}
use Rattle.pot_group.specs.Arrivals.{arrivals}
use Rattle.pot_turn.specs.declared.name.TurnName.{TurnName}
use Rattle.pot_worked.specs.WroteOnlyFor.{added}
use Rattle.pot_worked.proofs.OnlyWriterLemmas.{gain_in_parts}
use Rattle.pot_rows.specs.Rows.{view_at}
use Rattle.pot_rows.specs.Works.{RowOnlyWriterOf, RowWroteOnlyFor}
use Rattle.pot_script.specs.declared.reply.Reply.{Reply}
use Rattle.pot_script.specs.declared.reply.Reply.TheVariants as replies
use Rattle.pot_replies.specs.Jobs.{is_move_begin, is_move_of, EachIs}
use Rattle.pot_replies.specs.Settings.{Setting}
use Rattle.pot_replies.specs.Sections.{Section, MovesThenRest, JobsAscend, checked, mine, work_of, IsSilent, IsOfJobs}
use Rattle.pot_replies.specs.Moves.{BeganNoMove, MayBegin, MayGoOn, BeginsMove, moving_at}
use Rattle.pot_shared.specs.Catalogs.{IndexPasses, IsIndexReady}
use Rattle.pot_shared.specs.Members.{entries_of}
use Rattle.pot_shared.specs.Ready.{AreReady, GroupPasses}
use Rattle.pot_shared.proofs.MemberLemmas.{entries_append}
use Rattle.pot_shared.specs.Works.{Known, known, of_job, gained, JobWroteOnly, JobOnlyWriter, IsSettingOf, section_of}
use Rattle.pot_shared.proofs.WorkLemmas.{alone_parts, index_idle, row_stays, work_more}
use Rattle.pot_mend.specs.Moves.{EndsMove, MoveRow, seen_in}
use Rattle.pot_mend.specs.declared.fault.MendFault.{MendFault}
use Rattle.pot_mend.specs.declared.fault.MendFault.TheVariants as fault
use Rattle.pot_commands.specs.Arriving.{HasBegun, IsUnbegun, Unbegins, move_reply}
use Rattle.pot_commands.specs.declared.arriving.Unanswered.{Unanswered}
use Rattle.pot_shared.specs.Going.{AllOnlyWriters}
use Rattle.pot_commands.specs.Rows.{IsMigrateReply}
use Rattle.pot_commands.specs.Taking.{Took, AreUsed}
use Rattle.pot_outside.specs.Rooms.{RoomState}
use Rattle.pot_commands.proofs.ArrivingLemmas.{front_jobs, of_jobs, own_each}
use Rattle.pot_commands.proofs.Brought.{its_setting, is_its}
use Rattle.pot_commands.proofs.Going.{setting_of_stays, sole_alone, work_all_went}
use Rattle.pot_commands.proofs.MigrateLemmas.{none_before}
use Rattle.pot_commands.proofs.NoMoves.{brings, no_arrivals, no_begin, none_of_each, none_both, not_among}
use Rattle.pot_commands.proofs.TakingLemmas.{took_on, use_more}
use Rattle.pot_commands.proofs.Whose.{its_jobs, own_all}

-- STEPS OF A MOVE

move_brings : (c : ℕ) (e : Entry) → is_move_of c e ≡ true → brings e ≡ false
move_brings c (entry.MoveBegin job k to) h = absurd (cc h)
move_brings c (entry.Swapped job k to) h = absurd (cc h)
move_brings c _ h = refl

moves_bring : (c : ℕ) (es : List Entry) → EachIs (is_move_of c) es → filter brings es ≡ []
moves_bring c es each = none_of_each es (λ e there. move_brings c e (each e there))

-- no step of it brings an archive
here_brings : (s : Setting) (job g c : ℕ) (result : Result ℕ MendFault) (w : Section) → MoveRow s job g c result w → filter brings (own job (w.added g)) ≡ []
here_brings s job g c (Ok slots) w row = moves_bring c (own job (w.added g)) row.moves
here_brings s job g c (Err (fault.Faulted group column)) w row =
    ap (filter brings) row.2.own_is ∙ none_both row.2.sofar (entry.Fault job row.2.stripe c ∷ []) (moves_bring c row.2.sofar row.2.moves) refl
here_brings s job g c (Err (fault.LogFull group)) w row = moves_bring c (own job (w.added g)) row.1.moves

there_silent : (s : Setting) (job g c : ℕ) (result : Result ℕ MendFault) (w : Section) → MoveRow s job g c result w → (h : ℕ) → h ≢ g → own job (w.added h) ≡ []
there_silent s job g c (Ok slots) w row h ne = row.only.0 h ne
there_silent s job g c (Err (fault.Faulted group column)) w row h ne = row.2.only.0 h ne
there_silent s job g c (Err (fault.LogFull group)) w row h ne = row.1.only.0 h ne

pub moved_brings : (s : Setting) (job g c : ℕ) (result : Result ℕ MendFault) (w : Section) → MoveRow s job g c result w → (h : ℕ) → filter brings (own job (w.added h)) ≡ []
moved_brings s job g c result w row h = ⊎_elim
    (λ (e : h ≡ g). subst (λ k. filter brings (own job (w.added k)) ≡ []) (sym e) (here_brings s job g c result w row))
    (λ (ne : h ≢ g). ap (filter brings) (there_silent s job g c result w row h ne))
    (cases_eq h g)

-- where no archive came, the end of a move is a MoveEnd
ends_by : (c : ℕ) (es : List Entry) → filter brings es ≡ [] → EndsMove c es → (by : ℕ) × Contains es (entry.MoveEnd by c)
ends_by c es none (inl h) = h
ends_by c es none (inr (by, to, has)) = absurd (let e : true ≡ false = not_among brings es none (entry.Swapped by c to) has in cc e)

-- THE REPLY

module _ (s : Setting) (before begun : ℕ → List Entry) (job from to g c : ℕ) (w : Section) (begins : BeginsMove s before begun job from to g c) (elsewhere : (h : ℕ) → h ≢ g → own job (begun h) ≡ [])
    (none : filter brings (w.added g) ≡ []) (moves : IsSome (moving_at s w.before g c)) where
  pub moved_reply : (result : Result ℕ MendFault) → MoveRow s job g c result w → IsMigrateReply s before begun job from to (move_reply from to result) w
  moved_reply (Ok slots) row = (
    refl,
    refl,
    record {
      group = g;
      column = c;
      begins = begins;
      elsewhere = elsewhere;
      only = row.only;
      moves = row.moves;
      slots_is = row.slots_is;
      ends = ends_by c (w.added g) none (row.ends moves);
    },
  )
  moved_reply (Err (fault.Faulted group column)) row =
      subst (λ k. IsMigrateReply s before begun job from to (replies.Fault k column) w) (sym row.0)
      (subst (λ k. IsMigrateReply s before begun job from to (replies.Fault g k) w) (sym row.1) (record {
        begins = begins;
        elsewhere = elsewhere;
        only = row.2.only;
        sofar = row.2.sofar;
        stripe = row.2.stripe;
        own_is = row.2.own_is;
        moves = row.2.moves;
      }))
  moved_reply (Err (fault.LogFull group)) row = subst (λ k. IsMigrateReply s before begun job from to (replies.LogFull k) w) (sym row.0) (inr (record {
    column = c;
    begins = begins;
    elsewhere = elsewhere;
    only = row.1.only;
    moves = row.1.moves;
    unended = row.1.unended;
    log = row.1.log;
    moment = row.1.moment;
    full = row.1.full;
  }))

-- the reply to a line that began no move, by the logs when it was checked
pub unbegun_row : (s : Setting) (before begun : ℕ → List Entry) (job from to : ℕ) (w : Section) → IsSilent (mine job w) → BeganNoMove s before begun job from to → (reply : Reply)
    → IsUnbegun s (checked before begun job) from to reply → IsMigrateReply s before begun job from to reply w
unbegun_row s before begun job from to w silent none (replies.NoArchive number) row = (row.0, (row.1, none, silent))
unbegun_row s before begun job from to w silent none (replies.InUse number) row = (row, none, silent)
unbegun_row s before begun job from to w silent none (replies.LogFull g) row = inl (record { column = row.0; may = row.1; none = none; silent = silent; full = row.2 })
unbegun_row s before begun job from to w silent none _ row = absurd row

-- one entry ascends, and none
ascend_one : (job : ℕ) (es : List Entry) (e : Entry) → (es ≡ []) ⊎ (es ≡ e ∷ []) → JobsAscend es
ascend_one job es e (inl none) = subst JobsAscend (sym none) tt
ascend_one job es e (inr one) = subst JobsAscend (sym one) tt

begins_one : (es : List Entry) (job c to : ℕ) → (es ≡ []) ⊎ (es ≡ entry.MoveBegin job c to ∷ []) → EachIs is_move_begin es
begins_one es job c to (inl none) = subst (λ l. EachIs is_move_begin l) (sym none) (λ e (k, lt, at). absurd (omega (arith, lt)))
begins_one es job c to (inr one) = subst (λ l. EachIs is_move_begin l) (sym one) each
  where
    each : (e : Entry) → Contains (entry.MoveBegin job c to ∷ []) e → is_move_begin e ≡ true
    each e (zero, lt, at) = ap is_move_begin (sym at)
    each e (suc k, lt, at) = absurd (omega (arith, lt))

module _ (rack : Rack) (names turn : List TurnName) (job from to g c : ℕ) (row0 row1 row2 : GroupPasses) (i i1 i2 : IndexPasses) (ready : AreReady rack names row0) (ready1 : AreReady rack names row1) (ready2 : AreReady rack names row2)
    (iready : IsIndexReady rack names turn i) (same : i1 ≡ i) (same2 : i2 ≡ i1) (begun : JobWroteOnly job (known row0 i) (known row1 i1)) (moved : RowWroteOnlyFor (of_job job) row1 row2) where
  abbrev k0 : Known
  k0 = known row0 i

  abbrev k1 : Known
  k1 = known row1 i1

  abbrev k2 : Known
  k2 = known row2 i2

  iready1 : IsIndexReady rack names turn i1
  iready1 = subst (λ x. IsIndexReady rack names turn x) (sym same) iready

  moves_work : JobWroteOnly job k1 k2
  moves_work = record { groups = moved; index = subst (λ x. RowWroteOnlyFor (index.is_of job) i1 x) (sym same2) (row_stays (index.is_of job) i1 (index_idle rack names turn i1 iready1)) }

  pub both_work : JobWroteOnly job k0 k2
  both_work = work_more job k0 k1 k2 begun moves_work

  pub both_used : (r r' : RoomState) → ((n : ℕ) → r'.out n ≡ r.out n) → AreUsed r row1 → AreUsed r' row2
  both_used r r' lends used n is = use_more job row1 row2 moved (ready2.of.0 ∙ sym ready1.of.0) n (used n (sym (lends n) ∙ is))

  gain : (h : ℕ) → gained row0 row2 h ≡ gained row0 row1 h ++ gained row1 row2 h
  gain h =
      ap entries_of (gain_in_parts (view_at row0 h) (view_at row1 h) (view_at row2 h) ((work_all_went job k0 k1 begun).groups h) ((work_all_went job k1 k2 moves_work).groups h))
      ∙ entries_append (added (view_at row0 h) (view_at row1 h)) (added (view_at row1 h) (view_at row2 h))

  grows : (h : ℕ) → seen_in row1 h ≡ seen_in row0 h ++ gained row0 row1 h
  grows h = ap entries_of (begun.groups h).seen ∙ entries_append (view_at row0 h).seen (added (view_at row0 h) (view_at row1 h))

  its_setting_then : (s : Setting) → IsSettingOf s rack k0 → IsSettingOf s rack k1
  its_setting_then s set = setting_of_stays s rack k0 k1 (ready1.of.0 ∙ sym ready.of.0) (λ at. (begun.groups at).origin) (λ at. (begun.index at).origin) set

  module _ (result : Result ℕ MendFault) (says : RowOnlyWriterOf (of_job job) row1 row2 → (s : Setting) → IsSettingOf s rack k1 → MoveRow s job g c result (section_of k1 k2)) where
    -- no archive came by its steps
    none_came : AllOnlyWriters k1 k2 → (h : ℕ) → arrivals (gained row1 row2 h) ≡ []
    none_came sole h =
        no_arrivals (gained row1 row2 h)
        (ap (filter brings) (sym (own_all job (gained row1 row2 h) ((its_jobs job k1 k2 moves_work sole).groups h)))
        ∙ moved_brings (its_setting rack [] 0 k1) job g c result (section_of k1 k2) (says (sole_alone job k1 k2 moves_work sole).groups (its_setting rack [] 0 k1) (is_its rack [] 0 k1)) h)

    pub both_took : (told well : Type 0) (ns : List ℕ) (r r' : RoomState) → well → Took told well ns r r' k0 k1 → (then : Type 0) → Took told then ns r r' k0 k2
    both_took told well ns r r' is took then =
        took_on told well then ns r r' k0 k1 k2 (work_all_went job k0 k1 begun) (work_all_went job k1 k2 moves_work) (ready1.of.0 ∙ sym ready.of.0) is took none_came

    module _ (alone : JobOnlyWriter job k0 k2) (s : Setting) (set : IsSettingOf s rack k0) (its : IsOfJobs job 1 (section_of k0 k2))
        (has : JobOnlyWriter job k0 k1 → (s : Setting) → IsSettingOf s rack k0 → IsOfJobs job 1 (section_of k0 k1) → HasBegun s job from to g c (section_of k0 k1)) where
      parts : JobOnlyWriter job k0 k1 × JobOnlyWriter job k1 k2
      parts = alone_parts job k0 k1 k2 begun moves_work alone

      row : MoveRow s job g c result (section_of k1 k2)
      row = says parts.1.groups s (its_setting_then s set)

      each : (h : ℕ) (x y : List Entry) (e : Entry) → gained row0 row2 h ≡ x ++ e ∷ y → is_of job e ≡ true
      each = of_jobs job (section_of k0 k2) its

      its_front : (h : ℕ) (x y : List Entry) (e : Entry) → gained row0 row1 h ≡ x ++ e ∷ y → is_of job e ≡ true
      its_front h = front_jobs job (gained row0 row2 h) (gained row0 row1 h) (gained row1 row2 h) (gain h) (each h)

      its_back : (h : ℕ) (x y : List Entry) (e : Entry) → gained row1 row2 h ≡ x ++ e ∷ y → is_of job e ≡ true
      its_back h x y e at = each h (gained row0 row1 h ++ x) y e (gain h ∙ (ap (λ l. gained row0 row1 h ++ l) at ∙ sym (append_assoc (gained row0 row1 h) x (e ∷ y))))

      front_section : IsOfJobs job 1 (section_of k0 k1)
      front_section = record {
        groups = λ h x y e at. its.groups h x (y ++ gained row1 row2 h) e (gain h ∙ (ap (λ l. l ++ gained row1 row2 h) at ∙ append_assoc x (e ∷ y) (gained row1 row2 h)));
        index = λ x y e at. absurd (let z = sym (ap (λ v. added (view_at i 0) (view_at v 0)) same ∙ drop-length (view_at i 0).seen) ∙ at in none_in x y e z);
      }
        where
          none_in : {X : Type 0} (x y : List X) (e : X) → [] ≡ x ++ e ∷ y → ⊥
          none_in [] y e z = cc z
          none_in (k ∷ x) y e z = cc z

      here : HasBegun s job from to g c (section_of k0 k1)
      here = has parts.0 s set front_section

      own_front : (h : ℕ) → own job (gained row0 row1 h) ≡ gained row0 row1 h
      own_front h = own_each job (gained row0 row1 h) (its_front h)

      own_back : (h : ℕ) → own job (gained row1 row2 h) ≡ gained row1 row2 h
      own_back h = own_each job (gained row1 row2 h) (its_back h)

      one_begun : (h : ℕ) → (gained row0 row1 h ≡ []) ⊎ (gained row0 row1 h ≡ entry.MoveBegin job c to ∷ [])
      one_begun h = ⊎_elim
          (λ (e : h ≡ g). subst (λ k. (gained row0 row1 k ≡ []) ⊎ (gained row0 row1 k ≡ entry.MoveBegin job c to ∷ [])) (sym e) (⊎_elim
          (λ (b : MayBegin s (seen_in row0) from to g c × (own job (gained row0 row1 g) ≡ entry.MoveBegin job c to ∷ [])). inr (sym (own_front g) ∙ b.1))
          (λ (b : MayGoOn s (seen_in row0) from to g c × (own job (gained row0 row1 g) ≡ [])). inl (sym (own_front g) ∙ b.1))
          here.begins))
          (λ (ne : h ≢ g). inl (sym (own_front h) ∙ here.only.0 h ne))
          (cases_eq h g)

      abbrev halves : MovesThenRest (section_of k0 k2)
      halves = record {
        begun = gained row0 row1;
        worked = gained row1 row2;
        parts = gain;
        begins = λ h. begins_one (gained row0 row1 h) job c to (one_begun h);
        no_more = λ h. no_begin (gained row1 row2 h) (ap (filter brings) (sym (own_back h)) ∙ moved_brings s job g c result (section_of k1 k2) row h);
        in_order = λ h. ascend_one job (gained row0 row1 h) (entry.MoveBegin job c to) (one_begun h);
      }

      befores : (λ h. seen_in row0 h ++ gained row0 row1 h) ≡ seen_in row1
      befores = fun_ext (λ h. sym (grows h))

      whole : section_of k1 k2 ≡ work_of (section_of k0 k2) halves
      whole = λ n. record {
        before = sym befores n;
        added = gained row1 row2;
        index_before = ap (λ v. (view_at v 0).seen) same n;
        index_added = ap (λ v. added (view_at v 0) (view_at i2 0)) same n;
      }

      at_check : (λ h. seen_in row0 h ++ filter (λ e. nat_lt (job_of e) job) (gained row0 row1 h)) ≡ seen_in row0
      at_check = none_before (seen_in row0) (gained row0 row1) job its_front

      began : BeginsMove s (seen_in row0) (gained row0 row1) job from to g c
      began = ⊎_elim
          (λ (b : MayBegin s (seen_in row0) from to g c × (own job (gained row0 row1 g) ≡ entry.MoveBegin job c to ∷ [])). inl (subst (λ logs. MayBegin s logs from to g c) (sym at_check) b.0, b.1))
          (λ (b : MayGoOn s (seen_in row0) from to g c × (own job (gained row0 row1 g) ≡ [])). inr (subst (λ logs. MayGoOn s logs from to g c) (sym at_check) b.0, b.1))
          here.begins

      pub both_says : (h : MovesThenRest (section_of k0 k2)) × IsMigrateReply s (section_of k0 k2).before h.begun job from to (move_reply from to result) (work_of (section_of k0 k2) h)
      both_says = (
        halves,
        subst (λ w. IsMigrateReply s (seen_in row0) (gained row0 row1) job from to (move_reply from to result) w) whole
            (moved_reply s (seen_in row0) (gained row0 row1) job from to g c (section_of k1 k2) began here.only.0 (ap (filter brings) (sym (own_back g)) ∙ moved_brings s job g c result (section_of k1 k2) row g)
            (subst (λ logs. IsSome (moving_at s logs g c)) befores here.moves) result row),
      )

-- The answer to a line that began no move: it is judged on all that the section has.
pub unbegun_answer : (s : Setting) (job from to : ℕ) (answer : Result Reply Unanswered) (w : Section) → Unbegins s job from to answer w
    → MatchResult answer (λ reply. IsOfJobs job 1 w → (h : MovesThenRest w) × IsMigrateReply s w.before h.begun job from to reply (work_of w h)) (λ e. IsSilent (mine job w))
unbegun_answer s job from to (Err e) w silent = silent
unbegun_answer s job from to (Ok reply) w begins = λ its.
    let row = begins its in
    let h : MovesThenRest w = record {
      begun = λ g. [];
      worked = w.added;
      parts = λ g. refl;
      begins = λ g e (k, lt, at). absurd (omega (arith, lt));
      no_more = λ g. ap (filter is_move_begin) (sym (own_all job (w.added g) (its.groups g)) ∙ row.1.0 g);
      in_order = λ g. tt;
    } in
    let unchanged : checked w.before (λ g. []) job ≡ w.before = fun_ext (λ g. append-nil (w.before g)) in
    (h, unbegun_row s w.before (λ g. []) job from to (work_of w h) row.1 (λ g. refl) reply (subst (λ logs. IsUnbegun s logs from to reply) (sym unchanged) row.0))
