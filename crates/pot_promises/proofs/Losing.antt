-- A reply `lost` comes where too few points of a fragment can be had.
use Rattle.std.proofs.Common.{◌≡◌, inl, inr, ◌+◌, ◌-◌, ◌<◌, ◌≤◌, ℕ, zero, suc, true, false, List, [], ◌∷◌, ◌++◌, Some, refl, ap, sym, ◌∙◌, subst, arith, append_assoc, IsTrue}
use Rattle.std.specs.Prelude.{Contains, filter, slice_get}
use Rattle.std.specs.List.{AllByRecursion}
use Rattle.std.proofs.lemmas.Bool.{cases_eq, eq-eqb}
use Rattle.std.proofs.lemmas.List.Elements.{All-contains, Contains-append_cases, Contains-append_right}
use Rattle.std.proofs.lemmas.Option.{same_Some}
use Rattle.pot_bytes.specs.declared.rack.Rack.{Rack}
use Rattle.pot_bytes.proofs.Elements.{element_at, none_contained, parted_at}
use Rattle.pot_outside.specs.Accounts.{Transition}
use Rattle.pot_outside.specs.Rooms.{RoomState}
use Rattle.pot_pointer.proofs.FilterLemmas.{Contains-filter}
use Rattle.pot_machine.specs.declared.entry.Entry.{Entry}
use Rattle.pot_machine.specs.declared.entry.Entry.TheVariants as entry
use Rattle.pot_machine.specs.Logs.{is_of, job_of, own}
use Rattle.pot_index.proofs.NamesKept.{replay_keeps, went_on}
use Rattle.pot_index.specs.declared.record.Record.{Record}
use Rattle.pot_index.specs.Fits.{FitsRack}
use Rattle.pot_index.specs.Index.{AreNames, ReplaysIndex}
use Rattle.pot_script.specs.declared.command.Command.{Command}
use Rattle.pot_script.specs.declared.command.Command.TheVariants as commands
use Rattle.pot_script.specs.declared.grouping.Step.{Step}
use Rattle.pot_script.specs.declared.grouping.Step.TheVariants as steps
use Rattle.pot_script.specs.declared.reply.Reply.{Reply}
use Rattle.pot_script.specs.declared.reply.Reply.TheVariants as replies
use Rattle.pot_script.specs.Steps.{IsJobLine, IsWholeStep}
use Rattle.pot_image.specs.Images.{Contents}
use Rattle.pot_image.specs.Rules.{FitsTogether}
use Rattle.pot_replies.specs.Fetches.{Found, IsLost}
use Rattle.pot_replies.specs.Jobs.{EachIs, is_move_begin, is_move_of}
use Rattle.pot_replies.specs.Sections.{Section, MovesThenRest, JobEntries, FollowsSection, IsOfJobs, IsOnlyIn, mine, names_after, work_of}
use Rattle.pot_replies.specs.Sessions.{AreSections, Answered, Answers, Rows, jobs_in}
use Rattle.pot_replies.specs.Settings.{Setting}
use Rattle.pot_commands.specs.Rows.{Row, IsMigrateReply}
use Rattle.pot_commands.specs.Steps.{step_of, steps_of}
use Rattle.pot_commands.proofs.NoMoves.{brings, no_moves, not_among}
use Rattle.pot_session.specs.Losses.{BeginWith, SwapsNone, is_swap}
use Rattle.pot_session.specs.Serving.{Leaves, setting_of}
use Rattle.pot_promises.specs.Answers.{CommandStandsAt, count_replies, job_at}
use Rattle.pot_promises.specs.Lost.{Fetches, LostIsFew}
use Rattle.pot_promises.proofs.Giving.{first_names, transition, names_of}
use Rattle.pot_promises.proofs.OwnGroups.{all_among, few_can_be_had}
use Rattle.pot_promises.proofs.Walking.{HasRow, IsCut, cut_at, row_at}

-- ENTRIES THAT SWAP NO ARCHIVE

abbrev Swapless : List Entry → Type 0
Swapless es = (e : Entry) → Contains es e → is_swap e ≡ false

not_brought : (e : Entry) → brings e ≡ false → is_swap e ≡ false
not_brought (entry.MoveBegin job c to) is = absurd (cc is)
not_brought (entry.Swapped job c to) is = absurd (cc is)
not_brought _ is = refl

not_begun : (e : Entry) → is_move_begin e ≡ true → is_swap e ≡ false
not_begun (entry.MoveBegin job c to) is = refl
not_begun (entry.Swapped job c to) is = absurd (cc is)
not_begun _ is = refl

not_moved : (c : ℕ) (e : Entry) → is_move_of c e ≡ true → is_swap e ≡ false
not_moved c (entry.Swapped job k to) is = absurd (cc is)
not_moved c _ is = refl

swapless_none : (es : List Entry) → es ≡ [] → Swapless es
swapless_none es is e has = absurd (none_contained e (subst (λ l. Contains l e) is has))

swapless_moves : (c : ℕ) (es : List Entry) → EachIs (is_move_of c) es → Swapless es
swapless_moves c es each e has = not_moved c e (each e has)

-- what a job logged in one group, and nothing in any other
swapless_in : (m : JobEntries) (group : ℕ) → IsOnlyIn group m → Swapless (m.own group) → (g : ℕ) → Swapless (m.own g)
swapless_in m group only here g = elim (cases_eq g group) [
  | inl same ↦ subst (λ n. Swapless (m.own n)) (sym same) here
  | inr apart ↦ swapless_none (m.own g) (only.0 g apart)
]

swapless_fault : (c job stripe column : ℕ) (es sofar : List Entry) → es ≡ sofar ++ entry.Fault job stripe column ∷ [] → EachIs (is_move_of c) sofar → Swapless es
swapless_fault c job stripe column es sofar is each e has =
    elim (Contains-append_cases sofar (entry.Fault job stripe column ∷ []) e (subst (λ l. Contains l e) is has)) [
      | inl front ↦ not_moved c e (each e front)
      | inr (zero, lt, same) ↦ ap is_swap (sym same)
      | inr (suc k, lt, same) ↦ absurd (omega (arith, lt))
    ]

counted_from : (from job : ℕ) → from ≤ job → (n : ℕ) × (from + n ≡ job)
counted_from from job le = (job - from, omega (arith, le))

-- THOSE OF A STEP OF A SCRIPT

module _ (s : Setting) where
  migrate_swaps : (before begun : ℕ → List Entry) (job from to : ℕ) (r : Reply) (w : Section) → IsMigrateReply s before begun job from to r w → (g : ℕ) → Swapless (own job (w.added g))
  migrate_swaps before begun job from to (replies.Migrated old new slots) w row g =
      swapless_in (mine job w) row.2.group row.2.only (swapless_moves row.2.column _ row.2.moves) g
  migrate_swaps before begun job from to (replies.NoArchive number) w row g = swapless_none _ (row.1.2.0 g)
  migrate_swaps before begun job from to (replies.InUse number) w row g = swapless_none _ (row.2.0 g)
  migrate_swaps before begun job from to (replies.Fault group column) w row g =
      swapless_in (mine job w) group row.only (swapless_fault column job row.stripe column _ row.sofar row.own_is row.moves) g
  migrate_swaps before begun job from to (replies.LogFull group) w (inl row) g = swapless_none _ (row.silent.0 g)
  migrate_swaps before begun job from to (replies.LogFull group) w (inr row) g = swapless_in (mine job w) group row.only (swapless_moves row.column _ row.moves) g
  migrate_swaps before begun job from to _ w row g = absurd row

  brought_none : (es : List Entry) → filter brings es ≡ [] → Swapless es
  brought_none es none e has = not_brought e (not_among brings es none e has)

  -- the line of a batch
  line_swaps : (job : ℕ) (c : Command) (r : Reply) (w : Section) (h : MovesThenRest w) → IsJobLine s.rack c → Row s job c (r ∷ []) w h → (g : ℕ) → Swapless (own job (h.worked g))
  line_swaps job (commands.Store name file) r w h line row g = brought_none _ (no_moves s job (commands.Store name file) (r ∷ []) (work_of w h) refl row.1 g)
  line_swaps job (commands.Fetch name) r w h line row g = brought_none _ (no_moves s job (commands.Fetch name) (r ∷ []) (work_of w h) refl row.1 g)
  line_swaps job (commands.Renew name geometry) r w h line row g = brought_none _ (no_moves s job (commands.Renew name geometry) (r ∷ []) (work_of w h) refl row.1 g)
  line_swaps job (commands.Scrub group) r w h line row g = brought_none _ (no_moves s job (commands.Scrub group) (r ∷ []) (work_of w h) refl row.1 g)
  line_swaps job (commands.Repair group) r w h line row g = brought_none _ (no_moves s job (commands.Repair group) (r ∷ []) (work_of w h) refl row.1 g)
  line_swaps job (commands.Migrate from to) r w h line row g = migrate_swaps w.before h.begun job from to r (work_of w h) row g
  line_swaps job _ r w h line row g = absurd (let no = line.0 in cc no)

  -- each line has a row
  rows_at : (lines : List Command) (job i : ℕ) (now : List Reply) (w : Section) (h : MovesThenRest w) (l : Command) → Rows (Row s) job lines now w h → AllByRecursion (IsJobLine s.rack) lines
      → slice_get lines i ≡ Some l → IsJobLine s.rack l × ((r : Reply) × Row s (job + i) l (r ∷ []) w h)
  rows_at [] job i now w h l rows each at = absurd (cc at)
  rows_at (x ∷ lines) job zero now w h l (r, more, is, row, rest) each at =
      subst (λ d. IsJobLine s.rack d × ((r : Reply) × Row s (job + 0) d (r ∷ []) w h)) (same_Some x l at)
      (each.0, (r, subst (λ j. Row s j x (r ∷ []) w h) (let e : job ≡ job + 0 = omega arith in e) row))
  rows_at (x ∷ lines) job (suc i) now w h l (r, more, is, row, rest) each at =
      let it = rows_at lines (suc job) i more w h l rest each.1 at in
      (it.0, (it.1.0, subst (λ j. Row s j l (it.1.0 ∷ []) w h) (let e : suc job + i ≡ job + suc i = omega arith in e) it.1.1))

  -- what a job of a step logged as its work; a step alone fetches or renews
  job_swaps : (d : Step) (from i : ℕ) (c : Command) (name : List ℕ) (now : List Reply) (w : Section) (h : MovesThenRest w) → IsWholeStep s.rack d → CommandStandsAt d i c → Fetches name c
      → Answered (Row s) from (step_of d) now w h → (n : ℕ) → n < jobs_in (step_of d) → (g : ℕ) → Swapless (own (from + n) (h.worked g))
  job_swaps (steps.One x) from i c name now w h whole (none, same) fetches row n lt g =
      subst (λ j. Swapless (own j (h.worked g))) (let e : from ≡ from + n = omega (arith, lt) in e) (by fetches)
    where
      by : Fetches name c → Swapless (own from (h.worked g))
      by (inl is) =
          let its : Row s from (commands.Fetch name) now w h = subst (λ y. Row s from y now w h) (same ∙ is) row in
          brought_none _ (no_moves s from (commands.Fetch name) now (work_of w h) refl its.1 g)
      by (inr (geometry, is)) =
          let its : Row s from (commands.Renew name geometry) now w h = subst (λ y. Row s from y now w h) (same ∙ is) row in
          brought_none _ (no_moves s from (commands.Renew name geometry) now (work_of w h) refl its.1 g)
  job_swaps (steps.Together lines) from i c name now w h whole stands fetches rows n lt g =
      let line = element_at lines n lt in
      let it = rows_at lines from n now w h line.0 rows whole.2 line.1 in
      line_swaps (from + n) line.0 it.1.0 w h it.0 it.1.1 g

  -- what a step logged is of its jobs, and swaps no archive
  step_swaps : (d : Step) (from i : ℕ) (c : Command) (name : List ℕ) (now : List Reply) (w : Section) (h : MovesThenRest w) → IsWholeStep s.rack d → CommandStandsAt d i c → Fetches name c
      → 0 < from → IsOfJobs from (jobs_in (step_of d)) w → Answered (Row s) from (step_of d) now w h → SwapsNone w
  step_swaps d from i c name now w h whole stands fetches some its row g e has =
      let parts = parted_at (w.added g) e has in
      let among = its.groups g parts.0 parts.1 e parts.2 in
      let at = counted_from from (job_of e) among.0 in (
        (let a = among.0 in omega (arith, some, a)),
        elim (Contains-append_cases (h.begun g) (h.worked g) e (subst (λ l. Contains l e) (h.parts g) has)) [
          | inl begun ↦ not_begun e (h.begins g e begun)
          | inr worked ↦ job_swaps d from i c name now w h whole stands fetches row at.0 (let a = at.1 in let b = among.1 in omega (arith, a, b)) g e
              ((Contains-filter (is_of (from + at.0)) (h.worked g) e).1 (worked, eq-eqb (job_of e) (from + at.0) (sym at.1)))
        ],
      )

  -- so it is of the step of a place
  pub swaps_at : (ss : List Step) (job : ℕ) (ones : List Section) (rs : List Reply) (w : Section) (k i : ℕ) (d : Step) (c : Command) (name : List ℕ) (one : Section) → 0 < job
      → AreSections job (steps_of ss) ones w → Answers (Row s) job (steps_of ss) ones rs → AllByRecursion (IsWholeStep s.rack) ss
      → slice_get ss k ≡ Some d → CommandStandsAt d i c → Fetches name c → slice_get ones k ≡ Some one → SwapsNone one
  swaps_at [] job ones rs w k i d c name one some are answers whole there stands fetches at = absurd (cc there)
  swaps_at (x ∷ ss) job [] rs w k i d c name one some are answers whole there stands fetches at = absurd are
  swaps_at (x ∷ ss) job (o ∷ os) rs w zero i d c name one some (rest, follows, its, more) (h, now, later, is, row, behind) whole there stands fetches at =
      subst (λ z. SwapsNone z) (same_Some o one at)
      (step_swaps x job i c name now o h whole.0 (subst (λ y. CommandStandsAt y i c) (sym (same_Some x d there)) stands) fetches some its row)
  swaps_at (x ∷ ss) job (o ∷ os) rs w (suc k) i d c name one some (rest, follows, its, more) (h, now, later, is, row, behind) whole there stands fetches at =
      swaps_at ss (job + jobs_in (step_of x)) os later rest k i d c name one (omega (arith, some)) more behind whole.1 there stands fetches at

-- WHERE THE WORK OF A STEP STANDS

parted : (a b c d e f : List Entry) → a ++ ((b ++ ((c ++ d) ++ e)) ++ f) ≡ (((a ++ b) ++ c) ++ d) ++ (e ++ f)
parted a b c d e f =
    ap (λ l. a ++ l) (append_assoc b ((c ++ d) ++ e) f ∙ ap (λ l. b ++ l) (append_assoc (c ++ d) e f ∙ append_assoc c d (e ++ f)))
    ∙ sym (append_assoc ((a ++ b) ++ c) d (e ++ f) ∙ (append_assoc (a ++ b) c (d ++ (e ++ f)) ∙ append_assoc a b (c ++ (d ++ (e ++ f)))))

pub worked_swaps : (one : Section) (h : MovesThenRest one) → SwapsNone one → SwapsNone (work_of one h)
worked_swaps one h swaps g e has = swaps g e (subst (λ l. Contains l e) (sym (h.parts g)) (Contains-append_right (h.begun g) (h.worked g) e has))

module _ (seed : List ℕ) (first last : Contents) (room : Transition RoomState) (missing : List ℕ) (story : Section) (fits : FitsTogether first) (leaves : Leaves room missing first last story)
    (done later : Section) (follows : FollowsSection done later story) where
  abbrev s : Setting
  s = setting_of seed first

  pub stands_in : (one : Section) (h : MovesThenRest one) → IsCut one done → BeginWith (work_of one h) last.group_logs
  stands_in one h cut g log is_log = (
    cut.later g ++ later.added g,
    leaves.logs g log is_log
        ∙ (ap (λ l. story.before g ++ l) (follows.is_added g ∙ ap (λ l. l ++ later.added g) (cut.added g ∙ ap (λ l. cut.earlier g ++ (l ++ cut.later g)) (h.parts g)))
        ∙ (parted (story.before g) (cut.earlier g) (h.begun g) (h.worked g) (cut.later g) (later.added g)
        ∙ ap (λ l. ((l ++ h.begun g) ++ h.worked g) ++ (cut.later g ++ later.added g)) (sym (cut.before g ∙ ap (λ l. l ++ cut.earlier g) (follows.begins g))))),
  )

  -- the record that was found has room in the rack
  pub found_fits : (job : ℕ) (name : List ℕ) (kept : Record) (one : Section) (h : MovesThenRest one) → IsCut one done → Found s job name kept (work_of one h) → FitsRack first.rack kept
  found_fits job name kept one h cut was =
      let parts = went_on first.rack (names_of first) leaves.records.ended done.index_added later.index_added
      (subst (λ l. ReplaysIndex first.rack (names_of first) l leaves.records.ended) follows.index_is_added leaves.records.replays) in
      let found = transition s done one h job name kept (names_of first) parts.0 cut was
      (ap (names_after (names_of first)) (follows.index_begins ∙ leaves.index_opened)) parts.1 in
      let names : AreNames first.rack found.now = replay_keeps first.rack (names_of first) found.now (cut.index_earlier ++ was.sofar) (first_names first fits) found.to in
      All-contains (FitsRack first.rack) found.now.published kept names.fits found.is.0

one_reply : (rack : Rack) (name : List ℕ) (c : Command) → Fetches name c → count_replies rack c ≡ 1
one_reply rack name c (inl is) = ap (count_replies rack) is
one_reply rack name c (inr (geometry, is)) = ap (count_replies rack) is

lost_row : (s : Setting) (job : ℕ) (name of : List ℕ) (c : Command) (piece fragment have need : ℕ) (w : Section) (h : MovesThenRest w) → Fetches name c → Row s job c (replies.Lost of piece fragment have need ∷ []) w h
    → (j : ℕ) × (fragment ≡ suc j) × IsLost s job name piece j have need (work_of w h)
lost_row s job name of c piece fragment have need w h (inl is) row =
    let its : Row s job (commands.Fetch name) (replies.Lost of piece fragment have need ∷ []) w h = subst (λ d. Row s job d (replies.Lost of piece fragment have need ∷ []) w h) is row in
    its.1.1
lost_row s job name of c piece fragment have need w h (inr (geometry, is)) row =
    let its : Row s job (commands.Renew name geometry) (replies.Lost of piece fragment have need ∷ []) w h = subst (λ d. Row s job d (replies.Lost of piece fragment have need ∷ []) w h) is row in
    its.1.1

pub lost_is_few : LostIsFew
lost_is_few seed first last room missing story fits told leaves back none ss rs done later follows replied whole k i c name of piece fragment have need fetches answered =
    let reply : Reply = replies.Lost of piece fragment have need in
    let set : Setting = setting_of seed first in
    let row : HasRow set replied.ones k (job_at ss k i) c reply = row_at set ss replied.ones rs k i c reply replied.answers (one_reply first.rack name c fetches) answered in
    let it = lost_row set (job_at ss k i) name of c piece fragment have need row.one row.halves fetches row.row in
    let cut = cut_at ss 1 replied.ones done k row.one replied.are row.there in
    let w : Section = work_of row.one row.halves in
    let stands : BeginWith w last.group_logs = stands_in seed first last room missing story fits leaves done later follows row.one row.halves cut in
    let swaps : SwapsNone row.one =
    swaps_at set ss 1 replied.ones rs done k i answered.step c name row.one (omega arith) replied.are replied.answers whole answered.there answered.command fetches row.there in
    record {
      section = w;
      stands = stands;
      number = it.0;
      numbered = it.1;
      lost = it.2;
      few = few_can_be_had (IsTrue room.tells) seed first last room.before.means room.after.means missing told fits leaves.groups (λ g. Unit {0})
          (λ g t log own at is_log n had. (let among = all_among first.tables last.group_logs g t log at is_log n had in (back n among, none n among))) (job_at ss k i) name piece it.0 have need w (omega arith) stands
          (worked_swaps row.one row.halves swaps) it.2
          (found_fits seed first last room missing story fits leaves done later follows (job_at ss k i) name it.2.kept row.one row.halves cut it.2.found) (λ p h. tt);
    }
