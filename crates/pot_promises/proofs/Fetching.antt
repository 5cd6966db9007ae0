-- What a fetch answers of a file that was stored.
use Rattle.std.proofs.Common.{◌≡◌, ◌<◌, ◌≤◌, ℕ, ◌+◌, true, false, List, [], ◌∷◌, ◌++◌, Some, length, refl, ap, sym, ◌∙◌, subst, arith, append_assoc, length-append, IsTrue, inl, ◌*◌}
use Rattle.std.specs.Prelude.{Contains, slice_get}
use Rattle.std.specs.List.{AllByRecursion}
use Rattle.std.proofs.lemmas.List.Elements.{Contains-append_left}
use Rattle.pot_bytes.specs.Digests.{digest_of}
use Rattle.pot_bytes.specs.Rack.{log_bound}
use Rattle.pot_bytes.specs.declared.digest.Digest.{Digest}
use Rattle.pot_bytes.proofs.Elements.{element_at, parted_at}
use Rattle.pot_outside.specs.Accounts.{Transition}
use Rattle.pot_outside.specs.Rooms.{RoomState}
use Rattle.pot_pointer.proofs.FilterLemmas.{Contains-filter}
use Rattle.pot_machine.specs.declared.entry.Entry.{Entry}
use Rattle.pot_index.specs.declared.entry.IndexEntry.TheVariants.{Find, Publish}
use Rattle.pot_index.specs.declared.entry.Logged.{Logged}
use Rattle.pot_index.specs.declared.record.Record.{Record}
use Rattle.pot_index.specs.Entries.{bringing, is_of, plain}
use Rattle.pot_index.specs.Index.{Names, ReplaysIndex}
use Rattle.pot_index.specs.Records.{mark_of}
use Rattle.pot_index.proofs.IndexLemmas.{record_published}
use Rattle.pot_index.proofs.NameLemmas.{contains_here}
use Rattle.pot_index.proofs.NamesKept.{replay_keeps, went_on}
use Rattle.pot_script.specs.declared.command.Command.TheVariants as commands
use Rattle.pot_script.specs.declared.grouping.Step.{Step}
use Rattle.pot_script.specs.declared.reply.Reply.{Reply}
use Rattle.pot_script.specs.declared.reply.Reply.TheVariants as replies
use Rattle.pot_script.specs.Steps.{IsWholeStep}
use Rattle.pot_image.specs.Images.{Contents}
use Rattle.pot_image.specs.Rules.{FitsTogether}
use Rattle.pot_replies.specs.Digests.{NoTwoAlike}
use Rattle.pot_replies.specs.Fetches.{Found, IsFetchLogFull}
use Rattle.pot_replies.specs.Sections.{Section, FollowsSection, MovesThenRest, mine, work_of}
use Rattle.pot_replies.specs.Sessions.{Replied}
use Rattle.pot_replies.specs.Settings.{Setting}
use Rattle.pot_store.proofs.FitLemmas.{fragment_within, point_within}
use Rattle.pot_commands.specs.Rows.{IsFetchReply, Row}
use Rattle.pot_commands.specs.Steps.{steps_of}
use Rattle.pot_session.specs.Losses.{BeginWith}
use Rattle.pot_session.specs.Serving.{Leaves, setting_of}
use Rattle.pot_promises.specs.Answers.{IsAnswered, job_at}
use Rattle.pot_promises.specs.Chains.{IsSession}
use Rattle.pot_promises.specs.Fetched.{Before, FetchAnswers, HasPlaceIn, Here, IsGroupLogFull, SaysOf, WasStored, blocks_put}
use Rattle.pot_promises.specs.Odds.{WasOdd}
use Rattle.pot_promises.proofs.Faulting.{faults_are_counted}
use Rattle.pot_promises.proofs.Giving.{first_names, led, names_of, published_in, same_text, stored_keeps, transition}
use Rattle.pot_promises.proofs.Keeping.{Has, found_digest, published_has, still_has}
use Rattle.pot_promises.proofs.Losing.{found_fits, stands_in, swaps_at, worked_swaps}
use Rattle.pot_promises.proofs.Odds.{odd_reads}
use Rattle.pot_promises.proofs.OddsLater.{never_odd_later, never_odd_once}
use Rattle.pot_promises.proofs.OwnGroups.{few_can_be_had, group_within}
use Rattle.pot_promises.proofs.Running.{all_lead}
use Rattle.pot_promises.proofs.Walking.{HasRow, IsCut, behind_at, cut_at, row_at}

module _ (seed : List ℕ) (first last : Contents) (room : Transition RoomState) (missing : List ℕ) (story : Section) (fits : FitsTogether first) (leaves : Leaves room missing first last story)
    (ss : List Step) (rs : List Reply) (done later : Section) (follows : FollowsSection done later story) (replied : Replied (Row (setting_of seed first)) 1 (steps_of ss) rs done)
    (whole : AllByRecursion (IsWholeStep first.rack) ss) (q j : ℕ) (name file : List ℕ) (was : WasStored name file first ss rs q) where
  abbrev s : Setting
  s = setting_of seed first

  abbrev job : ℕ
  job = job_at ss q j

  abbrev session : IsSession seed first last ss rs
  session = record {
    fits = fits;
    story = story;
    opened = leaves.index_opened;
    rack = leaves.rack;
    records = leaves.records;
    groups = all_lead room missing first last story leaves;
    done = done;
    later = later;
    follows = follows;
    replied = replied;
  }

  -- whatever came before the step and in it, the name has a record of the file's digest
  abbrev IsKept : Section → Type 0
  IsKept one = (cut : IsCut one done) × ((rest : List Logged) (n : Names) → ReplaysIndex first.rack (names_of first) (cut.index_earlier ++ rest) n → Has n name (digest_of file))

  kept_by : WasStored name file first ss rs q → (one : Section) → slice_get replied.ones q ≡ Some one → IsKept one
  kept_by (Here p i of pieces shards lt stored) one there =
      let put = row_at s ss replied.ones rs p i (commands.Store name file) (replies.Stored of pieces shards) replied.answers refl stored in
      let its = put.row.1.1 in
      let behind = behind_at ss 1 replied.ones done p q put.one one lt replied.are put.there there in
      let entry : Logged = bringing (Publish (job_at ss p i) name (mark_of its.kept)) its.kept in (
        behind.cut,
        λ rest n rep.
            (let has = published_has first.rack (names_of first) n (behind.cut.index_earlier ++ rest) (job_at ss p i) name (mark_of its.kept) its.kept (first_names first fits) rep
            (Contains-append_left behind.cut.index_earlier rest entry (behind.index_has entry (published_in s (job_at ss p i) name file pieces shards put.one put.halves its))) in
            record { its = has.its; there = has.there; named = has.named; digest = has.digest ∙ its.is_record.digest }),
      )
  kept_by (Before seed0 begun0 last0 left steps said session0 p i of pieces shards stored between begins) one there =
      let keeps = stored_keeps seed0 begun0 last0 steps said session0 p i name file of pieces shards stored left first between begins in
      let cut = cut_at ss 1 replied.ones done q one replied.are there in
      (cut, λ rest n rep. still_has first.rack (names_of first) n (cut.index_earlier ++ rest) name (digest_of file) keeps.names rep keeps.has)

  -- of a file that nothing renewed it is never odd
  never_odd_of : (was : WasStored name file first ss rs q) (read : List (List ℕ)) (wanted got : Digest) (odd : WasOdd read seed first ss replied.ones q j name wanted got)
      → odd.odd.kept.older ≡ [] → NoTwoAlike (blocks_put seed name file first ss rs q was ++ read) → ⊥
  never_odd_of (Here p i of pieces shards lt stored) read wanted got odd once alike =
      never_odd_once seed first last ss rs session p i q j lt name file of pieces shards stored read wanted got odd once alike
  never_odd_of (Before seed0 begun0 last0 left steps said session0 p i of pieces shards stored between begins) read wanted got odd once alike =
      never_odd_later seed0 begun0 last0 steps said session0 p i name file of pieces shards stored left between seed first last ss rs begins session q j read wanted got odd once alike

  module _ (one : Section) (there : slice_get replied.ones q ≡ Some one) (halves : MovesThenRest one) where
    abbrev w : Section
    w = work_of one halves

    kept : IsKept one
    kept = kept_by was one there

    stands : BeginWith w last.group_logs
    stands = stands_in seed first last room missing story fits leaves done later follows one halves kept.0

    -- what is found has the digest of the file
    digest_found : (r : Record) → Found s job name r w → r.digest ≡ digest_of file
    digest_found r found =
        let it = led seed first last ss rs session in
        let met = transition s done one halves job name r (names_of first) it.sofar kept.0 found it.begins it.to in
        let log : List Logged = kept.0.index_earlier ++ found.sofar in
        found_digest first.rack met.now name (digest_of file) r (replay_keeps first.rack (names_of first) met.now log (first_names first fits) met.to) (kept.1 found.sofar met.now met.to) met.is

    -- and something is found
    not_absent : (mine job w).index ≡ plain (Find job name false) ∷ [] → ⊥
    not_absent is =
        let it = led seed first last ss rs session in
        let entry : Logged = plain (Find job name false) in
        let has : Contains one.index_added entry = ((Contains-filter (is_of job) one.index_added entry).0 (subst (λ l. Contains l entry) (sym is) (contains_here entry []))).0 in
        let parts = parted_at one.index_added entry has in
        let front : List Logged = kept.0.index_earlier ++ parts.0 in
        let back : List Logged = entry ∷ (parts.1 ++ kept.0.index_later) in
        let all : done.index_added ≡ front ++ back =
        kept.0.index_added
        ∙ (ap (λ l. kept.0.index_earlier ++ (l ++ kept.0.index_later)) parts.2
        ∙ (ap (λ l. kept.0.index_earlier ++ l) (append_assoc parts.0 (entry ∷ parts.1) kept.0.index_later) ∙ sym (append_assoc kept.0.index_earlier parts.0 back))) in
        let cut = went_on first.rack (names_of first) it.sofar front back (subst (λ l. ReplaysIndex first.rack (names_of first) l it.sofar) all it.to) in
        let no : false ≡ true = cut.2.0.1 (let has = kept.1 parts.0 cut.0 cut.1 in record_published cut.0 name has.its (has.there, has.named)) in
        cc no

    -- a log that was full once is so at the end
    full : (group : ℕ) → IsFetchLogFull s job name group w → IsGroupLogFull last group
    full group row =
        let r : Record = row.kept in
        let room_is = found_fits seed first last room missing story fits leaves done later follows job name r one halves kept.0 row.found in
        let b : ℕ = (row.piece * r.geometry.fragments + row.fragment) * r.geometry.shards + row.point in
        let within : b < length r.places =
        point_within first.rack r room_is (row.piece * r.geometry.fragments + row.fragment) row.point (fragment_within first.rack r room_is row.piece row.fragment row.short.in_pieces row.short.in_fragments) row.unseen.0 in
        let g_lt : group < first.rack.groups = subst (λ g. g < first.rack.groups) (sym row.group_is) (group_within first.rack r room_is b within) in
        let log = element_at last.group_logs group (let n = fits.tables.count in let m = leaves.groups.count_logs in omega (arith, g_lt, n, m)) in
        let read = element_at first.tables group (let n = fits.tables.count in omega (arith, g_lt, n)) in
        let written = element_at last.tables group (let n = fits.tables.count in let m = leaves.groups.count in omega (arith, g_lt, n, m)) in
        let left = leaves.groups.each group read.0 written.0 log.0 read.1 written.1 log.1 in
        let bound : length log.0 ≤ log_bound = subst (λ (l : List Entry). length l ≤ log_bound) left.is_log left.settled.bound in
        let more = stands group log.0 log.1 in
        let long : length log.0 ≡ length (w.before group) + (length row.moment.sofar + length row.moment.later) + length more.0 =
        ap (length {A = Entry}) more.1
        ∙ (length-append (w.before group ++ w.added group) more.0
        ∙ ap (λ n. n + length more.0) (length-append (w.before group) (w.added group) ∙ ap (λ n. length (w.before group) + n) (ap (length {A = Entry}) row.moment.parts ∙ length-append row.moment.sofar row.moment.later))) in
        let then : length row.log ≡ length (w.before group) + length row.moment.sofar = ap (length {A = Entry}) row.moment.is ∙ length-append (w.before group) row.moment.sofar in
        let was_full = row.full in
        (log.0, log.1, omega (arith, bound, long, then, was_full))

    says : (r : Reply) → IsAnswered first.rack ss rs q j (commands.Fetch name) r → IsFetchReply s job name r w
        → SaysOf seed first last room missing ss replied.ones q j name file (blocks_put seed name file first ss rs q was) w r
    says (replies.File given bytes) answered row = λ alike. same_text file bytes alike (row.1.digest ∙ digest_found row.1.kept row.1.found)
    says (replies.Absent given) answered row = not_absent row.1.index
    says (replies.Lost given piece fragment have need) answered row =
        let lost = row.1.2 in
        record {
          number = row.1.0;
          numbered = row.1.1;
          lost = lost;
          few = λ safe.
              few_can_be_had (IsTrue room.tells) seed first last room.before.means room.after.means missing safe.tells fits leaves.groups (HasPlaceIn lost.kept)
              (λ g t log own at is_log n had. safe.none_lost g t log own at is_log n had) job name piece row.1.0 have need w (omega arith) stands
              (worked_swaps one halves (swaps_at s ss 1 replied.ones rs done q j answered.step (commands.Fetch name) name one (omega arith) replied.are replied.answers whole answered.there answered.command (inl refl) there)) lost
              (found_fits seed first last room missing story fits leaves done later follows job name lost.kept one halves kept.0 lost.found) (λ p h. (p, h, refl));
        }
    says (replies.Odd given wanted got) answered row =
        let read = odd_reads seed first last ss rs session q j name given wanted got answered in
        (row.1.wanted_is ∙ digest_found row.1.kept row.1.found, (read.0, read.1, never_odd_of was read.0 wanted got read.1))
    says (replies.Fault group column) answered row = λ told read log at is_log.
        faults_are_counted seed first last room missing story fits told leaves ss rs done later follows replied q j (commands.Fetch name) group column answered read log at is_log
    says (replies.LogFull group) answered row = full group row
    says replies.IndexLogFull answered row = row
    says _ answered row = absurd row

pub fetch_answers : FetchAnswers
fetch_answers seed first last room missing story fits leaves ss rs done later follows replied whole q j name file was r answered =
    let row : HasRow (setting_of seed first) replied.ones q (job_at ss q j) (commands.Fetch name) r = row_at (setting_of seed first) ss replied.ones rs q j (commands.Fetch name) r replied.answers refl answered in (
      work_of row.one row.halves,
      stands seed first last room missing story fits leaves ss rs done later follows replied whole q j name file was row.one row.there row.halves,
      says seed first last room missing story fits leaves ss rs done later follows replied whole q j name file was row.one row.there row.halves r answered row.row.1,
    )
