-- A file that was stored is what a later fetch gives.
use Rattle.std.proofs.Common.{◌≡◌, ℕ, true, List, [], ◌∷◌, ◌++◌, refl, ap, sym, ◌∙◌, subst, arith, append_assoc}
use Rattle.std.specs.Prelude.{Contains}
use Rattle.std.specs.List.{IsDistinct}
use Rattle.std.proofs.lemmas.List.Elements.{Contains-append_left, Contains-append_right}
use Rattle.pot_bytes.specs.declared.digest.Digest.{Digest}
use Rattle.pot_bytes.specs.declared.rack.Rack.{Rack}
use Rattle.pot_bytes.proofs.Elements.{contains_later}
use Rattle.pot_pointer.proofs.FilterLemmas.{Contains-filter}
use Rattle.pot_bytes.specs.Digests.{digest_of}
use Rattle.pot_index.specs.declared.entry.IndexEntry.TheVariants.{Publish, Reserve, Find}
use Rattle.pot_index.specs.declared.entry.Logged.{Logged}
use Rattle.pot_index.specs.declared.record.Record.{Record}
use Rattle.pot_index.specs.Entries.{bringing, plain, is_of}
use Rattle.pot_index.specs.Index.{Names, IsRecordOf, AreNames, ReplaysIndex, names_read, after}
use Rattle.pot_index.specs.Records.{mark_of}
use Rattle.pot_index.proofs.IndexLemmas.{started_is}
use Rattle.pot_index.proofs.NameLemmas.{contains_here}
use Rattle.pot_index.proofs.NamesKept.{replay_keeps, went_on}
use Rattle.pot_script.specs.declared.command.Command.TheVariants as commands
use Rattle.pot_script.specs.declared.grouping.Step.{Step}
use Rattle.pot_script.specs.declared.reply.Reply.{Reply}
use Rattle.pot_script.specs.declared.reply.Reply.TheVariants as replies
use Rattle.pot_image.specs.Images.{Contents}
use Rattle.pot_image.specs.Rules.{FitsTogether}
use Rattle.pot_replies.specs.Digests.{NoTwoAlike}
use Rattle.pot_replies.specs.Fetches.{FoundThen}
use Rattle.pot_replies.specs.Sections.{Section, MovesThenRest, mine, names_after, work_of}
use Rattle.pot_replies.specs.Settings.{Setting}
use Rattle.pot_replies.specs.Stores.{IsStored}
use Rattle.pot_commands.proofs.Logs.{names_to}
use Rattle.pot_session.specs.Serving.{setting_of}
use Rattle.pot_promises.specs.Answers.{IsAnswered, job_at}
use Rattle.pot_promises.specs.Chains.{IsRechecked, IsSession, BeginsFrom, Later, Same, Begun, More, FoundAgain}
use Rattle.pot_promises.specs.Promises.{GivesBack, GivesBackLater}
use Rattle.pot_promises.proofs.FindingAgain.{rack_stays, records_stay}
use Rattle.pot_promises.proofs.Keeping.{Has, still_has, published_has, found_digest}
use Rattle.pot_promises.proofs.Walking.{IsCut, row_at, cut_at, behind_at}

names_after-append : (n : Names) (xs ys : List Logged) → names_after n (xs ++ ys) ≡ names_after (names_after n xs) ys
names_after-append n [] ys = refl
names_after-append n (x ∷ xs) ys = names_after-append (after n x) xs ys

-- WHAT A FETCH FINDS

-- a log leads from some names to others, of which this is the record of the name
pub record IsMet (rack : Rack) (m : Names) (log : List Logged) (name : List ℕ) (kept : Record) : Type 0 where
  pub now : Names
  pub to : ReplaysIndex rack m log now
  pub is : IsRecordOf now name kept

module _ (s : Setting) {behind : List Logged} where
  -- a log is parted where the record was found
  pub found_at : (w one : Section) (h : MovesThenRest one) (job : ℕ) (name : List ℕ) (kept : Record) (cut : IsCut one w) (found : FoundThen behind s job name kept (work_of one h))
      → w.index_added ≡ (cut.index_earlier ++ found.sofar) ++ ((plain (Find job name true) ∷ found.later) ++ cut.index_later)
  found_at w one h job name kept cut found =
      let front : List Logged = cut.index_earlier ++ found.sofar in
      let back : List Logged = (plain (Find job name true) ∷ found.later) ++ cut.index_later in
      cut.index_added
      ∙ (ap (λ l. cut.index_earlier ++ (l ++ cut.index_later)) found.at
      ∙ (ap (λ l. cut.index_earlier ++ l) (append_assoc found.sofar (plain (Find job name true) ∷ found.later) cut.index_later)
      ∙ sym (append_assoc cut.index_earlier found.sofar back)))

  -- the record that was found is that of the name, by the log up to then
  pub transition : (w one : Section) (h : MovesThenRest one) (job : ℕ) (name : List ℕ) (kept : Record) (m n : Names) (cut : IsCut one w) (found : FoundThen behind s job name kept (work_of one h))
      → names_after (names_read s.read) w.index_before ≡ m → ReplaysIndex s.rack m w.index_added n → IsMet s.rack m (cut.index_earlier ++ found.sofar) name kept
  transition w one h job name kept m n cut found at rep =
      let front : List Logged = cut.index_earlier ++ found.sofar in
      let back : List Logged = (plain (Find job name true) ∷ found.later) ++ cut.index_later in
      let parted : w.index_added ≡ front ++ back = found_at w one h job name kept cut found in
      let parts = went_on s.rack m n front back (subst (λ l. ReplaysIndex s.rack m l n) parted rep) in
      let log : one.index_before ++ found.sofar ≡ w.index_before ++ front =
      ap (λ l. l ++ found.sofar) cut.index_before ∙ append_assoc w.index_before cut.index_earlier found.sofar in
      let to : names_after (names_read s.read) (one.index_before ++ found.sofar) ≡ parts.0 =
      ap (names_after (names_read s.read)) log
      ∙ (names_after-append (names_read s.read) w.index_before front
      ∙ (ap (λ x. names_after x front) at ∙ names_to s.rack m parts.0 front parts.1)) in
      record { now = parts.0; to = parts.1; is = subst (λ x. IsRecordOf x name kept) to found.published }

module _ (s : Setting) where
  -- the record of a store was published in the section of its step
  pub published_in : (job : ℕ) (name file : List ℕ) (pieces shards : ℕ) (one : Section) (h : MovesThenRest one) (stored : IsStored s job name file pieces shards (mine job (work_of one h)))
      → Contains one.index_added (bringing (Publish job name (mark_of stored.kept)) stored.kept)
  published_in job name file pieces shards one h stored =
      let it : Logged = bringing (Publish job name (mark_of stored.kept)) stored.kept in
      ((Contains-filter (is_of job) one.index_added it).0
      (subst (λ l. Contains l it) (sym stored.index) (contains_later (plain (Reserve job name)) it (it ∷ []) (contains_here it [])))).0

-- two texts of which no two differ and have one digest
pub same_text : (file bytes : List ℕ) → NoTwoAlike (file ∷ bytes ∷ []) → digest_of bytes ≡ digest_of file → bytes ≡ file
same_text file bytes alike e =
    alike bytes file (contains_later file bytes (bytes ∷ []) (contains_here bytes [])) (contains_here file (bytes ∷ [])) e

-- AN IMAGE

-- the names with which a session over an image begins
abbrev pub names_of : Contents → Names
names_of v = names_read v.records

pub first_names : (v : Contents) → FitsTogether v → AreNames v.rack (names_of v)
first_names v fits = (started_is v.rack v.records fits.rack fits.records.read).names

-- where the log of a session's index leads, as far as its commands were answered and to the end
pub record Led (seed : List ℕ) (first last : Contents) (ss : List Step) (rs : List Reply) (session : IsSession seed first last ss rs) : Type 0 where
  pub sofar : Names
  pub to : ReplaysIndex first.rack (names_of first) session.done.index_added sofar
  pub on : ReplaysIndex first.rack sofar session.later.index_added session.records.ended
  pub begins : names_after (names_of first) session.done.index_before ≡ names_of first

pub led : (seed : List ℕ) (first last : Contents) (ss : List Step) (rs : List Reply) (session : IsSession seed first last ss rs) → Led seed first last ss rs session
led seed first last ss rs session =
    let parts = went_on first.rack (names_of first) session.records.ended session.done.index_added session.later.index_added
    (subst (λ l. ReplaysIndex first.rack (names_of first) l session.records.ended) session.follows.index_is_added session.records.replays) in
    record {
      sofar = parts.0;
      to = parts.1;
      on = parts.2;
      begins = ap (names_after (names_of first)) (session.follows.index_begins ∙ session.opened);
    }

pub gives_back : GivesBack
gives_back seed first last ss rs session p i q j lt name file of pieces shards stored given bytes fetched alike =
    let s = setting_of seed first in
    let it = led seed first last ss rs session in
    let a = first_names first session.fits in
    let put = row_at s ss session.replied.ones rs p i (commands.Store name file) (replies.Stored of pieces shards) session.replied.answers refl stored in
    let got = row_at s ss session.replied.ones rs q j (commands.Fetch name) (replies.File given bytes) session.replied.answers refl fetched in
    let its = put.row.1.1 in
    let file_is = got.row.1.1 in
    let behind = behind_at ss 1 session.replied.ones session.done p q put.one got.one lt session.replied.are put.there got.there in
    let found = transition s session.done got.one got.halves (job_at ss q j) name file_is.kept (names_of first) it.sofar behind.cut file_is.found it.begins it.to in
    let entry : Logged = bringing (Publish (job_at ss p i) name (mark_of its.kept)) its.kept in
    let has = published_has first.rack (names_of first) found.now (behind.cut.index_earlier ++ file_is.found.sofar) (job_at ss p i) name (mark_of its.kept) its.kept a found.to
    (Contains-append_left behind.cut.index_earlier file_is.found.sofar entry
    (behind.index_has entry (published_in s (job_at ss p i) name file pieces shards put.one put.halves its))) in
    same_text file bytes alike
    (file_is.digest
    ∙ (found_digest first.rack found.now name its.kept.digest file_is.kept
    (replay_keeps first.rack (names_of first) found.now (behind.cut.index_earlier ++ file_is.found.sofar) a found.to) has found.is
    ∙ its.is_record.digest))

-- LATER SESSIONS

-- an image whose records have distinct names, one of which has this digest
pub record Keeps (v : Contents) (name : List ℕ) (d : Digest) : Type 0 where
  pub names : AreNames v.rack (names_of v)
  pub has : Has (names_of v) name d

-- names that are those of a record list alone
published_names : (rack : Rack) (n : Names) → AreNames rack n → AreNames rack (names_read n.published)
unfolding IsDistinct
published_names rack n a = record { ascends = a.ascends; fits = a.fits; free = λ k d lt. absurd (omega arith); once = tt }

-- those of the image that a session left
pub left_names : (rack : Rack) (n : Names) (v : Contents) → AreNames rack n → v.rack ≡ rack → v.records ≡ n.published → AreNames v.rack (names_of v)
left_names rack n v a same is =
    subst (λ (r : Rack). AreNames r (names_of v)) (sym same) (subst (λ rs. AreNames rack (names_read rs)) (sym is) (published_names rack n a))

-- those of an image that has the rack and the records of another
same_names : (left next : Contents) → next.rack ≡ left.rack → next.records ≡ left.records → AreNames left.rack (names_of left) → AreNames next.rack (names_of next)
same_names left next rack records names =
    subst (λ (r : Rack). AreNames r (names_of next)) (sym rack) (subst (λ rs. AreNames left.rack (names_read rs)) (sym records) names)

-- and those of the image with which the next one begins
pub begins_names : (left first : Contents) → BeginsFrom left first → AreNames left.rack (names_of left) → AreNames first.rack (names_of first)
begins_names left first begins names = same_names left first begins.rack begins.records names

-- or of the one that a recheck left
pub recheck_names : (left next : Contents) → IsRechecked left next → AreNames left.rack (names_of left) → AreNames next.rack (names_of next)
recheck_names left next again names = same_names left next (rack_stays again.found left next again.is) (records_stay again.found left next again.is) names

-- the image that a session left keeps what its log led to
left_keeps : (rack : Rack) (n : Names) (v : Contents) (name : List ℕ) (d : Digest) → AreNames rack n → Has n name d → v.rack ≡ rack → v.records ≡ n.published → Keeps v name d
left_keeps rack n v name d a has same is = record {
  names = left_names rack n v a same is;
  has = subst (λ rs. Has (names_read rs) name d) (sym is) (record { its = has.its; there = has.there; named = has.named; digest = has.digest });
}

-- and so does the image with which the next one begins
begins_keeps : (left first : Contents) (name : List ℕ) (d : Digest) → BeginsFrom left first → Keeps left name d → Keeps first name d
begins_keeps left first name d begins keeps = record {
  names = begins_names left first begins keeps.names;
  has = subst (λ rs. Has (names_read rs) name d) (sym begins.records) keeps.has;
}

-- and the image that a recheck left
recheck_keeps : (left next : Contents) (name : List ℕ) (d : Digest) → IsRechecked left next → Keeps left name d → Keeps next name d
recheck_keeps left next name d again keeps = record {
  names = recheck_names left next again keeps.names;
  has = subst (λ rs. Has (names_read rs) name d) (sym (records_stay again.found left next again.is)) keeps.has;
}

later_keeps : (from left : Contents) (name : List ℕ) (d : Digest) → Keeps from name d → Later from left → Keeps left name d
later_keeps from left name d keeps Same = keeps
later_keeps from left name d keeps (Begun {left = before} sofar begins) = begins_keeps before left name d begins (later_keeps from before name d keeps sofar)
later_keeps from left name d keeps (More {left = before} {first} sofar begins leaves) =
    let there = begins_keeps before first name d begins (later_keeps from before name d keeps sofar) in
    left_keeps first.rack leaves.records.ended left name d
    (replay_keeps first.rack (names_of first) leaves.records.ended leaves.story.index_added there.names leaves.records.replays)
    (still_has first.rack (names_of first) leaves.records.ended leaves.story.index_added name d there.names leaves.records.replays there.has)
    leaves.rack leaves.records.is
later_keeps from left name d keeps (FoundAgain {left = before} sofar again) = recheck_keeps before left name d again (later_keeps from before name d keeps sofar)

-- so a file that was stored is kept by the image with which a later session begins
pub stored_keeps : (seed : List ℕ) (first last : Contents) (ss : List Step) (rs : List Reply) (session : IsSession seed first last ss rs) (p i : ℕ) (name file of : List ℕ) (pieces shards : ℕ)
    → IsAnswered first.rack ss rs p i (commands.Store name file) (replies.Stored of pieces shards) → (left next : Contents) → Later last left → BeginsFrom left next → Keeps next name (digest_of file)
stored_keeps seed first last ss rs session p i name file of pieces shards stored left next later begins =
    let it = led seed first last ss rs session in
    let a = first_names first session.fits in
    let then = replay_keeps first.rack (names_of first) it.sofar session.done.index_added a it.to in
    let put = row_at (setting_of seed first) ss session.replied.ones rs p i (commands.Store name file) (replies.Stored of pieces shards) session.replied.answers refl stored in
    let its = put.row.1.1 in
    let cut = cut_at ss 1 session.replied.ones session.done p put.one session.replied.are put.there in
    let entry : Logged = bringing (Publish (job_at ss p i) name (mark_of its.kept)) its.kept in
    let has = published_has first.rack (names_of first) it.sofar session.done.index_added (job_at ss p i) name (mark_of its.kept) its.kept a it.to
    (subst (λ l. Contains l entry) (sym cut.index_added)
    (Contains-append_right cut.index_earlier (put.one.index_added ++ cut.index_later) entry
    (Contains-append_left put.one.index_added cut.index_later entry
    (published_in (setting_of seed first) (job_at ss p i) name file pieces shards put.one put.halves its)))) in
    let kept = left_keeps first.rack session.records.ended last name its.kept.digest
    (replay_keeps first.rack it.sofar session.records.ended session.later.index_added then it.on)
    (still_has first.rack it.sofar session.records.ended session.later.index_added name its.kept.digest then it.on has)
    session.rack session.records.is in
    subst (Keeps next name) its.is_record.digest (begins_keeps left next name its.kept.digest begins (later_keeps last left name its.kept.digest kept later))

pub gives_back_later : GivesBackLater
gives_back_later seed first last ss rs session p i name file of pieces shards stored left later seed2 first2 last2 ss2 rs2 begins session2 q j given bytes fetched alike =
    let there = stored_keeps seed first last ss rs session p i name file of pieces shards stored left first2 later begins in
    let s2 = setting_of seed2 first2 in
    let it2 = led seed2 first2 last2 ss2 rs2 session2 in
    let got = row_at s2 ss2 session2.replied.ones rs2 q j (commands.Fetch name) (replies.File given bytes) session2.replied.answers refl fetched in
    let file_is = got.row.1.1 in
    let cut2 = cut_at ss2 1 session2.replied.ones session2.done q got.one session2.replied.are got.there in
    let found = transition s2 session2.done got.one got.halves (job_at ss2 q j) name file_is.kept (names_of first2) it2.sofar cut2 file_is.found it2.begins it2.to in
    let log : List Logged = cut2.index_earlier ++ file_is.found.sofar in
    same_text file bytes alike
    (file_is.digest
    ∙ found_digest first2.rack found.now name (digest_of file) file_is.kept (replay_keeps first2.rack (names_of first2) found.now log there.names found.to)
    (still_has first2.rack (names_of first2) found.now log name (digest_of file) there.names found.to there.has) found.is)
