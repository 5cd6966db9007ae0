-- No fetch of a file that an earlier session stored is odd, where nothing renewed its name.
use Rattle.std.proofs.Common.{◌≡◌, ◌<◌, ℕ, List, [], ◌∷◌, ◌++◌, Some, ap, sym, ◌∙◌, subst, arith, append_assoc}
use Rattle.std.specs.Prelude.{Contains, slice_get}
use Rattle.std.proofs.lemmas.List.Elements.{Contains-append_left, Contains-append_right}
use Rattle.std.proofs.lemmas.Option.{same_Some, get_or_from_slice_get, slice_get_within}
use Rattle.pot_bytes.specs.declared.digest.Digest.{Digest}
use Rattle.pot_bytes.proofs.Elements.{element_at}
use Rattle.pot_machine.specs.declared.entry.Entry.{Entry}
use Rattle.pot_machine.specs.Logs.{replayed}
use Rattle.pot_machine.specs.Machine.{Replays, after}
use Rattle.pot_machine.specs.Rules.{IsTable}
use Rattle.pot_machine.specs.Slot.{digest_in}
use Rattle.pot_machine.specs.Table.{Table, slot_at}
use Rattle.pot_machine.proofs.Filled.{not_void, put_digest}
use Rattle.pot_machine.proofs.Kept.{after_keeps}
use Rattle.pot_machine.proofs.LeftAlone.{data_stays, sizes_stay}
use Rattle.pot_index.specs.declared.entry.IndexEntry.TheVariants.{Publish}
use Rattle.pot_index.specs.declared.entry.Logged.{Logged}
use Rattle.pot_index.specs.declared.record.Record.{Record}
use Rattle.pot_index.specs.declared.record.Split.{Split}
use Rattle.pot_index.specs.Entries.{bringing}
use Rattle.pot_index.specs.Index.{AreNames}
use Rattle.pot_index.specs.Laws.{KeepsFileAndSplits}
use Rattle.pot_index.specs.Records.{current_of, mark_of, splits_of}
use Rattle.pot_index.proofs.NamesKept.{replay_keeps}
use Rattle.pot_index.proofs.RecordLaws.{one_record, splits_stay}
use Rattle.pot_script.specs.declared.command.Command.TheVariants as commands
use Rattle.pot_script.specs.declared.grouping.Step.{Step}
use Rattle.pot_script.specs.declared.reply.Reply.{Reply}
use Rattle.pot_script.specs.declared.reply.Reply.TheVariants as replies
use Rattle.pot_image.specs.Images.{Contents}
use Rattle.pot_image.specs.Rules.{FitsTable}
use Rattle.pot_replies.specs.Digests.{NoTwoAlike}
use Rattle.pot_replies.specs.Sections.{work_of}
use Rattle.pot_replies.specs.Stores.{Placed}
use Rattle.pot_session.specs.Serving.{setting_of}
use Rattle.pot_shared.specs.Leaving.{still}
use Rattle.pot_shared.proofs.Lists.{all_at_place}
use Rattle.pot_promises.specs.Answers.{IsAnswered, job_at}
use Rattle.pot_promises.specs.Chains.{BeginsFrom, Begun, FoundAgain, IsRechecked, IsSession, Later, LeavesImage, More, Same}
use Rattle.pot_promises.specs.Odds.{NeverOddLater, WasOdd}
use Rattle.pot_promises.specs.Veils.{stream_blocks}
use Rattle.pot_promises.proofs.FindingAgain.{columns_stay, digest_stays, records_stay}
use Rattle.pot_promises.proofs.Giving.{begins_names, first_names, led, left_names, names_of, published_in, recheck_names, transition}
use Rattle.pot_promises.proofs.Keeping.{published_goes}
use Rattle.pot_promises.proofs.Odds.{its_table, kept_fills, not_odd, put_in, saw_in, seen_is_put}
use Rattle.pot_promises.proofs.Veils.{IsKept, kept_at}
use Rattle.pot_promises.proofs.Walking.{IsCut, behind_at, cut_at}

-- A DATA SLOT KEEPS ITS DIGEST

pub columns_along : (t : Table) (log : List Entry) (u : Table) (c : ℕ) → Replays t log u → c < t.data_columns → c < u.data_columns
columns_along t [] u c same lt = subst (λ (x : Table). c < x.data_columns) (sym same) lt
columns_along t (e ∷ log) u c (legal, rest) lt = columns_along (after t e) log u c rest (let size = (sizes_stay t e).0 in omega (arith, lt, size))

pub digest_along : (t : Table) (log : List Entry) (u : Table) (s c : ℕ) (d : Digest) → IsTable t → Replays t log u → c < t.data_columns → digest_in (slot_at t s c) ≡ Some d
    → digest_in (slot_at u s c) ≡ Some d
digest_along t [] u s c d is same lt has = ap (λ x. digest_in (slot_at x s c)) same ∙ has
digest_along t (e ∷ log) u s c d is (legal, rest) lt has =
    let size = (sizes_stay t e).0 in
    digest_along (after t e) log u s c d (after_keeps t e is legal) rest (omega (arith, lt, size))
    (data_stays t e s c is legal lt (not_void (slot_at t s c) d has) ∙ has)

-- RECORDS THAT GO ON

pub goes_further : (r o q : Record) → KeepsFileAndSplits r o → KeepsFileAndSplits o q → KeepsFileAndSplits r q
goes_further r o q a b = record {
  name = b.name ∙ a.name;
  long = b.long ∙ a.long;
  digest = b.digest ∙ a.digest;
  splits = (a.splits.0 ++ b.splits.0, b.splits.1 ∙ (ap (λ l. l ++ b.splits.0) a.splits.1 ∙ append_assoc (splits_of r) a.splits.0 b.splits.0));
}

abbrev made : List ℕ → ℕ → Digest → Split → List Split → Record
made n l d s os = record { name = n; length = l; digest = d; geometry = s.geometry; places = s.places; older = os }

-- one that still has its first split alone is the same
never_renewed : (r o : Record) → KeepsFileAndSplits r o → r.older ≡ [] → o.older ≡ [] → o ≡ r
never_renewed r o goes one still =
    let splits : current_of o ∷ [] ≡ current_of r ∷ goes.splits.0 =
    ap (λ (l : List Split). l ++ current_of o ∷ []) (sym still) ∙ (goes.splits.1 ∙ ap (λ (l : List Split). (l ++ current_of r ∷ []) ++ goes.splits.0) one) in
    let split : current_of o ≡ current_of r = same_Some (current_of o) (current_of r) (ap (λ (l : List Split). slice_get l 0) splits) in
    same goes.name goes.long goes.digest split (still ∙ sym one)
  where
    same : o.name ≡ r.name → o.length ≡ r.length → o.digest ≡ r.digest → current_of o ≡ current_of r → o.older ≡ r.older → o ≡ r
    same n l d s os =
        ap (λ x. made x o.length o.digest (current_of o) o.older) n
        ∙ (ap (λ x. made r.name x o.digest (current_of o) o.older) l
        ∙ (ap (λ x. made r.name r.length x (current_of o) o.older) d
        ∙ (ap (λ x. made r.name r.length r.digest x o.older) s ∙ ap (λ x. made r.name r.length r.digest (current_of r) x) os)))

-- WHAT AN IMAGE CARRIES OF A STORE

-- the slot of a block that was put, by the tables of an image
pub record HasSlot (v : Contents) (x : Placed) : Type 0 where
  pub t : Table
  pub there : slice_get v.tables x.group ≡ Some t
  pub digest : digest_in (slot_at t x.stripe x.column) ≡ Some x.digest
  pub column : x.column < t.data_columns

-- the record, which may have gone on, and the slots of its blocks with their digests
pub record Carries (kept : Record) (placed : List Placed) (v : Contents) : Type 0 where
  pub names : AreNames v.rack (names_of v)
  pub its : Record
  pub has : Contains v.records its
  pub goes : KeepsFileAndSplits kept its
  pub slots : (b : ℕ) (x : Placed) → slice_get placed b ≡ Some x → HasSlot v x

module _ (kept : Record) (placed : List Placed) where
  -- the image with which the next session begins
  pub begins_carries : (left first : Contents) → BeginsFrom left first → Carries kept placed left → Carries kept placed first
  begins_carries left first begins c = record {
    names = begins_names left first begins c.names;
    its = c.its;
    has = subst (λ rs. Contains rs c.its) (sym begins.records) c.has;
    goes = c.goes;
    slots = λ b x at. (let s = c.slots b x at in record {
      t = s.t;
      there = ap (λ ts. slice_get ts x.group) begins.tables ∙ s.there;
      digest = s.digest;
      column = s.column;
    });
  }

  -- the one that it leaves
  leaves_carries : (first last : Contents) → LeavesImage first last → Carries kept placed first → Carries kept placed last
  leaves_carries first last leaves c =
      let ended = leaves.records.ended in
      let log : List Logged = leaves.story.index_added in
      let o = splits_stay first.rack (names_of first) ended log c.its c.names leaves.records.replays c.has in
      record {
        names = left_names first.rack ended last (replay_keeps first.rack (names_of first) ended log c.names leaves.records.replays) leaves.rack leaves.records.is;
        its = o.0;
        has = subst (λ rs. Contains rs o.0) (sym leaves.records.is) o.1;
        goes = goes_further kept c.its o.0 c.goes o.2;
        slots = λ b x at.
            (let s = c.slots b x at in
            let leads = leaves.groups x.group s.t s.there in
            let rules = all_at_place (FitsTable first.rack) first.tables x.group s.t leaves.fits.tables.fits s.there in
            let log : List Entry = leaves.story.before x.group ++ leaves.story.added x.group in
            record {
              t = still (leads.0);
              there = leads.2;
              digest = digest_along s.t log leads.0 x.stripe x.column x.digest rules.rules leads.1 s.column s.digest;
              column = columns_along s.t log leads.0 x.column leads.1 s.column;
            });
      }

  -- the one that a recheck leaves
  recheck_carries : (left next : Contents) → IsRechecked left next → Carries kept placed left → Carries kept placed next
  recheck_carries left next again c = record {
    names = recheck_names left next again c.names;
    its = c.its;
    has = subst (λ rs. Contains rs c.its) (sym (records_stay again.found left next again.is)) c.has;
    goes = c.goes;
    slots = λ b x at. slot_again x (c.slots b x at);
  }
    where
      slot_again : (x : Placed) → HasSlot left x → HasSlot next x
      slot_again x s =
          let g : ℕ = x.group in
          let tables = again.is.tables in
          let count = tables.count in
          let within = slice_get_within left.tables g s.t s.there in
          let u = element_at next.tables g (omega (arith, within, count)) in
          let its = tables.each g s.t u.0 s.there u.1 in
          let rules = all_at_place (FitsTable left.rack) left.tables g s.t again.fits.tables.fits s.there in
          record {
            t = u.0;
            there = u.1;
            digest = digest_stays again.found g s.t u.0 its rules.rules x.stripe x.column ∙ s.digest;
            column = (let same = columns_stay again.found g s.t u.0 its in let lt = s.column in omega (arith, same, lt));
          }

  pub later_carries : (from left : Contents) → Carries kept placed from → Later from left → Carries kept placed left
  later_carries from left c Same = c
  later_carries from left c (Begun {left = before} sofar begins) = begins_carries before left begins (later_carries from before c sofar)
  later_carries from left c (More {left = before} {first} sofar begins leaves) =
      leaves_carries first left leaves (begins_carries before first begins (later_carries from before c sofar))
  later_carries from left c (FoundAgain {left = before} sofar again) = recheck_carries before left again (later_carries from before c sofar)

-- THE SESSION THAT STORED THE FILE

module _ (seed : List ℕ) (first last : Contents) (ss : List Step) (rs : List Reply) (session : IsSession seed first last ss rs) (p i : ℕ)
    (name file : List ℕ) (pieces shards : ℕ) (put : IsKept seed first last ss rs session p i name file pieces shards) where
  abbrev cut : IsCut put.one session.done
  cut = cut_at ss 1 session.replied.ones session.done p put.one session.replied.are put.there

  -- the slot of a block, at the end of the session
  slot_left : (b : ℕ) (x : Placed) → slice_get put.its.placed b ≡ Some x → HasSlot last x
  slot_left b x at =
      let g : ℕ = x.group in
      let t = its_table seed first last ss rs session p i name file pieces shards put b x at in
      let it = put_in seed first last ss rs session p i name file pieces shards put x (b, slice_get_within put.its.placed b x at, get_or_from_slice_get put.its.placed b x x at) in
      let done : Contains (session.done.added g) it.0 =
      subst (λ l. Contains l it.0) (sym (cut.added g)) (Contains-append_right (cut.earlier g) (put.one.added g ++ cut.later g) it.0 (Contains-append_left (put.one.added g) (cut.later g) it.0 it.2)) in
      let added : Contains (session.story.added g) it.0 =
      subst (λ l. Contains l it.0) (sym (session.follows.is_added g)) (Contains-append_left (session.done.added g) (session.later.added g) it.0 done) in
      let leads = session.groups g t.0 t.1 in
      let log : List Entry = session.story.before g ++ session.story.added g in
      let has : Contains log it.0 = Contains-append_right (session.story.before g) (session.story.added g) it.0 added in
      let fills = kept_fills (job_at ss p i) x.stripe x.column x.digest it.0 it.1 in
      record {
        t = still (leads.0);
        there = leads.2;
        digest = put_digest t.0 log leads.0 x.stripe x.column x.digest it.0 t.2.rules leads.1 has fills;
        column = columns_along t.0 log leads.0 x.column leads.1 t.3;
      }

  last_carries : Carries put.its.kept put.its.placed last
  last_carries =
      let ended = session.records.ended in
      let log : List Logged = session.story.index_added in
      let names = first_names first session.fits in
      let j : ℕ = job_at ss p i in
      let entry : Logged = bringing (Publish j name (mark_of put.its.kept)) put.its.kept in
      let in_one : Contains put.one.index_added entry = published_in (setting_of seed first) j name file pieces shards put.one put.halves put.its in
      let in_done : Contains session.done.index_added entry =
      subst (λ l. Contains l entry) (sym cut.index_added) (Contains-append_right cut.index_earlier (put.one.index_added ++ cut.index_later) entry (Contains-append_left put.one.index_added cut.index_later entry in_one)) in
      let in_log : Contains log entry =
      subst (λ l. Contains l entry) (sym session.follows.index_is_added) (Contains-append_left session.done.index_added session.later.index_added entry in_done) in
      let o = published_goes first.rack (names_of first) ended log j name (mark_of put.its.kept) put.its.kept names session.records.replays in_log in
      record {
        names = left_names first.rack ended last (replay_keeps first.rack (names_of first) ended log names session.records.replays) session.rack session.records.is;
        its = o.0;
        has = subst (λ rs. Contains rs o.0) (sym session.records.is) o.1;
        goes = o.2;
        slots = slot_left;
      }

-- a later step of that session
pub never_odd_once : (seed : List ℕ) (first last : Contents) (ss : List Step) (rs : List Reply) (session : IsSession seed first last ss rs) (p i q j : ℕ) → p < q
    → (name file of : List ℕ) (pieces shards : ℕ) → IsAnswered first.rack ss rs p i (commands.Store name file) (replies.Stored of pieces shards)
    → (read : List (List ℕ)) (wanted got : Digest) (was : WasOdd read seed first ss session.replied.ones q j name wanted got)
    → was.odd.kept.older ≡ [] → NoTwoAlike (stream_blocks seed first (job_at ss p i) file ++ read) → ⊥
never_odd_once seed first last ss rs session p i q j lt name file of pieces shards answered read wanted got was once alike =
    let s = setting_of seed first in
    let put = kept_at seed first last ss rs session p i name file of pieces shards answered in
    let kept = put.its.kept in
    let it = led seed first last ss rs session in
    let behind = behind_at ss 1 session.replied.ones session.done p q put.one was.one lt session.replied.are put.there was.its in
    let found = transition s session.done was.one was.halves (job_at ss q j) name was.odd.kept (names_of first) it.sofar behind.cut was.odd.found it.begins it.to in
    let log : List Logged = behind.cut.index_earlier ++ was.odd.found.sofar in
    let names = first_names first session.fits in
    let entry : Logged = bringing (Publish (job_at ss p i) name (mark_of kept)) kept in
    let o = published_goes first.rack (names_of first) found.now log (job_at ss p i) name (mark_of kept) kept names found.to
    (Contains-append_left behind.cut.index_earlier was.odd.found.sofar entry
    (behind.index_has entry (published_in s (job_at ss p i) name file pieces shards put.one put.halves put.its))) in
    let is_o : was.odd.kept ≡ o.0 =
    one_record found.now.published was.odd.kept o.0 (replay_keeps first.rack (names_of first) found.now log names found.to).ascends found.is.0 o.1
    (found.is.1 ∙ sym (o.2.name ∙ put.its.is_record.named)) in
    let same : was.odd.kept ≡ kept = is_o ∙ never_renewed kept o.0 o.2 put.its.is_record.once (subst (λ (r : Record). r.older ≡ []) is_o once) in
    not_odd seed first last ss rs session p i name file pieces shards put s (work_of was.one was.halves) (job_at ss q j) read wanted got was.odd same
    (seen_is_put seed first last ss rs session p i name file pieces shards put was.one was.halves behind (job_at ss q j)) alike

-- THE SESSION THAT FETCHED IT

pub never_odd_later : NeverOddLater
never_odd_later seed first last ss rs session p i name file of pieces shards answered left later seed2 first2 last2 ss2 rs2 begins session2 q j read wanted got was once alike =
    let put = kept_at seed first last ss rs session p i name file of pieces shards answered in
    let kept = put.its.kept in
    let placed = put.its.placed in
    let c = begins_carries kept placed left first2 begins
    (later_carries kept placed last left (last_carries seed first last ss rs session p i name file pieces shards put) later) in
    let s2 = setting_of seed2 first2 in
    let it2 = led seed2 first2 last2 ss2 rs2 session2 in
    let cut2 = cut_at ss2 1 session2.replied.ones session2.done q was.one session2.replied.are was.its in
    let found = transition s2 session2.done was.one was.halves (job_at ss2 q j) name was.odd.kept (names_of first2) it2.sofar cut2 was.odd.found it2.begins it2.to in
    let log : List Logged = cut2.index_earlier ++ was.odd.found.sofar in
    let o = splits_stay first2.rack (names_of first2) found.now log c.its c.names found.to c.has in
    let goes = goes_further kept c.its o.0 c.goes o.2 in
    let is_o : was.odd.kept ≡ o.0 =
    one_record found.now.published was.odd.kept o.0 (replay_keeps first2.rack (names_of first2) found.now log c.names found.to).ascends found.is.0 o.1
    (found.is.1 ∙ sym (goes.name ∙ put.its.is_record.named)) in
    let same : was.odd.kept ≡ kept = is_o ∙ never_renewed kept o.0 goes put.its.is_record.once (subst (λ (r : Record). r.older ≡ []) is_o once) in
    not_odd seed first last ss rs session p i name file pieces shards put s2 (work_of was.one was.halves) (job_at ss2 q j) read wanted got was.odd same
    (λ b x d at seen.
    let slot = c.slots b x at in
    let saw = saw_in seed2 first2 last2 ss2 rs2 session2 was.one was.halves cut2 (job_at ss2 q j) x.group x.stripe x.column d slot.t slot.there seen in
    let rules = all_at_place (FitsTable first2.rack) first2.tables x.group slot.t session2.fits.tables.fits slot.there in
    let stays = digest_along slot.t saw.log (replayed slot.t saw.log) x.stripe x.column x.digest rules.rules saw.replays slot.column slot.digest in
    same_Some d x.digest (sym (ap digest_in saw.live) ∙ stays))
    alike
