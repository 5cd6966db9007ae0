-- No fetch is odd that found the split of a store or of a renewal, in whatever order they stand.
use Rattle.std.proofs.Common.{◌≡◌, ◌<◌, ◌≤◌, ℕ, true, List, [], ◌∷◌, ◌++◌, Some, length, map, drop, refl, ap, sym, ◌∙◌, subst, arith, append_assoc, append-nil}
use Rattle.std.specs.Prelude.{◌==◌, Contains, slice_get}
use Rattle.std.proofs.lemmas.Bool.{eq-eqb}
use Rattle.std.proofs.lemmas.List.Elements.{Contains-append_left, Contains-append_right}
use Rattle.std.proofs.lemmas.Nat.{mod_below}
use Rattle.std.proofs.lemmas.Option.{same_Some, get_or_from_slice_get, slice_get_within}
use Rattle.pot_bytes.specs.Digests.{digest_of}
use Rattle.pot_bytes.specs.Lists.{AreBytes}
use Rattle.pot_bytes.specs.Rack.{IsGeometry}
use Rattle.pot_bytes.specs.declared.digest.Digest.{Digest}
use Rattle.pot_bytes.specs.declared.rack.Geometry.{Geometry}
use Rattle.pot_bytes.proofs.Elements.{contains_later, element_at}
use Rattle.pot_object.specs.Pieces.{longest, pieces_of}
use Rattle.pot_pads.specs.Pads.{Pads, pads_of}
use Rattle.pot_pads.proofs.PadsLemmas.{length-next_bytes, AreBytes-next_bytes}
use Rattle.pot_pointer.proofs.FilterLemmas.{Contains-filter}
use Rattle.pot_machine.specs.declared.entry.Entry.{Entry}
use Rattle.pot_machine.specs.Logs.{IsKeptPut, is_of, own, replayed}
use Rattle.pot_machine.specs.Machine as machine
use Rattle.pot_machine.specs.Slot.{digest_in}
use Rattle.pot_machine.specs.Table.{Table, slot_at}
use Rattle.pot_machine.proofs.Filled.{put_digest}
use Rattle.pot_machine.proofs.Logs.{back_replays, table_at}
use Rattle.pot_shard.specs.FileBlocks.{file_blocks, random_len}
use Rattle.pot_shard.specs.FileLaws.{IsStore}
use Rattle.pot_index.specs.declared.entry.IndexEntry.TheVariants.{Find, Publish, Renew}
use Rattle.pot_index.specs.declared.entry.Logged.{Logged}
use Rattle.pot_index.specs.declared.record.Record.{Record}
use Rattle.pot_index.specs.declared.record.Split.{Split}
use Rattle.pot_index.specs.Entries as index
use Rattle.pot_index.specs.Entries.{bringing, plain}
use Rattle.pot_index.specs.Fits.{FitsRack}
use Rattle.pot_index.specs.Index.{AreNames, Names, ReplaysIndex}
use Rattle.pot_index.specs.Laws.{KeepsFileAndSplits}
use Rattle.pot_index.specs.Records.{current_of, mark_of}
use Rattle.pot_index.proofs.NameLemmas.{contains_here}
use Rattle.pot_index.proofs.NamesKept.{leads_once, replay_keeps, went_on}
use Rattle.pot_index.proofs.RecordLaws.{one_record, splits_stay}
use Rattle.pot_script.specs.declared.command.Command.TheVariants as commands
use Rattle.pot_script.specs.declared.grouping.Step.{Step}
use Rattle.pot_script.specs.declared.reply.Reply.{Reply}
use Rattle.pot_script.specs.declared.reply.Reply.TheVariants as replies
use Rattle.pot_image.specs.Images.{Contents}
use Rattle.pot_image.specs.Rules.{FitsTable}
use Rattle.pot_replies.specs.Digests.{NoTwoAlike}
use Rattle.pot_replies.specs.Fetches.{FoundThen, IsOdd, SeenAs}
use Rattle.pot_replies.specs.Renewals.{renewing}
use Rattle.pot_replies.specs.Sections.{Section, MovesThenRest, work_of}
use Rattle.pot_replies.specs.Settings.{Setting}
use Rattle.pot_replies.specs.Stores.{Placed, in_group, place_of}
use Rattle.pot_shared.specs.Leaving.{still}
use Rattle.pot_shared.proofs.Lists.{all_at_place}
use Rattle.pot_store.specs.Drawing.{random_from}
use Rattle.pot_store.proofs.FitLemmas.{current_fits}
use Rattle.pot_session.specs.Serving.{setting_of}
use Rattle.pot_promises.specs.Answers.{job_at}
use Rattle.pot_promises.specs.Chains.{BeginsFrom, IsSession, Later}
use Rattle.pot_promises.specs.Fetched.{Before, Here, WasStored}
use Rattle.pot_promises.specs.Odds.{WasOdd}
use Rattle.pot_promises.specs.Renewed.{NeverOddRenewed, NeverOddRenewedLater, NeverOddTogether, RenewedShows, WasRenewed}
use Rattle.pot_promises.specs.Veils.{random_of}
use Rattle.pot_promises.proofs.Giving.{first_names, found_at, led, left_names, names_of, published_in, same_text, stored_keeps, transition}
use Rattle.pot_promises.proofs.Keeping.{Has, published_goes, published_has, renewed_goes, still_has}
use Rattle.pot_promises.proofs.Odds.{comes_out, kept_fills, put_in, puts_has, saw_in}
use Rattle.pot_promises.proofs.OddsLater.{Carries, HasSlot, begins_carries, columns_along, digest_along, goes_further, later_carries}
use Rattle.pot_promises.proofs.Veils.{IsKept, kept_at, place_of_number, store_of}
use Rattle.pot_promises.proofs.Walking.{IsCut, cut_at, row_at}

-- RECORDS OF ONE NAME

-- two lists of one length that begin one list
same_front : (xs ys : List Split) (x y : Split) (more less : List Split) → length xs ≡ length ys → (xs ++ x ∷ []) ++ more ≡ (ys ++ y ∷ []) ++ less → (xs ≡ ys) × (x ≡ y)
same_front [] [] x y more less long is = (refl, same_Some x y (ap (λ (l : List Split). slice_get l 0) is))
same_front [] (b ∷ ys) x y more less long is = absurd (cc long)
same_front (a ∷ xs) [] x y more less long is = absurd (cc long)
same_front (a ∷ xs) (b ∷ ys) x y more less long is =
    let rest = same_front xs ys x y more less (omega (arith, long)) (ap (drop 1) is) in
    let one : a ≡ b = same_Some a b (ap (λ (l : List Split). slice_get l 0) is) in
    (ap (λ l. a ∷ l) rest.0 ∙ ap (λ h. h ∷ ys) one, rest.1)

abbrev made : List ℕ → ℕ → Digest → Split → List Split → Record
made n l d s os = record { name = n; length = l; digest = d; geometry = s.geometry; places = s.places; older = os }

-- two with as many splits that go on to one are the same
same_record : (r q o : Record) → KeepsFileAndSplits r o → KeepsFileAndSplits q o → length q.older ≡ length r.older → q ≡ r
same_record r q o a b long =
    let parts = same_front q.older r.older (current_of q) (current_of r) b.splits.0 a.splits.0 long (sym b.splits.1 ∙ a.splits.1) in
    same (sym b.name ∙ a.name) (sym b.long ∙ a.long) (sym b.digest ∙ a.digest) parts.1 parts.0
  where
    same : q.name ≡ r.name → q.length ≡ r.length → q.digest ≡ r.digest → current_of q ≡ current_of r → q.older ≡ r.older → q ≡ r
    same n l d s os =
        ap (λ x. made x q.length q.digest (current_of q) q.older) n
        ∙ (ap (λ x. made r.name x q.digest (current_of q) q.older) l
        ∙ (ap (λ x. made r.name r.length x (current_of q) q.older) d
        ∙ (ap (λ x. made r.name r.length r.digest x q.older) s ∙ ap (λ x. made r.name r.length r.digest (current_of r) x) os)))

-- a record goes on to itself
goes_same : (r : Record) → KeepsFileAndSplits r r
goes_same r = record { name = refl; long = refl; digest = refl; splits = ([], sym (append-nil (r.older ++ current_of r ∷ []))) }

-- a split of a file by the first bytes of a stream
split_store : (g : Geometry) → IsGeometry g → (pads : Pads) (file : List ℕ) → length file ≤ longest → AreBytes file → IsStore g file (random_from g file pads)
split_store g is pads file short bytes = record {
  geometry = is;
  fits = short;
  taken = length-next_bytes pads (random_len (pieces_of (length file)) g);
  file_bytes = bytes;
  random_bytes = AreBytes-next_bytes pads (random_len (pieces_of (length file)) g);
}

-- A SESSION AND ITS END

module _ (seed : List ℕ) (first last : Contents) (ss : List Step) (rs : List Reply) (session : IsSession seed first last ss rs) where
  abbrev s : Setting
  s = setting_of seed first

  abbrev log : List Logged
  log = session.story.index_added

  abbrev ended : Names
  ended = session.records.ended

  begun_names : AreNames first.rack (names_of first)
  begun_names = first_names first session.fits

  ended_names : AreNames first.rack ended
  ended_names = replay_keeps first.rack (names_of first) ended log begun_names session.records.replays

  -- what stands in the section of a step stands in the logs of the session
  in_story : (one : Section) (cut : IsCut one session.done) (g : ℕ) (e : Entry) → Contains (one.added g) e → Contains (session.story.added g) e
  in_story one cut g e has =
      subst (λ l. Contains l e) (sym (session.follows.is_added g))
      (Contains-append_left (session.done.added g) (session.later.added g) e
      (subst (λ l. Contains l e) (sym (cut.added g)) (Contains-append_right (cut.earlier g) (one.added g ++ cut.later g) e (Contains-append_left (one.added g) (cut.later g) e has))))

  in_index : (one : Section) (cut : IsCut one session.done) (x : Logged) → Contains one.index_added x → Contains log x
  in_index one cut x has =
      subst (λ l. Contains l x) (sym session.follows.index_is_added)
      (Contains-append_left session.done.index_added session.later.index_added x
      (subst (λ l. Contains l x) (sym cut.index_added) (Contains-append_right cut.index_earlier (one.index_added ++ cut.index_later) x (Contains-append_left one.index_added cut.index_later x has))))

  -- a record that was found stays to the end, or goes on
  found_ends : {behind : List Logged} (one : Section) (cut : IsCut one session.done) (halves : MovesThenRest one) (job : ℕ) (name : List ℕ) (kept : Record) (found : FoundThen behind s job name kept (work_of one halves))
      → (o : Record) × Contains ended.published o × KeepsFileAndSplits kept o × (kept.name ≡ name)
  found_ends one cut halves job name kept found =
      let it = led seed first last ss rs session in
      let met = transition s session.done one halves job name kept (names_of first) it.sofar cut found it.begins it.to in
      let front : List Logged = cut.index_earlier ++ found.sofar in
      let back : List Logged = (plain (Find job name true) ∷ found.later) ++ cut.index_later in
      let rest : List Logged = back ++ session.later.index_added in
      let whole : log ≡ front ++ rest =
      session.follows.index_is_added
      ∙ (ap (λ l. l ++ session.later.index_added) (found_at s session.done one halves job name kept cut found) ∙ append_assoc front back session.later.index_added) in
      let parts = went_on first.rack (names_of first) ended front rest (subst (λ l. ReplaysIndex first.rack (names_of first) l ended) whole session.records.replays) in
      let same : met.now ≡ parts.0 = leads_once first.rack (names_of first) met.now parts.0 front met.to parts.1 in
      let on : ReplaysIndex first.rack met.now rest ended = subst (λ m. ReplaysIndex first.rack m rest ended) (sym same) parts.2 in
      let o = splits_stay first.rack met.now ended rest kept (replay_keeps first.rack (names_of first) met.now front begun_names met.to) on met.is.0 in
      (o.0, o.1, o.2, met.is.1)

  -- two records of one name at the end are one
  one_ends : (x y : Record) → Contains ended.published x → Contains ended.published y → x.name ≡ y.name → x ≡ y
  one_ends x y has_x has_y named = one_record ended.published x y ended_names.ascends has_x has_y named

  -- a file that was stored has its record there, and consists of bytes
  module _ (name file : List ℕ) where
    abbrev IsFile : Type 0
    IsFile = AreBytes file × (length file ≤ longest) × Has ended name (digest_of file)

    stored_ends : (n : ℕ) → WasStored name file first ss rs n → IsFile
    stored_ends n (Here p i of pieces shards lt stored) =
        let put = kept_at seed first last ss rs session p i name file of pieces shards stored in
        let cut = cut_at ss 1 session.replied.ones session.done p put.one session.replied.are put.there in
        let kept = put.its.kept in
        let has = published_has first.rack (names_of first) ended log (job_at ss p i) name (mark_of kept) kept begun_names session.records.replays
        (in_index put.one cut (bringing (Publish (job_at ss p i) name (mark_of kept)) kept) (published_in s (job_at ss p i) name file pieces shards put.one put.halves put.its)) in
        (put.its.bytes, put.its.short, record { its = has.its; there = has.there; named = has.named; digest = has.digest ∙ put.its.is_record.digest })
    stored_ends n (Before seed0 begun0 last0 left steps said session0 p i of pieces shards stored between begins) =
        let put = kept_at seed0 begun0 last0 steps said session0 p i name file of pieces shards stored in
        let keeps = stored_keeps seed0 begun0 last0 steps said session0 p i name file of pieces shards stored left first between begins in
        (put.its.bytes, put.its.short, still_has first.rack (names_of first) ended log name (digest_of file) keeps.names session.records.replays keeps.has)

-- WHAT A SESSION MADE

-- a record whose blocks it put, those of a file by these random bytes
pub record IsMade (seed : List ℕ) (first last : Contents) (ss : List Step) (rs : List Reply) (session : IsSession seed first last ss rs) (kept : Record) (placed : List Placed) (file random : List ℕ) : Type 0 where
  pub fits : FitsRack first.rack kept
  pub its : Record
  pub has : Contains session.records.ended.published its
  pub goes : KeepsFileAndSplits kept its
  pub put : (x : Placed) → Contains placed x → (job : ℕ) × (e : Entry) × IsKeptPut job x.stripe x.column x.digest e × Contains (session.story.added x.group) e
  pub places : kept.places ≡ map place_of placed
  pub digests : map (λ (y : Placed). y.digest) placed ≡ map digest_of (file_blocks kept.geometry file random)
  pub store : IsStore kept.geometry file random
  pub long : kept.length ≡ length file
  pub digest : kept.digest ≡ digest_of file

module _ (seed : List ℕ) (first last : Contents) (ss : List Step) (rs : List Reply) (session : IsSession seed first last ss rs) (kept : Record) (placed : List Placed) (file random : List ℕ)
    (it : IsMade seed first last ss rs session kept placed file random) where
  -- the table with which the group of a block began, and its column in it
  made_table : (b : ℕ) (x : Placed) → slice_get placed b ≡ Some x → (t : Table) × (slice_get first.tables x.group ≡ Some t) × FitsTable first.rack t × (x.column < t.data_columns)
  made_table b x at =
      let split = current_fits first.rack kept it.fits in
      let some : 0 < first.rack.groups = (let a = split.geometry.groups in let c = split.geometry.limits.need.0 in let d = split.geometry.limits.need.1 in omega (arith, a, c, d)) in
      let place = split.places b (place_of x) (place_of_number kept.places placed b x it.places at) in
      let group : x.group < first.rack.groups = subst (λ (n : ℕ). n < first.rack.groups) (sym place.group) (mod_below _ first.rack.groups some) in
      let t = element_at first.tables x.group (let n = session.fits.tables.count in omega (arith, group, n)) in
      let fits = all_at_place (FitsTable first.rack) first.tables x.group t.0 session.fits.tables.fits t.1 in
      (t.0, t.1, fits, (let lt = place.column in let same = fits.data_columns in omega (arith, lt, same)))

  -- the digest of its slot at the end of the log
  made_digest : (b : ℕ) (x : Placed) (at : slice_get placed b ≡ Some x) → let t = made_table b x at in digest_in (slot_at ((session.groups x.group t.0 t.1).0) x.stripe x.column) ≡ Some x.digest
  made_digest b x at =
      let g : ℕ = x.group in
      let t = made_table b x at in
      let put = it.put x (b, slice_get_within placed b x at, get_or_from_slice_get placed b x x at) in
      let leads = session.groups g t.0 t.1 in
      let log : List Entry = session.story.before g ++ session.story.added g in
      put_digest t.0 log leads.0 x.stripe x.column x.digest put.1 t.2.rules leads.1 (Contains-append_right (session.story.before g) (session.story.added g) put.1 put.3) (kept_fills put.0 x.stripe x.column x.digest put.1 put.2)

  made_slot : (b : ℕ) (x : Placed) → slice_get placed b ≡ Some x → HasSlot last x
  made_slot b x at =
      let g : ℕ = x.group in
      let t = made_table b x at in
      let leads = session.groups g t.0 t.1 in
      record {
        t = still (leads.0);
        there = leads.2;
        digest = made_digest b x at;
        column = columns_along t.0 (session.story.before g ++ session.story.added g) leads.0 x.column leads.1 t.3;
      }

  made_carries : Carries kept placed last
  made_carries = record {
    names = left_names first.rack session.records.ended last (ended_names seed first last ss rs session) session.rack session.records.is;
    its = it.its;
    has = subst (λ rs. Contains rs it.its) (sym session.records.is) it.has;
    goes = it.goes;
    slots = made_slot;
  }

  -- what a job of the session saw there has the digest of the block, whenever it was put
  made_seen : (two : Section) (halves : MovesThenRest two) (cut : IsCut two session.done) (job b : ℕ) (x : Placed) (d : Digest) → slice_get placed b ≡ Some x
      → SeenAs ((setting_of seed first).first x.group) job ((work_of two halves).before x.group) ((work_of two halves).added x.group) x.stripe x.column d → d ≡ x.digest
  made_seen two halves cut job b x d at seen =
      let g : ℕ = x.group in
      let t = made_table b x at in
      let saw = saw_in seed first last ss rs session two halves cut job g x.stripe x.column d t.0 t.1 seen in
      let leads = session.groups g t.0 t.1 in
      let to = subst (λ l. machine.Replays t.0 l leads.0) saw.whole leads.1 in
      let on = back_replays t.0 saw.log saw.rest leads.0 to in
      let rules = table_at t.0 saw.log saw.rest leads.0 t.2.rules to in
      let ends = digest_along (replayed t.0 saw.log) saw.rest leads.0 x.stripe x.column d rules on (columns_along t.0 saw.log (replayed t.0 saw.log) x.column saw.replays t.3) (ap digest_in saw.live) in
      same_Some d x.digest (sym ends ∙ made_digest b x at)

  -- a fetch that found the record, and saw blocks of those digests, is not odd
  made_not_odd : (s : Setting) (w : Section) (job : ℕ) (name : List ℕ) (read : List (List ℕ)) (wanted got : Digest) (odd : IsOdd (Some read) s job name wanted got w) → odd.kept ≡ kept
      → ((b : ℕ) (x : Placed) (d : Digest) → slice_get placed b ≡ Some x → SeenAs (s.first x.group) job (w.before x.group) (w.added x.group) x.stripe x.column d → d ≡ x.digest)
      → NoTwoAlike (file_blocks kept.geometry file random ++ read) → ⊥
  made_not_odd s w job name read wanted got odd same seen alike =
      let geometry : kept.geometry ≡ odd.kept.geometry = ap (λ (r : Record). r.geometry) (sym same) in
      comes_out first.rack s w job name file random placed read wanted got odd
      (subst (FitsRack first.rack) (sym same) it.fits)
      (subst (λ g. IsStore g file random) geometry it.store)
      (ap (λ (r : Record). r.length) same ∙ it.long)
      (ap (λ (r : Record). r.digest) same ∙ it.digest)
      (ap (λ (r : Record). r.places) same ∙ it.places)
      (subst (λ g. map (λ (y : Placed). y.digest) placed ≡ map digest_of (file_blocks g file random)) geometry it.digests)
      seen
      (subst (λ g. NoTwoAlike (file_blocks g file random ++ read)) geometry alike)

  module _ (name : List ℕ) (named : kept.name ≡ name) (read : List (List ℕ)) (wanted got : Digest) (alike : NoTwoAlike (file_blocks kept.geometry file random ++ read)) where
    -- no fetch of this session that found it
    pub made_once : (q j : ℕ) (was : WasOdd read seed first ss session.replied.ones q j name wanted got) → length was.odd.kept.older ≡ length kept.older → ⊥
    made_once q j was long =
        let cut = cut_at ss 1 session.replied.ones session.done q was.one session.replied.are was.its in
        let e = found_ends seed first last ss rs session was.one cut was.halves (job_at ss q j) name was.odd.kept was.odd.found in
        let is : e.0 ≡ it.its = one_ends seed first last ss rs session e.0 it.its e.1 it.has (e.2.name ∙ (e.3 ∙ sym (it.goes.name ∙ named))) in
        let same : was.odd.kept ≡ kept = same_record kept was.odd.kept it.its it.goes (subst (KeepsFileAndSplits was.odd.kept) is e.2) long in
        made_not_odd (setting_of seed first) (work_of was.one was.halves) (job_at ss q j) name read wanted got was.odd same (made_seen was.one was.halves cut (job_at ss q j)) alike

    -- nor of a later one
    pub made_later : (left : Contents) → Later last left → (seed2 : List ℕ) (first2 last2 : Contents) (ss2 : List Step) (rs2 : List Reply) → BeginsFrom left first2 → (session2 : IsSession seed2 first2 last2 ss2 rs2)
        → (q j : ℕ) (was : WasOdd read seed2 first2 ss2 session2.replied.ones q j name wanted got) → length was.odd.kept.older ≡ length kept.older → ⊥
    made_later left later seed2 first2 last2 ss2 rs2 begins session2 q j was long =
        let c = begins_carries kept placed left first2 begins (later_carries kept placed last left made_carries later) in
        let s2 = setting_of seed2 first2 in
        let it2 = led seed2 first2 last2 ss2 rs2 session2 in
        let cut2 = cut_at ss2 1 session2.replied.ones session2.done q was.one session2.replied.are was.its in
        let found = transition s2 session2.done was.one was.halves (job_at ss2 q j) name was.odd.kept (names_of first2) it2.sofar cut2 was.odd.found it2.begins it2.to in
        let front : List Logged = cut2.index_earlier ++ was.odd.found.sofar in
        let o = splits_stay first2.rack (names_of first2) found.now front c.its c.names found.to c.has in
        let goes = goes_further kept c.its o.0 c.goes o.2 in
        let is : o.0 ≡ was.odd.kept =
        one_record found.now.published o.0 was.odd.kept (replay_keeps first2.rack (names_of first2) found.now front c.names found.to).ascends o.1 found.is.0 (goes.name ∙ (named ∙ sym found.is.1)) in
        let same : was.odd.kept ≡ kept = same_record kept was.odd.kept was.odd.kept (subst (KeepsFileAndSplits kept) is goes) (goes_same was.odd.kept) long in
        made_not_odd s2 (work_of was.one was.halves) (job_at ss2 q j) name read wanted got was.odd same
        (λ b x d at seen.
        let slot = c.slots b x at in
        let saw = saw_in seed2 first2 last2 ss2 rs2 session2 was.one was.halves cut2 (job_at ss2 q j) x.group x.stripe x.column d slot.t slot.there seen in
        let rules = all_at_place (FitsTable first2.rack) first2.tables x.group slot.t session2.fits.tables.fits slot.there in
        let stays = digest_along slot.t saw.log (replayed slot.t saw.log) x.stripe x.column x.digest rules.rules saw.replays slot.column slot.digest in
        same_Some d x.digest (sym (ap digest_in saw.live) ∙ stays))
        alike

-- A STORE

-- the record of a store
stored_made : (seed : List ℕ) (first last : Contents) (ss : List Step) (rs : List Reply) (session : IsSession seed first last ss rs) (p i : ℕ) (name file : List ℕ) (pieces shards : ℕ)
    (put : IsKept seed first last ss rs session p i name file pieces shards) → IsMade seed first last ss rs session put.its.kept put.its.placed file (random_of seed first (job_at ss p i) file)
stored_made seed first last ss rs session p i name file pieces shards put =
    let kept = put.its.kept in
    let j : ℕ = job_at ss p i in
    let random = random_of seed first j file in
    let cut = cut_at ss 1 session.replied.ones session.done p put.one session.replied.are put.there in
    let geometry : first.rack.geometry ≡ kept.geometry = sym put.its.is_record.geometry in
    let o = published_goes first.rack (names_of first) session.records.ended session.story.index_added j name (mark_of kept) kept (first_names first session.fits) session.records.replays
    (in_index seed first last ss rs session put.one cut (bringing (Publish j name (mark_of kept)) kept) (published_in (setting_of seed first) j name file pieces shards put.one put.halves put.its)) in
    record {
      fits = put.fits;
      its = o.0;
      has = o.1;
      goes = o.2;
      put = λ x has. (let e = put_in seed first last ss rs session p i name file pieces shards put x has in (j, e.0, e.1, in_story seed first last ss rs session put.one cut x.group e.0 e.2));
      places = put.its.is_record.places;
      digests = subst (λ g. map (λ (y : Placed). y.digest) put.its.placed ≡ map digest_of (file_blocks g file random)) geometry put.its.of_digests;
      store = subst (λ g. IsStore g file random) geometry (store_of first session.fits (pads_of seed first.session j) file put.its.short put.its.bytes);
      long = put.its.is_record.long;
      digest = put.its.is_record.digest;
    }

pub never_odd_together : NeverOddTogether
never_odd_together seed first last ss rs session p i q j name file of pieces shards answered read wanted got was once alike =
    let put = kept_at seed first last ss rs session p i name file of pieces shards answered in
    let random = random_of seed first (job_at ss p i) file in
    made_once seed first last ss rs session put.its.kept put.its.placed file random (stored_made seed first last ss rs session p i name file pieces shards put) name put.its.is_record.named read wanted got
    (subst (λ g. NoTwoAlike (file_blocks g file random ++ read)) (sym put.its.is_record.geometry) alike) q j was
    (ap (length {A = Split}) once ∙ sym (ap (length {A = Split}) put.its.is_record.once))

-- A RENEWAL

pub renewed_shows : RenewedShows
renewed_shows seed first last ss rs session p i name of geometry pieces shards answered =
    let row = row_at (setting_of seed first) ss session.replied.ones rs p i (commands.Renew name geometry) (replies.Renewed of pieces shards) session.replied.answers refl answered in
    record { one = row.one; halves = row.halves; its = row.there; renewed = row.row.1.1 }

module _ (seed : List ℕ) (first last : Contents) (ss : List Step) (rs : List Reply) (session : IsSession seed first last ss rs) (p i n : ℕ) (name file : List ℕ) (geometry : Geometry) (pieces shards : ℕ)
    (stored : WasStored name file first ss rs n) (it : WasRenewed seed first ss session.replied.ones p i name geometry pieces shards) (alike : NoTwoAlike (file ∷ it.renewed.all.file ∷ [])) where
  abbrev job : ℕ
  job = job_at ss p i

  abbrev now : Record
  now = it.renewed.now

  abbrev placed : List Placed
  placed = it.renewed.placed

  abbrev text : List ℕ
  text = it.renewed.all.file

  abbrev pads : Pads
  pads = pads_of seed first.session (renewing job)

  abbrev its_random : List ℕ
  its_random = random_from now.geometry file pads

  cut : IsCut it.one session.done
  cut = cut_at ss 1 session.replied.ones session.done p it.one session.replied.are it.its

  -- its record was logged
  logged : Contains session.story.index_added (bringing (Renew job name (mark_of now)) now)
  logged =
      let entry : Logged = bringing (Renew job name (mark_of now)) now in
      in_index seed first last ss rs session it.one cut entry
      (((Contains-filter (index.is_of job) it.one.index_added entry).0
      (subst (λ l. Contains l entry) (sym it.renewed.all.fetched.found.index) (contains_later (plain (Find job name true)) entry (entry ∷ []) (contains_here entry [])))).0)

  renewed_ends : (o : Record) × Contains session.records.ended.published o × KeepsFileAndSplits now o × FitsRack first.rack now
  renewed_ends = renewed_goes first.rack (names_of first) session.records.ended session.story.index_added job name (mark_of now) now (first_names first session.fits) session.records.replays logged

  -- its blocks were put
  renewed_put : (x : Placed) → Contains placed x → (k : ℕ) × (e : Entry) × IsKeptPut k x.stripe x.column x.digest e × Contains (session.story.added x.group) e
  renewed_put x has =
      let g : ℕ = x.group in
      let fetched = it.renewed.all.fetched in
      let mine_of : Contains (in_group g placed) x = (Contains-filter (λ (y : Placed). y.group == g) placed x).1 (has, eq-eqb g g refl) in
      let e = puts_has job (in_group g placed) (it.renewed.all.puts g) x (it.renewed.all.puts_are g) mine_of in
      let own_has : Contains (own job (it.halves.worked g)) e.0 = subst (λ l. Contains l e.0) (sym (fetched.own_is g)) (Contains-append_right (fetched.reads g) (it.renewed.all.puts g) e.0 e.2) in
      let worked : Contains (it.halves.worked g) e.0 = ((Contains-filter (is_of job) (it.halves.worked g) e.0).0 own_has).0 in (
        job,
        e.0,
        e.1,
        in_story seed first last ss rs session it.one cut g e.0
            (subst (λ l. Contains l e.0) (sym (it.halves.parts g)) (Contains-append_right (it.halves.begun g) (it.halves.worked g) e.0 worked)),
      )

  renewed_made : IsMade seed first last ss rs session now placed file its_random
  renewed_made =
      let ends = renewed_ends in
      let whole = stored_ends seed first last ss rs session name file n stored in
      let has = whole.2 in
      let fetched = it.renewed.all.fetched in
      let e = found_ends seed first last ss rs session it.one cut it.halves job name it.renewed.all.kept fetched.found in
      let found_is : e.0 ≡ has.its = one_ends seed first last ss rs session e.0 has.its e.1 has.there (e.2.name ∙ (e.3 ∙ sym has.named)) in
      let now_is : ends.0 ≡ has.its = one_ends seed first last ss rs session ends.0 has.its ends.1 has.there (ends.2.name ∙ (it.renewed.named ∙ sym has.named)) in
      let digest_at : digest_of text ≡ digest_of file = fetched.digest ∙ (sym e.2.digest ∙ (ap (λ (r : Record). r.digest) found_is ∙ has.digest)) in
      let text_is : text ≡ file = same_text file text alike digest_at in
      let split = current_fits first.rack now ends.3 in
      record {
        fits = ends.3;
        its = ends.0;
        has = ends.1;
        goes = ends.2;
        put = renewed_put;
        places = it.renewed.places;
        digests = subst (λ g. map (λ (y : Placed). y.digest) placed ≡ map digest_of (file_blocks g file (random_from g file pads))) (sym it.renewed.geometry_is)
            (subst (λ t. map (λ (y : Placed). y.digest) placed ≡ map digest_of (file_blocks geometry t (random_from geometry t pads))) text_is it.renewed.all.of_digests);
        store = split_store now.geometry split.geometry.limits pads file whole.1 whole.0;
        long = sym ends.2.long ∙ (ap (λ (r : Record). r.length) (now_is ∙ sym found_is) ∙ (e.2.long ∙ (sym fetched.long ∙ ap (length {A = ℕ}) text_is)));
        digest = sym ends.2.digest ∙ (ap (λ (r : Record). r.digest) now_is ∙ has.digest);
      }

  its_blocks : (read : List (List ℕ)) → NoTwoAlike (file_blocks geometry file (random_from geometry file pads) ++ read) → NoTwoAlike (file_blocks now.geometry file its_random ++ read)
  its_blocks read blocks = subst (λ g. NoTwoAlike (file_blocks g file (random_from g file pads) ++ read)) (sym it.renewed.geometry_is) blocks

pub never_odd_renewed : NeverOddRenewed
never_odd_renewed seed first last ss rs session p i q j n name file geometry pieces shards stored it alike read wanted got was long blocks =
    made_once seed first last ss rs session it.renewed.now it.renewed.placed file (its_random seed first last ss rs session p i n name file geometry pieces shards stored it alike)
    (renewed_made seed first last ss rs session p i n name file geometry pieces shards stored it alike) name it.renewed.named read wanted got
    (its_blocks seed first last ss rs session p i n name file geometry pieces shards stored it alike read blocks) q j was long

pub never_odd_renewed_later : NeverOddRenewedLater
never_odd_renewed_later seed first last ss rs session p i n name file geometry pieces shards stored it alike left later seed2 first2 last2 ss2 rs2 begins session2 q j read wanted got was long blocks =
    made_later seed first last ss rs session it.renewed.now it.renewed.placed file (its_random seed first last ss rs session p i n name file geometry pieces shards stored it alike)
    (renewed_made seed first last ss rs session p i n name file geometry pieces shards stored it alike) name it.renewed.named read wanted got
    (its_blocks seed first last ss rs session p i n name file geometry pieces shards stored it alike read blocks) left later seed2 first2 last2 ss2 rs2 begins session2 q j was long
