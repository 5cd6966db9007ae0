-- No fetch of a file that a session stored is odd.
use Rattle.std.proofs.Common.{◌≡◌, ◌<◌, ◌≤◌, ⊎_elim, ℕ, zero, suc, ◌+◌, ◌-◌, ◌*◌, Bool, true, false, List, [], ◌∷◌, ◌++◌, Option, Some, None, length, map, drop, refl, ap, sym, ◌∙◌, subst, arith, append-nil, eq-eqb, inl, inr}
use Rattle.std.specs.Prelude.{◌==◌, Contains, is_some, slice_get}
use Rattle.std.specs.List.{flat_map, range_with_len}
use Rattle.std.proofs.lemmas.List.FromFn.{length-range_with_len}
use Rattle.std.proofs.lemmas.Bool.{cases_Bool}
use Rattle.std.proofs.lemmas.List.Concat.{flat_map-append}
use Rattle.std.proofs.lemmas.List.Elements.{All-contains, Contains-append_left, Contains-append_right}
use Rattle.std.proofs.lemmas.Nat.{mod_below}
use Rattle.std.proofs.lemmas.Option.{same_Some, get_or_from_slice_get, slice_get_within, slice_get-get_or}
use Rattle.pot_bytes.specs.Rack.{no_place}
use Rattle.pot_bytes.specs.declared.digest.Digest.{Digest}
use Rattle.pot_bytes.specs.declared.rack.Place.{Place}
use Rattle.pot_bytes.specs.declared.rack.Rack.{Rack}
use Rattle.pot_bytes.proofs.Elements.{at_range, element_at, element_of_map}
use Rattle.pot_object.specs.Pieces.{pieces_of}
use Rattle.pot_pads.specs.Pads.{pads_of}
use Rattle.pot_pointer.proofs.FilterLemmas.{Contains-filter}
use Rattle.pot_split.specs.Threshold.{IsJoin}
use Rattle.pot_bytes.specs.Digests.{digest_of}
use Rattle.pot_steps.specs.GroupStep.{skips}
use Rattle.pot_steps.proofs.AheadLemmas.{count_same}
use Rattle.pot_machine.specs.declared.entry.Entry.{Entry}
use Rattle.pot_machine.specs.declared.entry.Entry.TheVariants as entry
use Rattle.pot_machine.specs.Logs.{Fills, IsKeptPut, is_of, own, replayed}
use Rattle.pot_machine.specs.declared.slot.SlotState.TheVariants.{Live}
use Rattle.pot_machine.specs.Making.{empty_table}
use Rattle.pot_machine.specs.Machine.{Replays}
use Rattle.pot_machine.specs.Slot.{digest_in}
use Rattle.pot_machine.specs.Table.{Table, count, slot_at}
use Rattle.pot_machine.proofs.Filled.{put_digest}
use Rattle.pot_machine.proofs.Logs.{front_replays}
use Rattle.pot_shard.specs.FileBlocks.{file_blocks}
use Rattle.pot_shard.specs.FileLaws.{IsStore, xor_of}
use Rattle.pot_shard.specs.Fetches.{IsFetched, IsJoinedAt, cut_to}
use Rattle.pot_shard.specs.Places.{place_at, position}
use Rattle.pot_shard.specs.Places as shard
use Rattle.pot_shard.proofs.FetchLemmas.{fetch_laws}
use Rattle.pot_shard.proofs.PlaceLemmas.{place_laws}
use Rattle.pot_index.specs.declared.entry.IndexEntry.TheVariants.{Find, Publish}
use Rattle.pot_index.specs.declared.entry.Logged.{Logged}
use Rattle.pot_index.specs.declared.record.Record.{Record}
use Rattle.pot_index.specs.Entries.{bringing, plain}
use Rattle.pot_index.specs.Fits.{FitsRack}
use Rattle.pot_index.specs.Records.{mark_of}
use Rattle.pot_index.proofs.NamesKept.{replay_keeps}
use Rattle.pot_index.proofs.RecordLaws.{one_record}
use Rattle.pot_script.specs.declared.command.Command.TheVariants as commands
use Rattle.pot_script.specs.declared.grouping.Step.{Step}
use Rattle.pot_script.specs.declared.reply.Reply.{Reply}
use Rattle.pot_script.specs.declared.reply.Reply.TheVariants as replies
use Rattle.pot_image.specs.Images.{Contents}
use Rattle.pot_image.specs.Rules.{FitsTable}
use Rattle.pot_replies.specs.Digests.{NoTwoAlike}
use Rattle.pot_replies.specs.Fetches.{IsOdd, ReadAt, SeenAs, has_seen}
use Rattle.pot_replies.specs.Joined.{AreJoined, Read, point_in, points_read, share_in, shares_read}
use Rattle.pot_replies.specs.Sections.{Section, MovesThenRest, mine, work_of}
use Rattle.pot_replies.specs.Settings.{Setting}
use Rattle.pot_replies.specs.Stores.{Placed, Puts, in_group, place_of}
use Rattle.pot_store.specs.Visits.{Came, Seen, Unknown, block_in, was_seen}
use Rattle.pot_store.proofs.FitLemmas.{current_fits, fragment_within, point_within}
use Rattle.pot_store.proofs.NoteLemmas.{are_good, points_count, points_more, shares_more}
use Rattle.pot_session.specs.Serving.{setting_of}
use Rattle.pot_shared.proofs.Lists.{all_at_place, flat_contains}
use Rattle.pot_promises.specs.Answers.{job_at}
use Rattle.pot_promises.specs.Chains.{IsSession}
use Rattle.pot_promises.specs.Odds.{NeverOdd, OddReads}
use Rattle.pot_promises.specs.Veils.{random_of}
use Rattle.pot_promises.proofs.Giving.{first_names, led, transition, names_of, published_in}
use Rattle.pot_promises.proofs.Keeping.{published_stays}
use Rattle.pot_promises.proofs.Quiet.{Quiet, quiet_both, quiet_none, steps_quiet}
use Rattle.pot_promises.proofs.Veils.{IsKept, digest_at, kept_at, place_of_number, store_of}
use Rattle.pot_promises.proofs.Walking.{IsBehind, IsCut, behind_at, row_at}

-- WHAT BLOCKS COME TO

-- a read as what came of a visit
came_of_read : Option (List ℕ) → Came
came_of_read None = Unknown
came_of_read (Some b) = Seen b

read_back : (o : Option (List ℕ)) → block_in (came_of_read o) ≡ o
unfolding came_of_read
read_back None = refl
read_back (Some b) = refl

seen_back : (o : Option (List ℕ)) → was_seen (came_of_read o) ≡ is_some o
unfolding came_of_read
seen_back None = refl
seen_back (Some b) = refl

-- as many points as blocks
points_long : (n : ℕ) (r : Read) → length (points_read n r) ≡ count n (λ x. is_some (r x))
points_long n r =
    ap (λ (f : Read). length (points_read n f)) (λ i x. sym (read_back (r x)) i)
    ∙ (points_count (λ x. came_of_read (r x)) n ∙ count_same n (λ x. was_seen (came_of_read (r x))) (λ x. is_some (r x)) (λ x lt. seen_back (r x)))

-- the shares are those of these blocks at the points
shares_are : (blocks : ℕ → List ℕ) (n : ℕ) (r : Read) → ((x : ℕ) (b : List ℕ) → x < n → r x ≡ Some b → b ≡ blocks x)
    → flat_map (λ p. drop 32 (blocks (p - 1))) (points_read n r) ≡ shares_read n r
shares_are blocks zero r same = refl
shares_are blocks (suc n) r same =
    let e : suc n ≡ n + 1 = omega arith in
    let f : ℕ → List ℕ = λ p. drop 32 (blocks (p - 1)) in
    ap (λ m. flat_map f (points_read m r)) e
    ∙ (ap (flat_map f) (points_more n r)
    ∙ (flat_map-append f (points_read n r) (point_in n (r n))
    ∙ (ap (λ l. l ++ flat_map f (point_in n (r n))) (shares_are blocks n r (λ x b lt is. same x b (omega (arith, lt)) is))
    ∙ (ap (λ l. shares_read n r ++ l) (one (r n) (λ b is. same n b (omega arith) is))
    ∙ (sym (shares_more n r) ∙ ap (λ m. shares_read m r) (sym e))))))
  where
    one : (o : Option (List ℕ)) → ((b : List ℕ) → o ≡ Some b → b ≡ blocks n) → flat_map (λ p. drop 32 (blocks (p - 1))) (point_in n o) ≡ share_in o
    one None is = refl
    one (Some b) is = append-nil (drop 32 (blocks ((n + 1) - 1))) ∙ (let back : (n + 1) - 1 ≡ n = omega arith in ap (λ m. drop 32 (blocks m)) back) ∙ ap (drop 32) (sym (is b refl))

-- enough blocks of a file of each fragment come to the file
comes_to : (kept : Record) (block : ℕ → ℕ → Read) (bytes file random : List ℕ) → IsStore kept.geometry file random → kept.length ≡ length file → AreJoined kept block bytes
    → ((i j : ℕ) → i < pieces_of kept.length → j < kept.geometry.fragments → count kept.geometry.shards (λ x. is_some (block i j x)) ≡ kept.geometry.need)
    → ((i j x : ℕ) (b : List ℕ) → i < pieces_of kept.length → j < kept.geometry.fragments → x < kept.geometry.shards → block i j x ≡ Some b
    → b ≡ shard.block_in kept.geometry file random i j x) → bytes ≡ file
comes_to kept block bytes file random store long joins enough right =
    joins.bytes_are
    ∙ (ap (λ m. cut_to m (λ i. xor_of (joins.contents i) kept.geometry.fragments)) long
    ∙ fetch_laws.file kept.geometry file random (λ i j. points_read kept.geometry.shards (block i j)) joins.contents
    (λ i. xor_of (joins.contents i) kept.geometry.fragments) store fetched)
  where
    joined_at : (i j : ℕ) → i < pieces_of (length file) → j < kept.geometry.fragments
        → IsJoinedAt kept.geometry file random i j (points_read kept.geometry.shards (block i j)) (joins.contents i j)
    joined_at i j a b =
        let n : ℕ = kept.geometry.shards in
        let a' : i < pieces_of kept.length = subst (λ (m : ℕ). i < pieces_of m) (sym long) a in
        let good = are_good n (block i j) in
        record {
          chosen = record {
            enough = points_long n (block i j) ∙ enough i j a' b;
            distinct = good.1;
            each = λ x has. (let h = All-contains (λ p. (0 < p) × (p ≤ n)) (points_read n (block i j)) x good.0 has in let l = h.0 in (omega (arith, l), h.1));
          };
          wide = joins.long i j a' b;
          join = subst (λ ss. IsJoin (points_read n (block i j)) ss (joins.contents i j))
              (sym (shares_are (λ x. shard.block_in kept.geometry file random i j x) n (block i j) (λ x c lt is. right i j x c a' b lt is)))
              (joins.joined i j a' b);
        }

    fetched : IsFetched kept.geometry file random (λ i j. points_read kept.geometry.shards (block i j)) joins.contents (λ i. xor_of (joins.contents i) kept.geometry.fragments)
    fetched = record { joined = joined_at; whole = λ i a. refl }

-- BLOCKS OF A FILE AT THE PLACES OF ITS RECORD

-- The record that a fetch found has places at which blocks of a file were put, and what the fetch
-- saw there has their digests.
module _ (rack : Rack) (s : Setting) (w : Section) (job : ℕ) (name file random : List ℕ) (placed : List Placed) (held : List (List ℕ)) (wanted got : Digest)
    (odd : IsOdd (Some held) s job name wanted got w) (room : FitsRack rack odd.kept) (store : IsStore odd.kept.geometry file random)
    (long : odd.kept.length ≡ length file) (digest : odd.kept.digest ≡ digest_of file) (places : odd.kept.places ≡ map place_of placed)
    (digests : map (λ (y : Placed). y.digest) placed ≡ map digest_of (file_blocks odd.kept.geometry file random))
    (seen_is_put : (b : ℕ) (x : Placed) (d : Digest) → slice_get placed b ≡ Some x → SeenAs (s.first x.group) job (w.before x.group) (w.added x.group) x.stripe x.column d → d ≡ x.digest)
    (alike : NoTwoAlike (file_blocks odd.kept.geometry file random ++ held)) where
  abbrev kept : Record
  kept = odd.kept

  abbrev blocks : List (List ℕ)
  blocks = file_blocks kept.geometry file random

  abbrev place : ℕ → ℕ → ℕ → Place
  place a b c = place_at kept.geometry kept.places a b c

  abbrev its_block : ℕ → ℕ → ℕ → List ℕ
  its_block a b c = shard.block_in kept.geometry file random a b c

  -- a block that was read at a place is that of the file
  read_is_put : (a b c : ℕ) (block : List ℕ) → a < pieces_of kept.length → b < kept.geometry.fragments → c < kept.geometry.shards
      → ReadAt (Some held) s job w (place a b c) block → block ≡ its_block a b c
  read_is_put a b c block la lb lc read =
      let number : ℕ = position kept.geometry a b c in
      let within = point_within rack kept room (a * kept.geometry.fragments + b) c (fragment_within rack kept room a b la lb) lc in
      let there : slice_get kept.places number ≡ Some (place a b c) = slice_get-get_or kept.places number no_place within in
      let x = element_of_map place_of placed number (place a b c) (ap (λ l. slice_get l number) (sym places) ∙ there) in
      let its : List ℕ = its_block a b c in
      let block_there : slice_get blocks number ≡ Some its =
      place_laws.each kept.geometry file random a b c (subst (λ (n : ℕ). a < pieces_of n) long la) lb lc in
      let its_digest = digest_at placed blocks number x.0 its digests x.1 block_there in
      let seen : SeenAs (s.first x.0.group) job (w.before x.0.group) (w.added x.0.group) x.0.stripe x.0.column (digest_of block) =
      subst (λ (q : Place). SeenAs (s.first q.group) job (w.before q.group) (w.added q.group) q.stripe q.column (digest_of block))
      (sym x.2) read.1 in
      alike block its
      (Contains-append_right blocks held block read.0)
      (Contains-append_left blocks held its (number, slice_get_within blocks number its block_there, get_or_from_slice_get blocks number its its block_there))
      (seen_is_put number x.0 (digest_of block) x.1 seen ∙ its_digest)

  abbrev was_seen_at : ℕ → ℕ → ℕ → Bool
  was_seen_at a b c = has_seen (mine job w).own (place a b c)

  -- a point has a block just where it was seen
  some_is : (a b c : ℕ) → a < pieces_of kept.length → b < kept.geometry.fragments → c < kept.geometry.shards → is_some (odd.block a b c) ≡ was_seen_at a b c
  some_is a b c la lb lc = ⊎_elim
      (λ (yes : was_seen_at a b c ≡ true). (let o = odd.seen a b c la lb lc yes in ap is_some o.1 ∙ sym yes))
      (λ (no : was_seen_at a b c ≡ false). ap is_some (odd.unseen a b c no) ∙ sym no)
      (cases_Bool (was_seen_at a b c))

  enough : (a b : ℕ) → a < pieces_of kept.length → b < kept.geometry.fragments → count kept.geometry.shards (λ c. is_some (odd.block a b c)) ≡ kept.geometry.need
  enough a b la lb =
      count_same kept.geometry.shards (λ c. is_some (odd.block a b c)) (was_seen_at a b) (λ c lc. some_is a b c la lb lc) ∙ odd.sees a b la lb

  right : (a b c : ℕ) (block : List ℕ) → a < pieces_of kept.length → b < kept.geometry.fragments → c < kept.geometry.shards
      → odd.block a b c ≡ Some block → block ≡ its_block a b c
  right a b c block la lb lc at = ⊎_elim
      (λ (yes : was_seen_at a b c ≡ true).
      let o = odd.seen a b c la lb lc yes in
      let it : o.0 ≡ block = same_Some o.0 block (sym o.1 ∙ at) in
      sym it ∙ read_is_put a b c o.0 la lb lc o.2)
      (λ (no : was_seen_at a b c ≡ false). absurd (let e = sym at ∙ odd.unseen a b c no in cc e))
      (cases_Bool (was_seen_at a b c))

  -- so such blocks come to the file
  pub comes_out : ⊥
  comes_out =
      odd.differs
      (odd.got_is
      ∙ (ap digest_of (comes_to kept odd.block odd.bytes file random store long odd.joined enough right)
      ∙ (sym digest ∙ sym odd.wanted_is)))

-- WHAT WAS PUT STANDS IN THE LOG

-- each block of a list of puts has its entry
pub puts_has : (job : ℕ) (xs : List Placed) (es : List Entry) (x : Placed) → Puts job xs es → Contains xs x
    → (e : Entry) × IsKeptPut job x.stripe x.column x.digest e × Contains es e
puts_has job [] es x puts (k, lt, at) = absurd (omega (arith, lt))
puts_has job (y ∷ xs) es x (passed, e, rest, kept, is, more) (zero, lt, at) = (
  e,
  subst (λ (z : Placed). IsKeptPut job z.stripe z.column z.digest e) at kept,
  subst (λ l. Contains l e) (sym is) (Contains-append_left (skips job passed ++ e ∷ []) rest e (Contains-append_right (skips job passed) (e ∷ []) e (zero, omega arith, refl))),
)
puts_has job (y ∷ xs) es x (passed, e, rest, kept, is, more) (suc k, lt, at) =
    let r = puts_has job xs rest x more (k, omega (arith, lt), at) in
    (r.0, r.1, subst (λ l. Contains l r.0) (sym is) (Contains-append_right (skips job passed ++ e ∷ []) rest r.0 r.2))

pub kept_fills : (job s c : ℕ) (d : Digest) (e : Entry) → IsKeptPut job s c d e → Fills s c d e
kept_fills job s c d e (inl (p, is)) = subst (λ x. Fills s c d x) (sym is) (refl, refl, refl)
kept_fills job s c d e (inr (p, q, is)) = subst (λ x. Fills s c d x) (sym is) (refl, refl, refl)

-- six parts of a list
parted : {X : Type 0} (b e m x s c l : List X) → b ++ ((e ++ ((m ++ (x ++ s)) ++ c)) ++ l) ≡ (((b ++ e) ++ m) ++ x) ++ ((s ++ c) ++ l)
parted [] [] [] [] s c l = refl
parted [] [] [] (y ∷ x) s c l = ap (λ t. y ∷ t) (parted [] [] [] x s c l)
parted [] [] (y ∷ m) x s c l = ap (λ t. y ∷ t) (parted [] [] m x s c l)
parted [] (y ∷ e) m x s c l = ap (λ t. y ∷ t) (parted [] e m x s c l)
parted (y ∷ b) e m x s c l = ap (λ t. y ∷ t) (parted b e m x s c l)

-- What a job saw in a section of a session: the table that its log had come to, with all that stood
-- before the section.
module _ (seed : List ℕ) (first last : Contents) (ss : List Step) (rs : List Reply) (session : IsSession seed first last ss rs) (two : Section) (halves : MovesThenRest two)
    (cut : IsCut two session.done) where
  pub record SawIn (t : Table) (g s c : ℕ) (d : Digest) : Type 0 where
    pub log : List Entry
    pub replays : Replays t log (replayed t log)
    pub live : slot_at (replayed t log) s c ≡ Live d
    pub before : (e : Entry) → Contains (two.before g) e → Contains log e
    pub rest : List Entry
    pub whole : session.story.before g ++ session.story.added g ≡ log ++ rest

  pub saw_in : (job g s c : ℕ) (d : Digest) (t : Table) → slice_get first.tables g ≡ Some t
      → SeenAs ((setting_of seed first).first g) job ((work_of two halves).before g) ((work_of two halves).added g) s c d → SawIn t g s c d
  saw_in job g s c d t there (front, back, parts, live) =
      let leads = session.groups g t there in
      let same : (setting_of seed first).first g ≡ t = get_or_from_slice_get first.tables g t (empty_table first.rack g) there in
      let log : List Entry = (two.before g ++ halves.begun g) ++ front in
      let tail : List Entry = entry.Seen job s c ∷ back in
      let rest : List Entry = (tail ++ cut.later g) ++ session.later.added g in
      let whole : session.story.before g ++ session.story.added g ≡ log ++ rest =
      ap (λ l. session.story.before g ++ l) (session.follows.is_added g
      ∙ ap (λ l. l ++ session.later.added g) (cut.added g
      ∙ ap (λ l. cut.earlier g ++ (l ++ cut.later g)) (halves.parts g ∙ ap (λ l. halves.begun g ++ l) parts)))
      ∙ (parted (session.story.before g) (cut.earlier g) (halves.begun g) front tail (cut.later g) (session.later.added g)
      ∙ ap (λ l. ((l ++ halves.begun g) ++ front) ++ rest) (ap (λ l. l ++ cut.earlier g) (sym (session.follows.begins g)) ∙ sym (cut.before g))) in
      record {
        log = log;
        replays = front_replays t log rest leads.0 (subst (λ l. Replays t l leads.0) whole leads.1);
        live = subst (λ f. slot_at (replayed f log) s c ≡ Live d) same live;
        before = λ e has. Contains-append_left (two.before g ++ halves.begun g) front e (Contains-append_left (two.before g) (halves.begun g) e has);
        rest = rest;
        whole = whole;
      }

module _ (seed : List ℕ) (first last : Contents) (ss : List Step) (rs : List Reply) (session : IsSession seed first last ss rs) (p i : ℕ)
    (name file : List ℕ) (pieces shards : ℕ) (put : IsKept seed first last ss rs session p i name file pieces shards) where
  -- a block of the store has a place that the rack has
  in_rack : (b : ℕ) (x : Placed) → slice_get put.its.placed b ≡ Some x → (x.group < first.rack.groups) × (x.column < first.rack.columns)
  in_rack b x at =
      let split = current_fits first.rack put.its.kept put.fits in
      let some : 0 < first.rack.groups = (let a = split.geometry.groups in let c = split.geometry.limits.need.0 in let d = split.geometry.limits.need.1 in omega (arith, a, c, d)) in
      let place = split.places b (place_of x) (place_of_number put.its.kept.places put.its.placed b x put.its.is_record.places at) in
      (subst (λ (n : ℕ). n < first.rack.groups) (sym place.group) (mod_below _ first.rack.groups some), place.column)

  -- the table with which its group began, and its column in it
  pub its_table : (b : ℕ) (x : Placed) → slice_get put.its.placed b ≡ Some x
      → (t : Table) × (slice_get first.tables x.group ≡ Some t) × FitsTable first.rack t × (x.column < t.data_columns)
  its_table b x at =
      let within = in_rack b x at in
      let t = element_at first.tables x.group (let lt = within.0 in let n = session.fits.tables.count in omega (arith, lt, n)) in
      let fits = all_at_place (FitsTable first.rack) first.tables x.group t.0 session.fits.tables.fits t.1 in
      (t.0, t.1, fits, (let lt = within.1 in let same = fits.data_columns in omega (arith, lt, same)))

  -- its entry stands in the section of the store
  pub put_in : (x : Placed) → Contains put.its.placed x → (e : Entry) × IsKeptPut (job_at ss p i) x.stripe x.column x.digest e × Contains (put.one.added x.group) e
  put_in x has =
      let j : ℕ = job_at ss p i in
      let g : ℕ = x.group in
      let mine_of : Contains (in_group g put.its.placed) x = (Contains-filter (λ (y : Placed). y.group == g) put.its.placed x).1 (has, eq-eqb g g refl) in
      let it = puts_has j (in_group g put.its.placed) (own j (put.halves.worked g)) x (put.its.puts g) mine_of in
      let worked : Contains (put.halves.worked g) it.0 = ((Contains-filter (is_of j) (put.halves.worked g) it.0).0 it.2).0 in
      (it.0, it.1, subst (λ l. Contains l it.0) (sym (put.halves.parts g)) (Contains-append_right (put.halves.begun g) (put.halves.worked g) it.0 worked))

  -- what a job of a later section of the session saw there has the digest of the block that was put
  pub seen_is_put : (two : Section) (halves : MovesThenRest two) (behind : IsBehind put.one two session.done) (job b : ℕ) (x : Placed) (d : Digest) → slice_get put.its.placed b ≡ Some x
      → SeenAs ((setting_of seed first).first x.group) job ((work_of two halves).before x.group) ((work_of two halves).added x.group) x.stripe x.column d → d ≡ x.digest
  seen_is_put two halves behind job b x d at seen =
      let g : ℕ = x.group in
      let t = its_table b x at in
      let saw = saw_in seed first last ss rs session two halves behind.cut job g x.stripe x.column d t.0 t.1 seen in
      let it = put_in x (b, slice_get_within put.its.placed b x at, get_or_from_slice_get put.its.placed b x x at) in
      let before : Contains (two.before g) it.0 =
      subst (λ l. Contains l it.0) (sym (behind.cut.before g)) (Contains-append_right (session.done.before g) (behind.cut.earlier g) it.0 (behind.has g it.0 it.2)) in
      let filled = put_digest t.0 saw.log (replayed t.0 saw.log) x.stripe x.column x.digest it.0 t.2.rules saw.replays (saw.before it.0 before)
      (kept_fills (job_at ss p i) x.stripe x.column x.digest it.0 it.1) in
      same_Some d x.digest (sym (ap digest_in saw.live) ∙ filled)

  -- a fetch that found its record, and saw blocks of those digests, is not odd
  pub not_odd : (s : Setting) (w : Section) (job : ℕ) (held : List (List ℕ)) (wanted got : Digest) (odd : IsOdd (Some held) s job name wanted got w) → odd.kept ≡ put.its.kept
      → ((b : ℕ) (x : Placed) (d : Digest) → slice_get put.its.placed b ≡ Some x → SeenAs (s.first x.group) job (w.before x.group) (w.added x.group) x.stripe x.column d → d ≡ x.digest)
      → NoTwoAlike (file_blocks first.rack.geometry file (random_of seed first (job_at ss p i) file) ++ held) → ⊥
  not_odd s w job held wanted got odd same seen alike =
      let random = random_of seed first (job_at ss p i) file in
      let geometry : first.rack.geometry ≡ odd.kept.geometry = sym put.its.is_record.geometry ∙ ap (λ (r : Record). r.geometry) (sym same) in
      comes_out first.rack s w job name file random put.its.placed held wanted got odd
      (subst (FitsRack first.rack) (sym same) put.fits)
      (subst (λ g. IsStore g file random) geometry (store_of first session.fits (pads_of seed first.session (job_at ss p i)) file put.its.short put.its.bytes))
      (ap (λ (r : Record). r.length) same ∙ put.its.is_record.long)
      (ap (λ (r : Record). r.digest) same ∙ put.its.is_record.digest)
      (ap (λ (r : Record). r.places) same ∙ put.its.is_record.places)
      (subst (λ g. map (λ (y : Placed). y.digest) put.its.placed ≡ map digest_of (file_blocks g file random)) geometry put.its.of_digests)
      seen
      (subst (λ g. NoTwoAlike (file_blocks g file random ++ held)) geometry alike)

-- BLOCKS THAT WERE READ

block_in_list : Option (List ℕ) → List (List ℕ)
block_in_list None = []
block_in_list (Some b) = b ∷ []

in_list : (o : Option (List ℕ)) (b : List ℕ) → o ≡ Some b → Contains (block_in_list o) b
unfolding block_in_list
in_list None b is = absurd (cc is)
in_list (Some c) b is = (zero, omega arith, same_Some c b is)

in_range : {X : Type 0} (f : ℕ → List X) (n k : ℕ) (x : X) → k < n → Contains (f k) x → Contains (flat_map f (range_with_len 0 n)) x
in_range f n k x lt has =
    let within : k < length (range_with_len 0 n) = (let l = length-range_with_len 0 n in omega (arith, l, lt)) in
    flat_contains f (range_with_len 0 n) k k x (slice_get-get_or (range_with_len 0 n) k k within ∙ ap Some (at_range n k k lt)) has

-- all blocks that a fetch read of a record
abbrev blocks_read : Record → (ℕ → ℕ → Read) → List (List ℕ)
blocks_read kept block =
    flat_map (λ a. flat_map (λ b. flat_map (λ c. block_in_list (block a b c)) (range_with_len 0 kept.geometry.shards)) (range_with_len 0 kept.geometry.fragments))
    (range_with_len 0 (pieces_of kept.length))

pub odd_reads : OddReads
odd_reads seed first last ss rs session q j name given wanted got answered =
    let s = setting_of seed first in
    let row = row_at s ss session.replied.ones rs q j (commands.Fetch name) (replies.Odd given wanted got) session.replied.answers refl answered in
    let odd : IsOdd None s (job_at ss q j) name wanted got (work_of row.one row.halves) = row.row.1.1 in (
      blocks_read odd.kept odd.block,
      record {
        one = row.one;
        halves = row.halves;
        its = row.there;
        odd = record {
          kept = odd.kept;
          found = odd.found;
          entries = odd.entries;
          sees = odd.sees;
          block = odd.block;
          seen = λ a b c la lb lc has.
              (let o = odd.seen a b c la lb lc has in (
                o.0,
                o.1,
                (
                  in_range _ (pieces_of odd.kept.length) a o.0 la
                      (in_range _ odd.kept.geometry.fragments b o.0 lb
                      (in_range _ odd.kept.geometry.shards c o.0 lc (in_list (odd.block a b c) o.0 o.1))),
                  o.2.1,
                ),
              ));
          unseen = odd.unseen;
          wanted_is = odd.wanted_is;
          bytes = odd.bytes;
          joined = odd.joined;
          got_is = odd.got_is;
          differs = odd.differs;
        };
      },
    )

pub never_odd : NeverOdd
never_odd seed first last ss rs session p i q j lt name file of pieces shards answered none read wanted got was alike =
    let s = setting_of seed first in
    let put = kept_at seed first last ss rs session p i name file of pieces shards answered in
    let it = led seed first last ss rs session in
    let behind = behind_at ss 1 session.replied.ones session.done p q put.one was.one lt session.replied.are put.there was.its in
    let earlier : List Logged = behind.cut.index_earlier in
    let sofar : List Logged = was.odd.found.sofar in
    let found = transition s session.done was.one was.halves (job_at ss q j) name was.odd.kept (names_of first) it.sofar behind.cut was.odd.found it.begins it.to in
    let names = first_names first session.fits in
    let quiet = steps_quiet name s ss 1 session.replied.ones rs session.done q was.one session.replied.are session.replied.answers was.its none
    (subst (Quiet name) (sym (session.follows.index_begins ∙ session.opened)) (quiet_none name)) in
    let log_quiet : Quiet name (earlier ++ sofar) =
    quiet_both name earlier sofar
    (λ x has. quiet.0 x (subst (λ l. Contains l x) (sym behind.cut.index_before) (Contains-append_right session.done.index_before earlier x has)))
    (λ x has. quiet.1 x (subst (λ l. Contains l x) (sym was.odd.found.at) (Contains-append_left sofar (plain (Find (job_at ss q j) name true) ∷ was.odd.found.later) x has))) in
    let entry : Logged = bringing (Publish (job_at ss p i) name (mark_of put.its.kept)) put.its.kept in
    let stays = published_stays first.rack (names_of first) found.now (earlier ++ sofar) (job_at ss p i) name (mark_of put.its.kept) put.its.kept names found.to
    (Contains-append_left earlier sofar entry
    (behind.index_has entry (published_in s (job_at ss p i) name file pieces shards put.one put.halves put.its))) log_quiet in
    let same : was.odd.kept ≡ put.its.kept =
    one_record found.now.published was.odd.kept put.its.kept (replay_keeps first.rack (names_of first) found.now (earlier ++ sofar) names found.to).ascends
    found.is.0 stays (found.is.1 ∙ sym put.its.is_record.named) in
    not_odd seed first last ss rs session p i name file pieces shards put s (work_of was.one was.halves) (job_at ss q j) read wanted got was.odd same
    (seen_is_put seed first last ss rs session p i name file pieces shards put was.one was.halves behind (job_at ss q j)) alike
