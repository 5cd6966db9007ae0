-- What a vault that ended leaves: its records, its tables, and the archives of its groups.
use Rattle.std.proofs.Common.{◌≡◌, ◌<◌, ◌≤◌, ◌^◌, ◌+◌, ◌++◌, inl, inr, ⊎_elim, ℕ, zero, suc, List, [], ◌∷◌, length, map, refl, sym, ap, subst, ◌∙◌, arith, get_or}
use Rattle.std.specs.Prelude.{Some, None, All, Contains, filter, option_map, slice_get, slice_index_or, flat_map}
use Rattle.std.proofs.lemmas.List.{length-map}
use lib.Seq.{drop-nil}
use Rattle.std.proofs.lemmas.List.Elements.{Contains-append_cases, filter-append}
use Rattle.std.proofs.lemmas.Option.{slice_get-map, slice_get_within}
use Rattle.pot_bytes.specs.Digests.{digest_of}
use Rattle.pot_bytes.specs.Rack.{log_bound}
use Rattle.pot_bytes.specs.declared.digest.Digest.{Digest}
use Rattle.pot_bytes.specs.declared.rack.Place.{Place}
use Rattle.pot_bytes.specs.declared.rack.Rack.{Rack}
use Rattle.pot_bytes.proofs.Elements.{contains_front, element_at, element_of_map}
use Rattle.pot_outside.specs.Archives.{Meaning}
use Rattle.pot_outside.specs.Counts.{Rose}
use Rattle.pot_outside.specs.declared.archive.Marks.{Marks}
use Rattle.pot_outside.specs.declared.archive.Shelf.{Shelf}
use Rattle.pot_machine.specs.Table.{Table, archives_in}
use Rattle.pot_machine.specs.declared.entry.Entry.{Entry}
use Rattle.pot_index.specs.declared.entry.IndexEntry.{IndexEntry}
use Rattle.pot_index.specs.declared.record.Record.{Record}
use Rattle.pot_index.specs.Entries.{entries}
use Rattle.pot_index.specs.Index.{IndexView, IsIndex, names_read, ReplaysIndex}
use Rattle.pot_group.specs.Arrivals.{arrivals}
use Rattle.pot_group.specs.Group.{GroupView, GroupParts, IsSettled, view_of}
use Rattle.pot_group.specs.Frames.{IsFramed}
use Rattle.pot_group.specs.Heard.{HasHeard}
use Rattle.pot_shared.specs.declared.member.Taking.{Taking}
use Rattle.pot_shared.proofs.Takings.{blocks_same}
use Rattle.pot_shelves.specs.Shelves.{numbers_of, shelf_of, given, plain}
use Rattle.pot_shelves.proofs.ShelfLemmas.{rose_more}
use Rattle.pot_index.proofs.RecordLaws.{few_published}
use Rattle.pot_shard.specs.FileBlocks.{file_blocks}
use Rattle.pot_turn.specs.declared.name.TurnName.{TurnName}
use Rattle.pot_worked.specs.WroteOnlyFor.{added}
use Rattle.pot_rows.specs.Rows.{view_at}
use Rattle.pot_shared.specs.Members.{entries_of, kept_log, opened_at, origin_of, taking_at}
use Rattle.pot_shared.specs.Ready.{GroupPass, GroupPasses, AreReady}
use Rattle.pot_shared.specs.Catalogs.{IndexPasses, IsIndexReady, records_in}
use Rattle.pot_shared.specs.Seen.{SeesPut}
use Rattle.pot_shared.specs.Sharing.{EndsVault}
use Rattle.pot_shared.specs.Works.{Known, known, blinds_by, blinds_in, gained, of_job, section_of}
use Rattle.pot_shared.specs.Going.{AllOnlyWriters}
use Rattle.pot_shared.specs.Hands.{times, AreApart}
use Rattle.pot_shared.proofs.Times.{times-append}
use Rattle.pot_shared.specs.Coming.{AreMarkedBy, came_in, marks_of, taking_of}
use Rattle.pot_shared.specs.Groups.{AreServed, AreEnded, AreLow, AreTakenAt, HasMarks, HasTaken, HaveCome, IsOpened, MarksRose, MarksRoseOften, RoseBy, RoseOftenBy, had_by, tables_read, records_read}
use Rattle.pot_shared.specs.Leaving.{AreOpened, AreRecordsPut, AreWithin, IsInHand, IsPutAt, RoseInHand, RoseOftenInHand, LeavesRecords, LeavesLogs, LeaveGroups, still}
use Rattle.pot_shared.proofs.Lists.{same_at, flat_contains}
use Rattle.pot_shared.proofs.GroupLemmas.{find_shelf}
use Rattle.pot_rows.proofs.RowLemmas.{at_past}
use Rattle.pot_shared.specs.Blinded.{HaveBlinds, job_blinds}
use Rattle.pot_shared.proofs.CloseLemmas.{closed_firsts, closed_kept, closed_log, closed_story, its_came, members_of, none_opened, opened_by_nobody, opened_none, sole_all}
use Rattle.pot_shared.proofs.ComingLemmas.{came_marked, came_of, few_archives}
use Rattle.pot_shared.proofs.LeavingWords.{leave_groups, opened_as}
use Rattle.pot_shared.proofs.MemberLemmas.{entries_all, entries_append}

-- THE INDEX

-- it has no more records than an image may have, and its log no more entries
pub few_records : (s : IndexView) (records : List Record) → IsIndex s → records ≡ s.now.published → length records < 2 ^ 32
few_records s records is e =
    (let n = ap length e in let m = few_published s.rack (names_read s.read) s.now s.log is.replays in let few = is.read.few in let room = is.room in omega (arith, n, m, few, room))

at_most : (s : IndexView) (log : List IndexEntry) → IsIndex s → log ≡ entries s.log → length log ≤ log_bound
at_most s log is e = (let n = ap length e in let m = length-map s.log (λ x. x.entry) in let room = is.room in omega (arith, n, m, room))

pub few_entries : (s : IndexView) (log : List IndexEntry) → IsIndex s → log ≡ entries s.log → length log < 2 ^ 32
few_entries s log is e = (let n = at_most s log is e in omega (arith, n))

-- THE GROUPS

-- the archives of groups are those of the tables that they began with, and those that came
had_parts : {M : Type 0} (see : M → GroupView) (ms : List M) (n : ℕ)
    → times n (flat_map (λ m. had_by (see m)) ms) ≡ times n (flat_map archives_in (map (λ m. (see m).first) ms)) + times n (flat_map (λ m. arrivals (see m).log) ms)
had_parts see [] n = refl
had_parts see (m ∷ ms) n =
    (let a = times-append n (had_by (see m)) (flat_map (λ x. had_by (see x)) ms) in
    let b = times-append n (archives_in (see m).first) (arrivals (see m).log) in
    let c = times-append n (archives_in (see m).first) (flat_map archives_in (map (λ x. (see x).first) ms)) in
    let d = times-append n (arrivals (see m).log) (flat_map (λ x. arrivals (see x).log) ms) in
    let e = had_parts see ms n in omega (arith, a, b, c, d, e))

module _ {M : Type 0} (see : M → GroupView) (rack : Rack) (names turn : List TurnName) (groups : GroupPasses) (passes : IndexPasses) (ms : List M) (ended : IndexView)
    (ready : AreReady rack names groups) (index_ready : IsIndexReady rack names turn passes) (old : Known) (s : AreServed old (known groups passes)) (e : EndsVault (λ m. kept_log (see m)) (λ m. origin_of (see m)) rack names groups (view_at passes 0) ms ended) where
  firsts : map (λ m. (see m).first) ms ≡ tables_read groups
  firsts = closed_firsts see rack names groups (view_at passes 0) ms ended ready e

  -- the archives of the groups are those of the tables that they began with, and those that came
  pub closed_had : (numbers : List ℕ) → HaveCome old (known groups passes) numbers → (n : ℕ) → times n (flat_map (λ m. had_by (see m)) ms) ≡ times n numbers
  closed_had numbers have n =
      (let a = had_parts see ms n in
      let b : times n (flat_map archives_in (map (λ m. (see m).first) ms)) ≡ times n (flat_map archives_in (tables_read groups)) = ap (λ ts. times n (flat_map archives_in ts)) firsts in
      let c = came_of (λ m. (see m).log) ms (gained old.groups groups) (its_came see rack names turn groups passes ms ended ready index_ready old s e) n in
      let d : times n (came_in (length ms) (gained old.groups groups)) ≡ times n (came_in (length old.groups.names) (gained old.groups groups)) =
      ap (λ k. times n (came_in k (gained old.groups groups))) (members_of see rack names turn groups passes ms ended ready index_ready old s e) in
      let h = have (sole_all see rack names turn groups passes ms ended ready index_ready old s e) n in omega (arith, a, b, c, d, h))

  -- so there are few
  pub closed_few : (numbers : List ℕ) → HaveCome old (known groups passes) numbers → AreApart numbers → AreLow numbers → length (flat_map (λ m. had_by (see m)) ms) ≤ 512
  closed_few numbers have apart low =
      few_archives (flat_map (λ m. had_by (see m)) ms)
      (λ n. (let a = closed_had numbers have n in let b = apart n in omega (arith, a, b)))
      (λ n lt. closed_had numbers have n ∙ low n lt)

  pub closed_long : length ms ≡ length (tables_read groups)
  closed_long = sym (length-map ms (λ m. (see m).first)) ∙ ap length firsts

  -- its log leads from the records read to those that are left, and it is what the passes gained
  closed_records : (log : List IndexEntry) (records : List Record) → log ≡ entries ended.log → records ≡ ended.now.published
      → LeavesRecords rack (records_read passes) (added (view_at old.index 0) (view_at passes 0)) log records
  closed_records log records el er = subst (λ story. LeavesRecords rack (records_read passes) story log records) (closed_story see rack names turn groups passes ms ended ready index_ready old s e) (record {
    ended = ended.now;
    is_log = el;
    replays = subst (λ rs. ReplaysIndex rack (names_read rs) ended.log ended.now) (ap records_in e.index_closed.named)
        (subst (λ r. ReplaysIndex r (names_read ended.read) ended.log ended.now) e.index_rack e.is_index.replays);
    is = er;
  })

  -- what the kept passes have seen stands in the logs
  seen_logged : (logs : List (List Entry)) → logs ≡ map (λ m. (see m).log) ms → (p : Place) (d : Digest) → SeesPut e.kept p d → IsPutAt logs p
  seen_logged logs eg p d (lt, (job, put, kept, has)) =
      let within : p.group < length ms = (let a = ap length e.kept_names in let b = e.closed.count in let c = ap length e.whole_of.0 in omega (arith, lt, a, b, c)) in
      let m = element_at ms p.group within in
      let its = (e.joined p.group).its_begins in
      let whole : (see m.0).log ≡ entries_of (view_at e.kept p.group).seen ++ entries_of its.0 =
      sym (entries_all (see m.0).shelves (see m.0).blinds (see m.0).log) ∙ (ap entries_of ((e.closed.each p.group m.0 m.1).seen ∙ its.1) ∙ entries_append (view_at e.kept p.group).seen its.0) in (
        (see m.0).log,
        subst (λ ls. slice_get ls p.group ≡ Some (see m.0).log) (sym eg) (slice_get-map (λ x. (see x).log) ms p.group ∙ ap (option_map (λ x. (see x).log)) m.1),
        (job, d, put, kept, subst (λ l. Contains l put) (sym whole) (contains_front (entries_of (view_at e.kept p.group).seen) (entries_of its.0) put has)),
      )

  -- so what came to the index was put
  are_put : (logs : List (List Entry)) → logs ≡ map (λ m. (see m).log) ms → AreRecordsPut logs (added (view_at old.index 0) (view_at passes 0))
  are_put logs eg = subst (AreRecordsPut logs) (closed_story see rack names turn groups passes ms ended ready index_ready old s e) (record {
    puts = λ r brought b p at. (let f = e.seen r brought in seen_logged logs eg p (digest_of (slice_index_or (file_blocks r.geometry f.file f.random) b [])) (f.puts b p at));
    once = e.once;
  })

  -- what the vault leaves
  pub closed_leaves : (logs : List (List Entry)) (log : List IndexEntry) (records : List Record) → logs ≡ map (λ m. (see m).log) ms → log ≡ entries ended.log → records ≡ ended.now.published
      → LeavesLogs old (known groups passes) rack logs log records
  closed_leaves logs log records eg el er = record {
    sole = sole_all see rack names turn groups passes ms ended ready index_ready old s e;
    are_logs = λ n l q. (let m = element_of_map (λ m. (see m).log) ms n l (subst (λ ls. slice_get ls n ≡ Some l) eg q) in
        sym m.2 ∙ closed_log see rack names turn groups passes ms ended ready index_ready old s e n m.0 m.1);
    records = closed_records log records el er;
    few = at_most ended log e.is_index el;
    put = are_put logs eg;
  }

-- WHAT THE GROUPS LEAVE

-- what the archives of a group hold, held and heard, by what their numbers meant
within_of : (meant : ℕ → Meaning) (g : GroupView) → IsFramed g.first g.log g.tried g.shelves → HasHeard g.first g.log g.blinds g.flights g.shelves → HasTaken meant g → AreWithin meant g
within_of meant g frame heard taken = record {
  givens = heard.givens;
  are = heard.are;
  fly = heard.fly;
  each = λ n has. record {
    held = λ slot block l e. elim (frame.held n slot block e) [
      | inl before ↦ inl (sym (blocks_same (g.shelves.taken n).held (meant n).held (ap (λ (x : Taking). x.blocks) (taken n has)) slot l) ∙ before)
      | inr now ↦ inr now
    ];
    history = λ block h. elim (frame.history n block h) [
      | inl before ↦ inl (subst (λ bs. Contains bs block) (ap (λ (x : Taking). x.history) (taken n has)) before)
      | inr now ↦ inr now
    ];
    heard = λ x h. elim (heard.sums n x h) [
      | inl before ↦ inl (subst (λ xs. Contains xs x) (ap (λ (y : Taking). y.heard) (taken n has)) before)
      | inr now ↦ inr now
    ];
    kept = λ slot block l e. elim (frame.kept n slot block (blocks_same (g.shelves.taken n).held (meant n).held (ap (λ (x : Taking). x.blocks) (taken n has)) slot l ∙ e)) [
      | inl y ↦ inl y
      | inr y ↦ elim y [
        | inl z ↦ inr (inl z)
        | inr z ↦ inr (inr (subst (λ k. Rose k (g.shelves.losses n)) (ap (λ (x : Taking). x.marks.losses) (taken n has)) z))
      ]
    ];
  };
}

module _ {A M : Type 0} (told : Type 0) (meaning : A → Meaning) (parts : M → GroupParts A) (rack : Rack) (names turn : List TurnName) (groups : GroupPasses) (passes : IndexPasses) (ms : List M) (ended : IndexView)
    (ready : AreReady rack names groups) (index_ready : IsIndexReady rack names turn passes) (old : Known) (s : AreServed old (known groups passes))
    (e : EndsVault (λ m. kept_log (view_of meaning (parts m))) (λ m. origin_of (view_of meaning (parts m))) rack names groups (view_at passes 0) ms ended) (all : AreEnded told (λ m. view_of meaning (parts m)) ms)
    (meant : ℕ → Meaning) (taken : told → AreTakenAt meant old.groups)
    (marks : told → AllOnlyWriters old (known groups passes) → (g : ℕ) → g < length old.groups.names → AreMarkedBy meant (added (view_at old.groups g) (view_at groups g))) (hand : List (Shelf A)) (is_hand : hand ≡ flat_map (λ m. (parts m).shelves.shelves) ms) where
  -- its origin is the one that its first pass knows
  origin_is : (n : ℕ) (m : M) → slice_get ms n ≡ Some m → (view_at old.groups n).origin ≡ Some (origin_of (view_of meaning (parts m)))
  origin_is n m q = sym (s.stays.groups.origin n) ∙ (sym (ap (λ (v : GroupPass). v.origin) (e.joined n).both) ∙ sym (e.closed.each n m q).named)

  -- its archives were taken as the first passes know, and as they came
  took : (n : ℕ) (m : M) → slice_get ms n ≡ Some m → told → HasTaken meant (view_of meaning (parts m))
  took n m q t k has = ⊎_elim
      (λ (h : Contains (archives_in (parts m).first) k).
      same_at (taking_at (plain meaning (parts m).shelves)) (λ x. taking_of (meant x)) (archives_in (parts m).first) k
      (taken t n (origin_of (view_of meaning (parts m))) (origin_is n m q)).0 h)
      (λ (h : Contains (arrivals (parts m).log) k).
      came_marked meant (plain meaning (parts m).shelves) (view_of meaning (parts m)).blinds (parts m).log (view_at old.groups n).seen (added (view_at old.groups n) (view_at groups n))
      (closed_kept (λ x. view_of meaning (parts x)) rack names turn groups passes ms ended ready index_ready old s e n m q)
      (opened_none (λ x. view_of meaning (parts x)) rack names turn groups passes ms ended ready index_ready old s e n m q)
      (marks t (sole_all (λ x. view_of meaning (parts x)) rack names turn groups passes ms ended ready index_ready old s e) n
      (let a = slice_get_within ms n m q in let b = members_of (λ x. view_of meaning (parts x)) rack names turn groups passes ms ended ready index_ready old s e in omega (arith, a, b))) k h)
      (Contains-append_cases (archives_in (parts m).first) (arrivals (parts m).log) k has)

  -- and so were their marks
  marked : (n : ℕ) (m : M) → slice_get ms n ≡ Some m → told → HasMarks meant (view_of meaning (parts m))
  marked n m q t k has = ap (λ (x : Taking). x.marks) (took n m q t k has)

  -- what they hold, held and heard
  within : (n : ℕ) (m : M) → slice_get ms n ≡ Some m → told → AreWithin meant (view_of meaning (parts m))
  within n m q t = within_of meant (view_of meaning (parts m)) ((all n m q).settled.frame t) ((all n m q).settled.heard t) (took n m q t)

  -- its archives are in the hand
  handed : (n : ℕ) (m : M) → slice_get ms n ≡ Some m → (k : ℕ) → Contains (had_by (view_of meaning (parts m))) k → IsInHand meaning hand (plain meaning (parts m).shelves) k
  handed n m q k has = (
    found.0,
    subst (λ ss. Contains ss found.0) (sym is_hand) (flat_contains (λ x. (parts x).shelves.shelves) ms n m found.0 q found.3),
    found.2,
    record {
      blocks = λ slot. ap (λ o. given (λ x. (meaning x).held slot) None o) found.1;
      history = ap (λ o. given (λ x. (meaning x).history) [] o) found.1;
      sums = ap (λ o. given (λ x. (meaning x).heard) [] o) found.1;
      faults = ap (λ o. given (λ x. (meaning x).faults) 0 o) found.1;
      losses = ap (λ o. given (λ x. (meaning x).losses) 0 o) found.1;
    },
  )
    where
      numbers : numbers_of (parts m).shelves.shelves ≡ had_by (view_of meaning (parts m))
      numbers = (all n m q).arrived

      found : (x : Shelf A) × (shelf_of (parts m).shelves.shelves k ≡ Some x) × (x.number ≡ k) × Contains (parts m).shelves.shelves x
      found = find_shelf (parts m).shelves.shelves k (subst (λ ns. Contains ns k) (sym numbers) has)

  -- a count that rose in an opening is above what its number meant, at an archive in the hand
  opened_in_hand : (n : ℕ) (m : M) → slice_get ms n ≡ Some m → told → (marks : ℕ → Marks) → map (opened_at (plain meaning (parts m).shelves)) (archives_in (parts m).first) ≡ map marks (archives_in (parts m).first)
      → (k : ℕ) → RoseBy meant (parts m).first marks k → RoseInHand meaning hand meant k
  opened_in_hand n m q t marks are k (has, rose) = (x.0, x.1, x.2, risen rose)
    where
      x : IsInHand meaning hand (plain meaning (parts m).shelves) k
      x = handed n m q k (contains_front (archives_in (parts m).first) (arrivals (parts m).log) k has)

      at : opened_at (plain meaning (parts m).shelves) k ≡ marks k
      at = same_at (opened_at (plain meaning (parts m).shelves)) marks (archives_in (parts m).first) k are has

      settled : IsSettled told (view_of meaning (parts m))
      settled = (all n m q).settled

      risen : MarksRose (marks_of (meant k)) (marks k) → MarksRose (marks_of (meant k)) (marks_of (meaning x.0.archive))
      risen (inl r) = inl (rose_more (meant k).faults (marks k).faults (meaning x.0.archive).faults r
          (let a = ap (λ (y : Marks). y.faults) at in let b = settled.opened_faults k in let e = x.3.faults in omega (arith, a, b, e)))
      risen (inr r) = inr (rose_more (meant k).losses (marks k).losses (meaning x.0.archive).losses r
          (let a = ap (λ (y : Marks). y.losses) at in let b = settled.opened_losses t k in let e = x.3.losses in omega (arith, a, b, e)))

  -- and as often as it did
  often_in_hand : (n : ℕ) (m : M) → slice_get ms n ≡ Some m → told → (marks : ℕ → Marks) → map (opened_at (plain meaning (parts m).shelves)) (archives_in (parts m).first) ≡ map marks (archives_in (parts m).first)
      → (k often : ℕ) → RoseOftenBy meant (parts m).first marks k often → RoseOftenInHand meaning hand meant k often
  often_in_hand n m q t marks are k often (has, rose) = (x.0, x.1, x.2, risen rose)
    where
      x : IsInHand meaning hand (plain meaning (parts m).shelves) k
      x = handed n m q k (contains_front (archives_in (parts m).first) (arrivals (parts m).log) k has)

      at : opened_at (plain meaning (parts m).shelves) k ≡ marks k
      at = same_at (opened_at (plain meaning (parts m).shelves)) marks (archives_in (parts m).first) k are has

      settled : IsSettled told (view_of meaning (parts m))
      settled = (all n m q).settled

      faults : (marks k).faults ≤ (meaning x.0.archive).faults
      faults = (let a = ap (λ (y : Marks). y.faults) at in let b = settled.opened_faults k in let e = x.3.faults in omega (arith, a, b, e))

      risen : MarksRoseOften often (marks_of (meant k)) (marks k) → MarksRoseOften often (marks_of (meant k)) (marks_of (meaning x.0.archive))
      risen (inl (inl more)) = inl (inl (omega (arith, more, faults)))
      risen (inl (inr top)) = inl (inr (omega (arith, top, faults)))
      risen (inr r) = inr (rose_more (meant k).losses (marks k).losses (meaning x.0.archive).losses r
          (let a = ap (λ (y : Marks). y.losses) at in let b = settled.opened_losses t k in let e = x.3.losses in omega (arith, a, b, e)))

  -- what stood in the logs at the start is what the openings logged
  pub closed_opened : told → AreOpened meant (RoseInHand meaning hand meant) (RoseOftenInHand meaning hand meant) (tables_read groups) (section_of old (known groups passes))
  closed_opened t g u q =
      let m = element_of_map (λ m. (parts m).first) ms g u (ap (λ ts. slice_get ts g) (closed_firsts (λ m. view_of meaning (parts m)) rack names groups (view_at passes 0) ms ended ready e) ∙ q) in
      let o = taken t g (origin_of (view_of meaning (parts m.0))) (origin_is g m.0 m.1) in
      subst (λ v. IsOpened meant (RoseInHand meaning hand meant) (RoseOftenInHand meaning hand meant) v (entries_of (view_at old.groups g).seen)) m.2
      (opened_as meant (RoseBy meant (parts m.0).first o.1.marks) (RoseInHand meaning hand meant) (RoseOftenBy meant (parts m.0).first o.1.marks) (RoseOftenInHand meaning hand meant) (parts m.0).first (entries_of (view_at old.groups g).seen)
      (opened_in_hand g m.0 m.1 t o.1.marks o.1.are) (often_in_hand g m.0 m.1 t o.1.marks o.1.are) o.1.opened)

  -- the blinds that a job's relays have in its log are those that the passes saw
  blinds_are : (n : ℕ) (m : M) → slice_get ms n ≡ Some m → (job : ℕ) → 0 < job → job_blinds job (view_of meaning (parts m)) ≡ blinds_by job old.groups groups n
  blinds_are n m q job some =
      ap (λ ls. blinds_in (filter (of_job job) ls)) (closed_kept (λ x. view_of meaning (parts x)) rack names turn groups passes ms ended ready index_ready old s e n m q)
      ∙ (ap blinds_in (filter-append (of_job job) (view_at old.groups n).seen (added (view_at old.groups n) (view_at groups n))
      ∙ ap (λ ls. ls ++ filter (of_job job) (added (view_at old.groups n) (view_at groups n)))
      (none_opened job some (view_at old.groups n).seen (opened_by_nobody (λ x. view_of meaning (parts x)) rack names turn groups passes ms ended ready index_ready old s e n m q))))

  pub closed_groups : (logs : List (List Entry)) (tables : List Table) → logs ≡ map (λ m. (parts m).log) ms → tables ≡ map (λ m. (parts m).table) ms
      → (left : LeaveGroups told meant (IsInHand meaning hand) (tables_read groups) logs (map still tables)) × ((job : ℕ) → 0 < job → HaveBlinds left job (blinds_by job old.groups groups))
  closed_groups logs tables el et =
      subst (λ ts. Left ts logs (map still tables)) (closed_firsts (λ m. view_of meaning (parts m)) rack names groups (view_at passes 0) ms ended ready e)
      (subst (λ ls. Left (map (λ m. (parts m).first) ms) ls (map still tables)) (sym el)
      (subst (λ ts. Left (map (λ m. (parts m).first) ms) (map (λ m. (parts m).log) ms) (map still ts)) (sym et) (
        left.0,
        λ job some. record {
          are = λ g t u log is_read is_written is_log. left.1 g t u log is_read is_written is_log job some;
          none = λ g le. ap (λ (v : GroupPass). blinds_in (filter (of_job job) (added (view_at old.groups g) v)))
              (at_past names groups g ready.of (let a = members_of (λ x. view_of meaning (parts x)) rack names turn groups passes ms ended ready index_ready old s e in let b = length-map ms (λ m. (parts m).first) in
              let c = ap length s.stays.groups.names in let d = ap length ready.of.0 in omega (arith, le, a, b, c, d)))
              ∙ ap (λ ls. blinds_in (filter (of_job job) ls)) (drop-nil (length (view_at old.groups g).seen));
        },
      )))
    where
      Left : List Table → List (List Entry) → List Table → Type 0
      Left read ls written = (l : LeaveGroups told meant (IsInHand meaning hand) read ls written) × ((job : ℕ) → 0 < job → HaveBlinds l job (blinds_by job old.groups groups))

      left : (l : LeaveGroups told meant (IsInHand meaning hand) (map (λ m. (parts m).first) ms) (map (λ m. (parts m).log) ms) (map still (map (λ m. (parts m).table) ms)))
          × ((g : ℕ) (t u : Table) (log : List Entry) (a : slice_get (map (λ m. (parts m).first) ms) g ≡ Some t) (b : slice_get (map still (map (λ m. (parts m).table) ms)) g ≡ Some u)
          (c : slice_get (map (λ m. (parts m).log) ms) g ≡ Some log) (job : ℕ) → 0 < job → job_blinds job (l.each g t u log a b c).view ≡ blinds_by job old.groups groups g)
      left = leave_groups told meant (IsInHand meaning hand) (λ m. view_of meaning (parts m)) ms (λ n g. (job : ℕ) → 0 < job → job_blinds job g ≡ blinds_by job old.groups groups n) (λ n m q. (
        record {
          view = view_of meaning (parts m);
          first = refl;
          is_log = refl;
          is = refl;
          settled = (all n m q).settled;
          execution = (all n m q).execution;
          marked = marked n m q;
          taken = took n m q;
          within = within n m q;
          archives = handed n m q;
        },
        blinds_are n m q,
      ))

-- each log has no more entries than an image may have
few_logs : {M : Type 0} (see : M → GroupView) (ms : List M) → ((n : ℕ) (m : M) → slice_get ms n ≡ Some m → length (see m).log ≤ 262144) → (logs : List (List Entry)) → logs ≡ map (λ m. (see m).log) ms
    → (k : ℕ) (d : List Entry) → k < length logs → length (get_or logs k d) < 2 ^ 32
few_logs see [] few logs e k d l = absurd (let n = ap length e in omega (arith, n, l))
few_logs see (m ∷ ms) few logs e zero d l = subst (λ ls. length (get_or ls 0 d) < 2 ^ 32) (sym e) (let z : length (see m).log < 2 ^ 32 = (let f = few 0 m refl in omega (arith, f)) in z)
few_logs see (m ∷ ms) few logs e (suc k) d l =
    subst (λ ls. length (get_or ls (suc k) d) < 2 ^ 32) (sym e)
    (few_logs see ms (λ n x q. few (suc n) x q) (map (λ x. (see x).log) ms) refl k d (let n = ap length e in omega (arith, n, l)))

pub all_few : {M : Type 0} (told : Type 0) (see : M → GroupView) (ms : List M) → AreEnded told see ms → (logs : List (List Entry)) → logs ≡ map (λ m. (see m).log) ms → All (λ (l : List Entry). length l < 2 ^ 32) logs
all_few told see ms ended logs e = λ k d l. few_logs see ms (λ n m q. (ended n m q).settled.bound) logs e k d l
