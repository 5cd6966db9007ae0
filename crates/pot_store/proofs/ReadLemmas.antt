-- Visits after visits.
use Rattle.std.proofs.Common.{◌≡◌, ◌≢◌, ◌<◌, ◌≤◌, inl, ⊎_elim, ℕ, zero, suc, ◌+◌, ◌-◌, Bool, true, false, List, [], ◌∷◌, ◌++◌, length, refl, ap, sym, ◌∙◌, subst, arith, append-nil, append_assoc, length-append, replicate}
use Rattle.std.specs.Prelude.{IfSome, Contains, filter, slice_set, if◌then◌else◌}
use Rattle.std.proofs.lemmas.List.Elements.{Contains-append_right}
use Rattle.std.proofs.lemmas.List.{map-append}
use Rattle.std.proofs.lemmas.Bool.{cases_eq, cases_lt}
use lib.Seq.{drop-length}
use Rattle.pot_bytes.specs.declared.rack.Place.{Place}
use Rattle.pot_bytes.proofs.Elements.{parted_at}
use Rattle.pot_machine.specs.declared.entry.Entry.{Entry}
use Rattle.pot_machine.specs.declared.entry.Entry.TheVariants as entry
use Rattle.pot_machine.specs.declared.slot.SlotState.TheVariants.{Live}
use Rattle.pot_machine.specs.Machine.{Replays}
use Rattle.pot_machine.specs.Table.{slot_at}
use Rattle.pot_machine.specs.Logs.{is_of, own, replayed}
use Rattle.pot_bytes.specs.Digests.{digest_of}
use Rattle.pot_worked.specs.WroteOnlyFor.{added}
use Rattle.pot_worked.proofs.WroteOnlyForLemmas.{both_added}
use Rattle.pot_rows.specs.Rows.{view_at}
use Rattle.pot_rows.specs.Works.{RowWroteOnlyFor, RowOnlyWriterOf, AllIdle}
use Rattle.pot_rows.proofs.WorkLemmas.{row_work_in_parts, row_alone_in_parts}
use Rattle.pot_shared.specs.Members.{entries_of}
use Rattle.pot_shared.specs.Ready.{GroupPasses}
use Rattle.pot_shared.specs.Works.{of_job, gained}
use Rattle.pot_shared.specs.Adds.{Adds}
use Rattle.pot_store.specs.Visits.{Came, Lost, Visit, unvisited, IsVisit, IsReadAt, ReadsBlock, SoundThenGone, EndsGone, visit_at, place_in, logged_from}
use Rattle.pot_store.specs.Reads.{IsMade, AreMade}
use Rattle.pot_shared.proofs.WorkLemmas.{own_more, row_stays}
use Rattle.pot_store.proofs.LookLemmas.{visit_front, visit_back, visit_none, visit_set, visit_other, set_long, logged-append, logged_none, logged_last, logged_set, logged_set_else}

-- AN ENTRY AMONG OTHERS

-- what passes a test stands in the list
pub from_filter : (test : Entry → Bool) (es : List Entry) (e : Entry) → Contains (filter test es) e → Contains es e
from_filter test [] e has = has
from_filter test (x ∷ es) e has = at (test x) refl (from_filter test es e)
  where
    at : (b : Bool) → test x ≡ b → (Contains (filter test es) e → Contains es e) → Contains (x ∷ es) e
    at true is rest = first (subst (λ b. Contains (if b then x ∷ filter test es else filter test es) e) is has)
      where
        first : Contains (x ∷ filter test es) e → Contains (x ∷ es) e
        first (zero, lt, same) = (zero, omega arith, same)
        first (suc k, lt, same) = Contains-append_right (x ∷ []) es e (rest (k, omega (arith, lt), same))
    at false is rest = Contains-append_right (x ∷ []) es e (rest (subst (λ b. Contains (if b then x ∷ filter test es else filter test es) e) is has))

-- ONE VISIT MORE

-- A visit goes on: behind what it logged before come these entries.
pub record GoesOn (job : ℕ) (p : Place) (before : List Entry) (v : Visit) (old new : GroupPasses) : Type 0 where
  pub entries : List Entry
  pub are : v.entries ≡ before ++ entries
  pub adds : Adds job p.group entries old new
  pub is : IsVisit job p v
  pub block : ReadsBlock job p v.came old new
  pub again : v.came ≡ Lost → EndsGone job p v.entries → Contains before (entry.Gone job p.stripe p.column) × SoundThenGone job p (λ x. Unit {0}) old new

-- ONE PART AND THE NEXT

module _ (job : ℕ) (u v w : GroupPasses) (first : RowWroteOnlyFor (of_job job) u v) (next : RowWroteOnlyFor (of_job job) v w) where
  pub both_gained : (g : ℕ) → gained u w g ≡ gained u v g ++ gained v w g
  both_gained g =
      ap entries_of (both_added (of_job job) (view_at u g) (view_at v g) (view_at w g) (first g) (next g))
      ∙ map-append (λ l. l.entry) (added (view_at u g) (view_at v g)) (added (view_at v g) (view_at w g))

  pub seen_parts : (g : ℕ) → entries_of (view_at v g).seen ≡ entries_of (view_at u g).seen ++ gained u v g
  seen_parts g = ap entries_of (first g).seen ∙ map-append (λ l. l.entry) (view_at u g).seen (added (view_at u g) (view_at v g))

  -- a block that was read in the first part, or in the second
  read_front : (p : Place) (block : List ℕ) → IsReadAt job p block u v → IsReadAt job p block u w
  read_front p block (o, is, (a, b, at, live)) = (
    o,
    is,
    (
      a,
      b ++ gained v w p.group,
      both_gained p.group ∙ (ap (λ l. l ++ gained v w p.group) at ∙ append_assoc a (entry.Seen job p.stripe p.column ∷ b) (gained v w p.group)),
      live,
    ),
  )

  pub read_back : (p : Place) (block : List ℕ) → IsReadAt job p block v w → IsReadAt job p block u w
  read_back p block (o, is, (a, b, at, live)) = (
    o,
    sym (first p.group).origin ∙ is,
    (
      gained u v p.group ++ a,
      b,
      both_gained p.group ∙ (ap (λ l. gained u v p.group ++ l) at ∙ sym (append_assoc (gained u v p.group) a (entry.Seen job p.stripe p.column ∷ b))),
      subst (λ l. slot_at (replayed o.first l) p.stripe p.column ≡ Live (digest_of block))
          (ap (λ l. l ++ a) (seen_parts p.group) ∙ append_assoc (entries_of (view_at u p.group).seen) (gained u v p.group) a) live,
    ),
  )

  -- a second Gone in the first part, or in the second
  gone_front : (p : Place) (Behind : List Entry → Type 0) → SoundThenGone job p Behind u v → SoundThenGone job p Behind u w
  gone_front p Behind is read at =
      let (table, (x, behind, z, so, parts, sound)) = is read at in (
        table,
        (
          x,
          behind,
          z ++ gained v w p.group,
          so,
          both_gained p.group ∙ (ap (λ l. l ++ gained v w p.group) parts ∙ append_assoc (x ++ behind) (entry.Gone job p.stripe p.column ∷ z) (gained v w p.group)),
          sound,
        ),
      )

  pub gone_back : (p : Place) (Behind More : List Entry → Type 0) → ((x : List Entry) → Behind x → More (gained u v p.group ++ x))
      → SoundThenGone job p Behind v w → SoundThenGone job p More u w
  gone_back p Behind More more is read at =
      let (table, (x, behind, z, so, parts, (t, replays, sound))) = is read (subst (λ o. IfSome o (λ y. read ≡ y.first)) (sym (first p.group).origin) at) in
      let gain : List Entry = gained u v p.group in
      let gone : List Entry = entry.Gone job p.stripe p.column ∷ z in (
        table,
        (
          gain ++ x,
          behind,
          z,
          more x so,
          both_gained p.group
              ∙ (ap (λ l. gain ++ l) parts ∙ (sym (append_assoc gain (x ++ behind) gone) ∙ ap (λ l. l ++ gone) (sym (append_assoc gain x behind)))),
          (t, subst (λ l. Replays read l t) (ap (λ l. l ++ x) (seen_parts p.group) ∙ append_assoc (entries_of (view_at u p.group).seen) gain x) replays, sound),
        ),
      )

  -- the same of a whole visit
  block_back : (p : Place) (came : Came) → ReadsBlock job p came v w → ReadsBlock job p came u w
  block_back p came is b e = read_back p b (is b e)

  made_front : (p : Place) (x : Visit) → IsMade job p x u v → IsMade job p x u w
  made_front p x made = record {
    is = made.is;
    block = λ b e. read_front p b (made.block b e);
    again = λ alone lost ends.
        gone_front p (λ y. (a : List Entry) × (between : List Entry) × (y ≡ a ++ entry.Gone job p.stripe p.column ∷ between))
        (made.again (row_alone_in_parts (of_job job) u v w first next alone).0 lost ends);
  }

  made_back : (p : Place) (x : Visit) → IsMade job p x v w → IsMade job p x u w
  made_back p x made = record {
    is = made.is;
    block = block_back p x.came made.block;
    again = λ alone lost ends.
        let gone : Entry = entry.Gone job p.stripe p.column in
        let Behind : List Entry → Type 0 = λ y. (a : List Entry) × (between : List Entry) × (y ≡ a ++ gone ∷ between) in
        gone_back p Behind Behind
        (λ y (a, between, e). (gained u v p.group ++ a, between, ap (λ l. gained u v p.group ++ l) e ∙ sym (append_assoc (gained u v p.group) a (gone ∷ between))))
        (made.again (row_alone_in_parts (of_job job) u v w first next alone).1 lost ends);
  }

  -- visits to the blocks behind
  pub reads_then : (places : List Place) (from : ℕ) (vs ws : List Visit) → AreMade job places from vs u v → AreMade job places (from + length vs) ws v w → AreMade job places from (vs ++ ws) u w
  reads_then places from vs ws one two = record {
    worked = row_work_in_parts (of_job job) u v w first next;
    own = λ alone g. (let parts = row_alone_in_parts (of_job job) u v w first next alone in
        own_more job u v w first next g
        ∙ (ap (λ l. l ++ own job (gained v w g)) (one.own parts.0 g)
        ∙ (ap (λ l. logged_from places g from vs ++ l) (two.own parts.1 g) ∙ sym (logged-append places g from vs ws))));
    each = λ x lt. ⊎_elim
        (λ (l : x < length vs). subst (λ y. IsMade job (place_in places (from + x)) y u w) (sym (visit_front vs ws x l)) (made_front (place_in places (from + x)) (visit_at vs x) (one.each x l)))
        (λ (le : length vs ≤ x).
        let y : ℕ = x - length vs in
        let at : length vs + y ≡ x = omega (arith, le) in
        let place : (from + length vs) + y ≡ from + x = omega (arith, at) in
        let less : y < length ws = (let n = length-append vs ws in omega (arith, at, lt, n)) in
        subst (λ z. IsMade job (place_in places (from + x)) z u w) (sym (visit_back vs ws y) ∙ ap (visit_at (vs ++ ws)) at)
        (subst (λ n. IsMade job (place_in places n) (visit_at ws y) u w) place (made_back (place_in places ((from + length vs) + y)) (visit_at ws y) (two.each y less))))
        (cases_lt x (length vs));
  }

-- one visit among others goes on, the later ones standing in other groups
module _ (job : ℕ) (u v w : GroupPasses) (places : List Place) (from : ℕ) (vs : List Visit) (x : ℕ) (new : Visit) (lt : x < length vs)
    (later : (y : ℕ) → x < y → y < length vs → (place_in places (from + y)).group ≢ (place_in places (from + x)).group)
    (reads : AreMade job places from vs u v) (on : GoesOn job (place_in places (from + x)) (visit_at vs x).entries new v w) where
  abbrev p : Place
  p = place_in places (from + x)

  abbrev gone : Entry
  gone = entry.Gone job p.stripe p.column

  own_set : RowOnlyWriterOf (of_job job) u w → (g : ℕ) → own job (gained u w g) ≡ logged_from places g from (slice_set vs x new)
  own_set alone g =
      let parts = row_alone_in_parts (of_job job) u v w reads.worked on.adds.worked alone in
      own_more job u v w reads.worked on.adds.worked g
      ∙ (ap (λ l. l ++ own job (gained v w g)) (reads.own parts.0 g)
      ∙ ⊎_elim
      (λ (same : p.group ≡ g).
      ap (λ l. logged_from places g from vs ++ l) (ap (λ h. own job (gained v w h)) (sym same) ∙ on.adds.own_is parts.1)
      ∙ sym (logged_set places g from vs x new on.entries lt same (λ y more less e. later y more less (e ∙ sym same)) on.are))
      (λ (ne : p.group ≢ g).
      ap (λ l. logged_from places g from vs ++ l) (on.adds.none_else parts.1 g (λ e. ne (sym e)))
      ∙ (append-nil (logged_from places g from vs) ∙ sym (logged_set_else places g from vs x new ne)))
      (cases_eq p.group g))

  -- the Gone of before stands in what the first part gained
  gone_there : RowOnlyWriterOf (of_job job) u v → Contains (visit_at vs x).entries gone → Contains (gained u v p.group) gone
  gone_there alone has =
      let last = logged_last places p.group from vs x lt refl later in
      from_filter (is_of job) (gained u v p.group) gone
      (subst (λ es. Contains es gone) (sym (reads.own alone p.group ∙ last.1)) (Contains-append_right last.0 (visit_at vs x).entries gone has))

  made_new : IsMade job p new u w
  made_new = record {
    is = on.is;
    block = block_back job u v w reads.worked on.adds.worked p new.came on.block;
    again = λ alone lost ends.
        let parts = row_alone_in_parts (of_job job) u v w reads.worked on.adds.worked alone in
        let it = on.again lost ends in
        let at = parted_at (gained u v p.group) gone (gone_there parts.0 it.0) in
        gone_back job u v w reads.worked on.adds.worked p (λ y. Unit {0}) (λ y. (a : List Entry) × (between : List Entry) × (y ≡ a ++ gone ∷ between))
        (λ y so. (at.0, at.1 ++ y, ap (λ l. l ++ y) at.2 ∙ append_assoc at.0 (gone ∷ at.1) y)) it.1;
  }

  pub reads_set : AreMade job places from (slice_set vs x new) u w
  reads_set = record {
    worked = row_work_in_parts (of_job job) u v w reads.worked on.adds.worked;
    own = own_set;
    each = λ y less. ⊎_elim
        (λ (same : y ≡ x).
        subst (λ z. IsMade job (place_in places (from + z)) (visit_at (slice_set vs x new) z) u w) (sym same) (subst (λ z. IsMade job p z u w) (sym (visit_set vs x new lt)) made_new))
        (λ (ne : y ≢ x).
        subst (λ z. IsMade job (place_in places (from + y)) z u w) (sym (visit_other vs x y new ne))
        (made_front job u v w reads.worked on.adds.worked (place_in places (from + y)) (visit_at vs y) (reads.each y (let l = set_long vs x new in omega (arith, l, less)))))
        (cases_eq y x);
  }

-- NONE YET

is_unvisited : (job : ℕ) (p : Place) → IsVisit job p unvisited
is_unvisited job p = record {
  kinds = λ e (k, lt, is). absurd (omega (arith, lt));
  looks = inl refl;
  one_stuck = omega arith;
  begun = omega arith;
  seen = refl;
  ends = refl;
}

unmade : (job : ℕ) (p : Place) (u : GroupPasses) → IsMade job p unvisited u u
unmade job p u = record {
  is = is_unvisited job p;
  block = λ b e. absurd (cc e);
  again = λ alone lost ends. absurd (cc lost);
}

pub no_reads : (job : ℕ) (places : List Place) (from n : ℕ) (u : GroupPasses) → AllIdle u → AreMade job places from (replicate n unvisited) u u
no_reads job places from n u idle = record {
  worked = row_stays (of_job job) u idle;
  own = λ alone g. ap (λ ls. own job (entries_of ls)) (drop-length (view_at u g).seen) ∙ sym (logged_none places g from n);
  each = λ x lt. subst (λ v. IsMade job (place_in places (from + x)) v u u) (sym (visit_none n x)) (unmade job (place_in places (from + x)) u);
}
