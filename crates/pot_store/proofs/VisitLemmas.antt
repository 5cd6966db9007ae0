-- A look at a place, as a visit, and what was read behind other work.
use Rattle.std.proofs.Common.{◌≡◌, ◌<◌, ◌⊎◌, inl, inr, ⊎_elim, ℕ, zero, suc, true, List, [], ◌∷◌, ◌++◌, length, refl, ap, sym, ◌∙◌, subst, arith, append_assoc, eq-eqb}
use Rattle.std.specs.Prelude.{Contains, ◌==◌, ◌&&◌}
use Rattle.std.proofs.lemmas.List.{map-append}
use Rattle.pot_bytes.specs.declared.rack.Place.{Place}
use Rattle.pot_bytes.specs.Rack.{log_bound}
use Rattle.pot_machine.specs.declared.entry.Entry.{Entry}
use Rattle.pot_machine.specs.declared.entry.Entry.TheVariants as entry
use Rattle.pot_machine.specs.declared.slot.SlotState.TheVariants.{Live}
use Rattle.pot_machine.specs.Table.{slot_at}
use Rattle.pot_machine.specs.Logs.{is_of, replayed}
use Rattle.pot_machine.proofs.Logs.{replays_is}
use Rattle.pot_steps.specs.GroupStep.{look_entries}
use Rattle.pot_bytes.specs.Digests.{digest_of}
use Rattle.pot_group.specs.declared.answers.Looked.{Looked}
use Rattle.pot_group.specs.declared.answers.Looked.TheVariants as looked
use Rattle.pot_group.specs.Group.{GroupView, LookCause, looked_as}
use Rattle.pot_worked.specs.WroteOnlyFor.{added}
use Rattle.pot_worked.specs.Laws.{AllOf}
use Rattle.pot_worked.proofs.WroteOnlyForLemmas.{behind, both_added}
use Rattle.pot_rows.specs.Rows.{view_at}
use Rattle.pot_rows.specs.Works.{AllIdle, RowWroteOnlyFor}
use Rattle.pot_rows.proofs.RowLemmas.{at_set}
use Rattle.pot_replies.specs.Fetches.{SeenAs}
use Rattle.pot_shared.specs.declared.member.Logged.{Logged}
use Rattle.pot_shared.specs.Members.{entries_of, origin_of}
use Rattle.pot_shared.specs.Ready.{GroupPass, GroupPasses}
use Rattle.pot_group.specs.Calls.{LookCall}
use Rattle.pot_shared.specs.Calls.{CallAt, marked}
use Rattle.pot_shared.proofs.MemberLemmas.{entries_all, entries_kept}
use Rattle.pot_shared.specs.Adds.{Adds}
use Rattle.pot_shared.specs.Works.{gained, of_job}
use Rattle.pot_store.specs.Visits.{Came, IsFullLog, IsReadAt, IsVisit, LooksOnce, MayVisit, ReadsBlock, look_logs}
use Rattle.pot_store.specs.Visits as came
use Rattle.pot_shared.proofs.WorkLemmas.{all_none, all_one}
use Rattle.pot_shared.proofs.AddLemmas.{adds_call, left_long, seen_parts}

-- ONE LOCKED CALL

module _ (told : Type 0) (R : GroupView → GroupView → List Entry → Type 0) (group : ℕ) (v w : GroupPasses) (within : group < length v.views) (call : CallAt told R group v w) where
  abbrev its_marked : List Logged
  its_marked = marked call.turn

  its_seen : (view_at w group).seen ≡ ((view_at v group).seen ++ call.turn.others) ++ its_marked
  its_seen = ap (λ (r : GroupPasses). (view_at r group).seen) call.is ∙ (ap (λ (x : GroupPass). x.seen) (at_set v group call.pass within) ∙ ap (λ (x : GroupPass). x.seen) call.turn.turn)

  -- the log that it met
  pub log_met : call.turn.old.log ≡ entries_of (view_at v group).seen ++ entries_of call.turn.others
  log_met = sym (entries_kept call.turn.old) ∙ (ap entries_of call.turn.transition ∙ map-append (λ l. l.entry) (view_at v group).seen call.turn.others)

  -- what the pass of the group gained
  pub gained_by : gained v w group ≡ entries_of call.turn.others ++ call.turn.entries
  gained_by =
      ap entries_of (behind (view_at w group).seen (view_at v group).seen (call.turn.others ++ its_marked) (its_seen ∙ append_assoc (view_at v group).seen call.turn.others its_marked))
      ∙ (map-append (λ l. l.entry) call.turn.others its_marked
      ∙ ap (λ es. entries_of call.turn.others ++ es) (entries_all call.turn.new.shelves call.turn.more call.turn.entries))

-- WHAT A LOOK COMES TO

abbrev pub came_as : Looked → List ℕ → Came
came_as looked.Seen into = came.Seen into
came_as looked.Gone into = came.Gone
came_as (looked.Faulted column) into = came.Failed column
came_as looked.LogFull into = came.Barred

as_logged : (job : ℕ) (p : Place) (a : Looked) (into : List ℕ) → look_entries job p.stripe p.column (looked_as a into) ≡ look_logs job p (came_as a into)
as_logged job p looked.Seen into = refl
as_logged job p looked.Gone into = refl
as_logged job p (looked.Faulted column) into = refl
as_logged job p looked.LogFull into = refl

all_its : (job : ℕ) (p : Place) (a : Looked) (into : List ℕ) → AllOf (is_of job) (look_logs job p (came_as a into))
all_its job p looked.Seen into = all_one (is_of job) (entry.Seen job p.stripe p.column) (eq-eqb job job refl)
all_its job p looked.Gone into = all_one (is_of job) (entry.Gone job p.stripe p.column) (eq-eqb job job refl)
all_its job p (looked.Faulted column) into = all_one (is_of job) (entry.Fault job p.stripe p.column) (eq-eqb job job refl)
all_its job p looked.LogFull into = all_none (is_of job)

-- never that it was not made, nor that a mend was in vain
looked_known : (a : Looked) (into : List ℕ) → (came_as a into ≡ came.Unknown) ⊎ (came_as a into ≡ came.Lost) → ⊥
looked_known looked.Seen into e = ⊎_elim (λ x. cc x) (λ x. cc x) e
looked_known looked.Gone into e = ⊎_elim (λ x. cc x) (λ x. cc x) e
looked_known (looked.Faulted column) into e = ⊎_elim (λ x. cc x) (λ x. cc x) e
looked_known looked.LogFull into e = ⊎_elim (λ x. cc x) (λ x. cc x) e

-- only Seen gives a block, and that is the one that was read
seen_is : (a : Looked) (into block : List ℕ) → came_as a into ≡ came.Seen block → (a ≡ looked.Seen) × (into ≡ block)
seen_is looked.Seen into block e = (refl, cc e)
seen_is looked.Gone into block e = absurd (cc e)
seen_is (looked.Faulted column) into block e = absurd (cc e)
seen_is looked.LogFull into block e = absurd (cc e)

barred_is : (a : Looked) (into : List ℕ) → came_as a into ≡ came.Barred → a ≡ looked.LogFull
barred_is looked.Seen into e = absurd (cc e)
barred_is looked.Gone into e = absurd (cc e)
barred_is (looked.Faulted column) into e = absurd (cc e)
barred_is looked.LogFull into e = refl

-- THE VISIT

-- every entry of a list of one is of this kind
pub just_this : (job : ℕ) (p : Place) (x : Entry) → MayVisit job p x → (e : Entry) → Contains (x ∷ []) e → MayVisit job p e
just_this job p x may e (zero, lt, is) = subst (MayVisit job p) is may
just_this job p x may e (suc k, lt, is) = absurd (omega (arith, lt))

pub no_entry : (job : ℕ) (p : Place) (e : Entry) → Contains [] e → MayVisit job p e
no_entry job p e has = (let lt = has.1 in absurd (omega (arith, lt)))

-- the tests for a place pass its own entries
pub right_here : (s c : ℕ) → ((s == s) && (c == c)) ≡ true
right_here s c = rw (eq-eqb s s refl, eq-eqb c c refl) refl

module _ (job : ℕ) (p : Place) (into : List ℕ) (old new : GroupView) where
  abbrev Visit : Looked → Type 0
  Visit a = IsVisit job p (record { entries = look_logs job p (came_as a into); came = came_as a into })

  visit_is : (a : Looked) → LookCause a old new p.stripe p.column into → Visit a
  visit_is looked.Seen cause = record {
    kinds = just_this job p (entry.Seen job p.stripe p.column) (refl, refl, refl);
    looks = inr (inl (entry.Seen job p.stripe p.column, rw (right_here p.stripe p.column) refl));
    one_stuck = omega arith;
    begun = omega arith;
    seen = rw (right_here p.stripe p.column) refl;
    ends = tt;
  }
  visit_is looked.Gone cause = record {
    kinds = just_this job p (entry.Gone job p.stripe p.column) (refl, refl, refl);
    looks = inr (inl (entry.Gone job p.stripe p.column, rw (right_here p.stripe p.column) refl));
    one_stuck = omega arith;
    begun = omega arith;
    seen = refl;
    ends = refl;
  }
  visit_is (looked.Faulted column) cause = record {
    kinds = just_this job p (entry.Fault job p.stripe p.column) refl;
    looks = inl refl;
    one_stuck = omega arith;
    begun = omega arith;
    seen = refl;
    ends = ([], p.stripe, ap (λ k. entry.Fault job p.stripe k ∷ []) (sym cause.0), inl (refl, cause.0));
  }
  visit_is looked.LogFull cause = record { kinds = no_entry job p; looks = inl refl; one_stuck = omega arith; begun = omega arith; seen = refl; ends = tt }

module _ (told : Type 0) (job : ℕ) (p : Place) (into : List ℕ) (a : Looked) (v w : GroupPasses) (within : p.group < length v.views)
    (call : CallAt told (LookCall told job p into a) p.group v w) where
  abbrev Look : GroupView → GroupView → List Entry → Type 0
  Look = LookCall told job p into a

  abbrev given : Came
  given = came_as a into

  its_entries : call.turn.entries ≡ look_logs job p given
  its_entries = call.turn.call.entries_are ∙ as_logged job p a into

  its_gain : gained v w p.group ≡ entries_of call.turn.others ++ look_logs job p given
  its_gain = gained_by told Look p.group v w within call ∙ ap (λ es. entries_of call.turn.others ++ es) its_entries

  -- the slot that was seen had the digest of the block that was read
  its_digest : (block : List ℕ) → given ≡ came.Seen block → slot_at call.turn.old.table p.stripe p.column ≡ Live (digest_of block)
  its_digest block is =
      let got = seen_is a into block is in
      cause_of a got.0 call.turn.call.cause ∙ ap (λ b. Live (digest_of b)) got.1
    where
      cause_of : (r : Looked) → r ≡ looked.Seen → LookCause r call.turn.old call.turn.new p.stripe p.column into → slot_at call.turn.old.table p.stripe p.column ≡ Live (digest_of into)
      cause_of looked.Seen e cause = cause
      cause_of looked.Gone e cause = absurd (cc e)
      cause_of (looked.Faulted column) e cause = absurd (cc e)
      cause_of looked.LogFull e cause = absurd (cc e)

  its_block : (block : List ℕ) → given ≡ came.Seen block → SeenAs call.turn.old.first job (entries_of (view_at v p.group).seen) (gained v w p.group) p.stripe p.column (digest_of block)
  its_block block is =
      let table : replayed call.turn.old.first (entries_of (view_at v p.group).seen ++ entries_of call.turn.others) ≡ call.turn.old.table =
      ap (replayed call.turn.old.first) (sym (log_met told Look p.group v w within call)) ∙ replays_is call.turn.old.first call.turn.old.log call.turn.old.table call.turn.settled_old.replay in (
        entries_of call.turn.others,
        [],
        its_gain ∙ ap (λ x. entries_of call.turn.others ++ look_logs job p x) is,
        ap (λ t. slot_at t p.stripe p.column) table ∙ its_digest block is,
      )

  -- a look is barred by a log that is full, and leaves it so
  its_bar : given ≡ came.Barred → IsFullLog p.group w
  its_bar is =
      let e : a ≡ looked.LogFull = barred_is a into is in
      let full : length call.turn.old.log ≡ log_bound = call.turn.call.full.0 e in
      let same = ap (λ (g : GroupView). length g.log) (stays a e call.turn.call.cause) in
      let left = left_long told job Look p.group v w within call in
      omega (arith, full, same, left)
    where
      stays : (r : Looked) → r ≡ looked.LogFull → LookCause r call.turn.old call.turn.new p.stripe p.column into → call.turn.new ≡ call.turn.old
      stays looked.Seen e cause = absurd (cc e)
      stays looked.Gone e cause = absurd (cc e)
      stays (looked.Faulted column) e cause = absurd (cc e)
      stays looked.LogFull e cause = cause

  pub looks_once : AllIdle v → LooksOnce job p given v w
  looks_once idle = record {
    known = looked_known a into;
    last = (entries_of call.turn.others, its_gain);
    visits = record {
      adds = subst (λ es. Adds job p.group es v w) its_entries
          (adds_call told job Look p.group v w within call idle (subst (λ es. AllOf (is_of job) es) (sym its_entries) (all_its job p a into)));
      is = visit_is job p into call.turn.old call.turn.new a call.turn.call.cause;
      block = λ block is. (origin_of call.turn.old, sym call.turn.origin, its_block block is);
      again = λ lost ends. absurd (looked_known a into (inr lost));
      barred = its_bar;
    };
  }

  pub looks_as : AllIdle v → (answer : Looked) → a ≡ answer → LooksOnce job p (came_as answer into) v w
  looks_as idle answer is = subst (λ x. LooksOnce job p (came_as x into) v w) is (looks_once idle)

-- WORK AFTER WORK

module _ (job : ℕ) (u v w : GroupPasses) (first : RowWroteOnlyFor (of_job job) u v) (next : RowWroteOnlyFor (of_job job) v w) where
  pub gained_both : (g : ℕ) → gained u w g ≡ gained u v g ++ gained v w g
  gained_both g =
      ap entries_of (both_added (of_job job) (view_at u g) (view_at v g) (view_at w g) (first g) (next g))
      ∙ map-append (λ l. l.entry) (added (view_at u g) (view_at v g)) (added (view_at v g) (view_at w g))

  -- a block that was read behind other work
  pub reads_behind : (p : Place) (c : Came) → ReadsBlock job p c v w → ReadsBlock job p c u w
  reads_behind p c block b is = back b (block b is)
    where
      back : (b : List ℕ) → IsReadAt job p b v w → IsReadAt job p b u w
      back b (o, is, (x, y, at, live)) = (
        o,
        sym (first p.group).origin ∙ is,
        (
          gained u v p.group ++ x,
          y,
          gained_both p.group ∙ (ap (λ l. gained u v p.group ++ l) at ∙ sym (append_assoc (gained u v p.group) x (entry.Seen job p.stripe p.column ∷ y))),
          subst (λ l. slot_at (replayed o.first l) p.stripe p.column ≡ Live (digest_of b))
              (ap (λ l. l ++ x) (seen_parts job p.group u v first) ∙ append_assoc (entries_of (view_at u p.group).seen) (gained u v p.group) x) live,
        ),
      )
