-- Calls of a job on one group, one after another.
use Rattle.std.proofs.Common.{◌≡◌, ◌<◌, ◌≤◌, ℕ, ◌+◌, List, [], ◌++◌, length, ap, sym, ◌∙◌, subst, arith, append_assoc, length-append}
use Rattle.std.specs.Prelude.{Option, Some, IfSome}
use Rattle.std.proofs.lemmas.List.{map-append}
use lib.Seq.{drop-length}
use Rattle.pot_bytes.specs.declared.rack.Place.{Place}
use Rattle.pot_bytes.specs.declared.rack.Rack.{Rack}
use Rattle.pot_bytes.specs.Rack.{log_bound}
use Rattle.pot_machine.specs.declared.entry.Entry.{Entry}
use Rattle.pot_machine.specs.Table.{Table, width}
use Rattle.pot_machine.specs.Logs.{is_of, own, replayed}
use Rattle.pot_machine.proofs.Logs.{replays_is}
use Rattle.pot_group.specs.declared.finding.Kind.{Kind}
use Rattle.pot_group.specs.Finding.{IsPlace, is_of as kind_of}
use Rattle.pot_group.specs.Group.{GroupView}
use Rattle.pot_turn.specs.declared.name.TurnName.{TurnName}
use Rattle.pot_worked.specs.WroteOnlyFor.{added}
use Rattle.pot_worked.specs.Laws.{AllOf}
use Rattle.pot_worked.proofs.WroteOnlyForLemmas.{behind, both_added}
use Rattle.pot_rows.specs.Rows.{view_at}
use Rattle.pot_rows.specs.Works.{AllIdle, RowWroteOnlyFor}
use Rattle.pot_rows.proofs.RowLemmas.{at_set}
use Rattle.pot_rows.proofs.WorkLemmas.{row_work_in_parts, row_alone_in_parts}
use Rattle.pot_shared.specs.declared.member.Logged.{Logged}
use Rattle.pot_shared.specs.declared.member.GroupOrigin.{GroupOrigin}
use Rattle.pot_shared.specs.Members.{entries_of, origin_of}
use Rattle.pot_shared.specs.Ready.{GroupPass, GroupPasses, AreReady, HasSlot}
use Rattle.pot_shared.specs.Calls.{CallAt, NextCall, marked}
use Rattle.pot_shared.proofs.CallLemmas.{is_origin, is_table}
use Rattle.pot_shared.proofs.MemberLemmas.{all_long, entries_all, entries_kept}
use Rattle.pot_shared.specs.Works.{of_job, gained}
use Rattle.pot_shared.proofs.WorkLemmas.{all_none, group_work, group_own, group_else, own_more, row_stays}
use Rattle.pot_shared.specs.Adds.{Adds, FindsNext, IsFirstTableSeen, IsFromOn, IsNextOf, Once}

-- WHAT A GROUP READ

-- the pass knows what its group read
pub is_first : (o : Option GroupOrigin) (first : Table) (g : GroupOrigin) → Some g ≡ o → IfSome o (λ x. first ≡ x.first) → first ≡ g.first
is_first o first g is read = subst (λ x. IfSome x (λ y. first ≡ y.first)) (sym is) read

-- NOTHING YET

pub adds_none : (job g : ℕ) (row : GroupPasses) → AllIdle row → Adds job g [] row row
adds_none job g row idle = record {
  worked = row_stays (of_job job) row idle;
  own_is = λ alone. none g;
  none_else = λ alone h ne. none h;
  grew = omega arith;
}
  where
    none : (h : ℕ) → own job (gained row row h) ≡ []
    none h = ap (λ ls. own job (entries_of ls)) (drop-length (view_at row h).seen)

-- ONE CALL AFTER ANOTHER

pub seen_parts : (job g : ℕ) (u v : GroupPasses) → RowWroteOnlyFor (of_job job) u v → entries_of (view_at v g).seen ≡ entries_of (view_at u g).seen ++ gained u v g
seen_parts job g u v worked = ap entries_of (worked g).seen ∙ map-append (λ l. l.entry) (view_at u g).seen (added (view_at u g) (view_at v g))

module _ (job g : ℕ) (u v w : GroupPasses) (first : RowWroteOnlyFor (of_job job) u v) (then : RowWroteOnlyFor (of_job job) v w) where
  pub both_gained : gained u w g ≡ gained u v g ++ gained v w g
  both_gained =
      ap entries_of (both_added (of_job job) (view_at u g) (view_at v g) (view_at w g) (first g) (then g))
      ∙ map-append (λ l. l.entry) (added (view_at u g) (view_at v g)) (added (view_at v g) (view_at w g))

  pub once_front : (P : Table → Table → Type 0) → Once P g u v → Once P g u w
  once_front P once read is =
      let (x, y, at, p) = once read is in
      (x, y ++ gained v w g, both_gained ∙ (ap (λ l. l ++ gained v w g) at ∙ append_assoc x y (gained v w g)), p)

  pub once_back : (P : Table → Table → Type 0) → Once P g v w → Once P g u w
  once_back P once read is =
      let (x, y, at, p) = once read (subst (λ o. IfSome o (λ x. read ≡ x.first)) (sym (first g).origin) is) in (
        gained u v g ++ x,
        y,
        both_gained ∙ (ap (λ l. gained u v g ++ l) at ∙ sym (append_assoc (gained u v g) x y)),
        subst (λ l. P read (replayed read l)) (ap (λ l. l ++ x) (seen_parts job g u v first) ∙ append_assoc (entries_of (view_at u g).seen) (gained u v g) x) p,
      )

pub adds_then : (job g : ℕ) (a b : List Entry) (u v w : GroupPasses) → Adds job g a u v → Adds job g b v w → Adds job g (a ++ b) u w
adds_then job g a b u v w one two = record {
  worked = row_work_in_parts (of_job job) u v w one.worked two.worked;
  own_is = λ alone. (let parts = row_alone_in_parts (of_job job) u v w one.worked two.worked alone in
      own_more job u v w one.worked two.worked g ∙ (ap (λ l. l ++ own job (gained v w g)) (one.own_is parts.0) ∙ ap (λ l. a ++ l) (two.own_is parts.1)));
  none_else = λ alone h ne. (let parts = row_alone_in_parts (of_job job) u v w one.worked two.worked alone in
      own_more job u v w one.worked two.worked h ∙ (ap (λ l. l ++ own job (gained v w h)) (one.none_else parts.0 h ne) ∙ two.none_else parts.1 h ne));
  grew = (let x = one.grew in let y = two.grew in let n = length-append a b in omega (arith, x, y, n));
}

-- ONE LOCKED CALL

module _ (told : Type 0) (job : ℕ) (R : GroupView → GroupView → List Entry → Type 0) (group : ℕ) (v w : GroupPasses) (within : group < length v.views)
    (call : CallAt told R group v w) where
  abbrev its_marked : List Logged
  its_marked = marked call.turn

  knows : view_at w group ≡ call.pass
  knows = ap (λ (r : GroupPasses). view_at r group) call.is ∙ at_set v group call.pass within

  its_seen : (view_at w group).seen ≡ ((view_at v group).seen ++ call.turn.others) ++ its_marked
  its_seen = ap (λ (x : GroupPass). x.seen) knows ∙ ap (λ (x : GroupPass). x.seen) call.turn.turn

  marked_long : length its_marked ≡ length call.turn.entries
  marked_long = all_long call.turn.new.shelves call.turn.more call.turn.entries

  seen_long : length (view_at w group).seen ≡ (length (view_at v group).seen + length call.turn.others) + length call.turn.entries
  seen_long =
      let a = ap length its_seen in
      let b = length-append ((view_at v group).seen ++ call.turn.others) its_marked in
      let c = length-append (view_at v group).seen call.turn.others in
      let d = marked_long in
      omega (arith, a, b, c, d)

  pub adds_call : AllIdle v → AllOf (is_of job) call.turn.entries → Adds job group call.turn.entries v w
  adds_call idle all = record {
    worked = group_work told job R group v w within call all idle;
    own_is = λ alone. group_own told job R group v w within call all alone;
    none_else = λ alone h ne. group_else told job R group v w within call all alone h (λ e. ne (sym e));
    grew = (let n = seen_long in omega (arith, n));
  }

  -- the log that was met, and the one that the call left
  met_log : call.turn.old.log ≡ entries_of (view_at v group).seen ++ entries_of call.turn.others
  met_log = sym (entries_kept call.turn.old) ∙ (ap entries_of call.turn.transition ∙ map-append (λ l. l.entry) (view_at v group).seen call.turn.others)

  met_long : length call.turn.old.log ≡ length (view_at v group).seen + length call.turn.others
  met_long =
      let a = all_long call.turn.old.shelves call.turn.old.blinds call.turn.old.log in
      let b = ap length call.turn.transition in
      let c = length-append (view_at v group).seen call.turn.others in
      omega (arith, a, b, c)

  pub left_long : length (view_at w group).seen ≡ length call.turn.new.log
  left_long =
      let a = seen_long in
      let b = met_long in
      let c = ap length call.turn.log in
      let d = length-append call.turn.old.log call.turn.entries in
      omega (arith, a, b, c, d)

  pub left_bound : length (view_at w group).seen ≤ log_bound
  left_bound = (let a = left_long in let b = call.turn.settled.bound in omega (arith, a, b))

  pub its_gain : gained v w group ≡ entries_of call.turn.others ++ call.turn.entries
  its_gain =
      ap entries_of (behind (view_at w group).seen (view_at v group).seen (call.turn.others ++ its_marked) (its_seen ∙ append_assoc (view_at v group).seen call.turn.others its_marked))
      ∙ (map-append (λ l. l.entry) call.turn.others its_marked
      ∙ ap (λ es. entries_of call.turn.others ++ es) (entries_all call.turn.new.shelves call.turn.more call.turn.entries))

  -- the table that the call met
  pub met_first : (first : Table) → IsFirstTableSeen group v first → first ≡ call.turn.old.first
  met_first first read = is_first (view_at v group).origin first (origin_of call.turn.old) call.turn.origin read

  pub met_table : (first : Table) → IsFirstTableSeen group v first → call.turn.old.table ≡ replayed first (entries_of (view_at v group).seen ++ entries_of call.turn.others)
  met_table first read =
      sym (replays_is call.turn.old.first call.turn.old.log call.turn.old.table call.turn.settled_old.replay)
      ∙ (ap (λ t. replayed t call.turn.old.log) (sym (met_first first read)) ∙ ap (replayed first) met_log)

  -- and what it was then, the pass saw
  pub met_once : (P : Table → Table → Type 0)
      → ((first : Table) → first ≡ call.turn.old.first → P first call.turn.old.table) → Once P group v w
  met_once P p first read = (entries_of call.turn.others, call.turn.entries, its_gain, subst (P first) (met_table first read) (p first (met_first first read)))

-- A SEARCH

module _ (told : Type 0) (job : ℕ) (rack : Rack) (names : List TurnName) (group s c : ℕ) (kind : Kind) (result : Option Place) (v w : GroupPasses)
    (within : group < length names) (ready : AreReady rack names v) (call : CallAt told (NextCall s c kind result) group v w) where
  long : group < length v.views
  long = let l = ready.of.1 in omega (arith, within, l)

  abbrev Next : GroupView → GroupView → List Entry → Type 0
  Next = NextCall s c kind result

  number : call.turn.old.number ≡ group
  number = (is_origin rack group (view_at v group).origin call.turn.old call.turn.origin (ready.origins group within)).0

  pub next_adds : Adds job group [] v w
  next_adds =
      let none : call.turn.entries ≡ [] = call.turn.call.0 in
      subst (λ es. Adds job group es v w) none
      (adds_call told job Next group v w long call ready.idle (subst (λ es. AllOf (is_of job) es) (sym none) (all_none (is_of job))))

  pub next_finds : FindsNext (kind_of kind) s c result group v w
  next_finds = met_once told job Next group v w long call
      (IsNextOf (kind_of kind) s c result group)
      (λ first same. (let sizes = call.turn.settled_old.sizes in let a = sizes.0 in let b = sizes.1 in let d = sizes.2 in
      subst (λ t. (call.turn.old.table.stripes ≡ t.stripes) × (width call.turn.old.table ≡ width t) × IsPlace group call.turn.old.table (kind_of kind) s c result) (sym same)
      (d, omega (arith, a, b), subst (λ n. IsPlace n call.turn.old.table (kind_of kind) s c result) number call.turn.call.2)))

  -- the place that was found
  module _ (p : Place) (found : result ≡ Some p) where
    is_place : IsPlace call.turn.old.number call.turn.old.table (kind_of kind) s c (Some p)
    is_place = subst (λ r. IsPlace call.turn.old.number call.turn.old.table (kind_of kind) s c r) found call.turn.call.2

    pub next_group : p.group ≡ group
    next_group = is_place.0 ∙ number

    pub next_slot : HasSlot rack names p
    next_slot =
        let t = is_table rack told group (view_at v group).origin call.turn.old call.turn.origin (ready.origins group within) call.turn.settled_old in
        let a = t.0 in
        let b = t.1 in
        let d = t.2 in
        let stripe = is_place.1.0.0.0 in
        let column = is_place.1.0.0.1 in
        (subst (λ n. n < length names) (sym next_group) within, omega (arith, stripe, d), omega (arith, column, a, b))

    pub next_from : IsFromOn s c p
    next_from = is_place.1.0.1
