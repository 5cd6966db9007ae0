-- How a vault ends: its groups are those that it was opened with, and have the archives that came
-- since.
use Rattle.std.proofs.Common.{◌≡◌, ◌<◌, ◌≤◌, ◌+◌, ◌++◌, inl, inr, ℕ, zero, suc, List, [], ◌∷◌, length, drop, map, refl, sym, ap, subst, ◌∙◌, arith, append-nil, length-append}
use Rattle.std.specs.Prelude.{Some, false, filter, slice_get}
use Rattle.std.proofs.Math.Seq.{drop-append_seam}
use Rattle.std.proofs.lemmas.Option.{slice_get_within}
use Rattle.std.proofs.lemmas.Bool.{cases_lt, ne_eqb}
use Rattle.pot_bytes.specs.declared.rack.Rack.{Rack}
use Rattle.pot_bytes.proofs.Elements.{element_at}
use Rattle.pot_index.specs.Index.{IndexView}
use Rattle.pot_group.specs.Arrivals.{arrivals}
use Rattle.pot_group.proofs.Arriving.{arrivals-append}
use Rattle.pot_group.specs.Group.{GroupView}
use Rattle.pot_turn.specs.declared.name.TurnName.{TurnName}
use Rattle.pot_turn.specs.declared.view.View.{View}
use Rattle.pot_turn.specs.Stretches.{times, LieIn, IsOnceEach}
use Rattle.pot_turn.specs.Views.{stretches_of}
use Rattle.pot_worked.specs.WroteOnlyFor.{added, mine, theirs}
use Rattle.pot_worked.specs.OnlyWriter.{Extends, OnlyWriter}
use Rattle.pot_worked.proofs.OnlyWriterLemmas.{went_in_parts, sole_in_parts, sole_at_close}
use Rattle.pot_rows.specs.Rows.{view_at}
use Rattle.pot_rows.specs.Works.{RowOnlyWriter}
use Rattle.pot_rows.specs.Parts.{Joined}
use Rattle.pot_rows.proofs.RowLemmas.{at_past}
use Rattle.pot_shared.specs.declared.member.Logged.{Logged}
use Rattle.pot_shared.specs.Members.{kept_log, origin_of, entries_of}
use Rattle.pot_shared.specs.Ready.{GroupPass, GroupPasses, AreReady}
use Rattle.pot_shared.specs.Catalogs.{IndexPass, IndexPasses, IsIndexReady, IsPassKept}
use Rattle.pot_shared.specs.Sharing.{EndsVault}
use Rattle.pot_shared.proofs.MemberLemmas.{entries_kept, entries_append}
use Rattle.pot_machine.specs.Logs.{job_of}
use Rattle.pot_replies.specs.Sessions.{ByNobody}
use Rattle.pot_shared.specs.Works.{Known, known, gained, of_job}
use Rattle.pot_shared.specs.Going.{AllOnlyWriters}
use Rattle.pot_shared.specs.Groups.{IsFirstPass, AreServed, table_read, tables_read}
use Rattle.pot_shared.proofs.OpenLemmas.{read_of}

first_gained : {E : Type 0} (xs : List E) → ((i : ℕ) (e : E) → slice_get xs i ≡ Some e → ⊥) → xs ≡ []
first_gained [] h = refl
first_gained (x ∷ xs) h = absurd (h 0 x refl)

behind : {E : Type 0} (front back : List E) (i : ℕ) (e : E) → slice_get back i ≡ Some e → slice_get (front ++ back) (length front + i) ≡ Some e
behind [] back i e q = subst (λ n. slice_get back n ≡ Some e) (let z : i ≡ 0 + i = omega arith in z) q
behind (x ∷ xs) back i e q = subst (λ n. slice_get (x ∷ (xs ++ back)) n ≡ Some e) (let z : suc (length xs + i) ≡ suc (length xs) + i = omega arith in z) (behind xs back i e q)

module _ {E O : Type 0} where
  -- a pass that took in one that never called has gained nothing of its own
  pub joined_went : (v w x : View E O) → Joined v w x → w.turns ≡ [] → w.joined ≡ [] → (Extends v x) × (mine v x ++ theirs v x ≡ [])
  joined_went v w x j turns joined = (
    record {
      seen = j.begins.1 ∙ ap (λ l. v.seen ++ l) (sym (ap (drop (length v.seen)) j.begins.1 ∙ drop-append_seam v.seen j.begins.0));
      turns = same_turns ∙ (sym (append-nil v.turns) ∙ ap (λ l. v.turns ++ l) (sym no_mine));
      joined = same_joined ∙ (sym (append-nil v.joined) ∙ ap (λ l. v.joined ++ l) (sym no_theirs));
      lies = subst (λ ss. LieIn (length v.seen) ss (length x.seen)) (sym none) (let n = ap length j.begins.1 in let m = length-append v.seen j.begins.0 in omega (arith, n, m));
    },
    none,
  )
    where
      same_turns : x.turns ≡ v.turns
      same_turns = ap (λ (y : View E O). y.turns) j.both

      same_joined : x.joined ≡ v.joined
      same_joined = ap (λ (y : View E O). y.joined) j.both ∙ (ap (λ l. v.joined ++ (l ++ w.joined)) turns ∙ (ap (λ l. v.joined ++ l) joined ∙ append-nil v.joined))

      no_mine : mine v x ≡ []
      no_mine = ap (drop (length v.turns)) (same_turns ∙ sym (append-nil v.turns)) ∙ drop-append_seam v.turns []

      no_theirs : theirs v x ≡ []
      no_theirs = ap (drop (length v.joined)) (same_joined ∙ sym (append-nil v.joined)) ∙ drop-append_seam v.joined []

      none : mine v x ++ theirs v x ≡ []
      none = ap (λ l. l ++ theirs v x) no_mine ∙ no_theirs

  -- a pass that alone logged what was gained, and logged nothing, has gained nothing
  pub none_gained : (v x : View E O) → Extends v x → OnlyWriter v x → mine v x ++ theirs v x ≡ [] → added v x ≡ []
  none_gained v x went sole none = first_gained (added v x) (λ i e q.
      (let at : slice_get x.seen (length v.seen + i) ≡ Some e = subst (λ l. slice_get l (length v.seen + i) ≡ Some e) (sym went.seen) (behind v.seen (added v x) i e q) in
      let le : length v.seen ≤ length v.seen + i = omega arith in
      let some : 0 < times (length v.seen + i) [] = subst (λ ss. 0 < times (length v.seen + i) ss) none (sole (length v.seen + i) e le at) in
      absurd (omega (arith, some))))

-- THE FIRST TABLES

pub closed_firsts : {M : Type 0} (see : M → GroupView) (rack : Rack) (names : List TurnName) (groups : GroupPasses) (index : IndexPass) (ms : List M) (ended : IndexView) → AreReady rack names groups
    → EndsVault (λ m. kept_log (see m)) (λ m. origin_of (see m)) rack names groups index ms ended → map (λ m. (see m).first) ms ≡ tables_read groups
closed_firsts see rack names groups index ms ended ready e =
    sym (read_of see groups.views ms (let a = ready.of.1 in let b = e.closed.count in let c = ap length e.whole_of.0 in omega (arith, a, b, c))
    (λ n m q. ap table_read (sym ((e.closed.each n m q).named ∙ ap (λ (v : GroupPass). v.origin) (e.joined n).both))))

-- ONE GROUP

module _ {M : Type 0} (see : M → GroupView) (rack : Rack) (names turn : List TurnName) (groups : GroupPasses) (passes : IndexPasses) (ms : List M) (ended : IndexView)
    (ready : AreReady rack names groups) (index_ready : IsIndexReady rack names turn passes) (old : Known) (s : AreServed old (known groups passes))
    (e : EndsVault (λ m. kept_log (see m)) (λ m. origin_of (see m)) rack names groups (view_at passes 0) ms ended) where
  members_long : length ms ≡ length names
  members_long = e.closed.count ∙ ap length e.whole_of.0

  first_names : old.groups.names ≡ names
  first_names = sym s.stays.groups.names ∙ ready.of.0

  kept_at : (n : ℕ) → n < length names → IsPassKept (view_at e.kept n)
  kept_at n l = e.are_kept n (let a = ap length e.kept_names in omega (arith, l, a))

  last : (n : ℕ) → n < length names → (Extends (view_at groups n) (view_at e.whole n)) × (mine (view_at groups n) (view_at e.whole n) ++ theirs (view_at groups n) (view_at e.whole n) ≡ [])
  last n l = joined_went (view_at groups n) (view_at e.kept n) (view_at e.whole n) (e.joined n) (kept_at n l).1 (kept_at n l).2

  -- at the close the passes had been sole since the start
  sole_whole : (n : ℕ) → n < length names → OnlyWriter (view_at old.groups n) (view_at e.whole n)
  sole_whole n l = sole_at_close (view_at old.groups n) (view_at e.whole n) (went_in_parts (view_at old.groups n) (view_at groups n) (view_at e.whole n) (s.went.groups n) (last n l).0) (record {
    opened = (let a = ap (λ (v : GroupPass). length v.opened) (e.joined n).both in let b = ap length (s.stays.groups.opened n) in
        let c : length (view_at old.groups n).opened ≡ length (view_at old.groups n).seen = ap (λ (v : GroupPass). length v.opened) first.is ∙ sym (ap (λ (v : GroupPass). length v.seen) first.is) in
        omega (arith, a, b, c));
    fresh = ap (λ (v : GroupPass). stretches_of v) first.is;
    once = (let m = element_at ms n (let k = members_long in omega (arith, l, k)) in let closed = e.closed.each n m.0 m.1 in
        subst (λ log. IsOnceEach (view_at e.whole n).opened log (stretches_of (view_at e.whole n))) closed.seen closed.once);
  })
    where
      first : IsFirstPass n (view_at old.groups n)
      first = s.opened.each n (let a = ap length first_names in omega (arith, l, a))

  sole_past : (n : ℕ) → length names ≤ n → OnlyWriter (view_at old.groups n) (view_at groups n)
  sole_past n l i x le q = absurd (let none : slice_get [] i ≡ Some x = subst (λ (v : GroupPass). slice_get v.seen i ≡ Some x) (at_past names groups n ready.of l) q in past i x none)
    where
      past : (i : ℕ) (x : Logged) → slice_get {X = Logged} [] i ≡ Some x → ⊥
      past i x h = (let b = slice_get_within {A = Logged} [] i x h in omega (arith, b))

  pub sole_groups : RowOnlyWriter old.groups groups
  sole_groups n = elim (cases_lt n (length names)) [
    | inl l ↦ (sole_in_parts (view_at old.groups n) (view_at groups n) (view_at e.whole n) (s.went.groups n) (last n l).0 (sole_whole n l)).0
    | inr l ↦ sole_past n l
  ]

  sole_first : OnlyWriter (view_at old.index 0) (view_at passes 0)
  sole_first = sole_at_close (view_at old.index 0) (view_at passes 0) (s.went.index 0) (record {
    opened = (let b = ap length (s.stays.index.opened 0) in let a = ap (λ (v : IndexPass). length v.opened) s.opened.index_first in let c = ap (λ (v : IndexPass). length v.seen) s.opened.index_first in
        omega (arith, a, b, c));
    fresh = ap (λ (v : IndexPass). stretches_of v) s.opened.index_first;
    once = subst (λ log. IsOnceEach (view_at passes 0).opened log (stretches_of (view_at passes 0))) e.index_closed.seen e.index_closed.once;
  })

  sole_behind : (n : ℕ) → length turn ≤ n → OnlyWriter (view_at old.index n) (view_at passes n)
  sole_behind n l i x le q = absurd (let none : slice_get [] i ≡ Some x = subst (λ (v : IndexPass). slice_get v.seen i ≡ Some x) (at_past turn passes n index_ready.of l) q in
      let b = slice_get_within [] i x none in omega (arith, b))

  sole_index : RowOnlyWriter old.index passes
  sole_index zero = sole_first
  sole_index (suc n) = sole_behind (suc n) (let one = index_ready.one in omega (arith, one))

  pub sole_all : AllOnlyWriters old (known groups passes)
  sole_all = record { groups = sole_groups; index = sole_index }

  first_pass : (n : ℕ) (m : M) → slice_get ms n ≡ Some m → IsFirstPass n (view_at old.groups n)
  first_pass n m q = s.opened.each n (let a = ap length first_names in let l = slice_get_within ms n m q in let k = members_long in omega (arith, a, l, k))

  -- as many groups as passes
  pub members_of : length ms ≡ length old.groups.names
  members_of = members_long ∙ sym (ap length first_names)

  below : (n : ℕ) (m : M) → slice_get ms n ≡ Some m → n < length names
  below n m q = (let l = slice_get_within ms n m q in let k = members_long in omega (arith, l, k))

  whole_seen : (n : ℕ) → n < length names → (view_at e.whole n).seen ≡ (view_at groups n).seen
  whole_seen n l = (last n l).0.seen ∙ (ap (λ x. (view_at groups n).seen ++ x) (none_gained (view_at groups n) (view_at e.whole n) (last n l).0
      (sole_in_parts (view_at old.groups n) (view_at groups n) (view_at e.whole n) (s.went.groups n) (last n l).0 (sole_whole n l)).1 (last n l).1) ∙ append-nil (view_at groups n).seen)

  -- each group's log is what the passes saw at first, and what they gained, with the marks of
  -- archives
  pub closed_kept : (n : ℕ) (m : M) → slice_get ms n ≡ Some m → kept_log (see m) ≡ (view_at old.groups n).seen ++ added (view_at old.groups n) (view_at groups n)
  closed_kept n m q = (e.closed.each n m q).seen ∙ (whole_seen n (below n m q) ∙ (s.went.groups n).seen)

  -- and without them
  pub closed_log : (n : ℕ) (m : M) → slice_get ms n ≡ Some m → (see m).log ≡ entries_of (view_at old.groups n).seen ++ gained old.groups groups n
  closed_log n m q =
      sym (entries_kept (see m)) ∙ (ap entries_of (closed_kept n m q)
      ∙ entries_append (view_at old.groups n).seen (added (view_at old.groups n) (view_at groups n)))

  -- the openings brought no archive, so those that came are what the passes gained
  pub opened_none : (n : ℕ) (m : M) → slice_get ms n ≡ Some m → arrivals (entries_of (view_at old.groups n).seen) ≡ []
  opened_none n m q = ap (λ (v : GroupPass). arrivals (entries_of v.seen)) (first_pass n m q).is ∙ (first_pass n m q).none

  pub its_came : (n : ℕ) (m : M) → slice_get ms n ≡ Some m → arrivals (see m).log ≡ arrivals (gained old.groups groups n)
  its_came n m q =
      ap arrivals (closed_log n m q) ∙ (arrivals-append (entries_of (view_at old.groups n).seen) (gained old.groups groups n)
      ∙ ap (λ l. l ++ arrivals (gained old.groups groups n)) (opened_none n m q))

  -- the log of the index is what its passes gained
  pub closed_story : ended.log ≡ added (view_at old.index 0) (view_at passes 0)
  closed_story = e.index_closed.seen ∙ ((s.went.index 0).seen ∙ ap (λ (v : IndexPass). v.seen ++ added (view_at old.index 0) (view_at passes 0)) s.opened.index_first)

  -- each opening is of no job
  pub opened_by_nobody : (n : ℕ) (m : M) → slice_get ms n ≡ Some m → ByNobody (entries_of (view_at old.groups n).seen)
  opened_by_nobody n m q = (let p = first_pass n m q in subst (λ (v : GroupPass). ByNobody (entries_of v.seen)) (sym p.is) p.nobody)

-- so it has no entry of a job
pub none_opened : (job : ℕ) → 0 < job → (ls : List Logged) → ByNobody (entries_of ls) → filter (of_job job) ls ≡ []
none_opened job some [] nobody = refl
none_opened job some (l ∷ ls) nobody =
    let zero : job_of l.entry ≡ 0 = nobody [] (entries_of ls) l.entry refl in
    let not : of_job job l ≡ false = ne_eqb (job_of l.entry) job (λ e. absurd (omega (arith, e, zero, some))) in
    rw not (none_opened job some ls (λ x y e at. nobody (l.entry ∷ x) y e (ap (λ es. l.entry ∷ es) at)))
