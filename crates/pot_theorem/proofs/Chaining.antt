-- Session after session, as moves of a world.
use Rattle.std.proofs.Common.{◌≡◌, ◌⊎◌, inl, inr, ⊎_elim, ℕ, zero, suc, ◌<◌, List, [], ◌∷◌, ◌++◌, Option, Some, None, true, IsTrue, refl, sym, ◌∙◌, subst, arith, length}
use Rattle.std.specs.Prelude.{◌==◌, ◌||◌, Contains, flat_map, slice_get, slice_index_or}
use Rattle.std.proofs.lemmas.Bool.Decides.{nat_tests}
use Rattle.std.proofs.lemmas.List.Elements.{Contains-append_left, Contains-append_right, Contains-append_cases}
use Rattle.pot_bytes.proofs.Elements.{none_contained}
use Rattle.pot_machine.specs.declared.column.Column.{Column}
use Rattle.pot_machine.specs.declared.column.Moving.{Moving}
use Rattle.pot_machine.specs.Column.{homes_of, names, names_moved, target_of}
use Rattle.pot_machine.specs.Table.{Table, archives_in, column_at, no_column, width}
use Rattle.pot_group.specs.Arrivals.{arrivals}
use Rattle.pot_group.specs.Group.{GroupView, IsSettled, state_of}
use Rattle.pot_shared.specs.Groups.{had_by}
use Rattle.pot_shared.specs.Hands.{times}
use Rattle.pot_shared.specs.Leaving.{still}
use Rattle.pot_session.proofs.StripeLemmas.{column_had}
use Rattle.pot_execution.proofs.Came.{among}
use Rattle.pot_world.proofs.Later.{of_listed, of_unlisted}
use Rattle.pot_theorem.specs.Sessions.{ClosedSession, HasOnlyLost}
use Rattle.pot_theorem.proofs.Between.{AllBegun, Begun}
use Rattle.pot_theorem.proofs.Groups.{One, came_of, had_there, heard_then, named_of, ones_of, pasts_of, reads, writtens, shown, took}

-- the groups of a session
abbrev pub all_of : (c : ClosedSession) → List (One c)
all_of c = (ones_of c).all

-- WHAT A TABLE NAMES, ITS GROUP HAS HAD

home_named : (c : Column) (n : ℕ) → Contains (homes_of c) n → IsTrue (names c n)
home_named c n h = by c.moving h
  where
    same : (a b : ℕ) → a ≡ b → (a == b) ≡ true
    same a b e = grind (arith, nat_tests)

    left : (a b m : ℕ) → a ≡ b → ((a == b) || (m == b)) ≡ true
    left a b m e = grind (arith, nat_tests)

    right : (a b m : ℕ) → m ≡ b → ((a == b) || (m == b)) ≡ true
    right a b m e = grind (arith, nat_tests)

    by : (m : Option Moving) → Contains (c.home ∷ target_of m) n → IsTrue (names_moved m c.home n)
    by None (zero, lt, e) = same c.home n e
    by None (suc i, lt, e) = absurd (omega (arith, lt))
    by (Some m) (zero, lt, e) = left c.home n m.to e
    by (Some m) (suc zero, lt, e) = right c.home n m.to e
    by (Some m) (suc (suc i), lt, e) = absurd (omega (arith, lt))

column_with : (cs : List Column) (n : ℕ) → Contains (flat_map homes_of cs) n → (k : ℕ) × (k < length cs) × Contains (homes_of (slice_index_or cs k no_column)) n
column_with [] n has = absurd (none_contained n has)
column_with (x ∷ cs) n has = ⊎_elim
    (λ (h : Contains (homes_of x) n). (0, omega arith, h))
    (λ (h : Contains (flat_map homes_of cs) n). (let r = column_with cs n h in (suc r.0, (let l = r.1 in omega (arith, l)), r.2)))
    (Contains-append_cases (homes_of x) (flat_map homes_of cs) n has)

-- of a group with a first table of as many columns as it is wide
pub named_had : (told : Type 0) (g : GroupView) → IsSettled told g → length g.first.columns ≡ width g.first → (k n : ℕ) → k < width g.table → IsTrue (names (column_at g.table k) n) → Contains (had_by g) n
named_had told g settled columns k n lt named =
    let sizes = settled.sizes in
    let within : k < length g.first.columns = (let a = sizes.0 in let b = sizes.1 in omega (arith, lt, a, b, columns)) in
    column_had g.first g.log k n within (settled.serves k n lt named)

pub table_had : (told : Type 0) (g : GroupView) → IsSettled told g → length g.first.columns ≡ width g.first → (n : ℕ) → Contains (archives_in g.table) n → Contains (had_by g) n
table_had told g settled columns n has =
    let c = column_with g.table.columns n has in
    let lt : c.0 < width g.table = (let a = settled.table.size.columns in let l = c.1 in omega (arith, a, l)) in
    named_had told g settled columns c.0 n lt (home_named (column_at g.table c.0) n c.2)

-- THE TABLES OF A SESSION HAVE THEIR COLUMNS

abbrev pub HasColumns : Table → Type 0
HasColumns t = length t.columns ≡ width t

-- A NEXT GROUP

module _ (c d : ClosedSession) (o : One c) (q : One d) (same : q.read ≡ o.written) (columns : HasColumns o.read)
    (back : (n : ℕ) → Contains (archives_in o.read ++ arrivals o.log) n → times n c.missing ≡ 0)
    (kept : (n : ℕ) → Contains (archives_in q.read) n → HasOnlyLost (c.room.after.means n) (d.room.before.means n)) where
  first_same : q.left.view.first ≡ still o.left.view.table
  first_same = q.left.first ∙ same ∙ o.left.is

  in_read : (n : ℕ) → Contains (archives_in q.left.view.first) n → Contains (archives_in q.read) n
  in_read n h = subst (λ (t : Table). Contains (archives_in t) n) q.left.first h

  in_table : (n : ℕ) → Contains (archives_in q.left.view.first) n → Contains (archives_in o.left.view.table) n
  in_table n h = subst (λ (t : Table). Contains (archives_in t) n) first_same h

  was_had : (n : ℕ) → Contains (archives_in q.left.view.first) n → Contains (had_by o.left.view) n
  was_had n h = table_had (IsTrue c.room.tells) o.left.view o.left.settled (subst HasColumns (sym o.left.first) columns) n (in_table n h)

  has_now : (n : ℕ) → Contains (archives_in q.left.view.first) n → Contains (had_by q.left.view) n
  has_now n h = Contains-append_left (archives_in q.left.view.first) (arrivals q.left.view.log) n h

  is_back : (n : ℕ) → Contains (archives_in q.left.view.first) n → times n c.missing ≡ 0
  is_back n h = back n (had_there c o n (was_had n h))

  held_before : (n k : ℕ) (b : List ℕ) → Contains (archives_in q.left.view.first) n → (q.left.view.shelves.taken n).held k ≡ Some b → o.left.view.shelves.held n k ≡ Some b
  held_before n k b h e =
      let lt = ((q.left.execution d.told).coherent n).low k b e in
      let was = (kept n (in_read n h)).held k b lt (sym (took d q n k (has_now n h) lt) ∙ e) in
      (shown c o n (was_had n h) (is_back n h)).blocks k ∙ was

  heard_before : (n : ℕ) → Contains (archives_in q.left.view.first) n → (q.left.view.shelves.taken n).heard ≡ o.left.view.shelves.heard n
  heard_before n h = heard_then d q n (has_now n h) ∙ (kept n (in_read n h)).heard ∙ sym (shown c o n (was_had n h) (is_back n h)).sums

  pub group_begun : Begun (state_of o.left.view) (q.left.execution d.told).start
  group_begun =
      let x = q.left.execution d.told in
      let u = x.unopened in
      record {
        table = u.table ∙ first_same;
        flights = u.flights;
        held = λ n k b e. elim (among (archives_in q.left.view.first) n) [
          | inl h ↦ of_listed o.left.view.table None (λ m. o.left.view.shelves.held m k) n (in_table n h) ∙ held_before n k b h (sym (u.held n k h) ∙ e)
          | inr h ↦ nothing (sym (u.none n k h) ∙ e)
        ];
        heard = λ n. elim (among (archives_in q.left.view.first) n) [
          | inl h ↦ u.heard n h ∙ heard_before n h ∙ sym (of_listed o.left.view.table [] o.left.view.shelves.heard n (in_table n h))
          | inr h ↦ u.silent n h ∙ sym (of_unlisted o.left.view.table [] o.left.view.shelves.heard n (λ i. h (subst (λ (t : Table). Contains (archives_in t) n) (sym first_same) i)))
        ];
      }
    where
      nothing : {X : Type 0} {b : List ℕ} → None ≡ Some b → X
      nothing e = absurd (cc)

-- ALL NEXT GROUPS

pub all_begun : (c d : ClosedSession) (os : List (One c)) (qs : List (One d)) → reads d qs ≡ writtens c os
    → ((g : ℕ) (t : Table) → slice_get (reads c os) g ≡ Some t → HasColumns t)
    → ((n : ℕ) → Contains (named_of c os) n ⊎ Contains (came_of c os) n → times n c.missing ≡ 0)
    → ((n : ℕ) → Contains (named_of d qs) n → HasOnlyLost (c.room.after.means n) (d.room.before.means n)) → AllBegun (pasts_of c os) (pasts_of d qs)
all_begun c d [] [] same columns back kept = tt
all_begun c d [] (q ∷ qs) same columns back kept = absurd (cc same)
all_begun c d (o ∷ os) [] same columns back kept = absurd (cc same)
all_begun c d (o ∷ os) (q ∷ qs) same columns back kept = (
  group_begun c d o q (let h : q.read ≡ o.written = cc same in h) (columns 0 o.read refl)
      (λ n h. back n (elim (Contains-append_cases (archives_in o.read) (arrivals o.log) n h) [
        | inl x ↦ inl (Contains-append_left (archives_in o.read) (named_of c os) n x)
        | inr x ↦ inr (Contains-append_left (arrivals o.log) (came_of c os) n x)
      ]))
      (λ n h. kept n (Contains-append_left (archives_in q.read) (named_of d qs) n h)),
  all_begun c d os qs (let h : reads d qs ≡ writtens c os = cc same in h) (λ g t e. columns (suc g) t e)
      (λ n h. back n (elim h [
        | inl x ↦ inl (Contains-append_right (archives_in o.read) (named_of c os) n x)
        | inr x ↦ inr (Contains-append_right (arrivals o.log) (came_of c os) n x)
      ]))
      (λ n h. kept n (Contains-append_right (archives_in q.read) (named_of d qs) n h)),
)
