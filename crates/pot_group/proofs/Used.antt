-- Which archives a group uses.
use Rattle.std.proofs.Common.{◌≡◌, ◌≢◌, ◌⊎◌, inl, inr, ℕ, zero, suc, ◌<◌, ◌++◌, ◌==◌, ◌||◌, Bool, true, false, IsTrue, IsSomeAnd, List, [], ◌∷◌, Option, Some, None, length, cond, refl, sym, ap, ◌∙◌, subst, arith}
use Rattle.std.specs.Prelude.{Contains, find, nat_eq, if◌then◌else◌}
use Rattle.std.proofs.lemmas.Bool.Decides.{nat_tests}
use Rattle.std.proofs.lemmas.Bool.{eqb-true, eq-eqb}
use Rattle.std.proofs.lemmas.Option.{same_Some}
use Rattle.pot_bytes.proofs.Elements.{none_contained, one_contained, contains_front, contains_back}
use Rattle.pot_machine.specs.declared.column.Moving.{Moving}
use Rattle.pot_machine.specs.declared.entry.Entry.{Entry}
use Rattle.pot_machine.specs.declared.entry.Entry.TheVariants.{MoveBegin, Swapped}
use Rattle.pot_machine.specs.Column.{names, names_moved, target_of}
use Rattle.pot_machine.specs.Table.{Table, width, column_at, holder_of}
use Rattle.pot_machine.specs.Machine.{Legal, Replays, after}
use Rattle.pot_machine.specs.Rules.{IsTable}
use Rattle.pot_machine.proofs.LeftAlone.{sizes_stay}
use Rattle.pot_machine.proofs.Searches.{least_none, least_some}
use Rattle.pot_machine.proofs.Columns.{named_in, in_named}
use Rattle.pot_group.specs.declared.uses.Role.TheVariants as role
use Rattle.pot_group.specs.Causes.{brought, brought_by}
use Rattle.pot_group.specs.Group.{GroupView}
use Rattle.pot_group.specs.Uses.{IsHomeAt, IsRole, IsUse, brings, brought_to, home_of, role_in, target_in}

-- NUMBERS IN LISTS

in_either : (xs ys : List ℕ) (n : ℕ) → Contains (xs ++ ys) n → Contains xs n ⊎ Contains ys n
in_either [] ys n h = inr h
in_either (x ∷ xs) ys n (zero, l, e) = inl (zero, omega arith, e)
in_either (x ∷ xs) ys n (suc k, l, e) = elim (in_either xs ys n (k, omega (arith, l), e)) [
  | inl h ↦ inl (suc h.0, omega (arith, h.1), h.2)
  | inr h ↦ inr h
]

-- THE LOG

-- what an entry that brings the archive brings it to
brings_there : (e : Entry) (n : ℕ) → brings n e ≡ true → (c : ℕ) × (brought_to (Some e) ≡ Some c) × Contains (brought c e) n
brings_there (MoveBegin job c to) n h = (c, refl, subst (λ l. Contains l n) (sym (itself c (to ∷ []))) (0, omega arith, eqb-true to n h))
  where
    itself : (c : ℕ) (xs : List ℕ) → (if nat_eq c c then xs else []) ≡ xs
    itself c xs = grind (arith, nat_tests)
brings_there (Swapped job c to) n h = (c, refl, subst (λ l. Contains l n) (sym (itself c (to ∷ []))) (0, omega arith, eqb-true to n h))
  where
    itself : (c : ℕ) (xs : List ℕ) → (if nat_eq c c then xs else []) ≡ xs
    itself c xs = grind (arith, nat_tests)
brings_there _ n h = absurd (cc)

there_brings : (e : Entry) (c n : ℕ) → Contains (brought c e) n → brings n e ≡ true
there_brings (MoveBegin job k to) c n h = by (nat_eq c k) h
  where
    by : (b : Bool) → Contains (if b then to ∷ [] else []) n → (to == n) ≡ true
    by true h = eq-eqb to n (one_contained to n h)
    by false h = absurd (none_contained n h)
there_brings (Swapped job k to) c n h = by (nat_eq c k) h
  where
    by : (b : Bool) → Contains (if b then to ∷ [] else []) n → (to == n) ≡ true
    by true h = eq-eqb to n (one_contained to n h)
    by false h = absurd (none_contained n h)
there_brings _ c n h = absurd (none_contained n h)

pub some_none : {n : ℕ} → Some n ≡ None → ⊥
some_none e = cc

pub brought_some : (log : List Entry) (n c : ℕ) → brought_to (find (brings n) log) ≡ Some c → Contains (brought_by c log) n
brought_some [] n c e = absurd (cc)
brought_some (x ∷ log) n c e = by (brought_some log n c) (brings n x) refl e
  where
    by : (brought_to (find (brings n) log) ≡ Some c → Contains (brought_by c log) n) → (b : Bool) → brings n x ≡ b → brought_to (cond b (Some x) (find (brings n) log)) ≡ Some c → Contains (brought c x ++ brought_by c log) n
    by rest true h q =
        let t : (k : ℕ) × (brought_to (Some x) ≡ Some k) × Contains (brought k x) n = brings_there x n h in
        contains_front (brought c x) (brought_by c log) n (subst (λ k. Contains (brought k x) n) (same_Some t.0 c (sym t.1 ∙ q)) t.2)
    by rest false h q = contains_back (brought c x) (brought_by c log) n (rest q)

pub brought_none : (log : List Entry) (n : ℕ) → brought_to (find (brings n) log) ≡ None → (c : ℕ) → Contains (brought_by c log) n → ⊥
brought_none [] n e c h = none_contained n h
brought_none (x ∷ log) n e c h = by (brought_none log n) (brings n x) refl e
  where
    apart : true ≡ false → ⊥
    apart e = cc

    none : {k : ℕ} → Some k ≡ None → ⊥
    none e = cc

    by : (brought_to (find (brings n) log) ≡ None → (c : ℕ) → Contains (brought_by c log) n → ⊥) → (b : Bool) → brings n x ≡ b → brought_to (cond b (Some x) (find (brings n) log)) ≡ None → ⊥
    by rest true q z = (let t : (k : ℕ) × (brought_to (Some x) ≡ Some k) × Contains (brought k x) n = brings_there x n q in none (sym t.1 ∙ z))
    by rest false q z = elim (in_either (brought c x) (brought_by c log) n h) [
      | inl l ↦ apart (sym (there_brings x c n l) ∙ q)
      | inr l ↦ rest z c l
    ]

-- THE COLUMNS OF A TABLE

-- a home or a target
pub role_is : (g : GroupView) (number c : ℕ) → holder_of g.table number ≡ Some c → IsRole g number c (role_in (column_at g.table c) number)
role_is g number c some =
    let f : (c < width g.table) × (names (column_at g.table c) number ≡ true) × ((j : ℕ) → j < c → names (column_at g.table j) number ≡ false) = least_some (width g.table) (λ k. names (column_at g.table k) number) c some in
    step f.0 f.1 ((column_at g.table c).home == number) refl
  where
    no : true ≡ false → ⊥
    no e = cc

    after : (a b : Bool) → a ≡ false → IsTrue (a || b) → b ≡ true
    after true b f h = absurd (cc)
    after false b f h = h

    target : (o : Option Moving) (home : ℕ) → (home == number) ≡ false → IsTrue (names_moved o home number) → IsSomeAnd o (λ m. m.to ≡ number)
    target None home f h = absurd (no (sym h ∙ f))
    target (Some m) home f h = eqb-true m.to number (after (home == number) (m.to == number) f h)

    step : c < width g.table → IsTrue (names (column_at g.table c) number) → (b : Bool) → ((column_at g.table c).home == number) ≡ b → IsRole g number c (if b then role.Home else role.Target)
    step lt h true r = (lt, eqb-true (column_at g.table c).home number r)
    step lt h false r = (lt, target (column_at g.table c).moving (column_at g.table c).home r h)

-- a number that no column names now, and that one had
pub retired_first : (g : GroupView) (number c : ℕ) → holder_of g.table number ≡ None → holder_of g.first number ≡ Some c → IsRole g number c role.Retired
retired_first g number c none some =
    let f : (c < width g.first) × (names (column_at g.first c) number ≡ true) × ((j : ℕ) → j < c → names (column_at g.first j) number ≡ false) = least_some (width g.first) (λ k. names (column_at g.first k) number) c some in
    (none, f.0, contains_front ((column_at g.first c).home ∷ target_of (column_at g.first c).moving) (brought_by c g.log) number (named_in (column_at g.first c).moving (column_at g.first c).home number f.1))

-- an entry of a log brings an archive to a column of the table
brought_within : (t u : Table) (log : List Entry) (c n : ℕ) → Replays t log u → Contains (brought_by c log) n → c < width t
brought_within t u [] c n r h = absurd (none_contained n h)
brought_within t u (e ∷ log) c n r h = elim (in_either (brought c e) (brought_by c log) n h) [
  | inl l ↦ here e r.0 l
  | inr l ↦
      let rest : c < width (after t e) = brought_within (after t e) u log c n r.1 l in
      let size : ((after t e).data_columns ≡ t.data_columns) × ((after t e).parity ≡ t.parity) × ((after t e).stripes ≡ t.stripes) = sizes_stay t e in
      omega (arith, rest, size.0, size.1)
]
  where
    is : (a b : ℕ) → nat_eq a b ≡ true → a ≡ b
    is a b e = grind (arith, nat_tests)

    by : (k to : ℕ) → k < width t → (b : Bool) → nat_eq c k ≡ b → Contains (if b then to ∷ [] else []) n → c < width t
    by k to lt true e h = subst (λ m. m < width t) (sym (is c k e)) lt
    by k to lt false e h = absurd (none_contained n h)

    here : (e : Entry) → Legal t e → Contains (brought c e) n → c < width t
    here (MoveBegin job k to) legal l = by k to legal.0.0 (nat_eq c k) refl l
    here (Swapped job k to) legal l = by k to legal.0 (nat_eq c k) refl l
    here _ legal l = absurd (none_contained n l)

pub retired_later : (g : GroupView) (number c : ℕ) → Replays g.first g.log g.table → holder_of g.table number ≡ None → brought_to (find (brings number) g.log) ≡ Some c → IsRole g number c role.Retired
retired_later g number c replay none some =
    let b : Contains (brought_by c g.log) number = brought_some g.log number c some in
    (none, brought_within g.first g.table g.log c number replay b, contains_back ((column_at g.first c).home ∷ target_of (column_at g.first c).moving) (brought_by c g.log) number b)

pub no_use : (g : GroupView) (number : ℕ) → holder_of g.table number ≡ None → holder_of g.first number ≡ None → brought_to (find (brings number) g.log) ≡ None → IsUse g number None
no_use g number now first log = (
  now,
  λ c lt h. elim (in_either ((column_at g.first c).home ∷ target_of (column_at g.first c).moving) (brought_by c g.log) number h) [
    | inl l ↦ apart (sym (in_named (column_at g.first c).moving (column_at g.first c).home number l) ∙ least_none (width g.first) (λ k. names (column_at g.first k) number) first c lt)
    | inr l ↦ brought_none g.log number log c l
  ],
)
  where
    apart : true ≡ false → ⊥
    apart e = cc

-- A HOME

-- a column that has this home is the one that names it
pub no_home : (t : Table) (number c : ℕ) → IsTable t → holder_of t number ≡ Some c → (column_at t c).home ≢ number → (k : ℕ) → k < width t → (column_at t k).home ≢ number
no_home t number c table some other k lk e =
    let f : (c < width t) × (names (column_at t c) number ≡ true) × ((j : ℕ) → j < c → names (column_at t j) number ≡ false) = least_some (width t) (λ k. names (column_at t k) number) c some in
    other (ap (λ j. (column_at t j).home) (table.columns.distinct c k number f.0 lk f.1 (in_named (column_at t k).moving (column_at t k).home number (0, omega arith, e))) ∙ e)

pub no_home_at_all : (t : Table) (number : ℕ) → holder_of t number ≡ None → (k : ℕ) → k < width t → (column_at t k).home ≢ number
no_home_at_all t number none k lk e = apart (sym (in_named (column_at t k).moving (column_at t k).home number (0, omega arith, e)) ∙ least_none (width t) (λ k. names (column_at t k) number) none k lk)
  where
    apart : true ≡ false → ⊥
    apart e = cc

pub home_is : (g : GroupView) (number c : ℕ) → IsTable g.table → holder_of g.table number ≡ Some c → IsHomeAt g number (home_of g.number g.table c number)
home_is g number c table some = step ((column_at g.table c).home == number) refl
  where
    apart : (a b : ℕ) → (a == b) ≡ false → a ≢ b
    apart a b h = grind (arith, nat_tests)

    step : (b : Bool) → ((column_at g.table c).home == number) ≡ b → IsHomeAt g number (if b then Some (record { group = g.number; column = c; moving = target_in (column_at g.table c).moving }) else None)
    step true h = (refl, (least_some (width g.table) (λ k. names (column_at g.table k) number) c some).0, eqb-true (column_at g.table c).home number h, refl)
    step false h = no_home g.table number c table some (apart (column_at g.table c).home number h)

-- the holder is a column of the table
pub holder_within : (t : Table) (number c : ℕ) → IsTable t → holder_of t number ≡ Some c → c < length t.columns
holder_within t number c table some = (let l : c < width t = (least_some (width t) (λ k. names (column_at t k) number) c some).0 in omega (arith, l, table.size.columns))
