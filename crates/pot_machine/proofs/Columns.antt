-- The rule on homes, targets and positions, kept.
use Rattle.std.proofs.Common.{◌≡◌, ◌≢◌, ◌<◌, ◌≤◌, ◌⊎◌, inl, inr, ℕ, Bool, true, false, IsTrue, Option, Some, None, IfSome, IsSomeAnd, length, get_or, refl, ap, sym, ◌∙◌, subst, arith, ◌||◌, zero, suc, ◌∷◌}
use Rattle.std.specs.Prelude.{◌==◌, nat_lt, if◌then◌else◌, Contains}
use Rattle.std.proofs.lemmas.Bool.Decides.{nat_tests}
use Rattle.std.proofs.lemmas.List.{get_or-set_same, get_or-set_other}
use Rattle.std.proofs.lemmas.Bool.{cases_eq, eqb-true, eqb-false, or_cases, or_left, or_parts, both_ways, eq-eqb, or_right}
use Rattle.pot_bytes.proofs.Elements.{one_contained}
use Rattle.pot_machine.specs.declared.column.Column.{Column}
use Rattle.pot_machine.specs.declared.column.Moving.{Moving}
use Rattle.pot_machine.specs.Column.{names, names_moved, serving, target_of}
use Rattle.pot_machine.specs.Table.{Table, width, column_at, serving_at, no_column, holder_of}
use Rattle.pot_machine.specs.Machine.{with_column, moved_on, moved_home, TakesArchive, MovesAt}
use Rattle.pot_machine.specs.Rules.{HasColumns}
use Rattle.pot_machine.proofs.Searches.{least_none}

pub column_same : (t : Table) (c : ℕ) (x : Column) → length t.columns ≡ width t → c < width t → column_at (with_column t c x) c ≡ x
column_same t c x e lt = get_or-set_same t.columns c x no_column (omega arith)

pub column_other : (t : Table) (c k : ℕ) (x : Column) → k ≢ c → column_at (with_column t c x) k ≡ column_at t k
column_other t c k x ne = get_or-set_other t.columns c k x no_column ne

-- the same columns
pub columns_kept : (t u : Table) → u.columns ≡ t.columns → width u ≡ width t → u.stripes ≡ t.stripes → HasColumns t → HasColumns u
columns_kept t u e data_columns stripes h =
    let at : (c : ℕ) → column_at u c ≡ column_at t c = λ c. ap (λ xs. get_or xs c no_column) e in
    record {
      target = λ c lt. subst (λ x. IfSome x.moving (λ m. (m.to ≢ x.home) × (m.upto ≤ u.stripes))) (sym (at c))
          (subst (λ z. IfSome (column_at t c).moving (λ m. (m.to ≢ (column_at t c).home) × (m.upto ≤ z))) (sym stripes) (h.target c (omega arith)));
      distinct = λ c k number lc lk nc nk. h.distinct c k number (omega arith) (omega arith)
          (sym (ap (λ x. names x number) (at c)) ∙ nc) (sym (ap (λ x. names x number) (at k)) ∙ nk);
    }

-- one column was changed to archives that it had already or that no column has
module _ (t : Table) (c : ℕ) (x : Column) (sized : length t.columns ≡ width t) (below : c < width t) (h : HasColumns t)
    (target : IfSome x.moving (λ m. (m.to ≢ x.home) × (m.upto ≤ t.stripes)))
    (own : (number : ℕ) → IsTrue (names x number) → IsTrue (names (column_at t c) number) ⊎ (holder_of t number ≡ None)) where
  alone : (k number : ℕ) → k < width t → k ≢ c → IsTrue (names x number) → IsTrue (names (column_at t k) number) → ⊥
  alone k number lk ne nx nk = elim (own number nx) [
    | inl e ↦ ne (h.distinct k c number lk below nk e)
    | inr e ↦ both_ways _ (least_none (width t) (λ j. names (column_at t j) number) e k lk) nk
  ]

  pub columns_with : HasColumns (with_column t c x)
  columns_with = record {
    target = λ k lt. elim (cases_eq k c) [
      | inl e ↦ subst (λ y. IfSome y.moving (λ m. (m.to ≢ y.home) × (m.upto ≤ t.stripes))) (sym (ap (λ j. column_at (with_column t c x) j) e ∙ column_same t c x sized below)) target
      | inr ne ↦ subst (λ y. IfSome y.moving (λ m. (m.to ≢ y.home) × (m.upto ≤ t.stripes))) (sym (column_other t c k x ne)) (h.target k lt)
    ];
    distinct = λ j k number lj lk nj nk. elim (cases_eq j c) [
      | inl e ↦ elim (cases_eq k c) [
        | inl f ↦ e ∙ sym f
        | inr nf ↦ absurd (alone k number lk nf (now_own j number e nj) (sym (ap (λ y. names y number) (column_other t c k x nf)) ∙ nk))
      ]
      | inr ne ↦ elim (cases_eq k c) [
        | inl f ↦ absurd (alone j number lj ne (now_own k number f nk) (sym (ap (λ y. names y number) (column_other t c j x ne)) ∙ nj))
        | inr nf ↦ h.distinct j k number lj lk (sym (ap (λ y. names y number) (column_other t c j x ne)) ∙ nj) (sym (ap (λ y. names y number) (column_other t c k x nf)) ∙ nk)
      ]
    ];
  }
    where
      now_own : (k number : ℕ) → k ≡ c → IsTrue (names (column_at (with_column t c x) k) number) → IsTrue (names x number)
      now_own k number e n = sym (ap (λ y. names y number) (ap (λ j. column_at (with_column t c x) j) e ∙ column_same t c x sized below)) ∙ n

itself : (a : ℕ) → (a == a) ≡ true
itself a = grind (arith, nat_tests)

-- a column names its home
names_home : (o : Option Moving) (home : ℕ) → names_moved o home home ≡ true
names_home None home = itself home
names_home (Some m) home = or_left (home == home) (m.to == home) (itself home)

not_named : (o : Option Moving) (home number : ℕ) → names_moved o home number ≡ false → home ≢ number
not_named None home number h = eqb-false home number h
not_named (Some m) home number h = eqb-false home number (or_parts (home == number) (m.to == number) h).0

-- the archives of a column are those that it names
pub named_in : (o : Option Moving) (home n : ℕ) → IsTrue (names_moved o home n) → Contains (home ∷ target_of o) n
named_in None home n h = (0, omega arith, eqb-true home n h)
named_in (Some m) home n h = elim (or_cases (home == n) (m.to == n) h) [
  | inl e ↦ (0, omega arith, eqb-true home n e)
  | inr e ↦ (1, omega arith, eqb-true m.to n e)
]

pub in_named : (o : Option Moving) (home n : ℕ) → Contains (home ∷ target_of o) n → IsTrue (names_moved o home n)
in_named None home n h = eq-eqb home n (one_contained home n h)
in_named (Some m) home n (zero, l, e) = or_left (home == n) (m.to == n) (eq-eqb home n e)
in_named (Some m) home n (suc k, l, e) = or_right (home == n) (m.to == n) (eq-eqb m.to n (one_contained m.to n (k, omega (arith, l), e)))

-- the four changes of a column

pub move_begins : (t : Table) (c to : ℕ) → length t.columns ≡ width t → HasColumns t → TakesArchive t c to
    → HasColumns (with_column t c (record (column_at t c) { moving = Some (record { to = to; upto = 0 }) }))
move_begins t c to sized h l = columns_with t c (record (column_at t c) { moving = Some (record { to = to; upto = 0 }) }) sized l.0 h
    ((λ e. not_named (column_at t c).moving (column_at t c).home to (least_none (width t) (λ j. names (column_at t j) to) l.1 c l.0) (sym e)), omega arith)
    (λ number n. elim (or_cases ((column_at t c).home == number) (to == number) n) [
      | inl e ↦ inl (subst (λ j. names_moved (column_at t c).moving (column_at t c).home j ≡ true) (eqb-true (column_at t c).home number e) (names_home (column_at t c).moving (column_at t c).home))
      | inr e ↦ inr (subst (λ j. holder_of t j ≡ None) (eqb-true to number e) l.1)
    ])

pub swaps : (t : Table) (c to : ℕ) → length t.columns ≡ width t → HasColumns t → TakesArchive t c to → HasColumns (with_column t c (record { home = to; moving = None }))
swaps t c to sized h l = columns_with t c (record { home = to; moving = None }) sized l.0 h tt
    (λ number n. inr (subst (λ j. holder_of t j ≡ None) (eqb-true to number n) l.1))

-- a column that moves on, or is at home again, names no other archives
moved_on_target : (o : Option Moving) (home s z : ℕ) → IsSomeAnd o (λ m. m.upto ≡ s) → s < z → IfSome o (λ m. (m.to ≢ home) × (m.upto ≤ z))
    → IfSome (moved_on (record { home = home; moving = o })).moving (λ m. (m.to ≢ home) × (m.upto ≤ z))
moved_on_target None home s z at lt h = absurd at
moved_on_target (Some m) home s z at lt h = (h.0, omega arith)

moved_on_names : (o : Option Moving) (home number : ℕ) → names (moved_on (record { home = home; moving = o })) number ≡ names_moved o home number
moved_on_names None home number = refl
moved_on_names (Some m) home number = refl

pub moved_home_names : (o : Option Moving) (home number : ℕ) → IsTrue (names (moved_home (record { home = home; moving = o })) number) → IsTrue (names_moved o home number)
moved_home_names None home number h = h
moved_home_names (Some m) home number h = or_right (home == number) (m.to == number) h

pub moves_on : (t : Table) (c s : ℕ) → length t.columns ≡ width t → HasColumns t → MovesAt t c s → s < t.stripes → HasColumns (with_column t c (moved_on (column_at t c)))
moves_on t c s sized h l lt = columns_with t c (moved_on (column_at t c)) sized l.0 h
    (moved_on_target (column_at t c).moving (column_at t c).home s t.stripes l.1 lt (h.target c l.0))
    (λ number n. inl (sym (moved_on_names (column_at t c).moving (column_at t c).home number) ∙ n))

pub move_ends : (t : Table) (c : ℕ) → length t.columns ≡ width t → HasColumns t → c < width t → HasColumns (with_column t c (moved_home (column_at t c)))
move_ends t c sized h lt = columns_with t c (moved_home (column_at t c)) sized lt h tt
    (λ number n. inl (moved_home_names (column_at t c).moving (column_at t c).home number n))

-- the archive that serves a slot is the home or the target of its column
pub names_serving : (x : Column) (s : ℕ) → IsTrue (names x (serving x s))
names_serving x s = by x.home x.moving
  where
    by : (home : ℕ) (m : Option Moving) → IsTrue (names (record { home = home; moving = m }) (serving (record { home = home; moving = m }) s))
    by home None = itself home
      where
        itself : (a : ℕ) → (a == a) ≡ true
        itself a = grind (arith, nat_tests)
    by home (Some m) = either home m.to (nat_lt s m.upto)
      where
        either : (a b : ℕ) (l : Bool) → (a == (if l then b else a)) || (b == (if l then b else a)) ≡ true
        either a b l = grind (arith, nat_tests)

-- two columns of one stripe are served by two archives
pub serving_apart : (t : Table) (s c k : ℕ) → HasColumns t → c < width t → k < width t → c ≢ k → serving_at t s c ≢ serving_at t s k
serving_apart t s c k columns lc lk ne e =
    ne (columns.distinct c k (serving_at t s k) lc lk (subst (λ n. IsTrue (names (column_at t c) n)) e (names_serving (column_at t c) s)) (names_serving (column_at t k) s))
