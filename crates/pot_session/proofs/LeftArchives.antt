-- The archives of the tables that a session leaves: each is one that it had, and all are apart.
use Rattle.std.proofs.Common.{◌≡◌, ◌≢◌, ◌≤◌, ◌<◌, ◌+◌, ◌++◌, ⊎_elim, inl, inr, ◌⊎◌, ℕ, zero, suc, true, false, List, [], ◌∷◌, length, refl, sym, ap, subst, ◌∙◌, arith, eqb, nat_eq}
use Rattle.std.specs.Prelude.{All, Contains, IfSome, IsTrue, Option, Some, None, slice_get, flat_map}
use Rattle.std.specs.List.{AllByRecursion, IsDistinct}
use Rattle.std.proofs.lemmas.Bool.{ne_eqb}
use Rattle.std.proofs.lemmas.Bool.Decides.{eqb_tells}
use Rattle.std.proofs.lemmas.List.Elements.{All-nil, All-cons}
use Rattle.std.proofs.lemmas.Option.{slice_get_within}
use Rattle.pot_machine.specs.declared.column.Column.{Column}
use Rattle.pot_machine.specs.declared.column.Moving.{Moving}
use Rattle.pot_machine.specs.declared.entry.Entry.{Entry}
use Rattle.pot_machine.specs.Column.{homes_of, target_of, names}
use Rattle.pot_machine.specs.Table.{Table, archives_in, column_at, no_column, width}
use Rattle.pot_machine.specs.Rules.{IsTable}
use Rattle.pot_machine.proofs.Columns.{in_named}
use Rattle.pot_group.specs.Arrivals.{arrivals}
use Rattle.pot_image.specs.Rules.{AreArchives}
use Rattle.pot_outside.specs.Archives.{Meaning}
use Rattle.pot_shelves.specs.Shelves.{Shelves}
use Rattle.pot_shared.specs.Groups.{AreLow}
use Rattle.pot_shared.specs.Hands.{times, AreApart}
use Rattle.pot_shared.specs.Leaving.{LeavesGroup, LeaveGroups}
use Rattle.pot_shared.proofs.Lists.{at_same}
use Rattle.pot_shared.proofs.Times.{contains_times, one_if, times-append, times_contains, times_here, times_there}
use Rattle.pot_session.specs.Losses.{all_had}
use Rattle.pot_session.proofs.StripeLemmas.{column_had}

-- HOW OFTEN A NUMBER STANDS IN LISTS OF LISTS

none_in_all : {M : Type 0} (h : M → List ℕ) (n : ℕ) (ms : List M) → ((i : ℕ) (x : M) → slice_get ms i ≡ Some x → times n (h x) ≡ 0) → times n (flat_map h ms) ≡ 0
none_in_all h n [] none = refl
none_in_all h n (m ∷ ms) none =
    (let a = times-append n (h m) (flat_map h ms) in let b = none 0 m refl in let c = none_in_all h n ms (λ i x q. none (suc i) x q) in omega (arith, a, b, c))

zero_or : (k : ℕ) → (k ≡ 0) ⊎ (1 ≤ k)
zero_or zero = inl refl
zero_or (suc k) = inr (omega arith)

none_by : (k : ℕ) → (1 ≤ k → ⊥) → k ≡ 0
none_by zero never = refl
none_by (suc k) never = absurd (never (omega arith))

once_step : (a r w : ℕ) → a ≤ 1 → r ≤ 1 → w ≡ a + r → (1 ≤ a → r ≡ 0) → w ≤ 1
once_step zero r w la lr e none = omega (arith, lr, e)
once_step (suc a) r w la lr e none = (let z = none (omega arith) in omega (arith, la, e, z))

-- in at most one of them, and there at most once
once_in_all : {M : Type 0} (h : M → List ℕ) (n : ℕ) (ms : List M) → ((i : ℕ) (x : M) → slice_get ms i ≡ Some x → times n (h x) ≤ 1)
    → ((i j : ℕ) (x y : M) → slice_get ms i ≡ Some x → slice_get ms j ≡ Some y → 1 ≤ times n (h x) → 1 ≤ times n (h y) → i ≡ j) → times n (flat_map h ms) ≤ 1
once_in_all h n [] one apart = omega arith
once_in_all h n (m ∷ ms) one apart =
    once_step (times n (h m)) (times n (flat_map h ms)) (times n (h m ++ flat_map h ms)) (one 0 m refl)
    (once_in_all h n ms (λ i x q. one (suc i) x q) (λ i j x y p q a b. (let e = apart (suc i) (suc j) x y p q a b in omega (arith, e)))) (times-append n (h m) (flat_map h ms))
    (λ first. none_in_all h n ms (λ i x q. none_by (times n (h x)) (λ some. (let z = apart 0 (suc i) m x refl q first some in absurd (omega (arith, z))))))

-- where it stands, it stands in one of them
abbrev StandsIn : {M : Type 0} → (M → List ℕ) → ℕ → List M → Type 0
StandsIn {M} h n ms = (i : ℕ) × (x : M) × (slice_get ms i ≡ Some x) × (1 ≤ times n (h x))

stands_step : {M : Type 0} (h : M → List ℕ) (n : ℕ) (m : M) (ms : List M) → ((times n (h m) ≡ 0) ⊎ (1 ≤ times n (h m))) → 1 ≤ times n (h m ++ flat_map h ms)
    → (1 ≤ times n (flat_map h ms) → StandsIn h n ms) → StandsIn h n (m ∷ ms)
stands_step h n m ms (inr first) some go = (0, m, refl, first)
stands_step h n m ms (inl none) some go = (let a = times-append n (h m) (flat_map h ms) in let r = go (omega (arith, a, none, some)) in (suc r.0, r.1, r.2, r.3))

stands_in : {M : Type 0} (h : M → List ℕ) (n : ℕ) (ms : List M) → 1 ≤ times n (flat_map h ms) → StandsIn h n ms
stands_in h n [] some = absurd (omega (arith, some))
stands_in h n (m ∷ ms) some = stands_step h n m ms (zero_or (times n (h m))) some (λ more. stands_in h n ms more)

-- THE ARCHIVES OF A TABLE

one_once : (k n : ℕ) → times n (k ∷ []) ≤ 1
one_once k n = ⊎_elim
    (λ (h : (eqb k n ≡ true) × (k ≡ n)). (let o = ap one_if h.0 in omega (arith, o)))
    (λ (h : (eqb k n ≡ false) × (k ≢ n)). (let o = ap one_if h.0 in omega (arith, o)))
    (eqb_tells k n)

-- a column has a number at most once
home_once : (o : Option Moving) (home n : ℕ) → IfSome o (λ m. m.to ≢ home) → times n (home ∷ target_of o) ≤ 1
home_once None home n apart = one_once home n
home_once (Some m) home n apart = ⊎_elim
    (λ (h : (eqb home n ≡ true) × (home ≡ n)). (let o = ap one_if h.0 in let z = times_there m.to n (λ e. apart (e ∙ sym h.1)) in omega (arith, o, z)))
    (λ (h : (eqb home n ≡ false) × (home ≢ n)). (let o = ap one_if h.0 in let z = one_once m.to n in omega (arith, o, z)))
    (eqb_tells home n)

module _ (t : Table) (is : IsTable t) where
  column_is : (c : ℕ) (x : Column) → slice_get t.columns c ≡ Some x → column_at t c ≡ x
  column_is c x q = at_same t.columns c no_column x q

  within : (c : ℕ) (x : Column) → slice_get t.columns c ≡ Some x → c < width t
  within c x q = (let l = slice_get_within t.columns c x q in let e = is.size.columns in omega (arith, l, e))

  named : (c : ℕ) (x : Column) (n : ℕ) → slice_get t.columns c ≡ Some x → 1 ≤ times n (homes_of x) → IsTrue (names (column_at t c) n)
  named c x n q some = subst (λ (y : Column). IsTrue (names y n)) (sym (column_is c x q)) (in_named x.moving x.home n (times_contains (homes_of x) n some))

  target : (c : ℕ) (x : Column) → slice_get t.columns c ≡ Some x → IfSome x.moving (λ m. m.to ≢ x.home)
  target c x q = by x.moving (subst (λ (y : Column). IfSome y.moving (λ m. (m.to ≢ y.home) × (m.upto ≤ t.stripes))) (column_is c x q) (is.columns.target c (within c x q)))
    where
      by : (o : Option Moving) → IfSome o (λ m. (m.to ≢ x.home) × (m.upto ≤ t.stripes)) → IfSome o (λ m. m.to ≢ x.home)
      by None h = tt
      by (Some m) h = h.0

  pub archives_once : (n : ℕ) → times n (archives_in t) ≤ 1
  archives_once n =
      once_in_all homes_of n t.columns (λ c x q. home_once x.moving x.home n (target c x q))
      (λ i j x y p q a b. is.columns.distinct i j n (within i x p) (within j y q) (named i x n p a) (named j y n q b))

  pub archive_named : (n : ℕ) → 1 ≤ times n (archives_in t) → (c : ℕ) × (c < width t) × IsTrue (names (column_at t c) n)
  archive_named n some = (let r = stands_in homes_of n t.columns some in (r.0, within r.0 r.1 r.2, named r.0 r.1 n r.2 r.3))

-- ONE GROUP

module _ (told : Type 0) (meant : ℕ → Meaning) (Has : Shelves → ℕ → Type 0) (t u : Table) (log : List Entry) (left : LeavesGroup told meant Has t log u) (columns : length t.columns ≡ width t) where
  had : (n : ℕ) → 1 ≤ times n (archives_in left.view.table) → 1 ≤ times n (archives_in t ++ arrivals log)
  had n some =
      let c = archive_named left.view.table left.settled.table n some in
      let sizes = left.settled.sizes in
      let lt = c.1 in
      let wide : c.0 < length left.view.first.columns =
      (let a = sizes.0 in let b = sizes.1 in let k : length left.view.first.columns ≡ width left.view.first = subst (λ (f : Table). length f.columns ≡ width f) (sym left.first) columns in omega (arith, lt, a, b, k)) in
      contains_times (archives_in t ++ arrivals log) n
      (subst (λ l. Contains (archives_in t ++ arrivals l) n) left.is_log (subst (λ f. Contains (archives_in f ++ arrivals left.view.log) n) left.first
      (column_had left.view.first left.view.log c.0 n wide (left.settled.serves c.0 n c.1 c.2))))

  pub left_had : (n : ℕ) → times n (archives_in u) ≤ times n (archives_in t) + times n (arrivals log)
  left_had n = subst (λ v. times n (archives_in v) ≤ times n (archives_in t) + times n (arrivals log)) (sym left.is) (by (times n (archives_in left.view.table)) refl)
    where
      by : (k : ℕ) → times n (archives_in left.view.table) ≡ k → times n (archives_in left.view.table) ≤ times n (archives_in t) + times n (arrivals log)
      by zero e = omega (arith, e)
      by (suc k) e =
          (let o = archives_once left.view.table left.settled.table n in let h = had n (omega (arith, e)) in let a = times-append n (archives_in t) (arrivals log) in omega (arith, o, h, a))

-- ALL GROUPS

all_left : (n : ℕ) (ts us : List Table) (logs : List (List Entry)) → length us ≡ length ts → length logs ≡ length ts
    → ((g : ℕ) (t u : Table) (log : List Entry) → slice_get ts g ≡ Some t → slice_get us g ≡ Some u → slice_get logs g ≡ Some log → times n (archives_in u) ≤ times n (archives_in t) + times n (arrivals log))
    → times n (flat_map archives_in us) ≤ times n (flat_map archives_in ts) + times n (flat_map arrivals logs)
all_left n [] [] logs many long each = omega arith
all_left n [] (u ∷ us) logs many long each = absurd (omega (arith, many))
all_left n (t ∷ ts) [] logs many long each = absurd (omega (arith, many))
all_left n (t ∷ ts) (u ∷ us) [] many long each = absurd (omega (arith, long))
all_left n (t ∷ ts) (u ∷ us) (log ∷ logs) many long each =
    (let a = times-append n (archives_in u) (flat_map archives_in us) in let b = times-append n (archives_in t) (flat_map archives_in ts) in let c = times-append n (arrivals log) (flat_map arrivals logs) in
    let h = each 0 t u log refl refl refl in let r = all_left n ts us logs (omega (arith, many)) (omega (arith, long)) (λ g x y l p q w. each (suc g) x y l p q w) in omega (arith, a, b, c, h, r))

pub tables_left : (told : Type 0) (meant : ℕ → Meaning) (Has : Shelves → ℕ → Type 0) (ts us : List Table) (logs : List (List Entry)) → LeaveGroups told meant Has ts logs us
    → ((g : ℕ) (t : Table) → slice_get ts g ≡ Some t → length t.columns ≡ width t) → (n : ℕ) → times n (flat_map archives_in us) ≤ times n (all_had ts logs)
tables_left told meant Has ts us logs leaves columns n =
    let l = all_left n ts us logs leaves.count leaves.count_logs (λ g t u log p q w. left_had told meant Has t u log (leaves.each g t u log p q w) (columns g t p) n) in
    let a = times-append n (flat_map archives_in ts) (flat_map arrivals logs) in omega (arith, l, a)

-- NUMBERS THAT ARE APART AND LOW

none_equal : (n : ℕ) (xs : List ℕ) → times n xs ≡ 0 → AllByRecursion (λ y. nat_eq n y ≡ false) xs
none_equal n [] none = tt
none_equal n (x ∷ xs) none = (
  ne_eqb n x (λ e. (let h = times_here n in let z = ap (λ m. times n (m ∷ [])) e in omega (arith, h, z, none))),
  none_equal n xs (omega (arith, none)),
)

distinct_of : (xs : List ℕ) → AreApart xs → IsDistinct nat_eq xs
unfolding IsDistinct
distinct_of [] apart = tt
distinct_of (x ∷ xs) apart = (
  none_equal x xs (let a = apart x in let h = times_here x in omega (arith, a, h)),
  distinct_of xs (λ n. (let a = apart n in omega (arith, a))),
)

low_all : (xs : List ℕ) → AreLow xs → All (λ n. n ≤ 511) xs
low_all [] low = All-nil (λ n. n ≤ 511)
low_all (x ∷ xs) low = All-cons (λ n. n ≤ 511) x xs (by (nearer x)) (low_all xs (λ n l. (let a = low n l in omega (arith, a))))
  where
    nearer : (n : ℕ) → (n ≤ 511) ⊎ (511 < n)
    nearer n = grind arith

    by : ((x ≤ 511) ⊎ (511 < x)) → x ≤ 511
    by (inl l) = l
    by (inr l) = absurd (let a = low x l in let h = times_here x in omega (arith, a, h))

pub archives_of : (xs ys : List ℕ) → ((n : ℕ) → times n xs ≤ times n ys) → AreApart ys → AreLow ys → AreArchives xs
archives_of xs ys le apart low = record {
  within = low_all xs (λ n l. (let a = le n in let b = low n l in omega (arith, a, b)));
  distinct = distinct_of xs (λ n. (let a = le n in let b = apart n in omega (arith, a, b)));
}

-- a number that stands among them is low
pub low_number : (ys : List ℕ) → AreLow ys → (n : ℕ) → Contains ys n → n ≤ 511
low_number ys low n has = by (nearer n)
  where
    nearer : (n : ℕ) → (n ≤ 511) ⊎ (511 < n)
    nearer n = grind arith

    by : ((n ≤ 511) ⊎ (511 < n)) → n ≤ 511
    by (inl l) = l
    by (inr l) = absurd (let a = low n l in let h = contains_times ys n has in omega (arith, a, h))
