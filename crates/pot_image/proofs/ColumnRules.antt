-- The columns of a table that was read keep its rules.
use Rattle.std.proofs.Common.{◌≡◌, ◌≢◌, ◌⊎◌, inl, inr, ◌<◌, ◌≤◌, ℕ, zero, suc, ◌+◌, ◌==◌, ◌||◌, nat_le, Bool, true, false, not, if◌then◌else◌, IfSome, Option, Some, None, List, [], ◌∷◌, ◌++◌, length, get_or, flat_map, Ok, ap, ap₂, sym, ◌∙◌, refl, subst, arith, length-append, append_assoc, append-nil, eq-eqb}
use Rattle.std.specs.List.{list_any}
use Rattle.std.proofs.Math.Seq.{get_or-append_seam}
use Rattle.std.proofs.lemmas.List.{get_or_append_left}
use Rattle.std.proofs.lemmas.Grind.{flat_map-append}
use Rattle.std.proofs.lemmas.Bool.{leb-true, ne_eqb, and_parts, cases_lt, cases_Bool}
use Rattle.pot_machine.specs.declared.column.Column.{Column}
use Rattle.pot_machine.specs.declared.column.Moving.{Moving}
use Rattle.pot_machine.specs.Column.{names, names_moved}
use Rattle.pot_machine.specs.Table.{Table, width, column_at, no_column}
use Rattle.pot_machine.specs.Rules.{HasColumns}
use Rattle.pot_image.specs.Fields.{done}
use Rattle.pot_image.specs.Reading.{◌>>=◌, reading}
use Rattle.pot_image.specs.Numbers.{natural, at_most, zeros, flag}
use Rattle.pot_machine.specs.Column.{homes_of}
use Rattle.pot_image.specs.Tables.{is_free, moving, resting, column, column_behind, columns}
use Rattle.pot_image.proofs.Steps.{holds_of}
use Rattle.pot_image.proofs.Inverse.{parts, done_is, read_chosen, read_other, several_keep}

-- NUMBERS THAT STAND NOWHERE BEFORE

-- each number is that of an archive, and stands nowhere before, nor among those that are taken
abbrev pub AreFree : List ℕ → List ℕ → Type 0
AreFree taken [] = Unit {0}
AreFree taken (n ∷ ns) = (is_free taken n ≡ true) × AreFree (taken ++ n ∷ []) ns

abbrev pub stands : ℕ → List ℕ → Bool
stands n ns = list_any (λ m. m == n) ns

-- more numbers behind those that are free
pub free_more : (xs ys taken : List ℕ) → AreFree taken xs → AreFree (taken ++ xs) ys → AreFree taken (xs ++ ys)
free_more [] ys taken h k = subst (λ t. AreFree t ys) (append-nil taken) k
free_more (x ∷ xs) ys taken h k = (h.0, free_more xs ys (taken ++ x ∷ []) h.1 (subst (λ t. AreFree t ys) (sym (append_assoc taken (x ∷ []) xs)) k))

stands_left : (n : ℕ) (xs ys : List ℕ) → stands n xs ≡ true → stands n (xs ++ ys) ≡ true
stands_left n [] ys e = absurd ((cc))
stands_left n (x ∷ xs) ys e = (by_head (x == n) e (λ h. stands_left n xs ys h))
  where
    by_head : (b : Bool) → b || stands n xs ≡ true → (stands n xs ≡ true → stands n (xs ++ ys) ≡ true) → b || stands n (xs ++ ys) ≡ true
    by_head true h again = refl
    by_head false h again = again h

pub stands_right : (n : ℕ) (xs ys : List ℕ) → stands n ys ≡ true → stands n (xs ++ ys) ≡ true
stands_right n [] ys e = e
stands_right n (x ∷ xs) ys e = (let again = stands_right n xs ys e in by_head (x == n) again)
  where
    by_head : (b : Bool) → stands n (xs ++ ys) ≡ true → b || stands n (xs ++ ys) ≡ true
    by_head true h = refl
    by_head false h = h

is_new : (taken : List ℕ) (n : ℕ) → is_free taken n ≡ true → stands n taken ≡ false
is_new taken n e = (let b = and_parts (nat_le n 511) (not (stands n taken)) e in by_test (stands n taken) b.1)
  where
    by_test : (b : Bool) → not b ≡ true → b ≡ false
    by_test false h = refl
    by_test true h = absurd ((cc))

-- what is taken stands not among numbers that are free
pub free_apart : (xs taken : List ℕ) (n : ℕ) → AreFree taken xs → stands n taken ≡ true → stands n xs ≡ false
free_apart [] taken n h e = refl
free_apart (x ∷ xs) taken n h e =
    (let rest = free_apart xs (taken ++ x ∷ []) n h.1 (stands_left n taken (x ∷ []) e) in
    ap₂ (λ a b. a || b) (ne_eqb x n (λ q. clash (stands n taken) e (ap (λ m. stands m taken) (sym q) ∙ is_new taken x h.0))) rest)
  where
    clash : (b : Bool) → b ≡ true → b ≡ false → ⊥
    clash b t f = cc

-- THE NUMBERS OF COLUMNS

names_stand : (home number : ℕ) (o : Option Moving) → names_moved o home number ≡ true → stands number (homes_of (record { home = home; moving = o })) ≡ true
names_stand home number None e = by_test (home == number) e
  where
    by_test : (b : Bool) → b ≡ true → b || false ≡ true
    by_test true h = refl
    by_test false h = h
names_stand home number (Some m) e = by_tests (home == number) (m.to == number) e
  where
    by_tests : (a b : Bool) → a || b ≡ true → a || (b || false) ≡ true
    by_tests true b h = refl
    by_tests false true h = refl
    by_tests false false h = h

named : (c : Column) (number : ℕ) → names c number ≡ true → stands number (homes_of c) ≡ true
named c number e = names_stand c.home number c.moving e

named_among : (cs : List Column) (k number : ℕ) → k < length cs → names (get_or cs k no_column) number ≡ true → stands number (flat_map homes_of cs) ≡ true
named_among [] k number l e = absurd (omega (arith, l))
named_among (c ∷ cs) zero number l e = stands_left number (homes_of c) (flat_map homes_of cs) (named c number e)
named_among (c ∷ cs) (suc k) number l e = stands_right number (homes_of c) (flat_map homes_of cs) (named_among cs k number (omega (arith, l)) e)

pub free_rest : (xs ys taken : List ℕ) → AreFree taken (xs ++ ys) → AreFree taken xs × AreFree (taken ++ xs) ys
free_rest [] ys taken h = (tt, subst (λ t. AreFree t ys) (sym (append-nil taken)) h)
free_rest (x ∷ xs) ys taken h = (let r = free_rest xs ys (taken ++ x ∷ []) h.1 in ((h.0, r.0), subst (λ t. AreFree t ys) (append_assoc taken (x ∷ []) xs) r.1))

apart : (x : Column) (cs : List Column) (taken : List ℕ) (number k : ℕ) → AreFree taken (flat_map homes_of (x ∷ cs)) → k < length cs → names x number ≡ true → names (get_or cs k no_column) number ≡ true → ⊥
apart x cs taken number k h l e q =
    (let r = free_rest (homes_of x) (flat_map homes_of cs) taken h in
    let before = stands_right number taken (homes_of x) (named x number e) in
    clash (stands number (flat_map homes_of cs)) (named_among cs k number l q) (free_apart (flat_map homes_of cs) (taken ++ homes_of x) number r.1 before))
  where
    clash : (b : Bool) → b ≡ true → b ≡ false → ⊥
    clash b t f = cc

distinct : (cs : List Column) (taken : List ℕ) → AreFree taken (flat_map homes_of cs) → (c k number : ℕ) → c < length cs → k < length cs
    → names (get_or cs c no_column) number ≡ true → names (get_or cs k no_column) number ≡ true → c ≡ k
distinct [] taken h c k number lc lk e q = absurd (omega (arith, lc))
distinct (x ∷ cs) taken h zero zero number lc lk e q = refl
distinct (x ∷ cs) taken h zero (suc k) number lc lk e q =
    absurd (apart x cs taken number k h (omega (arith, lk)) e q)
distinct (x ∷ cs) taken h (suc c) zero number lc lk e q =
    absurd (apart x cs taken number c h (omega (arith, lc)) q e)
distinct (x ∷ cs) taken h (suc c) (suc k) number lc lk e q =
    ap suc (distinct cs (taken ++ homes_of x) (free_rest (homes_of x) (flat_map homes_of cs) taken h).1 c k number (omega (arith, lc)) (omega (arith, lk)) e q)

-- each column is free behind what stands before it
free_at : (cs : List Column) (taken : List ℕ) (c : ℕ) → c < length cs → AreFree taken (flat_map homes_of cs) → (before : List ℕ) × AreFree before (homes_of (get_or cs c no_column))
free_at [] taken c l h = absurd (omega (arith, l))
free_at (x ∷ cs) taken zero l h = (taken, (free_rest (homes_of x) (flat_map homes_of cs) taken h).0)
free_at (x ∷ cs) taken (suc c) l h = free_at cs (taken ++ homes_of x) c (omega (arith, l)) (free_rest (homes_of x) (flat_map homes_of cs) taken h).1

target_apart : (home : ℕ) (o : Option Moving) (before : List ℕ) → AreFree before (homes_of (record { home = home; moving = o })) → IfSome o (λ m. m.to ≢ home)
target_apart home None before h = tt
target_apart home (Some m) before h = λ e. clash (stands m.to (before ++ home ∷ [])) (stands_right m.to before (home ∷ []) (itself m.to home (sym e))) (is_new (before ++ home ∷ []) m.to h.1.0)
  where
    clash : (b : Bool) → b ≡ true → b ≡ false → ⊥
    clash b t f = cc

    itself : (n k : ℕ) → k ≡ n → stands n (k ∷ []) ≡ true
    itself n k q = ap (λ b. b || false) (eq-eqb k n q)

within : (o : Option Moving) (home stripes : ℕ) → IfSome o (λ m. m.to ≢ home) → IfSome o (λ m. m.upto ≤ stripes) → IfSome o (λ m. (m.to ≢ home) × (m.upto ≤ stripes))
within None home stripes h k = tt
within (Some m) home stripes h k = (h, k)

-- the position of a move is that of a stripe, or the end
abbrev pub IsWithin : ℕ → Column → Type 0
IsWithin stripes c = IfSome c.moving (λ m. m.upto ≤ stripes)

pub columns_of : (t : Table) (taken : List ℕ) → length t.columns ≡ width t → AreFree taken (flat_map homes_of t.columns)
    → ((c : ℕ) → c < length t.columns → IsWithin t.stripes (column_at t c)) → HasColumns t
columns_of t taken size free moves = record {
  target = λ c l. (let lc : c < length t.columns = omega (arith, size, l) in
      let f = free_at t.columns taken c lc free in
      within (column_at t c).moving (column_at t c).home t.stripes (target_apart (column_at t c).home (column_at t c).moving f.0 f.1) (moves c lc));
  distinct = λ c k number lc lk e q. distinct t.columns taken free c k number (omega (arith, size, lc)) (omega (arith, size, lk)) e q;
}

-- COLUMNS THAT WERE READ

record Kept (stripes : ℕ) (taken : List ℕ) (x : Column) : Type 0 where
  free : AreFree taken (homes_of x)
  moves : IsWithin stripes x

kept_as : (stripes : ℕ) (taken : List ℕ) (x y : Column) → x ≡ y → Kept stripes taken x → Kept stripes taken y
kept_as stripes taken x y e k = subst (Kept stripes taken) e k

column_kept : (stripes : ℕ) (taken bytes rest : List ℕ) (x : Column) → reading (column stripes taken) bytes ≡ Ok (x, rest) → Kept stripes taken x
unfolding column
column_kept stripes taken bytes rest x e =
    (let r = parts (natural 4 (is_free taken)) (λ home. flag >>= λ moves. zeros 3 >>= λ padding. (if moves then moving stripes (taken ++ home ∷ []) home else resting home)) bytes x rest e in
    let s = parts flag (λ moves. zeros 3 >>= λ padding. (if moves then moving stripes (taken ++ r.value ∷ []) r.value else resting r.value)) r.behind x rest r.second in
    let u = parts (zeros 3) (λ padding. (if s.value then moving stripes (taken ++ r.value ∷ []) r.value else resting r.value)) s.behind x rest s.second in
    by_flag r.value s.value u.behind (holds_of 4 (is_free taken) bytes r.behind r.value r.first) u.second (cases_Bool s.value))
  where
    moved : (home : ℕ) (bs : List ℕ) → is_free taken home ≡ true → reading (moving stripes (taken ++ home ∷ []) home) bs ≡ Ok (x, rest) → Kept stripes taken x
    moved home bs f h =
        let r = parts (natural 4 (is_free (taken ++ home ∷ []))) (λ to. natural 4 (at_most stripes) >>= λ upto. done (record { home = home; moving = Some (record { to = to; upto = upto }) })) bs x rest h in
        let s = parts (natural 4 (at_most stripes)) (λ upto. done (record { home = home; moving = Some (record { to = r.value; upto = upto }) })) r.behind x rest r.second in
        let same = done_is (record { home = home; moving = Some (record { to = r.value; upto = s.value }) }) x s.behind rest s.second in
        kept_as stripes taken _ x same.0 (record {
          free = (f, (holds_of 4 (is_free (taken ++ home ∷ [])) bs r.behind r.value r.first, tt));
          moves = leb-true _ _ (holds_of 4 (at_most stripes) r.behind s.behind s.value s.first);
        })

    rested : (home : ℕ) (bs : List ℕ) → is_free taken home ≡ true → reading (resting home) bs ≡ Ok (x, rest) → Kept stripes taken x
    rested home bs f h =
        let r = parts (zeros 4) (λ to. zeros 4 >>= λ upto. done (record { home = home; moving = None })) bs x rest h in
        let s = parts (zeros 4) (λ upto. done (record { home = home; moving = None })) r.behind x rest r.second in
        kept_as stripes taken _ x (done_is (record { home = home; moving = None }) x s.behind rest s.second).0 (record { free = (f, tt); moves = tt })

    by_flag : (home : ℕ) (moves : Bool) (bs : List ℕ) → is_free taken home ≡ true → reading (if moves then moving stripes (taken ++ home ∷ []) home else resting home) bs ≡ Ok (x, rest) → ((moves ≡ true) ⊎ (moves ≡ false)) → Kept stripes taken x
    by_flag home moves bs f h (inl m) = moved home bs f (read_chosen _ _ _ _ _ m h)
    by_flag home moves bs f h (inr m) = rested home bs f (read_other _ _ _ _ _ m h)

pub record AreKept (stripes : ℕ) (taken : List ℕ) (number : ℕ) (cs : List Column) : Type 0 where
  pub count : length cs ≡ number
  pub free : AreFree taken (flat_map homes_of cs)
  pub moves : (c : ℕ) → c < length cs → IsWithin stripes (get_or cs c no_column)

pub columns_kept : (w stripes : ℕ) (taken bytes rest : List ℕ) (cs : List Column) → reading (columns w stripes taken) bytes ≡ Ok (cs, rest) → AreKept stripes taken w cs
unfolding columns
columns_kept w stripes taken bytes rest cs e =
    several_keep (AreKept stripes taken) (column_behind stripes taken) w
    (λ i before x bs rs l p h. one_more i before x p (column_kept stripes (taken ++ flat_map homes_of before) bs rs x h))
    w 0 [] cs bytes rest (omega arith) (record { count = refl; free = tt; moves = λ c l. absurd (omega (arith, l)) }) e
  where
    one_more : (i : ℕ) (before : List Column) (x : Column) → AreKept stripes taken i before → Kept stripes (taken ++ flat_map homes_of before) x → AreKept stripes taken (i + 1) (before ++ x ∷ [])
    one_more i before x p k = record {
      count = (let h : length (before ++ x ∷ []) ≡ length before + 1 = length-append before (x ∷ []) in omega (arith, h, p.count));
      free = subst (AreFree taken) (ap (λ z. flat_map homes_of before ++ z) (sym (append-nil (homes_of x))) ∙ sym (flat_map-append homes_of before (x ∷ []))) (free_more (flat_map homes_of before) (homes_of x) taken p.free k.free);
      moves = λ c l. (let h : length (before ++ x ∷ []) ≡ length before + 1 = length-append before (x ∷ []) in elim (cases_lt c (length before)) [
        | inl below ↦ subst (IsWithin stripes) (sym (get_or_append_left before (x ∷ []) no_column c below)) (p.moves c below)
        | inr at ↦ (let q : c ≡ length before = omega (arith, l, h, at) in subst (IsWithin stripes) (sym (ap (λ i. get_or (before ++ x ∷ []) i no_column) q ∙ get_or-append_seam before x [] no_column)) k.moves)
      ]);
    }
