-- Records by name, as one is added or replaced.
use Rattle.std.proofs.Common.{◌≡◌, ◌≢◌, ◌+◌, ◌<◌, ◌≤◌, ℕ, zero, suc, Bool, true, false, List, [], ◌∷◌, length, get_or, map, refl, sym, ap, subst, ◌∙◌, inl, inr, ◌⊎◌, ⊎_elim, arith}
use Rattle.std.specs.Prelude.{if◌then◌else◌, Contains, insert, slice_set}
use Rattle.std.specs.Cmp.Lexicographic.{slice_cmp}
use Rattle.std.specs.List.Sorted.{IsStrictlySortedBy}
use Rattle.std.specs.Ordering.{nat_cmp, is_lt, ordering_reverse}
use Rattle.std.specs.declared.cmp.Ordering.{Ordering}
use Rattle.std.specs.declared.cmp.Ordering.TheVariants.{Less, Equal, Greater}
use Rattle.std.proofs.lemmas.Bool.{cases_lt}
use Rattle.std.proofs.lemmas.Cmp.{nat_list_cmp_total, tied_itself}
use Rattle.std.proofs.lemmas.List.Elements.{All-contains, All-from_recursion, recursion_from_All, Contains-get_or}
use Rattle.std.proofs.lemmas.List.{length-map}
use Rattle.std.proofs.lemmas.Map.Keys.{sorted_head, sorted_tail}
use Rattle.pot_bytes.proofs.Elements.{none_contained, contains_later}
use Rattle.pot_index.specs.declared.record.Record.{Record}
use Rattle.pot_index.specs.Index.{NamesAscend, same_name, inserted, replaced}
use Rattle.pot_index.specs.Searches.{RecordStandsAt, BelongsAt}
use Rattle.pot_index.proofs.SearchLemmas.{same_from_equal}
use Rattle.pot_index.proofs.NameLemmas.{at_true, at_false, same_back, same_true, other_names, contains_here, contains_cases, contains_map, from_map, all_from_members}

abbrev pub record_names : List Record → List (List ℕ)
record_names rs = map (λ r. r.name) rs

abbrev by_name : List ℕ → List ℕ → Ordering
by_name a b = slice_cmp nat_cmp a b

-- ORDER

pub differs_from_less : (a b : List ℕ) → by_name a b ≡ Less → a ≢ b
differs_from_less a b h e =
    let level : by_name a a ≡ Equal = tied_itself nat_list_cmp_total a in
    let less : by_name a a ≡ Less = subst (λ n. by_name a n ≡ Less) (sym e) h in
    absurd (cc)

pub differs_from_greater : (a b : List ℕ) → by_name a b ≡ Greater → a ≢ b
differs_from_greater a b h e =
    let level : by_name a a ≡ Equal = tied_itself nat_list_cmp_total a in
    let more : by_name a a ≡ Greater = subst (λ n. by_name a n ≡ Greater) (sym e) h in
    absurd (cc)

less_back : (a b : List ℕ) → by_name a b ≡ Greater → by_name b a ≡ Less
less_back a b h = nat_list_cmp_total.antisymm b a ∙ ap ordering_reverse h

ascends_cons : (o : Record) (os : List Record) → ((n : List ℕ) → Contains (record_names os) n → by_name o.name n ≡ Less) → NamesAscend os → NamesAscend (o ∷ os)
unfolding IsStrictlySortedBy
ascends_cons o os head tail =
    (recursion_from_All (λ n. by_name o.name n ≡ Less) (record_names os) (all_from_members (λ n. by_name o.name n ≡ Less) (record_names os) head), tail)

pub ascends_tail : (o : Record) (os : List Record) → NamesAscend (o ∷ os) → NamesAscend os
ascends_tail o os up = sorted_tail (slice_cmp nat_cmp) o.name (record_names os) up

pub ascends_head : (o : Record) (os : List Record) (n : List ℕ) → NamesAscend (o ∷ os) → Contains (record_names os) n → by_name o.name n ≡ Less
ascends_head o os n up h =
    All-contains (λ m. by_name o.name m ≡ Less) (record_names os) n
    (All-from_recursion (λ m. by_name o.name m ≡ Less) (record_names os) (sorted_head (slice_cmp nat_cmp) o.name (record_names os) up)) h

-- A RECORD MORE

-- the members after one more
pub inserted_from : (r o : Record) (rs : List Record) → Contains (inserted r rs) o → (r ≡ o) ⊎ Contains rs o
inserted_from r o [] h = contains_cases r o [] h
inserted_from r o (x ∷ rs) h = by (is_lt (by_name x.name r.name)) h (λ later. inserted_from r o rs later)
  where
    by : (b : Bool) → Contains (if b then x ∷ inserted r rs else r ∷ x ∷ rs) o → (Contains (inserted r rs) o → (r ≡ o) ⊎ Contains rs o) → (r ≡ o) ⊎ Contains (x ∷ rs) o
    by false k go = contains_cases r o (x ∷ rs) k
    by true k go = by_case (contains_cases x o (inserted r rs) k)
      where
        deeper : (r ≡ o) ⊎ Contains rs o → (r ≡ o) ⊎ Contains (x ∷ rs) o
        deeper (inl e) = inl e
        deeper (inr later) = inr (contains_later x o rs later)

        by_case : (x ≡ o) ⊎ Contains (inserted r rs) o → (r ≡ o) ⊎ Contains (x ∷ rs) o
        by_case (inl e) = inr (subst (λ z. Contains (x ∷ rs) z) e (contains_here x rs))
        by_case (inr later) = deeper (go later)

pub inserted_has : (r : Record) (rs : List Record) → Contains (inserted r rs) r
inserted_has r [] = contains_here r []
inserted_has r (x ∷ rs) = by (is_lt (by_name x.name r.name)) (inserted_has r rs)
  where
    by : (b : Bool) → Contains (inserted r rs) r → Contains (if b then x ∷ inserted r rs else r ∷ x ∷ rs) r
    by true go = contains_later x r (inserted r rs) go
    by false go = contains_here r (x ∷ rs)

pub inserted_keeps : (r o : Record) (rs : List Record) → Contains rs o → Contains (inserted r rs) o
inserted_keeps r o [] h = absurd (none_contained o h)
inserted_keeps r o (x ∷ rs) h = by (is_lt (by_name x.name r.name)) (contains_cases x o rs h) (λ later. inserted_keeps r o rs later)
  where
    by : (b : Bool) → (x ≡ o) ⊎ Contains rs o → (Contains rs o → Contains (inserted r rs) o) → Contains (if b then x ∷ inserted r rs else r ∷ x ∷ rs) o
    by true (inl e) go = subst (λ z. Contains (x ∷ inserted r rs) z) e (contains_here x (inserted r rs))
    by true (inr later) go = contains_later x o (inserted r rs) (go later)
    by false k go = contains_later r o (x ∷ rs) h

pub length-inserted : (r : Record) (rs : List Record) → length (inserted r rs) ≡ length rs + 1
length-inserted r [] = refl
length-inserted r (x ∷ rs) = by (is_lt (by_name x.name r.name)) (length-inserted r rs)
  where
    by : (b : Bool) → length (inserted r rs) ≡ length rs + 1 → length (if b then x ∷ inserted r rs else r ∷ x ∷ rs) ≡ length (x ∷ rs) + 1
    by true go = omega arith
    by false go = omega arith

pub inserted_ascends : (r : Record) (rs : List Record) → NamesAscend rs → (Contains (record_names rs) r.name → ⊥) → NamesAscend (inserted r rs)
inserted_ascends r [] up new = ascends_cons r [] (λ n h. absurd (none_contained n h)) up
inserted_ascends r (x ∷ rs) up new =
    by (by_name x.name r.name) refl (inserted_ascends r rs (ascends_tail x rs up) (λ h. new (contains_later x.name r.name (record_names rs) h)))
  where
    after_x : (n : List ℕ) → by_name x.name r.name ≡ Less → Contains (record_names (inserted r rs)) n → by_name x.name n ≡ Less
    after_x n less h = by_case (inserted_from r found.0 rs found.1)
      where
        found : (z : Record) × Contains (inserted r rs) z × (z.name ≡ n)
        found = from_map (λ z. z.name) n (inserted r rs) h

        by_case : (r ≡ found.0) ⊎ Contains rs found.0 → by_name x.name n ≡ Less
        by_case (inl e) = subst (λ m. by_name x.name m ≡ Less) (ap (λ (z : Record). z.name) e ∙ found.2) less
        by_case (inr old) = ascends_head x rs n up (subst (λ m. Contains (record_names rs) m) found.2 (contains_map (λ z. z.name) found.0 rs old))

    after_r : (n : List ℕ) → by_name x.name r.name ≡ Greater → Contains (record_names (x ∷ rs)) n → by_name r.name n ≡ Less
    after_r n more h = by_case (contains_cases x.name n (record_names rs) h)
      where
        by_case : (x.name ≡ n) ⊎ Contains (record_names rs) n → by_name r.name n ≡ Less
        by_case (inl e) = subst (λ m. by_name r.name m ≡ Less) e (less_back x.name r.name more)
        by_case (inr later) = nat_list_cmp_total.trans r.name x.name n (less_back x.name r.name more) (ascends_head x rs n up later)

    by : (t : Ordering) → by_name x.name r.name ≡ t → NamesAscend (inserted r rs) → NamesAscend (if is_lt t then x ∷ inserted r rs else r ∷ x ∷ rs)
    by Less e go = ascends_cons x (inserted r rs) (λ n h. after_x n e h) go
    by Equal e go = absurd (new (subst (λ m. Contains (record_names (x ∷ rs)) m) (same_from_equal x.name r.name e) (contains_here x.name (record_names rs))))
    by Greater e go = ascends_cons r (x ∷ rs) (λ n h. after_r n e h) up

-- the place of a search is the one of `inserted`
pub insert_is : (r : Record) (rs : List Record) (at : ℕ) → BelongsAt rs r.name at → insert rs at r ≡ inserted r rs
insert_is r [] zero h = refl
insert_is r [] (suc at) h = absurd (omega (arith, h.within))
insert_is r (x ∷ rs) zero h = sym (at_false (is_lt (by_name x.name r.name)) (x ∷ inserted r rs) (r ∷ x ∷ rs) (ap is_lt (h.behind 0 x (omega arith) (omega arith))))
insert_is r (x ∷ rs) (suc at) h =
    ap (λ (t : List Record). x ∷ t) (insert_is r rs at (record {
      within = omega (arith, h.within);
      before = λ k d low lt. h.before (suc k) d (omega arith) (omega arith);
      behind = λ k d low lt. h.behind (suc k) d (omega arith) (omega arith);
    }))
    ∙ sym (at_true (is_lt (by_name x.name r.name)) (x ∷ inserted r rs) (r ∷ x ∷ rs) (ap is_lt (h.before 0 x (omega arith) (omega arith))))

-- ANOTHER RECORD OF A NAME

pub record_names-replaced : (r : Record) (rs : List Record) → record_names (replaced r rs) ≡ record_names rs
record_names-replaced r [] = refl
record_names-replaced r (x ∷ rs) = by (same_name x.name r.name) refl (record_names-replaced r rs)
  where
    by : (b : Bool) → same_name x.name r.name ≡ b → record_names (replaced r rs) ≡ record_names rs → (if b then r else x).name ∷ record_names (replaced r rs) ≡ x.name ∷ record_names rs
    by true e go = λ i. sym (same_true x.name r.name e) i ∷ go i
    by false e go = λ i. x.name ∷ go i

pub replaced_from : (r o : Record) (rs : List Record) → Contains (replaced r rs) o → (r ≡ o) ⊎ Contains rs o
replaced_from r o [] h = absurd (none_contained o h)
replaced_from r o (x ∷ rs) h = by (same_name x.name r.name) h (λ later. replaced_from r o rs later)
  where
    deeper : (r ≡ o) ⊎ Contains rs o → (r ≡ o) ⊎ Contains (x ∷ rs) o
    deeper (inl e) = inl e
    deeper (inr later) = inr (contains_later x o rs later)

    first : (b : Bool) → (if b then r else x) ≡ o → (r ≡ o) ⊎ Contains (x ∷ rs) o
    first true e = inl e
    first false e = inr (subst (λ z. Contains (x ∷ rs) z) e (contains_here x rs))

    by : (b : Bool) → Contains ((if b then r else x) ∷ replaced r rs) o → (Contains (replaced r rs) o → (r ≡ o) ⊎ Contains rs o) → (r ≡ o) ⊎ Contains (x ∷ rs) o
    by b k go = ⊎_elim (λ e. first b e) (λ later. deeper (go later)) (contains_cases (if b then r else x) o (replaced r rs) k)

pub replaced_keeps : (r o : Record) (rs : List Record) → Contains rs o → o.name ≢ r.name → Contains (replaced r rs) o
replaced_keeps r o rs h other =
    subst (λ z. Contains (replaced r rs) z) (at_false (same_name o.name r.name) r o (other_names o.name r.name other)) (contains_map (λ x. if same_name x.name r.name then r else x) o rs h)

pub replaced_has : (r : Record) (rs : List Record) → Contains (record_names rs) r.name → Contains (replaced r rs) r
replaced_has r rs h =
    let found = from_map (λ x. x.name) r.name rs h in
    subst (λ z. Contains (replaced r rs) z) (at_true (same_name found.0.name r.name) r found.0 (same_back found.0.name r.name found.2)) (contains_map (λ x. if same_name x.name r.name then r else x) found.0 rs found.1)

-- where no record has the name, none is replaced
replaced_none : (r : Record) (rs : List Record) → (Contains (record_names rs) r.name → ⊥) → rs ≡ replaced r rs
replaced_none r [] none = refl
replaced_none r (x ∷ rs) none =
    λ i. sym (at_false (same_name x.name r.name) r x (other_names x.name r.name (λ e. none (subst (λ m. Contains (record_names (x ∷ rs)) m) e (contains_here x.name (record_names rs)))))) i
    ∷ replaced_none r rs (λ h. none (contains_later x.name r.name (record_names rs) h)) i

-- the records, one of which is written anew
pub set_is : (r : Record) (rs : List Record) (at : ℕ) → NamesAscend rs → RecordStandsAt rs r.name at → slice_set rs at r ≡ replaced r rs
set_is r [] at up h = absurd (omega (arith, h.0))
set_is r (x ∷ rs) zero up h =
    let same : x.name ≡ r.name = h.1 x in
    λ i. sym (at_true (same_name x.name r.name) r x (same_back x.name r.name same)) i
    ∷ replaced_none r rs (λ k. differs_from_less x.name r.name (ascends_head x rs r.name up k) same) i
set_is r (x ∷ rs) (suc at) up h =
    let within : at < length rs = omega (arith, h.0) in
    let there : Contains (record_names rs) r.name = subst (λ m. Contains (record_names rs) m) (h.1 x) (contains_map (λ z. z.name) (get_or rs at x) rs (Contains-get_or rs at x within)) in
    λ i. sym (at_false (same_name x.name r.name) r x (other_names x.name r.name (differs_from_less x.name r.name (ascends_head x rs r.name up there)))) i
    ∷ set_is r rs at (ascends_tail x rs up) (within, h.1) i

-- SEARCHES

name_at : (rs : List Record) (name : List ℕ) (at : ℕ) → RecordStandsAt rs name at → get_or (record_names rs) at name ≡ name
name_at [] name at h = absurd (omega (arith, h.0))
name_at (x ∷ rs) name zero h = h.1 x
name_at (x ∷ rs) name (suc at) h = name_at rs name at (omega (arith, h.0), h.1)

pub stands_published : (rs : List Record) (name : List ℕ) (at : ℕ) → RecordStandsAt rs name at → Contains (record_names rs) name
stands_published rs name at h = (at, omega (arith, h.0, length-map rs (λ r. r.name)), name_at rs name at h)

pub belongs_unpublished : (rs : List Record) (name : List ℕ) (at : ℕ) → BelongsAt rs name at → Contains (record_names rs) name → ⊥
belongs_unpublished rs name at h k = by (cases_lt found.1.0 at)
  where
    found : (z : Record) × Contains rs z × (z.name ≡ name)
    found = from_map (λ z. z.name) name rs k

    it : get_or rs found.1.0 found.0 ≡ found.0
    it = found.1.2

    by : (found.1.0 < at) ⊎ (at ≤ found.1.0) → ⊥
    by (inl lt) = differs_from_less (get_or rs found.1.0 found.0).name name (h.before found.1.0 found.0 (omega arith) lt) (ap (λ (z : Record). z.name) it ∙ found.2)
    by (inr le) = differs_from_greater (get_or rs found.1.0 found.0).name name (h.behind found.1.0 found.0 le found.1.1) (ap (λ (z : Record). z.name) it ∙ found.2)
