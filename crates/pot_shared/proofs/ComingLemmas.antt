-- Archives that came to groups in a session: how many there can be, which groups have them, and
-- with which marks.
use Rattle.std.proofs.Common.{◌≡◌, ◌≢◌, ◌<◌, ◌≤◌, ◌+◌, ◌++◌, ◌⊎◌, ⊎_elim, inl, inr, ℕ, zero, suc, true, false, List, [], ◌∷◌, length, refl, sym, ap, subst, ◌∙◌, arith, eqb}
use Rattle.std.specs.Prelude.{Some, Contains, slice_get, flat_map}
use Rattle.std.proofs.lemmas.Bool.Decides.{eqb_tells}
use Rattle.std.proofs.lemmas.List.Elements.{Contains-append_cases, Contains-append_left, Contains-append_right}
use Rattle.std.proofs.lemmas.Option.{same_Some}
use Rattle.pot_bytes.proofs.Elements.{none_contained}
use Rattle.pot_outside.specs.Archives.{Meaning}
use Rattle.pot_machine.specs.declared.entry.Entry.{Entry}
use Rattle.pot_group.specs.Arrivals.{arrival, arrivals}
use Rattle.pot_shelves.specs.Shelves.{Shelves}
use Rattle.pot_shared.specs.declared.member.Logged.{Logged}
use Rattle.pot_shared.specs.Members.{all_logged, entries_of, later_blinds, logged_at, taking_at}
use Rattle.pot_shared.proofs.MemberLemmas.{marks_by}
use Rattle.pot_shared.specs.Hands.{times, AreApart}
use Rattle.pot_shared.specs.Coming.{AreMarkedBy, came_in, taking_of}
use Rattle.pot_shared.proofs.Times.{times-append, times_here, times_there}
use Rattle.pot_shared.specs.Groups.{AreLow}

-- HOW MANY

abbrev count_to : ℕ → List ℕ → ℕ
count_to zero xs = 0
count_to (suc k) xs = times k xs + count_to k xs

few_to : (k : ℕ) (xs : List ℕ) → AreApart xs → count_to k xs ≤ k
few_to zero xs apart = omega arith
few_to (suc k) xs apart = (let a = few_to k xs apart in let b = apart k in omega (arith, a, b))

none_to : (k : ℕ) → count_to k [] ≡ 0
none_to zero = refl
none_to (suc k) = (let r = none_to k in omega (arith, r))

past_to : (k x : ℕ) (xs : List ℕ) → k ≤ x → count_to k (x ∷ xs) ≡ count_to k xs
past_to zero x xs le = refl
past_to (suc k) x xs le =
    (let a = past_to k x xs (omega (arith, le)) in let b = times_there x k (λ e. (let z = e in omega (arith, le, z))) in omega (arith, a, b))

more_to : (k x : ℕ) (xs : List ℕ) → x < k → count_to k (x ∷ xs) ≡ suc (count_to k xs)
more_to zero x xs lt = absurd (omega (arith, lt))
more_to (suc k) x xs lt = ⊎_elim
    (λ (h : (eqb x k ≡ true) × (x ≡ k)).
    (let a = past_to k x xs (let e = h.1 in omega (arith, e)) in let b : times k (x ∷ []) ≡ 1 = ap (λ m. times k (m ∷ [])) h.1 ∙ times_here k in omega (arith, a, b)))
    (λ (h : (eqb x k ≡ false) × (x ≢ k)).
    (let a = more_to k x xs (below h.1 lt) in let b = times_there x k h.1 in omega (arith, a, b)))
    (eqb_tells x k)
  where
    below : x ≢ k → x < suc k → x < k
    below ne l = grind (arith, ne, l)

all_to : (k : ℕ) (xs : List ℕ) → ((n : ℕ) → k ≤ n → times n xs ≡ 0) → length xs ≡ count_to k xs
all_to k [] none = sym (none_to k)
all_to k (x ∷ xs) none =
    (let a = all_to k xs (λ n le. (let z = none n le in omega (arith, z))) in
    let b = more_to k x xs (within (k_or x k)) in omega (arith, a, b))
  where
    k_or : (a b : ℕ) → (a < b) ⊎ (b ≤ a)
    k_or a b = grind arith

    within : (x < k) ⊎ (k ≤ x) → x < k
    within (inl lt) = lt
    within (inr le) = absurd (let z = none x le in let h = times_here x in omega (arith, z, h))

few_below : (k : ℕ) (xs : List ℕ) → AreApart xs → ((n : ℕ) → k ≤ n → times n xs ≡ 0) → length xs ≤ k
few_below k xs apart none = (let a = all_to k xs none in let b = few_to k xs apart in omega (arith, a, b))

-- distinct numbers of archives are at most 512
pub few_archives : (xs : List ℕ) → AreApart xs → AreLow xs → length xs ≤ 512
few_archives xs apart low = few_below 512 xs apart (λ n le. low n (omega (arith, le)))

-- WHICH

-- what an entry of a log brings, the log brings
pub arrival_in : (ls : List Logged) (l : Logged) (n : ℕ) → Contains ls l → Contains (arrival l.entry) n → Contains (arrivals (entries_of ls)) n
arrival_in [] l n (k, lt, at) has = absurd (omega (arith, lt))
arrival_in (x ∷ ls) l n (zero, lt, at) has = Contains-append_left (arrival x.entry) (arrivals (entries_of ls)) n (subst (λ (y : Logged). Contains (arrival y.entry) n) (sym at) has)
arrival_in (x ∷ ls) l n (suc k, lt, at) has = Contains-append_right (arrival x.entry) (arrivals (entries_of ls)) n (arrival_in ls l n (k, omega (arith, lt), at) has)

-- those of the first group, and then those of the others
came_head : (k : ℕ) (f : ℕ → List Entry) (n : ℕ) → times n (came_in (suc k) f) ≡ times n (arrivals (f 0)) + times n (came_in k (λ i. f (suc i)))
came_head zero f n = omega arith
came_head (suc k) f n =
    (let a = times-append n (came_in (suc k) f) (arrivals (f (suc k))) in let b = came_head k f n in
    let d = times-append n (came_in k (λ i. f (suc i))) (arrivals (f (suc k))) in omega (arith, a, b, d))

pub came_of : {M : Type 0} (log : M → List Entry) (ms : List M) (f : ℕ → List Entry) → ((k : ℕ) (m : M) → slice_get ms k ≡ Some m → arrivals (log m) ≡ arrivals (f k)) → (n : ℕ)
    → times n (flat_map (λ m. arrivals (log m)) ms) ≡ times n (came_in (length ms) f)
came_of log [] f each n = refl
came_of log (m ∷ ms) f each n =
    (let a = times-append n (arrivals (log m)) (flat_map (λ x. arrivals (log x)) ms) in let b = ap (times n) (each 0 m refl) in
    let d = came_of log ms (λ i. f (suc i)) (λ k x q. each (suc k) x q) n in let e = came_head (length ms) f n in omega (arith, a, b, d, e))

-- WITH WHICH MARKS

-- the entry of a log that brought an archive
entry_in : (es : List Entry) (n : ℕ) → Contains (arrivals es) n → (e : Entry) × Contains es e × Contains (arrival e) n
entry_in [] n has = absurd (none_contained n has)
entry_in (e ∷ es) n has = ⊎_elim
    (λ (h : Contains (arrival e) n). (e, (0, omega arith, refl), h))
    (λ (h : Contains (arrivals es) n). (let r = entry_in es n h in (r.0, (suc r.1.0, (let l = r.1.1 in omega (arith, l)), r.1.2), r.2)))
    (Contains-append_cases (arrival e) (arrivals es) n has)

logged_in : (s : Shelves) (blinds : List (List ℕ)) (es : List Entry) (e : Entry) → Contains es e → (left : List (List ℕ)) × Contains (all_logged s blinds es) (logged_at s left e)
logged_in s blinds [] e has = absurd (none_contained e has)
logged_in s blinds (x ∷ es) e (zero, lt, at) = (blinds, (0, omega arith, ap (logged_at s blinds) at))
logged_in s blinds (x ∷ es) e (suc k, lt, at) =
    (let r = logged_in s (later_blinds blinds x) es e (k, omega (arith, lt), at) in (r.0, (suc r.1.0, (let l = r.1.1 in omega (arith, l)), r.1.2)))

-- an archive that came behind an opening that brought none
pub came_marked : (meant : ℕ → Meaning) (s : Shelves) (blinds : List (List ℕ)) (log : List Entry) (first gain : List Logged) → all_logged s blinds log ≡ first ++ gain → arrivals (entries_of first) ≡ [] → AreMarkedBy meant gain
    → (n : ℕ) → Contains (arrivals log) n → taking_at s n ≡ taking_of (meant n)
came_marked meant s blinds log first gain parts none marked n has =
    let e = entry_in log n has in
    let in_log = logged_in s blinds log e.0 e.1 in
    let l = logged_at s in_log.0 e.0 in
    let there : Contains (first ++ gain) l = subst (λ ls. Contains ls l) parts in_log.1 in
    let mark = marks_by s e.0 n e.2 in ⊎_elim
    (λ (h : Contains first l). absurd (none_contained n (subst (λ ns. Contains ns n) none (arrival_in first l n h e.2))))
    (λ (h : Contains gain l). same_Some (taking_at s n) (taking_of (meant n)) (sym mark ∙ marked l n h e.2))
    (Contains-append_cases first gain l there)
