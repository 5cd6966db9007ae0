-- What is known of the points of a fragment, and what is gathered of them.
use Rattle.std.proofs.Common.{◌≡◌, ◌≢◌, ◌<◌, ◌≤◌, ⊎_elim, ℕ, zero, suc, ◌+◌, Bool, true, false, List, ◌++◌, length, refl, ap, sym, ◌∙◌, subst, arith, append-nil, length-append, add-one, get_or, ne_eqb}
use Rattle.std.specs.Prelude.{Option, Some, None, nat_eq}
use Rattle.std.specs.List.{All, IsDistinct, list_any}
use Rattle.std.specs.Cmp.{nat_eq_equiv}
use Rattle.std.proofs.lemmas.List.Elements.{All-push}
use Rattle.std.proofs.lemmas.List.Folds.{list_any_none}
use Rattle.std.proofs.lemmas.Map.Keys.{IsDistinct-push}
use Rattle.std.proofs.lemmas.Bool.{cases_eq}
use Rattle.pot_machine.specs.Table.{count}
use Rattle.pot_machine.proofs.Searches.{count_zero}
use Rattle.pot_steps.proofs.AheadLemmas.{count_same}
use Rattle.pot_replies.specs.Joined.{Read, point_in, share_in, points_read, shares_read}
use Rattle.pot_shared.proofs.Times.{one_if}
use Rattle.pot_store.specs.declared.visiting.Point.{Point}
use Rattle.pot_store.specs.declared.visiting.Point.TheVariants as point
use Rattle.pot_store.specs.Visits.{Came, Unknown, Seen, Gone, Lost, Failed, Barred, came_of, was_seen, block_in}
use Rattle.pot_store.proofs.GatherLemmas.{flat_more}

-- COUNTS

pub count_more : (n : ℕ) (test : ℕ → Bool) → count (n + 1) test ≡ count n test + one_if (test n)
unfolding count
count_more n test = rw add-one refl

-- one number changed: at most one more
pub count_change : (n x : ℕ) (old new : ℕ → Bool) → ((y : ℕ) → y ≢ x → new y ≡ old y) → count n new ≤ count n old + one_if (new x)
count_change zero x old new same = (let a = count_zero new in omega (arith, a))
count_change (suc n) x old new same =
    let e : suc n ≡ n + 1 = omega arith in
    let a : count (suc n) new ≡ count n new + one_if (new n) = ap (λ m. count m new) e ∙ count_more n new in
    let b : count (suc n) old ≡ count n old + one_if (old n) = ap (λ m. count m old) e ∙ count_more n old in
    ⊎_elim
    (λ (here : n ≡ x).
    let before : count n new ≡ count n old = count_same n new old (λ y lt. same y (λ at. (let h : n ≡ y = here ∙ sym at in omega (arith, h, lt)))) in
    let at : one_if (new n) ≡ one_if (new x) = ap (λ m. one_if (new m)) here in
    omega (arith, a, b, before, at))
    (λ (ne : n ≢ x).
    let before = count_change n x old new same in
    let at : one_if (new n) ≡ one_if (old n) = ap one_if (same n ne) in
    omega (arith, a, b, before, at))
    (cases_eq n x)

pub one_most : (b : Bool) → one_if b ≤ 1
one_most true = omega arith
one_most false = omega arith

-- WHAT IS KNOWN OF ONE POINT

-- no call was refused at it
pub not_barred : (p : Point) (b : List ℕ) → came_of p b ≢ Barred
not_barred point.Unknown b e = cc e
not_barred point.Seen b e = cc e
not_barred point.Gone b e = cc e
not_barred point.Lost b e = cc e
not_barred (point.Failed column) b e = cc e

pub not_gone : (p : Point) (b : List ℕ) → p ≢ point.Gone → came_of p b ≢ Gone
not_gone point.Unknown b ne e = cc e
not_gone point.Seen b ne e = cc e
not_gone point.Gone b ne e = ne refl
not_gone point.Lost b ne e = cc e
not_gone (point.Failed column) b ne e = cc e

pub not_seen : (p : Point) (b : List ℕ) → p ≢ point.Seen → was_seen (came_of p b) ≡ false
not_seen point.Unknown b ne = refl
not_seen point.Seen b ne = absurd (ne refl)
not_seen point.Gone b ne = refl
not_seen point.Lost b ne = refl
not_seen (point.Failed column) b ne = refl

pub failed_known : (p : Point) (b : List ℕ) (k : ℕ) → came_of p b ≡ Failed k → p ≡ point.Failed k
failed_known point.Unknown b k e = absurd (cc e)
failed_known point.Seen b k e = absurd (cc e)
failed_known point.Gone b k e = absurd (cc e)
failed_known point.Lost b k e = absurd (cc e)
failed_known (point.Failed column) b k e = cc e

pub no_block : (c : Came) → was_seen c ≡ false → block_in c ≡ None
no_block Unknown none = refl
no_block (Seen block) none = absurd (cc none)
no_block Gone none = refl
no_block Lost none = refl
no_block (Failed column) none = refl
no_block Barred none = refl

-- ONE POINT MORE

pub points_more : (n : ℕ) (r : Read) → points_read (n + 1) r ≡ points_read n r ++ point_in n (r n)
points_more n r = (let z : 0 + n ≡ n = omega arith in flat_more (λ x. point_in x (r x)) 0 n ∙ ap (λ m. points_read n r ++ point_in m (r m)) z)

pub shares_more : (n : ℕ) (r : Read) → shares_read (n + 1) r ≡ shares_read n r ++ share_in (r n)
shares_more n r = (let z : 0 + n ≡ n = omega arith in flat_more (λ x. share_in (r x)) 0 n ∙ ap (λ m. shares_read n r ++ share_in (r m)) z)

points_one : (n : ℕ) (a : Came) → length (point_in n (block_in a)) ≡ one_if (was_seen a)
points_one n Unknown = refl
points_one n (Seen block) = refl
points_one n Gone = refl
points_one n Lost = refl
points_one n (Failed column) = refl
points_one n Barred = refl

-- as many points as were seen
pub points_count : (came : ℕ → Came) (n : ℕ) → length (points_read n (λ x. block_in (came x))) ≡ count n (λ x. was_seen (came x))
points_count came zero = sym (count_zero (λ x. was_seen (came x)))
points_count came (suc n) =
    let r : Read = λ x. block_in (came x) in
    let e : suc n ≡ n + 1 = omega arith in
    ap (λ m. length (points_read m r)) e
    ∙ (ap length (points_more n r)
    ∙ (length-append (points_read n r) (point_in n (r n))
    ∙ (ap (λ m. m + length (point_in n (r n))) (points_count came n)
    ∙ (ap (λ m. count n (λ x. was_seen (came x)) + m) (points_one n (came n))
    ∙ (sym (count_more n (λ x. was_seen (came x))) ∙ ap (λ m. count m (λ x. was_seen (came x))) (sym e))))))

-- THE POINTS THAT WERE READ

-- they are numbers from 1 to n
abbrev pub AreLow : ℕ → List ℕ → Type 0
AreLow n points = All (λ p. (0 < p) × (p ≤ n)) points

low_more : (n : ℕ) (points : List ℕ) → AreLow n points → AreLow (n + 1) points
low_more n points low k d lt = (let h = low k d lt in let a = h.1 in (h.0, omega (arith, a)))

none_same : (n : ℕ) (points : List ℕ) → AreLow n points → list_any (nat_eq (n + 1)) points ≡ false
none_same n points low = list_any_none (nat_eq (n + 1)) points (λ k d lt. ne_eqb (n + 1) (get_or points k d) (λ e. (let h = (low k d lt).1 in omega (arith, h, e))))

-- each is less than the next
pub are_good : (n : ℕ) (r : Read) → AreLow n (points_read n r) × IsDistinct nat_eq (points_read n r)
unfolding IsDistinct
are_good zero r = (λ k d lt. absurd (omega (arith, lt)), tt)
are_good (suc n) r =
    let before = are_good n r in
    let e : suc n ≡ n + 1 = omega arith in
    subst (λ m. AreLow m (points_read m r) × IsDistinct nat_eq (points_read m r)) (sym e)
    (subst (λ points. AreLow (n + 1) points × IsDistinct nat_eq points) (sym (flat_more (λ x. point_in x (r x)) 0 n))
    (let z : 0 + n ≡ n = omega arith in
    subst (λ m. AreLow (n + 1) (points_read n r ++ point_in m (r m)) × IsDistinct nat_eq (points_read n r ++ point_in m (r m))) (sym z) (one_more n r (r n) before.0 before.1)))
  where
    one_more : (m : ℕ) (s : Read) (o : Option (List ℕ)) → AreLow m (points_read m s) → IsDistinct nat_eq (points_read m s)
        → AreLow (m + 1) (points_read m s ++ point_in m o) × IsDistinct nat_eq (points_read m s ++ point_in m o)
    one_more m s None low apart =
        subst (λ points. AreLow (m + 1) points × IsDistinct nat_eq points) (sym (append-nil (points_read m s))) (low_more m (points_read m s) low, apart)
    one_more m s (Some block) low apart = (
      All-push (λ p. (0 < p) × (p ≤ m + 1)) (points_read m s) (m + 1) (low_more m (points_read m s) low) (omega arith, omega arith),
      IsDistinct-push nat_eq_equiv (points_read m s) (m + 1) apart (none_same m (points_read m s) low),
    )

pub points_distinct : (n : ℕ) (r : Read) (points : List ℕ) → points ≡ points_read n r → IsDistinct nat_eq points
points_distinct n r points is = subst (λ ps. IsDistinct nat_eq ps) (sym is) (are_good n r).1

pub points_positive : (n : ℕ) (r : Read) (points : List ℕ) → points ≡ points_read n r → All (λ p. 0 < p) points
points_positive n r points is = subst (λ ps. All (λ p. 0 < p) ps) (sym is) (λ k d lt. ((are_good n r).0 k d lt).0)
