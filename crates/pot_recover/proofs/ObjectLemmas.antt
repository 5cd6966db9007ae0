-- The objects that choices give.
use Rattle.std.proofs.Common.{◌≡◌, ◌↔◌, ◌⊎◌, inl, inr, ℕ, zero, suc, ◌+◌, ◌-◌, ◌*◌, ◌/◌, ◌%◌, ◌<◌, ◌≤◌, true, false, cond, min, List, [], ◌∷◌, map, take, drop, length, get_or, replicate, refl, sym, ap, ◌∙◌, subst, arith, length-append, add-one, nat_eq, mul_comm}
use Rattle.std.proofs.Math.Nat.{div-lt_iff_lt-mul, min-eq_left}
use Rattle.std.specs.Borrow.{Bor}
use Rattle.std.specs.List.{flat_map, range_with_len}
use Rattle.std.proofs.lemmas.Bool.{cases_lt}
use Rattle.pot_bytes.specs.Sums.{xor, sum_of}
use Rattle.pot_bytes.proofs.SumLemmas.{xor_assoc, xor_comm, xor_replicate}
use Rattle.pot_chains.specs.Listed.{IsIn, IsOnce, IsListed}
use Rattle.pot_chains.specs.Paths.{AreAll}
use Rattle.pot_chains.specs.Picks.{IsPick, picks, how_many, pick_at}
use Rattle.pot_chains.proofs.ListedLemmas.{in_append, in_left, in_right, in_map, from_map}
use Rattle.pot_chains.proofs.PickLemmas.{picks_are, picked, numbered, some_left}
use Rattle.pot_recover.specs.Choices.{AreContents, AreAllWhole, IsSomeObject, IsGiven, IsGivenBy, IsPicked, items_of, list_of, lists_of, choices_of, numbered as numbered_head}
use Rattle.pot_recover.specs.Contents.{begins_with}
use Rattle.pot_recover.specs.Recovered.{IsRecovered, object_of}
use Rattle.pot_recover.proofs.ChoiceLemmas.{flat-take, length-choices, choices_listed}
use Rattle.pot_recover.proofs.MemberLemmas.{in_filter}

-- one more fragment
abbrev rest_sum : List (List (List ℕ)) → ℕ → List ℕ
rest_sum lists t = sum_of 928 (map (drop 64) (pick_at [] lists t))

drop-next : {X : Type 0} (xs : List X) (i : ℕ) (d : X) → i < length xs → drop i xs ≡ get_or xs i d ∷ drop (suc i) xs
drop-next [] i d less = absurd (omega arith)
drop-next (x ∷ xs) zero d less = refl
drop-next (x ∷ xs) (suc i) d less = drop-next xs i d (omega arith)

module _ (parts : List (Bor (List (List ℕ)))) (i : ℕ) (part d : Bor (List (List ℕ))) (inside : i < length parts) (is : part ≡ get_or parts i d) where
  next : map items_of (drop i parts) ≡ part.now ∷ map items_of (drop (suc i) parts)
  next = ap (map items_of) (drop-next parts i d inside) ∙ ap (λ (p : Bor (List (List ℕ))). p.now ∷ map items_of (drop (suc i) parts)) (sym is)

  pub part_some : (rest : ℕ) → rest < how_many (map items_of (drop i parts)) → 0 < length part.now
  part_some rest less = some_left (length part.now) (how_many (map items_of (drop (suc i) parts))) rest (subst (λ l. rest < how_many l) next less)

  pub rest_less : (rest : ℕ) → rest < how_many (map items_of (drop i parts)) → rest / length part.now < how_many (map items_of (drop (i + 1) parts))
  rest_less rest less =
      let some = part_some rest less in
      let n = length part.now in
      let all : rest < n * how_many (map items_of (drop (suc i) parts)) = subst (λ l. rest < how_many l) next less in
      subst (λ k. rest / n < how_many (map items_of (drop k parts))) (sym (add-one i))
      ((div-lt_iff_lt-mul some).1 (let e = mul_comm n (how_many (map items_of (drop (suc i) parts))) in omega (arith, all, e)))

  -- what is left to add, and what is added
  pub sum_more : (object added target : List ℕ) (rest : ℕ) → rest < how_many (map items_of (drop i parts))
      → xor object (rest_sum (map items_of (drop i parts)) rest) ≡ target
      → added ≡ xor object (drop 64 (get_or part.now (rest % length part.now) []))
      → xor added (rest_sum (map items_of (drop (i + 1) parts)) (rest / length part.now)) ≡ target
  sum_more object added target rest less before step =
      ap (λ o. xor o (rest_sum (map items_of (drop (i + 1) parts)) (rest / length part.now))) step
      ∙ (xor_assoc object (drop 64 (get_or part.now (rest % length part.now) [])) (rest_sum (map items_of (drop (i + 1) parts)) (rest / length part.now))
      ∙ (ap (λ k. xor object (xor (drop 64 (get_or part.now (rest % length part.now) [])) (rest_sum (map items_of (drop k parts)) (rest / length part.now)))) (add-one i)
      ∙ (ap (λ l. xor object (rest_sum l rest)) (sym next) ∙ before)))

-- nothing is left to add
pub sum_done : (parts : List (Bor (List (List ℕ)))) (i rest : ℕ) (object target : List ℕ) → length parts ≤ i → length object ≡ 928
    → xor object (rest_sum (map items_of (drop i parts)) rest) ≡ target → object ≡ target
sum_done parts i rest object target done long before =
    sym (ap (λ l. xor object (rest_sum (map items_of l) rest)) (gone parts i done) ∙ (xor_comm object (replicate 928 0) ∙ xor_replicate 928 object (omega (arith, long)))) ∙ before
  where
    gone : (ps : List (Bor (List (List ℕ)))) (k : ℕ) → length ps ≤ k → drop k ps ≡ []
    gone [] zero h = refl
    gone [] (suc k) h = refl
    gone (p ∷ ps) zero h = absurd (omega arith)
    gone (p ∷ ps) (suc k) h = gone ps k (omega arith)

-- one more pick
pub picked_more : (first : List ℕ) (lists : List (List (List ℕ))) (t : ℕ) (object : List ℕ) (old found new : List (List ℕ))
    → object ≡ object_of (first ∷ pick_at [] lists t)
    → ((o : List ℕ) → IsIn found o ↔ (IsIn old o ⊎ IsPicked first lists t o))
    → ((o : List ℕ) → IsIn new o ↔ (IsIn found o ⊎ ((object ≡ o) × IsSomeObject o)))
    → (o : List ℕ) → IsIn new o ↔ (IsIn old o ⊎ IsPicked first lists (t + 1) o)
picked_more first lists t object old found new is before step o = (
  λ h. elim ((step o).0 h) [
    | inl was ↦ elim ((before o).0 was) [ inl there ↦ inl there | inr w ↦ inr (w.0, (w.1.0, (let l = w.1.1 in omega (arith, l)), w.1.2)) ]
    | inr here ↦ inr (here.1, (t, omega arith, sym is ∙ here.0))
  ],
  λ h. elim h [
    | inl there ↦ (step o).1 (inl ((before o).1 (inl there)))
    | inr w ↦ elim (cases_lt w.1.0 t) [
      | inl less ↦ (step o).1 (inl ((before o).1 (inr (w.0, (w.1.0, less, w.1.2)))))
      | inr more ↦
          let same : w.1.0 ≡ t = (let l = w.1.1 in omega (arith, l, more)) in
          (step o).1 (inr (is ∙ (ap (λ k. object_of (first ∷ pick_at [] lists k)) (sym same) ∙ w.1.2), w.0))
    ]
  ],
)

-- all picks are the choices that begin with this content
pub picks_given : (contents : List (List ℕ)) (first : List ℕ) (o : List ℕ) → AreAll IsOnce (lists_of contents first) → nat_eq (get_or first 16 0) 1 ≡ true
    → IsPicked first (lists_of contents first) (how_many (lists_of contents first)) o ↔ IsGivenBy (choices_of contents first) o
picks_given contents first o once one =
    subst (λ b. IsPicked first (lists_of contents first) (how_many (lists_of contents first)) o ↔ IsGivenBy (cond b (map (λ c. first ∷ c) (picks (lists_of contents first))) []) o) (sym one) (
      λ w. (
        w.0,
        (
          first ∷ pick_at [] (lists_of contents first) w.1.0,
          in_map (λ c. first ∷ c) (picks (lists_of contents first)) (pick_at [] (lists_of contents first) w.1.0)
              ((is.each (pick_at [] (lists_of contents first) w.1.0)).1 (picked [] (lists_of contents first) w.1.0 w.1.1)),
          w.1.2,
        ),
      ),
      λ w.
          let r = from_map (λ c. first ∷ c) (picks (lists_of contents first)) w.1.0 w.1.1 in
          let t = numbered [] (lists_of contents first) r.0 ((is.each r.0).0 r.1) in
          (w.0, (t.0, t.1, ap (λ c. object_of (first ∷ c)) t.2 ∙ (ap object_of r.2 ∙ w.1.2))),
    )
  where
    is : IsListed (IsPick (lists_of contents first)) (picks (lists_of contents first))
    is = picks_are (lists_of contents first) once

pub none_given : (contents : List (List ℕ)) (first : List ℕ) (o : List ℕ) → nat_eq (get_or first 16 0) 1 ≡ false → ¬ IsGivenBy (choices_of contents first) o
none_given contents first o other w = subst (λ b. IsIn (cond b (map (λ c. first ∷ c) (picks (lists_of contents first))) []) w.1.0) other w.1.1

-- one more content
pub given_more : (contents firsts : List (List ℕ)) (i : ℕ) (d : List ℕ) (found new : List (List ℕ)) → i < length firsts
    → ((o : List ℕ) → IsIn found o ↔ IsGiven contents (take i firsts) o)
    → ((o : List ℕ) → IsIn new o ↔ (IsIn found o ⊎ IsGivenBy (choices_of contents (get_or firsts i d)) o))
    → (o : List ℕ) → IsIn new o ↔ IsGiven contents (take (i + 1) firsts) o
given_more contents firsts i d found new inside before step o =
    subst (λ l. IsIn new o ↔ IsGivenBy l o) (sym (ap (λ k. flat_map (choices_of contents) (take k firsts)) (add-one i) ∙ flat-take (choices_of contents) firsts i d inside)) (
      λ h. elim ((step o).0 h) [
        | inl was ↦ let w = (before o).0 was in (w.0, (w.1.0, in_left (flat_map (choices_of contents) (take i firsts)) (choices_of contents (get_or firsts i d)) w.1.0 w.1.1, w.1.2))
        | inr w ↦ (w.0, (w.1.0, in_right (flat_map (choices_of contents) (take i firsts)) (choices_of contents (get_or firsts i d)) w.1.0 w.1.1, w.1.2))
      ],
      λ w. elim (in_append (flat_map (choices_of contents) (take i firsts)) (choices_of contents (get_or firsts i d)) w.1.0 w.1.1) [
        | inl a ↦ (step o).1 (inl ((before o).1 (w.0, (w.1.0, a, w.1.2))))
        | inr b ↦ (step o).1 (inr (w.0, (w.1.0, b, w.1.2)))
      ],
    )

-- what is given is what is recovered
pub given_recovered : (contents : List (List ℕ)) (o : List ℕ) → AreContents contents → IsOnce contents → IsGiven contents contents o ↔ IsRecovered (IsIn contents) o
given_recovered contents o all once =
    let is = choices_listed contents all once in (
      λ w. (w.0, (w.1.0, (is.each w.1.0).0 w.1.1, w.1.2)),
      λ w. (w.0, (w.1.0, (is.each w.1.0).1 w.1.1, w.1.2)),
    )

-- the choices of one content are no more than all
pub choices_few : (contents firsts : List (List ℕ)) (i : ℕ) (d : List ℕ) → i < length firsts
    → length (choices_of contents (get_or firsts i d)) ≤ length (flat_map (choices_of contents) firsts)
choices_few contents [] i d inside = absurd (omega arith)
choices_few contents (f ∷ firsts) zero d inside =
    omega (arith, length-append (choices_of contents f) (flat_map (choices_of contents) firsts))
choices_few contents (f ∷ firsts) (suc i) d inside =
    let r = choices_few contents firsts i d (omega arith) in
    omega (arith, r, length-append (choices_of contents f) (flat_map (choices_of contents) firsts))

-- how many picks there are where the content is the first of a choice
pub picks_few : (contents : List (List ℕ)) (first : List ℕ) → nat_eq (get_or first 16 0) 1 ≡ true → how_many (lists_of contents first) ≡ length (choices_of contents first)
picks_few contents first one = sym (length-choices contents first ∙ ap (λ b. cond b (how_many (lists_of contents first)) 0) one)

-- all listed contents are whole
pub lists_whole : (contents : List (List ℕ)) (first : List ℕ) → AreContents contents → AreAllWhole (lists_of contents first)
lists_whole contents first all list there c within =
    let r = from_map (list_of contents first) (range_with_len 2 (get_or first 17 0 - 1)) list there in
    let w = (in_filter (begins_with (numbered_head first r.0)) contents c).0 (subst (λ l. IsIn l c) (sym r.2) within) in
    (all c w.0).1.long

-- no part
abbrev pub no_part : Bor (List (List ℕ))
no_part = record { ref_ptr = (0, 0); now = [] }

-- a count below the limit is exact
pub exact : (n count : ℕ) → n ≤ 4000000 → count ≡ min n 4000001 → count ≡ n
exact n count few is = is ∙ min-eq_left (omega (arith, few))

pub nothing_given : (contents firsts : List (List ℕ)) (o : List ℕ) → IsIn [] o ↔ IsGiven contents (take 0 firsts) o
nothing_given contents firsts o = (λ h. absurd h, λ w. absurd w.1.1)

pub none_picked : (first : List ℕ) (lists : List (List (List ℕ))) (old : List (List ℕ)) (o : List ℕ) → IsIn old o ↔ (IsIn old o ⊎ IsPicked first lists 0 o)
none_picked first lists old o = (λ h. inl h, λ h. elim h [ inl there ↦ there | inr w ↦ absurd (let l = w.1.1 in omega (arith, l)) ])
