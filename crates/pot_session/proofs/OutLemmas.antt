-- Which archives are out of a room, call by call.
use Rattle.std.proofs.Common.{◌≡◌, ◌≢◌, ◌<◌, ◌≤◌, ◌+◌, ◌++◌, ◌⊎◌, inl, inr, ℕ, zero, suc, Bool, true, false, cond, List, [], ◌∷◌, length, take, drop, get_or, refl, sym, ap, subst, ◌∙◌, arith, eqb}
use Rattle.std.specs.Prelude.{slice_index_or, nat_eq}
use Rattle.std.specs.List.{remove, AllByRecursion, IsDistinct}
use Rattle.std.proofs.lemmas.List.{take_more, take-append-drop, length-take-le, length-map, map-append}
use Rattle.std.proofs.lemmas.Bool.Decides.{eqb_tells}
use Rattle.pot_outside.specs.Rooms.{IsHome, RoomState}
use Rattle.pot_outside.specs.declared.archive.Shelf.{Shelf}
use Rattle.pot_shelves.specs.Shelves.{numbers_of}
use Rattle.pot_shared.proofs.Times.{one_if}
use Rattle.pot_shared.specs.Hands.{times, AreApart}
use Rattle.pot_commands.specs.Holding.{AreOut}
use Rattle.pot_shared.proofs.Times.{times-append}

-- without one shelf, its number stands once less
pub times-removed : {A : Type 0} (n : ℕ) (ss : List (Shelf A)) (p : ℕ) (s : Shelf A) → p < length ss → s ≡ slice_index_or ss p s
    → times n (numbers_of ss) ≡ cond (eqb s.number n) 1 0 + times n (numbers_of (remove ss p))
times-removed n [] p s l e = absurd (omega (arith, l))
times-removed n (x ∷ xs) zero s l e = ap (λ (y : Shelf _). cond (eqb y.number n) 1 0 + times n (numbers_of xs)) (sym e)
times-removed n (x ∷ xs) (suc p) s l e = (let r = times-removed n xs p s (omega (arith, l)) e in omega (arith, r))

-- ONE NUMBER

one_or_none : (o : Bool) (t : ℕ) → t ≡ 0 → t ≡ cond o 1 0 → o ≡ false
one_or_none true t z e = absurd (omega (arith, z, e))
one_or_none false t z e = refl

is_one : (o : Bool) (t : ℕ) → t ≡ cond o 1 0 → 1 ≤ t → o ≡ true
is_one true t e l = refl
is_one false t e l = absurd (omega (arith, e, l))

step_out : (b o p : Bool) (t : ℕ) → t ≡ cond o 1 0 → (b ≡ true → (o ≡ false) × (p ≡ true)) → (b ≡ false → p ≡ o) → t + (cond b 1 0 + 0) ≡ cond p 1 0
step_out true o p t e on off = (let h = on refl in rw h.1 (omega (arith, e ∙ ap one_if h.0)))
step_out false o p t e on off = (let h = off refl in rw h (omega (arith, e)))

step_in : (b o p : Bool) (t u : ℕ) → t ≡ cond b 1 0 + u → t ≡ cond o 1 0 → (b ≡ true → p ≡ false) → (b ≡ false → p ≡ o) → u ≡ cond p 1 0
step_in true true p t u d e on off = (let h = on refl in rw h (omega (arith, d, e)))
step_in true false p t u d e on off = absurd (omega (arith, d, e))
step_in false o p t u d e on off = (let h = off refl in rw h (omega (arith, d, e)))

-- THE CALLS OF A ROOM

-- none is out
pub none_out : (room : RoomState) → IsHome room → AreOut room []
none_out room h n = sym (ap one_if (h n))

pub all_home : (room : RoomState) → AreOut room [] → IsHome room
all_home room h n = one_or_none (room.out n) (times n []) refl (h n)

-- archives that are out are distinct
pub out_apart : (room : RoomState) (ns : List ℕ) → AreOut room ns → AreApart ns
out_apart room ns h n = (let e = h n in let l = at_most (room.out n) in omega (arith, e, l))
  where
    at_most : (b : Bool) → one_if b ≤ 1
    at_most true = omega arith
    at_most false = omega arith

pub none_out_of : (room : RoomState) (ns : List ℕ) (n : ℕ) → AreOut room ns → room.out n ≡ false → times n ns ≡ 0
none_out_of room ns n h e = h n ∙ ap one_if e

-- a number of which there is none yet is not out
pub is_home : (room : RoomState) (ns : List ℕ) (n : ℕ) → AreOut room ns → times n ns ≡ 0 → room.out n ≡ false
is_home room ns n h e = one_or_none (room.out n) (times n ns) e (h n)

yes_eq : (b : Bool) (m n : ℕ) → ((b ≡ true) × (m ≡ n)) ⊎ ((b ≡ false) × (m ≢ n)) → b ≡ true → m ≡ n
yes_eq b m n (inl h) e = h.1
yes_eq b m n (inr h) e = absurd (let f : true ≡ false = sym e ∙ h.0 in (cc))

no_eq : (b : Bool) (m n : ℕ) → ((b ≡ true) × (m ≡ n)) ⊎ ((b ≡ false) × (m ≢ n)) → b ≡ false → m ≢ n
no_eq b m n (inl h) e = absurd (let f : true ≡ false = sym h.0 ∙ e in (cc))
no_eq b m n (inr h) e = h.1

-- one more archive was taken
pub out_more : (room new : RoomState) (ns : List ℕ) (k : ℕ) → AreOut room ns → room.out k ≡ false → new.out k ≡ true → ((n : ℕ) → n ≢ k → new.out n ≡ room.out n) → AreOut new (ns ++ k ∷ [])
out_more room new ns k h was now others n =
    times-append n ns (k ∷ [])
    ∙ step_out (eqb k n) (room.out n) (new.out n) (times n ns) (h n)
    (λ e. (let same = yes_eq (eqb k n) k n (eqb_tells k n) e in (subst (λ m. room.out m ≡ false) same was, subst (λ m. new.out m ≡ true) same now)))
    (λ e. others n (λ same. no_eq (eqb k n) k n (eqb_tells k n) e (sym same)))

-- a take that was refused changed nothing
pub out_same : (room new : RoomState) (ns : List ℕ) (k : ℕ) → AreOut room ns → room.out k ≡ false → new.out k ≡ false → ((n : ℕ) → n ≢ k → new.out n ≡ room.out n) → AreOut new ns
out_same room new ns k h was now others n = h n ∙ ap one_if (each (eqb_tells k n))
  where
    each : ((eqb k n ≡ true) × (k ≡ n)) ⊎ ((eqb k n ≡ false) × (k ≢ n)) → room.out n ≡ new.out n
    each (inl e) = subst (λ m. room.out m ≡ new.out m) e.1 (was ∙ sym now)
    each (inr e) = sym (others n (λ same. e.1 (sym same)))

-- an archive in the hand is out
pub is_out : {A : Type 0} (room : RoomState) (ss : List (Shelf A)) (p : ℕ) (s : Shelf A) → AreOut room (numbers_of ss) → p < length ss → s ≡ slice_index_or ss p s → room.out s.number ≡ true
is_out room ss p s h l e =
    is_one (room.out s.number) (times s.number (numbers_of ss)) (h s.number)
    (let r = times-removed s.number ss p s l e in let o : cond (eqb s.number s.number) 1 0 ≡ 1 = ap one_if (self_eq s.number) in omega (arith, r, o))
  where
    self_eq : (n : ℕ) → eqb n n ≡ true
    self_eq n = elim (eqb_tells n n) [ inl e ↦ e.0 | inr e ↦ absurd (e.1 refl) ]

-- it was given back
pub out_less : {A : Type 0} (room new : RoomState) (ss : List (Shelf A)) (p : ℕ) (s : Shelf A) → AreOut room (numbers_of ss) → p < length ss → s ≡ slice_index_or ss p s
    → new.out s.number ≡ false → ((n : ℕ) → n ≢ s.number → new.out n ≡ room.out n) → AreOut new (numbers_of (remove ss p))
out_less room new ss p s h l e now others n =
    step_in (eqb s.number n) (room.out n) (new.out n) (times n (numbers_of ss)) (times n (numbers_of (remove ss p))) (times-removed n ss p s l e) (h n)
    (λ t. subst (λ m. new.out m ≡ false) (yes_eq (eqb s.number n) s.number n (eqb_tells s.number n) t) now)
    (λ f. others n (λ same. no_eq (eqb s.number n) s.number n (eqb_tells s.number n) f (sym same)))

-- a number of which there is none is not that of this shelf
pub is_another : {A : Type 0} (n : ℕ) (ss : List (Shelf A)) (p : ℕ) (s : Shelf A) → p < length ss → s ≡ slice_index_or ss p s → times n (numbers_of ss) ≡ 0 → n ≢ s.number
is_another n ss p s l e none same =
    absurd (let r = times-removed n ss p s l e in let o : cond (eqb s.number n) 1 0 ≡ 1 = ap one_if (at (eqb_tells s.number n)) in omega (arith, r, o, none))
  where
    at : ((eqb s.number n ≡ true) × (s.number ≡ n)) ⊎ ((eqb s.number n ≡ false) × (s.number ≢ n)) → eqb s.number n ≡ true
    at (inl h) = h.0
    at (inr h) = absurd (h.1 (sym same))

-- FRONTS OF THE NUMBERS

times-front : (n : ℕ) (ns : List ℕ) (i : ℕ) → times n (take i ns) ≤ times n ns
times-front n ns i = (let e = times-append n (take i ns) (drop i ns) in let f = ap (times n) (take-append-drop i ns) in omega (arith, e, f))

-- a front and one more
pub times-next : (n : ℕ) (ns : List ℕ) (i : ℕ) → i < length ns → times n (take (i + 1) ns) ≡ times n (take i ns) + (cond (eqb (get_or ns i 0) n) 1 0 + 0)
times-next n ns i l = ap (times n) (take_more ns i 0 l) ∙ times-append n (take i ns) (get_or ns i 0 ∷ [])

at_itself : (n : ℕ) → one_if (eqb n n) ≡ 1
at_itself n = ap one_if (elim (eqb_tells n n) [ inl e ↦ e.0 | inr e ↦ absurd (e.1 refl) ])

-- where no number stands twice, the next one does not stand before
pub apart_before : (ns : List ℕ) (i : ℕ) → AreApart ns → i < length ns → times (get_or ns i 0) (take i ns) ≡ 0
apart_before ns i apart l =
    (let e = times-next (get_or ns i 0) ns i l in let f = times-front (get_or ns i 0) ns (i + 1) in let a = apart (get_or ns i 0) in let s = at_itself (get_or ns i 0) in omega (arith, e, f, a, s))

-- a number that does not stand there is not the next one
pub apart_from : (ns : List ℕ) (i n : ℕ) → i < length ns → times n ns ≡ 0 → n ≢ get_or ns i 0
apart_from ns i n l none same =
    absurd (let e = times-next n ns i l in let f = times-front n ns (i + 1) in
    let s : cond (eqb (get_or ns i 0) n) 1 0 ≡ 1 = subst (λ m. one_if (eqb m n) ≡ 1) same (at_itself n) in omega (arith, e, f, s, none))

-- nor one that does not stand in the front that ends with it
pub apart_next : (ns : List ℕ) (i n : ℕ) → i < length ns → times n (take (i + 1) ns) ≡ 0 → n ≢ get_or ns i 0
apart_next ns i n l none same =
    absurd (let e = times-next n ns i l in let s : cond (eqb (get_or ns i 0) n) 1 0 ≡ 1 = subst (λ m. one_if (eqb m n) ≡ 1) same (at_itself n) in omega (arith, e, s, none))

-- none of a front either
pub none_before : (n : ℕ) (ns : List ℕ) (i : ℕ) → times n ns ≡ 0 → times n (take i ns) ≡ 0
none_before n ns i none = (let f = times-front n ns i in omega (arith, f, none))

-- one more shelf
pub numbers-snoc : {A : Type 0} (ss : List (Shelf A)) (s : Shelf A) (ns : List ℕ) → numbers_of ss ≡ ns → numbers_of (ss ++ s ∷ []) ≡ ns ++ s.number ∷ []
numbers-snoc ss s ns e = map-append (λ (x : Shelf _). x.number) ss (s ∷ []) ∙ ap (λ l. l ++ s.number ∷ []) e

pub numbers-length : {A : Type 0} (ss : List (Shelf A)) (ns : List ℕ) (i : ℕ) → numbers_of ss ≡ take i ns → i ≤ length ns → length ss ≡ i
numbers-length ss ns i e l = sym (length-map ss (λ (x : Shelf _). x.number)) ∙ ap length e ∙ length-take-le i ns l

-- numbers that are all distinct
none_of : (n : ℕ) (xs : List ℕ) → AllByRecursion (λ y. nat_eq n y ≡ false) xs → times n xs ≡ 0
none_of n [] a = refl
none_of n (y ∷ ys) a = (let r = none_of n ys a.1 in let z : cond (eqb y n) 1 0 ≡ 0 = ap one_if (other (eqb_tells y n)) in omega (arith, r, z))
  where
    other : ((eqb y n ≡ true) × (y ≡ n)) ⊎ ((eqb y n ≡ false) × (y ≢ n)) → eqb y n ≡ false
    other (inl h) = absurd (no_eq (eqb n y) n y (eqb_tells n y) a.0 (sym h.1))
    other (inr h) = h.0

pub apart_of : (ns : List ℕ) → IsDistinct nat_eq ns → AreApart ns
unfolding IsDistinct
apart_of [] d n = omega arith
apart_of (x ∷ xs) d n = each (eqb_tells x n) (apart_of xs d.1 n)
  where
    each : ((eqb x n ≡ true) × (x ≡ n)) ⊎ ((eqb x n ≡ false) × (x ≢ n)) → times n xs ≤ 1 → cond (eqb x n) 1 0 + times n xs ≤ 1
    each (inl h) r = (let z : times n xs ≡ 0 = subst (λ m. times m xs ≡ 0) h.1 (none_of x xs d.0) in let o : cond (eqb x n) 1 0 ≡ 1 = ap one_if h.0 in omega (arith, z, o))
    each (inr h) r = (let o : cond (eqb x n) 1 0 ≡ 0 = ap one_if h.0 in omega (arith, r, o))
