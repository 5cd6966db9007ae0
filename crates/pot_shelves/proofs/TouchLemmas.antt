-- Archives in a list, seen by number: a call of one of them, and the marks of all.
use Rattle.std.proofs.Common.{◌≡◌, ◌≢◌, ◌⊎◌, ◌<◌, ◌≤◌, ◌==◌, ◌↔◌, ℕ, zero, suc, Bool, true, false, List, [], ◌∷◌, ◌++◌, length, take, get_or, Option, Some, None, refl, ap, sym, ◌∙◌, arith, inl, inr, subst, IsTrue}
use Rattle.std.specs.Prelude.{cond, map, Result, Ok, Err, Contains, IsSome, is_some, slice_get, is_ok}
use Rattle.std.specs.List.{position, position_or_len}
use Rattle.std.specs.Str.{bytes_eq}
use Rattle.std.proofs.Math.ListN.{set}
use Rattle.std.proofs.Math.Seq.{map-set_same}
use Rattle.std.proofs.lemmas.Bool.{false≢true}
use Rattle.std.proofs.lemmas.Bool.Decides.{eqb_tells, nat_tests}
use Rattle.std.proofs.lemmas.List.Elements.{Contains-append_right}
use Rattle.std.proofs.lemmas.List.Folds.{find_at, find-set, find_past}
use Rattle.std.proofs.lemmas.List.Sums.{position_or_len_is}
use Rattle.std.proofs.lemmas.List.Quantifiers.{position-Some}
use Rattle.std.proofs.lemmas.List.{map-append}
use Rattle.std.proofs.lemmas.Option.{same_Some, slice_get-get_or}
use Rattle.std.proofs.lemmas.Slice.Eq.{bytes_eq-Decides}
use Rattle.pot_bytes.specs.declared.digest.Digest.{Digest}
use Rattle.pot_bytes.specs.Digests.{digest_bytes, digest_of}
use Rattle.pot_outside.specs.Failing.{MayLeave}
use Rattle.pot_outside.specs.Archives.{IsCoherent, Meaning, OnlyLoses, ReadTells, FoldTells, HearsFold, Remembers, at_slot, Reads, Writes, Folds}
use Rattle.pot_outside.specs.Counts.{Rose}
use Rattle.pot_outside.specs.declared.archive.Marks.{Marks}
use Rattle.pot_outside.specs.declared.archive.Shelf.{Shelf}
use Rattle.pot_outside.specs.declared.archive.Held.{Held as IsHeld}
use Rattle.pot_outside.specs.declared.faults.Failed.{Failed}
use Rattle.pot_outside.proofs.LossLemmas.{loses_nothing}
use Rattle.pot_shelves.specs.Shelves.{Shelves, numbers_of, shelf_of, given, mark_of, nothing, plain, put_at, Touches, Calls, Keeps, LosesByCount, IsTaken, IsOpenedNow, WriteLeaves, WritesAt, FoldsAt, ShelvesStay, ReadsAt}

-- what `==` of digests says of a block
pub digest_tells : (block now bytes : List ℕ) (d : Digest) (r : Bool) → now ≡ block → bytes ≡ digest_bytes now
    → r ≡ bytes_eq bytes d.bytes → IsTrue r ↔ (digest_of block ≡ d)
unfolding digest_of
digest_tells block now bytes d r v h e =
    let is : bytes ≡ digest_bytes block = h ∙ ap digest_bytes v in
    let decides = bytes_eq-Decides bytes d.bytes in
    (λ t. ap made (sym is ∙ decides.0 (sym e ∙ t)), λ q. e ∙ decides.1 (is ∙ ap (λ (x : Digest). x.bytes) q))
  where
    made : List ℕ → Digest
    made xs = record { bytes = xs }

-- what is among the first elements and one more is among the first, or is that one
one_more : {X : Type 0} (xs : List X) (i : ℕ) (x : X) → Contains (take (suc i) xs) x → Contains (take i xs) x ⊎ (slice_get xs i ≡ Some x)
one_more [] i x h = absurd (omega (arith, h.1))
one_more (y ∷ xs) zero x (zero, lt, e) = inr (ap Some e)
one_more (y ∷ xs) zero x (suc j, lt, e) = absurd (omega (arith, lt))
one_more (y ∷ xs) (suc i) x (zero, lt, e) = inl (0, omega arith, e)
one_more (y ∷ xs) (suc i) x (suc j, lt, e) = elim (one_more xs i x (j, omega (arith, lt), e)) [ inl k ↦ inl (suc k.0, omega (arith, k.1), k.2) | inr same ↦ inr same ]

take_one : {X : Type 0} (xs : List X) (n i : ℕ) (x : X) → n ≡ suc i → Contains (take n xs) x → Contains (take i xs) x ⊎ (slice_get xs i ≡ Some x)
take_one xs n i x e h = one_more xs i x (subst (λ m. Contains (take m xs) x) e h)

item_is : {X : Type 0} (xs : List X) (i : ℕ) (x : X) → i < length xs → x ≡ get_or xs i x → slice_get xs i ≡ Some x
item_is xs i x lt item = slice_get-get_or xs i x lt ∙ ap Some (sym item)

-- what is said of each of the first elements, once it is said of the next
pub all_more : {X : Type 0} (P : X → Type 0) (xs : List X) (n i : ℕ) (x : X) → n ≡ suc i → i < length xs → x ≡ get_or xs i x → ((y : X) → Contains (take i xs) y → P y) → P x
    → (y : X) → Contains (take n xs) y → P y
all_more P xs n i x e lt item all one y h = elim (take_one xs n i y e h) [
  | inl k ↦ all y k
  | inr same ↦ subst P (same_Some x y (sym (item_is xs i x lt item) ∙ same)) one
]

take_next : {X : Type 0} (xs : List X) (i : ℕ) (x : X) → slice_get xs i ≡ Some x → take (suc i) xs ≡ take i xs ++ x ∷ []
take_next [] i x e = absurd (cc)
take_next (y ∷ xs) zero x e = ap (λ z. z ∷ []) (same_Some y x e)
take_next (y ∷ xs) (suc i) x e = ap (λ l. y ∷ l) (take_next xs i x e)

-- what is told of the first elements in order, once it is told of the next
pub told_more : {X Y Z : Type 0} (f : X → Z) (h : Y → Z) (old new : List X) (x : X) (ys : List Y) (n i : ℕ) (y : Y) → n ≡ suc i → i < length ys → y ≡ get_or ys i y → new ≡ old ++ x ∷ []
    → map f old ≡ map h (take i ys) → f x ≡ h y → map f new ≡ map h (take n ys)
told_more f h old new x ys n i y e lt item grown were one =
    ap (map f) grown ∙ map-append f old (x ∷ []) ∙ ap (λ l. l ++ f x ∷ []) were ∙ ap (λ z. map h (take i ys) ++ z ∷ []) one
    ∙ sym (ap (λ m. map h (take m ys)) e ∙ ap (map h) (take_next ys i y (item_is ys i y lt item)) ∙ map-append h (take i ys) (y ∷ []))

-- THE PLACE OF A NUMBER

-- a number that an archive has is found
found_within : {A : Type 0} (shelves : List (Shelf A)) (n k : ℕ) → k < length (numbers_of shelves) → get_or (numbers_of shelves) k n ≡ n
    → position_or_len (λ s. s.number == n) shelves < length shelves
found_within [] n k l e = absurd (omega (arith, l))
found_within (s ∷ shelves) n zero l e = elim (eqb_tells s.number n) [ inl t ↦ rw t.0 (omega arith) | inr t ↦ absurd (t.1 e) ]
found_within (s ∷ shelves) n (suc k) l e =
    elim (eqb_tells s.number n) [
      | inl t ↦ rw t.0 (omega arith)
      | inr t ↦ rw t.0 (let h : position_or_len (λ s. s.number == n) shelves < length shelves = found_within shelves n k (omega (arith, l)) e in omega arith)
    ]

pub is_found : {A : Type 0} (same shelves : List (Shelf A)) (n : ℕ) (place : Option ℕ) → same ≡ shelves → place ≡ position (λ s. s.number == n) same
    → Contains (numbers_of shelves) n → IsSome place
is_found same shelves n place v e has =
    ap is_some (e ∙ ap (position (λ s. s.number == n)) v) ∙ some (found_within shelves n has.0 has.1 has.2)
  where
    some : position_or_len (λ s. s.number == n) shelves < length shelves → IsSome (position (λ s. s.number == n) shelves)
    some l = grind (arith, nat_tests)

pub found_is : {A : Type 0} (same shelves : List (Shelf A)) (n : ℕ) (place : Option ℕ) → same ≡ shelves → place ≡ position (λ s. s.number == n) same
    → IsSome place → Contains (numbers_of shelves) n
found_is {A} same shelves n place v e some = within shelves (below (subst (λ o. IsSome o) (e ∙ ap (position (λ s. s.number == n)) v) some))
  where
    below : IsSome (position (λ s. s.number == n) shelves) → position_or_len (λ s. s.number == n) shelves < length shelves
    below l = grind (arith, nat_tests)

    within : (xs : List (Shelf A)) → position_or_len (λ s. s.number == n) xs < length xs → Contains (numbers_of xs) n
    within [] l = absurd (omega (arith, l))
    within (x ∷ xs) l = elim (eqb_tells x.number n) [
      | inl t ↦ (zero, omega arith, t.1)
      | inr t ↦ (let m = rw t.0 at l in let h : Contains (numbers_of xs) n = within xs (omega (arith, m)) in (suc h.0, omega (arith, h.1), h.2))
    ]

-- an archive that stands first with its number, in whose place another of the number is put
pub touches_at : {A : Type 0} (number place : ℕ) (R : A → A → Type 0) (old : List (Shelf A)) (was : Shelf A) (after : A) (same : List (Shelf A)) (found : Option ℕ) → same ≡ old
    → found ≡ position (λ s. s.number == number) same → found ≡ Some place → was ≡ get_or old place was → R was.archive after
    → Touches number R old (set old place (record was { archive = after }))
touches_at number place R old was after same found v f p is r = record {
  shelf = was;
  after = after;
  was = find_at (λ s. s.number == number) old ∙ ap (slice_get old) (sym first) ∙ slice_get-get_or old place was within ∙ ap Some (sym is);
  now = find-set (λ s. s.number == number) old place (record was { archive = after }) first within test;
  others = (λ n ne. find_past (λ s. s.number == n) old place (record was { archive = after }) was (ap (λ (s : Shelf _). s.number == n) (sym is) ∙ fails n ne) (fails n ne));
  numbers = map-set_same (λ s. s.number) old place (record was { archive = after }) was (ap (λ (s : Shelf _). s.number) is);
  by = r;
}
  where
    at : position (λ s. s.number == number) old ≡ Some place
    at = ap (position (λ s. s.number == number)) (sym v) ∙ sym f ∙ p

    stands : (place < length old) × ((get_or old place was).number == number) ≡ true × ((k : ℕ) → k < place → ((get_or old k was).number == number) ≡ false)
    stands = position-Some (λ s. s.number == number) old place was at

    within : place < length old
    within = stands.0

    first : place ≡ position_or_len (λ s. s.number == number) old
    first = sym (position_or_len_is (λ s. s.number == number) old place was (omega (arith, within)) stands.2 (λ l. stands.1))

    test : (was.number == number) ≡ true
    test = ap (λ (s : Shelf _). s.number == number) is ∙ stands.1

    fails : (n : ℕ) → n ≢ number → (was.number == n) ≡ false
    fails n ne = elim (eqb_tells was.number number) [
      | inl t ↦ elim (eqb_tells was.number n) [ inl u ↦ absurd (ne (sym u.1 ∙ t.1)) | inr u ↦ u.0 ]
      | inr t ↦ absurd (false≢true (sym t.0 ∙ test))
    ]

-- BY NUMBER

-- the mark of the first archive of a number is its count, where the marks in order are the counts
mark_is : {A : Type 0} (f : Marks → ℕ) (count : A → ℕ) (shelves : List (Shelf A)) (marks : List Marks)
    → map f marks ≡ map (λ s. count s.archive) shelves → (n : ℕ) → mark_of f (numbers_of shelves) marks n ≡ given count 0 (shelf_of shelves n)
mark_is f count [] marks e n = refl
mark_is f count (s ∷ shelves) [] e n = absurd (cc)
mark_is f count (s ∷ shelves) (m ∷ marks) e n =
    elim (eqb_tells s.number n) [
      | inl t ↦ rw t.0 (let head : f m ≡ count s.archive = cc in head)
      | inr t ↦ rw t.0 (mark_is f count shelves marks (let tail : map f marks ≡ map (λ s. count s.archive) shelves = cc in tail) n)
    ]

module _ {A : Type 0} (told : Type 0) (meaning : A → Meaning) (marks opened : List Marks) (taken : List (Shelf A)) where
  -- these archives as plain data
  abbrev pub data_of : List (Shelf A) → Shelves
  data_of shelves = plain meaning (record { shelves = shelves; marks = marks; opened = opened; taken = taken })

  -- what holds where an archive stays and of the archive that was called holds at each number
  by_number : (number : ℕ) (R : A → A → Type 0) (old new : List (Shelf A)) (t : Touches number R old new)
      (P : ℕ → Option (Shelf A) → Option (Shelf A) → Type 0) → ((n : ℕ) (s : Option (Shelf A)) → n ≢ number → P n s s)
      → P number (Some t.shelf) (Some (record t.shelf { archive = t.after })) → (n : ℕ) → P n (shelf_of old n) (shelf_of new n)
  by_number number R old new t P same changed n = elim (eqb_tells n number) [ inl e ↦ here e.1 | inr e ↦ there e.1 ]
    where
      at : P number (shelf_of old number) (shelf_of new number)
      at = subst (λ (o : Option (Shelf A)). P number o (shelf_of new number)) (sym t.was)
          (subst (λ (w : Option (Shelf A)). P number (Some t.shelf) w) (sym t.now) changed)

      here : n ≡ number → P n (shelf_of old n) (shelf_of new n)
      here e = subst (λ (m : ℕ). P m (shelf_of old m) (shelf_of new m)) (sym e) at

      there : n ≢ number → P n (shelf_of old n) (shelf_of new n)
      there ne = subst (λ (w : Option (Shelf A)). P n (shelf_of old n) w) (sym (t.others n ne)) (same n (shelf_of old n) ne)

  keeps : (number : ℕ) (R : A → A → Type 0) (old new : List (Shelf A)) (t : Touches number R old new)
      → (meaning t.shelf.archive).faults ≤ (meaning t.after).faults → Keeps (data_of old) (data_of new)
  keeps number R old new t l = record {
    numbers = t.numbers;
    faults_taken = (λ n. ap (λ ns. mark_of (λ m. m.faults) ns marks n) t.numbers);
    losses_taken = (λ n. ap (λ ns. mark_of (λ m. m.losses) ns marks n) t.numbers);
    faults_opened = (λ n. ap (λ ns. mark_of (λ m. m.faults) ns opened n) t.numbers);
    losses_opened = (λ n. ap (λ ns. mark_of (λ m. m.losses) ns opened n) t.numbers);
    later = by_number number R old new t (λ k o w. given (λ x. (meaning x).faults) 0 o ≤ given (λ x. (meaning x).faults) 0 w) (λ k s ne. omega arith) l;
    taken = (λ n. refl);
  }

  hears : (number : ℕ) (R : A → A → Type 0) (old new : List (Shelf A)) (t : Touches number R old new)
      → (meaning t.after).heard ≡ (meaning t.shelf.archive).heard → (n : ℕ) → (data_of new).heard n ≡ (data_of old).heard n
  hears number R old new t e = by_number number R old new t (λ k o w. given (λ x. (meaning x).heard) [] w ≡ given (λ x. (meaning x).heard) [] o) (λ k s ne. refl) e

  recalls : (number : ℕ) (R : A → A → Type 0) (old new : List (Shelf A)) (t : Touches number R old new)
      → (meaning t.after).history ≡ (meaning t.shelf.archive).history → (n : ℕ) → (data_of new).history n ≡ (data_of old).history n
  recalls number R old new t e = by_number number R old new t (λ k o w. given (λ x. (meaning x).history) [] w ≡ given (λ x. (meaning x).history) [] o) (λ k s ne. refl) e

  rose : (number : ℕ) (R : A → A → Type 0) (old new : List (Shelf A)) (t : Touches number R old new)
      → Rose ((meaning t.shelf.archive).faults) ((meaning t.after).faults) → Rose ((data_of old).faults number) ((data_of new).faults number)
  rose number R old new t r = subst (λ (o : Option (Shelf A)). Rose (given (λ x. (meaning x).faults) 0 o) ((data_of new).faults number)) (sym t.was)
      (subst (λ (w : Option (Shelf A)). Rose ((meaning t.shelf.archive).faults) (given (λ x. (meaning x).faults) 0 w)) (sym t.now) r)

  -- a slot of the archive that was called has this, and then blocks are lost
  puts : (number slot : ℕ) (left : Option (List ℕ)) (R : A → A → Type 0) (old new : List (Shelf A)) (t : Touches number R old new)
      → OnlyLoses (at_slot ((meaning t.shelf.archive).held) slot left) ((meaning t.after).held) ((meaning t.shelf.archive).losses) ((meaning t.after).losses)
      → LosesByCount (put_at (data_of old).held number slot left) (data_of old) (data_of new)
  puts number slot left R old new t l = by_number number R old new t
      (λ k o w. OnlyLoses (cond (k == number) (at_slot (λ m. given (λ x. (meaning x).held m) None o) slot left) (λ m. given (λ x. (meaning x).held m) None o))
      (λ m. given (λ x. (meaning x).held m) None w) (given (λ x. (meaning x).losses) 0 o) (given (λ x. (meaning x).losses) 0 w))
      (λ k s ne. elim (eqb_tells k number) [ inl e ↦ absurd (ne e.1) | inr e ↦ rw e.0 (loses_nothing _ _) ])
      (elim (eqb_tells number number) [ inl e ↦ rw e.0 l | inr e ↦ absurd (e.1 refl) ])

  -- what a write leaves in its slot before any loss
  leaves : (number slot : ℕ) (block : List ℕ) (result : Result (Unit {0}) Failed) (old new : List (Shelf A))
      (t : Touches number (Calls meaning (Writes told slot block result)) old new) → told
      → (left : Option (List ℕ)) × WriteLeaves (is_ok result) ((data_of old).held number slot) block left
      × LosesByCount (put_at (data_of old).held number slot left) (data_of old) (data_of new)
  leaves number slot block (Ok u) old new t z = (Some block, refl, puts number slot (Some block) _ old new t (t.by.tells z))
  leaves number slot block (Err e) old new t z =
      let tells = t.by.tells z in (
        tells.0,
        subst (λ (o : Option (Shelf A)). MayLeave (given (λ x. (meaning x).held slot) None o) block tells.0) (sym t.was) tells.1,
        puts number slot tells.0 _ old new t tells.2,
      )

  pub writes : (number slot : ℕ) (block : List ℕ) (result : Result (Unit {0}) Failed) (old new : List (Shelf A))
      → Touches number (Calls meaning (Writes told slot block result)) old new
      → WritesAt told number slot block result (data_of old) (data_of new)
  writes number slot block result old new t = record {
    keeps = keeps number _ old new t t.by.cause.later;
    wrote = leaves number slot block result old new t;
    heard = (λ z. hears number _ old new t (t.by.hears z));
    remembers = (λ z. subst (λ (o : Option (Shelf A)). Remembers (given (λ x. (meaning x).history) [] o) ((data_of new).history number) block result) (sym t.was)
        (subst (λ (w : Option (Shelf A)). Remembers ((meaning t.shelf.archive).history) (given (λ x. (meaning x).history) [] w) block result) (sym t.now) (t.by.past z)));
    forgets = (λ z n ne. ap (given (λ x. (meaning x).history) []) (t.others n ne));
    cause = (λ h. rose number _ old new t (t.by.cause.rose h));
  }

  -- a fold
  pub folds : (number slot weight : ℕ) (before sum : List ℕ) (result : Result IsHeld Failed) (old new : List (Shelf A))
      → Touches number (Calls meaning (Folds told slot weight before sum result)) old new
      → FoldsAt told number slot weight before sum result (data_of old) (data_of new)
  folds number slot weight before sum result old new t = record {
    keeps = keeps number _ old new t t.by.cause.later;
    loses = (λ z. by_number number _ old new t
        (λ k o w. OnlyLoses (λ m. given (λ x. (meaning x).held m) None o) (λ m. given (λ x. (meaning x).held m) None w) (given (λ x. (meaning x).losses) 0 o) (given (λ x. (meaning x).losses) 0 w))
        (λ k s ne. loses_nothing _ _) (t.by.loses z));
    tells = (λ z. subst (λ (w : Option (Shelf A)). FoldTells (λ m. given (λ x. (meaning x).held m) None w) slot weight before sum result) (sym t.now) (t.by.tells z));
    leaves = t.by.leaves;
    hears = (λ z. subst (λ (o : Option (Shelf A)). HearsFold (given (λ x. (meaning x).heard) [] o) ((data_of new).heard number) slot before result) (sym t.was)
        (subst (λ (w : Option (Shelf A)). HearsFold ((meaning t.shelf.archive).heard) (given (λ x. (meaning x).heard) [] w) slot before result) (sym t.now) (t.by.hears z)));
    silent = (λ z n ne. ap (given (λ x. (meaning x).heard) []) (t.others n ne));
    history = (λ z. recalls number _ old new t (t.by.past z));
    cause = (λ h. rose number _ old new t (t.by.cause.rose h));
  }

  -- a read
  stays : (number slot : ℕ) (into : List ℕ) (result : Result IsHeld Failed) (old new : List (Shelf A))
      → Touches number (Calls meaning (Reads told slot into result)) old new → ShelvesStay told (data_of old) (data_of new)
  stays number slot into result old new t = record {
    keeps = keeps number _ old new t t.by.cause.later;
    loses = (λ z. by_number number _ old new t
        (λ k o w. OnlyLoses (λ m. given (λ x. (meaning x).held m) None o) (λ m. given (λ x. (meaning x).held m) None w) (given (λ x. (meaning x).losses) 0 o) (given (λ x. (meaning x).losses) 0 w))
        (λ k s ne. loses_nothing _ _) (t.by.loses z));
    heard = (λ z. hears number _ old new t (t.by.hears z));
    history = (λ z. recalls number _ old new t (t.by.past z));
  }

  others : (number slot : ℕ) (into : List ℕ) (result : Result IsHeld Failed) (old new : List (Shelf A)) → Touches number (Calls meaning (Reads told slot into result)) old new
      → told → (n m : ℕ) → n ≢ number → (data_of new).held n m ≡ (data_of old).held n m
  others number slot into result old new t z n m ne = ap (given (λ x. (meaning x).held m) None) (t.others n ne)

  reads_there : (number slot : ℕ) (into : List ℕ) (result : Result IsHeld Failed) (old new : List (Shelf A))
      → (t : Touches number (Calls meaning (Reads told slot into result)) old new) → told → ReadTells ((data_of new).held number) slot into result
  reads_there number slot into result old new t z = subst (λ (w : Option (Shelf A)). ReadTells (λ m. given (λ x. (meaning x).held m) None w) slot into result) (sym t.now) (t.by.tells z)

  pub answers : (number slot : ℕ) (into : List ℕ) (result : Result IsHeld Failed) (old new : List (Shelf A))
      → Touches number (Calls meaning (Reads told slot into result)) old new → ReadsAt told number slot into result (data_of old) (data_of new)
  answers number slot into result old new t = record {
    stays = stays number slot into result old new t;
    tells = reads_there number slot into result old new t;
    others = others number slot into result old new t;
    cause = (λ h. rose number _ old new t (t.by.cause.rose h));
  }

  -- MARKS

  -- marks that are counts now
  abbrev pub AreCounts : List Marks → List (Shelf A) → Type 0
  AreCounts ms shelves = (map (λ m. m.faults) ms ≡ map (λ s. (meaning s.archive).faults) shelves)
      × (told → map (λ m. m.losses) ms ≡ map (λ s. (meaning s.archive).losses) shelves)

  -- archives whose table has been opened now
  pub is_opened : (same shelves : List (Shelf A)) → same ≡ shelves → AreCounts opened same → IsOpenedNow told (data_of shelves)
  is_opened same shelves v (f, l) = subst (λ ss. IsOpenedNow told (data_of ss)) v (record {
    faults = mark_is (λ m. m.faults) (λ x. (meaning x).faults) same opened f;
    losses = (λ z. mark_is (λ m. m.losses) (λ x. (meaning x).losses) same opened (l z));
  })

  -- what an archive means is its parts
  meant_of : (o : Option (Shelf A)) → given meaning nothing o ≡ record {
    held = λ slot. given (λ x. (meaning x).held slot) None o;
    history = given (λ x. (meaning x).history) [] o;
    heard = given (λ x. (meaning x).heard) [] o;
    faults = given (λ x. (meaning x).faults) 0 o;
    losses = given (λ x. (meaning x).losses) 0 o;
  }
  meant_of None = refl
  meant_of (Some s) = refl

  -- archives of which each is coherent, by number
  all_coherent : (shelves : List (Shelf A)) → ((s : Shelf A) → Contains shelves s → IsCoherent (meaning s.archive)) → (n : ℕ) → IsCoherent (given meaning nothing (shelf_of shelves n))
  all_coherent [] fits n = record { past = λ k b h. absurd (cc); low = λ k b h. absurd (cc) }
  all_coherent (s ∷ ss) fits n = elim (eqb_tells s.number n) [
    | inl e ↦ rw e.0 (fits s (0, omega arith, refl))
    | inr e ↦ rw e.0 (all_coherent ss (λ x h. fits x (Contains-append_right (s ∷ []) ss x h)) n)
  ]

  -- archives with their marks now
  pub is_taken : (same other shelves : List (Shelf A)) → same ≡ shelves → other ≡ shelves → taken ≡ shelves → AreCounts marks same → AreCounts opened other
      → (told → (s : Shelf A) → Contains same s → IsCoherent (meaning s.archive)) → IsTaken told (data_of shelves)
  is_taken same other shelves v w t (f, l) now fits = subst (λ ss. IsTaken told (data_of ss)) v (record {
    meant = (λ n. ap (λ ss. given meaning nothing (shelf_of ss n)) (t ∙ sym v) ∙ meant_of (shelf_of same n));
    faults = mark_is (λ m. m.faults) (λ x. (meaning x).faults) same marks f;
    losses = (λ z. mark_is (λ m. m.losses) (λ x. (meaning x).losses) same marks (l z));
    opened = is_opened other same (w ∙ sym v) now;
    coherent = (λ z n. subst (λ ss. IsCoherent (given meaning nothing (shelf_of ss n))) (v ∙ sym t) (all_coherent same (fits z) n));
  })
