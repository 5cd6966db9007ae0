-- What a listing writes, and where the objects of a file stand.
use Rattle.std.proofs.Common.{◌≡◌, ◌<◌, ◌≤◌, ◌+◌, ◌-◌, inl, inr, ℕ, zero, suc, cond, not, Bool, true, false, ◌||◌, List, [], ◌∷◌, ◌++◌, length, get_or, take, drop, refl, sym, ap, subst, ◌∙◌, arith, append-nil, append_assoc}
use Rattle.std.specs.Prelude.{Option, Some, None, Result, Ok, Err, nat_lt, find, is_none, is_some, flat_map}
use Rattle.std.specs.List.{list_any, position, position_or_len, range_with_len}
use Rattle.std.proofs.Math.Seq.{take-length}
use Rattle.std.proofs.lemmas.List.Quantifiers.{position-Some}
use Rattle.std.proofs.lemmas.List.Concat.{flat_map-append}
use Rattle.std.proofs.lemmas.List.FromFn.{length-range_with_len}
use Rattle.std.proofs.lemmas.List.{take-append-drop, get_or-take, length-take, drop-take, drop-drop, take_more, flat_map_more, get_or_read}
use Rattle.std.proofs.lemmas.Bool.{cases_lt}
use Rattle.std.proofs.lemmas.Bool.Decides.{nat_tests}
use Rattle.pot_bytes.proofs.Elements.{at_range}
use Rattle.pot_outside.specs.Accounts.{Transition, until, since}
use Rattle.pot_session.specs.declared.recovery.listing.ListFault.{ListFault}
use Rattle.pot_recover.specs.Fronts.{has_front}
use Rattle.pot_commands.specs.Streams.{Wrote}
use Rattle.pot_session.specs.Listing.{IsTextBegun, PutsText, front_at, least_of, part_in, part_of}

-- WRITING

-- nothing was written
pub begun_nothing : (before text : List ℕ) → IsTextBegun before before text
begun_nothing before text = ([], text, refl, sym (append-nil before))

-- the first bytes of a text
pub begun_front : (before after text : List ℕ) (count : ℕ) → after ≡ before ++ take count text → IsTextBegun before after text
begun_front before after text count e = (take count text, drop count text, sym (take-append-drop count text), e)

-- what begins a text begins a longer one
pub begun_longer : (before after text more : List ℕ) → IsTextBegun before after text → IsTextBegun before after (text ++ more)
begun_longer before after text more (first, rest, is, e) = (first, rest ++ more, ap (λ t. t ++ more) is ∙ append_assoc first rest more, e)

-- behind a text that was written
pub begun_behind : (before middle after text more : List ℕ) → middle ≡ before ++ text → IsTextBegun middle after more → IsTextBegun before after (text ++ more)
begun_behind before middle after text more written (first, rest, is, e) = (
  text ++ first,
  rest,
  ap (λ t. text ++ t) is ∙ sym (append_assoc text first rest),
  e ∙ (ap (λ t. t ++ first) written ∙ append_assoc before text first),
)

-- all of it behind a text that was written
pub written_behind : (before middle after text more : List ℕ) → middle ≡ before ++ text → after ≡ middle ++ more → after ≡ before ++ (text ++ more)
written_behind before middle after text more written e = e ∙ (ap (λ t. t ++ more) written ∙ append_assoc before text more)

-- SEARCHING

module _ {X : Type 0} (p : X → Bool) where
  none_in : (xs : List X) (d : X) → ((k : ℕ) → k < length xs → p (get_or xs k d) ≡ false) → list_any p xs ≡ false
  none_in [] d h = refl
  none_in (x ∷ xs) d h = ap (λ b. b || list_any p xs) (h 0 (omega arith)) ∙ none_in xs d (λ k l. h (suc k) (omega (arith, l)))

  pub some_in : (xs : List X) (k : ℕ) (d : X) → k < length xs → p (get_or xs k d) ≡ true → list_any p xs ≡ true
  some_in [] k d l h = absurd (omega (arith, l))
  some_in (x ∷ xs) zero d l h = ap (λ b. b || list_any p xs) h
  some_in (x ∷ xs) (suc k) d l h = by (p x) (some_in xs k d (omega (arith, l)) h)
    where
      by : (b : Bool) → list_any p xs ≡ true → (b || list_any p xs) ≡ true
      by true e = refl
      by false e = e

  past : (xs : List X) (k : ℕ) (d : X) → length xs ≤ position_or_len p xs → k < length xs → p (get_or xs k d) ≡ false
  past [] k d le l = absurd (omega (arith, l))
  past (x ∷ xs) k d le l = by (λ j m n. past xs j d m n) (p x) refl k le l
    where
      by : ((j : ℕ) → length xs ≤ position_or_len p xs → j < length xs → p (get_or xs j d) ≡ false) → (b : Bool) → p x ≡ b → (k : ℕ) → suc (length xs) ≤ cond (not b) (1 + position_or_len p xs) 0 → k < suc (length xs) → p (get_or (x ∷ xs) k d) ≡ false
      by rest true e k le l = absurd (omega (arith, le))
      by rest false e zero le l = e
      by rest false e (suc k) le l = rest k (omega (arith, le)) (omega (arith, l))

  -- none passes where no place is the first
  pub position-None : (xs : List X) → position p xs ≡ None → (k : ℕ) (d : X) → k < length xs → p (get_or xs k d) ≡ false
  position-None xs e k d l = past xs k d (elim (cases_lt (position_or_len p xs) (length xs)) [ inl less ↦ absurd (some less) | inr le ↦ le ]) l
    where
      is_less : (a b : ℕ) → a < b → nat_lt a b ≡ true
      is_less a b h = grind (arith, nat_tests)

      some : position_or_len p xs < length xs → ⊥
      some less = (let q : cond true (Some (position_or_len p xs)) None ≡ None = ap (λ b. cond b (Some (position_or_len p xs)) None) (sym (is_less _ _ less)) ∙ e in cc)

  within_front : (xs : List X) (place k : ℕ) → k < length (take place xs) → (k < place) × (k < length xs)
  within_front xs place k l = (let e = length-take place xs in omega (arith, e, l), let e = length-take place xs in omega (arith, e, l))

  pub none_before : (xs : List X) (place : ℕ) (d : X) → ((k : ℕ) → k < place → k < length xs → p (get_or xs k d) ≡ false) → list_any p (take place xs) ≡ false
  none_before xs place d h =
      none_in (take place xs) d (λ k l. let w = within_front xs place k l in ap p (get_or-take place xs k d w.0) ∙ h k w.0 w.1)

  -- whether one that passes stands before a place, by the place of the first that passes
  pub before_some : (xs : List X) (first place : ℕ) (d : X) → position p xs ≡ Some first → nat_lt first place ≡ list_any p (take place xs)
  before_some xs first place d e = (let h = position-Some p xs first d e in elim (cases_lt first place) [
    | inl less ↦ is_less first place less ∙ sym (some_in (take place xs) first d (within h.0 less) (ap p (get_or-take place xs first d less) ∙ h.1))
    | inr le ↦ not_less first place le ∙ sym (none_before xs place d (λ k before l. h.2 k (omega (arith, before, le))))
  ])
    where
      within : first < length xs → first < place → first < length (take place xs)
      within l m = (let e = length-take place xs in omega (arith, e, l, m))

      is_less : (a b : ℕ) → a < b → nat_lt a b ≡ true
      is_less a b h = grind (arith, nat_tests)

      not_less : (a b : ℕ) → b ≤ a → nat_lt a b ≡ false
      not_less a b h = grind (arith, nat_tests)

  pub before_none : (xs : List X) (place : ℕ) (d : X) → position p xs ≡ None → false ≡ list_any p (take place xs)
  before_none xs place d e = sym (none_before xs place d (λ k before l. position-None xs e k d l))

  find_first : (xs : List X) (first : ℕ) (d : X) → first < length xs → ((k : ℕ) → k < first → p (get_or xs k d) ≡ false) → p (get_or xs first d) ≡ true
      → find p xs ≡ Some (get_or xs first d)
  find_first [] first d l before at = absurd (omega (arith, l))
  find_first (x ∷ xs) zero d l before at = ap (λ b. cond b (Some x) (find p xs)) at
  find_first (x ∷ xs) (suc first) d l before at =
      ap (λ b. cond b (Some x) (find p xs)) (before 0 (omega arith)) ∙ find_first xs first d (omega (arith, l)) (λ k less. before (suc k) (omega (arith, less))) at

  find_nothing : (xs : List X) (d : X) → ((k : ℕ) → k < length xs → p (get_or xs k d) ≡ false) → find p xs ≡ None
  find_nothing [] d h = refl
  find_nothing (x ∷ xs) d h =
      ap (λ b. cond b (Some x) (find p xs)) (h 0 (omega arith)) ∙ find_nothing xs d (λ k l. h (suc k) (omega (arith, l)))

  -- the first that passes, by its place
  pub find_some : (xs : List X) (first : ℕ) (d : X) → position p xs ≡ Some first → find p xs ≡ Some (get_or xs first d)
  find_some xs first d e = (let h = position-Some p xs first d e in find_first xs first d h.0 (λ k l. h.2 k l) h.1)

  pub find_none : (xs : List X) (d : X) → position p xs ≡ None → find p xs ≡ None
  find_none xs d e = find_nothing xs d (λ k l. position-None xs e k d l)

-- HOW OBJECTS BEGIN

pub take_front : (n k : ℕ) (xs : List ℕ) → n ≤ k → take n (take k xs) ≡ take n xs
take_front zero k xs l = refl
take_front (suc n) zero xs l = absurd (omega (arith, l))
take_front (suc n) (suc k) [] l = refl
take_front (suc n) (suc k) (x ∷ xs) l = ap (λ r. x ∷ r) (take_front n k xs (omega (arith, l)))

-- a front with another piece
pub front_written : (object front part piece : List ℕ) → front ≡ take 32 object → length front ≡ 32 → part ≡ piece ++ drop 4 (take (length front - 16) (drop 16 front))
    → take 16 front ++ (part ++ drop (length front - 16) (drop 16 front)) ≡ take 16 object ++ piece ++ take 12 (drop 20 object)
front_written object front part piece e whole is = begins
  where
    rest : drop 16 front ≡ take 16 (drop 16 object)
    rest = ap (drop 16) e ∙ drop-take 16 16 object

    half : length front - 16 ≡ 16
    half = omega (arith, whole)

    behind : drop 4 (take (length front - 16) (drop 16 front)) ≡ take 12 (drop 20 object)
    behind =
        ap (λ n. drop 4 (take n (drop 16 front))) half ∙ (ap (λ l. drop 4 (take 16 l)) rest ∙ (ap (drop 4) (take_front 16 16 (drop 16 object) (omega arith))
        ∙ (drop-take 4 12 (drop 16 object) ∙ ap (take 12) (drop-drop 4 16 object))))

    nothing : drop (length front - 16) (drop 16 front) ≡ []
    nothing = ap (λ n. drop n (drop 16 front)) half ∙ (ap (drop 16) rest ∙ drop-take 16 0 (drop 16 object))

    middle : part ++ drop (length front - 16) (drop 16 front) ≡ piece ++ take 12 (drop 20 object)
    middle = ap (λ l. part ++ l) nothing ∙ (append-nil part ∙ (is ∙ ap (λ l. piece ++ l) behind))

    begins : take 16 front ++ (part ++ drop (length front - 16) (drop 16 front)) ≡ take 16 object ++ piece ++ take 12 (drop 20 object)
    begins =
        ap (λ l. take 16 front ++ l) middle ∙ (sym (append_assoc (take 16 front) piece (take 12 (drop 20 object)))
        ∙ ap (λ l. l ++ piece ++ take 12 (drop 20 object)) (ap (take 16) e ∙ take_front 16 32 object (omega arith)))

-- TEXTS IN A ROW

module _ {X : Type 0} (f : X → List ℕ) (xs : List X) (before middle after : List ℕ) (i : ℕ) (x : X) (within : i < length xs) (is : x ≡ get_or xs i x)
    (written : middle ≡ before ++ flat_map f (take i xs)) where
  next : take (i + 1) xs ≡ take i xs ++ x ∷ []
  next = take_more xs i x within ∙ ap (λ y. take i xs ++ y ∷ []) (sym is)

  -- one more text was written
  pub texts_more : after ≡ middle ++ f x → after ≡ before ++ flat_map f (take (i + 1) xs)
  texts_more e = e ∙ (ap (λ t. t ++ f x) written ∙ (flat_map_more f before (take i xs) x ∙ ap (λ l. before ++ flat_map f l) (sym next)))

  split : flat_map f xs ≡ (flat_map f (take i xs) ++ f x) ++ flat_map f (drop (i + 1) xs)
  split =
      ap (flat_map f) (sym (take-append-drop (i + 1) xs)) ∙ (flat_map-append f (take (i + 1) xs) (drop (i + 1) xs)
      ∙ ap (λ l. l ++ flat_map f (drop (i + 1) xs)) (ap (flat_map f) next ∙ sym (flat_map_more f [] (take i xs) x)))

  -- one more was begun
  pub texts_begun : IsTextBegun middle after (f x) → IsTextBegun before after (flat_map f xs)
  texts_begun begun =
      subst (IsTextBegun before after) (sym split)
      (begun_longer before after (flat_map f (take i xs) ++ f x) (flat_map f (drop (i + 1) xs)) (begun_behind before middle after (flat_map f (take i xs)) (f x) written begun))

-- all texts were written
pub texts_all : {X : Type 0} (f : X → List ℕ) (xs : List X) (before after : List ℕ) (i : ℕ) → i ≡ length xs → after ≡ before ++ flat_map f (take i xs) → after ≡ before ++ flat_map f xs
texts_all f xs before after i e written = written ∙ ap (λ l. before ++ flat_map f l) (ap (λ n. take n xs) e ∙ take-length xs)

-- the number at a place of the first numbers
pub number_at : (n i : ℕ) → i < n → i ≡ get_or (range_with_len 0 n) i i
number_at n i l = sym (at_range n i i l)

pub number_within : (n i : ℕ) → i < n → i < length (range_with_len 0 n)
number_within n i l = (let e = length-range_with_len 0 n in omega (arith, e, l))

-- the least piece that is missing
pub gap_found : (test : ℕ → Bool) (n i : ℕ) → i < n → ((q : ℕ) → q < i → test q ≡ false) → test i ≡ true → Some i ≡ find test (range_with_len 0 n)
gap_found test n i l before now =
    sym (find_first test (range_with_len 0 n) i 0 (number_within n i l) (λ k less. ap test (at_range n k 0 (omega (arith, less, l))) ∙ before k less) (ap test (at_range n i 0 l) ∙ now)
    ∙ ap (λ k. Some k) (at_range n i 0 l))

pub gap_none : (test : ℕ → Bool) (n : ℕ) → ((q : ℕ) → q < n → test q ≡ false) → None ≡ find test (range_with_len 0 n)
gap_none test n all =
    sym (find_nothing test (range_with_len 0 n) 0 (λ k l. let e = length-range_with_len 0 n in let m : k < n = omega (arith, e, l) in ap test (at_range n k 0 m) ∙ all k m))

-- THE LEAST OBJECT OF A PIECE

pub least_none : {X : Type 0} (p : X → Bool) (xs : List X) (d : X) → is_some (position p xs) ≡ false → is_none (find p xs) ≡ true
least_none {X = X} p xs d = by (position p xs) refl
  where
    by : (o : Option ℕ) → position p xs ≡ o → is_some o ≡ false → is_none (find p xs) ≡ true
    by None e h = ap is_none (find_none p xs d e)
    by (Some k) e h = absurd (cc)

pub least_some : {X : Type 0} (p : X → Bool) (xs : List X) (d : X) → is_some (position p xs) ≡ true → is_none (find p xs) ≡ false
least_some {X = X} p xs d = by (position p xs) refl
  where
    by : (o : Option ℕ) → position p xs ≡ o → is_some o ≡ true → is_none (find p xs) ≡ false
    by None e h = absurd (cc)
    by (Some k) e h = ap is_none (find_some p xs k d e)

module _ (objects : List (List ℕ)) (object front : List ℕ) (piece : ℕ) (is : front ≡ front_at object piece) where
  pub part_found : (place : ℕ) (x : List ℕ) → position (has_front front) objects ≡ Some place → x ≡ get_or objects place x → part_of (least_of objects object piece) ≡ part_in x
  part_found place x e at =
      ap part_of (subst (λ f. find (has_front f) objects ≡ Some (get_or objects place [])) is (find_some (has_front front) objects place [] e))
      ∙ ap part_in (sym (get_or_read objects place x (position-Some (has_front front) objects place [] e).0 at []))

  pub part_missing : position (has_front front) objects ≡ None → part_of (least_of objects object piece) ≡ []
  part_missing e = ap part_of (subst (λ f. find (has_front f) objects ≡ None) is (find_none (has_front front) objects [] e))

-- ONE TEXT BEHIND ANOTHER

pub puts_behind : {T : Type 0} (sink : Transition (List ℕ)) (middle text more : List ℕ) (r : Result T ListFault) → Wrote (until sink middle) text → PutsText (since sink middle) more r
    → PutsText sink (text ++ more) r
puts_behind sink middle text more (Ok t) written puts = λ h. written_behind sink.before middle sink.after text more (written h) (puts h)
puts_behind sink middle text more (Err e) written puts = λ h. begun_behind sink.before middle sink.after text more (written h) (puts h)
