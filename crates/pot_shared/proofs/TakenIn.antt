-- What the starts of groups left, and how groups and archives are taken in again.
use Rattle.std.proofs.Common.{◌≡◌, ◌≤◌, ◌<◌, ◌+◌, ◌++◌, ⊎_elim, ℕ, zero, suc, List, [], ◌∷◌, length, take, drop, map, refl, sym, ap, subst, ◌∙◌, arith, append_assoc, append-nil, length-append, length-drop}
use Rattle.std.specs.Prelude.{Some, All, Contains, slice_get, slice_index_or, flat_map}
use Rattle.std.proofs.Math.Seq.{take-length}
use Rattle.std.proofs.lemmas.Grind.{flat_map-append}
use Rattle.std.proofs.lemmas.List.{map-append, length-map, nil_from_length}
use Rattle.std.proofs.lemmas.List.Elements.{All-head, All-tail, All-nil, All-cons, Contains-append_left, Contains-append_right, Contains-append_cases}
use Rattle.std.proofs.lemmas.Option.{same_Some, slice_get_within, slice_get-get_or}
use Rattle.pot_bytes.proofs.Elements.{none_contained}
use Rattle.pot_outside.specs.Archives.{Meaning}
use Rattle.pot_outside.specs.declared.archive.Shelf.{Shelf}
use Rattle.pot_machine.specs.Table.{Table, archives_in}
use Rattle.pot_group.specs.Group.{view_of}
use Rattle.pot_shelves.specs.Shelves.{numbers_of}
use Rattle.pot_shared.specs.declared.member.Member.{Member}
use Rattle.pot_shared.specs.declared.group_start.GroupStart.{GroupStart}
use Rattle.pot_shared.specs.Groups.{AreMarked, AreStarted, AreTakenFrom, IsOpened, IsStarted, IsTakenFrom, RoseBy, RoseOftenBy, had_by}
use Rattle.pot_shared.specs.Members.{opened_at}
use Rattle.pot_shared.specs.Hands.{times, AreAmong, AreApart, AreMeant, AreMeantButLost, AreSame}
use Rattle.pot_shared.specs.Starts.{CanStart, CanAllStart, AreGivenOut, StartLeft, StartsLeft}
use Rattle.pot_shared.proofs.Lists.{flat_snoc, flat_parts, flat_contains, grown}
use Rattle.pot_shared.proofs.Times.{times-append}
use Rattle.pot_shared.proofs.GivenOut.{none_given}
use Rattle.pot_shared.proofs.GroupLemmas.{had_all, had_started}
use Rattle.pot_shared.proofs.LostLemmas.{all_lost_none, lost_append}

-- LISTS OF LISTS

-- where an element stands
flat_place : {M X : Type 0} (f : M → List X) (ms : List M) (x : X) → Contains (flat_map f ms) x → (n : ℕ) × (m : M) × (slice_get ms n ≡ Some m) × Contains (f m) x
flat_place f [] x has = absurd (none_contained x has)
flat_place f (m ∷ ms) x has = ⊎_elim
    (λ (h : Contains (f m) x). (0, m, refl, h))
    (λ (h : Contains (flat_map f ms) x). (let r = flat_place f ms x h in (suc r.0, r.1, r.2, r.3)))
    (Contains-append_cases (f m) (flat_map f ms) x has)

some_at : {M : Type 0} (ms : List M) (n : ℕ) → n < length ms → (m : M) × (slice_get ms n ≡ Some m)
some_at [] n l = absurd (omega (arith, l))
some_at (m ∷ ms) zero l = (m, refl)
some_at (m ∷ ms) (suc n) l = some_at ms n (omega (arith, l))

at_contains : {M : Type 0} (ms : List M) (n : ℕ) (m : M) → slice_get ms n ≡ Some m → Contains ms m
at_contains [] n m e = absurd (cc e)
at_contains (x ∷ ms) zero m e = (0, omega arith, same_Some x m e)
at_contains (x ∷ ms) (suc n) m e = (let r = at_contains ms n m e in (suc r.0, (let l = r.1 in omega (arith, l)), r.2))

flat_has : {M X : Type 0} (f : M → List X) (ms : List M) (m : M) (x : X) → Contains ms m → Contains (f m) x → Contains (flat_map f ms) x
flat_has f [] m x h has = absurd (none_contained m h)
flat_has f (k ∷ ms) m x (zero, l, e) has = Contains-append_left (f k) (flat_map f ms) x (subst (λ y. Contains (f y) x) (sym e) has)
flat_has f (k ∷ ms) m x (suc i, l, e) has = Contains-append_right (f k) (flat_map f ms) x (flat_has f ms m x (i, omega (arith, l), e) has)

nested : {X Y Z : Type 0} (h : Y → List Z) (f : X → List Y) (xs : List X) → flat_map h (flat_map f xs) ≡ flat_map (λ x. flat_map h (f x)) xs
nested h f [] = refl
nested h f (x ∷ xs) = flat_map-append h (f x) (flat_map f xs) ∙ ap (λ l. flat_map h (f x) ++ l) (nested h f xs)

mapped : {X Y Z : Type 0} (h : Y → Z) (f : X → List Y) (xs : List X) → map h (flat_map f xs) ≡ flat_map (λ x. map h (f x)) xs
mapped h f [] = refl
mapped h f (x ∷ xs) = map-append h (f x) (flat_map f xs) ∙ ap (λ l. map h (f x) ++ l) (mapped h f xs)

-- what adds up over lists adds up over the two parts of each
added_up : {X T : Type 0} (f : List ℕ → ℕ) → f [] ≡ 0 → ((a b : List ℕ) → f (a ++ b) ≡ f a + f b) → (hand had : X → List ℕ) (arch : T → List ℕ) (xs : List X) (ts : List T) → length xs ≡ length ts
    → ((n : ℕ) (x : X) (t : T) → slice_get xs n ≡ Some x → slice_get ts n ≡ Some t → f (hand x) + f (had x) ≡ f (arch t)) → f (flat_map hand xs) + f (flat_map had xs) ≡ f (flat_map arch ts)
added_up f none more hand had arch [] [] long each = omega (arith, none)
added_up f none more hand had arch [] (t ∷ ts) long each = absurd (omega (arith, long))
added_up f none more hand had arch (x ∷ xs) [] long each = absurd (omega (arith, long))
added_up f none more hand had arch (x ∷ xs) (t ∷ ts) long each =
    (let a = more (hand x) (flat_map hand xs) in let b = more (had x) (flat_map had xs) in let c = more (arch t) (flat_map arch ts) in let d = each 0 x t refl refl in
    let e = added_up f none more hand had arch xs ts (omega (arith, long)) (λ n y u ey eu. each (suc n) y u ey eu) in omega (arith, a, b, c, d, e))

all_none : {X M : Type 0} (f : X → List M) (xs : List X) → ((n : ℕ) (x : X) → slice_get xs n ≡ Some x → f x ≡ []) → flat_map f xs ≡ []
all_none f [] each = refl
all_none f (x ∷ xs) each = ap (λ l. l ++ flat_map f xs) (each 0 x refl) ∙ all_none f xs (λ n y e. each (suc n) y e)

-- at most one each
few_flat : {X M : Type 0} (f : X → List M) (xs : List X) → All (λ x. length (f x) ≤ 1) xs → length (flat_map f xs) ≤ length xs
few_flat f [] all = omega arith
few_flat f (x ∷ xs) all =
    (let h = All-head (λ y. length (f y) ≤ 1) x xs all in let r = few_flat f xs (All-tail (λ y. length (f y) ≤ 1) x xs all) in let a = length-append (f x) (flat_map f xs) in omega (arith, h, r, a))

-- and just one each where there are as many
all_one : {X M : Type 0} (f : X → List M) (xs : List X) → All (λ x. length (f x) ≤ 1) xs → length (flat_map f xs) ≡ length xs → All (λ x. length (f x) ≡ 1) xs
all_one f [] all same = All-nil (λ x. length (f x) ≡ 1)
all_one f (x ∷ xs) all same =
    (let h = All-head (λ y. length (f y) ≤ 1) x xs all in let t = All-tail (λ y. length (f y) ≤ 1) x xs all in let r = few_flat f xs t in let a = length-append (f x) (flat_map f xs) in
    All-cons (λ y. length (f y) ≡ 1) x xs (omega (arith, h, r, a, same)) (all_one f xs t (omega (arith, h, r, a, same))))

-- whose it is
place_at : {X M : Type 0} (f : X → List M) (x : X) (xs : List X) (m : M) → length (f x) ≡ 1 → ((k : ℕ) → slice_get (flat_map f xs) k ≡ Some m → (y : X) × (slice_get xs k ≡ Some y) × Contains (f y) m)
    → (l : List M) → f x ≡ l → (k : ℕ) → slice_get (l ++ flat_map f xs) k ≡ Some m → (y : X) × (slice_get (x ∷ xs) k ≡ Some y) × Contains (f y) m
place_at f x xs m one later [] is k q = absurd (let a = ap length is in omega (arith, a, one))
place_at f x xs m one later (y ∷ []) is zero q = (x, refl, subst (λ l. Contains l m) (sym is) (0, omega arith, same_Some y m q))
place_at f x xs m one later (y ∷ []) is (suc k) q = later k q
place_at f x xs m one later (y ∷ z ∷ l) is k q = absurd (let a = ap length is in omega (arith, a, one))

one_place : {X M : Type 0} (f : X → List M) (xs : List X) (n : ℕ) (m : M) → All (λ x. length (f x) ≡ 1) xs → slice_get (flat_map f xs) n ≡ Some m → (x : X) × (slice_get xs n ≡ Some x) × Contains (f x) m
one_place f [] n m all e = absurd (cc e)
one_place f (x ∷ xs) n m all e =
    place_at f x xs m (All-head (λ y. length (f y) ≡ 1) x xs all) (λ k q. one_place f xs k m (All-tail (λ y. length (f y) ≡ 1) x xs all) q) (f x) refl n e

-- THE TAKING IN

-- what the first starts left is taken in, and these are to come
pub record TakenSofar {X S M : Type 0} (hand_of : X → List S) (group_of : X → List M) (all left : List X) (h0 h : List S) (m0 m : List M) : Type 0 where
  pub done : List X
  pub parts : all ≡ done ++ left
  pub hand : h ≡ h0 ++ flat_map hand_of done
  pub groups : m ≡ m0 ++ flat_map group_of done

pub none_taken : {X S M : Type 0} (hand_of : X → List S) (group_of : X → List M) (all : List X) (h0 : List S) (m0 : List M) → TakenSofar hand_of group_of all all h0 h0 m0 m0
none_taken hand_of group_of all h0 m0 = record { done = []; parts = refl; hand = sym (append-nil h0); groups = sym (append-nil m0) }

pub one_taken : {X S M : Type 0} (hand_of : X → List S) (group_of : X → List M) (all left rest : List X) (x : X) (h0 h h1 : List S) (m0 m m1 : List M) → TakenSofar hand_of group_of all left h0 h m0 m
    → left ≡ x ∷ rest → h1 ≡ h ++ hand_of x → m1 ≡ m ++ group_of x → TakenSofar hand_of group_of all rest h0 h1 m0 m1
one_taken hand_of group_of all left rest x h0 h h1 m0 m m1 t el eh em = record {
  done = t.done ++ x ∷ [];
  parts = t.parts ∙ (ap (λ l. t.done ++ l) el ∙ sym (append_assoc t.done (x ∷ []) rest));
  hand = grown h0 h h1 (flat_map hand_of t.done) (hand_of x) t.hand eh ∙ ap (λ l. h0 ++ l) (sym (flat_snoc hand_of t.done x));
  groups = grown m0 m m1 (flat_map group_of t.done) (group_of x) t.groups em ∙ ap (λ l. m0 ++ l) (sym (flat_snoc group_of t.done x));
}

pub all_taken : {X S M : Type 0} (hand_of : X → List S) (group_of : X → List M) (all left : List X) (h0 h : List S) (m0 m : List M) → TakenSofar hand_of group_of all left h0 h m0 m → left ≡ []
    → (h ≡ h0 ++ flat_map hand_of all) × (m ≡ m0 ++ flat_map group_of all)
all_taken hand_of group_of all left h0 h m0 m t none = (t.hand ∙ ap (λ xs. h0 ++ flat_map hand_of xs) whole, t.groups ∙ ap (λ xs. m0 ++ flat_map group_of xs) whole)
  where
    whole : t.done ≡ all
    whole = sym (t.parts ∙ (ap (λ l. t.done ++ l) none ∙ append-nil t.done))

-- the room that is taken, and that is still to be taken
pub room_left : {X S M : Type 0} (hand_of : X → List S) (group_of : X → List M) (all left rest : List X) (x : X) (h0 h : List S) (m0 m : List M) → TakenSofar hand_of group_of all left h0 h m0 m → left ≡ x ∷ rest
    → (length h + length (hand_of x) ≤ length h0 + length (flat_map hand_of all)) × (length m + length (group_of x) ≤ length m0 + length (flat_map group_of all))
room_left hand_of group_of all left rest x h0 h m0 m t el = (
  (let a = ap length t.hand in let b = length-append h0 (flat_map hand_of t.done) in let c = flat_parts hand_of all t.done rest x (t.parts ∙ ap (λ l. t.done ++ l) el) in omega (arith, a, b, c)),
  (let a = ap length t.groups in let b = length-append m0 (flat_map group_of t.done) in let c = flat_parts group_of all t.done rest x (t.parts ∙ ap (λ l. t.done ++ l) el) in omega (arith, a, b, c)),
)

-- WHAT THE STARTS LEFT

-- a list that was written back whole
whole_again : {X : Type 0} (new old : List X) (n : ℕ) → length new ≡ length old → n ≡ length old → take n (new ++ drop (length new) old) ≡ new
whole_again new old n same is =
    ap (λ ys. take n (new ++ ys)) (nil_from_length (drop (length new) old) (let d = length-drop (length new) old in omega (arith, d, same)))
    ∙ (ap (take n) (append-nil new) ∙ (ap (λ k. take k new) (is ∙ sym same) ∙ take-length new))

only_one : {M : Type 0} (m x : M) → Contains (m ∷ []) x → m ≡ x
only_one m x (zero, l, e) = e
only_one m x (suc k, l, e) = absurd (omega (arith, l))

-- each of them can be worked
pub ready_at : {A : Type 0} (tables : List Table) (starts : List (GroupStart A)) → CanAllStart tables starts → (n : ℕ) (s : GroupStart A) → n < length starts → s ≡ slice_index_or starts n s → (t : Table) × CanStart t s
ready_at tables starts can n s l e =
    (let t = some_at tables n (let c = can.count in omega (arith, l, c)) in (t.0, subst (CanStart t.0) (sym e) (can.each n _ t.0 (slice_get-get_or starts n s l) t.1)))

module _ {A : Type 0} (told : Type 0) (meaning : A → Meaning) where
  abbrev hand_of : GroupStart A → List (Shelf A)
  hand_of s = s.hand.items

  abbrev group_of : GroupStart A → List (Member A)
  group_of s = s.started.items

  abbrev had_in : Member A → List ℕ
  had_in m = had_by (view_of meaning m.group)

  abbrev held_in : Member A → List (Shelf A)
  held_in m = m.group.shelves.shelves

  -- what is left by a start that was not worked
  pub unworked : (t : Table) (s : GroupStart A) → CanStart t s → StartLeft told meaning t s s
  unworked t s can = record {
    few = (let n = none in omega (arith, n));
    same = λ n. ap (times n) (whole ∙ can.archives);
    long = (let a = ap length can.archives in let b = length-map s.hand.items (λ (x : Shelf A). x.number) in let c = ap (λ ms. length (flat_map had_in ms)) can.none in omega (arith, a, b, c));
    started = λ m has. absurd (none_contained m (subst (λ ms. Contains ms m) can.none has));
    taken = λ meant tells are m has. absurd (none_contained m (subst (λ ms. Contains ms m) can.none has));
    lost = λ meant tells apart are.
        subst (AreMeantButLost meaning meant) (sym (ap (λ ms. s.hand.items ++ flat_map held_in ms) can.none ∙ append-nil s.hand.items)) (all_lost_none meaning meant s.hand.items are);
  }
    where
      none : length s.started.items ≡ 0
      none = ap length can.none

      whole : numbers_of s.hand.items ++ flat_map had_in s.started.items ≡ numbers_of s.hand.items
      whole = ap (λ ms. numbers_of s.hand.items ++ flat_map had_in ms) can.none ∙ append-nil (numbers_of s.hand.items)

  -- of one that was worked, and whose group was started
  pub worked : (t u : Table) (s r : GroupStart A) (m : Member A) → CanStart t s → s.table ≡ Some u → r.hand.items ≡ drop (length (archives_in u)) s.hand.items → r.started.items ≡ s.started.items ++ m ∷ []
      → IsStarted s.number u (view_of meaning m.group)
      → ((meant : ℕ → Meaning) → told → AreMeant meaning meant s.hand.items → AreMarked meant u (view_of meaning m.group).shelves)
      → ((meant : ℕ → Meaning) → told → AreMeant meaning meant s.hand.items
      → IsOpened meant (RoseBy meant u (opened_at (view_of meaning m.group).shelves)) (RoseOftenBy meant u (opened_at (view_of meaning m.group).shelves)) u (view_of meaning m.group).log)
      → ((meant : ℕ → Meaning) → told → AreApart (numbers_of s.hand.items) → AreMeant meaning meant s.hand.items → AreMeantButLost meaning meant m.group.shelves.shelves) → StartLeft told meaning t s r
  worked t u s r m can eu rest more is marked opened lost = record {
    few = (let n = ap length one in omega (arith, n));
    same = λ n. ap (times n) whole;
    long = (let a = ap length whole in let b = length-append (numbers_of r.hand.items) (flat_map had_in r.started.items) in let c = length-map r.hand.items (λ (y : Shelf A). y.number) in omega (arith, a, b, c));
    started = λ x has. subst (λ y. IsStarted s.number t (view_of meaning y.group)) (only x has) begun;
    taken = λ meant tells are x has. subst (λ y. IsTakenFrom meant (view_of meaning y.group)) (only x has) (record {
      marked = subst (λ y. AreMarked meant y (view_of meaning m.group).shelves) (sym is.first) (marked meant tells are);
      opened = subst (λ y. IsOpened meant (RoseBy meant y (opened_at (view_of meaning m.group).shelves)) (RoseOftenBy meant y (opened_at (view_of meaning m.group).shelves)) y (view_of meaning m.group).log)
          (sym is.first) (opened meant tells are);
    });
    lost = λ meant tells apart are.
        subst (AreMeantButLost meaning meant) (sym (ap (λ ss. ss ++ flat_map held_in r.started.items) nil ∙ (ap (flat_map held_in) one ∙ append-nil m.group.shelves.shelves))) (lost meant tells apart are);
  }
    where
      same_table : u ≡ t
      same_table = same_Some u t (sym eu ∙ can.is_table)

      begun : IsStarted s.number t (view_of meaning m.group)
      begun = subst (λ y. IsStarted s.number y (view_of meaning m.group)) same_table is

      one : r.started.items ≡ m ∷ []
      one = more ∙ ap (λ ms. ms ++ m ∷ []) can.none

      nil : r.hand.items ≡ []
      nil = nil_from_length r.hand.items
          (let a = ap length rest in let b = length-drop (length (archives_in u)) s.hand.items in let c = ap (λ y. length (archives_in y)) same_table in let d = ap length can.archives in
          let e = length-map s.hand.items (λ (y : Shelf A). y.number) in omega (arith, a, b, c, d, e))

      whole : numbers_of r.hand.items ++ flat_map had_in r.started.items ≡ archives_in t
      whole = ap (λ ss. numbers_of ss ++ flat_map had_in r.started.items) nil ∙ (ap (flat_map had_in) one ∙ (append-nil (had_in m) ∙ had_started s.number t (view_of meaning m.group) begun))

      only : (x : Member A) → Contains r.started.items x → m ≡ x
      only x has = only_one m x (subst (λ ms. Contains ms x) one has)

  -- and of one whose group was not, where the archives are in the hand
  pub refused : (t : Table) (s r : GroupStart A) → CanStart t s → r.started.items ≡ s.started.items → AreSame (numbers_of r.hand.items) (numbers_of s.hand.items) → AreAmong s.hand.items r.hand.items
      → length r.hand.items ≡ length s.hand.items → StartLeft told meaning t s r
  refused t s r can still same among long = record {
    few = (let n = ap length none in omega (arith, n));
    same = λ n. ap (times n) (ap (λ ms. numbers_of r.hand.items ++ flat_map had_in ms) none ∙ append-nil (numbers_of r.hand.items)) ∙ (same n ∙ ap (times n) can.archives);
    long = (let a = ap length can.archives in let b = length-map s.hand.items (λ (x : Shelf A). x.number) in let c = ap (λ ms. length (flat_map had_in ms)) none in omega (arith, a, b, c, long));
    started = λ m has. absurd (none_contained m (subst (λ ms. Contains ms m) none has));
    taken = λ meant tells are m has. absurd (none_contained m (subst (λ ms. Contains ms m) none has));
    lost = λ meant tells apart are.
        subst (AreMeantButLost meaning meant) (sym (ap (λ ms. r.hand.items ++ flat_map held_in ms) none ∙ append-nil r.hand.items)) (all_lost_none meaning meant r.hand.items (λ x has. are x (among x has)));
  }
    where
      none : r.started.items ≡ []
      none = still ∙ can.none

  -- what a thread was handed and left, at its place
  pub worked_at : (t : Table) (s argument after r : GroupStart A) → argument ≡ s → after ≡ r → CanStart t s → ((u : Table) → CanStart u argument → StartLeft told meaning u argument after) → StartLeft told meaning t s r
  worked_at t s argument after r begun left can leaves =
      subst (λ y. StartLeft told meaning t s y) left (subst (λ x. StartLeft told meaning t x after) begun (leaves t (subst (CanStart t) (sym begun) can)))

  -- the starts as they were written back behind the threads
  pub written_back : (tables : List Table) (old slice after : List (GroupStart A)) (len : ℕ) → CanAllStart tables old → slice ≡ old → len ≡ length old
      → ((ts : List Table) → CanAllStart ts slice → StartsLeft told meaning ts slice after) → StartsLeft told meaning tables old (take len (after ++ drop (length after) old))
  written_back tables old slice after len can same long leaves =
      (let left = subst (λ ss. (ts : List Table) → CanAllStart ts ss → StartsLeft told meaning ts ss after) same leaves tables can in
      subst (StartsLeft told meaning tables old) (sym (whole_again after old len left.count long)) left)

  pub all_unworked : (tables : List Table) (starts : List (GroupStart A)) → CanAllStart tables starts → StartsLeft told meaning tables starts starts
  all_unworked tables starts can = record {
    count = refl;
    each = λ n s r t es er et. subst (λ x. StartLeft told meaning t s x) (same_Some s r (sym es ∙ er)) (unworked t s (can.each n s t es et));
  }

  -- no group is started yet
  none_yet : (tables : List Table) (starts : List (GroupStart A)) → CanAllStart tables starts → flat_map group_of starts ≡ []
  none_yet tables starts can = all_none group_of starts (λ n s e. (can.each n s (at n s e).0 e (at n s e).1).none)
    where
      at : (n : ℕ) (s : GroupStart A) → slice_get starts n ≡ Some s → (t : Table) × (slice_get tables n ≡ Some t)
      at n s e = some_at tables n (let l = slice_get_within starts n s e in let c = can.count in omega (arith, l, c))

  -- an element that stands at a place of the old, where there is one at that place of the new
  met : (tables : List Table) (old new : List (GroupStart A)) → CanAllStart tables old → StartsLeft told meaning tables old new → (n : ℕ) (r : GroupStart A) → slice_get new n ≡ Some r
      → (s : GroupStart A) × (t : Table) × (slice_get old n ≡ Some s) × (slice_get tables n ≡ Some t) × StartLeft told meaning t s r
  met tables old new can left n r er =
      (let l = slice_get_within new n r er in let c = left.count in let d = can.count in
      let s = some_at old n (omega (arith, l, c)) in let t = some_at tables n (omega (arith, l, c, d)) in
      (s.0, t.0, s.1, t.1, left.each n s.0 r t.0 s.1 er t.1))

  -- the parts of what was in the hand mean what the whole did, and no number is twice among them
  part_meant : (meant : ℕ → Meaning) (starts : List (GroupStart A)) (now : List (Shelf A)) (n : ℕ) (s : GroupStart A) → slice_get starts n ≡ Some s → AreMeant meaning meant (flat_map hand_of starts ++ now) → AreMeant meaning meant s.hand.items
  part_meant meant starts now n s e are x has = are x (Contains-append_left (flat_map hand_of starts) now x (flat_contains hand_of starts n s x e has))

  part_times : (starts : List (GroupStart A)) (n k : ℕ) (s : GroupStart A) → slice_get starts n ≡ Some s → times k (numbers_of s.hand.items) ≤ times k (numbers_of (flat_map hand_of starts))
  part_times [] n k s e = absurd (cc e)
  part_times (x ∷ xs) zero k s e =
      (let a = times-append k (numbers_of x.hand.items) (numbers_of (flat_map hand_of xs)) in let b = ap (times k) (map-append (λ (y : Shelf A). y.number) x.hand.items (flat_map hand_of xs)) in
      let c = ap (λ (y : GroupStart A). times k (numbers_of y.hand.items)) (same_Some x s e) in omega (arith, a, b, c))
  part_times (x ∷ xs) (suc n) k s e =
      (let a = times-append k (numbers_of x.hand.items) (numbers_of (flat_map hand_of xs)) in let b = ap (times k) (map-append (λ (y : Shelf A). y.number) x.hand.items (flat_map hand_of xs)) in
      let r = part_times xs n k s e in omega (arith, a, b, r))

  part_apart : (starts : List (GroupStart A)) (now : List (Shelf A)) (n : ℕ) (s : GroupStart A) → slice_get starts n ≡ Some s → AreApart (numbers_of (flat_map hand_of starts ++ now)) → AreApart (numbers_of s.hand.items)
  part_apart starts now n s e apart k =
      (let a = times-append k (numbers_of (flat_map hand_of starts)) (numbers_of now) in let b = ap (times k) (map-append (λ (y : Shelf A). y.number) (flat_map hand_of starts) now) in
      let p = part_times starts n k s e in let q = apart k in omega (arith, a, b, p, q))

  -- what adds up over the archives of the tables adds up over the hand and the groups
  adds : (f : List ℕ → ℕ) → f [] ≡ 0 → ((a b : List ℕ) → f (a ++ b) ≡ f a + f b) → (tables : List Table) (old new : List (GroupStart A)) → CanAllStart tables old → StartsLeft told meaning tables old new
      → ((s r : GroupStart A) (t : Table) → StartLeft told meaning t s r → f (numbers_of r.hand.items) + f (flat_map had_in r.started.items) ≡ f (archives_in t))
      → f (numbers_of (flat_map hand_of new)) + f (flat_map had_in (flat_map group_of new)) ≡ f (flat_map archives_in tables)
  adds f none more tables old new can left each =
      (let a = ap f (mapped (λ (y : Shelf A). y.number) hand_of new) in let b = ap f (nested had_in group_of new) in
      let c = added_up f none more (λ r. numbers_of r.hand.items) (λ r. flat_map had_in r.started.items) archives_in new tables (left.count ∙ can.count)
      (λ n r t er et. (let m = met tables old new can left n r er in each m.0 r t (subst (λ x. StartLeft told meaning x m.0 r) (same_Some m.1 t (sym m.3 ∙ et)) m.4))) in
      omega (arith, a, b, c))

  times_add : (n : ℕ) (tables : List Table) (old new : List (GroupStart A)) → CanAllStart tables old → StartsLeft told meaning tables old new
      → times n (numbers_of (flat_map hand_of new)) + times n (flat_map had_in (flat_map group_of new)) ≡ times n (flat_map archives_in tables)
  times_add n tables old new can left = adds (times n) refl (times-append n) tables old new can left
      (λ s r t l. (let a = times-append n (numbers_of r.hand.items) (flat_map had_in r.started.items) in let b = l.same n in omega (arith, a, b)))

  lengths_add : (tables : List Table) (old new : List (GroupStart A)) → CanAllStart tables old → StartsLeft told meaning tables old new
      → length (flat_map hand_of new) + length (flat_map had_in (flat_map group_of new)) ≡ length (flat_map archives_in tables)
  lengths_add tables old new can left =
      (let a = adds length refl (λ a b. length-append a b) tables old new can left
      (λ s r t l. (let b = length-map r.hand.items (λ (y : Shelf A). y.number) in let c = l.long in omega (arith, b, c))) in
      let d = length-map (flat_map hand_of new) (λ (y : Shelf A). y.number) in omega (arith, a, d))

  -- each start left one group at most
  pub each_few : (tables : List Table) (old new : List (GroupStart A)) → CanAllStart tables old → StartsLeft told meaning tables old new → All (λ r. length r.started.items ≤ 1) new
  each_few tables old new can left k d l = (met tables old new can left k _ (slice_get-get_or new k d l)).4.few

  -- how many archives were given out
  given_long : (tables : List Table) (starts : List (GroupStart A)) → CanAllStart tables starts → length (flat_map hand_of starts) ≡ length (flat_map archives_in tables)
  given_long tables starts can =
      (let a = lengths_add tables starts starts can (all_unworked tables starts can) in let b = ap (λ ms. length (flat_map had_in ms)) (none_yet tables starts can) in omega (arith, a, b))

  -- there is room for what comes back
  pub rooms : (all others : List Table) (before now : List (Shelf A)) (old new : List (GroupStart A)) (g : AreGivenOut all others before old now) → StartsLeft told meaning g.first old new
      → (length now + length (flat_map hand_of new) ≤ length before) × (length (flat_map group_of new) ≤ length all)
  rooms all others before now old new g left = (
    (let a = lengths_add g.first old new g.can left in let e = ap length g.shelves in let f = length-append (flat_map hand_of old) now in let h = given_long g.first old g.can in omega (arith, a, e, f, h)),
    (let b = few_flat group_of new (each_few g.first old new g.can left) in let c = left.count in let d = g.can.count in let e = ap length g.parts in let f = length-append g.first others in omega (arith, b, c, d, e, f)),
  )

  -- where no group stood before
  alone : (before members : List (Member A)) (new : List (GroupStart A)) → members ≡ before ++ flat_map group_of new → before ≡ [] → members ≡ flat_map group_of new
  alone before members new em none = em ∙ ap (λ ms. ms ++ flat_map group_of new) none

  -- WHAT IS THERE IN THE END

  -- What stands of groups that were to be started: those that were, and the archives of all others.
  pub record TakenIn (tables : List Table) (before hand : List (Shelf A)) (members : List (Member A)) : Type 0 where
    pub marked : (meant : ℕ → Meaning) → told → AreMeant meaning meant before → AreTakenFrom meant (λ m. view_of meaning m.group) members
    pub lost : (meant : ℕ → Meaning) → told → AreApart (numbers_of before) → AreMeant meaning meant before → AreMeantButLost meaning meant (hand ++ flat_map held_in members)
    pub refused : AreSame (numbers_of hand ++ flat_map had_in members) (flat_map archives_in tables)
    pub few : length members ≤ length tables
    pub within : length hand + length (flat_map had_in members) ≡ length before

  pub taken_in : (all others : List Table) (before now hand : List (Shelf A)) (old new : List (GroupStart A)) (members : List (Member A)) (g : AreGivenOut all others before old now) → StartsLeft told meaning g.first old new
      → hand ≡ now ++ flat_map hand_of new → members ≡ flat_map group_of new → TakenIn all before hand members
  taken_in all others before now hand old new members g left eh em = record {
    marked = λ meant tells are n m e.
        (let p = flat_place group_of new m (subst (λ ms. Contains ms m) em (at_contains members n m e)) in let q = met g.first old new g.can left p.0 p.1 p.2 in
        q.4.taken meant tells (part_meant meant old now p.0 q.0 q.2 (subst (AreMeant meaning meant) g.shelves are)) m p.3);
    lost = λ meant tells apart are.
        (let a = subst (λ ss. AreApart (numbers_of ss)) g.shelves apart in let b = subst (AreMeant meaning meant) g.shelves are in
        subst (AreMeantButLost meaning meant) (sym (ap (λ l. l ++ flat_map held_in members) eh))
        (lost_append meaning meant (now ++ flat_map hand_of new) (flat_map held_in members)
        (lost_append meaning meant now (flat_map hand_of new) (all_lost_none meaning meant now (λ s has. b s (Contains-append_right (flat_map hand_of old) now s has))) (hands_lost meant tells a b))
        (subst (λ ms. AreMeantButLost meaning meant (flat_map held_in ms)) (sym em) (groups_lost meant tells a b))));
    refused = λ n.
        (let a = times_add n g.first old new g.can left in let b = ap (times n) named in let c = times-append n (numbers_of now) (numbers_of (flat_map hand_of new)) in
        let d = ap (times n) g.left in let e = ap (λ ts. times n (flat_map archives_in ts)) g.parts in let f = ap (times n) (flat_map-append archives_in g.first others) in
        let h = times-append n (flat_map archives_in g.first) (flat_map archives_in others) in let i = times-append n (numbers_of hand) (flat_map had_in members) in
        let j = ap (λ ms. times n (flat_map had_in ms)) em in omega (arith, a, b, c, d, e, f, h, i, j));
    few = (let a = ap length em in let b = few_flat group_of new (each_few g.first old new g.can left) in let c = left.count in let d = g.can.count in let e = ap length g.parts in let f = length-append g.first others in
        omega (arith, a, b, c, d, e, f));
    within = (let a = lengths_add g.first old new g.can left in let b = ap length eh in let c = length-append now (flat_map hand_of new) in let d = ap (λ ms. length (flat_map had_in ms)) em in
        let e = ap length g.shelves in let f = length-append (flat_map hand_of old) now in let h = given_long g.first old g.can in omega (arith, a, b, c, d, e, f, h));
  }
    where
      named : numbers_of hand ≡ numbers_of now ++ numbers_of (flat_map hand_of new)
      named = ap numbers_of eh ∙ map-append (λ (y : Shelf A). y.number) now (flat_map hand_of new)

      hands_lost : (meant : ℕ → Meaning) → told → AreApart (numbers_of (flat_map hand_of old ++ now)) → AreMeant meaning meant (flat_map hand_of old ++ now) → AreMeantButLost meaning meant (flat_map hand_of new)
      hands_lost meant tells apart are s has =
          (let p = flat_place hand_of new s has in let q = met g.first old new g.can left p.0 p.1 p.2 in
          q.4.lost meant tells (part_apart old now p.0 q.0 q.2 apart) (part_meant meant old now p.0 q.0 q.2 are) s (Contains-append_left p.1.hand.items (flat_map held_in p.1.started.items) s p.3))

      groups_lost : (meant : ℕ → Meaning) → told → AreApart (numbers_of (flat_map hand_of old ++ now)) → AreMeant meaning meant (flat_map hand_of old ++ now) → AreMeantButLost meaning meant (flat_map held_in (flat_map group_of new))
      groups_lost meant tells apart are s has =
          (let m = flat_place held_in (flat_map group_of new) s has in let p = flat_place group_of new m.1 (at_contains (flat_map group_of new) m.0 m.1 m.2) in let q = met g.first old new g.can left p.0 p.1 p.2 in
          q.4.lost meant tells (part_apart old now p.0 q.0 q.2 apart) (part_meant meant old now p.0 q.0 q.2 are) s (Contains-append_right p.1.hand.items (flat_map held_in p.1.started.items) s (flat_has held_in p.1.started.items m.1 s p.3 m.3)))

  pub taken_alone : (all others : List Table) (before now hand : List (Shelf A)) (old new : List (GroupStart A)) (none_before members : List (Member A)) (g : AreGivenOut all others before old now)
      → StartsLeft told meaning g.first old new → hand ≡ now ++ flat_map hand_of new → members ≡ none_before ++ flat_map group_of new → none_before ≡ [] → TakenIn all before hand members
  taken_alone all others before now hand old new none_before members g left eh em none = taken_in all others before now hand old new members g left eh (alone none_before members new em none)

  -- and where none was begun
  pub untouched : (all : List Table) (hand : List (Shelf A)) (members : List (Member A)) → numbers_of hand ≡ flat_map archives_in all → members ≡ [] → TakenIn all hand hand members
  untouched all hand members named none =
      taken_in all all hand hand hand [] [] members (none_given all [] hand refl named) (all_unworked [] [] (none_given all [] hand refl named).can) (sym (append-nil hand)) none

  -- and where each was started
  pub record AllStarted (tables : List Table) (hand : List (Shelf A)) (members : List (Member A)) : Type 0 where
    pub started : AreStarted (λ m. view_of meaning m.group) tables members
    pub empty : hand ≡ []

  pub all_started : (all others : List Table) (before now hand : List (Shelf A)) (old new : List (GroupStart A)) (members : List (Member A)) (g : AreGivenOut all others before old now) → StartsLeft told meaning g.first old new
      → hand ≡ now ++ flat_map hand_of new → members ≡ flat_map group_of new → length old ≡ length all → length members ≡ length all → AllStarted all hand members
  all_started all others before now hand old new members g left eh em long many = record { started = started; empty = nil_from_length hand none }
    where
      one : All (λ r. length r.started.items ≡ 1) new
      one = all_one group_of new (each_few g.first old new g.can left) (let a = ap length em in let c = left.count in omega (arith, a, c, long, many))

      over : others ≡ []
      over = nil_from_length others (let a = ap length g.parts in let b = length-append g.first others in let c = g.can.count in omega (arith, a, b, c, long))

      whole : all ≡ g.first
      whole = g.parts ∙ (ap (λ l. g.first ++ l) over ∙ append-nil g.first)

      started : AreStarted (λ m. view_of meaning m.group) all members
      started = record {
        count = many;
        each = λ n m t e et.
            (let p = one_place group_of new n m one (subst (λ ms. slice_get ms n ≡ Some m) em e) in let q = met g.first old new g.can left n p.0 p.1 in
            subst (λ k. IsStarted k t (view_of meaning m.group)) (g.can.number n q.0 q.2)
            (subst (λ x. IsStarted q.0.number x (view_of meaning m.group)) (same_Some q.1 t (sym q.3 ∙ subst (λ ts. slice_get ts n ≡ Some t) whole et)) (q.4.started m p.2)));
      }

      none : length hand ≡ 0
      none =
          (let a = lengths_add g.first old new g.can left in let b = ap length eh in let c = length-append now (flat_map hand_of new) in let d = ap (λ ms. length (flat_map had_in ms)) em in
          let e = ap length (had_all (λ m. view_of meaning m.group) all members started) in let f = ap (λ ts. length (flat_map archives_in ts)) whole in
          let h = ap length g.left in let i = length-map now (λ (y : Shelf A). y.number) in let j = ap (λ ts. length (flat_map archives_in ts)) over in omega (arith, a, b, c, d, e, f, h, i, j))

  pub all_alone : (all others : List Table) (before now hand : List (Shelf A)) (old new : List (GroupStart A)) (none_before members : List (Member A)) (g : AreGivenOut all others before old now)
      → StartsLeft told meaning g.first old new → hand ≡ now ++ flat_map hand_of new → members ≡ none_before ++ flat_map group_of new → none_before ≡ [] → length old ≡ length all → length members ≡ length all
      → AllStarted all hand members
  all_alone all others before now hand old new none_before members g left eh em none long many =
      all_started all others before now hand old new members g left eh (alone none_before members new em none) long many
