-- Lists that are taken apart from the front, and grow at the end.
use Rattle.std.proofs.Common.{inl, inr, ◌≡◌, ◌<◌, ◌+◌, ◌++◌, ℕ, zero, suc, List, [], ◌∷◌, length, take, drop, get_or, map, refl, sym, ap, subst, ◌∙◌, arith, append_assoc, append-nil, length-append, eqb, true, false}
use Rattle.std.specs.Prelude.{Some, Contains, slice_get, slice_index_or, flat_map, All}
use Rattle.std.proofs.lemmas.List.Elements.{All-head, All-tail, Contains-append_left, Contains-append_right}
use Rattle.std.specs.List.{remove}
use Rattle.std.proofs.lemmas.List.{take_more, drop_more, take-append-drop}
use Rattle.std.proofs.lemmas.Grind.{flat_map-append}
use Rattle.std.proofs.lemmas.Bool.Decides.{eqb_tells}
use Rattle.std.proofs.lemmas.Option.{same_Some}

-- the first element, and what is left without it
pub first_is : {A : Type 0} (xs ys : List A) (x : A) → 0 < length xs → x ≡ get_or xs 0 x → ys ≡ remove xs 0 → xs ≡ x ∷ ys
first_is [] ys x l e r = absurd (omega (arith, l))
first_is (z ∷ zs) ys x l e r = ap (λ y. y ∷ zs) (sym e) ∙ ap (λ ws. x ∷ ws) (sym r)

-- one more element moved from the front of one list to the end of another
pub one_moved : {A : Type 0} (all i0 now left : List A) (i : ℕ) (x : A) → i < length all → now ≡ i0 ++ take i all → left ≡ drop i all → x ≡ get_or left 0 x
    → (now ++ x ∷ [] ≡ i0 ++ take (i + 1) all) × (remove left 0 ≡ drop (i + 1) all)
one_moved all i0 now left i x l en el ex = (
  ap (λ ys. ys ++ x ∷ []) en ∙ (append_assoc i0 (take i all) (x ∷ []) ∙ ap (λ ys. i0 ++ ys) (ap (λ y. take i all ++ y ∷ []) at ∙ sym (take_more all i x l))),
  ap (λ ys. remove ys 0) split,
)
  where
    split : left ≡ get_or all i x ∷ drop (i + 1) all
    split = el ∙ drop_more all i x l

    at : x ≡ get_or all i x
    at = ex ∙ ap (λ ys. get_or ys 0 x) split

-- what stands at a place of a list, whatever stands past its end
pub at_same : {X : Type 0} (xs : List X) (n : ℕ) (d x : X) → slice_get xs n ≡ Some x → slice_index_or xs n d ≡ x
at_same [] n d x e = absurd (cc)
at_same (y ∷ ys) zero d x e = same_Some y x e
at_same (y ∷ ys) (suc n) d x e = at_same ys n d x e

-- a fact at each place of a list, and of one more element
pub each_more : {M : Type 0} (P : M → Type 0) (ds : List M) (m : M) → ((n : ℕ) (x : M) → slice_get ds n ≡ Some x → P x) → P m → (n : ℕ) (x : M) → slice_get (ds ++ m ∷ []) n ≡ Some x → P x
each_more P [] m f p zero x e = subst P (same_Some m x e) p
each_more P [] m f p (suc n) x e = absurd (cc)
each_more P (d ∷ ds) m f p zero x e = f zero x e
each_more P (d ∷ ds) m f p (suc n) x e = each_more P ds m (λ k y q. f (suc k) y q) p n x e

-- and of two lists
pub pair_more : {M T : Type 0} (P : ℕ → M → T → Type 0) (ms : List M) (ts : List T) (m : M) (t : T) → length ms ≡ length ts
    → ((n : ℕ) (x : M) (y : T) → slice_get ms n ≡ Some x → slice_get ts n ≡ Some y → P n x y) → P (length ms) m t
    → (n : ℕ) (x : M) (y : T) → slice_get (ms ++ m ∷ []) n ≡ Some x → slice_get (ts ++ t ∷ []) n ≡ Some y → P n x y
pair_more P [] [] m t long f p zero x y ex ey = subst (λ z. P 0 z y) (same_Some m x ex) (subst (λ z. P 0 m z) (same_Some t y ey) p)
pair_more P [] [] m t long f p (suc n) x y ex ey = absurd (cc)
pair_more P [] (b ∷ ts) m t long f p n x y ex ey = absurd (omega (arith, long))
pair_more P (a ∷ ms) [] m t long f p n x y ex ey = absurd (omega (arith, long))
pair_more P (a ∷ ms) (b ∷ ts) m t long f p zero x y ex ey = f zero x y ex ey
pair_more P (a ∷ ms) (b ∷ ts) m t long f p (suc n) x y ex ey =
    pair_more (λ k. P (suc k)) ms ts m t (omega (arith, long)) (λ k u v eu ev. f (suc k) u v eu ev) p n x y ex ey

-- lists of one length whose elements at each place give the same lists
pub same_flat : {M T X : Type 0} (f : M → List X) (h : T → List X) (ms : List M) (ts : List T) → length ms ≡ length ts
    → ((n : ℕ) (x : M) (y : T) → slice_get ms n ≡ Some x → slice_get ts n ≡ Some y → f x ≡ h y) → flat_map f ms ≡ flat_map h ts
same_flat f h [] [] long e = refl
same_flat f h [] (t ∷ ts) long e = absurd (omega (arith, long))
same_flat f h (m ∷ ms) [] long e = absurd (omega (arith, long))
same_flat f h (m ∷ ms) (t ∷ ts) long e =
    ap (λ l. l ++ flat_map f ms) (e 0 m t refl refl) ∙ ap (λ l. h t ++ l) (same_flat f h ms ts (omega (arith, long)) (λ n x y ex ey. e (suc n) x y ex ey))

-- how long a list of lists is, of which some are done and one is next
pub flat_parts : {M X : Type 0} (f : M → List X) (all done rest : List M) (m : M) → all ≡ done ++ m ∷ rest → length (flat_map f all) ≡ length (flat_map f done) + (length (f m) + length (flat_map f rest))
flat_parts f all done rest m e =
    ap (λ l. length (flat_map f l)) e ∙ (ap length (flat_map-append f done (m ∷ rest)) ∙ (length-append (flat_map f done) (f m ++ flat_map f rest)
    ∙ ap (λ n. length (flat_map f done) + n) (length-append (f m) (flat_map f rest))))

pub flat_snoc : {M X : Type 0} (f : M → List X) (done : List M) (m : M) → flat_map f (done ++ m ∷ []) ≡ flat_map f done ++ f m
flat_snoc f done m = flat_map-append f done (m ∷ []) ∙ ap (λ l. flat_map f done ++ l) (append-nil (f m))

-- one step more of a list that is built at its end
pub grown : {A : Type 0} (t0 t new more next : List A) → t ≡ t0 ++ more → new ≡ t ++ next → new ≡ t0 ++ (more ++ next)
grown t0 t new more next e en = en ∙ (ap (λ l. l ++ next) e ∙ append_assoc t0 more next)

-- tests of a length
pub is_zero : (n : ℕ) → eqb n 0 ≡ true → n ≡ 0
is_zero n e = elim (eqb_tells n 0) [
  | inl h ↦ h.1
  | inr h ↦ absurd (let f : true ≡ false = sym e ∙ h.0 in cc)
]

pub some_left : (n : ℕ) → eqb n 0 ≡ false → 0 < n
some_left zero e = absurd (cc)
some_left (suc n) e = omega arith

-- a fact of the element that stands behind others
pub all_at : {A : Type 0} (P : A → Type 0) (done rest : List A) (x : A) → All P (done ++ x ∷ rest) → P x
all_at P [] rest x a = All-head P x rest a
all_at P (d ∷ ds) rest x a = all_at P ds rest x (All-tail P d (ds ++ x ∷ rest) a)

-- the elements of one list at the places of another
pub same_maps : {M T : Type 0} (f : M → T) (ms : List M) (ts : List T) → length ms ≡ length ts → ((n : ℕ) (x : M) (y : T) → slice_get ms n ≡ Some x → slice_get ts n ≡ Some y → f x ≡ y) → map f ms ≡ ts
same_maps f [] [] long e = refl
same_maps f [] (t ∷ ts) long e = absurd (omega (arith, long))
same_maps f (m ∷ ms) [] long e = absurd (omega (arith, long))
same_maps f (m ∷ ms) (t ∷ ts) long e =
    ap (λ x. x ∷ map f ms) (e 0 m t refl refl) ∙ ap (λ l. t ∷ l) (same_maps f ms ts (omega (arith, long)) (λ n x y ex ey. e (suc n) x y ex ey))

pub all_at_place : {A : Type 0} (P : A → Type 0) (xs : List A) (n : ℕ) (x : A) → All P xs → slice_get xs n ≡ Some x → P x
all_at_place P [] n x a e = absurd (cc)
all_at_place P (y ∷ ys) zero x a e = subst P (same_Some y x e) (All-head P y ys a)
all_at_place P (y ∷ ys) (suc n) x a e = all_at_place P ys n x (All-tail P y ys a) e

-- parts of a list have elements of it
pub take_contains : {X : Type 0} (xs : List X) (n : ℕ) (x : X) → Contains (take n xs) x → Contains xs x
take_contains xs n x has = subst (λ ys. Contains ys x) (take-append-drop n xs) (Contains-append_left (take n xs) (drop n xs) x has)

pub drop_contains : {X : Type 0} (xs : List X) (n : ℕ) (x : X) → Contains (drop n xs) x → Contains xs x
drop_contains xs n x has = subst (λ ys. Contains ys x) (take-append-drop n xs) (Contains-append_right (take n xs) (drop n xs) x has)

-- and so has a list of lists of those at each place
pub flat_contains : {M X : Type 0} (f : M → List X) (ms : List M) (n : ℕ) (m : M) (x : X) → slice_get ms n ≡ Some m → Contains (f m) x → Contains (flat_map f ms) x
flat_contains f [] n m x e has = absurd (cc)
flat_contains f (k ∷ ms) zero m x e has = Contains-append_left (f k) (flat_map f ms) x (subst (λ y. Contains (f y) x) (sym (same_Some k m e)) has)
flat_contains f (k ∷ ms) (suc n) m x e has = Contains-append_right (f k) (flat_map f ms) x (flat_contains f ms n m x e has)

-- two functions whose values on a list are the same
pub same_at : {X Y : Type 0} (f h : X → Y) (xs : List X) (x : X) → map f xs ≡ map h xs → Contains xs x → f x ≡ h x
same_at f h [] x e (k, l, q) = absurd (omega (arith, l))
same_at f h (y ∷ ys) x e (zero, l, q) = subst (λ z. f z ≡ h z) q (ap (λ zs. get_or zs 0 (f y)) e)
same_at f h (y ∷ ys) x e (suc k, l, q) = same_at f h ys x (ap (λ zs. drop 1 zs) e) (k, omega (arith, l), q)

pub all_contained : {A : Type 0} (P : A → Type 0) (xs : List A) (x : A) → All P xs → Contains xs x → P x
all_contained P [] x a (k, l, e) = absurd (omega (arith, l))
all_contained P (y ∷ ys) x a (zero, l, e) = subst P e (All-head P y ys a)
all_contained P (y ∷ ys) x a (suc k, l, e) = all_contained P ys x (All-tail P y ys a) (k, omega (arith, l), e)
