-- Objects of one file, by how they begin.
use Rattle.std.proofs.Common.{◌≡◌, ◌<◌, ◌+◌, ◌-◌, inl, inr, ℕ, zero, suc, Bool, true, false, List, [], ◌∷◌, ◌++◌, length, get_or, take, drop, replicate, refl, sym, ap, subst, ◌∙◌, arith, append_assoc, length-append}
use Rattle.std.specs.Prelude.{◌||◌}
use Rattle.std.specs.List.{list_any}
use Rattle.std.specs.Str.{bytes_eq}
use Rattle.std.proofs.lemmas.List.{take-append-le, drop-append-le, length-take, drop-take, get_or-take}
use Rattle.std.proofs.lemmas.Bool.{cases_lt}
use Rattle.std.proofs.lemmas.Slice.Eq.{bytes_eq-Decides}
use Rattle.byteorder.specs.Endian.{big_bytes}
use Rattle.pot_chains.specs.Listed.{IsIn}
use Rattle.pot_object.specs.Objects.{head_at, head_bytes, object_bytes, part_length, IsObjectHead, IsObject}
use Rattle.pot_object.specs.declared.object.ObjectHead.{ObjectHead}
use Rattle.pot_object.proofs.ObjectLemmas.{length-head_bytes}
use Rattle.pot_object.proofs.ReadLemmas.{head_at-head_bytes, head_at-object}
use Rattle.pot_object.proofs.SealLemmas.{head-sealed}
use Rattle.pot_recover.specs.Choices.{IsSomeObject}
use Rattle.pot_recover.specs.Fronts.{has_front}
use Rattle.pot_session.specs.Listing.{are_of_one_file, file_of, front_at, has_earlier, object_at}
use Rattle.pot_session.proofs.ListingLemmas.{none_before, some_in, take_front}

bytes_true : (xs ys : List ℕ) → bytes_eq xs ys ≡ true → xs ≡ ys
bytes_true xs ys e = (bytes_eq-Decides xs ys).0 e

bytes_same : (xs ys : List ℕ) → xs ≡ ys → bytes_eq xs ys ≡ true
bytes_same xs ys e = (bytes_eq-Decides xs ys).1 e

-- PARTS OF A LIST

take_all : (a : List ℕ) (n : ℕ) → n ≡ length a → take n a ≡ a
take_all [] zero e = refl
take_all [] (suc n) e = absurd (omega (arith, e))
take_all (x ∷ a) zero e = absurd (omega (arith, e))
take_all (x ∷ a) (suc n) e = ap (λ l. x ∷ l) (take_all a n (omega (arith, e)))

drop_all : (a : List ℕ) (n : ℕ) → n ≡ length a → drop n a ≡ []
drop_all [] zero e = refl
drop_all [] (suc n) e = absurd (omega (arith, e))
drop_all (x ∷ a) zero e = absurd (omega (arith, e))
drop_all (x ∷ a) (suc n) e = drop_all a n (omega (arith, e))

take_first : (a b : List ℕ) (n : ℕ) → n ≡ length a → take n (a ++ b) ≡ a
take_first a b n e = take-append-le n a b (omega (arith, e)) ∙ take_all a n e

drop_first : (a b : List ℕ) (n : ℕ) → n ≡ length a → drop n (a ++ b) ≡ b
drop_first a b n e = drop-append-le n a b (omega (arith, e)) ∙ ap (λ l. l ++ b) (drop_all a n e)

-- what two lists of one length begin
same_first : (a b x y : List ℕ) → length a ≡ length x → a ++ b ≡ x ++ y → a ≡ x
same_first a b x y l e = sym (take_first a b (length a) refl) ∙ (ap (take (length a)) e ∙ take_first x y (length a) l)

same_last : (a b x y : List ℕ) → length a ≡ length x → a ++ b ≡ x ++ y → b ≡ y
same_last a b x y l e = sym (drop_first a b (length a) refl) ∙ (ap (drop (length a)) e ∙ drop_first x y (length a) l)

-- the last bytes of a front
last_of_front : (o : List ℕ) → drop 20 (take 32 o) ≡ take 12 (drop 20 o)
last_of_front o = drop-take 20 12 o

first_of_front : (o : List ℕ) → take 16 (take 32 o) ≡ take 16 o
first_of_front o = take_front 16 32 o (omega arith)

-- THE HEAD OF AN OBJECT

-- behind the file id and the piece
abbrev tail_of : ObjectHead → List ℕ
tail_of h = big_bytes 4 h.pieces ++ big_bytes 8 h.length

spelled_head : (h : ObjectHead) → head_bytes h ≡ (h.file_id ++ big_bytes 4 h.piece) ++ tail_of h
unfolding head_bytes
spelled_head h = append_assoc (h.file_id ++ big_bytes 4 h.piece) (big_bytes 4 h.pieces) (big_bytes 8 h.length)

module _ (h : ObjectHead) (o : List ℕ) (is : IsObject h o) where
  front_is : take 32 o ≡ head_bytes h
  unfolding object_bytes
  front_is =
      let part = take (part_length h) (drop 64 o) in
      ap (take 32) is.spelled ∙ head-sealed (head_bytes h) (part ++ replicate (864 - length part) 0) (length-head_bytes h is.head.id)

  front_parts : take 32 o ≡ (h.file_id ++ big_bytes 4 h.piece) ++ tail_of h
  front_parts = front_is ∙ spelled_head h

  id_is : take 16 o ≡ h.file_id
  id_is =
      sym (first_of_front o) ∙ (ap (take 16) (front_parts ∙ append_assoc h.file_id (big_bytes 4 h.piece) (tail_of h))
      ∙ take_first h.file_id (big_bytes 4 h.piece ++ tail_of h) 16 (sym is.head.id))

  pub id_long : length (take 16 o) ≡ 16
  id_long = ap length id_is ∙ is.head.id

  tail_is : take 12 (drop 20 o) ≡ tail_of h
  tail_is =
      sym (last_of_front o) ∙ (ap (drop 20) front_parts
      ∙ drop_first (h.file_id ++ big_bytes 4 h.piece) (tail_of h) 20 (let l = length-append h.file_id (big_bytes 4 h.piece) in omega (arith, l, is.head.id)))

-- OF ONE FILE

module _ (o other : List ℕ) (whole : length (take 16 o) ≡ 16) where
  -- objects with a front of one file are of that file
  pub of_front : (piece : ℕ) → has_front (front_at o piece) other ≡ true → are_of_one_file o other ≡ true
  of_front piece e = bytes_same (file_of other) (file_of o) (ap (λ a. a ++ take 12 (drop 20 other)) first ∙ ap (λ b. take 16 o ++ b) last)
    where
      is : take 32 other ≡ (take 16 o ++ big_bytes 4 piece) ++ take 12 (drop 20 o)
      is = bytes_true (take 32 other) (front_at o piece) e

      first : take 16 other ≡ take 16 o
      first =
          sym (first_of_front other) ∙ (ap (take 16) (is ∙ append_assoc (take 16 o) (big_bytes 4 piece) (take 12 (drop 20 o)))
          ∙ take_first (take 16 o) (big_bytes 4 piece ++ take 12 (drop 20 o)) 16 (sym whole))

      last : take 12 (drop 20 other) ≡ take 12 (drop 20 o)
      last =
          sym (last_of_front other) ∙ (ap (drop 20) is
          ∙ drop_first (take 16 o ++ big_bytes 4 piece) (take 12 (drop 20 o)) 20 (let l = length-append (take 16 o) (big_bytes 4 piece) in omega (arith, l, whole)))

  module _ (full : length (take 16 other) ≡ 16) (same : are_of_one_file o other ≡ true) where
    whole_file : file_of other ≡ file_of o
    whole_file = bytes_true (file_of other) (file_of o) same

    same_id : take 16 other ≡ take 16 o
    same_id = same_first (take 16 other) (take 12 (drop 20 other)) (take 16 o) (take 12 (drop 20 o)) (full ∙ sym whole) whole_file

    same_tail : take 12 (drop 20 other) ≡ take 12 (drop 20 o)
    same_tail = same_last (take 16 other) (take 12 (drop 20 other)) (take 16 o) (take 12 (drop 20 o)) (full ∙ sym whole) whole_file

-- an object of the file has the front of its piece
pub to_front : (o other : List ℕ) (h : ObjectHead) → length (take 16 o) ≡ 16 → IsObject h other → are_of_one_file o other ≡ true → has_front (front_at o h.piece) other ≡ true
to_front o other h whole is same =
    let full = id_long h other is in
    bytes_same (take 32 other) (front_at o h.piece)
    (front_parts h other is ∙ (ap (λ a. (a ++ big_bytes 4 h.piece) ++ tail_of h) (sym (id_is h other is) ∙ same_id o other whole full same)
    ∙ ap (λ b. (take 16 o ++ big_bytes 4 h.piece) ++ b) (sym (tail_is h other is) ∙ same_tail o other whole full same)))

first_piece : ObjectHead → ObjectHead
first_piece h = record h { piece = 0 }

first_head : (h : ObjectHead) → IsObjectHead h → IsObjectHead (first_piece h)
unfolding first_piece
first_head h ok = record { id = ok.id; fits = ok.fits; cut = ok.cut; exists = (let e = ok.exists in omega (arith, e)) }

first_bytes : (g h : ObjectHead) → g.file_id ≡ h.file_id → tail_of g ≡ tail_of h → head_bytes (first_piece g) ≡ head_bytes (first_piece h)
unfolding first_piece
first_bytes g h id tail =
    spelled_head (first_piece g) ∙ (ap (λ a. (a ++ big_bytes 4 0) ++ tail_of g) id ∙ (ap (λ b. (h.file_id ++ big_bytes 4 0) ++ b) tail ∙ sym (spelled_head (first_piece h))))

-- objects of one file say the same number of pieces
pub same_pieces : (o other : List ℕ) (h g : ObjectHead) → IsObject h o → IsObject g other → are_of_one_file o other ≡ true → g.pieces ≡ h.pieces
unfolding first_piece
same_pieces o other h g is at same =
    let whole = id_long h o is in
    let full = id_long g other at in
    let id : g.file_id ≡ h.file_id = sym (id_is g other at) ∙ (same_id o other whole full same ∙ id_is h o is) in
    let tail : tail_of g ≡ tail_of h = sym (tail_is g other at) ∙ (same_tail o other whole full same ∙ tail_is h o is) in
    ap (λ (k : ObjectHead). k.pieces)
    (sym (head_at-head_bytes (first_piece g) [] (first_head g at.head))
    ∙ (ap (λ l. head_at (l ++ [])) (first_bytes g h id tail) ∙ head_at-head_bytes (first_piece h) [] (first_head h is.head)))

-- AN EARLIER OBJECT OF THE FILE

list_any_weaker : {X : Type 0} (p q : X → Bool) (xs : List X) → ((x : X) → p x ≡ true → q x ≡ true) → list_any p xs ≡ true → list_any q xs ≡ true
list_any_weaker p q [] f e = e
list_any_weaker p q (x ∷ xs) f e = by (p x) refl (λ t. list_any_weaker p q xs f t) e
  where
    here : (b : Bool) → b ≡ true → (b || list_any q xs) ≡ true
    here true h = refl
    here false h = absurd (cc)

    later : (b : Bool) → list_any q xs ≡ true → (b || list_any q xs) ≡ true
    later true h = refl
    later false h = h

    by : (b : Bool) → p x ≡ b → (list_any p xs ≡ true → list_any q xs ≡ true) → (b || list_any p xs) ≡ true → (q x || list_any q xs) ≡ true
    by true h rest e = here (q x) (f x h)
    by false h rest e = later (q x) (rest e)

in_at : {X : Type 0} (xs : List X) (k : ℕ) (d : X) → k < length xs → IsIn xs (get_or xs k d)
in_at [] k d l = absurd (omega (arith, l))
in_at (x ∷ xs) zero d l = inl refl
in_at (x ∷ xs) (suc k) d l = inr (in_at xs k d (omega (arith, l)))

module _ (objects : List (List ℕ)) (place : ℕ) (all : (object : List ℕ) → IsIn objects object → IsSomeObject object) (within : place < length objects) where
  abbrev here : List ℕ
  here = object_at objects place

  head_here : IsSomeObject here
  head_here = all here (in_at objects place [] within)

  -- one with a front of the file stands before
  pub some_earlier : (piece : ℕ) → list_any (has_front (front_at here piece)) (take place objects) ≡ true → true ≡ has_earlier objects place
  some_earlier piece e =
      let is = head_here in
      sym (list_any_weaker (has_front (front_at here piece)) (are_of_one_file here) (take place objects) (λ x h. of_front here x (id_long is.0 here is.1) piece h) e)

  -- none does
  pub none_earlier : ((piece : ℕ) → piece < (head_at here).pieces → list_any (has_front (front_at here piece)) (take place objects) ≡ false) → false ≡ has_earlier objects place
  none_earlier none = sym (none_before (are_of_one_file here) objects place [] (λ k before l. by k before l (are_of_one_file here (get_or objects k [])) refl))
    where
      clash : (b : Bool) → b ≡ true → b ≡ false → ⊥
      clash b t f = (let e : true ≡ false = sym t ∙ f in cc)

      by : (k : ℕ) → k < place → k < length objects → (b : Bool) → are_of_one_file here (get_or objects k []) ≡ b → b ≡ false
      by k before l false e = refl
      by k before l true e =
          let other = get_or objects k [] in
          let is = head_here in
          let at = all other (in_at objects k [] l) in
          let pieces : at.0.pieces ≡ (head_at here).pieces =
          same_pieces here other is.0 at.0 is.1 at.1 e ∙ sym (ap (λ (h : ObjectHead). h.pieces) (head_at-object is.0 here is.1)) in
          let front = to_front here other at.0 (id_long is.0 here is.1) at.1 e in
          let exists = at.1.head.exists in
          absurd (clash (list_any (has_front (front_at here at.0.piece)) (take place objects))
          (some_in (has_front (front_at here at.0.piece)) (take place objects) k [] (let n = length-take place objects in omega (arith, n, before, l))
          (ap (has_front (front_at here at.0.piece)) (get_or-take place objects k [] before) ∙ front))
          (none at.0.piece (omega (arith, exists, pieces))))

-- one more piece of which none stands before
pub pieces_more : (test : ℕ → Bool) (piece : ℕ) → ((q : ℕ) → q < piece → test q ≡ false) → test piece ≡ false → (q : ℕ) → q < piece + 1 → test q ≡ false
pieces_more test piece before now q l = elim (cases_lt q piece) [
  | inl less ↦ before q less
  | inr le ↦ subst (λ k. test k ≡ false) (let e : piece ≡ q = omega (arith, l, le) in e) now
]
