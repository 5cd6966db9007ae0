-- Lists that are read part by part.
use Rattle.std.proofs.Common.{◌≡◌, ◌∙◌, ◌≤◌, ◌+◌, ◌==◌, ℕ, false, refl, sym, ap, subst, List, [], ◌∷◌, ◌++◌, map, length, append-nil, append_assoc, Option, Some, None, arith}
use Rattle.std.proofs.lemmas.List.{map-append}
use Rattle.std.proofs.lemmas.List.Splits.{join_with_byte-slice_split, length-slice_split, slice_split_at, slice_split_none}
use Rattle.std.specs.Borrow.{Bor}
use Rattle.std.specs.Prelude.{All}
use Rattle.std.specs.Iterator.{AlwaysYields}
use Rattle.std.specs.List.{join_with_byte, slice_split}
use Rattle.std.specs.Str.Iter.{split_steps}
use Rattle.std.specs.Str.Pattern.{FindsChar}
use Rattle.std.specs.declared.str.Split.{Split}
use Rattle.pot_options.specs.Options.{Text}
use Rattle.pot_words.specs.Lists.{AscendFrom, Lists}

-- the parts of a text between its commas
abbrev pub parts : Text → List Text
parts text = slice_split (λ b. b == 44) text

-- no comma stands in the text
abbrev pub HasNoComma : Text → Type 0
HasNoComma text = All (λ b. (b == 44) ≡ false) text

abbrev head_of : List Text → Text
head_of [] = []
head_of (t ∷ ts) = t

abbrev tail_of : List Text → List Text
tail_of [] = []
tail_of (t ∷ ts) = ts

-- one step of an iterator over the parts of a text
abbrev pub StepsTo : Split ℕ → Option (Bor Text) → Split ℕ → Type 0
StepsTo = split_steps FindsChar (λ a b. b ≡ a)

-- the iterator has these parts left
abbrev pub IsLeft : Split ℕ → List Text → Type 0
IsLeft it rest = AlwaysYields StepsTo (λ x. x.now) it rest

first_left : (rest : List Text) (it then : Split ℕ) (part : Bor Text) → IsLeft it rest → StepsTo it (Some part) then → (more : List Text) × (rest ≡ part.now ∷ more) × IsLeft then more
first_left [] it then part left step = absurd (left part then step)
first_left (t ∷ more) it then part left step = let l = left.1 part then step in (more, ap (λ (w : Text). w ∷ more) (sym l.0), l.1)

none_left : (rest : List Text) (it then : Split ℕ) → IsLeft it rest → StepsTo it None then → rest ≡ []
none_left [] it then left step = refl
none_left (t ∷ more) it then left step = absurd (left.0 then step)

module _ {X : Type 0} (spell : X → Text) (Fits : X → Type 0) (rank : X → ℕ) where
  -- Items xs were read from the front of all parts, and `rest` are left: lists that the parts spell
  -- go on from them.
  pub record IsUnderWay (least : ℕ) (all : List Text) (xs : List X) (next : ℕ) (rest : List Text) : Type 0 where
    pub back : (ys : List X) → AscendFrom Fits rank next ys → AscendFrom Fits rank least (xs ++ ys)
    pub on : (ys : List X) → AscendFrom Fits rank least ys → map spell ys ≡ all
        → (zs : List X) × (ys ≡ xs ++ zs) × AscendFrom Fits rank next zs × (map spell zs ≡ rest)
    pub texts : map spell xs ++ rest ≡ all

  -- the same of what an iterator has left
  abbrev pub IsReading : ℕ → List Text → Split ℕ → List X → ℕ → Type 0
  IsReading least all it xs next = (rest : List Text) × IsUnderWay least all xs next rest × IsLeft it rest

  pub starts : (least : ℕ) (all : List Text) (it : Split ℕ) → IsLeft it all → IsReading least all it [] least
  starts least all it left = (
    all,
    record {
      back = λ ys h. h;
      on = λ ys h is. (ys, refl, h, is);
      texts = refl;
    },
    left,
  )

  module _ (one : (x y : X) → Fits x → Fits y → spell x ≡ spell y → x ≡ y) (least : ℕ) (all : List Text) (xs : List X) (next : ℕ) where
    further : (part : Text) (rest : List Text) {ys : List X} (x : X) → part ≡ spell x → Fits x → (zs : List X) × (ys ≡ xs ++ zs) × AscendFrom Fits rank next zs × (map spell zs ≡ part ∷ rest)
        → (zs : List X) × (ys ≡ (xs ++ x ∷ []) ++ zs) × AscendFrom Fits rank (rank x + 1) zs × (map spell zs ≡ rest)
    further part rest x is fits ([], e, h, spelled) = absurd (cc)
    further part rest x is fits (z ∷ zs, e, h, spelled) =
        let same : z ≡ x = one z x h.0 fits (ap head_of spelled ∙ is) in
        (zs, e ∙ ap (λ (w : X). xs ++ w ∷ zs) same ∙ sym (append_assoc xs (x ∷ []) zs), subst (λ (w : X). AscendFrom Fits rank (rank w + 1) zs) same h.2, ap tail_of spelled)

    goes_on : (part : Text) (rest : List Text) → IsUnderWay least all xs next (part ∷ rest) → (x : X) → part ≡ spell x → Fits x → next ≤ rank x → IsUnderWay least all (xs ++ x ∷ []) (rank x + 1) rest
    goes_on part rest u x is fits above = record {
      back = λ ys h. subst (AscendFrom Fits rank least) (sym (append_assoc xs (x ∷ []) ys)) (u.back (x ∷ ys) (fits, above, h));
      on = λ ys h spelled. further part rest x is fits (u.on ys h spelled);
      texts = ap (λ (ts : List Text). ts ++ rest) (map-append spell xs (x ∷ [])) ∙ append_assoc (map spell xs) (spell x ∷ []) rest ∙ ap (λ (t : Text). map spell xs ++ t ∷ rest) (sym is) ∙ u.texts;
    }

    -- the next part spells an item that goes on
    pub reads_on : (it then : Split ℕ) (part : Bor Text) → IsReading least all it xs next → StepsTo it (Some part) then
        → (x : X) → part.now ≡ spell x → Fits x → next ≤ rank x → IsReading least all then (xs ++ x ∷ []) (rank x + 1)
    reads_on it then part reading step x is fits above =
        let first = first_left reading.0 it then part reading.2 step in
        (first.0, goes_on part.now first.0 (subst (IsUnderWay least all xs next) first.1 reading.1) x is fits above, first.2)

    no_item : (part : Text) (rest : List Text) {ys : List X} → ((x : X) → part ≡ spell x → Fits x → next ≤ rank x → ⊥)
        → (zs : List X) × (ys ≡ xs ++ zs) × AscendFrom Fits rank next zs × (map spell zs ≡ part ∷ rest) → ⊥
    no_item part rest none ([], e, h, spelled) = cc
    no_item part rest none (z ∷ zs, e, h, spelled) = none z (sym (ap head_of spelled)) h.0 h.1

    -- the next part spells no item that goes on
    refuses : (it then : Split ℕ) (part : Bor Text) → IsReading least all it xs next → StepsTo it (Some part) then
        → ((x : X) → part.now ≡ spell x → Fits x → next ≤ rank x → ⊥) → (ys : List X) → AscendFrom Fits rank least ys → map spell ys ≡ all → ⊥
    refuses it then part reading step none ys h spelled =
        let first = first_left reading.0 it then part reading.2 step in
        no_item part.now first.0 none ((subst (IsUnderWay least all xs next) first.1 reading.1).on ys h spelled)

    whole : {ys : List X} → (zs : List X) × (ys ≡ xs ++ zs) × AscendFrom Fits rank next zs × (map spell zs ≡ []) → ys ≡ xs
    whole ([], e, h, spelled) = e ∙ append-nil xs
    whole (z ∷ zs, e, h, spelled) = absurd (cc)

    -- no part is left
    ends : (it then : Split ℕ) → IsReading least all it xs next → StepsTo it None then
        → AscendFrom Fits rank least xs × (map spell xs ≡ all) × ((ys : List X) → AscendFrom Fits rank least ys → map spell ys ≡ all → ys ≡ xs)
    ends it then reading step =
        let u = subst (IsUnderWay least all xs next) (none_left reading.0 it then reading.2 step) reading.1 in
        (subst (AscendFrom Fits rank least) (append-nil xs) (u.back [] tt), sym (append-nil (map spell xs)) ∙ u.texts, λ ys h spelled. whole (u.on ys h spelled))

  parts_listed : (text : Text) (xs : List X) → map spell xs ≡ parts text → Lists spell text xs
  parts_listed text [] is = let some = length-slice_split (λ b. b == 44) text in absurd (omega (arith, some, ap length is))
  parts_listed text (x ∷ xs) is = sym (join_with_byte-slice_split 44 text) ∙ ap (join_with_byte 44) (sym is)

  module _ (plain : (x : X) → Fits x → HasNoComma (spell x)) where
    parts_of : (least : ℕ) (x : X) (xs : List X) → AscendFrom Fits rank least (x ∷ xs) → parts (join_with_byte 44 (map spell (x ∷ xs))) ≡ map spell (x ∷ xs)
    parts_of least x [] h = slice_split_none (λ b. b == 44) (spell x) (plain x h.0)
    parts_of least x (y ∷ ys) h = slice_split_at (λ b. b == 44) (spell x) 44 (join_with_byte 44 (map spell (y ∷ ys))) (plain x h.0) refl
        ∙ ap (λ (ts : List Text). spell x ∷ ts) (parts_of (rank x + 1) y ys h.2)

    -- the parts of a text that lists items are the texts of the items
    listed_parts : (least : ℕ) (text : Text) (xs : List X) → AscendFrom Fits rank least xs → Lists spell text xs → map spell xs ≡ parts text
    listed_parts least text [] h lists = absurd lists
    listed_parts least text (x ∷ xs) h lists = sym (ap parts lists ∙ parts_of least x xs h)

    module _ (one : (x y : X) → Fits x → Fits y → spell x ≡ spell y → x ≡ y) (least : ℕ) (text : Text) (xs : List X) (next : ℕ) (it then : Split ℕ) (reading : IsReading least (parts text) it xs next) where
      -- the next part spells no item that goes on, so the text lists none
      pub lists_none : (part : Bor Text) → StepsTo it (Some part) then → ((x : X) → part.now ≡ spell x → Fits x → next ≤ rank x → ⊥)
          → (ys : List X) → AscendFrom Fits rank least ys × Lists spell text ys → ⊥
      lists_none part step none ys has = refuses one least (parts text) xs next it then part reading step none ys has.0 (listed_parts least text ys has.0 has.1)

      -- no part is left, so the text lists the items that were read, and no others
      pub lists_these : StepsTo it None then
          → (AscendFrom Fits rank least xs × Lists spell text xs) × ((ys : List X) → AscendFrom Fits rank least ys × Lists spell text ys → ys ≡ xs)
      lists_these step =
          let done = ends one least (parts text) xs next it then reading step in
          ((done.0, parts_listed text xs done.1), λ ys has. done.2 ys has.0 (listed_parts least text ys has.0 has.1))
