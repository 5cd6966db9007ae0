-- Points and spots as the texts that spell them.
use Rattle.std.proofs.Common.{◌≡◌, ◌≢◌, ◌∙◌, ◌≤◌, ◌<◌, ◌^◌, ◌==◌, ℕ, Bool, false, refl, sym, ap, ap₂, subst, inl, inr, map, None, [], length-append, List, ◌∷◌, ◌++◌, Option, Some, length, get_or, lit<, decimal, arith}
use Rattle.std.proofs.lemmas.Bool.Decides.{nat_tests}
use Rattle.std.proofs.lemmas.Fmt.{decimal_injective, decimal_nonempty, digits_decimal}
use Rattle.std.proofs.lemmas.List.{get_or_default}
use Rattle.std.proofs.lemmas.List.Elements.{All-append, All-cons}
use Rattle.std.proofs.lemmas.List.Splits.{join_with_byte-slice_split, slice_split_at}
use Rattle.std.proofs.lemmas.Str.Pattern.{IsSplitOnceResult, split_after, split_parts}
use Rattle.std.proofs.lemmas.Str.Parse.{digit_at, numerals_by_value, tells_digits}
use Rattle.std.specs.Borrow.{Bor}
use Rattle.std.specs.Int.{IsInRange}
use Rattle.std.specs.List.{join_with_byte, slice_split}
use Rattle.std.specs.Prelude.{All, MatchOption}
use Rattle.pot_options.specs.Options.{IsUnhyphened, Text}
use Rattle.pot_words.specs.Answers.{IsOnly}
use Rattle.pot_words.specs.Lists.{AscendFrom, HasPoints, HasSpots, IsSpot, Lists, spot_rank, spot_text}
use Rattle.pot_words.specs.declared.spot.Spot.{Spot}
use Rattle.pot_words.proofs.ListLemmas.{HasNoComma}
use Rattle.pot_words.proofs.NumberLemmas.{one_text}
use Rattle.pot_words.proofs.ValueLemmas.{IsUnhyphenedAt, unhyphened_decimal}

-- a text is cut at its first dot in one way
one_cut : (a b x y : Text) → All (λ c. (c == 46) ≡ false) a → All (λ c. (c == 46) ≡ false) b → a ++ 46 ∷ x ≡ b ++ 46 ∷ y → (a ≡ b) × (x ≡ y)
one_cut a b x y p q e =
    let cuts : a ∷ slice_split (λ c. c == 46) x ≡ b ∷ slice_split (λ c. c == 46) y =
    sym (slice_split_at (λ c. c == 46) a 46 x p refl) ∙ ap (slice_split (λ c. c == 46)) e ∙ slice_split_at (λ c. c == 46) b 46 y q refl in
    let later : slice_split (λ c. c == 46) x ≡ slice_split (λ c. c == 46) y = cc in
    (cc, sym (join_with_byte-slice_split 46 x) ∙ ap (join_with_byte 46) later ∙ join_with_byte-slice_split 46 y)

-- no byte below the digits stands in a number
pub decimal_without : (byte n : ℕ) → byte < 48 → n < 2 ^ 64 → All (λ b. (b == byte) ≡ false) (decimal n)
decimal_without byte n low small k d lt =
    let range : IsInRange 48 57 (get_or (decimal n) k 0) = digit_at (decimal n) k (digits_decimal (numerals_by_value _ tells_digits) n small) lt in
    let same = get_or_default (decimal n) k d 0 lt in
    go (get_or (decimal n) k d == byte) (omega (arith, range, same))
  where
    go : (b : Bool) → byte < get_or (decimal n) k d → (get_or (decimal n) k d == byte) ≡ false
    go b above = grind (arith, nat_tests)

module _ (most : ℕ) (small : most < 2 ^ 64) where
  pub one_point : (x y : ℕ) → x ≤ most → y ≤ most → decimal x ≡ decimal y → x ≡ y
  one_point x y a b = decimal_injective x y (omega arith) (omega arith)

  pub plain_point : (x : ℕ) → x ≤ most → HasNoComma (decimal x)
  plain_point x a = decimal_without 44 x (omega arith) (omega arith)

no_dot : (n : ℕ) → n < 2 ^ 64 → (i : ℕ) → i < length (decimal n) → get_or (decimal n) i 0 ≢ 46
no_dot n small i lt is =
    let range : IsInRange 48 57 (get_or (decimal n) i 0) = digit_at (decimal n) i (digits_decimal (numerals_by_value _ tells_digits) n small) lt in
    omega (arith, range, is)

-- the parts round the first dot of a spot's text are its numbers
pub spot_parts : (text : Text) (r : Option (Bor Text × Bor Text)) → IsSplitOnceResult 46 text r → (s : Spot) → IsSpot s → text ≡ spot_text s
    → MatchOption r ⊥ (λ x. (x.0.now ≡ decimal s.group) × (x.1.now ≡ decimal s.column))
spot_parts text r split s fits is = split_after 46 text (decimal s.group) (decimal s.column) r split (lit< tt) is (no_dot s.group (omega (arith, fits.0)))

-- a spot with these numbers
abbrev spot_at : ℕ → ℕ → Spot
spot_at group column = record { group = group; column = column }

-- the spot whose numbers stand round the first dot
pub is_spot : (text : Text) (parts : Bor Text × Bor Text) (group column : ℕ) → IsSplitOnceResult 46 text (Some parts) → group ≤ 15 → column ≤ 17
    → parts.0.now ≡ decimal group → parts.1.now ≡ decimal column → IsOnly (λ (s : Spot). IsSpot s × (text ≡ spot_text s)) (Some (record { group = group; column = column }))
is_spot text parts group column split g c first second =
    let cut = split_parts 46 text (Some parts) split (lit< tt) in (
      ((g, c), cut.0 ∙ ap₂ (λ (a b : Text). a ++ 46 ∷ b) first second),
      λ s has.
          let p = spot_parts text (Some parts) split s has.0 has.1 in
          ap₂ spot_at (decimal_injective s.group group (omega (arith, has.0.0)) (omega (arith, g)) (sym p.0 ∙ first))
          (decimal_injective s.column column (omega (arith, has.0.1)) (omega (arith, c)) (sym p.1 ∙ second)),
    )

-- the first part of a text is the number of the group
pub one_spot : (s t : Spot) → IsSpot s → IsSpot t → spot_text s ≡ spot_text t → s ≡ t
one_spot s t a b same =
    let cut = one_cut (decimal s.group) (decimal t.group) (decimal s.column) (decimal t.column) (decimal_without 46 s.group (omega arith) (omega (arith, a.0))) (decimal_without 46 t.group (omega arith) (omega (arith, b.0))) same in
    ap₂ spot_at (decimal_injective s.group t.group (omega (arith, a.0)) (omega (arith, b.0)) cut.0)
    (decimal_injective s.column t.column (omega (arith, a.1)) (omega (arith, b.1)) cut.1)

pub plain_spot : (s : Spot) → IsSpot s → HasNoComma (spot_text s)
plain_spot s fits = All-append (λ b. (b == 44) ≡ false) (decimal s.group) (46 ∷ decimal s.column) (decimal_without 44 s.group (omega arith) (omega (arith, fits.0)))
    (All-cons (λ b. (b == 44) ≡ false) 46 (decimal s.column) refl (decimal_without 44 s.column (omega arith) (omega (arith, fits.1))))

unhyphened_append : (a b : Text) → 0 < length a → IsUnhyphened a → IsUnhyphened (a ++ b)
unhyphened_append [] b some is = absurd (omega arith)
unhyphened_append (c ∷ cs) b some is = is

module _ {X : Type 0} (spell : X → Text) (Fits : X → Type 0) (rank : X → ℕ) (plain : (x : X) → Fits x → (0 < length (spell x)) × IsUnhyphened (spell x)) where
  first_unhyphened : (x : X) (xs : List X) → Fits x → IsUnhyphened (join_with_byte 44 (map spell (x ∷ xs)))
  first_unhyphened x [] fits = (plain x fits).1
  first_unhyphened x (y ∷ ys) fits = unhyphened_append (spell x) (44 ∷ join_with_byte 44 (map spell (y ∷ ys))) (plain x fits).0 (plain x fits).1

  list_unhyphened : (least : ℕ) (text : Text) (xs : List X) → AscendFrom Fits rank least xs → Lists spell text xs → IsUnhyphened text
  list_unhyphened least text [] h lists = absurd lists
  list_unhyphened least text (x ∷ xs) h lists = subst IsUnhyphened (sym lists) (first_unhyphened x xs h.0)

module _ (value : Text → Option Text) (name : Text) where
  pub unhyphened_points : (most : ℕ) (points : List ℕ) → most < 2 ^ 64 → HasPoints value name most points → IsUnhyphenedAt value name
  unhyphened_points most points small (inl left_out) v is = let bad : None ≡ Some v = sym left_out.0 ∙ is in absurd (cc)
  unhyphened_points most points small (inr (text, given, ascend, lists)) v is =
      subst IsUnhyphened (one_text (value name) text v given is)
      (list_unhyphened decimal (λ p. p ≤ most) (λ p. p) (λ p fits. (decimal_nonempty p (omega arith), unhyphened_decimal p (omega arith))) 1 text points ascend lists)

  pub unhyphened_spots : (spots : List Spot) → HasSpots value name spots → IsUnhyphenedAt value name
  unhyphened_spots spots (text, given, ascend, lists) v is =
      subst IsUnhyphened (one_text (value name) text v given is)
      (list_unhyphened spot_text IsSpot spot_rank (λ s fits. spot_plain s fits) 0 text spots ascend lists)
    where
      spot_plain : (s : Spot) → IsSpot s → (0 < length (spot_text s)) × IsUnhyphened (spot_text s)
      spot_plain s fits =
          let some = decimal_nonempty s.group (omega (arith, fits.0)) in
          (omega (arith, some, length-append (decimal s.group) (46 ∷ decimal s.column)), unhyphened_append (decimal s.group) (46 ∷ decimal s.column) some (unhyphened_decimal s.group (omega (arith, fits.0))))
