-- The bytes of a name.
use Rattle.std.proofs.Common.{◌≡◌, ◌⊎◌, inl, inr, ◌≤◌, ◌<◌, ℕ, ◌&&◌, nat_le, Bool, true, false, cond, List, length, take, drop, Result, Ok, Err, ap, ap₂, sym, ◌∙◌, arith, subst}
use Rattle.std.specs.List.{list_all}
use Rattle.std.proofs.lemmas.List.{length-take-le}
use Rattle.std.proofs.lemmas.List.Sums.{AllPass-from_list_all, list_all-from_AllPass}
use Rattle.std.proofs.lemmas.Bool.{le-leb, cases_Bool}
use Rattle.std.proofs.lemmas.Bool.Decides.{nat_tests}
use Rattle.pot_bytes.specs.Names.{IsName, is_name_byte}
use Rattle.pot_image.specs.Reading.{reading}
use Rattle.pot_image.specs.Numbers.{text}

-- so many bytes whose test comes out so
text_by : (count : ℕ) (bytes : List ℕ) (rule : List ℕ → Bool) (b : Bool) → count ≤ length bytes → rule (take count bytes) ≡ b
    → reading (text count rule) bytes ≡ cond {A = Result (List ℕ × List ℕ) ℕ} b (Ok (take count bytes, drop count bytes)) (Err (length bytes))
unfolding reading text
text_by count bytes rule b l e = ap (λ v. cond {A = Result (List ℕ × List ℕ) ℕ} v (Ok (take count bytes, drop count bytes)) (Err (length bytes))) (ap₂ (λ x y. x && y) (le-leb _ _ l) e)

pub no_name : (count size : ℕ) (bytes field : List ℕ) → size ≡ count → 1 ≤ count → count ≤ 64 → size ≤ length bytes → field ≡ take size bytes → (IsName field → ⊥)
    → reading (text count (list_all is_name_byte)) bytes ≡ Err (length bytes)
no_name count size bytes field e some few l f none = text_by count bytes (list_all is_name_byte) false (omega (arith, e, l)) (by_test (cases_Bool (list_all is_name_byte (take count bytes))))
  where
    by_test : ((list_all is_name_byte (take count bytes) ≡ true) ⊎ (list_all is_name_byte (take count bytes) ≡ false)) → list_all is_name_byte (take count bytes) ≡ false
    by_test (inr h) = h
    by_test (inl h) = absurd (none (subst IsName (sym (f ∙ ap (λ n. take n bytes) e)) (let size : length (take count bytes) ≡ count = length-take-le count bytes (omega (arith, e, l)) in
        record { some = omega (arith, size, some); few = omega (arith, size, few); each = AllPass-from_list_all is_name_byte (take count bytes) h })))

pub a_name : (count size : ℕ) (bytes field name : List ℕ) → size ≡ count → size ≤ length bytes → field ≡ take size bytes → (name ≡ field) × IsName field
    → reading (text count (list_all is_name_byte)) bytes ≡ Ok (name, drop count bytes)
a_name count size bytes field name e l f h =
    text_by count bytes (list_all is_name_byte) true (omega (arith, e, l)) (ap (list_all is_name_byte) (ap (λ n. take n bytes) (sym e) ∙ sym f) ∙ list_all-from_AllPass is_name_byte field h.1.each)
    ∙ ap (λ x. pair x) (ap (λ n. take n bytes) (sym e) ∙ sym f ∙ sym h.0)
  where
    pair : List ℕ → Result (List ℕ × List ℕ) ℕ
    pair x = Ok (x, drop count bytes)

pub cut_name : (count size : ℕ) (bytes : List ℕ) (rule : List ℕ → Bool) → size ≡ count → length bytes < size → reading (text count rule) bytes ≡ Err (length bytes)
unfolding reading text
cut_name count size bytes rule e l = (let above : nat_le count (length bytes) ≡ false = lt_leb (omega (arith, e, l)) in ap (λ v. cond {A = Result (List ℕ × List ℕ) ℕ} (v && rule (take count bytes)) (Ok (take count bytes, drop count bytes)) (Err (length bytes))) above)
  where
    lt_leb : length bytes < count → nat_le count (length bytes) ≡ false
    lt_leb h = grind (arith, nat_tests)
