-- Text as a page of HTML has it, and back.
use Rattle.std.proofs.Common.{◌≡◌, ◌≢◌, ◌⊎◌, inl, inr, zero, suc, subst, ◌∷◌, ◌++◌, ◌&&◌, ◌||◌, not, ◌==◌, [], ℕ, List, refl, ap, ap₂, sym, ◌∙◌, if◌then◌else◌, Bool, true, false, arith}
use Rattle.std.specs.List.{flat_map, Contains}
use Rattle.std.proofs.lemmas.Bool.Decides.{nat_tests}
use Rattle.std.proofs.lemmas.Grind.{flat_map-append}
use Rattle.std.proofs.lemmas.List.{append-nil, append_cancel_left}
use Rattle.std.proofs.lemmas.Bool.{and_parts, cases_eq, false≢true, ne_eqb}
use Rattle.pot_bytes.proofs.Elements.{contains_later, none_contained}
use Rattle.pot_looks.specs.Escapes.{escaped, spelled}

pub escaped_none : escaped [] ≡ []
unfolding escaped
escaped_none = refl

pub escaped_first : (b : ℕ) (text : List ℕ) → escaped (b ∷ text) ≡ spelled b ++ escaped text
unfolding escaped
escaped_first b text = refl

pub escaped_more : (text : List ℕ) (b : ℕ) → escaped (text ++ b ∷ []) ≡ escaped text ++ spelled b
unfolding escaped
escaped_more text b = flat_map-append spelled text (b ∷ []) ∙ ap (λ (z : List ℕ). flat_map spelled text ++ z) (append-nil (spelled b))

-- which byte stands first in what is escaped
abbrev first : List ℕ → ℕ
first [] = 0
first (b ∷ []) = b
first (b ∷ c ∷ rest) =
    if b == 38 then (if c == 97 then 38 else if c == 108 then 60 else if c == 103 then 62 else 34) else b

-- one of the four marks, or a byte that is spelled as it is
record IsPlain (b : ℕ) : Type 0 where
  pub as_it_is : spelled b ≡ b ∷ []
  pub no_and : b ≢ 38
  pub no_less : b ≢ 60
  pub no_greater : b ≢ 62
  pub no_quote : b ≢ 34

kind : (b : ℕ) → (b ≡ 38) ⊎ ((b ≡ 60) ⊎ ((b ≡ 62) ⊎ ((b ≡ 34) ⊎ IsPlain b)))
kind b = elim (cases_eq b 38) [
  | inl e ↦ inl e
  | inr n1 ↦ elim (cases_eq b 60) [
    | inl e ↦ inr (inl e)
    | inr n2 ↦ elim (cases_eq b 62) [
      | inl e ↦ inr (inr (inl e))
      | inr n3 ↦ elim (cases_eq b 34) [
        | inl e ↦ inr (inr (inr (inl e)))
        | inr n4 ↦ inr (inr (inr (inr (record {
          as_it_is = rw (ne_eqb b 38 n1, ne_eqb b 60 n2, ne_eqb b 62 n3, ne_eqb b 34 n4) refl;
          no_and = n1;
          no_less = n2;
          no_greater = n3;
          no_quote = n4;
        }))))
      ]
    ]
  ]
]

first_plain : (b : ℕ) (rest : List ℕ) → b ≢ 38 → first (b ∷ rest) ≡ b
first_plain b [] n = refl
first_plain b (c ∷ rest) n = rw (ne_eqb b 38 n) refl

first_of : (b : ℕ) (rest : List ℕ) → first (spelled b ++ rest) ≡ b
first_of b rest = elim (kind b) [
  | inl e ↦ subst (λ (z : ℕ). first (spelled z ++ rest) ≡ z) (sym e) refl
  | inr (inl e) ↦ subst (λ (z : ℕ). first (spelled z ++ rest) ≡ z) (sym e) refl
  | inr (inr (inl e)) ↦ subst (λ (z : ℕ). first (spelled z ++ rest) ≡ z) (sym e) refl
  | inr (inr (inr (inl e))) ↦ subst (λ (z : ℕ). first (spelled z ++ rest) ≡ z) (sym e) refl
  | inr (inr (inr (inr p))) ↦ ap (λ (z : List ℕ). first (z ++ rest)) p.as_it_is ∙ first_plain b rest p.no_and
]

some_first : (b : ℕ) (rest : List ℕ) → spelled b ++ rest ≢ []
some_first b rest h = grind (arith, nat_tests)

pub back : (text other : List ℕ) → escaped text ≡ escaped other → text ≡ other
back [] [] h = refl
back [] (b ∷ other) h = absurd (some_first b (escaped other) (sym (escaped_first b other) ∙ sym h ∙ escaped_none))
back (b ∷ text) [] h = absurd (some_first b (escaped text) (sym (escaped_first b text) ∙ h ∙ escaped_none))
back (b ∷ text) (c ∷ other) h =
    let parted : spelled b ++ escaped text ≡ spelled c ++ escaped other = sym (escaped_first b text) ∙ h ∙ escaped_first c other in
    let same : b ≡ c = sym (first_of b (escaped text)) ∙ ap first parted ∙ first_of c (escaped other) in
    let tails : escaped text ≡ escaped other =
    append_cancel_left (spelled b) (escaped text) (escaped other) (parted ∙ ap (λ (z : ℕ). spelled z ++ escaped other) (sym same)) in
    ap₂ (λ (x : ℕ) (xs : List ℕ). x ∷ xs) same (back text other tails)

-- no byte of what one is spelled as is one of the marks
in_either : {X : Type 0} (xs ys : List X) (z : X) → Contains (xs ++ ys) z → Contains xs z ⊎ Contains ys z
in_either [] ys z h = inr h
in_either (x ∷ xs) ys z (zero, lt, is) = inl (0, omega arith, is)
in_either (x ∷ xs) ys z (suc k, lt, is) = elim (in_either xs ys z (k, omega (arith, lt), is)) [
  | inl h ↦ inl (contains_later x z xs h)
  | inr h ↦ inr h
]

abbrev pub is_mark : ℕ → Bool
is_mark m = m == 60 || (m == 62 || m == 34)

abbrev clean : List ℕ → Bool
clean [] = true
clean (x ∷ xs) = not (is_mark x) && clean xs

not_in : (xs : List ℕ) (m : ℕ) → clean xs ≡ true → is_mark m ≡ true → ¬ Contains xs m
not_in [] m c mark h = none_contained m h
not_in (x ∷ xs) m c mark (zero, lt, is) =
    let e : not (is_mark m) && clean xs ≡ true = ap (λ (z : ℕ). not (is_mark z) && clean xs) (sym is) ∙ c in
    let f : false ≡ true = ap (λ (z : Bool). not z && clean xs) (sym mark) ∙ e in
    false≢true f
not_in (x ∷ xs) m c mark (suc k, lt, is) = not_in xs m (and_parts (not (is_mark x)) (clean xs) c).1 mark (k, omega (arith, lt), is)

clean_spelled : (b : ℕ) → clean (spelled b) ≡ true
clean_spelled b = elim (kind b) [
  | inl e ↦ subst (λ (z : ℕ). clean (spelled z) ≡ true) (sym e) refl
  | inr (inl e) ↦ subst (λ (z : ℕ). clean (spelled z) ≡ true) (sym e) refl
  | inr (inr (inl e)) ↦ subst (λ (z : ℕ). clean (spelled z) ≡ true) (sym e) refl
  | inr (inr (inr (inl e))) ↦ subst (λ (z : ℕ). clean (spelled z) ≡ true) (sym e) refl
  | inr (inr (inr (inr p))) ↦
      ap clean p.as_it_is ∙ (rw (ne_eqb b 60 p.no_less, ne_eqb b 62 p.no_greater, ne_eqb b 34 p.no_quote) refl)
]

pub not_in_escaped : (m : ℕ) → is_mark m ≡ true → (text : List ℕ) → ¬ Contains (escaped text) m
not_in_escaped m mark [] h = none_contained m (subst (λ (z : List ℕ). Contains z m) escaped_none h)
not_in_escaped m mark (b ∷ text) h = elim (in_either (spelled b) (escaped text) m (subst (λ (z : List ℕ). Contains z m) (escaped_first b text) h)) [
  | inl here ↦ not_in (spelled b) m (clean_spelled b) mark here
  | inr later ↦ not_in_escaped m mark text later
]
