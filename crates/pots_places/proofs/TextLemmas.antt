-- Texts of places: a text begins with the line of one place at most, and names one list.
use Rattle.std.proofs.Common.{◌≡◌, ◌≢◌, ℕ, true, List, [], ◌∷◌, ◌++◌, length, get_or, refl, sym, ap, ◌∙◌, subst, arith}
use Rattle.std.specs.Prelude.{All, codes, flat_map, not, nat_eq, drop, take}
use Rattle.std.specs.Prelude.{◌==◌, Bool, false}
use Rattle.std.specs.List.{list_all}
use Rattle.std.specs.Cmp.Lexicographic.{pointwise}
use Rattle.std.proofs.lemmas.Bool.{true≢false, false≢true}
use Rattle.std.proofs.lemmas.Bool.Decides.{Decides-eqb}
use Rattle.std.proofs.lemmas.Slice.Eq.{slice_eq-Decides}
use Rattle.std.proofs.lemmas.List.Sums.{AllPass-from_list_all}
use Rattle.std.proofs.lemmas.List.{append_assoc, append-nil, take-append-drop}
use Rattle.std.proofs.lemmas.List.Concat.{flat_map-cons}
use Rattle.std.proofs.lemmas.List.Elements.{All-head, All-tail, All-append}
use Rattle.pot_bytes.specs.Names.{is_name_byte}
use Rattle.pots_places.specs.Places.{IsPlaceName, ArePlaces, BeginsWith, BeginsWithNone, CutsLine, NamesNone, NamesPlaces, head, line, tail}

-- the byte stands nowhere in the list
abbrev pub Without : ℕ → List ℕ → Type 0
Without byte bytes = All (λ b. b ≢ byte) bytes

heads : (a b : ℕ) (x y : List ℕ) → a ∷ x ≡ b ∷ y → a ≡ b
heads a b x y e = cc

tails : (a b : ℕ) (x y : List ℕ) → a ∷ x ≡ b ∷ y → x ≡ y
tails a b x y e = cc

-- a list is cut at the first of a byte in one way
one_cut : (byte : ℕ) (a b x y : List ℕ) → Without byte a → Without byte b → a ++ byte ∷ x ≡ b ++ byte ∷ y → (a ≡ b) × (x ≡ y)
one_cut byte [] [] x y p q e = (refl, tails byte byte x y e)
one_cut byte [] (h ∷ b) x y p q e = absurd (q 0 0 (omega arith) (sym (heads byte h x (b ++ byte ∷ y) e)))
one_cut byte (h ∷ a) [] x y p q e = absurd (p 0 0 (omega arith) (heads h byte (a ++ byte ∷ x) y e))
one_cut byte (h ∷ a) (k ∷ b) x y p q e =
    let t = one_cut byte a b x y (All-tail (λ b. b ≢ byte) h a p) (All-tail (λ b. b ≢ byte) k b q) (tails h k (a ++ byte ∷ x) (b ++ byte ∷ y) e) in
    let hs : h ≡ k = heads h k (a ++ byte ∷ x) (b ++ byte ∷ y) e in
    (ap (λ (c : ℕ). c ∷ a) hs ∙ ap (λ (l : List ℕ). k ∷ l) t.0, t.1)

-- what stands before the end of a line of a place
abbrev front : List ℕ → List ℕ
front name = codes "place " ++ name

name-without : (name : List ℕ) → IsPlaceName name → Without 10 name
name-without name is k d lt e = true≢false (sym (is.name.each k d lt) ∙ ap is_name_byte e ∙ refl)

tested : (bytes : List ℕ) → list_all (λ b. not (nat_eq b 10)) bytes ≡ true → Without 10 bytes
tested bytes h k d lt e =
    let passes : not (nat_eq (get_or bytes k d) 10) ≡ true = AllPass-from_list_all (λ b. not (nat_eq b 10)) bytes h k d lt in
    true≢false (sym passes ∙ ap (λ (b : ℕ). not (nat_eq b 10)) e)

front-without : (name : List ℕ) → IsPlaceName name → Without 10 (front name)
front-without name is = All-append (λ b. b ≢ 10) (codes "place ") name (tested (codes "place ") refl) (name-without name is)

-- a line and what is behind it, with the end of the line in sight
line_ends : (name behind : List ℕ) → line name ++ behind ≡ front name ++ 10 ∷ behind
line_ends name behind = append_assoc (front name) (10 ∷ []) behind

same_names : (m n : List ℕ) → front m ≡ front n → m ≡ n
same_names m n e = cc

-- a text begins with the line of one place at most
pub one_line : (m n x y : List ℕ) → IsPlaceName m → IsPlaceName n → line m ++ x ≡ line n ++ y → (m ≡ n) × (x ≡ y)
one_line m n x y p q e =
    let parts = one_cut 10 (front m) (front n) x y (front-without m p) (front-without n q) (sym (line_ends m x) ∙ e ∙ line_ends n y) in
    (same_names m n parts.0, parts.1)

-- a text without LF begins with no line
not_without : (front back : List ℕ) → Without 10 (front ++ 10 ∷ back) → ⊥
not_without [] back h = h 0 0 (omega arith) refl
not_without (b ∷ front) back h = not_without front back (All-tail (λ b. b ≢ 10) b (front ++ 10 ∷ back) h)

pub none_without : (text : List ℕ) → Without 10 text → BeginsWithNone text
none_without text none name behind b =
    not_without (front name) behind (subst (Without 10) (b.whole ∙ line_ends name behind) none)

-- equal as lists where they test equal, and the other way round
pub are_same : (a b : List ℕ) (r : Bool) → r ≡ pointwise ◌==◌ a b → r ≡ true → a ≡ b
are_same a b r e f = (slice_eq-Decides Decides-eqb a b r e).0 f

pub differ : (a b : List ℕ) (r : Bool) → r ≡ pointwise ◌==◌ a b → r ≡ false → a ≢ b
differ a b r e f same = false≢true (sym f ∙ (slice_eq-Decides Decides-eqb a b r e).1 same)

-- a text that has this front
pub with_front : (text begin rest : List ℕ) → pointwise ◌==◌ (take (length begin) text) begin ≡ true → rest ≡ drop (length begin) text → text ≡ begin ++ rest
with_front text begin rest same is =
    sym (take-append-drop (length begin) text)
    ∙ ap (λ (l : List ℕ). l ++ drop (length begin) text) (are_same (take (length begin) text) begin (pointwise ◌==◌ (take (length begin) text) begin) refl same)
    ∙ ap (λ (l : List ℕ). begin ++ l) (sym is)

-- the line that was cut off tells the name
pub one_name : (text fr behind word name after : List ℕ) → CutsLine text fr behind → fr ≡ codes "place " ++ word → BeginsWith text name after → name ≡ word
one_name text fr behind word name after cut is b =
    let parts = one_cut 10 (front name) fr after behind (front-without name b.is) cut.first (sym (line_ends name after) ∙ sym b.whole ∙ cut.whole) in
    same_names name word (parts.0 ∙ is)

pub no_name : (text fr behind word : List ℕ) → CutsLine text fr behind → fr ≡ codes "place " ++ word → (IsPlaceName word → ⊥) → BeginsWithNone text
no_name text fr behind word cut is other name after b =
    other (subst IsPlaceName (one_name text fr behind word name after cut is b) b.is)

pub this_name : (text fr behind word name : List ℕ) → CutsLine text fr behind → fr ≡ codes "place " ++ word → name ≡ word → IsPlaceName name → BeginsWith text name behind
this_name text fr behind word name cut is same named = record {
  is = named;
  whole = cut.whole ∙ ap (λ (l : List ℕ). l ++ 10 ∷ behind) (is ∙ ap (λ (w : List ℕ). codes "place " ++ w) (sym same)) ∙ sym (line_ends name behind);
}

-- a line is no end of a text
no_end : (name x : List ℕ) → line name ++ x ≡ tail → ⊥
no_end name x e = cc

-- the lines of places that were read stand at the front of the lines of all
pub record Others (names all : List (List ℕ)) (left : List ℕ) : Type 0 where
  pub more : List (List ℕ)
  pub all_are : all ≡ names ++ more
  pub left_is : left ≡ flat_map line more ++ tail
  pub each : All IsPlaceName more

-- the first of some lines, with all that is behind it
line_first : (name : List ℕ) (names : List (List ℕ)) (behind : List ℕ) → flat_map line (name ∷ names) ++ behind ≡ line name ++ (flat_map line names ++ behind)
line_first name names behind =
    ap (λ (l : List ℕ). l ++ behind) (flat_map-cons line name names) ∙ append_assoc (line name) (flat_map line names) behind

-- one place more was read
others_more : (n m : List ℕ) (names all : List (List ℕ)) (left : List ℕ) → n ≡ m → Others names all left → Others (n ∷ names) (m ∷ all) left
others_more n m names all left e o = record {
  more = o.more;
  all_are = ap (λ (x : List ℕ). x ∷ all) (sym e) ∙ ap (λ (xs : List (List ℕ)). n ∷ xs) o.all_are;
  left_is = o.left_is;
  each = o.each;
}

strip : (names all : List (List ℕ)) (left : List ℕ) → All IsPlaceName names → All IsPlaceName all → flat_map line names ++ left ≡ flat_map line all ++ tail → Others names all left
strip [] all left p q e = record { more = all; all_are = refl; left_is = e; each = q }
strip (n ∷ names) [] left p q e = absurd (no_end n (flat_map line names ++ left) (sym (line_first n names left) ∙ e))
strip (n ∷ names) (m ∷ all) left p q e =
    let parts = one_line n m (flat_map line names ++ left) (flat_map line all ++ tail) (All-head IsPlaceName n names p) (All-head IsPlaceName m all q)
    (sym (line_first n names left) ∙ e ∙ line_first m all tail) in
    others_more n m names all left parts.0 (strip names all left (All-tail IsPlaceName n names p) (All-tail IsPlaceName m all q) parts.1)

-- the head stands before all lines, and says nothing of them
behind_head : (x y left : List ℕ) → (head ++ x) ++ left ≡ (head ++ y) ++ tail → x ++ left ≡ y ++ tail
behind_head x y left e = cc

-- what is still to be read of a text of these places
pub others : (text left : List ℕ) (names all : List (List ℕ)) → text ≡ (head ++ flat_map line names) ++ left → All IsPlaceName names → NamesPlaces text all → Others names all left
others text left names all e p is =
    strip names all left p is.are.each (behind_head (flat_map line names) (flat_map line all) left (sym e ∙ is.text_is))

none_begins : (left : List ℕ) (more : List (List ℕ)) → left ≡ flat_map line more ++ tail → All IsPlaceName more → left ≢ tail → BeginsWithNone left → ⊥
none_begins left [] e p other none = other e
none_begins left (m ∷ more) e p other none =
    none m (flat_map line more ++ tail) (record { is = All-head IsPlaceName m more p; whole = e ∙ line_first m more tail })

-- where the next line names no place and is not the last one, the text names none
pub names_none : (text left : List ℕ) (names : List (List ℕ)) → text ≡ (head ++ flat_map line names) ++ left → All IsPlaceName names → left ≢ tail → BeginsWithNone left → NamesNone text
names_none text left names e p other none = λ all is.
    let o = others text left names all e p is in
    none_begins left o.more o.left_is o.each other none

no_more : (more : List (List ℕ)) → tail ≡ flat_map line more ++ tail → more ≡ []
no_more [] e = refl
no_more (m ∷ more) e = absurd (no_end m (flat_map line more ++ tail) (sym (e ∙ line_first m more tail)))

-- where all lines were read, the text names just these places
pub names_these : (text : List ℕ) (names all : List (List ℕ)) → text ≡ (head ++ flat_map line names) ++ tail → All IsPlaceName names → NamesPlaces text all → all ≡ names
names_these text names all e p is =
    let o = others text tail names all e p is in
    o.all_are ∙ ap (λ (xs : List (List ℕ)). names ++ xs) (no_more o.more o.left_is) ∙ append-nil names

-- where all lines were read, and the names are those of no vault, the text names none
pub not_these : (text left : List ℕ) (names given : List (List ℕ)) (r : Bool) → text ≡ (head ++ flat_map line names) ++ left → All IsPlaceName names → left ≡ tail → given ≡ names → (ArePlaces given → r ≡ true) → r ≡ false → NamesNone text
not_these text left names given r e p last are test fails = λ all is.
    let same = names_these text names all (e ∙ ap (λ (l : List ℕ). (head ++ flat_map line names) ++ l) last) p is in
    true≢false (sym (test (subst ArePlaces (same ∙ sym are) is.are)) ∙ fails)
