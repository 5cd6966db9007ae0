-- The text of a catalog: how it is made, and that it tells one list of lines.
use Rattle.std.proofs.Common.{◌≡◌, ◌≢◌, ◌/◌, ◌%◌, ◌<◌, ◌≤◌, ◌^◌, ℕ, suc, Bool, true, false, List, [], ◌∷◌, ◌++◌, length, get_or, take, Option, Some, None, Result, Ok, refl, sym, ap, ◌∙◌, append_assoc, length-append, arith}
use Rattle.std.specs.Prelude.{All, IfSome, codes, decimal, flat_map, nat_le}
use Rattle.std.specs.List.{list_all}
use Rattle.std.specs.Str.Parse.{AllDigits, digits_value}
use Rattle.std.proofs.Math.Seq.{take-length, take-append_seam}
use Rattle.std.proofs.lemmas.Bool.{true≢false, leb-true}
use Rattle.std.proofs.lemmas.Fmt.{decimal_injective, decimal_nonempty, digits_decimal}
use Rattle.std.proofs.lemmas.List.{append_cancel_left, get_or_default}
use Rattle.std.proofs.lemmas.List.Concat.{flat_map-cons}
use Rattle.std.proofs.lemmas.List.Elements.{All-nil, All-cons, All-head, All-tail}
use Rattle.std.proofs.lemmas.List.Sums.{AllPass-from_list_all}
use Rattle.std.proofs.lemmas.Str.Parse.{IsNumeralModel, digit_at, numerals_by_value, tells_digits}
use Rattle.hex.specs.Hex.{IsBytes, decode_of, encode_lower, encode_with, lower_digits}
use Rattle.hex.specs.declared.error.FromHexError.{FromHexError}
use Rattle.hex.proofs.HexLemmas.{decode_of-encode_lower, length-encode_with}
use Rattle.pot_bytes.specs.Digests.{digest_bytes}
use Rattle.pot_bytes.specs.Names.{IsName, is_name_byte}
use Rattle.pot_bytes.specs.declared.digest.Digest.{Digest}
use Rattle.pot_bytes.proofs.DigestLemmas.{length-digest_bytes}
use Rattle.pots_racks.specs.declared.catalog.Listed.{Listed}
use Rattle.pots_racks.specs.declared.catalog.RackDesk.{RackDesk}
use Rattle.pots_racks.specs.declared.catalog.Line.{Line}
use Rattle.pots_racks.specs.declared.catalog.Line.TheVariants.{OfRack, OfFile}
use Rattle.pots_racks.specs.Catalog.{IsCatalogLine, IsListedFile, IsRackDesk, TellsOne, body, catalog_text, file_line, flag, head, line_text, rack_line, size, sum_line}

-- HOW IT IS MADE

body_is : (lines : List Line) → body lines ≡ head ++ flat_map line_text lines
unfolding body
body_is lines = refl

catalog_is : (lines : List Line) → catalog_text lines ≡ body lines ++ sum_line (digest_bytes (body lines))
unfolding catalog_text
catalog_is lines = refl

take_all : (lines : List Line) (i : ℕ) → i ≡ length lines → take i lines ≡ lines
take_all lines i e = ap (λ (n : ℕ). take n lines) e ∙ take-length lines

-- what stands behind all lines is the sum of them
pub made : (lines : List Line) (i : ℕ) (text digest whole : List ℕ) → i ≡ length lines → text ≡ head ++ flat_map line_text (take i lines) → digest ≡ digest_bytes text → whole ≡ text ++ sum_line digest → whole ≡ catalog_text lines
made lines i text digest whole end so_far sum grown =
    let all : text ≡ body lines = so_far ∙ ap (λ (l : List Line). head ++ flat_map line_text l) (take_all lines i end) ∙ sym (body_is lines) in
    grown ∙ ap (λ (d : List ℕ). text ++ sum_line d) sum ∙ ap (λ (t : List ℕ). t ++ sum_line (digest_bytes t)) all ∙ sym (catalog_is lines)

-- WHAT STANDS IN NO FIELD

abbrev Without : ℕ → List ℕ → Type 0
Without byte bytes = All (λ b. b ≢ byte) bytes

heads : (a b : ℕ) (x y : List ℕ) → a ∷ x ≡ b ∷ y → a ≡ b
heads a b x y e = cc

tails : (a b : ℕ) (x y : List ℕ) → a ∷ x ≡ b ∷ y → x ≡ y
tails a b x y e = cc

-- a list is cut at the first of a byte in one way
one_cut : (byte : ℕ) (a b x y : List ℕ) → Without byte a → Without byte b → a ++ byte ∷ x ≡ b ++ byte ∷ y → (a ≡ b) × (x ≡ y)
one_cut byte [] [] x y p q e = (refl, tails byte byte x y e)
one_cut byte [] (h ∷ b) x y p q e = absurd (q 0 0 (omega arith) (sym (heads byte h x (b ++ byte ∷ y) e)))
one_cut byte (h ∷ a) [] x y p q e = absurd (p 0 0 (omega arith) (heads h byte (a ++ byte ∷ x) y e))
one_cut byte (h ∷ a) (k ∷ b) x y p q e =
    let t = one_cut byte a b x y (All-tail (λ b. b ≢ byte) h a p) (All-tail (λ b. b ≢ byte) k b q) (tails h k (a ++ byte ∷ x) (b ++ byte ∷ y) e) in
    let hs : h ≡ k = heads h k (a ++ byte ∷ x) (b ++ byte ∷ y) e in
    (ap (λ (c : ℕ). c ∷ a) hs ∙ ap (λ (l : List ℕ). k ∷ l) t.0, t.1)

-- digits and letters
high-without : (byte : ℕ) → byte < 48 → (bytes : List ℕ) → All (λ b. 48 ≤ b) bytes → Without byte bytes
high-without byte low bytes high k d lt e = omega (arith, high k d lt, low, e)

name-without : (name : List ℕ) → IsName name → Without 32 name
name-without name is k d lt e = true≢false (sym (is.each k d lt) ∙ ap is_name_byte e ∙ refl)

numerals : IsNumeralModel (AllDigits 10) (digits_value 10)
numerals = numerals_by_value _ tells_digits

number_high : (n : ℕ) → n < 2 ^ 64 → All (λ b. 48 ≤ b) (decimal n)
number_high n small k d lt =
    omega (arith, digit_at (decimal n) k (digits_decimal numerals n small) lt, get_or_default (decimal n) k d 0 lt)

number-without : (n : ℕ) → n < 2 ^ 64 → Without 32 (decimal n)
number-without n small = high-without 32 (omega arith) (decimal n) (number_high n small)

at_least : (bytes : List ℕ) → list_all (nat_le 48) bytes ≡ true → All (λ b. 48 ≤ b) bytes
at_least bytes h k d lt = leb-true 48 (get_or bytes k d) (AllPass-from_list_all (nat_le 48) bytes h k d lt)

hex_digit : (k : ℕ) → k < 16 → 48 ≤ get_or lower_digits k 0
hex_digit k lt = at_least lower_digits refl k 0 (omega arith)

hex_high : (bytes : List ℕ) → IsBytes bytes → All (λ b. 48 ≤ b) (encode_with lower_digits bytes)
unfolding encode_with
hex_high [] are = All-nil (λ b. 48 ≤ b)
hex_high (b ∷ rest) are =
    let small : b < 256 = are 0 in
    All-cons (λ b. 48 ≤ b) (get_or lower_digits (b / 16) 0) (get_or lower_digits (b % 16) 0 ∷ encode_with lower_digits rest) (hex_digit (b / 16) (omega arith))
    (All-cons (λ b. 48 ≤ b) (get_or lower_digits (b % 16) 0) (encode_with lower_digits rest) (hex_digit (b % 16) (omega arith)) (hex_high rest (λ i. are (suc i))))

digest-without : (bytes : List ℕ) → IsBytes bytes → Without 10 (encode_lower bytes)
digest-without bytes are = high-without 10 (omega arith) (encode_lower bytes) (hex_high bytes are)

size-without : (d : Option ℕ) → IfSome d (λ n. n < 2 ^ 64) → Without 32 (size d)
size-without None small = All-cons (λ b. b ≢ 32) 45 [] (λ e. omega (arith, e)) (All-nil (λ b. b ≢ 32))
size-without (Some n) small = number-without n small

-- EACH FIELD TELLS ONE VALUE

dash : (n : ℕ) → n < 2 ^ 64 → 45 ∷ [] ≡ decimal n → ⊥
dash n small e =
    omega (arith, number_high n small 0 0 (decimal_nonempty n small), ap (λ (l : List ℕ). get_or l 0 0) e)

one_size : (d e : Option ℕ) → IfSome d (λ n. n < 2 ^ 64) → IfSome e (λ n. n < 2 ^ 64) → size d ≡ size e → d ≡ e
one_size None None p q same = refl
one_size None (Some n) p q same = absurd (dash n q same)
one_size (Some n) None p q same = absurd (dash n p (sym same))
one_size (Some m) (Some n) p q same = ap (λ (k : ℕ). Some k) (decimal_injective m n p q same)

one_flag : (a b : Bool) → flag a ≡ flag b → a ≡ b
one_flag true true e = refl
one_flag true false e = absurd (omega (arith, e))
one_flag false true e = absurd (omega (arith, e))
one_flag false false e = refl

digest_with : List ℕ → Digest
digest_with bytes = record { bytes = bytes }

digest_is : (d : Digest) → d ≡ digest_with d.bytes
unfolding digest_with
digest_is d = refl

same_Ok : (a b : List ℕ) → ◌≡◌ {A = Result (List ℕ) FromHexError} (Ok a) (Ok b) → a ≡ b
same_Ok a b e = cc

one_digest : (d f : Digest) → IsBytes d.bytes → IsBytes f.bytes → encode_lower d.bytes ≡ encode_lower f.bytes → d ≡ f
one_digest d f p q e =
    let bytes : d.bytes ≡ f.bytes = same_Ok d.bytes f.bytes (sym (decode_of-encode_lower d.bytes p) ∙ ap decode_of e ∙ decode_of-encode_lower f.bytes q) in
    digest_is d ∙ ap digest_with bytes ∙ sym (digest_is f)

-- EACH LINE TELLS ONE VALUE

-- a line, with all that is behind it
rack_spread : (r : RackDesk) (x : List ℕ) → rack_line r ++ x ≡ codes "rack " ++ (decimal r.rack ++ 32 ∷ (decimal r.generation ++ 32 ∷ (decimal r.length ++ 32 ∷ (encode_lower r.digest.bytes ++ 10 ∷ x))))
rack_spread r x = simp append_assoc

file_spread : (f : Listed) (x : List ℕ) → file_line f ++ x ≡ codes "file " ++ (f.name ++ 32 ∷ (size f.direct ++ 32 ∷ (decimal f.parts ++ 32 ∷ (decimal f.bytes ++ 32 ∷ flag f.complete ∷ 10 ∷ x))))
file_spread f x = simp append_assoc

behind_rack : (x y : List ℕ) → codes "rack " ++ x ≡ codes "rack " ++ y → x ≡ y
behind_rack x y e = cc

behind_file : (x y : List ℕ) → codes "file " ++ x ≡ codes "file " ++ y → x ≡ y
behind_file x y e = cc

apart : (x y : List ℕ) → codes "rack " ++ x ≡ codes "file " ++ y → ⊥
apart x y e = omega (arith, heads 114 102 _ _ e)

rack_with : ℕ → ℕ → ℕ → Digest → RackDesk
rack_with a b c d = record { rack = a; generation = b; length = c; digest = d }

rack_is : (r : RackDesk) → r ≡ rack_with r.rack r.generation r.length r.digest
unfolding rack_with
rack_is r = refl

file_with : List ℕ → Option ℕ → ℕ → ℕ → Bool → Listed
file_with a b c d e = record { name = a; direct = b; parts = c; bytes = d; complete = e }

file_is : (f : Listed) → f ≡ file_with f.name f.direct f.parts f.bytes f.complete
unfolding file_with
file_is f = refl

one_rack : (r s : RackDesk) (x y : List ℕ) → IsRackDesk r → IsRackDesk s → rack_line r ++ x ≡ rack_line s ++ y → (r ≡ s) × (x ≡ y)
one_rack r s x y p q e =
    let rest = behind_rack _ _ (sym (rack_spread r x) ∙ e ∙ rack_spread s y) in
    let first = one_cut 32 (decimal r.rack) (decimal s.rack) _ _ (number-without r.rack p.0) (number-without s.rack q.0) rest in
    let second = one_cut 32 (decimal r.generation) (decimal s.generation) _ _ (number-without r.generation p.1) (number-without s.generation q.1) first.1 in
    let third = one_cut 32 (decimal r.length) (decimal s.length) _ _ (number-without r.length p.2) (number-without s.length q.2) second.1 in
    let fourth = one_cut 10 (encode_lower r.digest.bytes) (encode_lower s.digest.bytes) x y (digest-without r.digest.bytes p.3.1) (digest-without s.digest.bytes q.3.1) third.1 in
    let rack : r.rack ≡ s.rack = decimal_injective r.rack s.rack p.0 q.0 first.0 in
    let generation : r.generation ≡ s.generation = decimal_injective r.generation s.generation p.1 q.1 second.0 in
    let long : r.length ≡ s.length = decimal_injective r.length s.length p.2 q.2 third.0 in
    let digest : r.digest ≡ s.digest = one_digest r.digest s.digest p.3.1 q.3.1 fourth.0 in
    let same : rack_with r.rack r.generation r.length r.digest ≡ rack_with s.rack s.generation s.length s.digest = cc in
    (rack_is r ∙ same ∙ sym (rack_is s), fourth.1)

one_file : (f g : Listed) (x y : List ℕ) → IsListedFile f → IsListedFile g → file_line f ++ x ≡ file_line g ++ y → (f ≡ g) × (x ≡ y)
one_file f g x y p q e =
    let rest = behind_file _ _ (sym (file_spread f x) ∙ e ∙ file_spread g y) in
    let first = one_cut 32 f.name g.name _ _ (name-without f.name p.0) (name-without g.name q.0) rest in
    let second = one_cut 32 (size f.direct) (size g.direct) _ _ (size-without f.direct p.1) (size-without g.direct q.1) first.1 in
    let third = one_cut 32 (decimal f.parts) (decimal g.parts) _ _ (number-without f.parts p.2) (number-without g.parts q.2) second.1 in
    let fourth = one_cut 32 (decimal f.bytes) (decimal g.bytes) _ _ (number-without f.bytes p.3) (number-without g.bytes q.3) third.1 in
    let name : f.name ≡ g.name = first.0 in
    let direct : f.direct ≡ g.direct = one_size f.direct g.direct p.1 q.1 second.0 in
    let parts : f.parts ≡ g.parts = decimal_injective f.parts g.parts p.2 q.2 third.0 in
    let bytes : f.bytes ≡ g.bytes = decimal_injective f.bytes g.bytes p.3 q.3 fourth.0 in
    let complete : f.complete ≡ g.complete = one_flag f.complete g.complete (heads (flag f.complete) (flag g.complete) (10 ∷ x) (10 ∷ y) fourth.1) in
    let behind : x ≡ y = tails 10 10 x y (tails (flag f.complete) (flag g.complete) (10 ∷ x) (10 ∷ y) fourth.1) in
    let same : file_with f.name f.direct f.parts f.bytes f.complete ≡ file_with g.name g.direct g.parts g.bytes g.complete = cc in
    (file_is f ∙ same ∙ sym (file_is g), behind)

one_line : (l m : Line) (x y : List ℕ) → IsCatalogLine l → IsCatalogLine m → line_text l ++ x ≡ line_text m ++ y → (l ≡ m) × (x ≡ y)
one_line (OfRack r) (OfRack s) x y p q e =
    let same = one_rack r s x y p q e in
    (ap (λ (z : RackDesk). OfRack z) same.0, same.1)
one_line (OfRack r) (OfFile f) x y p q e = absurd (apart _ _ (sym (rack_spread r x) ∙ e ∙ file_spread f y))
one_line (OfFile f) (OfRack r) x y p q e = absurd (apart _ _ (sym (rack_spread r y) ∙ sym e ∙ file_spread f x))
one_line (OfFile f) (OfFile g) x y p q e =
    let same = one_file f g x y p q e in
    (ap (λ (z : Listed). OfFile z) same.0, same.1)

-- A TEXT TELLS ONE LIST OF LINES

some_line : (l : Line) (x : List ℕ) → [] ≡ line_text l ++ x → ⊥
some_line (OfRack r) x e = cc
some_line (OfFile f) x e = cc

one_list : (a b : List Line) → All IsCatalogLine a → All IsCatalogLine b → flat_map line_text a ≡ flat_map line_text b → a ≡ b
one_list [] [] p q e = refl
one_list [] (m ∷ b) p q e = absurd (some_line m (flat_map line_text b) (e ∙ flat_map-cons line_text m b))
one_list (l ∷ a) [] p q e = absurd (some_line l (flat_map line_text a) (sym e ∙ flat_map-cons line_text l a))
one_list (l ∷ a) (m ∷ b) p q e =
    let same = one_line l m (flat_map line_text a) (flat_map line_text b) (All-head IsCatalogLine l a p) (All-head IsCatalogLine m b q) (sym (flat_map-cons line_text l a) ∙ e ∙ flat_map-cons line_text m b) in
    ap (λ (z : Line). z ∷ a) same.0 ∙ ap (λ (zs : List Line). m ∷ zs) (one_list a b (All-tail IsCatalogLine l a p) (All-tail IsCatalogLine m b q) same.1)

-- a last line is as long as another
long_sum : (bytes : List ℕ) → length (sum_line (digest_bytes bytes)) ≡ 69
long_sum bytes =
    omega (arith, length-append (codes "sum " ++ encode_lower (digest_bytes bytes)) (10 ∷ []), length-append (codes "sum ") (encode_lower (digest_bytes bytes)), length-encode_with lower_digits (digest_bytes bytes), length-digest_bytes bytes)

one_front : (a b s t : List ℕ) → length s ≡ length t → a ++ s ≡ b ++ t → a ≡ b
one_front a b s t long e =
    let same : length a ≡ length b = omega (arith, length-append a s, length-append b t, long, ap (λ (l : List ℕ). length l) e) in
    sym (take-append_seam a s) ∙ ap (λ (n : ℕ). take n (a ++ s)) same ∙ ap (λ (l : List ℕ). take (length b) l) e ∙ take-append_seam b t

one_body : (a b : List Line) → catalog_text a ≡ catalog_text b → body a ≡ body b
one_body a b e =
    one_front (body a) (body b) (sum_line (digest_bytes (body a))) (sum_line (digest_bytes (body b))) (long_sum (body a) ∙ sym (long_sum (body b)))
    (sym (catalog_is a) ∙ e ∙ catalog_is b)

behind_head : (x y : List ℕ) → head ++ x ≡ head ++ y → x ≡ y
behind_head x y e = append_cancel_left head x y e

pub tells_one : TellsOne
tells_one a b text p q =
    let e : catalog_text a ≡ catalog_text b = sym p.text_is ∙ q.text_is in
    one_list a b p.each q.each (behind_head (flat_map line_text a) (flat_map line_text b) (sym (body_is a) ∙ one_body a b e ∙ body_is b))
