-- What any m shares of a set are joined to, and what fewer are.
use Rattle.std.proofs.Common.{◌≡◌, ◌≤◌, ◌<◌, ◌+◌, ◌-◌, ◌*◌, ◌/◌, ◌++◌, ◌∷◌, [], ℕ, zero, suc, List, length, take, drop, get_or, nat_eq, refl, ap, ap₂, sym, subst, ◌∙◌, arith, lit<, length-append, length-drop}
use Rattle.std.specs.List.{flat_map, IsDistinct}
use Rattle.std.specs.Int.{w32, byte_at, bytes_high_first, to_be_bytes}
use Rattle.std.proofs.Math.Nat.{mul-div_cancel, mul-le-mul_right}
use Rattle.std.proofs.lemmas.List.{drop_at, length-take-le, take_at, take-append-drop}
use Rattle.byteorder.specs.Endian.{big_number}
use Rattle.byteorder.specs.Numbers.{big_from-lt, big_from-take}
use Rattle.sha2.specs.Sha256.{sha256}
use Rattle.sha2.specs.Sha256.{digest_bytes as hash_bytes}
use Rattle.pot_bytes.specs.Digests.{digest_bytes}
use Rattle.pot_bytes.specs.Lists.{AreBytes}
use Rattle.pot_bytes.proofs.DigestLemmas.{length-digest_bytes}
use Rattle.pot_bytes.proofs.ListLemmas.{AreBytes-append, AreBytes-drop, AreBytes-take}
use Rattle.pot_split.specs.Secrecy.{IsRows}
use Rattle.pot_split.specs.Threshold.{explaining, share, shares_at, IsJoin}
use Rattle.pot_split.proofs.ShareLemmas.{length-share}
use Rattle.pot_split.proofs.SplitLaws.{threshold_laws}
use Rattle.pot_desk_shares.specs.Making.{head_of, share_of, values_at, IsShareSet}
use Rattle.pot_desk_shares.specs.Shares.{share_bytes, with_digest, IsShare}
use Rattle.pot_desk_shares.specs.Veils.{explained, IsTextVeiled, DeskVeilLaws}
use Rattle.pot_desk_shares.specs.declared.making.Terms.{Terms}
use Rattle.pot_desk_shares.specs.declared.share.ShareHead.{ShareHead}

-- A DIGEST IS BYTES

byte_at-small : (k n : ℕ) → byte_at k n < 256
byte_at-small zero n = omega arith
byte_at-small (suc k) n = omega arith

number-bytes : (n x : ℕ) → AreBytes (bytes_high_first n x)
number-bytes zero x k = lit< tt
number-bytes (suc n) x zero = byte_at-small n x
number-bytes (suc n) x (suc k) = number-bytes n x k

words-bytes : (h : List ℕ) (n : ℕ) → AreBytes (hash_bytes h n)
unfolding hash_bytes
words-bytes h zero k = lit< tt
words-bytes h (suc n) k = AreBytes-append (hash_bytes h n) (to_be_bytes w32 (get_or h n 0)) (words-bytes h n) (number-bytes 4 (get_or h n 0)) k

digest-bytes : (bytes : List ℕ) → AreBytes (digest_bytes bytes)
unfolding digest_bytes sha256
digest-bytes bytes = words-bytes _ 8

-- WHAT IS SHARED

pub length-with_digest : (text : List ℕ) → length (with_digest text) ≡ length text + 32
length-with_digest text = length-append {A = ℕ} text (digest_bytes text) ∙ ap (λ (z : ℕ). length text + z) (length-digest_bytes text)

with_digest-bytes : (text : List ℕ) → AreBytes text → AreBytes (with_digest text)
with_digest-bytes text b = AreBytes-append text (digest_bytes text) b (digest-bytes text)

-- texts with their digests are the same where the texts are
pub text-with_digest : (a b : List ℕ) → with_digest a ≡ with_digest b → a ≡ b
text-with_digest a b e =
    let long : length a ≡ length b = omega (arith, ap length e, length-with_digest a, length-with_digest b) in
    sym (take_at a (digest_bytes a) (length a) refl) ∙ ap (take (length a)) e ∙ take_at b (digest_bytes b) (length a) (sym long)

-- the coefficients are m - 1 rows
pub rows_of_set : (n size : ℕ) (random : List ℕ) → 0 < size → length random ≡ 8 + n * size
    → (length (drop 8 random) / size ≡ n) × IsRows size (drop 8 random)
rows_of_set n size random some e =
    let whole : length (drop 8 random) ≡ n * size = omega (arith, length-drop {A = ℕ} 8 random) in
    let count : length (drop 8 random) / size ≡ n = ap (λ (z : ℕ). z / size) whole ∙ mul-div_cancel n some in
    (count, whole ∙ ap (λ (z : ℕ). z * size) (sym count))

-- the rows of a set are whole, and few
pub rows_fit : (need long : ℕ) (secret random : List ℕ) → need ≤ 16 → length secret ≡ long + 32
    → length random ≡ 8 + (need - 1) * (long + 32)
    → IsRows (length secret) (drop 8 random) × (length (drop 8 random) ≤ 15 * length secret)
rows_fit need long secret random few size taken =
    let taken_so : length random ≡ 8 + (need - 1) * length secret = taken ∙ ap (λ (z : ℕ). 8 + (need - 1) * z) (sym size) in
    let rows = rows_of_set (need - 1) (length secret) random (omega (arith, size)) taken_so in
    let le : (need - 1) * length secret ≤ 15 * length secret = mul-le-mul_right (length secret) (omega (arith, few)) in
    (rows.1, omega (arith, le, length-drop {A = ℕ} 8 random, taken_so))

set_rows : (t : Terms) (text random : List ℕ) → IsShareSet t text random
    → (length (drop 8 random) / length (with_digest text) ≡ t.need - 1) × IsRows (length (with_digest text)) (drop 8 random)
set_rows t text random is =
    let long = length-with_digest text in
    rows_of_set (t.need - 1) (length (with_digest text)) random (omega (arith, long))
    (is.taken ∙ ap (λ (z : ℕ). 8 + (t.need - 1) * z) (sym long))

values_are : (text random points : List ℕ) → flat_map (values_at text random) points ≡ shares_at (with_digest text) (drop 8 random) points
values_are text random [] = refl
values_are text random (x ∷ points) = ap (λ (z : List ℕ). values_at text random x ++ z) (values_are text random points)

pub joins_law : (t : Terms) (text random points joined : List ℕ) → IsShareSet t text random
    → AreBytes points → IsDistinct nat_eq points → length points ≡ t.need
    → length joined ≡ length (with_digest text)
    → IsJoin points (flat_map (values_at text random) points) joined
    → joined ≡ with_digest text
joins_law t text random points joined is bytes apart many wide join =
    let rows = set_rows t text random is in
    threshold_laws.joins (with_digest text) (drop 8 random) points joined (with_digest-bytes text is.text_bytes)
    (AreBytes-drop 8 random is.random_bytes) bytes apart (omega (arith, length-with_digest text)) rows.1
    (omega (arith, rows.0, many, is.terms.need_first)) wide
    (subst (λ (z : List ℕ). IsJoin points z joined) (values_are text random points) join)

-- what is made is a share
pub made_law : (t : Terms) (text random : List ℕ) (x : ℕ) → IsShareSet t text random → 1 ≤ x → x ≤ t.count
    → IsShare (head_of t text random x) (values_at text random x) (share_of t text random x)
made_law t text random x is first last = record {
  head = record {
    need_first = is.terms.need_first;
    need_last = is.terms.need_last;
    count = is.terms.count;
    point_first = first;
    point_last = last;
    fits = is.fits;
    generation = is.generation;
    set = big_from-lt 0 8 random is.random_bytes;
  };
  whole = length-share (with_digest text) (drop 8 random) x ∙ length-with_digest text;
  spelled = refl;
}

-- WHAT FEWER ARE

same_long : (t : Terms) (text other seen random : List ℕ) → IsTextVeiled t text other seen random
    → length (with_digest other) ≡ length (with_digest text)
same_long t text other seen random v =
    length-with_digest other ∙ ap (λ (z : ℕ). z + 32) v.same_length ∙ sym (length-with_digest text)

rows-explained : (t : Terms) (text other seen random : List ℕ) → IsTextVeiled t text other seen random
    → length (explaining (with_digest text) (with_digest other) seen (drop 8 random)) ≡ length (drop 8 random)
rows-explained t text other seen random v =
    threshold_laws.as_many (with_digest text) (with_digest other) seen (drop 8 random) (omega (arith, length-with_digest text))
    (same_long t text other seen random v) (set_rows t text random v.set).1

number_there : (t : Terms) (text other seen random : List ℕ) → IsTextVeiled t text other seen random → length (take 8 random) ≡ 8
number_there t text other seen random v = length-take-le 8 random (omega (arith, v.set.taken))

set_law : (t : Terms) (text other seen random : List ℕ) → IsTextVeiled t text other seen random → IsShareSet t other (explained text other seen random)
set_law t text other seen random v =
    let rows = explaining (with_digest text) (with_digest other) seen (drop 8 random) in
    record {
      terms = v.set.terms;
      generation = v.set.generation;
      fits = omega (arith, v.same_length, v.set.fits);
      taken =
          let whole : length (take 8 random ++ rows) ≡ length random =
          omega (arith, length-append {A = ℕ} (take 8 random) rows, number_there t text other seen random v, rows-explained t text other seen random v, length-drop {A = ℕ} 8 random, v.set.taken) in
          whole ∙ v.set.taken ∙ ap (λ (z : ℕ). 8 + (t.need - 1) * (z + 32)) (sym v.same_length);
      text_bytes = v.other_bytes;
      random_bytes = AreBytes-append (take 8 random) rows (AreBytes-take 8 random v.set.random_bytes)
          (threshold_laws.bytes (with_digest text) (with_digest other) seen (drop 8 random) (AreBytes-drop 8 random v.set.random_bytes));
    }

-- the number of the set stays, and behind it the coefficients stand that explain
number_stays : (t : Terms) (text other seen random : List ℕ) → IsTextVeiled t text other seen random
    → big_number 8 (explained text other seen random) ≡ big_number 8 random
number_stays t text other seen random v =
    let changed = explained text other seen random in
    let front : take 8 changed ≡ take 8 random =
    take_at (take 8 random) (explaining (with_digest text) (with_digest other) seen (drop 8 random)) 8 (number_there t text other seen random v) in
    sym (big_from-take 0 8 8 changed (omega arith)) ∙ ap (big_number 8) front ∙ big_from-take 0 8 8 random (omega arith)

rows_stand : (t : Terms) (text other seen random : List ℕ) → IsTextVeiled t text other seen random
    → drop 8 (explained text other seen random) ≡ explaining (with_digest text) (with_digest other) seen (drop 8 random)
rows_stand t text other seen random v =
    drop_at (take 8 random) (explaining (with_digest text) (with_digest other) seen (drop 8 random)) 8 (number_there t text other seen random v)

unfoldable pub head_with : Terms → ℕ → ℕ → ℕ → ShareHead
head_with t x set long =
    record { need = t.need; count = t.count; point = x; generation = t.generation; set = set; length = long }

shares_law : (t : Terms) (text other seen random : List ℕ) (i : ℕ) → IsTextVeiled t text other seen random → i < length seen
    → share_of t other (explained text other seen random) (get_or seen i 0) ≡ share_of t text random (get_or seen i 0)
unfolding head_with
shares_law t text other seen random i v inside =
    let x = get_or seen i 0 in
    let changed = explained text other seen random in
    let rows = set_rows t text random v.set in
    let values : values_at other changed x ≡ values_at text random x =
    ap (λ (z : List ℕ). share (with_digest other) z x) (rows_stand t text other seen random v)
    ∙ threshold_laws.hides (with_digest text) (with_digest other) (drop 8 random) seen
    (with_digest-bytes text v.set.text_bytes) (with_digest-bytes other v.other_bytes) (AreBytes-drop 8 random v.set.random_bytes)
    v.seen_bytes v.points (omega (arith, length-with_digest text)) (same_long t text other seen random v) rows.1
    (omega (arith, rows.0, v.few)) i inside in
    ap₂ (λ (n l : ℕ). share_bytes (head_with t x n l) (values_at other changed x)) (number_stays t text other seen random v) v.same_length
    ∙ ap (share_bytes (head_of t text random x)) values

back_law : (t : Terms) (text other seen random : List ℕ) → IsTextVeiled t text other seen random
    → explained other text seen (explained text other seen random) ≡ random
back_law t text other seen random v =
    let changed = explained text other seen random in
    ap₂ (λ (a b : List ℕ). a ++ explaining (with_digest other) (with_digest text) seen b)
    (take_at (take 8 random) (explaining (with_digest text) (with_digest other) seen (drop 8 random)) 8 (number_there t text other seen random v))
    (rows_stand t text other seen random v)
    ∙ ap (λ (z : List ℕ). take 8 random ++ z)
    (threshold_laws.back (with_digest text) (with_digest other) seen (drop 8 random) (omega (arith, length-with_digest text))
    (same_long t text other seen random v) (set_rows t text random v.set).1)
    ∙ take-append-drop 8 random

pub veil_laws : DeskVeilLaws
veil_laws = record { set = set_law; shares = shares_law; back = back_law }
