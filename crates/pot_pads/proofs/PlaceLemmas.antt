-- The bytes that the fields of a `PadStream` hold stand at its place of the stream.
use Rattle.std.proofs.Common.{◌≡◌, ℕ, zero, suc, ◌+◌, ◌-◌, ◌*◌, ◌/◌, ◌%◌, ◌^◌, ◌<◌, ◌≤◌, List, [], ◌++◌, get_or, length, arith, ap, sym, subst, ◌∙◌}
use Rattle.std.proofs.lemmas.List.{take_all}
use Rattle.std.specs.Int.{w32, to_le_bytes}
use Rattle.rand_chacha.specs.ChaCha.{ChaCha, next_word, word_at}
use Rattle.rand_core.specs.Steps.{fill_via_u32, word_bytes}
use Rattle.pot_pads.proofs.PadsLemmas.{bytes_from-append, bytes_from-repeats, length-bytes_from}
use Rattle.pot_pads.specs.Pads.{key_stream, bytes_from}
use Rattle.pot_pads.specs.Inside.{place_of, HoldsRest}

-- byte i of a word
pub key_stream-at : (key : List ℕ) (number word i place : ℕ) → word < 2 ^ 68 → i < 4 → place ≡ 4 * word + i
    → get_or (to_le_bytes w32 (word_at 10 key number word)) i 0 ≡ key_stream key number place
unfolding key_stream
key_stream-at key number word i place in_stream in_word is =
    let at : word ≡ place / 4 % 2 ^ 68 = omega arith in
    let byte : i ≡ place % 4 = omega arith in
    cc

-- a byte that is left of the last word
pub held_byte : (key : List ℕ) (number next left : ℕ) → next < 2 ^ 68 → 0 < left → left ≤ 4
    → get_or (to_le_bytes w32 (word_at 10 key number ((next + (2 ^ 68 - 1)) % 2 ^ 68))) (4 - left) 0
    ≡ key_stream key number (place_of next left)
held_byte key number next left in_stream some few =
    key_stream-at key number ((next + (2 ^ 68 - 1)) % 2 ^ 68) (4 - left) (place_of next left)
    (omega arith) (omega arith) (omega arith)

-- the next word's bytes, where none is left
pub whole_word : (key : List ℕ) (number next : ℕ) → next < 2 ^ 68
    → to_le_bytes w32 (word_at 10 key number next) ≡ bytes_from (key_stream key number) (place_of next 0) 4
unfolding bytes_from
whole_word key number next in_stream =
    let at : (i place : ℕ) → i < 4 → place ≡ 4 * next + i
    → get_or (to_le_bytes w32 (word_at 10 key number next)) i 0 ≡ key_stream key number place =
    λ i place in_word is. key_stream-at key number next i place in_stream in_word is in
    let p = place_of next 0 in
    let first = at 0 p (omega arith) (omega arith) in
    let second = at 1 (suc p) (omega arith) (omega arith) in
    let third = at 2 (suc (suc p)) (omega arith) (omega arith) in
    let fourth = at 3 (suc (suc (suc p))) (omega arith) (omega arith) in
    cc

-- the bytes of whole words, and the generator after them
pub whole_words : (g : ChaCha) (k : ℕ) → g.word_pos < 2 ^ 68
    → word_bytes (to_le_bytes w32) (next_word 10) k g
    ≡ (bytes_from (key_stream g.key g.stream) (place_of g.word_pos 0) (4 * k), record g { word_pos = (g.word_pos + k) % 2 ^ 68 })
unfolding word_bytes bytes_from
whole_words g zero fits =
    let at : g.word_pos ≡ (g.word_pos + 0) % 2 ^ 68 = omega arith in
    ap (λ (n : ℕ). ([], record g { word_pos = n })) at
whole_words g (suc k) fits =
    let stream = key_stream g.key g.stream in
    let next = (g.word_pos + k) % 2 ^ 68 in
    let place = place_of g.word_pos 0 in
    let at : (next + 1) % 2 ^ 68 ≡ (g.word_pos + suc k) % 2 ^ 68 = omega arith in
    let more : 4 * k + 4 ≡ 4 * suc k = omega arith in
    let word : to_le_bytes w32 (word_at 10 g.key g.stream next) ≡ bytes_from stream (place + 4 * k) 4 =
    whole_word g.key g.stream next (omega arith) ∙ bytes_from-repeats g.key g.stream (place_of next 0) (place + 4 * k) 4 (omega arith) in
    let bytes : bytes_from stream place (4 * k) ++ to_le_bytes w32 (word_at 10 g.key g.stream next) ≡ bytes_from stream place (4 * suc k) =
    ap (λ (l : List ℕ). bytes_from stream place (4 * k) ++ l) word ∙ sym (bytes_from-append stream place (4 * k) 4) ∙ ap (bytes_from stream place) more in
    ap (λ (b : List ℕ × ChaCha). (b.0 ++ to_le_bytes w32 (word_at 10 b.1.key b.1.stream b.1.word_pos), record b.1 { word_pos = (b.1.word_pos + 1) % 2 ^ 68 })) (whole_words g k fits)
    ∙ (λ i. (bytes i, record g { word_pos = at i }))

-- what a fill of n bytes, which are whole words, gives, and where it leaves the generator
filled : (g h : ChaCha) (out : List ℕ) (n : ℕ) → g.word_pos < 2 ^ 68 → n % 4 ≡ 0 → (out, h) ≡ fill_via_u32 (next_word 10) n g
    → (out ≡ bytes_from (key_stream g.key g.stream) (place_of g.word_pos 0) n) × (h ≡ record g { word_pos = (g.word_pos + n / 4) % 2 ^ 68 })
filled g h out n fits whole e =
    let words : (n + 3) / 4 ≡ n / 4 = omega arith in
    let count : 4 * (n / 4) ≡ n = omega arith in
    let all = whole_words g (n / 4) fits in
    let bytes = bytes_from (key_stream g.key g.stream) (place_of g.word_pos 0) (4 * (n / 4)) in
    let long : length bytes ≡ n = length-bytes_from (key_stream g.key g.stream) (place_of g.word_pos 0) (4 * (n / 4)) ∙ count in
    let given = rw (words, all) at e in (
      ap (λ (p : List ℕ × ChaCha). p.0) given ∙ take_all n bytes (omega arith) ∙ ap (bytes_from (key_stream g.key g.stream) (place_of g.word_pos 0)) count,
      ap (λ (p : List ℕ × ChaCha). p.1) given,
    )

-- whole words leave nothing over, so none are filled where some bytes of a word are left
none_left : (next left n : ℕ) → left < 4 → (0 < n → place_of next left % 4 ≡ 0) → 0 < n → left ≡ 0
none_left next left n few between some =
    let at = between some in
    omega arith

pub filled_bytes : (g h : ChaCha) (out : List ℕ) (n left : ℕ) → g.word_pos < 2 ^ 68 → left < 4 → n % 4 ≡ 0
    → (0 < n → place_of g.word_pos left % 4 ≡ 0) → (out, h) ≡ fill_via_u32 (next_word 10) n g
    → out ≡ bytes_from (key_stream g.key g.stream) (place_of g.word_pos left) n
unfolding bytes_from
filled_bytes g h out zero left fits few whole between e = (filled g h out zero fits whole e).0
filled_bytes g h out (suc n) left fits few whole between e =
    let at : left ≡ 0 = none_left g.word_pos left (suc n) few between (omega arith) in
    rw at (filled g h out (suc n) fits whole e).0

pub filled_place : (g h : ChaCha) (out : List ℕ) (n left : ℕ) → g.word_pos < 2 ^ 68 → left < 4 → n % 4 ≡ 0
    → (out, h) ≡ fill_via_u32 (next_word 10) n g
    → (h.key ≡ g.key) × (h.stream ≡ g.stream) × (place_of h.word_pos left ≡ (place_of g.word_pos left + n) % 2 ^ 70)
filled_place g h out n left fits few whole e =
    let is = (filled g h out n fits whole e).1 in
    let at : h.word_pos ≡ (g.word_pos + n / 4) % 2 ^ 68 = ap (λ (x : ChaCha). x.word_pos) is in
    (ap (λ (x : ChaCha). x.key) is, ap (λ (x : ChaCha). x.stream) is, omega arith)

pub filled_rest : (g h : ChaCha) (out word : List ℕ) (n left : ℕ) → HoldsRest g.key g.stream g.word_pos word left → n % 4 ≡ 0
    → (0 < n → place_of g.word_pos left % 4 ≡ 0) → (out, h) ≡ fill_via_u32 (next_word 10) n g
    → HoldsRest h.key h.stream h.word_pos word left
filled_rest g h out word zero left rest whole between e =
    let is = (filled g h out zero rest.in_stream whole e).1 in
    let at : (g.word_pos + zero / 4) % 2 ^ 68 ≡ g.word_pos = omega (arith, rest.in_stream) in
    subst (λ (x : ChaCha). HoldsRest x.key x.stream x.word_pos word left) (sym (is ∙ ap (λ (p : ℕ). record g { word_pos = p }) at)) rest
filled_rest g h out word (suc n) left rest whole between e =
    let is = (filled g h out (suc n) rest.in_stream whole e).1 in
    let none : left ≡ 0 = none_left g.word_pos left (suc n) rest.in_word between (omega arith) in
    let at : h.word_pos ≡ (g.word_pos + suc n / 4) % 2 ^ 68 = ap (λ (x : ChaCha). x.word_pos) is in
    record { in_stream = omega arith; in_word = rest.in_word; last_word = λ some. absurd (omega arith) }
