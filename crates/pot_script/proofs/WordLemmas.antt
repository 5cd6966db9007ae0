-- Words: how a line is cut into them, and that a line of words is cut in one way.
use Rattle.std.proofs.Common.{◌≡◌, ◌≢◌, ℕ, ◌<◌, false, List, [], ◌∷◌, ◌++◌, length, get_or, refl, sym, ap, ◌∙◌, arith}
use Rattle.std.specs.Prelude.{All, ◌==◌}
use Rattle.std.specs.List.{join_with_byte}
use Rattle.std.proofs.lemmas.List.Elements.{All-tail, All-append}
use Rattle.std.proofs.lemmas.List.Splits.{slice_split_none, slice_split_at, length-slice_split, join_with_byte-slice_split}
use Rattle.std.proofs.lemmas.Bool.Decides.{nat_tests}
use Rattle.pot_script.specs.Lines.{Cuts}
use Rattle.pot_script.specs.Words.{words_in}

-- the byte stands nowhere in the list
abbrev pub Without : ℕ → List ℕ → Type 0
Without byte bytes = All (λ b. b ≢ byte) bytes

pub not_without : (byte : ℕ) (front back : List ℕ) → Without byte (front ++ byte ∷ back) → ⊥
not_without byte [] back h = h 0 0 (omega arith) refl
not_without byte (b ∷ front) back h = not_without byte front back (All-tail (λ b. b ≢ byte) b (front ++ byte ∷ back) h)

heads : (a b : ℕ) (x y : List ℕ) → a ∷ x ≡ b ∷ y → a ≡ b
heads a b x y e = cc

pub tails : (a b : ℕ) (x y : List ℕ) → a ∷ x ≡ b ∷ y → x ≡ y
tails a b x y e = cc

-- a list is cut at the first of a byte in one way
pub one_cut : (byte : ℕ) (a b x y : List ℕ) → Without byte a → Without byte b → a ++ byte ∷ x ≡ b ++ byte ∷ y → (a ≡ b) × (x ≡ y)
one_cut byte [] [] x y p q e = (refl, tails byte byte x y e)
one_cut byte [] (h ∷ b) x y p q e = absurd (q 0 0 (omega arith) (sym (heads byte h x (b ++ byte ∷ y) e)))
one_cut byte (h ∷ a) [] x y p q e = absurd (p 0 0 (omega arith) (heads h byte (a ++ byte ∷ x) y e))
one_cut byte (h ∷ a) (k ∷ b) x y p q e =
    let t = one_cut byte a b x y (All-tail (λ b. b ≢ byte) h a p) (All-tail (λ b. b ≢ byte) k b q) (tails h k (a ++ byte ∷ x) (b ++ byte ∷ y) e) in
    let hs : h ≡ k = heads h k (a ++ byte ∷ x) (b ++ byte ∷ y) e in
    (ap (λ (c : ℕ). c ∷ a) hs ∙ ap (λ (l : List ℕ). k ∷ l) t.0, t.1)

-- a byte that is no space tests false
untested : (b : ℕ) → b ≢ 32 → (b == 32) ≡ false
untested b h = grind (arith, nat_tests)

no_space : (bytes : List ℕ) → Without 32 bytes → All (λ b. (b == 32) ≡ false) bytes
no_space bytes h = λ k d lt. untested (get_or bytes k d) (h k d lt)

-- the first space ends the first word, and without a space the line is one word
pub words_in-cut : (line word others : List ℕ) → Cuts line 32 word others → words_in line ≡ word ∷ words_in others
words_in-cut line word others cut =
    ap words_in cut.whole ∙ slice_split_at (λ (b : ℕ). b == 32) word 32 others (no_space word cut.first) refl

pub words_in-one : (line : List ℕ) → Without 32 line → words_in line ≡ line ∷ []
words_in-one line h = slice_split_none (λ (b : ℕ). b == 32) line (no_space line h)

-- a line has a word
pub some_words : (line : List ℕ) → words_in line ≢ []
some_words line e = omega (arith, length-slice_split (λ (b : ℕ). b == 32) line, ap (λ (words : List (List ℕ)). length words) e)

-- words without a space, joined by spaces, are the words of the line, and the line is its words
-- joined
pub words_in-join : (word : List ℕ) (others : List (List ℕ)) → All (Without 32) (word ∷ others) → words_in (join_with_byte 32 (word ∷ others)) ≡ word ∷ others
words_in-join word [] h = words_in-one word (h 0 [] (omega arith))
words_in-join word (next ∷ others) h =
    slice_split_at (λ (b : ℕ). b == 32) word 32 (join_with_byte 32 (next ∷ others)) (no_space word (h 0 [] (omega arith))) refl
    ∙ ap (λ (words : List (List ℕ)). word ∷ words) (words_in-join next others (All-tail (Without 32) word (next ∷ others) h))

pub join-words_in : (line : List ℕ) → line ≡ join_with_byte 32 (words_in line)
join-words_in line = sym (join_with_byte-slice_split 32 line)

-- a byte that is no space and stands in no word does not stand in the line
pub join-without : (byte : ℕ) (words : List (List ℕ)) → byte ≢ 32 → All (Without byte) words → Without byte (join_with_byte 32 words)
join-without byte [] other h = λ k d lt. absurd (omega arith)
join-without byte (word ∷ []) other h = h 0 [] (omega arith)
join-without byte (word ∷ next ∷ others) other h =
    All-append (λ b. b ≢ byte) word (32 ∷ join_with_byte 32 (next ∷ others)) (h 0 [] (omega arith))
    (after_space (join_with_byte 32 (next ∷ others)) (join-without byte (next ∷ others) other (All-tail (Without byte) word (next ∷ others) h)))
  where
    after_space : (line : List ℕ) → Without byte line → Without byte (32 ∷ line)
    after_space line h = All-append (λ b. b ≢ byte) (32 ∷ []) line (λ k d lt e. other (sym e ∙ only k d lt)) h
      where
        only : (k d : ℕ) → k < 1 → get_or (32 ∷ []) k d ≡ 32
        only k d lt = let z : k ≡ 0 = omega arith in rw z refl
