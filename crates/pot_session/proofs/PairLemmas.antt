-- Two files of one length in the bytes of a source.
use Rattle.std.proofs.Common.{◌≡◌, ◌≢◌, ◌<◌, ◌≤◌, ◌^◌, ◌++◌, ℕ, List, [], ◌∷◌, length, sym, ap, subst, ◌∙◌, arith, length-append}
use Rattle.std.specs.Prelude.{Option, Some, None, MatchOption, decimal}
use Rattle.std.proofs.lemmas.Fmt.{decimal_injective, length-decimal-le}
use Rattle.std.proofs.lemmas.List.{get_or_default}
use Rattle.std.proofs.lemmas.Str.Parse.{digit_at}
use Rattle.pot_outside.specs.Accounts.{Transition}
use Rattle.pot_script.specs.Lines.{Cuts}
use Rattle.pot_script.proofs.Decimal.{IsDecimal-decimal}
use Rattle.pot_script.proofs.WordLemmas.{Without, not_without, one_cut, tails}
use Rattle.pot_session.specs.Drills.{ArePair, IsNoPair}
use Rattle.pot_session.specs.Streams.{IsReadOut}
use Rattle.pot_session.proofs.StreamLemmas.{whole_source}

-- no digit is LF
digits_without : (n : ℕ) → n < 2 ^ 64 → Without 10 (decimal n)
digits_without n small k d lt e =
    omega (arith, digit_at (decimal n) k (IsDecimal-decimal n small).digits lt, e, get_or_default (decimal n) k d 0 lt)

-- no LF, so no two files
pub uncut : (bytes : List ℕ) → Without 10 bytes → IsNoPair bytes
uncut bytes none file other p = not_without 10 (decimal (length file)) (file ++ 10 ∷ (other ++ 10 ∷ [])) (subst (Without 10) p.spelled none)

-- what stands before the first LF is the length, and what stands after it are the files
pub cut_apart : (bytes digits files file other : List ℕ) → Cuts bytes 10 digits files → ArePair bytes file other
    → (digits ≡ decimal (length file)) × (files ≡ file ++ 10 ∷ (other ++ 10 ∷ []))
cut_apart bytes digits files file other cut p =
    one_cut 10 digits (decimal (length file)) files (file ++ 10 ∷ (other ++ 10 ∷ [])) cut.first (digits_without (length file) (omega (arith, p.fits))) (sym cut.whole ∙ p.spelled)

-- lists with fronts of one length go on alike
go_on : (a b x y : List ℕ) → length a ≡ length b → a ++ x ≡ b ++ y → x ≡ y
go_on [] [] x y same e = e
go_on [] (k ∷ b) x y same e = absurd (omega (arith, same))
go_on (h ∷ a) [] x y same e = absurd (omega (arith, same))
go_on (h ∷ a) (k ∷ b) x y same e = go_on a b x y (omega (arith, same)) (tails h k (a ++ x) (b ++ y) e)

-- WHERE THE BYTES LEAVE THE FORM

module _ (bytes digits files : List ℕ) (cut : Cuts bytes 10 digits files) where
  pub no_length : ((n : ℕ) → n ≤ 884736 → digits ≢ decimal n) → IsNoPair bytes
  no_length none file other p = none (length file) p.fits (cut_apart bytes digits files file other cut p).0

  module _ (n : ℕ) (fits : n ≤ 884736) (is : digits ≡ decimal n) where
    long : (file other : List ℕ) → ArePair bytes file other → length file ≡ n
    long file other p =
        decimal_injective (length file) n (omega (arith, p.fits)) (omega (arith, fits)) (sym (cut_apart bytes digits files file other cut p).0 ∙ is)

    pub no_file : ((front back : List ℕ) → length front ≡ n → files ≢ front ++ 10 ∷ back) → IsNoPair bytes
    no_file none file other p = none file (other ++ 10 ∷ []) (long file other p) (cut_apart bytes digits files file other cut p).1

    module _ (first rest : List ℕ) (first_long : length first ≡ n) (files_are : files ≡ first ++ 10 ∷ rest) where
      rest_is : (file other : List ℕ) → ArePair bytes file other → rest ≡ other ++ 10 ∷ []
      rest_is file other p =
          tails 10 10 rest (other ++ 10 ∷ [])
          (go_on first file (10 ∷ rest) (10 ∷ (other ++ 10 ∷ [])) (first_long ∙ sym (long file other p)) (sym files_are ∙ (cut_apart bytes digits files file other cut p).1))

      pub no_other : ((front back : List ℕ) → length front ≡ n → rest ≢ front ++ 10 ∷ back) → IsNoPair bytes
      no_other none file other p = none other [] (p.same_length ∙ long file other p) (rest_is file other p)

      pub no_end : (second end : List ℕ) → length second ≡ n → rest ≡ second ++ 10 ∷ end → 0 < length end → IsNoPair bytes
      no_end second end second_long rest_has some file other p =
          let e : 10 ∷ end ≡ 10 ∷ [] =
          go_on second other (10 ∷ end) (10 ∷ []) (second_long ∙ sym (p.same_length ∙ long file other p)) (sym rest_has ∙ rest_is file other p) in
          omega (arith, some, ap (λ (l : List ℕ). length l) e)

-- no answer where there is nothing to answer
pub unanswered : {X Q : Type 0} (P : X → Type 0) (r : Option X) → r ≡ None → Q → MatchOption r Q P
unanswered P None e q = q
unanswered P (Some x) e q = absurd (cc)

-- SOURCES

-- a source that is longer than the longest two files is none
pub short : (bytes file other : List ℕ) → ArePair bytes file other → length bytes ≤ 1769481
short bytes file other p =
    omega (
      arith,
      ap (λ l. length l) p.spelled,
      length-append (decimal (length file)) (10 ∷ (file ++ 10 ∷ (other ++ 10 ∷ []))),
      length-append file (10 ∷ (other ++ 10 ∷ [])),
      length-append other (10 ∷ []),
      p.fits,
      p.same_length,
      length-decimal-le 6 (length file) (omega arith) (omega (arith, p.fits)) (omega (arith, p.fits)),
    )

-- the bytes that were read are two files, and so are those of the source
pub source_pair : (source : Transition (List ℕ)) (bytes file other : List ℕ) → IsReadOut source bytes 1769481 → ArePair bytes file other → ArePair source.before file other
source_pair source bytes file other read p =
    subst (λ b. ArePair b file other) (sym (whole_source source bytes 1769481 read (short bytes file other p))) p

-- nothing is left behind them
pub nothing_left : (source : Transition (List ℕ)) (bytes file other : List ℕ) → IsReadOut source bytes 1769481 → ArePair bytes file other → source.after ≡ []
nothing_left source bytes file other read p = read.all (short bytes file other p)

-- the bytes that were read are no two files, and neither are those of the source
pub source_none : (source : Transition (List ℕ)) (bytes : List ℕ) → IsReadOut source bytes 1769481 → IsNoPair bytes → IsNoPair source.before
source_none source bytes read none file other p =
    let few : length bytes ≤ 1769481 = omega (arith, short source.before file other p, ap (λ l. length l) read.first, length-append bytes source.after) in
    none file other (subst (λ b. ArePair b file other) (whole_source source bytes 1769481 read few) p)
