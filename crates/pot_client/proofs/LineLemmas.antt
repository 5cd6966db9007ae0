-- The first lines of replies: the words of a line tell its reply, and neither a space nor a LF
-- stands in a word.
use Rattle.std.proofs.Common.{◌≡◌, ◌≢◌, ◌≤◌, ◌<◌, ◌/◌, ◌%◌, ℕ, suc, true, false, List, [], ◌∷◌, ◌++◌, length, get_or, refl, sym, ap, subst, ◌∙◌, append_assoc, length-append, arith}
use Rattle.std.specs.Prelude.{All, codes, decimal, flat_map, nat_le}
use Rattle.std.specs.List.{join_with_byte, list_all}
use Rattle.std.proofs.lemmas.Bool.{true≢false, leb-true}
use Rattle.std.proofs.lemmas.List.{get_or_default}
use Rattle.std.proofs.lemmas.List.Elements.{All-nil, All-cons}
use Rattle.std.proofs.lemmas.List.Sums.{AllPass-from_list_all}
use Rattle.std.proofs.lemmas.Str.Parse.{digit_at}
use Rattle.hex.specs.Hex.{IsBytes, encode_lower, encode_with, lower_digits}
use Rattle.pot_bytes.specs.Names.{IsName, is_name_byte}
use Rattle.pot_bytes.specs.declared.digest.Digest.{Digest}
use Rattle.pot_index.specs.declared.listed.Listed.{Listed}
use Rattle.pot_script.specs.declared.reply.Reply.{Reply}
use Rattle.pot_script.specs.declared.reply.Reply.TheVariants as replies
use Rattle.pot_script.specs.Lines.{Cuts}
use Rattle.pot_script.specs.Replies.{in_hex, listed_text, reply_text, spaced}
use Rattle.pot_script.specs.Words.{words_in}
use Rattle.pot_script.proofs.CommandLemmas.{first_words}
use Rattle.pot_script.proofs.Decimal.{IsDecimal-decimal}
use Rattle.pot_script.proofs.WordLemmas.{Without, not_without, one_cut, some_words, join-words_in, words_in-join, join-without}
use Rattle.pot_client.specs.declared.kind.ReplyKind.{ReplyKind}
use Rattle.pot_client.specs.declared.kind.ReplyKind.TheVariants as kinds
use Rattle.pot_client.specs.ReplyKinds.{keyword, kind_of}
use Rattle.pot_client.specs.ReplyTexts.{BeginsReply, IsReplyLineOf, NoReplyAt}
use Rattle.pot_client.specs.ReplyWords.{IsByteDigest, IsListing, IsReplyNumber, IsReply, behind, fields}
use Rattle.pot_client.proofs.KindLemmas.{keyword_injective}

-- WHAT STANDS IN NO WORD

-- the byte may separate words or lines: it stands in no name, and is less than each digit and
-- letter
record IsBreak (byte : ℕ) : Type 0 where
  name : is_name_byte byte ≡ false
  low : byte < 48

space : IsBreak 32
space = record { name = refl; low = omega arith }

line_end : IsBreak 10
line_end = record { name = refl; low = omega arith }

-- digits and letters
at_least : (bytes : List ℕ) → list_all (nat_le 48) bytes ≡ true → All (λ b. 48 ≤ b) bytes
at_least bytes h k d lt = leb-true 48 (get_or bytes k d) (AllPass-from_list_all (nat_le 48) bytes h k d lt)

high-without : (byte : ℕ) → IsBreak byte → (bytes : List ℕ) → All (λ b. 48 ≤ b) bytes → Without byte bytes
high-without byte at bytes high k d lt e = omega (arith, high k d lt, at.low, e)

name-without : (byte : ℕ) → IsBreak byte → (name : List ℕ) → IsName name → Without byte name
name-without byte at name is k d lt e = true≢false (sym (is.each k d lt) ∙ ap is_name_byte e ∙ at.name)

digits_of : (n : ℕ) → IsReplyNumber n → (k d : ℕ) → k < length (decimal n) → (48 ≤ get_or (decimal n) k d) × (get_or (decimal n) k d ≤ 57)
digits_of n small k d lt =
    let range = digit_at (decimal n) k (IsDecimal-decimal n (omega arith)).digits lt in
    let same = get_or_default (decimal n) k d 0 lt in
    (omega (arith, range, same), omega (arith, range, same))

number-without : (byte : ℕ) → IsBreak byte → (n : ℕ) → IsReplyNumber n → Without byte (decimal n)
number-without byte at n small = high-without byte at (decimal n) (λ k d lt. (digits_of n small k d lt).0)

-- a number is no word of letters
pub index_no_number : (n : ℕ) → IsReplyNumber n → decimal n ≢ codes "index"
index_no_number n small e =
    let first : get_or (decimal n) 0 0 ≡ 105 = ap (λ (l : List ℕ). get_or l 0 0) e in
    let some : 0 < length (decimal n) = omega (arith, ap (λ (l : List ℕ). length l) e) in
    omega (arith, digits_of n small 0 0 some, first)

hex_digit : (k : ℕ) → k < 16 → 48 ≤ get_or lower_digits k 0
hex_digit k lt = at_least lower_digits refl k 0 (omega arith)

hex_high : (bytes : List ℕ) → IsBytes bytes → All (λ b. 48 ≤ b) (encode_with lower_digits bytes)
unfolding encode_with
hex_high [] are = All-nil (λ b. 48 ≤ b)
hex_high (b ∷ rest) are =
    let small : b < 256 = are 0 in
    All-cons (λ b. 48 ≤ b) (get_or lower_digits (b / 16) 0) (get_or lower_digits (b % 16) 0 ∷ encode_with lower_digits rest) (hex_digit (b / 16) (omega arith))
    (All-cons (λ b. 48 ≤ b) (get_or lower_digits (b % 16) 0) (encode_with lower_digits rest) (hex_digit (b % 16) (omega arith)) (hex_high rest (λ i. are (suc i))))

digest-without : (byte : ℕ) → IsBreak byte → (d : Digest) → IsByteDigest d → Without byte (encode_lower d.bytes)
digest-without byte at d is = high-without byte at (encode_lower d.bytes) (hex_high d.bytes is.1)

keyword_high : (kind : ReplyKind) → list_all (nat_le 48) (keyword kind) ≡ true
keyword_high kinds.Stored = refl
keyword_high kinds.File = refl
keyword_high kinds.Names = refl
keyword_high kinds.Group = refl
keyword_high kinds.Scrubbed = refl
keyword_high kinds.Repaired = refl
keyword_high kinds.Replaced = refl
keyword_high kinds.Migrated = refl
keyword_high kinds.Long = refl
keyword_high kinds.Exists = refl
keyword_high kinds.Full = refl
keyword_high kinds.Absent = refl
keyword_high kinds.Lost = refl
keyword_high kinds.Odd = refl
keyword_high kinds.Fault = refl
keyword_high kinds.LogFull = refl
keyword_high kinds.NoArchive = refl
keyword_high kinds.InUse = refl
keyword_high kinds.Renewed = refl
keyword_high kinds.Often = refl

-- the byte stands in none of these words
record StandsInNone (byte : ℕ) (words : List (List ℕ)) : Type 0 where
  each : All (Without byte) words

module _ (byte : ℕ) (at : IsBreak byte) where
  none : StandsInNone byte []
  none = record { each = All-nil (Without byte) }

  word : {ws : List (List ℕ)} (w : List ℕ) → Without byte w → StandsInNone byte ws → StandsInNone byte (w ∷ ws)
  word {ws} w p q = record { each = All-cons (Without byte) w ws p q.each }

  letters : {ws : List (List ℕ)} (w : List ℕ) → list_all (nat_le 48) w ≡ true → StandsInNone byte ws → StandsInNone byte (w ∷ ws)
  letters w h q = word w (high-without byte at w (at_least w h)) q

  named : {ws : List (List ℕ)} (name : List ℕ) → IsName name → StandsInNone byte ws → StandsInNone byte (name ∷ ws)
  named name is q = word name (name-without byte at name is) q

  number : {ws : List (List ℕ)} (n : ℕ) → IsReplyNumber n → StandsInNone byte ws → StandsInNone byte (decimal n ∷ ws)
  number n small q = word (decimal n) (number-without byte at n small) q

  digest : {ws : List (List ℕ)} (d : Digest) → IsByteDigest d → StandsInNone byte ws → StandsInNone byte (encode_lower d.bytes ∷ ws)
  digest d is q = word (encode_lower d.bytes) (digest-without byte at d is) q

  two_numbers : (m n : ℕ) → IsReplyNumber m → IsReplyNumber n → StandsInNone byte (decimal m ∷ decimal n ∷ [])
  two_numbers m n p q = number m p (number n q none)

  three_numbers : (l m n : ℕ) → IsReplyNumber l → IsReplyNumber m → IsReplyNumber n → StandsInNone byte (decimal l ∷ decimal m ∷ decimal n ∷ [])
  three_numbers l m n p q r = number l p (two_numbers m n q r)

  in_no_field : (r : Reply) → IsReply r → StandsInNone byte (fields r)
  in_no_field (replies.Stored name pieces shards) is = named name is.0 (two_numbers pieces shards is.1 is.2)
  in_no_field (replies.File name bytes) is = named name is.0 (number (length bytes) is.1 none)
  in_no_field (replies.Names names) is = number (length names) is.0 none
  in_no_field (replies.Group group live lost broken stripe column) is =
      number group (omega (arith, is.0)) (letters (codes "live") refl (number live is.1 (letters (codes "lost") refl (number lost is.2
      (letters (codes "broken") refl (number broken is.3 (letters (codes "cursor") refl (two_numbers stripe column is.4 (omega (arith, is.5))))))))))
  in_no_field (replies.Scrubbed group seen gone) is = three_numbers group seen gone (omega (arith, is.0)) is.1 is.2
  in_no_field (replies.Repaired group mended left) is = three_numbers group mended left (omega (arith, is.0)) is.1 is.2
  in_no_field (replies.Replaced from to slots) is = three_numbers from to slots is.0 is.1 is.2
  in_no_field (replies.Migrated from to slots) is = three_numbers from to slots is.0 is.1 is.2
  in_no_field (replies.Long name len) is = named name is.0 (number len is.1 none)
  in_no_field (replies.Exists name) is = named name is none
  in_no_field (replies.Full group) is = number group (omega (arith, is)) none
  in_no_field (replies.Absent name) is = named name is none
  in_no_field (replies.Lost name piece fragment have need) is =
      named name is.0 (number piece is.1 (three_numbers fragment have need (omega (arith, is.2)) (omega (arith, is.3)) (omega (arith, is.4))))
  in_no_field (replies.Odd name wanted found) is = named name is.0 (digest wanted is.1 (digest found is.2 none))
  in_no_field (replies.Fault group column) is = two_numbers group column (omega (arith, is.0)) (omega (arith, is.1))
  in_no_field (replies.LogFull group) is = number group (omega (arith, is)) none
  in_no_field replies.IndexLogFull is = letters (codes "index") refl none
  in_no_field (replies.NoArchive n) is = number n is none
  in_no_field (replies.InUse n) is = number n is none
  in_no_field (replies.Renewed name pieces shards) is = named name is.0 (two_numbers pieces shards is.1 is.2)
  in_no_field (replies.Often name) is = named name is none

  in_no_word : (r : Reply) → IsReply r → All (Without byte) (keyword (kind_of r) ∷ fields r)
  in_no_word r is = (letters (keyword (kind_of r)) (keyword_high (kind_of r)) (in_no_field r is)).each

  in_no_listed : (l : Listed) → IsListing l → All (Without byte) (codes "name" ∷ l.name ∷ decimal l.length ∷ [])
  in_no_listed l is = (letters (codes "name") refl (named l.name is.0 (number l.length is.1 none))).each

-- LINES

-- the first line of a reply, without its LF (10)
abbrev pub reply_line : Reply → List ℕ
reply_line r = join_with_byte 32 (keyword (kind_of r) ∷ fields r)

pub words_in-reply_line : (r : Reply) → IsReply r → words_in (reply_line r) ≡ keyword (kind_of r) ∷ fields r
words_in-reply_line r is = words_in-join (keyword (kind_of r)) (fields r) (in_no_word 32 space r is)

pub reply_line-without : (r : Reply) → IsReply r → Without 10 (reply_line r)
reply_line-without r is = join-without 10 (keyword (kind_of r) ∷ fields r) (omega arith) (in_no_word 10 line_end r is)

-- The parts of a line in a row are its words joined, where each part but the first begins with the
-- space before it, and the LF behind them.
row_one : (k a end t : List ℕ) → k ++ a ++ end ++ t ≡ (k ++ a) ++ (end ++ t)
row_one k a end t = simp append_assoc

row_two : (k a b end t : List ℕ) → k ++ a ++ b ++ end ++ t ≡ (k ++ (a ++ b)) ++ (end ++ t)
row_two k a b end t = simp append_assoc

row_three : (k a b c end t : List ℕ) → k ++ a ++ b ++ c ++ end ++ t ≡ (k ++ (a ++ (b ++ c))) ++ (end ++ t)
row_three k a b c end t = simp append_assoc

row_five : (k a b c d e end t : List ℕ) → k ++ a ++ b ++ c ++ d ++ e ++ end ++ t ≡ (k ++ (a ++ (b ++ (c ++ (d ++ e))))) ++ (end ++ t)
row_five k a b c d e end t = simp append_assoc

row_ten : (k a b c d e f g h i j end t : List ℕ)
    → k ++ a ++ b ++ c ++ d ++ e ++ f ++ g ++ h ++ i ++ j ++ end ++ t ≡ (k ++ (a ++ (b ++ (c ++ (d ++ (e ++ (f ++ (g ++ (h ++ (i ++ j)))))))))) ++ (end ++ t)
row_ten k a b c d e f g h i j end t = simp append_assoc

row_names : (k a end names t : List ℕ) → k ++ a ++ end ++ names ++ t ≡ (k ++ a) ++ (end ++ (names ++ t))
row_names k a end names t = simp append_assoc

row_file : (k a b end bytes t : List ℕ) → k ++ a ++ b ++ end ++ bytes ++ end ++ t ≡ (k ++ (a ++ b)) ++ (end ++ (bytes ++ end ++ t))
row_file k a b end bytes t = simp append_assoc

-- the text of a reply is its first line, a LF and what stands behind that
pub text_at_line : (r : Reply) (after : List ℕ) → reply_text r ++ after ≡ reply_line r ++ 10 ∷ (behind r ++ after)
text_at_line (replies.Stored name pieces shards) after = row_three (codes "stored ") name (spaced pieces) (spaced shards) (codes "\n") after
text_at_line (replies.File name bytes) after = row_file (codes "file ") name (spaced (length bytes)) (codes "\n") bytes after
text_at_line (replies.Names names) after = row_names (codes "names ") (decimal (length names)) (codes "\n") (flat_map listed_text names) after
text_at_line (replies.Group group live lost broken stripe column) after =
    row_ten (codes "group ") (decimal group) (codes " live") (spaced live) (codes " lost") (spaced lost) (codes " broken") (spaced broken) (codes " cursor") (spaced stripe)
    (spaced column) (codes "\n") after
text_at_line (replies.Scrubbed group seen gone) after = row_three (codes "scrubbed ") (decimal group) (spaced seen) (spaced gone) (codes "\n") after
text_at_line (replies.Repaired group mended left) after = row_three (codes "repaired ") (decimal group) (spaced mended) (spaced left) (codes "\n") after
text_at_line (replies.Replaced from to slots) after = row_three (codes "replaced ") (decimal from) (spaced to) (spaced slots) (codes "\n") after
text_at_line (replies.Migrated from to slots) after = row_three (codes "migrated ") (decimal from) (spaced to) (spaced slots) (codes "\n") after
text_at_line (replies.Long name len) after = row_two (codes "long ") name (spaced len) (codes "\n") after
text_at_line (replies.Exists name) after = row_one (codes "exists ") name (codes "\n") after
text_at_line (replies.Full group) after = row_one (codes "full ") (decimal group) (codes "\n") after
text_at_line (replies.Absent name) after = row_one (codes "absent ") name (codes "\n") after
text_at_line (replies.Lost name piece fragment have need) after =
    row_five (codes "lost ") name (spaced piece) (spaced fragment) (spaced have) (spaced need) (codes "\n") after
text_at_line (replies.Odd name wanted found) after = row_three (codes "odd ") name (in_hex wanted) (in_hex found) (codes "\n") after
text_at_line (replies.Fault group column) after = row_two (codes "fault ") (decimal group) (spaced column) (codes "\n") after
text_at_line (replies.LogFull group) after = row_one (codes "logfull ") (decimal group) (codes "\n") after
text_at_line replies.IndexLogFull after = refl
text_at_line (replies.NoArchive n) after = row_one (codes "noarchive ") (decimal n) (codes "\n") after
text_at_line (replies.InUse n) after = row_one (codes "inuse ") (decimal n) (codes "\n") after
text_at_line (replies.Renewed name pieces shards) after = row_three (codes "renewed ") name (spaced pieces) (spaced shards) (codes "\n") after
text_at_line (replies.Often name) after = row_one (codes "often ") name (codes "\n") after

pub reply_text-some : (r : Reply) → 1 ≤ length (reply_text r)
reply_text-some r =
    omega (arith, ap (λ (l : List ℕ). length l) (text_at_line r []), length-append {A = ℕ} (reply_text r) [], length-append {A = ℕ} (reply_line r) (10 ∷ (behind r ++ [])))

-- the line of a published name, without its LF
abbrev pub listed_line : Listed → List ℕ
listed_line l = join_with_byte 32 (codes "name" ∷ l.name ∷ decimal l.length ∷ [])

pub words_in-listed_line : (l : Listed) → IsListing l → words_in (listed_line l) ≡ codes "name" ∷ l.name ∷ decimal l.length ∷ []
words_in-listed_line l is = words_in-join (codes "name") (l.name ∷ decimal l.length ∷ []) (in_no_listed 32 space l is)

pub listed_line-without : (l : Listed) → IsListing l → Without 10 (listed_line l)
listed_line-without l is = join-without 10 (codes "name" ∷ l.name ∷ decimal l.length ∷ []) (omega arith) (in_no_listed 10 line_end l is)

pub listed_at_line : (l : Listed) (after : List ℕ) → listed_text l ++ after ≡ listed_line l ++ 10 ∷ after
listed_at_line l after = row_two (codes "name ") l.name (spaced l.length) (codes "\n") after

-- WHERE A REPLY STANDS

-- there the first LF ends its line
ends_line : (r : Reply) (after bytes line rest : List ℕ) → IsReply r → Cuts bytes 10 line rest → bytes ≡ reply_text r ++ after → (line ≡ reply_line r) × (rest ≡ behind r ++ after)
ends_line r after bytes line rest is cut e =
    one_cut 10 line (reply_line r) rest (behind r ++ after) cut.first (reply_line-without r is) (sym cut.whole ∙ e ∙ text_at_line r after)

pub no_line_end : (bytes : List ℕ) → Without 10 bytes → NoReplyAt bytes
no_line_end bytes none r after is e = not_without 10 (reply_line r) (behind r ++ after) (subst (Without 10) (e ∙ text_at_line r after) none)

pub no_word : (bytes line : List ℕ) → words_in line ≡ [] → NoReplyAt bytes
no_word bytes line e = λ r after is f. some_words line e

module _ (bytes line rest word : List ℕ) (others : List (List ℕ)) (cut : Cuts bytes 10 line rest) (words : words_in line ≡ word ∷ others) where
  first_of : (r : Reply) (after : List ℕ) → IsReply r → bytes ≡ reply_text r ++ after → (word ≡ keyword (kind_of r)) × (others ≡ fields r)
  first_of r after is e =
      first_words word (keyword (kind_of r)) others (fields r)
      (sym words ∙ ap words_in (ends_line r after bytes line rest is cut e).0 ∙ words_in-reply_line r is)

  pub no_kind : ((kind : ReplyKind) → word ≢ keyword kind) → NoReplyAt bytes
  no_kind none r after is e = none (kind_of r) (first_of r after is e).0

  module _ (kind : ReplyKind) (told : word ≡ keyword kind) where
    told_by_line : (r : Reply) (after : List ℕ) → IsReply r → bytes ≡ reply_text r ++ after → IsReplyLineOf kind others r × (rest ≡ behind r ++ after)
    told_by_line r after is e =
        let first = first_of r after is e in (
          record {
            kind_is = keyword_injective (kind_of r) kind (sym first.0 ∙ told);
            is = is;
            words_are = first.1;
          },
          (ends_line r after bytes line rest is cut e).1,
        )

    stands : (r : Reply) (after : List ℕ) → IsReplyLineOf kind others r → rest ≡ behind r ++ after → bytes ≡ reply_text r ++ after
    stands r after at follows =
        let line_is : line ≡ reply_line r =
        join-words_in line ∙ ap (join_with_byte 32) (words ∙ ap (λ (w : List ℕ). w ∷ others) (told ∙ ap keyword (sym at.kind_is)) ∙ ap (λ (ws : List (List ℕ)). keyword (kind_of r) ∷ ws) at.words_are) in
        cut.whole ∙ ap (λ (l : List ℕ). l ++ 10 ∷ rest) line_is ∙ ap (λ (t : List ℕ). reply_line r ++ 10 ∷ t) follows ∙ sym (text_at_line r after)

    pub begins : BeginsReply bytes kind others rest
    begins r after is = (λ e. told_by_line r after is e, λ h. stands r after h.0 h.1)
