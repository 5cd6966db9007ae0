-- The lines of published names: no such line begins another, and where one stands.
use Rattle.std.proofs.Common.{◌≡◌, ◌≢◌, ℕ, List, [], ◌∷◌, ◌++◌, refl, sym, ap, subst, ◌∙◌}
use Rattle.std.specs.Prelude.{codes, decimal}
use Rattle.std.specs.List.{join_with_byte}
use Rattle.pot_bytes.specs.Names.{IsName}
use Rattle.pot_index.specs.declared.listed.Listed.{Listed}
use Rattle.pot_script.specs.Lines.{Cuts}
use Rattle.pot_script.specs.Replies.{listed_text}
use Rattle.pot_script.specs.Words.{words_in}
use Rattle.pot_script.proofs.CommandLemmas.{first_words}
use Rattle.pot_script.proofs.WordLemmas.{Without, not_without, one_cut, some_words, join-words_in}
use Rattle.pot_client.specs.ReplyTexts.{NoListedAt}
use Rattle.pot_client.specs.ReplyWords.{IsListing, IsReplyNumber}
use Rattle.pot_client.proofs.FieldLemmas.{same_sized}
use Rattle.pot_client.proofs.LineLemmas.{listed_line, words_in-listed_line, listed_line-without, listed_at_line}
use Rattle.pot_client.proofs.SequenceLemmas.{IsCode}

listed_of : List ℕ → ℕ → Listed
listed_of name len = record { name = name; length = len }

listed_is : (l : Listed) → l ≡ listed_of l.name l.length
unfolding listed_of
listed_is l = refl

one_listed : (l m : Listed) (x y : List ℕ) → IsListing l → IsListing m → listed_text l ++ x ≡ listed_text m ++ y → (l ≡ m) × (x ≡ y)
one_listed l m x y p q e =
    let parts = one_cut 10 (listed_line l) (listed_line m) x y (listed_line-without l p) (listed_line-without m q) (sym (listed_at_line l x) ∙ e ∙ listed_at_line m y) in
    let words = first_words (codes "name") (codes "name") (l.name ∷ decimal l.length ∷ []) (m.name ∷ decimal m.length ∷ []) (sym (words_in-listed_line l p) ∙ ap words_in parts.0 ∙ words_in-listed_line m q) in
    let both = same_sized l.name m.name l.length m.length p.1 q.1 words.1 in
    (listed_is l ∙ ap (λ (t : List ℕ × ℕ). listed_of t.0 t.1) both ∙ sym (listed_is m), parts.1)

pub listed_code : IsCode listed_text IsListing
listed_code = record { one = one_listed }

-- without a LF no such line stands there
pub no_listed_end : (bytes left : List ℕ) → left ≡ bytes → Without 10 left → NoListedAt bytes
no_listed_end bytes left same none l after is e = not_without 10 (listed_line l) after (subst (Without 10) (same ∙ e ∙ listed_at_line l after) none)

module _ (bytes left line rest : List ℕ) (same : left ≡ bytes) (cut : Cuts left 10 line rest) where
  line_is : (l : Listed) (after : List ℕ) → IsListing l → bytes ≡ listed_text l ++ after → line ≡ listed_line l
  line_is l after is e = (one_cut 10 line (listed_line l) rest after cut.first (listed_line-without l is) (sym cut.whole ∙ same ∙ e ∙ listed_at_line l after)).0

  pub no_listed_word : words_in line ≡ [] → NoListedAt bytes
  no_listed_word e l after is f = some_words line e

  module _ (word : List ℕ) (others : List (List ℕ)) (words : words_in line ≡ word ∷ others) where
    words_are : (l : Listed) (after : List ℕ) → IsListing l → bytes ≡ listed_text l ++ after → (word ≡ codes "name") × (others ≡ l.name ∷ decimal l.length ∷ [])
    words_are l after is e =
        first_words word (codes "name") others (l.name ∷ decimal l.length ∷ []) (sym words ∙ ap words_in (line_is l after is e) ∙ words_in-listed_line l is)

    -- nor where the first word is another
    pub other_first_word : word ≢ codes "name" → NoListedAt bytes
    other_first_word other l after is e = other (words_are l after is e).0

    -- nor where the others are not a name and a number
    pub other_words : ((t : List ℕ × ℕ) → IsName t.0 × IsReplyNumber t.1 × (others ≡ t.0 ∷ decimal t.1 ∷ []) → ⊥) → NoListedAt bytes
    other_words none l after is e = none (l.name, l.length) (is.0, is.1, (words_are l after is e).1)

    pub listed_stands : (name : List ℕ) (len len' : ℕ) → word ≡ codes "name" → others ≡ name ∷ decimal len ∷ [] → len' ≡ len
        → bytes ≡ listed_text (record { name = name; length = len' }) ++ rest
    listed_stands name len len' named sized e =
        let line_is : line ≡ listed_line (record { name = name; length = len' }) =
        join-words_in line ∙ ap (join_with_byte 32) (words ∙ ap (λ (w : List ℕ). w ∷ others) named ∙ ap (λ (ws : List (List ℕ)). codes "name" ∷ ws) sized
        ∙ ap (λ n. codes "name" ∷ name ∷ decimal n ∷ []) (sym e)) in
        sym same ∙ cut.whole ∙ ap (λ (l : List ℕ). l ++ 10 ∷ rest) line_is ∙ sym (listed_at_line (record { name = name; length = len' }) rest)
