-- Words tell the names and numbers that they write.
use Rattle.std.proofs.Common.{◌≡◌, ℕ, List, [], ◌∷◌, refl, sym, ap, ◌∙◌, arith}
use Rattle.std.specs.Prelude.{codes, decimal, Result, Ok}
use Rattle.std.proofs.lemmas.Fmt.{decimal_injective}
use Rattle.hex.specs.Hex.{decode_of, encode_lower}
use Rattle.hex.specs.declared.error.FromHexError.{FromHexError}
use Rattle.hex.proofs.HexLemmas.{decode_of-encode_lower}
use Rattle.pot_bytes.specs.declared.digest.Digest.{Digest}
use Rattle.pot_script.specs.declared.reply.Reply.TheVariants as replies
use Rattle.pot_client.specs.ReplyWords.{IsReplyNumber, IsByte, IsByteDigest, IsReply, fields}

one : (m n : ℕ) → IsReplyNumber m → IsReplyNumber n → decimal m ≡ decimal n → m ≡ n
one m n p q e = decimal_injective m n (omega (arith, p)) (omega (arith, q)) e

pub second_of : (v w : List ℕ) (vs ws : List (List ℕ)) → v ∷ vs ≡ w ∷ ws → vs ≡ ws
second_of v w vs ws e = cc

pub third_of : {words : List (List ℕ)} (v w v' w' : List ℕ) (vs ws : List (List ℕ)) → words ≡ v ∷ w ∷ vs → words ≡ v' ∷ w' ∷ ws → vs ≡ ws
third_of {words} v w v' w' vs ws e f = both (sym e ∙ f)
  where
    both : v ∷ w ∷ vs ≡ v' ∷ w' ∷ ws → vs ≡ ws
    both e = cc

pub same_number : (m n : ℕ) → IsReplyNumber m → IsReplyNumber n → decimal m ∷ [] ≡ decimal n ∷ [] → m ≡ n
same_number m n p q e = one m n p q (cc)

pub same_sized : (a b : List ℕ) (m n : ℕ) → IsReplyNumber m → IsReplyNumber n → a ∷ decimal m ∷ [] ≡ b ∷ decimal n ∷ [] → ◌≡◌ {A = List ℕ × ℕ} (a, m) (b, n)
same_sized a b m n p q e =
    let name : a ≡ b = cc in
    let number = one m n p q (cc) in
    ap {B = List ℕ × ℕ} (λ (t : List ℕ). (t, m)) name ∙ ap {B = List ℕ × ℕ} (λ (t : ℕ). (b, t)) number

pub same_split : (a b : List ℕ) (m n m' n' : ℕ) → IsReplyNumber m → IsReplyNumber n → IsReplyNumber m' → IsReplyNumber n' → a ∷ decimal m ∷ decimal m' ∷ [] ≡ b ∷ decimal n ∷ decimal n' ∷ [] → ◌≡◌ {A = List ℕ × ℕ × ℕ} (a, m, m') (b, n, n')
same_split a b m n m' n' p q p' q' e =
    let name : a ≡ b = cc in
    let number = one m n p q (cc) in
    let number' = one m' n' p' q' (cc) in
    ap {B = List ℕ × ℕ × ℕ} (λ (t : List ℕ). (t, m, m')) name ∙ ap {B = List ℕ × ℕ × ℕ} (λ (t : ℕ). (b, t, m')) number ∙ ap {B = List ℕ × ℕ × ℕ} (λ (t : ℕ). (b, n, t)) number'

pub same_two : (m n m' n' : ℕ) → IsByte m → IsByte n → IsByte m' → IsByte n' → decimal m ∷ decimal m' ∷ [] ≡ decimal n ∷ decimal n' ∷ [] → ◌≡◌ {A = ℕ × ℕ} (m, m') (n, n')
same_two m n m' n' p q p' q' e =
    let number = one m n (omega (arith, p)) (omega (arith, q)) (cc) in
    let number' = one m' n' (omega (arith, p')) (omega (arith, q')) (cc) in
    ap {B = ℕ × ℕ} (λ (t : ℕ). (t, m')) number ∙ ap {B = ℕ × ℕ} (λ (t : ℕ). (n, t)) number'

pub same_three : (m n m' n' k l : ℕ) → IsReplyNumber m → IsReplyNumber n → IsReplyNumber m' → IsReplyNumber n' → IsReplyNumber k → IsReplyNumber l → decimal m ∷ decimal m' ∷ decimal k ∷ [] ≡ decimal n ∷ decimal n' ∷ decimal l ∷ [] → ◌≡◌ {A = ℕ × ℕ × ℕ} (m, m', k) (n, n', l)
same_three m n m' n' k l p q p' q' r s e =
    let first = one m n p q (cc) in
    let second = one m' n' p' q' (cc) in
    let third = one k l r s (cc) in
    ap {B = ℕ × ℕ × ℕ} (λ (t : ℕ). (t, m', k)) first ∙ ap {B = ℕ × ℕ × ℕ} (λ (t : ℕ). (n, t, k)) second ∙ ap {B = ℕ × ℕ × ℕ} (λ (t : ℕ). (n, n', t)) third

pub same_name : (a b : List ℕ) → a ∷ [] ≡ b ∷ [] → a ≡ b
same_name a b e = cc

-- a group's line
group_words : (a b c d e f a' b' c' d' e' f' : List ℕ)
    → a ∷ codes "live" ∷ b ∷ codes "lost" ∷ c ∷ codes "broken" ∷ d ∷ codes "cursor" ∷ e ∷ f ∷ []
    ≡ a' ∷ codes "live" ∷ b' ∷ codes "lost" ∷ c' ∷ codes "broken" ∷ d' ∷ codes "cursor" ∷ e' ∷ f' ∷ []
    → (a ≡ a') × (b ≡ b') × (c ≡ c') × (d ≡ d') × (e ≡ e') × (f ≡ f')
group_words a b c d e f a' b' c' d' e' f' same = (cc, cc, cc, cc, cc, cc)

pub same_group : (g l o b s c g' l' o' b' s' c' : ℕ) → IsReply (replies.Group g l o b s c) → IsReply (replies.Group g' l' o' b' s' c')
    → fields (replies.Group g l o b s c) ≡ fields (replies.Group g' l' o' b' s' c') → replies.Group g l o b s c ≡ replies.Group g' l' o' b' s' c'
same_group g l o b s c g' l' o' b' s' c' p q e =
    let words = group_words (decimal g) (decimal l) (decimal o) (decimal b) (decimal s) (decimal c) (decimal g') (decimal l') (decimal o') (decimal b') (decimal s') (decimal c') e in
    let group = one g g' (omega (arith, p.0)) (omega (arith, q.0)) words.0 in
    let live = one l l' p.1 q.1 words.1 in
    let lost = one o o' p.2 q.2 words.2 in
    let broken = one b b' p.3 q.3 words.3 in
    let stripe = one s s' p.4 q.4 words.4 in
    let column = one c c' (omega (arith, p.5)) (omega (arith, q.5)) words.5 in
    cc

five_words : (a b c d e a' b' c' d' e' : List ℕ) → a ∷ b ∷ c ∷ d ∷ e ∷ [] ≡ a' ∷ b' ∷ c' ∷ d' ∷ e' ∷ [] → (a ≡ a') × (b ≡ b') × (c ≡ c') × (d ≡ d') × (e ≡ e')
five_words a b c d e a' b' c' d' e' same = (cc, cc, cc, cc, cc)

pub same_lost : (a : List ℕ) (i f h n : ℕ) (a' : List ℕ) (i' f' h' n' : ℕ) → IsReply (replies.Lost a i f h n) → IsReply (replies.Lost a' i' f' h' n')
    → fields (replies.Lost a i f h n) ≡ fields (replies.Lost a' i' f' h' n') → replies.Lost a i f h n ≡ replies.Lost a' i' f' h' n'
same_lost a i f h n a' i' f' h' n' p q e =
    let words = five_words a (decimal i) (decimal f) (decimal h) (decimal n) a' (decimal i') (decimal f') (decimal h') (decimal n') e in
    let name = words.0 in
    let piece = one i i' p.1 q.1 words.1 in
    let fragment = one f f' (omega (arith, p.2)) (omega (arith, q.2)) words.2 in
    let have = one h h' (omega (arith, p.3)) (omega (arith, q.3)) words.3 in
    let need = one n n' (omega (arith, p.4)) (omega (arith, q.4)) words.4 in
    cc

-- the hexadecimal digits of a digest tell it
digest_with : List ℕ → Digest
digest_with bytes = record { bytes = bytes }

digest_is : (d : Digest) → d ≡ digest_with d.bytes
unfolding digest_with
digest_is d = refl

same_Ok : (a b : List ℕ) → ◌≡◌ {A = Result (List ℕ) FromHexError} (Ok a) (Ok b) → a ≡ b
same_Ok a b e = cc

pub same_digest : (d d' : Digest) → IsByteDigest d → IsByteDigest d' → encode_lower d.bytes ≡ encode_lower d'.bytes → d ≡ d'
same_digest d d' p q e =
    let bytes : d.bytes ≡ d'.bytes = same_Ok d.bytes d'.bytes (sym (decode_of-encode_lower d.bytes p.1) ∙ ap decode_of e ∙ decode_of-encode_lower d'.bytes q.1) in
    digest_is d ∙ ap digest_with bytes ∙ sym (digest_is d')

three_words : (a b c a' b' c' : List ℕ) → a ∷ b ∷ c ∷ [] ≡ a' ∷ b' ∷ c' ∷ [] → (a ≡ a') × (b ≡ b') × (c ≡ c')
three_words a b c a' b' c' same = (cc, cc, cc)

pub same_odd : (a : List ℕ) (w f : Digest) (a' : List ℕ) (w' f' : Digest) → IsReply (replies.Odd a w f) → IsReply (replies.Odd a' w' f')
    → fields (replies.Odd a w f) ≡ fields (replies.Odd a' w' f') → replies.Odd a w f ≡ replies.Odd a' w' f'
same_odd a w f a' w' f' p q e =
    let words = three_words a (encode_lower w.bytes) (encode_lower f.bytes) a' (encode_lower w'.bytes) (encode_lower f'.bytes) e in
    let name = words.0 in
    let wanted = same_digest w w' p.1 q.1 words.1 in
    let found = same_digest f f' p.2 q.2 words.2 in
    cc
