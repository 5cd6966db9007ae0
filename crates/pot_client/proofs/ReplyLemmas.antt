-- No reply's text begins another's.
use Rattle.std.proofs.Common.{◌≡◌, ℕ, List, ◌∷◌, ◌++◌, length, refl, sym, ap, ◌∙◌, append_assoc, arith}
use Rattle.std.specs.Prelude.{codes, decimal}
use Rattle.pot_index.specs.declared.listed.Listed.{Listed}
use Rattle.pot_script.specs.declared.reply.Reply.{Reply}
use Rattle.pot_script.specs.declared.reply.Reply.TheVariants as replies
use Rattle.pot_script.specs.Replies.{listed_text, reply_text}
use Rattle.pot_script.specs.Words.{words_in}
use Rattle.pot_script.proofs.CommandLemmas.{first_words}
use Rattle.pot_script.proofs.WordLemmas.{one_cut, tails}
use Rattle.pot_client.specs.ReplyKinds.{keyword, kind_of}
use Rattle.pot_client.specs.ReplyWords.{IsListing, IsReply, behind, fields}
use Rattle.pot_client.proofs.FieldLemmas.{same_name, same_number, same_sized, same_split, same_two, same_three, same_group, same_lost, same_odd}
use Rattle.pot_client.proofs.KindLemmas.{keyword_injective, only_stored, only_file, only_names, only_group, only_scrubbed, only_repaired, only_replaced, only_migrated, only_long, only_exists, only_full, only_absent, only_lost, only_odd, only_fault, only_logfull, only_noarchive, only_inuse, only_renewed, only_often}
use Rattle.pot_client.proofs.LineLemmas.{reply_line, words_in-reply_line, reply_line-without, text_at_line, index_no_number}
use Rattle.pot_client.proofs.ListedLemmas.{listed_code}
use Rattle.pot_client.proofs.SequenceLemmas.{IsCode, same_fronts, same_number_of}

-- s is the reply r and what follows it is the same, if its words and what follows its line are
abbrev Same : Reply → List ℕ → List ℕ → Reply → Type 0
Same r x y s = IsReply s → fields r ≡ fields s → behind r ++ x ≡ behind s ++ y → (r ≡ s) × (x ≡ y)

same_file : (name bytes x y : List ℕ) → IsReply (replies.File name bytes) → (other more : List ℕ) → Same (replies.File name bytes) x y (replies.File other more)
same_file name bytes x y p other more q same e =
    let words = same_sized name other (length bytes) (length more) p.1 q.1 same in
    let parts = same_fronts bytes more (10 ∷ x) (10 ∷ y) (ap (λ (t : List ℕ × ℕ). t.1) words) (sym (append_assoc bytes (codes "\n") x) ∙ e ∙ append_assoc more (codes "\n") y) in
    (ap (λ (n : List ℕ). replies.File n bytes) (ap (λ (t : List ℕ × ℕ). t.0) words) ∙ ap (λ (b : List ℕ). replies.File other b) parts.0, tails 10 10 x y parts.1)

same_names : (names : List Listed) (x y : List ℕ) → IsReply (replies.Names names) → (others : List Listed) → Same (replies.Names names) x y (replies.Names others)
same_names names x y p others q same e =
    let parts = same_number_of listed_text IsListing listed_code names others x y p.1 q.1 (same_number (length names) (length others) p.0 q.0 same) e in
    (ap (λ (l : List Listed). replies.Names l) parts.0, parts.1)

same_reply : (r s : Reply) (x y : List ℕ) → kind_of r ≡ kind_of s → IsReply r → Same r x y s
same_reply (replies.Stored name pieces shards) s x y k p =
    only_stored (Same (replies.Stored name pieces shards) x y) (λ a m n q same e.
    (ap (λ (t : List ℕ × ℕ × ℕ). replies.Stored t.0 t.1 t.2) (same_split name a pieces m shards n p.1 q.1 p.2 q.2 same), e)) s (sym k)
same_reply (replies.File name bytes) s x y k p = only_file (Same (replies.File name bytes) x y) (same_file name bytes x y p) s (sym k)
same_reply (replies.Names names) s x y k p = only_names (Same (replies.Names names) x y) (same_names names x y p) s (sym k)
same_reply (replies.Group group live lost broken stripe column) s x y k p =
    only_group (Same (replies.Group group live lost broken stripe column) x y) (λ g l o b t c q same e.
    (same_group group live lost broken stripe column g l o b t c p q same, e)) s (sym k)
same_reply (replies.Scrubbed group seen gone) s x y k p =
    only_scrubbed (Same (replies.Scrubbed group seen gone) x y) (λ a b c q same e.
    (ap (λ (t : ℕ × ℕ × ℕ). replies.Scrubbed t.0 t.1 t.2) (same_three group a seen b gone c (omega (arith, p.0)) (omega (arith, q.0)) p.1 q.1 p.2 q.2 same), e)) s (sym k)
same_reply (replies.Repaired group mended left) s x y k p =
    only_repaired (Same (replies.Repaired group mended left) x y) (λ a b c q same e.
    (ap (λ (t : ℕ × ℕ × ℕ). replies.Repaired t.0 t.1 t.2) (same_three group a mended b left c (omega (arith, p.0)) (omega (arith, q.0)) p.1 q.1 p.2 q.2 same), e)) s (sym k)
same_reply (replies.Replaced from to slots) s x y k p =
    only_replaced (Same (replies.Replaced from to slots) x y) (λ a b c q same e.
    (ap (λ (t : ℕ × ℕ × ℕ). replies.Replaced t.0 t.1 t.2) (same_three from a to b slots c p.0 q.0 p.1 q.1 p.2 q.2 same), e)) s (sym k)
same_reply (replies.Migrated from to slots) s x y k p =
    only_migrated (Same (replies.Migrated from to slots) x y) (λ a b c q same e.
    (ap (λ (t : ℕ × ℕ × ℕ). replies.Migrated t.0 t.1 t.2) (same_three from a to b slots c p.0 q.0 p.1 q.1 p.2 q.2 same), e)) s (sym k)
same_reply (replies.Long name len) s x y k p =
    only_long (Same (replies.Long name len) x y) (λ a n q same e.
    (ap (λ (t : List ℕ × ℕ). replies.Long t.0 t.1) (same_sized name a len n p.1 q.1 same), e)) s (sym k)
same_reply (replies.Exists name) s x y k p =
    only_exists (Same (replies.Exists name) x y) (λ a q same e. (ap (λ (n : List ℕ). replies.Exists n) (same_name name a same), e)) s (sym k)
same_reply (replies.Full group) s x y k p =
    only_full (Same (replies.Full group) x y) (λ g q same e.
    (ap (λ (n : ℕ). replies.Full n) (same_number group g (omega (arith, p)) (omega (arith, q)) same), e)) s (sym k)
same_reply (replies.Absent name) s x y k p =
    only_absent (Same (replies.Absent name) x y) (λ a q same e. (ap (λ (n : List ℕ). replies.Absent n) (same_name name a same), e)) s (sym k)
same_reply (replies.Lost name piece fragment have need) s x y k p =
    only_lost (Same (replies.Lost name piece fragment have need) x y) (λ a i f h n q same e.
    (same_lost name piece fragment have need a i f h n p q same, e)) s (sym k)
same_reply (replies.Odd name wanted found) s x y k p =
    only_odd (Same (replies.Odd name wanted found) x y) (λ a v w q same e. (same_odd name wanted found a v w p q same, e)) s (sym k)
same_reply (replies.Fault group column) s x y k p =
    only_fault (Same (replies.Fault group column) x y) (λ a b q same e.
    (ap (λ (t : ℕ × ℕ). replies.Fault t.0 t.1) (same_two group a column b p.0 q.0 p.1 q.1 same), e)) s (sym k)
same_reply (replies.LogFull group) s x y k p =
    only_logfull (Same (replies.LogFull group) x y)
    (λ g q same e. (ap (λ (n : ℕ). replies.LogFull n) (same_number group g (omega (arith, p)) (omega (arith, q)) same), e))
    (λ q same e. absurd (index_no_number group (omega (arith, p)) (same_name (decimal group) (codes "index") same))) s (sym k)
same_reply replies.IndexLogFull s x y k p =
    only_logfull (Same replies.IndexLogFull x y)
    (λ g q same e. absurd (index_no_number g (omega (arith, q)) (same_name (decimal g) (codes "index") (sym same))))
    (λ q same e. (refl, e)) s (sym k)
same_reply (replies.NoArchive n) s x y k p =
    only_noarchive (Same (replies.NoArchive n) x y) (λ m q same e. (ap (λ (i : ℕ). replies.NoArchive i) (same_number n m p q same), e)) s (sym k)
same_reply (replies.InUse n) s x y k p =
    only_inuse (Same (replies.InUse n) x y) (λ m q same e. (ap (λ (i : ℕ). replies.InUse i) (same_number n m p q same), e)) s (sym k)
same_reply (replies.Renewed name pieces shards) s x y k p =
    only_renewed (Same (replies.Renewed name pieces shards) x y) (λ a m n q same e.
    (ap (λ (t : List ℕ × ℕ × ℕ). replies.Renewed t.0 t.1 t.2) (same_split name a pieces m shards n p.1 q.1 p.2 q.2 same), e)) s (sym k)
same_reply (replies.Often name) s x y k p =
    only_often (Same (replies.Often name) x y) (λ a q same e. (ap (λ (n : List ℕ). replies.Often n) (same_name name a same), e)) s (sym k)

pub one_reply : (r s : Reply) (x y : List ℕ) → IsReply r → IsReply s → reply_text r ++ x ≡ reply_text s ++ y → (r ≡ s) × (x ≡ y)
one_reply r s x y p q e =
    let parts = one_cut 10 (reply_line r) (reply_line s) (behind r ++ x) (behind s ++ y) (reply_line-without r p) (reply_line-without s q) (sym (text_at_line r x) ∙ e ∙ text_at_line s y) in
    let words = first_words (keyword (kind_of r)) (keyword (kind_of s)) (fields r) (fields s) (sym (words_in-reply_line r p) ∙ ap words_in parts.0 ∙ words_in-reply_line s q) in
    same_reply r s x y (keyword_injective (kind_of r) (kind_of s) words.0) p q words.1 parts.1

pub reply_code : IsCode reply_text IsReply
reply_code = record { one = one_reply }
