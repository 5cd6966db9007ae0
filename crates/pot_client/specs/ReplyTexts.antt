-- The texts of replies, as they stand one after another in what a session wrote.
use Rattle.std.specs.Prelude.{◌≡◌, ◌≢◌, ◌++◌, ◌∷◌, ◌↔◌, ℕ, List, Option, Some, None, Result, Ok}
use Rattle.std.specs.Prelude.{Err, Vec, MatchOption, decimal, length, flat_map}
use Rattle.std.specs.declared.alloc.AllocError.{AllocError}
use Rattle.std.specs.Global.{Global}
use Rattle.std.specs.List.{AllByRecursion}
use Rattle.hex.specs.Hex.{encode_lower}
use Rattle.pot_bytes.specs.declared.digest.Digest.{Digest}
use Rattle.pot_index.specs.declared.listed.Listed.{Listed}
use Rattle.pot_script.specs.declared.reply.Reply.{Reply}
use Rattle.pot_script.specs.Replies.{listed_text, reply_text}
use Rattle.pot_client.specs.declared.kind.ReplyKind.{ReplyKind}
use Rattle.pot_client.specs.ReplyKinds.{kind_of}
use Rattle.pot_client.specs.ReplyWords.{IsByteDigest, IsListing, IsReplyNumber, IsReply, behind, fields}

-- this reply is of this kind, and its first line has these words behind its first
pub record IsReplyLineOf (kind : ReplyKind) (words : List (List ℕ)) (r : Reply) : Type 0 where
  pub kind_is : kind_of r ≡ kind
  pub is : IsReply r
  pub words_are : words ≡ fields r

-- the reply of such a line; None exactly where no reply has it
abbrev pub ReadsReplyLine : ReplyKind → List (List ℕ) → Option Reply → Type 0
ReadsReplyLine kind words result =
    MatchOption result ((r : Reply) → IsReplyLineOf kind words r → ⊥) (IsReplyLineOf kind words)

-- the text of no reply stands at the front of these bytes
abbrev pub NoReplyAt : List ℕ → Type 0
NoReplyAt bytes = (r : Reply) (after : List ℕ) → IsReply r → bytes ≢ reply_text r ++ after

-- the text of this reply stands there, and these bytes behind it
abbrev pub ReplyStandsAt : List ℕ → List ℕ → Reply → Type 0
ReplyStandsAt bytes after r = IsReply r × (bytes ≡ reply_text r ++ after)

-- the reply that is next was taken off the bytes; None exactly where none is, and then nothing was
abbrev pub TakesNext : List ℕ → List ℕ → Option Reply → Type 0
TakesNext old new result = MatchOption result (NoReplyAt old × (new ≡ old)) (ReplyStandsAt old new)

-- which reply stands at the front of the bytes is told by its line and by what stands behind that
abbrev pub BeginsReply : List ℕ → ReplyKind → List (List ℕ) → List ℕ → Type 0
BeginsReply bytes kind words rest =
    (r : Reply) (after : List ℕ) → IsReply r →
    (bytes ≡ reply_text r ++ after) ↔ (IsReplyLineOf kind words r × (rest ≡ behind r ++ after))

-- the reply of such a line, and what stands behind the line was taken; None exactly where there is
-- none
abbrev pub EndsReply : ReplyKind → List (List ℕ) → List ℕ → List ℕ → Option Reply → Type 0
EndsReply kind words old new result =
    MatchOption result
    ((r : Reply) (after : List ℕ) → IsReplyLineOf kind words r → old ≢ behind r ++ after)
    (λ r. IsReplyLineOf kind words r × (old ≡ behind r ++ new))

-- the line of no published name stands at the front of these bytes
abbrev pub NoListedAt : List ℕ → Type 0
NoListedAt bytes = (l : Listed) (after : List ℕ) → IsListing l → bytes ≢ listed_text l ++ after

-- the name whose line is next was taken; None exactly where none is
abbrev pub TakesListed : List ℕ → List ℕ → Option Listed → Type 0
TakesListed old new result =
    MatchOption result (NoListedAt old) (λ l. IsListing l × (old ≡ listed_text l ++ new))

-- these are so many published names
abbrev pub AreListed : ℕ → List Listed → Type 0
AreListed count names = (length names ≡ count) × AllByRecursion IsListing names

-- the lines of so many published names were taken; None exactly where they are not next
abbrev pub TakesNames : ℕ → List ℕ → List ℕ → Option (Vec Listed Global) → Type 0
TakesNames count old new result =
    MatchOption result
    ((ls : List Listed) (after : List ℕ) → AreListed count ls
    → old ≢ flat_map listed_text ls ++ after)
    (λ names. AreListed count names.items × (old ≡ flat_map listed_text names.items ++ new))

-- the word and a number were taken; None exactly where they are not next
abbrev pub TakesCount : List ℕ → List (List ℕ) → List (List ℕ) → Option ℕ → Type 0
TakesCount word old new result =
    MatchOption result
    ((n : ℕ) (others : List (List ℕ)) → IsReplyNumber n → old ≢ word ∷ decimal n ∷ others)
    (λ n. IsReplyNumber n × (old ≡ word ∷ decimal n ∷ new))

-- the digest of which this is the text; None exactly where it is that of none
abbrev pub ReadsDigest : List ℕ → Option Digest → Type 0
ReadsDigest word result =
    MatchOption result
    ((d : Digest) → IsByteDigest d → word ≢ encode_lower d.bytes)
    (λ d. IsByteDigest d × (word ≡ encode_lower d.bytes))

-- the bytes are the texts of these replies
abbrev pub ArePrinted : List ℕ → List Reply → Type 0
ArePrinted bytes rs = AllByRecursion IsReply rs × (bytes ≡ flat_map reply_text rs)

-- the replies of which the bytes are the texts; None exactly where they are those of none
abbrev pub ReadsAll : List ℕ → Option (Vec Reply Global) → Type 0
ReadsAll bytes result =
    MatchOption result
    ((rs : List Reply) → ArePrinted bytes rs → ⊥)
    (λ replies. ArePrinted bytes replies.items)

-- these replies were read, unless memory ran out
abbrev pub ReadsBack : Result (Option (Vec Reply Global)) AllocError → List Reply → Type 0
ReadsBack (Ok (Some replies)) rs = replies.items ≡ rs
ReadsBack (Ok None) rs = ⊥
ReadsBack (Err e) rs = Unit {0}
