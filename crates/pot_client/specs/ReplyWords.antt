-- The words of a reply's first line, and what stands behind that line.
use Rattle.std.specs.Prelude.{◌≡◌, ◌≤◌, ◌++◌, ◌∷◌, [], ℕ, List, Option, Some, None, length, codes}
use Rattle.std.specs.Prelude.{decimal, flat_map}
use Rattle.std.specs.List.{AllByRecursion}
use Rattle.hex.specs.Hex.{IsBytes, encode_lower}
use Rattle.pot_bytes.specs.Names.{IsName}
use Rattle.pot_bytes.specs.declared.digest.Digest.{Digest}
use Rattle.pot_index.specs.declared.listed.Listed.{Listed}
use Rattle.pot_script.specs.declared.reply.Reply.{Reply}
use Rattle.pot_script.specs.declared.reply.Reply.TheVariants as replies
use Rattle.pot_script.specs.Replies.{listed_text}

-- the numbers in decimal
abbrev pub decimals : List ℕ → List (List ℕ)
decimals [] = []
decimals (n ∷ ns) = decimal n ∷ decimals ns

-- the words of a reply's first line behind its first word, which tells the kind
abbrev pub fields : Reply → List (List ℕ)
fields (replies.Stored name pieces shards) = name ∷ decimals (pieces ∷ shards ∷ [])
fields (replies.File name bytes) = name ∷ decimals (length bytes ∷ [])
fields (replies.Names names) = decimals (length names ∷ [])
fields (replies.Group group live lost broken stripe column) =
    decimal group ∷ codes "live" ∷ decimal live ∷ codes "lost" ∷ decimal lost ∷ codes "broken"
    ∷ decimal broken
    ∷ codes "cursor" ∷ decimals (stripe ∷ column ∷ [])
fields (replies.Scrubbed group seen gone) = decimals (group ∷ seen ∷ gone ∷ [])
fields (replies.Repaired group mended left) = decimals (group ∷ mended ∷ left ∷ [])
fields (replies.Replaced from to slots) = decimals (from ∷ to ∷ slots ∷ [])
fields (replies.Migrated from to slots) = decimals (from ∷ to ∷ slots ∷ [])
fields (replies.Long name len) = name ∷ decimals (len ∷ [])
fields (replies.Exists name) = name ∷ []
fields (replies.Full group) = decimals (group ∷ [])
fields (replies.Absent name) = name ∷ []
fields (replies.Lost name piece fragment have need) =
    name ∷ decimals (piece ∷ fragment ∷ have ∷ need ∷ [])
fields (replies.Odd name wanted found) =
    name ∷ encode_lower wanted.bytes ∷ encode_lower found.bytes ∷ []
fields (replies.Fault group column) = decimals (group ∷ column ∷ [])
fields (replies.LogFull group) = decimals (group ∷ [])
fields replies.IndexLogFull = codes "index" ∷ []
fields (replies.NoArchive number) = decimals (number ∷ [])
fields (replies.InUse number) = decimals (number ∷ [])
fields (replies.Renewed name pieces shards) = name ∷ decimals (pieces ∷ shards ∷ [])
fields (replies.Often name) = name ∷ []

-- what stands behind the first line
abbrev pub behind : Reply → List ℕ
behind (replies.File name bytes) = bytes ++ codes "\n"
behind (replies.Names names) = flat_map listed_text names
behind _ = []

-- a number of 32 bits
abbrev pub IsReplyNumber : ℕ → Type 0
IsReplyNumber n = n ≤ 4294967295

-- a number of 8 bits
abbrev pub IsByte : ℕ → Type 0
IsByte n = n ≤ 255

-- 32 bytes
abbrev pub IsByteDigest : Digest → Type 0
IsByteDigest d = (length d.bytes ≡ 32) × IsBytes d.bytes

-- a published name whose length has 32 bits
abbrev pub IsListing : Listed → Type 0
IsListing l = IsName l.name × IsReplyNumber l.length

-- a reply whose names are names, and whose numbers have the bits of their types; a length has 32
-- bits
abbrev pub IsReply : Reply → Type 0
IsReply (replies.Stored name pieces shards) = IsName name × IsReplyNumber pieces × IsReplyNumber shards
IsReply (replies.File name bytes) = IsName name × IsReplyNumber (length bytes)
IsReply (replies.Names names) = IsReplyNumber (length names) × AllByRecursion IsListing names
IsReply (replies.Group group live lost broken stripe column) =
    IsByte group × IsReplyNumber live × IsReplyNumber lost × IsReplyNumber broken × IsReplyNumber stripe × IsByte column
IsReply (replies.Scrubbed group seen gone) = IsByte group × IsReplyNumber seen × IsReplyNumber gone
IsReply (replies.Repaired group mended left) = IsByte group × IsReplyNumber mended × IsReplyNumber left
IsReply (replies.Replaced from to slots) = IsReplyNumber from × IsReplyNumber to × IsReplyNumber slots
IsReply (replies.Migrated from to slots) = IsReplyNumber from × IsReplyNumber to × IsReplyNumber slots
IsReply (replies.Long name len) = IsName name × IsReplyNumber len
IsReply (replies.Exists name) = IsName name
IsReply (replies.Full group) = IsByte group
IsReply (replies.Absent name) = IsName name
IsReply (replies.Lost name piece fragment have need) =
    IsName name × IsReplyNumber piece × IsByte fragment × IsByte have × IsByte need
IsReply (replies.Odd name wanted found) = IsName name × IsByteDigest wanted × IsByteDigest found
IsReply (replies.Fault group column) = IsByte group × IsByte column
IsReply (replies.LogFull group) = IsByte group
IsReply replies.IndexLogFull = Unit {0}
IsReply (replies.NoArchive number) = IsReplyNumber number
IsReply (replies.InUse number) = IsReplyNumber number
IsReply (replies.Renewed name pieces shards) = IsName name × IsReplyNumber pieces × IsReplyNumber shards
IsReply (replies.Often name) = IsName name

-- the only value of which P holds
abbrev pub IsOnly : {T : Type 0} → (T → Type 0) → Option T → Type 0
IsOnly {T} P None = (t : T) → P t → ⊥
IsOnly {T} P (Some t) = P t × ((s : T) → P s → s ≡ t)
