-- What a run writes: a reply for each command, or the one line with which a run is refused.
use Rattle.std.specs.Prelude.{ℕ, List, ◌++◌, Bool, true, false, length, codes, decimal, flat_map}
use Rattle.hex.specs.Hex.{encode_lower}
use Rattle.pot_bytes.specs.declared.digest.Digest.{Digest}
use Rattle.pot_index.specs.declared.listed.Listed.{Listed}
use Rattle.pot_script.specs.declared.reply.Reply.{Reply}
use Rattle.pot_script.specs.declared.reply.Reply.TheVariants as replies

-- a space and a number
abbrev pub spaced : ℕ → List ℕ
spaced n = codes " " ++ decimal n

-- a space and a digest, as 64 hexadecimal digits of lower case
abbrev pub in_hex : Digest → List ℕ
in_hex d = codes " " ++ encode_lower d.bytes

-- the line of a published name
abbrev pub listed_text : Listed → List ℕ
listed_text l = codes "name " ++ l.name ++ spaced l.length ++ codes "\n"

-- The text of a reply. Each ends with LF (10).
abbrev pub reply_text : Reply → List ℕ
reply_text (replies.Stored name pieces shards) =
    codes "stored " ++ name ++ spaced pieces ++ spaced shards ++ codes "\n"
reply_text (replies.File name bytes) =
    codes "file " ++ name ++ spaced (length bytes) ++ codes "\n" ++ bytes ++ codes "\n"
reply_text (replies.Names names) =
    codes "names" ++ spaced (length names) ++ codes "\n" ++ flat_map listed_text names
reply_text (replies.Group group live lost broken stripe column) =
    codes "group" ++ spaced group ++ codes " live" ++ spaced live ++ codes " lost" ++ spaced lost
    ++ codes " broken" ++ spaced broken
    ++ codes " cursor" ++ spaced stripe ++ spaced column ++ codes "\n"
reply_text (replies.Scrubbed group seen gone) =
    codes "scrubbed" ++ spaced group ++ spaced seen ++ spaced gone ++ codes "\n"
reply_text (replies.Repaired group mended left) =
    codes "repaired" ++ spaced group ++ spaced mended ++ spaced left ++ codes "\n"
reply_text (replies.Replaced from to slots) =
    codes "replaced" ++ spaced from ++ spaced to ++ spaced slots ++ codes "\n"
reply_text (replies.Migrated from to slots) =
    codes "migrated" ++ spaced from ++ spaced to ++ spaced slots ++ codes "\n"
reply_text (replies.Long name len) = codes "long " ++ name ++ spaced len ++ codes "\n"
reply_text (replies.Exists name) = codes "exists " ++ name ++ codes "\n"
reply_text (replies.Full group) = codes "full" ++ spaced group ++ codes "\n"
reply_text (replies.Absent name) = codes "absent " ++ name ++ codes "\n"
reply_text (replies.Lost name piece fragment have need) =
    codes "lost " ++ name ++ spaced piece ++ spaced fragment ++ spaced have ++ spaced need
    ++ codes "\n"
reply_text (replies.Odd name wanted found) =
    codes "odd " ++ name ++ in_hex wanted ++ in_hex found ++ codes "\n"
reply_text (replies.Fault group column) =
    codes "fault" ++ spaced group ++ spaced column ++ codes "\n"
reply_text (replies.LogFull group) = codes "logfull" ++ spaced group ++ codes "\n"
reply_text replies.IndexLogFull = codes "logfull index\n"
reply_text (replies.NoArchive number) = codes "noarchive" ++ spaced number ++ codes "\n"
reply_text (replies.InUse number) = codes "inuse" ++ spaced number ++ codes "\n"
reply_text (replies.Renewed name pieces shards) =
    codes "renewed " ++ name ++ spaced pieces ++ spaced shards ++ codes "\n"
reply_text (replies.Often name) = codes "often " ++ name ++ codes "\n"

-- the command was not done
abbrev pub is_refusal : Reply → Bool
is_refusal (replies.Long name len) = true
is_refusal (replies.Exists name) = true
is_refusal (replies.Full group) = true
is_refusal (replies.Absent name) = true
is_refusal (replies.Lost name piece fragment have need) = true
is_refusal (replies.Odd name wanted found) = true
is_refusal (replies.Fault group column) = true
is_refusal (replies.LogFull group) = true
is_refusal replies.IndexLogFull = true
is_refusal (replies.NoArchive number) = true
is_refusal (replies.InUse number) = true
is_refusal (replies.Often name) = true
is_refusal _ = false

-- the script left its grammar at the line of this number
abbrev pub bad_line_text : ℕ → List ℕ
bad_line_text number = codes "bad line" ++ spaced number ++ codes "\n"

-- the words after the program's name are refused
abbrev pub words_refused_text : List ℕ
words_refused_text = codes "words refused\n"
