-- The kinds of replies, each with its first word.
use Rattle.std.specs.Prelude.{ℕ, List, codes}
use Rattle.pot_script.specs.declared.reply.Reply.{Reply}
use Rattle.pot_script.specs.declared.reply.Reply.TheVariants as replies
use Rattle.pot_client.specs.declared.kind.ReplyKind.{ReplyKind}
use Rattle.pot_client.specs.declared.kind.ReplyKind.TheVariants as kinds

-- the first word of a reply
abbrev pub keyword : ReplyKind → List ℕ
keyword kinds.Stored = codes "stored"
keyword kinds.File = codes "file"
keyword kinds.Names = codes "names"
keyword kinds.Group = codes "group"
keyword kinds.Scrubbed = codes "scrubbed"
keyword kinds.Repaired = codes "repaired"
keyword kinds.Replaced = codes "replaced"
keyword kinds.Migrated = codes "migrated"
keyword kinds.Long = codes "long"
keyword kinds.Exists = codes "exists"
keyword kinds.Full = codes "full"
keyword kinds.Absent = codes "absent"
keyword kinds.Lost = codes "lost"
keyword kinds.Odd = codes "odd"
keyword kinds.Fault = codes "fault"
keyword kinds.LogFull = codes "logfull"
keyword kinds.NoArchive = codes "noarchive"
keyword kinds.InUse = codes "inuse"
keyword kinds.Renewed = codes "renewed"
keyword kinds.Often = codes "often"

-- the kind of a reply; a full log is that of a group or of the index
abbrev pub kind_of : Reply → ReplyKind
kind_of (replies.Stored name pieces shards) = kinds.Stored
kind_of (replies.File name bytes) = kinds.File
kind_of (replies.Names names) = kinds.Names
kind_of (replies.Group group live lost broken stripe column) = kinds.Group
kind_of (replies.Scrubbed group seen gone) = kinds.Scrubbed
kind_of (replies.Repaired group mended left) = kinds.Repaired
kind_of (replies.Replaced from to slots) = kinds.Replaced
kind_of (replies.Migrated from to slots) = kinds.Migrated
kind_of (replies.Long name len) = kinds.Long
kind_of (replies.Exists name) = kinds.Exists
kind_of (replies.Full group) = kinds.Full
kind_of (replies.Absent name) = kinds.Absent
kind_of (replies.Lost name piece fragment have need) = kinds.Lost
kind_of (replies.Odd name wanted found) = kinds.Odd
kind_of (replies.Fault group column) = kinds.Fault
kind_of (replies.LogFull group) = kinds.LogFull
kind_of replies.IndexLogFull = kinds.LogFull
kind_of (replies.NoArchive number) = kinds.NoArchive
kind_of (replies.InUse number) = kinds.InUse
kind_of (replies.Renewed name pieces shards) = kinds.Renewed
kind_of (replies.Often name) = kinds.Often
