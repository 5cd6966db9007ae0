-- The first word of a reply tells its kind, and the kind tells which reply it may be.
use Rattle.std.proofs.Common.{◌≡◌, ◌<◌, ℕ, List, [], ◌∷◌, get_or, refl, sym, ap, ◌∙◌, arith}
use Rattle.std.specs.Prelude.{codes, Option, Some, None, if◌then◌else◌}
use Rattle.std.specs.Str.{bytes_eq}
use Rattle.pot_bytes.specs.declared.digest.Digest.{Digest}
use Rattle.pot_index.specs.declared.listed.Listed.{Listed}
use Rattle.pot_script.specs.declared.reply.Reply.{Reply}
use Rattle.pot_script.specs.declared.reply.Reply.TheVariants as replies
use Rattle.pot_client.specs.declared.kind.ReplyKind.{ReplyKind}
use Rattle.pot_client.specs.declared.kind.ReplyKind.TheVariants as kinds
use Rattle.pot_client.specs.ReplyKinds.{keyword, kind_of}

-- the kind whose replies begin with the word
unfoldable kind_named : List ℕ → Option ReplyKind
kind_named word =
    if bytes_eq word (codes "stored") then Some kinds.Stored
    else (if bytes_eq word (codes "file") then Some kinds.File
    else (if bytes_eq word (codes "names") then Some kinds.Names
    else (if bytes_eq word (codes "group") then Some kinds.Group
    else (if bytes_eq word (codes "scrubbed") then Some kinds.Scrubbed
    else (if bytes_eq word (codes "repaired") then Some kinds.Repaired
    else (if bytes_eq word (codes "replaced") then Some kinds.Replaced
    else (if bytes_eq word (codes "migrated") then Some kinds.Migrated
    else (if bytes_eq word (codes "long") then Some kinds.Long
    else (if bytes_eq word (codes "exists") then Some kinds.Exists
    else (if bytes_eq word (codes "full") then Some kinds.Full
    else (if bytes_eq word (codes "absent") then Some kinds.Absent
    else (if bytes_eq word (codes "lost") then Some kinds.Lost
    else (if bytes_eq word (codes "odd") then Some kinds.Odd
    else (if bytes_eq word (codes "fault") then Some kinds.Fault
    else (if bytes_eq word (codes "logfull") then Some kinds.LogFull
    else (if bytes_eq word (codes "noarchive") then Some kinds.NoArchive
    else (if bytes_eq word (codes "inuse") then Some kinds.InUse
    else (if bytes_eq word (codes "renewed") then Some kinds.Renewed
    else (if bytes_eq word (codes "often") then Some kinds.Often
    else None)))))))))))))))))))

kind_named-keyword : (kind : ReplyKind) → kind_named (keyword kind) ≡ Some kind
unfolding kind_named
kind_named-keyword kinds.Stored = refl
kind_named-keyword kinds.File = refl
kind_named-keyword kinds.Names = refl
kind_named-keyword kinds.Group = refl
kind_named-keyword kinds.Scrubbed = refl
kind_named-keyword kinds.Repaired = refl
kind_named-keyword kinds.Replaced = refl
kind_named-keyword kinds.Migrated = refl
kind_named-keyword kinds.Long = refl
kind_named-keyword kinds.Exists = refl
kind_named-keyword kinds.Full = refl
kind_named-keyword kinds.Absent = refl
kind_named-keyword kinds.Lost = refl
kind_named-keyword kinds.Odd = refl
kind_named-keyword kinds.Fault = refl
kind_named-keyword kinds.LogFull = refl
kind_named-keyword kinds.NoArchive = refl
kind_named-keyword kinds.InUse = refl
kind_named-keyword kinds.Renewed = refl
kind_named-keyword kinds.Often = refl

-- the first word tells the kind
pub keyword_injective : (j k : ReplyKind) → keyword j ≡ keyword k → j ≡ k
keyword_injective j k e =
    let same : Some j ≡ Some k = sym (kind_named-keyword j) ∙ ap kind_named e ∙ kind_named-keyword k in
    cc

-- all kinds, in the order of the code
abbrev pub all_kinds : List ReplyKind
all_kinds =
    kinds.Stored ∷ kinds.File ∷ kinds.Names ∷ kinds.Group ∷ kinds.Scrubbed ∷ kinds.Repaired ∷ kinds.Replaced ∷ kinds.Migrated
    ∷ kinds.Long ∷ kinds.Exists ∷ kinds.Full ∷ kinds.Absent ∷ kinds.Lost ∷ kinds.Odd ∷ kinds.Fault ∷ kinds.LogFull
    ∷ kinds.NoArchive ∷ kinds.InUse ∷ kinds.Renewed ∷ kinds.Often ∷ []

-- what holds of each of them holds of each kind
pub every_kind : (P : ReplyKind → Type 0) → ((i : ℕ) (d : ReplyKind) → i < 20 → P (get_or all_kinds i d)) → (kind : ReplyKind) → P kind
every_kind P h kinds.Stored = h 0 kinds.Stored (omega arith)
every_kind P h kinds.File = h 1 kinds.Stored (omega arith)
every_kind P h kinds.Names = h 2 kinds.Stored (omega arith)
every_kind P h kinds.Group = h 3 kinds.Stored (omega arith)
every_kind P h kinds.Scrubbed = h 4 kinds.Stored (omega arith)
every_kind P h kinds.Repaired = h 5 kinds.Stored (omega arith)
every_kind P h kinds.Replaced = h 6 kinds.Stored (omega arith)
every_kind P h kinds.Migrated = h 7 kinds.Stored (omega arith)
every_kind P h kinds.Long = h 8 kinds.Stored (omega arith)
every_kind P h kinds.Exists = h 9 kinds.Stored (omega arith)
every_kind P h kinds.Full = h 10 kinds.Stored (omega arith)
every_kind P h kinds.Absent = h 11 kinds.Stored (omega arith)
every_kind P h kinds.Lost = h 12 kinds.Stored (omega arith)
every_kind P h kinds.Odd = h 13 kinds.Stored (omega arith)
every_kind P h kinds.Fault = h 14 kinds.Stored (omega arith)
every_kind P h kinds.LogFull = h 15 kinds.Stored (omega arith)
every_kind P h kinds.NoArchive = h 16 kinds.Stored (omega arith)
every_kind P h kinds.InUse = h 17 kinds.Stored (omega arith)
every_kind P h kinds.Renewed = h 18 kinds.Stored (omega arith)
every_kind P h kinds.Often = h 19 kinds.Stored (omega arith)

-- replies of each kind are those of one form, but for a full log
pub only_stored : (P : Reply → Type 0) → ((name : List ℕ) (pieces shards : ℕ) → P (replies.Stored name pieces shards)) → (r : Reply) → kind_of r ≡ kinds.Stored → P r
only_stored P p (replies.Stored name pieces shards) e = p name pieces shards
only_stored P p _ e = absurd (cc)

pub only_file : (P : Reply → Type 0) → ((name bytes : List ℕ) → P (replies.File name bytes)) → (r : Reply) → kind_of r ≡ kinds.File → P r
only_file P p (replies.File name bytes) e = p name bytes
only_file P p _ e = absurd (cc)

pub only_names : (P : Reply → Type 0) → ((names : List Listed) → P (replies.Names names)) → (r : Reply) → kind_of r ≡ kinds.Names → P r
only_names P p (replies.Names names) e = p names
only_names P p _ e = absurd (cc)

pub only_group : (P : Reply → Type 0) → ((group live lost broken stripe column : ℕ) → P (replies.Group group live lost broken stripe column)) → (r : Reply) → kind_of r ≡ kinds.Group → P r
only_group P p (replies.Group group live lost broken stripe column) e = p group live lost broken stripe column
only_group P p _ e = absurd (cc)

pub only_scrubbed : (P : Reply → Type 0) → ((group seen gone : ℕ) → P (replies.Scrubbed group seen gone)) → (r : Reply) → kind_of r ≡ kinds.Scrubbed → P r
only_scrubbed P p (replies.Scrubbed group seen gone) e = p group seen gone
only_scrubbed P p _ e = absurd (cc)

pub only_repaired : (P : Reply → Type 0) → ((group mended left : ℕ) → P (replies.Repaired group mended left)) → (r : Reply) → kind_of r ≡ kinds.Repaired → P r
only_repaired P p (replies.Repaired group mended left) e = p group mended left
only_repaired P p _ e = absurd (cc)

pub only_replaced : (P : Reply → Type 0) → ((from to slots : ℕ) → P (replies.Replaced from to slots)) → (r : Reply) → kind_of r ≡ kinds.Replaced → P r
only_replaced P p (replies.Replaced from to slots) e = p from to slots
only_replaced P p _ e = absurd (cc)

pub only_migrated : (P : Reply → Type 0) → ((from to slots : ℕ) → P (replies.Migrated from to slots)) → (r : Reply) → kind_of r ≡ kinds.Migrated → P r
only_migrated P p (replies.Migrated from to slots) e = p from to slots
only_migrated P p _ e = absurd (cc)

pub only_long : (P : Reply → Type 0) → ((name : List ℕ) (len : ℕ) → P (replies.Long name len)) → (r : Reply) → kind_of r ≡ kinds.Long → P r
only_long P p (replies.Long name len) e = p name len
only_long P p _ e = absurd (cc)

pub only_exists : (P : Reply → Type 0) → ((name : List ℕ) → P (replies.Exists name)) → (r : Reply) → kind_of r ≡ kinds.Exists → P r
only_exists P p (replies.Exists name) e = p name
only_exists P p _ e = absurd (cc)

pub only_full : (P : Reply → Type 0) → ((group : ℕ) → P (replies.Full group)) → (r : Reply) → kind_of r ≡ kinds.Full → P r
only_full P p (replies.Full group) e = p group
only_full P p _ e = absurd (cc)

pub only_absent : (P : Reply → Type 0) → ((name : List ℕ) → P (replies.Absent name)) → (r : Reply) → kind_of r ≡ kinds.Absent → P r
only_absent P p (replies.Absent name) e = p name
only_absent P p _ e = absurd (cc)

pub only_lost : (P : Reply → Type 0) → ((name : List ℕ) (piece fragment have need : ℕ) → P (replies.Lost name piece fragment have need)) → (r : Reply) → kind_of r ≡ kinds.Lost → P r
only_lost P p (replies.Lost name piece fragment have need) e = p name piece fragment have need
only_lost P p _ e = absurd (cc)

pub only_odd : (P : Reply → Type 0) → ((name : List ℕ) (wanted found : Digest) → P (replies.Odd name wanted found)) → (r : Reply) → kind_of r ≡ kinds.Odd → P r
only_odd P p (replies.Odd name wanted found) e = p name wanted found
only_odd P p _ e = absurd (cc)

pub only_fault : (P : Reply → Type 0) → ((group column : ℕ) → P (replies.Fault group column)) → (r : Reply) → kind_of r ≡ kinds.Fault → P r
only_fault P p (replies.Fault group column) e = p group column
only_fault P p _ e = absurd (cc)

pub only_noarchive : (P : Reply → Type 0) → ((number : ℕ) → P (replies.NoArchive number)) → (r : Reply) → kind_of r ≡ kinds.NoArchive → P r
only_noarchive P p (replies.NoArchive number) e = p number
only_noarchive P p _ e = absurd (cc)

pub only_inuse : (P : Reply → Type 0) → ((number : ℕ) → P (replies.InUse number)) → (r : Reply) → kind_of r ≡ kinds.InUse → P r
only_inuse P p (replies.InUse number) e = p number
only_inuse P p _ e = absurd (cc)

pub only_renewed : (P : Reply → Type 0) → ((name : List ℕ) (pieces shards : ℕ) → P (replies.Renewed name pieces shards)) → (r : Reply) → kind_of r ≡ kinds.Renewed → P r
only_renewed P p (replies.Renewed name pieces shards) e = p name pieces shards
only_renewed P p _ e = absurd (cc)

pub only_often : (P : Reply → Type 0) → ((name : List ℕ) → P (replies.Often name)) → (r : Reply) → kind_of r ≡ kinds.Often → P r
only_often P p (replies.Often name) e = p name
only_often P p _ e = absurd (cc)

pub only_logfull : (P : Reply → Type 0) → ((group : ℕ) → P (replies.LogFull group)) → P replies.IndexLogFull → (r : Reply) → kind_of r ≡ kinds.LogFull → P r
only_logfull P p q (replies.LogFull group) e = p group
only_logfull P p q replies.IndexLogFull e = q
only_logfull P p q _ e = absurd (cc)
