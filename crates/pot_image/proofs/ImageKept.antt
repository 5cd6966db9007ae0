-- The parts of an image that was read fit together.
use Rattle.std.proofs.Common.{◌≡◌, inl, inr, ℕ, List, [], Result, Ok, Err, IfOk, length, sym, subst, refl, arith}
use Rattle.pot_bytes.specs.declared.rack.Rack.{Rack}
use Rattle.pot_machine.specs.declared.entry.Entry.{Entry}
use Rattle.pot_image.specs.declared.format.Format.{Format}
use Rattle.pot_image.specs.declared.format.Format.TheVariants.{First, Second}
use Rattle.pot_image.specs.declared.image.Image.{Image}
use Rattle.pot_image.specs.declared.fault.ImageFault.{ImageFault}
use Rattle.pot_image.specs.Fields.{done}
use Rattle.pot_image.specs.Reading.{◌>>=◌, reading}
use Rattle.pot_image.specs.Heads.{head}
use Rattle.pot_image.specs.Tables.{tables}
use Rattle.pot_image.specs.Records.{records}
use Rattle.pot_image.specs.Logs.{group_log_behind, group_logs, index_log}
use Rattle.pot_image.specs.Images.{Contents, contents, image, AnsweredFields, Trailed, Measured, Numbered}
use Rattle.pot_image.specs.Rules.{FitsTogether}
use Rattle.pot_image.proofs.Once.{read_of}
use Rattle.pot_image.proofs.Inverse.{parts, done_is, several_keep}
use Rattle.pot_image.proofs.HeadRules.{head_kept}
use Rattle.pot_image.proofs.TableRules.{tables_kept}
use Rattle.pot_image.proofs.RecordRules.{one_longer}
use Rattle.pot_image.proofs.RecordsKept.{records_kept}

logs_counted : (format : Format) (rack : Rack) (bytes rest : List ℕ) (ls : List (List Entry)) → reading (group_logs format rack) bytes ≡ Ok (ls, rest) → length ls ≡ rack.groups
unfolding group_logs
logs_counted format rack bytes rest ls e =
    several_keep (λ i before. length before ≡ i) (group_log_behind format rack) rack.groups
    (λ i before x bs rs l p h. one_longer before x i p) rack.groups 0 [] ls bytes rest (omega arith) refl e

image_kept : (format : Format) (bytes rest : List ℕ) (v : Contents) → reading (image format) bytes ≡ Ok (v, rest) → FitsTogether v
unfolding image
image_kept format bytes rest v e =
    (let a = parts (head format) (λ h. tables h.rack >>= λ ts. records format h.rack ts >>= λ rs. group_logs format h.rack >>= λ ls. index_log format >>= λ xs. done (record { session = h.session; rack = h.rack; tables = ts; records = rs; group_logs = ls; index_log = xs })) bytes v rest e in
    let b = parts (tables a.value.rack) (λ ts. records format a.value.rack ts >>= λ rs. group_logs format a.value.rack >>= λ ls. index_log format >>= λ xs. done (record { session = a.value.session; rack = a.value.rack; tables = ts; records = rs; group_logs = ls; index_log = xs })) a.behind v rest a.second in
    let c = parts (records format a.value.rack b.value) (λ rs. group_logs format a.value.rack >>= λ ls. index_log format >>= λ xs. done (record { session = a.value.session; rack = a.value.rack; tables = b.value; records = rs; group_logs = ls; index_log = xs })) b.behind v rest b.second in
    let d = parts (group_logs format a.value.rack) (λ ls. index_log format >>= λ xs. done (record { session = a.value.session; rack = a.value.rack; tables = b.value; records = c.value; group_logs = ls; index_log = xs })) c.behind v rest c.second in
    let f = parts (index_log format) (λ xs. done (record { session = a.value.session; rack = a.value.rack; tables = b.value; records = c.value; group_logs = d.value; index_log = xs })) d.behind v rest d.second in
    let same = done_is (record { session = a.value.session; rack = a.value.rack; tables = b.value; records = c.value; group_logs = d.value; index_log = f.value }) v f.behind rest f.second in
    let rules = head_kept format bytes a.behind a.value a.first in
    subst FitsTogether same.0 (record {
      rack = rules;
      tables = tables_kept a.value.rack a.behind b.behind b.value rules b.first;
      records = records_kept format a.value.rack b.value b.behind c.behind c.value rules c.first;
      logs = logs_counted format a.value.rack c.behind d.behind d.value d.first;
    }))

-- THE ANSWER TO SOME BYTES

abbrev pub IsKept : Result Image ImageFault → Type 0
IsKept r = IfOk r (λ i. FitsTogether (contents i))

refused : (r : Result Image ImageFault) (e : ImageFault) → r ≡ Err e → IsKept r
refused r e q = subst IsKept (sym q) tt

by_fields : (format : Format) (body : List ℕ) (r : Result Image ImageFault) → AnsweredFields format body r → IsKept r
by_fields format body (Ok i) a = image_kept format body [] (contents i) (read_of (image format) body (contents i) a)
by_fields format body (Err e) a = tt

by_trailer : (format : Format) (bytes : List ℕ) (r : Result Image ImageFault) → Trailed format bytes r → IsKept r
by_trailer format bytes r (inl other) = refused r _ other.1
by_trailer format bytes r (inr same) = by_fields format _ r same.1

by_length : (format : Format) (bytes : List ℕ) (r : Result Image ImageFault) → Measured format bytes r → IsKept r
by_length format bytes r (inl less) = refused r _ less.1
by_length format bytes r (inr (inl more)) = refused r _ more.1
by_length format bytes r (inr (inr same)) = by_trailer format bytes r same.1

pub numbered_kept : (bytes : List ℕ) (r : Result Image ImageFault) → Numbered bytes r → IsKept r
numbered_kept bytes r (inl none) = refused r _ none.2
numbered_kept bytes r (inr (inl first)) = by_length First bytes r first.1
numbered_kept bytes r (inr (inr second)) = by_length Second bytes r second.1
