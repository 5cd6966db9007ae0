-- The index: which entries are legal, what each does, and the whole of it as plain data.
use Rattle.std.specs.Prelude.{◌≡◌, ◌↔◌, ◌⊎◌, ◌≤◌, ℕ, ◌+◌, ◌==◌, Bool, IsTrue, List, [], ◌∷◌, ◌++◌}
use Rattle.std.specs.Prelude.{All, Contains, Option, Some, None, if◌then◌else◌, length, map}
use Rattle.std.specs.Cmp.Lexicographic.{pointwise, slice_cmp}
use Rattle.std.specs.List.{IsDistinct}
use Rattle.std.specs.List.Sorted.{IsStrictlySortedBy}
use Rattle.std.specs.Ordering.{is_lt, nat_cmp}
use Rattle.pot_bytes.specs.Rack.{IsRack, log_bound}
use Rattle.pot_bytes.specs.declared.rack.Rack.{Rack}
use Rattle.pot_index.specs.declared.entry.IndexEntry.{IndexEntry}
use Rattle.pot_index.specs.declared.entry.IndexEntry.TheVariants.{Reserve, Taken, Publish, Abandon}
use Rattle.pot_index.specs.declared.entry.IndexEntry.TheVariants.{Find, Listed, Renew, Often}
use Rattle.pot_index.specs.declared.entry.Logged.{Logged}
use Rattle.pot_index.specs.declared.record.Record.{Record}
use Rattle.pot_index.specs.declared.reservation.Reservation.{Reservation}
use Rattle.pot_index.specs.Records.{current_of, renewed, mark_of}
use Rattle.pot_index.specs.Fits.{FitsRack}

-- THE NAMES

-- the published records, by name, and the reserved names with their jobs
pub record Names : Type 0 where
  pub published : List Record
  pub reserved : List Reservation

abbrev pub IsPublished : Names → List ℕ → Type 0
IsPublished n name = Contains (map (λ r. r.name) n.published) name

abbrev pub IsReserved : Names → List ℕ → Type 0
IsReserved n name = Contains (map (λ x. x.name) n.reserved) name

abbrev pub IsReservedBy : Names → ℕ → List ℕ → Type 0
IsReservedBy n job name = Contains n.reserved (record { name = name; job = job })

-- the record that is published under a name
abbrev pub IsRecordOf : Names → List ℕ → Record → Type 0
IsRecordOf n name r = Contains n.published r × (r.name ≡ name)

-- the name is published or reserved, or neither
abbrev pub IsNameTaken : Names → List ℕ → Type 0
IsNameTaken n name = IsPublished n name ⊎ IsReserved n name

abbrev pub IsFree : Names → List ℕ → Type 0
IsFree n name = (¬ IsPublished n name) × (¬ IsReserved n name)

-- names in the order of their bytes, each once
abbrev pub NamesAscend : List Record → Type 0
NamesAscend rs = IsStrictlySortedBy (slice_cmp nat_cmp) (map (λ r. r.name) rs)

abbrev pub same_name : List ℕ → List ℕ → Bool
same_name a b = pointwise ◌==◌ a b

-- the records are those of distinct names, ascending, and fit the rack; the reserved names are
-- distinct, and none of them is published
pub record AreNames (rack : Rack) (n : Names) : Type 0 where
  pub ascends : NamesAscend n.published
  pub fits : All (FitsRack rack) n.published
  pub free : All (λ x. ¬ IsPublished n x.name) n.reserved
  pub once : IsDistinct same_name (map (λ x. x.name) n.reserved)

-- WHICH ENTRIES ARE LEGAL

abbrev pub LegalEntry : Rack → Names → IndexEntry → Option Record → Type 0
LegalEntry rack n (Reserve job name) None = IsFree n name
LegalEntry rack n (Taken job name) None = IsNameTaken n name
LegalEntry rack n (Publish job name mark) (Some r) =
    (r.name ≡ name) × (mark ≡ mark_of r) × IsReservedBy n job name × FitsRack rack r
LegalEntry rack n (Abandon job name) None = IsReservedBy n job name
LegalEntry rack n (Find job name found) None = IsTrue found ↔ IsPublished n name
LegalEntry rack n (Listed job) None = Unit {0}
LegalEntry rack n (Renew job name mark) (Some r) =
    (mark ≡ mark_of r) × FitsRack rack r
    × ((o : Record) × IsRecordOf n name o × (r ≡ renewed o (current_of r)))
LegalEntry rack n (Often job name) None = (o : Record) × IsRecordOf n name o × (length o.older ≡ 15)
LegalEntry rack n _ _ = ⊥

abbrev pub LegalLogged : Rack → Names → Logged → Type 0
LegalLogged rack n x = LegalEntry rack n x.entry x.brought

-- WHAT EACH ENTRY DOES

-- with one more record, before the first of a greater name
abbrev pub inserted : Record → List Record → List Record
inserted r [] = r ∷ []
inserted r (o ∷ os) =
    if is_lt (slice_cmp nat_cmp o.name r.name) then o ∷ inserted r os else r ∷ o ∷ os

-- with this record in place of that of its name
abbrev pub replaced : Record → List Record → List Record
replaced r rs = map (λ o. if same_name o.name r.name then r else o) rs

-- without the reservation of this name
abbrev pub without : List ℕ → List Reservation → List Reservation
without name [] = []
without name (x ∷ xs) = if same_name x.name name then xs else x ∷ without name xs

abbrev pub after_entry : Names → IndexEntry → Option Record → Names
after_entry n (Reserve job name) b =
    record n { reserved = n.reserved ++ record { name = name; job = job } ∷ [] }
after_entry n (Taken job name) b = n
after_entry n (Publish job name mark) (Some r) =
    record { published = inserted r n.published; reserved = without name n.reserved }
after_entry n (Publish job name mark) None = n
after_entry n (Abandon job name) b = record n { reserved = without name n.reserved }
after_entry n (Find job name found) b = n
after_entry n (Listed job) b = n
after_entry n (Renew job name mark) (Some r) = record n { published = replaced r n.published }
after_entry n (Renew job name mark) None = n
after_entry n (Often job name) b = n

abbrev pub after : Names → Logged → Names
after n x = after_entry n x.entry x.brought

-- WHOLE LOGS

-- the entries lead from these names to those, each legal in turn
abbrev pub ReplaysIndex : Rack → Names → List Logged → Names → Type 0
ReplaysIndex rack n [] m = m ≡ n
ReplaysIndex rack n (x ∷ log) m = LegalLogged rack n x × ReplaysIndex rack (after n x) log m

-- the names of an index that has published these records, and nothing is reserved
abbrev pub names_read : List Record → Names
names_read rs = record { published = rs; reserved = [] }

-- records with which an index may begin
pub record AreFirstRecords (rack : Rack) (rs : List Record) : Type 0 where
  pub few : length rs ≤ 4000000000
  pub ascends : NamesAscend rs
  pub fits : All (FitsRack rack) rs

-- THE INDEX

-- an index: its rack, the records that it began with, the names now, and the log
pub record IndexView : Type 0 where
  pub rack : Rack
  pub read : List Record
  pub now : Names
  pub log : List Logged

-- the entries, and one for each reserved name, whose Publish or Abandon is to come
abbrev pub owed : IndexView → ℕ
owed s = length s.log + length s.now.reserved

-- the log leads from the records read to the names now, and has room for an entry of each reserved
-- name
pub record IsIndex (s : IndexView) : Type 0 where
  pub rack : IsRack s.rack
  pub read : AreFirstRecords s.rack s.read
  pub names : AreNames s.rack s.now
  pub replays : ReplaysIndex s.rack (names_read s.read) s.log s.now
  pub room : owed s ≤ log_bound

-- an index that has published these records
abbrev pub started : Rack → List Record → IndexView
started rack rs = record { rack = rack; read = rs; now = names_read rs; log = [] }

-- an index after one more entry
abbrev pub logged : IndexView → Logged → IndexView
logged s x = record s { now = after s.now x; log = s.log ++ x ∷ [] }
