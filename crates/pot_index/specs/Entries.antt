-- The entries of the index's log, and what they brought.
use Rattle.std.specs.Prelude.{◌≡◌, ℕ, ◌-◌, ◌==◌, Bool, true, false, List, [], ◌∷◌, Some, None}
use Rattle.std.specs.Prelude.{if◌then◌else◌, length, map, filter}
use Rattle.pot_index.specs.declared.entry.IndexEntry.{IndexEntry}
use Rattle.pot_index.specs.declared.entry.IndexEntry.TheVariants.{Reserve, Taken, Publish, Abandon}
use Rattle.pot_index.specs.declared.entry.IndexEntry.TheVariants.{Find, Listed, Renew, Often}
use Rattle.pot_index.specs.declared.entry.Logged.{Logged}
use Rattle.pot_index.specs.declared.record.Record.{Record}

abbrev pub job_in : IndexEntry → ℕ
job_in (Reserve job name) = job
job_in (Taken job name) = job
job_in (Publish job name mark) = job
job_in (Abandon job name) = job
job_in (Find job name found) = job
job_in (Listed job) = job
job_in (Renew job name mark) = job
job_in (Often job name) = job

abbrev pub is_of : ℕ → Logged → Bool
is_of job x = job_in x.entry == job

-- the job's own entries, in order
abbrev pub own : ℕ → List Logged → List Logged
own job log = filter (is_of job) log

abbrev pub entries : List Logged → List IndexEntry
entries log = map (λ x. x.entry) log

-- whether an entry brings a record
abbrev pub brings : IndexEntry → Bool
brings (Publish job name mark) = true
brings (Renew job name mark) = true
brings (Reserve job name) = false
brings (Taken job name) = false
brings (Abandon job name) = false
brings (Find job name found) = false
brings (Listed job) = false
brings (Often job name) = false

abbrev pub plain : IndexEntry → Logged
plain e = record { entry = e; brought = None }

abbrev pub bringing : IndexEntry → Record → Logged
bringing e r = record { entry = e; brought = Some r }

-- the entries, each that brings a record with the next of these
unfoldable pub with_brought : List IndexEntry → List Record → List Logged
with_brought [] rs = []
with_brought (e ∷ es) [] = plain e ∷ with_brought es []
with_brought (e ∷ es) (r ∷ rs) =
    if brings e then bringing e r ∷ with_brought es rs else plain e ∷ with_brought es (r ∷ rs)

-- whether an entry reserves a name, and whether it ends a reservation
abbrev pub is_reserve : IndexEntry → Bool
is_reserve (Reserve job name) = true
is_reserve _ = false

abbrev pub ends_reserve : IndexEntry → Bool
ends_reserve (Publish job name mark) = true
ends_reserve (Abandon job name) = true
ends_reserve _ = false

-- an entry that changes no name
abbrev pub ChangesNoName : IndexEntry → Type 0
ChangesNoName (Taken job name) = Unit {0}
ChangesNoName (Find job name found) = Unit {0}
ChangesNoName (Listed job) = Unit {0}
ChangesNoName (Often job name) = Unit {0}
ChangesNoName _ = ⊥

-- the entry makes the job's reservation of the name, or ends it
abbrev pub IsReserving : ℕ → List ℕ → IndexEntry → Type 0
IsReserving job name (Reserve j n) = (j ≡ job) × (n ≡ name)
IsReserving job name _ = ⊥

abbrev pub IsEnding : ℕ → List ℕ → IndexEntry → Type 0
IsEnding job name (Publish j n mark) = (j ≡ job) × (n ≡ name)
IsEnding job name (Abandon j n) = (j ≡ job) × (n ≡ name)
IsEnding job name _ = ⊥

-- the entry publishes a record under the name, or gives the record of the name a new split
abbrev pub IsPublishing : List ℕ → IndexEntry → Type 0
IsPublishing name (Publish j n mark) = n ≡ name
IsPublishing name _ = ⊥

abbrev pub IsRenewing : List ℕ → IndexEntry → Type 0
IsRenewing name (Renew j n mark) = n ≡ name
IsRenewing name _ = ⊥

-- how many names are reserved behind a log: one is by each Reserve, and is no more by each Publish
-- and Abandon
abbrev pub reserved_in : List IndexEntry → ℕ
reserved_in es = length (filter is_reserve es) - length (filter ends_reserve es)
