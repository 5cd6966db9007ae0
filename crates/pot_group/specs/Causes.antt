-- The cause law of a group: how many faults its log may name of a column, and when it may say that
-- a block is missing.
use Rattle.std.specs.Prelude.{◌≡◌, ◌≢◌, ◌⊎◌, ◌≤◌, ◌<◌, ◌-◌, ◌+◌, ◌^◌, ◌&&◌, ◌++◌, ℕ, nat_eq, not}
use Rattle.std.specs.Prelude.{false, IsTrue, List, [], ◌∷◌, Contains, if◌then◌else◌}
use Rattle.pot_outside.specs.Counts.{Rose}
use Rattle.pot_machine.specs.declared.entry.Entry.{Entry}
use Rattle.pot_machine.specs.declared.entry.Entry.TheVariants.{Put, Gone, Fault, GaveUp, MoveBegin}
use Rattle.pot_machine.specs.declared.entry.Entry.TheVariants.{Moved, Oddly, Swapped, Put2}
use Rattle.pot_machine.specs.Slot.{is_broken, is_live}
use Rattle.pot_machine.specs.Column.{target_of}
use Rattle.pot_machine.specs.Table.{Table, width, slot_at, column_at}
use Rattle.pot_machine.specs.Machine.{after}
use Rattle.pot_shelves.specs.Shelves.{Shelves}

-- FAULTS

-- how many faults of a column an entry names: a Fault there, and for a parity column a put that did
-- not keep its block
abbrev pub fault_of : ℕ → ℕ → Entry → ℕ
fault_of data_columns c (Put job s k digest parity_digest kept) =
    if nat_eq c data_columns && not kept then 1 else 0
fault_of data_columns c (Put2 job s k digest parity_digest second_digest kept kept2) =
    if (nat_eq c data_columns && not kept) then 1
    else (if nat_eq c (data_columns + 1) && not kept2 then 1 else 0)
fault_of data_columns c (Fault job s k) = if nat_eq c k then 1 else 0
fault_of data_columns c _ = 0

abbrev pub faults_in : ℕ → ℕ → List Entry → ℕ
faults_in data_columns c [] = 0
faults_in data_columns c (e ∷ log) = fault_of data_columns c e + faults_in data_columns c log

-- the archive that an entry brings to a column
abbrev pub brought : ℕ → Entry → List ℕ
brought c (MoveBegin job k to) = if nat_eq c k then to ∷ [] else []
brought c (Swapped job k to) = if nat_eq c k then to ∷ [] else []
brought c _ = []

abbrev pub brought_by : ℕ → List Entry → List ℕ
brought_by c [] = []
brought_by c (e ∷ log) = brought c e ++ brought_by c log

-- the archives that a column has had: its home and its target in the table that was read, and those
-- that came since
abbrev pub archives_of : Table → List Entry → ℕ → List ℕ
archives_of first log c =
    (column_at first c).home ∷ (target_of (column_at first c).moving ++ brought_by c log)

-- how often these archives failed since they were taken
abbrev pub risen : Shelves → List ℕ → ℕ
risen s [] = 0
risen s (n ∷ ns) = (s.faults n - s.faults_taken n) + risen s ns

-- so many faults of these archives may have been named: no more than there were since they were
-- taken, unless one of their counts stands at its last value
abbrev pub Covers : Shelves → List ℕ → ℕ → Type 0
Covers s numbers named =
    ((n : ℕ) × Contains numbers n × (2 ^ 64 - 1 ≤ s.faults n)) ⊎ (named ≤ risen s numbers)

-- LOSSES

-- The entry says that a Live slot of the column has not its block, or that a slot of it which is
-- not Broken can't be rebuilt from the others. The opening, which is job 0, may say the former
-- after a fault.
abbrev pub Misses : Table → Entry → ℕ → Type 0
Misses t (Gone job s k) c = (job ≢ 0) × (k ≡ c) × IsTrue (is_live (slot_at t s k))
Misses t (GaveUp job s k other) c = (other ≡ c) × IsTrue (is_live (slot_at t s other))
Misses t (Moved job s k copied) c = (copied ≡ false) × (k ≡ c) × IsTrue (is_live (slot_at t s k))
Misses t (Oddly job s k found) c = (k ≡ c) × (is_broken (slot_at t s k) ≡ false)
Misses t _ c = ⊥

-- where an entry of the log says so, this holds
abbrev pub WhereMissed : Table → List Entry → ℕ → Type 0 → Type 0
WhereMissed t [] c why = Unit {0}
WhereMissed t (e ∷ log) c why = (Misses t e c → why) × WhereMissed (after t e) log c why

-- one of these archives lost blocks since it was taken
abbrev pub HasLost : Shelves → List ℕ → Type 0
HasLost s numbers = (n : ℕ) × Contains numbers n × Rose (s.losses_taken n) (s.losses n)

pub record CauseLaw (told : Type 0) (first : Table) (log : List Entry) (s : Shelves) : Type 0 where
  pub faults : (c : ℕ) → c < width first
      → Covers s (archives_of first log c) (faults_in first.data_columns c log)
  pub losses : told → (c : ℕ) → c < width first
      → WhereMissed first log c (HasLost s (archives_of first log c))
