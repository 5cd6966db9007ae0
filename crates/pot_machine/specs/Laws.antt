-- What each entry leaves alone, and how logs go on.
use Rattle.std.specs.Prelude.{◌≡◌, ◌⊎◌, ◌↔◌, ◌<◌, ◌≤◌, ℕ, Bool, false, IsTrue, List, [], ◌∷◌, ◌++◌}
use Rattle.std.specs.Prelude.{Contains}
use Rattle.pot_bytes.specs.declared.digest.Digest.{Digest}
use Rattle.pot_machine.specs.declared.entry.Entry.{Entry}
use Rattle.pot_machine.specs.declared.entry.Entry.TheVariants.{Put, Skip, Gone, Broke, Begin, Hop}
use Rattle.pot_machine.specs.declared.entry.Entry.TheVariants.{Mended, GaveUp, Oddly, MoveBegin}
use Rattle.pot_machine.specs.declared.entry.Entry.TheVariants.{Moved, MoveEnd, Swapped, Put2}
use Rattle.pot_machine.specs.Slot.{is_void, is_live, digest_in}
use Rattle.pot_machine.specs.Table.{Table, width, slot_at, column_at, relay_at}
use Rattle.pot_machine.specs.Machine.{Legal, after, Replays, Replayed}
use Rattle.pot_machine.specs.Rules.{IsTable}
use Rattle.pot_machine.specs.Logs.{own, replayed, AreLegal, Fills, IsFilledWith}

-- the entry puts a block into the stripe
abbrev pub PutsInto : Entry → ℕ → Type 0
PutsInto (Put job s c digest parity_digest kept) n = n ≡ s
PutsInto (Put2 job s c digest parity_digest second_digest kept kept2) n = n ≡ s
PutsInto _ n = ⊥

-- the entry writes the slot of this stripe and column
abbrev pub WritesSlot : Table → Entry → ℕ → ℕ → Type 0
WritesSlot t (Put job s c digest parity_digest kept) n k =
    (n ≡ s) × ((k ≡ c) ⊎ (t.data_columns ≤ k))
WritesSlot t (Put2 job s c digest parity_digest second_digest kept kept2) n k =
    (n ≡ s) × ((k ≡ c) ⊎ (t.data_columns ≤ k))
WritesSlot t (Gone job s c) n k = (n ≡ s) × (k ≡ c)
WritesSlot t (Broke job s c) n k = (n ≡ s) × (k ≡ c)
WritesSlot t (Mended job s c) n k = (n ≡ s) × (k ≡ c)
WritesSlot t (GaveUp job s c other) n k = (n ≡ s) × (k ≡ other)
WritesSlot t (Moved job s c copied) n k = (copied ≡ false) × (n ≡ s) × (k ≡ c)
WritesSlot t (Swapped job c to) n k = k ≡ c
WritesSlot t _ n k = ⊥

-- the entry may make the slot Live
abbrev pub MakesLive : Entry → ℕ → ℕ → Type 0
MakesLive (Mended job s c) n k = (n ≡ s) × (k ≡ c)
MakesLive e n k = PutsInto e n

-- the entry moves the cursor
abbrev pub MovesCursor : Entry → Type 0
MovesCursor (Put job s c digest parity_digest kept) = Unit {0}
MovesCursor (Skip job s) = Unit {0}
MovesCursor (Put2 job s c digest parity_digest second_digest kept kept2) = Unit {0}
MovesCursor _ = ⊥

-- the entry changes the archives of this column
abbrev pub ChangesColumn : Entry → ℕ → Type 0
ChangesColumn (MoveBegin job c to) k = k ≡ c
ChangesColumn (Moved job s c copied) k = k ≡ c
ChangesColumn (MoveEnd job c) k = k ≡ c
ChangesColumn (Swapped job c to) k = k ≡ c
ChangesColumn _ k = ⊥

-- the entry begins, moves or ends the relay of this stripe
abbrev pub ChangesRelay : Entry → ℕ → Type 0
ChangesRelay (Begin job s c) n = n ≡ s
ChangesRelay (Hop job s c) n = n ≡ s
ChangesRelay (Mended job s c) n = n ≡ s
ChangesRelay (GaveUp job s c other) n = n ≡ s
ChangesRelay (Oddly job s c found) n = n ≡ s
ChangesRelay _ n = ⊥

-- a group keeps its sizes
abbrev pub SizesStay : Type 0
SizesStay =
    (t : Table) (e : Entry)
    → ((after t e).data_columns ≡ t.data_columns) × ((after t e).parity ≡ t.parity)
    × ((after t e).stripes ≡ t.stripes)

abbrev pub SlotsStay : Type 0
SlotsStay =
    (t : Table) (e : Entry) (n k : ℕ) → IsTable t → Legal t e → k < width t
    → (WritesSlot t e n k → ⊥)
    → slot_at (after t e) n k ≡ slot_at t n k

-- without a put into its stripe, a slot keeps its digest
abbrev pub DigestsStay : Type 0
DigestsStay =
    (t : Table) (e : Entry) (n k : ℕ) → IsTable t → Legal t e → k < width t → (PutsInto e n → ⊥)
    → digest_in (slot_at (after t e) n k) ≡ digest_in (slot_at t n k)

-- a data slot that has a digest keeps it for ever
abbrev pub DataStays : Type 0
DataStays =
    (t : Table) (e : Entry) (n k : ℕ) → IsTable t → Legal t e → k < t.data_columns
    → is_void (slot_at t n k) ≡ false
    → digest_in (slot_at (after t e) n k) ≡ digest_in (slot_at t n k)

-- a slot becomes Live by a put into its stripe, or as the target of a relay that ends
abbrev pub LiveByPut : Type 0
LiveByPut =
    (t : Table) (e : Entry) (n k : ℕ) → IsTable t → Legal t e → k < width t
    → IsTrue (is_live (slot_at (after t e) n k))
    → IsTrue (is_live (slot_at t n k)) ⊎ MakesLive e n k

abbrev pub CursorStays : Type 0
CursorStays = (t : Table) (e : Entry) → (MovesCursor e → ⊥) → (after t e).cursor ≡ t.cursor

abbrev pub ColumnsStay : Type 0
ColumnsStay =
    (t : Table) (e : Entry) (k : ℕ) → (ChangesColumn e k → ⊥)
    → column_at (after t e) k ≡ column_at t k

abbrev pub RelaysStay : Type 0
RelaysStay =
    (t : Table) (e : Entry) (n : ℕ) → (ChangesRelay e n → ⊥) → relay_at (after t e) n ≡ relay_at t n

-- each parity slot is Void exactly where all data slots of its stripe are
abbrev pub ParityVoid : Type 0
ParityVoid = (t : Table) (s c : ℕ) → IsTable t → s < t.stripes → t.data_columns ≤ c → c < width t
    → IsTrue (is_void (slot_at t s c))
    ↔ ((k : ℕ) → k < t.data_columns → IsTrue (is_void (slot_at t s k)))

-- legal entries keep the rules of a table
abbrev pub RulesStay : Type 0
RulesStay = (t u : Table) (log : List Entry) → IsTable t → Replays t log u → IsTable u

-- a log goes on by an entry that is legal at its end
abbrev pub LogsGoOn : Type 0
LogsGoOn =
    (t u : Table) (log : List Entry) (e : Entry) → Replays t log u → Legal u e
    → Replays t (log ++ e ∷ []) (after u e)

-- and only so
abbrev pub LogsWentOn : Type 0
LogsWentOn =
    (t v : Table) (log : List Entry) (e : Entry) → Replays t (log ++ e ∷ []) v
    → (u : Table) × Replays t log u × Legal u e × (v ≡ after u e)

-- a log leads to one table
abbrev pub LogsLeadOnce : Type 0
LogsLeadOnce = (t u v : Table) (log : List Entry) → Replays t log u → Replays t log v → u ≡ v

-- the longest legal front of the entries is one, and leads to one table
abbrev pub ReplayedOnce : Type 0
ReplayedOnce =
    (t u v : Table) (entries : List Entry) (whole all : Bool) → Replayed t u entries whole
    → Replayed t v entries all → (u ≡ v) × (whole ≡ all)

-- a log leads to a table exactly where each entry is legal in its turn and this is the table that
-- the log comes to
abbrev pub LogsComeTo : Type 0
LogsComeTo =
    (t u : Table) (log : List Entry) → Replays t log u ↔ (AreLegal t log × (u ≡ replayed t log))

-- what two logs come to one after the other
abbrev pub LogsComeOn : Type 0
LogsComeOn = (t : Table) (x y : List Entry) → replayed t (x ++ y) ≡ replayed (replayed t x) y

-- a job's own entries of two logs one after the other are its own of each
abbrev pub OwnInBoth : Type 0
OwnInBoth = (job : ℕ) (x y : List Entry) → own job (x ++ y) ≡ own job x ++ own job y

-- a data slot has a digest exactly where it had it at first, or a put of the log filled it with
-- that
abbrev pub DigestsByPuts : Type 0
DigestsByPuts =
    (t u : Table) (log : List Entry) (s c : ℕ) (d : Digest) → IsTable t → Replays t log u
    → c < t.data_columns
    → IsFilledWith d (slot_at u s c)
    ↔ (IsFilledWith d (slot_at t s c) ⊎ ((e : Entry) × Contains log e × Fills s c d e))

-- so a slot that a put of a log filled is Live, Lost or Broken with that digest in each table that
-- the log comes to from then on
abbrev pub PutsStay : Type 0
PutsStay =
    (t u : Table) (log : List Entry) (s c : ℕ) (d : Digest) (e : Entry) → IsTable t
    → Replays t log u → Contains log e → Fills s c d e
    → IsFilledWith d (slot_at u s c)
