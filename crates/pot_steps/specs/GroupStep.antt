-- The steps of a group, as relations over plain data: a put, a look, a count and the opening. They
-- are said of archives that tell what they hold.
use Rattle.std.specs.Prelude.{nat_eq, ◌≡◌, ◌≢◌, ◌⊎◌, ◌↔◌, ◌≤◌, ◌<◌, ℕ, zero, suc, ◌+◌, List, []}
use Rattle.std.specs.Prelude.{◌∷◌, ◌++◌, Option, Some, None, IfSome, Bool, true, false, IsTrue, All}
use Rattle.std.specs.Prelude.{length, if◌then◌else◌}
use Rattle.pot_bytes.specs.Sums.{xor}
use Rattle.pot_bytes.specs.Weighted.{scaled}
use Rattle.pot_bytes.specs.Rack.{log_bound}
use Rattle.pot_outside.specs.Failing.{MayLeave}
use Rattle.pot_gf.specs.Field.{power}
use Rattle.pot_machine.specs.declared.slot.SlotState.TheVariants.{Void}
use Rattle.pot_machine.specs.declared.entry.Entry.{Entry}
use Rattle.pot_machine.specs.declared.entry.Entry.TheVariants as entry
use Rattle.pot_machine.specs.Slot.{is_live}
use Rattle.pot_machine.specs.Table.{Table, width, slot_at, serving_at}
use Rattle.pot_machine.specs.Machine.{Legal, TakesBlocks, after, Replays}
use Rattle.pot_machine.specs.Rules.{IsTable}
use Rattle.pot_bytes.specs.Digests.{digest_of}
use Rattle.pot_steps.specs.Stripe.{Stripe, Sound, IsSound, NoneBroken, HasFilling}
use Rattle.pot_steps.specs.Law.{FindsUnsound, FewUnsound}
use Rattle.pot_steps.specs.declared.flight.Flight.{Flight}
use Rattle.pot_steps.specs.Holdings.{Holdings, stripe_of}
use Rattle.pot_steps.specs.Entries.{WritesStripe, held_at}
use Rattle.pot_steps.specs.Flights.{Stands}

-- A group. `held` has the blocks, and `heard` the sums, that each archive holds and has heard, by
-- its number. A sum stands with the slot whose fold it was handed to.
pub record GroupState : Type 0 where
  pub table : Table
  pub log : List Entry
  pub held : Holdings
  pub heard : ℕ → List (ℕ × List ℕ)
  pub flights : List Flight

-- blocks were lost, and nothing else
abbrev pub LosesBlocks : Holdings → Holdings → Type 0
LosesBlocks h h' = (number slot : ℕ) (b : List ℕ) → h' number slot ≡ Some b → h number slot ≡ Some b

-- the log grows by these entries, for which it has room, and flights and heard sums stay
pub record LogsInStep (entries : List Entry) (old new : GroupState) : Type 0 where
  pub log : new.log ≡ old.log ++ entries
  pub room : length new.log ≤ log_bound
  pub flights : new.flights ≡ old.flights
  pub heard : (number : ℕ) → new.heard number ≡ old.heard number

-- the answer LogFull, before all others: the log has no room, and nothing changes
pub record FullStep (old new : GroupState) : Type 0 where
  pub full : length old.log ≡ log_bound
  pub logs : LogsInStep [] old new
  pub table : new.table ≡ old.table
  pub held : (number slot : ℕ) → new.held number slot ≡ old.held number slot

-- A LOOK

pub data Looked : Type 0 where
  Seen : (block : List ℕ) → Looked
  Gone : Looked
  Faulted : Looked
  LogFull : Looked

abbrev pub look_entries : ℕ → ℕ → ℕ → Looked → List Entry
look_entries job s c (Seen block) = entry.Seen job s c ∷ []
look_entries job s c Gone = entry.Gone job s c ∷ []
look_entries job s c Faulted = entry.Fault job s c ∷ []
look_entries job s c LogFull = []

-- Seen: the slot was Live, and its archive held this block, of its digest. Gone: the slot was not
-- Live, or its archive holds no block of its digest now. Faulted: the slot was Live.
abbrev pub LookMeans : GroupState → GroupState → ℕ → ℕ → Looked → Type 0
LookMeans old new s c (Seen block) = IsSound (stripe_of old.table old.held s) c block
LookMeans old new s c Gone = Sound (stripe_of old.table new.held s) c → ⊥
LookMeans old new s c Faulted = IsTrue (is_live (slot_at old.table s c))
LookMeans old new s c LogFull = length old.log ≡ log_bound

pub record LookStep (job s c : ℕ) (answer : Looked) (old new : GroupState) : Type 0 where
  pub logs : LogsInStep (look_entries job s c answer) old new
  pub replay : Replays old.table (look_entries job s c answer) new.table
  pub loses : LosesBlocks old.held new.held
  pub means : LookMeans old new s c answer

-- A COUNT

pub record CountStep (job : ℕ) (old new : GroupState) : Type 0 where
  pub logs : LogsInStep (entry.Counted job ∷ []) old new
  pub replay : Replays old.table (entry.Counted job ∷ []) new.table
  pub loses : LosesBlocks old.held new.held

-- A PUT

-- a stripe that a put passes, and the parity slot of it that failed its check, if one did
pub record Passed : Type 0 where
  pub stripe : ℕ
  pub gone : Option ℕ

abbrev pub gone_entries : ℕ → ℕ → Option ℕ → List Entry
gone_entries job s None = []
gone_entries job s (Some c) = entry.Gone job s c ∷ []

-- for each stripe passed the Gone, if there is one, and Skip
abbrev pub skips : ℕ → List Passed → List Entry
skips job [] = []
skips job (x ∷ xs) = gone_entries job x.stripe x.gone ++ entry.Skip job x.stripe ∷ skips job xs

-- the entry of a put of a block over these old parity blocks
abbrev pub put_entry : ℕ → ℕ → ℕ → ℕ → List ℕ → List ℕ → List ℕ → Bool → Bool → Entry
put_entry parity job s c block p q kept kept2 =
    if nat_eq parity 1 then entry.Put job s c (digest_of block) (digest_of (xor p block)) kept
    else entry.Put2 job s c (digest_of block) (digest_of (xor p block))
    (digest_of (xor q (scaled (power 3 c) block))) kept kept2

-- A parity slot that failed its check, in a stripe that takes blocks else: the slot was Live, and
-- no block of its digest is held there now. Where it is Q, P passed.
pub record IsParityMissing (old : GroupState) (now : Holdings) (s c : ℕ) : Type 0 where
  pub takes : TakesBlocks old.table s
  pub live : IsTrue (is_live (slot_at old.table s c))
  pub parity : old.table.data_columns ≤ c
  pub missing : Sound (stripe_of old.table now s) c → ⊥
  pub least : c ≡ old.table.data_columns + 1
      → Sound (stripe_of old.table old.held s) old.table.data_columns

-- The stripes that a put passes: the table is `at` then, and `now` is what the archives hold then.
pub record PassesTo (job : ℕ) (passed : List Passed) (old : GroupState) (at : Table)
    (now : Holdings) : Type 0 where
  pub missing : All (λ x. IfSome x.gone (λ c. IsParityMissing old now x.stripe c)) passed
  pub replay : Replays old.table (skips job passed) at
  pub loses : LosesBlocks old.held now

-- The writes of a put and its entry. Nothing else changes but by losses.
pub record PutsBlock (job s c : ℕ) (block p q : List ℕ) (kept kept2 : Bool) (at : Table)
    (now : Holdings) (new : GroupState) : Type 0 where
  pub legal : Legal at (put_entry at.parity job s c block p q kept kept2)
  pub table : new.table ≡ after at (put_entry at.parity job s c block p q kept kept2)
  pub written : Holdings
  pub writes : WritesStripe at now written s c block p q kept kept2
  pub left_p : kept ≡ false
      → MayLeave (held_at at now s at.data_columns) (xor p block)
      (held_at at written s at.data_columns)
  pub left_q : at.parity ≡ 2 → kept2 ≡ false
      → MayLeave (held_at at now s (at.data_columns + 1)) (xor q (scaled (power 3 c) block))
      (held_at at written s (at.data_columns + 1))
  pub elsewhere : (number slot : ℕ)
      → (slot ≢ s) ⊎ ((k : ℕ) → k < width at → serving_at at s k ≢ number)
      → written number slot ≡ now number slot
  pub loses : LosesBlocks written new.held

-- the answer Ok: the block stands at this place, and each parity block was written
pub record PutPlaced (job s c : ℕ) (block : List ℕ) (old new : GroupState) : Type 0 where
  pub passed : List Passed
  pub at : Table
  pub now : Holdings
  pub p : List ℕ
  pub q : List ℕ
  pub passes : PassesTo job passed old at now
  pub puts : PutsBlock job s c block p q true true at now new
  pub logs : LogsInStep (skips job passed ++ put_entry at.parity job s c block p q true true ∷ [])
      old new

-- the least parity column whose block was not written
abbrev pub unkept : ℕ → Bool → ℕ
unkept data_columns kept = if kept then data_columns + 1 else data_columns

-- the answer Faulted where a parity block was not written
pub record PutKeptNoParity (job column : ℕ) (block : List ℕ) (old new : GroupState) : Type 0 where
  pub passed : List Passed
  pub at : Table
  pub now : Holdings
  pub s : ℕ
  pub c : ℕ
  pub p : List ℕ
  pub q : List ℕ
  pub kept : Bool
  pub kept2 : Bool
  pub passes : PassesTo job passed old at now
  pub puts : PutsBlock job s c block p q kept kept2 at now new
  pub logs : LogsInStep (skips job passed ++ put_entry at.parity job s c block p q kept kept2 ∷ [])
      old new
  pub fails : (kept ≡ false) ⊎ ((at.parity ≡ 2) × (kept2 ≡ false))
  pub names : column ≡ unkept old.table.data_columns kept

-- the answer Faulted where a parity block was not read, or the data block not written: nothing
-- changes but by losses, or in the place of that write, whose slot is Void
pub record PutFailed (job column : ℕ) (block : List ℕ) (old new : GroupState) : Type 0 where
  pub passed : List Passed
  pub at : Table
  pub now : Holdings
  pub passes : PassesTo job passed old at now
  pub takes : TakesBlocks at at.cursor.stripe
  pub place : (column ≡ at.cursor.column)
      ⊎ ((at.data_columns ≤ column) × (slot_at at at.cursor.stripe column ≢ Void))
  pub legal : Legal at (entry.Fault job at.cursor.stripe column)
  pub table : new.table ≡ at
  pub logs : LogsInStep (skips job passed ++ entry.Fault job at.cursor.stripe column ∷ []) old new
  pub written : Holdings
  pub left : (written ≡ now)
      ⊎ ((column ≡ at.cursor.column)
      × MayLeave (held_at at now at.cursor.stripe column) block
      (held_at at written at.cursor.stripe column)
      × ((number slot : ℕ)
      → (slot ≢ at.cursor.stripe) ⊎ (serving_at at at.cursor.stripe column ≢ number)
      → written number slot ≡ now number slot))
  pub loses : LosesBlocks written new.held

-- the answer Full: the stripes were passed, and the cursor is behind the last one
pub record PutFull (job : ℕ) (old new : GroupState) : Type 0 where
  pub passed : List Passed
  pub passes : PassesTo job passed old new.table new.held
  pub behind : new.table.cursor.stripe ≡ new.table.stripes
  pub logs : LogsInStep (skips job passed) old new

-- The answer LogFull: the entries end where the log has no room, which may be between a Gone and
-- its Skip. The log was full at once, or there is a next entry, since the cursor is not behind the
-- last stripe.
pub record PutLogFull (job : ℕ) (old new : GroupState) : Type 0 where
  pub passed : List Passed
  pub at : Table
  pub gone : Option ℕ
  pub missing : IfSome gone (λ c. IsParityMissing old new.held at.cursor.stripe c)
  pub passes : PassesTo job passed old at new.held
  pub replay : Replays at (gone_entries job at.cursor.stripe gone) new.table
  pub logs : LogsInStep (skips job passed ++ gone_entries job at.cursor.stripe gone) old new
  pub full : length new.log ≡ log_bound
  pub next : (length old.log ≡ log_bound) ⊎ (new.table.cursor.stripe < new.table.stripes)

pub data PutAnswer : Type 0 where
  Placed : (stripe column : ℕ) → PutAnswer
  NotPut : (column : ℕ) → PutAnswer
  Full : PutAnswer
  NoRoom : PutAnswer

abbrev pub PutStep : ℕ → List ℕ → PutAnswer → GroupState → GroupState → Type 0
PutStep job block (Placed s c) old new = PutPlaced job s c block old new
PutStep job block (NotPut column) old new =
    PutKeptNoParity job column block old new ⊎ PutFailed job column block old new
PutStep job block Full old new = PutFull job old new
PutStep job block NoRoom old new = PutLogFull job old new

-- THE OPENING

-- a stripe as the opening read it: `read` has the block of each place that it gave, and nothing
-- where it gave none
abbrev pub as_read : Table → (ℕ → ℕ → Option (List ℕ)) → ℕ → Stripe
as_read t read s = record { slots = λ c. slot_at t s c; held = λ c. read s c }

-- the entries of those of the first `n` columns that pass the test, by column
unfoldable pub entries_where : ℕ → (ℕ → Bool) → (ℕ → Entry) → List Entry
entries_where zero test make = []
entries_where (suc n) test make = entries_where n test make ++ (if test n then make n ∷ [] else [])

-- for each of the first `n` stripes the Gones, and then the Brokes, of the opening
unfoldable pub opening : ℕ → ℕ → (ℕ → ℕ → Bool) → (ℕ → ℕ → Bool) → List Entry
opening wide zero gone broke = []
opening wide (suc n) gone broke =
    opening wide n gone broke
    ++ (entries_where wide (gone n) (entry.Gone 0 n)
    ++ entries_where wide (broke n) (entry.Broke 0 n))

-- the test is true exactly at the Live slots that are not sound
pub record FindsGone (wide : ℕ) (s : Stripe) (test : ℕ → Bool) : Type 0 where
  pub found : (c : ℕ) → c < wide → test c ≡ true → IsTrue (is_live (s.slots c)) × (Sound s c → ⊥)
  pub left : (c : ℕ) → c < wide → test c ≡ false → IsTrue (is_live (s.slots c)) → Sound s c

-- A stripe without a Broken slot that has no filling, and in which few slots are unsound. Each of
-- these breaks, or each parity slot where there is none.
pub record BreaksStripe (data_columns parity : ℕ) (s : Stripe) (test : ℕ → Bool) : Type 0 where
  pub none_broken : NoneBroken data_columns parity s
  pub no_filling : HasFilling data_columns parity s → ⊥
  pub few : FewUnsound data_columns parity s
  pub which : (FindsUnsound data_columns parity s test × (c : ℕ) × (c < data_columns + parity)
      × (test c ≡ true))
      ⊎ (((c : ℕ) → c < data_columns + parity → (s.slots c ≡ Void) ⊎ Sound s c)
      × ((c : ℕ) → c < data_columns + parity → IsTrue (test c) ↔ (data_columns ≤ c)))

-- any other stripe, in which nothing breaks
pub record Spared (data_columns parity : ℕ) (s : Stripe) (test : ℕ → Bool) : Type 0 where
  pub none : (c : ℕ) → c < data_columns + parity → test c ≡ false
  pub why : HasFilling data_columns parity s
      ⊎ (NoneBroken data_columns parity s → FewUnsound data_columns parity s → ⊥)

-- The opening of a table without relays, with which a log begins. What it read was held, and the
-- entries follow from what it read. A block of a Gone slot is not held in the end, unless its read
-- failed.
pub record StartStep (old new : GroupState) : Type 0 where
  pub no_relays : old.table.relays ≡ []
  pub no_flights : old.flights ≡ []
  pub no_log : old.log ≡ []
  pub read : ℕ → ℕ → Option (List ℕ)
  pub gone : ℕ → ℕ → Bool
  pub broke : ℕ → ℕ → Bool
  pub failed : ℕ → ℕ → Bool
  pub missing : (s c : ℕ) → s < old.table.stripes → c < width old.table → gone s c ≡ true
      → failed s c ≡ false → Sound (stripe_of old.table new.held s) c → ⊥
  pub reads : (s c : ℕ) (b : List ℕ) → s < old.table.stripes → c < width old.table
      → read s c ≡ Some b → held_at old.table old.held s c ≡ Some b
  pub finds : (s : ℕ) → s < old.table.stripes
      → FindsGone (width old.table) (as_read old.table read s) (gone s)
  pub breaks : (s : ℕ) → s < old.table.stripes
      → BreaksStripe old.table.data_columns old.table.parity (as_read old.table read s) (broke s)
      ⊎ Spared old.table.data_columns old.table.parity (as_read old.table read s) (broke s)
  pub logs : LogsInStep (opening (width old.table) old.table.stripes gone broke) old new
  pub replay : Replays old.table (opening (width old.table) old.table.stripes gone broke) new.table
  pub loses : LosesBlocks old.held new.held

-- WHAT THE STEPS KEEP

-- the table keeps its rules, there is a flight for each relay, and the law of every stripe and of
-- every flight holds
abbrev pub Settled : GroupState → Type 0
Settled g = Stands g.table g.held g.flights

abbrev pub PutStepKeeps : Type 0
PutStepKeeps =
    (job : ℕ) (block : List ℕ) (answer : PutAnswer) (old new : GroupState)
    → PutStep job block answer old new → Settled old → Settled new

abbrev pub LookStepKeeps : Type 0
LookStepKeeps =
    (job s c : ℕ) (answer : Looked) (old new : GroupState) → LookStep job s c answer old new
    → Settled old → Settled new

abbrev pub FullStepKeeps : Type 0
FullStepKeeps = (old new : GroupState) → FullStep old new → Settled old → Settled new

abbrev pub CountStepKeeps : Type 0
CountStepKeeps =
    (job : ℕ) (old new : GroupState) → CountStep job old new → Settled old → Settled new

-- the opening makes the law of every stripe hold, whatever the table said
abbrev pub StartMakes : Type 0
StartMakes = (old new : GroupState) → StartStep old new → IsTable old.table → Settled new
