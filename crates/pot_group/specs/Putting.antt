-- The parts of a put: the stripes that it passes, why it stops, and its writes.
use Rattle.std.specs.Prelude.{◌≡◌, ◌≢◌, ◌⊎◌, ◌≤◌, ◌<◌, ◌+◌, ◌++◌, ℕ, nat_eq, Bool, true, false}
use Rattle.std.specs.Prelude.{List, [], ◌∷◌, Option, Some, None, IfSome, Result, Ok, Err, All}
use Rattle.std.specs.Prelude.{length, Contains, IsTrue, if◌then◌else◌}
use Rattle.pot_bytes.specs.declared.rack.Place.{Place}
use Rattle.pot_bytes.specs.Lists.{IsBlock}
use Rattle.pot_outside.specs.Failing.{MayLeave}
use Rattle.pot_bytes.specs.Sums.{xor}
use Rattle.pot_bytes.specs.Weighted.{scaled}
use Rattle.pot_bytes.specs.Rack.{log_bound}
use Rattle.pot_gf.specs.Field.{power}
use Rattle.pot_outside.specs.Counts.{Rose}
use Rattle.pot_outside.specs.declared.faults.Failed.{Failed}
use Rattle.pot_machine.specs.declared.entry.Entry.{Entry}
use Rattle.pot_machine.specs.declared.entry.Entry.TheVariants as entry
use Rattle.pot_machine.specs.declared.slot.SlotState.TheVariants.{Void}
use Rattle.pot_machine.specs.Slot.{is_live}
use Rattle.pot_machine.specs.Table.{Table, width, slot_at, serving_at}
use Rattle.pot_machine.specs.Machine.{AtCursor, TakesBlocks}
use Rattle.pot_bytes.specs.Digests.{digest_of}
use Rattle.pot_steps.specs.Stripe.{Sound, IsOld}
use Rattle.pot_steps.specs.Holdings.{Holdings, stripe_of}
use Rattle.pot_steps.specs.Entries.{held_at}
use Rattle.pot_steps.specs.GroupStep.{Passed, IsParityMissing, skips, gone_entries, put_entry, unkept}
use Rattle.pot_group.specs.declared.reads.Found.{Found}
use Rattle.pot_group.specs.declared.reads.Found.TheVariants as found
use Rattle.pot_group.specs.declared.parities.Kept.{Kept}
use Rattle.pot_group.specs.declared.parities.Checked.{Checked}
use Rattle.pot_group.specs.declared.parities.Checked.TheVariants as checked
use Rattle.pot_group.specs.declared.answers.PutFault.{PutFault}
use Rattle.pot_group.specs.declared.answers.PutFault.TheVariants as fault
use Rattle.pot_group.specs.declared.putting.Stop.{Stop}
use Rattle.pot_group.specs.declared.putting.Stop.TheVariants as stop
use Rattle.pot_shelves.specs.Shelves.{Shelves, ShelvesStay, Keeps, LosesByCount, WritesAt, put_at}
use Rattle.pot_shelves.specs.Shelves.{WriteLeaves}
use Rattle.pot_group.specs.Group.{GroupView, Logs, LogsOf, FailedAt, CoversOne, FitsSlot}
use Rattle.pot_group.specs.Group.{FitsParity}
use Rattle.pot_group.specs.Group.{FitsPassed, state_of}

-- THE OLD PARITY BLOCKS

-- Sound: the old block of a parity slot, zeros where it is Void. Missing: the slot is not Void, and
-- its archive holds no block of its digest, or it is not Live.
abbrev pub OldFinds : Type 0 → ℕ → ℕ → List ℕ → Found → GroupView → GroupView → Type 0
OldFinds told s c block found.Sound old new =
    (told → IsOld (stripe_of old.table new.shelves.held s) c block)
    × FitsSlot (slot_at old.table s c) block
OldFinds told s c block found.Missing old new =
    (slot_at old.table s c ≢ Void) × (told → Sound (stripe_of old.table new.shelves.held s) c → ⊥)
OldFinds told s c block found.NotRead old new =
    FailedAt old new s c × CoversOne new c × (slot_at old.table s c ≢ Void)

-- the other archives hold what they held
abbrev pub LeavesOthers : Type 0 → ℕ → ℕ → GroupView → GroupView → Type 0
LeavesOthers told s c old new =
    told → (n m : ℕ) → n ≢ serving_at old.table s c → new.shelves.held n m ≡ old.shelves.held n m

pub record ReadsOld (told : Type 0) (s c : ℕ) (block : List ℕ) (result : Found)
    (old new : GroupView) : Type 0 where
  pub stays : ShelvesStay told old.shelves new.shelves
  pub finds : OldFinds told s c block result old new
  pub others : LeavesOthers told s c old new

-- the same of Q, where there is one
abbrev pub SecondFinds : Type 0 → ℕ → List ℕ → Checked → GroupView → GroupView → Type 0
SecondFinds told s q checked.Sound old new =
    old.table.parity ≡ 2 → OldFinds told s (old.table.data_columns + 1) q found.Sound old new
SecondFinds told s q (checked.Missing column) old new =
    (old.table.parity ≡ 2) × (column ≡ old.table.data_columns + 1)
    × OldFinds told s column q found.Missing old new
SecondFinds told s q (checked.NotRead column) old new =
    (old.table.parity ≡ 2) × (column ≡ old.table.data_columns + 1)
    × OldFinds told s column q found.NotRead old new

pub record ReadsSecond (told : Type 0) (s : ℕ) (q : List ℕ) (result : Checked)
    (old new : GroupView) : Type 0 where
  pub stays : ShelvesStay told old.shelves new.shelves
  pub finds : SecondFinds told s q result old new
  pub first : told
      → held_at old.table new.shelves.held s old.table.data_columns
      ≡ held_at old.table old.shelves.held s old.table.data_columns

-- these are the old parity blocks of a stripe
pub record HasOld (told : Type 0) (t : Table) (h : Holdings) (s : ℕ) (p q : List ℕ) : Type 0 where
  pub first : told → IsOld (stripe_of t h s) t.data_columns p
  pub second : told → t.parity ≡ 2 → IsOld (stripe_of t h s) (t.data_columns + 1) q
  pub fits : FitsParity t s p q

-- where it is Q, P is sound
abbrev pub IsLeast : Type 0 → Table → Holdings → ℕ → ℕ → Type 0
IsLeast told t h s column =
    told → column ≡ t.data_columns + 1 → Sound (stripe_of t h s) t.data_columns

-- all old parity blocks, or the first parity column whose block is missing or whose archive failed
abbrev pub ParityFinds : Type 0 → ℕ → List ℕ → List ℕ → Checked → GroupView → GroupView → Type 0
ParityFinds told s p q checked.Sound old new = HasOld told old.table new.shelves.held s p q
ParityFinds told s p q (checked.Missing column) old new =
    (old.table.data_columns ≤ column) × (column < width old.table)
    × OldFinds told s column q found.Missing old new
    × IsLeast told old.table new.shelves.held s column
ParityFinds told s p q (checked.NotRead column) old new =
    (old.table.data_columns ≤ column) × (column < width old.table)
    × OldFinds told s column q found.NotRead old new

pub record ReadsParity (told : Type 0) (s : ℕ) (p q : List ℕ) (result : Checked)
    (old new : GroupView) : Type 0 where
  pub stays : ShelvesStay told old.shelves new.shelves
  pub finds : ParityFinds told s p q result old new

-- THE STRIPES THAT A PUT PASSES

-- a parity slot of a stripe that takes blocks was Live and found without its block, if one was
abbrev pub FoundGone : Type 0 → GroupView → GroupView → ℕ → Option ℕ → Type 0
FoundGone told old new s gone =
    IfSome gone
    (λ c.
    (old.table.data_columns ≤ c) × (c < width old.table)
    × (told → Sound (stripe_of old.table new.shelves.held s) c → ⊥)
    × TakesBlocks old.table s × IsTrue (is_live (slot_at old.table s c))
    × IsLeast told old.table old.shelves.held s c)

-- why a put stops at a stripe: it takes the block, no stripe is left, the log has no room for the
-- next entry, or the archive of a parity column failed
abbrev pub StopMeans : Type 0 → ℕ → List ℕ → List ℕ → Stop → GroupView → GroupView → Type 0
StopMeans told job p q stop.Here old new =
    Logs [] old new × AtCursor old.table old.table.cursor.stripe
    × TakesBlocks old.table old.table.cursor.stripe × (length old.log < log_bound)
    × HasOld told old.table new.shelves.held old.table.cursor.stripe p q
StopMeans told job p q stop.Full old new =
    Logs [] old new × (old.table.cursor.stripe ≡ old.table.stripes)
StopMeans told job p q stop.LogFull old new =
    (gone : Option ℕ) × FoundGone told old new old.table.cursor.stripe gone
    × Logs (gone_entries job old.table.cursor.stripe gone) old new
    × (length new.log ≡ log_bound) × (old.table.cursor.stripe < old.table.stripes)
StopMeans told job p q (stop.Faulted column) old new =
    Logs (entry.Fault job old.table.cursor.stripe column ∷ []) old new
    × FailedAt old new old.table.cursor.stripe column
    × TakesBlocks old.table old.table.cursor.stripe × (old.table.data_columns ≤ column)
    × (slot_at old.table old.table.cursor.stripe column ≢ Void)

-- one stripe: None where it is passed
abbrev pub PassMeans : Type 0 → ℕ → List ℕ → List ℕ → Option Stop → GroupView → GroupView → Type 0
PassMeans told job p q None old new =
    (gone : Option ℕ) × FoundGone told old new old.table.cursor.stripe gone
    × Logs
    (gone_entries job old.table.cursor.stripe gone
    ++ entry.Skip job old.table.cursor.stripe ∷ [])
    old new
PassMeans told job p q (Some s) old new = StopMeans told job p q s old new

pub record Passes (told : Type 0) (job : ℕ) (p q : List ℕ) (result : Option Stop)
    (old new : GroupView) : Type 0 where
  pub stays : ShelvesStay told old.shelves new.shelves
  pub means : PassMeans told job p q result old new

-- The stripes that were passed so far. The slots ahead, and the archives that serve them, are as
-- they were.
pub record PassesAll (told : Type 0) (job : ℕ) (passed : List Passed)
    (old now : GroupView) : Type 0 where
  pub logs : Logs (skips job passed) old now
  pub stays : ShelvesStay told old.shelves now.shelves
  pub missing : told
      → All (λ x. IfSome x.gone (λ c. IsParityMissing (state_of old) now.shelves.held x.stripe c)) passed
  pub gones : FitsPassed old.table passed
  pub ahead : (n k : ℕ) → now.table.cursor.stripe ≤ n → k < width old.table
      → slot_at now.table n k ≡ slot_at old.table n k
  pub relays : now.table.relays ≡ old.table.relays
  pub columns : now.table.columns ≡ old.table.columns
  pub data_columns : now.table.data_columns ≡ old.table.data_columns
  pub parity : now.table.parity ≡ old.table.parity
  pub stripes : now.table.stripes ≡ old.table.stripes

-- the stripes that a put passes, and why it stops at the next
pub record FindsStripe (told : Type 0) (job : ℕ) (p q : List ℕ) (s : Stop)
    (old new : GroupView) : Type 0 where
  pub passed : List Passed
  pub now : GroupView
  pub passes : PassesAll told job passed old now
  pub stays : ShelvesStay told now.shelves new.shelves
  pub means : StopMeans told job p q s now new

-- THE WRITES

-- this is the block, or the new parity block, that a put writes into its stripe's slot of this
-- archive
abbrev pub IsPut : Table → ℕ → ℕ → List ℕ → List ℕ → List ℕ → ℕ → List ℕ → Type 0
IsPut t s c block p q number x =
    ((number ≡ serving_at t s c) × (x ≡ block))
    ⊎ (((number ≡ serving_at t s t.data_columns) × (x ≡ p))
    ⊎ ((t.parity ≡ 2) × (number ≡ serving_at t s (t.data_columns + 1)) × (x ≡ q)))

-- the new parity block that goes into the stripe's slot of this archive was not kept
abbrev pub IsNotKept : Table → ℕ → Bool → Bool → ℕ → Type 0
IsNotKept t s kept kept2 number =
    ((kept ≡ false) × (number ≡ serving_at t s t.data_columns))
    ⊎ ((t.parity ≡ 2) × (kept2 ≡ false) × (number ≡ serving_at t s (t.data_columns + 1)))

-- What is held once a block was written at a place and the parity blocks `p` and `q` of its stripe
-- were, or what failed writes left of them. Nothing else changes.
pub record PutsAt (t : Table) (h written : Holdings) (s c : ℕ) (block p q : List ℕ)
    (kept kept2 : Bool) : Type 0 where
  pub data_block : held_at t written s c ≡ Some block
  pub first : WriteLeaves kept (held_at t h s t.data_columns) p (held_at t written s t.data_columns)
  pub second : t.parity ≡ 2
      → WriteLeaves kept2 (held_at t h s (t.data_columns + 1)) q
      (held_at t written s (t.data_columns + 1))
  pub others : (n k : ℕ) → n < t.stripes → k < width t → (n ≢ s) ⊎ ((k < t.data_columns) × (k ≢ c))
      → held_at t written n k ≡ held_at t h n k
  pub elsewhere : (number slot : ℕ)
      → (slot ≢ s) ⊎ ((k : ℕ) → k < width t → serving_at t s k ≢ number)
      → written number slot ≡ h number slot
  pub frame : (number slot : ℕ) (x : List ℕ) → written number slot ≡ Some x
      → (h number slot ≡ Some x) ⊎ ((slot ≡ s) × IsPut t s c block p q number x)
  pub full : (number slot : ℕ) (x : List ℕ) → h number slot ≡ Some x
      → ((y : List ℕ) × (written number slot ≡ Some y))
      ⊎ ((slot ≡ s) × IsNotKept t s kept kept2 number)

-- The block was written, and the new parity blocks as far as they were kept.
pub record WritesAll (told : Type 0) (t : Table) (s c : ℕ) (block p q : List ℕ) (kept kept2 : Bool)
    (old new : Shelves) : Type 0 where
  pub keeps : Keeps old new
  pub heard : told → (number : ℕ) → new.heard number ≡ old.heard number
  pub wrote : told
      → (written : Holdings) × PutsAt t old.held written s c block p q kept kept2
      × LosesByCount written old new
  pub remembers : told → (number : ℕ) (x : List ℕ) → Contains (new.history number) x
      → Contains (old.history number) x ⊎ IsPut t s c block p q number x
  pub first : kept ≡ false
      → Rose (old.faults (serving_at t s t.data_columns))
      (new.faults (serving_at t s t.data_columns))
  pub second : kept2 ≡ false
      → (t.parity ≡ 2)
      × Rose (old.faults (serving_at t s (t.data_columns + 1)))
      (new.faults (serving_at t s (t.data_columns + 1)))

-- the writes of a put at the cursor, with the new parity blocks
abbrev pub WritesPut : Type 0 → Table → List ℕ → List ℕ → List ℕ → Option Kept → Shelves → Shelves
    → Type 0
WritesPut told t block p q None old new =
    (e : Failed)
    × WritesAt told (serving_at t t.cursor.stripe t.cursor.column) t.cursor.stripe block (Err e)
    old new
WritesPut told t block p q (Some kept) old new =
    WritesAll told t t.cursor.stripe t.cursor.column block p q kept.first kept.second old new

-- the entry of a put, by its new parity blocks
abbrev pub made_entry : ℕ → ℕ → ℕ → ℕ → List ℕ → List ℕ → List ℕ → Bool → Bool → Entry
made_entry parity job s c block p q kept kept2 =
    if nat_eq parity 1 then entry.Put job s c (digest_of block) (digest_of p) kept
    else entry.Put2 job s c (digest_of block) (digest_of p) (digest_of q) kept kept2

-- the answer of a put whose block was written, with `last` as the column of P
abbrev pub answered : Place → ℕ → Bool → Bool → Result Place PutFault
answered place last true true = Ok place
answered place last true false = Err (fault.Faulted (last + 1))
answered place last false kept2 = Err (fault.Faulted last)

-- The block was written, and the parity blocks `p` and `q` were changed by it.
pub record PutsAll (told : Type 0) (job s c : ℕ) (block p q : List ℕ) (kept kept2 : Bool)
    (old new : GroupView) : Type 0 where
  pub is_block : IsBlock block
  pub logs : Logs (put_entry old.table.parity job s c block p q kept kept2 ∷ []) old new
  pub writes : WritesAll told old.table s c block (xor p block) (xor q (scaled (power 3 c) block))
      kept kept2 old.shelves new.shelves

-- the data block was not written
pub record PutsNone (told : Type 0) (job s c : ℕ) (block : List ℕ)
    (old new : GroupView) : Type 0 where
  pub logs : LogsOf (entry.Fault job s c ∷ []) old new
  pub tried : new.tried ≡ old.tried ++ (length old.log, block) ∷ []
  pub holds : told
      → (left : Option (List ℕ))
      × MayLeave (old.shelves.held (serving_at old.table s c) s) block left
      × LosesByCount (put_at old.shelves.held (serving_at old.table s c) s left) old.shelves
      new.shelves
  pub keeps : Keeps old.shelves new.shelves
  pub heard : told → (number : ℕ) → new.shelves.heard number ≡ old.shelves.heard number
  pub fails : FailedAt old new s c

abbrev pub BlockMeans : Type 0 → ℕ → List ℕ → List ℕ → List ℕ → Result Place PutFault → GroupView
    → GroupView → Type 0
BlockMeans told job block p q (Ok place) old new =
    (place.group ≡ old.number) × (place.stripe ≡ old.table.cursor.stripe)
    × (place.column ≡ old.table.cursor.column)
    × PutsAll told job place.stripe place.column block p q true true old new
BlockMeans told job block p q (Err (fault.Faulted column)) old new =
    (PutsNone told job old.table.cursor.stripe column block old new
    × (column ≡ old.table.cursor.column))
    ⊎ ((kept : Bool) × (kept2 : Bool)
    × PutsAll told job old.table.cursor.stripe old.table.cursor.column block p q kept kept2 old
    new
    × ((kept ≡ false) ⊎ (kept2 ≡ false)) × (column ≡ unkept old.table.data_columns kept))
BlockMeans told job block p q (Err fault.Full) old new = ⊥
BlockMeans told job block p q (Err fault.LogFull) old new = ⊥
