-- A place that can be rebuilt becomes sound by a look and a bounded number of calls of `mend`.
use Rattle.std.specs.Prelude.{◌≡◌, ◌≢◌, ◌≤◌, ◌<◌, ◌+◌, ◌*◌, ℕ, zero, suc, List, None, IsTrue, false}
use Rattle.pot_machine.specs.Slot.{is_live}
use Rattle.pot_machine.specs.Table.{width, slot_at}
use Rattle.pot_steps.specs.Stripe.{Sound}
use Rattle.pot_steps.specs.Law.{Rebuildable}
use Rattle.pot_steps.specs.Holdings.{stripe_of}
use Rattle.pot_steps.specs.Entries.{held_at}
use Rattle.pot_steps.specs.Losses.{KeepsHeld}
use Rattle.pot_steps.specs.GroupStep.{GroupState, Settled, LookStep, Looked, Seen, Gone, Faulted}
use Rattle.pot_steps.specs.GroupStep.{LogFull}
use Rattle.pot_steps.specs.RelaySteps.{MendStep, MendAnswer, MendFaulted, MendFull}

-- No archive loses a block in a call: what was held at a Live place is held there still, and a
-- place that has become Live holds what was written, or at least a block.
pub record LosesNothing (old new : GroupState) : Type 0 where
  pub kept : KeepsHeld old.table old.held new.held
  pub written : (s c : ℕ) → s < old.table.stripes → c < width old.table
      → is_live (slot_at old.table s c) ≡ false
      → IsTrue (is_live (slot_at new.table s c)) → held_at new.table new.held s c ≢ None

-- no device failed, and the log had room
abbrev pub LookedWell : Looked → Type 0
LookedWell (Seen block) = Unit {0}
LookedWell Gone = Unit {0}
LookedWell Faulted = ⊥
LookedWell LogFull = ⊥

abbrev pub MendedWell : MendAnswer → Type 0
MendedWell (MendFaulted column) = ⊥
MendedWell MendFull = ⊥
MendedWell _ = Unit {0}

-- so many calls of `mend` at a place, of any jobs and with any blinds, one after another and
-- without any other call between them, in which no device fails, the log has room and no block is
-- lost
abbrev pub MendsSoOften : ℕ → ℕ → ℕ → GroupState → GroupState → Type 0
MendsSoOften zero s c old new = new ≡ old
MendsSoOften (suc n) s c old new =
    (job : ℕ) × (blind : List ℕ) × (answer : MendAnswer) × (mid : GroupState)
    × MendStep job s c blind answer old mid × MendedWell answer × LosesNothing old mid
    × MendsSoOften n s c mid new

-- With C data columns 2C+3 calls with one parity column, and 3C+4 with two: a relay of another
-- target ends, and then one relay of the place for each other slot of its stripe that may be found
-- missing on the way, and one that ends well.
abbrev pub mends_needed : ℕ → ℕ → ℕ
mends_needed data_columns parity = (1 + parity) * data_columns + (2 + parity)

-- After a look at a place that can be rebuilt, and so many calls of `mend`, the place is sound.
-- Fewer may do, and the others then change nothing.
abbrev pub MendingLaw : Type 0
MendingLaw =
    (job s c n : ℕ) (answer : Looked) (old looked new : GroupState) → Settled old
    → s < old.table.stripes
    → Rebuildable old.table.data_columns old.table.parity (stripe_of old.table old.held s) c
    → LookStep job s c answer old looked → LookedWell answer → LosesNothing old looked
    → mends_needed old.table.data_columns old.table.parity ≤ n → MendsSoOften n s c looked new
    → Sound (stripe_of new.table new.held s) c
