-- Archives in memory.
use Rattle.std.specs.Prelude.{◌≡◌, ℕ, Bool, List, map, Some, None, is_some, Result, Ok, Err}
use Rattle.std.specs.Ordering.{nat_cmp}
use Rattle.std.specs.BTreeMap.{get}
use Rattle.pot_outside.specs.Archives.{HeldBlocks, Meaning, at_slot}
use Rattle.pot_outside.specs.declared.faults.Failed.{Failed}
use Rattle.pot_doubles.specs.Losses.{without, losses_at, raised_by}
use Rattle.pot_doubles.specs.Calls.{raised}
use Rattle.pot_doubles.specs.declared.calls.Calls.{Calls}
use Rattle.pot_doubles.specs.declared.losses.Loss.{Loss}
use Rattle.pot_doubles.specs.declared.archive.LossyArchive.{LossyArchive}

-- the block of each slot
abbrev pub held_in : LossyArchive → HeldBlocks
held_in a k = get nat_cmp a.blocks k

-- the blocks that were ever held, in the order in which they were written
abbrev pub history_of : LossyArchive → List (List ℕ)
history_of a = a.past.items

-- the sums heard, each with its slot
abbrev pub heard_by : LossyArchive → List (ℕ × List ℕ)
heard_by a = map (λ h. (h.slot, h.sum)) a.heard.items

-- its calls so far
abbrev pub archive_calls : LossyArchive → Calls
archive_calls a = a.calls

-- whether it is under a fuse
abbrev pub archive_fused : LossyArchive → Bool
archive_fused a = is_some a.fuse

-- how often blocks went missing
abbrev pub lost_by : LossyArchive → ℕ
lost_by a = a.lost

-- what it means
abbrev pub meaning_in : LossyArchive → Meaning
meaning_in a =
    record {
      held = held_in a;
      history = history_of a;
      heard = heard_by a;
      faults = (archive_calls a).faults;
      losses = lost_by a;
    }

-- the losses that are listed
abbrev pub losses_of : LossyArchive → List Loss
losses_of a = a.losses.items

-- the block of each slot, and the count of losses, after those that are listed for the next call
abbrev pub held_after_losses : LossyArchive → HeldBlocks
held_after_losses a k = without (losses_of a) (archive_calls a).made (held_in a) k

abbrev pub lost_after_losses : LossyArchive → ℕ
lost_after_losses a = raised_by (losses_at (losses_of a) (archive_calls a).made) (lost_by a)

-- A call began: the losses listed for it went missing, and each was counted.
pub record LosesListed (old new : LossyArchive) : Type 0 where
  pub blocks : (k : ℕ) → held_in new k ≡ held_after_losses old k
  pub count : lost_by new ≡ lost_after_losses old
  pub listed : losses_of new ≡ losses_of old
  pub past : history_of new ≡ history_of old

-- one slot's block went missing, and it was counted
pub record LosesOne (old new : LossyArchive) (slot : ℕ) : Type 0 where
  pub blocks : (k : ℕ) → held_in new k ≡ at_slot (held_in old) slot None k
  pub count : lost_by new ≡ raised (lost_by old)
  pub listed : losses_of new ≡ losses_of old
  pub past : history_of new ≡ history_of old
  pub heard : heard_by new ≡ heard_by old
  pub calls : archive_calls new ≡ archive_calls old
  pub fuse : archive_fused new ≡ archive_fused old

-- after the losses listed for its call a write puts the block into its slot, or fails and writes
-- nothing
abbrev pub WritesAfterLosses : LossyArchive → LossyArchive → ℕ → List ℕ → Result (Unit {0}) Failed
    → Type 0
WritesAfterLosses old new slot block (Ok u) =
    (k : ℕ) → held_in new k ≡ at_slot (held_after_losses old) slot (Some block) k
WritesAfterLosses old new slot block (Err e) = (k : ℕ) → held_in new k ≡ held_after_losses old k
