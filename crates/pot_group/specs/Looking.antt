-- What a read of one slot comes to, in the words of a group.
use Rattle.std.specs.Prelude.{◌≡◌, ℕ, List, Some, IsTrue}
use Rattle.pot_machine.specs.declared.slot.SlotState.TheVariants.{Live}
use Rattle.pot_machine.specs.Slot.{is_live}
use Rattle.pot_machine.specs.Table.{slot_at, serving_at}
use Rattle.pot_bytes.specs.Digests.{digest_of}
use Rattle.pot_steps.specs.Stripe.{Sound}
use Rattle.pot_steps.specs.Holdings.{stripe_of}
use Rattle.pot_group.specs.declared.reads.Found.{Found}
use Rattle.pot_group.specs.declared.reads.Found.TheVariants as found
use Rattle.pot_shelves.specs.Shelves.{ShelvesStay}
use Rattle.pot_group.specs.Group.{GroupView, FailedAt, CoversOne}

-- Sound: the slot is Live, and this is its block. Missing: it is not Live, or its archive has no
-- block of its digest. NotRead: it is Live, and its archive failed.
abbrev pub LookFinds : Type 0 → ℕ → ℕ → List ℕ → Found → GroupView → GroupView → Type 0
LookFinds told s c into found.Sound old new =
    (slot_at old.table s c ≡ Live (digest_of into))
    × (told → new.shelves.held (serving_at old.table s c) s ≡ Some into)
LookFinds told s c into found.Missing old new =
    told → Sound (stripe_of old.table new.shelves.held s) c → ⊥
LookFinds told s c into found.NotRead old new =
    FailedAt old new s c × CoversOne new c × IsTrue (is_live (slot_at old.table s c))

pub record Looks (told : Type 0) (s c : ℕ) (into : List ℕ) (result : Found)
    (old new : GroupView) : Type 0 where
  pub stays : ShelvesStay told old.shelves new.shelves
  pub finds : LookFinds told s c into result old new
