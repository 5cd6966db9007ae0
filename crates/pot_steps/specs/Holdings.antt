-- What the archives of a group hold, and the law of all its stripes.
use Rattle.std.specs.Prelude.{◌⊎◌, ◌<◌, ℕ, List, Option, IsTrue}
use Rattle.pot_machine.specs.Slot.{is_live}
use Rattle.pot_machine.specs.Table.{Table, width, slot_at, serving_at, relay_at}
use Rattle.pot_steps.specs.Stripe.{Stripe, Sound}
use Rattle.pot_steps.specs.Law.{StripeLaw}

-- for each archive number and each slot number, the block held there
abbrev pub Holdings : Type 0
Holdings = ℕ → ℕ → Option (List ℕ)

-- stripe number `s` of a table over such archives
abbrev pub stripe_of : Table → Holdings → ℕ → Stripe
stripe_of t h s = record { slots = λ c. slot_at t s c; held = λ c. h (serving_at t s c) s }

-- the law of every stripe
abbrev pub StripesConsistent : Table → Holdings → Type 0
StripesConsistent t h =
    (s : ℕ) → s < t.stripes → StripeLaw t.data_columns t.parity (stripe_of t h s) (relay_at t s)

-- A Live slot is sound, or the count of losses of the archive that serves it rose since the group
-- took it. `rose` says of each archive's number whether it did, as the layer above counts.
abbrev pub LiveLaw : Table → Holdings → (ℕ → Type 0) → Type 0
LiveLaw t h rose =
    (s c : ℕ) → s < t.stripes → c < width t → IsTrue (is_live (slot_at t s c))
    → Sound (stripe_of t h s) c ⊎ rose (serving_at t s c)
