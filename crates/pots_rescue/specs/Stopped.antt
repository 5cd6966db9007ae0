-- A session that was stopped, over the archives of a table: what each moment leaves in the slots.
-- Z is the number of stripes, and so of the slot behind all of them.
use Rattle.std.specs.Prelude.{◌≡◌, ◌≤◌, ◌<◌, ℕ}
use Rattle.pot_bytes.specs.declared.digest.Digest.{Digest}
use Rattle.pot_machine.specs.declared.slot.SlotState.TheVariants.{Live}
use Rattle.pot_machine.specs.Table.{Table, serving_at, slot_at, width}
use Rattle.pot_steps.specs.Holdings.{Holdings, stripe_of}
use Rattle.pot_steps.specs.Stripe.{Sound}
use Rattle.pots_rescue.specs.declared.bringing.Brought.{Brought}
use Rattle.pots_rescue.specs.Bringing.{IsBrought}

-- a Live parity slot of the stripe at the cursor, served by this archive
pub record IsAtCursor (t : Table) (c : ℕ) (d : Digest) (n : ℕ) : Type 0 where
  pub within : t.cursor.stripe < t.stripes
  pub column : c < width t
  pub parity : t.data_columns ≤ c
  pub live : slot_at t t.cursor.stripe c ≡ Live d
  pub serves : serving_at t t.cursor.stripe c ≡ n

-- each Live slot holds what it held, but for parity slots of the stripe at the cursor
abbrev pub OtherSlotsStay : Table → Holdings → Holdings → Type 0
OtherSlotsStay t old new =
    (s c : ℕ) (d : Digest) → s < t.stripes → c < width t → slot_at t s c ≡ Live d
    → (s ≡ t.cursor.stripe → t.data_columns ≤ c → ⊥)
    → new (serving_at t s c) s ≡ old (serving_at t s c) s

-- KEPT: a block of each such slot is brought to slot Z of its archive. Below Z each archive holds
-- what it held.
pub record IsParityKept (t : Table) (old new : Holdings) : Type 0 where
  pub same : (n s : ℕ) → s < t.stripes → new n s ≡ old n s
  pub spare : (c : ℕ) (d : Digest) (n : ℕ) → IsAtCursor t c d n
      → (b : Brought) × IsBrought d b (old n t.cursor.stripe) (old n t.stripes) (new n t.stripes)

-- STOPPED: a session wrote what it may write: slots that are not Live, and parity slots of the
-- stripe at the cursor. It wrote into no slot Z.
pub record IsSessionStopped (t : Table) (old new : Holdings) : Type 0 where
  pub others : OtherSlotsStay t old new
  pub spare : (n : ℕ) → new n t.stripes ≡ old n t.stripes

-- PUT BACK: a block of each such slot is brought from slot Z.
pub record IsPutBack (t : Table) (old new : Holdings) : Type 0 where
  pub others : OtherSlotsStay t old new
  pub parity : (c : ℕ) (d : Digest) (n : ℕ) → IsAtCursor t c d n
      → (b : Brought)
      × IsBrought d b (old n t.stripes) (old n t.cursor.stripe) (new n t.cursor.stripe)

-- Each slot of the table that was sound before the session is sound again, whatever the session
-- wrote: so each stripe bears what it bore.
abbrev pub StoppedBears : Type 0
StoppedBears =
    (t : Table) (first kept stopped then : Holdings)
    → IsParityKept t first kept → IsSessionStopped t kept stopped → IsPutBack t stopped then
    → (s c : ℕ) → s < t.stripes → c < width t
    → Sound (stripe_of t first s) c → Sound (stripe_of t then s) c
