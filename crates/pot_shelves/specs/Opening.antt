-- The opening of a group: what it reads, what it logs of it, and what the archives do meanwhile.
use Rattle.std.specs.Prelude.{◌≡◌, ◌≢◌, ◌⊎◌, ◌≤◌, ◌<◌, ◌+◌, ◌-◌, ◌^◌, ◌==◌, ◌&&◌, ◌++◌, ℕ, zero}
use Rattle.std.specs.Prelude.{suc, nat_le, Bool, true, false, IsTrue, List, [], ◌∷◌, Option, Some}
use Rattle.std.specs.Prelude.{None, Result, Ok, Err, IsErr, Contains, length, slice_get}
use Rattle.std.specs.Prelude.{slice_index, if◌then◌else◌}
use Rattle.pot_bytes.specs.declared.digest.Digest.{Digest}
use Rattle.pot_bytes.specs.Sums.{xor, zero_block}
use Rattle.pot_bytes.specs.Weighted.{scaled}
use Rattle.pot_outside.specs.Archives.{ReadTells}
use Rattle.pot_outside.specs.Counts.{Rose}
use Rattle.pot_outside.specs.declared.archive.Held.{Held as IsHeld}
use Rattle.pot_outside.specs.declared.archive.Held.TheVariants.{Held, Absent}
use Rattle.pot_outside.specs.declared.faults.Failed.{Failed}
use Rattle.pot_machine.specs.declared.slot.SlotState.{SlotState}
use Rattle.pot_machine.specs.declared.slot.SlotState.TheVariants as slot
use Rattle.pot_machine.specs.declared.entry.Entry.{Entry}
use Rattle.pot_machine.specs.declared.entry.Entry.TheVariants.{Gone, Broke}
use Rattle.pot_machine.specs.Slot.{is_live}
use Rattle.pot_machine.specs.Column.{names}
use Rattle.pot_machine.specs.Table.{Table, width, slot_at, column_at, serving_at, count}
use Rattle.pot_machine.specs.Machine.{Replays, TakesBroke}
use Rattle.pot_bytes.specs.Lists.{IsBlock}
use Rattle.pot_steps.specs.Equations.{sum_at, p_weight, q_weight}
use Rattle.pot_bytes.specs.Digests.{digest_of}
use Rattle.pot_steps.specs.Stripe.{Stripe, Sound}
use Rattle.pot_steps.specs.Holdings.{stripe_of}
use Rattle.pot_steps.specs.GroupStep.{FindsGone, BreaksStripe, Spared, as_read, entries_where, opening}
use Rattle.pot_shelves.specs.declared.opening.Part.{Part}
use Rattle.pot_shelves.specs.declared.opening.Part.TheVariants.{Empty, Present, Missing, Broken}
use Rattle.pot_shelves.specs.declared.opening.Shortage.{Shortage}
use Rattle.pot_shelves.specs.declared.opening.Shortage.TheVariants.{Nothing, One, Two, More}
use Rattle.pot_shelves.specs.declared.slots.Reading.{Reading}
use Rattle.pot_shelves.specs.Shelves.{Shelves, ShelvesStay}

-- each home and each target of the table is one of these archives
abbrev pub HasArchives : Table → List ℕ → Type 0
HasArchives t numbers =
    (c number : ℕ) → c < width t → IsTrue (names (column_at t c) number) → Contains numbers number

-- how many reads of one stripe failed at the archive of a number
abbrev pub failures_at : Table → (ℕ → Bool) → ℕ → ℕ → ℕ
failures_at t failed s number = count (width t) (λ c. failed c && (serving_at t s c == number))

-- and of the first `n` stripes
abbrev pub failures : Table → (ℕ → ℕ → Bool) → ℕ → ℕ → ℕ
failures t failed zero number = 0
failures t failed (suc n) number = failures t failed n number + failures_at t (failed n) n number

-- so often did the archive of this number fail, unless its count stands at its last value
abbrev pub FailedSo : Shelves → Shelves → ℕ → ℕ → Type 0
FailedSo old new number times =
    (2 ^ 64 - 1 ≤ new.faults number) ⊎ (old.faults number + times ≤ new.faults number)

-- only slots of this stripe changed
pub record ChangesStripe (s : ℕ) (t u : Table) : Type 0 where
  pub shape : u ≡ record t { slots = u.slots }
  pub others : (n k : ℕ) → n ≢ s → k < width t → slot_at u n k ≡ slot_at t n k

-- THE READS OF ONE STRIPE

-- whether a slot was read and its archive gave a block
abbrev pub is_held : Option (Result IsHeld Failed) → Bool
is_held None = false
is_held (Some (Ok Held)) = true
is_held (Some (Ok Absent)) = false
is_held (Some (Err e)) = false

-- what an answer says of a slot in this state, which the archive of this number serves; a slot that
-- is not Live is not read
abbrev pub AnswerMeans : Type 0 → SlotState → ℕ → ℕ → List ℕ → Option (Result IsHeld Failed)
    → Shelves → Shelves → Type 0
AnswerMeans told x number slot block None old new = is_live x ≡ false
AnswerMeans told x number slot block (Some r) old new =
    (told → ReadTells (new.held number) slot block r)
    × (IsErr r → Rose (old.faults number) (new.faults number))

-- One slot is read where it is Live.
pub record ReadsSlot (told : Type 0) (s c : ℕ) (t : Table) (r : Reading)
    (old new : Shelves) : Type 0 where
  pub stays : ShelvesStay told old new
  pub means : AnswerMeans told (slot_at t s c) (serving_at t s c) s r.block r.answer old new

-- The first `n` columns of a stripe are read, one after the other: the archives before and after
-- each. There are 20 places for the reads.
pub record ReadsColumns (told : Type 0) (n s : ℕ) (t : Table) (readings : List Reading)
    (old new : Shelves) : Type 0 where
  pub places : length readings ≡ 20
  pub at : ℕ → Shelves
  pub begins : at 0 ≡ old
  pub ends : at n ≡ new
  pub reads : (c : ℕ) (r : Reading) → c < n → slice_get readings c ≡ Some r
      → ReadsSlot told s c t r (at c) (at (suc c))

-- The digests of the first `n` blocks, of those that were read. There are 20 places for them too.
pub record AreDigests (n : ℕ) (readings : List Reading) (digests : List Digest) : Type 0 where
  pub places : length digests ≡ 20
  pub right : (c : ℕ) (r : Reading) (d : Digest) → c < n → slice_get readings c ≡ Some r
      → slice_get digests c ≡ Some d → IsTrue (is_held r.answer) → d ≡ digest_of r.block

-- ONE SLOT

-- what a slot gave
abbrev pub IsPart : SlotState → List ℕ → Part → Type 0
IsPart x into Empty = x ≡ slot.Void
IsPart x into Present = (x ≡ slot.Live (digest_of into)) × IsBlock into
IsPart x into (Missing d) = (x ≡ slot.Live d) ⊎ (x ≡ slot.Lost d)
IsPart x into Broken = (d : Digest) × (x ≡ slot.Broken d)

-- the block that it gave
abbrev pub block_of : List ℕ → Part → Option (List ℕ)
block_of into Empty = None
block_of into Present = Some into
block_of into (Missing d) = None
block_of into Broken = None

abbrev pub is_missing : Part → Bool
is_missing Empty = false
is_missing Present = false
is_missing (Missing d) = true
is_missing Broken = false

-- the entry of a slot that is Live and whose block is missing
abbrev pub gone_entry : Bool → ℕ → ℕ → List Entry
gone_entry gone s c = if gone then Gone 0 s c ∷ [] else []

-- One slot is opened. `failed` is true where its read failed.
pub record OpensSlot (told : Type 0) (s c : ℕ) (t u : Table) (before now : List Entry) (part : Part)
    (into : List ℕ) (old new : Shelves) : Type 0 where
  pub gone : Bool
  pub failed : Bool
  pub is : IsPart (slot_at t s c) into part
  pub found : gone ≡ is_live (slot_at t s c) && is_missing part
  pub missing : told → gone ≡ true → failed ≡ false → Sound (stripe_of t new.held s) c → ⊥
  pub reads : told → part ≡ Present → new.held (serving_at t s c) s ≡ Some into
  pub log : now ≡ before ++ gone_entry gone s c
  pub replay : Replays t (gone_entry gone s c) u
  pub few : (number : ℕ)
      → FailedSo old new number (if failed && (serving_at t s c == number) then 1 else 0)
  pub stays : ShelvesStay told old new

-- THE COLUMNS OF ONE STRIPE

-- one slot more that gave no block and is not Broken
abbrev pub short_one : Shortage → ℕ → Digest → Shortage
short_one Nothing c d = One c d
short_one (One u e) c d = Two u e c d
short_one (Two u e k f) c d = More
short_one More c d = More

-- one part more
abbrev pub short_by : Shortage → ℕ → Part → Shortage
short_by shortage c Empty = shortage
short_by shortage c Present = shortage
short_by shortage c (Missing d) = short_one shortage c d
short_by shortage c Broken = More

-- the sum of P once a slot gave this
abbrev pub first_by : ℕ → ℕ → Part → List ℕ → List ℕ → List ℕ
first_by data_columns c Empty sum block = sum
first_by data_columns c Present sum block = if nat_le c data_columns then xor sum block else sum
first_by data_columns c (Missing d) sum block = sum
first_by data_columns c Broken sum block = sum

-- and that of Q
abbrev pub second_by : ℕ → ℕ → Part → List ℕ → List ℕ → List ℕ
second_by data_columns c Empty sum block = sum
second_by data_columns c Present sum block = xor sum (scaled (q_weight data_columns c) block)
second_by data_columns c (Missing d) sum block = sum
second_by data_columns c Broken sum block = sum

-- a block, or zeros for none
abbrev pub or_zeros : Option (List ℕ) → List ℕ
or_zeros None = zero_block
or_zeros (Some b) = b

-- the slot is sound by the block that was read, or it is Void
abbrev pub IsWell : Stripe → ℕ → Type 0
IsWell s c = (s.slots c ≡ slot.Void) ⊎ Sound s c

-- the slot is neither Void nor sound
abbrev pub IsUnwell : Stripe → ℕ → Type 0
IsUnwell s c = (s.slots c ≢ slot.Void) × (Sound s c → ⊥)

-- the slot has this digest, is not Broken, and gave no block
abbrev pub IsAbsent : Stripe → ℕ → Digest → Type 0
IsAbsent s c d = ((s.slots c ≡ slot.Live d) ⊎ (s.slots c ≡ slot.Lost d)) × (Sound s c → ⊥)

-- which of the first `n` slots gave no block
abbrev pub IsShort : ℕ → Stripe → Shortage → Type 0
IsShort n s Nothing = (c : ℕ) → c < n → IsWell s c
IsShort n s (One u d) = (u < n) × IsAbsent s u d × ((c : ℕ) → c < n → c ≢ u → IsWell s c)
IsShort n s (Two u d k e) =
    (u < k) × (k < n) × IsAbsent s u d × IsAbsent s k e
    × ((c : ℕ) → c < n → c ≢ u → c ≢ k → IsWell s c)
IsShort n s More =
    ((c : ℕ) × (d : Digest) × (c < n) × (s.slots c ≡ slot.Broken d))
    ⊎ ((c : ℕ) × (j : ℕ) × (k : ℕ) × (c < j) × (j < k) × (k < n) × IsUnwell s c × IsUnwell s j
    × IsUnwell s k)

-- the sum of weight times block over the blocks that were read of the first `n` columns
pub record IsSum (n : ℕ) (weight : ℕ → ℕ) (read : ℕ → Option (List ℕ)) (sum : List ℕ) : Type 0 where
  pub block : IsBlock sum
  pub bytes : (k : ℕ) → slice_index sum k ≡ sum_at n weight (λ c. or_zeros (read c)) k

-- the sums of both equations, that of Q where there are two parity columns
pub record AreSums (data_columns parity n : ℕ) (read : ℕ → Option (List ℕ))
    (p q : List ℕ) : Type 0 where
  pub blocks : (c : ℕ) → c < n → IsBlock (or_zeros (read c))
  pub first : IsSum n (p_weight data_columns) read p
  pub second : parity ≡ 2 → IsSum n (q_weight data_columns) read q

-- The first `n` columns of a stripe are opened.
pub record OpensColumns (told : Type 0) (n s : ℕ) (t u : Table) (before now : List Entry)
    (shortage : Shortage) (p q : List ℕ) (old new : Shelves) : Type 0 where
  pub read : ℕ → Option (List ℕ)
  pub gone : ℕ → Bool
  pub failed : ℕ → Bool
  pub missing : told → (c : ℕ) → c < n → gone c ≡ true → failed c ≡ false
      → Sound (stripe_of t new.held s) c → ⊥
  pub reads : told → (c : ℕ) (b : List ℕ) → c < n → read c ≡ Some b
      → old.held (serving_at t s c) s ≡ Some b
  pub lives : (c : ℕ) (b : List ℕ) → c < n → read c ≡ Some b
      → slot_at t s c ≡ slot.Live (digest_of b)
  pub finds : FindsGone n (as_read t (λ _ c. read c) s) gone
  pub short : IsShort n (as_read t (λ _ c. read c) s) shortage
  pub adds : AreSums t.data_columns t.parity n read p q
  pub log : now ≡ before ++ entries_where n gone (Gone 0 s)
  pub replay : Replays t (entries_where n gone (Gone 0 s)) u
  pub few : (number : ℕ)
      → FailedSo old new number (count n (λ c. failed c && (serving_at t s c == number)))
  pub changes : ChangesStripe s t u
  pub takes : (k : ℕ) → k < width t → TakesBroke t s k → TakesBroke u s k
  pub later : (k : ℕ) → n ≤ k → k < width t → slot_at u s k ≡ slot_at t s k
  pub stays : ShelvesStay told old new

-- ONE STRIPE

-- One stripe is opened. `read` has the block of each place that gave one of its digest, and
-- `failed` is true where a read failed.
pub record OpensStripe (told : Type 0) (s : ℕ) (t u : Table) (before now : List Entry)
    (old new : Shelves) : Type 0 where
  pub read : ℕ → Option (List ℕ)
  pub gone : ℕ → Bool
  pub broke : ℕ → Bool
  pub failed : ℕ → Bool
  pub missing : told → (c : ℕ) → c < width t → gone c ≡ true → failed c ≡ false
      → Sound (stripe_of t new.held s) c → ⊥
  pub reads : told → (c : ℕ) (b : List ℕ) → c < width t → read c ≡ Some b
      → old.held (serving_at t s c) s ≡ Some b
  pub finds : FindsGone (width t) (as_read t (λ _ c. read c) s) gone
  pub breaks : BreaksStripe t.data_columns t.parity (as_read t (λ _ c. read c) s) broke
      ⊎ Spared t.data_columns t.parity (as_read t (λ _ c. read c) s) broke
  pub log : now
      ≡ before
      ++ (entries_where (width t) gone (Gone 0 s) ++ entries_where (width t) broke (Broke 0 s))
  pub replay : Replays t
      (entries_where (width t) gone (Gone 0 s) ++ entries_where (width t) broke (Broke 0 s)) u
  pub few : (number : ℕ) → FailedSo old new number (failures_at t failed s number)
  pub changes : ChangesStripe s t u
  pub stays : ShelvesStay told old new

-- ALL STRIPES

-- The first `n` stripes of a table are opened, with an empty log at the beginning.
pub record Opens (told : Type 0) (n : ℕ) (t u : Table) (now : List Entry)
    (old new : Shelves) : Type 0 where
  pub read : ℕ → ℕ → Option (List ℕ)
  pub gone : ℕ → ℕ → Bool
  pub broke : ℕ → ℕ → Bool
  pub failed : ℕ → ℕ → Bool
  pub missing : told → (s c : ℕ) → s < n → c < width t → gone s c ≡ true → failed s c ≡ false
      → Sound (stripe_of t new.held s) c → ⊥
  pub reads : told → (s c : ℕ) (b : List ℕ) → s < n → c < width t → read s c ≡ Some b
      → old.held (serving_at t s c) s ≡ Some b
  pub finds : (s : ℕ) → s < n → FindsGone (width t) (as_read t read s) (gone s)
  pub breaks : (s : ℕ) → s < n
      → BreaksStripe t.data_columns t.parity (as_read t read s) (broke s)
      ⊎ Spared t.data_columns t.parity (as_read t read s) (broke s)
  pub log : now ≡ opening (width t) n gone broke
  pub replay : Replays t now u
  pub few : (number : ℕ) → FailedSo old new number (failures t failed n number)
  pub stays : ShelvesStay told old new
