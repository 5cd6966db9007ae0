-- The machine of a group: which entries are legal in a table, and what each does to it.
use Rattle.std.specs.Prelude.{◌≡◌, ◌≢◌, ◌⊎◌, ◌↔◌, ◌<◌, ◌≤◌, ℕ, zero, suc, ◌+◌, ◌==◌, ◌&&◌, nat_lt}
use Rattle.std.specs.Prelude.{nat_le, Bool, not, Option, Some, None, is_some, IsSome, IsSomeAnd}
use Rattle.std.specs.Prelude.{IsTrue, List, [], ◌∷◌, ◌++◌, if◌then◌else◌, length, take, slice_get}
use Rattle.std.specs.Prelude.{slice_set, filter, map}
use Rattle.pot_bytes.specs.declared.digest.Digest.{Digest}
use Rattle.pot_machine.specs.declared.slot.SlotState.{SlotState}
use Rattle.pot_machine.specs.declared.slot.SlotState.TheVariants.{Live}
use Rattle.pot_machine.specs.declared.column.Column.{Column}
use Rattle.pot_machine.specs.declared.relay.Relay.{Relay}
use Rattle.pot_machine.specs.declared.cursor.Cursor.{Cursor}
use Rattle.pot_machine.specs.declared.entry.Entry.{Entry}
use Rattle.pot_machine.specs.declared.entry.Entry.TheVariants.{Put, Skip, Seen, Gone, Broke, Fault}
use Rattle.pot_machine.specs.declared.entry.Entry.TheVariants.{Begin, Hop, Mended, GaveUp, Oddly}
use Rattle.pot_machine.specs.declared.entry.Entry.TheVariants.{Stuck, MoveBegin, Moved, MoveEnd}
use Rattle.pot_machine.specs.declared.entry.Entry.TheVariants.{Swapped, Counted, Put2}
use Rattle.pot_machine.specs.Slot.{digest_in, is_live, is_lost, is_broken, is_unsound, lost_of}
use Rattle.pot_machine.specs.Slot.{broken_of, live_of, parity_slot}
use Rattle.pot_machine.specs.Table.{Table, width, place_of, slot_at, column_at, relay_at, first}
use Rattle.pot_machine.specs.Table.{first_beside, count_beside, next_column, holder_of}

-- WHICH ENTRIES ARE LEGAL

abbrev pub InRange : Table → ℕ → ℕ → Type 0
InRange t s c = (s < t.stripes) × (c < width t)

-- the stripe is the cursor's, and the group has it
abbrev pub AtCursor : Table → ℕ → Type 0
AtCursor t s = (s ≡ t.cursor.stripe) × (s < t.stripes)

-- the stripe has no relay and no slot that is Lost or Broken
abbrev pub TakesBlocks : Table → ℕ → Type 0
TakesBlocks t s = (relay_at t s ≡ None) × (first t s is_unsound ≡ None)

-- the place is the cursor's, and its stripe takes blocks
abbrev pub TakesPut : Table → ℕ → ℕ → Type 0
TakesPut t s c = AtCursor t s × (c ≡ t.cursor.column) × TakesBlocks t s

-- the stripe is the cursor's, and has a relay or a slot that is Lost or Broken
abbrev pub TakesSkip : Table → ℕ → Type 0
TakesSkip t s = AtCursor t s × (IsSome (relay_at t s) ⊎ IsSome (first t s is_unsound))

-- the slot is Live or Lost
abbrev pub TakesBroke : Table → ℕ → ℕ → Type 0
TakesBroke t s c = IsTrue (is_live (slot_at t s c)) ⊎ IsTrue (is_lost (slot_at t s c))

-- the slot is Lost, or is Broken and there is one parity column
abbrev pub MayBeRebuilt : Table → ℕ → ℕ → Type 0
MayBeRebuilt t s c =
    IsTrue (is_lost (slot_at t s c)) ⊎ (IsTrue (is_broken (slot_at t s c)) × (t.parity ≡ 1))

-- the stripe has no relay; no other slot is Broken, and fewer other slots are Lost than there are
-- parity columns; fewer than 16 relays stand
abbrev pub TakesRelay : Table → ℕ → ℕ → Type 0
TakesRelay t s c =
    InRange t s c
    × MayBeRebuilt t s c
    × (relay_at t s ≡ None)
    × (first_beside t s c is_broken ≡ None)
    × (count_beside t s c is_lost < t.parity)
    × (length t.relays < 16)

-- the stripe has a relay, and this is its next column
abbrev pub GoesTo : Table → ℕ → ℕ → Type 0
GoesTo t s c = IsSomeAnd (relay_at t s) (λ r. next_column t r ≡ Some c)

-- the stripe has a relay with this target, and this is its next column, if there is one
abbrev pub RelayStandsAt : Table → ℕ → ℕ → Option ℕ → Type 0
RelayStandsAt t s c next = IsSomeAnd (relay_at t s) (λ r. (r.target ≡ c) × (next_column t r ≡ next))

-- why no relay can begin at an unsound slot, whatever else stands. Where there are two parity
-- columns and the stripe has a Broken slot, it is the least such one. Else it is the least of the
-- other slots that are Lost or Broken, where these are no fewer than the parity columns
abbrev pub stuck_by : Table → ℕ → ℕ → Option ℕ
stuck_by t s c =
    if (t.parity == 2) && is_some (first t s is_broken) then first t s is_broken
    else (if nat_le t.parity (count_beside t s c is_unsound) then first_beside t s c is_unsound
    else None)

-- the group has the column, and no home or target in the group is the archive of this number
abbrev pub TakesArchive : Table → ℕ → ℕ → Type 0
TakesArchive t c number = (c < width t) × (holder_of t number ≡ None)

-- the group has the column, and it moves and has come to this stripe
abbrev pub MovesAt : Table → ℕ → ℕ → Type 0
MovesAt t c s = (c < width t) × IsSomeAnd (column_at t c).moving (λ m. m.upto ≡ s)

abbrev pub Legal : Table → Entry → Type 0
Legal t (Put job s c digest parity_digest kept) = (t.parity ≡ 1) × TakesPut t s c
Legal t (Skip job s) = TakesSkip t s
Legal t (Seen job s c) = InRange t s c × IsTrue (is_live (slot_at t s c))
Legal t (Gone job s c) = InRange t s c
Legal t (Broke job s c) = (job ≡ 0) × InRange t s c × TakesBroke t s c
Legal t (Fault job s c) = InRange t s c
Legal t (Begin job s c) = TakesRelay t s c
Legal t (Hop job s c) = InRange t s c × GoesTo t s c × IsTrue (is_live (slot_at t s c))
Legal t (Mended job s c) = InRange t s c × RelayStandsAt t s c None
Legal t (GaveUp job s c other) = InRange t s c × RelayStandsAt t s c (Some other)
Legal t (Oddly job s c found) =
    InRange t s c × RelayStandsAt t s c None × (digest_in (slot_at t s c) ≢ Some found)
Legal t (Stuck job s c other) =
    InRange t s c × IsTrue (is_unsound (slot_at t s c)) × (relay_at t s ≡ None)
    × (stuck_by t s c ≡ Some other)
Legal t (MoveBegin job c to) = TakesArchive t c to × ((column_at t c).moving ≡ None)
Legal t (Moved job s c copied) =
    MovesAt t c s × (s < t.stripes) × (IsTrue copied → IsTrue (is_live (slot_at t s c)))
Legal t (MoveEnd job c) = MovesAt t c t.stripes
Legal t (Swapped job c to) = TakesArchive t c to
Legal t (Counted job) = Unit {0}
Legal t (Put2 job s c digest parity_digest second_digest kept kept2) =
    (t.parity ≡ 2) × TakesPut t s c

-- WHAT EACH ENTRY DOES

abbrev pub with_slot : Table → ℕ → ℕ → SlotState → Table
with_slot t s c x = record t { slots = slice_set t.slots (place_of t s c) x }

abbrev pub with_column : Table → ℕ → Column → Table
with_column t c x = record t { columns = slice_set t.columns c x }

-- the cursor goes one column on, or to column 0 of the next stripe after the last data column
abbrev pub past : Table → ℕ → ℕ → Cursor
past t s c =
    record {
      stripe = if nat_lt (c + 1) t.data_columns then s
          else s + 1;
      column = if nat_lt (c + 1) t.data_columns then c + 1 else 0;
    }

-- a block is put in the data slot, and the digest of the new parity block in the slot of P
abbrev pub with_put : Table → ℕ → ℕ → Digest → Digest → Bool → Table
with_put t s c digest parity_digest kept =
    with_slot (with_slot t s c (Live digest)) s t.data_columns (parity_slot parity_digest kept)

abbrev pub with_cursor : Table → Cursor → Table
with_cursor t x = record t { cursor = x }

-- a relay with this target and no last column is added as the last
abbrev pub with_relay : Table → ℕ → ℕ → Table
with_relay t s c =
    record t {
      relays = t.relays
          ++ record { stripe = s; target = c; skip = first_beside t s c is_lost; last = None } ∷ [];
    }

abbrev pub hopped : ℕ → ℕ → Relay → Relay
hopped s c r = record r { last = if r.stripe == s then Some c else r.last }

-- the last column of the stripe's relay is this one
abbrev pub with_hop : Table → ℕ → ℕ → Table
with_hop t s c = record t { relays = map (hopped s c) t.relays }

abbrev pub without_relay : Table → ℕ → Table
without_relay t s = record t { relays = filter (λ r. not (r.stripe == s)) t.relays }

-- where the slot is Live it becomes Lost
abbrev pub with_loss : Table → ℕ → ℕ → Table
with_loss t s c = with_slot t s c (lost_of (slot_at t s c))

-- each slot of the column that is Live becomes Lost, in the first `n` stripes
abbrev pub with_losses : ℕ → Table → ℕ → Table
with_losses zero t c = t
with_losses (suc n) t c = with_loss (with_losses n t c) n c

-- a move goes on by one stripe
abbrev pub moved_on : Column → Column
moved_on c =
    record c {
      moving = elim c.moving
          [ None ↦ None | Some m ↦ Some (record { to = m.to; upto = m.upto + 1 }) ];
    }

-- the home becomes the target
abbrev pub moved_home : Column → Column
moved_home c = record { home = elim c.moving [ None ↦ c.home | Some m ↦ m.to ]; moving = None }

abbrev pub after : Table → Entry → Table
after t (Put job s c digest parity_digest kept) =
    with_cursor (with_put t s c digest parity_digest kept) (past t s c)
after t (Skip job s) = with_cursor t (record { stripe = s + 1; column = 0 })
after t (Seen job s c) = t
after t (Gone job s c) = with_loss t s c
after t (Broke job s c) = with_slot t s c (broken_of (slot_at t s c))
after t (Fault job s c) = t
after t (Begin job s c) = with_relay t s c
after t (Hop job s c) = with_hop t s c
after t (Mended job s c) = without_relay (with_slot t s c (live_of (slot_at t s c))) s
after t (GaveUp job s c other) = without_relay (with_loss t s other) s
after t (Oddly job s c found) = without_relay t s
after t (Stuck job s c other) = t
after t (MoveBegin job c to) =
    with_column t c (record (column_at t c) { moving = Some (record { to = to; upto = 0 }) })
after t (Moved job s c copied) =
    with_column (if copied then t else with_loss t s c) c (moved_on (column_at t c))
after t (MoveEnd job c) = with_column t c (moved_home (column_at t c))
after t (Swapped job c to) =
    with_column (with_losses t.stripes t c) c (record { home = to; moving = None })
after t (Counted job) = t
after t (Put2 job s c digest parity_digest second_digest kept kept2) =
    with_cursor (with_slot (with_put t s c digest parity_digest kept) s (t.data_columns + 1)
    (parity_slot second_digest kept2)) (past t s c)

-- WHOLE LOGS

-- the entries lead from one table to the other, each legal in turn
abbrev pub Replays : Table → List Entry → Table → Type 0
Replays t [] u = u ≡ t
Replays t (e ∷ log) u = Legal t e × Replays (after t e) log u

-- the first `applied` entries lead to the second table, and the next one, if there is one, is not
-- legal there
pub record Replayed (t u : Table) (entries : List Entry) (whole : Bool) : Type 0 where
  pub applied : ℕ
  pub within : applied ≤ length entries
  pub replays : Replays t (take applied entries) u
  pub stops : (e : Entry) → slice_get entries applied ≡ Some e → Legal u e → ⊥
  pub all : IsTrue whole ↔ (applied ≡ length entries)
