-- Each legal entry keeps the rules of a table.
use Rattle.std.proofs.Common.{◌≡◌, ◌<◌, ◌≤◌, ◌+◌, ◌⊎◌, inl, inr, ℕ, zero, suc, Bool, true, false, not, IsTrue, None, List, length, map, refl, ap, ◌∙◌, arith, if◌then◌else◌}
use Rattle.std.specs.Prelude.{◌==◌}
use Rattle.std.proofs.lemmas.List.{length-set, length-map, length-append}
use Rattle.pot_bytes.specs.declared.digest.Digest.{Digest}
use Rattle.pot_bytes.proofs.Elements.{length-filter_le}
use Rattle.pot_machine.specs.declared.slot.SlotState.{SlotState}
use Rattle.pot_machine.specs.declared.slot.SlotState.TheVariants.{Live}
use Rattle.pot_machine.specs.declared.column.Column.{Column}
use Rattle.pot_machine.specs.declared.relay.Relay.{Relay}
use Rattle.pot_machine.specs.declared.entry.Entry.{Entry}
use Rattle.pot_machine.specs.declared.entry.Entry.TheVariants.{Put, Skip, Seen, Gone, Broke, Fault, Begin, Hop, Mended, GaveUp, Oddly, Stuck, MoveBegin, Moved, MoveEnd, Swapped, Counted, Put2}
use Rattle.pot_machine.specs.Slot.{is_void, is_unsound, lost_of, broken_of, live_of, parity_slot}
use Rattle.pot_machine.specs.Table.{Table, width, place_of, slot_at, column_at, relay_at}
use Rattle.pot_machine.specs.Machine.{Legal, after, TakesPut, TakesRelay, TakesArchive, with_slot, with_put, with_loss, with_losses, with_column, with_cursor, with_relay, with_hop, without_relay, past, hopped, moved_on, moved_home}
use Rattle.pot_machine.specs.Rules.{IsTable, HasSize, HasColumns, HasRelays}
use Rattle.pot_machine.proofs.Places.{slot_same, slot_other, void_same, unsound_kept, void-lost, void-broken, void-live, unsound-lost, unsound-broken, void-parity}
use Rattle.pot_machine.proofs.Voids.{voids_kept, cursor_kept, IsPut, voids_put, cursor_put, voids_skip, cursor_skip}
use Rattle.pot_machine.proofs.Columns.{columns_kept, move_begins, moves_on, move_ends, swaps}
use Rattle.pot_machine.proofs.Relays.{relays_kept, other_stripes, relays_begin, relays_hop, relays_end, others_left, relays_beside}

-- A WRITE OF ONE SLOT

size_slot : (t : Table) (s c : ℕ) (x : SlotState) → HasSize t → HasSize (with_slot t s c x)
size_slot t s c x h = record { data_columns = h.data_columns; parity = h.parity; stripes = h.stripes; columns = h.columns; slots = length-set t.slots (place_of t s c) x ∙ h.slots; relays = h.relays }

columns_slot : (t : Table) (s c : ℕ) (x : SlotState) → HasColumns t → HasColumns (with_slot t s c x)
columns_slot t s c x h = columns_kept t (with_slot t s c x) refl refl refl h

-- a slot that is Void exactly where it was is written, and the relays are as they should be
slot_keeps : (t : Table) (s c : ℕ) (x : SlotState) → is_void x ≡ is_void (slot_at t s c) → HasRelays (with_slot t s c x) → IsTable t → IsTable (with_slot t s c x)
slot_keeps t s c x void relays h = record {
  size = size_slot t s c x h.size;
  cursor = cursor_kept t (with_slot t s c x) refl refl refl h.cursor;
  voids = voids_kept t (with_slot t s c x) (record { data_columns = refl; parity = refl; stripes = refl; cursor = refl; voids = λ n k. void_same t s c x n k void }) h.voids;
  columns = columns_slot t s c x h.columns;
  relays = relays;
}

-- a slot that stays Lost or Broken where it was
unsound_keeps : (t : Table) (s c : ℕ) (x : SlotState) → is_void x ≡ is_void (slot_at t s c) → (IsTrue (is_unsound (slot_at t s c)) → IsTrue (is_unsound x)) → IsTable t → IsTable (with_slot t s c x)
unsound_keeps t s c x void unsound h = slot_keeps t s c x void
    (relays_kept t (with_slot t s c x) refl refl refl refl (λ n k. unsound_kept t s c x n k unsound) h.relays) h

pub loss_keeps : (t : Table) (s c : ℕ) → IsTable t → IsTable (with_loss t s c)
loss_keeps t s c h = unsound_keeps t s c (lost_of (slot_at t s c)) (void-lost (slot_at t s c)) (unsound-lost (slot_at t s c)) h

pub losses_keep : (n : ℕ) (t : Table) (c : ℕ) → IsTable t → IsTable (with_losses n t c)
losses_keep zero t c h = h
losses_keep (suc n) t c h = loss_keeps (with_losses n t c) n c (losses_keep n t c h)

broke_keeps : (t : Table) (s c : ℕ) → IsTable t → IsTable (with_slot t s c (broken_of (slot_at t s c)))
broke_keeps t s c h = unsound_keeps t s c (broken_of (slot_at t s c)) (void-broken (slot_at t s c)) (unsound-broken (slot_at t s c)) h

-- RELAYS

-- the relays alone change
relays_keep : (t : Table) (relays : List Relay) → length relays ≤ 16 → HasRelays (record t { relays = relays }) → IsTable t → IsTable (record t { relays = relays })
relays_keep t relays few r h = record {
  size = record { data_columns = h.size.data_columns; parity = h.size.parity; stripes = h.size.stripes; columns = h.size.columns; slots = h.size.slots; relays = few };
  cursor = cursor_kept t (record t { relays = relays }) refl refl refl h.cursor;
  voids = voids_kept t (record t { relays = relays }) (record { data_columns = refl; parity = refl; stripes = refl; cursor = refl; voids = λ n k. refl }) h.voids;
  columns = columns_kept t (record t { relays = relays }) refl refl refl h.columns;
  relays = r;
}

begin_keeps : (t : Table) (s c : ℕ) → TakesRelay t s c → IsTable t → IsTable (with_relay t s c)
begin_keeps t s c l h = relays_keep t (with_relay t s c).relays
    (let few : length t.relays < 16 = l.5 in let e : length (with_relay t s c).relays ≡ length t.relays + 1 = length-append t.relays _ in omega arith)
    (relays_begin t s c l h.relays) h

hop_keeps : (t : Table) (s c : ℕ) → c < width t → IsTable t → IsTable (with_hop t s c)
hop_keeps t s c lt h = relays_keep t (with_hop t s c).relays
    (let few : length t.relays ≤ 16 = h.size.relays in let e : length (map (hopped s c) t.relays) ≡ length t.relays = length-map t.relays (hopped s c) in omega arith)
    (relays_hop t s c lt h.relays) h

pub end_keeps : (t : Table) (s : ℕ) → IsTable t → IsTable (without_relay t s)
end_keeps t s h = relays_keep t (without_relay t s).relays
    (let few : length t.relays ≤ 16 = h.size.relays in let e : length (without_relay t s).relays ≤ length t.relays = length-filter_le (λ r. not (r.stripe == s)) t.relays in omega arith)
    (relays_end t s h.relays) h

-- a slot of a stripe whose relay has ended is written again
mended_keeps : (t : Table) (s c : ℕ) → c < width t → IsTable t → IsTable (without_relay (with_slot t s c (live_of (slot_at t s c))) s)
mended_keeps t s c lt h =
    slot_keeps (without_relay t s) s c (live_of (slot_at t s c)) (void-live (slot_at t s c))
    (relays_beside (without_relay t s) s c (live_of (slot_at t s c)) lt (others_left t s) (relays_end t s h.relays)) (end_keeps t s h)

-- COLUMNS

columns_keep : (t : Table) (c : ℕ) (x : Column) → HasColumns (with_column t c x) → IsTable t → IsTable (with_column t c x)
columns_keep t c x columns h = record {
  size = record { data_columns = h.size.data_columns; parity = h.size.parity; stripes = h.size.stripes; columns = length-set t.columns c x ∙ h.size.columns; slots = h.size.slots; relays = h.size.relays };
  cursor = cursor_kept t (with_column t c x) refl refl refl h.cursor;
  voids = voids_kept t (with_column t c x) (record { data_columns = refl; parity = refl; stripes = refl; cursor = refl; voids = λ n k. refl }) h.voids;
  columns = columns;
  relays = relays_kept t (with_column t c x) refl refl refl refl (λ n k u. u) h.relays;
}

-- PUTS

-- what a put has left of the table, but for its cursor
module _ (t : Table) (s c : ℕ) (digest parity_digest : Digest) (kept : Bool) (stripe : s < t.stripes) (column : c < t.data_columns) (size : HasSize t) where
  pub size_put : HasSize (with_put t s c digest parity_digest kept)
  size_put = size_slot (with_slot t s c (Live digest)) s t.data_columns (parity_slot parity_digest kept) (size_slot t s c (Live digest) size)

  pub p_column : t.data_columns < width t
  p_column = (let one : 1 ≤ t.parity = size.parity.0 in omega arith)

  pub put_other : (n k : ℕ) → k < width t → ((n ≡ s) × (k ≡ c) → ⊥) → ((n ≡ s) × (k ≡ t.data_columns) → ⊥) → slot_at (with_put t s c digest parity_digest kept) n k ≡ slot_at t n k
  put_other n k lk data_place parity_place =
      slot_other (with_slot t s c (Live digest)) s t.data_columns n k (parity_slot parity_digest kept) p_column lk parity_place
      ∙ slot_other t s c n k (Live digest) (omega arith) lk data_place

  pub put_data : slot_at (with_put t s c digest parity_digest kept) s c ≡ Live digest
  put_data =
      slot_other (with_slot t s c (Live digest)) s t.data_columns s c (parity_slot parity_digest kept) p_column (omega arith) (λ e. (let q : c ≡ t.data_columns = e.1 in omega arith))
      ∙ slot_same t s c (Live digest) size.slots stripe (omega arith)

  pub put_parity : slot_at (with_put t s c digest parity_digest kept) s t.data_columns ≡ parity_slot parity_digest kept
  put_parity = slot_same (with_slot t s c (Live digest)) s t.data_columns (parity_slot parity_digest kept) (size_slot t s c (Live digest) size).slots stripe p_column

  put_is_put : t.parity ≡ 1 → IsPut t (with_cursor (with_put t s c digest parity_digest kept) (past t s c)) s c
  put_is_put single = record {
    data_columns = refl;
    parity = refl;
    stripes = refl;
    cursor = refl;
    written = ap is_void put_data;
    parities = λ k lw lk. (let e : k ≡ t.data_columns = omega arith in
        ap (λ j. is_void (slot_at (with_put t s c digest parity_digest kept) s j)) e ∙ ap is_void put_parity ∙ void-parity parity_digest kept);
    columns = λ k lk ne. put_other s k (omega arith) (λ e. ne e.1) (λ e. (let q : k ≡ t.data_columns = e.1 in omega arith));
    others = λ n k lk ne. put_other n k lk (λ e. ne e.0) (λ e. ne e.0);
  }

  relays_put : relay_at t s ≡ None → HasRelays t → HasRelays (with_put t s c digest parity_digest kept)
  relays_put none relays =
      relays_beside (with_slot t s c (Live digest)) s t.data_columns (parity_slot parity_digest kept) p_column (other_stripes t.relays s none)
      (relays_beside t s c (Live digest) (omega arith) (other_stripes t.relays s none) relays)

-- the cursor is no part of what the relays stand on
relays_cursor : (t : Table) (x : _) → HasRelays t → HasRelays (with_cursor t x)
relays_cursor t x h = relays_kept t (with_cursor t x) refl refl refl refl (λ n k u. u) h

put_keeps : (t : Table) (s c : ℕ) (digest parity_digest : Digest) (kept : Bool) → t.parity ≡ 1 → TakesPut t s c → IsTable t
    → IsTable (with_cursor (with_put t s c digest parity_digest kept) (past t s c))
put_keeps t s c digest parity_digest kept single l h =
    let column : c < t.data_columns = (let q : c ≡ t.cursor.column = l.1 in let b : t.cursor.column < t.data_columns = h.cursor.column in omega arith) in
    let u : Table = with_cursor (with_put t s c digest parity_digest kept) (past t s c) in
    let is_put : IsPut t u s c = put_is_put t s c digest parity_digest kept l.0.1 column h.size single in
    let size : HasSize (with_put t s c digest parity_digest kept) = size_put t s c digest parity_digest kept l.0.1 column h.size in
    record {
      size = record { data_columns = size.data_columns; parity = size.parity; stripes = size.stripes; columns = size.columns; slots = size.slots; relays = size.relays };
      cursor = cursor_put t u s c is_put l.0.0 l.1 l.0.1 column h.voids;
      voids = voids_put t u s c is_put l.0.0 l.1 l.0.1 column h.voids;
      columns = columns_kept t u refl refl refl h.columns;
      relays = relays_cursor (with_put t s c digest parity_digest kept) (past t s c) (relays_put t s c digest parity_digest kept l.0.1 column h.size l.2.0 h.relays);
    }

-- with two parity columns the slot of Q is written too
module _ (t : Table) (s c : ℕ) (digest parity_digest second_digest : Digest) (kept kept2 : Bool) (stripe : s < t.stripes) (column : c < t.data_columns) (size : HasSize t) (double : t.parity ≡ 2) where
  pub q_column : t.data_columns + 1 < width t
  q_column = omega arith

  pub put2_other : (n k : ℕ) → k < width t → ((n ≡ s) × (k ≡ t.data_columns + 1) → ⊥)
      → slot_at (with_slot (with_put t s c digest parity_digest kept) s (t.data_columns + 1) (parity_slot second_digest kept2)) n k ≡ slot_at (with_put t s c digest parity_digest kept) n k
  put2_other n k lk ne = slot_other (with_put t s c digest parity_digest kept) s (t.data_columns + 1) n k (parity_slot second_digest kept2) q_column lk ne

  pub put2_second : slot_at (with_slot (with_put t s c digest parity_digest kept) s (t.data_columns + 1) (parity_slot second_digest kept2)) s (t.data_columns + 1) ≡ parity_slot second_digest kept2
  put2_second = slot_same (with_put t s c digest parity_digest kept) s (t.data_columns + 1) (parity_slot second_digest kept2)
      (size_put t s c digest parity_digest kept stripe column size).slots stripe q_column

  put2_is_put : IsPut t (with_cursor (with_slot (with_put t s c digest parity_digest kept) s (t.data_columns + 1) (parity_slot second_digest kept2)) (past t s c)) s c
  put2_is_put = record {
    data_columns = refl;
    parity = refl;
    stripes = refl;
    cursor = refl;
    written = ap is_void (put2_other s c (omega arith) (λ e. (let q : c ≡ t.data_columns + 1 = e.1 in omega arith)) ∙ put_data t s c digest parity_digest kept stripe column size);
    parities = λ k lw lk. elim (p_or_q k lw lk) [
      | inl e ↦ ap is_void (put2_other s k lk (λ f. (let q : k ≡ t.data_columns + 1 = f.1 in omega arith))
          ∙ ap (λ j. slot_at (with_put t s c digest parity_digest kept) s j) e ∙ put_parity t s c digest parity_digest kept stripe column size) ∙ void-parity parity_digest kept
      | inr e ↦ ap (λ j. is_void (slot_at (with_slot (with_put t s c digest parity_digest kept) s (t.data_columns + 1) (parity_slot second_digest kept2)) s j)) e
          ∙ ap is_void put2_second ∙ void-parity second_digest kept2
    ];
    columns = λ k lk ne. put2_other s k (omega arith) (λ f. (let q : k ≡ t.data_columns + 1 = f.1 in omega arith))
        ∙ put_other t s c digest parity_digest kept stripe column size s k (omega arith) (λ e. ne e.1) (λ e. (let q : k ≡ t.data_columns = e.1 in omega arith));
    others = λ n k lk ne. put2_other n k lk (λ f. ne f.0) ∙ put_other t s c digest parity_digest kept stripe column size n k lk (λ e. ne e.0) (λ e. ne e.0);
  }
    where
      p_or_q : (k : ℕ) → t.data_columns ≤ k → k < width t → (k ≡ t.data_columns) ⊎ (k ≡ t.data_columns + 1)
      p_or_q k lw lk = grind arith

put2_keeps : (t : Table) (s c : ℕ) (digest parity_digest second_digest : Digest) (kept kept2 : Bool) → t.parity ≡ 2 → TakesPut t s c → IsTable t
    → IsTable (with_cursor (with_slot (with_put t s c digest parity_digest kept) s (t.data_columns + 1) (parity_slot second_digest kept2)) (past t s c))
put2_keeps t s c digest parity_digest second_digest kept kept2 double l h =
    let column : c < t.data_columns = (let q : c ≡ t.cursor.column = l.1 in let b : t.cursor.column < t.data_columns = h.cursor.column in omega arith) in
    let put : Table = with_put t s c digest parity_digest kept in
    let last : SlotState = parity_slot second_digest kept2 in
    let u : Table = with_cursor (with_slot put s (t.data_columns + 1) last) (past t s c) in
    let is_put : IsPut t u s c = put2_is_put t s c digest parity_digest second_digest kept kept2 l.0.1 column h.size double in
    let size : HasSize (with_slot put s (t.data_columns + 1) last) = size_slot put s (t.data_columns + 1) last (size_put t s c digest parity_digest kept l.0.1 column h.size) in
    record {
      size = record { data_columns = size.data_columns; parity = size.parity; stripes = size.stripes; columns = size.columns; slots = size.slots; relays = size.relays };
      cursor = cursor_put t u s c is_put l.0.0 l.1 l.0.1 column h.voids;
      voids = voids_put t u s c is_put l.0.0 l.1 l.0.1 column h.voids;
      columns = columns_kept t u refl refl refl h.columns;
      relays = relays_cursor (with_slot put s (t.data_columns + 1) last) (past t s c)
          (relays_beside put s (t.data_columns + 1) last (q_column t s c digest parity_digest second_digest kept kept2 l.0.1 column h.size double) (other_stripes t.relays s l.2.0)
          (relays_put t s c digest parity_digest kept l.0.1 column h.size l.2.0 h.relays));
    }

skip_keeps : (t : Table) (s : ℕ) → s ≡ t.cursor.stripe → s < t.stripes → IsTable t → IsTable (with_cursor t (record { stripe = s + 1; column = 0 }))
skip_keeps t s at lt h = record {
  size = record { data_columns = h.size.data_columns; parity = h.size.parity; stripes = h.size.stripes; columns = h.size.columns; slots = h.size.slots; relays = h.size.relays };
  cursor = cursor_skip t s lt h.size.data_columns.0;
  voids = voids_skip t s at h.voids;
  columns = columns_kept t (with_cursor t (record { stripe = s + 1; column = 0 })) refl refl refl h.columns;
  relays = relays_cursor t (record { stripe = s + 1; column = 0 }) h.relays;
}

-- a move goes on
moved_keeps : (t : Table) (s c : ℕ) (copied : Bool) → Legal t (Moved 0 s c copied) → IsTable t
    → IsTable (with_column (if copied then t else with_loss t s c) c (moved_on (column_at t c)))
moved_keeps t s c true l h = columns_keep t c (moved_on (column_at t c)) (moves_on t c s h.size.columns h.columns l.0 l.1) h
moved_keeps t s c false l h =
    columns_keep (with_loss t s c) c (moved_on (column_at t c))
    (moves_on (with_loss t s c) c s h.size.columns (columns_slot t s c (lost_of (slot_at t s c)) h.columns) l.0 l.1) (loss_keeps t s c h)

-- a column gets another archive
archive_losses : (n : ℕ) (t : Table) (c to : ℕ) → TakesArchive t c to → TakesArchive (with_losses n t c) c to
archive_losses zero t c to l = l
archive_losses (suc n) t c to l = archive_losses n t c to l

swapped_keeps : (t : Table) (c to : ℕ) → TakesArchive t c to → IsTable t → IsTable (with_column (with_losses t.stripes t c) c (record { home = to; moving = None }))
swapped_keeps t c to l h =
    let u : Table = with_losses t.stripes t c in
    let kept : IsTable u = losses_keep t.stripes t c h in
    columns_keep u c (record { home = to; moving = None }) (swaps u c to kept.size.columns kept.columns (archive_losses t.stripes t c to l)) kept

pub after_keeps : (t : Table) (e : Entry) → IsTable t → Legal t e → IsTable (after t e)
after_keeps t (Put job s c digest parity_digest kept) h l = put_keeps t s c digest parity_digest kept l.0 l.1 h
after_keeps t (Skip job s) h l = skip_keeps t s l.0.0 l.0.1 h
after_keeps t (Seen job s c) h l = h
after_keeps t (Gone job s c) h l = loss_keeps t s c h
after_keeps t (Broke job s c) h l = broke_keeps t s c h
after_keeps t (Fault job s c) h l = h
after_keeps t (Begin job s c) h l = begin_keeps t s c l h
after_keeps t (Hop job s c) h l = hop_keeps t s c l.0.1 h
after_keeps t (Mended job s c) h l = mended_keeps t s c l.0.1 h
after_keeps t (GaveUp job s c other) h l = end_keeps (with_loss t s other) s (loss_keeps t s other h)
after_keeps t (Oddly job s c found) h l = end_keeps t s h
after_keeps t (Stuck job s c other) h l = h
after_keeps t (MoveBegin job c to) h l = columns_keep t c _ (move_begins t c to h.size.columns h.columns l.0) h
after_keeps t (Moved job s c copied) h l = moved_keeps t s c copied l h
after_keeps t (MoveEnd job c) h l = columns_keep t c (moved_home (column_at t c)) (move_ends t c h.size.columns h.columns l.0) h
after_keeps t (Swapped job c to) h l = swapped_keeps t c to l h
after_keeps t (Counted job) h l = h
after_keeps t (Put2 job s c digest parity_digest second_digest kept kept2) h l = put2_keeps t s c digest parity_digest second_digest kept kept2 l.0 l.1 h
