-- Tables that were read are spelled by their values.
use Rattle.std.proofs.Common.{◌≡◌, ℕ, zero, suc, ◌+◌, ◌-◌, ◌==◌, ◌&&◌, Bool, true, false, if◌then◌else◌, List, [], ◌∷◌, ◌++◌, nat_le, replicate, flat_map, refl, arith}
use Rattle.std.proofs.lemmas.Bool.{leb-true, and_parts}
use Rattle.byteorder.specs.Endian.{big_bytes}
use Rattle.pot_bytes.specs.declared.rack.Rack.{Rack}
use Rattle.pot_machine.specs.declared.slot.SlotState.TheVariants.{Void}
use Rattle.pot_machine.specs.declared.cursor.Cursor.{Cursor}
use Rattle.pot_image.specs.Fields.{done}
use Rattle.pot_image.specs.Reading.{◌>>=◌}
use Rattle.pot_image.specs.Numbers.{at_most, between, digest}
use Rattle.pot_image.specs.Tables.{is_free, moving, resting, column, column_behind, columns, state_of, slot, slot_behind, allows, stripe_slots, slots, is_cursor, cursor, table, table_behind, tables}
use Rattle.pot_image.specs.Spelling.{flag_bytes, cursor_bytes, column_bytes, slot_bytes, table_bytes}
use Rattle.pot_image.proofs.Spelled.{Spelled, Behind, NoMore, spelled, behind_done, behind_then, spelled_byte, spelled_4, spelled_zeros, spelled_flag, spelled_digest, behind_several, behind_over}

-- COLUMNS

choice_spelled : (stripes : ℕ) (taken : List ℕ) (home : ℕ) (moves : Bool)
    → Behind (big_bytes 4 home ++ flag_bytes moves ++ replicate 3 0) (if moves then moving stripes taken home else resting home) column_bytes
choice_spelled stripes taken home true =
    (behind_then _ _ _ _ _ _ (spelled_4 (is_free taken)) (λ to a.
    behind_then _ _ _ _ _ _ (spelled_4 (at_most stripes)) (λ upto b.
    behind_done _ _ _ refl)))
choice_spelled stripes taken home false =
    (behind_then _ _ _ _ _ _ (spelled_zeros 4) (λ to a.
    behind_then _ _ _ _ _ _ (spelled_zeros 4) (λ upto b.
    behind_done _ _ _ refl)))

column_spelled : (stripes : ℕ) (taken : List ℕ) → Spelled (column stripes taken) column_bytes NoMore
unfolding column
column_spelled stripes taken = spelled _ _
    (behind_then [] _ _ _ _ _ (spelled_4 (is_free taken)) (λ home a.
    behind_then _ _ _ _ _ _ spelled_flag (λ moves b.
    behind_then _ _ _ _ _ _ (spelled_zeros 3) (λ padding c.
    choice_spelled stripes (taken ++ home ∷ []) home moves))))

columns_spelled : (width stripes : ℕ) (taken : List ℕ) → Spelled (columns width stripes taken) (flat_map column_bytes) (λ xs. NoMore xs)
unfolding columns
columns_spelled width stripes taken = spelled _ _ (behind_several (column_behind stripes taken) column_bytes (λ i before. column_spelled stripes _) width 0 [])

-- SLOTS

state_spelled : (state : ℕ) → nat_le state 3 ≡ true → Behind (state ∷ []) (if state == 0 then done Void else digest >>= λ d. done (state_of state d)) slot_bytes
state_spelled zero l = behind_done _ _ _ refl
state_spelled (suc zero) l = behind_then _ _ _ _ _ _ spelled_digest (λ d a. behind_done _ _ _ refl)
state_spelled (suc (suc zero)) l = behind_then _ _ _ _ _ _ spelled_digest (λ d a. behind_done _ _ _ refl)
state_spelled (suc (suc (suc zero))) l = behind_then _ _ _ _ _ _ spelled_digest (λ d a. behind_done _ _ _ refl)
state_spelled (suc (suc (suc (suc n)))) l = (let few = leb-true (suc (suc (suc (suc n)))) 3 l in absurd (omega (arith, few)))

slot_spelled : (allowed : Bool → Bool) → Spelled (slot allowed) slot_bytes NoMore
unfolding slot
slot_spelled allowed = spelled _ _
    (behind_then [] _ _ _ _ _ (spelled_byte (λ n. between 0 3 n && allowed (n == 0))) (λ state is.
    state_spelled state (and_parts (nat_le 0 state) (nat_le state 3) (and_parts (between 0 3 state) (allowed (state == 0)) is).0).1))

slots_spelled : (at : Cursor) (data_columns width stripes : ℕ) → Spelled (slots at data_columns width stripes) (flat_map slot_bytes) NoMore
unfolding slots stripe_slots
slots_spelled at data_columns width stripes = spelled _ _
    (behind_over (stripe_slots at data_columns width) (flat_map slot_bytes)
    (λ s before. behind_several (slot_behind at data_columns width s) slot_bytes (λ c slots. slot_spelled (allows at data_columns width slots s c)) width 0 before) stripes 0 [])

-- TABLES

cursor_spelled : (rack : Rack) → Spelled (cursor rack) cursor_bytes NoMore
unfolding cursor
cursor_spelled rack = spelled _ _
    (behind_then [] _ _ _ _ _ (spelled_4 (at_most rack.stripes)) (λ stripe a.
    behind_then _ _ _ _ _ _ (spelled_byte (λ c. between 0 (rack.columns - 1) c && is_cursor rack stripe c)) (λ column b.
    behind_then _ _ _ _ _ _ (spelled_zeros 3) (λ padding c.
    behind_done _ _ _ refl))))

table_spelled : (rack : Rack) (taken : List ℕ) → Spelled (table rack taken) table_bytes NoMore
unfolding table table_bytes
table_spelled rack taken = spelled _ _
    (behind_then [] _ _ _ _ _ (cursor_spelled rack) (λ at a.
    behind_then _ _ _ _ _ _ (columns_spelled (rack.columns + rack.parity) rack.stripes taken) (λ columns b.
    behind_then _ _ _ _ _ _ (slots_spelled at rack.columns (rack.columns + rack.parity) rack.stripes) (λ slots c.
    behind_done _ _ _ refl))))

pub tables_spelled : (rack : Rack) → Spelled (tables rack) (flat_map table_bytes) NoMore
unfolding tables
tables_spelled rack = spelled _ _ (behind_several (table_behind rack) table_bytes (λ g before. table_spelled rack _) rack.groups 0 [])
