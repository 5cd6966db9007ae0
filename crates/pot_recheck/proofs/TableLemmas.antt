-- A table of which some slots are made Live.
use Rattle.std.proofs.Common.{◌≡◌, ◌+◌, ◌-◌, ℕ, Option, Some, None, List, [], ◌∷◌, length, map, flat_map, refl, sym, ap, ap₂, subst, ◌∙◌, arith, All}
use Rattle.std.specs.Prelude.{IfSome, IfOk, Result, Ok, Err}
use Rattle.std.proofs.lemmas.List.{length-append}
use Rattle.std.proofs.lemmas.List.Elements.{All-cons, All-head, All-tail, All-nil}
use Rattle.pot_bytes.specs.declared.digest.Digest.{Digest}
use Rattle.pot_machine.specs.declared.column.Column.{Column}
use Rattle.pot_machine.specs.declared.cursor.Cursor.{Cursor}
use Rattle.pot_machine.specs.declared.slot.SlotState.{SlotState}
use Rattle.pot_machine.specs.declared.slot.SlotState.TheVariants.{Void, Live, Lost, Broken}
use Rattle.pot_machine.specs.Slot.{digest_in}
use Rattle.pot_machine.specs.Table.{Table}
use Rattle.pot_machine.specs.Rules.{IsTable}
use Rattle.pot_machine.specs.Making.{table_of}
use Rattle.pot_machine.proofs.Voids.{voids_kept, cursor_kept}
use Rattle.pot_machine.proofs.Columns.{columns_kept}
use Rattle.pot_image.specs.Rules.{HasSlotDigest, IsDigest}
use Rattle.pot_image.specs.Spelling.{slot_bytes}
use Rattle.pot_recheck.specs.declared.listing.Unsound.{Unsound}
use Rattle.pot_recheck.specs.Finding.{AreFoundSlots, IsFoundTable}
use Rattle.pot_recheck.proofs.SlotLemmas.{voids_same}

-- THE RULES OF A TABLE

abbrev pub with_slots : Table → List SlotState → Table
with_slots t slots = record t { slots = slots; relays = [] }

pub still_table : (found : List Unsound) (g : ℕ) (t : Table) (slots : List SlotState) → IsTable t → AreFoundSlots found g t slots → IsTable (with_slots t slots)
still_table found g t slots is are = record {
  size = record {
    data_columns = is.size.data_columns;
    parity = is.size.parity;
    stripes = is.size.stripes;
    columns = is.size.columns;
    slots = are.count ∙ is.size.slots;
    relays = omega arith;
  };
  cursor = cursor_kept t (with_slots t slots) refl refl refl is.cursor;
  voids = voids_kept t (with_slots t slots) (record { data_columns = refl; parity = refl; stripes = refl; cursor = refl; voids = voids_same found g t slots is.size are }) is.voids;
  columns = columns_kept t (with_slots t slots) refl refl refl is.columns;
  relays = record { apart = λ i j d li lj. absurd (omega arith); standing = λ k d lt. absurd (omega arith) };
}

-- the table that is made of its parts
pub made_of : (t : Table) (slots : List SlotState) (stripes parity : ℕ) (cursor : Cursor) (columns : List Column) → IsTable t → stripes ≡ t.stripes → cursor ≡ t.cursor → columns ≡ t.columns → parity ≡ t.parity
    → table_of stripes cursor columns slots parity ≡ with_slots t slots
made_of t slots stripes parity cursor columns is es ek ec ep =
    ap (λ s. table_of s cursor columns slots parity) es ∙ ap (λ k. table_of t.stripes k columns slots parity) ek ∙ ap (λ cs. table_of t.stripes t.cursor cs slots parity) ec
    ∙ ap (λ p. table_of t.stripes t.cursor t.columns slots p) ep
    ∙ ap (λ n. record { data_columns = n; parity = t.parity; stripes = t.stripes; cursor = t.cursor; columns = t.columns; slots = slots; relays = [] })
    (let e : length t.columns - t.parity ≡ t.data_columns = (let n = is.size.columns in omega (arith, n)) in e)

-- BYTES AND DIGESTS

abbrev size_in : Option Digest → ℕ
size_in None = 1
size_in (Some d) = 1 + length d.bytes

abbrev sizes : List (Option Digest) → ℕ
sizes [] = 0
sizes (o ∷ os) = size_in o + sizes os

size_of : (x : SlotState) → length (slot_bytes x) ≡ size_in (digest_in x)
size_of Void = refl
size_of (Live d) = omega arith
size_of (Lost d) = omega arith
size_of (Broken d) = omega arith

sizes_of : (xs : List SlotState) → length (flat_map slot_bytes xs) ≡ sizes (map digest_in xs)
sizes_of [] = refl
sizes_of (x ∷ xs) = length-append (slot_bytes x) (flat_map slot_bytes xs) ∙ ap₂ (λ a b. a + b) (size_of x) (sizes_of xs)

pub same_size : (xs ys : List SlotState) → map digest_in xs ≡ map digest_in ys → length (flat_map slot_bytes xs) ≡ length (flat_map slot_bytes ys)
same_size xs ys e = sizes_of xs ∙ ap sizes e ∙ sym (sizes_of ys)

abbrev Whole : Option Digest → Type 0
Whole o = IfSome o IsDigest

whole_of : (x : SlotState) → HasSlotDigest x → Whole (digest_in x)
whole_of Void h = tt
whole_of (Live d) h = h
whole_of (Lost d) h = h
whole_of (Broken d) h = h

has_of : (x : SlotState) → Whole (digest_in x) → HasSlotDigest x
has_of Void h = tt
has_of (Live d) h = h
has_of (Lost d) h = h
has_of (Broken d) h = h

all_whole : (xs : List SlotState) → All HasSlotDigest xs → All Whole (map digest_in xs)
all_whole [] all = All-nil Whole
all_whole (x ∷ xs) all = All-cons Whole (digest_in x) (map digest_in xs) (whole_of x (All-head HasSlotDigest x xs all)) (all_whole xs (All-tail HasSlotDigest x xs all))

all_have : (xs : List SlotState) → All Whole (map digest_in xs) → All HasSlotDigest xs
all_have [] all = All-nil HasSlotDigest
all_have (x ∷ xs) all = All-cons HasSlotDigest x xs (has_of x (All-head Whole (digest_in x) (map digest_in xs) all)) (all_have xs (All-tail Whole (digest_in x) (map digest_in xs) all))

pub still_whole : (xs ys : List SlotState) → map digest_in xs ≡ map digest_in ys → All HasSlotDigest ys → All HasSlotDigest xs
still_whole xs ys e all = all_have xs (subst (All Whole) (sym e) (all_whole ys all))

-- THE TABLE THAT IS MADE

pub table_found : {E : Type 0} (found : List Unsound) (g : ℕ) (t made : Table) (slots : List SlotState) (r : Result Table E) → AreFoundSlots found g t slots → made ≡ with_slots t slots → IfOk r (λ u. u ≡ made)
    → IfOk r (λ u. IsFoundTable found g t u)
table_found found g t made slots (Ok u) are e h = subst (λ (x : Table). IsFoundTable found g t x) (sym (h ∙ e)) (record { rest = refl; slots = are })
table_found found g t made slots (Err x) are e h = tt
