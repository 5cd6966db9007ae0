-- The table of a new group keeps the rules of a table.
use Rattle.std.proofs.Common.{◌≡◌, ◌≢◌, ◌<◌, ◌≤◌, ◌+◌, ◌*◌, ℕ, zero, suc, true, IsTrue, IfSome, get_or, replicate, refl, ap, sym, ◌∙◌, subst, arith, nat_le}
use Rattle.std.specs.Prelude.{◌==◌}
use Rattle.std.proofs.lemmas.Bool.Decides.{nat_tests}
use Rattle.std.proofs.lemmas.List.{length-replicate}
use Rattle.std.proofs.lemmas.List.FromFn.{length-map-range_with_len, get_or-map-range_with_len}
use Rattle.pot_bytes.specs.declared.rack.Rack.{Rack}
use Rattle.pot_bytes.specs.Rack.{IsRack}
use Rattle.pot_machine.specs.declared.slot.SlotState.TheVariants.{Void}
use Rattle.pot_machine.specs.Slot.{is_void}
use Rattle.pot_machine.specs.Column.{names}
use Rattle.pot_machine.specs.Table.{Table, place_of, slot_at, column_at, no_column}
use Rattle.pot_machine.specs.Making.{column_home, empty_table}
use Rattle.pot_machine.specs.Rules.{IsTable}

-- the same everywhere, past the end too
get_or-replicate_same : {A : Type 0} (n i : ℕ) (x : A) → get_or (replicate n x) i x ≡ x
get_or-replicate_same zero i x = refl
get_or-replicate_same (suc n) zero x = refl
get_or-replicate_same (suc n) (suc i) x = get_or-replicate_same n i x

module _ (rack : Rack) (group : ℕ) (fits : IsRack rack) where
  table : Table
  table = empty_table rack group

  pub empty_void : (s c : ℕ) → slot_at (empty_table rack group) s c ≡ Void
  empty_void s c = get_or-replicate_same (rack.stripes * (rack.columns + rack.parity)) (place_of (empty_table rack group) s c) Void

  is_empty : (s c : ℕ) → IsTrue (is_void (slot_at (empty_table rack group) s c))
  is_empty s c = ap is_void (empty_void s c)

  pub empty_column : (c : ℕ) → c < rack.columns + rack.parity → column_at (empty_table rack group) c ≡ column_home (group * (rack.columns + rack.parity) + c)
  empty_column c lt = get_or-map-range_with_len column_home (group * (rack.columns + rack.parity)) (rack.columns + rack.parity) c (group * (rack.columns + rack.parity) + c) no_column lt refl

  numbered : (c number : ℕ) → c < rack.columns + rack.parity → IsTrue (names (column_at (empty_table rack group) c) number) → group * (rack.columns + rack.parity) + c ≡ number
  numbered c number lt h = same (group * (rack.columns + rack.parity) + c) number (sym (ap (λ x. names x number) (empty_column c lt)) ∙ h)
    where
      same : (a b : ℕ) → (a == b) ≡ true → a ≡ b
      same a b h = grind (arith, nat_tests)

  pub empty_is_table : IsTable (empty_table rack group)
  empty_is_table = record {
    size = record {
      data_columns = fits.columns;
      parity = fits.parity;
      stripes = fits.stripes;
      columns = length-map-range_with_len column_home (group * (rack.columns + rack.parity)) (rack.columns + rack.parity);
      slots = length-replicate (rack.stripes * (rack.columns + rack.parity)) Void;
      relays = omega arith;
    };
    cursor = record { stripe = omega arith; column = fits.columns.0; behind = λ e. refl };
    voids = record {
      first = λ s c k ls le lk v. is_empty s k;
      parity = λ s c ls lw lc. is_empty s c ∙ sym (is_empty s 0);
      after = λ s c ls lz lc. is_empty s c;
      cursor = λ c lz lc. is_empty 0 c ∙ sym (from_zero c);
    };
    columns = record {
      target = λ c lt. subst (λ x. IfSome x.moving (λ m. (m.to ≢ x.home) × (m.upto ≤ rack.stripes))) (sym (empty_column c lt)) tt;
      distinct = λ c k number lc lk nc nk. (let e : group * (rack.columns + rack.parity) + c ≡ number = numbered c number lc nc in
          let f : group * (rack.columns + rack.parity) + k ≡ number = numbered k number lk nk in omega arith);
    };
    relays = record { apart = λ i j d li lj. absurd (omega arith); standing = λ k d lt. absurd (omega arith) };
  }
    where
      from_zero : (c : ℕ) → nat_le 0 c ≡ true
      from_zero c = grind (arith, nat_tests)
