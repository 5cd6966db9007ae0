-- What reads of the old parity blocks of a stripe come to, over plain data.
use Rattle.std.proofs.Common.{◌≡◌, ◌≢◌, inl, inr, ℕ, ◌+◌, ◌<◌, ◌≤◌, List, sym, ap, ◌∙◌, subst, arith}
use Rattle.pot_doubles.proofs.CallLemmas.{rose_later}
use Rattle.pot_machine.specs.declared.slot.SlotState.TheVariants.{Void}
use Rattle.pot_machine.specs.Slot.{is_void}
use Rattle.pot_machine.specs.Table.{Table, width, slot_at, serving_at}
use Rattle.pot_machine.specs.Rules.{IsTable}
use Rattle.pot_machine.proofs.Columns.{serving_apart}
use Rattle.pot_steps.specs.Stripe.{IsOld, Sound}
use Rattle.pot_steps.specs.Holdings.{Holdings, stripe_of}
use Rattle.pot_steps.specs.Entries.{held_at}
use Rattle.pot_steps.proofs.Entries.{is_void_at}
use Rattle.pot_group.specs.declared.reads.Found.{Found}
use Rattle.pot_group.specs.declared.reads.Found.TheVariants as found
use Rattle.pot_group.specs.declared.parities.Checked.{Checked}
use Rattle.pot_group.specs.declared.parities.Checked.TheVariants as checked
use Rattle.pot_shelves.specs.Shelves.{Shelves}
use Rattle.pot_group.specs.Group.{GroupView, FitsSlot}
use Rattle.pot_group.specs.Putting.{ReadsOld, ReadsSecond, ReadsParity, OldFinds}
use Rattle.pot_shelves.proofs.ShelfLemmas.{stays_then}

-- a parity slot is Void where another is
void_too : (t : Table) (s c k : ℕ) → IsTable t → s < t.stripes → t.data_columns ≤ c → c < width t → t.data_columns ≤ k → k < width t → slot_at t s c ≡ Void → slot_at t s k ≡ Void
void_too t s c k rules ls dc lc dk lk e = is_void_at (slot_at t s k) (rules.voids.parity s k ls dk lk ∙ sym (rules.voids.parity s c ls dc lc) ∙ ap is_void e)

-- what is held at a place is the old block still
old_still : (t : Table) (h h' : Holdings) (s c : ℕ) (block : List ℕ) → held_at t h' s c ≡ held_at t h s c → IsOld (stripe_of t h s) c block → IsOld (stripe_of t h' s) c block
old_still t h h' s c block e (inl v) = inl v
old_still t h h' s c block e (inr x) = inr (record { digest = x.digest; live = x.live; held = e ∙ x.held; right = x.right })

-- an old block of a slot that is not Void is sound
old_sound : (t : Table) (h : Holdings) (s c : ℕ) (block : List ℕ) → slot_at t s c ≢ Void → IsOld (stripe_of t h s) c block → Sound (stripe_of t h s) c
old_sound t h s c block some (inl v) = absurd (some v.0)
old_sound t h s c block some (inr x) = (block, x)

-- two parity columns
module _ (told : Type 0) (s column : ℕ) (q : List ℕ) (old new : GroupView) (rules : IsTable old.table) (two : old.table.parity ≢ 1) (is : column ≡ old.table.data_columns + 1) where
  double : old.table.parity ≡ 2
  double = omega (arith, rules.size.parity.0, rules.size.parity.1, two)

  first_stays : {r : Found} → ReadsOld told s column q r old new → told → held_at old.table new.shelves.held s old.table.data_columns ≡ held_at old.table old.shelves.held s old.table.data_columns
  first_stays x t = x.others t (serving_at old.table s old.table.data_columns) s
      (serving_apart old.table s old.table.data_columns column rules.columns (omega (arith, double)) (omega (arith, double, is)) (λ e. absurd (omega (arith, e, is))))

  pub second_sound : ReadsOld told s column q found.Sound old new → ReadsSecond told s q checked.Sound old new
  second_sound x = record {
    stays = x.stays;
    finds = (λ _. subst (λ k. OldFinds told s k q found.Sound old new) is x.finds);
    first = first_stays x;
  }

  pub second_missing : ReadsOld told s column q found.Missing old new → ReadsSecond told s q (checked.Missing column) old new
  second_missing x = record { stays = x.stays; finds = (double, is, x.finds); first = first_stays x }

  pub second_failed : ReadsOld told s column q found.NotRead old new → ReadsSecond told s q (checked.NotRead column) old new
  second_failed x = record { stays = x.stays; finds = (double, is, x.finds); first = first_stays x }

-- P was got, and Q was read then
module _ (told : Type 0) (s column : ℕ) (p q : List ℕ) (old : GroupView) (m : Shelves) (new : GroupView) (rules : IsTable old.table) (stripe : s < old.table.stripes)
    (is : column ≡ old.table.data_columns) (x : ReadsOld told s column p found.Sound old (record old { shelves = m })) where
  abbrev mid : GroupView
  mid = record old { shelves = m }

  first_old : told → held_at old.table new.shelves.held s old.table.data_columns ≡ held_at old.table m.held s old.table.data_columns → IsOld (stripe_of old.table new.shelves.held s) old.table.data_columns p
  first_old t e = old_still old.table m.held new.shelves.held s old.table.data_columns p e (subst (λ k. IsOld (stripe_of old.table m.held s) k p) is (x.finds.0 t))

  second_wide : (c : ℕ) → old.table.parity ≡ 2 → c ≡ old.table.data_columns + 1 → (old.table.data_columns ≤ c) × (c < width old.table)
  second_wide c two e = (omega (arith, e), omega (arith, e, two))

  -- where the slot of Q is not Void, that of P is not
  first_some : (c : ℕ) → old.table.parity ≡ 2 → c ≡ old.table.data_columns + 1 → slot_at old.table s c ≢ Void → slot_at old.table s old.table.data_columns ≢ Void
  first_some c two e some v =
      let w : (old.table.data_columns ≤ c) × (c < width old.table) = second_wide c two e in
      some (void_too old.table s old.table.data_columns c rules stripe (omega arith) (omega (arith, two)) w.0 w.1 v)

  pub both_read : (result : Checked) → ReadsSecond told s q result mid new → ReadsParity told s p q result old new
  both_read checked.Sound y = record {
    stays = stays_then told old.shelves m new.shelves x.stays y.stays;
    finds = record {
      first = (λ t. first_old t (y.first t));
      second = (λ t two. (y.finds two).0 t);
      fits = (subst (λ k. FitsSlot (slot_at old.table s k) p) is x.finds.1, λ two. (y.finds two).1);
    };
  }
  both_read (checked.Missing c) y =
      let w : (old.table.data_columns ≤ c) × (c < width old.table) = second_wide c y.finds.0 y.finds.1 in
      record {
        stays = stays_then told old.shelves m new.shelves x.stays y.stays;
        finds = (w.0, w.1, y.finds.2, λ t e. old_sound old.table new.shelves.held s old.table.data_columns p (first_some c y.finds.0 y.finds.1 y.finds.2.0) (first_old t (y.first t)));
      }
  both_read (checked.NotRead c) y =
      let w : (old.table.data_columns ≤ c) × (c < width old.table) = second_wide c y.finds.0 y.finds.1 in
      let n : ℕ = serving_at old.table s c in
      record {
        stays = stays_then told old.shelves m new.shelves x.stays y.stays;
        finds = (w.0, w.1, (rose_later (old.shelves.faults n) (m.faults n) (new.shelves.faults n) (x.stays.keeps.later n) y.finds.2.0, y.finds.2.1, y.finds.2.2));
      }
