-- Where no count of losses rose in a call, no block is lost.
use Rattle.std.proofs.Common.{◌≡◌, inl, inr, ℕ, ◌<◌, false, IsTrue, List, Some, None, sym, ap, ap₂, ◌∙◌}
use Rattle.std.proofs.lemmas.Bool.{cases_eq, false≢true}
use Rattle.pot_machine.specs.declared.entry.Entry.{Entry}
use Rattle.pot_machine.specs.declared.entry.Entry.TheVariants.{Mended}
use Rattle.pot_machine.specs.Slot.{is_live, live_of}
use Rattle.pot_machine.specs.Table.{width, slot_at, serving_at}
use Rattle.pot_machine.specs.Machine.{after}
use Rattle.pot_machine.proofs.Places.{slot_other}
use Rattle.pot_steps.specs.Holdings.{Holdings}
use Rattle.pot_steps.specs.Losses.{KeepsHeld}
use Rattle.pot_steps.specs.Mending.{LosesNothing}
use Rattle.pot_steps.proofs.Acting.{Lessens, slots_less}
use Rattle.pot_steps.proofs.Changes.{live_before}
use Rattle.pot_shelves.specs.Shelves.{LosesByCount, NoneLost, put_at}
use Rattle.pot_group.specs.Group.{GroupView, state_of}
use Rattle.pot_shelves.proofs.ShelfLemmas.{put_at-here}

-- nothing changed
pub lossless_same : (g : GroupView) → LosesNothing (state_of g) (state_of g)
lossless_same g = record { kept = (λ n c b ln lc live e. e); written = (λ n c ln lc dead live q. false≢true (sym dead ∙ live)) }

-- `h` is what the archives were to hold after the call, before any loss.
module _ (g new : GroupView) (h : Holdings) (loses : LosesByCount h g.shelves new.shelves) (none : NoneLost g.shelves new.shelves) (kept : KeepsHeld g.table g.shelves.held h) where
  held_now : (number slot : ℕ) → new.shelves.held number slot ≡ h number slot
  held_now number slot = (loses number).same slot (none number).0 (none number).1

  kept_now : KeepsHeld g.table g.shelves.held new.shelves.held
  kept_now n c b ln lc live e = held_now (serving_at g.table n c) n ∙ kept n c b ln lc live e

  -- an entry after which each slot is as it was or Lost
  pub lossless_less : (e : Entry) → Lessens e → new.table ≡ after g.table e → LosesNothing (state_of g) (state_of new)
  lossless_less e less en = record {
    kept = kept_now;
    written = λ n c ln lc dead live q. false≢true (sym dead ∙ live_before (slot_at g.table n c) (slot_at (after g.table e) n c) (slots_less g.table e n c less) (ap (λ u. is_live (slot_at u n c)) (sym en) ∙ live));
  }

  -- a block was written into a slot that became Live
  pub lossless_mended : (job s c : ℕ) (block : List ℕ) → c < width g.table → ((number slot : ℕ) → h number slot ≡ put_at g.shelves.held (serving_at g.table s c) s (Some block) number slot)
      → new.table ≡ after g.table (Mended job s c) → LosesNothing (state_of g) (state_of new)
  lossless_mended job s c block lc is en = record {
    kept = kept_now;
    written = λ n k ln lk dead live q. elim (cases_eq n s) [
      | inl p ↦ elim (cases_eq k c) [
        | inl r ↦ some_none (sym (here n k p r) ∙ q)
        | inr ne ↦ beside n k lk (λ z. ne z.1) dead live
      ]
      | inr ne ↦ beside n k lk (λ z. ne z.0) dead live
    ];
  }
    where
      some_none : Some block ≡ None → ⊥
      some_none e = cc

      here : (n k : ℕ) → n ≡ s → k ≡ c → new.shelves.held (serving_at new.table n k) n ≡ Some block
      here n k p r = ap₂ (λ n k. new.shelves.held (serving_at new.table n k) n) p r ∙ ap (λ u. new.shelves.held (serving_at u s c) s) en
          ∙ held_now (serving_at g.table s c) s ∙ is (serving_at g.table s c) s ∙ put_at-here g.shelves.held (serving_at g.table s c) s (Some block)

      beside : (n k : ℕ) → k < width g.table → ((n ≡ s) × (k ≡ c) → ⊥) → is_live (slot_at g.table n k) ≡ false → IsTrue (is_live (slot_at new.table n k)) → ⊥
      beside n k lk ne dead live = false≢true (sym dead ∙ ap is_live (sym (slot_other g.table s c n k (live_of (slot_at g.table s c)) lc lk ne)) ∙ ap (λ u. is_live (slot_at u n k)) (sym en) ∙ live)
