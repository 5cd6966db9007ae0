-- Which entries leave a data slot Live, and what stands in a stripe at a Stuck.
use Rattle.std.proofs.Common.{◌≡◌, ◌≢◌, ◌⊎◌, inl, inr, ◌<◌, ◌≤◌, ◌+◌, ℕ, suc, Bool, true, false, not, ◌&&◌, IsTrue, Option, Some, None, List, [], ◌∷◌, ◌++◌, refl, ap, sym, ◌∙◌, subst, arith, nat_le, if◌then◌else◌}
use Rattle.std.specs.Prelude.{◌==◌, Contains, is_some}
use Rattle.std.proofs.lemmas.Bool.{leb-true}
use Rattle.std.proofs.lemmas.Bool.Decides.{nat_tests}
use Rattle.pot_machine.specs.declared.slot.SlotState.{SlotState}
use Rattle.pot_machine.specs.declared.slot.SlotState.TheVariants.{Void, Live, Lost, Broken}
use Rattle.pot_machine.specs.declared.entry.Entry.{Entry}
use Rattle.pot_machine.specs.declared.entry.Entry.TheVariants as entry
use Rattle.pot_machine.specs.Slot.{is_void, is_live, is_lost, is_broken, is_unsound, live_of}
use Rattle.pot_machine.specs.Table.{Table, width, slot_at, count, count_beside, first, first_beside}
use Rattle.pot_machine.specs.Machine.{Legal, Replays, TakesPut, after, stuck_by}
use Rattle.pot_machine.specs.Laws.{WritesSlot}
use Rattle.pot_machine.specs.Logs.{job_of, replayed}
use Rattle.pot_machine.specs.Rules.{IsTable}
use Rattle.pot_machine.proofs.Kept.{after_keeps}
use Rattle.pot_machine.proofs.LeftAlone.{sizes_stay, slots_stay}
use Rattle.pot_machine.proofs.Places.{slot_after}
use Rattle.pot_machine.proofs.Searches.{least_none}
use Rattle.pot_steps.proofs.OpenPlaces.{count_without, passes_without, without}
use Rattle.pot_steps.proofs.Steps.{count-le}
use Rattle.pot_group.specs.Causes.{Misses, WhereMissed}
use Rattle.pot_session.specs.Losses.{IsPastMending, is_swap}

-- A SLOT THAT STAYS LIVE

live_of_live : (x : SlotState) → IsTrue (is_live x) → IsTrue (is_live (live_of x))
live_of_live Void is = absurd (cc is)
live_of_live (Live d) is = is
live_of_live (Lost d) is = absurd (cc is)
live_of_live (Broken d) is = absurd (cc is)

void_and_live : (x : SlotState) → IsTrue (is_live x) → is_void x ≡ true → ⊥
void_and_live Void live void = absurd (cc live)
void_and_live (Live d) live void = absurd (cc void)
void_and_live (Lost d) live void = absurd (cc void)
void_and_live (Broken d) live void = absurd (cc void)

module _ (t : Table) (n k : ℕ) (table : IsTable t) (is_data : k < t.data_columns) (live : IsTrue (is_live (slot_at t n k))) where
  -- the slot of this stripe and column
  is_there : (s c : ℕ) → n ≡ s → k ≡ c → IsTrue (is_live (slot_at t s c))
  is_there s c stripe column = subst (λ j. IsTrue (is_live (slot_at t s j))) column (subst (λ m. IsTrue (is_live (slot_at t m k))) stripe live)

  untouched : (e : Entry) → Legal t e → (WritesSlot t e n k → ⊥) → IsTrue (is_live (slot_at (after t e) n k))
  untouched e legal apart = ap is_live (slots_stay t e n k table legal (omega (arith, is_data)) apart) ∙ live

  -- the cursor's slot is Void
  not_put : (s c : ℕ) → TakesPut t s c → n ≡ s → (k ≡ c) ⊎ (t.data_columns ≤ k) → ⊥
  not_put s c takes stripe (inr past) = omega (arith, is_data, past)
  not_put s c takes stripe (inl column) =
      void_and_live (slot_at t t.cursor.stripe k) (is_there t.cursor.stripe k (stripe ∙ takes.0.0) refl)
      (table.voids.cursor k (let a = takes.0.0 in let b = takes.0.1 in omega (arith, a, b)) is_data ∙ reached t.cursor.column k (sym (column ∙ takes.1)))
    where
      reached : (a b : ℕ) → a ≡ b → nat_le a b ≡ true
      reached a b e = grind (arith, nat_tests)

  -- a data slot stays Live through an entry of a job that does not say that its block is missing,
  -- and swaps no archive
  pub live_stays : (e : Entry) → Legal t e → 0 < job_of e → is_swap e ≡ false → (Misses t e k → ⊥) → IsTrue (is_live (slot_at (after t e) n k))
  live_stays (entry.Put job s c d p kept) legal some none misses = untouched (entry.Put job s c d p kept) legal (λ w. not_put s c legal.1 w.0 w.1)
  live_stays (entry.Put2 job s c d p q kept kept2) legal some none misses = untouched (entry.Put2 job s c d p q kept kept2) legal (λ w. not_put s c legal.1 w.0 w.1)
  live_stays (entry.Gone job s c) legal some none misses =
      untouched (entry.Gone job s c) legal (λ w. misses ((λ z. (let e = z in omega (arith, some, e))), sym w.1, is_there s c w.0 w.1))
  live_stays (entry.Broke job s c) legal some none misses = absurd (let e = legal.0 in omega (arith, some, e))
  live_stays (entry.Mended job s c) legal some none misses = elim (slot_after t s c (live_of (slot_at t s c)) n k) [
    | inl same ↦ ap is_live same ∙ live
    | inr (is, was) ↦ ap is_live is ∙ live_of_live (slot_at t s c) (sym (ap is_live was) ∙ live)
  ]
  live_stays (entry.GaveUp job s c other) legal some none misses =
      untouched (entry.GaveUp job s c other) legal (λ w. misses (sym w.1, is_there s other w.0 w.1))
  live_stays (entry.Moved job s c true) legal some none misses = live
  live_stays (entry.Moved job s c false) legal some none misses =
      untouched (entry.Moved job s c false) legal (λ w. misses (refl, sym w.2, is_there s c w.1 w.2))
  live_stays (entry.Swapped job c to) legal some none misses = absurd (cc none)
  live_stays _ legal some none misses = live

-- and through a log of such entries
pub live_through : (t u : Table) (x y : List Entry) (n k : ℕ) (why : Type 0) → IsTable t → Replays t (x ++ y) u → k < t.data_columns → (why → ⊥) → WhereMissed t (x ++ y) k why
    → ((e : Entry) → Contains x e → (0 < job_of e) × (is_swap e ≡ false)) → IsTrue (is_live (slot_at t n k)) → IsTrue (is_live (slot_at (replayed t x) n k))
live_through t u [] y n k why table replays is_data none missed each live = live
live_through t u (e ∷ x) y n k why table replays is_data none missed each live =
    let here = each e (0, omega arith, refl) in
    live_through (after t e) u x y n k why (after_keeps t e table replays.0) replays.1 (let s = (sizes_stay t e).0 in omega (arith, is_data, s)) none missed.1
    (λ f has. each f (suc has.0, (let l = has.1 in omega (arith, l)), has.2))
    (live_stays t n k table is_data live e replays.0 here.0 here.1 (λ m. none (missed.0 m)))

-- what a log says behind its front is said of the table that the front comes to
pub missed_behind : (t : Table) (x y : List Entry) (c : ℕ) (why : Type 0) → WhereMissed t (x ++ y) c why → WhereMissed (replayed t x) y c why
missed_behind t [] y c why w = w
missed_behind t (e ∷ x) y c why w = missed_behind (after t e) x y c why w.1

pub data_columns-replayed : (t : Table) (log : List Entry) → (replayed t log).data_columns ≡ t.data_columns
data_columns-replayed t [] = refl
data_columns-replayed t (e ∷ log) = data_columns-replayed (after t e) log ∙ (sizes_stay t e).0

-- A STRIPE WHERE NO RELAY CAN BEGIN

-- Where no slot is Broken, as many other slots are unsound as there are parity columns.
enough : (two few : Bool) (b f : Option ℕ) (o : ℕ) → b ≡ None → (if two && is_some b then b else (if few then f else None)) ≡ Some o → few ≡ true
enough two true b f o none is = refl
enough true false None f o none is = absurd (cc is)
enough false false None f o none is = absurd (cc is)
enough two false (Some k) f o none is = absurd (cc none)

unsound_lost : (x : SlotState) → is_broken x ≡ false → is_unsound x ≡ true → is_lost x ≡ true
unsound_lost Void whole unsound = absurd (cc unsound)
unsound_lost (Live d) whole unsound = absurd (cc unsound)
unsound_lost (Lost d) whole unsound = refl
unsound_lost (Broken d) whole unsound = absurd (cc whole)

beside : (k c : ℕ) (b : Bool) → not (k == c) && b ≡ true → (k ≢ c) × (b ≡ true)
beside k c true e = (grind (arith, nat_tests), refl)
beside k c false e = absurd (grind (arith, nat_tests))

module _ (t : Table) (s c other : ℕ) (column : c < width t) (unsound : IsTrue (is_unsound (slot_at t s c))) (stuck : stuck_by t s c ≡ Some other) where
  many_lost : first t s is_broken ≡ None → t.parity < count (width t) (λ k. is_lost (slot_at t s k))
  many_lost none =
      let whole : (k : ℕ) → k < width t → is_broken (slot_at t s k) ≡ false = least_none (width t) (λ k. is_broken (slot_at t s k)) none in
      let many : t.parity ≤ count_beside t s c is_unsound =
      leb-true t.parity (count_beside t s c is_unsound) (enough (t.parity == 2) (nat_le t.parity (count_beside t s c is_unsound)) (first t s is_broken) (first_beside t s c is_unsound) other none stuck) in
      let lost : ℕ → Bool = λ k. is_lost (slot_at t s k) in
      let one : count (width t) lost ≡ count (width t) (without lost c) + 1 = count_without (width t) lost c column (unsound_lost (slot_at t s c) (whole c column) unsound) in
      let le : count_beside t s c is_unsound ≤ count (width t) (without lost c) =
      count-le (width t) (λ k. not (k == c) && is_unsound (slot_at t s k)) (without lost c)
      (λ k lk e. (let b = beside k c (is_unsound (slot_at t s k)) e in passes_without lost c k (unsound_lost (slot_at t s k) (whole k lk) b.1) b.0)) in
      omega (arith, many, one, le)

  pub stuck_past : IsPastMending t s
  stuck_past = by (first t s is_broken) refl
    where
      by : (o : Option ℕ) → first t s is_broken ≡ o → IsPastMending t s
      by None is = inr (many_lost is)
      by (Some k) is = inl (some is)
        where
          some : first t s is_broken ≡ Some k → IsTrue (is_some (first t s is_broken))
          some e = ap is_some e

-- a stripe with a Broken slot is past mending
pub broken_past : (t : Table) (s c : ℕ) → c < width t → is_broken (slot_at t s c) ≡ true → IsPastMending t s
broken_past t s c column broken = by (first t s is_broken) refl
  where
    by : (o : Option ℕ) → first t s is_broken ≡ o → IsPastMending t s
    by None is = absurd (let whole = sym (least_none (width t) (λ k. is_broken (slot_at t s k)) is c column) ∙ broken in cc whole)
    by (Some k) is = inl (ap is_some is)
