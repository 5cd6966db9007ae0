-- The slots of a table after a change.
use Rattle.std.proofs.Common.{◌≡◌, ◌<◌, ◌≤◌, ◌+◌, ◌*◌, ◌/◌, ◌⊎◌, inl, inr, ℕ, zero, suc, Bool, true, false, IsTrue, List, [], ◌∷◌, length, get_or, set, refl, ap, sym, ◌∙◌, arith}
use Rattle.std.proofs.Math.Nat.{mul-le-mul_right}
use Rattle.std.proofs.lemmas.List.{get_or-set_same, get_or-set_other}
use Rattle.std.proofs.lemmas.Nat.{div-mul-add}
use Rattle.pot_machine.specs.declared.slot.SlotState.{SlotState}
use Rattle.pot_machine.specs.declared.slot.SlotState.TheVariants.{Void, Live, Lost, Broken}
use Rattle.pot_machine.specs.Slot.{is_void, is_unsound, lost_of, broken_of, live_of, parity_slot}
use Rattle.pot_machine.specs.Table.{Table, width, place_of, slot_at}
use Rattle.pot_machine.specs.Machine.{with_slot}

set_cases : {X : Type 0} (l : List X) (p q : ℕ) (v d : X) → (get_or (set l p v) q d ≡ get_or l q d) ⊎ ((get_or (set l p v) q d ≡ v) × (q ≡ p))
set_cases [] p q v d = inl refl
set_cases (x ∷ l) zero zero v d = inr (refl, refl)
set_cases (x ∷ l) zero (suc q) v d = inl refl
set_cases (x ∷ l) (suc p) zero v d = inl refl
set_cases (x ∷ l) (suc p) (suc q) v d = elim (set_cases l p q v d) [ inl e ↦ inl e | inr e ↦ inr (e.0, ap suc e.1) ]

-- a slot after a write of some slot: as it was, or what was written in the place of what was there
pub slot_after : (t : Table) (s c : ℕ) (x : SlotState) (n k : ℕ)
    → (slot_at (with_slot t s c x) n k ≡ slot_at t n k) ⊎ ((slot_at (with_slot t s c x) n k ≡ x) × (slot_at t n k ≡ slot_at t s c))
slot_after t s c x n k =
    elim (set_cases t.slots (place_of t s c) (place_of t n k) x Void) [ inl e ↦ inl e | inr e ↦ inr (e.0, ap (λ i. get_or t.slots i Void) e.1) ]

-- two places are one only where stripe and column are
pub place_same : (w s k s' k' : ℕ) → k < w → k' < w → s * w + k ≡ s' * w + k' → (s ≡ s') × (k ≡ k')
place_same w s k s' k' l l' e =
    let stripes : s ≡ s' = sym (div-mul-add s w k l) ∙ ap (λ n. n / w) e ∙ div-mul-add s' w k' l' in
    (stripes, (let q : s * w ≡ s' * w = ap (λ n. n * w) stripes in omega arith))

pub place_below : (w z s k : ℕ) → s < z → k < w → s * w + k < z * w
place_below w z s k l m = let h : suc s * w ≤ z * w = mul-le-mul_right w (omega arith) in omega arith

pub slot_same : (t : Table) (s c : ℕ) (x : SlotState) → length t.slots ≡ t.stripes * width t → s < t.stripes → c < width t → slot_at (with_slot t s c x) s c ≡ x
slot_same t s c x e l m =
    let h : place_of t s c < t.stripes * width t = place_below (width t) t.stripes s c l m in
    get_or-set_same t.slots (place_of t s c) x Void (omega arith)

pub slot_other : (t : Table) (s c n k : ℕ) (x : SlotState) → c < width t → k < width t → ((n ≡ s) × (k ≡ c) → ⊥) → slot_at (with_slot t s c x) n k ≡ slot_at t n k
slot_other t s c n k x lc lk ne =
    get_or-set_other t.slots (place_of t s c) (place_of t n k) x Void (λ e. ne (place_same (width t) n k s c lk lc e))

-- a write that does not change whether a slot is Void changes that of no slot
pub void_same : (t : Table) (s c : ℕ) (x : SlotState) (n k : ℕ) → is_void x ≡ is_void (slot_at t s c) → is_void (slot_at (with_slot t s c x) n k) ≡ is_void (slot_at t n k)
void_same t s c x n k e =
    elim (slot_after t s c x n k) [ inl q ↦ ap is_void q | inr q ↦ ap is_void q.0 ∙ e ∙ sym (ap is_void q.1) ]

-- a write that leaves an unsound slot unsound
pub unsound_kept : (t : Table) (s c : ℕ) (x : SlotState) (n k : ℕ) → (IsTrue (is_unsound (slot_at t s c)) → IsTrue (is_unsound x)) → IsTrue (is_unsound (slot_at t n k)) → IsTrue (is_unsound (slot_at (with_slot t s c x) n k))
unsound_kept t s c x n k keeps h =
    elim (slot_after t s c x n k) [ inl q ↦ ap is_unsound q ∙ h | inr q ↦ ap is_unsound q.0 ∙ keeps (sym (ap is_unsound q.1) ∙ h) ]

pub void-lost : (x : SlotState) → is_void (lost_of x) ≡ is_void x
void-lost Void = refl
void-lost (Live d) = refl
void-lost (Lost d) = refl
void-lost (Broken d) = refl

pub void-broken : (x : SlotState) → is_void (broken_of x) ≡ is_void x
void-broken Void = refl
void-broken (Live d) = refl
void-broken (Lost d) = refl
void-broken (Broken d) = refl

pub void-live : (x : SlotState) → is_void (live_of x) ≡ is_void x
void-live Void = refl
void-live (Live d) = refl
void-live (Lost d) = refl
void-live (Broken d) = refl

pub unsound-lost : (x : SlotState) → IsTrue (is_unsound x) → IsTrue (is_unsound (lost_of x))
unsound-lost Void h = h
unsound-lost (Live d) h = refl
unsound-lost (Lost d) h = refl
unsound-lost (Broken d) h = refl

pub unsound-broken : (x : SlotState) → IsTrue (is_unsound x) → IsTrue (is_unsound (broken_of x))
unsound-broken Void h = h
unsound-broken (Live d) h = refl
unsound-broken (Lost d) h = refl
unsound-broken (Broken d) h = refl

pub void-parity : (d : _) (kept : Bool) → is_void (parity_slot d kept) ≡ false
void-parity d true = refl
void-parity d false = refl
