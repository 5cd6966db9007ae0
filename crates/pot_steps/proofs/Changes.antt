-- Slots that stay or become Lost.
use Rattle.std.proofs.Common.{◌≡◌, ◌⊎◌, inl, inr, ℕ, ◌+◌, ◌<◌, List, Some, true, IsTrue, sym, ap, ◌∙◌, refl}
use Rattle.pot_bytes.specs.declared.digest.Digest.{Digest}
use Rattle.pot_machine.specs.declared.slot.SlotState.{SlotState}
use Rattle.pot_machine.specs.declared.slot.SlotState.TheVariants.{Void, Live, Lost, Broken}
use Rattle.pot_machine.specs.Slot.{digest_in, is_live, is_lost, lost_of}
use Rattle.pot_steps.specs.Stripe.{Stripe}
use Rattle.pot_steps.specs.Law.{Worse}

abbrev pub LostOrSame : SlotState → SlotState → Type 0
LostOrSame x y = (y ≡ x) ⊎ (y ≡ lost_of x)

digest_kept : (x y : SlotState) → LostOrSame x y → digest_in y ≡ digest_in x
digest_kept x y (inl e) = ap digest_in e
digest_kept x y (inr e) = ap digest_in e ∙ of x
  where
    of : (x : SlotState) → digest_in (lost_of x) ≡ digest_in x
    of Void = refl
    of (Live d) = refl
    of (Lost d) = refl
    of (Broken d) = refl

live_kept : (x y : SlotState) (d : Digest) → LostOrSame x y → y ≡ Live d → x ≡ Live d
live_kept x y d (inl e) h = sym e ∙ h
live_kept x y d (inr e) h = absurd (of x (sym e ∙ h))
  where
    of : (x : SlotState) → lost_of x ≡ Live d → ⊥
    of Void e = cc
    of (Live x) e = cc
    of (Lost x) e = cc
    of (Broken x) e = cc

pub lost_kept : (x y : SlotState) → LostOrSame x y → is_lost x ≡ true → is_lost y ≡ true
lost_kept x y (inl e) h = ap is_lost e ∙ h
lost_kept Void y (inr e) h = absurd (cc)
lost_kept (Live d) y (inr e) h = absurd (cc)
lost_kept (Lost d) y (inr e) h = ap is_lost e
lost_kept (Broken d) y (inr e) h = absurd (cc)

broken_kept : (x y : SlotState) (d : Digest) → LostOrSame x y → x ≡ Broken d → y ≡ Broken d
broken_kept x y d (inl e) h = e ∙ h
broken_kept x y d (inr e) h = e ∙ ap lost_of h

-- such a stripe is worse, where what is held at its Live places was held there before
pub worse_after : (data_columns parity : ℕ) (s s' : Stripe) → ((c : ℕ) → c < data_columns + parity → LostOrSame (s.slots c) (s'.slots c))
    → ((c : ℕ) (b : List ℕ) → c < data_columns + parity → IsTrue (is_live (s'.slots c)) → s'.held c ≡ Some b → s.held c ≡ Some b)
    → Worse data_columns parity s s'
worse_after data_columns parity s s' slots held = record {
  digests = λ c lt. digest_kept (s.slots c) (s'.slots c) (slots c lt);
  sound = λ c b lt h. (let live : s.slots c ≡ Live h.digest = live_kept (s.slots c) (s'.slots c) h.digest (slots c lt) h.live in
      record { digest = h.digest; live = live; held = held c b lt (ap is_live h.live) h.held; right = h.right });
  lost = λ c lt. lost_kept (s.slots c) (s'.slots c) (slots c lt);
  broken = λ c d lt. broken_kept (s.slots c) (s'.slots c) d (slots c lt);
}

pub live_before : (x y : SlotState) → LostOrSame x y → IsTrue (is_live y) → IsTrue (is_live x)
live_before x y (inl e) h = sym (ap is_live e) ∙ h
live_before x y (inr e) h = of x (sym (ap is_live e) ∙ h)
  where
    of : (x : SlotState) → IsTrue (is_live (lost_of x)) → IsTrue (is_live x)
    of Void h = h
    of (Live d) h = refl
    of (Lost d) h = h
    of (Broken d) h = h

-- or at places that were Live
pub worse_from : (data_columns parity : ℕ) (s s' : Stripe) → ((c : ℕ) → c < data_columns + parity → LostOrSame (s.slots c) (s'.slots c))
    → ((c : ℕ) (b : List ℕ) → c < data_columns + parity → IsTrue (is_live (s.slots c)) → s'.held c ≡ Some b → s.held c ≡ Some b)
    → Worse data_columns parity s s'
worse_from data_columns parity s s' slots held =
    worse_after data_columns parity s s' slots (λ c b lt live e. held c b lt (live_before (s.slots c) (s'.slots c) (slots c lt) live) e)
