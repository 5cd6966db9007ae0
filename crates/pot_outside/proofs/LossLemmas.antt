-- Contents with one slot changed, and losses after losses.
use Rattle.std.proofs.Common.{◌≡◌, ◌≢◌, ◌==◌, ℕ, Bool, true, false, List, Option, Some, refl, ap, ◌∙◌, arith, inl, inr}
use Rattle.std.proofs.lemmas.Bool.Decides.{eqb_tells}
use Rattle.std.specs.Prelude.{cond}
use Rattle.pot_outside.specs.Archives.{HeldBlocks, OnlyLoses, at_slot}

-- the slot that was changed
pub at_slot-here : (held : HeldBlocks) (slot : ℕ) (block : Option (List ℕ)) → at_slot held slot block slot ≡ block
at_slot-here held slot block = elim (eqb_tells slot slot) [ inl e ↦ rw e.0 refl | inr e ↦ absurd (e.1 refl) ]

-- any other slot
pub at_slot-else : (held : HeldBlocks) (slot : ℕ) (block : Option (List ℕ)) (k : ℕ) → k ≢ slot → at_slot held slot block k ≡ held k
at_slot-else held slot block k differs = elim (eqb_tells k slot) [ inl e ↦ absurd (differs e.1) | inr e ↦ rw e.0 refl ]

pub loses_nothing : (held : HeldBlocks) (now : ℕ) → OnlyLoses held held now now
loses_nothing held now = record { later = omega arith; keeps = (λ k b h. h); same = (λ k q l. refl) }

pub loses_more : (a b c : HeldBlocks) (first before now : ℕ) → OnlyLoses a b first before → OnlyLoses b c before now
    → OnlyLoses a c first now
loses_more a b c first before now o p = record {
  later = omega (arith, o.later, p.later);
  keeps = (λ k x h. o.keeps k x (p.keeps k x h));
  same = (λ k q l.
      p.same k (omega (arith, o.later, p.later)) l ∙ o.same k (omega (arith, o.later, p.later)) (omega (arith, o.later, p.later)));
}

-- losses before a write are losses after it
pub loses_under : (a b : HeldBlocks) (before now slot : ℕ) (block : Option (List ℕ)) → OnlyLoses a b before now
    → OnlyLoses (at_slot a slot block) (at_slot b slot block) before now
loses_under a b before now slot block o = record {
  later = o.later;
  keeps = (λ k x h. was (k == slot) k x (o.keeps k x) h);
  same = (λ k q l. left (k == slot) k (o.same k q l));
}
  where
    left : (t : Bool) (k : ℕ) → b k ≡ a k → cond t block (b k) ≡ cond t block (a k)
    left t k e = ap (λ v. cond t block v) e

    was : (t : Bool) (k : ℕ) (x : List ℕ) → (b k ≡ Some x → a k ≡ Some x) → cond t block (b k) ≡ Some x → cond t block (a k) ≡ Some x
    was true k x f h = h
    was false k x f h = f h
