-- Where all slots are Live that are not Void, none is Lost or Broken.
use Rattle.std.proofs.Common.{◌≡◌, ◌<◌, ◌≤◌, ◌⊎◌, inl, inr, ℕ, false, Option, Some, None, List, [], ◌∷◌, length, map, get_or, refl, sym, ap, subst, ◌∙◌, arith}
use Rattle.std.specs.Prelude.{slice_get, option_map}
use Rattle.std.specs.List.{Contains}
use Rattle.std.proofs.lemmas.Bool.{cases_lt}
use Rattle.std.proofs.lemmas.List.{get_or-map, get_or_past, length-map}
use Rattle.std.proofs.lemmas.Option.{slice_get-map}
use Rattle.pot_machine.specs.declared.slot.SlotState.{SlotState}
use Rattle.pot_machine.specs.declared.slot.SlotState.TheVariants.{Void, Live, Lost, Broken}
use Rattle.pot_machine.specs.Slot.{is_unsound, live_of}
use Rattle.pot_machine.specs.Table.{Table, slot_at}
use Rattle.pot_image.specs.Images.{Contents}
use Rattle.pot_recheck.specs.declared.listing.Unsound.{Unsound}
use Rattle.pot_recheck.specs.Listing.{in_image}
use Rattle.pot_recheck.specs.Rechecking.{live_table, all_live}
use Rattle.pot_recheck.proofs.ListLemmas.{listed_is}

sound : (x : SlotState) → is_unsound (live_of x) ≡ false
sound Void = refl
sound (Live d) = refl
sound (Lost d) = refl
sound (Broken d) = refl

all_sound : (slots : List SlotState) (i : ℕ) → is_unsound (get_or (map live_of slots) i Void) ≡ false
all_sound slots i = elim (cases_lt i (length slots)) [
  | inl l ↦ ap is_unsound (get_or-map live_of slots i Void Void l) ∙ sound (get_or slots i Void)
  | inr l ↦ ap is_unsound (get_or_past (map live_of slots) i Void (let n = length-map slots live_of in omega (arith, l, n)))
]

live_sound : (o : Option Table) (t : Table) (s c : ℕ) → option_map live_table o ≡ Some t → is_unsound (slot_at t s c) ≡ false
live_sound None t s c e = absurd (cc)
live_sound (Some u) t s c e = (let q : live_table u ≡ t = cc in subst (λ (x : Table). is_unsound (slot_at x s c) ≡ false) q (all_sound u.slots _))

none_if : (xs : List Unsound) → ((u : Unsound) → Contains xs u → ⊥) → xs ≡ []
none_if [] h = refl
none_if (x ∷ xs) h = absurd (h x (0, omega arith, refl))

pub none_left : (v : Contents) → in_image (all_live v) ≡ []
none_left v = none_if (in_image (all_live v)) (λ u h.
    (let is = listed_is (all_live v) u h in
    let sound : is_unsound (slot_at is.table u.stripe u.column) ≡ false = live_sound (slice_get v.tables u.group) is.table u.stripe u.column (sym (slice_get-map live_table v.tables u.group) ∙ is.its) in
    let unsound = is.unsound in
    absurd (cc)))
