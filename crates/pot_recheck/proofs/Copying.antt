-- The slots of a table, copied one after another.
use Rattle.std.proofs.Common.{◌≡◌, ◌<◌, ◌≤◌, ◌+◌, ◌*◌, ◌++◌, ℕ, List, [], ◌∷◌, length, take, drop, ap, sym, ◌∙◌, arith, append_assoc, add-one, length-drop, take_all}
use Rattle.std.proofs.Math.Seq.{take-suc, take-add}
use Rattle.std.proofs.Math.Nat.{mul-le-mul_right}
use Rattle.std.proofs.lemmas.List.{get_or-drop}
use Rattle.pot_machine.specs.declared.slot.SlotState.{SlotState}
use Rattle.pot_machine.specs.declared.slot.SlotState.TheVariants.{Void}
use Rattle.pot_machine.specs.Table.{Table, width, slot_at}
use Rattle.pot_machine.specs.Rules.{IsTable}
use Rattle.pot_machine.proofs.Places.{place_below}

-- one more slot of a stripe
pub slot_copied : (t : Table) (s c : ℕ) (old cur new : List SlotState) → IsTable t → s < t.stripes → c < width t → cur ≡ old ++ take c (drop (s * width t) t.slots)
    → new ≡ cur ++ slot_at t s c ∷ [] → new ≡ old ++ take (c + 1) (drop (s * width t) t.slots)
slot_copied t s c old cur new is ls lc e h =
    let below : s * width t + c < t.stripes * width t = place_below (width t) t.stripes s c ls lc in
    let rest = drop (s * width t) t.slots in
    let inside : c < length rest = (let n = length-drop (s * width t) t.slots in let m = is.size.slots in omega (arith, below, n, m)) in
    h ∙ ap (λ l. l ++ slot_at t s c ∷ []) e ∙ append_assoc old (take c rest) (slot_at t s c ∷ [])
    ∙ ap (λ x. old ++ (take c rest ++ x ∷ [])) (sym (get_or-drop (s * width t) t.slots c Void))
    ∙ ap (λ l. old ++ l) (sym (ap (λ n. take n rest) (add-one c) ∙ take-suc rest c Void inside))

-- one more stripe
pub stripe_copied : (t : Table) (s : ℕ) (cur new : List SlotState) → cur ≡ take (s * width t) t.slots → new ≡ cur ++ take (width t) (drop (s * width t) t.slots)
    → new ≡ take ((s + 1) * width t) t.slots
stripe_copied t s cur new e h =
    let next : (s + 1) * width t ≡ s * width t + width t = grind arith in
    h ∙ ap (λ l. l ++ take (width t) (drop (s * width t) t.slots)) e ∙ sym (ap (λ n. take n t.slots) next ∙ take-add (s * width t) (width t) t.slots)

-- all slots
pub all_copied : (t : Table) (n : ℕ) (cur : List SlotState) → IsTable t → t.stripes ≤ n → cur ≡ take (n * width t) t.slots → cur ≡ t.slots
all_copied t n cur is l e = e ∙ take_all (n * width t) t.slots (let m = is.size.slots in let k = mul-le-mul_right (width t) l in omega (arith, m, k))
