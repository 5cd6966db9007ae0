-- A count of the slots of a table that goes on by one slot.
use Rattle.std.proofs.Common.{◌≡◌, ◌+◌, ◌*◌, ◌<◌, ◌≤◌, ℕ, Bool, true, false, List, length, take, get_or, refl, sym, ap, ◌∙◌, subst, arith}
use Rattle.std.specs.Prelude.{count_by}
use Rattle.std.proofs.lemmas.List.{length-take}
use Rattle.std.proofs.lemmas.List.Sums.{count_by-le-length, count_by_more_yes, count_by_more_no}
use Rattle.std.proofs.lemmas.Nat.{mul-add-lt, mul-le}
use Rattle.pot_machine.specs.declared.slot.SlotState.{SlotState}
use Rattle.pot_machine.specs.declared.slot.SlotState.TheVariants.{Void, Live, Lost, Broken}
use Rattle.pot_machine.specs.Slot.{is_live, is_lost, is_broken}
use Rattle.pot_machine.specs.Table.{Table, width, place_of, slot_at}
use Rattle.pot_machine.specs.Rules.{IsTable}
use Rattle.pot_group.specs.declared.counting.Counts.{Counts}
use Rattle.pot_group.specs.Counting.{CountsFirst}

-- one slot more in its state
abbrev pub counted : SlotState → Counts → Counts
counted Void a = a
counted (Live d) a = record a { live = a.live + 1 }
counted (Lost d) a = record a { lost = a.lost + 1 }
counted (Broken d) a = record a { broken = a.broken + 1 }

hit : (test : SlotState → Bool) (slots : List SlotState) (n k : ℕ) (x : SlotState) → n < length slots → x ≡ get_or slots n Void → test x ≡ true → k ≡ count_by test (take n slots) → k + 1 ≡ count_by test (take (n + 1) slots)
hit test slots n k x lt at pass h = ap (λ m. m + 1) h ∙ sym (count_by_more_yes test slots n Void lt (ap test (sym at) ∙ pass))

miss : (test : SlotState → Bool) (slots : List SlotState) (n k : ℕ) (x : SlotState) → n < length slots → x ≡ get_or slots n Void → test x ≡ false → k ≡ count_by test (take n slots) → k ≡ count_by test (take (n + 1) slots)
miss test slots n k x lt at fail h = h ∙ sym (count_by_more_no test slots n Void lt (ap test (sym at) ∙ fail))

more : (t : Table) (n : ℕ) (x : SlotState) (a : Counts) → n < length t.slots → x ≡ get_or t.slots n Void → CountsFirst n t a → CountsFirst (n + 1) t (counted x a)
more t n Void a lt at h = record {
  live = miss is_live t.slots n a.live Void lt at refl h.live;
  lost = miss is_lost t.slots n a.lost Void lt at refl h.lost;
  broken = miss is_broken t.slots n a.broken Void lt at refl h.broken;
  stripe = h.stripe;
  column = h.column;
}
more t n (Live d) a lt at h = record {
  live = hit is_live t.slots n a.live (Live d) lt at refl h.live;
  lost = miss is_lost t.slots n a.lost (Live d) lt at refl h.lost;
  broken = miss is_broken t.slots n a.broken (Live d) lt at refl h.broken;
  stripe = h.stripe;
  column = h.column;
}
more t n (Lost d) a lt at h = record {
  live = miss is_live t.slots n a.live (Lost d) lt at refl h.live;
  lost = hit is_lost t.slots n a.lost (Lost d) lt at refl h.lost;
  broken = miss is_broken t.slots n a.broken (Lost d) lt at refl h.broken;
  stripe = h.stripe;
  column = h.column;
}
more t n (Broken d) a lt at h = record {
  live = miss is_live t.slots n a.live (Broken d) lt at refl h.live;
  lost = miss is_lost t.slots n a.lost (Broken d) lt at refl h.lost;
  broken = hit is_broken t.slots n a.broken (Broken d) lt at refl h.broken;
  stripe = h.stripe;
  column = h.column;
}

place_within : (t : Table) (s c : ℕ) → IsTable t → s < t.stripes → c < width t → place_of t s c < length t.slots
place_within t s c r ls lc = omega (arith, r.size.slots, mul-add-lt s (width t) c t.stripes ls lc)

pub counts_more : (t : Table) (s c : ℕ) (x : SlotState) (a b : Counts) → IsTable t → s < t.stripes → c < width t → x ≡ slot_at t s c → CountsFirst (s * width t + c) t a → b ≡ counted x a → CountsFirst (s * width t + (c + 1)) t b
counts_more t s c x a b r ls lc at h e =
    let same : s * width t + c + 1 ≡ s * width t + (c + 1) = omega arith in
    subst (λ n. CountsFirst n t b) same (subst (λ y. CountsFirst (s * width t + c + 1) t y) (sym e) (more t (s * width t + c) x a (place_within t s c r ls lc) at h))

-- no table has more slots
slots_few : (t : Table) → IsTable t → length t.slots ≤ 73728
slots_few t r = omega (arith, r.size.slots, mul-le t.stripes (width t) 4096 18 r.size.stripes.1 (omega (arith, r.size.data_columns, r.size.parity)))

count_few : (test : SlotState → Bool) (t : Table) (n k : ℕ) → IsTable t → k ≡ count_by test (take n t.slots) → k ≤ 73728
count_few test t n k r h = omega (arith, h, count_by-le-length test (take n t.slots), length-take n t.slots, slots_few t r)

pub counts_few : (n : ℕ) (t : Table) (a : Counts) → IsTable t → CountsFirst n t a → (a.live ≤ 73728) × (a.lost ≤ 73728) × (a.broken ≤ 73728)
counts_few n t a r h = (count_few is_live t n a.live r h.live, count_few is_lost t n a.lost r h.lost, count_few is_broken t n a.broken r h.broken)
