-- How many columns a relay has yet to go over.
use Rattle.std.proofs.Common.{◌≡◌, ◌≢◌, ◌⊎◌, inl, inr, ℕ, zero, suc, ◌+◌, ◌<◌, ◌≤◌, Option, Some, None, IfSome, Bool, true, false, not, ◌&&◌, nat_lt, nat_le, refl, sym, ap, ap₂, ◌∙◌, arith, if◌then◌else◌}
use Rattle.std.specs.Prelude.{◌==◌}
use Rattle.std.proofs.lemmas.Bool.Decides.{nat_tests}
use Rattle.std.proofs.lemmas.Bool.{and_parts, and_right, and_left}
use Rattle.pot_bytes.proofs.Basis.{last_or}
use Rattle.pot_machine.specs.declared.relay.Relay.{Relay}
use Rattle.pot_machine.specs.Slot.{is_void}
use Rattle.pot_machine.specs.Table.{Table, width, slot_at, count, is_after, is_ahead, skipped}
use Rattle.pot_machine.specs.Rules.{IsStanding}
use Rattle.pot_machine.proofs.Searches.{least_some, least_none, count_none, count_most}
use Rattle.pot_steps.specs.Flight.{hopped}
use Rattle.pot_steps.specs.Ahead.{AheadFew, AheadHops, AheadNone}

pub count_same : (n : ℕ) (f g : ℕ → Bool) → ((k : ℕ) → k < n → f k ≡ g k) → count n f ≡ count n g
unfolding count
count_same zero f g h = refl
count_same (suc n) f g h = ap₂ (λ a b. a + (if b then 1 else 0)) (count_same n f g (λ k l. h k (omega arith))) (h n (omega arith))

-- two tests that differ at one number
pub count_one : (n : ℕ) (f g : ℕ → Bool) (c : ℕ) → c < n → f c ≡ true → g c ≡ false → ((k : ℕ) → k < n → k ≢ c → f k ≡ g k) → count n f ≡ count n g + 1
unfolding count
count_one zero f g c lt t e h = absurd (omega arith)
count_one (suc n) f g c lt t e h = elim (last_or c n lt) [
  | inl q ↦ rw (← q, t, e) (let s : count c f ≡ count c g = count_same c f g (λ k l. h k (omega arith) (omega arith)) in omega arith)
  | inr l ↦ rw (h n (omega arith) (omega arith)) (let s : count n f ≡ count n g + 1 = count_one n f g c l t e (λ k m ne. h k (omega arith) ne) in omega (arith, s))
]

-- a test that fails at a number, and at two
count_but : (n : ℕ) (test : ℕ → Bool) (t : ℕ) → t < n → test t ≡ false → count n test + 1 ≤ n
unfolding count
count_but zero test t lt e = absurd (omega arith)
count_but (suc n) test t lt e = elim (last_or t n lt) [
  | inl q ↦ rw (← q, e) (let h : count t test ≤ t = count_most t test in omega arith)
  | inr l ↦ (let ih : count n test + 1 ≤ n = count_but n test t l e in let h : (if test n then 1 else 0) ≤ 1 = one (test n) in omega arith)
]
  where
    one : (b : Bool) → (if b then 1 else 0) ≤ 1
    one true = omega arith
    one false = omega arith

count_but_two : (n : ℕ) (test : ℕ → Bool) (t u : ℕ) → t < n → u < n → t ≢ u → test t ≡ false → test u ≡ false → count n test + 2 ≤ n
unfolding count
count_but_two zero test t u lt lu ne e f = absurd (omega arith)
count_but_two (suc n) test t u lt lu ne e f = elim (last_or t n lt) [
  | inl q ↦ rw (← q, e) (let h : count t test + 1 ≤ t = count_but t test u (omega arith) f in omega arith)
  | inr l ↦ elim (last_or u n lu) [
    | inl q ↦ rw (← q, f) (let h : count u test + 1 ≤ u = count_but u test t (omega arith) e in omega arith)
    | inr m ↦ (let ih : count n test + 2 ≤ n = count_but_two n test t u l m ne e f in let h : (if test n then 1 else 0) ≤ 1 = one (test n) in omega arith)
  ]
]
  where
    one : (b : Bool) → (if b then 1 else 0) ≤ 1
    one true = omega arith
    one false = omega arith

pub ahead_none : AheadNone
ahead_none t r e = count_none (width t) (is_ahead t r) (least_none (width t) (is_ahead t r) e)

-- A HOP

pub after_more : (last : Option ℕ) (c k : ℕ) → is_after last c ≡ true → c < k → is_after last k ≡ true
after_more None c k h l = refl
after_more (Some a) c k h l = grind (arith, nat_tests)

below_not : (c k : ℕ) → k ≤ c → nat_lt c k ≡ false
below_not c k l = grind (arith, nat_tests)

above_is : (c k : ℕ) → c < k → nat_lt c k ≡ true
above_is c k l = grind (arith, nat_tests)

pub ahead_hops : AheadHops
ahead_hops t r c e =
    let f : (c < width t) × (is_ahead t r c ≡ true) × ((j : ℕ) → j < c → is_ahead t r j ≡ false) = least_some (width t) (is_ahead t r) c e in
    let rest : ℕ → Bool = λ k. not (k == r.target) && (not (k == skipped t.data_columns r.skip r.target) && not (is_void (slot_at t r.stripe k))) in
    let at : is_after r.last c ≡ true = (and_parts (is_after r.last c) (rest c) f.1).0 in
    count_one (width t) (is_ahead t r) (is_ahead t (hopped r c)) c f.0 f.1 (and_left (nat_lt c c) (rest c) (below_not c c (omega arith))) (λ k l ne. elim (either k c ne) [
      | inl lt ↦ f.2 k lt ∙ sym (and_left (nat_lt c k) (rest k) (below_not c k (omega arith)))
      | inr gt ↦ ap (λ b. b && rest k) (after_more r.last c k at gt ∙ sym (above_is c k gt))
    ])
  where
    either : (k c : ℕ) → k ≢ c → (k < c) ⊎ (c < k)
    either k c ne = grind arith

-- AT MOST C

at_target : (t : Table) (r : Relay) → is_ahead t r r.target ≡ false
at_target t r = and_right (is_after r.last r.target) _ (and_left (not (r.target == r.target)) _ (itself r.target))
  where
    itself : (a : ℕ) → not (a == a) ≡ false
    itself a = grind (arith, nat_tests)

at_skipped : (t : Table) (r : Relay) (u : ℕ) → u ≡ skipped t.data_columns r.skip r.target → is_ahead t r u ≡ false
at_skipped t r u e = and_right (is_after r.last u) _ (and_right (not (u == r.target)) _ (and_left (not (u == skipped t.data_columns r.skip r.target)) _ (itself u (skipped t.data_columns r.skip r.target) e)))
  where
    itself : (a b : ℕ) → a ≡ b → not (a == b) ≡ false
    itself a b e = grind (arith, nat_tests)

skipped_at : (t : Table) (r : Relay) → t.parity ≡ 2 → IsStanding t r → (skipped t.data_columns r.skip r.target < width t) × (r.target ≢ skipped t.data_columns r.skip r.target)
skipped_at t r two s = by r.skip s.skip
  where
    none : (w p k : ℕ) → p ≡ 2 → ((if nat_le k w then w + 1 else w) < w + p) × (k ≢ (if nat_le k w then w + 1 else w))
    none w p k e = (grind (arith, nat_tests), grind (arith, nat_tests))

    by : (o : Option ℕ) → IfSome o (λ u. (u < width t) × (u ≢ r.target)) → (skipped t.data_columns o r.target < width t) × (r.target ≢ skipped t.data_columns o r.target)
    by None h = none t.data_columns t.parity r.target two
    by (Some u) h = (h.0, λ e. h.1 (sym e))

pub one_or_two : (n : ℕ) → 1 ≤ n → n ≤ 2 → (n ≡ 1) ⊎ (n ≡ 2)
one_or_two n a b = grind arith

pub ahead_few : AheadFew
ahead_few t r table s = elim (one_or_two t.parity table.size.parity.0 table.size.parity.1) [
  | inl one ↦ (let h : count (width t) (is_ahead t r) + 1 ≤ width t = count_but (width t) (is_ahead t r) r.target s.target (at_target t r) in omega (arith, h, one))
  | inr two ↦
      let x : (skipped t.data_columns r.skip r.target < width t) × (r.target ≢ skipped t.data_columns r.skip r.target) = skipped_at t r two s in
      (let h : count (width t) (is_ahead t r) + 2 ≤ width t = count_but_two (width t) (is_ahead t r) r.target (skipped t.data_columns r.skip r.target) s.target x.0 x.1 (at_target t r) (at_skipped t r _ refl) in omega (arith, h, two))
]
