-- The relays of a table as relays of its stripes.
use Rattle.std.proofs.Common.{◌≡◌, ◌≢◌, ◌⊎◌, inl, inr, ℕ, zero, suc, ◌<◌, ◌≤◌, Option, Some, None, IfSome, Bool, true, false, not, ◌&&◌, nat_eq, refl, sym, ap, ◌∙◌, subst, arith, if◌then◌else◌}
use Rattle.std.proofs.lemmas.Bool.Decides.{nat_tests}
use Rattle.pot_machine.specs.declared.relay.Relay.{Relay}
use Rattle.pot_machine.specs.Slot.{is_lost}
use Rattle.pot_machine.specs.Table.{Table, width, slot_at, is_after, is_ahead, count, count_beside}
use Rattle.pot_machine.proofs.Searches.{least_none, least_some, other_passes}
use Rattle.pot_steps.specs.Flight.{visits, is_within, left_out}
use Rattle.pot_steps.specs.Standing.{NextIsNext, NoneIsNoNext, StandingIsRelay, BeginHasFew}
use Rattle.pot_steps.proofs.Steps.{count-le}

ahead_is : (t : Table) (r : Relay) (c : ℕ) → is_ahead t r c ≡ is_after r.last c && visits t.data_columns (λ k. slot_at t r.stripe k) r c
unfolding visits left_out
ahead_is t r c = refl

within_is : (last : Option ℕ) (c : ℕ) → is_after last c ≡ not (is_within last c)
within_is None c = refl
within_is (Some l) c = grind (arith, nat_tests)

both : (w v : Bool) → not w && v ≡ true → (v ≡ true) × (w ≡ false)
both true v h = absurd (cc)
both false v h = (h, refl)

passed : (w v : Bool) → not w && v ≡ false → v ≡ true → w ≡ true
passed true v h e = refl
passed false v h e = absurd (cc)

ahead : (t : Table) (r : Relay) (c : ℕ) → is_ahead t r c ≡ not (is_within r.last c) && visits t.data_columns (λ k. slot_at t r.stripe k) r c
ahead t r c = ahead_is t r c ∙ ap (λ b. b && visits t.data_columns (λ k. slot_at t r.stripe k) r c) (within_is r.last c)

pub next_is_next : NextIsNext
next_is_next t h r c e =
    let f : (c < width t) × (is_ahead t r c ≡ true) × ((j : ℕ) → j < c → is_ahead t r j ≡ false) = least_some (width t) (is_ahead t r) c e in
    let g : (visits t.data_columns (λ k. slot_at t r.stripe k) r c ≡ true) × (is_within r.last c ≡ false) = both _ _ (sym (ahead t r c) ∙ f.1) in
    record { within = f.0; visited = g.0; above = g.1; least = λ k lt v. passed _ _ (sym (ahead t r k) ∙ f.2 k lt) v }

pub none_is_no_next : NoneIsNoNext
none_is_no_next t h r e k lt v = passed _ _ (sym (ahead t r k) ∙ least_none (width t) (is_ahead t r) e k lt) v

pub standing_is_relay : StandingIsRelay
standing_is_relay t r s = record { target = s.target; skip = λ u e. subst (λ o. IfSome o (λ u. (u < width t) × (u ≢ r.target))) e s.skip; single = s.single }

-- all that pass are at most one more than those beside a column
count-beside : (n : ℕ) (test : ℕ → Bool) (c : ℕ) → count n test ≤ suc (count n (λ k. not (nat_eq k c) && test k))
unfolding count
count-beside zero test c = omega arith
count-beside (suc n) test c = elim (same_or n c) [
  | inl e ↦ (let h : count n test ≤ count n (λ k. not (nat_eq k c) && test k) = count-le n test (λ k. not (nat_eq k c) && test k) (λ k lt v. other_passes k c (test k) (omega arith) v) in
      let last : (if test n then 1 else 0) ≤ 1 = one_at_most (test n) in omega arith)
  | inr ne ↦ (let h : count n test ≤ suc (count n (λ k. not (nat_eq k c) && test k)) = count-beside n test c in
      let last : (if test n then 1 else 0) ≤ (if not (nat_eq n c) && test n then 1 else 0) = kept n c (test n) ne in omega arith)
]
  where
    same_or : (k c : ℕ) → (k ≡ c) ⊎ (k ≢ c)
    same_or k c = grind arith

    one_at_most : (b : Bool) → (if b then 1 else 0) ≤ 1
    one_at_most true = omega arith
    one_at_most false = omega arith

    kept : (n c : ℕ) (b : Bool) → n ≢ c → (if b then 1 else 0) ≤ (if not (nat_eq n c) && b then 1 else 0)
    kept n c b ne = grind (arith, nat_tests)

pub begin_has_few : BeginHasFew
begin_has_few t h s c takes =
    let b : count_beside t s c is_lost < t.parity = takes.4 in
    let m : count (width t) (λ k. is_lost (slot_at t s k)) ≤ suc (count (width t) (λ k. not (nat_eq k c) && is_lost (slot_at t s k))) = count-beside (width t) (λ k. is_lost (slot_at t s k)) c in
    omega arith
