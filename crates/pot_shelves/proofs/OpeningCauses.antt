-- Why an opening called a slot Gone that had its block.
use Rattle.std.proofs.Common.{◌≡◌, ◌⊎◌, inl, inr, ℕ, zero, suc, ◌<◌, ◌≤◌, ◌+◌, ◌==◌, ◌&&◌, Bool, true, false, List, refl, sym, ap, ◌∙◌, subst, arith, if◌then◌else◌}
use Rattle.std.proofs.lemmas.Bool.Decides.{eqb_tells}
use Rattle.std.proofs.lemmas.Bool.{cases_lt}
use Rattle.pot_outside.specs.Counts.{Rose}
use Rattle.pot_machine.specs.declared.entry.Entry.{Entry}
use Rattle.pot_machine.specs.Table.{Table, width, serving_at, count}
use Rattle.pot_steps.specs.Stripe.{Sound}
use Rattle.pot_steps.specs.Holdings.{stripe_of}
use Rattle.pot_shelves.specs.Shelves.{Shelves}
use Rattle.pot_shelves.specs.Opening.{Opens, FailedSo, failures, failures_at}
use Rattle.pot_shelves.proofs.ShelfLemmas.{lost_rose}

-- a test that is true of one counts at least 1
counts_one : (n : ℕ) (test : ℕ → Bool) (c : ℕ) → c < n → test c ≡ true → 0 < count n test
unfolding count
counts_one zero test c l e = absurd (omega (arith, l))
counts_one (suc n) test c l e = elim (cases_lt c n) [
  | inl lt ↦ (let h = counts_one n test c lt e in omega (arith, h))
  | inr le ↦ (let is : c ≡ n = omega (arith, l, le) in let at : test n ≡ true = ap test (sym is) ∙ e in rw at (omega arith))
]

-- a read that failed is one of those that failed at its archive
fails_one : (t : Table) (failed : ℕ → ℕ → Bool) (n s c : ℕ) → s < n → c < width t → failed s c ≡ true → 0 < failures t failed n (serving_at t s c)
fails_one t failed zero s c ls lc e = absurd (omega (arith, ls))
fails_one t failed (suc n) s c ls lc e = elim (cases_lt s n) [
  | inl lt ↦ (let h = fails_one t failed n s c lt lc e in omega (arith, h))
  | inr le ↦ (let is : s ≡ n = omega (arith, ls, le) in
      let here : 0 < failures_at t (failed n) n (serving_at t s c) = subst (λ k. 0 < failures_at t (failed k) k (serving_at t s c)) is at in omega (arith, here))
]
  where
    at : 0 < failures_at t (failed s) s (serving_at t s c)
    at = counts_one (width t) (λ k. failed s k && (serving_at t s k == serving_at t s c)) c lc
        (elim (eqb_tells (serving_at t s c) (serving_at t s c)) [ inl q ↦ rw (e, q.0) refl | inr q ↦ absurd (q.1 refl) ])

failed_rose : (old new : Shelves) (number times : ℕ) → FailedSo old new number times → 0 < times → Rose (old.faults number) (new.faults number)
failed_rose old new number times (inl top) some = inr top
failed_rose old new number times (inr most) some = inl (omega (arith, most, some))

-- A slot is Gone that was sound before the opening only where a count of the archive that serves it
-- rose meanwhile.
pub gone_rose : (told : Type 0) (n : ℕ) (t u : Table) (now : List Entry) (old new : Shelves) (o : Opens told n t u now old new) → told
    → (s c : ℕ) → s < n → c < width t → o.gone s c ≡ true → Sound (stripe_of t old.held s) c
    → Rose (old.faults (serving_at t s c)) (new.faults (serving_at t s c)) ⊎ Rose (old.losses (serving_at t s c)) (new.losses (serving_at t s c))
gone_rose told n t u now old new o z s c ls lc is (block, sound) = by (o.failed s c) refl
  where
    by : (b : Bool) → o.failed s c ≡ b
        → Rose (old.faults (serving_at t s c)) (new.faults (serving_at t s c)) ⊎ Rose (old.losses (serving_at t s c)) (new.losses (serving_at t s c))
    by true e = inl (failed_rose old new (serving_at t s c) (failures t o.failed n (serving_at t s c)) (o.few (serving_at t s c)) (fails_one t o.failed n s c ls lc e))
    by false e = elim (lost_rose old.held old new (serving_at t s c) s block (o.stays.loses z) sound.held) [
      | inl kept ↦ absurd (o.missing z s c ls lc is e (block, record { digest = sound.digest; live = sound.live; held = kept; right = sound.right }))
      | inr rose ↦ inr rose
    ]

-- A slot is Gone that is sound after the opening only where the count of faults of the archive that
-- serves it rose meanwhile.
pub gone_failed : (told : Type 0) (n : ℕ) (t u : Table) (now : List Entry) (old new : Shelves) (o : Opens told n t u now old new) → told
    → (s c : ℕ) → s < n → c < width t → o.gone s c ≡ true → Sound (stripe_of t new.held s) c
    → Rose (old.faults (serving_at t s c)) (new.faults (serving_at t s c))
gone_failed told n t u now old new o z s c ls lc is sound = by (o.failed s c) refl
  where
    by : (b : Bool) → o.failed s c ≡ b → Rose (old.faults (serving_at t s c)) (new.faults (serving_at t s c))
    by true e = failed_rose old new (serving_at t s c) (failures t o.failed n (serving_at t s c)) (o.few (serving_at t s c)) (fails_one t o.failed n s c ls lc e)
    by false e = absurd (o.missing z s c ls lc is e sound)
