-- How many slots an opening called Gone whose blocks were there.
use Rattle.std.proofs.Common.{◌≡◌, ◌⊎◌, inl, inr, ℕ, zero, suc, ◌<◌, ◌≤◌, ◌+◌, ◌-◌, ◌^◌, ◌==◌, ◌&&◌, Bool, true, false, List, refl, subst, arith}
use Rattle.std.proofs.lemmas.Bool.{and_from, and_parts, cases_lt, eqb-true}
use Rattle.std.proofs.lemmas.Bool.Decides.{leb_tells}
use Rattle.pot_outside.specs.Counts.{Rose}
use Rattle.pot_machine.specs.declared.entry.Entry.{Entry}
use Rattle.pot_machine.specs.Table.{Table, width, serving_at, count}
use Rattle.pot_steps.specs.Stripe.{Sound}
use Rattle.pot_steps.specs.Holdings.{stripe_of}
use Rattle.pot_steps.proofs.Steps.{count-le}
use Rattle.pot_shelves.specs.Shelves.{Shelves}
use Rattle.pot_shelves.specs.Opening.{Opens, failures}
use Rattle.pot_shelves.proofs.ShelfLemmas.{lost_rose}

-- of two choices of slots, of which one has at an archive what the other has
failures_le : (t : Table) (f g : ℕ → ℕ → Bool) (n number : ℕ) → ((s c : ℕ) → s < n → c < width t → f s c ≡ true → serving_at t s c ≡ number → g s c ≡ true) → failures t f n number ≤ failures t g n number
failures_le t f g zero number h = omega arith
failures_le t f g (suc n) number h =
    (let a = failures_le t f g n number (λ s c ls lc e is. h s c (omega (arith, ls)) lc e is) in
    let b = count-le (width t) (λ c. f n c && (serving_at t n c == number)) (λ c. g n c && (serving_at t n c == number))
    (λ c lc e. (let p = and_parts (f n c) (serving_at t n c == number) e in and_from (g n c) (serving_at t n c == number) (h n c (omega arith) lc p.0 (eqb-true (serving_at t n c) number p.1)) p.1)) in omega (arith, a, b))

count_none : (n : ℕ) (test : ℕ → Bool) → ((c : ℕ) → c < n → test c ≡ true → ⊥) → count n test ≡ 0
unfolding count
count_none zero test none = refl
count_none (suc n) test none = (let a = count_none n test (λ c l. none c (omega (arith, l))) in by (test n) refl a)
  where
    by : (b : Bool) → test n ≡ b → count n test ≡ 0 → count (suc n) test ≡ 0
    by true e a = absurd (none n (omega arith) e)
    by false e a = rw (e, a) refl

-- where none is chosen, no archive serves one
pub none_served : (t : Table) (slots : ℕ → ℕ → Bool) (n number : ℕ) → ((s c : ℕ) → s < n → c < width t → slots s c ≡ true → ⊥) → failures t slots n number ≡ 0
none_served t slots zero number none = refl
none_served t slots (suc n) number none =
    (let a = none_served t slots n number (λ s c ls. none s c (omega (arith, ls))) in
    let b = count_none (width t) (λ c. slots n c && (serving_at t n c == number)) (λ c lc e. none n c (omega arith) lc (and_parts (slots n c) (serving_at t n c == number) e).0) in omega (arith, a, b))

rose_or_not : (a b : ℕ) → Rose a b ⊎ (Rose a b → ⊥)
rose_or_not a b = elim (cases_lt a b) [
  | inl lt ↦ inl (inl lt)
  | inr le ↦ elim (leb_tells (2 ^ 64 - 1) b) [
    | inl s ↦ inl (inr s.1)
    | inr s ↦ inr (λ r. elim r [ inl lt ↦ absurd (omega (arith, lt, le)) | inr top ↦ absurd (omega (arith, top, s.1)) ])
  ]
]

-- Of one archive no more slots are Gone that were sound before the opening than its count of faults
-- rose meanwhile, unless its count of losses did.
pub gone_few : (told : Type 0) (n : ℕ) (t u : Table) (now : List Entry) (old new : Shelves) (o : Opens told n t u now old new) → told → (slots : ℕ → ℕ → Bool)
    → ((s c : ℕ) → s < n → c < width t → slots s c ≡ true → (o.gone s c ≡ true) × Sound (stripe_of t old.held s) c)
    → (number : ℕ) → ((old.faults number + failures t slots n number ≤ new.faults number) ⊎ (2 ^ 64 - 1 ≤ new.faults number)) ⊎ Rose (old.losses number) (new.losses number)
gone_few told n t u now old new o z slots are number = elim (rose_or_not (old.losses number) (new.losses number)) [
  | inl rose ↦ inr rose
  | inr none ↦ inl (elim (o.few number) [
    | inl top ↦ inr top
    | inr most ↦ inl (let le = failures_le t slots o.failed n number (λ s c ls lc e is. failed none s c ls lc e is) in omega (arith, most, le))
  ])
]
  where
    failed : (Rose (old.losses number) (new.losses number) → ⊥) → (s c : ℕ) → s < n → c < width t → slots s c ≡ true → serving_at t s c ≡ number → o.failed s c ≡ true
    failed none s c ls lc e is = by (o.failed s c) refl
      where
        by : (b : Bool) → o.failed s c ≡ b → o.failed s c ≡ true
        by true q = q
        by false q = (let a = are s c ls lc e in elim (lost_rose old.held old new (serving_at t s c) s a.1.0 (o.stays.loses z) a.1.1.held) [
          | inl kept ↦ absurd (o.missing z s c ls lc a.0 q (a.1.0, record { digest = a.1.1.digest; live = a.1.1.live; held = kept; right = a.1.1.right }))
          | inr rose ↦ absurd (none (subst (λ k. Rose (old.losses k) (new.losses k)) is rose))
        ])
