-- Faults after faults.
use Rattle.std.proofs.Common.{◌≤◌, ℕ, inl, inr, arith}
use Rattle.pot_outside.specs.Counts.{Caused, Rose}

-- a count that rose after it fell nowhere has risen in all
pub rose_later : (a b c : ℕ) → a ≤ b → Rose b c → Rose a c
rose_later a b c h r = elim r [ inl l ↦ inl (omega arith) | inr e ↦ inr e ]

-- a call that failed after it began
pub caused_later : {P Q : Type 0} (a b c : ℕ) → Caused a b P → Caused b c (Unit {0}) → Caused a c Q
caused_later a b c began failed = record {
  later = omega (arith, began.later, failed.later);
  rose = (λ q. rose_later a b c began.later (failed.rose tt));
}
