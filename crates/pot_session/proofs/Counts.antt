-- Counts of faults over calls in a row.
use Rattle.std.specs.Prelude.{IsErrOf, Err}
use Rattle.std.proofs.Common.{◌≡◌, ap, ◌≤◌, ◌⊎◌, inl, inr, ℕ, arith}
use Rattle.pot_outside.specs.Counts.{Rose, Caused}
use Rattle.pot_doubles.proofs.CallLemmas.{rose_later}
use Rattle.pot_commands.specs.Failures.{FailsOwn}

pub rose_before : (a b c : ℕ) → b ≤ c → Rose a b → Rose a c
rose_before a b c le (inl r) = inl (omega arith)
rose_before a b c le (inr top) = inr (omega arith)

-- two calls: an answer that comes from either
pub caused_both : {P Q R : Type 0} (a b c : ℕ) → Caused a b P → Caused b c Q → (R → P ⊎ Q) → Caused a c R
caused_both {P} {Q} {R} a b c p q from = record {
  later = (let x = p.later in let y = q.later in omega arith);
  rose = (λ r. each (from r));
}
  where
    each : P ⊎ Q → Rose a c
    each (inl x) = rose_before a b c q.later (p.rose x)
    each (inr y) = rose_later a b c p.later (q.rose y)

-- an answer that comes from the first call, or from the second
pub caused_first : {P Q R : Type 0} (a b c : ℕ) → Caused a b P → Caused b c Q → (R → P) → Caused a c R
caused_first a b c p q from = caused_both a b c p q (λ r. inl (from r))

pub caused_second : {P Q R : Type 0} (a b c : ℕ) → Caused a b P → Caused b c Q → (R → Q) → Caused a c R
caused_second a b c p q from = caused_both a b c p q (λ r. inr (from r))

-- an error is the one that it is
pub same_error : {T E : Type 0} (x y : E) → IsErrOf {T = T} (Err x) y → x ≡ y
same_error x y e = (cc)

-- the same error of a call with another answer
pub err_again : {T U E : Type 0} (x y : E) → IsErrOf {T = T} (Err x) y → IsErrOf {T = U} (Err x) y
err_again x y e = ap (λ z. Err z) (same_error x y e)

-- a failure of the room's own has its cause
pub caused_fails : {P : Type 0} (a b : ℕ) → FailsOwn a b P → Caused a b P
caused_fails a b f = record { later = f.later; rose = f.rose }
