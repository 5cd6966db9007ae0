-- The calls of a double: which ones are to fail, and how often it failed.
use Rattle.std.specs.Prelude.{◌≡◌, ◌↔◌, ◌+◌, ◌-◌, ◌^◌, ◌==◌, ◌⊎◌, ◌||◌, nat_lt, ℕ, List, Bool, true}
use Rattle.std.specs.Prelude.{false, min, Result, Ok, Err, IsTrue, if◌then◌else◌}
use Rattle.std.specs.List.{list_any}
use Rattle.pot_doubles.specs.declared.calls.Calls.{Calls}

-- a count after one more; it stands still at the last value of 64 bits
abbrev pub raised : ℕ → ℕ
raised n = min (n + 1) (2 ^ 64 - 1)

-- no call was made, and those of these numbers are to fail
pub record IsFresh (calls : Calls) (fails : List ℕ) : Type 0 where
  pub listed : calls.fails.items ≡ fails
  pub none_made : calls.made ≡ 0
  pub no_fault : calls.faults ≡ 0
  pub fed : calls.starved ≡ false

-- whether the next call is to fail
abbrev pub is_due : Calls → Bool
is_due c = list_any (λ n. n == c.made) c.fails.items

-- after one more call began, which counts a fault where it fails
abbrev pub begun_as : Bool → Calls → Calls
begun_as fails c =
    record c { made = raised c.made; faults = (if fails then raised c.faults else c.faults) }

-- after one more call began, which counts a fault where it is to fail
abbrev pub begun : Calls → Calls
begun c = begun_as (is_due c) c

-- after one more fault
abbrev pub failing : Calls → Calls
failing c = record c { faults = raised c.faults }

-- after a call found no memory and had no answer for that
abbrev pub starving : Calls → Calls
starving c = record c { faults = raised c.faults; starved = true }

-- after a fault was counted where another count rose from `before` to `now`, or stands at its last
-- value
abbrev pub covering : ℕ → ℕ → Calls → Calls
covering before now c =
    record c {
      faults = (if nat_lt before now || now == 2 ^ 64 - 1 then raised c.faults
          else c.faults);
    }

-- A call whose first steps leave `first` is answered by a failure exactly where it was due to fail
-- or then found no memory, and only the latter counts one more fault.
abbrev pub AnsweredAsDue : {T E : Type 0} → Bool → Calls → Calls → Result T E → Type 0
AnsweredAsDue due first new (Ok x) = (due ≡ false) × (new ≡ first)
AnsweredAsDue due first new (Err e) =
    ((due ≡ true) × (new ≡ first)) ⊎ ((due ≡ false) × (new ≡ starving first))

-- a call that fails exactly where it is to fail or found no memory, and counts a fault exactly then
abbrev pub Counted : {T E : Type 0} → Calls → Calls → Result T E → Type 0
Counted old new result = AnsweredAsDue (is_due old) (begun old) new result

-- UNDER A FUSE, which several doubles share. Nothing tells when it is spent, since others spend it
-- too.

-- a call that is listed fails, and without a fuse no other does
pub record IsToFail (fused : Bool) (calls : Calls) (fails : Bool) : Type 0 where
  pub listed : is_due calls ≡ true → fails ≡ true
  pub unfused : fused ≡ false → fails ≡ is_due calls

-- a call began, and counted a fault where it fails
pub record BeginsFused (fused : Bool) (old new : Calls) (fails : Bool) : Type 0 where
  pub due : IsToFail fused old fails
  pub counted : new ≡ begun_as fails old

-- A call that takes these steps once it began is answered by a failure exactly where it was to fail
-- or found no memory, and counts a fault exactly then.
abbrev pub AnsweredFused
    : {T E : Type 0} → Bool → (Calls → Calls) → Calls → Calls → Result T E → Type 0
AnsweredFused fused steps old new result =
    (fails : Bool) × IsToFail fused old fails
    × AnsweredAsDue fails (steps (begun_as fails old)) new result

-- a call that takes no such step
abbrev pub CountedFused : {T E : Type 0} → Bool → Calls → Calls → Result T E → Type 0
CountedFused fused old new result = AnsweredFused fused (λ c. c) old new result

-- a call that has failed exactly where it was to fail, and counts a fault exactly then
pub record FailsFused (fused : Bool) (old new : Calls) (failed : Type 0) : Type 0 where
  pub fails : Bool
  pub begins : BeginsFused fused old new fails
  pub told : failed ↔ IsTrue fails
