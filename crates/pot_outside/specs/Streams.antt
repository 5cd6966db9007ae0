-- What a call of a source or a sink does to its bytes.
use Rattle.std.specs.Prelude.{◌≡◌, ◌<◌, ◌≤◌, ◌++◌, ℕ, List, [], length, take, Result, Ok, Err}
use Rattle.pot_outside.specs.declared.faults.Failed.{Failed}

-- `Ok(count)`: the first `count` bytes of the buffer are the next `count` bytes. None into a buffer
-- with room is the end of the input. A failed read takes nothing.
abbrev pub ReadsNext : List ℕ → List ℕ → List ℕ → Result ℕ Failed → Type 0
ReadsNext before after into (Ok count) =
    (before ≡ take count into ++ after) × (count ≤ length into)
    × (0 < length into → count ≡ 0 → after ≡ [])
ReadsNext before after into (Err e) = after ≡ before

-- `Ok(count)`: the first `count` bytes were appended. A failed write appends some first bytes, or
-- none.
abbrev pub SinkAppends : List ℕ → List ℕ → List ℕ → Result ℕ Failed → Type 0
SinkAppends before after from (Ok count) = after ≡ before ++ take count from
SinkAppends before after from (Err e) =
    (count : ℕ) × (count ≤ length from) × (after ≡ before ++ take count from)

-- a count of bytes moved lies within the buffer
abbrev pub Within : List ℕ → Result ℕ Failed → Type 0
Within buffer (Ok count) = count ≤ length buffer
Within buffer (Err e) = Unit {0}

-- a sink that has taken nothing of a piece that is not empty has failed
abbrev pub TakesSome : List ℕ → Result ℕ Failed → Type 0
TakesSome from (Ok count) = 0 < length from → 0 < count
TakesSome from (Err e) = Unit {0}
