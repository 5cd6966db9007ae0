-- What it is to append bytes to a vector, and to a message that is hashed.
use Rattle.std.specs.Prelude.{◌≡◌, ◌≤◌, ◌<◌, ◌+◌, ◌++◌, ℕ, List, Vec, Result, take, length}
use Rattle.std.specs.Prelude.{vec_capacity, OnOk, OnErr}
use Rattle.std.specs.Global.{Global}
use Rattle.std.specs.declared.alloc.AllocError.{AllocError}
use Rattle.sha2.specs.Hashers.{Holds256}
use Rattle.sha2.specs.declared.Sha256.{Sha256}

-- The bytes stand at the end. For want of room a front of them may stand there.
pub record Appends (old new : Vec ℕ Global) (result : Result (Unit {0}) AllocError)
    (bytes : List ℕ) : Type 0 where
  pub ok : OnOk result (new.items ≡ old.items ++ bytes)
  pub begins : OnErr result (take (length old.items) new.items ≡ old.items)
  pub full : OnErr result (vec_capacity old < length old.items + length bytes)
  pub capacity : vec_capacity old ≤ vec_capacity new

-- The bytes are added to the message.
abbrev pub Hashes : Sha256 → Sha256 → List ℕ → Type 0
Hashes old new bytes = (m : List ℕ) → Holds256 old m → Holds256 new (m ++ bytes)
