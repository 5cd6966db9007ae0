-- The parts of a line, and what it is to print them.
use Rattle.std.specs.Prelude.{◌≡◌, ◌+◌, ◌<◌, ◌≤◌, ◌++◌, ℕ, List, Vec, Result, length, vec_capacity}
use Rattle.std.specs.Prelude.{OnOk, OnErr}
use Rattle.std.specs.Global.{Global}
use Rattle.pot_bytes.specs.declared.memory.NoMemory.{NoMemory}
use Rattle.pot_script.specs.declared.parts.Part.{Part}
use Rattle.pot_script.specs.declared.parts.Part.TheVariants.{Text, Number, Hex}
use Rattle.pot_script.specs.Replies.{spaced, in_hex}

-- the bytes of a part
abbrev pub part_text : Part → List ℕ
part_text (Text bytes) = bytes.now
part_text (Number n) = spaced n
part_text (Hex digest) = in_hex digest

-- the text stands at the end, or for want of room nothing has changed
pub record Prints (old new : Vec ℕ Global) (result : Result (Unit {0}) NoMemory)
    (text : List ℕ) : Type 0 where
  pub ok : OnOk result (new.items ≡ old.items ++ text)
  pub err : OnErr result (new.items ≡ old.items)
  pub full : OnErr result (vec_capacity old < length old.items + length text)
  pub capacity : vec_capacity old ≤ vec_capacity new
