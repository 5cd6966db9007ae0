-- What a reader answers, against what its grammar reads.
use Rattle.std.specs.Prelude.{◌≡◌, ℕ, Result, Ok, Err}
use Rattle.pot_image.specs.declared.fault.Fault.{Fault}
use Rattle.pot_image.specs.declared.fault.Fault.TheVariants.{Form, Memory}

-- memory was not found, or reading stops with as many bytes left
abbrev pub Fails : {Y : Type 0} → Fault → Result Y ℕ → Type 0
Fails (Form left) read = read ≡ Err left
Fails Memory read = Unit {0}

-- the answer, seen by `view`, is what reading gives, unless memory was not found
abbrev pub Gives : {X Y : Type 0} → (X → Y) → Result X Fault → Result Y ℕ → Type 0
Gives view (Ok x) read = read ≡ Ok (view x)
Gives view (Err e) read = Fails e read
