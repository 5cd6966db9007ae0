-- Reading a source out.
use Rattle.std.specs.Prelude.{◌≡◌, ◌≤◌, ◌++◌, ℕ, List, [], length, drop}
use Rattle.pot_outside.specs.Accounts.{Transition}

-- What is left is what stands behind some first bytes, and these are no more than so many.
abbrev pub ReadsAtMost : ℕ → Transition (List ℕ) → Type 0
ReadsAtMost most source =
    (count : ℕ) × (count ≤ most) × (source.after ≡ drop count source.before)

-- the bytes are the first ones of the source, and all of them unless they are more than the limit
pub record IsReadOut (source : Transition (List ℕ)) (bytes : List ℕ) (limit : ℕ) : Type 0 where
  pub first : source.before ≡ bytes ++ source.after
  pub all : length bytes ≤ limit → source.after ≡ []
