-- How many parts of their turns the passes of a row have.
use Rattle.std.specs.Prelude.{◌≡◌, ℕ}
use Rattle.pot_rows.specs.Rows.{PassRow, view_at}

-- each pass has as many parts as before
abbrev pub SameParts : {E O : Type 0} → PassRow E O → PassRow E O → Type 0
SameParts old new = (at : ℕ) → (view_at new at).parts ≡ (view_at old at).parts
