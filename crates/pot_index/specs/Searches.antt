-- Where records stand by their names.
use Rattle.std.specs.Prelude.{◌≡◌, ◌<◌, ◌≤◌, ℕ, List, length}
use Rattle.std.specs.Cmp.Lexicographic.{slice_cmp}
use Rattle.std.specs.List.{AllWithin, HoldsAt}
use Rattle.std.specs.Ordering.{nat_cmp}
use Rattle.std.specs.declared.cmp.Ordering.TheVariants.{Less, Greater}
use Rattle.pot_index.specs.declared.record.Record.{Record}

-- the record at this place has the name
abbrev pub RecordStandsAt : List Record → List ℕ → ℕ → Type 0
RecordStandsAt rs name at = (at < length rs) × HoldsAt (λ r. r.name ≡ name) rs at

-- the records before this place have lesser names, and those from it on greater ones
pub record BelongsAt (rs : List Record) (name : List ℕ) (at : ℕ) : Type 0 where
  pub within : at ≤ length rs
  pub before : AllWithin (λ r. slice_cmp nat_cmp r.name name ≡ Less) rs 0 at
  pub behind : AllWithin (λ r. slice_cmp nat_cmp r.name name ≡ Greater) rs at (length rs)
