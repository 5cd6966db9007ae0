-- Whether, and where, the reservation of a name by a job ended.
use Rattle.std.specs.Prelude.{◌≡◌, ◌⊎◌, ℕ, ◌+◌, All, List, ◌∷◌, ◌++◌, Option, Some, None, length}
use Rattle.pot_index.specs.declared.entry.IndexEntry.{IndexEntry}
use Rattle.pot_index.specs.Entries.{IsReserving, IsEnding}

-- the place of the first entry that ends the job's reservation of the name, after the last one that
-- made it
pub record EndsAt (job : ℕ) (name : List ℕ) (es : List IndexEntry) (at : ℕ) : Type 0 where
  pub before : List IndexEntry
  pub made : IndexEntry
  pub between : List IndexEntry
  pub ended : IndexEntry
  pub behind : List IndexEntry
  pub parts : es ≡ before ++ made ∷ (between ++ ended ∷ behind)
  pub place : at ≡ length before + 1 + length between
  pub makes : IsReserving job name made
  pub ends : IsEnding job name ended
  pub first : All (λ e. ¬ IsEnding job name e) between
  pub last : All (λ e. ¬ IsReserving job name e) (between ++ ended ∷ behind)

-- no entry ended it after the last one that made it
pub record IsNameHeld (job : ℕ) (name : List ℕ) (es : List IndexEntry) : Type 0 where
  pub before : List IndexEntry
  pub made : IndexEntry
  pub behind : List IndexEntry
  pub parts : es ≡ before ++ made ∷ behind
  pub makes : IsReserving job name made
  pub kept : All (λ e. ¬ IsEnding job name e) behind
  pub last : All (λ e. ¬ IsReserving job name e) behind

-- what is known of the end, after one more entry at this place
abbrev pub StepsEnd : ℕ → List ℕ → IndexEntry → ℕ → Option ℕ → Option ℕ → Type 0
StepsEnd job name e at ended result =
    (IsReserving job name e × (result ≡ None))
    ⊎ ((¬ IsReserving job name e) × IsEnding job name e × (ended ≡ None) × (result ≡ Some at))
    ⊎ ((¬ IsReserving job name e) × (ended ≡ None → ¬ IsEnding job name e) × (result ≡ ended))
