-- What passes of all turns did between two moments: they went on, stayed what they are, and nobody
-- else logged anything.
use Rattle.std.specs.Prelude.{◌≡◌, ℕ}
use Rattle.pot_rows.specs.Rows.{PassRow, view_at}
use Rattle.pot_rows.specs.Works.{RowExtends, RowOnlyWriter}
use Rattle.pot_shared.specs.Works.{Known}

-- each pass is of the same turn and the same value as before, began at the same log, and has as
-- many parts
pub record PassesStay {E O : Type 0} (old new : PassRow E O) : Type 0 where
  pub names : new.names ≡ old.names
  pub origin : (at : ℕ) → (view_at new at).origin ≡ (view_at old at).origin
  pub opened : (at : ℕ) → (view_at new at).opened ≡ (view_at old at).opened
  pub parts : (at : ℕ) → (view_at new at).parts ≡ (view_at old at).parts

pub record AllStay (old new : Known) : Type 0 where
  pub groups : PassesStay old.groups new.groups
  pub index : PassesStay old.index new.index

-- the passes of all turns went on
pub record AllExtend (old new : Known) : Type 0 where
  pub groups : RowExtends old.groups new.groups
  pub index : RowExtends old.index new.index

-- nobody else logged anything meanwhile
pub record AllOnlyWriters (old new : Known) : Type 0 where
  pub groups : RowOnlyWriter old.groups new.groups
  pub index : RowOnlyWriter old.index new.index
