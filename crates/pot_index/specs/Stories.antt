-- What the tests know of an index.
use Rattle.std.specs.Prelude.{◌≡◌, ℕ, List}
use Rattle.pot_index.specs.declared.record.Record.{Record}
use Rattle.pot_index.specs.Index.{IndexView, IsRecordOf}

-- a file of 5 bytes is published under the name
abbrev pub HasSmall : IndexView → List ℕ → Type 0
HasSmall s name = (r : Record) × IsRecordOf s.now name r × (r.length ≡ 5)
