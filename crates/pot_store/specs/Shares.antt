-- The shares of a fragment.
use Rattle.std.specs.Prelude.{◌≡◌, []}
use Rattle.pot_store.specs.declared.shares.Shares.{Shares}

-- there is none
abbrev pub AreNone : Shares → Type 0
AreNone s = (s.points.items ≡ []) × (s.rows.items ≡ [])
