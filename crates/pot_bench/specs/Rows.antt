-- The rows that the loops go over.
use Rattle.std.specs.Prelude.{◌≡◌}
use Rattle.pot_bench.specs.declared.rows.Rows.{Rows}

-- a loop leaves what it goes over as it was: the content, the rows behind it, and the blocks
abbrev pub KeepsRows : Rows → Rows → Type 0
KeepsRows old new =
    (new.content ≡ old.content) × (new.one ≡ old.one) × (new.two ≡ old.two)
    × (new.three ≡ old.three) × (new.blocks ≡ old.blocks)
