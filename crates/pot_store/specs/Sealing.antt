-- How a drawing stands whose blocks are sealed two at a time.
use Rattle.std.specs.Prelude.{◌≡◌, ◌≤◌, ◌+◌, ◌-◌, ℕ, [], Option, Some, None, slice_index_or}
use Rattle.pot_store.specs.Drawing.{Drawn, all_blocks, count_of}
use Rattle.pot_shared.specs.declared.sealed_put.SealedPut.{SealedPut}

-- how many blocks were sealed and not handed out
abbrev pub waiting : Option SealedPut → ℕ
waiting None = 0
waiting (Some n) = 1

-- So many blocks were not drawn; one that waits is the last that was.
pub record IsSealing (d : Drawn) (left : ℕ) (ready : Option SealedPut) : Type 0 where
  pub all : d.next + left ≡ count_of d
  pub waits : (n : SealedPut) → ready ≡ Some n
      → (1 ≤ d.next) × (n.block.block ≡ slice_index_or (all_blocks d) (d.next - 1) [])
