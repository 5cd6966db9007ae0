-- What a call of an archive in memory loses.
use Rattle.std.specs.Prelude.{◌+◌, ◌-◌, ◌^◌, ◌==◌, ◌&&◌, ℕ, Bool, List, None, min, count_by}
use Rattle.std.specs.Prelude.{if◌then◌else◌}
use Rattle.std.specs.List.{list_any}
use Rattle.pot_outside.specs.Archives.{HeldBlocks}
use Rattle.pot_doubles.specs.declared.losses.Loss.{Loss}

-- whether a slot's block goes missing at the start of this call
abbrev pub goes_missing : List Loss → ℕ → ℕ → Bool
goes_missing losses call slot = list_any (λ l. l.call == call && l.slot == slot) losses

-- how many losses are listed for this call
abbrev pub losses_at : List Loss → ℕ → ℕ
losses_at losses call = count_by (λ l. l.call == call) losses

-- what is held after the losses of this call
abbrev pub without : List Loss → ℕ → HeldBlocks → HeldBlocks
without losses call held slot = if goes_missing losses call slot then None else held slot

-- a count of losses after some more; it stands still at the last value of 64 bits
abbrev pub raised_by : ℕ → ℕ → ℕ
raised_by more n = min (n + more) (2 ^ 64 - 1)
