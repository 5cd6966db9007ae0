-- How many columns a relay has yet to go over.
use Rattle.std.specs.Prelude.{◌≡◌, ◌≤◌, ◌+◌, ℕ, Some, None}
use Rattle.pot_machine.specs.declared.relay.Relay.{Relay}
use Rattle.pot_machine.specs.Table.{Table, width, count, is_ahead, next_column}
use Rattle.pot_machine.specs.Rules.{IsTable, IsStanding}
use Rattle.pot_steps.specs.Flight.{hopped}

abbrev pub ahead : Table → Relay → ℕ
ahead t r = count (width t) (is_ahead t r)

-- no more than there are data columns
abbrev pub AheadFew : Type 0
AheadFew = (t : Table) (r : Relay) → IsTable t → IsStanding t r → ahead t r ≤ t.data_columns

-- one fewer after a hop
abbrev pub AheadHops : Type 0
AheadHops =
    (t : Table) (r : Relay) (c : ℕ) → next_column t r ≡ Some c
    → ahead t r ≡ ahead t (hopped r c) + 1

-- none where no column is next
abbrev pub AheadNone : Type 0
AheadNone = (t : Table) (r : Relay) → next_column t r ≡ None → ahead t r ≡ 0
