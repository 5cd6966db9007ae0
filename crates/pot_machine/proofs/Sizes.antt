-- What the changes of a table leave alone.
use Rattle.std.proofs.Common.{◌≡◌, ◌<◌, ℕ, zero, suc, refl, Option, Some, None, IsSomeAnd}
use Rattle.pot_machine.specs.declared.relay.Relay.{Relay}
use Rattle.pot_machine.specs.Table.{Table, width, is_ahead, next_column, relay_at}
use Rattle.pot_machine.specs.Machine.{InRange, RelayStandsAt, with_losses}
use Rattle.pot_machine.proofs.Searches.{least_some}

pub data_columns-with_losses : (n : ℕ) (t : Table) (c : ℕ) → (with_losses n t c).data_columns ≡ t.data_columns
data_columns-with_losses zero t c = refl
data_columns-with_losses (suc n) t c = data_columns-with_losses n t c

pub width-with_losses : (n : ℕ) (t : Table) (c : ℕ) → width (with_losses n t c) ≡ width t
width-with_losses zero t c = refl
width-with_losses (suc n) t c = width-with_losses n t c

pub stripes-with_losses : (n : ℕ) (t : Table) (c : ℕ) → (with_losses n t c).stripes ≡ t.stripes
stripes-with_losses zero t c = refl
stripes-with_losses (suc n) t c = stripes-with_losses n t c

-- the next column of a relay is a column
pub next_below : (t : Table) (c k : ℕ) (o : Option Relay) → IsSomeAnd o (λ r. (r.target ≡ c) × (next_column t r ≡ Some k)) → k < width t
next_below t c k None h = absurd h
next_below t c k (Some r) h = (least_some (width t) (is_ahead t r) k h.1).0

pub gave_up_range : (t : Table) (s c k : ℕ) → InRange t s c × RelayStandsAt t s c (Some k) → InRange t s k
gave_up_range t s c k h = (h.0.0, next_below t c k (relay_at t s) h.1)
