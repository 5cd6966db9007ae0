-- Whether a stripe of which few slots gave no block has a filling, and which slots break where it
-- has none.
use Rattle.std.specs.Prelude.{◌≡◌, ◌≢◌, ◌⊎◌, ◌+◌, ℕ, nat_eq, nat_le, Bool, false, ◌||◌, List}
use Rattle.std.specs.Prelude.{Option, Some, None, if◌then◌else◌}
use Rattle.pot_bytes.specs.declared.digest.Digest.{Digest}
use Rattle.pot_bytes.specs.Sums.{xor, zero_block}
use Rattle.pot_bytes.specs.Weighted.{scaled}
use Rattle.pot_steps.specs.Flight.{p_times, q_times}
use Rattle.pot_bytes.specs.Digests.{digest_of}
use Rattle.pot_shelves.specs.declared.opening.Shortage.{Shortage}
use Rattle.pot_shelves.specs.declared.opening.Shortage.TheVariants as short
use Rattle.pot_shelves.specs.declared.filling.Breaking.{Breaking}
use Rattle.pot_shelves.specs.declared.filling.Breaking.TheVariants as breaking
use Rattle.pot_shelves.specs.declared.filling.Side.{Side}
use Rattle.pot_shelves.specs.declared.filling.Trial.{Trial}

abbrev pub IsApart : Shortage → Type 0
IsApart short.Nothing = Unit {0}
IsApart (short.One c d) = Unit {0}
IsApart (short.Two c d k e) = k ≢ c
IsApart short.More = Unit {0}

-- Q, or P where the column is Q
abbrev pub partner : ℕ → ℕ → ℕ
partner data_columns c = if nat_le c data_columns then data_columns + 1 else data_columns

abbrev pub parity_slots : ℕ → ℕ → Breaking
parity_slots data_columns parity =
    if nat_eq parity 1 then breaking.One data_columns else breaking.Both data_columns
    (data_columns + 1)

abbrev pub side : ℕ → Option Digest → Side
side c wanted = record { column = c; digest = wanted }

-- the two columns that decide, and what breaks
abbrev pub trial_of : ℕ → ℕ → Shortage → Option Trial
trial_of data_columns parity short.Nothing =
    Some
    (record {
      first = side data_columns None;
      second = side (data_columns + 1) None;
      broken = parity_slots data_columns parity;
    })
trial_of data_columns parity (short.One c d) =
    Some
    (record {
      first = side c (Some d);
      second = side (partner data_columns c) None;
      broken = breaking.One c;
    })
trial_of data_columns parity (short.Two c d k e) =
    if nat_eq parity 1 then None else Some
    (record { first = side c (Some d); second = side k (Some e); broken = breaking.Both c k })
trial_of data_columns parity short.More = None

-- the sum of both equations in which column `c` has weight 1 and column `out` has weight 0, from
-- the sum of each
abbrev pub residue : ℕ → ℕ → ℕ → ℕ → List ℕ → List ℕ → List ℕ
residue data_columns parity c out p q =
    if nat_eq parity 1 then p else xor (xor zero_block (scaled (p_times data_columns c out) p))
    (scaled (q_times data_columns c out) q)

-- it is of the digest that is wanted, or zeros where none is
abbrev pub Suits : Option Digest → List ℕ → Type 0
Suits None block = block ≡ zero_block
Suits (Some d) block = digest_of block ≡ d

-- with two parity columns both columns decide, else the first alone
abbrev pub AddsUp : ℕ → ℕ → Trial → List ℕ → List ℕ → Type 0
AddsUp data_columns parity t p q =
    Suits t.first.digest (residue data_columns parity t.first.column t.second.column p q)
    × (parity ≢ 1
    → Suits t.second.digest (residue data_columns parity t.second.column t.first.column p q))

abbrev pub Decides : ℕ → ℕ → Option Trial → List ℕ → List ℕ → Breaking → Type 0
Decides data_columns parity None p q broken = broken ≡ breaking.Nothing
Decides data_columns parity (Some t) p q broken =
    (AddsUp data_columns parity t p q × (broken ≡ breaking.Nothing))
    ⊎ ((AddsUp data_columns parity t p q → ⊥) × (broken ≡ t.broken))

-- the slots that break in a stripe of this shortage and these sums
abbrev pub IsBroken : ℕ → ℕ → Shortage → List ℕ → List ℕ → Breaking → Type 0
IsBroken data_columns parity shortage p q broken =
    Decides data_columns parity (trial_of data_columns parity shortage) p q broken

-- the test of the slots that break
abbrev pub breaks_at : Breaking → ℕ → Bool
breaks_at breaking.Nothing c = false
breaks_at (breaking.One u) c = nat_eq c u
breaks_at (breaking.Both u k) c = nat_eq c u || nat_eq c k
