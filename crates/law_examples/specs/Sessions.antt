-- Two sessions of two groups with two data columns and one parity column, seen by who has column 1
-- of group 0.
use Rattle.std.specs.Prelude.{◌≡◌, ◌&&◌, ℕ, nat_eq, Bool, Some, List, [], ◌∷◌}
use Rattle.pot_bytes.specs.declared.rack.Rack.{Rack}
use Rattle.pot_bytes.specs.Lists.{IsBlock}
use Rattle.pot_bytes.specs.Sums.{xor}
use Rattle.pot_bytes.specs.Weighted.{scaled}
use Rattle.pot_world.specs.Acts.{Look, Mend, PutNext}
use Rattle.pot_world.specs.Audit.{group_in}
use Rattle.pot_world.specs.Later.{Sessions}
use Rattle.pot_world.specs.Reached.{Loses, Makes, Move, Reaches, Site, first_site}

abbrev pub rack : Rack
rack =
    record {
      groups = 2;
      columns = 2;
      parity = 1;
      stripes = 2;
      geometry = record { fragments = 2; need = 1; shards = 1; blur = 0 };
    }

-- column 1 of group 0, which archive 1 serves
abbrev pub has : ℕ → ℕ → Bool
has n c = nat_eq n 0 && nat_eq c 1

-- Job 1 puts x into column 0 of group 0 and b into column 1, and a block into group 1. Then archive
-- 2 loses the parity block.
abbrev pub stores : List ℕ → List ℕ → List Move
stores x b =
    Makes 0 (PutNext 1 x) ∷ Makes 0 (PutNext 1 b) ∷ Makes 1 (PutNext 1 x) ∷ Loses 2 0 ∷ []

-- In the next session job 2 looks at the parity block, and a relay with this blind goes over column
-- 0 and column 1.
abbrev pub mends : List ℕ → List ℕ → List ℕ → List Move
mends blind r s =
    Makes 0 (Look 2 0 2) ∷ Makes 0 (Mend 2 0 2 blind) ∷ Makes 0 (Mend 2 0 2 r)
    ∷ Makes 0 (Mend 2 0 2 s) ∷ []

-- Archive 1 holds b, and has heard one sum: the blind and the block of column 0.
pub record SeesBlind (x b blind : List ℕ) (w : Site) : Type 0 where
  pub held : (group_in w 0).state.held 1 0 ≡ Some b
  pub heard : (group_in w 0).state.heard 1 ≡ (0, xor blind (scaled 1 x)) ∷ []

-- Whatever the blocks x, y and b, and whatever the blind: archive 1 sees of a store of y, under
-- some other blind, what it sees of a store of x under this one.
abbrev pub ColumnSeesTheSame : Type 0
ColumnSeesTheSame =
    (x y b blind : List ℕ) → IsBlock x → IsBlock y → IsBlock b → IsBlock blind
    → (other r s : List ℕ) × (w : Site)
    × Sessions (first_site rack) (stores y b ∷ mends other r s ∷ []) w × SeesBlind x b blind w

-- A PARITY COLUMN

-- the parity column of group 0
abbrev pub has_parity : ℕ → ℕ → Bool
has_parity n c = nat_eq n 0 && nat_eq c 2

abbrev pub two_stores : List ℕ → List ℕ → List Move
two_stores x y = Makes 0 (PutNext 1 x) ∷ Makes 1 (PutNext 1 y) ∷ Loses 1 0 ∷ []

-- Who has the parity column sees all of that group, and nothing of the other group: whatever block
-- comes there, archive 0 holds x.
abbrev pub ParitySeesTheSame : Type 0
ParitySeesTheSame =
    (x y z : List ℕ) → IsBlock x → IsBlock y → IsBlock z
    → (w : Site) × Reaches (first_site rack) (two_stores x y) w
    × ((group_in w 0).state.held 0 0 ≡ Some x)

-- A BLOCK THAT STAYS

abbrev pub uses : List ℕ → List ℕ → List Move
uses b blind =
    Makes 0 (PutNext 1 b) ∷ Loses 0 0 ∷ Makes 0 (Look 2 0 0) ∷ Makes 0 (Mend 2 0 0 blind) ∷ []

-- A block that was put stays the one written there through a put, its loss, a look and a mend.
abbrev pub BlockRemains : Type 0
BlockRemains =
    (x b blind : List ℕ) → IsBlock x → IsBlock b → IsBlock blind
    → (w : Site) × Reaches (first_site rack) (Makes 0 (PutNext 1 x) ∷ uses b blind) w
    × ((group_in w 0).written 0 0 ≡ x)
