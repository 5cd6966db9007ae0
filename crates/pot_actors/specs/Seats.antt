-- The actors as a program has them: a list, each with its number. Who is not in it has nothing
-- under way and found nothing.
use Rattle.std.specs.Prelude.{◌≡◌, ℕ, suc, zero, ◌==◌, false, List, [], ◌∷◌, Option, Some}
use Rattle.std.specs.Prelude.{None, IsSomeAnd, if◌then◌else◌, option_map}
use Rattle.pot_index.specs.declared.record.Record.{Record}
use Rattle.pot_world.specs.World.{Actor, Gathered, HasGathered}
use Rattle.pot_world.specs.Worlds.{GatheredGive}
use Rattle.pot_actors.specs.declared.split.OpenSplit.{OpenSplit}
use Rattle.pot_actors.specs.Splits.{under_way_of}

pub record SeatData : Type 0 where
  pub number : ℕ
  pub split : Option OpenSplit
  pub found : Option Record
  pub gathered : List Gathered
  pub file : Option (List ℕ)

abbrev pub actor_of : SeatData → Actor
actor_of s =
    record { under_way = option_map under_way_of s.split; found = s.found; gathered = s.gathered }

abbrev pub no_actor : Actor
no_actor = record { under_way = None; found = None; gathered = [] }

-- the actor of a number
unfoldable pub actor_at : List SeatData → ℕ → Actor
actor_at [] n = no_actor
actor_at (s ∷ ss) n = if n == s.number then actor_of s else actor_at ss n

-- the first seat of this number stands here
unfoldable pub SitsAt : List SeatData → ℕ → ℕ → Type 0
SitsAt [] a at = ⊥
SitsAt (s ∷ ss) a zero = s.number ≡ a
SitsAt (s ∷ ss) a (suc at) = ((a == s.number) ≡ false) × SitsAt ss a at

-- m blocks of each fragment of the record that was found were gathered
abbrev pub HasAll : Option Record → List Gathered → Type 0
HasAll found gathered = IsSomeAnd found (λ r. HasGathered r gathered)

-- what they give
abbrev pub HasFile : Option Record → List Gathered → List ℕ → Type 0
HasFile found gathered file = IsSomeAnd found (λ r. HasGathered r gathered × GatheredGive r gathered file)

-- a file that they give is at hand exactly where they are enough
abbrev pub IsTold : Option Record → List Gathered → Option (List ℕ) → Type 0
IsTold found gathered None = ¬ HasAll found gathered
IsTold found gathered (Some file) = HasFile found gathered file
