-- What a search among shares finds.
use Rattle.std.specs.Prelude.{◌≡◌, ◌≤◌, ◌<◌, ℕ, List, Option, Some, None, length, nat_eq}
use Rattle.std.specs.Prelude.{slice_get, MatchOption}
use Rattle.std.specs.List.{flat_map, Contains, IsDistinct}
use Rattle.pot_desk_shares.specs.Joins.{points_of, AreEnoughShares, IsShareHeld, IsShareWhole}
use Rattle.pot_desk_shares.specs.declared.share.DeskShare.{DeskShare}
use Rattle.pot_desk_shares.specs.declared.share.ShareHead.{ShareHead}

-- a share of the set of this head is there at this point
abbrev pub IsThere : List DeskShare → ShareHead → ℕ → Type 0
IsThere shares h x = (s : DeskShare) × IsShareHeld shares h s × (s.head.point ≡ x)

-- and this one stands at this place
abbrev pub IsShareAt : List DeskShare → ShareHead → ℕ → ℕ → Type 0
IsShareAt shares h x at =
    (s : DeskShare) × (slice_get shares at ≡ Some s) × IsShareHeld shares h s × (s.head.point ≡ x)

-- a share of this head stands at this place
pub record HasHead (shares : List DeskShare) (h : ShareHead) (at : ℕ) (s : DeskShare) : Type 0 where
  pub there : slice_get shares at ≡ Some s
  pub whole : IsShareWhole s
  pub head : s.head ≡ h

-- enough shares of the set of this head are there
abbrev pub IsComplete : List DeskShare → ShareHead → Type 0
IsComplete shares h = (chosen : List DeskShare) × AreEnoughShares shares h chosen

-- a share of which that is so
abbrev pub IsOfComplete : List DeskShare → DeskShare → Type 0
IsOfComplete shares s = IsShareWhole s × IsComplete shares s.head

-- newer than the best so far
abbrev pub IsNewer : ShareHead → Option ShareHead → Type 0
IsNewer h (Some best) = best.generation < h.generation
IsNewer h None = Unit {0}

-- the head of a newest one of the first shares that have P
abbrev pub IsLatest : List DeskShare → (DeskShare → Type 0) → ℕ → Option ShareHead → Type 0
IsLatest shares P n best = MatchOption best
    ((k : ℕ) (s : DeskShare) → k < n → slice_get shares k ≡ Some s → ¬ P s)
    (λ h. ((s : DeskShare) × Contains shares s × P s × (s.head ≡ h))
    × ((k : ℕ) (s : DeskShare) → k < n → slice_get shares k ≡ Some s → P s
    → s.head.generation ≤ h.generation))

-- the points below one at which a share of the set is there: all of them, or as many as are needed
pub record AreFound (shares : List DeskShare) (h : ShareHead) (end : ℕ) (points : List ℕ) : Type
    0 where
  pub distinct : IsDistinct nat_eq points
  pub below : (x : ℕ) → Contains points x → x < end
  pub each : (x : ℕ) → Contains points x → IsThere shares h x
  pub few : length points ≤ h.need
  pub all : length points < h.need → (x : ℕ) → 1 ≤ x → x < end → IsThere shares h x
      → Contains points x

-- these shares of the set stand at these points, and their values row by row are these
pub record AreRows (shares : List DeskShare) (h : ShareHead) (chosen : List DeskShare)
    (points values : List ℕ) : Type 0 where
  pub stand : points_of chosen ≡ points
  pub rows : flat_map (λ s. s.body.now) chosen ≡ values
  pub each : (s : DeskShare) → Contains chosen s → IsShareHeld shares h s
