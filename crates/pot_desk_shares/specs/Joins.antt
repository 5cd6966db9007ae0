-- What some shares are joined to.
use Rattle.std.specs.Prelude.{◌≡◌, ◌≤◌, ◌<◌, ◌+◌, ◌⊎◌, ℕ, List, Ok, Err, Result, length, map, nat_eq}
use Rattle.std.specs.List.{flat_map, Contains, IsDistinct}
use Rattle.pot_split.specs.Threshold.{IsJoin}
use Rattle.pot_desk_shares.specs.Making.{head_of, values_at, IsShareSet}
use Rattle.pot_desk_shares.specs.Shares.{with_digest, IsShareHead}
use Rattle.pot_desk_shares.specs.declared.joining.JoinFault.{JoinFault}
use Rattle.pot_desk_shares.specs.declared.joining.JoinFault.TheVariants.{Damaged, Few, NoMemory}
use Rattle.pot_desk_shares.specs.declared.joining.JoinFault.TheVariants.{NoShare}
use Rattle.pot_desk_shares.specs.declared.joining.Joined.{Joined}
use Rattle.pot_desk_shares.specs.declared.making.Terms.{Terms}
use Rattle.pot_desk_shares.specs.declared.share.DeskShare.{DeskShare}
use Rattle.pot_desk_shares.specs.declared.share.ShareHead.{ShareHead}

-- the head of the share of the same set at another point
abbrev pub at_point : ShareHead → ℕ → ShareHead
at_point h x = record {
  need = h.need;
  count = h.count;
  point = x;
  generation = h.generation;
  set = h.set;
  length = h.length;
}

-- a share whose head is one, with 32 values more than bytes of the text
pub record IsShareWhole (s : DeskShare) : Type 0 where
  pub head : IsShareHead s.head
  pub long : length s.body.now ≡ s.head.length + 32

-- the share stands among these, and belongs to the set of this head
pub record IsShareHeld (shares : List DeskShare) (h : ShareHead) (s : DeskShare) : Type 0 where
  pub there : Contains shares s
  pub whole : IsShareWhole s
  pub set : s.head ≡ at_point h s.head.point

abbrev pub point_of : DeskShare → ℕ
point_of s = s.head.point

abbrev pub points_of : List DeskShare → List ℕ
points_of chosen = map point_of chosen

-- shares of one set at distinct points
pub record AreAtDistinctPoints (shares : List DeskShare) (h : ShareHead) (chosen : List DeskShare) : Type
    0 where
  pub distinct : IsDistinct nat_eq (points_of chosen)
  pub each : (s : DeskShare) → Contains chosen s → IsShareHeld shares h s

-- as many of them as are needed
pub record AreEnoughShares (shares : List DeskShare) (h : ShareHead) (chosen : List DeskShare) : Type
    0 where
  pub some : 1 ≤ h.need
  pub enough : length chosen ≡ h.need
  pub apart : AreAtDistinctPoints shares h chosen

-- no set is newer of which enough shares are there
abbrev pub IsNewest : List DeskShare → ShareHead → Type 0
IsNewest shares h =
    (g : ShareHead) (chosen : List DeskShare) → AreEnoughShares shares g chosen
    → g.generation ≤ h.generation

-- what these shares are joined to
pub record AreValuesJoined (h : ShareHead) (chosen : List DeskShare) (joined : List ℕ) : Type 0 where
  pub wide : length joined ≡ h.length + 32
  pub join : IsJoin (points_of chosen) (flat_map (λ s. s.body.now) chosen) joined

-- enough shares of the newest set, and what they are joined to
pub record AreSharesJoined (shares : List DeskShare) (h : ShareHead) (chosen : List DeskShare)
    (joined : List ℕ) : Type 0 where
  pub enough : AreEnoughShares shares h chosen
  pub newest : IsNewest shares h
  pub join : AreValuesJoined h chosen joined

-- the text whose digest stands behind it where they are joined
abbrev pub IsTextGiven : List DeskShare → Joined → Type 0
IsTextGiven shares j =
    (chosen : List DeskShare) × AreSharesJoined shares j.head chosen (with_digest j.text.items)

-- Why no text is given. No share is there; of no set are enough there, and of the newest that is
-- there so many points are; or enough shares of the newest complete set are joined to what is no
-- text with its digest.
abbrev pub IsJoinFault : List DeskShare → JoinFault → Type 0
IsJoinFault shares NoShare = (s : DeskShare) → Contains shares s → ¬ IsShareWhole s
IsJoinFault shares (Few h have) =
    ((g : ShareHead) (chosen : List DeskShare) → ¬ AreEnoughShares shares g chosen)
    × ((s : DeskShare) → Contains shares s → IsShareWhole s → s.head.generation ≤ h.generation)
    × (have < h.need)
    × ((chosen : List DeskShare) × AreAtDistinctPoints shares h chosen × (length chosen ≡ have))
    × ((chosen : List DeskShare) → AreAtDistinctPoints shares h chosen → length chosen ≤ have)
IsJoinFault shares (Damaged h) =
    (chosen : List DeskShare) × (joined : List ℕ) × AreSharesJoined shares h chosen joined
    × ((text : List ℕ) → ¬ (joined ≡ with_digest text))
IsJoinFault shares NoMemory = Unit {0}

-- Enough shares of a text's set are there. All that are there of its set are its own, and of no
-- other set that is as new or newer are enough there.
pub record SetStandsIn (shares : List DeskShare) (t : Terms) (text random : List ℕ) : Type 0 where
  pub set : IsShareSet t text random
  pub enough : (chosen : List DeskShare) × AreEnoughShares shares (head_of t text random 0) chosen
  pub own : (s : DeskShare) → IsShareHeld shares (head_of t text random 0) s
      → s.body.now ≡ values_at text random s.head.point
  pub newest : (g : ShareHead) (chosen : List DeskShare) → AreEnoughShares shares g chosen
      → (g.generation < t.generation) ⊎ (at_point g 0 ≡ head_of t text random 0)

-- the text is given, or memory was not found
abbrev pub GivesTextBack : List ℕ → Result Joined JoinFault → Type 0
GivesTextBack text (Ok j) = j.text.items ≡ text
GivesTextBack text (Err e) = e ≡ NoMemory
