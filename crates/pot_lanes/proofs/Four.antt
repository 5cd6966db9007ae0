-- Vectors of four lanes, lane by lane.
use Rattle.std.proofs.Common.{◌≡◌, ℕ, zero, suc, ◌<◌, ◌^◌, List, [], ◌∷◌, length, slice_index, slice_set, get_or, arith, refl, ◌+◌, ◌∙◌, inl, inr}
use Rattle.std.proofs.lemmas.Bool.{cases_lt}
use Rattle.std.proofs.Math.ListN.{get_or-map}
use Rattle.std.proofs.lemmas.List.{map-set, get_or-set_same, get_or-set_other, length-map}
use Rattle.std.specs.Simd.Lanes.{Each1, zip2}
use mir.Syntax.{w32}
use mir.Val.{Fits}
use Rattle.pot_lanes.specs.Lanes.{by_lane, window}

-- a vector of four lanes
pub spread : (v : List ℕ) → length v ≡ 4 → v ≡ by_lane (slice_index v)
unfolding by_lane
spread [] h = absurd (omega arith)
spread (a ∷ []) h = absurd (omega arith)
spread (a ∷ b ∷ []) h = absurd (omega arith)
spread (a ∷ b ∷ c ∷ []) h = absurd (omega arith)
spread (a ∷ b ∷ c ∷ d ∷ []) h = refl
spread (a ∷ b ∷ c ∷ d ∷ e ∷ v) h = absurd (omega arith)

-- an operation on two vectors
pub two : (f : ℕ → ℕ → ℕ) {v w : List ℕ} (x y : ℕ → ℕ) → v ≡ by_lane x → w ≡ by_lane y → zip2 f v w ≡ by_lane (λ l. f (x l) (y l))
unfolding by_lane
two f x y e d = rw (e, d) refl

-- a lane of a vector
pub at : (f : ℕ → ℕ) (l : ℕ) → l < 4 → slice_index (by_lane f) l ≡ f l
unfolding by_lane
at f zero h = refl
at f (suc zero) h = refl
at f (suc (suc zero)) h = refl
at f (suc (suc (suc zero))) h = refl
at f (suc (suc (suc (suc l)))) h = absurd (omega arith)

-- vectors that agree in each lane
pub same_lanes : (f g : ℕ → ℕ) → ((l : ℕ) → f l ≡ g l) → by_lane f ≡ by_lane g
unfolding by_lane
same_lanes f g h = rw (h 0, h 1, h 2, h 3) refl

pub at_is : (f : ℕ → ℕ) (v : List ℕ) → v ≡ by_lane f → (l : ℕ) → l < 4 → slice_index v l ≡ f l
at_is f v e l h = rw e (at f l h)

-- a word of a lane's window
pub in_window : (l : ℕ) (w : List (List ℕ)) (i : ℕ) → slice_index (window l w) i ≡ slice_index (get_or w i []) l
in_window l w i = get_or-map (λ v. slice_index v l) w i []

pub window_set : (l : ℕ) (w : List (List ℕ)) (i : ℕ) (v : List ℕ) → window l (slice_set w i v) ≡ slice_set (window l w) i (slice_index v l)
window_set l w i v = map-set (λ v. slice_index v l) w i v

-- one more word of a lane's window
pub loaded : (l : ℕ) (w : List (List ℕ)) (i : ℕ) (v : List ℕ) (f : ℕ → ℕ) → i < length w
    → ((k : ℕ) → k < i → slice_index (window l w) k ≡ f k) → slice_index v l ≡ f i
    → (k : ℕ) → k < i + 1 → slice_index (window l (slice_set w i v)) k ≡ f k
loaded l w i v f room below here k lt = rw (window_set l w i v) (elim (cases_lt k i) [
  | inl a ↦ get_or-set_other (window l w) i k (slice_index v l) 0 (omega arith) ∙ below k a
  | inr b ↦
      let e : i ≡ k = omega arith in
      rw (← e) (get_or-set_same (window l w) i (slice_index v l) 0 (omega (arith, length-map w (λ u. slice_index u l))) ∙ here)
])

-- each lane fits
pub lane_fits : (v : List ℕ) (l : ℕ) → Each1 (Fits w32) v → slice_index v l < 2 ^ 32
lane_fits [] l h = omega arith
lane_fits (x ∷ v) zero h = h.0.fits
lane_fits (x ∷ v) (suc l) h = lane_fits v l h.1
