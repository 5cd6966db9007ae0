-- The places of a record that fits the rack.
use Rattle.std.proofs.Common.{◌≡◌, ◌≢◌, ◌<◌, ◌≤◌, ◌⊎◌, ⊎_elim, ℕ, zero, suc, ◌+◌, ◌-◌, ◌*◌, ◌/◌, ◌%◌, List, [], ◌∷◌, length, refl, ap, sym, ◌∙◌, subst, arith, length-append}
use Rattle.std.specs.Prelude.{Some, All, slice_get}
use Rattle.std.proofs.lemmas.Nat.{mul-add-lt, mod-mul-add, div-mul-add, div-add-mod'}
use Rattle.std.proofs.lemmas.Grind.{div_ceil_times}
use Rattle.pot_bytes.specs.declared.rack.Place.{Place}
use Rattle.pot_bytes.specs.declared.rack.Rack.{Rack}
use Rattle.pot_object.specs.Pieces.{longest, pieces_of}
use Rattle.pot_index.specs.declared.record.Record.{Record}
use Rattle.pot_index.specs.Fits.{FitsRack, FitsSplit, FitsPlace}
use Rattle.pot_index.specs.Records.{current_of, splits_of}
use Rattle.pot_rows.proofs.Lists.{get_or_last}
use Rattle.pot_turn.specs.declared.name.TurnName.{TurnName}
use Rattle.pot_shared.specs.Ready.{HasSlot}
use Rattle.pot_store.specs.Visits.{place_in}
use Rattle.pot_store.specs.Reads.{IsFragmentFrom}
use Rattle.pot_store.proofs.LookLemmas.{Apart}

-- an element by its place
pub there_is : (places : List Place) (b : ℕ) → b < length places → slice_get places b ≡ Some (place_in places b)
there_is [] b lt = absurd (omega (arith, lt))
there_is (p ∷ places) zero lt = refl
there_is (p ∷ places) (suc b) lt = there_is places b (omega (arith, lt))

-- two numbers less than n apart are not the same modulo n
differ : (a d n : ℕ) → 0 < d → d < n → (a % n ≡ (a + d) % n) → ⊥
differ a d n more less same =
    let one : a / n * n + a % n ≡ a = div-add-mod' a n in
    let two : (a + d) / n * n + (a + d) % n ≡ a + d = div-add-mod' (a + d) n in
    ⊎_elim
    (λ (le : (a + d) / n ≤ a / n).
    let e : a / n ≡ (a + d) / n + (a / n - (a + d) / n) = omega (arith, le) in
    let m : a / n * n ≡ (a + d) / n * n + (a / n - (a + d) / n) * n = (let p : a / n * n ≡ ((a + d) / n + (a / n - (a + d) / n)) * n = ap (λ x. x * n) e in omega (arith, p)) in
    omega (arith, one, two, m, same, more))
    (λ (lt : a / n < (a + d) / n).
    let e : (a + d) / n ≡ (a / n + 1) + ((a + d) / n - (a / n + 1)) = omega (arith, lt) in
    let m : (a + d) / n * n ≡ (a / n * n + n) + ((a + d) / n - (a / n + 1)) * n = (let p : (a + d) / n * n ≡ ((a / n + 1) + ((a + d) / n - (a / n + 1))) * n = ap (λ x. x * n) e in omega (arith, p)) in
    omega (arith, one, two, m, same, less))
    (le_or ((a + d) / n) (a / n))
  where
    le_or : (x y : ℕ) → (x ≤ y) ⊎ (y < x)
    le_or x y = grind arith

-- n blocks from one on stand in groups of their own
abbrev pub GroupsDiffer : List Place → ℕ → ℕ → Type 0
GroupsDiffer places from n = (x y : ℕ) → x < y → y < n → (place_in places (from + y)).group ≢ (place_in places (from + x)).group

module _ (rack : Rack) (kept : Record) (fits : FitsRack rack kept) where
  pub current_fits : FitsSplit rack (pieces_of kept.length) (current_of kept)
  current_fits =
      let all : All (FitsSplit rack (pieces_of kept.length)) (splits_of kept) = fits.splits in
      let lt : length kept.older < length (splits_of kept) = (let l = length-append kept.older (current_of kept ∷ []) in omega (arith, l)) in
      subst (FitsSplit rack (pieces_of kept.length)) (get_or_last kept.older (current_of kept) (current_of kept)) (all (length kept.older) (current_of kept) lt)

  abbrev k : ℕ
  k = kept.geometry.fragments

  abbrev n : ℕ
  n = kept.geometry.shards

  pub many_places : length kept.places ≡ pieces_of kept.length * k * n
  many_places = current_fits.count

  -- fragment j of piece i is among the fragments, and its points are among the blocks
  pub fragment_within : (i j : ℕ) → i < pieces_of kept.length → j < k → i * k + j < pieces_of kept.length * k
  fragment_within i j a b = (let h : i * k + j < k * pieces_of kept.length = mul-add-lt i k j (pieces_of kept.length) a b in omega (arith, h))

  pub point_within : (f x : ℕ) → f < pieces_of kept.length * k → x < n → f * n + x < length kept.places
  point_within f x a b = (let h : f * n + x < n * (pieces_of kept.length * k) = mul-add-lt f n x (pieces_of kept.length * k) a b in let m = many_places in omega (arith, h, m))

  pub points_within : (f : ℕ) → f < pieces_of kept.length * k → f * n + n ≤ length kept.places
  points_within f a =
      let m = many_places in
      let e : pieces_of kept.length * k ≡ (f + 1) + (pieces_of kept.length * k - (f + 1)) = omega (arith, a) in
      let p : pieces_of kept.length * k * n ≡ ((f + 1) + (pieces_of kept.length * k - (f + 1))) * n = ap (λ x. x * n) e in
      omega (arith, m, p)

  pub fits_place : (b : ℕ) → b < length kept.places → FitsPlace rack kept.geometry b (place_in kept.places b)
  fits_place b lt = current_fits.places b (place_in kept.places b) (there_is kept.places b lt)

  -- a place of the record is a slot of the rack
  pub has_slot : (names : List TurnName) (b : ℕ) → length names ≡ rack.groups → b < length kept.places → HasSlot rack names (place_in kept.places b)
  has_slot names b many lt =
      let p = fits_place b lt in
      let group = p.group in
      let some : 0 < rack.groups = (let g = current_fits.geometry in let a = g.groups in let c = g.limits.need.0 in let d = g.limits.need.1 in omega (arith, a, c, d)) in
      let column = p.column in
      (omega (arith, group, many, some), p.stripe, omega (arith, column))

  -- no two blocks have one place
  pub apart : Apart kept.places (length kept.places)
  apart a b la lb same = current_fits.distinct a b (place_in kept.places b) (there_is kept.places a la ∙ ap (λ p. Some p) same) (there_is kept.places b lb)

  -- the points of a fragment stand in groups of their own
  pub groups_differ : (f x y : ℕ) → f < pieces_of kept.length * k → x < y → y < n → (place_in kept.places (f * n + y)).group ≢ (place_in kept.places (f * n + x)).group
  groups_differ f x y within less lt same =
      let px = (fits_place (f * n + x) (point_within f x within (omega (arith, less, lt)))).group in
      let py = (fits_place (f * n + y) (point_within f y within lt)).group in
      let some : 0 < n = omega (arith, lt) in
      let few : n ≤ rack.groups = current_fits.geometry.groups in
      let qx : (f * n + x) % n ≡ x = mod-mul-add f n x (omega (arith, less, lt)) in
      let qy : (f * n + y) % n ≡ y = mod-mul-add f n y lt in
      let dx : (f * n + x) / n ≡ f = div-mul-add f n x (omega (arith, less, lt)) in
      let dy : (f * n + y) / n ≡ f = div-mul-add f n y lt in
      let gx : (place_in kept.places (f * n + x)).group ≡ (f + x) % rack.groups = px ∙ (ap (λ q. (q + (f * n + x) % n) % rack.groups) dx ∙ ap (λ r. (f + r) % rack.groups) qx) in
      let gy : (place_in kept.places (f * n + y)).group ≡ (f + y) % rack.groups = py ∙ (ap (λ q. (q + (f * n + y) % n) % rack.groups) dy ∙ ap (λ r. (f + r) % rack.groups) qy) in
      let e : (f + x) + (y - x) ≡ f + y = omega (arith, less) in
      differ (f + x) (y - x) rack.groups (omega (arith, less)) (omega (arith, less, lt, few)) (sym gx ∙ (sym same ∙ (gy ∙ ap (λ m. m % rack.groups) (sym e))))

  -- the points from the first block of a fragment on
  pub fragment_apart : (from : ℕ) → IsFragmentFrom kept from → GroupsDiffer kept.places from n
  fragment_apart from (f, within, is) x y less lt = subst (λ m. (place_in kept.places (m + y)).group ≢ (place_in kept.places (m + x)).group) (sym is) (groups_differ f x y within less lt)

-- a file that is not too long has at most 1,024 pieces, which hold it
pub pieces_few : (n : ℕ) → n ≤ longest → pieces_of n ≤ 1024
pieces_few n fits = let t = div_ceil_times n 864 (omega arith) in let a = t.0 in let b = t.1 in omega (arith, fits, a, b)

pub pieces_hold : (n : ℕ) → n ≤ pieces_of n * 864
pieces_hold n = let t = div_ceil_times n 864 (omega arith) in let a = t.0 in let b = t.1 in omega (arith, a, b)
