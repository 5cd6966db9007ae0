-- The pointers of a ring by place.
use Rattle.std.proofs.Common.{◌≡◌, ◌<◌, ◌+◌, ◌-◌, ◌++◌, ℕ, List, length, take, drop, get_or, ap, ◌∙◌, arith, length-append, length-drop}
use Rattle.std.proofs.lemmas.List.{get_or_append_left, get_or-append_right, get_or-drop, get_or-map, get_or-take, length-map, length-take}
use Rattle.pot_pointer.specs.Pointers.{blur}
use Rattle.pot_shard.specs.Rings.{ring}

pub length-ring : (names : List ℕ) (bits : ℕ) → length (ring names bits) ≡ length names
length-ring names bits =
    let turned = drop 1 names ++ take 1 names in
    length-map turned (λ name. blur name bits)
    ∙ (let e : length turned ≡ length names =
    omega (arith, length-append {A = ℕ} (drop 1 names) (take 1 names), length-drop {A = ℕ} 1 names, length-take {A = ℕ} 1 names) in e)

-- each but the last points to the next
pub ring_next : (names : List ℕ) (bits k : ℕ) → k + 1 < length names → get_or (ring names bits) k 0 ≡ blur (get_or names (k + 1) 0) bits
ring_next names bits k inside =
    let front = drop 1 names in
    let turned = front ++ take 1 names in
    let f : ℕ → ℕ = λ name. blur name bits in
    let same : 1 + k ≡ k + 1 = omega arith in
    let here : get_or turned k 0 ≡ get_or names (k + 1) 0 =
    get_or_append_left front (take 1 names) 0 k (omega (arith, length-drop {A = ℕ} 1 names))
    ∙ get_or-drop 1 names k 0 ∙ ap (λ (z : ℕ). get_or names z 0) same in
    get_or-map f turned k 0 0 (omega (arith, length-append {A = ℕ} front (take 1 names), length-drop {A = ℕ} 1 names)) ∙ ap f here

-- the last points to the first
pub ring_last : (names : List ℕ) (bits k : ℕ) → k + 1 ≡ length names → get_or (ring names bits) k 0 ≡ blur (get_or names 0 0) bits
ring_last names bits k last =
    let front = drop 1 names in
    let turned = front ++ take 1 names in
    let f : ℕ → ℕ = λ name. blur name bits in
    let long : length front ≡ k = omega (arith, length-drop {A = ℕ} 1 names) in
    let none : k - k ≡ 0 = omega arith in
    let here : get_or turned k 0 ≡ get_or names 0 0 =
    get_or-append_right front (take 1 names) k k 0 long (omega arith)
    ∙ ap (λ (z : ℕ). get_or (take 1 names) z 0) none ∙ get_or-take 1 names 0 0 (omega arith) in
    get_or-map f turned k 0 0 (omega (arith, length-append {A = ℕ} front (take 1 names), length-take {A = ℕ} 1 names)) ∙ ap f here
