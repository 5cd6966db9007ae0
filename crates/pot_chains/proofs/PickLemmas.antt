-- Picks of one from each of some lists.
use Rattle.std.proofs.Common.{◌≡◌, inl, inr, ℕ, zero, suc, ◌+◌, ◌*◌, ◌/◌, ◌%◌, ◌<◌, ◌≤◌, List, [], ◌∷◌, map, length, get_or, refl, sym, ap, ◌∙◌, subst, arith, length-append, zero-mul, mul_comm}
use Rattle.std.proofs.Math.Nat.{div-lt_iff_lt-mul, mul-le-mul_right}
use Rattle.std.proofs.lemmas.Nat.{mod-mul-add, div-mul-add}
use Rattle.std.specs.List.{flat_map}
use Rattle.std.proofs.lemmas.List.{length-map, get_or_default}
use Rattle.pot_chains.specs.Listed.{IsIn, IsOnce, IsListed}
use Rattle.pot_chains.specs.Paths.{AreAll}
use Rattle.pot_chains.specs.Picks.{IsPick, how_many, picks, pick_at, PickLaws}
use Rattle.pot_chains.proofs.ListedLemmas.{contains_from_in, in_get_or, listed_flat_map, listed_map, listed_same}

more : (m n : ℕ) → n + m * n ≡ suc m * n
more m n = grind arith

module _ {X : Type 0} where
  abbrev BeginsWith : List (List X) → X → List X → Type 0
  BeginsWith lists x y = (c : List X) × IsPick lists c × (x ∷ c ≡ y)

  pub picks_are : (lists : List (List X)) → AreAll IsOnce lists → IsListed (IsPick lists) (picks lists)
  picks_are [] once = record { each = λ c. (to c, from c); once = (λ h. h, tt) }
    where
      to : (c : List X) → IsIn ([] ∷ []) c → IsPick [] c
      to c (inl e) = subst (IsPick []) e tt
      to c (inr none) = absurd none

      from : (c : List X) → IsPick [] c → IsIn ([] ∷ []) c
      from [] h = inl refl
      from (x ∷ c) h = absurd h
  picks_are (xs ∷ lists) once =
      listed_same (λ y. (x : X) × IsIn xs x × BeginsWith lists x y) (IsPick (xs ∷ lists)) (picks (xs ∷ lists))
      (λ y. (to y, from y))
      (listed_flat_map (IsIn xs) (BeginsWith lists) (λ x. map (λ c. x ∷ c) (picks lists)) xs
      (record { each = λ x. (λ h. h, λ h. h); once = once.0 })
      (λ x h. listed_map (IsPick lists) (λ c. x ∷ c) (picks lists) (picks_are lists once.1) (λ a b e. cc))
      (λ a b y h k. first a b h.0 k.0 (h.2 ∙ sym k.2)))
    where
      first : (a b : X) (c d : List X) → a ∷ c ≡ b ∷ d → a ≡ b
      first a b c d e = cc

      to : (y : List X) → (x : X) × IsIn xs x × BeginsWith lists x y → IsPick (xs ∷ lists) y
      to y w = subst (IsPick (xs ∷ lists)) w.2.2 (w.1, w.2.1)

      from : (y : List X) → IsPick (xs ∷ lists) y → (x : X) × IsIn xs x × BeginsWith lists x y
      from [] h = absurd h
      from (x ∷ c) h = (x, h.0, (c, h.1, refl))

  pub length-picks : (lists : List (List X)) → length (picks lists) ≡ how_many lists
  length-picks [] = refl
  length-picks (xs ∷ lists) = each xs ∙ ap (λ n. length xs * n) (length-picks lists)
    where
      each : (ys : List X) → length (flat_map (λ x. map (λ c. x ∷ c) (picks lists)) ys) ≡ length ys * length (picks lists)
      each [] = omega arith
      each (y ∷ ys) =
          length-append (map (λ c. y ∷ c) (picks lists)) (flat_map (λ x. map (λ c. x ∷ c) (picks lists)) ys)
          ∙ ap (λ n. n + length (flat_map (λ x. map (λ c. x ∷ c) (picks lists)) ys)) (length-map (picks lists) (λ c. y ∷ c))
          ∙ ap (λ n. length (picks lists) + n) (each ys)
          ∙ more (length ys) (length (picks lists))

pub some_left : (n h t : ℕ) → t < n * h → 0 < n
some_left zero h t lt = absurd (omega (arith, lt, zero-mul h))
some_left (suc n) h t lt = omega arith

pub picked : {X : Type 0} (d : X) (lists : List (List X)) (t : ℕ) → t < how_many lists → IsPick lists (pick_at d lists t)
picked d [] t lt = tt
picked d (xs ∷ lists) t lt =
    let some = some_left (length xs) (how_many lists) t lt in
    let place : t % length xs < length xs = omega (arith, some) in (
      in_get_or (t % length xs) xs d place,
      picked d lists (t / length xs) ((div-lt_iff_lt-mul some).1 (let e = mul_comm (length xs) (how_many lists) in omega (arith, lt, e))),
    )

pub numbered : {X : Type 0} (d : X) (lists : List (List X)) (c : List X) → IsPick lists c → (t : ℕ) × (t < how_many lists) × (pick_at d lists t ≡ c)
numbered d [] [] h = (0, omega arith, refl)
numbered d [] (c ∷ cs) h = absurd h
numbered d (xs ∷ lists) [] h = absurd h
numbered d (xs ∷ lists) (c ∷ cs) h =
    let at = contains_from_in xs c h.0 in
    let rest = numbered d lists cs h.1 in
    let n = length xs in
    let t = rest.0 * n + at.0 in
    let room : suc rest.0 * n ≤ how_many lists * n = mul-le-mul_right n (let q = rest.1 in omega (arith, q)) in
    let e = mul_comm n (how_many lists) in
    let one = more rest.0 n in (
      t,
      omega (arith, room, e, one, at.1),
      ap (λ k. get_or xs k d ∷ pick_at d lists (t / n)) (mod-mul-add rest.0 n at.0 at.1)
          ∙ (ap (λ x. x ∷ pick_at d lists (t / n)) (get_or_default xs at.0 d c at.1 ∙ at.2)
          ∙ (ap (λ k. c ∷ pick_at d lists k) (div-mul-add rest.0 n at.0 at.1) ∙ ap (λ l. c ∷ l) rest.2)),
    )

pub pick_laws : PickLaws
pick_laws = record { listed = picks_are; counted = length-picks; picked = picked; numbered = numbered }
