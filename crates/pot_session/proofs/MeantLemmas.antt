-- What archives mean that are taken from a room, and given back.
use Rattle.std.proofs.Common.{◌≡◌, ◌≢◌, ◌<◌, ◌⊎◌, inl, inr, ℕ, zero, suc, true, false, List, [], ◌∷◌, ◌++◌, length, refl, sym, ap, subst, ◌∙◌, arith}
use Rattle.std.specs.Prelude.{Contains, Result, Ok, Err, IsErr, OnOk, slice_index_or}
use Rattle.std.specs.List.{remove}
use Rattle.std.proofs.lemmas.List.Elements.{Contains-append_cases}
use Rattle.pot_outside.specs.Archives.{Meaning, IsMeant}
use Rattle.pot_outside.specs.Rooms.{RoomState, StaysAt}
use Rattle.pot_outside.specs.declared.archive.Shelf.{Shelf}
use Rattle.pot_shared.specs.Hands.{AreMeant}

-- LISTS

pub remove_contains : {X : Type 0} (xs : List X) (p : ℕ) (x y : X) → p < length xs → x ≡ slice_index_or xs p x → Contains xs y → (y ≡ x) ⊎ Contains (remove xs p) y
remove_contains [] p x y l e c = absurd (omega (arith, l))
remove_contains (z ∷ zs) zero x y l e (zero, m, q) = inl (sym q ∙ sym e)
remove_contains (z ∷ zs) zero x y l e (suc k, m, q) = inr (k, omega (arith, m), q)
remove_contains (z ∷ zs) (suc p) x y l e (zero, m, q) = inr (0, omega arith, q)
remove_contains (z ∷ zs) (suc p) x y l e (suc k, m, q) = elim (remove_contains zs p x y (omega (arith, l)) e (k, omega (arith, m), q)) [
  | inl h ↦ inl h
  | inr h ↦ inr (suc h.0, (let b = h.1 in omega (arith, b)), h.2)
]

only_contained : {X : Type 0} (x y : X) → Contains (x ∷ []) y → y ≡ x
only_contained x y (zero, m, q) = sym q
only_contained x y (suc k, m, q) = absurd (omega (arith, m))

-- GIVEN BACK

pub got_ok : {E : Type 0} (r : Result (Unit {0}) E) (P : Type 0) → OnOk r P → (IsErr r → ⊥) → P
got_ok (Ok u) P p none = p
got_ok (Err e) P p none = absurd (none refl)

module _ {A : Type 0} (meaning : A → Meaning) where
  -- an archive of the hand is there still; or it was given back, and the room means it
  abbrev pub HeldOrGiven : Type 0 → RoomState → List (Shelf A) → Shelf A → Type 0
  HeldOrGiven told room hand s = Contains hand s ⊎ ((room.out s.number ≡ false) × (told → IsMeant (room.means s.number) (meaning s.archive)))

  pub given_more : (told now : Type 0) (room new : RoomState) (hand : List (Shelf A)) (p : ℕ) (x s : Shelf A) → p < length hand → x ≡ slice_index_or hand p x
      → room.out x.number ≡ true → new.out x.number ≡ false → (now → told) → (s ≡ x → now → IsMeant (new.means x.number) (meaning x.archive))
      → ((n : ℕ) → n ≢ x.number → StaysAt room new n) → HeldOrGiven told room hand s → HeldOrGiven now new (remove hand p) s
  given_more told now room new hand p x s l e was back then its others (inl c) = elim (remove_contains hand p x s l e c) [
    | inl h ↦ inr (subst (λ (y : Shelf A). new.out y.number ≡ false) (sym h) back, λ t. subst (λ (y : Shelf A). IsMeant (new.means y.number) (meaning y.archive)) (sym h) (its h t))
    | inr h ↦ inl h
  ]
  given_more told now room new hand p x s l e was back then its others (inr g) =
      (let ne : s.number ≢ x.number = λ same. (let f : false ≡ true = sym g.0 ∙ (ap room.out same ∙ was) in cc) in
      let o = others s.number ne in
      inr (o.1 ∙ g.0, λ t. subst (λ m. IsMeant m (meaning s.archive)) (sym o.0) (g.1 (then t))))

  -- TAKEN

  pub meant_more : (means : ℕ → Meaning) (hand : List (Shelf A)) (x : Shelf A) → AreMeant meaning means hand → IsMeant (means x.number) (meaning x.archive) → AreMeant meaning means (hand ++ x ∷ [])
  meant_more means hand x sofar its s c = elim (Contains-append_cases hand (x ∷ []) s c) [
    | inl h ↦ sofar s h
    | inr h ↦ subst (λ (y : Shelf A). IsMeant (means y.number) (meaning y.archive)) (sym (only_contained x s h)) its
  ]
